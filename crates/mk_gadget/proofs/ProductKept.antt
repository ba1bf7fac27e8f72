-- The values of a product's instructions in two states, the tape being moved for the second: which of them
-- stay.
use Rattle.std.proofs.Common.{arith, ◌≡◌, ◌≢◌, ℕ, ◌<◌, bit_xor, true, inl, inr, sym, ◌∙◌, ap}
use Rattle.std.proofs.lemmas.Bool.{cases_order}
use Rattle.std.proofs.lemmas.Nat.Bits.{bit_at_xor, same_from_bits}
use Rattle.mk_field.specs.declared.field.FieldId.{FieldId}
use Rattle.mk_field.specs.Field.{product}
use Rattle.mk_field.proofs.Sum.{sum-self, sum-zero_left, sum-zero_right, sum-cancel_right}
use Rattle.mk_gadget.proofs.ShareSums.{share_sum}
use Rattle.mk_gadget.proofs.ProductRun.{ProductLabel, Cell, Cross, Half, Sum, cell_value, product_value, cell-later, cell-earlier}
use Rattle.mk_gadget.proofs.ProductRows.{IsProductLabel}
use Rattle.mk_gadget.proofs.Mended.{share_sum-congruent, share_sum-sums}
use Rattle.mk_gadget.proofs.Moves.{Plan, IsPlan, move, move-both, move-row, output-kept}

-- the shares of two states, and the random elements of the first tape and of the second
pub record Runs : Type 0 where
  pub x : ℕ → ℕ
  pub y : ℕ → ℕ
  pub x2 : ℕ → ℕ
  pub y2 : ℕ → ℕ
  pub z : ℕ → ℕ → ℕ
  pub z2 : ℕ → ℕ → ℕ

-- a plan's gaps are those of the products of the shares, and the second tape is moved by it
pub record AreMoved (field : FieldId) (p : Plan) (r : Runs) : Type 0 where
  pub plan : IsPlan p
  pub gap : (i j : ℕ) → p.gap i j ≡ bit_xor (product field (r.x i) (r.y j)) (product field (r.x2 i) (r.y2 j))
  pub tape : (i j : ℕ) → i < j → j < p.shares → r.z2 i j ≡ bit_xor (move p i j) (r.z i j)

-- the value of an instruction in the first state,
abbrev pub before : FieldId → Runs → ProductLabel → ℕ
before field r label = product_value field r.x r.y r.z label

-- and in the second
abbrev pub after : FieldId → Runs → ProductLabel → ℕ
after field r label = product_value field r.x2 r.y2 r.z2 label

-- the last sum of a pair moves by what is left of its products
sums-moved : (z k a b c d m : ℕ) → bit_xor m k ≡ bit_xor (bit_xor a c) (bit_xor b d)
    → bit_xor (bit_xor (bit_xor k z) d) c ≡ bit_xor m (bit_xor (bit_xor z b) a)
sums-moved z k a b c d m all =
    let whole : bit_xor (bit_xor (bit_xor k z) d) c ≡ bit_xor (bit_xor (bit_xor (bit_xor a c) (bit_xor b d)) k) (bit_xor (bit_xor z b) a) =
    same_from_bits _ _ (λ i. simp bit_at_xor (omega arith)) in
    whole
    ∙ ap (λ (s : ℕ). bit_xor (bit_xor s k) (bit_xor (bit_xor z b) a)) (sym all)
    ∙ ap (λ (s : ℕ). bit_xor s (bit_xor (bit_xor z b) a)) (sum-cancel_right m k)

-- a cell moves as planned
pub cell-moved : (field : FieldId) (p : Plan) (r : Runs) (i j : ℕ) → AreMoved field p r → i < p.shares → j < p.shares → i ≢ j
    → cell_value field r.x2 r.y2 r.z2 i j ≡ bit_xor (move p i j) (cell_value field r.x r.y r.z i j)
cell-moved field p r i j moved low high differ = elim (cases_order i j) [
  | inl same ↦ absurd (differ same)
  | inr (inl less) ↦
      cell-later field r.x2 r.y2 r.z2 i j less ∙ moved.tape i j less high ∙ ap (bit_xor (move p i j)) (sym (cell-later field r.x r.y r.z i j less))
  | inr (inr more) ↦
      let a : ℕ = product field (r.x i) (r.y j) in
      let b : ℕ = product field (r.x j) (r.y i) in
      let c : ℕ = product field (r.x2 i) (r.y2 j) in
      let d : ℕ = product field (r.x2 j) (r.y2 i) in
      let all : bit_xor (move p i j) (move p j i) ≡ bit_xor (bit_xor a c) (bit_xor b d) =
      move-both p i j moved.plan low high differ
      ∙ ap (λ (s : ℕ). bit_xor s (p.gap j i)) (moved.gap i j) ∙ ap (bit_xor (bit_xor a c)) (moved.gap j i) in
      cell-earlier field r.x2 r.y2 r.z2 i j more
      ∙ ap (λ (s : ℕ). bit_xor (bit_xor s d) c) (moved.tape j i more low)
      ∙ sums-moved (r.z j i) (move p j i) a b c d (move p i j) all
      ∙ ap (bit_xor (move p i j)) (sym (cell-earlier field r.x r.y r.z i j more))
]

-- in a row it stays
pub cell-kept : (field : FieldId) (p : Plan) (r : Runs) (i j : ℕ) → AreMoved field p r → i < p.shares → j < p.shares → i ≢ j → p.is_row i ≡ true
    → cell_value field r.x r.y r.z i j ≡ cell_value field r.x2 r.y2 r.z2 i j
cell-kept field p r i j moved low high differ row =
    let cell : ℕ = cell_value field r.x r.y r.z i j in
    sym (cell-moved field p r i j moved low high differ ∙ ap (λ (s : ℕ). bit_xor s cell) (move-row p i j moved.plan row) ∙ sum-zero_left cell)

-- products of equal shares are equal
pub product-kept : (field : FieldId) (r : Runs) (i j : ℕ) → r.x i ≡ r.x2 i → r.y j ≡ r.y2 j → product field (r.x i) (r.y j) ≡ product field (r.x2 i) (r.y2 j)
product-kept field r i j left right =
    ap (λ (a : ℕ). product field a (r.y j)) left ∙ ap (product field (r.x2 i)) right

-- and don't differ
pub gap-none : (field : FieldId) (p : Plan) (r : Runs) (i j : ℕ) → ((i j : ℕ) → p.gap i j ≡ bit_xor (product field (r.x i) (r.y j)) (product field (r.x2 i) (r.y2 j)))
    → r.x i ≡ r.x2 i → r.y j ≡ r.y2 j → p.gap i j ≡ 0
gap-none field p r i j gap left right =
    gap i j ∙ ap (λ (a : ℕ). bit_xor a (product field (r.x2 i) (r.y2 j))) (product-kept field r i j left right) ∙ sum-self (product field (r.x2 i) (r.y2 j))

-- what keeps an instruction's value
abbrev pub IsKept : Plan → Runs → ProductLabel → Type 0
IsKept p r (Cell i j) = p.is_row i ≡ true
IsKept p r (Cross i j) = (r.x i ≡ r.x2 i) × (r.y j ≡ r.y2 j)
IsKept p r (Half i j) = bit_xor (move p i j) (p.gap i j) ≡ 0
IsKept p r (Sum i m) = (p.is_row i ≡ true) × (r.x i ≡ r.x2 i) × (r.y i ≡ r.y2 i)

-- an instruction that is kept so has the same value in both states
pub value-kept : (field : FieldId) (p : Plan) (r : Runs) (label : ProductLabel) → AreMoved field p r → IsProductLabel p.shares label → IsKept p r label
    → before field r label ≡ after field r label
value-kept field p r (Cell i j) moved fits kept = cell-kept field p r i j moved fits.0 fits.1 fits.2 kept
value-kept field p r (Cross i j) moved fits kept = product-kept field r i j kept.0 kept.1
value-kept field p r (Half i j) moved fits kept =
    let a : ℕ = product field (r.x i) (r.y j) in
    let c : ℕ = product field (r.x2 i) (r.y2 j) in
    let m : ℕ = move p i j in
    let still : bit_xor m (bit_xor a c) ≡ 0 = ap (bit_xor m) (sym (moved.gap i j)) ∙ kept in
    let apart : bit_xor (bit_xor m (r.z i j)) c ≡ bit_xor (bit_xor (r.z i j) a) (bit_xor m (bit_xor a c)) =
    same_from_bits _ _ (λ k. simp bit_at_xor (omega arith)) in
    sym (ap (λ (s : ℕ). bit_xor s c) (moved.tape i j fits.0 fits.1) ∙ apart ∙ ap (bit_xor (bit_xor (r.z i j) a)) still ∙ sum-zero_right (bit_xor (r.z i j) a))
value-kept field p r (Sum i m) moved fits kept =
    share_sum-congruent (product field (r.x i) (r.y i)) (product field (r.x2 i) (r.y2 i)) (cell_value field r.x r.y r.z i) (cell_value field r.x2 r.y2 r.z2 i) i m
    (product-kept field r i i kept.1 kept.2)
    (λ j below differ. cell-kept field p r i j moved fits.0 (omega (arith, below, fits.1)) differ kept.0)

-- a seen output keeps its value
pub output-stays : (field : FieldId) (p : Plan) (r : Runs) (i : ℕ) → AreMoved field p r → i < p.shares → p.is_seen i ≡ true
    → before field r (Sum i p.shares) ≡ after field r (Sum i p.shares)
output-stays field p r i moved low seen =
    let a : ℕ = product field (r.x i) (r.y i) in
    let c : ℕ = product field (r.x2 i) (r.y2 i) in
    let cell : ℕ → ℕ = cell_value field r.x r.y r.z i in
    let n : ℕ = p.shares in
    let start : bit_xor (p.gap i i) a ≡ c =
    ap (λ (s : ℕ). bit_xor s a) (moved.gap i i) ∙ (let e : bit_xor (bit_xor a c) a ≡ c = same_from_bits _ _ (λ k. simp bit_at_xor (omega arith)) in e) in
    sym (sum-zero_left (share_sum a cell i n))
    ∙ ap (λ (s : ℕ). bit_xor s (share_sum a cell i n)) (sym (output-kept p i moved.plan low seen))
    ∙ sym (share_sum-sums (p.gap i i) a (move p i) cell i n)
    ∙ share_sum-congruent (bit_xor (p.gap i i) a) c (λ j. bit_xor (move p i j) (cell j)) (cell_value field r.x2 r.y2 r.z2 i) i n start
    (λ j below differ. sym (cell-moved field p r i j moved low below differ))
