-- A gadget that is placed in a code of its own, whose inputs are its operands.
use Rattle.std.proofs.Common.{◌≡◌, ℕ, zero, suc, ◌+◌, ◌*◌, ◌<◌, ◌≤◌, List, [], ◌∷◌, ◌++◌, length, map, slice_index, refl, sym, ◌∙◌, ap, subst, arith, inl, inr}
use Rattle.std.specs.List.{range_with_len, All, AllByRecursion}
use Rattle.std.proofs.lemmas.Bool.{cases_lt, lt-ltb}
use Rattle.std.proofs.lemmas.List.Elements.{All-from_recursion}
use Rattle.std.proofs.lemmas.List.FromFn.{length-range_with_len, get_or-range_with_len}
use Rattle.std.proofs.Math.Nat.{mul-le-mul_right}
use Rattle.mk_base.specs.declared.TheConstants.{TOP_ORDER}
use Rattle.mk_field.specs.declared.map.AddMap.{AddMap}
use Rattle.mk_code.specs.declared.instr.Instr.{Instr}
use Rattle.mk_code.specs.declared.instr.Instr.TheVariants.{Rnd, Const, Copy, Add, Mul, Sq, Map}
use Rattle.mk_code.specs.Counting.{AllBelow}
use Rattle.mk_code.specs.Listing.{inputs_len}
use Rattle.mk_code.specs.Draft.{Draft, draft_len, IsWholeWith}
use Rattle.mk_gadget.specs.Emitted.{Emitted}
use Rattle.mk_gadget.specs.Gadget.{Gadget, placement, moved, placed, placed_outs}
use Rattle.mk_gadget.specs.Product.{product_gadget}
use Rattle.mk_gadget.specs.Refresh.{refresh_gadget}
use Rattle.mk_gadget.proofs.Ranges.{placement-own, AllBelow-range}
use Rattle.mk_gadget.proofs.Pairs.{twice-pairs}
use Rattle.mk_gadget.proofs.RefreshRun.{length-refresh}
use Rattle.mk_gadget.proofs.ProductRows.{length-product}

-- each position stays where it is
placement-same : (base p : ℕ) → placement (range_with_len 0 base) base p ≡ p
placement-same base p =
    let long : length (range_with_len 0 base) ≡ base = length-range_with_len 0 base in
    elim (cases_lt p (length (range_with_len 0 base))) [
      | inl operand ↦
          let at : placement (range_with_len 0 base) base p ≡ slice_index (range_with_len 0 base) p = rw (lt-ltb p (length (range_with_len 0 base)) operand) refl in
          omega (arith, at, get_or-range_with_len 0 base p 0 (omega (arith, operand, long)))
      | inr own ↦ omega (arith, placement-own (range_with_len 0 base) base p own, own, long)
    ]

-- and so do those of an instruction
moved-same : (base : ℕ) (i : Instr) → moved (placement (range_with_len 0 base) base) i ≡ i
moved-same base Rnd = refl
moved-same base (Const value) = refl
moved-same base (Copy from) = ap (λ (p : ℕ). Copy p) (placement-same base from)
moved-same base (Add left right) =
    ap (λ (p : ℕ). Add p (placement (range_with_len 0 base) base right)) (placement-same base left) ∙ ap (λ (p : ℕ). Add left p) (placement-same base right)
moved-same base (Mul left right) =
    ap (λ (p : ℕ). Mul p (placement (range_with_len 0 base) base right)) (placement-same base left) ∙ ap (λ (p : ℕ). Mul left p) (placement-same base right)
moved-same base (Sq from) = ap (λ (p : ℕ). Sq p) (placement-same base from)
moved-same base (Map m from) = ap (λ (p : ℕ). Map m p) (placement-same base from)

-- a map that changes nothing
map-same : {X : Type 0} (f : X → X) (xs : List X) → ((x : X) → f x ≡ x) → map f xs ≡ xs
map-same f [] same = refl
map-same f (x ∷ xs) same = ap (λ (y : _). y ∷ map f xs) (same x) ∙ ap (λ (ys : List _). x ∷ ys) (map-same f xs same)

-- numbers below q, by recursion
AllBelow-recursion : (q : ℕ) (xs : List ℕ) → AllBelow q xs → AllByRecursion (λ a. a < q) xs
unfolding AllBelow
AllBelow-recursion q [] below = tt
AllBelow-recursion q (x ∷ xs) below = (below.0, AllBelow-recursion q xs below.1)

-- a code in the making with no instruction yet, n shares and these inputs
pub record IsFresh (old : Draft) (n base : ℕ) : Type 0 where
  pub order : old.order + 1 ≡ n
  pub none : old.instrs ≡ []
  pub len : draft_len old ≡ base

-- it has none where it is new
pub fresh-from : (old : Draft) (n m order spare : ℕ) (maps : List AddMap) → old ≡ record { order = order; secrets = m; publics = 0; maps = maps; instrs = []; spare = spare }
    → order + 1 ≡ n → IsFresh old n (m * n)
fresh-from old n m order spare maps same count =
    let inputs : m * (order + 1) ≡ m * n = ap (λ (k : ℕ). m * k) count in
    record {
      order = ap (λ (d : Draft). d.order + 1) same ∙ count;
      none = ap (λ (d : Draft). d.instrs) same;
      len = omega (arith, ap draft_len same, inputs);
    }

-- a range and the next one
range-append : (a n m : ℕ) → range_with_len a n ++ range_with_len (a + n) m ≡ range_with_len a (n + m)
range-append a zero m = let e : a + 0 ≡ a = omega arith in let z : m ≡ 0 + m = omega arith in ap (λ (b : ℕ). range_with_len b m) e ∙ ap (λ (k : ℕ). range_with_len a k) z
range-append a (suc n) m =
    let e : a + suc n ≡ a + 1 + n = omega arith in
    let more : suc (n + m) ≡ suc n + m = omega arith in
    ap (λ (b : ℕ). a ∷ (range_with_len (a + 1) n ++ range_with_len b m)) e
    ∙ ap (λ (ps : List ℕ). a ∷ ps) (range-append (a + 1) n m)
    ∙ ap (λ (k : ℕ). range_with_len a k) more

-- two banks
pub two-ranges : (n : ℕ) (xs ys : List ℕ) → xs ≡ range_with_len 0 n → ys ≡ range_with_len n n → xs ++ ys ≡ range_with_len 0 (2 * n)
two-ranges n xs ys first second =
    let start : n ≡ 0 + n = omega arith in
    let twice : n + n ≡ 2 * n = omega arith in
    ap (λ (ps : List ℕ). ps ++ ys) first
    ∙ ap (λ (ps : List ℕ). range_with_len 0 n ++ ps) (second ∙ ap (λ (b : ℕ). range_with_len b n) start)
    ∙ range-append 0 n n ∙ ap (range_with_len 0) twice

-- one bank
pub one-range : (n : ℕ) (xs : List ℕ) → xs ≡ range_with_len 0 n → xs ≡ range_with_len 0 (1 * n)
one-range n xs first = let once : n ≡ 1 * n = omega arith in first ∙ ap (range_with_len 0) once

-- where the first bank is, and the second
pub bank-below : (base a n : ℕ) (xs : List ℕ) → xs ≡ range_with_len a n → a + n ≤ base → AllBelow base xs
bank-below base a n xs same within = subst (AllBelow base) (sym same) (AllBelow-range base a n within)

module _ (old new : Draft) (n base : ℕ) (reads bank : List ℕ) (gadget : Gadget) (fresh : IsFresh old n base) (at : reads ≡ range_with_len 0 base)
    (emitted : Emitted old new reads gadget bank) where
  -- its instructions are the gadget's
  pub alone-instrs : new.instrs ≡ gadget.instrs
  alone-instrs =
      let placing : placed reads (draft_len old) gadget ≡ gadget.instrs =
      ap (λ (r : List ℕ). placed r (draft_len old) gadget) at
      ∙ ap (λ (b : ℕ). placed (range_with_len 0 base) b gadget) fresh.len
      ∙ map-same (moved (placement (range_with_len 0 base) base)) gadget.instrs (moved-same base) in
      ap (λ (d : Draft). d.instrs) emitted.code ∙ ap (λ (is : List Instr). is ++ placed reads (draft_len old) gadget) fresh.none ∙ placing

  -- its outs are the gadget's
  pub alone-outs : bank ≡ gadget.outs
  alone-outs =
      emitted.outs ∙ ap (λ (r : List ℕ). placed_outs r (draft_len old) gadget) at
      ∙ ap (λ (b : ℕ). placed_outs (range_with_len 0 base) b gadget) fresh.len
      ∙ map-same (placement (range_with_len 0 base) base) gadget.outs (placement-same base)

  -- and it is whole
  pub alone-whole : 2 ≤ n → n ≤ TOP_ORDER + 1 → AllBelow (base + length gadget.instrs) gadget.outs → length gadget.outs ≡ n → (positions : List ℕ) → positions ≡ bank
      → IsWholeWith new positions
  alone-whole least most within count positions same =
      let order : new.order ≡ old.order = ap (λ (d : Draft). d.order) emitted.code in
      let secrets : new.secrets ≡ old.secrets = ap (λ (d : Draft). d.secrets) emitted.code in
      let publics : new.publics ≡ old.publics = ap (λ (d : Draft). d.publics) emitted.code in
      let all : All (λ p. p < base + length gadget.instrs) gadget.outs = All-from_recursion (λ p. p < base + length gadget.instrs) gadget.outs
      (AllBelow-recursion (base + length gadget.instrs) gadget.outs within) in
      let start : draft_len old ≡ inputs_len old.order old.secrets old.publics + 0 =
      ap (λ (is : List Instr). inputs_len old.order old.secrets old.publics + length is) fresh.none in
      let inputs : inputs_len new.order new.secrets new.publics ≡ inputs_len old.order old.secrets old.publics =
      ap (λ (d : Draft). inputs_len d.order d.secrets d.publics) emitted.code in
      let len : base + length gadget.instrs ≡ draft_len new = omega (arith, start, fresh.len, inputs, ap length alone-instrs) in
      let outs : positions ≡ gadget.outs = same ∙ alone-outs in
      record {
        order = (omega (arith, order, fresh.order, least), omega (arith, order, fresh.order, most));
        outs = subst (λ (ps : List ℕ). All (λ p. p < draft_len new) ps) (sym outs) (subst (λ (q : ℕ). All (λ p. p < q) gadget.outs) len all);
        outputs = (1, omega arith, omega (arith, ap length outs, count, order, fresh.order));
      }

-- a square of few shares
square-few : (n : ℕ) → n ≤ TOP_ORDER + 1 → n * n ≤ (TOP_ORDER + 1) * (TOP_ORDER + 1)
square-few n few = omega (arith, mul-le-mul_right n few, few)

-- their product has few instructions
pub product-few : (n : ℕ) → n ≤ TOP_ORDER + 1 → length (product_gadget n).instrs ≤ 6 * ((TOP_ORDER + 1) * (TOP_ORDER + 1))
product-few n few = omega (arith, length-product n, twice-pairs n n (omega arith), square-few n few)

-- and so has their refresh
pub refresh-few : (n : ℕ) → n ≤ TOP_ORDER + 1 → length (refresh_gadget n).instrs ≤ 6 * ((TOP_ORDER + 1) * (TOP_ORDER + 1))
refresh-few n few = omega (arith, length-refresh n, twice-pairs n n (omega arith), square-few n few)
