-- The blocks of values: where the own block of each value and the refreshes for it stand, and that there are no others.
use Rattle.std.proofs.Common.{◌≡◌, ◌⊎◌, ℕ, zero, suc, ◌+◌, ◌-◌, ◌<◌, ◌≤◌, true, Some, List, [], ◌∷◌, ◌++◌, length, slice_get, slice_index_or, refl, sym, ◌∙◌, ap, subst, arith, inl, inr}
use Rattle.std.proofs.lemmas.Bool.{cases_Bool, cases_lt, cases_order, cond-true}
use Rattle.std.proofs.lemmas.List.{length-append}
use Rattle.std.proofs.lemmas.Option.{same_Some}
use Rattle.mk_ssa.specs.declared.Op.{Op}
use Rattle.mk_ssa.specs.declared.Op.TheVariants.{Refresh}
use Rattle.mk_ssa.specs.declared.Operand.TheVariants.{Secret}
use Rattle.mk_ssa.specs.Kinds.{shared_operands}
use Rattle.mk_ssa.proofs.Lists.{slice_get-more, slice_get-last}
use Rattle.mk_ssa.specs.Operators.{with_operands_by}
use Rattle.mk_place.specs.Layout.{Marks, one, blocks_before, own_block, refresh_block, renamed, refreshed, refresh_at, blocks_of, blocks_from}
use Rattle.mk_place.proofs.Naming.{refresh-long}

-- an element behind others
get-behind : {X : Type 0} (xs ys : List X) (n j : ℕ) → j ≡ length xs + n → slice_get (xs ++ ys) j ≡ slice_get ys n
get-behind [] ys n j at =
    let same : j ≡ n = omega (arith, at) in
    ap (slice_get ys) same
get-behind (x ∷ xs) ys n zero at = absurd (omega (arith, at))
get-behind (x ∷ xs) ys n (suc j) at = get-behind xs ys n j (omega (arith, at))

-- the next value has its blocks behind those before
pub before-next : (marks : Marks) (i : ℕ) → blocks_before marks (suc i) ≡ blocks_before marks i + one (marks i 0) + one (marks i 1) + 1
unfolding blocks_before
before-next marks i = refl

-- there are no fewer blocks before a later value
pub before-later : (marks : Marks) (i d : ℕ) → blocks_before marks i ≤ blocks_before marks (i + d)
before-later marks i zero =
    let same : i ≡ i + 0 = omega arith in
    omega (arith, ap (blocks_before marks) same)
before-later marks i (suc d) =
    let same : suc (i + d) ≡ i + suc d = omega arith in
    omega (arith, before-later marks i d, before-next marks (i + d), ap (blocks_before marks) same)

-- the blocks of one value
pub refreshes-long : (marks : Marks) (i : ℕ) (op : Op) → length (refresh_at marks i 0 op ++ refresh_at marks i 1 op) ≡ one (marks i 0) + one (marks i 1)
refreshes-long marks i op =
    omega (arith, length-append (refresh_at marks i 0 op) (refresh_at marks i 1 op), refresh-long marks i 0 op, refresh-long marks i 1 op)

-- a value has as many blocks as marks, and its own
pub of-long : (marks : Marks) (i : ℕ) (op : Op) → length (blocks_of marks i op) ≡ one (marks i 0) + one (marks i 1) + 1
of-long marks i op =
    omega (arith, length-append (refresh_at marks i 0 op ++ refresh_at marks i 1 op) (with_operands_by (refreshed marks i) (renamed marks) op ∷ []), refreshes-long marks i op)

-- those of values from one on
from-long : (marks : Marks) (i : ℕ) (ops : List Op) → blocks_before marks i + length (blocks_from marks i ops) ≡ blocks_before marks (i + length ops)
unfolding blocks_from
from-long marks i [] =
    let same : i ≡ i + 0 = omega arith in
    omega (arith, ap (blocks_before marks) same)
from-long marks i (op ∷ ops) =
    let same : suc i + length ops ≡ i + suc (length ops) = omega arith in
    omega (arith, length-append (blocks_of marks i op) (blocks_from marks (suc i) ops), of-long marks i op, from-long marks (suc i) ops, before-next marks i, ap (blocks_before marks) same)

-- how many blocks there are
pub blocks-length : (marks : Marks) (values : List Op) → length (blocks_from marks 0 values) ≡ blocks_before marks (length values)
unfolding blocks_before
blocks-length marks values =
    let same : 0 + length values ≡ length values = omega arith in
    omega (arith, from-long marks 0 values, ap (blocks_before marks) same)

-- a block of a value, among those of values from one on
block-there : (marks : Marks) (i : ℕ) (ops : List Op) (k : ℕ) (op : Op) (n : ℕ) (x : Op) (m : ℕ) → slice_get ops k ≡ Some op
    → slice_get (blocks_of marks (i + k) op) n ≡ Some x → blocks_before marks i + m ≡ blocks_before marks (i + k) + n
    → slice_get (blocks_from marks i ops) m ≡ Some x
unfolding blocks_from
block-there marks i [] k op n x m there at place = absurd (cc)
block-there marks i (y ∷ ops) zero op n x m there at place =
    let same : i + 0 ≡ i = omega arith in
    let own : slice_get (blocks_of marks i y) n ≡ Some x =
    subst (λ (z : Op). slice_get (blocks_of marks i z) n ≡ Some x) (sym (same_Some y op there))
    (subst (λ (j : ℕ). slice_get (blocks_of marks j op) n ≡ Some x) same at) in
    let e : n ≡ m = omega (arith, place, ap (blocks_before marks) same) in
    subst (λ (j : ℕ). slice_get (blocks_of marks i y ++ blocks_from marks (suc i) ops) j ≡ Some x) e
    (slice_get-more (blocks_of marks i y) (blocks_from marks (suc i) ops) n x own)
block-there marks i (y ∷ ops) (suc k) op n x m there at place =
    let same : i + suc k ≡ suc i + k = omega arith in
    let long : length (blocks_of marks i y) ≡ one (marks i 0) + one (marks i 1) + 1 = of-long marks i y in
    let rest : ℕ = m - length (blocks_of marks i y) in
    let e : m ≡ length (blocks_of marks i y) + rest =
    omega (arith, place, long, before-next marks i, before-later marks (suc i) k, ap (blocks_before marks) same) in
    get-behind (blocks_of marks i y) (blocks_from marks (suc i) ops) rest m e
    ∙ block-there marks (suc i) ops k op n x rest there
    (subst (λ (j : ℕ). slice_get (blocks_of marks j op) n ≡ Some x) same at)
    (omega (arith, place, e, long, before-next marks i, ap (blocks_before marks) same))

-- and among those of all values
all-there : (marks : Marks) (values : List Op) (i : ℕ) (op : Op) (n : ℕ) (x : Op) (m : ℕ) → slice_get values i ≡ Some op
    → slice_get (blocks_of marks i op) n ≡ Some x → m ≡ blocks_before marks i + n → slice_get (blocks_from marks 0 values) m ≡ Some x
unfolding blocks_before
all-there marks values i op n x m there at place =
    let same : i ≡ 0 + i = omega arith in
    block-there marks 0 values i op n x m there (subst (λ (j : ℕ). slice_get (blocks_of marks j op) n ≡ Some x) same at)
    (omega (arith, place, ap (blocks_before marks) same))

-- a value's own block stands where it should
pub own-there : (marks : Marks) (values : List Op) (i : ℕ) (op : Op) → slice_get values i ≡ Some op
    → slice_get (blocks_from marks 0 values) (own_block marks i) ≡ Some (with_operands_by (refreshed marks i) (renamed marks) op)
own-there marks values i op there =
    let own : Op = with_operands_by (refreshed marks i) (renamed marks) op in
    let rs : List Op = refresh_at marks i 0 op ++ refresh_at marks i 1 op in
    all-there marks values i op (length rs) own (own_block marks i) there (slice_get-last rs own) (omega (arith, refreshes-long marks i op))

-- the refresh for a marked use
pub refresh-is : (marks : Marks) (i k : ℕ) (op : Op) → marks i k ≡ true
    → refresh_at marks i k op ≡ Refresh (renamed marks (slice_index_or (shared_operands op) k (Secret 0))) ∷ []
refresh-is marks i k op on =
    cond-true (marks i k) (Refresh (renamed marks (slice_index_or (shared_operands op) k (Secret 0))) ∷ []) [] on

-- it stands where it should
pub refresh-there : (marks : Marks) (values : List Op) (i k : ℕ) (op : Op) → slice_get values i ≡ Some op → k < 2 → marks i k ≡ true
    → slice_get (blocks_from marks 0 values) (refresh_block marks i k)
    ≡ Some (Refresh (renamed marks (slice_index_or (shared_operands op) k (Secret 0))))
refresh-there marks values i zero op there few on =
    let own : Op = with_operands_by (refreshed marks i) (renamed marks) op in
    let x : Op = Refresh (renamed marks (slice_index_or (shared_operands op) 0 (Secret 0))) in
    let at : slice_get (blocks_of marks i op) 0 ≡ Some x =
    ap (λ (rs : List Op). slice_get ((rs ++ refresh_at marks i 1 op) ++ own ∷ []) 0) (refresh-is marks i 0 op on) in
    all-there marks values i op 0 x (blocks_before marks i) there at (omega arith)
refresh-there marks values i (suc zero) op there few on =
    let own : Op = with_operands_by (refreshed marks i) (renamed marks) op in
    let x : Op = Refresh (renamed marks (slice_index_or (shared_operands op) 1 (Secret 0))) in
    let first : List Op = refresh_at marks i 0 op in
    let at : slice_get (blocks_of marks i op) (length first) ≡ Some x =
    slice_get-more (first ++ refresh_at marks i 1 op) (own ∷ []) (length first) x
    (ap (λ (rs : List Op). slice_get (first ++ rs) (length first)) (refresh-is marks i 1 op on) ∙ slice_get-last first x) in
    all-there marks values i op (length first) x (refresh_block marks i 1) there at (omega (arith, refresh-long marks i 0 op))
refresh-there marks values i (suc (suc k)) op there few on = absurd (omega (arith, few))

-- a block of the first n values is the own block of one of them, or the refresh for a use by one
abbrev IsBlock : Marks → ℕ → ℕ → Type 0
IsBlock marks n j =
    ((i : ℕ) × (i < n) × (j ≡ own_block marks i)) ⊎ ((i : ℕ) × (k : ℕ) × (i < n) × (k < 2) × (marks i k ≡ true) × (j ≡ refresh_block marks i k))

-- so it is of more
block-more : (marks : Marks) (n j : ℕ) → IsBlock marks n j → IsBlock marks (suc n) j
block-more marks n j is = elim is [
  | inl own ↦ inl (own.0, omega (arith, own.1), own.2)
  | inr fresh ↦ inr (fresh.0, fresh.1, omega (arith, fresh.2), fresh.3, fresh.4, fresh.5)
]

-- a block of the last of them
block-last : (marks : Marks) (n j : ℕ) → blocks_before marks n ≤ j → j < blocks_before marks n + one (marks n 0) + one (marks n 1) + 1 → IsBlock marks (suc n) j
block-last marks n j from to = elim (cases_lt j (blocks_before marks n + one (marks n 0))) [
  | inl first ↦ elim (cases_Bool (marks n 0)) [
    | inl on ↦ inr (n, 0, omega arith, omega arith, on, omega (arith, from, first, ap one on))
    | inr off ↦ absurd (omega (arith, from, first, ap one off))
  ]
  | inr behind ↦ elim (cases_lt j (own_block marks n)) [
    | inl second ↦ elim (cases_Bool (marks n 1)) [
      | inl on ↦ inr (n, 1, omega arith, omega arith, on, omega (arith, behind, second, ap one on))
      | inr off ↦ absurd (omega (arith, behind, second, ap one off))
    ]
    | inr last ↦ inl (n, omega arith, omega (arith, last, to))
  ]
]

-- all blocks are such
block-is : (marks : Marks) (n j : ℕ) → j < blocks_before marks n → IsBlock marks n j
unfolding blocks_before
block-is marks zero j below = absurd (omega (arith, below))
block-is marks (suc n) j below = elim (cases_lt j (blocks_before marks n)) [
  | inl before ↦ block-more marks n j (block-is marks n j before)
  | inr from ↦ block-last marks n j (omega (arith, from)) below
]

-- each block is the own block of a value, or the refresh for a use
pub each-block : (marks : Marks) (values : List Op) (j : ℕ) → j < length (blocks_from marks 0 values)
    → ((i : ℕ) × (i < length values) × (j ≡ own_block marks i))
    ⊎ ((i : ℕ) × (k : ℕ) × (i < length values) × (k < 2) × (marks i k ≡ true) × (j ≡ refresh_block marks i k))
each-block marks values j below = block-is marks (length values) j (omega (arith, below, blocks-length marks values))

-- a value's own block stands before the blocks of later values
pub blocks-before-after : (marks : Marks) (i j : ℕ) → i < j → own_block marks i < blocks_before marks j
blocks-before-after marks i j before =
    let same : suc i + (j - suc i) ≡ j = omega (arith, before) in
    omega (arith, before-next marks i, before-later marks (suc i) (j - suc i), ap (blocks_before marks) same)

-- a refresh stands among the blocks of its value, before the own block
pub refresh-within : (marks : Marks) (i k : ℕ) → k < 2 → marks i k ≡ true
    → (blocks_before marks i ≤ refresh_block marks i k) × (refresh_block marks i k < own_block marks i)
refresh-within marks i zero few on = (omega arith, omega (arith, ap one on))
refresh-within marks i (suc zero) few on = (omega arith, omega (arith, ap one on))
refresh-within marks i (suc (suc k)) few on = absurd (omega (arith, few))

-- two values have two own blocks
pub own-once : (marks : Marks) (i j : ℕ) → own_block marks i ≡ own_block marks j → i ≡ j
own-once marks i j same = elim (cases_order i j) [
  | inl equal ↦ equal
  | inr other ↦ elim other [
    | inl before ↦ absurd (omega (arith, same, blocks-before-after marks i j before))
    | inr behind ↦ absurd (omega (arith, same, blocks-before-after marks j i behind))
  ]
]

-- an own block is no refresh
pub own-no-refresh : (marks : Marks) (i j k : ℕ) → k < 2 → marks j k ≡ true → own_block marks i ≡ refresh_block marks j k → ⊥
own-no-refresh marks i j k few on same =
    let within = refresh-within marks j k few on in
    elim (cases_order i j) [
      | inl equal ↦ omega (arith, same, within.1, ap (own_block marks) equal)
      | inr other ↦ elim other [
        | inl before ↦ omega (arith, same, within.0, blocks-before-after marks i j before)
        | inr behind ↦ omega (arith, same, within.1, blocks-before-after marks j i behind)
      ]
    ]

-- the refreshes for a value stand at two places
refresh-place : (marks : Marks) (i k l : ℕ) → k < 2 → l < 2 → marks i k ≡ true → marks i l ≡ true → refresh_block marks i k ≡ refresh_block marks i l → k ≡ l
refresh-place marks i zero zero few also on there same = refl
refresh-place marks i zero (suc l) few also on there same = absurd (omega (arith, same, ap one on))
refresh-place marks i (suc k) zero few also on there same = absurd (omega (arith, same, ap one there))
refresh-place marks i (suc k) (suc l) few also on there same = omega (arith, few, also)

-- two marked uses have two refreshes
pub refresh-once : (marks : Marks) (i k j l : ℕ) → k < 2 → l < 2 → marks i k ≡ true → marks j l ≡ true
    → refresh_block marks i k ≡ refresh_block marks j l → (i ≡ j) × (k ≡ l)
refresh-once marks i k j l few also on there same =
    let within = refresh-within marks i k few on in
    let other_within = refresh-within marks j l also there in
    elim (cases_order i j) [
      | inl equal ↦ (
        equal,
        refresh-place marks i k l few also on (subst (λ (n : ℕ). marks n l ≡ true) (sym equal) there)
            (same ∙ ap (λ (n : ℕ). refresh_block marks n l) (sym equal)),
      )
      | inr other ↦ elim other [
        | inl before ↦ absurd (omega (arith, same, within.1, other_within.0, blocks-before-after marks i j before))
        | inr behind ↦ absurd (omega (arith, same, other_within.1, within.0, blocks-before-after marks j i behind))
      ]
    ]
