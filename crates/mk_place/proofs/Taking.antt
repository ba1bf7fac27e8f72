-- The uses by a value and those behind it, and the marks by them.
use Rattle.std.proofs.Common.{◌≡◌, ℕ, suc, ◌<◌, ◌≤◌, false, ◌&&◌, Some, List, [], ◌∷◌, ◌++◌, length, slice_get, nat_eq, refl, ◌∙◌, arith}
use Rattle.std.proofs.lemmas.Bool.{cond-false, and_left, and_right, ne_eqb}
use Rattle.mk_ssa.specs.Kinds.{Kind, kind}
use Rattle.mk_rules.specs.Reaches.{Link}
use Rattle.mk_rules.specs.Uses.{Use, uses_by, uses_from}
use Rattle.mk_rules.proofs.Noting.{use_of}
use Rattle.mk_place.specs.Needs.{mark_by, marks_by}

-- the mark of a use at another place
pub marks-place : (inputs : ℕ) (u : Use) (us : List Use) (i k : ℕ) → (k ≡ u.place → ⊥) → marks_by inputs (u ∷ us) i k ≡ marks_by inputs us i k
unfolding marks_by
marks-place inputs u us i k differ =
    cond-false (nat_eq i u.value && nat_eq k u.place) (mark_by inputs us u) (marks_by inputs us i k)
    (and_right (nat_eq i u.value) (nat_eq k u.place) (ne_eqb k u.place differ))

-- the mark of a use by another value
marks-value : (inputs : ℕ) (u : Use) (us : List Use) (i k : ℕ) → (i ≡ u.value → ⊥) → marks_by inputs (u ∷ us) i k ≡ marks_by inputs us i k
unfolding marks_by
marks-value inputs u us i k differ =
    cond-false (nat_eq i u.value && nat_eq k u.place) (mark_by inputs us u) (marks_by inputs us i k)
    (and_left (nat_eq i u.value) (nat_eq k u.place) (ne_eqb i u.value differ))

-- the uses by a value say nothing of another one
pub marks-past : (inputs value : ℕ) (kind : Kind) (place : ℕ) (vs : List ℕ) (us : List Use) (i k : ℕ) → (i ≡ value → ⊥)
    → marks_by inputs (uses_by value kind place vs ++ us) i k ≡ marks_by inputs us i k
unfolding uses_by
marks-past inputs value kind place [] us i k differ = refl
marks-past inputs value kind place (v ∷ vs) us i k differ =
    marks-value inputs (use_of value kind place v) (uses_by value kind (suc place) vs ++ us) i k differ
    ∙ marks-past inputs value kind (suc place) vs us i k differ

-- later uses don't mark an earlier value
pub marks-none : (inputs from : ℕ) (ls : List Link) (i k : ℕ) → i < from → marks_by inputs (uses_from from ls) i k ≡ false
unfolding uses_from marks_by
marks-none inputs from [] i k below = refl
marks-none inputs from (l ∷ ls) i k below =
    marks-past inputs from l.kind 0 l.shared (uses_from (suc from) ls) i k (λ e. omega (arith, e, below))
    ∙ marks-none inputs (suc from) ls i k (omega (arith, below))

-- the numbers of two operands at most, below a number
pub record AreOperands (len : ℕ) (vs : List ℕ) : Type 0 where
  pub short : length vs ≤ 2
  pub below : (k v : ℕ) → slice_get vs k ≡ Some v → v < len
