-- A first place where a certificate departs from a code is the only one, and makes that part of the rule false.
use Rattle.std.proofs.Common.{◌≡◌, ℕ, ◌<◌, List, [], inl, inr, take, slice_get, Some, sym, ◌∙◌, ap, subst}
use Rattle.std.proofs.lemmas.Bool.{cases_order}
use Rattle.mk_code.specs.Listing.{Listing}
use Rattle.mk_ssa.specs.declared.Op.{Op}
use Rattle.mk_ssa.specs.declared.Operand.{Operand}
use Rattle.mk_ssa.proofs.Lists.{IsSomeAnd-value, slice_get-take, take-take-below}
use Rattle.mk_rules.specs.Shape.{Shape}
use Rattle.mk_rules.specs.Wired.{IsWired, Wired}
use Rattle.mk_rules.specs.Faults.{FirstUnwired, FirstMismatch, FirstWrongOutput}
use Rattle.mk_rules.proofs.Wired.{wired-at}

-- a block that isn't wired
pub FirstUnwired-not : (shape : Shape) (blocks : List Op) (k : ℕ) → FirstUnwired shape blocks k → Wired shape blocks → ⊥
FirstUnwired-not shape blocks k first wired =
    let at : (op : Op) × (slice_get blocks k ≡ Some op) × (IsWired shape (take k blocks) op → ⊥) =
    IsSomeAnd-value (slice_get blocks k) (λ op. ¬ IsWired shape (take k blocks) op) first.fails in
    at.2 (wired-at shape [] blocks k at.0 wired at.1)

-- none before it isn't
FirstUnwired-before : (shape : Shape) (blocks : List Op) (j k : ℕ) → j < k → FirstUnwired shape blocks j → FirstUnwired shape blocks k → ⊥
FirstUnwired-before shape blocks j k below first later =
    let at : (op : Op) × (slice_get blocks j ≡ Some op) × (IsWired shape (take j blocks) op → ⊥) =
    IsSomeAnd-value (slice_get blocks j) (λ op. ¬ IsWired shape (take j blocks) op) first.fails in
    at.2 (subst (λ (bs : List Op). IsWired shape bs at.0) (take-take-below blocks k j below)
    (wired-at shape [] (take k blocks) j at.0 later.before (slice_get-take blocks k j below ∙ at.1)))

-- of two numbers of which neither is before the other, both are the same
pub only : (j k : ℕ) → (j < k → ⊥) → (k < j → ⊥) → j ≡ k
only j k not_before not_behind = elim (cases_order j k) [
  | inl same ↦ same
  | inr other ↦ elim other [ inl before ↦ absurd (not_before before) | inr behind ↦ absurd (not_behind behind) ]
]

-- one block is the first that isn't wired
pub FirstUnwired-only : (shape : Shape) (blocks : List Op) (j k : ℕ) → FirstUnwired shape blocks j → FirstUnwired shape blocks k → j ≡ k
FirstUnwired-only shape blocks j k first second =
    only j k (λ below. FirstUnwired-before shape blocks j k below first second) (λ below. FirstUnwired-before shape blocks k j below second first)

-- lists that differ somewhere aren't equal
pub FirstMismatch-not : {X : Type 0} (xs ys : List X) (k : ℕ) → FirstMismatch xs ys k → xs ≡ ys → ⊥
FirstMismatch-not xs ys k first same = first.differ (ap (λ (l : List _). slice_get l k) same)

-- before the first place where two lists differ they don't
FirstMismatch-before : {X : Type 0} (xs ys : List X) (j k : ℕ) → j < k → FirstMismatch xs ys j → FirstMismatch xs ys k → ⊥
FirstMismatch-before xs ys j k below first later =
    first.differ (sym (slice_get-take xs k j below) ∙ ap (λ (l : List _). slice_get l j) later.before ∙ slice_get-take ys k j below)

-- two lists first differ at one place
pub FirstMismatch-only : {X : Type 0} (xs ys : List X) (j k : ℕ) → FirstMismatch xs ys j → FirstMismatch xs ys k → j ≡ k
FirstMismatch-only xs ys j k first second =
    only j k (λ below. FirstMismatch-before xs ys j k below first second) (λ below. FirstMismatch-before xs ys k j below second first)

-- one output is the first wrong one
pub FirstWrongOutput-only : (code : Listing) (banks : List (List ℕ)) (blocks : List Op) (claims : List Operand) (j k : ℕ)
    → FirstWrongOutput code banks blocks claims j → FirstWrongOutput code banks blocks claims k → j ≡ k
FirstWrongOutput-only code banks blocks claims j k first second =
    only j k (λ below. first.fails (second.before j below)) (λ below. second.fails (first.before k below))
