-- What is told of values, from the last one to the first.
use Rattle.std.proofs.Common.{◌≡◌, ◌⊎◌, ℕ, suc, ◌+◌, ◌-◌, ◌<◌, ◌≤◌, Option, Some, IsSomeAnd, List, [], ◌∷◌, ◌++◌, length, get_or, slice_get, sym, ◌∙◌, ap, subst, inl, inr, arith}
use Rattle.std.proofs.lemmas.Bool.{cases_eq, cases_lt}
use Rattle.std.proofs.lemmas.List.{length-append}
use Rattle.std.proofs.lemmas.Option.{get_or_from_slice_get}
use Rattle.mk_ssa.specs.declared.Op.{Op}
use Rattle.mk_ssa.proofs.Lists.{slice_get-more, slice_get-last, IsSomeAnd-value}
use Rattle.mk_rules.specs.Shape.{Shape}
use Rattle.mk_rules.specs.Wired.{Wired}
use Rattle.mk_report.specs.declared.need.ProductPlace.{ProductPlace}
use Rattle.mk_report.specs.declared.need.Told.{Told}
use Rattle.mk_report.specs.Reached.{ArePlacesOf}
use Rattle.mk_report.specs.Passing.{IsTold, AreTold, TellsOf}
use Rattle.mk_report.proofs.Stepping.{reached-past}

-- what is told of a value stands at its place from the end
pub told-at : (places : ℕ → List ProductPlace) (told : List Told) (v i : ℕ) (x : Told) → AreTold places told → v < length told → i ≡ length told - suc v
    → x ≡ get_or told i x → IsTold (places v) x
told-at places told v i x are within at is =
    let found : (y : Told) × (slice_get told (length told - suc v) ≡ Some y) × IsTold (places v) y =
    IsSomeAnd-value (slice_get told (length told - suc v)) (IsTold (places v)) (are v within) in
    let same : x ≡ found.0 = is ∙ get_or_from_slice_get told i found.0 x (ap (slice_get told) at ∙ found.1) in
    subst (IsTold (places v)) (sym same) found.2

module _ (shape : Shape) (blocks : List Op) where
  -- how many values there are
  abbrev total : ℕ
  total = shape.secrets + shape.publics + length blocks

  -- this is told of the places of products that the value reaches
  pub record IsToldOf (v : ℕ) (x : Told) : Type 0 where
    pub places : List ProductPlace
    pub are : ArePlacesOf shape blocks v places
    pub is : IsTold places x

  -- these are told of the values from value n on, of the last one first
  pub record AreToldFrom (n : ℕ) (told : List Told) : Type 0 where
    pub long : length told + n ≡ total
    pub each : (v : ℕ) → n ≤ v → v < total → (x : Told) × (slice_get told (total - suc v) ≡ Some x) × IsToldOf v x

  -- none of no value
  pub told-none : (n : ℕ) → n ≡ total → AreToldFrom n []
  told-none n last = record { long = omega (arith, last); each = λ v from below. absurd (omega (arith, last, from, below)) }

  -- one value more
  pub told-more : (n m : ℕ) (told : List Told) (x : Told) (places : List ProductPlace) → m ≡ n + 1 → AreToldFrom m told → ArePlacesOf shape blocks n places
      → IsTold places x → AreToldFrom n (told ++ x ∷ [])
  told-more n m told x places next told_are places_are is = record {
    long = omega (arith, length-append told (x ∷ []), told_are.long, next);
    each = λ v from below. elim (cases_eq v n) [
      | inl same ↦
          let at : total - suc v ≡ length told = omega (arith, told_are.long, same, next) in (
            x,
            ap (slice_get (told ++ x ∷ [])) at ∙ slice_get-last told x,
            subst (λ (w : ℕ). IsToldOf w x) (sym same) (record { places = places; are = places_are; is = is }),
          )
      | inr other ↦
          let before : (y : Told) × (slice_get told (total - suc v) ≡ Some y) × IsToldOf v y = told_are.each v (omega (arith, from, other, next)) below in
          (before.0, slice_get-more told (x ∷ []) (total - suc v) before.0 before.1, before.2)
    ];
  }

  module _ (wired : Wired shape blocks) (told : List Told) (told_are : AreToldFrom 0 told) where
    -- what is told of a value that is there
    told_there : (v : ℕ) → v < total → (x : Told) × (slice_get told (total - suc v) ≡ Some x) × IsToldOf v x
    told_there v below = told_are.each v (omega arith) below

    -- the places of a value that is there or not
    abbrev places_by : (v : ℕ) → (v < total) ⊎ (total ≤ v) → List ProductPlace
    places_by v (inl below) = (told_there v below).2.places
    places_by v (inr past) = []

    -- it reaches them
    places-are : (v : ℕ) (d : (v < total) ⊎ (total ≤ v)) → ArePlacesOf shape blocks v (places_by v d)
    places-are v (inl below) = (told_there v below).2.are
    places-are v (inr past) = reached-past shape blocks wired v past

    -- they are told of
    places-told : (v i : ℕ) (d : (v < total) ⊎ (total ≤ v)) → v < total → i ≡ total - suc v → IsSomeAnd (slice_get told i) (IsTold (places_by v d))
    places-told v i (inl below) within at =
        subst (λ (o : Option Told). IsSomeAnd o (IsTold (places_by v (inl below))))
        (sym (ap (slice_get told) at ∙ (told_there v below).1)) (told_there v below).2.is
    places-told v i (inr past) within at = absurd (omega (arith, past, within))

    -- so all values are told of
    pub tells-of : TellsOf shape blocks told
    tells-of = record {
      places = λ v. places_by v (cases_lt v total);
      reached = λ v. places-are v (cases_lt v total);
      are = λ v within.
          places-told v (length told - suc v) (cases_lt v total) (omega (arith, told_are.long, within)) (omega (arith, told_are.long));
    }
