-- Inputs of which none is told as no element are elements.
use Rattle.std.proofs.Common.{◌≡◌, ℕ, ◌<◌, ◌≤◌, List, Option, Some, None, Bool, true, false, length, get_or, refl, sym, ◌∙◌, inl, inr, true≢false, if◌then◌else◌, All, arith}
use Rattle.std.specs.Prelude.{not, nat_lt, nat_eq, option_map}
use Rattle.std.specs.List.{position, position_or_len}
use Rattle.std.proofs.lemmas.Bool.{cases_lt}
use Rattle.std.proofs.lemmas.Bool.Decides.{Decides-eqb, Decides-ltb}
use Rattle.std.proofs.lemmas.List.Sums.{fails_before_first}
use Rattle.mk_base.specs.declared.Which.{Which}
use Rattle.mk_base.specs.declared.inputs.InputRefusal.TheVariants.{Length, Element}
use Rattle.mk_base.specs.Inputs.{wrong_number, no_element}

-- where the search finds no place, it reaches the end
no-place : (test : ℕ → Bool) (xs : List ℕ) → position test xs ≡ None → length xs ≤ position_or_len test xs
no-place test xs none = by (nat_lt (position_or_len test xs) (length xs)) refl none
  where
    by : (b : Bool) → b ≡ nat_lt (position_or_len test xs) (length xs) → (if b then Some (position_or_len test xs) else None) ≡ None → length xs ≤ position_or_len test xs
    by true e h = absurd cc
    by false e h = elim (cases_lt (position_or_len test xs) (length xs)) [
      | inl less ↦ absurd (true≢false (sym ((Decides-ltb (position_or_len test xs) (length xs)).1 less) ∙ sym e))
      | inr far ↦ far
    ]

-- where none is found that isn't below q, all are below q
pub below-all : (q : ℕ) (xs : List ℕ) → position (λ x. not (nat_lt x q)) xs ≡ None → All (λ a. a < q) xs
below-all q xs none k d below =
    by (nat_lt (get_or xs k d) q) refl (fails_before_first (λ x. not (nat_lt x q)) xs k d (omega (arith, below, no-place (λ x. not (nat_lt x q)) xs none)))
  where
    by : (b : Bool) → b ≡ nat_lt (get_or xs k d) q → not b ≡ false → get_or xs k d < q
    by true e h = (Decides-ltb (get_or xs k d) q).0 (sym e)
    by false e h = absurd (true≢false h)

-- inputs that are not refused for their number are as many as are wanted
pub number-right : (inputs : List ℕ) (wanted : ℕ) → wrong_number inputs wanted ≡ None → length inputs ≡ wanted
number-right inputs wanted none = by (nat_eq (length inputs) wanted) refl none
  where
    by : (b : Bool) → b ≡ nat_eq (length inputs) wanted → (if b then None else Some (Length (length inputs) wanted)) ≡ None → length inputs ≡ wanted
    by true e h = (Decides-eqb (length inputs) wanted).0 (sym e)
    by false e h = absurd cc

-- inputs of which none is refused are elements
pub elements-right : (which : Which) (size : ℕ) (inputs : List ℕ) → no_element which size inputs ≡ None → All (λ a. a < size) inputs
elements-right which size inputs none = below-all size inputs (by (position (λ x. not (nat_lt x size)) inputs) none)
  where
    by : (o : Option ℕ) → option_map (Element which) o ≡ None → o ≡ None
    by None h = refl
    by (Some i) h = absurd cc
