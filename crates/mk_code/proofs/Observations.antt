-- What is observed at positions of a trace.
use Rattle.std.proofs.Common.{◌≡◌, ℕ, zero, suc, ◌<◌, List, [], ◌∷◌, length, slice_index, refl, arith}
use Rattle.std.proofs.lemmas.List.{length-map}
use Rattle.mk_code.specs.Private.{observation}

-- as many values are seen as positions are observed
pub length-observation : (positions entries : List ℕ) → length (observation positions entries) ≡ length positions
length-observation positions entries = length-map positions (λ p. slice_index entries p)

-- the value seen at one of them
pub observation-at : (positions entries : List ℕ) (i : ℕ) → i < length positions
    → slice_index (observation positions entries) i ≡ slice_index entries (slice_index positions i)
observation-at [] entries i inside = absurd (omega (arith, inside))
observation-at (p ∷ ps) entries zero inside = refl
observation-at (p ∷ ps) entries (suc i) inside = observation-at ps entries i (omega (arith, inside))
