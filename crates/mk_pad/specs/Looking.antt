-- What is noted of the positions of a gadget, to look at sets of them.
use Rattle.std.specs.Prelude.{◌≡◌, ◌↔◌, ℕ, ◌+◌, ◌-◌, ◌≤◌, ◌<◌, true, List, [], ◌∷◌, ◌++◌, length, map}
use Rattle.std.specs.List.{range_with_len}
use Rattle.mk_pad.specs.declared.term.Term.{Term}
use Rattle.mk_pad.specs.declared.occurrences.Occurrences.{Occurrences}
use Rattle.mk_pad.specs.Form.{GadgetForm, IsGadget, share_count, position_count}
use Rattle.mk_pad.specs.Positions.{variable_count, polynomials}
use Rattle.mk_pad.specs.Shown.{occurs, IsAdded, is_in, IsShown, Ascend, IsSet}
use Rattle.mk_pad.specs.Verified.{Precedes, ComesBefore}

-- of these numbers it has the ones from `shares` on and below `end` that are added
abbrev pub AreAdded : ℕ → ℕ → ℕ → List Term → List ℕ → Type 0
AreAdded shares end n ps added = (v : ℕ) → (is_in added v ≡ true) ↔ ((shares ≤ v) × (v < end) × IsAdded n v ps)

-- the occurrences of a polynomial in n variables, of which the first are shares
pub record IsNoted (shares n : ℕ) (ps : List Term) (noted : Occurrences) : Type 0 where
  pub occurring : noted.occurring ≡ map (λ v. occurs v ps) (range_with_len 0 n)
  pub added : AreAdded shares n n ps noted.added

-- those of polynomials, one by one
unfoldable pub AreNoted : ℕ → ℕ → List (List Term) → List Occurrences → Type 0
AreNoted shares n [] [] = Unit {0}
AreNoted shares n [] (o ∷ os) = ⊥
AreNoted shares n (ps ∷ positions) [] = ⊥
AreNoted shares n (ps ∷ positions) (o ∷ os) = IsNoted shares n ps o × AreNoted shares n positions os

-- those of a gadget
pub record Notes (g : GadgetForm) (rows : List Occurrences) : Type 0 where
  pub form : IsGadget g
  pub noted : AreNoted (share_count g) (variable_count g) (polynomials g) rows

-- each set is shown that begins with these positions and has so many more, from `from` on
abbrev pub AreShownBehind : GadgetForm → List ℕ → ℕ → ℕ → Type 0
AreShownBehind g set from more =
    (rest : List ℕ) → length rest ≡ more → Ascend from (position_count g) rest → IsShown g (set ++ rest)

-- so is each that goes on with a position from `from` on and below `position`
abbrev pub AreTried : GadgetForm → List ℕ → ℕ → ℕ → ℕ → Type 0
AreTried g set from more position = (x : ℕ) → from ≤ x → x < position → AreShownBehind g (set ++ x ∷ []) (x + 1) (more - 1)

-- of these sets this is the first that isn't
pub record IsFirstBehind (g : GadgetForm) (set : List ℕ) (from more : ℕ) (found : List ℕ) : Type 0 where
  pub rest : List ℕ
  pub parts : found ≡ set ++ rest
  pub count : length rest ≡ more
  pub ascend : Ascend from (position_count g) rest
  pub not_shown : IsShown g found → ⊥
  pub before : (other : List ℕ) → length other ≡ more → Ascend from (position_count g) other → Precedes other rest → IsShown g (set ++ other)

-- each set of at least one and fewer than `size` positions is shown
abbrev pub AreSmallShown : GadgetForm → ℕ → Type 0
AreSmallShown g size = (set : List ℕ) → 1 ≤ length set → length set < size → Ascend (share_count g) (position_count g) set → IsShown g set

-- the first set that isn't shown
abbrev pub IsFirstNotShown : GadgetForm → List ℕ → Type 0
IsFirstNotShown g set = IsSet g set × (IsShown g set → ⊥) × ((other : List ℕ) → IsSet g other → ComesBefore other set → IsShown g other)
