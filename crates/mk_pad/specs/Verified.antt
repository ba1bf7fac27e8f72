-- What `verify_gadget` says of a gadget, and why it looks at none.
use Rattle.std.specs.Prelude.{◌≡◌, ℕ, zero, suc, ◌+◌, ◌≤◌, ◌<◌, ◌⊎◌, List, [], ◌∷◌, length}
use Rattle.mk_pad.specs.declared.TheConstants.{MOST_SETS}
use Rattle.mk_pad.specs.declared.refusal.PadRefusal.{PadRefusal}
use Rattle.mk_pad.specs.declared.refusal.PadRefusal.TheVariants.{TooManySets, TooManyTerms, Memory}
use Rattle.mk_pad.specs.declared.refusal.Verdict.{Verdict}
use Rattle.mk_pad.specs.declared.refusal.Verdict.TheVariants.{Strong, NotShown}
use Rattle.mk_pad.specs.Form.{GadgetForm}
use Rattle.mk_pad.specs.Positions.{counts, IsFirstAbove}
use Rattle.mk_pad.specs.Shown.{IsShown, IsSet, AreAllShown}

-- the number of sets of k of n things, by the rule of Pascal
unfoldable pub choose : ℕ → ℕ → ℕ
choose n zero = 1
choose zero (suc k) = 0
choose (suc n) (suc k) = choose n k + choose n (suc k)

-- the number of sets of 1 to k of n things
unfoldable pub sets_up_to : ℕ → ℕ → ℕ
sets_up_to n zero = 0
sets_up_to n (suc k) = sets_up_to n k + choose n (suc k)

-- how many sets of positions are looked at
abbrev pub set_count : GadgetForm → ℕ
set_count g = sets_up_to (length g.instrs) g.order

-- at the first place where the lists differ, the number of the first is the smaller one
unfoldable pub Precedes : List ℕ → List ℕ → Type 0
Precedes [] ys = ⊥
Precedes (x ∷ xs) [] = ⊥
Precedes (x ∷ xs) (y ∷ ys) = (x < y) ⊎ ((x ≡ y) × Precedes xs ys)

-- smaller sets come first, and of two of one size the one that precedes
abbrev pub ComesBefore : List ℕ → List ℕ → Type 0
ComesBefore xs ys = (length xs < length ys) ⊎ ((length xs ≡ length ys) × Precedes xs ys)

-- the verdict: every set is shown, or this is the first that isn't
abbrev pub IsVerdict : GadgetForm → Verdict → Type 0
IsVerdict g Strong = AreAllShown g
IsVerdict g (NotShown set) = IsSet g set × ¬ (IsShown g set) × ((other : List ℕ) → IsSet g other → ComesBefore other set → IsShown g other)

-- a gadget is not looked at: there are too many sets, or not too many, and the first position that counts too many
-- terms counts so many
abbrev pub IsUnverified : GadgetForm → PadRefusal → Type 0
IsUnverified g (TooManySets sets) = (sets ≡ set_count g) × (MOST_SETS < sets)
IsUnverified g (TooManyTerms terms) = (set_count g ≤ MOST_SETS) × IsFirstAbove (counts g) terms
IsUnverified g Memory = ⊥
