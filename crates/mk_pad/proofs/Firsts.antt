-- The first set that isn't shown, one position after the other.
use Rattle.std.proofs.Common.{◌≡◌, ℕ, ◌+◌, ◌-◌, ◌<◌, ◌≤◌, List, [], ◌∷◌, ◌++◌, length, sym, ◌∙◌, ap, subst, arith, inl, inr}
use Rattle.std.specs.List.{AllByRecursion}
use Rattle.std.proofs.lemmas.Bool.{cases_eq}
use Rattle.std.proofs.lemmas.List.{append-nil, append_assoc, nil_from_length}
use Rattle.mk_pad.specs.Form.{GadgetForm, share_count, position_count}
use Rattle.mk_pad.specs.Shown.{IsShown, Ascend, AreAllShown}
use Rattle.mk_pad.specs.Verified.{Precedes}
use Rattle.mk_pad.specs.Looking.{AreShownBehind, IsFirstBehind, AreSmallShown, IsFirstNotShown, AreTried}

-- no list precedes the empty one
pub before-nothing : (xs : List ℕ) → Precedes xs [] → ⊥
unfolding Precedes
before-nothing [] before = before
before-nothing (x ∷ xs) before = before

-- with no more positions it is the set itself that is shown
pub behind-none : (g : GadgetForm) (set : List ℕ) (from more : ℕ) → more ≡ 0 → IsShown g set → AreShownBehind g set from more
behind-none g set from more none shown = λ rest count ascend.
    subst (IsShown g) (sym (append-nil set) ∙ sym (ap (λ (l : List ℕ). set ++ l) (nil_from_length rest (count ∙ none)))) shown

-- or isn't
pub first-itself : (g : GadgetForm) (set : List ℕ) (from more : ℕ) (found : List ℕ) → more ≡ 0 → found ≡ set → (IsShown g set → ⊥) → IsFirstBehind g set from more found
unfolding Ascend
first-itself g set from more found none same not_shown =
    record {
      rest = [];
      parts = same ∙ sym (append-nil set);
      count = sym none;
      ascend = tt;
      not_shown = λ shown. not_shown (subst (IsShown g) same shown);
      before = λ other count ascend before. absurd (before-nothing other before);
    }

-- no next position was tried yet
pub tried-none : (g : GadgetForm) (set : List ℕ) (from more : ℕ) → AreTried g set from more from
tried-none g set from more = λ x least below. absurd (omega (arith, least, below))

-- what holds of some positions and of one more
all-last : (P : ℕ → Type 0) (set : List ℕ) (position : ℕ) → AllByRecursion P set → P position → AllByRecursion P (set ++ position ∷ [])
all-last P [] position all last = (last, tt)
all-last P (x ∷ xs) position all last = (all.0, all-last P xs position all.1 last)

-- what holds of the positions of a set and of the next one holds of all
pub within-next : (P : ℕ → Type 0) (set next : List ℕ) (position : ℕ) → next ≡ set ++ position ∷ [] → AllByRecursion P set → P position → AllByRecursion P next
within-next P set next position is all last = subst (AllByRecursion P) (sym is) (all-last P set position all last)

-- the sets behind each next position are the sets
pub behind-all : (g : GadgetForm) (set : List ℕ) (from more end : ℕ) → 1 ≤ more → position_count g ≤ end → AreTried g set from more end → AreShownBehind g set from more
unfolding Ascend
behind-all g set from more end some all tried [] count ascend = absurd (omega (arith, some, count))
behind-all g set from more end some all tried (x ∷ xs) count ascend =
    subst (IsShown g) (append_assoc set (x ∷ []) xs) (tried x ascend.0 (omega (arith, ascend.1, all)) xs (omega (arith, count)) ascend.2)

-- the sets before the first one behind the next position are shown
first-before : (g : GadgetForm) (set : List ℕ) (from more position : ℕ) (next found other : List ℕ) → 1 ≤ more → next ≡ set ++ position ∷ []
    → AreTried g set from more position → (first : IsFirstBehind g next (position + 1) (more - 1) found) → length other ≡ more → Ascend from (position_count g) other
    → Precedes other (position ∷ first.rest) → IsShown g (set ++ other)
unfolding Ascend Precedes
first-before g set from more position next found [] some is tried first count ascend before = absurd before
first-before g set from more position next found (y ∷ ys) some is tried first count ascend before = elim before [
  | inl less ↦ subst (IsShown g) (append_assoc set (y ∷ []) ys) (tried y ascend.0 less ys (omega (arith, count)) ascend.2)
  | inr same ↦
      subst (IsShown g)
      (ap (λ (l : List ℕ). l ++ ys) is ∙ append_assoc set (position ∷ []) ys ∙ ap (λ (x : ℕ). set ++ x ∷ ys) (sym same.0))
      (first.before ys (omega (arith, count)) (subst (λ (x : ℕ). Ascend (x + 1) (position_count g) ys) same.0 ascend.2) same.1)
]

-- the first set behind the next position is the first where those before it are shown
pub first-later : (g : GadgetForm) (set : List ℕ) (from more position : ℕ) (next found : List ℕ) → 1 ≤ more → from ≤ position → position < position_count g
    → next ≡ set ++ position ∷ [] → AreTried g set from more position → IsFirstBehind g next (position + 1) (more - 1) found → IsFirstBehind g set from more found
unfolding Ascend Precedes
first-later g set from more position next found some least below is tried first =
    let later : (other : List ℕ) → length other ≡ more → Ascend from (position_count g) other → Precedes other (position ∷ first.rest) → IsShown g (set ++ other) =
    λ other. first-before g set from more position next found other some is tried first in
    record {
      rest = position ∷ first.rest;
      parts = first.parts ∙ ap (λ (l : List ℕ). l ++ first.rest) is ∙ append_assoc set (position ∷ []) first.rest;
      count = omega (arith, first.count, some);
      ascend = (least, below, first.ascend);
      not_shown = first.not_shown;
      before = later;
    }

-- one next position more was tried
pub tried-more : (g : GadgetForm) (set : List ℕ) (from more position : ℕ) (next : List ℕ) → next ≡ set ++ position ∷ [] → AreTried g set from more position
    → AreShownBehind g next (position + 1) (more - 1) → AreTried g set from more (position + 1)
tried-more g set from more position next is tried shown = λ x least below. elim (cases_eq x position) [
  | inl same ↦
      subst (λ (y : ℕ). AreShownBehind g (set ++ y ∷ []) (y + 1) (more - 1)) (sym same)
      (subst (λ (l : List ℕ). AreShownBehind g l (position + 1) (more - 1)) is shown)
  | inr differ ↦ tried x least (omega (arith, below, differ))
]

-- ---- sizes one after the other

-- no set has fewer positions than one
pub small-none : (g : GadgetForm) (size : ℕ) → size ≤ 1 → AreSmallShown g size
small-none g size none = λ set some few ascend. absurd (omega (arith, some, few, none))

-- those with one more are shown too
pub small-more : (g : GadgetForm) (size : ℕ) → AreSmallShown g size → AreShownBehind g [] (share_count g) size → AreSmallShown g (size + 1)
small-more g size small shown = λ set some few ascend. elim (cases_eq (length set) size) [
  | inl same ↦ shown set same ascend
  | inr differ ↦ small set some (omega (arith, few, differ)) ascend
]

-- the first of its size is the first
pub first-of : (g : GadgetForm) (size : ℕ) (found : List ℕ) → 1 ≤ size → size ≤ g.order → AreSmallShown g size → IsFirstBehind g [] (share_count g) size found
    → IsFirstNotShown g found
first-of g size found some few small first =
    let count : length found ≡ size = ap length first.parts ∙ first.count in (
      record {
        some = omega (arith, count, some);
        few = omega (arith, count, few);
        ascend = subst (Ascend (share_count g) (position_count g)) (sym first.parts) first.ascend;
      },
      first.not_shown,
      λ other set before. elim before [
        | inl less ↦ small other set.some (omega (arith, less, count)) set.ascend
        | inr same ↦ first.before other (omega (arith, same.0, count)) set.ascend (subst (λ (l : List ℕ). Precedes other l) first.parts same.1)
      ],
    )

-- all sizes are all sets
pub all-small : (g : GadgetForm) (size : ℕ) → g.order < size → AreSmallShown g size → AreAllShown g
all-small g size all small = λ set is_set. small set is_set.some (omega (arith, is_set.few, all)) is_set.ascend
