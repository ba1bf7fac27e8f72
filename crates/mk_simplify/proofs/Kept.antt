-- Trees that are kept: one more, each of them, and those of them that are marked.
use Rattle.std.proofs.Common.{◌≡◌, ℕ, zero, suc, List, [], ◌∷◌, ◌++◌, ◌⊎◌, inl, inr, Bool, true, false, slice_get, Some, refl, sym, ◌∙◌, ap, subst, arith, append_assoc}
use Rattle.std.specs.List.{Contains}
use Rattle.std.proofs.lemmas.List.{append-nil}
use Rattle.std.proofs.lemmas.List.Elements.{Contains-push, Contains-append_left, Contains-append_right}
use Rattle.mk_simplify.specs.Trees.{Tree}
use Rattle.mk_simplify.specs.Simplified.{IsKept, AreKept}
use Rattle.mk_simplify.specs.Renumbering.{marked}

-- one more tree, which is kept
pub AreKept-new : (wanted before ts kept : List Tree) (t : Tree) → AreKept wanted before ts kept → IsKept wanted (before ++ ts) t
    → AreKept wanted before (ts ++ t ∷ []) (kept ++ t ∷ [])
unfolding AreKept
AreKept-new wanted before [] kept t all is =
    inl (subst (λ (l : List Tree). IsKept wanted l t) (append-nil before) is, [], ap (λ (l : List Tree). l ++ t ∷ []) all, refl)
AreKept-new wanted before (s ∷ ts) kept t all is =
    let is_behind : IsKept wanted ((before ++ s ∷ []) ++ ts) t = subst (λ (l : List Tree). IsKept wanted l t) (sym (append_assoc before (s ∷ []) ts)) is in
    elim all [
      | inl here ↦
          inl (here.0, here.1 ++ t ∷ [], ap (λ (l : List Tree). l ++ t ∷ []) here.2, AreKept-new wanted (before ++ s ∷ []) ts here.1 t here.3 is_behind)
      | inr not ↦ inr (not.0, AreKept-new wanted (before ++ s ∷ []) ts kept t not.1 is_behind)
    ]

-- one more tree, which isn't kept
pub AreKept-old : (wanted before ts kept : List Tree) (t : Tree) → AreKept wanted before ts kept → ¬ IsKept wanted (before ++ ts) t
    → AreKept wanted before (ts ++ t ∷ []) kept
unfolding AreKept
AreKept-old wanted before [] kept t all not = inr (subst (λ (l : List Tree). ¬ IsKept wanted l t) (append-nil before) not, all)
AreKept-old wanted before (s ∷ ts) kept t all not =
    let not_behind : ¬ IsKept wanted ((before ++ s ∷ []) ++ ts) t = subst (λ (l : List Tree). ¬ IsKept wanted l t) (sym (append_assoc before (s ∷ []) ts)) not in
    elim all [
      | inl here ↦ inl (here.0, here.1, here.2, AreKept-old wanted (before ++ s ∷ []) ts here.1 t here.3 not_behind)
      | inr other ↦ inr (other.0, AreKept-old wanted (before ++ s ∷ []) ts kept t other.1 not_behind)
    ]

-- an element that is there is contained
pub slice_get-contains : {X : Type 0} (xs : List X) (k : ℕ) (x : X) → slice_get xs k ≡ Some x → Contains xs x
slice_get-contains [] k x at = absurd (cc)
slice_get-contains (y ∷ ys) zero x at = (0, omega arith, cc)
slice_get-contains (y ∷ ys) (suc k) x at =
    let rest = slice_get-contains ys k x at in
    Contains-append_right (y ∷ []) ys x rest

-- what is said of a kept tree
abbrev pub IsFrom : List Tree → List Tree → List Tree → Tree → Type 0
IsFrom wanted before ts t = Contains ts t × (¬ Contains before t) × Contains wanted t

-- one of the trees behind the first
from-rest : (wanted before ts : List Tree) (s t : Tree) → IsFrom wanted (before ++ s ∷ []) ts t → IsFrom wanted before (s ∷ ts) t
from-rest wanted before ts s t rest =
    (Contains-append_right (s ∷ []) ts t rest.0, λ there. rest.1 (Contains-append_left before (s ∷ []) t there), rest.2)

-- the first, or one behind it
from-kept : (wanted before ts rest : List Tree) (s t : Tree) (k : ℕ) → slice_get (s ∷ rest) k ≡ Some t → IsKept wanted before s
    → ((i : ℕ) → slice_get rest i ≡ Some t → IsFrom wanted (before ++ s ∷ []) ts t) → IsFrom wanted before (s ∷ ts) t
from-kept wanted before ts rest s t zero here is behind =
    let same : s ≡ t = cc in
    (slice_get-contains (s ∷ ts) 0 t here, subst (λ (x : Tree). ¬ Contains before x) same is.0, subst (λ (x : Tree). Contains wanted x) same is.1)
from-kept wanted before ts rest s t (suc k) here is behind = from-rest wanted before ts s t (behind k here)

-- a kept tree is one of the trees, none before is equal, and it is wanted
pub AreKept-at : (wanted before ts kept : List Tree) (k : ℕ) (t : Tree) → AreKept wanted before ts kept → slice_get kept k ≡ Some t
    → IsFrom wanted before ts t
unfolding AreKept
AreKept-at wanted before [] kept k t all at = let none : slice_get [] k ≡ Some t = subst (λ (l : List Tree). slice_get l k ≡ Some t) all at in absurd (cc)
AreKept-at wanted before (s ∷ ts) kept k t all at = elim all [
  | inl here ↦
      from-kept wanted before ts here.1 s t k (subst (λ (l : List Tree). slice_get l k ≡ Some t) here.2 at) here.0
      (λ j there. AreKept-at wanted (before ++ s ∷ []) ts here.1 j t here.3 there)
  | inr other ↦ from-rest wanted before ts s t (AreKept-at wanted (before ++ s ∷ []) ts kept k t other.1 at)
]

-- two places of one tree, the first of which may be at the front
same-place : (before rest : List Tree) (s t : Tree) (i j : ℕ) → slice_get (s ∷ rest) i ≡ Some t → slice_get (s ∷ rest) j ≡ Some t
    → ((k : ℕ) → slice_get rest k ≡ Some t → ¬ Contains (before ++ s ∷ []) t)
    → ((m n : ℕ) → slice_get rest m ≡ Some t → slice_get rest n ≡ Some t → m ≡ n) → i ≡ j
same-place before rest s t zero zero first second fresh behind = refl
same-place before rest s t zero (suc j) first second fresh behind =
    let same : s ≡ t = cc in absurd (fresh j second (subst (λ (x : Tree). Contains (before ++ s ∷ []) x) same (Contains-push before s)))
same-place before rest s t (suc i) zero first second fresh behind =
    let same : s ≡ t = cc in absurd (fresh i first (subst (λ (x : Tree). Contains (before ++ s ∷ []) x) same (Contains-push before s)))
same-place before rest s t (suc i) (suc j) first second fresh behind = ap suc (behind i j first second)

-- kept trees are different
pub AreKept-different : (wanted before ts kept : List Tree) (i j : ℕ) (t : Tree) → AreKept wanted before ts kept
    → slice_get kept i ≡ Some t → slice_get kept j ≡ Some t → i ≡ j
unfolding AreKept
AreKept-different wanted before [] kept i j t all first second =
    let none : slice_get [] i ≡ Some t = subst (λ (l : List Tree). slice_get l i ≡ Some t) all first in absurd (cc)
AreKept-different wanted before (s ∷ ts) kept i j t all first second = elim all [
  | inl here ↦
      same-place before here.1 s t i j (subst (λ (l : List Tree). slice_get l i ≡ Some t) here.2 first)
      (subst (λ (l : List Tree). slice_get l j ≡ Some t) here.2 second)
      (λ k at. (AreKept-at wanted (before ++ s ∷ []) ts here.1 k t here.3 at).1)
      (λ m n one two. AreKept-different wanted (before ++ s ∷ []) ts here.1 m n t here.3 one two)
  | inr other ↦ AreKept-different wanted (before ++ s ∷ []) ts kept i j t other.1 first second
]

-- each tree is marked just where it is wanted
abbrev pub AreChosen : List Tree → List Bool → List Tree → Type 0
AreChosen wanted marks ts =
    (k : ℕ) (t : Tree) → slice_get ts k ≡ Some t
    → ((slice_get marks k ≡ Some true) × Contains wanted t) ⊎ ((slice_get marks k ≡ Some false) × (¬ Contains wanted t))

-- equal values that are there
pub unsome : {X : Type 0} {x y : X} → Some x ≡ Some y → x ≡ y
unsome same = cc

-- no mark, no tree
marked-nil : (marks : List Bool) → marked marks [] ≡ []
marked-nil [] = refl
marked-nil (true ∷ ms) = refl
marked-nil (false ∷ ms) = refl

-- the first tree, which is kept, where it is wanted
marked-first : (every wanted before ts rest : List Tree) (t : Tree) (marks : List Bool) → IsKept every before t → AreChosen wanted marks (t ∷ rest)
    → ((ms : List Bool) → AreChosen wanted ms rest → AreKept wanted (before ++ t ∷ []) ts (marked ms rest))
    → AreKept wanted before (t ∷ ts) (marked marks (t ∷ rest))
unfolding AreKept
marked-first every wanted before ts rest t [] is chosen behind = elim (chosen 0 t refl) [
  | inl some ↦ let bad : slice_get [] 0 ≡ Some true = some.0 in absurd (cc)
  | inr none ↦ let bad : slice_get [] 0 ≡ Some false = none.0 in absurd (cc)
]
marked-first every wanted before ts rest t (true ∷ ms) is chosen behind = elim (chosen 0 t refl) [
  | inl some ↦ inl ((is.0, some.1), marked ms rest, refl, behind ms (λ k s at. chosen (suc k) s at))
  | inr none ↦ let bad : true ≡ false = unsome none.0 in absurd (cc)
]
marked-first every wanted before ts rest t (false ∷ ms) is chosen behind = elim (chosen 0 t refl) [
  | inl some ↦ let bad : false ≡ true = unsome some.0 in absurd (cc)
  | inr none ↦ inr (λ one. none.1 one.1, behind ms (λ k s at. chosen (suc k) s at))
]

-- of trees that are kept, all being wanted, the marked ones are kept where these are wanted
pub AreKept-marked : (every wanted before ts kept : List Tree) (marks : List Bool) → ((t : Tree) → Contains ts t → Contains every t)
    → AreKept every before ts kept → AreChosen wanted marks kept → AreKept wanted before ts (marked marks kept)
unfolding AreKept
AreKept-marked every wanted before [] kept marks all are chosen = ap (marked marks) are ∙ marked-nil marks
AreKept-marked every wanted before (t ∷ ts) kept marks all are chosen =
    let all_behind : (s : Tree) → Contains ts s → Contains every s = λ s there. all s (Contains-append_right (t ∷ []) ts s there) in
    elim are [
      | inl here ↦
          subst (λ (l : List Tree). AreKept wanted before (t ∷ ts) (marked marks l)) (sym here.2)
          (marked-first every wanted before ts here.1 t marks here.0 (subst (AreChosen wanted marks) here.2 chosen)
          (λ ms choice. AreKept-marked every wanted (before ++ t ∷ []) ts here.1 ms all_behind here.3 choice))
      | inr other ↦
          inr (
            λ is. other.0 (is.0, all t (slice_get-contains (t ∷ ts) 0 t refl)),
            AreKept-marked every wanted (before ++ t ∷ []) ts kept marks all_behind other.1 chosen,
          )
    ]
