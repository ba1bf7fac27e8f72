-- The rest of a set is one, whatever the order of taking out.
use Rattle.std.proofs.Common.{◌≡◌, inl, inr, ℕ, Bool, true, false, List, [], ◌∷◌, not, nat_eq, cond, refl, sym, ◌∙◌, ap, subst}
use Rattle.std.specs.List.{filter, list_any}
use Rattle.std.proofs.lemmas.Bool.{false≢true}
use Rattle.mk_pad.specs.Form.{GadgetForm}
use Rattle.mk_pad.specs.Shown.{is_in, without, occurs, polynomial_of, MayTake, Leaves, IsRest}
use Rattle.mk_pad.proofs.Members.{bool-cases, any-some, any-found, in-first, in-later, in-from_filter, in-from_without, in-without}

-- the first set has no other position than the second
abbrev pub Within : List ℕ → List ℕ → Type 0
Within few many = (q : ℕ) → is_in few q ≡ true → is_in many q ≡ true

-- what may be taken out of many may be taken out of fewer
pub may-fewer : (g : GadgetForm) (few many : List ℕ) (p : ℕ) → Within few many → MayTake g many p → MayTake g few p
may-fewer g few many p within may = record {
  random = may.random;
  is_random = may.is_random;
  added = may.added;
  alone = elim (bool-cases (list_any (λ q. occurs may.random (polynomial_of g q)) (without p few))) [
    | inl found ↦ (
        let it = any-found (λ q. occurs may.random (polynomial_of g q)) (without p few) found in
        let there = in-from_without p few it.0 it.1 in
        let again : list_any (λ q. occurs may.random (polynomial_of g q)) (without p many) ≡ true =
        any-some (λ q. occurs may.random (polynomial_of g q)) (without p many) it.0 (in-without p many it.0 (within it.0 there.0) there.1) it.2 in
        absurd (false≢true (sym may.alone ∙ again)))
    | inr none ↦ none
  ];
}

-- what is left was there
pub leaves-within : (g : GadgetForm) (taken set rest : List ℕ) → Leaves g taken set rest → Within rest set
unfolding Leaves
leaves-within g [] set rest same = λ q there. subst (λ (xs : List ℕ). is_in xs q ≡ true) (sym same) there
leaves-within g (p ∷ ps) set rest leaves = λ q there. (in-from_without p set q (leaves-within g ps (without p set) rest leaves.2 q there)).0

-- what can't be taken out of a smaller set stays
stays : (g : GadgetForm) (taken set rest final : List ℕ) → Leaves g taken set rest → ((p : ℕ) → is_in final p ≡ true → MayTake g final p → ⊥)
    → Within final set → Within final rest
unfolding Leaves
stays g [] set rest final same ended within = λ q there. subst (λ (xs : List ℕ). is_in xs q ≡ true) same (within q there)
stays g (p ∷ ps) set rest final leaves ended within =
    stays g ps (without p set) rest final leaves.2 ended
    (λ q there. in-without p set q (within q there)
    (λ same. ended q there (may-fewer g final set q within (subst (MayTake g set) (sym same) leaves.1))))

-- a test that all pass keeps the list
filter-all : (test : ℕ → Bool) (xs : List ℕ) → ((q : ℕ) → is_in xs q ≡ true → test q ≡ true) → filter test xs ≡ xs
filter-all test [] passes = refl
filter-all test (x ∷ xs) passes =
    ap (λ (b : Bool). cond b (x ∷ filter test xs) (filter test xs)) (passes x (in-first x xs x refl))
    ∙ ap (λ (l : List ℕ). x ∷ l) (filter-all test xs (λ q there. passes q (in-later x xs q there)))

-- tests that answer the same keep the same
filter-same : (first second : ℕ → Bool) (xs : List ℕ) → ((q : ℕ) → first q ≡ second q) → filter first xs ≡ filter second xs
filter-same first second [] same = refl
filter-same first second (x ∷ xs) same =
    ap (λ (b : Bool). cond b (x ∷ filter first xs) (filter first xs)) (same x)
    ∙ ap (λ (l : List ℕ). cond (second x) (x ∷ l) l) (filter-same first second xs same)

-- a weaker test before makes no difference
filter-weaker : (first second : ℕ → Bool) (xs : List ℕ) → ((q : ℕ) → first q ≡ true → second q ≡ true)
    → filter first (filter second xs) ≡ filter first xs
filter-weaker first second [] weaker = refl
filter-weaker first second (x ∷ xs) weaker = elim (bool-cases (second x)) [
  | inl keeps ↦
      ap (λ (b : Bool). filter first (cond b (x ∷ filter second xs) (filter second xs))) keeps
      ∙ ap (λ (l : List ℕ). cond (first x) (x ∷ l) l) (filter-weaker first second xs weaker)
  | inr fails ↦ elim (bool-cases (first x)) [
    | inl passes ↦ absurd (false≢true (sym fails ∙ weaker x passes))
    | inr same ↦
        ap (λ (b : Bool). filter first (cond b (x ∷ filter second xs) (filter second xs))) fails
        ∙ filter-weaker first second xs weaker
        ∙ ap (λ (b : Bool). cond b (x ∷ filter first xs) (filter first xs)) (sym same)
  ]
]

-- what is left stands in the order of the set
in-order : (g : GadgetForm) (taken set rest : List ℕ) → Leaves g taken set rest → filter (is_in rest) set ≡ rest
unfolding Leaves
in-order g [] set rest same =
    filter-all (is_in rest) set (λ q there. subst (λ (xs : List ℕ). is_in xs q ≡ true) same there) ∙ same
in-order g (p ∷ ps) set rest leaves =
    sym (filter-weaker (is_in rest) (λ q. not (nat_eq q p)) set (λ q there.
    (in-from_filter (λ r. not (nat_eq r p)) set q (leaves-within g ps (without p set) rest leaves.2 q there)).1))
    ∙ in-order g ps (without p set) rest leaves.2

-- ---- the rest is one

-- tests that pass at the same numbers answer the same
same-answers : (a b : Bool) → (a ≡ true → b ≡ true) → (b ≡ true → a ≡ true) → a ≡ b
same-answers true true there back = refl
same-answers true false there back = sym (there refl)
same-answers false true there back = back refl
same-answers false false there back = refl

-- two rests of a set are the same
pub rest-unique : (g : GadgetForm) (set first second : List ℕ) → IsRest g set first → IsRest g set second → first ≡ second
rest-unique g set first second a b =
    let there : Within first second = stays g b.taken set second first b.leaves a.ended (leaves-within g a.taken set first a.leaves) in
    let back : Within second first = stays g a.taken set first second a.leaves b.ended (leaves-within g b.taken set second b.leaves) in
    sym (in-order g a.taken set first a.leaves)
    ∙ filter-same (is_in first) (is_in second) set (λ q. same-answers (is_in first q) (is_in second q) (there q) (back q))
    ∙ in-order g b.taken set second b.leaves
