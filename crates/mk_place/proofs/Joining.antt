-- Places that are joined: those of both lists, and nothing else. And what a clash is.
use Rattle.std.proofs.Common.{◌≡◌, ◌≢◌, ◌⊎◌, Bool, true, false, not, ◌&&◌, ◌||◌, List, [], ◌∷◌, ◌++◌, nat_eq, refl, sym, ◌∙◌, ap, subst, inl, inr}
use Rattle.std.specs.List.{Contains, list_any}
use Rattle.std.proofs.lemmas.Bool.{cases_Bool, cond-true, cond-false, and_from, eqb-true, eq-eqb, ne_eqb}
use Rattle.std.proofs.lemmas.List.Elements.{Contains-append_left, Contains-push, Contains-push_cases}
use Rattle.mk_base.proofs.Lists.{Contains-cases}
use Rattle.mk_rules.specs.declared.uses.OperandPlace.{OperandPlace}
use Rattle.mk_rules.proofs.Probes.{Contains-more, Contains-front, Contains-none}
use Rattle.mk_rules.proofs.Noting.{place_of}
use Rattle.mk_place.specs.Needs.{is_same, is_other, clash, joined, with_place, added}

-- one of two holds
or-right : (a b : Bool) → b ≡ true → (a || b) ≡ true
or-right true b is = refl
or-right false b is = is

-- both of two hold
pub and-parts : (a b : Bool) → (a && b) ≡ true → (a ≡ true) × (b ≡ true)
and-parts true b is = (refl, is)
and-parts false b is = absurd (cc)

-- what doesn't hold where its opposite does
not-true : (b : Bool) → not b ≡ true → b ≡ true → ⊥
not-true true is on = absurd (cc)
not-true false is on = absurd (cc)

-- an element that passes a test
any-at : {X : Type 0} (p : X → Bool) (xs : List X) (x : X) → Contains xs x → p x ≡ true → list_any p xs ≡ true
any-at p [] x held is = absurd (Contains-none x held)
any-at p (y ∷ xs) x held is = elim (Contains-cases y xs x held) [
  | inl own ↦ ap (λ b. b || list_any p xs) (ap p own ∙ is)
  | inr rest ↦ or-right (p y) (list_any p xs) (any-at p xs x rest is)
]

-- and the other way round
any-from : {X : Type 0} (p : X → Bool) (xs : List X) → list_any p xs ≡ true → (x : X) × Contains xs x × (p x ≡ true)
any-from p [] is = absurd (cc)
any-from p (y ∷ xs) is = elim (cases_Bool (p y)) [
  | inl own ↦ (y, Contains-front y xs, own)
  | inr other ↦
      let rest : (x : _) × Contains xs x × (p x ≡ true) = any-from p xs (sym (ap (λ b. b || list_any p xs) other) ∙ is) in
      (rest.0, Contains-more y xs rest.0 rest.1, rest.2)
]

-- places with equal parts are equal
pub same-place : (q p : OperandPlace) → q.value ≡ p.value → q.operand ≡ p.operand → q ≡ p
same-place q p value operand = ap (λ v. place_of v q.operand) value ∙ ap (λ k. place_of p.value k) operand

-- what is joined first stays
with-kept : (need : List OperandPlace) (q p : OperandPlace) → Contains need p → Contains (with_place need q) p
with-kept need q p held = elim (cases_Bool (list_any (is_same q) need)) [
  | inl has ↦ subst (λ (xs : List OperandPlace). Contains xs p) (sym (cond-true (list_any (is_same q) need) need (need ++ q ∷ []) has)) held
  | inr new ↦
      subst (λ (xs : List OperandPlace). Contains xs p) (sym (cond-false (list_any (is_same q) need) need (need ++ q ∷ []) new))
      (Contains-append_left need (q ∷ []) p held)
]

-- the place itself is there
with-own : (need : List OperandPlace) (q : OperandPlace) → Contains (with_place need q) q
with-own need q = elim (cases_Bool (list_any (is_same q) need)) [
  | inl has ↦
      let found : (x : OperandPlace) × Contains need x × (is_same q x ≡ true) = any-from (is_same q) need has in
      let parts : (nat_eq found.0.value q.value ≡ true) × (nat_eq found.0.operand q.operand ≡ true) =
      and-parts (nat_eq found.0.value q.value) (nat_eq found.0.operand q.operand) found.2 in
      let same : found.0 ≡ q = same-place found.0 q (eqb-true found.0.value q.value parts.0) (eqb-true found.0.operand q.operand parts.1) in
      subst (λ (xs : List OperandPlace). Contains xs q) (sym (cond-true (list_any (is_same q) need) need (need ++ q ∷ []) has))
      (subst (Contains need) same found.1)
  | inr new ↦
      subst (λ (xs : List OperandPlace). Contains xs q) (sym (cond-false (list_any (is_same q) need) need (need ++ q ∷ []) new)) (Contains-push need q)
]

-- and nothing else is new
with-from : (need : List OperandPlace) (q p : OperandPlace) → Contains (with_place need q) p → Contains need p ⊎ (q ≡ p)
with-from need q p held = elim (cases_Bool (list_any (is_same q) need)) [
  | inl has ↦ inl (subst (λ (xs : List OperandPlace). Contains xs p) (cond-true (list_any (is_same q) need) need (need ++ q ∷ []) has) held)
  | inr new ↦
      Contains-push_cases need q p (subst (λ (xs : List OperandPlace). Contains xs p) (cond-false (list_any (is_same q) need) need (need ++ q ∷ []) new) held)
]

-- the places of the first list are joined
pub joined-left : (need ps : List OperandPlace) (p : OperandPlace) → Contains need p → Contains (joined need ps) p
unfolding joined
joined-left need [] p held = held
joined-left need (q ∷ ps) p held = joined-left (with_place need q) ps p (with-kept need q p held)

-- and those of the second
pub joined-right : (need ps : List OperandPlace) (p : OperandPlace) → Contains ps p → Contains (joined need ps) p
unfolding joined
joined-right need [] p held = absurd (Contains-none p held)
joined-right need (q ∷ ps) p held = elim (Contains-cases q ps p held) [
  | inl own ↦ joined-left (with_place need q) ps p (subst (Contains (with_place need q)) own (with-own need q))
  | inr rest ↦ joined-right (with_place need q) ps p rest
]

-- and no other
pub joined-from : (need ps : List OperandPlace) (p : OperandPlace) → Contains (joined need ps) p → Contains need p ⊎ Contains ps p
unfolding joined
joined-from need [] p held = inl held
joined-from need (q ∷ ps) p held = elim (joined-from (with_place need q) ps p held) [
  | inl there ↦ elim (with-from need q p there) [
    | inl first ↦ inl first
    | inr own ↦ inr (subst (Contains (q ∷ ps)) own (Contains-front q ps))
  ]
  | inr rest ↦ inr (Contains-more q ps p rest)
]

-- two places of one product
pub record Clashing (need brought : List OperandPlace) : Type 0 where
  pub first : OperandPlace
  pub second : OperandPlace
  pub held : Contains need first
  pub there : Contains brought second
  pub same : first.value ≡ second.value
  pub differ : first.operand ≢ second.operand

-- where there are such, lists clash
pub clash-at : (need brought : List OperandPlace) → Clashing need brought → clash need brought ≡ true
clash-at need brought c =
    any-at (λ p. list_any (is_other p) need) brought c.second c.there
    (any-at (is_other c.second) need c.first c.held
    (and_from (nat_eq c.first.value c.second.value) (not (nat_eq c.first.operand c.second.operand)) (eq-eqb c.first.value c.second.value c.same)
    (ap not (ne_eqb c.first.operand c.second.operand c.differ))))

-- where lists clash, there are such
pub clash-from : (need brought : List OperandPlace) → clash need brought ≡ true → Clashing need brought
clash-from need brought is =
    let outer : (p : OperandPlace) × Contains brought p × (list_any (is_other p) need ≡ true) = any-from (λ p. list_any (is_other p) need) brought is in
    let inner : (q : OperandPlace) × Contains need q × (is_other outer.0 q ≡ true) = any-from (is_other outer.0) need outer.2 in
    let parts : (nat_eq inner.0.value outer.0.value ≡ true) × (not (nat_eq inner.0.operand outer.0.operand) ≡ true) =
    and-parts (nat_eq inner.0.value outer.0.value) (not (nat_eq inner.0.operand outer.0.operand)) inner.2 in
    record {
      first = inner.0;
      second = outer.0;
      held = inner.1;
      there = outer.1;
      same = eqb-true inner.0.value outer.0.value parts.0;
      differ = λ e. not-true (nat_eq inner.0.operand outer.0.operand) parts.1 (eq-eqb inner.0.operand outer.0.operand e);
    }

-- what is added first stays
pub added-left : (need brought : List OperandPlace) (p : OperandPlace) → Contains need p → Contains (added need brought) p
added-left need brought p held = elim (cases_Bool (clash need brought)) [
  | inl clashes ↦ subst (λ (xs : List OperandPlace). Contains xs p) (sym (cond-true (clash need brought) need (joined need brought) clashes)) held
  | inr apart ↦
      subst (λ (xs : List OperandPlace). Contains xs p) (sym (cond-false (clash need brought) need (joined need brought) apart)) (joined-left need brought p held)
]

-- what is brought without a clash is added
pub added-right : (need brought : List OperandPlace) (p : OperandPlace) → clash need brought ≡ false → Contains brought p → Contains (added need brought) p
added-right need brought p apart there =
    subst (λ (xs : List OperandPlace). Contains xs p) (sym (cond-false (clash need brought) need (joined need brought) apart)) (joined-right need brought p there)

-- and nothing else
pub added-from : (need brought : List OperandPlace) (p : OperandPlace) → Contains (added need brought) p
    → Contains need p ⊎ ((clash need brought ≡ false) × Contains brought p)
added-from need brought p held = elim (cases_Bool (clash need brought)) [
  | inl clashes ↦ inl (subst (λ (xs : List OperandPlace). Contains xs p) (cond-true (clash need brought) need (joined need brought) clashes) held)
  | inr apart ↦ elim (joined-from need brought p
      (subst (λ (xs : List OperandPlace). Contains xs p) (cond-false (clash need brought) need (joined need brought) apart) held)) [
        | inl first ↦ inl first
        | inr there ↦ inr (apart, there)
      ]
]
