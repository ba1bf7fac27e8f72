-- What flows back along uses: which places each value reaches, and which uses are marked.
use Rattle.std.proofs.Common.{◌≡◌, ◌⊎◌, ℕ, ◌+◌, ◌<◌, true, false, ◌&&◌, List, [], ◌∷◌, ◌++◌, nat_eq, refl, sym, ◌∙◌, ap, subst, inl, inr, arith}
use Rattle.std.specs.List.{Contains}
use Rattle.std.proofs.lemmas.Bool.{cases_Bool, cases_eq, cond-true, cond-false, and_from, and_left, and_right, eqb-true, eq-eqb, ne_eqb, false≢true}
use Rattle.std.proofs.lemmas.List.Elements.{Contains-append_right}
use Rattle.mk_base.proofs.Lists.{Contains-cases}
use Rattle.mk_ssa.specs.Kinds.{Kind, Public, Linear, Strong}
use Rattle.mk_rules.specs.declared.uses.OperandPlace.{OperandPlace}
use Rattle.mk_rules.proofs.Probes.{Contains-front, Contains-none, Contains-only}
use Rattle.mk_rules.specs.Uses.{Use}
use Rattle.mk_place.specs.Needs.{added, brought_by, brought, with_use, needs_by, mark_by, marks_by}
use Rattle.mk_place.proofs.Joining.{and-parts, clash-at, added-left, added-right, added-from}

-- a use of this value
pub with_use-own : (inputs : ℕ) (needs : ℕ → List OperandPlace) (u : Use) (v : ℕ) → v ≡ u.operand
    → with_use inputs needs u v ≡ added (needs u.operand) (brought inputs needs u)
with_use-own inputs needs u v same =
    cond-true (nat_eq v u.operand) (added (needs u.operand) (brought inputs needs u)) (needs v) (eq-eqb v u.operand same)

-- a use of another one
pub with_use-other : (inputs : ℕ) (needs : ℕ → List OperandPlace) (u : Use) (v : ℕ) → (v ≡ u.operand → ⊥) → with_use inputs needs u v ≡ needs v
with_use-other inputs needs u v differ =
    cond-false (nat_eq v u.operand) (added (needs u.operand) (brought inputs needs u)) (needs v) (ne_eqb v u.operand differ)

-- a use before others
pub needs-cons : (inputs : ℕ) (u : Use) (us : List Use) (v : ℕ) → needs_by inputs (u ∷ us) v ≡ with_use inputs (needs_by inputs us) u v
unfolding needs_by
needs-cons inputs u us v = refl

module _ (inputs : ℕ) where
  -- what comes from later uses stays
  pub comes-behind : (u : Use) (us : List Use) (v : ℕ) (p : OperandPlace) → Contains (needs_by inputs us v) p → Contains (needs_by inputs (u ∷ us) v) p
  comes-behind u us v p held = elim (cases_eq v u.operand) [
    | inl same ↦
        subst (λ (xs : List OperandPlace). Contains xs p) (sym (needs-cons inputs u us v ∙ with_use-own inputs (needs_by inputs us) u v same))
        (added-left (needs_by inputs us u.operand) (brought inputs (needs_by inputs us) u) p
        (subst (λ (w : ℕ). Contains (needs_by inputs us w) p) same held))
    | inr differ ↦
        subst (λ (xs : List OperandPlace). Contains xs p) (sym (needs-cons inputs u us v ∙ with_use-other inputs (needs_by inputs us) u v differ)) held
  ]

  -- what a use brings that isn't marked
  pub comes-own : (u : Use) (us : List Use) (p : OperandPlace) → mark_by inputs us u ≡ false → Contains (brought inputs (needs_by inputs us) u) p
      → Contains (needs_by inputs (u ∷ us) u.operand) p
  comes-own u us p kept held =
      subst (λ (xs : List OperandPlace). Contains xs p) (sym (needs-cons inputs u us u.operand ∙ with_use-own inputs (needs_by inputs us) u u.operand refl))
      (added-right (needs_by inputs us u.operand) (brought inputs (needs_by inputs us) u) p kept held)

  -- a use that brings a place to a value, and isn't marked
  pub record IsBrought (us : List Use) (u : Use) (v : ℕ) (p : OperandPlace) : Type 0 where
    pub same : v ≡ u.operand
    pub kept : mark_by inputs us u ≡ false
    pub brings : Contains (brought inputs (needs_by inputs us) u) p

  -- nothing else comes
  pub comes-from : (u : Use) (us : List Use) (v : ℕ) (p : OperandPlace) → Contains (needs_by inputs (u ∷ us) v) p
      → IsBrought us u v p ⊎ Contains (needs_by inputs us v) p
  comes-from u us v p held = elim (cases_eq v u.operand) [
    | inl same ↦ elim (added-from (needs_by inputs us u.operand) (brought inputs (needs_by inputs us) u) p
        (subst (λ (xs : List OperandPlace). Contains xs p) (needs-cons inputs u us v ∙ with_use-own inputs (needs_by inputs us) u v same) held)) [
          | inl behind ↦ inr (subst (λ (w : ℕ). Contains (needs_by inputs us w) p) (sym same) behind)
          | inr own ↦ inl (record { same = same; kept = own.0; brings = own.1 })
        ]
    | inr differ ↦
        inr (subst (λ (xs : List OperandPlace). Contains xs p) (needs-cons inputs u us v ∙ with_use-other inputs (needs_by inputs us) u v differ) held)
  ]

  -- a use among others
  pub record Found (us : List Use) (P : List Use → Use → Type 0) : Type 0 where
    pub front : List Use
    pub here : Use
    pub behind : List Use
    pub split : us ≡ front ++ here ∷ behind
    pub holds : P behind here

  -- a use among others, of which the first is another one
  pub found-behind : (u : Use) (us : List Use) (P : List Use → Use → Type 0) → Found us P → Found (u ∷ us) P
  found-behind u us P found = record {
    front = u ∷ found.front;
    here = found.here;
    behind = found.behind;
    split = ap (λ (xs : List Use). u ∷ xs) found.split;
    holds = found.holds;
  }

  -- a use that is there is somewhere
  pub found-in : (us : List Use) (u : Use) → Contains us u → Found us (λ behind x. x ≡ u)
  found-in [] u held = absurd (Contains-none u held)
  found-in (x ∷ us) u held = elim (Contains-cases x us u held) [
    | inl own ↦ record { front = []; here = x; behind = us; split = refl; holds = own }
    | inr rest ↦ found-behind x us (λ behind y. y ≡ u) (found-in us u rest)
  ]

  -- each place comes from a use
  pub comes : (us : List Use) (v : ℕ) (p : OperandPlace) → Contains (needs_by inputs us v) p → Found us (λ behind u. IsBrought behind u v p)
  unfolding needs_by
  comes [] v p held = absurd (Contains-none p held)
  comes (u ∷ us) v p held = elim (comes-from u us v p held) [
    | inl own ↦ record { front = []; here = u; behind = us; split = refl; holds = own }
    | inr behind ↦ found-behind u us (λ behind x. IsBrought behind x v p) (comes us v p behind)
  ]

  -- what comes to a value from later uses comes to it from all
  pub comes-all : (front us : List Use) (v : ℕ) (p : OperandPlace) → Contains (needs_by inputs us v) p → Contains (needs_by inputs (front ++ us) v) p
  comes-all [] us v p held = held
  comes-all (x ∷ front) us v p held = comes-behind x (front ++ us) v p (comes-all front us v p held)

  -- what a use brings has no two places of one product, if needs haven't
  brought-alone : (kind : Kind) (here : OperandPlace) (own : List OperandPlace) (p q : OperandPlace)
      → ((p q : OperandPlace) → Contains own p → Contains own q → p.value ≡ q.value → p.operand ≡ q.operand)
      → Contains (brought_by kind (here ∷ []) own) p → Contains (brought_by kind (here ∷ []) own) q → p.value ≡ q.value → p.operand ≡ q.operand
  brought-alone Public here own p q alone first second same = alone p q first second same
  brought-alone Linear here own p q alone first second same = alone p q first second same
  brought-alone Strong here own p q alone first second same =
      sym (ap (λ (x : OperandPlace). x.operand) (Contains-only here p first)) ∙ ap (λ (x : OperandPlace). x.operand) (Contains-only here q second)

  -- a place that comes by a use that isn't marked, and one that came before
  apart : (us : List Use) (u : Use) (p q : OperandPlace) → mark_by inputs us u ≡ false → Contains (brought inputs (needs_by inputs us) u) p
      → Contains (needs_by inputs us u.operand) q → p.value ≡ q.value → p.operand ≡ q.operand
  apart us u p q kept brings held same = elim (cases_eq p.operand q.operand) [
    | inl equal ↦ equal
    | inr differ ↦
        absurd (false≢true (sym kept ∙ clash-at (needs_by inputs us u.operand) (brought inputs (needs_by inputs us) u)
        (record { first = q; second = p; held = held; there = brings; same = sym same; differ = λ e. differ (sym e) })))
  ]

  -- no value comes to two places of one product
  pub alone : (us : List Use) (v : ℕ) (p q : OperandPlace) → Contains (needs_by inputs us v) p → Contains (needs_by inputs us v) q → p.value ≡ q.value
      → p.operand ≡ q.operand
  unfolding needs_by
  alone [] v p q first second same = absurd (Contains-none p first)
  alone (u ∷ us) v p q first second same = elim (comes-from u us v p first) [
    | inl own ↦ elim (comes-from u us v q second) [
      | inl also ↦
          brought-alone u.kind (record { value = u.value; operand = u.place }) (needs_by inputs us (inputs + u.value)) p q (alone us (inputs + u.value)) own.brings also.brings same
      | inr behind ↦ apart us u p q own.kept own.brings (subst (λ (w : ℕ). Contains (needs_by inputs us w) q) own.same behind) same
    ]
    | inr behind ↦ elim (comes-from u us v q second) [
      | inl also ↦
          sym (apart us u q p also.kept also.brings (subst (λ (w : ℕ). Contains (needs_by inputs us w) p) also.same behind) (sym same))
      | inr later ↦ alone us v p q behind later same
    ]
  ]

  -- one use stands before another by value and place
  abbrev pub IsBefore : Use → Use → Type 0
  IsBefore u x = (u.value < x.value) ⊎ ((u.value ≡ x.value) × (u.place < x.place))

  -- each use stands before those behind it
  unfoldable pub Ranked : List Use → Type 0
  Ranked [] = Unit {0}
  Ranked (u ∷ us) = ((x : Use) → Contains us x → IsBefore u x) × Ranked us

  -- a use that stands before another one isn't at its value and place
  before-other : (x u : Use) → IsBefore x u → (nat_eq u.value x.value && nat_eq u.place x.place) ≡ false
  before-other x u before = elim before [
    | inl lower ↦ and_left (nat_eq u.value x.value) (nat_eq u.place x.place) (ne_eqb u.value x.value (λ e. omega (arith, e, lower)))
    | inr level ↦ and_right (nat_eq u.value x.value) (nat_eq u.place x.place) (ne_eqb u.place x.place (λ e. omega (arith, e, level.1)))
  ]

  -- a use is marked where it clashes with those behind it
  pub marks-at : (front : List Use) (u : Use) (us : List Use) → Ranked (front ++ u ∷ us)
      → marks_by inputs (front ++ u ∷ us) u.value u.place ≡ mark_by inputs us u
  unfolding marks_by Ranked
  marks-at [] u us ranked =
      cond-true (nat_eq u.value u.value && nat_eq u.place u.place) (mark_by inputs us u) (marks_by inputs us u.value u.place)
      (and_from (nat_eq u.value u.value) (nat_eq u.place u.place) (eq-eqb u.value u.value refl) (eq-eqb u.place u.place refl))
  marks-at (x ∷ front) u us ranked =
      cond-false (nat_eq u.value x.value && nat_eq u.place x.place) (mark_by inputs (front ++ u ∷ us) x)
      (marks_by inputs (front ++ u ∷ us) u.value u.place)
      (before-other x u (ranked.0 u (Contains-append_right front (u ∷ us) u (Contains-front u us))))
      ∙ marks-at front u us ranked.1

  -- a marked use
  pub record IsMarked (i k : ℕ) (us : List Use) (u : Use) : Type 0 where
    pub value : i ≡ u.value
    pub place : k ≡ u.place
    pub is : mark_by inputs us u ≡ true

  -- each mark is that of a use
  pub marks-from : (us : List Use) (i k : ℕ) → marks_by inputs us i k ≡ true → Found us (λ behind u. IsMarked i k behind u)
  unfolding marks_by
  marks-from [] i k is = absurd (cc)
  marks-from (u ∷ us) i k is = elim (cases_Bool (nat_eq i u.value && nat_eq k u.place)) [
    | inl own ↦
        let parts : (nat_eq i u.value ≡ true) × (nat_eq k u.place ≡ true) = and-parts (nat_eq i u.value) (nat_eq k u.place) own in
        record {
          front = [];
          here = u;
          behind = us;
          split = refl;
          holds = record {
            value = eqb-true i u.value parts.0;
            place = eqb-true k u.place parts.1;
            is = sym (cond-true (nat_eq i u.value && nat_eq k u.place) (mark_by inputs us u) (marks_by inputs us i k) own) ∙ is;
          };
        }
    | inr other ↦
        found-behind u us (λ behind x. IsMarked i k behind x)
        (marks-from us i k (sym (cond-false (nat_eq i u.value && nat_eq k u.place) (mark_by inputs us u) (marks_by inputs us i k) other) ∙ is))
  ]
