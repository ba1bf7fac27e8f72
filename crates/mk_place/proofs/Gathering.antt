-- The uses of one value, from the last to the first: what each brings is known before it, and each makes one more place of
-- its list of uses.
use Rattle.std.proofs.Common.{◌≡◌, ℕ, suc, ◌+◌, ◌/◌, ◌%◌, ◌<◌, Bool, List, [], ◌∷◌, ◌++◌, length, get_or, replicate, slice_index, slice_index_or, refl, sym, ◌∙◌, ap, subst, arith, inl, inr, append_assoc}
use Rattle.std.specs.List.{Contains}
use Rattle.std.proofs.lemmas.Bool.{cases_eq, cases_lt}
use Rattle.std.proofs.lemmas.List.{append-nil, length-append, length-replicate, get_or_append_left, get_or_past, get_or_push, get_or-replicate}
use Rattle.std.specs.Int.{bit_at}
use Rattle.std.proofs.lemmas.Nat.Bits.{bit_at-zero}
use Rattle.std.proofs.lemmas.List.Elements.{Contains-append_right}
use Rattle.std.proofs.lemmas.Option.{get_or_from_slice_get, slice_get_within}
use Rattle.mk_ssa.specs.declared.Op.TheVariants.{Const}
use Rattle.mk_ssa.specs.Kinds.{Kind, kind}
use Rattle.mk_ssa.specs.Values.{Values, IsValues}
use Rattle.mk_rules.specs.Rows.{HasBit}
use Rattle.mk_rules.specs.declared.uses.OperandPlace.{OperandPlace}
use Rattle.mk_rules.proofs.Probes.{Contains-more, Contains-front}
use Rattle.mk_rules.proofs.Noting.{noted-other, noted-own, place_of}
use Rattle.mk_rules.proofs.Using.{IsUse, use-is}
use Rattle.mk_rules.specs.Uses.{Use, last_first, place_of_use, shared_numbers}
use Rattle.mk_place.specs.Uses.{uses, shape_of_values}
use Rattle.mk_place.specs.Needs.{clash, added, brought_by, brought, needs_by, marks_by}
use Rattle.mk_place.specs.Marking.{IsNeed, all_marks, brings, final_need, inputs}
use Rattle.mk_place.proofs.Flow.{Ranked, marks-at, needs-cons, with_use-own, with_use-other}
use Rattle.mk_place.proofs.Using.{use-before, uses-ranked}
use Rattle.mk_place.proofs.Wiring.{operands-before}
use Rattle.mk_place.proofs.Reaching.{before-unused, split-more}
use Rattle.mk_place.proofs.Standing.{need-none}

-- uses of other values before some uses leave a value's need
pub needs-front : (inputs : ℕ) (front us : List Use) (v : ℕ) → ((x : Use) → Contains front x → x.operand ≡ v → ⊥)
    → needs_by inputs (front ++ us) v ≡ needs_by inputs us v
needs-front inputs [] us v unused = refl
needs-front inputs (x ∷ front) us v unused =
    needs-cons inputs x (front ++ us) v
    ∙ with_use-other inputs (needs_by inputs (front ++ us)) x v (λ e. unused x (Contains-front x front) (sym e))
    ∙ needs-front inputs front us v (λ y held. unused y (Contains-more x front y held))

-- the use of a value that has as many uses of it behind it, by where it stands
pub record IsTurn (inputs v j : ℕ) (us : List Use) : Type 0 where
  pub front : List Use
  pub here : Use
  pub behind : List Use
  pub split : us ≡ front ++ here ∷ behind
  pub own : here.operand ≡ v
  pub before : length (last_first v behind) ≡ j
  pub at : get_or (last_first v us) j (place_of 0 0) ≡ place_of_use here
  pub first : suc j ≡ length (last_first v us) → needs_by inputs us v ≡ needs_by inputs (here ∷ behind) v

-- there is one for each place of the list
pub turn : (inputs v : ℕ) (us : List Use) (j : ℕ) → j < length (last_first v us) → IsTurn inputs v j us
unfolding last_first
turn inputs v [] j below = absurd (omega (arith, below))
turn inputs v (u ∷ us) j below = elim (cases_eq u.operand v) [
  | inl own ↦
      let long : length (last_first v (u ∷ us)) ≡ length (last_first v us) + 1 =
      ap (λ (ps : List OperandPlace). length ps) (noted-own v u us own) ∙ length-append (last_first v us) (place_of_use u ∷ []) in
      elim (cases_lt j (length (last_first v us))) [
        | inl inner ↦
            let t : IsTurn inputs v j us = turn inputs v us j inner in
            record {
              front = u ∷ t.front;
              here = t.here;
              behind = t.behind;
              split = ap (λ (xs : List Use). u ∷ xs) t.split;
              own = t.own;
              before = t.before;
              at = ap (λ (ps : List OperandPlace). get_or ps j (place_of 0 0)) (noted-own v u us own)
                  ∙ get_or_append_left (last_first v us) (place_of_use u ∷ []) (place_of 0 0) j inner ∙ t.at;
              first = λ e. absurd (omega (arith, e, long, inner));
            }
        | inr outer ↦
            let e : length (last_first v us) ≡ j = omega (arith, below, long, outer) in
            record {
              front = [];
              here = u;
              behind = us;
              split = refl;
              own = own;
              before = e;
              at = ap (λ (ps : List OperandPlace). get_or ps j (place_of 0 0)) (noted-own v u us own)
                  ∙ get_or_push (last_first v us) (place_of_use u) (place_of 0 0) j e;
              first = λ all. refl;
            }
      ]
  | inr other ↦
      let same : last_first v (u ∷ us) ≡ last_first v us = noted-other v u us other in
      let long : length (last_first v (u ∷ us)) ≡ length (last_first v us) = ap (λ (ps : List OperandPlace). length ps) same in
      let t : IsTurn inputs v j us = turn inputs v us j (omega (arith, below, long)) in
      record {
        front = u ∷ t.front;
        here = t.here;
        behind = t.behind;
        split = ap (λ (xs : List Use). u ∷ xs) t.split;
        own = t.own;
        before = t.before;
        at = ap (λ (ps : List OperandPlace). get_or ps j (place_of 0 0)) same ∙ t.at;
        first = λ e. needs-cons inputs u us v ∙ with_use-other inputs (needs_by inputs us) u v (λ x. other (sym x)) ∙ t.first (omega (arith, e, long));
      }
]

-- uses before others are noted behind them
pub noted-front : (v : ℕ) (front us : List Use) → (more : List OperandPlace) × (last_first v (front ++ us) ≡ last_first v us ++ more)
noted-front v [] us = ([], sym (append-nil (last_first v us)))
noted-front v (x ∷ front) us =
    let rest = noted-front v front us in
    elim (cases_eq x.operand v) [
      | inl own ↦ (
        rest.0 ++ place_of_use x ∷ [],
        noted-own v x (front ++ us) own ∙ ap (λ (ps : List OperandPlace). ps ++ place_of_use x ∷ []) rest.1
            ∙ append_assoc (last_first v us) rest.0 (place_of_use x ∷ []),
      )
      | inr other ↦ (rest.0, noted-other v x (front ++ us) other ∙ rest.1)
    ]

module _ (s : Values) (is : IsValues s) (front : List Use) (u : Use) (behind : List Use) (split : uses s ≡ front ++ u ∷ behind) where
  -- the use is one of them
  pub here-in : Contains (uses s) u
  here-in = subst (λ (us : List Use). Contains us u) (sym split) (Contains-append_right front (u ∷ behind) u (Contains-front u behind))

  -- by a value that is there
  pub here-there : u.value < length s.values
  here-there = let found : IsUse (shape_of_values s) s.values u = use-is (shape_of_values s) s.values u here-in in slice_get_within s.values u.value found.op found.there

  -- at one of two places
  pub here-two : u.place < 2
  here-two =
      let found : IsUse (shape_of_values s) s.values u = use-is (shape_of_values s) s.values u here-in in
      omega (arith, slice_get_within (shared_numbers (shape_of_values s) found.op) u.place u.operand found.operand, (operands-before s is u.value found.op found.there).short)

  -- behind the value that is used
  pub here-behind : u.operand < inputs s + u.value
  here-behind = use-before s is u here-in

  -- what it brings is what it brings in the end
  pub brings-same : brought (inputs s) (needs_by (inputs s) behind) u ≡ brings s (place_of_use u)
  brings-same =
      let found : IsUse (shape_of_values s) s.values u = use-is (shape_of_values s) s.values u here-in in
      let op : slice_index_or s.values u.value (Const 0) ≡ found.op = get_or_from_slice_get s.values u.value found.op (Const 0) found.there in
      let whole : (front ++ u ∷ []) ++ behind ≡ uses s = append_assoc front (u ∷ []) behind ∙ sym split in
      let own : needs_by (inputs s) behind (inputs s + u.value) ≡ final_need s (inputs s + u.value) =
      sym (needs-front (inputs s) (front ++ u ∷ []) behind (inputs s + u.value) (λ x held at. before-unused s is front u behind x split held at))
      ∙ ap (λ (us : List Use). needs_by (inputs s) us (inputs s + u.value)) whole in
      ap (λ (k : Kind). brought_by k (place_of_use u ∷ []) (needs_by (inputs s) behind (inputs s + u.value))) (found.same ∙ ap kind (sym op))
      ∙ ap (brought_by (kind (slice_index_or s.values u.value (Const 0))) (place_of_use u ∷ [])) own

  -- the need with the use
  pub need-step : (v : ℕ) → u.operand ≡ v → needs_by (inputs s) (u ∷ behind) v ≡ added (needs_by (inputs s) behind v) (brings s (place_of_use u))
  need-step v own =
      needs-cons (inputs s) u behind v ∙ with_use-own (inputs s) (needs_by (inputs s) behind) u v (sym own)
      ∙ ap (λ (w : ℕ). added (needs_by (inputs s) behind w) (brought (inputs s) (needs_by (inputs s) behind) u)) own
      ∙ ap (added (needs_by (inputs s) behind v)) brings-same

  -- its mark
  pub mark-step : (v : ℕ) → u.operand ≡ v → all_marks s u.value u.place ≡ clash (needs_by (inputs s) behind v) (brings s (place_of_use u))
  mark-step v own =
      let ranked : Ranked (inputs s) (front ++ u ∷ behind) = subst (Ranked (inputs s)) split (uses-ranked s) in
      ap (λ (us : List Use). marks_by (inputs s) us u.value u.place) split
      ∙ marks-at (inputs s) front u behind ranked
      ∙ ap (λ (w : ℕ). clash (needs_by (inputs s) behind w) (brought (inputs s) (needs_by (inputs s) behind) u)) own
      ∙ ap (clash (needs_by (inputs s) behind v)) brings-same

-- the row stands for the need by the uses that have so many uses of the value among them
abbrev pub Stands : Values → ℕ → ℕ → List ℕ → Type 0
Stands s v at row = (front behind : List Use) → uses s ≡ front ++ behind → length (last_first v behind) ≡ at
    → IsNeed s.values (needs_by (inputs s) behind v) row

-- without uses there is no need
pub unused-none : (inputs v : ℕ) (us : List Use) → length (last_first v us) ≡ 0 → needs_by inputs us v ≡ []
unfolding needs_by
unused-none inputs v [] none = refl
unused-none inputs v (u ∷ us) none = elim (cases_eq u.operand v) [
  | inl own ↦
      absurd (omega (arith, none, ap (λ (ps : List OperandPlace). length ps) (noted-own v u us own), length-append (last_first v us) (place_of_use u ∷ [])))
  | inr other ↦
      needs-cons inputs u us v ∙ with_use-other inputs (needs_by inputs us) u v (λ e. other (sym e))
      ∙ unused-none inputs v us (sym (ap (λ (ps : List OperandPlace). length ps) (noted-other v u us other)) ∙ none)
]

-- so a row without bits stands for it
pub stands-none : (s : Values) (v : ℕ) (row : List ℕ) → ((k : ℕ) → HasBit row k → ⊥) → Stands s v 0 row
stands-none s v row empty front behind split none =
    subst (λ (need : List OperandPlace). IsNeed s.values need row) (sym (unused-none (inputs s) v behind none)) (need-none s.values row empty)

-- a row of zeros has no bit
pub zeros-empty : (n k : ℕ) → HasBit (replicate n 0) k → ⊥
zeros-empty n k set = omega (arith, set, ap (λ (w : ℕ). bit_at w (k % 64)) zero-word, bit_at-zero (k % 64))
  where
    zero-word : slice_index (replicate n 0) (k / 64) ≡ 0
    zero-word = elim (cases_lt (k / 64) n) [
      | inl inside ↦ get_or-replicate n (k / 64) 0 0 inside
      | inr past ↦ get_or_past (replicate n 0) (k / 64) 0 (omega (arith, length-replicate {A = ℕ} n 0, past))
    ]

module _ (s : Values) (is : IsValues s) (v at : ℕ) (row : List ℕ) (p : OperandPlace) (below : at < length (last_first v (uses s)))
    (p_is : p ≡ get_or (last_first v (uses s)) at (place_of 0 0)) (stands : Stands s v at row) where
  -- the use that is at the place
  next : IsTurn (inputs s) v at (uses s)
  next = turn (inputs s) v (uses s) at below

  -- the position looked at is that of the use of this turn
  next-same : p ≡ place_of_use next.here
  next-same = p_is ∙ next.at

  -- it is by a value that is there
  pub next-there : p.value < length s.values
  next-there = omega (arith, ap (λ (q : OperandPlace). q.value) next-same, here-there s is next.front next.here next.behind next.split)

  -- at one of two places
  pub next-two : p.operand < 2
  next-two = omega (arith, ap (λ (q : OperandPlace). q.operand) next-same, here-two s is next.front next.here next.behind next.split)

  -- behind the value that is used
  pub next-behind : v < inputs s + p.value
  next-behind =
      omega (arith, ap (λ (q : OperandPlace). q.value) next-same, next.own, here-behind s is next.front next.here next.behind next.split)

  -- what clashes is what is to be marked
  pub next-answer : (clashes : Bool) → ((need : List OperandPlace) → IsNeed s.values need row → clashes ≡ clash need (brings s p))
      → clashes ≡ all_marks s p.value p.operand
  next-answer clashes answers =
      let need : List OperandPlace = needs_by (inputs s) next.behind v in
      let whole : uses s ≡ (next.front ++ next.here ∷ []) ++ next.behind = next.split ∙ sym (append_assoc next.front (next.here ∷ []) next.behind) in
      answers need (stands (next.front ++ next.here ∷ []) next.behind whole next.before) ∙ ap (λ (q : OperandPlace). clash need (brings s q)) next-same
      ∙ sym (mark-step s is next.front next.here next.behind next.split v next.own) ∙ ap (λ (q : OperandPlace). all_marks s q.value q.operand) (sym next-same)

  -- and the row that is left stands for one use more
  pub next-stands : (new : List ℕ) → ((need : List OperandPlace) → IsNeed s.values need row → IsNeed s.values (added need (brings s p)) new)
      → Stands s v (at + 1) new
  next-stands new taken front behind split count =
      let t : IsTurn (inputs s) v at behind = turn (inputs s) v behind at (omega (arith, count)) in
      let whole : uses s ≡ (front ++ t.front) ++ t.here ∷ t.behind = split-more (uses s) front behind t.front t.behind t.here split t.split in
      let apart : uses s ≡ ((front ++ t.front) ++ t.here ∷ []) ++ t.behind = whole ∙ sym (append_assoc (front ++ t.front) (t.here ∷ []) t.behind) in
      let more = noted-front v front behind in
      let same : p ≡ place_of_use t.here =
      p_is ∙ ap (λ (us : List Use). get_or (last_first v us) at (place_of 0 0)) split ∙ ap (λ (ps : List OperandPlace). get_or ps at (place_of 0 0)) more.1
      ∙ get_or_append_left (last_first v behind) more.0 (place_of 0 0) at (omega (arith, count)) ∙ t.at in
      let need : List OperandPlace = needs_by (inputs s) t.behind v in
      let is_next : needs_by (inputs s) behind v ≡ added need (brings s p) =
      t.first (omega (arith, count)) ∙ need-step s is (front ++ t.front) t.here t.behind whole v t.own ∙ ap (λ (q : OperandPlace). added need (brings s q)) (sym same) in
      subst (λ (ps : List OperandPlace). IsNeed s.values ps new) (sym is_next)
      (taken need (stands ((front ++ t.front) ++ t.here ∷ []) t.behind apart t.before))
