-- Where entries stand while register code is allocated, and which registers are free.
use Rattle.std.proofs.Common.{◌≡◌, ◌≢◌, ◌⊎◌, ℕ, zero, suc, ◌+◌, ◌<◌, ◌≤◌, Bool, true, false, not, nat_eq, nat_lt, nat_le, ◌||◌, ◌&&◌, if◌then◌else◌, List, [], ◌∷◌, ◌++◌, length, set, slice_index, Option, Some, None, unwrap_or, inl, inr, refl, sym, ◌∙◌, ap, arith, subst, length-append}
use Rattle.std.specs.List.{AllByRecursion, range_with_len}
use Rattle.std.specs.declared.cmp.Reverse.{Reverse}
use Rattle.std.proofs.lemmas.Bool.{cases_Bool, cases_eq, eq-eqb, ne_eqb, lt-ltb, le-ltb, le-leb, lt-leb, ltb-true, ltb-false, or_left, or_right, true≢false, false≢true}
use Rattle.std.proofs.lemmas.List.{length-set, get_or_append_left, get_or_at}
use Rattle.std.proofs.lemmas.Option.{same_Some, none-some}
use Rattle.mk_code.specs.declared.instr.Instr.{Instr}
use Rattle.mk_regs.specs.Form.{operands}
use Rattle.mk_regs.specs.Renaming.{holding, position_in}
use Rattle.mk_regs.specs.Width.{is_among, is_read, live_count}
use Rattle.mk_regs.specs.Allocation.{is_unread, is_free, IsLeastFree}
use Rattle.mk_regs.specs.Tables.{one_where, times_free, IsTaken, freed}
use Rattle.mk_regs.proofs.Held.{IsTidy, tidy-step, holding-set, holding-other}
use Rattle.mk_regs.proofs.Running.{IsSet}
use Rattle.mk_regs.proofs.Counts.{count-different}

-- one number more
range-from : (a n : ℕ) → range_with_len a (suc n) ≡ range_with_len a n ++ (a + n) ∷ []
range-from a zero = ap (λ (b : ℕ). b ∷ []) (omega arith)
range-from a (suc n) = ap (λ (xs : List ℕ). a ∷ xs) (range-from (a + 1) n ∙ ap (λ (b : ℕ). range_with_len (a + 1) n ++ b ∷ []) (omega arith))

-- the numbers below one more
pub range-more : (n : ℕ) → range_with_len 0 (n + 1) ≡ range_with_len 0 n ++ n ∷ []
range-more n =
    let e : n + 1 ≡ suc n = omega arith in
    ap (range_with_len 0) e ∙ range-from 0 n ∙ ap (λ (b : ℕ). range_with_len 0 n ++ b ∷ []) (omega arith)

-- a number is below, the same or above
pub three-cases : (a b : ℕ) → (a < b) ⊎ ((a ≡ b) ⊎ (b < a))
three-cases a b = elim (cases_Bool (nat_lt a b)) [
  | inl less ↦ inl (ltb-true a b less)
  | inr other ↦ elim (cases_eq a b) [
    | inl same ↦ inr (inl same)
    | inr apart ↦ inr (inr (omega (arith, ltb-false a b other)))
  ]
]

-- one input more that may be free
pub inputs-more : (last : List ℕ) (e r : ℕ) → one_where (nat_lt r (e + 1) && nat_le (slice_index last r) 0)
    ≡ one_where (nat_lt r e && nat_le (slice_index last r) 0) + one_where (nat_le (slice_index last e) 0 && nat_eq e r)
inputs-more last e r = elim (three-cases r e) [
  | inl less ↦
      ap (λ (b : Bool). one_where (b && nat_le (slice_index last r) 0)) (lt-ltb r (e + 1) (omega arith))
      ∙ sym (first (nat_le (slice_index last r) 0) (nat_le (slice_index last e) 0) (nat_lt r e) (nat_eq e r) (lt-ltb r e less) (ne_eqb e r (λ i. absurd (omega arith))))
  | inr (inl same) ↦
      ap (λ (b : Bool). one_where (b && nat_le (slice_index last r) 0)) (lt-ltb r (e + 1) (omega arith))
      ∙ ap (λ (n : ℕ). one_where (nat_le (slice_index last n) 0)) same
      ∙ sym (second (nat_le (slice_index last r) 0) (nat_le (slice_index last e) 0) (nat_lt r e) (nat_eq e r) (le-ltb r e (omega arith)) (eq-eqb e r (sym same)))
  | inr (inr more) ↦
      ap (λ (b : Bool). one_where (b && nat_le (slice_index last r) 0)) (le-ltb r (e + 1) (omega arith))
      ∙ sym (third (nat_le (slice_index last r) 0) (nat_le (slice_index last e) 0) (nat_lt r e) (nat_eq e r) (le-ltb r e (omega arith)) (ne_eqb e r (λ i. absurd (omega arith))))
] where
  first : (l m a b : Bool) → a ≡ true → b ≡ false → one_where (a && l) + one_where (m && b) ≡ one_where l
  first true true true true x y = absurd (true≢false y)
  first true true true false x y = refl
  first true true false b x y = absurd (false≢true x)
  first true false true b x y = refl
  first true false false b x y = absurd (false≢true x)
  first false true true true x y = absurd (true≢false y)
  first false true true false x y = refl
  first false true false b x y = absurd (false≢true x)
  first false false true b x y = refl
  first false false false b x y = absurd (false≢true x)

  second : (l m a b : Bool) → a ≡ false → b ≡ true → one_where (a && l) + one_where (m && b) ≡ one_where m
  second l m true b x y = absurd (true≢false x)
  second l true false true x y = refl
  second l true false false x y = absurd (false≢true y)
  second l false false b x y = refl

  third : (l m a b : Bool) → a ≡ false → b ≡ false → one_where (a && l) + one_where (m && b) ≡ 0
  third l m true b x y = absurd (true≢false x)
  third l m false true x y = absurd (true≢false y)
  third l true false false x y = refl
  third l false false false x y = refl

-- where entries stand behind `position` of them, and which registers are free for the instructions that are left
pub record IsPlaced (outs : List ℕ) (position : ℕ) (rest : List Instr) (held : List (Option ℕ)) (register_of : List ℕ) (items : List (Reverse ℕ)) (next : ℕ) : Type 0 where
  pub tidy : IsTidy held position
  pub room : next ≤ length held
  pub full : (r : ℕ) → r < next → IsSet held r
  pub empty : (r : ℕ) → next ≤ r → holding held r ≡ None
  pub count : length register_of ≡ position
  pub placed : (p : ℕ) → p < position → is_read rest outs p ≡ true → holding held (slice_index register_of p) ≡ Some p
  pub free : (r : ℕ) → times_free items r ≡ one_where (nat_lt r next && is_free held rest outs r)

-- each of these entries stands in its register
abbrev pub AreAt : List (Option ℕ) → List ℕ → List ℕ → Type 0
AreAt held register_of qs = AllByRecursion (λ q. holding held (slice_index register_of q) ≡ Some q) qs

-- the register of an entry comes free once, where the entry is among them and isn't read later
freed-one : (held : List (Option ℕ)) (len : ℕ) (register_of last : List ℕ) (from r p : ℕ) (qs : List ℕ) → IsTidy held len → AreAt held register_of qs → holding held r ≡ Some p
    → freed register_of last from r qs ≡ one_where (is_among p qs && nat_le (slice_index last p) from)
freed-one held len register_of last from r p [] tidy at holds = refl
freed-one held len register_of last from r p (q ∷ qs) tidy at holds = elim (cases_eq q p) [
  | inl same ↦
      let here : holding held r ≡ Some q = holds ∙ ap (λ (n : ℕ). Some n) (sym same) in
      let stands : slice_index register_of q ≡ r = tidy.one (slice_index register_of q) r q at.0 here in
      subst (λ (n : ℕ). freed register_of last from r (q ∷ qs) ≡ one_where (is_among n (q ∷ qs) && nat_le (slice_index last n) from)) same
      (ap (λ (m : ℕ). (if is_among q qs then 0 else one_where (nat_le (slice_index last q) from && nat_eq (slice_index register_of q) r)) + m)
      (freed-one held len register_of last from r q qs tidy at.1 here)
      ∙ own (is_among q qs) (nat_le (slice_index last q) from) (nat_eq (slice_index register_of q) r) (nat_eq q q) (eq-eqb (slice_index register_of q) r stands) (eq-eqb q q refl))
  | inr other ↦
      let apart : slice_index register_of q ≢ r = λ e. other (same_Some q p (sym at.0 ∙ ap (holding held) e ∙ holds)) in
      ap (λ (m : ℕ). (if is_among q qs then 0 else one_where (nat_le (slice_index last q) from && nat_eq (slice_index register_of q) r)) + m)
      (freed-one held len register_of last from r p qs tidy at.1 holds)
      ∙ others (is_among q qs) (is_among p qs) (nat_le (slice_index last q) from) (nat_le (slice_index last p) from) (nat_eq (slice_index register_of q) r) (nat_eq q p)
      (ne_eqb (slice_index register_of q) r apart) (ne_eqb q p other)
] where
  own : (b l e n : Bool) → e ≡ true → n ≡ true → (if b then 0 else one_where (l && e)) + one_where (b && l) ≡ one_where ((n || b) && l)
  own b l false n x y = absurd (false≢true x)
  own b l true false x y = absurd (false≢true y)
  own true true true true x y = refl
  own true false true true x y = refl
  own false true true true x y = refl
  own false false true true x y = refl

  others : (c b l m e n : Bool) → e ≡ false → n ≡ false → (if c then 0 else one_where (l && e)) + one_where (b && m) ≡ one_where ((n || b) && m)
  others c b l m true n x y = absurd (true≢false x)
  others c b l m false true x y = absurd (true≢false y)
  others true true l true false false x y = refl
  others true true l false false false x y = refl
  others true false l m false false x y = refl
  others false true true true false false x y = refl
  others false true true false false false x y = refl
  others false true false true false false x y = refl
  others false true false false false false x y = refl
  others false false true m false false x y = refl
  others false false false m false false x y = refl

-- a register that holds nothing doesn't come free
freed-none : (held : List (Option ℕ)) (register_of last : List ℕ) (from r : ℕ) (qs : List ℕ) → AreAt held register_of qs → holding held r ≡ None
    → freed register_of last from r qs ≡ 0
freed-none held register_of last from r [] at holds = refl
freed-none held register_of last from r (q ∷ qs) at holds =
    let apart : slice_index register_of q ≢ r = λ e. none-some q (sym holds ∙ sym (ap (holding held) e) ∙ at.0) in
    ap (λ (m : ℕ). (if is_among q qs then 0 else one_where (nat_le (slice_index last q) from && nat_eq (slice_index register_of q) r)) + m)
    (freed-none held register_of last from r qs at.1 holds)
    ∙ nothing (is_among q qs) (nat_le (slice_index last q) from) (nat_eq (slice_index register_of q) r) (ne_eqb (slice_index register_of q) r apart) where
      -- what is in another register frees nothing
      nothing : (c l e : Bool) → e ≡ false → (if c then 0 else one_where (l && e)) + 0 ≡ 0
      nothing c l true x = absurd (true≢false x)
      nothing true l false x = refl
      nothing false true false x = refl
      nothing false false false x = refl

-- the operands of the next instruction stand at their register_of
pub operands-at : (outs : List ℕ) (position : ℕ) (c : Instr) (later : List Instr) (held : List (Option ℕ)) (register_of : List ℕ) (items : List (Reverse ℕ)) (next : ℕ)
    → IsPlaced outs position (c ∷ later) held register_of items next → AllByRecursion (λ q. q < position) (operands c) → AreAt held register_of (operands c)
unfolding is_read
operands-at outs position c later held register_of items next is below = each (operands c) below (λ p among. or_left (is_among p (operands c)) (is_read later outs p) among) where
  each : (qs : List ℕ) → AllByRecursion (λ q. q < position) qs → ((p : ℕ) → is_among p qs ≡ true → is_read (c ∷ later) outs p ≡ true) → AreAt held register_of qs
  each [] under reads = tt
  each (q ∷ qs) under reads = (
    is.placed q under.0 (reads q (or_left (nat_eq q q) (is_among q qs) (eq-eqb q q refl))),
    each qs under.1 (λ p among. reads p (or_right (nat_eq q p) (is_among p qs) among)),
  )

-- where no later reader is told, nothing is read
pub unread-told : (a m : ℕ) (b : Bool) → b ≡ nat_lt m a → nat_le a m ≡ not b
unread-told a m b told = elim (cases_Bool (nat_lt m a)) [
  | inl later ↦ lt-leb a m (ltb-true m a later) ∙ sym (ap not (told ∙ later))
  | inr none ↦ le-leb a m (ltb-false m a none) ∙ sym (ap not (told ∙ none))
]

-- behind the last reads of its operands, exactly the registers that are free for the later instructions are free
pub free-behind : (outs : List ℕ) (position : ℕ) (c : Instr) (later : List Instr) (held : List (Option ℕ)) (register_of last : List ℕ) (from : ℕ) (items after : List (Reverse ℕ)) (next : ℕ)
    → IsPlaced outs position (c ∷ later) held register_of items next → AllByRecursion (λ q. q < position) (operands c)
    → ((p : ℕ) → p < position → is_read later outs p ≡ nat_lt from (slice_index last p))
    → ((r : ℕ) → times_free after r ≡ times_free items r + freed register_of last from r (operands c))
    → (r : ℕ) → times_free after r ≡ one_where (nat_lt r next && is_free held later outs r)
unfolding is_read
free-behind outs position c later held register_of last from items after next is below told came r = elim (cases_Bool (nat_lt r next)) [
  | inl there ↦
      let here = is.full r (ltb-true r next there) in
      let p = here.0 in
      let a = is_among p (operands c) in
      let b = is_read later outs p in
      let at = operands-at outs position c later held register_of items next is below in
      came r
      ∙ ap (λ (m : ℕ). m + freed register_of last from r (operands c)) (is.free r)
      ∙ ap (λ (m : ℕ). one_where (nat_lt r next && is_free held (c ∷ later) outs r) + m) (freed-one held position register_of last from r p (operands c) is.tidy at here.1)
      ∙ ap (λ (m : Bool). one_where (nat_lt r next && is_free held (c ∷ later) outs r) + one_where (a && m))
      (unread-told (slice_index last p) from b (told p (is.tidy.below r p here.1)))
      ∙ ap (λ (o : Option ℕ). one_where (nat_lt r next && is_unread o (c ∷ later) outs) + one_where (a && not b)) here.1
      ∙ ap (λ (t : Bool). one_where (t && not (a || b)) + one_where (a && not b)) there
      ∙ both a b
      ∙ sym (ap (λ (t : Bool). one_where (t && not b)) there)
      ∙ sym (ap (λ (o : Option ℕ). one_where (nat_lt r next && is_unread o later outs)) here.1)
  | inr past ↦
      let none = is.empty r (ltb-false r next past) in
      let at = operands-at outs position c later held register_of items next is below in
      came r
      ∙ ap (λ (m : ℕ). m + freed register_of last from r (operands c)) (is.free r)
      ∙ ap (λ (t : Bool). one_where (t && is_free held (c ∷ later) outs r) + freed register_of last from r (operands c)) past
      ∙ ap (λ (m : ℕ). 0 + m) (freed-none held register_of last from r (operands c) at none)
      ∙ sym (ap (λ (t : Bool). one_where (t && is_free held later outs r)) past)
] where
  both : (a b : Bool) → one_where (not (a || b)) + one_where (a && not b) ≡ one_where (not b)
  both true true = refl
  both true false = refl
  both false true = refl
  both false false = refl

-- the least free register, taken
pub record IsChosen (outs : List ℕ) (later : List Instr) (held : List (Option ℕ)) (before after : List (Reverse ℕ)) (next behind to : ℕ) : Type 0 where
  pub least : IsLeastFree held later outs to
  pub from : ((to < next) × (behind ≡ next)) ⊎ ((to ≡ next) × (behind ≡ next + 1))
  pub gone : times_free after to ≡ 0
  pub others : (r : ℕ) → r ≢ to → times_free after r ≡ times_free before r

-- where the count of both is 0 and one holds, the other fails
none-where : (a b : Bool) → one_where (a && b) ≡ 0 → a ≡ true → b ≡ false
none-where true true none there = absurd (omega (arith, none))
none-where true false none there = refl
none-where false b none there = absurd (false≢true there)

-- where the count of both is above 0, both hold
some-where : (a b : Bool) → 0 < one_where (a && b) → (a ≡ true) × (b ≡ true)
some-where true true some = (refl, refl)
some-where true false some = absurd (omega (arith, some))
some-where false b some = absurd (omega (arith, some))

-- the register that is taken is the least free one, and no longer free
pub chosen : (outs : List ℕ) (later : List Instr) (held : List (Option ℕ)) (before after : List (Reverse ℕ)) (next behind to : ℕ)
    → ((r : ℕ) → next ≤ r → holding held r ≡ None)
    → ((r : ℕ) → times_free before r ≡ one_where (nat_lt r next && is_free held later outs r))
    → IsTaken before after next behind to → IsChosen outs later held before after next behind to
chosen outs later held before after next behind to empty free is = elim is.taken [
  | inl popped ↦
      let own : one_where (nat_eq to to) ≡ 1 = ap one_where (eq-eqb to to refl) in
      let most : one_where (nat_lt to next && is_free held later outs to) ≤ 1 = one-most (nat_lt to next && is_free held later outs to) in
      let both = some-where (nat_lt to next) (is_free held later outs to) (omega (arith, free to, popped.0 to, own)) in
      let under : to < next = ltb-true to next both.0 in
      record {
        least = record {
          free = both.1;
          least = λ s below. none-where (nat_lt s next) (is_free held later outs s) (sym (free s) ∙ is.least s below) (lt-ltb s next (omega arith));
        };
        from = inl (under, popped.1);
        gone = omega (arith, free to, popped.0 to, own, most);
        others = λ r other. let none : one_where (nat_eq to r) ≡ 0 = ap one_where (ne_eqb to r (λ e. other (sym e))) in omega (arith, popped.0 r, none);
      }
  | inr bumped ↦
      record {
        least = record {
          free = ap (λ (o : Option ℕ). is_unread o later outs) (empty to (omega (arith, bumped.1)));
          least = λ s below. none-where (nat_lt s next) (is_free held later outs s) (sym (free s) ∙ is.least s below) (lt-ltb s next (omega (arith, bumped.1)));
        };
        from = inr (bumped.1, bumped.2);
        gone = (bumped.0 to).1;
        others = λ r other. omega (arith, (bumped.0 r).0, (bumped.0 r).1);
      }
] where
  one-most : (b : Bool) → one_where b ≤ 1
  one-most true = omega arith
  one-most false = omega arith

-- the result stands in it
pub placed-step : (outs : List ℕ) (position : ℕ) (c : Instr) (later : List Instr) (held : List (Option ℕ)) (register_of last : List ℕ) (from : ℕ) (items before after ends : List (Reverse ℕ)) (next behind to : ℕ)
    → IsPlaced outs position (c ∷ later) held register_of items next
    → is_read later outs position ≡ nat_lt from (slice_index last position)
    → ((r : ℕ) → times_free before r ≡ one_where (nat_lt r next && is_free held later outs r))
    → IsChosen outs later held before after next behind to
    → ((r : ℕ) → times_free ends r ≡ times_free after r + one_where (nat_le (slice_index last position) from && nat_eq to r))
    → behind ≤ length held
    → IsPlaced outs (position + 1) later (set held to (Some position)) (register_of ++ to ∷ []) ends behind
unfolding is_read
placed-step outs position c later held register_of last from items before after ends next behind to is told free chose came room = record {
  tidy = tidy-step held position to is.tidy;
  room = omega (arith, length-set held to (Some position));
  full = full;
  empty = λ r past. holding-other held to position r (past-other r past) ∙ is.empty r (past-next r past);
  count = length-append register_of (to ∷ []) ∙ ap (λ (n : ℕ). n + 1) is.count;
  placed = placed;
  free = freely;
} where
  below : to < length held
  below = elim chose.from [ inl popped ↦ omega (arith, popped.0, popped.1) | inr bumped ↦ omega (arith, bumped.0, bumped.1) ]

  past-other : (r : ℕ) → behind ≤ r → r ≢ to
  past-other r past e = elim chose.from [ inl popped ↦ absurd (omega (arith, popped.0, popped.1, e)) | inr bumped ↦ absurd (omega (arith, bumped.0, bumped.1, e)) ]

  past-next : (r : ℕ) → behind ≤ r → next ≤ r
  past-next r past = elim chose.from [ inl popped ↦ omega (arith, popped.1) | inr bumped ↦ omega (arith, bumped.1) ]

  under : (r : ℕ) → r < behind → r ≢ to → r < next
  under r less other = elim chose.from [ inl popped ↦ omega (arith, popped.1) | inr bumped ↦ omega (arith, bumped.0, bumped.1) ]

  full : (r : ℕ) → r < behind → IsSet (set held to (Some position)) r
  full r less = elim (cases_eq r to) [
    | inl same ↦ (position, ap (holding (set held to (Some position))) same ∙ holding-set held to position below)
    | inr other ↦
        let here = is.full r (under r less other) in
        (here.0, holding-other held to position r other ∙ here.1)
  ]

  unfree : (p : ℕ) → holding held to ≡ Some p → is_read later outs p ≡ true → ⊥
  unfree p holds read = false≢true (sym (ap not read) ∙ sym (ap (λ (o : Option ℕ). is_unread o later outs) holds) ∙ chose.least.free)

  placed : (p : ℕ) → p < position + 1 → is_read later outs p ≡ true → holding (set held to (Some position)) (slice_index (register_of ++ to ∷ []) p) ≡ Some p
  placed p less read = elim (cases_eq p position) [
    | inl same ↦
        let at : slice_index (register_of ++ to ∷ []) p ≡ to = get_or_at register_of to [] 0 p (is.count ∙ sym same) in
        ap (holding (set held to (Some position))) at ∙ holding-set held to position below ∙ ap (λ (n : ℕ). Some n) (sym same)
    | inr other ↦
        let short : p < length register_of = omega (arith, is.count) in
        let at : slice_index (register_of ++ to ∷ []) p ≡ slice_index register_of p = get_or_append_left register_of (to ∷ []) 0 p short in
        let stood : holding held (slice_index register_of p) ≡ Some p = is.placed p (omega arith) (or_right (is_among p (operands c)) (is_read later outs p) read) in
        ap (holding (set held to (Some position))) at
        ∙ holding-other held to position (slice_index register_of p) (λ e. unfree p (sym (ap (holding held) e) ∙ stood) read) ∙ stood
  ]

  to-behind : (r : ℕ) → r ≡ to → r < behind
  to-behind r same = elim chose.from [ inl popped ↦ omega (arith, popped.0, popped.1) | inr bumped ↦ omega (arith, bumped.0, bumped.1) ]

  whole : (b : Bool) → 0 + one_where (not b && true) ≡ one_where (true && not b)
  whole true = refl
  whole false = refl

  nothing : (n : ℕ) (b : Bool) → n + one_where (b && false) ≡ n
  nothing n true = omega arith
  nothing n false = omega arith

  same-side : (r : ℕ) → r ≢ to → nat_lt r next ≡ nat_lt r behind
  same-side r other = elim chose.from [
    | inl popped ↦ ap (nat_lt r) (sym popped.1)
    | inr bumped ↦ elim (cases_Bool (nat_lt r next)) [
      | inl less ↦ less ∙ sym (lt-ltb r behind (omega (arith, bumped.1, ltb-true r next less)))
      | inr more ↦ more ∙ sym (le-ltb r behind (omega (arith, bumped.0, bumped.1, ltb-false r next more)))
    ]
  ]

  freely : (r : ℕ) → times_free ends r ≡ one_where (nat_lt r behind && is_free (set held to (Some position)) later outs r)
  freely r = elim (cases_eq r to) [
    | inl same ↦
        let in_behind : nat_lt r behind ≡ true = lt-ltb r behind (to-behind r same) in
        came r ∙ ap (λ (m : ℕ). m + one_where (nat_le (slice_index last position) from && nat_eq to r)) (ap (times_free after) same ∙ chose.gone)
        ∙ ap (λ (b : Bool). 0 + one_where (nat_le (slice_index last position) from && b)) (eq-eqb to r (sym same))
        ∙ ap (λ (b : Bool). 0 + one_where (b && true)) (unread-told (slice_index last position) from (is_read later outs position) told)
        ∙ whole (is_read later outs position)
        ∙ sym (ap (λ (o : Option ℕ). one_where (nat_lt r behind && is_unread o later outs)) (ap (holding (set held to (Some position))) same ∙ holding-set held to position below)
        ∙ ap (λ (b : Bool). one_where (b && not (is_read later outs position))) in_behind)
    | inr other ↦
        came r ∙ ap (λ (b : Bool). times_free after r + one_where (nat_le (slice_index last position) from && b)) (ne_eqb to r (λ e. other (sym e)))
        ∙ nothing (times_free after r) (nat_le (slice_index last position) from)
        ∙ chose.others r other ∙ free r
        ∙ ap (λ (b : Bool). one_where (b && is_free held later outs r)) (same-side r other)
        ∙ sym (ap (λ (o : Option ℕ). one_where (nat_lt r behind && is_unread o later outs)) (holding-other held to position r other))
  ]

-- a register that was never used is taken only where as many entries are live
pub bumped-width : (outs : List ℕ) (position : ℕ) (later : List Instr) (held : List (Option ℕ)) (next : ℕ)
    → IsTidy held position → ((r : ℕ) → r < next → IsSet held r) → next < length held → IsLeastFree held later outs next
    → next + 1 ≤ live_count position later outs
bumped-width outs position later held next tidy full room least =
    let e : next + 1 ≡ suc next = omega arith in
    subst (λ (n : ℕ). n ≤ live_count position later outs) (sym e)
    (count-different (suc next) (position + 1) (λ p. nat_eq p position || is_read later outs p) at pass different) where
      -- what registers hold behind the write
      behind : List (Option ℕ)
      behind = set held next (Some position)

      -- that is tidy
      tidies : IsTidy behind (position + 1)
      tidies = tidy-step held position next tidy

      -- all registers up to the one written hold entries
      fulls : (r : ℕ) → r < suc next → IsSet behind r
      fulls r less = elim (cases_eq r next) [
        | inl same ↦ (position, ap (holding behind) same ∙ holding-set held next position room)
        | inr other ↦ let here = full r (omega arith) in (here.0, holding-other held next position r other ∙ here.1)
      ]

      -- the position of the entry that a register holds behind the write
      at : ℕ → ℕ
      at r = position_in behind r

      -- it is the one that is known to be held
      at-is : (r : ℕ) (less : r < suc next) → at r ≡ (fulls r less).0
      at-is r less = ap (λ (o : Option ℕ). unwrap_or o 0) (fulls r less).1

      -- what holds where its contrary fails
      unnot : (b : Bool) → not b ≡ false → b ≡ true
      unnot true x = refl
      unnot false x = absurd (true≢false x)

      -- each of these positions is there, and is the one written or read later
      pass : (r : ℕ) → r < suc next → (at r < position + 1) × ((nat_eq (at r) position || is_read later outs (at r)) ≡ true)
      pass r less = (
        omega (arith, at-is r less, tidies.below r (fulls r less).0 (fulls r less).1),
        elim (cases_eq r next) [
          | inl same ↦
              let own : at r ≡ position = ap (λ (o : Option ℕ). unwrap_or o 0) (ap (holding behind) same ∙ holding-set held next position room) in
              or_left (nat_eq (at r) position) (is_read later outs (at r)) (eq-eqb (at r) position own)
          | inr other ↦
              let here = full r (omega arith) in
              let own : at r ≡ here.0 = ap (λ (o : Option ℕ). unwrap_or o 0) (holding-other held next position r other ∙ here.1) in
              let read : not (is_read later outs here.0) ≡ false = sym (ap (λ (o : Option ℕ). is_unread o later outs) here.1) ∙ least.least r (omega arith) in
              or_right (nat_eq (at r) position) (is_read later outs (at r)) (ap (is_read later outs) own ∙ unnot (is_read later outs here.0) read)
        ],
      )

      -- different registers hold different entries
      different : (r s : ℕ) → r < suc next → s < suc next → at r ≡ at s → r ≡ s
      different r s left right same =
          tidies.one r s (fulls r left).0 (fulls r left).1
          ((fulls s right).1 ∙ ap (λ (n : ℕ). Some n) (sym (at-is s right) ∙ sym same ∙ at-is r left))

-- what is taken leaves the next register, or one more
pub taken-next : (before after : List (Reverse ℕ)) (next behind to : ℕ) → IsTaken before after next behind to → (next ≤ behind) × (behind ≤ next + 1)
taken-next before after next behind to is = elim is.taken [
  | inl popped ↦ (omega (arith, popped.1), omega (arith, popped.1))
  | inr bumped ↦ (omega (arith, bumped.2), omega (arith, bumped.2))
]
