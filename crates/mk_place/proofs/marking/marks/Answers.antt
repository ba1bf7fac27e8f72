-- Each value is gathered behind those after it, and the inputs behind all values.
use Rattle.std.proofs.Common.{rules, ◌≡◌, ◌⊎◌, ◌↔◌, ◌+◌, ◌-◌, ◌<◌, ◌≤◌, ◌++◌, ◌∷◌, [], ℕ, suc, List, length, take, drop, replicate, sym, ◌∙◌, ap, subst, arith, inl, inr}
use Rattle.std.proofs.lemmas.Bool.{cases_lt, cases_eq}
use Rattle.std.proofs.lemmas.List.{length-append, length-replicate}
use Rattle.mk_ssa.specs.declared.Op.{Op}
use Rattle.mk_ssa.specs.Values.{Values}
use Rattle.mk_place.specs.declared.marking.Fresh.{Fresh}
use Rattle.mk_place.specs.Marking.{HasRows, IsDue, IsMarked, IsNeed, final_need, inputs, unmarked}
use Rattle.mk_place.proofs.Marked.{IsSettled, none-marked, rows-more, settled-all, settled-more, used-within, written}
use Rattle.mk_place.proofs.marking.marks.Goals as goal

-- a number from this one on is it or one behind it
behind : (s : Values) (number n m : ℕ) → number ≡ inputs s + n → m ≡ suc n → (w : ℕ) → (inputs s + n ≤ w) ↔ ((inputs s + m ≤ w) ⊎ (w ≡ number))
behind s number n m at next w = (
  λ low. elim (cases_eq w number) [
    | inl here ↦ inr here
    | inr other ↦ inl (omega (arith, low, other, at, next))
  ],
  λ is. elim is [
    | inl later ↦ omega (arith, later, next)
    | inr here ↦ omega (arith, here, at)
  ],
)

-- one below the next is below this one or this one
below-next : (m n w : ℕ) → ((m ≤ w) ⊎ (w < n + 1)) ↔ (((m ≤ w) ⊎ (w < n)) ⊎ (w ≡ n))
below-next m n w = (
  λ is. elim is [
    | inl high ↦ inl (inl high)
    | inr low ↦ elim (cases_eq w n) [
      | inl here ↦ inr here
      | inr other ↦ inl (inr (omega (arith, low, other)))
    ]
  ],
  λ is. elim is [
    | inl before ↦ elim before [
      | inl high ↦ inl high
      | inr low ↦ inr (omega (arith, low))
    ]
    | inr here ↦ inr (omega (arith, here))
  ],
)

pub loop-done-init : goal.loop-done-init
loop-done-init c =
    let s : Values = c.args.s.now in
    let count : c.len-len.result ≡ length s.values = c.len-len.ensures.count ∙ ap (λ (xs : List Op). length xs) c.values.ensures.values in
    let none : c.in_ok-fresh.fresh.items ≡ replicate c.len-len.result unmarked = search (rules, c.in_ok-fresh.ensures.items_if_clones_equal) in
    record {
      len = count;
      first = omega (arith, c.secrets.ensures, c.publics.ensures);
      count = ap (λ (xs : List (List ℕ)). length xs) c.new-rows.ensures.items;
      rows = λ i low high. absurd (omega (arith, low, high, count));
      long = ap (λ (xs : List Fresh). length xs) none ∙ length-replicate c.len-len.result unmarked ∙ count;
      marks = λ i k. (
        λ on. absurd (none-marked c.len-len.result i k (subst (λ (f : List Fresh). IsMarked f i k) none on)),
        λ found. absurd (omega (arith, used-within s c.values.ensures.fits found.0 found.1, found.2, count)),
      );
    }

pub loop-done-preserved : goal.loop-done-preserved
loop-done-preserved c =
    let s : Values = c.args.s.now in
    let n : ℕ = c.len-len.result - (c.loop-done.done + 1) in
    let number : ℕ = c.secrets.result + c.publics.result + (c.len-len.result - 1 - c.loop-done.done) in
    let at : number ≡ inputs s + n = omega (arith, c.loop-done.invariant.first) in
    let before : c.len-len.result - c.loop-done.done ≡ suc n = omega (arith, c.loop-done-test.true) in
    let value : c.as_mut_slice.result.now ≡ c.loop-done.fresh.items = c.as_mut_slice.ensures.value in
    let fresh : take c.loop-done.fresh.len (c.gather.new.fresh ++ drop (length c.gather.new.fresh) c.loop-done.fresh.items) ≡ c.gather.new.fresh =
    written c.loop-done.fresh.len (drop (length c.gather.new.fresh) c.loop-done.fresh.items) c.gather.new.fresh
    (sym (c.in_ok-row.ensures.fresh ∙ c.as_mut_slice.ensures.len)) in
    record {
      len = c.loop-done.invariant.len;
      first = c.loop-done.invariant.first;
      count = ap (λ (xs : List (List ℕ)). length xs) c.in_ok-push.ensures.items
          ∙ omega (arith, length-append c.loop-done.rows.items (c.in_ok-row.row ∷ []), c.loop-done.invariant.count);
      rows = subst (λ (rows : List (List ℕ)). HasRows s rows c.in_ok-index.index.words n) (sym c.in_ok-push.ensures.items)
          (rows-more s c.loop-done.rows.items c.in_ok-row.row c.in_ok-index.index.words n
          (omega (arith, c.loop-done.invariant.count, c.loop-done.invariant.len, c.loop-done-test.true))
          (subst (λ (m : ℕ). HasRows s c.loop-done.rows.items c.in_ok-index.index.words m) before c.loop-done.invariant.rows)
          c.in_ok-row.ensures.count (subst (λ (m : ℕ). IsNeed s.values (final_need s m) c.in_ok-row.row) at c.in_ok-row.ensures.need));
      long = ap (λ (xs : List Fresh). length xs) fresh ∙ c.in_ok-row.ensures.fresh ∙ ap (λ (xs : List Fresh). length xs) value ∙ c.loop-done.invariant.long;
      marks = subst (λ (f : List Fresh). (i k : ℕ) → IsMarked f i k ↔ IsSettled s (λ w. inputs s + n ≤ w) i k) (sym fresh)
          (settled-more s (λ w. inputs s + (c.len-len.result - c.loop-done.done) ≤ w) (λ w. inputs s + n ≤ w) number c.loop-done.fresh.items c.gather.new.fresh
          (behind s number n (c.len-len.result - c.loop-done.done) at before) c.loop-done.invariant.marks
          (subst (λ (f : List Fresh). (i k : ℕ) → IsMarked c.gather.new.fresh i k ↔ (IsMarked f i k ⊎ IsDue s number i k)) value c.in_ok-row.ensures.marks));
    }

pub loop-number-preserved : goal.loop-number-preserved
loop-number-preserved c =
    let s : Values = c.args.s.now in
    let number : ℕ = c.loop-number.number in
    let value : c.as_mut_slice-in-loop-number.result.now ≡ c.loop-number.fresh.items = c.as_mut_slice-in-loop-number.ensures.value in
    let new : List Fresh = c.gather-in-loop-number.new.fresh in
    let fresh : take c.loop-number.fresh.len (new ++ drop (length new) c.loop-number.fresh.items) ≡ new =
    written c.loop-number.fresh.len (drop (length new) c.loop-number.fresh.items) new
    (sym (c.in_ok-gather.ensures.fresh ∙ c.as_mut_slice-in-loop-number.ensures.len)) in
    record {
      first = c.loop-number.invariant.first;
      rows = c.loop-number.invariant.rows;
      long = ap (λ (xs : List Fresh). length xs) fresh ∙ c.in_ok-gather.ensures.fresh ∙ ap (λ (xs : List Fresh). length xs) value ∙ c.loop-number.invariant.long;
      marks = subst (λ (f : List Fresh). (i k : ℕ) → IsMarked f i k ↔ IsSettled s (λ w. (inputs s ≤ w) ⊎ (w < number + 1)) i k) (sym fresh)
          (settled-more s (λ w. (inputs s ≤ w) ⊎ (w < number)) (λ w. (inputs s ≤ w) ⊎ (w < number + 1)) number c.loop-number.fresh.items new
          (below-next (inputs s) number) c.loop-number.invariant.marks
          (subst (λ (f : List Fresh). (i k : ℕ) → IsMarked new i k ↔ (IsMarked f i k ⊎ IsDue s number i k)) value c.in_ok-gather.ensures.marks));
    }

pub returns : goal.returns
returns c =
    let s : Values = c.args.s.now in
    settled-all s (λ w. (inputs s ≤ w) ⊎ (w < c.loop-number.number)) c.loop-number.fresh.items
    (λ w. elim (cases_lt w (inputs s)) [
      | inl low ↦ inr (omega (arith, low, c.loop-number-test.false, c.loop-number.invariant.first))
      | inr high ↦ inl high
    ])
    c.loop-number.invariant.long c.loop-number.invariant.marks
