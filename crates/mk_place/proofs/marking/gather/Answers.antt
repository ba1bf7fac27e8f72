-- Each use is taken behind those after it.
use Rattle.std.proofs.Common.{rules, ◌≡◌, ◌⊎◌, ◌↔◌, ◌+◌, ◌<◌, ◌++◌, ◌∷◌, [], ℕ, List, length, take, drop, replicate, slice_index_or, refl, sym, ◌∙◌, ap, subst, arith, inl, inr}
use Rattle.std.proofs.lemmas.List.{get_or_default, length-replicate, take_all, take_more}
use Rattle.mk_ssa.specs.Values.{Values}
use Rattle.mk_rules.specs.declared.uses.OperandPlace.{OperandPlace}
use Rattle.mk_rules.proofs.Probes.{Contains-none}
use Rattle.mk_rules.proofs.Noting.{place_of}
use Rattle.mk_rules.specs.Uses.{last_first}
use Rattle.mk_place.specs.declared.marking.Fresh.{Fresh}
use Rattle.mk_place.specs.Uses.{uses}
use Rattle.mk_place.specs.Marking.{HasRow, IsMarked, IsNeed, all_marks, final_need, inputs}
use Rattle.mk_place.proofs.Gathering.{Stands, stands-none, zeros-empty, next-there, next-two, next-behind, next-answer, next-stands}
use Rattle.mk_place.proofs.Marked.{IsAmong, among-still, among-more, among-due, due-among, written}
use Rattle.mk_place.proofs.marking.gather.Goals as goal
use Rattle.mk_place.proofs.marking.gather.Goals.{then-take, else-take}

-- the place of the next use
abbrev place_at : List OperandPlace → ℕ → OperandPlace
place_at ps at = slice_index_or ps at (place_of 0 0)

-- it is one of the value's
within : (s : Values) (v at : ℕ) (ps : List OperandPlace) → ps ≡ last_first v (uses s) → at < length ps → at < length (last_first v (uses s))
within s v at ps same below = omega (arith, below, ap (λ (qs : List OperandPlace). length qs) same)

pub loop-at-init : goal.loop-at-init
loop-at-init c =
    let s : Values = c.args.s.now in
    let zeros : c.in_ok-row.row.items ≡ replicate c.args.index.now.words 0 = search (rules, c.in_ok-row.ensures.items_if_clones_equal) in
    record {
      noted = c.as_slice-uses.ensures.items ∙ c.index.ensures
          ∙ get_or_default c.args.index.now.uses.items c.args.number c.index.result.now [] (omega (arith, c.requires.index.noted_all.count, c.requires.there))
          ∙ c.requires.index.noted_all.each c.args.number c.requires.there;
      words = ap (λ (xs : List ℕ). length xs) zeros ∙ length-replicate {A = ℕ} c.args.index.now.words 0;
      stands = subst (Stands s c.args.number 0) (sym zeros)
          (stands-none s c.args.number (replicate c.args.index.now.words 0) (zeros-empty c.args.index.now.words));
      count = c.requires.fresh;
      marks = λ i k. (
        λ on. inl on,
        λ is. elim is [
          | inl before ↦ before
          | inr among ↦ absurd (Contains-none (place_of i k) among.0)
        ],
      );
    }

pub take-requires-clause-there : goal.take-requires-clause-there
take-requires-clause-there c =
    next-there c.args.s.now c.requires.fits c.args.number c.loop-at.at c.loop-at.row.items (place_at c.as_slice-uses.result.now c.loop-at.at)
    (within c.args.s.now c.args.number c.loop-at.at c.as_slice-uses.result.now c.loop-at.invariant.noted c.loop-at-test.true)
    (ap (λ (ps : List OperandPlace). place_at ps c.loop-at.at) c.loop-at.invariant.noted) c.loop-at.invariant.stands

pub take-requires-clause-two : goal.take-requires-clause-two
take-requires-clause-two c =
    next-two c.args.s.now c.requires.fits c.args.number c.loop-at.at c.loop-at.row.items (place_at c.as_slice-uses.result.now c.loop-at.at)
    (within c.args.s.now c.args.number c.loop-at.at c.as_slice-uses.result.now c.loop-at.invariant.noted c.loop-at-test.true)
    (ap (λ (ps : List OperandPlace). place_at ps c.loop-at.at) c.loop-at.invariant.noted) c.loop-at.invariant.stands

pub take-requires-clause-brought : goal.take-requires-clause-brought
take-requires-clause-brought c =
    let s : Values = c.args.s.now in
    let p : OperandPlace = place_at c.as_slice-uses.result.now c.loop-at.at in
    let below = within s c.args.number c.loop-at.at c.as_slice-uses.result.now c.loop-at.invariant.noted c.loop-at-test.true in
    let same : p ≡ place_at (last_first c.args.number (uses s)) c.loop-at.at = ap (λ (ps : List OperandPlace). place_at ps c.loop-at.at) c.loop-at.invariant.noted in
    let there : p.value < length s.values = next-there s c.requires.fits c.args.number c.loop-at.at c.loop-at.row.items p below same c.loop-at.invariant.stands in
    let behind : c.args.number < inputs s + p.value =
    next-behind s c.requires.fits c.args.number c.loop-at.at c.loop-at.row.items p below same c.loop-at.invariant.stands in
    subst (λ (n : ℕ). HasRow s c.args.rows.now n p.value)
    (sym (ap (λ (xs : List ℕ). length xs) c.as_mut_slice.ensures.value ∙ c.loop-at.invariant.words))
    (c.requires.rows p.value (omega (arith, behind)) there)

pub mark-requires-clause-there : goal.mark-requires-clause-there
mark-requires-clause-there c =
    let there =
    next-there c.args.s.now c.requires.fits c.args.number c.loop-at.at c.loop-at.row.items (place_at c.as_slice-uses.result.now c.loop-at.at)
    (within c.args.s.now c.args.number c.loop-at.at c.as_slice-uses.result.now c.loop-at.invariant.noted c.loop-at-test.true)
    (ap (λ (ps : List OperandPlace). place_at ps c.loop-at.at) c.loop-at.invariant.noted) c.loop-at.invariant.stands in
    omega (arith, there, c.loop-at.invariant.count)

pub mark-requires-clause-two : goal.mark-requires-clause-two
mark-requires-clause-two c =
    next-two c.args.s.now c.requires.fits c.args.number c.loop-at.at c.loop-at.row.items (place_at c.as_slice-uses.result.now c.loop-at.at)
    (within c.args.s.now c.args.number c.loop-at.at c.as_slice-uses.result.now c.loop-at.invariant.noted c.loop-at-test.true)
    (ap (λ (ps : List OperandPlace). place_at ps c.loop-at.at) c.loop-at.invariant.noted) c.loop-at.invariant.stands

pub loop-at-preserved : goal.loop-at-preserved
loop-at-preserved c =
    let s : Values = c.args.s.now in
    let v : ℕ = c.args.number in
    let at : ℕ = c.loop-at.at in
    let ps : List OperandPlace = c.as_slice-uses.result.now in
    let p : OperandPlace = place_at ps at in
    let below = within s v at ps c.loop-at.invariant.noted c.loop-at-test.true in
    let same : p ≡ place_at (last_first v (uses s)) at = ap (λ (qs : List OperandPlace). place_at qs at) c.loop-at.invariant.noted in
    let value : c.as_mut_slice.result.now ≡ c.loop-at.row.items = c.as_mut_slice.ensures.value in
    let row : take c.loop-at.row.len (c.take.new.row ++ drop (length c.take.new.row) c.loop-at.row.items) ≡ c.take.new.row =
    written c.loop-at.row.len (drop (length c.take.new.row) c.loop-at.row.items) c.take.new.row (sym (c.take.ensures.count ∙ c.as_mut_slice.ensures.len)) in
    let answer : c.take.result ≡ all_marks s p.value p.operand =
    next-answer s c.requires.fits v at c.loop-at.row.items p below same c.loop-at.invariant.stands c.take.result
    (λ need is. c.take.ensures.clashes need (subst (IsNeed s.values need) (sym value) is)) in
    let more : take (at + 1) ps ≡ take at ps ++ p ∷ [] = take_more ps at (place_of 0 0) c.loop-at-test.true in
    record {
      noted = c.loop-at.invariant.noted;
      words = ap (λ (xs : List ℕ). length xs) row ∙ c.take.ensures.count ∙ ap (λ (xs : List ℕ). length xs) value ∙ c.loop-at.invariant.words;
      stands = subst (Stands s v (at + 1)) (sym row)
          (next-stands s c.requires.fits v at c.loop-at.row.items p below same c.loop-at.invariant.stands c.take.new.row
          (λ need is. c.take.ensures.taken need (subst (IsNeed s.values need) (sym value) is)));
      count = c.if-take.auto.fresh ∙ c.loop-at.invariant.count;
      marks = elim c.if-take.branch [
        | then-take w ↦
            subst (λ (f : List Fresh). (i k : ℕ) → IsMarked f i k ↔ (IsMarked c.args.fresh.now i k ⊎ IsAmong (all_marks s) (take (at + 1) ps) i k)) (sym w.fresh-is)
            (subst (λ (qs : List OperandPlace). (i k : ℕ) → IsMarked w.mark.new.fresh i k ↔ (IsMarked c.args.fresh.now i k ⊎ IsAmong (all_marks s) qs i k)) (sym more)
            (among-more (all_marks s) (λ i k. IsMarked c.args.fresh.now i k) c.loop-at.fresh (take at ps) p c.loop-at.invariant.marks w.mark.new.fresh
            (sym answer ∙ w.if-take.true) w.mark.ensures.marks))
        | else-take w ↦
            subst (λ (f : List Fresh). (i k : ℕ) → IsMarked f i k ↔ (IsMarked c.args.fresh.now i k ⊎ IsAmong (all_marks s) (take (at + 1) ps) i k)) (sym w.fresh-is)
            (subst (λ (qs : List OperandPlace). (i k : ℕ) → IsMarked c.loop-at.fresh i k ↔ (IsMarked c.args.fresh.now i k ⊎ IsAmong (all_marks s) qs i k)) (sym more)
            (among-still (all_marks s) (λ i k. IsMarked c.args.fresh.now i k) c.loop-at.fresh (take at ps) p c.loop-at.invariant.marks (sym answer ∙ w.if-take.false)))
      ];
    }

pub returns-clause-need : goal.returns-clause-need
returns-clause-need c =
    let s : Values = c.args.s.now in
    let all : length (last_first c.args.number (uses s)) ≡ c.loop-at.at =
    omega (arith, ap (λ (qs : List OperandPlace). length qs) c.loop-at.invariant.noted, c.loop-at-test.false, c.loop-at.auto.at-end) in
    subst (IsNeed s.values (final_need s c.args.number)) (sym c.from_vec.ensures) (c.loop-at.invariant.stands [] (uses s) refl all)

pub returns-clause-marks : goal.returns-clause-marks
returns-clause-marks c = λ i k.
    let s : Values = c.args.s.now in
    let v : ℕ = c.args.number in
    let all : take c.loop-at.at c.as_slice-uses.result.now ≡ last_first v (uses s) =
    take_all c.loop-at.at c.as_slice-uses.result.now (omega (arith, c.loop-at-test.false)) ∙ c.loop-at.invariant.noted in (
      λ on. elim ((c.loop-at.invariant.marks i k).0 on) [
        | inl before ↦ inl before
        | inr among ↦ inr (among-due s v i k (subst (λ (qs : List OperandPlace). IsAmong (all_marks s) qs i k) all among))
      ],
      λ is. (c.loop-at.invariant.marks i k).1 (elim is [
        | inl before ↦ inl before
        | inr due ↦ inr (subst (λ (qs : List OperandPlace). IsAmong (all_marks s) qs i k) (sym all) (due-among s v i k due))
      ]),
    )
