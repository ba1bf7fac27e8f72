-- Step after step.
use Rattle.std.proofs.Common.{◌≡◌, ℕ, ◌+◌, ◌-◌, ◌*◌, true, List, [], ◌∷◌, ◌++◌, length, None, Result, Err, refl, sym, ap, subst, ◌∙◌, arith, append_assoc, append-nil, length-append}
use Rattle.std.proofs.lemmas.Result.{err_from_is_err_and}
use Rattle.mk_lines.specs.Words.{is_line}
use Rattle.mk_bundle.specs.declared.event.Event.{Event}
use Rattle.mk_bundle.specs.declared.event.Event.TheVariants as event
use Rattle.mk_bundle.specs.declared.refusal.StreamRefusal.{StreamRefusal}
use Rattle.mk_bundle.specs.declared.refusal.StreamRefusal.TheVariants as refusals
use Rattle.mk_bundle.specs.Reads.{Reader, IsGoing, to_come, listed, Read, Denies, Next}
use Rattle.mk_bundle.specs.Stepping.{GoesWrong, Grown}
use Rattle.mk_bundle.proofs.Coming.{comes_kept, comes_more}
use Rattle.mk_bundle.proofs.Ending.{reads_more, denies_later, next_told, next_ending, next_refused, denies_end}
use Rattle.mk_bundle.proofs.reader.BundleReader.read_on.Goals as goal

pub loop-event-init : goal.loop-event-init
loop-event-init g c = record {
  going = c.requires.going;
  waiting = c.requires.waiting;
  limit = refl;
  fewer = omega arith;
  read = λ taken events r. ([], comes_kept (g.S.Source.left c.args.src.now), subst (λ (l : List ℕ). Read c.args.self.now l events) (sym (append-nil taken)) r);
  falls = omega arith;
}

pub returns-in-Told-clause-next : goal.returns-in-Told-clause-next
returns-in-Told-clause-next g c = λ taken events r. (
    let so = c.loop-event.invariant.read taken events r in
    let tells = c.in-Told.ensures in
    next_told c.in-Told.event c.step.new.self taken so.0 events _ _ so.1 (tells.read (taken ++ so.0) events so.2) (tells.renames (taken ++ so.0) events so.2) tells.other)

pub loop-event-preserved-in-Quiet : goal.loop-event-preserved-in-Quiet
loop-event-preserved-in-Quiet g c =
    let passed = c.in-Quiet.ensures in record {
      going = passed.going;
      waiting = passed.waiting;
      limit = passed.limit ∙ c.loop-event.invariant.limit;
      fewer = omega (arith, passed.fewer, c.loop-event.invariant.fewer);
      read = λ taken events r. (let so = c.loop-event.invariant.read taken events r in (so.0, so.1, passed.read (taken ++ so.0) events so.2));
      falls = c.loop-event.invariant.falls;
    }

pub returns-in-Over-clause-next : goal.returns-in-Over-clause-next
returns-in-Over-clause-next g c = λ taken events r. (
    let so = c.loop-event.invariant.read taken events r in
    let reached = c.in-Over.ensures in
    next_ending c.finish.result c.finish.new.self taken so.0 events _ _ _ so.1 (c.finish.ensures.finishes (taken ++ so.0) (events ++ event.End ∷ []) (reached.read (taken ++ so.0) events so.2)))

pub returns-in_err-count-in-Starved-clause-next : goal.returns-in_err-count-in-Starved-clause-next
returns-in_err-count-in-Starved-clause-next g c = λ taken events r. (
    let so = c.loop-event.invariant.read taken events r in
    let starves = c.in-Starved.ensures in
    let p = err_from_is_err_and c.from_residual.result c.from_residual.ensures.1 in
    let count : c.step.new.self.count ≡ length (taken ++ so.0) = ap (λ (x : Reader). x.count) starves.same ∙ so.2.count in
    let refusal = c.in_err-count-in-Starved.field-0.0 in
    let denied : Denies refusal c.fill.new.self.limit taken (g.S.Source.left c.args.src.now) (g.S.Source.left c.fill.new.src) =
    subst (λ (n : ℕ). Denies refusal n taken (g.S.Source.left c.args.src.now) (g.S.Source.left c.fill.new.src)) (sym c.fill.ensures.limit)
    (denies_later refusal c.step.new.self.limit taken so.0 _ _ _ so.1 (c.in_err-count-in-Starved.ensures.grows (taken ++ so.0) count)) in
    subst (λ (res : Result Event StreamRefusal). Next res c.fill.new.self taken events (g.S.Source.left c.args.src.now) (g.S.Source.left c.fill.new.src)) (sym (p.1 ∙ ap Err p.2)) denied)

pub returns-then-count-eq0-clause-next : goal.returns-then-count-eq0-clause-next
returns-then-count-eq0-clause-next g c = λ taken events r. (
    let so = c.loop-event.invariant.read taken events r in
    let starves = c.in-Starved.ensures in
    let mid = c.step.new.self in
    let read : Read mid (taken ++ so.0) events = subst (λ (x : Reader). Read x (taken ++ so.0) events) (sym starves.same) so.2 in
    let going : IsGoing mid = λ ended. c.loop-event.invariant.going (sym (ap (λ (x : Reader). x.noted.seen.stage) starves.same) ∙ ended) in
    let clean : is_line mid.pending ≡ true = ap (λ (x : Reader). is_line x.pending) starves.same ∙ starves.clean in
    let grown : Grown 0 mid c.fill.new.self (g.S.Source.left c.loop-event.src) (g.S.Source.left c.fill.new.src) =
    subst (λ (n : ℕ). Grown n mid c.fill.new.self (g.S.Source.left c.loop-event.src) (g.S.Source.left c.fill.new.src)) c.if-count-eq0.true c.in_ok-count-in-Starved.ensures.grows in
    subst (λ (n : ℕ). Denies (refusals.Form c.next_line-line.result) n taken (g.S.Source.left c.args.src.now) (g.S.Source.left c.fill.new.src)) (sym c.fill.ensures.limit)
    (denies_later (refusals.Form c.next_line-line.result) mid.limit taken so.0 _ _ _ so.1 (denies_end mid c.fill.new.self c.next_line-line.result _ _ (taken ++ so.0) events clean going read grown c.next_line-line.ensures)))

pub loop-event-preserved : goal.loop-event-preserved
loop-event-preserved g c =
    let starves = c.in-Starved.ensures in
    let mid = c.step.new.self in
    let new = c.fill.new.self in
    let n = c.in_ok-count-in-Starved.count in
    let grown = c.in_ok-count-in-Starved.ensures.grows in
    let waits : mid.waiting ≡ None = ap (λ (x : Reader). x.waiting) starves.same ∙ c.loop-event.invariant.waiting in
    let before : to_come mid ≡ to_come c.loop-event.self = ap to_come starves.same in
    let later : to_come new ≡ 2 * (mid.limit - (mid.count + n)) + length (mid.pending ++ grown.came) + length (listed mid.waiting) = ap to_come grown.held in record {
      going = λ ended. c.loop-event.invariant.going (sym (ap (λ (x : Reader). x.noted.seen.stage) (grown.held) ∙ ap (λ (x : Reader). x.noted.seen.stage) starves.same) ∙ ended);
      waiting = ap (λ (x : Reader). x.waiting) grown.held ∙ waits;
      limit = ap (λ (x : Reader). x.limit) grown.held ∙ ap (λ (x : Reader). x.limit) starves.same ∙ c.loop-event.invariant.limit;
      fewer = omega (arith, before, later, length-append mid.pending grown.came, grown.number, grown.within, c.loop-event.invariant.fewer);
      read = λ taken events r. (
          let so = c.loop-event.invariant.read taken events r in
          let read : Read mid (taken ++ so.0) events = subst (λ (x : Reader). Read x (taken ++ so.0) events) (sym starves.same) so.2 in (
            so.0 ++ grown.came,
            comes_more _ _ _ so.0 grown.came so.1 grown.comes,
            subst (λ (l : List ℕ). Read new l events) (append_assoc taken so.0 grown.came) (reads_more mid new n _ _ (taken ++ so.0) events waits grown read),
          ));
      falls = omega (arith, c.loop-event.invariant.falls, c.fill.ensures.never_falls);
    }

pub returns-in-Wrong-clause-next : goal.returns-in-Wrong-clause-next
returns-in-Wrong-clause-next g c = λ taken events r. (
    let so = c.loop-event.invariant.read taken events r in
    let sticks = c.in-Wrong.ensures in
    let mid = c.step.new.self in
    next_refused c.refuse.result mid c.refuse.new.self _ _ _ taken so.0 events so.1 c.refuse.ensures.refused c.refuse.ensures.limit
    (subst (λ (n : ℕ). GoesWrong n (taken ++ so.0)) (sym sticks.lines) (sticks.wrong (taken ++ so.0) events so.2)) (sticks.count ∙ so.2.count))
