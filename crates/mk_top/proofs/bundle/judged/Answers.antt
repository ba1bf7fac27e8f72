-- What the checker says of the instructions and outs that it was given.
use Rattle.std.proofs.Common.{ℕ, ◌+◌, List, [], ◌∷◌, ◌++◌, Option, Result, IfErr, OnOk, refl, sym, subst, arith}
use Rattle.std.proofs.lemmas.Result.{err_from_is_err_and}
use Rattle.mk_rules.specs.Claimed.{Claimed}
use Rattle.mk_rules.specs.Accepts.{IsAccepted}
use Rattle.mk_check.specs.Verdict.{IsRefused}
use Rattle.mk_bundle.specs.declared.event.Event.{Event}
use Rattle.mk_bundle.specs.declared.event.Event.TheVariants as event
use Rattle.mk_bundle.specs.Events.{AreFirst}
use Rattle.mk_words.specs.Words.{Check}
use Rattle.mk_top.specs.declared.fault.Fault.{Fault}
use Rattle.mk_top.specs.Reading.{Reading, GivesBundle}
use Rattle.mk_top.specs.Running.{NoText, Checked}
use Rattle.mk_top.proofs.Events.{is-end}
use Rattle.mk_top.proofs.Judging.{next-lower, begun-next, instrs-few, outs-room, judged-code}
use Rattle.mk_top.proofs.Progress.{input-later, accepted-text, refused-text}
use Rattle.mk_top.proofs.bundle.judged.Goals as goal

pub returns-in_err-instr-clause-fault : goal.returns-in_err-instr-clause-fault
returns-in_err-instr-clause-fault g c input at b0 =
    let p = err_from_is_err_and c.from_residual.result c.from_residual.ensures.1 in
    let inv = c.loop-checker.invariant in
    let b = inv.begun input.before b0 in
    subst (λ (x : Result (Unit {0}) Fault). IfErr x (NoText Check input)) (sym p.1)
    (subst (NoText Check input) (sym p.2)
    ((c.in_err-instr.ensures).fault input (event.Head b.head ∷ ((b.upper ++ event.Code ∷ []) ++ b.lower)) (input-later input _ _ _ _ at inv.falls) b.reading Check tt))

pub instr-requires : goal.instr-requires
instr-requires g c =
    let inv = c.loop-checker.invariant in
    let b = inv.begun c.requires.begins.0 c.requires.begins.1 in
    let first = c.in_ok-instr.ensures.first c.requires.begins.0 (event.Head b.head ∷ ((b.upper ++ event.Code ∷ []) ++ b.lower)) b.reading in
    record {
      few = instrs-few c.requires.begins.0 (g.S.Source.left c.loop-checker.src) c.loop-checker.reader c.loop-checker.checker b c.in-Instr.instr
          (subst (λ (x : Event). AreFirst (event.Head b.head ∷ (((b.upper ++ event.Code ∷ []) ++ b.lower) ++ x ∷ []))) c.in-Instr.is first);
    }

pub loop-checker-preserved-in-Instr : goal.loop-checker-preserved-in-Instr
loop-checker-preserved-in-Instr g c =
    let inv = c.loop-checker.invariant in
    let is = c.in-Instr.is in
    record {
      going = c.in_ok-instr.ensures.going (λ end. absurd cc);
      falls = omega (arith, inv.falls, c.next_event.ensures.never_falls);
      begun = λ before b0.
          let b = inv.begun before b0 in
          let events = event.Head b.head ∷ ((b.upper ++ event.Code ∷ []) ++ b.lower) in
          let first = subst (λ (x : Event). AreFirst (event.Head b.head ∷ (((b.upper ++ event.Code ∷ []) ++ b.lower) ++ x ∷ []))) is (c.in_ok-instr.ensures.first before events b.reading) in
          let reading =
          subst (λ (x : Event). Reading before (g.S.Source.left c.next_event.new.src) c.next_event.new.reader (event.Head b.head ∷ (((b.upper ++ event.Code ∷ []) ++ b.lower) ++ x ∷ []))) is
          (c.in_ok-instr.ensures.read before events b.reading) in
          begun-next before (g.S.Source.left c.loop-checker.src) c.loop-checker.reader c.loop-checker.checker b (event.Instr c.in-Instr.instr) first
          (g.S.Source.left c.next_event.new.src) c.next_event.new.reader c.instr.new.self reading refl refl c.instr.ensures.same.0 c.instr.ensures.same.1
          (c.instr.ensures.given b.gathered.instrs b.gathered.outs b.given);
    }

pub out-requires-clause-count : goal.out-requires-clause-count
out-requires-clause-count g c =
    let inv = c.loop-checker.invariant in
    let b = inv.begun c.requires.begins.0 c.requires.begins.1 in
    let first = c.in_ok-instr.ensures.first c.requires.begins.0 (event.Head b.head ∷ ((b.upper ++ event.Code ∷ []) ++ b.lower)) b.reading in
    (outs-room c.requires.begins.0 (g.S.Source.left c.loop-checker.src) c.loop-checker.reader c.loop-checker.checker b c.in-Out.positions
    (subst (λ (x : Event). AreFirst (event.Head b.head ∷ (((b.upper ++ event.Code ∷ []) ++ b.lower) ++ x ∷ []))) c.in-Out.is first)).0

pub out-requires-clause-few : goal.out-requires-clause-few
out-requires-clause-few g c =
    let inv = c.loop-checker.invariant in
    let b = inv.begun c.requires.begins.0 c.requires.begins.1 in
    let first = c.in_ok-instr.ensures.first c.requires.begins.0 (event.Head b.head ∷ ((b.upper ++ event.Code ∷ []) ++ b.lower)) b.reading in
    (outs-room c.requires.begins.0 (g.S.Source.left c.loop-checker.src) c.loop-checker.reader c.loop-checker.checker b c.in-Out.positions
    (subst (λ (x : Event). AreFirst (event.Head b.head ∷ (((b.upper ++ event.Code ∷ []) ++ b.lower) ++ x ∷ []))) c.in-Out.is first)).1

pub loop-checker-preserved : goal.loop-checker-preserved
loop-checker-preserved g c =
    let inv = c.loop-checker.invariant in
    let is = c.in-Out.is in
    record {
      going = c.in_ok-instr.ensures.going (λ end. absurd cc);
      falls = omega (arith, inv.falls, c.next_event.ensures.never_falls);
      begun = λ before b0.
          let b = inv.begun before b0 in
          let events = event.Head b.head ∷ ((b.upper ++ event.Code ∷ []) ++ b.lower) in
          let first = subst (λ (x : Event). AreFirst (event.Head b.head ∷ (((b.upper ++ event.Code ∷ []) ++ b.lower) ++ x ∷ []))) is (c.in_ok-instr.ensures.first before events b.reading) in
          let reading =
          subst (λ (x : Event). Reading before (g.S.Source.left c.next_event.new.src) c.next_event.new.reader (event.Head b.head ∷ (((b.upper ++ event.Code ∷ []) ++ b.lower) ++ x ∷ []))) is
          (c.in_ok-instr.ensures.read before events b.reading) in
          begun-next before (g.S.Source.left c.loop-checker.src) c.loop-checker.reader c.loop-checker.checker b (event.Out c.in-Out.positions) first
          (g.S.Source.left c.next_event.new.src) c.next_event.new.reader c.out.new.self reading refl refl c.out.ensures.same.0 c.out.ensures.same.1
          (c.out.ensures.given b.gathered.instrs b.gathered.outs b.given);
    }

pub returns-in_err-finish-in_default : goal.returns-in_err-finish-in_default
returns-in_err-finish-in_default g c =
    let p = err_from_is_err_and c.from_residual-in_err-finish-in_default.result c.from_residual-in_err-finish-in_default.ensures.1 in
    let inv = c.loop-checker.invariant in
    record {
      checked = λ before b0. subst (λ (x : Result (Unit {0}) Fault). OnOk x (Checked before (g.S.Source.left c.next_event.new.src))) (sym p.1) tt;
      fault = λ input at b0.
          let b = inv.begun input.before b0 in
          let events = event.Head b.head ∷ ((b.upper ++ event.Code ∷ []) ++ b.lower) in
          let lower = next-lower input.before (g.S.Source.left c.loop-checker.src) c.loop-checker.reader c.loop-checker.checker b c.in_ok-instr.field-0 (c.in_ok-instr.ensures.first input.before events b.reading) in
          let end = is-end (c.loop-checker.checker.outline.order + 1) c.in_ok-instr.field-0 lower c.in_default.not-Instr c.in_default.not-Out in
          let w : GivesBundle input.before input.after events =
          subst (λ (o : Option (List ℕ)). GivesBundle input.before o events) (sym at.after) (c.in_ok-instr.ensures.whole input.before events b.reading end) in
          let j = judged-code input.before (g.S.Source.left c.loop-checker.src) input.after c.loop-checker.reader c.loop-checker.checker b w in
          subst (λ (x : Result (Unit {0}) Fault). IfErr x (NoText Check input)) (sym p.1)
          (subst (NoText Check input) (sym p.2)
          (refused-text input events w c.in_err-finish-in_default.field-0.0
          (subst (λ (k : Claimed). IsRefused w.code k c.in_err-finish-in_default.field-0.0) j.2 ((c.in_err-finish-in_default.ensures).refused w.code j.0 j.1))));
      never_falls = omega (arith, inv.falls, c.next_event.ensures.never_falls);
    }

pub returns-in_default : goal.returns-in_default
returns-in_default g c =
    let inv = c.loop-checker.invariant in
    record {
      checked = λ before b0.
          let b = inv.begun before b0 in
          let events = event.Head b.head ∷ ((b.upper ++ event.Code ∷ []) ++ b.lower) in
          let lower = next-lower before (g.S.Source.left c.loop-checker.src) c.loop-checker.reader c.loop-checker.checker b c.in_ok-instr.field-0 (c.in_ok-instr.ensures.first before events b.reading) in
          let end = is-end (c.loop-checker.checker.outline.order + 1) c.in_ok-instr.field-0 lower c.in_default.not-Instr c.in_default.not-Out in
          let w = c.in_ok-instr.ensures.whole before events b.reading end in
          let j = judged-code before (g.S.Source.left c.loop-checker.src) (g.S.Source.left c.next_event.new.src) c.loop-checker.reader c.loop-checker.checker b w in
          accepted-text before (g.S.Source.left c.next_event.new.src) events w
          (subst (IsAccepted w.code) j.2 ((c.in_ok-finish-in_default.ensures).accepted w.code j.0 j.1));
      fault = λ input at b0. tt;
      never_falls = omega (arith, inv.falls, c.next_event.ensures.never_falls);
    }
