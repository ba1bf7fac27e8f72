-- Line after line; where one does not go on, it is the line that is named.
use Rattle.std.proofs.Common.{◌≡◌, ℕ, [], true, sym, subst, arith}
use Rattle.mk_lines.specs.Lines.{NamesFirst}
use Rattle.mk_lib.specs.Texts.{IsTextOf, IsGadgetText}
use Rattle.mk_lib.specs.Reading.{state_of}
use Rattle.mk_pad.specs.Form.{GadgetForm}
use Rattle.mk_lines.proofs.Steps.{some_bytes, no_bytes}
use Rattle.mk_lib.proofs.Form.{ended_form}
use Rattle.mk_lib.proofs.Naming.{Progress, begun, further, number_small, names, no_text, whole_text, stuck_at, stuck_end, some_left}
use Rattle.mk_lib.proofs.read.read_gadget.Goals as goal

pub loop-line-init : goal.loop-line-init
loop-line-init c = subst (Progress c.args.text.now c.args.text.now 1) (sym c.empty_draft-draft.ensures) (begun c.args.text.now)

pub read_line-requires : goal.read_line-requires
read_line-requires c = c.loop-line.invariant.good

pub returns-in-Err-Form-clause-only : goal.returns-in-Err-Form-clause-only
returns-in-Err-Form-clause-only c = λ line e. (
    no_text c.args.text.now c.loop-line.rest.now c.loop-line.number (state_of c.loop-line.draft) c.loop-line.invariant
    (stuck_at (state_of c.loop-line.draft) c.loop-line.rest.now c.in-Some.line.now c.in-Some.behind.now c.in-Some.ensures.0 c.in-Some.ensures.1 (rw c.in-Err-Form.field-0-is at c.in-Err-Form.ensures))
    (λ none ended. some_left c.loop-line.rest.now c.in-Some.line.now c.in-Some.behind.now c.in-Some.ensures.1 none))

pub returns-in-Err-Form-clause-first : goal.returns-in-Err-Form-clause-first
returns-in-Err-Form-clause-first c = λ line e. (
    let same : c.loop-line.number ≡ line = cc in
    subst (λ (n : ℕ). NamesFirst IsGadgetText n c.args.text.now) same
    (names c.args.text.now c.loop-line.rest.now c.loop-line.number (state_of c.loop-line.draft) c.loop-line.invariant
    (stuck_at (state_of c.loop-line.draft) c.loop-line.rest.now c.in-Some.line.now c.in-Some.behind.now c.in-Some.ensures.0 c.in-Some.ensures.1 (rw c.in-Err-Form.field-0-is at c.in-Err-Form.ensures))))

pub overflow_add-number : goal.overflow_add-number
overflow_add-number c = omega (arith, number_small c.args.text.now c.loop-line.rest.now c.loop-line.number (state_of c.loop-line.draft) c.loop-line.invariant, c.requires)

pub loop-line-preserved : goal.loop-line-preserved
loop-line-preserved c =
    further c.args.text.now c.loop-line.rest.now c.in-Some.line.now c.in-Some.behind.now c.loop-line.number (state_of c.loop-line.draft) (state_of c.read_line.new.draft) c.loop-line.invariant
    c.in-Some.ensures.0 c.in-Some.ensures.1 c.in-Ok.ensures.0 c.in-Ok.ensures.1

pub returns-then-not-is_empty-clause-only : goal.returns-then-not-is_empty-clause-only
returns-then-not-is_empty-clause-only c = λ line e. (
    no_text c.args.text.now c.loop-line.rest.now c.loop-line.number (state_of c.loop-line.draft) c.loop-line.invariant (stuck_end (state_of c.loop-line.draft) c.loop-line.rest.now c.in_default.ensures)
    (λ none ended. some_bytes c.loop-line.rest.now c.is_empty.result c.is_empty.ensures c.if-not-is_empty.true none))

pub returns-then-not-is_empty-clause-first : goal.returns-then-not-is_empty-clause-first
returns-then-not-is_empty-clause-first c = λ line e. (
    let same : c.loop-line.number ≡ line = cc in
    subst (λ (n : ℕ). NamesFirst IsGadgetText n c.args.text.now) same
    (names c.args.text.now c.loop-line.rest.now c.loop-line.number (state_of c.loop-line.draft) c.loop-line.invariant (stuck_end (state_of c.loop-line.draft) c.loop-line.rest.now c.in_default.ensures)))

pub returns-then-not-is_ended-clause-only : goal.returns-then-not-is_ended-clause-only
returns-then-not-is_ended-clause-only c = λ line e. (
    no_text c.args.text.now c.loop-line.rest.now c.loop-line.number (state_of c.loop-line.draft) c.loop-line.invariant (stuck_end (state_of c.loop-line.draft) c.loop-line.rest.now c.in_default.ensures)
    (λ none ended. (let is : c.is_ended.result ≡ true = c.is_ended.ensures.1 ended in absurd (cc (is, c.if-not-is_ended.true)))))

pub returns-then-not-is_ended-clause-first : goal.returns-then-not-is_ended-clause-first
returns-then-not-is_ended-clause-first c = λ line e. (
    let same : c.loop-line.number ≡ line = cc in
    subst (λ (n : ℕ). NamesFirst IsGadgetText n c.args.text.now) same
    (names c.args.text.now c.loop-line.rest.now c.loop-line.number (state_of c.loop-line.draft) c.loop-line.invariant (stuck_end (state_of c.loop-line.draft) c.loop-line.rest.now c.in_default.ensures)))

pub gadget_of-requires : goal.gadget_of-requires
gadget_of-requires c = ended_form (state_of c.loop-line.draft) c.loop-line.invariant.good (c.is_ended.ensures.0 c.if-not-is_ended.false)

pub returns-clause-ok : goal.returns-clause-ok
returns-clause-ok c =
    let none : c.loop-line.rest.now ≡ [] = no_bytes c.loop-line.rest.now c.is_empty.result c.is_empty.ensures c.if-not-is_empty.false in
    let h = whole_text c.args.text.now c.loop-line.rest.now c.loop-line.number (state_of c.loop-line.draft) c.loop-line.invariant none (c.is_ended.ensures.0 c.if-not-is_ended.false) in
    subst (λ (g : GadgetForm). IsTextOf c.args.text.now g) (sym c.gadget_of.ensures) h
