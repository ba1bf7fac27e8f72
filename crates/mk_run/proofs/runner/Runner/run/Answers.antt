-- The parts of the tape are elements, and so are the encodings.
use Rattle.std.proofs.Common.{rules, arith, ◌≡◌, ◌+◌, ◌*◌, ◌≤◌, length, sym, ap, ◌∙◌, subst}
use Rattle.mk_field.specs.Field.{size}
use Rattle.mk_field.specs.Sharing.{encodings}
use Rattle.mk_code.specs.Counting.{AllBelow, Elements}
use Rattle.mk_code.specs.Listing.{Listing}
use Rattle.mk_code.specs.Private.{masked_trace}
use Rattle.mk_code.proofs.Totals.{AllBelow-take, AllBelow-drop}
use Rattle.mk_run.specs.Refusals.{tape_len}
use Rattle.mk_run.proofs.Numbers.{masked-length}
use Rattle.mk_run.proofs.Shares.{Elements-of, encodings-elements}
use Rattle.mk_run.proofs.runner.Runner.run.Goals as goal

pub push_all-requires-clause-tape : goal.push_all-requires-clause-tape
push_all-requires-clause-tape c =
    let code = c.self.inside.code.now in
    let tape : Elements (size code.field) (tape_len code) c.args.tape.now = rw (← c.self.view_is) at c.requires.tape in
    Elements-of (size code.field) c.split_at.result.0.now
    (subst (AllBelow (size code.field)) (sym c.split_at.ensures.front) (AllBelow-take (size code.field) c.spent_by.result c.args.tape.now tape.below))

pub restart-requires-clause-shares : goal.restart-requires-clause-shares
restart-requires-clause-shares c =
    let code = c.self.inside.code.now in
    let tape : Elements (size code.field) (tape_len code) c.args.tape.now = rw (← c.self.view_is) at c.requires.tape in
    let secrets : Elements (size code.field) code.secrets c.args.secrets.now = rw (← c.self.view_is) at c.requires.secrets in
    let same : c.deref.result.now ≡ encodings code.order c.args.secrets.now c.split_at.result.0.now = search rules in
    let front : Elements (size code.field) (length c.split_at.result.0.now) c.split_at.result.0.now =
    Elements-of (size code.field) c.split_at.result.0.now
    (subst (AllBelow (size code.field)) (sym c.split_at.ensures.front) (AllBelow-take (size code.field) c.spent_by.result c.args.tape.now tape.below)) in
    let enough : code.order * code.secrets ≤ length c.split_at.result.0.now = omega (arith, c.split_at.ensures.front_len, c.spent_by.ensures) in
    subst (λ (l : Listing). Elements (size l.field) (l.secrets * (l.order + 1)) c.deref.result.now) (sym c.self.invariant.0)
    (subst (Elements (size code.field) (code.secrets * (code.order + 1))) (sym same)
    (encodings-elements code.field code.order code.secrets c.args.secrets.now c.split_at.result.0.now secrets front enough))

pub finish-requires-clause-tape : goal.finish-requires-clause-tape
finish-requires-clause-tape c =
    let code = c.self.inside.code.now in
    let tape : Elements (size code.field) (tape_len code) c.args.tape.now = rw (← c.self.view_is) at c.requires.tape in
    let same : c.restart.new.self.code ≡ code = search (rules, c.self.invariant.0) in
    subst (λ (l : Listing). Elements (size l.field) (length c.split_at.result.1.now) c.split_at.result.1.now) (sym same)
    (Elements-of (size code.field) c.split_at.result.1.now
    (subst (AllBelow (size code.field)) (sym c.split_at.ensures.back) (AllBelow-drop (size code.field) c.spent_by.result c.args.tape.now tape.below)))

pub returns-clause-whole : goal.returns-clause-whole
returns-clause-whole c =
    let code = c.self.inside.code.now in
    let publics = c.self.inside.publics.now in
    let same : c.finish.new.machine.entries ≡ masked_trace code publics c.args.secrets.now c.args.tape.now = search (rules, c.self.invariant.0) in
    rw (← c.self.view_is)
    (ap length same ∙ masked-length code publics c.args.secrets.now c.args.tape.now c.self.invariant.1 (rw (← c.self.view_is) at c.requires.secrets) (rw (← c.self.view_is) at c.requires.tape))
