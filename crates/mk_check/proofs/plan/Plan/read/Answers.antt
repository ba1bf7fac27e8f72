-- A position is one of the first operand or of the second.
use Rattle.std.proofs.Common.{ap, sym, ◌∙◌}
use Rattle.mk_check.specs.Plans.{front_len}
use Rattle.mk_check.proofs.Planned.{read-first, read-second, read-none}
use Rattle.mk_check.proofs.plan.Plan.read.Goals as goal

pub returns-in-Some : goal.returns-in-Some
returns-in-Some c =
    read-first c.args.self.now c.requires.plan c.requires.wired c.args.block c.args.k c.first_len-len.result c.number_of.result c.args.op.now c.in-Some.value c.share.result
    c.requires.op c.if-k-len.true (c.first_len-len.ensures ∙ ap (λ (n : _). front_len n c.args.op.now) c.shares.ensures)
    (sym c.operands-first.ensures.first ∙ c.in-Some.is) c.number_of.ensures c.share.ensures

pub returns-in-Some-second : goal.returns-in-Some-second
returns-in-Some-second c =
    read-second c.args.self.now c.requires.plan c.requires.wired c.args.block c.args.k c.first_len-len.result c.number_of-in-Some-second.result c.args.op.now c.in-Some-second.value
    c.share-in-Some-second.result c.requires.op c.if-k-len.false (c.first_len-len.ensures ∙ ap (λ (n : _). front_len n c.args.op.now) c.shares.ensures)
    (sym c.operands-first.ensures.second ∙ c.in-Some-second.is) c.number_of-in-Some-second.ensures c.share-in-Some-second.ensures

pub returns-in-None-second : goal.returns-in-None-second
returns-in-None-second c =
    read-none c.args.self.now c.requires.plan c.requires.wired c.args.block c.args.k c.first_len-len.result c.args.op.now c.requires.op c.if-k-len.false
    (c.first_len-len.ensures ∙ ap (λ (n : _). front_len n c.args.op.now) c.shares.ensures) (sym c.operands-first.ensures.second ∙ c.in-None-second.is)
