-- A position stands where its operand's is, or behind the block's beginning.
use Rattle.std.proofs.Common.{◌≡◌, ◌+◌, ◌-◌, ◌*◌, length, take, sym, ap, ◌∙◌, arith, ℕ}
use Rattle.mk_ssa.specs.Kinds.{shared_operands, public_operands}
use Rattle.mk_rules.specs.Tiles.{reads, first_position}
use Rattle.mk_check.specs.Laying.{all_banks}
use Rattle.mk_check.specs.Outlines.{outlined}
use Rattle.mk_check.specs.Plans.{laid_len}
use Rattle.mk_check.proofs.Planned.{placed-read, placed-past, placed-there}
use Rattle.mk_check.proofs.plan.Plan.placed.Goals as goal

pub returns-then-position-reads : goal.returns-then-position-reads
returns-then-position-reads c =
    let many : c.operands-reads.result ≡ (c.args.self.now.outline.order + 1) * length (shared_operands c.args.op.now) + length (public_operands c.args.op.now) =
    c.operands-reads.ensures ∙ ap (λ (n : ℕ). n * length (shared_operands c.args.op.now) + length (public_operands c.args.op.now)) c.shares.ensures in
    sym (placed-past c.args.self.now c.requires.plan c.requires.wired c.args.block
    (first_position (outlined c.args.self.now.outline) + laid_len (outlined c.args.self.now.outline) c.args.self.now.templates c.args.self.now.cert.blocks c.args.block) c.args.position
    c.from.result c.base.result c.args.op.now c.requires.op (omega (arith, many, c.if-position-reads.true)) (c.from.ensures ∙ ap (λ (n : ℕ). c.args.position - n) many) c.base.ensures.value)

pub unreachable-requires : goal.unreachable-requires
unreachable-requires c =
    let many : c.operands-reads.result ≡ (c.args.self.now.outline.order + 1) * length (shared_operands c.args.op.now) + length (public_operands c.args.op.now) =
    c.operands-reads.ensures ∙ ap (λ (n : ℕ). n * length (shared_operands c.args.op.now) + length (public_operands c.args.op.now)) c.shares.ensures in
    omega (arith, many, c.if-position-reads.false, placed-there c.args.self.now c.requires.plan c.requires.wired c.args.block c.args.position c.args.op.now c.requires.op (sym c.in-None.is ∙ c.read.ensures))

pub returns : goal.returns
returns c =
    sym (placed-read c.args.self.now c.requires.plan
    (reads (outlined c.args.self.now.outline) (all_banks (outlined c.args.self.now.outline) c.args.self.now.templates (take c.args.block c.args.self.now.cert.blocks)) c.args.op.now)
    (first_position (outlined c.args.self.now.outline) + laid_len (outlined c.args.self.now.outline) c.args.self.now.templates c.args.self.now.cert.blocks c.args.block) c.args.position
    c.in-Some.read (sym c.in-Some.is ∙ c.read.ensures))
