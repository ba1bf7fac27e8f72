-- The instructions of the blocks before it have gone by.
use Rattle.std.proofs.Common.{◌≤◌, ◌-◌, length}
use Rattle.mk_check.specs.Outlines.{outlined}
use Rattle.mk_check.specs.Plans.{laid_len}
use Rattle.mk_check.proofs.plan.Plan.block_at.Given as goal

abbrev pub invariant-loop-block : goal.invariant-loop-block
invariant-loop-block l = record {
  within : l.block ≤ length l.self.cert.blocks;
  behind : laid_len (outlined l.self.outline) l.self.templates l.self.cert.blocks l.block ≤ l.count;
}

abbrev pub decreases-loop-block : goal.decreases-loop-block
decreases-loop-block l = length l.self.cert.blocks - l.block
