-- Nothing stands before the first block.
use Rattle.std.proofs.Common.{arith}
use Rattle.mk_rules.specs.Tiles.{laid}
use Rattle.mk_check.proofs.checker.Checker.new.Goals as goal

pub block_at-block-requires-clause-behind : goal.block_at-block-requires-clause-behind
unfolding laid
block_at-block-requires-clause-behind c = omega arith
