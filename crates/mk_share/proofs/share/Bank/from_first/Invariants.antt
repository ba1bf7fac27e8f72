use Rattle.std.proofs.Common.{◌≡◌, length, take}
use Rattle.std.specs.List.{range_with_len}
use Rattle.mk_share.proofs.share.Bank.from_first.Given as goal

-- the positions so far are neighbours
abbrev pub invariant-loop-share : goal.invariant-loop-share
invariant-loop-share g l = (take l.share l.regs ≡ range_with_len l.first l.share) × (length l.regs ≡ g.row.N)
