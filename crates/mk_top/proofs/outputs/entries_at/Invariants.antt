use Rattle.std.proofs.Common.{◌≡◌, take}
use Rattle.mk_code.specs.Private.{observation}
use Rattle.mk_top.proofs.outputs.entries_at.Given as goal

-- those at the positions before this one
abbrev pub invariant-loop-position : goal.invariant-loop-position
invariant-loop-position l = l.seen ≡ observation (take l.position-index l.positions) l.entries
