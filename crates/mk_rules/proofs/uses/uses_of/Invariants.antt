-- The uses by so many blocks, from the last on, are noted.
use Rattle.std.proofs.Common.{◌-◌, length}
use Rattle.mk_rules.specs.Uses.{AreUsesAt, input_shape}
use Rattle.mk_rules.proofs.uses.uses_of.Given as goal

abbrev pub invariant-loop-done : goal.invariant-loop-done
invariant-loop-done l = AreUsesAt (input_shape l.secrets l.publics) l.ops (length l.ops - l.done) l.noted.items
