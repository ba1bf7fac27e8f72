use Rattle.std.proofs.Common.{◌≡◌, map}
use Rattle.mk_regs.specs.Renaming.{held_on_entry}
use Rattle.mk_regs.specs.Renamer.{held_by}
use Rattle.mk_regs.proofs.renamer.Renamer.new.Given as goal

-- the registers so far hold what they hold on entry
abbrev pub invariant-loop-register : goal.invariant-loop-register
invariant-loop-register l = map held_by l.held.items ≡ held_on_entry l.entries l.register
