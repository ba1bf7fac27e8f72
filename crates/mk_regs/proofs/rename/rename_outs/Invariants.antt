use Rattle.std.proofs.Common.{◌≡◌, map, take, drop}
use Rattle.mk_regs.specs.Renaming.{position_in, outs_refusal}
use Rattle.mk_regs.proofs.rename.rename_outs.Given as goal

-- the outs so far are renamed, and the first refusal is that of the others
abbrev pub invariant-loop-out : goal.invariant-loop-out
invariant-loop-out l =
    (l.positions ≡ map (position_in l.renamer.held) (take l.out-index l.outs))
    × (outs_refusal l.renamer.held l.renamer.accepted l.outs ≡ outs_refusal l.renamer.held l.renamer.accepted (drop l.out-index l.outs))
