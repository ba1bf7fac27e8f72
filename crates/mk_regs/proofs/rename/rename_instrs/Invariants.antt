use Rattle.std.proofs.Common.{◌≡◌, ◌+◌, ◌++◌, ℕ, List, drop}
use Rattle.mk_regs.specs.Renaming.{held_behind, renamed_instrs, first_refusal}
use Rattle.mk_regs.proofs.rename.rename_instrs.Given as goal

-- the instructions so far are renamed and accepted, and the others are left
abbrev pub invariant-loop-instr : goal.invariant-loop-instr
invariant-loop-instr l = record {
  entries : l.renamer.entries ≡ l.fn.renamer.entries;
  accepted : l.renamer.accepted ≡ l.fn.renamer.accepted + l.instr-index;
  renamed : renamed_instrs l.fn.renamer.held (l.fn.renamer.entries + l.fn.renamer.accepted) l.instrs
      ≡ l.renamed ++ renamed_instrs l.renamer.held (l.fn.renamer.entries + l.renamer.accepted) (drop l.instr-index l.instrs);
  held : held_behind l.fn.renamer.held (l.fn.renamer.entries + l.fn.renamer.accepted) l.instrs
      ≡ held_behind l.renamer.held (l.fn.renamer.entries + l.renamer.accepted) (drop l.instr-index l.instrs);
  refusal : (outs : List ℕ) → first_refusal l.fn.renamer.entries l.fn.renamer.accepted l.fn.renamer.held l.instrs outs
      ≡ first_refusal l.fn.renamer.entries l.renamer.accepted l.renamer.held (drop l.instr-index l.instrs) outs;
}
