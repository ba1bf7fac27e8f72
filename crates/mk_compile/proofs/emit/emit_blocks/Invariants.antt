-- The blocks so far are placed.
use Rattle.std.proofs.Common.{◌≡◌, take}
use Rattle.mk_compile.specs.Emitting.{draft_shape}
use Rattle.mk_compile.specs.Positions.{ArePlaced}
use Rattle.mk_compile.proofs.emit.emit_blocks.Given as goal

abbrev pub invariant-loop-op : goal.invariant-loop-op
invariant-loop-op g l = record {
  same : l.builder ≡ record l.initial.builder { instrs = l.builder.instrs; spare = l.builder.spare };
  placed : ArePlaced (draft_shape g.F.Field.ID l.initial.builder) (take l.op-index l.blocks) l.builder.instrs l.positions.items;
}
