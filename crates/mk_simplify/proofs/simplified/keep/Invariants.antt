-- So many values have their places.
use Rattle.std.proofs.Common.{◌≡◌}
use Rattle.mk_ssa.specs.Values.{IsDraft}
use Rattle.mk_simplify.specs.Renumbering.{ArePlaced}
use Rattle.mk_simplify.proofs.simplified.keep.Given as goal

abbrev pub invariant-loop-k : goal.invariant-loop-k
invariant-loop-k l =
    ArePlaced l.k l.ops l.marks l.builder.values l.places × (l.builder ≡ record l.initial.builder { values = l.builder.values }) × IsDraft l.builder
