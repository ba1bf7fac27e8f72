-- The positions of the claims so far.
use Rattle.std.proofs.Common.{◌≡◌, ◌*◌, length, take}
use Rattle.std.specs.List.{flat_map}
use Rattle.mk_compile.specs.Positions.{bank_of}
use Rattle.mk_compile.proofs.code.outs.Given as goal

abbrev pub invariant-loop-claim : goal.invariant-loop-claim
invariant-loop-claim g l = record {
  items : l.outs.items ≡ flat_map (bank_of l.inputs.secrets l.blocks) (take l.claim-index l.claims);
  count : length l.outs.items ≡ l.claim-index * g.row.N;
}
