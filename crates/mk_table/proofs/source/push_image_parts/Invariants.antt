-- What is appended so far.
use Rattle.std.proofs.Common.{◌≡◌, ◌++◌, take, map}
use Rattle.mk_table.specs.Source.{image_part}
use Rattle.mk_table.proofs.source.push_image_parts.Given as goal

abbrev pub invariant-loop-k : goal.invariant-loop-k
invariant-loop-k l = l.parts ≡ l.initial.parts ++ map image_part (take l.k-index l.ks)
