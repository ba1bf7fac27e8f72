-- The images so far, before what the rest gives, are those that all bytes give.
use Rattle.std.proofs.Common.{◌≡◌, ◌-◌, length, take}
use Rattle.mk_lines.specs.Parsing.{◌>>=◌, images_at}
use Rattle.mk_lines.proofs.Loops.{fronted}
use Rattle.mk_lines.proofs.parse.images_at.Given as goal

abbrev pub invariant-loop-index : goal.invariant-loop-index
invariant-loop-index l = record {
  same : (images_at (8 - l.index) l.rest >>= fronted (take l.index l.images)) ≡ images_at 8 l.bytes;
  eight : length l.images ≡ 8;
}
