-- What is appended so far.
use Rattle.std.proofs.Common.{◌≡◌, ◌++◌, slice_index, take, map}
use Rattle.mk_table.specs.ClassImages.{class_images}
use Rattle.mk_table.specs.Source.{map_decl}
use Rattle.mk_table.proofs.source.push_maps.Given as goal

abbrev pub invariant-loop-k : goal.invariant-loop-k
invariant-loop-k l = l.decls ≡ l.initial.decls ++ map (map_decl (class_images (slice_index l.coefficients))) (take l.k-index l.ks)
