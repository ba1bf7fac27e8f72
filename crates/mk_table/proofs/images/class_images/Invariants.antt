-- The images so far.
use Rattle.std.proofs.Common.{◌≡◌, ◌^◌, map, slice_index}
use Rattle.std.specs.List.{range_with_len}
use Rattle.mk_table.specs.ClassImages.{class_image}
use Rattle.mk_table.proofs.images.class_images.Given as goal

abbrev pub invariant-loop-place : goal.invariant-loop-place
invariant-loop-place l = l.images ≡ map (λ b. class_image (slice_index l.coefficients) l.k (2 ^ b)) (range_with_len 0 l.place)
