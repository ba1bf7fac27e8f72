-- One image more.
use Rattle.std.proofs.Common.{sym, ◌∙◌, ap, ◌++◌, [], ◌∷◌, ◌^◌, slice_index, arith}
use Rattle.std.proofs.lemmas.List.FromFn.{map-range_with_len_more}
use Rattle.mk_table.specs.ClassImages.{class_image}
use Rattle.mk_table.proofs.images.class_images.Goals as goal

pub loop-place-preserved : goal.loop-place-preserved
loop-place-preserved c =
    c.in_ok-push.ensures.ok
    ∙ (λ i. c.loop-place.invariant i ++ (c.class_image.ensures ∙ ap (class_image (slice_index c.args.coefficients.now) c.args.k) c.bit.ensures) i ∷ [])
    ∙ sym (map-range_with_len_more (λ b. class_image (slice_index c.args.coefficients.now) c.args.k (2 ^ b)) 0 c.loop-place.place c.loop-place.place (omega arith))
