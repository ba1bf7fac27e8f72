-- One more share is added to the sum of those before it.
use Rattle.std.proofs.Common.{◌<◌, ℕ, length, bit_xor, slice_index, sym, ◌∙◌, ap, refl, arith}
use Rattle.mk_field.specs.Sharing.{field_sum}
use Rattle.mk_share.proofs.Encodings.{field_sum-take}
use Rattle.mk_share.proofs.share.value_of.Goals as goal

pub loop-share-init : goal.loop-share-init
unfolding field_sum
loop-share-init c = refl

pub loop-share-preserved : goal.loop-share-preserved
loop-share-preserved c =
    let xs = c.args.shares.now in
    let k = c.loop-share.share-index in
    let below : k < length xs = omega arith in
    ap (λ (a : ℕ). bit_xor a (slice_index xs k)) c.loop-share.invariant ∙ sym (field_sum-take xs k below)
