-- The outputs are whole.
use Rattle.std.proofs.Common.{◌+◌, ℕ, length, ap, ◌∙◌}
use Rattle.mk_check.proofs.Claimed.{output-whole}
use Rattle.mk_check.proofs.giving.output.Goals as goal

pub slice_bounds-result-end : goal.slice_bounds-result-end
slice_bounds-result-end c =
    output-whole c.args.code.now c.args.k (c.from-shares.result + 1) (length c.as_slice.result.now) c.law.ensures.fits
    (ap (λ (n : ℕ). n + 1) (c.from-shares.ensures ∙ c.order.ensures)) (ap length (c.as_slice.ensures.items ∙ c.outs.ensures)) c.requires
