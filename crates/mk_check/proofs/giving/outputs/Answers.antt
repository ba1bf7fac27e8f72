-- Each output has as many positions as there are shares.
use Rattle.std.proofs.Common.{◌≡◌, ◌+◌, ◌*◌, ◌/◌, ◌<◌, ℕ, length, sym, ap, ◌∙◌, arith}
use Rattle.std.proofs.Math.Nat.{mul-div_cancel}
use Rattle.mk_code.specs.Listing.{Listing, IsListing}
use Rattle.mk_check.proofs.giving.outputs.Goals as goal

-- the outs by the number of shares
divided : (code : Listing) (fits : IsListing code) (len shares : ℕ) → len ≡ length code.outs → shares ≡ code.order → len / (shares + 1) ≡ fits.outputs.0
divided code fits len shares count order =
    let some : 0 < code.order + 1 = omega arith in
    ap (λ (m : ℕ). m / (shares + 1)) (count ∙ fits.outputs.2)
    ∙ ap (λ (n : ℕ). fits.outputs.0 * (code.order + 1) / (n + 1)) order ∙ mul-div_cancel fits.outputs.0 some

pub returns-clause-whole : goal.returns-clause-whole
returns-clause-whole c =
    ap (λ (m : ℕ). m * (c.args.code.now.order + 1))
    (divided c.args.code.now c.law.ensures.fits c.len.result c.from.result (c.len.ensures.count ∙ ap length c.outs.ensures) (c.from.ensures ∙ c.order.ensures))
    ∙ sym c.law.ensures.fits.outputs.2

pub returns-clause-few : goal.returns-clause-few
returns-clause-few c =
    omega (
      arith,
      divided c.args.code.now c.law.ensures.fits c.len.result c.from.result (c.len.ensures.count ∙ ap length c.outs.ensures) (c.from.ensures ∙ c.order.ensures),
      c.law.ensures.fits.outputs.1,
    )
