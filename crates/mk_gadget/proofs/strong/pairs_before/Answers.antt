-- Twice the number of pairs is the product.
use Rattle.std.proofs.Common.{arith, ◌≡◌, ℕ, ◌+◌, ◌-◌, ◌*◌, length, ap}
use Rattle.mk_gadget.specs.Pairs.{pairs_upto}
use Rattle.mk_gadget.proofs.Pairs.{twice-pairs}
use Rattle.mk_gadget.proofs.strong.pairs_before.Goals as goal

pub returns : goal.returns
returns g c =
    let rest : ℕ = 2 * g.row.N - c.args.share - 1 in
    let whole : rest + (c.args.share + 1) ≡ 2 * g.row.N = omega (arith, c.requires.least, c.requires.share) in
    let product : c.args.share * (rest + (c.args.share + 1)) ≡ c.args.share * (2 * g.row.N) = ap (λ (k : ℕ). c.args.share * k) whole in
    let twice : 2 * length (pairs_upto g.row.N c.args.share) + c.args.share * (c.args.share + 1) ≡ 2 * (g.row.N * c.args.share) =
    twice-pairs g.row.N c.args.share c.requires.share in
    omega (arith, product, twice)
