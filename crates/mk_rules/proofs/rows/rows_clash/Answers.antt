-- The rows clash where one of their words has a pair.
use Rattle.std.proofs.Common.{arith, refl}
use Rattle.mk_rules.proofs.RowBits.{pair-clash, clash-pair, none-more}
use Rattle.mk_rules.proofs.rows.rows_clash.Goals as goal

pub returns-then-has_pair : goal.returns-then-has_pair
returns-then-has_pair c = (λ is. pair-clash c.args.a.now c.args.b.now c.loop-k.k (c.has_pair.ensures.0 c.if-has_pair.true), λ clash. refl)

pub loop-k-preserved : goal.loop-k-preserved
loop-k-preserved c =
    none-more c.args.a.now c.args.b.now c.loop-k.k c.loop-k.invariant (λ pair. absurd (cc (c.has_pair.ensures.1 pair, c.if-has_pair.false)))

pub returns : goal.returns
returns c = (
  λ is. absurd cc,
  λ clash.
      let found = clash-pair c.args.a.now c.args.b.now c.requires clash in
      absurd (c.loop-k.invariant found.0 (omega (arith, found.1, c.loop-k-test.false, c.loop-k.auto.k-end)) found.2),
)
