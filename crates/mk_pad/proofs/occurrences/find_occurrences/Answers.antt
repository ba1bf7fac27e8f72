-- One polynomial after the other is noted.
use Rattle.std.proofs.Common.{subst, sym, []}
use Rattle.mk_pad.specs.Looking.{AreNoted}
use Rattle.mk_pad.proofs.Noting.{noted-none, noted-more}
use Rattle.mk_pad.proofs.occurrences.find_occurrences.Goals as goal

pub loop-position-init : goal.loop-position-init
loop-position-init c = subst (AreNoted c.args.shares c.args.variables []) (sym c.new-rows.ensures) (noted-none c.args.shares c.args.variables)

pub loop-position-preserved : goal.loop-position-preserved
loop-position-preserved c =
    noted-more c.args.shares c.args.variables c.args.positions.now c.loop-position.position-index c.loop-position.rows c.push.new.self c.position-item.result
    c.as_slice.result.now c.in_ok-note.field-0 c.loop-position-test.true c.position-item.is c.as_slice.ensures.items c.loop-position.invariant c.in_ok-note.ensures c.in_ok-push.ensures.ok
