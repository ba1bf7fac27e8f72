-- The lines of those so far were passed on, and these fit.
use Rattle.std.proofs.Common.{◌≤◌, take, flat_map}
use Rattle.std.specs.List.{AllByRecursion}
use Rattle.mk_bundle.specs.Passing.{Sends}
use Rattle.mk_bundle.proofs.write.put_all.Given as goal

abbrev pub invariant-loop-item : goal.invariant-loop-item
invariant-loop-item g l = record {
  sends : Sends (g.O.Sink.taken l.initial.out) l.initial.piece.bytes (flat_map g.T.Spell.spelled (take l.item-index l.items)) (g.O.Sink.taken l.out) l.piece.bytes;
  fits : AllByRecursion g.T.Spell.fits (take l.item-index l.items);
  falls : g.O.Sink.faults l.initial.out ≤ g.O.Sink.faults l.out;
}
