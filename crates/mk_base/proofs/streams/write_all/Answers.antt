-- The sink takes one more front of the rest of the piece.
use Rattle.std.proofs.Common.{arith, ℕ, List, IfSome, subst, drop}
use Rattle.std.proofs.lemmas.List.{length-drop}
use Rattle.mk_base.specs.Outside.{TakesFront}
use Rattle.mk_base.proofs.Told.{taken-more, range-from}
use Rattle.mk_base.proofs.streams.write_all.Goals as goal

pub loop-start-preserved : goal.loop-start-preserved
loop-start-preserved g c =
    let rest : List ℕ = drop c.loop-start.start c.args.piece.now in
    let next : IfSome (g.O.Sink.taken c.loop-start.sink) (λ before. TakesFront before rest c.in_ok-count.count (g.O.Sink.taken c.write.new.self)) =
    subst
    (λ (xs : List ℕ). IfSome (g.O.Sink.taken c.loop-start.sink) (λ before. TakesFront before xs c.in_ok-count.count (g.O.Sink.taken c.write.new.self)))
    (range-from c.loop-start.start c.args.piece.now) c.in_ok-count.ensures.bytes
    in record {
      within = omega (arith, length-drop c.loop-start.start c.args.piece.now, c.in_ok-count.ensures.count);
      taken = taken-more _ _ _ c.args.piece.now c.loop-start.start c.in_ok-count.count c.loop-start.invariant.taken next;
      falls = omega (arith, c.loop-start.invariant.falls, c.write.ensures.never_falls);
    }
