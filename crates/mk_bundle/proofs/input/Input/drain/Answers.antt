-- Piece after piece came.
use Rattle.std.proofs.Common.{arith, ℕ, ◌≡◌, ◌≤◌, ◌<◌, ◌+◌, ◌++◌, [], Result, Ok, Err, IfSome, length, take, subst, refl, sym, ap, ◌∙◌, length-append}
use Rattle.std.proofs.lemmas.Grind.{common_steps}
use Rattle.std.proofs.lemmas.List.{length-take-le}
use Rattle.std.proofs.lemmas.Result.{err_from_is_err_and}
use Rattle.mk_base.specs.Outside.{GivesNext}
use Rattle.mk_bundle.specs.declared.refusal.StreamRefusal.{StreamRefusal}
use Rattle.mk_bundle.specs.Taking.{Held, Drains}
use Rattle.mk_bundle.proofs.Coming.{comes_kept, comes_none, comes_given, comes_more, ends_behind}
use Rattle.mk_bundle.proofs.input.Input.drain.Goals as goal

pub loop-count-init : goal.loop-count-init
loop-count-init g c = record {
  came = ([], comes_kept (g.S.Source.left c.args.src.now), omega arith);
  pending = refl;
  limit = refl;
  within = omega (arith, c.room-room.ensures);
  falls = omega arith;
}

pub returns-in_err-count-clause-drained : goal.returns-in_err-count-clause-drained
returns-in_err-count-clause-drained g c =
    let p = err_from_is_err_and c.from_residual.result c.from_residual.ensures.1 in
    let so = c.loop-count.invariant.came in
    subst (λ (r : Result (Unit {0}) StreamRefusal). Drains r c.args.self.now (g.S.Source.left c.args.src.now) (g.S.Source.left c.read.new.self)) (sym (p.1 ∙ ap Err p.2))
    (record { came = so.0 ++ []; comes = comes_more _ _ _ so.0 [] so.1 (comes_none _ _ c.in_err-count.ensures.kept); few = omega (arith, so.2, length-append so.0 [], c.loop-count.invariant.within, c.loop-count.invariant.limit) })

pub returns-then-count-eq0-clause-drained : goal.returns-then-count-eq0-clause-drained
returns-then-count-eq0-clause-drained g c =
    let zero : c.in_ok-count.count ≡ 0 = c.if-count-eq0.true in
    let so = c.loop-count.invariant.came in
    let some : 0 < length c.loop-count.piece = grind (arith, common_steps) in
    let given : IfSome (g.S.Source.left c.loop-count.src) (λ rest. GivesNext rest 0 c.read.new.buf (g.S.Source.left c.read.new.self)) =
    subst (λ (n : ℕ). IfSome (g.S.Source.left c.loop-count.src) (λ rest. GivesNext rest n c.read.new.buf (g.S.Source.left c.read.new.self))) zero c.in_ok-count.ensures.bytes in
    let end : IfSome (g.S.Source.left c.loop-count.src) (λ rest. rest ≡ []) = c.read.ensures.end (c.in_ok-count.was ∙ ap Ok zero) some in record {
      came = so.0 ++ take 0 c.read.new.buf;
      comes = comes_more _ _ _ so.0 (take 0 c.read.new.buf) so.1 (comes_given _ _ c.read.new.buf 0 given);
      few = omega (arith, so.2, length-append so.0 (take 0 c.read.new.buf), c.loop-count.invariant.within, c.loop-count.invariant.limit);
      end = ends_behind _ _ _ so.0 c.read.new.buf so.1 end given;
    }

pub returns-then-count-left-clause-drained : goal.returns-then-count-left-clause-drained
returns-then-count-left-clause-drained g c =
    let n = c.in_ok-count.count in
    let so = c.loop-count.invariant.came in
    let fits : n ≤ length c.read.new.buf = grind (arith, common_steps) in record {
      came = so.0 ++ take n c.read.new.buf;
      comes = comes_more _ _ _ so.0 (take n c.read.new.buf) so.1 (comes_given _ _ c.read.new.buf n c.in_ok-count.ensures.bytes);
      many = omega (arith, so.2, length-append so.0 (take n c.read.new.buf), length-take-le n c.read.new.buf fits, c.room-left.ensures, c.if-count-left.true, c.loop-count.invariant.limit);
    }

pub loop-count-preserved : goal.loop-count-preserved
loop-count-preserved g c =
    let n = c.in_ok-count.count in
    let so = c.loop-count.invariant.came in
    let fits : n ≤ length c.read.new.buf = grind (arith, common_steps) in
    let count : c.came.new.self.count ≡ c.loop-count.self.count + n = ap (λ (h : Held). h.count) c.came.ensures in
    let limit : c.came.new.self.limit ≡ c.loop-count.self.limit = ap (λ (h : Held). h.limit) c.came.ensures in record {
      came = (
        so.0 ++ take n c.read.new.buf,
        comes_more _ _ _ so.0 (take n c.read.new.buf) so.1 (comes_given _ _ c.read.new.buf n c.in_ok-count.ensures.bytes),
        omega (arith, so.2, count, length-append so.0 (take n c.read.new.buf), length-take-le n c.read.new.buf fits),
      );
      pending = ap (λ (h : Held). h.pending) c.came.ensures ∙ c.loop-count.invariant.pending;
      limit = limit ∙ c.loop-count.invariant.limit;
      within = omega (arith, count, limit, c.room-left.ensures, c.if-count-left.false);
      falls = omega (arith, c.loop-count.invariant.falls, c.read.ensures.never_falls);
    }
