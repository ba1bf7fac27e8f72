-- What came is what the source gave.
use Rattle.std.proofs.Common.{arith, ℕ, ◌≡◌, ◌≤◌, ◌+◌, ◌++◌, List, [], Result, Ok, Err, length, take, subst, sym, ap, ◌∙◌, length-append}
use Rattle.std.proofs.lemmas.Grind.{common_steps}
use Rattle.std.proofs.lemmas.List.{length-take-le}
use Rattle.std.proofs.lemmas.Result.{err_from_is_err_and}
use Rattle.mk_bundle.specs.declared.input.TheConstants.{PIECE}
use Rattle.mk_bundle.specs.declared.refusal.StreamRefusal.{StreamRefusal}
use Rattle.mk_bundle.specs.Taking.{Held, Feeds}
use Rattle.mk_bundle.proofs.Coming.{comes_none, comes_given}
use Rattle.mk_bundle.proofs.input.Input.fill.Goals as goal

pub returns-in_err-count-clause-fed : goal.returns-in_err-count-clause-fed
returns-in_err-count-clause-fed g c =
    let p = err_from_is_err_and c.from_residual.result c.from_residual.ensures.1 in
    subst (λ (r : Result ℕ StreamRefusal). Feeds r c.args.self.now c.args.self.now (g.S.Source.left c.args.src.now) (g.S.Source.left c.read.new.self)) (sym (p.1 ∙ ap Err p.2))
    (record { came = []; comes = comes_none _ _ c.in_err-count.ensures.kept; few = omega (arith, c.room-room.ensures) })

pub returns-then-count-room-clause-fed : goal.returns-then-count-room-clause-fed
returns-then-count-room-clause-fed g c =
    let n = c.in_ok-count.count in
    let fits : n ≤ length c.read.new.buf = grind (arith, common_steps) in
    record {
      came = take n c.read.new.buf;
      comes = comes_given _ _ c.read.new.buf n c.in_ok-count.ensures.bytes;
      many = omega (arith, length-take-le n c.read.new.buf fits, c.room-room.ensures, c.if-count-room.true);
    }

pub returns-clause-fed : goal.returns-clause-fed
returns-clause-fed g c =
    let n = c.in_ok-count.count in
    let old = c.args.self.now in
    let fits : n ≤ length c.read.new.buf = grind (arith, common_steps) in
    let long : length (take n c.read.new.buf) ≡ n = length-take-le n c.read.new.buf fits in
    let small : n ≤ PIECE = grind (arith, common_steps) in
    let grown : c.append.new.self.pending ≡ old.pending ++ take n c.read.new.buf = grind (arith, common_steps) in
    record {
      came = take n c.read.new.buf;
      comes = comes_given _ _ c.read.new.buf n c.in_ok-count.ensures.bytes;
      number = long;
      held = c.came.ensures ∙ ap (λ (h : Held). record h { count = h.count + n }) (c.in_ok-append.ensures.ok ∙ ap (λ (p : List ℕ). record old { pending = p }) (grind (arith, common_steps)));
      within = omega (arith, c.room-room.ensures, c.if-count-room.false);
      short = omega (arith, ap length grown, ap (λ (h : Held). length h.pending) c.came.ensures, length-append old.pending (take n c.read.new.buf), long, small, c.requires);
      end = λ zero. c.read.ensures.end (c.in_ok-count.was ∙ ap Ok zero) (grind (arith, common_steps));
    }
