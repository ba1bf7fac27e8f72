-- One more piece came.
use Rattle.std.proofs.Common.{arith, ℕ, ◌≡◌, ◌++◌, ◌≤◌, ◌<◌, List, [], Ok, IfSome, length, take, subst, sym, ap, ◌∙◌}
use Rattle.std.proofs.lemmas.Grind.{common_steps}
use Rattle.mk_base.specs.Outside.{GivesNext}
use Rattle.mk_base.proofs.Told.{Came, came-more, came-all}
use Rattle.mk_base.proofs.streams.read_all.Goals as goal

pub loop-bytes-preserved : goal.loop-bytes-preserved
loop-bytes-preserved g c =
    let grown : c.extend_from_slice.new.self.items ≡ c.loop-bytes.bytes.items ++ take c.in_ok-count.count c.read.new.buf = grind (arith, common_steps) in
    let fits : c.in_ok-count.count ≤ length c.read.new.buf = grind (arith, common_steps) in
    let came : IfSome (g.S.Source.left c.args.src.now) (λ rest. Came (c.loop-bytes.bytes.items ++ take c.in_ok-count.count c.read.new.buf) rest (g.S.Source.left c.read.new.self)) =
    came-more _ _ _ c.loop-bytes.bytes.items c.read.new.buf c.in_ok-count.count fits c.loop-bytes.invariant.came c.in_ok-count.ensures.bytes
    in record {
      few = grind (arith, common_steps);
      came = subst (λ (xs : List ℕ). IfSome (g.S.Source.left c.args.src.now) (λ rest. Came xs rest (g.S.Source.left c.read.new.self))) (sym grown) came;
      falls = omega (arith, c.loop-bytes.invariant.falls, c.read.ensures.never_falls);
    }

pub returns-then-count-eq0-clause-ok : goal.returns-then-count-eq0-clause-ok
returns-then-count-eq0-clause-ok g c =
    let zero : c.in_ok-count.count ≡ 0 = c.if-count-eq0.true in
    let room : 0 < length c.loop-bytes.buf = grind (arith, common_steps) in
    let next : IfSome (g.S.Source.left c.loop-bytes.src) (λ rest. GivesNext rest 0 c.read.new.buf (g.S.Source.left c.read.new.self)) =
    subst (λ (n : ℕ). IfSome (g.S.Source.left c.loop-bytes.src) (λ rest. GivesNext rest n c.read.new.buf (g.S.Source.left c.read.new.self))) zero c.in_ok-count.ensures.bytes in
    let end : IfSome (g.S.Source.left c.loop-bytes.src) (λ rest. rest ≡ []) = c.read.ensures.end (c.in_ok-count.was ∙ ap Ok zero) room
    in rw c.from_vec.ensures (came-all _ _ _ c.loop-bytes.bytes.items c.read.new.buf c.loop-bytes.invariant.came next end)
