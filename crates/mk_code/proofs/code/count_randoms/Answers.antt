-- One more instruction takes at most one more random element.
use Rattle.std.proofs.Common.{arith, ◌≡◌, ◌+◌, ◌++◌, [], ◌∷◌, length, take, get_or, sym, ap, ◌∙◌, refl, add-one}
use Rattle.std.proofs.lemmas.List.{length-take-le}
use Rattle.std.proofs.Math.Seq.{take-suc}
use Rattle.mk_code.specs.declared.instr.Instr.TheVariants.{Rnd}
use Rattle.mk_code.specs.Trace.{randoms}
use Rattle.mk_code.proofs.Instrs.{randoms-le, takes-le, randoms-push}
use Rattle.mk_code.proofs.code.count_randoms.Goals as goal

pub loop-instr-init : goal.loop-instr-init
unfolding randoms
loop-instr-init c = refl

pub overflow_add-count : goal.overflow_add-count
overflow_add-count c =
    let instrs = c.args.instrs.now in
    let i = c.loop-instr.instr-index in
    let so_far : c.loop-instr.count ≡ randoms (take i instrs) = c.loop-instr.invariant in
    let few : length (take i instrs) ≡ i = length-take-le i instrs (omega arith) in
    omega (arith, so_far, few, randoms-le (take i instrs), takes-le (get_or instrs i Rnd), c.randoms-count.ensures)

pub loop-instr-preserved : goal.loop-instr-preserved
loop-instr-preserved c =
    let instrs = c.args.instrs.now in
    let i = c.loop-instr.instr-index in
    let so_far : c.loop-instr.count ≡ randoms (take i instrs) = c.loop-instr.invariant in
    let more : take (i + 1) instrs ≡ take i instrs ++ get_or instrs i Rnd ∷ [] = rw add-one (take-suc instrs i Rnd c.loop-instr-test.true) in
    let one = randoms-push (take i instrs) (get_or instrs i Rnd) in
    ap (λ n. n + c.randoms-count.result) so_far ∙ ap (λ n. randoms (take i instrs) + n) c.randoms-count.ensures ∙ sym one ∙ ap randoms (sym more)
