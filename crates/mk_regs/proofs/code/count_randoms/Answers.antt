-- One more instruction takes at most one more random element.
use Rattle.std.proofs.Common.{arith, ◌≡◌, ◌+◌, ◌++◌, [], ◌∷◌, length, take, map, get_or, ap, ◌∙◌, refl}
use Rattle.std.proofs.lemmas.List.{length-take-le, map_more, length-map}
use Rattle.mk_code.specs.Trace.{takes, randoms}
use Rattle.mk_code.proofs.Instrs.{randoms-le, takes-le, randoms-push}
use Rattle.mk_regs.specs.declared.instr.RegInstr.TheVariants.{Rnd}
use Rattle.mk_regs.specs.Form.{operation}
use Rattle.mk_regs.specs.Trace.{register_randoms}
use Rattle.mk_regs.proofs.code.count_randoms.Goals as goal

pub loop-instr-init : goal.loop-instr-init
unfolding randoms
loop-instr-init c = refl

pub overflow_add-count : goal.overflow_add-count
overflow_add-count c =
    let instrs = c.args.instrs.now in
    let i = c.loop-instr.instr-index in
    let so_far : c.loop-instr.count ≡ register_randoms (take i instrs) = c.loop-instr.invariant in
    let few : length (map operation (take i instrs)) ≡ i = length-map (take i instrs) operation ∙ length-take-le i instrs (omega arith) in
    omega (arith, so_far, few, randoms-le (map operation (take i instrs)), takes-le c.operation.result, c.randoms-count.ensures)

pub loop-instr-preserved : goal.loop-instr-preserved
loop-instr-preserved c =
    let instrs = c.args.instrs.now in
    let i = c.loop-instr.instr-index in
    let so_far : c.loop-instr.count ≡ register_randoms (take i instrs) = c.loop-instr.invariant in
    let more : map operation (take (i + 1) instrs) ≡ map operation (take i instrs) ++ operation (get_or instrs i (Rnd 0)) ∷ [] =
    map_more operation instrs i (Rnd 0) c.loop-instr-test.true in
    let one = randoms-push (map operation (take i instrs)) (operation (get_or instrs i (Rnd 0))) in
    omega (arith, so_far, c.randoms-count.ensures, ap takes c.operation.ensures, one, ap randoms more)
