-- One output more was given.
use Rattle.std.proofs.Common.{◌≡◌, ◌+◌, ◌*◌, ◌++◌, ℕ, List, take, sym, subst, ap, ◌∙◌, arith}
use Rattle.std.proofs.lemmas.List.{take_all}
use Rattle.std.proofs.Math.Nat.{mul-le-mul_right}
use Rattle.std.proofs.Math.Seq.{take-add}
use Rattle.mk_check.specs.Given.{Given}
use Rattle.mk_check.proofs.giving.give_outs.Goals as goal

pub output-requires : goal.output-requires
output-requires c = omega (arith, c.outputs-k-end.ensures.whole, mul-le-mul_right (c.args.code.now.order + 1) c.loop-k-test.true)

pub loop-k-preserved : goal.loop-k-preserved
loop-k-preserved c =
    let n : ℕ = c.args.code.now.order + 1 in
    let outs : List ℕ = c.args.code.now.outs in
    let more : c.loop-k.k * n + n ≡ (c.loop-k.k + 1) * n = omega arith in
    record {
      given =
          subst (λ (ps : List ℕ). Given c.positions.new.self c.args.code.now.instrs ps)
          (ap (λ (ps : List ℕ). take (c.loop-k.k * n) outs ++ ps) c.output.ensures.positions ∙ sym (take-add (c.loop-k.k * n) n outs) ∙ ap (λ (m : ℕ). take m outs) more)
          (c.positions.ensures.given c.args.code.now.instrs (take (c.loop-k.k * n) outs) c.loop-k.invariant.given);
      outline = c.positions.ensures.same.0 ∙ c.loop-k.invariant.outline;
      cert = c.positions.ensures.same.1 ∙ c.loop-k.invariant.cert;
    }

pub returns-clause-given : goal.returns-clause-given
returns-clause-given c =
    let n : ℕ = c.args.code.now.order + 1 in
    subst (λ (ps : List ℕ). Given c.loop-k.checker c.args.code.now.instrs ps)
    (take_all (c.loop-k.k * n) c.args.code.now.outs (omega (arith, c.outputs-k-end.ensures.whole, mul-le-mul_right n c.loop-k-test.false))) c.loop-k.invariant.given
