use Rattle.std.proofs.Common.{◌≡◌, refl, ◌∙◌, sym, ap, arith, ℕ, bit_xor, slice_index}
use Rattle.mk_field.specs.Field.{sum_bits}
use Rattle.mk_field.proofs.Bits.{sum_bits-set, sum_bits-clear}
use Rattle.mk_field.proofs.map.AddMap.apply.Goals.{then-a-i-eq1, else-a-i-eq1}
use Rattle.mk_field.proofs.map.AddMap.apply.Goals as goal

pub loop-i-init : goal.loop-i-init
unfolding sum_bits
loop-i-init c = refl

pub loop-i-preserved : goal.loop-i-preserved
loop-i-preserved c =
    let images = λ (i : ℕ). slice_index c.args.self.now.images i in
    elim c.if-a-i-eq1.branch [
      | then-a-i-eq1 w ↦
          w.sum-is ∙ ap (λ (x : ℕ). bit_xor x (images c.loop-i.i)) c.loop-i.invariant
          ∙ sym (sum_bits-set c.loop-i.i images c.args.a w.if-a-i-eq1.true)
      | else-a-i-eq1 w ↦
          w.sum-is ∙ c.loop-i.invariant ∙ sym (sum_bits-clear c.loop-i.i images c.args.a w.if-a-i-eq1.false)
    ]

pub returns : goal.returns
returns c =
    let all : c.loop-i.i ≡ 8 = omega arith in
    c.loop-i.invariant ∙ ap (λ (n : ℕ). sum_bits n (λ i. slice_index c.args.self.now.images i) c.args.a) all
