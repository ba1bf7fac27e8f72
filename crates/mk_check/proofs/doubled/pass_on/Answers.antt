-- A product of the batch brings its places.
use Rattle.std.proofs.Common.{◌≡◌, ◌+◌, ◌*◌, ◌%◌, ◌^◌, ◌<◌, ℕ, Option, IfSome, slice_index, subst, sym, ap}
use Rattle.mk_ssa.specs.Operators.{Operator, operator}
use Rattle.mk_check.specs.Outlines.{outlined}
use Rattle.mk_check.specs.Passing.{IsBrought, IsPassedOn}
use Rattle.mk_check.proofs.Marking.{passed-product}
use Rattle.mk_check.proofs.doubled.pass_on.Goals as goal

pub returns-in-Some-clause-marks : goal.returns-in-Some-clause-marks
returns-in-Some-clause-marks c =
    let shape = outlined c.args.outline.now in
    let own : ℕ = slice_index c.args.marks.now (c.args.outline.now.secrets + c.args.outline.now.publics + c.args.block) in
    let mul : operator c.args.op ≡ Operator.Mul = ap operator c.in-Mul.is in
    subst (λ (o : Option ℕ). IsPassedOn shape c.args.op own o c.args.marks.now c.bring-in-Some.new.marks) (sym c.in-Some.is)
    (passed-product shape c.args.op own c.in-Some.product c.args.marks.now c.bring.new.marks c.bring-in-Some.new.marks
    (subst (λ (o : Option ℕ). IfSome o (λ r. r < 32)) c.in-Some.is c.requires.few) mul
    (subst (λ (o : Option ℕ). IsBrought o (1 * 2 ^ (2 * c.in-Some.product) % 2 ^ 64) c.args.marks.now c.bring.new.marks)
    c.shared_numbers-first.ensures.first c.bring.ensures.marks)
    (subst (λ (o : Option ℕ). IsBrought o (1 * 2 ^ (2 * c.in-Some.product + 1) % 2 ^ 64) c.bring.new.marks c.bring-in-Some.new.marks)
    c.shared_numbers-first.ensures.second c.bring-in-Some.ensures.marks))
