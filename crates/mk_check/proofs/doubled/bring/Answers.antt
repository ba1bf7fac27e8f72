-- One word has more bits.
use Rattle.std.proofs.Common.{ℕ, ◌<◌, Option, IfSome, length, slice_index, slice_set, bit_or, subst, sym}
use Rattle.mk_check.specs.Passing.{IsBrought}
use Rattle.mk_check.proofs.Marking.{brought-more}
use Rattle.mk_check.proofs.doubled.bring.Goals as goal

pub returns-in-Some-clause-marks : goal.returns-in-Some-clause-marks
returns-in-Some-clause-marks c =
    let within : c.in-Some.number < length c.args.marks.now = subst (λ (o : Option ℕ). IfSome o (λ v. v < length c.args.marks.now)) c.in-Some.is c.requires in
    subst (λ (o : Option ℕ). IsBrought o c.args.word c.args.marks.now (slice_set c.args.marks.now c.in-Some.number (bit_or (slice_index c.args.marks.now c.in-Some.number) c.args.word)))
    (sym c.in-Some.is) (brought-more c.args.marks.now c.in-Some.number c.args.word within)
