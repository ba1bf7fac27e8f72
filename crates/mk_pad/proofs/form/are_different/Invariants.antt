use Rattle.std.proofs.Common.{◌↔◌, drop, nat_eq}
use Rattle.std.specs.List.{IsDistinct}
use Rattle.mk_pad.proofs.form.are_different.Given as goal

abbrev pub invariant-loop-i : goal.invariant-loop-i
invariant-loop-i l = IsDistinct nat_eq l.positions ↔ IsDistinct nat_eq (drop l.i l.positions)
