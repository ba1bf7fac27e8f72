use Rattle.std.proofs.Common.{◌≡◌, ◌+◌, ◌↔◌, drop}
use Rattle.mk_code.specs.Listing.{AllFit}
use Rattle.mk_pad.proofs.form.all_fit.Given as goal

abbrev pub invariant-loop-instr : goal.invariant-loop-instr
invariant-loop-instr l = (l.behind ≡ l.positions + l.instr-index) × (AllFit l.field 0 l.positions l.instrs ↔ AllFit l.field 0 l.behind (drop l.instr-index l.instrs))
