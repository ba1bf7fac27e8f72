-- What the statements and the turns so far did, and what is counted of them.
use Rattle.std.proofs.Common.{◌≡◌, ◌≤◌, ◌+◌, ◌-◌, take}
use Rattle.mk_types.specs.Turns.{turn_numbers}
use Rattle.mk_unroll.specs.Counted.{counted}
use Rattle.mk_unroll.specs.Kept.{Becomes}
use Rattle.mk_unroll.specs.Running.{body_unrolled, body_units, turns_unrolled, turns_units}
use Rattle.mk_unroll.proofs.statements.+stmt.Given as goal

abbrev pub invariant-execute_all-loop-stmt : goal.invariant-execute_all-loop-stmt
invariant-execute_all-loop-stmt l = record {
  names : l.frame.names ≡ l.initial.frame.names;
  turns : l.frame.turns ≡ l.initial.frame.turns;
  becomes : Becomes l.initial.frame.names l.initial.values
      (body_unrolled l.initial.frame.names l.initial.frame.turns (record { values = l.initial.values.values; env = l.initial.frame.variables })
      (take l.stmt-index l.stmts)) l.values l.frame.variables;
  meter : l.meter ≡ counted l.initial.meter (body_units l.initial.frame.names l.initial.frame.turns (take l.stmt-index l.stmts));
}

abbrev pub invariant-repeat-loop-number : goal.invariant-repeat-loop-number
invariant-repeat-loop-number l = record {
  names : l.frame.names ≡ l.initial.frame.names;
  turns : l.frame.turns ≡ l.initial.frame.turns;
  becomes : Becomes l.initial.frame.names l.initial.values
      (turns_unrolled l.initial.frame.names l.initial.frame.turns l.name l.body (record { values = l.initial.values.values; env = l.initial.frame.variables })
      (turn_numbers l.from l.number)) l.values l.frame.variables;
  meter : l.meter ≡ counted l.initial.meter (turns_units l.initial.frame.names l.initial.frame.turns l.name l.body (turn_numbers l.from l.number));
  near : l.number ≤ l.from + (l.to - l.from);
}
