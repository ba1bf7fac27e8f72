-- The digits that are left make the number of all behind what was made so far, which is small.
use Rattle.std.proofs.Common.{◌≡◌, ◌≤◌, drop}
use Rattle.std.specs.Str.{all_ascii_digits}
use Rattle.mk_base.specs.Digits.{valued}
use Rattle.mk_base.proofs.decimal.decimal_number.Given as goal

abbrev pub invariant-loop-digit : goal.invariant-loop-digit
invariant-loop-digit l = record {
  same : valued l.value (drop l.digit-index l.text) ≡ valued 0 l.text;
  digits : all_ascii_digits (drop l.digit-index l.text) ≡ all_ascii_digits l.text;
  small : l.value ≤ l.most;
}
