-- Digit after digit.
use Rattle.std.proofs.Common.{◌+◌, ◌-◌, ◌*◌, ℕ, drop, take, get_or, length, arith, sym, ◌∙◌, ap}
use Rattle.mk_lines.specs.Parsing.{digits_from}
use Rattle.mk_lines.proofs.Numbers.{digits_more_first, digits_end_first, digits_end_none, digits_large}
use Rattle.mk_lines.proofs.parse.digits_behind.Goals as goal

pub returns-then-not-is_ascii_digit : goal.returns-then-not-is_ascii_digit
returns-then-not-is_ascii_digit c =
    rw (sym c.loop-rest.invariant.same ∙ digits_end_first c.loop-rest.value c.loop-rest.rest.now (omega (arith, c.in-len1-up.len_at_least)) (sym c.is_ascii_digit.ensures.value ∙ c.if-not-is_ascii_digit.true)) c.narrowed.ensures

pub returns-then-value-gt-MOST_BEFORE : goal.returns-then-value-gt-MOST_BEFORE
returns-then-value-gt-MOST_BEFORE c =
    let value = c.loop-rest.value in
    let rest = c.loop-rest.rest.now in
    sym c.loop-rest.invariant.same ∙ digits_more_first value rest (omega (arith, c.in-len1-up.len_at_least)) (sym c.is_ascii_digit.ensures.value ∙ c.if-not-is_ascii_digit.false)
    ∙ digits_large (value * 10 + (get_or rest 0 0 - 48)) (take (length rest - 1) (drop 1 rest)) (omega (arith, c.if-value-gt-MOST_BEFORE.true))

pub loop-rest-preserved : goal.loop-rest-preserved
loop-rest-preserved c =
    let value = c.loop-rest.value in
    let rest = c.loop-rest.rest.now in
    record {
      same = ap (λ (n : ℕ). digits_from (value * 10 + n) (take (length rest - 1) (drop 1 rest))) c.from.ensures
          ∙ sym (digits_more_first value rest (omega (arith, c.in-len1-up.len_at_least)) (sym c.is_ascii_digit.ensures.value ∙ c.if-not-is_ascii_digit.false)) ∙ c.loop-rest.invariant.same;
      small = grind (arith, c.if-value-gt-MOST_BEFORE.false, c.if-not-is_ascii_digit.ensures, c.if-not-is_ascii_digit.false);
    }

pub returns : goal.returns
returns c = rw (sym c.loop-rest.invariant.same ∙ digits_end_none c.loop-rest.value c.loop-rest.rest.now (omega (arith, c.in_default.len_below))) c.narrowed-2.ensures
