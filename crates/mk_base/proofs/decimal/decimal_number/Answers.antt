-- Digit after digit.
use Rattle.std.proofs.Common.{◌≡◌, ℕ, ◌+◌, ◌*◌, ◌&&◌, true, drop, get_or, arith, sym, ◌∙◌, ap}
use Rattle.std.specs.Char.{is_ascii_digit}
use Rattle.std.specs.Str.{all_ascii_digits}
use Rattle.std.proofs.lemmas.Bool.{both_ways}
use Rattle.mk_base.specs.Digits.{valued}
use Rattle.mk_base.proofs.Digits.{digit_more, all_more, number_parts, not_all_digits, too_large, number_end}
use Rattle.mk_base.proofs.decimal.decimal_number.Goals as goal

pub returns-then-not-leads : goal.returns-then-not-leads
returns-then-not-leads c = λ n h.
    let parts = number_parts n c.args.text.now h.0 (omega (arith, h.1)) in
    both_ways c.leads.result c.if-not-leads.true (c.leads.ensures.1 (parts.2, parts.3))

pub returns-then-not-is_ascii_digit : goal.returns-then-not-is_ascii_digit
returns-then-not-is_ascii_digit c =
    not_all_digits c.args.most (omega arith) c.args.text.now c.loop-digit.digit-index c.loop-digit-test.true c.loop-digit.invariant.digits (sym c.is_ascii_digit.ensures.value ∙ c.if-not-is_ascii_digit.true)

pub returns-then-value-from : goal.returns-then-value-from
returns-then-value-from c =
    let t = c.args.text.now in
    let i = c.loop-digit.digit-index in
    let value = c.loop-digit.value in
    let more : valued (value * 10 + c.from.result) (drop (i + 1) t) ≡ valued 0 t =
    ap (λ (n : ℕ). valued (value * 10 + n) (drop (i + 1) t)) c.from.ensures ∙ digit_more t i value (valued 0 t) c.loop-digit-test.true c.loop-digit.invariant.same in
    too_large c.args.most (omega arith) t (value * 10 + c.from.result) (drop (i + 1) t) (omega arith) more

pub loop-digit-preserved : goal.loop-digit-preserved
loop-digit-preserved c =
    let t = c.args.text.now in
    let i = c.loop-digit.digit-index in
    let value = c.loop-digit.value in
    let digit : is_ascii_digit (get_or t i 0) ≡ true = sym c.is_ascii_digit.ensures.value ∙ c.if-not-is_ascii_digit.false in
    record {
      same = ap (λ (n : ℕ). valued (value * 10 + n) (drop (i + 1) t)) c.from.ensures ∙ digit_more t i value (valued 0 t) c.loop-digit-test.true c.loop-digit.invariant.same;
      digits = sym (ap (λ b. b && all_ascii_digits (drop (i + 1) t)) digit) ∙ all_more t i (all_ascii_digits t) c.loop-digit-test.true c.loop-digit.invariant.digits;
      small = omega arith;
    }

pub returns : goal.returns
returns c =
    let led = c.leads.ensures.0 c.if-not-leads.false in
    number_end c.args.most (omega arith) c.args.text.now c.loop-digit.digit-index c.loop-digit.value c.loop-digit-test.false c.loop-digit.invariant.digits c.loop-digit.invariant.same led.0 led.1 c.loop-digit.invariant.small
