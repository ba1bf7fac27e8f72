-- The first two bytes decide.
use Rattle.std.proofs.Common.{◌≡◌, ℕ, ◌≤◌, ◌<◌, true, false, List, [], ◌∷◌, length, get_or, refl, sym, ap, ◌∙◌, arith}
use Rattle.std.specs.Prelude.{cond, take_while, not, ◌==◌}
use Rattle.std.specs.Char.{is_ascii_digit}
use Rattle.mk_lines.specs.Parsing.{leads}
use Rattle.mk_lines.proofs.Numbers.{leads_long, leads_one}
use Rattle.std.proofs.lemmas.Bool.{eq-eqb, ne_eqb}
use Rattle.mk_lines.proofs.parse.leads.Goals as goal

-- no byte leads
none : (bytes : List ℕ) → length bytes < 1 → false ≡ leads (take_while is_ascii_digit bytes)
unfolding leads
none [] few = refl
none (b ∷ bs) few = absurd (omega (arith, few))

-- one byte leads where it is a digit
one : (bytes : List ℕ) → 1 ≤ length bytes → length bytes < 2 → is_ascii_digit (get_or bytes 0 0) ≡ leads (take_while is_ascii_digit bytes)
one [] some few = absurd (omega (arith, some))
one (a ∷ []) some few = sym (leads_one a)
one (a ∷ b ∷ bs) some few = absurd (omega (arith, few))

-- of more bytes the first two decide
long : (bytes : List ℕ) → 2 ≤ length bytes → leads (take_while is_ascii_digit bytes) ≡ cond (is_ascii_digit (get_or bytes 0 0)) (cond (get_or bytes 0 0 == 48) (not (is_ascii_digit (get_or bytes 1 0))) true) false
long [] some = absurd (omega (arith, some))
long (a ∷ []) some = absurd (omega (arith, some))
long (a ∷ b ∷ bs) some = leads_long a b bs

pub returns-in-empty : goal.returns-in-empty
returns-in-empty c = none c.args.bytes.now (omega (arith, c.in-empty.len_below))

pub returns-in-len1 : goal.returns-in-len1
returns-in-len1 c = c.is_ascii_digit.ensures.value ∙ one c.args.bytes.now (omega (arith, c.in-len1.len_at_least)) (omega (arith, c.in-len1.len_below))

pub returns-then-first-ne48 : goal.returns-then-first-ne48
returns-then-first-ne48 c =
    let digit : is_ascii_digit (get_or c.args.bytes.now 0 0) ≡ true = sym c.is_ascii_digit-in-len2-up.ensures.value ∙ c.if-is_ascii_digit.true in
    let high : (get_or c.args.bytes.now 0 0 == 48) ≡ false = ne_eqb (get_or c.args.bytes.now 0 0) 48 c.if-first-ne48.true in
    rw (long c.args.bytes.now c.in-len2-up.len_at_least, digit, high) refl

pub returns-else-first-ne48 : goal.returns-else-first-ne48
returns-else-first-ne48 c =
    let digit : is_ascii_digit (get_or c.args.bytes.now 0 0) ≡ true = sym c.is_ascii_digit-in-len2-up.ensures.value ∙ c.if-is_ascii_digit.true in
    let zero : (get_or c.args.bytes.now 0 0 == 48) ≡ true = eq-eqb (get_or c.args.bytes.now 0 0) 48 c.if-first-ne48.false in
    rw (long c.args.bytes.now c.in-len2-up.len_at_least, digit, zero) (ap not c.is_ascii_digit-else-first-ne48.ensures.value)

pub returns-else-is_ascii_digit : goal.returns-else-is_ascii_digit
returns-else-is_ascii_digit c =
    let digit : is_ascii_digit (get_or c.args.bytes.now 0 0) ≡ false = sym c.is_ascii_digit-in-len2-up.ensures.value ∙ c.if-is_ascii_digit.false in
    rw (long c.args.bytes.now c.in-len2-up.len_at_least, digit) c.if-is_ascii_digit.false
