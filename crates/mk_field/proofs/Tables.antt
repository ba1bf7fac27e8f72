-- The two tables are held against the powers of 03 by computing each entry once.
use Rattle.std.proofs.Common.{◌≡◌, ℕ, zero, suc, ◌+◌, ◌<◌, true, drop, slice_index, refl, sym, ◌∙◌, ap, arith}
use Rattle.mk_field.specs.Field.{sum_bits}
use Rattle.mk_field.specs.Powers.{power}
use Rattle.mk_field.specs.declared.powers.TheConstants.{POWERS, EXPONENTS}
use Rattle.mk_field.proofs.Exponents.{are_powers, are_powers-at, are_exponents, are_exponents-at}

-- the first table begins with 03 to the power 0
powers-test : are_powers 1 POWERS ≡ true
unfolding are_powers sum_bits
powers-test = refl

-- an entry of the first table
pub powers-entry : (exponent : ℕ) → exponent < 510 → slice_index POWERS exponent ≡ power exponent
unfolding power
powers-entry exponent below =
    let e : 0 + exponent ≡ exponent = omega arith in
    are_powers-at 0 POWERS exponent powers-test below ∙ ap power e

-- the second table has exponents, but for its first entry
exponents-test : are_exponents POWERS 1 (drop 1 EXPONENTS) ≡ true
unfolding are_exponents
exponents-test = refl

-- an entry of the second table is an exponent below 255
pub exponents-below : (a : ℕ) → 0 < a → a < 256 → slice_index EXPONENTS a < 255
exponents-below zero positive below = absurd (omega arith)
exponents-below (suc a) positive below = (are_exponents-at POWERS 1 (drop 1 EXPONENTS) a exponents-test (omega arith)).0

-- 03 to the power of an entry of the second table
pub exponents-entry : (a : ℕ) → 0 < a → a < 256 → power (slice_index EXPONENTS a) ≡ a
exponents-entry zero positive below = absurd (omega arith)
exponents-entry (suc a) positive below =
    let small : slice_index EXPONENTS (suc a) < 255 = exponents-below (suc a) positive below in
    let e : 1 + a ≡ suc a = omega arith in
    sym (powers-entry (slice_index EXPONENTS (suc a)) (omega arith))
    ∙ (are_exponents-at POWERS 1 (drop 1 EXPONENTS) a exponents-test (omega arith)).1 ∙ e
