-- The words of lines that are written are read back, and what is read is written so.
use Rattle.std.proofs.Common.{◌≡◌, ℕ, zero, suc, ◌+◌, ◌*◌, ◌-◌, ◌/◌, ◌%◌, ◌^◌, ◌<◌, ◌≤◌, Bool, ◌&&◌, false, true≢false, List, [], ◌∷◌, ◌++◌, length, Option, Some, None, nat_lt, refl, sym, ap, ap₂, subst, ◌∙◌, inl, inr, arith, append_assoc}
use Rattle.std.specs.Prelude.{cond, codes, decimal, flat_map, ◌==◌}
use Rattle.std.specs.List.{AllByRecursion}
use Rattle.std.specs.Char.{is_ascii_uppercase}
use Rattle.std.proofs.lemmas.Bool.{ltb-true, lt-ltb, le-ltb, ltb-false, le-leb, lt-leb, eqb-true, cases_Bool}
use Rattle.std.proofs.lemmas.List.{append-nil}
use Rattle.mk_base.specs.Digits.{hex_value}
use Rattle.mk_field.specs.declared.map.AddMap.{AddMap}
use Rattle.mk_ssa.specs.declared.Operand.{Operand}
use Rattle.mk_ssa.specs.declared.Operand.TheVariants.{Secret, Public, Block}
use Rattle.mk_lines.specs.Words.{operand_word}
use Rattle.mk_field.specs.Digits.{hex_byte, hex_digit}
use Rattle.mk_ssa.specs.Widths.{OperandFits}
use Rattle.mk_lines.specs.CertLines.{pair_words, mapped_words}
use Rattle.mk_lines.specs.CodeLines.{position_word}
use Rattle.mk_field.specs.Maps.{MapFits}
use Rattle.mk_lines.specs.Parsing.{◌>>=◌, after, whole, number_at, lower_hex_value, hex_at, hex_of, images_at, map_of, operand_by, operand_at, operand_of, pair_of, mapped_of, numbers_at, positions_of}
use Rattle.mk_lines.proofs.Steps.{bind_some, same_some, chosen, passed, not_passed, after_found, after_again, whole_found}
use Rattle.mk_lines.proofs.Numbers.{EndsNumber, number_found, number_again}

-- ---- hexadecimal digits

-- a lower-case hexadecimal digit that has a value is the digit of this value, which is below 16
lower_hex_value_found : (c n : ℕ) → lower_hex_value c ≡ Some n → (hex_digit n ≡ c) × (n < 16)
unfolding lower_hex_value
lower_hex_value_found c n e =
    let other = not_passed (is_ascii_uppercase c) (hex_value c) n e in
    let a = not_passed (nat_lt c 48) _ n other.1 in
    let low = ltb-false c 48 a.0 in
    elim (chosen (nat_lt c 58) (Some (c - 48)) _ (Some n) a.1) [
      | inl here ↦ digit low (ltb-true c 58 here.0) (same_some (c - 48) n here.1)
      | inr there ↦
          let b = not_passed (nat_lt c 65) _ n there.1 in
          let above = ltb-false c 65 b.0 in
          elim (chosen (nat_lt c 71) (Some (c - 55)) _ (Some n) b.1) [
            | inl upper ↦
                let below = ltb-true c 71 upper.0 in
                absurd (true≢false (sym (ap₂ (λ (x y : Bool). x && y) (le-leb 65 c above) (le-leb c 90 (omega arith))) ∙ other.0))
            | inr behind ↦ letter (not_passed (nat_lt c 97) (cond (nat_lt c 103) (Some (c - 87)) None) n behind.1)
          ]
    ]
  where
    digit : 48 ≤ c → c < 58 → c - 48 ≡ n → (hex_digit n ≡ c) × (n < 16)
    digit low high is =
        let small : n < 10 = omega (arith, is) in
        (rw (lt-ltb n 10 small) (omega (arith, is)), omega arith)

    letter : (nat_lt c 97 ≡ false) × (cond (nat_lt c 103) (Some (c - 87)) None ≡ Some n) → (hex_digit n ≡ c) × (n < 16)
    letter (below, e) =
        let h = passed (nat_lt c 103) (Some (c - 87)) n e in
        let low : 97 ≤ c = ltb-false c 97 below in
        let high : c < 103 = ltb-true c 103 h.0 in
        let is : c - 87 ≡ n = same_some (c - 87) n h.1 in
        let large : 10 ≤ n = omega arith in
        (rw (le-ltb n 10 large) (omega arith), omega arith)

-- the digit of a number below 16 has this number as its value
lower_hex_value_again : (n : ℕ) → n < 16 → lower_hex_value (hex_digit n) ≡ Some n
unfolding lower_hex_value
lower_hex_value_again n small = elim (cases_Bool (nat_lt n 10)) [ inl low ↦ digit (ltb-true n 10 low) | inr high ↦ letter (ltb-false n 10 high) ]
  where
    digit : n < 10 → lower_hex_value (hex_digit n) ≡ Some n
    digit low =
        let is : hex_digit n ≡ 48 + n = rw (lt-ltb n 10 low) refl in
        rw (is, lt-leb 65 (48 + n) (omega arith), le-ltb (48 + n) 48 (omega arith), lt-ltb (48 + n) 58 (omega arith)) (ap (λ (m : ℕ). Some m) (let e : 48 + n - 48 ≡ n = omega arith in e))

    letter : 10 ≤ n → lower_hex_value (hex_digit n) ≡ Some n
    letter high =
        let is : hex_digit n ≡ 87 + n = rw (le-ltb n 10 high) refl in
        rw (is, le-leb 65 (87 + n) (omega arith), lt-leb (87 + n) 90 (omega arith), le-ltb (87 + n) 48 (omega arith), le-ltb (87 + n) 58 (omega arith), le-ltb (87 + n) 65 (omega arith), le-ltb (87 + n) 71 (omega arith), le-ltb (87 + n) 97 (omega arith), lt-ltb (87 + n) 103 (omega arith)) (ap (λ (m : ℕ). Some m) (let e : 87 + n - 87 ≡ n = omega arith in e))

-- the bytes at the front that are read as an element are its two digits, and it is a byte
pub hex_found : (bytes : List ℕ) (x : ℕ × List ℕ) → hex_at bytes ≡ Some x → (bytes ≡ hex_byte x.0 ++ x.1) × (x.0 < 256)
unfolding hex_at
hex_found [] x e = absurd cc
hex_found (c ∷ []) x e = absurd cc
hex_found (c ∷ d ∷ bs) x e =
    let a = bind_some (lower_hex_value c) (λ (high : ℕ). lower_hex_value d >>= λ low. Some (high * 16 + low, bs)) x e in
    let b = bind_some (lower_hex_value d) (λ (low : ℕ). Some (a.0 * 16 + low, bs)) x a.2 in
    let is : (a.0 * 16 + b.0, bs) ≡ x = same_some (a.0 * 16 + b.0, bs) x b.2 in
    let high = lower_hex_value_found c a.0 a.1 in
    let low = lower_hex_value_found d b.0 b.1 in
    let over : (a.0 * 16 + b.0) / 16 ≡ a.0 = omega (arith, low.1) in
    let under : (a.0 * 16 + b.0) % 16 ≡ b.0 = omega (arith, low.1) in
    let first : hex_digit ((a.0 * 16 + b.0) / 16) ≡ c = ap hex_digit over ∙ high.0 in
    let second : hex_digit ((a.0 * 16 + b.0) % 16) ≡ d = ap hex_digit under ∙ low.0 in
    let here : c ∷ d ∷ bs ≡ hex_byte (a.0 * 16 + b.0) ++ bs = ap (λ (k : ℕ). k ∷ d ∷ bs) (sym first) ∙ ap (λ (k : ℕ). hex_digit ((a.0 * 16 + b.0) / 16) ∷ k ∷ bs) (sym second) in
    let small : a.0 * 16 + b.0 < 256 = omega (arith, low.1, high.1) in
    (here ∙ ap (λ (y : ℕ × List ℕ). hex_byte y.0 ++ y.1) is, subst (λ (m : ℕ). m < 256) (ap (λ (y : ℕ × List ℕ). y.0) is) small)

-- the two digits of a byte, whatever stands behind them, are read as that byte
pub hex_again : (n : ℕ) (rest : List ℕ) → n < 256 → hex_at (hex_byte n ++ rest) ≡ Some (n, rest)
unfolding hex_at
hex_again n rest small =
    let high : lower_hex_value (hex_digit (n / 16)) ≡ Some (n / 16) = lower_hex_value_again (n / 16) (omega arith) in
    let low : lower_hex_value (hex_digit (n % 16)) ≡ Some (n % 16) = lower_hex_value_again (n % 16) (omega arith) in
    let is : n / 16 * 16 + n % 16 ≡ n = omega arith in
    ap (λ (o : Option ℕ). o >>= λ high. lower_hex_value (hex_digit (n % 16)) >>= λ low. Some (high * 16 + low, rest)) high
    ∙ ap (λ (o : Option ℕ). o >>= λ low. Some (n / 16 * 16 + low, rest)) low
    ∙ ap (λ (m : ℕ). let read : ℕ × List ℕ = (m, rest) in Some read) is

-- bytes that are read as an element are its two digits, and it is a byte
pub hex_of_found : (bytes : List ℕ) (n : ℕ) → hex_of bytes ≡ Some n → (bytes ≡ hex_byte n) × (n < 256)
unfolding hex_of
hex_of_found bytes n e =
    let h = bind_some (hex_at bytes) (λ (x : ℕ × List ℕ). whole x) n e in
    let w = whole_found h.0 n h.2 in
    let found = hex_found bytes h.0 h.1 in
    (found.0 ∙ ap (λ (m : ℕ). hex_byte m ++ h.0.1) w.0 ∙ ap (λ (r : List ℕ). hex_byte n ++ r) w.1, subst (λ (m : ℕ). m < 256) w.0 found.1)

-- the two digits of a byte, with nothing behind them, are read as that byte
pub hex_of_again : (n : ℕ) → n < 256 → hex_of (hex_byte n) ≡ Some n
unfolding hex_of whole
hex_of_again n small = rw (hex_again n [] small) refl

-- ---- images

-- the bytes at the front that are read as n elements are their digits: n of them, each a byte
images_found : (n : ℕ) (bytes : List ℕ) (x : List ℕ × List ℕ) → images_at n bytes ≡ Some x → (bytes ≡ flat_map hex_byte x.0 ++ x.1) × (length x.0 ≡ n) × AllByRecursion (λ b. b < 256) x.0
unfolding images_at
images_found zero bytes x e =
    let is : ([], bytes) ≡ x = same_some ([], bytes) x e in
    subst (λ (y : List ℕ × List ℕ). (bytes ≡ flat_map hex_byte y.0 ++ y.1) × (length y.0 ≡ 0) × AllByRecursion (λ b. b < 256) y.0) is (refl, refl, tt)
images_found (suc n) bytes x e =
    let a = bind_some (hex_at bytes) (λ (first : ℕ × List ℕ). images_at n first.1 >>= λ others. Some (first.0 ∷ others.0, others.1)) x e in
    let b = bind_some (images_at n a.0.1) (λ (others : List ℕ × List ℕ). Some (a.0.0 ∷ others.0, others.1)) x a.2 in
    let is : (a.0.0 ∷ b.0.0, b.0.1) ≡ x = same_some (a.0.0 ∷ b.0.0, b.0.1) x b.2 in
    let first = hex_found bytes a.0 a.1 in
    let others = images_found n a.0.1 b.0 b.1 in
    subst (λ (y : List ℕ × List ℕ). (bytes ≡ flat_map hex_byte y.0 ++ y.1) × (length y.0 ≡ suc n) × AllByRecursion (λ b. b < 256) y.0) is
    (first.0 ∙ ap (λ (r : List ℕ). hex_byte a.0.0 ++ r) others.0, ap suc others.1, (first.1, others.2))

-- the digits of bytes, whatever stands behind them, are read as just those bytes
images_again : (images rest : List ℕ) → AllByRecursion (λ b. b < 256) images → images_at (length images) (flat_map hex_byte images ++ rest) ≡ Some (images, rest)
unfolding images_at
images_again [] rest all = refl
images_again (i ∷ is) rest all =
    let first : hex_at (flat_map hex_byte (i ∷ is) ++ rest) ≡ Some (i, flat_map hex_byte is ++ rest) = hex_again i (flat_map hex_byte is ++ rest) all.0 in
    ap (λ (o : Option (ℕ × List ℕ)). o >>= λ first. images_at (length is) first.1 >>= λ others. Some (first.0 ∷ others.0, others.1)) first
    ∙ ap (λ (o : Option (List ℕ × List ℕ)). o >>= λ others. Some (i ∷ others.0, others.1)) (images_again is rest all.1)

-- bytes that are read as a map are the digits of its images, which are eight bytes
pub map_found : (bytes : List ℕ) (map : AddMap) → map_of bytes ≡ Some map → (bytes ≡ flat_map hex_byte map.images) × MapFits map
unfolding map_of
map_found bytes map e =
    let a = bind_some (images_at 8 bytes) (λ (read : List ℕ × List ℕ). whole read >>= λ images. Some (record { images = images })) map e in
    let b = bind_some (whole a.0) (λ (images : List ℕ). Some (record { images = images })) map a.2 in
    let w = whole_found a.0 b.0 b.1 in
    let found = images_found 8 bytes a.0 a.1 in
    let made : AddMap = record { images = b.0 } in
    let is : made ≡ map = same_some made map b.2 in
    let spelled : bytes ≡ flat_map hex_byte b.0 = found.0 ∙ ap (λ (r : List ℕ). flat_map hex_byte a.0.0 ++ r) w.1 ∙ append-nil (flat_map hex_byte a.0.0) ∙ ap (flat_map hex_byte) w.0 in
    let fits : (length b.0 ≡ 8) × AllByRecursion (λ b. b < 256) b.0 = subst (λ (xs : List ℕ). (length xs ≡ 8) × AllByRecursion (λ b. b < 256) xs) w.0 (found.1, found.2) in
    subst (λ (m : AddMap). (bytes ≡ flat_map hex_byte m.images) × MapFits m) is (spelled, fits)

-- the digits of the images of a map are read as that map
pub map_again : (map : AddMap) → MapFits map → map_of (flat_map hex_byte map.images) ≡ Some map
unfolding map_of whole
map_again map fits =
    let h : images_at 8 (flat_map hex_byte map.images) ≡ Some (map.images, []) =
    ap (λ (n : ℕ). images_at n (flat_map hex_byte map.images)) (sym fits.0) ∙ ap (images_at (length map.images)) (sym (append-nil (flat_map hex_byte map.images))) ∙ images_again map.images [] fits.1 in
    rw h refl

-- ---- operands

-- the bytes at the front that are read as an operand are its word, and its number has 32 bits
pub operand_found : (bytes : List ℕ) (x : Operand × List ℕ) → operand_at bytes ≡ Some x → (bytes ≡ operand_word x.0 ++ x.1) × OperandFits x.0
unfolding operand_at operand_by
operand_found [] x e = absurd cc
operand_found (kind ∷ bs) x e =
    let a = bind_some (number_at bs) (λ (number : ℕ × List ℕ). operand_by kind number.0 >>= λ operand. Some (operand, number.1)) x e in
    let b = bind_some (operand_by kind a.0.0) (λ (operand : Operand). Some (operand, a.0.1)) x a.2 in
    let is : (b.0, a.0.1) ≡ x = same_some (b.0, a.0.1) x b.2 in
    let number = number_found bs a.0 a.1 in
    let named = by a.0.0 b.0 number.1 b.1 in
    subst (λ (y : Operand × List ℕ). (kind ∷ bs ≡ operand_word y.0 ++ y.1) × OperandFits y.0) is
    (ap (λ (r : List ℕ). kind ∷ r) number.0 ∙ ap (λ (w : List ℕ). w ++ a.0.1) named.0, named.1)
  where
    by : (n : ℕ) (operand : Operand) → n < 2 ^ 32 → operand_by kind n ≡ Some operand → (kind ∷ decimal n ≡ operand_word operand) × OperandFits operand
    by n operand small e = elim (chosen (kind == 115) (Some (Secret n)) (cond (kind == 112) (Some (Public n)) (cond (kind == 98) (Some (Block n)) None)) (Some operand) e) [
      | inl here ↦ subst (λ (o : Operand). (kind ∷ decimal n ≡ operand_word o) × OperandFits o) (same_some (Secret n) operand here.1) (ap (λ (k : ℕ). k ∷ decimal n) (eqb-true kind 115 here.0), small)
      | inr there ↦ elim (chosen (kind == 112) (Some (Public n)) (cond (kind == 98) (Some (Block n)) None) (Some operand) there.1) [
        | inl here ↦ subst (λ (o : Operand). (kind ∷ decimal n ≡ operand_word o) × OperandFits o) (same_some (Public n) operand here.1) (ap (λ (k : ℕ). k ∷ decimal n) (eqb-true kind 112 here.0), small)
        | inr there ↦ (
            let h = passed (kind == 98) (Some (Block n)) operand there.1 in
            subst (λ (o : Operand). (kind ∷ decimal n ≡ operand_word o) × OperandFits o) (same_some (Block n) operand h.1) (ap (λ (k : ℕ). k ∷ decimal n) (eqb-true kind 98 h.0), small))
      ]
    ]

-- the word of an operand, with no digit behind it, is read as that operand
pub operand_again : (operand : Operand) (rest : List ℕ) → OperandFits operand → EndsNumber rest → operand_at (operand_word operand ++ rest) ≡ Some (operand, rest)
unfolding operand_at operand_by
operand_again (Secret n) rest small ends = ap (λ (o : Option (ℕ × List ℕ)). o >>= λ number. operand_by 115 number.0 >>= λ operand. Some (operand, number.1)) (number_again n rest small ends)
operand_again (Public n) rest small ends = ap (λ (o : Option (ℕ × List ℕ)). o >>= λ number. operand_by 112 number.0 >>= λ operand. Some (operand, number.1)) (number_again n rest small ends)
operand_again (Block n) rest small ends = ap (λ (o : Option (ℕ × List ℕ)). o >>= λ number. operand_by 98 number.0 >>= λ operand. Some (operand, number.1)) (number_again n rest small ends)

-- bytes that are read as an operand are its word, and its number has 32 bits
pub operand_of_found : (bytes : List ℕ) (operand : Operand) → operand_of bytes ≡ Some operand → (bytes ≡ operand_word operand) × OperandFits operand
unfolding operand_of
operand_of_found bytes operand e =
    let h = bind_some (operand_at bytes) (λ (x : Operand × List ℕ). whole x) operand e in
    let w = whole_found h.0 operand h.2 in
    let found = operand_found bytes h.0 h.1 in (
      found.0 ∙ ap (λ (r : List ℕ). operand_word h.0.0 ++ r) w.1 ∙ append-nil (operand_word h.0.0) ∙ ap operand_word w.0,
      subst OperandFits w.0 found.1,
    )

-- the word of an operand, with nothing behind it, is read as that operand
pub operand_of_again : (operand : Operand) → OperandFits operand → operand_of (operand_word operand) ≡ Some operand
unfolding operand_of whole
operand_of_again operand fits =
    let h : operand_at (operand_word operand) ≡ Some (operand, []) = ap operand_at (sym (append-nil (operand_word operand))) ∙ operand_again operand [] fits tt in
    rw h refl

-- ---- several words

-- bytes that are read as two operands are their words with a space between, and their numbers have 32 bits
pub pair_found : (bytes : List ℕ) (x : Operand × Operand) → pair_of bytes ≡ Some x → (bytes ≡ pair_words x.0 x.1) × OperandFits x.0 × OperandFits x.1
unfolding pair_of
pair_found bytes x e =
    let a = bind_some (operand_at bytes) (λ (left : Operand × List ℕ). after (codes " ") left.1 >>= λ rest. operand_of rest >>= λ right. Some (left.0, right)) x e in
    let b = bind_some (after (codes " ") a.0.1) (λ (rest : List ℕ). operand_of rest >>= λ right. Some (a.0.0, right)) x a.2 in
    let d = bind_some (operand_of b.0) (λ (right : Operand). Some (a.0.0, right)) x b.2 in
    let is : (a.0.0, d.0) ≡ x = same_some (a.0.0, d.0) x d.2 in
    let left = operand_found bytes a.0 a.1 in
    let right = operand_of_found b.0 d.0 d.1 in
    let here : bytes ≡ pair_words a.0.0 d.0 =
    left.0 ∙ ap (λ (r : List ℕ). operand_word a.0.0 ++ r) (after_found (codes " ") a.0.1 b.0 b.1) ∙ ap (λ (r : List ℕ). operand_word a.0.0 ++ (codes " " ++ r)) right.0
    ∙ sym (append_assoc (operand_word a.0.0) (codes " ") (operand_word d.0)) in
    subst (λ (y : Operand × Operand). (bytes ≡ pair_words y.0 y.1) × OperandFits y.0 × OperandFits y.1) is (here, left.1, right.1)

-- the words of two operands with a space between are read as those two
pub pair_again : (left right : Operand) → OperandFits left → OperandFits right → pair_of (pair_words left right) ≡ Some (left, right)
unfolding pair_of
pair_again left right fits_left fits_right =
    let first : operand_at (pair_words left right) ≡ Some (left, codes " " ++ operand_word right) =
    ap operand_at (append_assoc (operand_word left) (codes " ") (operand_word right)) ∙ operand_again left (codes " " ++ operand_word right) fits_left refl in
    ap (λ (o : Option (Operand × List ℕ)). o >>= λ left. after (codes " ") left.1 >>= λ rest. operand_of rest >>= λ right. Some (left.0, right)) first
    ∙ ap (λ (o : Option (List ℕ)). o >>= λ rest. operand_of rest >>= λ right. Some (left, right)) (after_again (codes " ") (operand_word right))
    ∙ ap (λ (o : Option Operand). o >>= λ right. Some (left, right)) (operand_of_again right fits_right)

-- bytes that are read as a map's number and an operand are these with a space between, each of 32 bits
pub mapped_found : (bytes : List ℕ) (x : ℕ × Operand) → mapped_of bytes ≡ Some x → (bytes ≡ mapped_words x.0 x.1) × (x.0 < 2 ^ 32) × OperandFits x.1
unfolding mapped_of
mapped_found bytes x e =
    let a = bind_some (number_at bytes) (λ (map : ℕ × List ℕ). after (codes " ") map.1 >>= λ rest. operand_of rest >>= λ arg. Some (map.0, arg)) x e in
    let b = bind_some (after (codes " ") a.0.1) (λ (rest : List ℕ). operand_of rest >>= λ arg. Some (a.0.0, arg)) x a.2 in
    let d = bind_some (operand_of b.0) (λ (arg : Operand). Some (a.0.0, arg)) x b.2 in
    let is : (a.0.0, d.0) ≡ x = same_some (a.0.0, d.0) x d.2 in
    let left = number_found bytes a.0 a.1 in
    let right = operand_of_found b.0 d.0 d.1 in
    let here : bytes ≡ mapped_words a.0.0 d.0 =
    left.0 ∙ ap (λ (r : List ℕ). decimal a.0.0 ++ r) (after_found (codes " ") a.0.1 b.0 b.1) ∙ ap (λ (r : List ℕ). decimal a.0.0 ++ (codes " " ++ r)) right.0
    ∙ sym (append_assoc (decimal a.0.0) (codes " ") (operand_word d.0)) in
    subst (λ (y : ℕ × Operand). (bytes ≡ mapped_words y.0 y.1) × (y.0 < 2 ^ 32) × OperandFits y.1) is (here, left.1, right.1)

-- the number of a map and the word of an operand with a space between are read as those two
pub mapped_again : (map : ℕ) (arg : Operand) → map < 2 ^ 32 → OperandFits arg → mapped_of (mapped_words map arg) ≡ Some (map, arg)
unfolding mapped_of
mapped_again map arg small fits =
    let first : number_at (mapped_words map arg) ≡ Some (map, codes " " ++ operand_word arg) =
    ap number_at (append_assoc (decimal map) (codes " ") (operand_word arg)) ∙ number_again map (codes " " ++ operand_word arg) small refl in
    ap (λ (o : Option (ℕ × List ℕ)). o >>= λ map. after (codes " ") map.1 >>= λ rest. operand_of rest >>= λ arg. Some (map.0, arg)) first
    ∙ ap (λ (o : Option (List ℕ)). o >>= λ rest. operand_of rest >>= λ arg. Some (map, arg)) (after_again (codes " ") (operand_word arg))
    ∙ ap (λ (o : Option Operand). o >>= λ arg. Some (map, arg)) (operand_of_again arg fits)

-- two numbers with a space between
abbrev pub number_words : ℕ → ℕ → List ℕ
number_words left right = decimal left ++ codes " " ++ decimal right

-- bytes that are read as two numbers at the front are these with a space between, each of 32 bits, before what is left
pub numbers_found : (bytes : List ℕ) (x : (ℕ × ℕ) × List ℕ) → numbers_at bytes ≡ Some x → (bytes ≡ number_words x.0.0 x.0.1 ++ x.1) × (x.0.0 < 2 ^ 32) × (x.0.1 < 2 ^ 32)
unfolding numbers_at
numbers_found bytes x e =
    let a = bind_some (number_at bytes) (λ (left : ℕ × List ℕ). after (codes " ") left.1 >>= λ rest. number_at rest >>= λ right. Some ((left.0, right.0), right.1)) x e in
    let b = bind_some (after (codes " ") a.0.1) (λ (rest : List ℕ). number_at rest >>= λ right. Some ((a.0.0, right.0), right.1)) x a.2 in
    let d = bind_some (number_at b.0) (λ (right : ℕ × List ℕ). Some ((a.0.0, right.0), right.1)) x b.2 in
    let is : ((a.0.0, d.0.0), d.0.1) ≡ x = same_some ((a.0.0, d.0.0), d.0.1) x d.2 in
    let left = number_found bytes a.0 a.1 in
    let right = number_found b.0 d.0 d.1 in
    let here : bytes ≡ number_words a.0.0 d.0.0 ++ d.0.1 =
    left.0 ∙ ap (λ (r : List ℕ). decimal a.0.0 ++ r) (after_found (codes " ") a.0.1 b.0 b.1) ∙ ap (λ (r : List ℕ). decimal a.0.0 ++ (codes " " ++ r)) right.0
    ∙ sym (append_assoc (decimal a.0.0) (codes " ") (decimal d.0.0 ++ d.0.1)) ∙ sym (append_assoc (decimal a.0.0 ++ codes " ") (decimal d.0.0) d.0.1) in
    subst (λ (y : (ℕ × ℕ) × List ℕ). (bytes ≡ number_words y.0.0 y.0.1 ++ y.1) × (y.0.0 < 2 ^ 32) × (y.0.1 < 2 ^ 32)) is (here, left.1, right.1)

-- two numbers with a space between are read as those two, where what stands behind doesn't go on with the second
pub numbers_again : (left right : ℕ) (rest : List ℕ) → left < 2 ^ 32 → right < 2 ^ 32 → EndsNumber rest → numbers_at (number_words left right ++ rest) ≡ Some ((left, right), rest)
unfolding numbers_at
numbers_again left right rest low high ends =
    let parts : number_words left right ++ rest ≡ decimal left ++ (codes " " ++ (decimal right ++ rest)) =
    append_assoc (decimal left ++ codes " ") (decimal right) rest ∙ append_assoc (decimal left) (codes " ") (decimal right ++ rest) in
    rw (parts, number_again left (codes " " ++ (decimal right ++ rest)) low refl, after_again (codes " ") (decimal right ++ rest), number_again right rest high ends) refl

-- ---- positions

-- bytes that are read as n positions below a length are their words: n of them, each below that length
pub positions_found : (n len : ℕ) (bytes positions : List ℕ) → positions_of n len bytes ≡ Some positions → (bytes ≡ flat_map position_word positions) × (length positions ≡ n) × AllByRecursion (λ p. p < len) positions
unfolding positions_of
positions_found zero len bytes positions e =
    let w = whole_found {A = List ℕ} ([], bytes) positions e in
    let none : [] ≡ positions = w.0 in
    subst (λ (ps : List ℕ). (bytes ≡ flat_map position_word ps) × (length ps ≡ 0) × AllByRecursion (λ p. p < len) ps) none (w.1, refl, tt)
positions_found (suc n) len bytes positions e =
    let a = bind_some (after (codes " ") bytes) (λ (rest : List ℕ). number_at rest >>= λ position. cond (nat_lt position.0 len) (positions_of n len position.1 >>= λ ps. Some (position.0 ∷ ps)) None) positions e in
    let b = bind_some (number_at a.0) (λ (position : ℕ × List ℕ). cond (nat_lt position.0 len) (positions_of n len position.1 >>= λ ps. Some (position.0 ∷ ps)) None) positions a.2 in
    let h = passed (nat_lt b.0.0 len) (positions_of n len b.0.1 >>= λ ps. Some (b.0.0 ∷ ps)) positions b.2 in
    let d = bind_some (positions_of n len b.0.1) (λ (ps : List ℕ). Some (b.0.0 ∷ ps)) positions h.1 in
    let is : b.0.0 ∷ d.0 ≡ positions = same_some (b.0.0 ∷ d.0) positions d.2 in
    let first = number_found a.0 b.0 b.1 in
    let others = positions_found n len b.0.1 d.0 d.1 in
    let here : bytes ≡ flat_map position_word (b.0.0 ∷ d.0) =
    after_found (codes " ") bytes a.0 a.1 ∙ ap (λ (r : List ℕ). codes " " ++ r) first.0 ∙ ap (λ (r : List ℕ). codes " " ++ (decimal b.0.0 ++ r)) others.0 in
    subst (λ (ps : List ℕ). (bytes ≡ flat_map position_word ps) × (length ps ≡ suc n) × AllByRecursion (λ p. p < len) ps) is (here, ap suc others.1, (ltb-true b.0.0 len h.0, others.2))

-- no digit stands in front of the words of positions, since each begins with a space
behind_position : (positions : List ℕ) → EndsNumber (flat_map position_word positions)
behind_position [] = tt
behind_position (p ∷ ps) = refl

-- the words of positions below a length, all of 32 bits, are read as those positions
pub positions_again : (len : ℕ) (positions : List ℕ) → len ≤ 2 ^ 32 → AllByRecursion (λ p. p < len) positions → positions_of (length positions) len (flat_map position_word positions) ≡ Some positions
unfolding positions_of after whole
positions_again len [] short all = refl
positions_again len (p ∷ ps) short all =
    let low : p < len = all.0 in
    rw (number_again p (flat_map position_word ps) (omega arith) (behind_position ps), lt-ltb p len low, positions_again len ps short all.1) refl
