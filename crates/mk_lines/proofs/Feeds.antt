-- No line feed stands in the words of lines.
use Rattle.std.proofs.Common.{◌≡◌, ℕ, ◌+◌, ◌-◌, ◌/◌, ◌%◌, ◌^◌, ◌<◌, ◌≤◌, Bool, true, false, ◌⊎◌, List, [], ◌∷◌, ◌++◌, suc, length, take, drop, nat_lt, refl, sym, ap, subst, ◌∙◌, inl, inr, arith}
use Rattle.std.proofs.lemmas.List.{append-nil, take-append-drop}
use Rattle.std.proofs.lemmas.List.Sums.{take_while-cons}
use Rattle.std.specs.Prelude.{take_while, not, cond, codes, decimal, flat_map, ◌==◌}
use Rattle.std.specs.Char.{is_ascii_digit}
use Rattle.std.specs.Str.{all_ascii_digits}
use Rattle.std.specs.List.{AllByRecursion}
use Rattle.std.proofs.lemmas.Bool.{and_parts, cases_Bool, eqb-true, eq-eqb, false_from_ne_true}
use Rattle.std.proofs.lemmas.Fmt.{digits_decimal}
use Rattle.std.proofs.Math.Seq.{take-length}
use Rattle.mk_ssa.specs.declared.Operand.{Operand}
use Rattle.mk_ssa.specs.declared.Operand.TheVariants.{Secret, Public, Block}
use Rattle.mk_ssa.specs.declared.Op.{Op}
use Rattle.mk_ssa.specs.declared.Op.TheVariants as op
use Rattle.mk_code.specs.declared.instr.Instr.{Instr}
use Rattle.mk_code.specs.declared.instr.Instr.TheVariants as instr
use Rattle.mk_lines.specs.Words.{operand_word, is_line}
use Rattle.mk_field.specs.Digits.{hex_byte, hex_digit}
use Rattle.mk_lines.specs.CertLines.{pair_words, mapped_words}
use Rattle.mk_ssa.specs.Widths.{OperandFits, OpFits}
use Rattle.mk_lines.specs.CodeLines.{position_word, InstrFits, IntoFits}
use Rattle.mk_base.proofs.Digits.{own}
use Rattle.mk_lines.proofs.Spelled.{number_words}
use Rattle.mk_lines.proofs.Variants.{op_words, instr_words, into_words}

-- a byte that differs from a line feed by the test is none
unlike : (b : ℕ) → (b == 10) ≡ false → b ≡ 10 → ⊥
unlike b other is = let same : (b == 10) ≡ true = eq-eqb b 10 is in absurd (cc)

-- bytes without a line feed: the first is none, and none stands in the others
unfed : (b x : Bool) → cond b false x ≡ true → (b ≡ false) × (x ≡ true)
unfed true x e = absurd cc
unfed false x e = (refl, e)

-- a byte other than a line feed before bytes without one makes bytes without one
is_line-more : (b : ℕ) (bs : List ℕ) → (b == 10) ≡ false → is_line bs ≡ true → is_line (b ∷ bs) ≡ true
is_line-more b bs other e = rw other e

-- no line feed stands in two lists together where none stands in either
pub is_line-append : (xs ys : List ℕ) → is_line xs ≡ true → is_line ys ≡ true → is_line (xs ++ ys) ≡ true
is_line-append [] ys e f = f
is_line-append (x ∷ xs) ys e f = let h = unfed (x == 10) (is_line xs) e in is_line-more x (xs ++ ys) h.0 (is_line-append xs ys h.1 f)

-- the first line feed ends the first line
pub first_line : (xs ys rest more : List ℕ) → is_line xs ≡ true → is_line ys ≡ true → xs ++ 10 ∷ rest ≡ ys ++ 10 ∷ more → (xs ≡ ys) × (rest ≡ more)
first_line [] [] rest more e f same = (refl, cc)
first_line [] (y ∷ ys) rest more e f same = let h = unfed (y == 10) (is_line ys) f in absurd (unlike y h.0 (cc))
first_line (x ∷ xs) [] rest more e f same = let h = unfed (x == 10) (is_line xs) e in absurd (unlike x h.0 (cc))
first_line (x ∷ xs) (y ∷ ys) rest more e f same =
    let h = unfed (x == 10) (is_line xs) e in
    let g = unfed (y == 10) (is_line ys) f in
    let heads : x ≡ y = cc in
    let tails = first_line xs ys rest more h.1 g.1 (cc) in
    (cc (heads, tails.0), tails.1)

-- bytes with a line feed are no line
pub has_feed : (xs rest : List ℕ) → is_line (xs ++ 10 ∷ rest) ≡ true → ⊥
has_feed [] rest e = absurd cc
has_feed (x ∷ xs) rest e = has_feed xs rest (unfed (x == 10) (is_line (xs ++ 10 ∷ rest)) e).1

-- the front without a line feed
abbrev pub fed_front : List ℕ → ℕ
fed_front bytes = length (take_while (λ b. not (b == 10)) bytes)

-- what is cut off in front has no line feed, and behind it stands one or nothing
fed_parts : (bytes : List ℕ) → (is_line (take (fed_front bytes) bytes) ≡ true) × ((drop (fed_front bytes) bytes ≡ []) ⊎ ((bs : List ℕ) × (drop (fed_front bytes) bytes ≡ 10 ∷ bs)))
fed_parts [] = (refl, inl refl)
fed_parts (b ∷ bs) = elim (cases_Bool (b == 10)) [
  | inl is ↦ (
      let none : take_while (λ b. not (b == 10)) (b ∷ bs) ≡ [] = take_while-cons (λ (b : ℕ). not (b == 10)) b bs ∙ ap (λ t. cond (not t) (b ∷ take_while (λ b. not (b == 10)) bs) []) is in
      let zeroth : fed_front (b ∷ bs) ≡ 0 = ap length none in
      (ap (λ (n : ℕ). is_line (take n (b ∷ bs))) zeroth, inr (bs, ap (λ (n : ℕ). drop n (b ∷ bs)) zeroth ∙ ap (λ (k : ℕ). k ∷ bs) (eqb-true b 10 is))))
  | inr other ↦ (
      let some : take_while (λ b. not (b == 10)) (b ∷ bs) ≡ b ∷ take_while (λ b. not (b == 10)) bs = take_while-cons (λ (b : ℕ). not (b == 10)) b bs ∙ ap (λ t. cond (not t) (b ∷ take_while (λ b. not (b == 10)) bs) []) other in
      let more : fed_front (b ∷ bs) ≡ suc (fed_front bs) = ap length some in
      let others = fed_parts bs in (
        ap (λ (n : ℕ). is_line (take n (b ∷ bs))) more ∙ is_line-more b (take (fed_front bs) bs) other others.0,
        subst (λ (n : ℕ). (drop n (b ∷ bs) ≡ []) ⊎ ((rest : List ℕ) × (drop n (b ∷ bs) ≡ 10 ∷ rest))) (sym more) others.1,
      ))
]

-- a text with something behind its front is that front, which has no line feed, a line feed and what follows
pub cuts : (bytes line behind rest : List ℕ) (b : ℕ) → line ≡ take (fed_front bytes) bytes → behind ≡ drop (fed_front bytes) bytes → behind ≡ b ∷ rest → (is_line line ≡ true) × (bytes ≡ line ++ 10 ∷ rest)
cuts bytes line behind rest b front back is =
    let parts = fed_parts bytes in (
      ap is_line front ∙ parts.0,
      sym (take-append-drop (fed_front bytes) bytes) ∙ ap (λ (l : List ℕ). l ++ drop (fed_front bytes) bytes) (sym front) ∙ ap (λ (r : List ℕ). line ++ r) (elim parts.1 [
        | inl none ↦ (let never : [] ≡ b ∷ rest = sym none ∙ sym back ∙ is in absurd (cc))
        | inr h ↦ (let same : 10 ∷ h.0 ≡ b ∷ rest = sym h.1 ∙ sym back ∙ is in let tail : h.0 ≡ rest = cc in h.1 ∙ ap (λ (r : List ℕ). 10 ∷ r) tail)
      ]),
    )

-- the same, where what follows is told by its length
pub cuts_behind : (bytes line behind : List ℕ) → line ≡ take (fed_front bytes) bytes → behind ≡ drop (fed_front bytes) bytes → 1 ≤ length behind
    → (is_line line ≡ true) × (bytes ≡ line ++ 10 ∷ take (length behind - 1) (drop 1 behind))
cuts_behind bytes line [] front back some = absurd (omega (arith, some))
cuts_behind bytes line (b ∷ bs) front back some =
    let shorter : suc (length bs) - 1 ≡ length bs = omega arith in
    let same : take (suc (length bs) - 1) bs ≡ bs = ap (λ (n : ℕ). take n bs) shorter ∙ take-length bs in
    let h = cuts bytes line (b ∷ bs) bs b front back refl in
    (h.0, h.1 ∙ ap (λ (r : List ℕ). line ++ 10 ∷ r) (sym same))

-- a text with nothing behind its front has no line feed
pub cuts_nothing : (bytes behind : List ℕ) → behind ≡ drop (fed_front bytes) bytes → behind ≡ [] → is_line bytes ≡ true
cuts_nothing bytes behind back none =
    let whole : bytes ≡ take (fed_front bytes) bytes = sym (take-append-drop (fed_front bytes) bytes) ∙ ap (λ (r : List ℕ). take (fed_front bytes) bytes ++ r) (sym back ∙ none) ∙ append-nil (take (fed_front bytes) bytes) in
    ap is_line whole ∙ (fed_parts bytes).0

-- no line feed stands in digits
is_line-digits : (ds : List ℕ) → all_ascii_digits ds ≡ true → is_line ds ≡ true
is_line-digits [] all = refl
is_line-digits (d ∷ ds) all =
    let parts = and_parts (is_ascii_digit d) (all_ascii_digits ds) all in
    is_line-more d ds (false_from_ne_true (d == 10) (λ h. (let feed : is_ascii_digit d ≡ false = ap is_ascii_digit (eqb-true d 10 h) in absurd (cc (feed, parts.0))))) (is_line-digits ds parts.1)

-- no line feed stands in the print of a number
pub is_line-decimal : (n : ℕ) → n < 2 ^ 32 → is_line (decimal n) ≡ true
is_line-decimal n small = is_line-digits (decimal n) (digits_decimal own n (omega arith))

-- a hexadecimal digit is no line feed
hex_digit-no_feed : (n : ℕ) → (hex_digit n == 10) ≡ false
hex_digit-no_feed n = false_from_ne_true (hex_digit n == 10) (λ h. (let is : hex_digit n ≡ 10 = eqb-true (hex_digit n) 10 h in
    elim (cases_Bool (nat_lt n 10)) [
      | inl low ↦ (let e : hex_digit n ≡ 48 + n = rw low refl in absurd (omega (arith, is, e)))
      | inr high ↦ (let e : hex_digit n ≡ 87 + n = rw high refl in absurd (omega (arith, is, e)))
    ]))

-- no line feed stands in the digits of an element
pub is_line-hex : (n : ℕ) → is_line (hex_byte n) ≡ true
is_line-hex n = is_line-more (hex_digit (n / 16)) (hex_digit (n % 16) ∷ []) (hex_digit-no_feed (n / 16)) (is_line-more (hex_digit (n % 16)) [] (hex_digit-no_feed (n % 16)) refl)

-- no line feed stands in the digits of images
pub is_line-images : (images : List ℕ) → is_line (flat_map hex_byte images) ≡ true
is_line-images [] = refl
is_line-images (i ∷ is) = is_line-append (hex_byte i) (flat_map hex_byte is) (is_line-hex i) (is_line-images is)

-- no line feed stands in the words of positions
pub is_line-positions : (positions : List ℕ) → AllByRecursion (λ p. p < 2 ^ 32) positions → is_line (flat_map position_word positions) ≡ true
is_line-positions [] all = refl
is_line-positions (p ∷ ps) all = is_line-append (position_word p) (flat_map position_word ps) (is_line-decimal p all.0) (is_line-positions ps all.1)

-- no line feed stands in the word of an operand
pub is_line-operand : (operand : Operand) → OperandFits operand → is_line (operand_word operand) ≡ true
is_line-operand (Secret n) small = is_line-decimal n small
is_line-operand (Public n) small = is_line-decimal n small
is_line-operand (Block n) small = is_line-decimal n small

-- no line feed stands in two words with a space between where none stands in either
is_line-spaced : (xs ys : List ℕ) → is_line xs ≡ true → is_line ys ≡ true → is_line (xs ++ codes " " ++ ys) ≡ true
is_line-spaced xs ys e f = is_line-append (xs ++ codes " ") ys (is_line-append xs (codes " ") e refl) f

-- no line feed stands in the words of two operands
is_line-pair : (left right : Operand) → OperandFits left × OperandFits right → is_line (pair_words left right) ≡ true
is_line-pair left right fits = is_line-spaced (operand_word left) (operand_word right) (is_line-operand left fits.0) (is_line-operand right fits.1)

-- no line feed stands in the number of a map and the word of an operand
is_line-mapped : (map : ℕ) (arg : Operand) → (map < 2 ^ 32) × OperandFits arg → is_line (mapped_words map arg) ≡ true
is_line-mapped map arg fits = is_line-spaced (decimal map) (operand_word arg) (is_line-decimal map fits.0) (is_line-operand arg fits.1)

-- no line feed stands in two numbers
is_line-numbers : (left right : ℕ) → (left < 2 ^ 32) × (right < 2 ^ 32) → is_line (number_words left right) ≡ true
is_line-numbers left right fits = is_line-spaced (decimal left) (decimal right) (is_line-decimal left fits.0) (is_line-decimal right fits.1)

-- no line feed stands in the words of a block
pub is_line-op : (o : Op) → OpFits o → is_line (op_words o) ≡ true
is_line-op (op.Const value) fits = is_line-hex value
is_line-op (op.PubAdd left right) fits = is_line-pair left right fits
is_line-op (op.PubMul left right) fits = is_line-pair left right fits
is_line-op (op.PubSq arg) fits = is_line-operand arg fits
is_line-op (op.PubMap map arg) fits = is_line-mapped map arg fits
is_line-op (op.Lift arg) fits = is_line-operand arg fits
is_line-op (op.Add left right) fits = is_line-pair left right fits
is_line-op (op.AddPub left right) fits = is_line-pair left right fits
is_line-op (op.Scale left right) fits = is_line-pair left right fits
is_line-op (op.Sq arg) fits = is_line-operand arg fits
is_line-op (op.Map map arg) fits = is_line-mapped map arg fits
is_line-op (op.Mul left right) fits = is_line-pair left right fits
is_line-op (op.Refresh arg) fits = is_line-operand arg fits

-- no line feed stands in the words of an instruction
pub is_line-instr : (i : Instr) → InstrFits i → is_line (instr_words i) ≡ true
is_line-instr instr.Rnd fits = refl
is_line-instr (instr.Const value) fits = is_line-hex value
is_line-instr (instr.Copy from) fits = is_line-decimal from fits
is_line-instr (instr.Add left right) fits = is_line-numbers left right fits
is_line-instr (instr.Mul left right) fits = is_line-numbers left right fits
is_line-instr (instr.Sq from) fits = is_line-decimal from fits
is_line-instr (instr.Map map from) fits = is_line-numbers map from fits

-- no line feed stands in a register and a space before words without one
is_line-target : (to : ℕ) (rest : List ℕ) → to < 2 ^ 32 → is_line rest ≡ true → is_line (decimal to ++ codes " " ++ rest) ≡ true
is_line-target to rest small clean = is_line-spaced (decimal to) rest (is_line-decimal to small) clean

-- no line feed stands in the words of an instruction that writes a register
pub is_line-into : (to : ℕ) (i : Instr) → IntoFits to i → is_line (into_words to i) ≡ true
is_line-into to instr.Rnd fits = is_line-decimal to fits.0
is_line-into to (instr.Const value) fits = is_line-target to (hex_byte value) fits.0 (is_line-hex value)
is_line-into to (instr.Copy from) fits = is_line-numbers to from (fits.0, fits.1)
is_line-into to (instr.Add left right) fits = is_line-target to (number_words left right) fits.0 (is_line-numbers left right fits.1)
is_line-into to (instr.Mul left right) fits = is_line-target to (number_words left right) fits.0 (is_line-numbers left right fits.1)
is_line-into to (instr.Sq from) fits = is_line-numbers to from (fits.0, fits.1)
is_line-into to (instr.Map map from) fits = is_line-target to (number_words map from) fits.0 (is_line-numbers map from fits.1)
