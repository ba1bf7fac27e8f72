-- The text of a code and its certificate, where they have one, is within the limit of a bundle.
use Rattle.std.proofs.Common.{◌≡◌, ℕ, zero, suc, ◌+◌, ◌*◌, ◌/◌, ◌^◌, ◌<◌, ◌≤◌, List, [], ◌∷◌, ◌++◌, length, take, drop, sym, ◌∙◌, ap, arith, All}
use Rattle.std.specs.Prelude.{decimal, codes}
use Rattle.std.specs.List.{flat_map, AllByRecursion}
use Rattle.std.proofs.lemmas.Fmt.{length-decimal-le}
use Rattle.std.proofs.lemmas.List.{length-append, take-append-drop}
use Rattle.std.proofs.lemmas.List.Elements.{recursion_from_All, All-take, All-drop, All-weaker}
use Rattle.std.proofs.Math.Nat.{mul-le-mul_right, mul-le-mul_left, div-le_self}
use Rattle.mk_field.specs.declared.field.FieldId.{FieldId}
use Rattle.mk_field.specs.declared.field.FieldId.TheVariants.{Gf2, Gf256}
use Rattle.mk_field.specs.declared.map.AddMap.{AddMap}
use Rattle.mk_code.specs.declared.instr.Instr.{Instr}
use Rattle.mk_code.specs.declared.instr.Instr.TheVariants as instr
use Rattle.mk_code.specs.Listing.{Listing, IsListing, FitsAt, AllFit, inputs_len, trace_len}
use Rattle.mk_ssa.specs.declared.Operand.{Operand}
use Rattle.mk_ssa.specs.declared.Operand.TheVariants.{Secret, Public, Block}
use Rattle.mk_ssa.specs.declared.Op.{Op}
use Rattle.mk_ssa.specs.declared.Op.TheVariants.{Const, PubAdd, PubMul, PubSq, PubMap, Lift, Add, AddPub, Scale, Sq, Map, Mul, Refresh}
use Rattle.mk_rules.specs.Claimed.{Claimed}
use Rattle.mk_lines.specs.Words.{operand_word, line}
use Rattle.mk_field.specs.Digits.{hex_byte}
use Rattle.mk_lines.specs.CertLines.{op_line, claim_line}
use Rattle.mk_lines.specs.CodeLines.{field_line, map_line, instr_line, position_word, out_line, out_lines}
use Rattle.mk_ssa.specs.Widths.{OperandFits, OpFits}
use Rattle.mk_field.specs.Maps.{MapFits}
use Rattle.mk_bundle.specs.declared.TheConstants.{MOST_BYTES}
use Rattle.mk_bundle.specs.Text.{text, head_lines, number_line}
use Rattle.mk_rules.specs.Pairs.{IsPair}

-- lists of at most m elements, one for each of these things, have together at most m for each
pub short-lines : {X : Type 0} (f : X → List ℕ) (P : X → Type 0) (m : ℕ) → ((x : X) → P x → length (f x) ≤ m)
    → (xs : List X) → AllByRecursion P xs → length (flat_map f xs) ≤ length xs * m
short-lines f P m short [] all = omega arith
short-lines f P m short (x ∷ xs) all =
    omega (arith, length-append (f x) (flat_map f xs), short x all.0, short-lines f P m short xs all.1)

-- a number of 32 bits has at most ten digits
short-decimal : (n : ℕ) → n < 2 ^ 32 → length (decimal n) ≤ 10
short-decimal n fits = length-decimal-le 10 n (omega arith) (omega arith) (omega arith)

-- and an operand's word one letter more
short-operand : (v : Operand) → OperandFits v → length (operand_word v) ≤ 11
short-operand (Secret k) fits = omega (arith, short-decimal k fits)
short-operand (Public k) fits = omega (arith, short-decimal k fits)
short-operand (Block k) fits = omega (arith, short-decimal k fits)

-- two words with a space between them and a line feed behind them
pub two-words : (xs ys : List ℕ) (m n : ℕ) → length xs ≤ m → length ys ≤ n → length (xs ++ 32 ∷ [] ++ ys ++ 10 ∷ []) ≤ m + n + 2
two-words xs ys m n first second =
    omega (arith, first, second, length-append (xs ++ 32 ∷ [] ++ ys) (10 ∷ []), length-append (xs ++ 32 ∷ []) ys, length-append xs (32 ∷ []))

-- a word with a line feed behind it
pub one-word : (xs : List ℕ) (m : ℕ) → length xs ≤ m → length (xs ++ 10 ∷ []) ≤ m + 1
one-word xs m first = omega (arith, first, length-append xs (10 ∷ []))

-- two operands, as the end of a line
two-operands : (left right : Operand) → OperandFits left → OperandFits right → length (operand_word left ++ 32 ∷ [] ++ operand_word right ++ 10 ∷ []) ≤ 24
two-operands left right first second = omega (arith, two-words (operand_word left) (operand_word right) 11 11 (short-operand left first) (short-operand right second))

-- the number of a map and an operand
mapped : (map : ℕ) (arg : Operand) → map < 2 ^ 32 → OperandFits arg → length (decimal map ++ 32 ∷ [] ++ operand_word arg ++ 10 ∷ []) ≤ 23
mapped map arg first second = omega (arith, two-words (decimal map) (operand_word arg) 10 11 (short-decimal map first) (short-operand arg second))

-- one operand
one-operand : (arg : Operand) → OperandFits arg → length (operand_word arg ++ 10 ∷ []) ≤ 12
one-operand arg fits = omega (arith, one-word (operand_word arg) 11 (short-operand arg fits))

-- the line of a block
pub short-op : (op : Op) → OpFits op → length (op_line op) ≤ 40
short-op (Const value) fits = omega arith
short-op (PubAdd left right) fits = omega (arith, two-operands left right fits.0 fits.1)
short-op (PubMul left right) fits = omega (arith, two-operands left right fits.0 fits.1)
short-op (PubSq arg) fits = omega (arith, one-operand arg fits)
short-op (PubMap map arg) fits = omega (arith, mapped map arg fits.0 fits.1)
short-op (Lift arg) fits = omega (arith, one-operand arg fits)
short-op (Add left right) fits = omega (arith, two-operands left right fits.0 fits.1)
short-op (AddPub left right) fits = omega (arith, two-operands left right fits.0 fits.1)
short-op (Scale left right) fits = omega (arith, two-operands left right fits.0 fits.1)
short-op (Sq arg) fits = omega (arith, one-operand arg fits)
short-op (Map map arg) fits = omega (arith, mapped map arg fits.0 fits.1)
short-op (Mul left right) fits = omega (arith, two-operands left right fits.0 fits.1)
short-op (Refresh arg) fits = omega (arith, one-operand arg fits)

-- the line of a claim
pub short-claim : (value : Operand) → OperandFits value → length (claim_line value) ≤ 40
short-claim value fits = omega (arith, one-operand value fits)

-- the line of a map
pub short-map : (map : AddMap) → MapFits map → length (map_line map) ≤ 40
short-map map fits =
    omega (
      arith,
      fits.0,
      one-word (flat_map hex_byte map.images) (length map.images * 2) (short-lines hex_byte (λ b. b < 256) 2 (λ b small. omega arith) map.images fits.1),
    )

-- the lines of outputs
pub short-outs : (shares outputs : ℕ) (ps : List ℕ) → All (λ p. p < 2 ^ 32) ps → length (out_lines shares outputs ps) ≤ 4 * outputs + 11 * length ps
unfolding out_lines
short-outs shares zero ps small = omega arith
short-outs shares (suc outputs) ps small =
    let first : List ℕ = take shares ps in
    let rest : List ℕ = drop shares ps in
    let whole : length first + length rest ≡ length ps = sym (length-append first rest) ∙ ap length (take-append-drop shares ps) in
    let words : length (flat_map position_word first) ≤ length first * 11 =
    short-lines position_word (λ p. p < 2 ^ 32) 11 (λ p fits. omega (arith, short-decimal p fits)) first
    (recursion_from_All (λ p. p < 2 ^ 32) first (All-take (λ p. p < 2 ^ 32) shares ps small)) in
    omega (
      arith,
      length-append (out_line first) (out_lines shares outputs rest),
      whole,
      one-word (flat_map position_word first) (length first * 11) words,
      short-outs shares outputs rest (All-drop (λ p. p < 2 ^ 32) shares ps small),
    )

-- the line of the field
pub short-field : (field : FieldId) → length (field_line field) ≤ 12
short-field Gf2 = omega arith
short-field Gf256 = omega arith

-- the line of a number
pub short-number : (name : List ℕ) (n : ℕ) → n < 2 ^ 32 → length (number_line name n) ≤ length name + 12
short-number name n fits =
    omega (arith, short-decimal n fits, length-append (name ++ codes " " ++ decimal n) (10 ∷ []), length-append (name ++ codes " ") (decimal n), length-append name (codes " "))
