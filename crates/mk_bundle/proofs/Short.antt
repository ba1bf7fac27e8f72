-- Lines that are read are short, and no empty one is read.
use Rattle.std.proofs.Common.{◌≡◌, ℕ, ◌+◌, ◌*◌, ◌^◌, ◌<◌, ◌≤◌, true, false, List, [], ◌∷◌, ◌++◌, length, Option, Some, None, nat_lt, refl, ap, inl, inr, arith, length-append}
use Rattle.std.specs.Prelude.{codes, decimal, flat_map, bytes_eq, ◌&&◌}
use Rattle.std.specs.List.{AllByRecursion}
use Rattle.std.proofs.lemmas.Bool.{and_parts}
use Rattle.std.proofs.lemmas.Fmt.{length-decimal-le}
use Rattle.mk_base.specs.declared.TheConstants.{TOP_ORDER}
use Rattle.mk_lines.specs.declared.words.TheConstants.{MOST_LINE}
use Rattle.mk_field.specs.declared.field.FieldId.{FieldId}
use Rattle.mk_field.specs.declared.field.FieldId.TheVariants.{Gf2, Gf256}
use Rattle.mk_field.specs.Digits.{hex_byte}
use Rattle.mk_ssa.specs.declared.Operand.{Operand}
use Rattle.mk_ssa.specs.declared.Operand.TheVariants.{Secret, Public, Block}
use Rattle.mk_ssa.specs.declared.Op.{Op}
use Rattle.mk_ssa.specs.declared.Op.TheVariants as op
use Rattle.mk_ssa.specs.Widths.{OperandFits, OpFits}
use Rattle.mk_code.specs.declared.instr.Instr.{Instr}
use Rattle.mk_code.specs.declared.instr.Instr.TheVariants as instr
use Rattle.mk_code.specs.declared.TheConstants.{MOST_INPUTS, MOST_INSTRS}
use Rattle.mk_code.specs.Listing.{Listing, trace_len}
use Rattle.mk_regs.specs.declared.TheConstants.{MOST_REGISTERS}
use Rattle.mk_rules.specs.Claimed.{Claimed}
use Rattle.mk_lines.specs.Words.{line, operand_word}
use Rattle.mk_lines.specs.CertLines.{pair_words, mapped_words}
use Rattle.mk_lines.specs.CodeLines.{field_line, position_word, InstrFits, IntoFits}
use Rattle.mk_lines.specs.Parsing.{field_of, after, map_of, operand_of, op_of, instr_of, instr_at, add_at, mul_or_map_at, rnd_at, const_or_copy_at, sq_at, into_of, into_at, add_into, mul_or_map_into, rnd_into, const_or_copy_into, sq_into, positions_of}
use Rattle.mk_lines.proofs.Steps.{bind_some, passed, behind_found, is_word, chosen}
use Rattle.mk_lines.proofs.Spelled.{map_found, operand_of_found, positions_found, number_words}
use Rattle.mk_lines.proofs.Variants.{op_words, op_found, instr_words, instr_found, into_words, into_found}
use Rattle.mk_lines.proofs.Fields.{field_found}
use Rattle.mk_bundle.specs.declared.TheConstants.{TEXT_TOP_ORDER}
use Rattle.mk_bundle.specs.declared.draft.Stage.{Stage}
use Rattle.mk_bundle.specs.declared.draft.Stage.TheVariants.{Version, Field, Order, Secrets, Publics, Upper, Lower, Ended}
use Rattle.mk_bundle.specs.Reading.{State, line_read, version_line, field_read, headed, order_read, secrets_read, publics_read, map_read, block_read, claim_read, code_read, upper_read, fits_at, may_instr, instr_read, out_read, lower_read, read_at}
use Rattle.mk_bundle.specs.RegisterReading.{RegisterState, share, register_version_line, registers_read, register_upper_read, register_instr_read, register_out_read, register_lower_read, register_read_at, register_line_read}
use Rattle.mk_bundle.specs.Versions.{Partial, Positions, Registers, opens_registers, partial_read}
use Rattle.mk_bundle.proofs.Sound.{at, Good, headed_found, fits_found}
use Rattle.mk_bundle.proofs.Complete.{instr_fits, short_trace}
use Rattle.mk_bundle.proofs.Reaching.{GoodSoFar}

-- ---- words

-- a number of 32 bits has at most ten digits
ten_digits : (n : ℕ) → n < 2 ^ 32 → length (decimal n) ≤ 10
ten_digits n small = length-decimal-le 10 n (omega arith) (omega (arith, small)) (omega (arith, small))

-- an operand
operand_short : (v : Operand) → OperandFits v → length (operand_word v) ≤ 11
operand_short (Secret n) fits = omega (arith, ten_digits n fits)
operand_short (Public n) fits = omega (arith, ten_digits n fits)
operand_short (Block n) fits = omega (arith, ten_digits n fits)

-- two operands
pair_short : (left right : Operand) → OperandFits left → OperandFits right → length (pair_words left right) ≤ 23
pair_short left right f g =
    omega (arith, length-append (operand_word left ++ codes " ") (operand_word right), length-append (operand_word left) (codes " "), operand_short left f, operand_short right g)

-- a number and an operand
mapped_short : (n : ℕ) (v : Operand) → n < 2 ^ 32 → OperandFits v → length (mapped_words n v) ≤ 22
mapped_short n v f g = omega (arith, length-append (decimal n ++ codes " ") (operand_word v), length-append (decimal n) (codes " "), ten_digits n f, operand_short v g)

-- two numbers
numbers_short : (m n : ℕ) → m < 2 ^ 32 → n < 2 ^ 32 → length (number_words m n) ≤ 21
numbers_short m n f g = omega (arith, length-append (decimal m ++ codes " ") (decimal n), length-append (decimal m) (codes " "), ten_digits m f, ten_digits n g)

-- the words of a block
op_short : (o : Op) → OpFits o → length (op_words o) ≤ 40
op_short (op.Const value) fits = omega arith
op_short (op.PubAdd left right) fits = omega (arith, pair_short left right fits.0 fits.1)
op_short (op.PubMul left right) fits = omega (arith, pair_short left right fits.0 fits.1)
op_short (op.PubSq arg) fits = omega (arith, operand_short arg fits)
op_short (op.PubMap map arg) fits = omega (arith, mapped_short map arg fits.0 fits.1)
op_short (op.Lift arg) fits = omega (arith, operand_short arg fits)
op_short (op.Add left right) fits = omega (arith, pair_short left right fits.0 fits.1)
op_short (op.AddPub left right) fits = omega (arith, pair_short left right fits.0 fits.1)
op_short (op.Scale left right) fits = omega (arith, pair_short left right fits.0 fits.1)
op_short (op.Sq arg) fits = omega (arith, operand_short arg fits)
op_short (op.Map map arg) fits = omega (arith, mapped_short map arg fits.0 fits.1)
op_short (op.Mul left right) fits = omega (arith, pair_short left right fits.0 fits.1)
op_short (op.Refresh arg) fits = omega (arith, operand_short arg fits)

-- the words of an instruction
instr_short : (i : Instr) → InstrFits i → length (instr_words i) ≤ 40
instr_short instr.Rnd fits = omega arith
instr_short (instr.Const value) fits = omega arith
instr_short (instr.Copy from) fits = omega (arith, ten_digits from fits)
instr_short (instr.Add left right) fits = omega (arith, numbers_short left right fits.0 fits.1)
instr_short (instr.Mul left right) fits = omega (arith, numbers_short left right fits.0 fits.1)
instr_short (instr.Sq from) fits = omega (arith, ten_digits from fits)
instr_short (instr.Map map from) fits = omega (arith, numbers_short map from fits.0 fits.1)

-- the digits of images
images_short : (images : List ℕ) → length (flat_map hex_byte images) ≡ 2 * length images
images_short [] = refl
images_short (i ∷ is) = omega (arith, images_short is)

-- a number before a space and other words
into_short : (to : ℕ) (rest : List ℕ) (most : ℕ) → to < 2 ^ 32 → length rest ≤ most → length (decimal to ++ codes " " ++ rest) ≤ 11 + most
into_short to rest most f short = omega (arith, length-append (decimal to ++ codes " ") rest, length-append (decimal to) (codes " "), ten_digits to f, short)

-- the words of an instruction that writes a register
into_words_short : (to : ℕ) (i : Instr) → IntoFits to i → length (into_words to i) ≤ 40
into_words_short to instr.Rnd fits = omega (arith, ten_digits to fits.0)
into_words_short to (instr.Const value) fits = omega (arith, into_short to (hex_byte value) 2 fits.0 (omega arith))
into_words_short to (instr.Copy from) fits = omega (arith, numbers_short to from fits.0 fits.1)
into_words_short to (instr.Add left right) fits = omega (arith, into_short to (number_words left right) 21 fits.0 (numbers_short left right fits.1.0 fits.1.1))
into_words_short to (instr.Mul left right) fits = omega (arith, into_short to (number_words left right) 21 fits.0 (numbers_short left right fits.1.0 fits.1.1))
into_words_short to (instr.Sq from) fits = omega (arith, numbers_short to from fits.0 fits.1)
into_words_short to (instr.Map map from) fits = omega (arith, into_short to (number_words map from) 21 fits.0 (numbers_short map from fits.1.0 fits.1.1))

-- the words of positions
positions_short : (len : ℕ) (positions : List ℕ) → len ≤ 2 ^ 32 → AllByRecursion (λ p. p < len) positions → length (flat_map position_word positions) ≤ 11 * length positions
positions_short len [] small all = omega arith
positions_short len (p ∷ ps) small all =
    let low : p < len = all.0 in
    let below : p < 2 ^ 32 = omega (arith, low, small) in
    omega (arith, length-append (position_word p) (flat_map position_word ps), ten_digits p below, positions_short len ps small all.1)

-- ---- lines

-- a line that says a name and a number
headed_short : (name : List ℕ) (most : ℕ) (l : List ℕ) (n : ℕ) → length name ≤ 16 → most < 2 ^ 32 → headed name most l ≡ Some n → length l < MOST_LINE
headed_short name most l n few small e =
    let h = headed_found name most l n e in
    let le : n ≤ most = h.1 in
    let below : n < 2 ^ 32 = omega (arith, le, small) in
    omega (arith, ap length h.0, length-append name (decimal n), ten_digits n below, few)

-- a line that names a field
field_short : (l : List ℕ) (field : FieldId) → field_line field ≡ line l → length l < MOST_LINE
field_short l Gf2 e = omega (arith, ap length e, length-append l (10 ∷ []))
field_short l Gf256 e = omega (arith, ap length e, length-append l (10 ∷ []))

-- a line that is one word
word_short : (word l : List ℕ) → length word ≤ 16 → bytes_eq l word ≡ true → length l < MOST_LINE
word_short word l few e = omega (arith, ap length (is_word l word e), few)

-- a map's line
map_short : (st next : State) (l words : List ℕ) → l ≡ codes "map " ++ words → map_read st words ≡ Some next → length l < MOST_LINE
unfolding map_read
map_short st next l words here e =
    let a = bind_some (map_of words) _ next e in
    let found = map_found words a.0 a.1 in
    omega (arith, ap length here, length-append (codes "map ") words, ap length found.0, images_short a.0.images, found.1.0)

-- a block's line
block_short : (st next : State) (l words : List ℕ) → l ≡ codes "block " ++ words → block_read st words ≡ Some next → length l < MOST_LINE
unfolding block_read
block_short st next l words here e =
    let a = bind_some (op_of words) _ next e in
    let found = op_found words a.0 a.1 in
    omega (arith, ap length here, length-append (codes "block ") words, ap length found.0, op_short a.0 found.1)

-- a claim's line
claim_short : (st next : State) (l words : List ℕ) → l ≡ codes "claim " ++ words → claim_read st words ≡ Some next → length l < MOST_LINE
unfolding claim_read
claim_short st next l words here e =
    let a = bind_some (operand_of words) _ next e in
    let found = operand_of_found words a.0 a.1 in
    omega (arith, ap length here, length-append (codes "claim ") words, ap length found.0, operand_short a.0 found.1)

-- the line that the code follows
code_short : (st next : State) (l : List ℕ) → code_read st l ≡ Some next → length l < MOST_LINE
unfolding code_read
code_short st next l e = word_short (codes "code") l (omega arith) (passed (bytes_eq l (codes "code")) _ next e).0

-- a line between the head and the code of version 1
upper_short : (st next : State) (l : List ℕ) → upper_read st l ≡ Some next → length l < MOST_LINE
unfolding upper_read
upper_short st next l e = elim (behind_found (codes "map ") l _ _ next e) [
  | inl h ↦ map_short st next l h.0 h.1 h.2
  | inr e ↦ elim (behind_found (codes "block ") l _ _ next e) [
    | inl h ↦ block_short st next l h.0 h.1 h.2
    | inr e ↦ elim (behind_found (codes "claim ") l _ _ next e) [ inl h ↦ claim_short st next l h.0 h.1 h.2 | inr e ↦ code_short st next l e ]
  ]
]

-- the line of an output, of positions or of registers
out_short : (order len : ℕ) (l words numbers : List ℕ) → order ≤ TOP_ORDER → len ≤ 2 ^ 32 → l ≡ codes "out" ++ words → positions_of (order + 1) len words ≡ Some numbers → length l < MOST_LINE
out_short order len l words numbers low small here e =
    let found = positions_found (order + 1) len words numbers e in
    omega (arith, ap length here, length-append (codes "out") words, ap length found.0, positions_short len numbers small found.2, found.1, low)

-- a line of the code of version 1
lower_short : (code : Listing) (cert : Claimed) (l : List ℕ) (next : State) → Good Lower code cert → lower_read (at Lower code cert) l ≡ Some next → length l < MOST_LINE
unfolding lower_read out_read instr_read may_instr
lower_short code cert l next good e =
    let listing = good.pair.listing in
    let short : trace_len code < 2 ^ 32 = short_trace code.order code.secrets code.publics (length code.instrs) listing.order.1 listing.secrets listing.publics listing.few in
    elim (behind_found (codes "out") l _ _ next e) [
      | inl h ↦ (let p = passed (nat_lt (length code.outs) (MOST_INPUTS * (code.order + 1))) _ next h.2 in
          let a = bind_some (positions_of (code.order + 1) (trace_len code) h.0) _ next p.1 in
          out_short code.order (trace_len code) l h.0 a.0 listing.order.1 (omega (arith, short)) h.1 a.1)
      | inr e ↦ elim (chosen (bytes_eq l (codes "end")) _ _ (Some next) e) [
        | inl h ↦ word_short (codes "end") l (omega arith) h.0
        | inr h ↦ (let a = bind_some (instr_of l) _ next h.1 in
            let p = passed (nat_lt (length code.outs) 1 && nat_lt (length code.instrs) MOST_INSTRS && fits_at code.field (length code.maps) (trace_len code) a.0) _ next a.2 in
            let fits = fits_found code.field (length code.maps) (trace_len code) a.0 (and_parts (nat_lt (length code.outs) 1 && nat_lt (length code.instrs) MOST_INSTRS) (fits_at code.field (length code.maps) (trace_len code) a.0) p.0).1 in
            omega (arith, ap length (instr_found l a.0 a.1), instr_short a.0 (instr_fits code.field (length code.maps) (trace_len code) a.0 listing.maps short fits)))
      ]
    ]

-- the line of the field
field_read_short : (st next : State) (l : List ℕ) → field_read st l ≡ Some next → length l < MOST_LINE
unfolding field_read
field_read_short st next l e = let a = bind_some (field_of l) _ next e in field_short l a.0 (field_found l a.0 a.1)

-- the line of the order
order_short : (most : ℕ) (st next : State) (l : List ℕ) → most ≤ TOP_ORDER → order_read most st l ≡ Some next → length l < MOST_LINE
unfolding order_read
order_short most st next l low e = let a = bind_some (headed (codes "order ") most l) _ next e in headed_short (codes "order ") most l a.0 (omega arith) (omega (arith, low)) a.1

-- the line of the number of secrets
secrets_short : (st next : State) (l : List ℕ) → secrets_read st l ≡ Some next → length l < MOST_LINE
unfolding secrets_read
secrets_short st next l e = let a = bind_some (headed (codes "secrets ") MOST_INPUTS l) _ next e in headed_short (codes "secrets ") MOST_INPUTS l a.0 (omega arith) (omega arith) a.1

-- the line of the number of publics
publics_short : (st next : State) (l : List ℕ) → publics_read st l ≡ Some next → length l < MOST_LINE
unfolding publics_read
publics_short st next l e = let a = bind_some (headed (codes "publics ") MOST_INPUTS l) _ next e in headed_short (codes "publics ") MOST_INPUTS l a.0 (omega arith) (omega arith) a.1

-- any line of version 1 that is read
line_short : (stage : Stage) (code : Listing) (cert : Claimed) (l : List ℕ) (next : State) → Good stage code cert → read_at stage (at stage code cert) l ≡ Some next → length l < MOST_LINE
unfolding read_at version_line
line_short Version code cert l next good e = word_short (codes "mask 1") l (omega arith) (passed (bytes_eq l (codes "mask 1")) _ next e).0
line_short Field code cert l next good e = field_read_short (at Field code cert) next l e
line_short Order code cert l next good e = order_short TEXT_TOP_ORDER (at Order code cert) next l (omega arith) e
line_short Secrets code cert l next good e = secrets_short (at Secrets code cert) next l e
line_short Publics code cert l next good e = publics_short (at Publics code cert) next l e
line_short Upper code cert l next good e = upper_short (at Upper code cert) next l e
line_short Lower code cert l next good e = lower_short code cert l next good e
line_short Ended code cert l next good e = absurd cc

-- ---- lines of version 2

-- where what both versions have was read further, the line is short if it is in version 1
share_short : (st : RegisterState) (read : Option State) (next : RegisterState) (l : List ℕ) → ((shared : State) → read ≡ Some shared → length l < MOST_LINE) → share st read ≡ Some next → length l < MOST_LINE
share_short st read next l short e = let a = bind_some read _ next e in short a.0 a.1

-- a line between the head and the code of version 2
register_upper_short : (registers : Option ℕ) (st next : RegisterState) (l : List ℕ) → register_upper_read registers st l ≡ Some next → length l < MOST_LINE
unfolding register_upper_read registers_read
register_upper_short None st next l e = elim (behind_found (codes "map ") l _ _ next e) [
  | inl h ↦ share_short st (map_read st.shared h.0) next l (λ s. map_short st.shared s l h.0 h.1) h.2
  | inr e ↦ (let a = bind_some (headed (codes "registers ") MOST_REGISTERS l) _ next e in headed_short (codes "registers ") MOST_REGISTERS l a.0 (omega arith) (omega arith) a.1)
]
register_upper_short (Some n) st next l e = elim (behind_found (codes "block ") l _ _ next e) [
  | inl h ↦ share_short st (block_read st.shared h.0) next l (λ s. block_short st.shared s l h.0 h.1) h.2
  | inr e ↦ elim (behind_found (codes "claim ") l _ _ next e) [
    | inl h ↦ share_short st (claim_read st.shared h.0) next l (λ s. claim_short st.shared s l h.0 h.1) h.2
    | inr e ↦ share_short st (code_read st.shared l) next l (λ s. code_short st.shared s l) e
  ]
]

-- a line of the code of version 2
register_lower_short : (st next : RegisterState) (l : List ℕ) → st.shared.code.order ≤ TOP_ORDER → register_lower_read st l ≡ Some next → length l < MOST_LINE
unfolding register_lower_read register_out_read register_instr_read
register_lower_short st next l low e = elim (behind_found (codes "out") l _ _ next e) [
  | inl h ↦ (let p = passed (nat_lt (length st.outs) (MOST_INPUTS * (st.shared.code.order + 1))) _ next h.2 in
      let a = bind_some (positions_of (st.shared.code.order + 1) (2 ^ 32) h.0) _ next p.1 in
      out_short st.shared.code.order (2 ^ 32) l h.0 a.0 low (omega arith) h.1 a.1)
  | inr e ↦ elim (chosen (bytes_eq l (codes "end")) _ _ (Some next) e) [
    | inl h ↦ word_short (codes "end") l (omega arith) h.0
    | inr h ↦ (let a = bind_some (into_of l) _ next h.1 in
        let found = into_found l a.0 a.1 in
        omega (arith, ap length found.0, into_words_short a.0.0 a.0.1 found.1))
  ]
]

-- any line of version 2 that is read
register_line_short : (stage : Stage) (st next : RegisterState) (l : List ℕ) → st.shared.code.order ≤ TOP_ORDER → register_read_at stage st l ≡ Some next → length l < MOST_LINE
unfolding register_read_at register_version_line
register_line_short Version st next l low e = word_short (codes "mask 2") l (omega arith) (passed (bytes_eq l (codes "mask 2")) _ next e).0
register_line_short Field st next l low e = share_short st (field_read st.shared l) next l (λ s. field_read_short st.shared s l) e
register_line_short Order st next l low e = share_short st (order_read TOP_ORDER st.shared l) next l (λ s. order_short TOP_ORDER st.shared s l (omega arith)) e
register_line_short Secrets st next l low e = share_short st (secrets_read st.shared l) next l (λ s. secrets_short st.shared s l) e
register_line_short Publics st next l low e = share_short st (publics_read st.shared l) next l (λ s. publics_short st.shared s l) e
register_line_short Upper st next l low e = register_upper_short st.registers st next l e
register_line_short Lower st next l low e = register_lower_short st next l low e
register_line_short Ended st next l low e = absurd cc

-- ---- lines of either version

-- the first line of version 2
opens_short : (stage : Stage) (l : List ℕ) → opens_registers stage l ≡ true → length l < MOST_LINE
opens_short Version l e = word_short (codes "mask 2") l (omega arith) e
opens_short Field l e = absurd cc
opens_short Order l e = absurd cc
opens_short Secrets l e = absurd cc
opens_short Publics l e = absurd cc
opens_short Upper l e = absurd cc
opens_short Lower l e = absurd cc
opens_short Ended l e = absurd cc

-- any line that is read
pub partial_short : (p next : Partial) (l : List ℕ) → GoodSoFar p → partial_read p l ≡ Some next → length l < MOST_LINE
unfolding partial_read
partial_short (Positions st) next l good e = elim (chosen (opens_registers st.stage l) _ _ (Some next) e) [
  | inl h ↦ opens_short st.stage l h.0
  | inr h ↦ (let a = bind_some (line_read st l) _ next h.1 in line_short st.stage st.code st.cert l a.0 good.0 a.1)
]
partial_short (Registers st) next l good e = let a = bind_some (register_line_read st l) _ next e in register_line_short st.shared.stage st a.0 l good.0.pair.listing.order.1 a.1

-- ---- empty lines

-- no empty line of version 1 is read
positions_stuck : (stage : Stage) (st : State) → read_at stage st [] ≡ None
unfolding read_at version_line field_read field_of order_read secrets_read publics_read headed upper_read code_read lower_read instr_read instr_of instr_at add_at mul_or_map_at rnd_at const_or_copy_at sq_at after
positions_stuck Version st = refl
positions_stuck Field st = refl
positions_stuck Order st = refl
positions_stuck Secrets st = refl
positions_stuck Publics st = refl
positions_stuck Upper st = refl
positions_stuck Lower st = refl
positions_stuck Ended st = refl

-- no empty line between the head and the code of version 2 is read
upper_stuck : (registers : Option ℕ) (st : RegisterState) → register_upper_read registers st [] ≡ None
unfolding register_upper_read registers_read code_read headed after
upper_stuck None st = refl
upper_stuck (Some n) st = refl

-- no empty line of version 2 is read
registers_stuck : (stage : Stage) (st : RegisterState) → register_read_at stage st [] ≡ None
unfolding register_read_at register_version_line field_read field_of order_read secrets_read publics_read headed register_lower_read register_instr_read into_of into_at add_into mul_or_map_into rnd_into const_or_copy_into sq_into after
registers_stuck Version st = refl
registers_stuck Field st = refl
registers_stuck Order st = refl
registers_stuck Secrets st = refl
registers_stuck Publics st = refl
registers_stuck Upper st = upper_stuck st.registers st
registers_stuck Lower st = refl
registers_stuck Ended st = refl

-- an empty line isn't the first one of version 2
empty_closed : (stage : Stage) → opens_registers stage [] ≡ false
empty_closed Version = refl
empty_closed Field = refl
empty_closed Order = refl
empty_closed Secrets = refl
empty_closed Publics = refl
empty_closed Upper = refl
empty_closed Lower = refl
empty_closed Ended = refl

-- no empty line is read
pub empty_stuck : (p : Partial) → partial_read p [] ≡ None
unfolding partial_read
empty_stuck (Positions st) = rw (empty_closed st.stage, positions_stuck st.stage st) refl
empty_stuck (Registers st) = rw (registers_stuck st.shared.stage st) refl
