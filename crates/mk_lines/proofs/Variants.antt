-- Blocks and instructions that are written are read back, and what is read is written so.
use Rattle.std.proofs.Common.{◌≡◌, ◌≢◌, ℕ, ◌^◌, ◌<◌, List, [], ◌∷◌, ◌++◌, Option, Some, None, refl, sym, ap, subst, ◌∙◌, inl, inr, append_assoc}
use Rattle.std.proofs.lemmas.List.{append-nil}
use Rattle.std.proofs.lemmas.Bool.{ne_eqb}
use Rattle.std.specs.Prelude.{codes, decimal}
use Rattle.mk_ssa.specs.declared.Operand.{Operand}
use Rattle.mk_ssa.specs.declared.Op.{Op}
use Rattle.mk_ssa.specs.declared.Op.TheVariants as op
use Rattle.mk_code.specs.declared.instr.Instr.{Instr}
use Rattle.mk_code.specs.declared.instr.Instr.TheVariants as instr
use Rattle.mk_lines.specs.Words.{line, operand_word}
use Rattle.mk_field.specs.Digits.{hex_byte}
use Rattle.mk_lines.specs.CertLines.{pair_words, mapped_words, op_line}
use Rattle.mk_ssa.specs.Widths.{OperandFits, OpFits}
use Rattle.mk_lines.specs.CodeLines.{instr_line, into_line, InstrFits, IntoFits}
use Rattle.mk_lines.specs.Parsing.{◌>>=◌, after, behind, or_else, whole, hex_at, hex_of, number_at, numbers_at, operand_of, pair_of, mapped_of, public_op_of, single_op_of, pair_op_of, op_of, rnd_at, const_or_copy_at, add_at, mul_or_map_at, sq_at, instr_at, instr_of, target_at, into_by, add_into, mul_or_map_into, rnd_into, const_or_copy_into, sq_into, into_at, into_of}
use Rattle.mk_lines.proofs.Steps.{bind_some, same_some, behind_found, or_found, or_again, whole_found, after_found, after_again}
use Rattle.mk_lines.proofs.Numbers.{EndsNumber, number_found, number_again}
use Rattle.mk_lines.proofs.Spelled.{hex_found, hex_again, hex_of_found, hex_of_again, operand_of_found, operand_of_again, pair_found, pair_again, mapped_found, mapped_again, number_words, numbers_found, numbers_again}

-- what stands in the line of a block behind `block `
abbrev pub op_words : Op → List ℕ
op_words (op.Const value) = codes "const " ++ hex_byte value
op_words (op.PubAdd left right) = codes "padd " ++ pair_words left right
op_words (op.PubMul left right) = codes "pmul " ++ pair_words left right
op_words (op.PubSq arg) = codes "psq " ++ operand_word arg
op_words (op.PubMap map arg) = codes "pmap " ++ mapped_words map arg
op_words (op.Lift arg) = codes "lift " ++ operand_word arg
op_words (op.Add left right) = codes "add " ++ pair_words left right
op_words (op.AddPub left right) = codes "addp " ++ pair_words left right
op_words (op.Scale left right) = codes "scale " ++ pair_words left right
op_words (op.Sq arg) = codes "sq " ++ operand_word arg
op_words (op.Map map arg) = codes "map " ++ mapped_words map arg
op_words (op.Mul left right) = codes "mul " ++ pair_words left right
op_words (op.Refresh arg) = codes "refresh " ++ operand_word arg

-- the line of a block is `block `, its words and a line feed
pub op_line-words : (o : Op) → op_line o ≡ line (codes "block " ++ op_words o)
op_line-words (op.Const value) = refl
op_line-words (op.PubAdd left right) = refl
op_line-words (op.PubMul left right) = refl
op_line-words (op.PubSq arg) = refl
op_line-words (op.PubMap map arg) = refl
op_line-words (op.Lift arg) = refl
op_line-words (op.Add left right) = refl
op_line-words (op.AddPub left right) = refl
op_line-words (op.Scale left right) = refl
op_line-words (op.Sq arg) = refl
op_line-words (op.Map map arg) = refl
op_line-words (op.Mul left right) = refl
op_line-words (op.Refresh arg) = refl

-- ---- blocks

-- these are the words of this block, and its numbers fit
abbrev pub IsOp : List ℕ → Op → Type 0
IsOp words o = (words ≡ op_words o) × OpFits o

-- a kind's word and the spelling of its arguments are the words of the block that was made of them
op_is : (words word rest spelled : List ℕ) (o x : Op) → words ≡ word ++ rest → rest ≡ spelled → op_words o ≡ word ++ spelled → OpFits o → ◌≡◌ {A = Option Op} (Some o) (Some x) → IsOp words x
op_is words word rest spelled o x here behind made fits e = subst (IsOp words) (same_some o x e) (here ∙ ap (λ (r : List ℕ). word ++ r) behind ∙ sym made, fits)

-- words that are read as a block of one operand are those of that block
single_is : (word words rest : List ℕ) (make : Operand → Op) (x : Op) → ((arg : Operand) → op_words (make arg) ≡ word ++ operand_word arg) → ((arg : Operand) → OperandFits arg → OpFits (make arg))
    → words ≡ word ++ rest → (operand_of rest >>= λ arg. Some (make arg)) ≡ Some x → IsOp words x
single_is word words rest make x made fits here e =
    let a = bind_some (operand_of rest) (λ (arg : Operand). Some (make arg)) x e in
    let found = operand_of_found rest a.0 a.1 in
    op_is words word rest (operand_word a.0) (make a.0) x here found.0 (made a.0) (fits a.0 found.1) a.2

-- the same for a block of two operands
pair_is : (word words rest : List ℕ) (make : Operand → Operand → Op) (x : Op) → ((left right : Operand) → op_words (make left right) ≡ word ++ pair_words left right)
    → ((left right : Operand) → OperandFits left → OperandFits right → OpFits (make left right))
    → words ≡ word ++ rest → (pair_of rest >>= λ p. Some (make p.0 p.1)) ≡ Some x → IsOp words x
pair_is word words rest make x made fits here e =
    let a = bind_some (pair_of rest) (λ (p : Operand × Operand). Some (make p.0 p.1)) x e in
    let found = pair_found rest a.0 a.1 in
    op_is words word rest (pair_words a.0.0 a.0.1) (make a.0.0 a.0.1) x here found.0 (made a.0.0 a.0.1) (fits a.0.0 a.0.1 found.1 found.2) a.2

-- the same for a block of a map's number and an operand
mapped_is : (word words rest : List ℕ) (make : ℕ → Operand → Op) (x : Op) → ((map : ℕ) (arg : Operand) → op_words (make map arg) ≡ word ++ mapped_words map arg)
    → ((map : ℕ) (arg : Operand) → map < 2 ^ 32 → OperandFits arg → OpFits (make map arg))
    → words ≡ word ++ rest → (mapped_of rest >>= λ m. Some (make m.0 m.1)) ≡ Some x → IsOp words x
mapped_is word words rest make x made fits here e =
    let a = bind_some (mapped_of rest) (λ (m : ℕ × Operand). Some (make m.0 m.1)) x e in
    let found = mapped_found rest a.0 a.1 in
    op_is words word rest (mapped_words a.0.0 a.0.1) (make a.0.0 a.0.1) x here found.0 (made a.0.0 a.0.1) (fits a.0.0 a.0.1 found.1 found.2) a.2

-- the same for a block of an element
const_is : (words rest : List ℕ) (x : Op) → words ≡ codes "const " ++ rest → (hex_of rest >>= λ value. Some (op.Const value)) ≡ Some x → IsOp words x
const_is words rest x here e =
    let a = bind_some (hex_of rest) (λ (value : ℕ). Some (op.Const value)) x e in
    let found = hex_of_found rest a.0 a.1 in
    op_is words (codes "const ") rest (hex_byte a.0) (op.Const a.0) x here found.0 refl found.1 a.2

-- where no block was read, any words would be those of it
no_op : (words : List ℕ) (x : Op) → ◌≡◌ {A = Option Op} None (Some x) → IsOp words x
no_op words x e = absurd cc

-- words that are read as a public block are those of that block
public_op_found : (words : List ℕ) (x : Op) → public_op_of words ≡ Some x → IsOp words x
unfolding public_op_of
public_op_found words x e = elim (behind_found (codes "const ") words _ _ x e) [
  | inl h ↦ const_is words h.0 x h.1 h.2
  | inr e ↦ elim (behind_found (codes "padd ") words _ _ x e) [
    | inl h ↦ pair_is (codes "padd ") words h.0 op.PubAdd x (λ l r. refl) (λ l r f g. (f, g)) h.1 h.2
    | inr e ↦ elim (behind_found (codes "pmul ") words _ _ x e) [
      | inl h ↦ pair_is (codes "pmul ") words h.0 op.PubMul x (λ l r. refl) (λ l r f g. (f, g)) h.1 h.2
      | inr e ↦ elim (behind_found (codes "psq ") words _ _ x e) [
        | inl h ↦ single_is (codes "psq ") words h.0 op.PubSq x (λ a. refl) (λ a f. f) h.1 h.2
        | inr e ↦ elim (behind_found (codes "pmap ") words _ _ x e) [
          | inl h ↦ mapped_is (codes "pmap ") words h.0 op.PubMap x (λ m a. refl) (λ m a f g. (f, g)) h.1 h.2
          | inr e ↦ no_op words x e
        ]
      ]
    ]
  ]
]

-- words that are read as a shared block of one operand are those of that block
single_op_found : (words : List ℕ) (x : Op) → single_op_of words ≡ Some x → IsOp words x
unfolding single_op_of
single_op_found words x e = elim (behind_found (codes "lift ") words _ _ x e) [
  | inl h ↦ single_is (codes "lift ") words h.0 op.Lift x (λ a. refl) (λ a f. f) h.1 h.2
  | inr e ↦ elim (behind_found (codes "sq ") words _ _ x e) [
    | inl h ↦ single_is (codes "sq ") words h.0 op.Sq x (λ a. refl) (λ a f. f) h.1 h.2
    | inr e ↦ elim (behind_found (codes "map ") words _ _ x e) [
      | inl h ↦ mapped_is (codes "map ") words h.0 op.Map x (λ m a. refl) (λ m a f g. (f, g)) h.1 h.2
      | inr e ↦ elim (behind_found (codes "refresh ") words _ _ x e) [
        | inl h ↦ single_is (codes "refresh ") words h.0 op.Refresh x (λ a. refl) (λ a f. f) h.1 h.2
        | inr e ↦ no_op words x e
      ]
    ]
  ]
]

-- words that are read as a shared block of two operands are those of that block
pair_op_found : (words : List ℕ) (x : Op) → pair_op_of words ≡ Some x → IsOp words x
unfolding pair_op_of
pair_op_found words x e = elim (behind_found (codes "add ") words _ _ x e) [
  | inl h ↦ pair_is (codes "add ") words h.0 op.Add x (λ l r. refl) (λ l r f g. (f, g)) h.1 h.2
  | inr e ↦ elim (behind_found (codes "addp ") words _ _ x e) [
    | inl h ↦ pair_is (codes "addp ") words h.0 op.AddPub x (λ l r. refl) (λ l r f g. (f, g)) h.1 h.2
    | inr e ↦ elim (behind_found (codes "scale ") words _ _ x e) [
      | inl h ↦ pair_is (codes "scale ") words h.0 op.Scale x (λ l r. refl) (λ l r f g. (f, g)) h.1 h.2
      | inr e ↦ elim (behind_found (codes "mul ") words _ _ x e) [
        | inl h ↦ pair_is (codes "mul ") words h.0 op.Mul x (λ l r. refl) (λ l r f g. (f, g)) h.1 h.2
        | inr e ↦ no_op words x e
      ]
    ]
  ]
]

-- words that are read as a block are those of that block, and its numbers fit
pub op_found : (words : List ℕ) (x : Op) → op_of words ≡ Some x → IsOp words x
unfolding op_of
op_found words x e = elim (or_found (public_op_of words) (or_else (single_op_of words) (pair_op_of words)) x e) [
  | inl h ↦ public_op_found words x h
  | inr e ↦ elim (or_found (single_op_of words) (pair_op_of words) x e) [ inl h ↦ single_op_found words x h | inr h ↦ pair_op_found words x h ]
]

-- the words of a block are read as that block
pub op_again : (o : Op) → OpFits o → op_of (op_words o) ≡ Some o
unfolding op_of public_op_of single_op_of pair_op_of after
op_again (op.Const value) fits = rw (hex_of_again value fits) refl
op_again (op.PubAdd left right) fits = rw (pair_again left right fits.0 fits.1) refl
op_again (op.PubMul left right) fits = rw (pair_again left right fits.0 fits.1) refl
op_again (op.PubSq arg) fits = rw (operand_of_again arg fits) refl
op_again (op.PubMap map arg) fits = rw (mapped_again map arg fits.0 fits.1) refl
op_again (op.Lift arg) fits = rw (operand_of_again arg fits) refl
op_again (op.Add left right) fits = rw (pair_again left right fits.0 fits.1) refl
op_again (op.AddPub left right) fits = rw (pair_again left right fits.0 fits.1) refl
op_again (op.Scale left right) fits = rw (pair_again left right fits.0 fits.1) refl
op_again (op.Sq arg) fits = rw (operand_of_again arg fits) refl
op_again (op.Map map arg) fits = rw (mapped_again map arg fits.0 fits.1) refl
op_again (op.Mul left right) fits = rw (pair_again left right fits.0 fits.1) refl
op_again (op.Refresh arg) fits = rw (operand_of_again arg fits) refl

-- ---- instructions

-- the line of an instruction, without its line feed
abbrev pub instr_words : Instr → List ℕ
instr_words instr.Rnd = codes "rnd"
instr_words (instr.Const value) = codes "const " ++ hex_byte value
instr_words (instr.Copy from) = codes "copy " ++ decimal from
instr_words (instr.Add left right) = codes "add " ++ number_words left right
instr_words (instr.Mul left right) = codes "mul " ++ number_words left right
instr_words (instr.Sq from) = codes "sq " ++ decimal from
instr_words (instr.Map map from) = codes "map " ++ number_words map from

-- the line of an instruction is its words and a line feed
pub instr_line-words : (i : Instr) → instr_line i ≡ line (instr_words i)
instr_line-words instr.Rnd = refl
instr_line-words (instr.Const value) = refl
instr_line-words (instr.Copy from) = refl
instr_line-words (instr.Add left right) = refl
instr_line-words (instr.Mul left right) = refl
instr_line-words (instr.Sq from) = refl
instr_line-words (instr.Map map from) = refl

-- bytes begin with the words of an instruction whose numbers fit, before what is left
abbrev pub BeginsWithInstr : List ℕ → Instr × List ℕ → Type 0
BeginsWithInstr bytes x = (bytes ≡ instr_words x.0 ++ x.1) × InstrFits x.0

-- a kind's word and the spelling of its arguments are the words of the instruction that was made of them
instr_is : (bytes word rest spelled left : List ℕ) (i : Instr) (x : Instr × List ℕ) → bytes ≡ word ++ rest → rest ≡ spelled ++ left → instr_words i ≡ word ++ spelled → InstrFits i
    → ◌≡◌ {A = Option (Instr × List ℕ)} (Some (i, left)) (Some x) → BeginsWithInstr bytes x
instr_is bytes word rest spelled left i x here behind made fits e =
    let all : bytes ≡ instr_words i ++ left =
    here ∙ ap (λ (r : List ℕ). word ++ r) behind ∙ sym (append_assoc word spelled left) ∙ ap (λ (w : List ℕ). w ++ left) (sym made) in
    subst (BeginsWithInstr bytes) (same_some (i, left) x e) (all, fits)

-- bytes that are read as an instruction of one number begin with the words of that instruction
number_is : (word bytes rest : List ℕ) (make : ℕ → Instr) (x : Instr × List ℕ) → ((n : ℕ) → instr_words (make n) ≡ word ++ decimal n) → ((n : ℕ) → n < 2 ^ 32 → InstrFits (make n))
    → bytes ≡ word ++ rest → (number_at rest >>= λ n. Some (make n.0, n.1)) ≡ Some x → BeginsWithInstr bytes x
number_is word bytes rest make x made fits here e =
    let a = bind_some (number_at rest) (λ (n : ℕ × List ℕ). Some (make n.0, n.1)) x e in
    let found = number_found rest a.0 a.1 in
    instr_is bytes word rest (decimal a.0.0) a.0.1 (make a.0.0) x here found.0 (made a.0.0) (fits a.0.0 found.1) a.2

-- the same for an instruction of two numbers
numbers_is : (word bytes rest : List ℕ) (make : ℕ → ℕ → Instr) (x : Instr × List ℕ) → ((m n : ℕ) → instr_words (make m n) ≡ word ++ number_words m n)
    → ((m n : ℕ) → m < 2 ^ 32 → n < 2 ^ 32 → InstrFits (make m n)) → bytes ≡ word ++ rest → (numbers_at rest >>= λ p. Some (make p.0.0 p.0.1, p.1)) ≡ Some x → BeginsWithInstr bytes x
numbers_is word bytes rest make x made fits here e =
    let a = bind_some (numbers_at rest) (λ (p : (ℕ × ℕ) × List ℕ). Some (make p.0.0 p.0.1, p.1)) x e in
    let found = numbers_found rest a.0 a.1 in
    instr_is bytes word rest (number_words a.0.0.0 a.0.0.1) a.0.1 (make a.0.0.0 a.0.0.1) x here found.0 (made a.0.0.0 a.0.0.1) (fits a.0.0.0 a.0.0.1 found.1 found.2) a.2

-- the same for an instruction of an element
constant_is : (bytes rest : List ℕ) (x : Instr × List ℕ) → bytes ≡ codes "const " ++ rest → (hex_at rest >>= λ v. Some (instr.Const v.0, v.1)) ≡ Some x → BeginsWithInstr bytes x
constant_is bytes rest x here e =
    let a = bind_some (hex_at rest) (λ (v : ℕ × List ℕ). Some (instr.Const v.0, v.1)) x e in
    let found = hex_found rest a.0 a.1 in
    instr_is bytes (codes "const ") rest (hex_byte a.0.0) a.0.1 (instr.Const a.0.0) x here found.0 refl found.1 a.2

-- where no instruction was read, any bytes would begin with it
no_instr : (bytes : List ℕ) (x : Instr × List ℕ) → ◌≡◌ {A = Option (Instr × List ℕ)} None (Some x) → BeginsWithInstr bytes x
no_instr bytes x e = absurd cc

-- bytes that are read as a random element begin with its word
rnd_found : (bytes : List ℕ) (x : Instr × List ℕ) → rnd_at bytes ≡ Some x → BeginsWithInstr bytes x
unfolding rnd_at
rnd_found bytes x e = elim (behind_found (codes "rnd") bytes _ _ x e) [ inl h ↦ instr_is bytes (codes "rnd") h.0 [] h.0 instr.Rnd x h.1 refl refl tt h.2 | inr e ↦ no_instr bytes x e ]

-- bytes that are read as a constant or a copy begin with its words
const_or_copy_found : (bytes : List ℕ) (x : Instr × List ℕ) → const_or_copy_at bytes ≡ Some x → BeginsWithInstr bytes x
unfolding const_or_copy_at
const_or_copy_found bytes x e = elim (behind_found (codes "const ") bytes _ _ x e) [
  | inl h ↦ constant_is bytes h.0 x h.1 h.2
  | inr e ↦ elim (behind_found (codes "copy ") bytes _ _ x e) [ inl h ↦ number_is (codes "copy ") bytes h.0 instr.Copy x (λ n. refl) (λ n f. f) h.1 h.2 | inr e ↦ no_instr bytes x e ]
]

-- bytes that are read as a sum begin with its words
add_found : (bytes : List ℕ) (x : Instr × List ℕ) → add_at bytes ≡ Some x → BeginsWithInstr bytes x
unfolding add_at
add_found bytes x e = elim (behind_found (codes "add ") bytes _ _ x e) [ inl h ↦ numbers_is (codes "add ") bytes h.0 instr.Add x (λ m n. refl) (λ m n f g. (f, g)) h.1 h.2 | inr e ↦ no_instr bytes x e ]

-- bytes that are read as a product or a map begin with its words
mul_or_map_found : (bytes : List ℕ) (x : Instr × List ℕ) → mul_or_map_at bytes ≡ Some x → BeginsWithInstr bytes x
unfolding mul_or_map_at
mul_or_map_found bytes x e = elim (behind_found (codes "mul ") bytes _ _ x e) [
  | inl h ↦ numbers_is (codes "mul ") bytes h.0 instr.Mul x (λ m n. refl) (λ m n f g. (f, g)) h.1 h.2
  | inr e ↦ elim (behind_found (codes "map ") bytes _ _ x e) [ inl h ↦ numbers_is (codes "map ") bytes h.0 instr.Map x (λ m n. refl) (λ m n f g. (f, g)) h.1 h.2 | inr e ↦ no_instr bytes x e ]
]

-- bytes that are read as a square begin with its words
sq_found : (bytes : List ℕ) (x : Instr × List ℕ) → sq_at bytes ≡ Some x → BeginsWithInstr bytes x
unfolding sq_at
sq_found bytes x e = elim (behind_found (codes "sq ") bytes _ _ x e) [ inl h ↦ number_is (codes "sq ") bytes h.0 instr.Sq x (λ n. refl) (λ n f. f) h.1 h.2 | inr e ↦ no_instr bytes x e ]

-- bytes that are read as an instruction begin with the words of that instruction, and its numbers fit
pub instr_at_found : (bytes : List ℕ) (x : Instr × List ℕ) → instr_at bytes ≡ Some x → BeginsWithInstr bytes x
unfolding instr_at
instr_at_found bytes x e = elim (or_found (add_at bytes) _ x e) [
  | inl h ↦ add_found bytes x h
  | inr e ↦ elim (or_found (mul_or_map_at bytes) _ x e) [
    | inl h ↦ mul_or_map_found bytes x h
    | inr e ↦ elim (or_found (rnd_at bytes) _ x e) [
      | inl h ↦ rnd_found bytes x h
      | inr e ↦ elim (or_found (const_or_copy_at bytes) _ x e) [ inl h ↦ const_or_copy_found bytes x h | inr h ↦ sq_found bytes x h ]
    ]
  ]
]

-- the words of an instruction whose numbers fit are read as that instruction, where what stands behind doesn't go on with a number
pub instr_at_again : (i : Instr) (rest : List ℕ) → InstrFits i → EndsNumber rest → instr_at (instr_words i ++ rest) ≡ Some (i, rest)
unfolding instr_at add_at mul_or_map_at rnd_at const_or_copy_at sq_at after
instr_at_again instr.Rnd rest fits ends = refl
instr_at_again (instr.Const value) rest fits ends = rw (hex_again value rest fits) refl
instr_at_again (instr.Copy from) rest fits ends = rw (number_again from rest fits ends) refl
instr_at_again (instr.Add left right) rest fits ends = rw (numbers_again left right rest fits.0 fits.1 ends) refl
instr_at_again (instr.Mul left right) rest fits ends = rw (numbers_again left right rest fits.0 fits.1 ends) refl
instr_at_again (instr.Sq from) rest fits ends = rw (number_again from rest fits ends) refl
instr_at_again (instr.Map map from) rest fits ends = rw (numbers_again map from rest fits.0 fits.1 ends) refl

-- words that are read as an instruction are those of that instruction
pub instr_found : (words : List ℕ) (x : Instr) → instr_of words ≡ Some x → words ≡ instr_words x
unfolding instr_of
instr_found words x e =
    let a = bind_some (instr_at words) (λ (i : Instr × List ℕ). whole i) x e in
    let w = whole_found a.0 x a.2 in
    (instr_at_found words a.0 a.1).0 ∙ ap (λ (i : Instr). instr_words i ++ a.0.1) w.0 ∙ ap (λ (r : List ℕ). instr_words x ++ r) w.1 ∙ append-nil (instr_words x)

-- the words of an instruction whose numbers fit are read as that instruction
pub instr_again : (i : Instr) → InstrFits i → instr_of (instr_words i) ≡ Some i
unfolding instr_of whole
instr_again i fits =
    let h : instr_at (instr_words i) ≡ Some (i, []) = ap instr_at (sym (append-nil (instr_words i))) ∙ instr_at_again i [] fits tt in
    rw h refl

-- ---- instructions that write registers

-- the line of an instruction that writes a register, without its line feed
abbrev pub into_words : ℕ → Instr → List ℕ
into_words to instr.Rnd = codes "rnd " ++ decimal to
into_words to (instr.Const value) = codes "const " ++ (decimal to ++ codes " " ++ hex_byte value)
into_words to (instr.Copy from) = codes "copy " ++ number_words to from
into_words to (instr.Add left right) = codes "add " ++ (decimal to ++ codes " " ++ number_words left right)
into_words to (instr.Mul left right) = codes "mul " ++ (decimal to ++ codes " " ++ number_words left right)
into_words to (instr.Sq from) = codes "sq " ++ number_words to from
into_words to (instr.Map map from) = codes "map " ++ (decimal to ++ codes " " ++ number_words map from)

-- three numbers with spaces between
three_numbers : (word to left right : List ℕ) → word ++ to ++ codes " " ++ left ++ codes " " ++ right ≡ word ++ (to ++ codes " " ++ (left ++ codes " " ++ right))
three_numbers word to left right = simp (append_assoc) refl

-- the line of an instruction that writes a register is its words and a line feed
pub into_line-words : (to : ℕ) (i : Instr) → into_line to i ≡ line (into_words to i)
into_line-words to instr.Rnd = refl
into_line-words to (instr.Const value) = refl
into_line-words to (instr.Copy from) = refl
into_line-words to (instr.Add left right) = ap line (three_numbers (codes "add ") (decimal to) (decimal left) (decimal right))
into_line-words to (instr.Mul left right) = ap line (three_numbers (codes "mul ") (decimal to) (decimal left) (decimal right))
into_line-words to (instr.Sq from) = refl
into_line-words to (instr.Map map from) = ap line (three_numbers (codes "map ") (decimal to) (decimal map) (decimal from))

-- bytes that are read as a register before a space are these before the rest, and it has 32 bits
target_found : (bytes : List ℕ) (x : ℕ × List ℕ) → target_at bytes ≡ Some x → (bytes ≡ decimal x.0 ++ codes " " ++ x.1) × (x.0 < 2 ^ 32)
unfolding target_at
target_found bytes x e =
    let a = bind_some (number_at bytes) (λ (to : ℕ × List ℕ). after (codes " ") to.1 >>= λ rest. Some (to.0, rest)) x e in
    let b = bind_some (after (codes " ") a.0.1) (λ (rest : List ℕ). Some (a.0.0, rest)) x a.2 in
    let is : (a.0.0, b.0) ≡ x = same_some (a.0.0, b.0) x b.2 in
    let found = number_found bytes a.0 a.1 in
    let here : bytes ≡ decimal a.0.0 ++ codes " " ++ b.0 =
    found.0 ∙ ap (λ (r : List ℕ). decimal a.0.0 ++ r) (after_found (codes " ") a.0.1 b.0 b.1) ∙ sym (append_assoc (decimal a.0.0) (codes " ") b.0) in
    subst (λ (y : ℕ × List ℕ). (bytes ≡ decimal y.0 ++ codes " " ++ y.1) × (y.0 < 2 ^ 32)) is (here, found.1)

-- the register that is written, of 32 bits, and what stands behind it and a space, from which the instruction is read
by_found : (f : List ℕ → Option (Instr × List ℕ)) (bytes : List ℕ) (x : (ℕ × Instr) × List ℕ) → into_by f bytes ≡ Some x
    → (rest : List ℕ) × (bytes ≡ decimal x.0.0 ++ codes " " ++ rest) × (x.0.0 < 2 ^ 32) × (f rest ≡ Some (x.0.1, x.1))
unfolding into_by
by_found f bytes x e =
    let a = bind_some (target_at bytes) (λ (target : ℕ × List ℕ). f target.1 >>= λ i. Some ((target.0, i.0), i.1)) x e in
    let b = bind_some (f a.0.1) (λ (i : Instr × List ℕ). Some ((a.0.0, i.0), i.1)) x a.2 in
    let is : ((a.0.0, b.0.0), b.0.1) ≡ x = same_some ((a.0.0, b.0.0), b.0.1) x b.2 in
    let found = target_found bytes a.0 a.1 in
    let parts : (bytes ≡ decimal x.0.0 ++ codes " " ++ a.0.1) × (x.0.0 < 2 ^ 32) × (f a.0.1 ≡ Some (x.0.1, x.1)) =
    subst (λ (y : (ℕ × Instr) × List ℕ). (bytes ≡ decimal y.0.0 ++ codes " " ++ a.0.1) × (y.0.0 < 2 ^ 32) × (f a.0.1 ≡ Some (y.0.1, y.1))) is (found.0, found.1, b.1) in
    (a.0.1, parts.0, parts.1, parts.2)

-- bytes begin with the words of this instruction that writes this register, whose numbers fit, before what is left
abbrev pub BeginsWithInto : List ℕ → (ℕ × Instr) × List ℕ → Type 0
BeginsWithInto bytes x = (bytes ≡ into_words x.0.0 x.0.1 ++ x.1) × IntoFits x.0.0 x.0.1

-- words that stand behind others, before what is left
regrouped : (word to spelled left : List ℕ) → word ++ (to ++ codes " " ++ (spelled ++ left)) ≡ (word ++ (to ++ codes " " ++ spelled)) ++ left
regrouped word to spelled left = simp (append_assoc) refl

-- a kind's word, the register and the spelling of what is read are the words of the instruction that was made of them
into_is : (bytes word rest last spelled left : List ℕ) (i : Instr) (x : (ℕ × Instr) × List ℕ) → bytes ≡ word ++ rest → rest ≡ decimal x.0.0 ++ codes " " ++ last → last ≡ spelled ++ left
    → into_words x.0.0 i ≡ word ++ (decimal x.0.0 ++ codes " " ++ spelled) → x.0.0 < 2 ^ 32 → InstrFits i → ◌≡◌ {A = Option (Instr × List ℕ)} (Some (i, left)) (Some (x.0.1, x.1)) → BeginsWithInto bytes x
into_is bytes word rest last spelled left i x here target end made small fits e =
    let all : bytes ≡ into_words x.0.0 i ++ left =
    here ∙ ap (λ (r : List ℕ). word ++ r) target ∙ ap (λ (r : List ℕ). word ++ (decimal x.0.0 ++ codes " " ++ r)) end
    ∙ regrouped word (decimal x.0.0) spelled left ∙ ap (λ (w : List ℕ). w ++ left) (sym made) in
    subst (λ (y : Instr × List ℕ). (bytes ≡ into_words x.0.0 y.0 ++ y.1) × IntoFits x.0.0 y.0) (same_some (i, left) (x.0.1, x.1) e) (all, (small, fits))

-- bytes that are read as an instruction that reads one register begin with the words of that instruction
into_number_is : (word bytes rest : List ℕ) (make : ℕ → Instr) (x : (ℕ × Instr) × List ℕ) → ((to n : ℕ) → into_words to (make n) ≡ word ++ (decimal to ++ codes " " ++ decimal n))
    → ((n : ℕ) → n < 2 ^ 32 → InstrFits (make n)) → bytes ≡ word ++ rest → into_by (λ r. number_at r >>= λ n. Some (make n.0, n.1)) rest ≡ Some x → BeginsWithInto bytes x
into_number_is word bytes rest make x made fits here e =
    let a = by_found (λ (r : List ℕ). number_at r >>= λ n. Some (make n.0, n.1)) rest x e in
    let b = bind_some (number_at a.0) (λ (n : ℕ × List ℕ). Some (make n.0, n.1)) (x.0.1, x.1) a.3 in
    let found = number_found a.0 b.0 b.1 in
    into_is bytes word rest a.0 (decimal b.0.0) b.0.1 (make b.0.0) x here a.1 found.0 (made x.0.0 b.0.0) a.2 (fits b.0.0 found.1) b.2

-- the same for an instruction of two numbers
into_numbers_is : (word bytes rest : List ℕ) (make : ℕ → ℕ → Instr) (x : (ℕ × Instr) × List ℕ) → ((to m n : ℕ) → into_words to (make m n) ≡ word ++ (decimal to ++ codes " " ++ number_words m n))
    → ((m n : ℕ) → m < 2 ^ 32 → n < 2 ^ 32 → InstrFits (make m n)) → bytes ≡ word ++ rest → into_by (λ r. numbers_at r >>= λ p. Some (make p.0.0 p.0.1, p.1)) rest ≡ Some x → BeginsWithInto bytes x
into_numbers_is word bytes rest make x made fits here e =
    let a = by_found (λ (r : List ℕ). numbers_at r >>= λ p. Some (make p.0.0 p.0.1, p.1)) rest x e in
    let b = bind_some (numbers_at a.0) (λ (p : (ℕ × ℕ) × List ℕ). Some (make p.0.0 p.0.1, p.1)) (x.0.1, x.1) a.3 in
    let found = numbers_found a.0 b.0 b.1 in
    into_is bytes word rest a.0 (number_words b.0.0.0 b.0.0.1) b.0.1 (make b.0.0.0 b.0.0.1) x here a.1 found.0 (made x.0.0 b.0.0.0 b.0.0.1) a.2 (fits b.0.0.0 b.0.0.1 found.1 found.2) b.2

-- the same for an instruction of an element
into_constant_is : (bytes rest : List ℕ) (x : (ℕ × Instr) × List ℕ) → bytes ≡ codes "const " ++ rest → into_by (λ r. hex_at r >>= λ v. Some (instr.Const v.0, v.1)) rest ≡ Some x → BeginsWithInto bytes x
into_constant_is bytes rest x here e =
    let a = by_found (λ (r : List ℕ). hex_at r >>= λ v. Some (instr.Const v.0, v.1)) rest x e in
    let b = bind_some (hex_at a.0) (λ (v : ℕ × List ℕ). Some (instr.Const v.0, v.1)) (x.0.1, x.1) a.3 in
    let found = hex_found a.0 b.0 b.1 in
    into_is bytes (codes "const ") rest a.0 (hex_byte b.0.0) b.0.1 (instr.Const b.0.0) x here a.1 found.0 refl a.2 found.1 b.2

-- the same for a random element
into_random_is : (bytes rest : List ℕ) (x : (ℕ × Instr) × List ℕ) → bytes ≡ codes "rnd " ++ rest → (number_at rest >>= λ to. Some ((to.0, instr.Rnd), to.1)) ≡ Some x → BeginsWithInto bytes x
into_random_is bytes rest x here e =
    let a = bind_some (number_at rest) (λ (to : ℕ × List ℕ). Some ((to.0, instr.Rnd), to.1)) x e in
    let found = number_found rest a.0 a.1 in
    let all : bytes ≡ into_words a.0.0 instr.Rnd ++ a.0.1 = here ∙ ap (λ (r : List ℕ). codes "rnd " ++ r) found.0 ∙ sym (append_assoc (codes "rnd ") (decimal a.0.0) a.0.1) in
    subst (BeginsWithInto bytes) (same_some ((a.0.0, instr.Rnd), a.0.1) x a.2) (all, (found.1, tt))

-- where no instruction was read, any bytes would begin with it
no_into : (bytes : List ℕ) (x : (ℕ × Instr) × List ℕ) → ◌≡◌ {A = Option ((ℕ × Instr) × List ℕ)} None (Some x) → BeginsWithInto bytes x
no_into bytes x e = absurd cc

-- bytes that are read as a sum begin with its words
add_into_found : (bytes : List ℕ) (x : (ℕ × Instr) × List ℕ) → add_into bytes ≡ Some x → BeginsWithInto bytes x
unfolding add_into
add_into_found bytes x e = elim (behind_found (codes "add ") bytes _ _ x e) [
  | inl h ↦ into_numbers_is (codes "add ") bytes h.0 instr.Add x (λ t m n. refl) (λ m n f g. (f, g)) h.1 h.2
  | inr e ↦ no_into bytes x e
]

-- bytes that are read as a product or a map begin with its words
mul_or_map_into_found : (bytes : List ℕ) (x : (ℕ × Instr) × List ℕ) → mul_or_map_into bytes ≡ Some x → BeginsWithInto bytes x
unfolding mul_or_map_into
mul_or_map_into_found bytes x e = elim (behind_found (codes "mul ") bytes _ _ x e) [
  | inl h ↦ into_numbers_is (codes "mul ") bytes h.0 instr.Mul x (λ t m n. refl) (λ m n f g. (f, g)) h.1 h.2
  | inr e ↦ elim (behind_found (codes "map ") bytes _ _ x e) [
    | inl h ↦ into_numbers_is (codes "map ") bytes h.0 instr.Map x (λ t m n. refl) (λ m n f g. (f, g)) h.1 h.2
    | inr e ↦ no_into bytes x e
  ]
]

-- bytes that are read as a random element begin with its words
rnd_into_found : (bytes : List ℕ) (x : (ℕ × Instr) × List ℕ) → rnd_into bytes ≡ Some x → BeginsWithInto bytes x
unfolding rnd_into
rnd_into_found bytes x e = elim (behind_found (codes "rnd ") bytes _ _ x e) [ inl h ↦ into_random_is bytes h.0 x h.1 h.2 | inr e ↦ no_into bytes x e ]

-- bytes that are read as a constant or a copy begin with its words
const_or_copy_into_found : (bytes : List ℕ) (x : (ℕ × Instr) × List ℕ) → const_or_copy_into bytes ≡ Some x → BeginsWithInto bytes x
unfolding const_or_copy_into
const_or_copy_into_found bytes x e = elim (behind_found (codes "const ") bytes _ _ x e) [
  | inl h ↦ into_constant_is bytes h.0 x h.1 h.2
  | inr e ↦ elim (behind_found (codes "copy ") bytes _ _ x e) [
    | inl h ↦ into_number_is (codes "copy ") bytes h.0 instr.Copy x (λ t n. refl) (λ n f. f) h.1 h.2
    | inr e ↦ no_into bytes x e
  ]
]

-- bytes that are read as a square begin with its words
sq_into_found : (bytes : List ℕ) (x : (ℕ × Instr) × List ℕ) → sq_into bytes ≡ Some x → BeginsWithInto bytes x
unfolding sq_into
sq_into_found bytes x e = elim (behind_found (codes "sq ") bytes _ _ x e) [
  | inl h ↦ into_number_is (codes "sq ") bytes h.0 instr.Sq x (λ t n. refl) (λ n f. f) h.1 h.2
  | inr e ↦ no_into bytes x e
]

-- bytes that are read as an instruction that writes a register begin with the words of both, and the numbers fit
pub into_at_found : (bytes : List ℕ) (x : (ℕ × Instr) × List ℕ) → into_at bytes ≡ Some x → BeginsWithInto bytes x
unfolding into_at
into_at_found bytes x e = elim (or_found (add_into bytes) _ x e) [
  | inl h ↦ add_into_found bytes x h
  | inr e ↦ elim (or_found (mul_or_map_into bytes) _ x e) [
    | inl h ↦ mul_or_map_into_found bytes x h
    | inr e ↦ elim (or_found (rnd_into bytes) _ x e) [
      | inl h ↦ rnd_into_found bytes x h
      | inr e ↦ elim (or_found (const_or_copy_into bytes) _ x e) [ inl h ↦ const_or_copy_into_found bytes x h | inr h ↦ sq_into_found bytes x h ]
    ]
  ]
]

-- words that are read as an instruction that writes a register are those of both, and the numbers fit
pub into_found : (words : List ℕ) (x : ℕ × Instr) → into_of words ≡ Some x → (words ≡ into_words x.0 x.1) × IntoFits x.0 x.1
unfolding into_of
into_found words x e =
    let a = bind_some (into_at words) (λ (i : (ℕ × Instr) × List ℕ). whole i) x e in
    let w = whole_found a.0 x a.2 in
    let found = into_at_found words a.0 a.1 in
    let here : words ≡ into_words a.0.0.0 a.0.0.1 = found.0 ∙ ap (λ (r : List ℕ). into_words a.0.0.0 a.0.0.1 ++ r) w.1 ∙ append-nil (into_words a.0.0.0 a.0.0.1) in
    subst (λ (y : ℕ × Instr). (words ≡ into_words y.0 y.1) × IntoFits y.0 y.1) w.0 (here, found.1)

-- a register and a space before more words are read as it and those
target_again : (to : ℕ) (rest : List ℕ) → to < 2 ^ 32 → target_at (decimal to ++ codes " " ++ rest) ≡ Some (to, rest)
unfolding target_at
target_again to rest small = rw (append_assoc (decimal to) (codes " ") rest, number_again to (codes " " ++ rest) small refl, after_again (codes " ") rest) refl

-- the register that is written and the instruction are read, where the instruction is from its words
by_again : (f : List ℕ → Option (Instr × List ℕ)) (to : ℕ) (i : Instr) (spelled rest : List ℕ) → to < 2 ^ 32 → f (spelled ++ rest) ≡ Some (i, rest)
    → into_by f ((decimal to ++ codes " " ++ spelled) ++ rest) ≡ Some ((to, i), rest)
unfolding into_by
by_again f to i spelled rest small read = rw (append_assoc (decimal to ++ codes " ") spelled rest, target_again to (spelled ++ rest) small, read) refl

-- the same of an instruction that reads one register
by_number_again : (make : ℕ → Instr) (to n : ℕ) (rest : List ℕ) → to < 2 ^ 32 → n < 2 ^ 32 → EndsNumber rest
    → into_by (λ r. number_at r >>= λ n. Some (make n.0, n.1)) (number_words to n ++ rest) ≡ Some ((to, make n), rest)
by_number_again make to n rest small low ends =
    by_again (λ (r : List ℕ). number_at r >>= λ n. Some (make n.0, n.1)) to (make n) (decimal n) rest small (ap (λ (o : Option (ℕ × List ℕ)). o >>= λ n. Some (make n.0, n.1)) (number_again n rest low ends))

-- the same of an instruction of two numbers
by_numbers_again : (make : ℕ → ℕ → Instr) (to m n : ℕ) (rest : List ℕ) → to < 2 ^ 32 → m < 2 ^ 32 → n < 2 ^ 32 → EndsNumber rest
    → into_by (λ r. numbers_at r >>= λ p. Some (make p.0.0 p.0.1, p.1)) ((decimal to ++ codes " " ++ number_words m n) ++ rest) ≡ Some ((to, make m n), rest)
by_numbers_again make to m n rest small low high ends =
    by_again (λ (r : List ℕ). numbers_at r >>= λ p. Some (make p.0.0 p.0.1, p.1)) to (make m n) (number_words m n) rest small
    (ap (λ (o : Option ((ℕ × ℕ) × List ℕ)). o >>= λ p. Some (make p.0.0 p.0.1, p.1)) (numbers_again m n rest low high ends))

-- the words of an instruction that writes a register, whose numbers fit, are read as both, where what stands behind doesn't go on with a number
pub into_at_again : (to : ℕ) (i : Instr) (rest : List ℕ) → IntoFits to i → EndsNumber rest → into_at (into_words to i ++ rest) ≡ Some ((to, i), rest)
unfolding into_at add_into mul_or_map_into rnd_into const_or_copy_into sq_into after
into_at_again to instr.Rnd rest fits ends = rw (number_again to rest fits.0 ends) refl
into_at_again to (instr.Const value) rest fits ends =
    or_again _ _ ((to, instr.Const value), rest)
    (by_again _ to (instr.Const value) (hex_byte value) rest fits.0 (ap (λ (o : Option (ℕ × List ℕ)). o >>= λ v. Some (instr.Const v.0, v.1)) (hex_again value rest fits.1)))
into_at_again to (instr.Copy from) rest fits ends = or_again _ _ ((to, instr.Copy from), rest) (by_number_again instr.Copy to from rest fits.0 fits.1 ends)
into_at_again to (instr.Add left right) rest fits ends = or_again _ _ ((to, instr.Add left right), rest) (by_numbers_again instr.Add to left right rest fits.0 fits.1.0 fits.1.1 ends)
into_at_again to (instr.Mul left right) rest fits ends = or_again _ _ ((to, instr.Mul left right), rest) (by_numbers_again instr.Mul to left right rest fits.0 fits.1.0 fits.1.1 ends)
into_at_again to (instr.Sq from) rest fits ends = by_number_again instr.Sq to from rest fits.0 fits.1 ends
into_at_again to (instr.Map map from) rest fits ends = or_again _ _ ((to, instr.Map map from), rest) (by_numbers_again instr.Map to map from rest fits.0 fits.1.0 fits.1.1 ends)

-- the words of an instruction that writes a register, whose numbers fit, are read as both
pub into_again : (to : ℕ) (i : Instr) → IntoFits to i → into_of (into_words to i) ≡ Some (to, i)
unfolding into_of whole
into_again to i fits =
    let h : into_at (into_words to i) ≡ Some ((to, i), []) = ap into_at (sym (append-nil (into_words to i))) ∙ into_at_again to i [] fits tt in
    rw h refl

-- ---- the first letter

-- where there is nothing else, it is this
or_none : {A : Type 0} (o : Option A) → or_else o None ≡ o
or_none (Some x) = refl
or_none None = refl

-- no byte begins an instruction
pub letter_none : (bytes : List ℕ) → bytes ≡ [] → instr_at bytes ≡ None
unfolding instr_at add_at mul_or_map_at rnd_at const_or_copy_at sq_at after
letter_none bytes none = rw none refl

-- an `a` begins a sum
pub letter_a : (bs : List ℕ) → instr_at (97 ∷ bs) ≡ add_at (97 ∷ bs)
unfolding instr_at add_at mul_or_map_at rnd_at const_or_copy_at sq_at after
letter_a bs = or_none (add_at (97 ∷ bs))

-- an `m` begins a product or a map
pub letter_m : (bs : List ℕ) → instr_at (109 ∷ bs) ≡ mul_or_map_at (109 ∷ bs)
unfolding instr_at add_at mul_or_map_at rnd_at const_or_copy_at sq_at after
letter_m bs = or_none (mul_or_map_at (109 ∷ bs))

-- an `r` begins a random element
pub letter_r : (bs : List ℕ) → instr_at (114 ∷ bs) ≡ rnd_at (114 ∷ bs)
unfolding instr_at add_at mul_or_map_at rnd_at const_or_copy_at sq_at after
letter_r bs = or_none (rnd_at (114 ∷ bs))

-- a `c` begins a constant or a copy
pub letter_c : (bs : List ℕ) → instr_at (99 ∷ bs) ≡ const_or_copy_at (99 ∷ bs)
unfolding instr_at add_at mul_or_map_at rnd_at const_or_copy_at sq_at after
letter_c bs = or_none (const_or_copy_at (99 ∷ bs))

-- an `s` begins a square
pub letter_s : (bs : List ℕ) → instr_at (115 ∷ bs) ≡ sq_at (115 ∷ bs)
unfolding instr_at add_at mul_or_map_at rnd_at const_or_copy_at after
letter_s bs = refl

-- any other letter begins none
pub letter_other : (b : ℕ) (bs : List ℕ) → b ≢ 97 → b ≢ 109 → b ≢ 114 → b ≢ 99 → b ≢ 115 → instr_at (b ∷ bs) ≡ None
unfolding instr_at add_at mul_or_map_at rnd_at const_or_copy_at sq_at after
letter_other b bs a m r c s =
    rw (ne_eqb 97 b (λ e. a (sym e)), ne_eqb 109 b (λ e. m (sym e)), ne_eqb 114 b (λ e. r (sym e)), ne_eqb 99 b (λ e. c (sym e)), ne_eqb 115 b (λ e. s (sym e))) refl

-- no byte begins an instruction that writes a register
pub into_none : (bytes : List ℕ) → bytes ≡ [] → into_at bytes ≡ None
unfolding into_at add_into mul_or_map_into rnd_into const_or_copy_into sq_into after
into_none bytes none = rw none refl

-- an `a` begins a sum that writes one
pub into_a : (bs : List ℕ) → into_at (97 ∷ bs) ≡ add_into (97 ∷ bs)
unfolding into_at add_into mul_or_map_into rnd_into const_or_copy_into sq_into after
into_a bs = or_none (add_into (97 ∷ bs))

-- an `m` begins a product or a map that writes one
pub into_m : (bs : List ℕ) → into_at (109 ∷ bs) ≡ mul_or_map_into (109 ∷ bs)
unfolding into_at add_into mul_or_map_into rnd_into const_or_copy_into sq_into after
into_m bs = or_none (mul_or_map_into (109 ∷ bs))

-- an `r` begins a random element that is written into one
pub into_r : (bs : List ℕ) → into_at (114 ∷ bs) ≡ rnd_into (114 ∷ bs)
unfolding into_at add_into mul_or_map_into rnd_into const_or_copy_into sq_into after
into_r bs = or_none (rnd_into (114 ∷ bs))

-- a `c` begins a constant or a copy that writes one
pub into_c : (bs : List ℕ) → into_at (99 ∷ bs) ≡ const_or_copy_into (99 ∷ bs)
unfolding into_at add_into mul_or_map_into rnd_into const_or_copy_into sq_into after
into_c bs = or_none (const_or_copy_into (99 ∷ bs))

-- an `s` begins a square that writes one
pub into_s : (bs : List ℕ) → into_at (115 ∷ bs) ≡ sq_into (115 ∷ bs)
unfolding into_at add_into mul_or_map_into rnd_into const_or_copy_into after
into_s bs = refl

-- any other letter begins none
pub into_other : (b : ℕ) (bs : List ℕ) → b ≢ 97 → b ≢ 109 → b ≢ 114 → b ≢ 99 → b ≢ 115 → into_at (b ∷ bs) ≡ None
unfolding into_at add_into mul_or_map_into rnd_into const_or_copy_into sq_into after
into_other b bs a m r c s =
    rw (ne_eqb 97 b (λ e. a (sym e)), ne_eqb 109 b (λ e. m (sym e)), ne_eqb 114 b (λ e. r (sym e)), ne_eqb 99 b (λ e. c (sym e)), ne_eqb 115 b (λ e. s (sym e))) refl
