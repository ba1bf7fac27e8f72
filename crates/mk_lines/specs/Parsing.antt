-- Reading the words of a line from its front on, as lists.
use Rattle.std.specs.Prelude.{◌≡◌, ℕ, zero, suc, ◌+◌, ◌*◌, ◌^◌, ◌==◌, Bool, true, false, ◌&&◌, not, List, [], ◌∷◌, length, drop, take_while, Option, Some, None, Result, Ok, Err, nat_lt, bytes_eq, codes, if◌then◌else◌}
use Rattle.std.specs.Char.{is_ascii_digit, is_ascii_uppercase}
use Rattle.mk_base.specs.Digits.{valued, hex_value}
use Rattle.mk_field.specs.declared.field.FieldId.{FieldId}
use Rattle.mk_field.specs.declared.field.FieldId.TheVariants.{Gf2, Gf256}
use Rattle.mk_field.specs.declared.map.AddMap.{AddMap}
use Rattle.mk_ssa.specs.declared.Operand.{Operand}
use Rattle.mk_ssa.specs.declared.Operand.TheVariants.{Secret, Public, Block}
use Rattle.mk_ssa.specs.declared.Op.{Op}
use Rattle.mk_ssa.specs.declared.Op.TheVariants as op
use Rattle.mk_code.specs.declared.instr.Instr.{Instr}
use Rattle.mk_code.specs.declared.instr.Instr.TheVariants as instr
use Rattle.mk_lines.specs.declared.refusal.LineRefusal.{LineRefusal}
use Rattle.mk_lines.specs.declared.refusal.LineRefusal.TheVariants as refusals

-- what was read is read on, and what was not read is not
infixl 10 ◌>>=◌
abbrev pub ◌>>=◌ : {A B : Type 0} → Option A → (A → Option B) → Option B
(Some x) >>= f = f x
None >>= f = None

-- what a function returned, seen by view, is what reading gives
abbrev pub Tells : {X Y : Type 0} → (X → Y) → Option X → Option Y → Type 0
Tells view (Some x) read = read ≡ Some (view x)
Tells view None read = read ≡ None

-- what a function that reads and takes memory returned is what reading gives, unless memory ran out
abbrev pub Gives : {X : Type 0} → Result X LineRefusal → Option X → Type 0
Gives (Ok x) read = read ≡ Some x
Gives (Err refusals.Form) read = read ≡ None
Gives (Err refusals.Memory) read = Unit {0}

-- the bytes behind this word, which stands at the front
unfoldable pub after : List ℕ → List ℕ → Option (List ℕ)
after [] bytes = Some bytes
after (w ∷ ws) [] = None
after (w ∷ ws) (b ∷ bs) = if w == b then after ws bs else None

-- what was read, where nothing stands behind it
unfoldable pub whole : {A : Type 0} → A × List ℕ → Option A
whole read = if nat_lt (length read.1) 1 then Some read.0 else None

-- no leading zero
unfoldable pub leads : List ℕ → Bool
leads [] = false
leads (d ∷ []) = true
leads (d ∷ e ∷ ds) = not (d == 48)

-- the number of these digits, where it is below 2^32 and has no leading zero
unfoldable pub number_by : List ℕ → Option ℕ
number_by digits = if leads digits && nat_lt (valued 0 digits) (2 ^ 32) then Some (valued 0 digits) else None

-- the number at the front, which all digits there belong to
unfoldable pub number_at : List ℕ → Option (ℕ × List ℕ)
number_at bytes = do
  n ← number_by (take_while is_ascii_digit bytes)
  Some (n, drop (length (take_while is_ascii_digit bytes)) bytes)

-- a number, where it is below 2^32, and what stands behind it
abbrev pub narrowed : ℕ → List ℕ → Option (ℕ × List ℕ)
narrowed n rest = if nat_lt n (2 ^ 32) then Some (n, rest) else None

-- the number that the digits at the front make behind those that make n, where it is below 2^32, and what stands behind them
unfoldable pub digits_from : ℕ → List ℕ → Option (ℕ × List ℕ)
digits_from n bytes = narrowed (valued n (take_while is_ascii_digit bytes)) (drop (length (take_while is_ascii_digit bytes)) bytes)

-- a number and nothing behind it
unfoldable pub number_of : List ℕ → Option ℕ
number_of bytes = do
  n ← number_at bytes
  whole n

-- the value of a lower-case hexadecimal digit
unfoldable pub lower_hex_value : ℕ → Option ℕ
lower_hex_value c = if is_ascii_uppercase c then None else hex_value c

-- an element at the front, as two digits
unfoldable pub hex_at : List ℕ → Option (ℕ × List ℕ)
hex_at [] = None
hex_at (c ∷ []) = None
hex_at (c ∷ d ∷ bs) = do
  high ← lower_hex_value c
  low ← lower_hex_value d
  Some (high * 16 + low, bs)

-- an element and nothing behind it
unfoldable pub hex_of : List ℕ → Option ℕ
hex_of bytes = do
  value ← hex_at bytes
  whole value

-- so many elements at the front
unfoldable pub images_at : ℕ → List ℕ → Option (List ℕ × List ℕ)
images_at zero bytes = Some ([], bytes)
images_at (suc n) bytes = do
  first ← hex_at bytes
  others ← images_at n first.1
  Some (first.0 ∷ others.0, others.1)

-- a map
unfoldable pub map_of : List ℕ → Option AddMap
map_of bytes = do
  images ← images_at 8 bytes
  images ← whole images
  Some (record { images = images })

-- the operand of the kind of this letter, before which the number stands
unfoldable pub operand_by : ℕ → ℕ → Option Operand
operand_by kind number =
    if kind == 115 then Some (Secret number) else (
    if kind == 112 then Some (Public number) else (
    if kind == 98 then Some (Block number) else None))

-- an operand at the front: the letter of its kind and its number
unfoldable pub operand_at : List ℕ → Option (Operand × List ℕ)
operand_at [] = None
operand_at (kind ∷ bs) = do
  number ← number_at bs
  operand ← operand_by kind number.0
  Some (operand, number.1)

-- an operand and nothing behind it
unfoldable pub operand_of : List ℕ → Option Operand
operand_of bytes = do
  operand ← operand_at bytes
  whole operand

-- two operands
unfoldable pub pair_of : List ℕ → Option (Operand × Operand)
pair_of bytes = do
  left ← operand_at bytes
  rest ← after (codes " ") left.1
  right ← operand_of rest
  Some (left.0, right)

-- the number of a map and an operand
unfoldable pub mapped_of : List ℕ → Option (ℕ × Operand)
mapped_of bytes = do
  map ← number_at bytes
  rest ← after (codes " ") map.1
  arg ← operand_of rest
  Some (map.0, arg)

-- two numbers at the front, a space between them
unfoldable pub numbers_at : List ℕ → Option ((ℕ × ℕ) × List ℕ)
numbers_at bytes = do
  left ← number_at bytes
  rest ← after (codes " ") left.1
  right ← number_at rest
  Some ((left.0, right.0), right.1)

-- what stands behind a word is read by f, and where the word does not stand there, it is otherwise
abbrev pub behind : {A : Type 0} → Option (List ℕ) → (List ℕ → Option A) → Option A → Option A
behind (Some rest) f otherwise = f rest
behind None f otherwise = otherwise

-- a public block
unfoldable pub public_op_of : List ℕ → Option Op
public_op_of words =
    behind (after (codes "const ") words) (λ rest. hex_of rest >>= λ value. Some (op.Const value)) (
    behind (after (codes "padd ") words) (λ rest. pair_of rest >>= λ p. Some (op.PubAdd p.0 p.1)) (
    behind (after (codes "pmul ") words) (λ rest. pair_of rest >>= λ p. Some (op.PubMul p.0 p.1)) (
    behind (after (codes "psq ") words) (λ rest. operand_of rest >>= λ arg. Some (op.PubSq arg)) (
    behind (after (codes "pmap ") words) (λ rest. mapped_of rest >>= λ m. Some (op.PubMap m.0 m.1)) None))))

-- a shared block of one operand
unfoldable pub single_op_of : List ℕ → Option Op
single_op_of words =
    behind (after (codes "lift ") words) (λ rest. operand_of rest >>= λ arg. Some (op.Lift arg)) (
    behind (after (codes "sq ") words) (λ rest. operand_of rest >>= λ arg. Some (op.Sq arg)) (
    behind (after (codes "map ") words) (λ rest. mapped_of rest >>= λ m. Some (op.Map m.0 m.1)) (
    behind (after (codes "refresh ") words) (λ rest. operand_of rest >>= λ arg. Some (op.Refresh arg)) None)))

-- a shared block of two operands
unfoldable pub pair_op_of : List ℕ → Option Op
pair_op_of words =
    behind (after (codes "add ") words) (λ rest. pair_of rest >>= λ p. Some (op.Add p.0 p.1)) (
    behind (after (codes "addp ") words) (λ rest. pair_of rest >>= λ p. Some (op.AddPub p.0 p.1)) (
    behind (after (codes "scale ") words) (λ rest. pair_of rest >>= λ p. Some (op.Scale p.0 p.1)) (
    behind (after (codes "mul ") words) (λ rest. pair_of rest >>= λ p. Some (op.Mul p.0 p.1)) None)))

-- this, and where there is none the other
abbrev pub or_else : {A : Type 0} → Option A → Option A → Option A
or_else (Some x) other = Some x
or_else None other = other

-- a block: what stands in its line behind `block `
unfoldable pub op_of : List ℕ → Option Op
op_of words = or_else (public_op_of words) (or_else (single_op_of words) (pair_op_of words))

-- a random element at the front
unfoldable pub rnd_at : List ℕ → Option (Instr × List ℕ)
rnd_at bytes = behind (after (codes "rnd") bytes) (λ rest. Some (instr.Rnd, rest)) None

-- a constant or a copy at the front
unfoldable pub const_or_copy_at : List ℕ → Option (Instr × List ℕ)
const_or_copy_at bytes =
    behind (after (codes "const ") bytes) (λ rest. hex_at rest >>= λ v. Some (instr.Const v.0, v.1)) (
    behind (after (codes "copy ") bytes) (λ rest. number_at rest >>= λ n. Some (instr.Copy n.0, n.1)) None)

-- a sum at the front
unfoldable pub add_at : List ℕ → Option (Instr × List ℕ)
add_at bytes = behind (after (codes "add ") bytes) (λ rest. numbers_at rest >>= λ p. Some (instr.Add p.0.0 p.0.1, p.1)) None

-- a product or a map at the front
unfoldable pub mul_or_map_at : List ℕ → Option (Instr × List ℕ)
mul_or_map_at bytes =
    behind (after (codes "mul ") bytes) (λ rest. numbers_at rest >>= λ p. Some (instr.Mul p.0.0 p.0.1, p.1)) (
    behind (after (codes "map ") bytes) (λ rest. numbers_at rest >>= λ p. Some (instr.Map p.0.0 p.0.1, p.1)) None)

-- a square at the front
unfoldable pub sq_at : List ℕ → Option (Instr × List ℕ)
sq_at bytes = behind (after (codes "sq ") bytes) (λ rest. number_at rest >>= λ n. Some (instr.Sq n.0, n.1)) None

-- an instruction at the front, which all digits there belong to
unfoldable pub instr_at : List ℕ → Option (Instr × List ℕ)
instr_at bytes = or_else (add_at bytes) (or_else (mul_or_map_at bytes) (or_else (rnd_at bytes) (or_else (const_or_copy_at bytes) (sq_at bytes))))

-- an instruction: its line
unfoldable pub instr_of : List ℕ → Option Instr
instr_of words = do
  i ← instr_at words
  whole i

-- the register that an instruction writes, and what stands behind it and a space
unfoldable pub target_at : List ℕ → Option (ℕ × List ℕ)
target_at bytes = do
  to ← number_at bytes
  rest ← after (codes " ") to.1
  Some (to.0, rest)

-- the register that an instruction writes, and the instruction, which is read at the front of what stands behind it
unfoldable pub into_by : (List ℕ → Option (Instr × List ℕ)) → List ℕ → Option ((ℕ × Instr) × List ℕ)
into_by f bytes = do
  target ← target_at bytes
  i ← f target.1
  Some ((target.0, i.0), i.1)

-- a sum that writes a register, at the front
unfoldable pub add_into : List ℕ → Option ((ℕ × Instr) × List ℕ)
add_into bytes = behind (after (codes "add ") bytes) (into_by (λ rest. numbers_at rest >>= λ p. Some (instr.Add p.0.0 p.0.1, p.1))) None

-- a product or a map that writes a register, at the front
unfoldable pub mul_or_map_into : List ℕ → Option ((ℕ × Instr) × List ℕ)
mul_or_map_into bytes =
    behind (after (codes "mul ") bytes) (into_by (λ rest. numbers_at rest >>= λ p. Some (instr.Mul p.0.0 p.0.1, p.1))) (
    behind (after (codes "map ") bytes) (into_by (λ rest. numbers_at rest >>= λ p. Some (instr.Map p.0.0 p.0.1, p.1))) None)

-- a random element that is written into a register, at the front
unfoldable pub rnd_into : List ℕ → Option ((ℕ × Instr) × List ℕ)
rnd_into bytes = behind (after (codes "rnd ") bytes) (λ rest. number_at rest >>= λ to. Some ((to.0, instr.Rnd), to.1)) None

-- a constant or a copy that writes a register, at the front
unfoldable pub const_or_copy_into : List ℕ → Option ((ℕ × Instr) × List ℕ)
const_or_copy_into bytes =
    behind (after (codes "const ") bytes) (into_by (λ rest. hex_at rest >>= λ v. Some (instr.Const v.0, v.1))) (
    behind (after (codes "copy ") bytes) (into_by (λ rest. number_at rest >>= λ n. Some (instr.Copy n.0, n.1))) None)

-- a square that writes a register, at the front
unfoldable pub sq_into : List ℕ → Option ((ℕ × Instr) × List ℕ)
sq_into bytes = behind (after (codes "sq ") bytes) (into_by (λ rest. number_at rest >>= λ n. Some (instr.Sq n.0, n.1))) None

-- an instruction that writes a register, at the front, which all digits there belong to
unfoldable pub into_at : List ℕ → Option ((ℕ × Instr) × List ℕ)
into_at bytes = or_else (add_into bytes) (or_else (mul_or_map_into bytes) (or_else (rnd_into bytes) (or_else (const_or_copy_into bytes) (sq_into bytes))))

-- an instruction that writes a register: its line
unfoldable pub into_of : List ℕ → Option (ℕ × Instr)
into_of words = do
  i ← into_at words
  whole i

-- so many positions below `len`, a space before each, and nothing behind them
unfoldable pub positions_of : ℕ → ℕ → List ℕ → Option (List ℕ)
positions_of zero len bytes = whole ([], bytes)
positions_of (suc n) len bytes = do
  rest ← after (codes " ") bytes
  position ← number_at rest
  if nat_lt position.0 len then (positions_of n len position.1 >>= λ positions. Some (position.0 ∷ positions)) else None

-- the field that its line names
unfoldable pub field_of : List ℕ → Option FieldId
field_of line =
    if bytes_eq line (codes "field gf2") then Some Gf2 else (
    if bytes_eq line (codes "field gf256") then Some Gf256 else None)
