-- The lines of a certificate: one for each block and one for each claim.
use Rattle.std.specs.Prelude.{ℕ, List, ◌++◌, codes, decimal}
use Rattle.mk_ssa.specs.declared.Operand.{Operand}
use Rattle.mk_ssa.specs.declared.Op.{Op}
use Rattle.mk_ssa.specs.declared.Op.TheVariants.{Const, PubAdd, PubMul, PubSq, PubMap, Lift, Add, AddPub, Scale, Sq, Map, Mul, Refresh}
use Rattle.mk_ssa.specs.Operators.{operator_word}
use Rattle.mk_lines.specs.Words.{line, operand_word}
use Rattle.mk_field.specs.Digits.{hex_byte}

-- the line of a block of this kind with these words behind it
abbrev pub block_line : List ℕ → List ℕ → List ℕ
block_line kind words = line (codes "block " ++ kind ++ codes " " ++ words)

-- two operands
abbrev pub pair_words : Operand → Operand → List ℕ
pair_words left right = operand_word left ++ codes " " ++ operand_word right

-- the number of a map and an operand
abbrev pub mapped_words : ℕ → Operand → List ℕ
mapped_words map arg = decimal map ++ codes " " ++ operand_word arg

-- what stands behind an operator's word: its element, or the number of its map and its operands
abbrev pub argument_words : Op → List ℕ
argument_words (Const value) = hex_byte value
argument_words (PubAdd left right) = pair_words left right
argument_words (PubMul left right) = pair_words left right
argument_words (PubSq arg) = operand_word arg
argument_words (PubMap map arg) = mapped_words map arg
argument_words (Lift arg) = operand_word arg
argument_words (Add left right) = pair_words left right
argument_words (AddPub left right) = pair_words left right
argument_words (Scale left right) = pair_words left right
argument_words (Sq arg) = operand_word arg
argument_words (Map map arg) = mapped_words map arg
argument_words (Mul left right) = pair_words left right
argument_words (Refresh arg) = operand_word arg

-- the line of a block
abbrev pub op_line : Op → List ℕ
op_line op = block_line (operator_word op) (argument_words op)

-- the line of a claim
abbrev pub claim_line : Operand → List ℕ
claim_line value = line (codes "claim " ++ operand_word value)
