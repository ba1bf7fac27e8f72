-- The words that texts share, and their lines.
use Rattle.std.specs.Prelude.{ℕ, ◌==◌, Bool, true, false, List, [], ◌∷◌, ◌++◌, if◌then◌else◌, codes, decimal}
use Rattle.mk_ssa.specs.declared.Operand.{Operand}
use Rattle.mk_ssa.specs.declared.Operand.TheVariants.{Secret, Public, Block}

-- a line: its words, and a line feed
abbrev pub line : List ℕ → List ℕ
line words = words ++ 10 ∷ []

-- no line feed stands in these bytes
abbrev pub is_line : List ℕ → Bool
is_line [] = true
is_line (b ∷ bs) = if b == 10 then false else is_line bs

-- an operand: a letter for its kind, and its number
abbrev pub operand_word : Operand → List ℕ
operand_word (Secret number) = codes "s" ++ decimal number
operand_word (Public number) = codes "p" ++ decimal number
operand_word (Block number) = codes "b" ++ decimal number
