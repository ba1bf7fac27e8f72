-- How many words of the tape a step took.
use Rattle.std.specs.Prelude.{ℕ}
use Rattle.mk_code.specs.declared.machine.Used.{Used}
use Rattle.mk_code.specs.declared.machine.Used.TheVariants.{Word, Nothing}

-- one or none
abbrev pub words : Used → ℕ
words Word = 1
words Nothing = 0
