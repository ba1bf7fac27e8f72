-- How many values of which kind a list of values has: those of operators on elements, the lifts and the
-- constants.
use Rattle.std.specs.Prelude.{ℕ, Bool, true, false, not, ◌||◌, List, count_by}
use Rattle.mk_ssa.specs.declared.Op.{Op}
use Rattle.mk_ssa.specs.declared.Op.TheVariants.{Const, Lift}

-- a lifted value
abbrev pub is_lift : Op → Bool
is_lift (Lift arg) = true
is_lift _ = false

-- a constant
abbrev pub is_constant : Op → Bool
is_constant (Const value) = true
is_constant _ = false

-- a value that is no constant and no lift
abbrev pub is_made : Op → Bool
is_made op = not (is_constant op || is_lift op)

-- how many values are no constant and no lift
abbrev pub made : List Op → ℕ
made values = count_by is_made values

-- how many values are lifts
abbrev pub lifts : List Op → ℕ
lifts values = count_by is_lift values

-- how many values are constants
abbrev pub constants : List Op → ℕ
constants values = count_by is_constant values
