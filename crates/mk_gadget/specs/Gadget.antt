-- A gadget standing alone, and how it is placed in a code.
use Rattle.std.specs.Prelude.{ℕ, ◌+◌, ◌-◌, List, map, length, nat_lt, if◌then◌else◌, slice_index}
use Rattle.mk_code.specs.declared.instr.Instr.{Instr}
use Rattle.mk_code.specs.declared.instr.Instr.TheVariants.{Rnd, Const, Copy, Add, Mul, Sq, Map}

-- instructions over positions of their own: first the shares of the shared operands, operand by operand,
-- then the public operands, then one position for each instruction; and the positions of the out bank
pub record Gadget : Type 0 where
  pub instrs : List Instr
  pub outs : List ℕ

-- where a position of a gadget stands in a code: those of its operands at `reads`, its own from `base` on
abbrev pub placement : List ℕ → ℕ → ℕ → ℕ
placement reads base position =
    if nat_lt position (length reads) then slice_index reads position else base + (position - length reads)

-- an instruction with its positions moved
abbrev pub moved : (ℕ → ℕ) → Instr → Instr
moved to Rnd = Rnd
moved to (Const value) = Const value
moved to (Copy from) = Copy (to from)
moved to (Add left right) = Add (to left) (to right)
moved to (Mul left right) = Mul (to left) (to right)
moved to (Sq from) = Sq (to from)
moved to (Map map from) = Map map (to from)

-- the instructions of a gadget, placed in a code
abbrev pub placed : List ℕ → ℕ → Gadget → List Instr
placed reads base gadget = map (moved (placement reads base)) gadget.instrs

-- its out bank there
abbrev pub placed_outs : List ℕ → ℕ → Gadget → List ℕ
placed_outs reads base gadget = map (placement reads base) gadget.outs
