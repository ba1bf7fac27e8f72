-- Two small codes, and register code for each.
use Rattle.std.specs.Prelude.{◌≡◌, [], ◌∷◌, Some, refl}
use Rattle.mk_field.specs.declared.field.FieldId.TheVariants.{Gf2, Gf256}
use Rattle.mk_code.specs.declared.instr.Instr.TheVariants as op
use Rattle.mk_code.specs.Listing.{Listing}
use Rattle.mk_code.specs.Counting.{sum_below}
use Rattle.mk_regs.specs.declared.instr.RegInstr.TheVariants.{Rnd, Add, Mul}
use Rattle.mk_regs.specs.declared.refusal.RegRefusal.TheVariants.{Unset, Register}
use Rattle.mk_regs.specs.Form.{RegListing}
use Rattle.mk_regs.specs.Renaming.{held_behind, renamed_instrs, outs_refusal, first_refusal, refusal_of, IsRenamed}
use Rattle.mk_regs.specs.Trace.{register_run, register_trace}
use Rattle.mk_regs.specs.Width.{is_read, most_live, width}
use Rattle.mk_regs.specs.Transitions.{writes_from, shown_by_writes}

-- the sum of two bytes at order 1, share by share
abbrev pub sum_code : Listing
sum_code = record {
  field = Gf256;
  order = 1;
  secrets = 2;
  publics = 0;
  maps = [];
  instrs = op.Add 0 2 ∷ op.Add 1 3 ∷ [];
  outs = 4 ∷ 5 ∷ [];
}

-- over four registers
abbrev pub sum_registers : RegListing
sum_registers = record {
  field = Gf256;
  order = 1;
  secrets = 2;
  publics = 0;
  registers = 4;
  maps = [];
  instrs = Add 0 0 2 ∷ Add 1 1 3 ∷ [];
  outs = 0 ∷ 1 ∷ [];
}

-- the register code stands for the code
pub sum-renamed : IsRenamed sum_registers sum_code
unfolding held_behind renamed_instrs outs_refusal first_refusal
sum-renamed = record { runs = refl; same = refl }

-- no more entries are wanted at once than there are inputs
pub sum-width : width sum_code ≡ 4
unfolding is_read most_live sum_below
sum-width = refl

-- shares of 57 and of 83 give shares of d4
pub sum-trace : register_trace sum_registers [] (0x02 ∷ 0x55 ∷ 0xd6 ∷ 0x55 ∷ []) [] ≡ 0x02 ∷ 0x55 ∷ 0xd6 ∷ 0x55 ∷ 0xd4 ∷ 0x00 ∷ []
unfolding register_run
sum-trace = refl

-- the first write shows share 0 of the first byte and that of the sum, the second share 1 of both
pub sum-writes : shown_by_writes sum_registers ≡ (0 ∷ 4 ∷ []) ∷ (1 ∷ 5 ∷ []) ∷ []
unfolding writes_from
sum-writes = refl

-- register 4, of five, holds nothing on entry
pub sum-unset : refusal_of (record sum_registers { registers = 5; instrs = Add 0 0 4 ∷ Add 1 1 3 ∷ [] }) ≡ Some (Unset 0)
unfolding first_refusal outs_refusal
sum-unset = refl

-- register 9 isn't there, and is named behind two instructions
pub sum-out : refusal_of (record sum_registers { outs = 0 ∷ 9 ∷ [] }) ≡ Some (Register 2)
unfolding first_refusal outs_refusal held_behind
sum-out = refl

-- a register that isn't there comes before one that holds nothing
pub sum-both : refusal_of (record sum_registers { registers = 5; instrs = Add 5 0 4 ∷ Add 1 1 3 ∷ [] }) ≡ Some (Register 0)
unfolding first_refusal outs_refusal
sum-both = refl

-- a bit at order 1 in other shares, and then the product of both
abbrev pub square_code : Listing
square_code = record {
  field = Gf2;
  order = 1;
  secrets = 1;
  publics = 0;
  maps = [];
  instrs = op.Rnd ∷ op.Add 0 2 ∷ op.Add 1 2 ∷ op.Rnd ∷ op.Mul 3 1 ∷ op.Add 5 6 ∷ op.Mul 4 0 ∷ op.Add 7 8
      ∷ op.Mul 3 0 ∷ op.Add 10 5 ∷ op.Mul 4 1 ∷ op.Add 12 9 ∷ [];
  outs = 11 ∷ 13 ∷ [];
}

-- over seven registers
abbrev pub square_registers : RegListing
square_registers = record {
  field = Gf2;
  order = 1;
  secrets = 1;
  publics = 0;
  registers = 7;
  maps = [];
  instrs = Rnd 2 ∷ Add 3 0 2 ∷ Add 2 1 2 ∷ Rnd 4 ∷ Mul 5 3 1 ∷ Add 5 4 5 ∷ Mul 6 2 0 ∷ Add 5 5 6
      ∷ Mul 0 3 0 ∷ Add 0 0 4 ∷ Mul 1 2 1 ∷ Add 1 1 5 ∷ [];
  outs = 0 ∷ 1 ∷ [];
}

-- the register code stands for the code
pub square-renamed : IsRenamed square_registers square_code
unfolding held_behind renamed_instrs outs_refusal first_refusal
square-renamed = record { runs = refl; same = refl }

-- seven entries are wanted at once behind the seventh instruction
pub square-width : width square_code ≡ 7
unfolding is_read most_live sum_below
square-width = refl
