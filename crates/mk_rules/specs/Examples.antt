-- Small certificates, and a code.
use Rattle.std.specs.Prelude.{List, [], ◌∷◌}
use Rattle.mk_field.specs.declared.field.FieldId.TheVariants.{Gf2}
use Rattle.mk_code.specs.declared.instr.Instr.TheVariants as instr
use Rattle.mk_code.specs.Listing.{Listing}
use Rattle.mk_ssa.specs.declared.Operand.TheVariants.{Secret, Block}
use Rattle.mk_ssa.specs.declared.Op.{Op}
use Rattle.mk_ssa.specs.declared.Op.TheVariants.{Add, Sq, Mul, Refresh}
use Rattle.mk_rules.specs.Claimed.{Claimed}

-- the sum of two secrets
abbrev pub sum_cert : Claimed
sum_cert = record { blocks = Add (Secret 0) (Secret 1) ∷ []; claims = Block 0 ∷ [] }

-- the product of a secret with itself
abbrev pub plain_square : List Op
plain_square = Mul (Secret 0) (Secret 0) ∷ []

-- the product of a secret with itself, one of the two shared afresh
abbrev pub fresh_square : List Op
fresh_square = Refresh (Secret 0) ∷ Mul (Block 0) (Secret 0) ∷ []

-- secret 0 times a sum that has its square as a part
abbrev pub chain : List Op
chain = Sq (Secret 0) ∷ Add (Block 0) (Secret 1) ∷ Mul (Secret 0) (Block 1) ∷ []

-- the same, the sum shared afresh
abbrev pub fresh_chain : List Op
fresh_chain = Sq (Secret 0) ∷ Add (Block 0) (Secret 1) ∷ Refresh (Block 1) ∷ Mul (Secret 0) (Block 2) ∷ []

-- the sum of two secret bits times a third, at order 1: the two sums of shares, and then the product of
-- Ishai, Sahai and Wagner (CRYPTO 2003)
abbrev pub sum_times : Listing
sum_times = record {
  field = Gf2;
  order = 1;
  secrets = 3;
  publics = 0;
  maps = [];
  instrs = instr.Add 0 2 ∷ instr.Add 1 3
      ∷ instr.Rnd ∷ instr.Mul 6 5 ∷ instr.Add 8 9 ∷ instr.Mul 7 4 ∷ instr.Add 10 11
      ∷ instr.Mul 6 4 ∷ instr.Add 13 8 ∷ instr.Mul 7 5 ∷ instr.Add 15 12 ∷ [];
  outs = 14 ∷ 16 ∷ [];
}

-- its certificate
abbrev pub sum_times_cert : Claimed
sum_times_cert = record { blocks = Add (Secret 0) (Secret 1) ∷ Mul (Block 0) (Secret 2) ∷ []; claims = Block 1 ∷ [] }
