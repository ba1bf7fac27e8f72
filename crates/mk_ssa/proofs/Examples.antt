-- What small lists of values stand for, and small operators say.
use Rattle.std.proofs.Common.{◌≡◌, [], ◌∷◌, refl}
use Rattle.mk_field.specs.declared.field.FieldId.TheVariants.{Gf2, Gf256}
use Rattle.mk_field.specs.Field.{sum_bits}
use Rattle.mk_ssa.specs.declared.Operand.TheVariants.{Secret, Public, Block}
use Rattle.mk_ssa.specs.declared.Op.TheVariants.{Const, PubAdd, Lift, Add, AddPub, Scale, Map, Mul}
use Rattle.mk_ssa.specs.Operators.{operands, operator_word, with_operands}
use Rattle.mk_ssa.specs.Values.{Values}
use Rattle.mk_ssa.specs.Denoted.{in_order, denoted}

-- the sum of two secret bits, twice
abbrev pub sum_twice : Values
sum_twice = record { field = Gf2; secrets = 2; publics = 0; maps = []; values = Add (Secret 0) (Secret 1) ∷ Add (Secret 0) (Secret 1) ∷ []; outs = Block 0 ∷ Block 1 ∷ [] }

-- 1 and 0 have the sum 1
pub sum_twice-1-0 : denoted sum_twice [] (1 ∷ 0 ∷ []) ≡ 1 ∷ 1 ∷ []
unfolding in_order
sum_twice-1-0 = refl

-- bytes: the product of two secrets, a secret times a public constant, and an image under a map that doubles
abbrev pub of_bytes : Values
of_bytes = record {
  field = Gf256;
  secrets = 2;
  publics = 1;
  maps = record { images = 0x02 ∷ 0x04 ∷ 0x08 ∷ 0x10 ∷ 0x20 ∷ 0x40 ∷ 0x80 ∷ 0x1b ∷ [] } ∷ [];
  values = Mul (Secret 0) (Secret 1) ∷ Const 0x13 ∷ Scale (Secret 0) (Block 1) ∷ Map 0 (Secret 0) ∷ PubAdd (Public 0) (Block 1) ∷ Lift (Block 4) ∷ [];
  outs = Block 0 ∷ Block 2 ∷ Block 3 ∷ Block 5 ∷ Secret 1 ∷ [];
}

-- {57} times {83} is {c1}, {57} times {13} is {fe}, and {57} doubled is {ae}: the examples of FIPS 197 section 4.2
pub of_bytes-57-83 : denoted of_bytes (0x13 ∷ []) (0x57 ∷ 0x83 ∷ []) ≡ 0xc1 ∷ 0xfe ∷ 0xae ∷ 0x00 ∷ 0x83 ∷ []
unfolding in_order sum_bits
of_bytes-57-83 = refl

-- a public multiple whose operands are both replaced by the secret 7
pub scaled-with : with_operands (λ v. Secret 7) (Scale (Secret 0) (Block 1)) ≡ Scale (Secret 7) (Secret 7)
scaled-with = refl

-- the operands of a sum of a shared value and a public one, the shared one first
pub sum-operands : operands (AddPub (Secret 0) (Public 1)) ≡ Secret 0 ∷ Public 1 ∷ []
sum-operands = refl

-- the sum of a shared value and a public one has the word "addp"
pub sum-word : operator_word (AddPub (Secret 0) (Public 1)) ≡ 0x61 ∷ 0x64 ∷ 0x64 ∷ 0x70 ∷ []
sum-word = refl
