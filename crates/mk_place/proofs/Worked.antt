-- Worked values: the product of a secret with itself, a sum that is multiplied by both of its operands, and the S-box of
-- FIPS 197 by the power 254.
use Rattle.std.proofs.Common.{◌≡◌, ℕ, zero, suc, true, false, ◌&&◌, ◌||◌, nat_eq, ◌<◌, List, [], ◌∷◌, slice_index_or, refl, inl, inr, arith}
use Rattle.mk_field.specs.declared.field.FieldId.TheVariants.{Gf2, Gf256}
use Rattle.mk_ssa.specs.declared.Op.{Op}
use Rattle.mk_ssa.specs.declared.Op.TheVariants.{Const, Add, AddPub, Sq, Map, Mul, Refresh}
use Rattle.mk_ssa.specs.declared.Operand.TheVariants.{Secret, Block}
use Rattle.mk_ssa.specs.Kinds.{Strong}
use Rattle.mk_ssa.specs.Values.{Values}
use Rattle.mk_rules.specs.Claimed.{Claimed}
use Rattle.mk_rules.proofs.Noting.{use_of}
use Rattle.mk_rules.specs.Uses.{uses_by, uses_from}
use Rattle.mk_place.specs.Uses.{uses}
use Rattle.mk_place.specs.Layout.{Marks, laid_out, blocks_before, blocks_from}
use Rattle.mk_place.specs.Needs.{needs_by, marks_by, joined}
use Rattle.mk_place.specs.TakenOut.{without_refreshes}
use Rattle.mk_place.specs.Refreshes.{HasOperand, IsUsedOnce, StandsBefore}

-- the product of a secret with itself
abbrev square : Values
square = record { field = Gf2; secrets = 1; publics = 0; maps = []; values = Mul (Secret 0) (Secret 0) ∷ []; outs = Block 0 ∷ [] }

-- it uses the secret twice
pub square-uses : uses square ≡ use_of 0 Strong 0 0 ∷ use_of 0 Strong 1 0 ∷ []
unfolding uses_by uses_from
square-uses = refl

-- the first use needs a refresh, the second doesn't
pub square-marks : (marks_by 1 (uses square) 0 0 ≡ true) × (marks_by 1 (uses square) 0 1 ≡ false)
unfolding uses_by uses_from needs_by marks_by joined
square-marks = (refl, refl)

-- its certificate
abbrev square_cert : Claimed
square_cert = record { blocks = Refresh (Secret 0) ∷ Mul (Block 0) (Secret 0) ∷ []; claims = Block 1 ∷ [] }

-- it is laid out so
pub square-laid : laid_out (marks_by 1 (uses square)) square ≡ square_cert
unfolding uses_by uses_from needs_by marks_by joined blocks_before blocks_from
square-laid = refl

-- without the refresh it is the product again
pub square-without : without_refreshes square_cert ≡ record { blocks = Mul (Secret 0) (Secret 0) ∷ []; claims = Block 0 ∷ [] }
square-without = refl

-- the refresh is operand 0 of the product, and nothing else
square-alone : (b k : ℕ) → HasOperand square_cert.blocks b k 0 → (b ≡ 1) × (k ≡ 0)
square-alone zero zero has = absurd (cc)
square-alone zero (suc k) has = absurd (cc)
square-alone (suc zero) zero has = (refl, refl)
square-alone (suc zero) (suc zero) has = absurd (cc)
square-alone (suc zero) (suc (suc k)) has = absurd (cc)
square-alone (suc (suc b)) k has = absurd has

-- it is not claimed
square-unclaimed : (k : ℕ) → k < 1 → slice_index_or (Block 1 ∷ []) k (Block 0) ≡ Block 0 → ⊥
square-unclaimed zero below is = absurd (cc)
square-unclaimed (suc k) below is = omega (arith, below)

-- its refresh is used once
pub square-once : IsUsedOnce square_cert 0
square-once = record {
  user = 1;
  place = 0;
  op = Mul (Block 0) (Secret 0);
  there = refl;
  shared = refl;
  linear_or_product = inr refl;
  alone = square-alone;
  unclaimed = λ held. square-unclaimed held.0 held.1 held.2;
}

-- it stands directly before the product
pub square-stands : StandsBefore square_cert.blocks 0 1 0
square-stands = inl refl

-- a refresh that is both operands of a product is used twice
pub double-once : IsUsedOnce (record { blocks = Refresh (Secret 0) ∷ Mul (Block 0) (Block 0) ∷ []; claims = Block 1 ∷ [] }) 0 → ⊥
double-once once = omega (arith, once.alone 1 0 refl, once.alone 1 1 refl)

-- a sum that is multiplied by both of its operands
abbrev sums : Values
sums = record {
  field = Gf2;
  secrets = 2;
  publics = 0;
  maps = [];
  values = Add (Secret 0) (Secret 1) ∷ Mul (Block 0) (Secret 0) ∷ Mul (Block 0) (Secret 1) ∷ [];
  outs = Block 1 ∷ Block 2 ∷ [];
}

-- both uses by the sum are refreshed
abbrev sums_cert : Claimed
sums_cert = record {
  blocks = Refresh (Secret 0) ∷ Refresh (Secret 1) ∷ Add (Block 0) (Block 1) ∷ Mul (Block 2) (Secret 0) ∷ Mul (Block 2) (Secret 1) ∷ [];
  claims = Block 3 ∷ Block 4 ∷ [];
}

-- it is laid out so
pub sums-laid : laid_out (marks_by 2 (uses sums)) sums ≡ sums_cert
unfolding uses_by uses_from needs_by marks_by joined blocks_before blocks_from
sums-laid = refl

-- without them it is the sum and the products again
pub sums-without : without_refreshes sums_cert ≡ record { blocks = sums.values; claims = sums.outs }
sums-without = refl

-- that for operand 0 stands before that for operand 1, and this before the sum
pub sums-stand : StandsBefore sums_cert.blocks 0 2 0 × StandsBefore sums_cert.blocks 1 2 1
sums-stand = (inr (refl, refl, tt, refl), inl refl)

-- the other way round they don't
abbrev swapped : List Op
swapped = Refresh (Secret 1) ∷ Refresh (Secret 0) ∷ Add (Block 1) (Block 0) ∷ []

-- with the two exchanged the first doesn't stand before its use
pub swapped-stand : HasOperand swapped 2 1 0 × (StandsBefore swapped 0 2 1 → ⊥)
swapped-stand = (
  refl,
  λ stands. elim stands [
    | inl next ↦ omega (arith, next)
    | inr last ↦ omega (arith, last.0)
  ],
)

-- the S-box of FIPS 197, by four products
abbrev sbox : Values
sbox = record {
  field = Gf256;
  secrets = 1;
  publics = 0;
  maps = record { images = 0x1f ∷ 0x3e ∷ 0x7c ∷ 0xf8 ∷ 0xf1 ∷ 0xe3 ∷ 0xc7 ∷ 0x8f ∷ [] } ∷ [];
  values = Sq (Secret 0) ∷ Mul (Block 0) (Secret 0) ∷ Sq (Block 1) ∷ Sq (Block 2) ∷ Mul (Block 3) (Block 1)
      ∷ Sq (Block 4) ∷ Sq (Block 5) ∷ Sq (Block 6) ∷ Sq (Block 7) ∷ Mul (Block 8) (Block 3) ∷ Mul (Block 9) (Block 0)
      ∷ Map 0 (Block 10) ∷ Const 0x63 ∷ AddPub (Block 11) (Block 12) ∷ [];
  outs = Block 13 ∷ [];
}

-- the uses by the squares of the secret and of its third power are refreshed
abbrev sbox_marks : Marks
sbox_marks i k = (nat_eq i 0 || nat_eq i 2) && nat_eq k 0

-- its certificate has sixteen blocks
pub sbox-laid : laid_out sbox_marks sbox ≡ record {
  blocks = Refresh (Secret 0) ∷ Sq (Block 0) ∷ Mul (Block 1) (Secret 0) ∷ Refresh (Block 2) ∷ Sq (Block 3) ∷ Sq (Block 4) ∷ Mul (Block 5) (Block 2)
      ∷ Sq (Block 6) ∷ Sq (Block 7) ∷ Sq (Block 8) ∷ Sq (Block 9) ∷ Mul (Block 10) (Block 5) ∷ Mul (Block 11) (Block 1)
      ∷ Map 0 (Block 12) ∷ Const 0x63 ∷ AddPub (Block 13) (Block 14) ∷ [];
  claims = Block 15 ∷ [];
}
unfolding blocks_before blocks_from
sbox-laid = refl
