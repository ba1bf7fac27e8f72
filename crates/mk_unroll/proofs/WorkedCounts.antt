-- The values of small programs, counted by hand.
use Rattle.std.proofs.Common.{◌≡◌, List, [], ◌∷◌, refl}
use Rattle.mk_ssa.specs.declared.Operand.TheVariants.{Secret, Public, Block}
use Rattle.mk_ssa.specs.declared.Op.{Op}
use Rattle.mk_ssa.specs.declared.Op.TheVariants.{Const, PubMul, Lift, AddPub, Scale, Sq, Map}
use Rattle.mk_unroll.specs.ValueCounts.{made, lifts, constants}

-- the values of `y = m(sq(x)) + 0x63;` for a map m and a secret x
affine : List Op
affine = Const 0 ∷ Lift (Block 0) ∷ Sq (Secret 0) ∷ Map 0 (Block 2) ∷ Const 0x63 ∷ AddPub (Block 3) (Block 4) ∷ []

-- three operators, the lift of zero, and two constants
affine_made : made affine ≡ 3
unfolding affine
affine_made = refl

-- the lift of zero is the only one
affine_lifts : lifts affine ≡ 1
unfolding affine
affine_lifts = refl

-- the constants are zero and 63
affine_constants : constants affine ≡ 2
unfolding affine
affine_constants = refl

-- the values of `q = p * 0x02;` `y[1] = q;` `y[0] = q * y[1];` for a public p and q
public : List Op
public = Const 0 ∷ Lift (Block 0) ∷ Const 2 ∷ PubMul (Public 0) (Block 2) ∷ Lift (Block 3) ∷ Scale (Block 4) (Block 3) ∷ []

-- two operators, two lifts, and two constants
public_made : made public ≡ 2
unfolding public
public_made = refl

-- the lifts are those of zero and of the public product
public_lifts : lifts public ≡ 2
unfolding public
public_lifts = refl

-- the constants are zero and 02
public_constants : constants public ≡ 2
unfolding public
public_constants = refl
