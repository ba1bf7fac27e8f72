-- The lines of a report, computed: the product of a secret and the same secret, refreshed, at order 1.
use Rattle.std.proofs.Common.{◌≡◌, [], ◌∷◌, codes, refl}
use Rattle.std.specs.Fmt.{digits}
use Rattle.mk_code.specs.Trace.{randoms}
use Rattle.mk_ssa.specs.declared.Op.{Op}
use Rattle.mk_ssa.specs.declared.Op.TheVariants.{Mul, Refresh}
use Rattle.mk_ssa.specs.declared.Operand.TheVariants.{Secret, Block}
use Rattle.mk_gadget.specs.Pairs.{pairs_upto, others}
use Rattle.mk_gadget.specs.Refresh.{refresh_sum}
use Rattle.mk_report.specs.Report.{secret_line, block_line, total_line}
use Rattle.mk_report.specs.Rows.{places_in}
use Rattle.mk_report.proofs.Stepping.{place_of}

-- a refresh of the secret
abbrev refresh : Op
refresh = Refresh (Secret 0)

-- the product of the refreshed secret and the secret
abbrev product : Op
product = Mul (Block 0) (Secret 0)

-- the secret reaches the second place of the product
pub secret : secret_line 0 (place_of 1 1 ∷ []) ≡ codes "s0 input 0 0 1 b1.1\n"
unfolding digits
secret = refl

-- the refreshed value reaches the first
pub first : block_line 1 0 refresh (place_of 1 0 ∷ []) ≡ codes "b0 refresh 3 1 1 b1.0\n"
unfolding digits randoms pairs_upto refresh_sum
first = refl

-- the product reaches none
pub second : block_line 1 1 product [] ≡ codes "b1 mul 9 1 0 -\n"
unfolding digits randoms pairs_upto others
second = refl

-- the line of what the two cost together, in code that is seven wide
pub total : total_line 1 (refresh ∷ product ∷ []) 7 ≡ codes "total 2 12 2 7\n"
unfolding digits randoms pairs_upto others refresh_sum
total = refl

-- where blocks 2 and 5 are the products, bits 1 and 2 are for the second place of the one and the first of the other
pub places : places_in (2 ∷ 5 ∷ []) (6 ∷ []) ≡ place_of 2 1 ∷ place_of 5 0 ∷ []
places = refl
