-- What two checkers were given, computed: the sum of two bytes, and the same with a product for its second instruction.
use Rattle.std.proofs.Common.{◌<◌, ℕ, zero, suc, [], ◌∷◌, Some, None, refl, arith}
use Rattle.mk_code.specs.declared.instr.Instr.TheVariants as instr
use Rattle.mk_code.specs.Examples.{byte_sum}
use Rattle.mk_rules.specs.Shape.{shape_of}
use Rattle.mk_rules.specs.Tiles.{laid, laid_banks, banks_of}
use Rattle.mk_rules.specs.Faults.{IsClaimed}
use Rattle.mk_rules.specs.Examples.{sum_cert}
use Rattle.mk_check.specs.Gadgets.{Gadgets, built_in_gadgets}
use Rattle.mk_check.specs.Given.{Checking, Given}
use Rattle.mk_check.specs.Outlines.{code_over}
use Rattle.mk_check.specs.declared.outline.Outline.{Outline}

-- what the sum is over
abbrev pub sum_outline : Outline
sum_outline = record { field = byte_sum.field; order = 1; secrets = 2; publics = 0; maps = 0 }

-- a checker that found nothing wrong
abbrev pub satisfied : Checking
satisfied = record { outline = sum_outline; cert = sum_cert; instrs = 2; off = None; outs = 1; wrong = None }

-- a checker that found the second instruction wrong
abbrev pub displeased : Checking
displeased = record { outline = sum_outline; cert = sum_cert; instrs = 2; off = Some 1; outs = 0; wrong = None }

-- the out of the sum is that of its claim
sum-claimed : (j : ℕ) → j < 1
    → (let gadgets : Gadgets = built_in_gadgets 2 in
    IsClaimed (code_over sum_outline byte_sum.instrs byte_sum.outs) (banks_of (shape_of (code_over sum_outline byte_sum.instrs byte_sum.outs)) gadgets.product gadgets.refresh sum_cert.blocks) sum_cert.blocks sum_cert.claims j)
unfolding laid_banks
sum-claimed zero below = record { output = omega arith; claim = (refl, refl) }
sum-claimed (suc j) below = absurd (omega (arith, below))

-- it was given the two instructions and the out of the sum
pub sum-given : Given satisfied byte_sum.instrs byte_sum.outs
unfolding laid
sum-given = record { count = refl; outputs = refl; off = λ wired. refl; wrong = λ wired. sum-claimed }

-- it was given a product behind the first instruction of the sum
pub product-given : Given displeased (instr.Add 0 2 ∷ instr.Mul 1 3 ∷ []) []
unfolding laid
product-given = record { count = refl; outputs = refl; off = λ wired. (omega arith, record { before = refl; differ = λ e. absurd cc }); wrong = λ wired j below. absurd (omega (arith, below)) }
