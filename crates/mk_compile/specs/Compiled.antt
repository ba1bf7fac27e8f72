-- What a program is compiled to, and which programs are.
use Rattle.std.specs.Prelude.{ℕ}
use Rattle.mk_ast.specs.declared.tree.Program.{Program}
use Rattle.mk_ssa.specs.Values.{Values}
use Rattle.mk_simplify.specs.Simplified.{IsSimplified}
use Rattle.mk_unroll.specs.Unrolled.{unrolled}
use Rattle.mk_unroll.specs.Causes.{HasFewElements, Ends, IsSmall}
use Rattle.mk_rules.specs.Claimed.{Claimed}
use Rattle.mk_place.specs.Placed.{Placed}

-- the certificate is what the program is unrolled to, simplified, with refreshes at the uses that need one
pub record IsCertified (p : Program) (cert : Claimed) : Type 0 where
  pub values : Values
  pub simplified : IsSimplified (unrolled p) values
  pub placed : Placed values cert

-- the program stays within the limits at this order: it declares few enough elements, its execution comes to
-- its end, and its operations times the square of the number of shares are at most 1,000,000
pub record IsWithin (p : Program) (order : ℕ) : Type 0 where
  pub elements : HasFewElements p
  pub ends : Ends p
  pub small : IsSmall p order
