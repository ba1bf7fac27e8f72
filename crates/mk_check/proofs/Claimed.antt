-- When a claim is that of its output.
use Rattle.std.proofs.Common.{◌≡◌, ℕ, ◌+◌, ◌*◌, ◌<◌, ◌≤◌, List, [], length, slice_get, slice_index_or, Option, None, IsSomeAnd, inl, inr, sym, subst, arith}
use Rattle.std.proofs.lemmas.Bool.{cases_lt}
use Rattle.std.proofs.Math.Nat.{mul-le-mul_right}
use Rattle.mk_code.specs.Listing.{Listing, IsListing}
use Rattle.mk_ssa.specs.declared.Op.{Op}
use Rattle.mk_ssa.specs.declared.Operand.{Operand}
use Rattle.mk_rules.specs.Shape.{shape_of}
use Rattle.mk_rules.specs.Tiles.{value_number}
use Rattle.mk_rules.specs.Wired.{IsSharedThere}
use Rattle.mk_rules.specs.Faults.{output_positions, IsClaimed}

-- an output that is there is whole
pub output-whole : (code : Listing) (k n len : ℕ) → IsListing code → n ≡ code.order + 1 → len ≡ length code.outs → k * (code.order + 1) < length code.outs
    → k * n + n ≤ len
output-whole code k n len fits shares same there =
    let outputs : ℕ = fits.outputs.0 in
    let count : length code.outs ≡ outputs * (code.order + 1) = fits.outputs.2 in
    let whole : k * (code.order + 1) + (code.order + 1) ≤ length code.outs = elim (cases_lt k outputs) [
      | inl below ↦ omega (arith, count, mul-le-mul_right (code.order + 1) below)
      | inr behind ↦ absurd (omega (arith, count, there, mul-le-mul_right (code.order + 1) behind))
    ] in
    subst (λ (m : ℕ). k * m + m ≤ len) (sym shares) (omega (arith, same, whole))

module _ (code : Listing) (banks : List (List ℕ)) (blocks : List Op) (claims : List Operand) (k : ℕ) where
  -- the claim is of a value that is there, whose bank is the output
  abbrev IsOutput : Operand → Type 0
  IsOutput v = IsSharedThere (shape_of code) blocks v × (slice_index_or banks (value_number (shape_of code) v) [] ≡ output_positions code k)

  -- without a claim there is none
  pub IsClaimed-none : slice_get claims k ≡ None → IsClaimed code banks blocks claims k → ⊥
  IsClaimed-none none claimed = subst (λ (o : Option Operand). IsSomeAnd o IsOutput) none claimed.claim
