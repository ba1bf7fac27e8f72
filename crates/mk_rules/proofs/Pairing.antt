-- A code of maps of bytes that the rule accepts with a certificate is a pair with it, within the limits.
use Rattle.std.proofs.Common.{ℕ, ◌+◌, ◌<◌, ◌≤◌, List, [], ◌∷◌, ◌++◌, length, slice_get, All, arith}
use Rattle.std.specs.List.{AllByRecursion}
use Rattle.std.proofs.lemmas.List.{length-append}
use Rattle.std.proofs.lemmas.List.Elements.{All-weaker, recursion_from_All}
use Rattle.std.proofs.lemmas.Option.{slice_get_within}
use Rattle.mk_field.specs.declared.field.FieldId.{FieldId}
use Rattle.mk_field.specs.declared.field.FieldId.TheVariants.{Gf2, Gf256}
use Rattle.mk_field.specs.Field.{size}
use Rattle.mk_field.specs.Maps.{MapFits}
use Rattle.mk_field.proofs.Raised.{element-byte}
use Rattle.mk_code.specs.Listing.{Listing, IsListing}
use Rattle.mk_ssa.specs.declared.Operand.{Operand}
use Rattle.mk_ssa.specs.declared.Operand.TheVariants.{Secret, Public, Block}
use Rattle.mk_ssa.specs.declared.Op.{Op}
use Rattle.mk_ssa.specs.declared.Op.TheVariants.{Const, PubAdd, PubMul, PubSq, PubMap, Lift, Add, AddPub, Scale, Sq, Map, Mul, Refresh}
use Rattle.mk_ssa.specs.Widths.{OperandFits, OpFits}
use Rattle.mk_ssa.proofs.Lists.{IsSomeAnd-value}
use Rattle.mk_code.specs.declared.TheConstants.{MOST_INPUTS, MOST_MAPS}
use Rattle.mk_rules.specs.declared.TheConstants.{MOST_BLOCKS, MOST_CLAIMS}
use Rattle.mk_rules.specs.Shape.{Shape, shape_of}
use Rattle.mk_rules.specs.Claimed.{Claimed}
use Rattle.mk_rules.specs.Wired.{IsSharedThere, IsPublicThere, IsWired, AllWired}
use Rattle.mk_rules.specs.Accepts.{IsAccepted}
use Rattle.mk_rules.specs.Pairs.{IsPair}

-- over few inputs and maps
module _ (shape : Shape) (few : (shape.secrets ≤ MOST_INPUTS) × (shape.publics ≤ MOST_INPUTS) × (length shape.maps ≤ MOST_MAPS)) where
  -- a shared value that is there has a number of 32 bits
  shared-fits : (before : List Op) (v : Operand) → length before ≤ MOST_BLOCKS → IsSharedThere shape before v → OperandFits v
  shared-fits before (Secret k) count there = omega (arith, there, few.0)
  shared-fits before (Public k) count there = absurd there
  shared-fits before (Block k) count there =
      let found = IsSomeAnd-value (slice_get before k) _ there in
      omega (arith, slice_get_within before k found.0 found.1, count)

  -- and so has a public one
  public-fits : (before : List Op) (v : Operand) → length before ≤ MOST_BLOCKS → IsPublicThere shape before v → OperandFits v
  public-fits before (Secret k) count there = absurd there
  public-fits before (Public k) count there = omega (arith, there, few.1)
  public-fits before (Block k) count there =
      let found = IsSomeAnd-value (slice_get before k) _ there in
      omega (arith, slice_get_within before k found.0 found.1, count)

  -- a wired operator has numbers of 32 bits
  wired-fits : (before : List Op) (op : Op) → length before ≤ MOST_BLOCKS → IsWired shape before op → OpFits op
  wired-fits before (Const value) count wired = element-byte shape.field value wired
  wired-fits before (PubAdd left right) count wired = (public-fits before left count wired.0, public-fits before right count wired.1)
  wired-fits before (PubMul left right) count wired = (public-fits before left count wired.0, public-fits before right count wired.1)
  wired-fits before (PubSq arg) count wired = public-fits before arg count wired
  wired-fits before (PubMap map arg) count wired = (omega (arith, wired.0, few.2), public-fits before arg count wired.1)
  wired-fits before (Lift arg) count wired = public-fits before arg count wired
  wired-fits before (Add left right) count wired = (shared-fits before left count wired.0, shared-fits before right count wired.1)
  wired-fits before (AddPub left right) count wired = (shared-fits before left count wired.0, public-fits before right count wired.1)
  wired-fits before (Scale left right) count wired = (shared-fits before left count wired.0, public-fits before right count wired.1)
  wired-fits before (Sq arg) count wired = shared-fits before arg count wired
  wired-fits before (Map map arg) count wired = (omega (arith, wired.0, few.2), shared-fits before arg count wired.1)
  wired-fits before (Mul left right) count wired = (shared-fits before left count wired.0, shared-fits before right count wired.1)
  wired-fits before (Refresh arg) count wired = shared-fits before arg count wired

  -- and so do all of them
  all-fit : (before ops : List Op) → length before + length ops ≤ MOST_BLOCKS → AllWired shape before ops → AllByRecursion OpFits ops
  all-fit before [] count wired = tt
  all-fit before (op ∷ ops) count wired = (
    wired-fits before op (omega (arith, count)) wired.0,
    all-fit (before ++ op ∷ []) ops (omega (arith, count, length-append before (op ∷ []))) wired.1,
  )

  -- claims that are there have numbers of 32 bits
  claims-fit : (blocks : List Op) (claims : List Operand) → length blocks ≤ MOST_BLOCKS → All (IsSharedThere shape blocks) claims → AllByRecursion OperandFits claims
  claims-fit blocks claims count there =
      recursion_from_All OperandFits claims (All-weaker (IsSharedThere shape blocks) OperandFits (λ v here. shared-fits blocks v count here) claims there)

-- what the rule accepts is a pair, within the limits
pub accepted-pair : (code : Listing) (cert : Claimed) → IsListing code → AllByRecursion MapFits code.maps → IsAccepted code cert
    → length cert.blocks ≤ MOST_BLOCKS → length cert.claims ≤ MOST_CLAIMS → IsPair code cert
accepted-pair code cert listing maps accepted few_blocks few_claims =
    let few : (code.secrets ≤ MOST_INPUTS) × (code.publics ≤ MOST_INPUTS) × (length code.maps ≤ MOST_MAPS) = (listing.secrets, listing.publics, listing.maps) in
    record {
      listing = listing;
      maps = maps;
      blocks = all-fit (shape_of code) few [] cert.blocks (omega (arith, few_blocks)) accepted.wired;
      claims = claims-fit (shape_of code) few cert.blocks cert.claims few_blocks accepted.outputs.there;
      few_blocks = few_blocks;
      few_claims = few_claims;
    }
