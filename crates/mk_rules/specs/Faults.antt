-- Where a certificate first departs from a code.
use Rattle.std.specs.Prelude.{◌≡◌, ◌≢◌, ℕ, ◌+◌, ◌*◌, ◌<◌, List, [], ◌⊎◌, length, take, drop, IsSomeAnd, slice_get, slice_index_or}
use Rattle.mk_code.specs.Listing.{Listing}
use Rattle.mk_ssa.specs.declared.Op.{Op}
use Rattle.mk_ssa.specs.declared.Operand.{Operand}
use Rattle.mk_gadget.specs.Gadget.{Gadget}
use Rattle.mk_rules.specs.Shape.{Shape, shape_of}
use Rattle.mk_rules.specs.Tiles.{value_number, laid, input_banks, first_position}
use Rattle.mk_rules.specs.Wired.{IsSharedThere, IsWired, Wired}
use Rattle.mk_rules.specs.Reaches.{Reaches, links}

-- the blocks before block k are wired, and it isn't
pub record FirstUnwired (shape : Shape) (blocks : List Op) (k : ℕ) : Type 0 where
  pub before : Wired shape (take k blocks)
  pub fails : IsSomeAnd (slice_get blocks k) (λ op. ¬ IsWired shape (take k blocks) op)

-- the lists are equal before place k, and there they differ, or one of them ends and the other doesn't
pub record FirstMismatch {X : Type 0} (xs ys : List X) (k : ℕ) : Type 0 where
  pub before : take k xs ≡ take k ys
  pub differ : slice_get xs k ≢ slice_get ys k

-- the code's instructions and the templates of the blocks, one after the other, are equal before
-- instruction k and not there
abbrev pub FirstOffTile : Listing → Gadget → Gadget → List Op → ℕ → Type 0
FirstOffTile code product refresh blocks k =
    FirstMismatch code.instrs (laid (shape_of code) product refresh (input_banks (shape_of code)) (first_position (shape_of code)) blocks) k

-- the positions of the shares of output k
abbrev pub output_positions : Listing → ℕ → List ℕ
output_positions code k = take (code.order + 1) (drop (k * (code.order + 1)) code.outs)

-- there is a claim k, of a shared value that is there, and an output k, which is the value's bank among these
pub record IsClaimed (code : Listing) (banks : List (List ℕ)) (blocks : List Op) (claims : List Operand) (k : ℕ) : Type 0 where
  pub output : k * (code.order + 1) < length code.outs
  pub claim : IsSomeAnd (slice_get claims k)
      (λ v. IsSharedThere (shape_of code) blocks v
      × (slice_index_or banks (value_number (shape_of code) v) [] ≡ output_positions code k))

-- the outputs before output k are claimed; there is a claim or an output k, and the one isn't that of the other
pub record FirstWrongOutput (code : Listing) (banks : List (List ℕ)) (blocks : List Op) (claims : List Operand) (k : ℕ) : Type 0 where
  pub before : (j : ℕ) → j < k → IsClaimed code banks blocks claims j
  pub more : (k < length claims) ⊎ (k * (code.order + 1) < length code.outs)
  pub fails : ¬ IsClaimed code banks blocks claims k

-- the value with this number reaches both places of the strong block s
abbrev pub IsDoubled : Shape → List Op → ℕ → ℕ → Type 0
IsDoubled shape blocks v s =
    Reaches (shape.secrets + shape.publics) (links shape blocks) v s 0 × Reaches (shape.secrets + shape.publics) (links shape blocks) v s 1

-- a shared value that is there reaches both places of this block, none before it by number does, and no
-- value reaches both places of a block before
pub record FirstDoubled (shape : Shape) (blocks : List Op) (value : Operand) (block : ℕ) : Type 0 where
  pub there : IsSharedThere shape blocks value
  pub doubled : IsDoubled shape blocks (value_number shape value) block
  pub least : (v : ℕ) → v < value_number shape value → ¬ IsDoubled shape blocks v block
  pub before : (s v : ℕ) → s < block → ¬ IsDoubled shape blocks v s
