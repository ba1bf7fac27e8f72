-- Marks of the places of products, passed back from block to block. What the calls of the crate promise needs
-- none of it.
use Rattle.std.specs.Prelude.{◌≡◌, ◌↔◌, ◌⊎◌, ◌+◌, ◌*◌, ◌/◌, ◌%◌, ◌<◌, ◌≤◌, ℕ, Option, Some, List, Contains, IsSomeAnd, length, slice_get, slice_index}
use Rattle.std.specs.Int.{bit_at}
use Rattle.mk_ssa.specs.declared.Op.{Op}
use Rattle.mk_ssa.specs.Kinds.{Linear, Strong, kind}
use Rattle.mk_ssa.specs.Operators.{Operator, operator}
use Rattle.mk_rules.specs.Shape.{Shape}
use Rattle.mk_rules.specs.Products.{products_before}
use Rattle.mk_rules.specs.Uses.{shared_numbers}
use Rattle.mk_rules.specs.Reaches.{Reaches, links}
use Rattle.mk_rules.specs.Rows.{HasPairAt}
use Rattle.mk_rules.specs.Faults.{FirstDoubled}
use Rattle.mk_check.specs.declared.doubled.TheConstants.{BATCH}
use Rattle.mk_check.specs.declared.doubled.Batch.{Batch}
use Rattle.mk_check.specs.declared.refusal.CheckRefusal.{CheckRefusal}
use Rattle.mk_check.specs.declared.refusal.CheckRefusal.TheVariants.{Operand, Tile, Output, Doubled, Memory}

-- the batch begins with this block, and has at least that one; it has at most BATCH products
pub record IsBatch (blocks : List Op) (from : ℕ) (batch : Batch) : Type 0 where
  pub starts : batch.from ≡ from
  pub within : batch.end ≤ length blocks
  pub some : from < batch.end
  pub few : batch.products ≤ BATCH
  pub count : products_before blocks batch.end ≡ products_before blocks from + batch.products

-- block b is product number r of the batch
pub record IsNumbered (blocks : List Op) (batch : Batch) (r b : ℕ) : Type 0 where
  pub from : batch.from ≤ b
  pub before : b < batch.end
  pub product : IsSomeAnd (slice_get blocks b) (λ op. operator op ≡ Operator.Mul)
  pub number : products_before blocks b ≡ products_before blocks batch.from + r

-- the value v reaches place c of the strong block s by a use in block k or behind it: by one at that place, or
-- by one in a linear block whose value reaches the place
abbrev pub ReachesFrom : Shape → List Op → ℕ → ℕ → ℕ → ℕ → Type 0
ReachesFrom shape blocks k v s c =
    ((k ≤ s) × IsSomeAnd (slice_get (links shape blocks) s) (λ link. (link.kind ≡ Strong) × (slice_get link.shared c ≡ Some v)))
    ⊎ ((b : ℕ) × (k ≤ b) × IsSomeAnd (slice_get (links shape blocks) b) (λ link. (link.kind ≡ Linear) × Contains link.shared v)
    × Reaches (shape.secrets + shape.publics) (links shape blocks) (shape.secrets + shape.publics + b) s c)

-- the value v has the mark j: bit j of its word is set
abbrev pub HasMark : List ℕ → ℕ → ℕ → Type 0
HasMark marks v j = bit_at (slice_index marks v) j ≡ 1

-- the value v has the marks 2r and 2r + 1
abbrev pub HasBoth : List ℕ → ℕ → ℕ → Type 0
HasBoth marks r v = (v < length marks) × HasPairAt (slice_index marks v) r

-- the mark 2r + c says that the value reaches place c of product number r of the batch by a use in block k or
-- behind it
pub record AreMarks (shape : Shape) (blocks : List Op) (batch : Batch) (k : ℕ) (marks : List ℕ) : Type 0 where
  pub count : length marks ≡ shape.secrets + shape.publics + length blocks
  pub each : (v j : ℕ)
      → HasMark marks v j ↔ ((b : ℕ) × IsNumbered blocks batch (j / 2) b × ReachesFrom shape blocks k v b (j % 2))

-- the value with this number, if there is one, has these marks too
abbrev pub IsBrought : Option ℕ → ℕ → List ℕ → List ℕ → Type 0
IsBrought number word marks after = (v j : ℕ) → HasMark after v j ↔ (HasMark marks v j ⊎ ((number ≡ Some v) × (bit_at word j ≡ 1)))

-- what a block brings to its operand c: a linear one the marks of its own word, and a product of the batch that of
-- its place c
abbrev pub Brings : Op → ℕ → Option ℕ → ℕ → ℕ → Type 0
Brings op own product c j =
    ((kind op ≡ Linear) × (bit_at own j ≡ 1)) ⊎ ((operator op ≡ Operator.Mul) × (r : ℕ) × (product ≡ Some r) × (j ≡ 2 * r + c))

-- the operands of the block have the marks too that it brings to them
abbrev pub IsPassedOn : Shape → Op → ℕ → Option ℕ → List ℕ → List ℕ → Type 0
IsPassedOn shape op own product marks after =
    (v j : ℕ) → HasMark after v j
    ↔ (HasMark marks v j ⊎ ((c : ℕ) × (slice_get (shared_numbers shape op) c ≡ Some v) × Brings op own product c j))

-- it names the first product of which a value reaches both places, and the first such value
abbrev pub IsDoubling : Shape → List Op → CheckRefusal → Type 0
IsDoubling shape blocks (Doubled value block) = FirstDoubled shape blocks value block
IsDoubling shape blocks (Operand k) = ⊥
IsDoubling shape blocks (Tile k) = ⊥
IsDoubling shape blocks (Output k) = ⊥
IsDoubling shape blocks Memory = ⊥
