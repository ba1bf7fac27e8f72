-- Which values reach a multiplication: directly, or through linear blocks.
use Rattle.std.specs.Prelude.{◌≡◌, ℕ, ◌+◌, List, [], ◌∷◌, map, Contains, IsSomeAnd, slice_get, Some}
use Rattle.mk_ssa.specs.declared.Op.{Op}
use Rattle.mk_ssa.specs.Kinds.{Kind, Linear, Strong, kind, shared_operands}
use Rattle.mk_rules.specs.Shape.{Shape}
use Rattle.mk_rules.specs.Tiles.{value_number}

-- what a path sees of a block: its kind, and the numbers of its shared operands by place
pub record Link : Type 0 where
  pub kind : Kind
  pub shared : List ℕ

-- the links of the blocks, in order
abbrev pub links : Shape → List Op → List Link
links shape blocks = map (λ op. record { kind = kind op; shared = map (value_number shape) (shared_operands op) }) blocks

-- a path from the value v to the value w: blocks behind `inputs` input values, each linear and with the
-- one before as an operand, the first with v and the last being w
unfoldable pub IsPath : ℕ → List Link → ℕ → List ℕ → ℕ → Type 0
IsPath inputs links v [] w = v ≡ w
IsPath inputs links v (b ∷ path) w =
    IsSomeAnd (slice_get links b) (λ link. (link.kind ≡ Linear) × Contains link.shared v)
    × IsPath inputs links (inputs + b) path w

-- the value v reaches place k of the strong block s: a path leads from it to the operand there
pub record Reaches (inputs : ℕ) (links : List Link) (v s k : ℕ) : Type 0 where
  pub path : List ℕ
  pub operand : ℕ
  pub leads : IsPath inputs links v path operand
  pub strong : IsSomeAnd (slice_get links s) (λ link. (link.kind ≡ Strong) × (slice_get link.shared k ≡ Some operand))

-- no value reaches both places of a strong block; only a multiplication has two
abbrev pub Undoubled : ℕ → List Link → Type 0
Undoubled inputs links = (v s : ℕ) → Reaches inputs links v s 0 → Reaches inputs links v s 1 → ⊥
