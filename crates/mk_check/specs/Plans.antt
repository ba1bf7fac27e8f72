-- Where the templates of blocks begin. What the calls of the crate promise needs none of it.
use Rattle.std.specs.Prelude.{◌≡◌, ℕ, ◌+◌, ◌*◌, ◌<◌, ◌≤◌, List, length, take, slice_index}
use Rattle.mk_base.specs.declared.TheConstants.{TOP_ORDER}
use Rattle.mk_code.specs.declared.TheConstants.{MOST_INSTRS}
use Rattle.mk_ssa.specs.declared.Op.{Op}
use Rattle.mk_ssa.specs.declared.Op.TheVariants.{PubAdd, PubMul}
use Rattle.mk_rules.specs.Shape.{Shape}
use Rattle.mk_check.specs.Gadgets.{Gadgets, built_in_gadgets}
use Rattle.mk_check.specs.Laying.{all_laid}
use Rattle.mk_check.specs.Outlines.{outlined}
use Rattle.mk_check.specs.declared.plan.Plan.{Plan}

-- how many positions the first operand has, if the operator has a second one; else at most so many
abbrev pub front_len : ℕ → Op → ℕ
front_len n (PubAdd left right) = 1
front_len n (PubMul left right) = 1
front_len n op = n

-- how many instructions the first k blocks have
abbrev pub laid_len : Shape → Gadgets → List Op → ℕ → ℕ
laid_len shape gadgets blocks k = length (all_laid shape gadgets (take k blocks))

-- for each block, and behind the last, how many instructions stand before it
pub record AreStarts (shape : Shape) (gadgets : Gadgets) (blocks : List Op) (starts : List ℕ) : Type 0 where
  pub count : length starts ≡ length blocks + 1
  pub each : (k : ℕ) → k ≤ length blocks → slice_index starts k ≡ laid_len shape gadgets blocks k
  pub small : (k : ℕ) → k ≤ length blocks → slice_index starts k ≤ k * MOST_INSTRS

-- a plan of the order's own templates
pub record IsPlan (plan : Plan) : Type 0 where
  pub order : (1 ≤ plan.outline.order) × (plan.outline.order ≤ TOP_ORDER)
  pub templates : plan.templates ≡ built_in_gadgets (plan.outline.order + 1)
  pub starts : AreStarts (outlined plan.outline) plan.templates plan.cert.blocks plan.starts.items

-- instruction number `count` falls in this block, or behind all
pub record IsIn (plan : Plan) (block count : ℕ) : Type 0 where
  pub within : block ≤ length plan.cert.blocks
  pub from : laid_len (outlined plan.outline) plan.templates plan.cert.blocks block ≤ count
  pub before : block < length plan.cert.blocks → count < laid_len (outlined plan.outline) plan.templates plan.cert.blocks (block + 1)
