-- The refreshes of a certificate: what uses them, and where they stand. It is this project's own form.
use Rattle.std.specs.Prelude.{◌≡◌, ◌⊎◌, ℕ, ◌+◌, List, Some, Contains, IsSomeAnd, slice_get}
use Rattle.mk_ssa.specs.declared.Operand.TheVariants.{Block}
use Rattle.mk_ssa.specs.declared.Op.{Op}
use Rattle.mk_ssa.specs.Kinds.{Linear, kind, shared_operands}
use Rattle.mk_ssa.specs.Operators.{Operator, operator, operands}
use Rattle.mk_rules.specs.Claimed.{Claimed}
use Rattle.mk_place.specs.Different.{IsRefresh}

-- block b has block r as its operand k, of all its operands in order, the shared ones first
abbrev pub HasOperand : List Op → ℕ → ℕ → ℕ → Type 0
HasOperand blocks b k r = IsSomeAnd (slice_get blocks b) (λ op. slice_get (operands op) k ≡ Some (Block r))

-- block r is used once: it is a shared operand of block `user`, which is linear or a product, and it is no
-- other operand of a block and no claim
pub record IsUsedOnce (cert : Claimed) (r : ℕ) : Type 0 where
  pub user : ℕ
  pub place : ℕ
  pub op : Op
  pub there : slice_get cert.blocks user ≡ Some op
  pub shared : slice_get (shared_operands op) place ≡ Some (Block r)
  pub linear_or_product : (kind op ≡ Linear) ⊎ (operator op ≡ Operator.Mul)
  pub alone : (b k : ℕ) → HasOperand cert.blocks b k r → (b ≡ user) × (k ≡ place)
  pub unclaimed : ¬ Contains cert.claims (Block r)

-- refresh r, which is operand k of block b, stands directly before it; or it is operand 0, and only the
-- refresh that is operand 1 stands between
abbrev pub StandsBefore : List Op → ℕ → ℕ → ℕ → Type 0
StandsBefore blocks r b k =
    (b ≡ r + 1)
    ⊎ ((k ≡ 0) × (b ≡ r + 2) × IsSomeAnd (slice_get blocks (r + 1)) IsRefresh × HasOperand blocks b 1 (r + 1))
