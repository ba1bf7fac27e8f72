-- Values that are worked out one after the other.
use Rattle.std.specs.Prelude.{◌≡◌, ℕ, ◌≤◌, ◌<◌, List, ◌∷◌, ◌++◌, [], All, length, slice_index_or}
use Rattle.mk_field.specs.Field.{size}
use Rattle.mk_ssa.specs.declared.Operand.{Operand}
use Rattle.mk_ssa.specs.declared.Operand.TheVariants.{Secret, Public, Block}
use Rattle.mk_ssa.specs.declared.Op.{Op}
use Rattle.mk_ssa.specs.declared.Op.TheVariants.{Const}
use Rattle.mk_ssa.specs.Values.{Values, Draft, draft, front}
use Rattle.mk_ssa.specs.Denoted.{value_of, values_of}

-- a list of values, the public inputs and the secrets, and what the values so far stand for
pub record Evaluated : Type 0 where
  pub ssa : Values
  pub publics : List ℕ
  pub secrets : List ℕ
  pub before : List ℕ

-- the values that are worked out
abbrev pub so_far : Evaluated → Draft
so_far e = front (draft e.ssa) (length e.before)

-- there is an element for the operand
abbrev pub HasValue : Evaluated → Operand → Type 0
HasValue e (Secret k) = k < length e.secrets
HasValue e (Public k) = k < length e.publics
HasValue e (Block k) = k < length e.before

-- the numbers are elements of the field
abbrev pub AreElements : Evaluated → List ℕ → Type 0
AreElements e = All (λ a. a < size e.ssa.field)

-- what always holds on the way
pub record IsEvaluated (e : Evaluated) : Type 0 where
  pub publics : length e.publics ≡ e.ssa.publics
  pub secrets : length e.secrets ≡ e.ssa.secrets
  pub within : length e.before ≤ length e.ssa.values
  pub before : e.before ≡ values_of e.ssa.field e.ssa.maps e.publics e.secrets (so_far e).values
  pub public_elements : AreElements e e.publics
  pub secret_elements : AreElements e e.secrets
  pub elements : AreElements e e.before

-- the operator whose turn it is
abbrev pub next_op : Evaluated → Op
next_op e = slice_index_or e.ssa.values (length e.before) (Const 0)

-- what an operator stands for behind the values so far
abbrev pub next_value : Evaluated → Op → ℕ
next_value e op = value_of e.ssa.field e.ssa.maps e.publics e.secrets e.before op

-- one value further
abbrev pub evaluated : Evaluated → Op → Evaluated
evaluated e op = record e { before = e.before ++ next_value e op ∷ [] }
