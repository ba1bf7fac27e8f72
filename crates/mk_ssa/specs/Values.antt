-- Lists of values: what they consist of, and what fits together in them. The operators are this
-- project's own; docs/MASKING.md has them in words.
use Rattle.std.specs.Prelude.{◌≡◌, ℕ, ◌<◌, List, [], ◌∷◌, ◌++◌, length, take, true, false, All, Some, IsSomeAnd, slice_get}
use Rattle.mk_field.specs.declared.field.FieldId.{FieldId}
use Rattle.mk_field.specs.declared.map.AddMap.{AddMap}
use Rattle.mk_field.specs.Field.{size, HasMapsOnlyInBytes}
use Rattle.mk_ssa.specs.declared.Operand.{Operand}
use Rattle.mk_ssa.specs.declared.Operand.TheVariants.{Secret, Public, Block}
use Rattle.mk_ssa.specs.declared.Op.{Op}
use Rattle.mk_ssa.specs.declared.Op.TheVariants.{Const, PubAdd, PubMul, PubSq, PubMap, Lift, Add, AddPub, Scale, Sq, Map, Mul, Refresh}
use Rattle.mk_ssa.specs.Kinds.{is_public}

-- values in the making: their field, the numbers of secrets and of public inputs, the additive maps, and
-- the values so far, each by its operator
pub record Draft : Type 0 where
  pub field : FieldId
  pub secrets : ℕ
  pub publics : ℕ
  pub maps : List AddMap
  pub values : List Op

-- a list of values, with its outputs
pub record Values : Type 0 where
  pub field : FieldId
  pub secrets : ℕ
  pub publics : ℕ
  pub maps : List AddMap
  pub values : List Op
  pub outs : List Operand

-- the values without the outputs
abbrev pub draft : Values → Draft
draft s = record { field = s.field; secrets = s.secrets; publics = s.publics; maps = s.maps; values = s.values }

-- the values with these outputs
abbrev pub finished : Draft → List Operand → Values
finished d outs = record { field = d.field; secrets = d.secrets; publics = d.publics; maps = d.maps; values = d.values; outs = outs }

-- the first n values alone
abbrev pub front : Draft → ℕ → Draft
front d n = record d { values = take n d.values }

-- one value more
abbrev pub pushed : Draft → Op → Draft
pushed d op = record d { values = d.values ++ op ∷ [] }

-- a secret that is there, or a shared value among those so far
abbrev pub IsSharedThere : Draft → Operand → Type 0
IsSharedThere d (Secret k) = k < d.secrets
IsSharedThere d (Public k) = ⊥
IsSharedThere d (Block k) = IsSomeAnd (slice_get d.values k) (λ op. is_public op ≡ false)

-- a public input that is there, or a public value among those so far
abbrev pub IsPublicThere : Draft → Operand → Type 0
IsPublicThere d (Secret k) = ⊥
IsPublicThere d (Public k) = k < d.publics
IsPublicThere d (Block k) = IsSomeAnd (slice_get d.values k) (λ op. is_public op ≡ true)

-- the operator fits behind the values so far: each of its operands is there and of its kind, its map is
-- one of those that there are, its constant is an element of the field, and it is no refresh
abbrev pub Fits : Draft → Op → Type 0
Fits d (Const value) = value < size d.field
Fits d (PubAdd left right) = IsPublicThere d left × IsPublicThere d right
Fits d (PubMul left right) = IsPublicThere d left × IsPublicThere d right
Fits d (PubSq arg) = IsPublicThere d arg
Fits d (PubMap map arg) = (map < length d.maps) × IsPublicThere d arg
Fits d (Lift arg) = IsPublicThere d arg
Fits d (Add left right) = IsSharedThere d left × IsSharedThere d right
Fits d (AddPub left right) = IsSharedThere d left × IsPublicThere d right
Fits d (Scale left right) = IsSharedThere d left × IsPublicThere d right
Fits d (Sq arg) = IsSharedThere d arg
Fits d (Map map arg) = (map < length d.maps) × IsSharedThere d arg
Fits d (Mul left right) = IsSharedThere d left × IsSharedThere d right
Fits d (Refresh arg) = ⊥

-- what always holds of values in the making: each value fits behind those before it
pub record IsDraft (d : Draft) : Type 0 where
  pub bytes : HasMapsOnlyInBytes d.field d.maps
  pub fit : (k : ℕ) (op : Op) → slice_get d.values k ≡ Some op → Fits (front d k) op

-- what always holds of a list of values: its outputs are shared, too
pub record IsValues (s : Values) : Type 0 where
  pub made : IsDraft (draft s)
  pub outs : All (IsSharedThere (draft s)) s.outs
