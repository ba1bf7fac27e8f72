-- Where values are used: each shared operand of a block is a use of the value with its number.
use Rattle.std.specs.Prelude.{◌≡◌, ℕ, suc, ◌+◌, ◌<◌, Option, None, Some, List, [], ◌∷◌, ◌++◌, length, map, drop, nat_eq, slice_get, slice_index_or, slice_set, refl, if◌then◌else◌}
use Rattle.mk_field.specs.declared.field.FieldId.TheVariants.{Gf2}
use Rattle.mk_ssa.specs.declared.Op.{Op}
use Rattle.mk_ssa.specs.Kinds.{Kind, Strong, shared_operands}
use Rattle.mk_rules.specs.declared.uses.OperandPlace.{OperandPlace}
use Rattle.mk_rules.specs.Shape.{Shape}
use Rattle.mk_rules.specs.Tiles.{value_number}
use Rattle.mk_rules.specs.Reaches.{Link, links}

-- a use: block `value`, of this kind, has the value with the number `operand` as its shared operand `place`
pub record Use : Type 0 where
  pub value : ℕ
  pub kind : Kind
  pub place : ℕ
  pub operand : ℕ

-- the uses by one block of shared operands, from a place on
unfoldable pub uses_by : ℕ → Kind → ℕ → List ℕ → List Use
uses_by value kind place [] = []
uses_by value kind place (v ∷ vs) = record { value = value; kind = kind; place = place; operand = v } ∷ uses_by value kind (suc place) vs

-- the uses by these blocks, of which the first has the number `value`: by block, and then by place
unfoldable pub uses_from : ℕ → List Link → List Use
uses_from value [] = []
uses_from value (l ∷ ls) = uses_by value l.kind 0 l.shared ++ uses_from (suc value) ls

-- the uses by block i and those behind it
abbrev pub uses_behind : Shape → List Op → ℕ → List Use
uses_behind shape ops i = uses_from i (drop i (links shape ops))

-- where a use stands
abbrev pub place_of_use : Use → OperandPlace
place_of_use u = record { value = u.value; operand = u.place }

-- where a value is used, the last use first
unfoldable pub last_first : ℕ → List Use → List OperandPlace
last_first v [] = []
last_first v (u ∷ us) = if nat_eq u.operand v then last_first v us ++ place_of_use u ∷ [] else last_first v us

-- a use is noted
abbrev pub IsNoted : List (List OperandPlace) → Option ℕ → OperandPlace → List (List OperandPlace) → Type 0
IsNoted noted None place after = after ≡ noted
IsNoted noted (Some v) place after = after ≡ slice_set noted v (slice_index_or noted v [] ++ place ∷ [])

-- the list has these uses by the number of the value that is used
pub record AreUses (len : ℕ) (us : List Use) (noted : List (List OperandPlace)) : Type 0 where
  pub count : length noted ≡ len
  pub each : (v : ℕ) → v < len → slice_index_or noted v [] ≡ last_first v us

-- the uses by block i and those behind it
abbrev pub AreUsesAt : Shape → List Op → ℕ → List (List OperandPlace) → Type 0
AreUsesAt shape ops i noted = AreUses (shape.secrets + shape.publics + length ops) (uses_behind shape ops i) noted

-- the numbers of the shared operands, by place
abbrev pub shared_numbers : Shape → Op → List ℕ
shared_numbers shape op = map (value_number shape) (shared_operands op)

-- each shared operand is the value of an input or of a block
abbrev pub AreThere : Shape → List Op → Type 0
AreThere shape ops =
    (i k v : ℕ) (op : Op) → slice_get ops i ≡ Some op → slice_get (shared_numbers shape op) k ≡ Some v → v < shape.secrets + shape.publics + length ops

-- a shape with so many inputs, of which uses ask for nothing else
abbrev pub input_shape : ℕ → ℕ → Shape
input_shape secrets publics = record { field = Gf2; order = 0; secrets = secrets; publics = publics; maps = [] }

-- a value that block 0 takes twice is used last as its second operand
pub last_first-2 : last_first 4 (uses_by 0 Strong 0 (4 ∷ 4 ∷ [])) ≡ record { value = 0; operand = 1 } ∷ record { value = 0; operand = 0 } ∷ []
unfolding uses_by last_first
last_first-2 = refl
