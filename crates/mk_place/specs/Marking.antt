-- What the pass from the last value to the first holds. It serves the pass alone, and what the calls of the crate
-- promise needs none of it.
use Rattle.std.specs.Prelude.{◌≡◌, ◌↔◌, ◌⊎◌, ℕ, zero, suc, ◌+◌, ◌-◌, ◌*◌, ◌^◌, ◌<◌, ◌≤◌, Bool, true, false, Some, List, []}
use Rattle.std.specs.Prelude.{◌∷◌, Contains, length, slice_get, slice_index_or}
use Rattle.mk_ssa.specs.declared.Op.{Op}
use Rattle.mk_ssa.specs.declared.Op.TheVariants.{Const}
use Rattle.mk_ssa.specs.Kinds.{kind}
use Rattle.mk_ssa.specs.Operators.{Operator, operator}
use Rattle.mk_ssa.specs.Values.{Values}
use Rattle.mk_rules.specs.Rows.{HasBit}
use Rattle.mk_rules.specs.declared.uses.OperandPlace.{OperandPlace}
use Rattle.mk_rules.specs.Products.{AreNumbers, products_before}
use Rattle.mk_rules.specs.Uses.{AreUsesAt, Use}
use Rattle.mk_place.specs.declared.marking.Fresh.{Fresh}
use Rattle.mk_place.specs.Uses.{shape_of_values, uses}
use Rattle.mk_place.specs.Layout.{Marks}
use Rattle.mk_place.specs.Needs.{brought_by, needs_by, marks_by}

-- how many inputs there are
abbrev pub inputs : Values → ℕ
inputs s = s.secrets + s.publics

-- the bit for a place: 2r and 2r + 1 are those of product r
abbrev pub bit_of : List Op → OperandPlace → ℕ
bit_of ops p = 2 * products_before ops p.value + p.operand

-- a place of one of these products
pub record IsPlace (ops : List Op) (p : OperandPlace) : Type 0 where
  pub op : Op
  pub there : slice_get ops p.value ≡ Some op
  pub product : operator op ≡ Operator.Mul
  pub two : p.operand < 2

-- the row stands for the need: exactly the bits for its places are set. These are places of products, one of each
pub record IsNeed (ops : List Op) (need : List OperandPlace) (row : List ℕ) : Type 0 where
  pub bits : (k : ℕ) → HasBit row k ↔ ((p : OperandPlace) × Contains need p × (bit_of ops p ≡ k))
  pub places : (p : OperandPlace) → Contains need p → IsPlace ops p
  pub alone : (p q : OperandPlace) → Contains need p → Contains need q → p.value ≡ q.value → p.operand ≡ q.operand

-- this holds of each need for which the row stands
abbrev pub OfNeeds : List Op → List ℕ → (List OperandPlace → Type 0) → Type 0
OfNeeds ops row P = (need : List OperandPlace) → IsNeed ops need row → P need

-- the row has these bits too, unless they clash
abbrev pub IsTaken : List ℕ → Type 0 → (ℕ → Type 0) → List ℕ → Type 0
IsTaken row Clashes Brings after = (k : ℕ) → HasBit after k ↔ (HasBit row k ⊎ ((Clashes → ⊥) × Brings k))

-- the need of a value by all uses
abbrev pub final_need : Values → ℕ → List OperandPlace
final_need s v = needs_by (inputs s) (uses s) v

-- what a use at this place brings
abbrev pub brings : Values → OperandPlace → List OperandPlace
brings s p = brought_by (kind (slice_index_or s.values p.value (Const 0))) (p ∷ []) (final_need s (inputs s + p.value))

-- there is a row for value i, the last value having the first one
pub record HasRow (s : Values) (rows : List (List ℕ)) (words i : ℕ) : Type 0 where
  pub there : length s.values - suc i < length rows
  pub count : length (slice_index_or rows (length s.values - suc i) []) ≡ words
  pub need : IsNeed s.values (final_need s (inputs s + i)) (slice_index_or rows (length s.values - suc i) [])

-- there is one for each value from value n on
abbrev pub HasRows : Values → List (List ℕ) → ℕ → ℕ → Type 0
HasRows s rows words n = (i : ℕ) → n ≤ i → i < length s.values → HasRow s rows words i

-- what the pass goes by: the uses, how many products stand before each value, and words enough for two bits each
pub record IsIndex (s : Values) (noted : List (List OperandPlace)) (numbers : List ℕ) (words : ℕ) : Type 0 where
  pub noted_all : AreUsesAt (shape_of_values s) s.values 0 noted
  pub count : length numbers ≡ length s.values + 1
  pub each : AreNumbers s.values numbers
  pub room : 2 * products_before s.values (length s.values) ≤ 64 * words
  pub small : words < 2 ^ 32

-- which uses need a refresh
abbrev pub all_marks : Values → Marks
all_marks s = marks_by (inputs s) (uses s)

-- one of a value's marks, by place
abbrev pub mark_in : Fresh → ℕ → Bool
mark_in fresh zero = fresh.first
mark_in fresh (suc zero) = fresh.second
mark_in fresh (suc (suc k)) = false

-- no mark
abbrev pub unmarked : Fresh
unmarked = record { first = false; second = false }

-- the use by value i at place k is marked
abbrev pub IsMarked : List Fresh → ℕ → ℕ → Type 0
IsMarked fresh i k = mark_in (slice_index_or fresh i unmarked) k ≡ true

-- this is the use by value i at place k
abbrev pub IsAt : OperandPlace → ℕ → ℕ → Type 0
IsAt p i k = (i ≡ p.value) × (k ≡ p.operand)

-- these uses are marked, too
abbrev pub AreMarkedToo : List Fresh → (ℕ → ℕ → Type 0) → List Fresh → Type 0
AreMarkedToo fresh P after = (i k : ℕ) → IsMarked after i k ↔ (IsMarked fresh i k ⊎ P i k)

-- the use by value i at place k is one of the value with this number, and is to be marked
abbrev pub IsDue : Values → ℕ → ℕ → ℕ → Type 0
IsDue s number i k = (u : Use) × Contains (uses s) u × (u.operand ≡ number) × (u.value ≡ i) × (u.place ≡ k) × (all_marks s i k ≡ true)

-- the list has, for each value, which of its uses need a refresh
pub record AreMarks (s : Values) (fresh : List Fresh) : Type 0 where
  pub count : length fresh ≡ length s.values
  pub each : (i : ℕ) → i < length s.values → slice_get fresh i ≡ Some (record { first = all_marks s i 0; second = all_marks s i 1 })
