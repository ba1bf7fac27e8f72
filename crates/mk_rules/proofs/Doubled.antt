-- In wired blocks each operand comes before its block; the first doubled value is the only one, and no value
-- is doubled where the rule holds.
use Rattle.std.proofs.Common.{◌≡◌, false, ℕ, zero, suc, ◌+◌, ◌<◌, List, [], ◌∷◌, length, map, take, slice_get, Some, IsSomeAnd, refl, sym, ap, subst, arith}
use Rattle.std.specs.List.{Contains}
use Rattle.std.proofs.lemmas.Option.{same_Some, slice_get_within}
use Rattle.std.proofs.lemmas.List.{length-take-le}
use Rattle.mk_ssa.specs.declared.Op.{Op}
use Rattle.mk_ssa.specs.declared.Operand.{Operand}
use Rattle.mk_ssa.specs.declared.Operand.TheVariants.{Secret, Public, Block}
use Rattle.mk_ssa.specs.Kinds.{Linear, Strong, kind, is_public, shared_operands}
use Rattle.mk_ssa.proofs.Lists.{IsSomeAnd-value}
use Rattle.mk_rules.specs.Shape.{Shape}
use Rattle.mk_rules.specs.Tiles.{value_number}
use Rattle.mk_rules.specs.Wired.{IsSharedThere, IsWired, Wired}
use Rattle.mk_rules.specs.Reaches.{Link, IsPath, Reaches, Undoubled, links}
use Rattle.mk_rules.specs.Faults.{FirstDoubled}
use Rattle.mk_rules.proofs.Wired.{wired-at}
use Rattle.mk_rules.proofs.Faults.{only}
use Rattle.mk_rules.proofs.Leading.{Ordered}
use Rattle.mk_rules.proofs.Views.{Contains-at}
use Rattle.mk_rules.proofs.Operators.{wired-operands, numbers-there}

-- what a path sees of a block
abbrev pub link_of : Shape → Op → Link
link_of shape op = record { kind = kind op; shared = map (value_number shape) (shared_operands op) }

-- the link of a block
pub links-at : (shape : Shape) (blocks : List Op) (b : ℕ) (op : Op) → slice_get blocks b ≡ Some op → slice_get (links shape blocks) b ≡ Some (link_of shape op)
links-at shape [] b op there = absurd (cc)
links-at shape (x ∷ xs) zero op there = ap (λ (y : Op). Some (link_of shape y)) (same_Some x op there)
links-at shape (x ∷ xs) (suc b) op there = links-at shape xs b op there

-- a link is that of a block
pub links-from : (shape : Shape) (blocks : List Op) (b : ℕ) (P : Link → Type 0) → IsSomeAnd (slice_get (links shape blocks) b) P
    → (op : Op) × (slice_get blocks b ≡ Some op) × P (link_of shape op)
links-from shape [] b P there = absurd there
links-from shape (x ∷ xs) zero P there = (x, refl, there)
links-from shape (x ∷ xs) (suc b) P there = links-from shape xs b P there

-- a value that is there among the first blocks is there among all
IsSharedThere-all : (shape : Shape) (blocks : List Op) (k : ℕ) (v : Operand) → IsSharedThere shape (take k blocks) v → IsSharedThere shape blocks v
IsSharedThere-all shape blocks k (Secret i) there = there
IsSharedThere-all shape blocks k (Public i) there = absurd there
IsSharedThere-all shape [] zero (Block i) there = absurd there
IsSharedThere-all shape [] (suc k) (Block i) there = absurd there
IsSharedThere-all shape (x ∷ xs) zero (Block i) there = absurd there
IsSharedThere-all shape (x ∷ xs) (suc k) (Block zero) there = there
IsSharedThere-all shape (x ∷ xs) (suc k) (Block (suc i)) there = IsSharedThere-all shape xs k (Block i) there

-- the number of a value that is there
pub number-there : (shape : Shape) (before : List Op) (v : Operand) → IsSharedThere shape before v
    → value_number shape v < shape.secrets + shape.publics + length before
number-there shape before (Secret k) there = omega (arith, there)
number-there shape before (Public k) there = absurd there
number-there shape before (Block k) there =
    let at : (op : Op) × (slice_get before k ≡ Some op) × (is_public op ≡ false) = IsSomeAnd-value (slice_get before k) (λ op. is_public op ≡ false) there in
    omega (arith, slice_get_within before k at.0 at.1)

-- values that are there and have one number are one
pub number-only : (shape : Shape) (blocks : List Op) (v w : Operand) → IsSharedThere shape blocks v → IsSharedThere shape blocks w
    → value_number shape v ≡ value_number shape w → v ≡ w
number-only shape blocks (Secret j) (Secret k) here there same = ap (λ (i : ℕ). Secret i) same
number-only shape blocks (Secret j) (Block k) here there same = absurd (omega (arith, here, same))
number-only shape blocks (Block j) (Secret k) here there same = absurd (omega (arith, there, same))
number-only shape blocks (Block j) (Block k) here there same = let e : j ≡ k = omega (arith, same) in ap (λ (i : ℕ). Block i) e
number-only shape blocks (Public j) w here there same = absurd here
number-only shape blocks v (Public k) here there same = absurd there

-- a shared value that is there with this number
pub record HasValue (shape : Shape) (blocks : List Op) (number : ℕ) : Type 0 where
  pub value : Operand
  pub there : IsSharedThere shape blocks value
  pub is : value_number shape value ≡ number

module _ (shape : Shape) (blocks : List Op) (wired : Wired shape blocks) where
  -- a shared operand of a block is there before it
  pub operand-before : (b x : ℕ) (op : Op) → slice_get blocks b ≡ Some op → Contains (map (value_number shape) (shared_operands op)) x
      → HasValue shape (take b blocks) x
  operand-before b x op there held =
      let is : IsWired shape (take b blocks) op = wired-at shape [] blocks b op wired there in
      numbers-there shape (IsSharedThere shape (take b blocks)) (HasValue shape (take b blocks)) (shared_operands op) x
      (λ v here. record { value = v; there = here; is = refl }) (wired-operands shape (take b blocks) op is).0 held

  -- so the operands come before their blocks
  pub wired-ordered : Ordered (shape.secrets + shape.publics) (links shape blocks)
  wired-ordered b v there =
      let at : (op : Op) × (slice_get blocks b ≡ Some op) × Contains (map (value_number shape) (shared_operands op)) v =
      links-from shape blocks b (λ link. Contains link.shared v) there in
      let found : HasValue shape (take b blocks) v = operand-before b v at.0 at.1 at.2 in
      let within : b < length blocks = slice_get_within blocks b at.0 at.1 in
      omega (arith, number-there shape (take b blocks) found.value found.there, found.is, length-take-le b blocks (omega (arith, within)))

  -- an operand is there
  operand-there : (b x : ℕ) (op : Op) → slice_get blocks b ≡ Some op → Contains (map (value_number shape) (shared_operands op)) x → HasValue shape blocks x
  operand-there b x op there held =
      let found : HasValue shape (take b blocks) x = operand-before b x op there held in
      record { value = found.value; there = IsSharedThere-all shape blocks b found.value found.there; is = found.is }

  -- a value with a path to one that is there is there
  path-there : (v : ℕ) (path : List ℕ) (w : ℕ) → IsPath (shape.secrets + shape.publics) (links shape blocks) v path w → HasValue shape blocks w → HasValue shape blocks v
  unfolding IsPath
  path-there v [] w leads there = subst (HasValue shape blocks) (sym leads) there
  path-there v (b ∷ path) w leads there =
      let at : (op : Op) × (slice_get blocks b ≡ Some op) × ((kind op ≡ Linear) × Contains (map (value_number shape) (shared_operands op)) v) =
      links-from shape blocks b (λ link. (link.kind ≡ Linear) × Contains link.shared v) leads.0 in
      operand-there b v at.0 at.1 at.2.1

  -- a value that reaches a place is there
  pub reaches-there : (v s k : ℕ) → Reaches (shape.secrets + shape.publics) (links shape blocks) v s k → HasValue shape blocks v
  reaches-there v s k reaches =
      let at : (op : Op) × (slice_get blocks s ≡ Some op) × ((kind op ≡ Strong) × (slice_get (map (value_number shape) (shared_operands op)) k ≡ Some reaches.operand)) =
      links-from shape blocks s (λ link. (link.kind ≡ Strong) × (slice_get link.shared k ≡ Some reaches.operand)) reaches.strong in
      path-there v reaches.path reaches.operand reaches.leads
      (operand-there s reaches.operand at.0 at.1 (Contains-at (map (value_number shape) (shared_operands at.0)) k reaches.operand at.2.1))

module _ (shape : Shape) (blocks : List Op) where
  -- where no value is doubled there is no first one
  pub FirstDoubled-not : (value : Operand) (block : ℕ) → FirstDoubled shape blocks value block
      → Undoubled (shape.secrets + shape.publics) (links shape blocks) → ⊥
  FirstDoubled-not value block first undoubled = undoubled (value_number shape value) block first.doubled.0 first.doubled.1

  -- there is one first block
  pub FirstDoubled-block : (v w : Operand) (j k : ℕ) → FirstDoubled shape blocks v j → FirstDoubled shape blocks w k → j ≡ k
  FirstDoubled-block v w j k first second =
      only j k (λ below. second.before j (value_number shape v) below first.doubled) (λ below. first.before k (value_number shape w) below second.doubled)

  -- and one first value
  pub FirstDoubled-value : (v w : Operand) (k : ℕ) → FirstDoubled shape blocks v k → FirstDoubled shape blocks w k → v ≡ w
  FirstDoubled-value v w k first second =
      number-only shape blocks v w first.there second.there
      (only (value_number shape v) (value_number shape w)
      (λ below. second.least (value_number shape v) below first.doubled)
      (λ below. first.least (value_number shape w) below second.doubled))
