-- What is noted on the way: operands renumbered, values that were merged, are needed or have their place.
use Rattle.std.specs.Prelude.{◌≡◌, ℕ, ◌≤◌, ◌<◌, List, [], ◌∷◌, Bool, true, false, All, Contains, Some, flat_map, length, take, slice_get, slice_index, slice_set}
use Rattle.std.specs.List.{AllByRecursion}
use Rattle.mk_ssa.specs.declared.Operand.{Operand}
use Rattle.mk_ssa.specs.declared.Operand.TheVariants.{Secret, Public, Block}
use Rattle.mk_ssa.specs.declared.Op.{Op}
use Rattle.mk_ssa.specs.Operators.{operands, with_operands}
use Rattle.mk_ssa.specs.Values.{Draft, IsDraft}
use Rattle.mk_simplify.specs.Trees.{Tree, trees, tree_of, parts}
use Rattle.mk_simplify.specs.Simplified.{AreKept}

-- an operand with the number that stands in the list at its own, where it is a value
abbrev pub renumbered : List ℕ → Operand → Operand
renumbered numbers (Secret k) = Secret k
renumbered numbers (Public k) = Public k
renumbered numbers (Block k) = Block (slice_index numbers k)

-- an input, or a value for whose number the test holds
abbrev pub OnValue : (ℕ → Type 0) → Operand → Type 0
OnValue P (Secret k) = Unit {0}
OnValue P (Public k) = Unit {0}
OnValue P (Block k) = P k

-- an input, or a value whose number is below n
abbrev pub IsBelow : ℕ → Operand → Type 0
IsBelow n = OnValue (λ k. k < n)

-- the operands of each value are inputs or earlier values
abbrev pub AreEarlier : List Op → Type 0
AreEarlier ops = (k : ℕ) (x : Op) → slice_get ops k ≡ Some x → AllByRecursion (IsBelow k) (operands x)

-- the values of `ops` stand in `kept` under these numbers, with their operands renumbered: those of which
-- `on` holds
abbrev pub AreCarried : (ℕ → Type 0) → List Op → List Op → List ℕ → Type 0
AreCarried on ops kept numbers =
    (k : ℕ) (x : Op) → on k → slice_get ops k ≡ Some x → slice_get kept (slice_index numbers k) ≡ Some (with_operands (renumbered numbers) x)

-- the different values of `d`, in order, and for each value of `d` its number among them
pub record IsMerged (d : Draft) (kept : List Op) (numbers : List ℕ) : Type 0 where
  pub count : length numbers ≡ length d.values
  pub few : length kept ≤ length numbers
  pub made : IsDraft (record d { values = kept })
  pub carried : AreCarried (λ k. Unit {0}) d.values kept numbers
  pub different : (i j : ℕ) (x : Op) → slice_get kept i ≡ Some x → slice_get kept j ≡ Some x → i ≡ j
  pub first : (wanted : List Tree) → ((t : Tree) → Contains (trees d.values) t → Contains wanted t) → AreKept wanted [] (trees d.values) (trees kept)

-- the value of this number is marked
abbrev pub IsMarked : List Bool → ℕ → Type 0
IsMarked marks k = slice_get marks k ≡ Some true

-- the marks, with one more where the operand is a value
abbrev pub with_mark : List Bool → Operand → List Bool
with_mark marks (Secret k) = marks
with_mark marks (Public k) = marks
with_mark marks (Block k) = slice_set marks k true

-- the operands of each value that is marked are
abbrev pub AreClosed : List Op → List Bool → Type 0
AreClosed ops marks = (k : ℕ) (x : Op) → IsMarked marks k → slice_get ops k ≡ Some x → AllByRecursion (OnValue (IsMarked marks)) (operands x)

-- marked are those values that outputs are made of: these, the operands of those that are marked, and no others
pub record AreMarked (ops : List Op) (outs : List Operand) (marks : List Bool) : Type 0 where
  pub count : length marks ≡ length ops
  pub outputs : All (OnValue (IsMarked marks)) outs
  pub closed : AreClosed ops marks
  pub needed : (k : ℕ) → IsMarked marks k → Contains (flat_map (λ v. parts (tree_of ops v)) outs) (tree_of ops (Block k))

-- those of the trees that are marked, in order
abbrev pub marked : List Bool → List Tree → List Tree
marked [] ts = []
marked (m ∷ ms) [] = []
marked (true ∷ ms) (t ∷ ts) = t ∷ marked ms ts
marked (false ∷ ms) (t ∷ ts) = marked ms ts

-- of the first n values of `ops` the marked ones, in order, and for each value its place among them
pub record ArePlaced (n : ℕ) (ops : List Op) (marks : List Bool) (kept : List Op) (places : List ℕ) : Type 0 where
  pub count : length places ≡ n
  pub carried : AreCarried (λ k. (k < n) × IsMarked marks k) ops kept places
  pub chosen : trees kept ≡ marked marks (take n (trees ops))
