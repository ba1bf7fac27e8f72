-- Values simplified: of those with equal trees the first is kept, and of these the ones that some output
-- is made of. A sum and the sum the other way round have different trees.
use Rattle.std.specs.Prelude.{◌≡◌, ◌≢◌, ℕ, ◌<◌, List, [], ◌∷◌, ◌++◌, ◌⊎◌, Bool, true, false, map, flat_map, count_by, Contains, Some, slice_get}
use Rattle.mk_ssa.specs.declared.Operand.TheVariants.{Block}
use Rattle.mk_ssa.specs.declared.Op.{Op}
use Rattle.mk_ssa.specs.Operators.{Operator, operator, operands}
use Rattle.mk_ssa.specs.Values.{Values}
use Rattle.mk_simplify.specs.Trees.{Tree, trees, tree_of, parts}

-- the trees that outputs are made of
abbrev pub needed : Values → List Tree
needed s = flat_map (λ v. parts (tree_of s.values v)) s.outs

-- a tree is kept where none before it is equal and some output is made of it
abbrev pub IsKept : List Tree → List Tree → Tree → Type 0
IsKept wanted before t = (¬ Contains before t) × Contains wanted t

-- of these trees, in order, just those are kept that are to be
unfoldable pub AreKept : List Tree → List Tree → List Tree → List Tree → Type 0
AreKept wanted before [] kept = kept ≡ []
AreKept wanted before (t ∷ ts) kept =
    (IsKept wanted before t × (rest : List Tree) × (kept ≡ t ∷ rest) × AreKept wanted (before ++ t ∷ []) ts rest)
    ⊎ ((¬ IsKept wanted before t) × AreKept wanted (before ++ t ∷ []) ts kept)

-- `r` is `s` simplified: its values are those kept, and each output is the input or kept value with its tree
pub record IsSimplified (s r : Values) : Type 0 where
  pub field : r.field ≡ s.field
  pub secrets : r.secrets ≡ s.secrets
  pub publics : r.publics ≡ s.publics
  pub maps : r.maps ≡ s.maps
  pub kept : AreKept (needed s) [] (trees s.values) (trees r.values)
  pub outs : map (tree_of r.values) r.outs ≡ map (tree_of s.values) s.outs

-- the value of this number is an output, or an operand of a later value
abbrev pub IsUsed : Values → ℕ → Type 0
IsUsed s k =
    Contains s.outs (Block k) ⊎ ((j : ℕ) × (x : Op) × (k < j) × (slice_get s.values j ≡ Some x) × Contains (operands x) (Block k))

-- no two values have equal operators and operands
abbrev pub AllDiffer : Values → Type 0
AllDiffer s = (i j : ℕ) (x y : Op) → i < j → slice_get s.values i ≡ Some x → slice_get s.values j ≡ Some y → x ≢ y

-- how many values have an operator that passes the test
abbrev pub count_operators : (Operator → Bool) → Values → ℕ
count_operators p s = count_by (λ x. p (operator x)) s.values

-- whether it is a constant
abbrev pub is_constant : Operator → Bool
is_constant (Operator.Const value) = true
is_constant Operator.PubAdd = false
is_constant Operator.PubMul = false
is_constant Operator.PubSq = false
is_constant (Operator.PubMap map) = false
is_constant Operator.Lift = false
is_constant Operator.Add = false
is_constant Operator.AddPub = false
is_constant Operator.Scale = false
is_constant Operator.Sq = false
is_constant (Operator.Map map) = false
is_constant Operator.Mul = false
is_constant Operator.Refresh = false
