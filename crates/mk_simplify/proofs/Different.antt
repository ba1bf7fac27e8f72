-- Different values have different trees.
use Rattle.std.proofs.Common.{◌≡◌, ℕ, zero, suc, ◌≤◌, ◌<◌, List, [], ◌∷◌, length, slice_get, get_or, Some, true, false, refl, sym, ◌∙◌, ap, arith}
use Rattle.std.specs.List.{AllByRecursion}
use Rattle.std.proofs.lemmas.Option.{slice_get-get_or}
use Rattle.mk_ssa.specs.declared.Op.{Op}
use Rattle.mk_ssa.specs.declared.Op.TheVariants.{Const}
use Rattle.mk_ssa.specs.declared.Operand.{Operand}
use Rattle.mk_ssa.specs.declared.Operand.TheVariants.{Secret, Public, Block}
use Rattle.mk_ssa.specs.Operators.{operands}
use Rattle.mk_simplify.specs.Trees.{Tree, tree_by, tree_of}
use Rattle.mk_simplify.specs.Renumbering.{OnValue, IsBelow, AreEarlier}
use Rattle.mk_simplify.proofs.Operators.{same-op}
use Rattle.mk_simplify.proofs.Trees.{tree_by-root, tree_by-kids, tree_of-at, is_input, is_input-at, is_input-input, map-injective, AllByRecursion-weaker}

-- true isn't false
pub true-not_false : true ≡ false → ⊥
true-not_false same = absurd (cc)

-- an operand is an input or a value
pub OnValue-everywhere : (v : Operand) → OnValue (λ k. Unit {0}) v
OnValue-everywhere (Secret k) = tt
OnValue-everywhere (Public k) = tt
OnValue-everywhere (Block k) = tt

-- an element that is there doesn't depend on what is read past the end
pub get_or-within : {X : Type 0} (xs : List X) (k : ℕ) (d e : X) → k < length xs → get_or xs k d ≡ get_or xs k e
get_or-within [] k d e below = absurd (omega (arith, below))
get_or-within (x ∷ xs) zero d e below = refl
get_or-within (x ∷ xs) (suc k) d e below = get_or-within xs k d e (omega (arith, below))

-- the operand that an input is
operand_in : Tree → Operand
operand_in (Tree.Input v) = v
operand_in (Tree.Leaf o) = Secret 0
operand_in (Tree.Unary o a) = Secret 0
operand_in (Tree.Binary o a b) = Secret 0

-- equal inputs
input-same : (v w : Operand) → Tree.Input v ≡ Tree.Input w → v ≡ w
unfolding operand_in
input-same v w same = ap operand_in same

-- an input is no value
pub input-not_value : (ops : List Op) → AreEarlier ops → (v : Operand) (k : ℕ) → k < length ops → Tree.Input v ≡ tree_of ops (Block k) → ⊥
input-not_value ops earlier v k below same =
    let x = get_or ops k (Const 0) in
    let one : is_input (tree_of ops (Block k)) ≡ false = is_input-at ops k x earlier (slice_get-get_or ops k (Const 0) below) in
    let two : is_input (Tree.Input v) ≡ true = is_input-input v in
    let three : is_input (Tree.Input v) ≡ is_input (tree_of ops (Block k)) = ap is_input same in
    true-not_false (sym two ∙ three ∙ one)

-- operands with equal trees are equal, where values with equal trees are
pub tree_of-injective : (ops : List Op) (n : ℕ) → AreEarlier ops → n ≤ length ops
    → ((i j : ℕ) → i < n → j < length ops → tree_of ops (Block i) ≡ tree_of ops (Block j) → i ≡ j)
    → (v w : Operand) → IsBelow n v → IsBelow (length ops) w → tree_of ops v ≡ tree_of ops w → v ≡ w
tree_of-injective ops n earlier within different (Secret k) (Secret j) first second same = input-same (Secret k) (Secret j) same
tree_of-injective ops n earlier within different (Secret k) (Public j) first second same = input-same (Secret k) (Public j) same
tree_of-injective ops n earlier within different (Secret k) (Block j) first second same = absurd (input-not_value ops earlier (Secret k) j second same)
tree_of-injective ops n earlier within different (Public k) (Secret j) first second same = input-same (Public k) (Secret j) same
tree_of-injective ops n earlier within different (Public k) (Public j) first second same = input-same (Public k) (Public j) same
tree_of-injective ops n earlier within different (Public k) (Block j) first second same = absurd (input-not_value ops earlier (Public k) j second same)
tree_of-injective ops n earlier within different (Block k) (Secret j) first second same =
    absurd (input-not_value ops earlier (Secret j) k (omega (arith, first, within)) (sym same))
tree_of-injective ops n earlier within different (Block k) (Public j) first second same =
    absurd (input-not_value ops earlier (Public j) k (omega (arith, first, within)) (sym same))
tree_of-injective ops n earlier within different (Block k) (Block j) first second same = ap Block (different k j first second same)

-- no two values are equal
abbrev pub AreDifferent : List Op → Type 0
AreDifferent ops = (i j : ℕ) (x : Op) → slice_get ops i ≡ Some x → slice_get ops j ≡ Some x → i ≡ j

-- an earlier operand is below the length
pub below-length : (ops : List Op) (k : ℕ) (v : Operand) → k < length ops → IsBelow k v → IsBelow (length ops) v
below-length ops k (Secret j) within below = tt
below-length ops k (Public j) within below = tt
below-length ops k (Block j) within below = omega (arith, within, below)

-- equal trees over the first values are those of equal operators over equal operands
pub same-below : (ops : List Op) (n i : ℕ) (x y : Op) → AreEarlier ops → i ≤ n → i < length ops → AllByRecursion (IsBelow i) (operands x)
    → AllByRecursion (IsBelow (length ops)) (operands y)
    → ((a b : ℕ) → a < n → a < length ops → b < length ops → tree_of ops (Block a) ≡ tree_of ops (Block b) → a ≡ b)
    → tree_by (tree_of ops) x ≡ tree_by (tree_of ops) y → x ≡ y
same-below ops n i x y earlier small within first second before same =
    same-op x y (tree_by-root (tree_of ops) (tree_of ops) x y same)
    (map-injective (IsBelow i) (IsBelow (length ops)) (tree_of ops) (operands x) (operands y)
    (tree_of-injective ops i earlier (omega (arith, within)) (λ a b below other equal. before a b (omega (arith, below, small)) (omega (arith, below, within)) other equal))
    first second (tree_by-kids (tree_of ops) (tree_of ops) x y same))

-- different values have different trees
different-below : (ops : List Op) → AreEarlier ops → AreDifferent ops
    → (n i j : ℕ) → i < n → i < length ops → j < length ops → tree_of ops (Block i) ≡ tree_of ops (Block j) → i ≡ j
different-below ops earlier different zero i j below first second same = absurd (omega (arith, below))
different-below ops earlier different (suc n) i j below first second same =
    let x = get_or ops i (Const 0) in
    let y = get_or ops j (Const 0) in
    let x_at : slice_get ops i ≡ Some x = slice_get-get_or ops i (Const 0) first in
    let y_at : slice_get ops j ≡ Some y = slice_get-get_or ops j (Const 0) second in
    let equal : x ≡ y =
    same-below ops n i x y earlier (omega (arith, below)) first (earlier i x x_at)
    (AllByRecursion-weaker (IsBelow j) (IsBelow (length ops)) (operands y) (λ v less. below-length ops j v second less) (earlier j y y_at))
    (different-below ops earlier different n)
    (sym (tree_of-at ops i x earlier x_at) ∙ same ∙ tree_of-at ops j y earlier y_at) in
    different i j x x_at (y_at ∙ ap Some (sym equal))

-- values with equal trees have equal numbers
pub trees-different : (ops : List Op) → AreEarlier ops → AreDifferent ops
    → (i j : ℕ) → i < length ops → j < length ops → tree_of ops (Block i) ≡ tree_of ops (Block j) → i ≡ j
trees-different ops earlier different i j first second same = different-below ops earlier different (suc i) i j (omega arith) first second same

-- a value with the tree of an operator over operands that are there is this operator
pub same-tree : (ops : List Op) (k : ℕ) (x : Op) → AreEarlier ops → AreDifferent ops → k < length ops → AllByRecursion (IsBelow (length ops)) (operands x)
    → tree_of ops (Block k) ≡ tree_by (tree_of ops) x → slice_get ops k ≡ Some x
same-tree ops k x earlier different within below same =
    let y = get_or ops k (Const 0) in
    let y_at : slice_get ops k ≡ Some y = slice_get-get_or ops k (Const 0) within in
    y_at ∙ ap Some (same-below ops (length ops) k y x earlier (omega (arith, within)) within (earlier k y y_at) below
    (λ a b small first second equal. trees-different ops earlier different a b first second equal)
    (sym (tree_of-at ops k y earlier y_at) ∙ same))
