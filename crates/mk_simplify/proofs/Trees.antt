-- The trees of values.
use Rattle.std.proofs.Common.{◌≡◌, ℕ, suc, ◌+◌, ◌≤◌, List, [], ◌∷◌, Bool, true, false, length, map, take, slice_get, get_or, Some, refl, sym, ◌∙◌, ap, arith}
use Rattle.std.specs.List.{AllByRecursion}
use Rattle.mk_ssa.specs.declared.Op.{Op}
use Rattle.mk_ssa.specs.declared.Operand.{Operand}
use Rattle.mk_ssa.specs.declared.Operand.TheVariants.{Secret, Public, Block}
use Rattle.mk_ssa.specs.Operators.{Operator, operator, operands, with_operands}
use Rattle.mk_ssa.proofs.Lists.{slice_get-at}
use Rattle.mk_ssa.proofs.InOrder.{length-in_order, in_order-at, in_order-take}
use Rattle.mk_simplify.specs.Trees.{Tree, over, tree_by, operand_tree, next_tree, trees, tree_of}
use Rattle.mk_simplify.specs.Renumbering.{IsBelow, AreEarlier}
use Rattle.mk_simplify.proofs.Operators.{operands-few, operator-with, operands-with, same-op}

-- the operator at the root of a tree
pub root : Tree → Operator
root (Tree.Input v) = Operator.Lift
root (Tree.Leaf o) = o
root (Tree.Unary o a) = o
root (Tree.Binary o a b) = o

-- the trees below the root
unfoldable pub kids : Tree → List Tree
kids (Tree.Input v) = []
kids (Tree.Leaf o) = []
kids (Tree.Unary o a) = a ∷ []
kids (Tree.Binary o a b) = a ∷ b ∷ []

-- whether it is an input
pub is_input : Tree → Bool
is_input (Tree.Input v) = true
is_input (Tree.Leaf o) = false
is_input (Tree.Unary o a) = false
is_input (Tree.Binary o a b) = false

-- the root of an operator over trees
pub root-over : (o : Operator) (ts : List Tree) → root (over o ts) ≡ o
unfolding root
root-over o [] = refl
root-over o (a ∷ []) = refl
root-over o (a ∷ b ∷ more) = refl

-- the trees below it
pub kids-over : (o : Operator) (ts : List Tree) → length ts ≤ 2 → kids (over o ts) ≡ ts
unfolding kids
kids-over o [] few = refl
kids-over o (a ∷ []) few = refl
kids-over o (a ∷ b ∷ []) few = refl
kids-over o (a ∷ b ∷ c ∷ more) few = absurd (omega (arith, few))

-- an operator over trees is no input
pub is_input-over : (o : Operator) (ts : List Tree) → is_input (over o ts) ≡ false
unfolding is_input
is_input-over o [] = refl
is_input-over o (a ∷ []) = refl
is_input-over o (a ∷ b ∷ more) = refl

-- an input is an input
pub is_input-input : (v : Operand) → is_input (Tree.Input v) ≡ true
unfolding is_input
is_input-input v = refl

-- equal images of equal elements
pub map-same : {X Y : Type 0} (f g : X → Y) (xs : List X) → AllByRecursion (λ x. f x ≡ g x) xs → map f xs ≡ map g xs
map-same f g [] same = refl
map-same f g (x ∷ xs) same = ap (λ y. y ∷ map f xs) same.0 ∙ ap (λ ys. g x ∷ ys) (map-same f g xs same.1)

-- the image of an image
pub map-of-map : {X Y Z : Type 0} (g : Y → Z) (f : X → Y) (xs : List X) → map g (map f xs) ≡ map (λ x. g (f x)) xs
map-of-map g f [] = refl
map-of-map g f (x ∷ xs) = ap (λ ys. g (f x) ∷ ys) (map-of-map g f xs)

-- elements with equal images, where those of which P and Q hold are equal then
pub map-injective : {X Y : Type 0} (P Q : X → Type 0) (f : X → Y) (xs ys : List X) → ((x y : X) → P x → Q y → f x ≡ f y → x ≡ y)
    → AllByRecursion P xs → AllByRecursion Q ys → map f xs ≡ map f ys → xs ≡ ys
map-injective P Q f [] [] inject first second same = refl
map-injective P Q f [] (y ∷ ys) inject first second same = absurd (cc)
map-injective P Q f (x ∷ xs) [] inject first second same = absurd (cc)
map-injective P Q f (x ∷ xs) (y ∷ ys) inject first second same =
    let here : f x ≡ f y = cc in
    let rest : map f xs ≡ map f ys = cc in
    ap (λ z. z ∷ xs) (inject x y first.0 second.0 here) ∙ ap (λ zs. y ∷ zs) (map-injective P Q f xs ys inject first.1 second.1 rest)

-- what follows from what holds of each
pub AllByRecursion-weaker : {X : Type 0} (P Q : X → Type 0) (xs : List X) → ((x : X) → P x → Q x) → AllByRecursion P xs → AllByRecursion Q xs
AllByRecursion-weaker P Q [] weaker all = tt
AllByRecursion-weaker P Q (x ∷ xs) weaker all = (weaker x all.0, AllByRecursion-weaker P Q xs weaker all.1)

-- the tree of an operator, where the trees of its operands are the same
pub tree_by-same : (f g : Operand → Tree) (x : Op) → AllByRecursion (λ v. f v ≡ g v) (operands x) → tree_by f x ≡ tree_by g x
tree_by-same f g x same = ap (over (operator x)) (map-same f g (operands x) same)

-- the tree of an operator over other operands
pub tree_by-with : (of : Operand → Tree) (f : Operand → Operand) (x : Op) → tree_by of (with_operands f x) ≡ tree_by (λ v. of (f v)) x
tree_by-with of f x =
    ap (λ (o : Operator). over o (map of (operands (with_operands f x)))) (operator-with f x)
    ∙ ap (λ (vs : List Operand). over (operator x) (map of vs)) (operands-with f x)
    ∙ ap (over (operator x)) (map-of-map of f (operands x))

-- the same operator over other operands
pub with_operands-same : (f g : Operand → Operand) (x : Op) → AllByRecursion (λ v. f v ≡ g v) (operands x) → with_operands f x ≡ with_operands g x
with_operands-same f g x same =
    same-op (with_operands f x) (with_operands g x) (operator-with f x ∙ sym (operator-with g x))
    (operands-with f x ∙ map-same f g (operands x) same ∙ sym (operands-with g x))

-- as many images
pub length-map : {X Y : Type 0} (f : X → Y) (xs : List X) → length (map f xs) ≡ length xs
length-map f [] = refl
length-map f (x ∷ xs) = ap suc (length-map f xs)

-- values with equal trees have equal operators, and operands with equal trees
pub tree_by-root : (f g : Operand → Tree) (x y : Op) → tree_by f x ≡ tree_by g y → operator x ≡ operator y
tree_by-root f g x y same =
    sym (root-over (operator x) (map f (operands x))) ∙ ap root same ∙ root-over (operator y) (map g (operands y))

-- their operands have equal trees
pub tree_by-kids : (f g : Operand → Tree) (x y : Op) → tree_by f x ≡ tree_by g y → map f (operands x) ≡ map g (operands y)
tree_by-kids f g x y same =
    sym (kids-over (operator x) (map f (operands x)) (omega (arith, operands-few x, length-map f (operands x))))
    ∙ ap kids same ∙ kids-over (operator y) (map g (operands y)) (omega (arith, operands-few y, length-map g (operands y)))

-- there is a tree for each value
pub length-trees : (ops : List Op) → length (trees ops) ≡ length ops
length-trees ops = length-in_order next_tree [] ops ∙ omega arith

-- the tree of an operand among the first n values is that among all
pub operand_tree-take : (ops : List Op) (n : ℕ) (v : Operand) → n ≤ length ops → IsBelow n v → operand_tree (trees (take n ops)) v ≡ tree_of ops v
operand_tree-take ops n (Secret k) within below = refl
operand_tree-take ops n (Public k) within below = refl
operand_tree-take ops n (Block k) within below = sym (in_order-take next_tree ops n k (Tree.Input (Block k)) below within)

-- the tree of a value is its operator over the trees of its operands
pub tree_of-at : (ops : List Op) (k : ℕ) (x : Op) → AreEarlier ops → slice_get ops k ≡ Some x → tree_of ops (Block k) ≡ tree_by (tree_of ops) x
tree_of-at ops k x earlier at =
    let here = slice_get-at ops k x x at in
    let e : 0 + k ≡ k = omega arith in
    ap (λ (n : ℕ). get_or (trees ops) n (Tree.Input (Block k))) (sym e)
    ∙ in_order-at next_tree [] ops k x (Tree.Input (Block k)) at
    ∙ tree_by-same (operand_tree (trees (take k ops))) (tree_of ops) x
    (AllByRecursion-weaker (IsBelow k) (λ v. operand_tree (trees (take k ops)) v ≡ tree_of ops v) (operands x)
    (λ v below. operand_tree-take ops k v (omega (arith, here.0)) below) (earlier k x at))

-- it is no input
pub is_input-at : (ops : List Op) (k : ℕ) (x : Op) → AreEarlier ops → slice_get ops k ≡ Some x → is_input (tree_of ops (Block k)) ≡ false
is_input-at ops k x earlier at = ap is_input (tree_of-at ops k x earlier at) ∙ is_input-over (operator x) (map (tree_of ops) (operands x))
