-- What outputs stand for is decided by their trees.
use Rattle.std.proofs.Common.{◌≡◌, ℕ, zero, suc, ◌+◌, ◌<◌, List, [], All, bit_xor, map, length, take, slice_get, get_or, Some, refl, sym, ◌∙◌, ap, arith}
use Rattle.std.specs.List.{AllByRecursion}
use Rattle.std.proofs.lemmas.List.Elements.{All-weaker}
use Rattle.std.proofs.lemmas.Option.{slice_get-get_or}
use Rattle.mk_field.specs.declared.field.FieldId.{FieldId}
use Rattle.mk_field.specs.declared.map.AddMap.{AddMap}
use Rattle.mk_field.specs.Field.{product, square, image_by}
use Rattle.mk_ssa.specs.declared.Op.{Op}
use Rattle.mk_ssa.specs.declared.Op.TheVariants.{Const, PubAdd, PubMul, PubSq, PubMap, Lift, Add, AddPub, Scale, Sq, Map, Mul, Refresh}
use Rattle.mk_ssa.specs.declared.Operand.{Operand}
use Rattle.mk_ssa.specs.declared.Operand.TheVariants.{Secret, Public, Block}
use Rattle.mk_ssa.specs.Operators.{Operator, operands}
use Rattle.mk_ssa.specs.Values.{Values}
use Rattle.mk_ssa.specs.Denoted.{operand_value, value_by, value_of, values_of, denoted}
use Rattle.mk_ssa.proofs.InOrder.{in_order-at, in_order-take}
use Rattle.mk_simplify.specs.Trees.{Tree, tree_by, tree_of}
use Rattle.mk_simplify.specs.Simplified.{IsSimplified}
use Rattle.mk_simplify.specs.Renumbering.{IsBelow, AreEarlier}
use Rattle.mk_simplify.proofs.Trees.{tree_of-at, map-same, map-of-map, AllByRecursion-weaker}
use Rattle.mk_simplify.proofs.Whole.{all-recursion}

-- what an operator makes of two elements
worth : FieldId → List AddMap → Operator → ℕ → ℕ → ℕ
worth field maps (Operator.Const value) a b = value
worth field maps Operator.PubAdd a b = bit_xor a b
worth field maps Operator.PubMul a b = product field a b
worth field maps Operator.PubSq a b = square field a
worth field maps (Operator.PubMap map) a b = image_by maps map a
worth field maps Operator.Lift a b = a
worth field maps Operator.Add a b = bit_xor a b
worth field maps Operator.AddPub a b = bit_xor a b
worth field maps Operator.Scale a b = product field a b
worth field maps Operator.Sq a b = square field a
worth field maps (Operator.Map map) a b = image_by maps map a
worth field maps Operator.Mul a b = product field a b
worth field maps Operator.Refresh a b = a

-- what a tree stands for
meaning : FieldId → List AddMap → List ℕ → List ℕ → Tree → ℕ
meaning field maps publics secrets (Tree.Input v) = operand_value publics secrets [] v
meaning field maps publics secrets (Tree.Leaf o) = worth field maps o 0 0
meaning field maps publics secrets (Tree.Unary o a) = worth field maps o (meaning field maps publics secrets a) 0
meaning field maps publics secrets (Tree.Binary o a b) = worth field maps o (meaning field maps publics secrets a) (meaning field maps publics secrets b)

-- an operator over trees stands for what it makes of what they stand for
meaning-tree_by : (field : FieldId) (maps : List AddMap) (publics secrets : List ℕ) (of : Operand → Tree) (x : Op)
    → meaning field maps publics secrets (tree_by of x) ≡ value_by field maps (λ v. meaning field maps publics secrets (of v)) x
unfolding worth meaning
meaning-tree_by field maps publics secrets of (Const value) = refl
meaning-tree_by field maps publics secrets of (PubAdd left right) = refl
meaning-tree_by field maps publics secrets of (PubMul left right) = refl
meaning-tree_by field maps publics secrets of (PubSq arg) = refl
meaning-tree_by field maps publics secrets of (PubMap map arg) = refl
meaning-tree_by field maps publics secrets of (Lift arg) = refl
meaning-tree_by field maps publics secrets of (Add left right) = refl
meaning-tree_by field maps publics secrets of (AddPub left right) = refl
meaning-tree_by field maps publics secrets of (Scale left right) = refl
meaning-tree_by field maps publics secrets of (Sq arg) = refl
meaning-tree_by field maps publics secrets of (Map map arg) = refl
meaning-tree_by field maps publics secrets of (Mul left right) = refl
meaning-tree_by field maps publics secrets of (Refresh arg) = refl

-- what an operator makes of the same
value_by-same : (field : FieldId) (maps : List AddMap) (f g : Operand → ℕ) (x : Op) → AllByRecursion (λ v. f v ≡ g v) (operands x)
    → value_by field maps f x ≡ value_by field maps g x
value_by-same field maps f g (Const value) same = refl
value_by-same field maps f g (PubAdd left right) same = ap (λ (a : ℕ). bit_xor a (f right)) same.0 ∙ ap (λ (b : ℕ). bit_xor (g left) b) same.1.0
value_by-same field maps f g (PubMul left right) same = ap (λ (a : ℕ). product field a (f right)) same.0 ∙ ap (λ (b : ℕ). product field (g left) b) same.1.0
value_by-same field maps f g (PubSq arg) same = ap (λ (a : ℕ). square field a) same.0
value_by-same field maps f g (PubMap map arg) same = ap (λ (a : ℕ). image_by maps map a) same.0
value_by-same field maps f g (Lift arg) same = same.0
value_by-same field maps f g (Add left right) same = ap (λ (a : ℕ). bit_xor a (f right)) same.0 ∙ ap (λ (b : ℕ). bit_xor (g left) b) same.1.0
value_by-same field maps f g (AddPub left right) same = ap (λ (a : ℕ). bit_xor a (f right)) same.0 ∙ ap (λ (b : ℕ). bit_xor (g left) b) same.1.0
value_by-same field maps f g (Scale left right) same = ap (λ (a : ℕ). product field a (f right)) same.0 ∙ ap (λ (b : ℕ). product field (g left) b) same.1.0
value_by-same field maps f g (Sq arg) same = ap (λ (a : ℕ). square field a) same.0
value_by-same field maps f g (Map map arg) same = ap (λ (a : ℕ). image_by maps map a) same.0
value_by-same field maps f g (Mul left right) same = ap (λ (a : ℕ). product field a (f right)) same.0 ∙ ap (λ (b : ℕ). product field (g left) b) same.1.0
value_by-same field maps f g (Refresh arg) same = same.0

-- an operand of a value, where earlier values stand for what their trees do
before-meaning : (field : FieldId) (maps : List AddMap) (publics secrets : List ℕ) (ops : List Op) (k : ℕ) → k < length ops
    → ((j : ℕ) → j < k → get_or (values_of field maps publics secrets ops) j 0 ≡ meaning field maps publics secrets (tree_of ops (Block j)))
    → (v : Operand) → IsBelow k v → operand_value publics secrets (values_of field maps publics secrets (take k ops)) v ≡ meaning field maps publics secrets (tree_of ops v)
unfolding meaning
before-meaning field maps publics secrets ops k within before (Secret i) below = refl
before-meaning field maps publics secrets ops k within before (Public i) below = refl
before-meaning field maps publics secrets ops k within before (Block i) below =
    sym (in_order-take (value_of field maps publics secrets) ops k i 0 below (omega (arith, within))) ∙ before i below

-- a value stands for what its tree does
value-meaning : (field : FieldId) (maps : List AddMap) (publics secrets : List ℕ) (ops : List Op) → AreEarlier ops → (n k : ℕ) → k < n → k < length ops
    → get_or (values_of field maps publics secrets ops) k 0 ≡ meaning field maps publics secrets (tree_of ops (Block k))
value-meaning field maps publics secrets ops earlier zero k below within = absurd (omega (arith, below))
value-meaning field maps publics secrets ops earlier (suc n) k below within =
    let x = get_or ops k (Const 0) in
    let at : slice_get ops k ≡ Some x = slice_get-get_or ops k (Const 0) within in
    let e : 0 + k ≡ k = omega arith in
    let parts = values_of field maps publics secrets (take k ops) in
    let stands = meaning field maps publics secrets in
    ap (λ (i : ℕ). get_or (values_of field maps publics secrets ops) i 0) (sym e)
    ∙ in_order-at (value_of field maps publics secrets) [] ops k x 0 at
    ∙ value_by-same field maps (operand_value publics secrets parts) (λ v. stands (tree_of ops v)) x
    (AllByRecursion-weaker (IsBelow k) (λ v. operand_value publics secrets parts v ≡ stands (tree_of ops v)) (operands x)
    (before-meaning field maps publics secrets ops k within
    (λ j less. value-meaning field maps publics secrets ops earlier n j (omega (arith, less, below)) (omega (arith, less, within))))
    (earlier k x at))
    ∙ sym (meaning-tree_by field maps publics secrets (tree_of ops) x)
    ∙ ap stands (sym (tree_of-at ops k x earlier at))

-- an operand stands for what its tree does
operand-meaning : (field : FieldId) (maps : List AddMap) (publics secrets : List ℕ) (ops : List Op) → AreEarlier ops → (v : Operand) → IsBelow (length ops) v
    → operand_value publics secrets (values_of field maps publics secrets ops) v ≡ meaning field maps publics secrets (tree_of ops v)
unfolding meaning
operand-meaning field maps publics secrets ops earlier (Secret i) below = refl
operand-meaning field maps publics secrets ops earlier (Public i) below = refl
operand-meaning field maps publics secrets ops earlier (Block i) below = value-meaning field maps publics secrets ops earlier (suc i) i (omega arith) below

-- the outputs stand for what their trees do
denoted-meaning : (s : Values) (publics secrets : List ℕ) → AreEarlier s.values → All (IsBelow (length s.values)) s.outs
    → denoted s publics secrets ≡ map (meaning s.field s.maps publics secrets) (map (tree_of s.values) s.outs)
denoted-meaning s publics secrets earlier outs =
    let values = values_of s.field s.maps publics secrets s.values in
    let stands = meaning s.field s.maps publics secrets in
    map-same (operand_value publics secrets values) (λ v. stands (tree_of s.values v)) s.outs
    (all-recursion (λ v. operand_value publics secrets values v ≡ stands (tree_of s.values v)) s.outs
    (All-weaker (IsBelow (length s.values)) (λ v. operand_value publics secrets values v ≡ stands (tree_of s.values v))
    (operand-meaning s.field s.maps publics secrets s.values earlier) s.outs outs))
    ∙ sym (map-of-map stands (tree_of s.values) s.outs)

-- simplified values stand for the same
pub simplified-meaning : (s r : Values) → IsSimplified s r → AreEarlier s.values → AreEarlier r.values → All (IsBelow (length s.values)) s.outs
    → All (IsBelow (length r.values)) r.outs → (publics secrets : List ℕ) → denoted r publics secrets ≡ denoted s publics secrets
simplified-meaning s r is earlier r_earlier outs r_outs publics secrets =
    denoted-meaning r publics secrets r_earlier r_outs
    ∙ ap (λ (f : FieldId). map (meaning f r.maps publics secrets) (map (tree_of r.values) r.outs)) is.field
    ∙ ap (λ (m : List AddMap). map (meaning s.field m publics secrets) (map (tree_of r.values) r.outs)) is.maps
    ∙ ap (map (meaning s.field s.maps publics secrets)) is.outs
    ∙ sym (denoted-meaning s publics secrets earlier outs)
