-- Values are simplified in one way only.
use Rattle.std.proofs.Common.{◌≡◌, ℕ, suc, ◌<◌, List, [], ◌∷◌, ◌++◌, inl, inr, All, map, length, slice_get, Some, refl, sym, ◌∙◌, ap, subst, arith}
use Rattle.mk_field.specs.declared.field.FieldId.{FieldId}
use Rattle.mk_field.specs.declared.map.AddMap.{AddMap}
use Rattle.mk_ssa.specs.declared.Op.{Op}
use Rattle.mk_ssa.specs.declared.Operand.{Operand}
use Rattle.mk_ssa.specs.declared.Operand.TheVariants.{Block}
use Rattle.mk_ssa.specs.Values.{Values, IsValues, draft}
use Rattle.mk_ssa.proofs.Lists.{slice_get-at}
use Rattle.mk_simplify.specs.Trees.{Tree, operand_tree, tree_by, trees, tree_of}
use Rattle.mk_simplify.specs.Simplified.{needed, AreKept, IsSimplified}
use Rattle.mk_simplify.specs.Renumbering.{IsBelow, AreEarlier}
use Rattle.mk_simplify.proofs.Trees.{length-trees, tree_of-at, map-injective}
use Rattle.mk_simplify.proofs.Carried.{made-earlier}
use Rattle.mk_simplify.proofs.Different.{same-below, tree_of-injective}
use Rattle.mk_simplify.proofs.Marks.{operands-within}
use Rattle.mk_simplify.proofs.Uses.{kept-different}
use Rattle.mk_simplify.proofs.Whole.{all-recursion, outs-within}

-- the kept trees are determined
kept-only : (wanted before ts first second : List Tree) → AreKept wanted before ts first → AreKept wanted before ts second → first ≡ second
unfolding AreKept
kept-only wanted before [] first second one two = one ∙ sym two
kept-only wanted before (t ∷ ts) first second one two = elim one [
  | inl a ↦ elim two [
    | inl b ↦ a.2 ∙ ap (λ (l : List Tree). t ∷ l) (kept-only wanted (before ++ t ∷ []) ts a.1 b.1 a.3 b.3) ∙ sym b.2
    | inr b ↦ absurd (b.0 a.0)
  ]
  | inr a ↦ elim two [
    | inl b ↦ absurd (a.0 b.0)
    | inr b ↦ kept-only wanted (before ++ t ∷ []) ts first second a.1 b.1
  ]
]

-- lists with equal elements at all places
same-list : {X : Type 0} (xs ys : List X) → length xs ≡ length ys
    → ((k : ℕ) (x y : X) → slice_get xs k ≡ Some x → slice_get ys k ≡ Some y → x ≡ y) → xs ≡ ys
same-list [] [] long same = refl
same-list [] (y ∷ ys) long same = absurd (omega (arith, long))
same-list (x ∷ xs) [] long same = absurd (omega (arith, long))
same-list (x ∷ xs) (y ∷ ys) long same =
    ap (λ z. z ∷ xs) (same 0 x y refl refl)
    ∙ ap (λ zs. y ∷ zs) (same-list xs ys (omega (arith, long)) (λ k a b a_at b_at. same (suc k) a b a_at b_at))

-- values with equal trees that are different are equal
same-values : (ops others : List Op) → AreEarlier ops → AreEarlier others
    → ((i j : ℕ) → i < length ops → j < length ops → tree_of ops (Block i) ≡ tree_of ops (Block j) → i ≡ j)
    → trees ops ≡ trees others → ops ≡ others
same-values ops others earlier others_earlier different same =
    let long : length ops ≡ length others = sym (length-trees ops) ∙ ap length same ∙ length-trees others in
    same-list ops others long (λ k x y x_at y_at.
    let within = (slice_get-at ops k x x x_at).0 in
    let equal : tree_by (tree_of ops) x ≡ tree_by (tree_of ops) y =
    sym (tree_of-at ops k x earlier x_at)
    ∙ ap (λ (ts : List Tree). operand_tree ts (Block k)) same
    ∙ tree_of-at others k y others_earlier y_at
    ∙ ap (λ (ts : List Tree). tree_by (operand_tree ts) y) (sym same) in
    same-below ops (length ops) k x y earlier (omega (arith, within)) within (earlier k x x_at)
    (operands-within others k y (length ops) others_earlier (omega (arith, within)) y_at)
    (λ a b small first second trees_same. different a b first second trees_same) equal)

-- values of these parts
abbrev pub made_of : FieldId → ℕ → ℕ → List AddMap → List Op → List Operand → Values
made_of field secrets publics maps values outs = record { field = field; secrets = secrets; publics = publics; maps = maps; values = values; outs = outs }

-- the simplified values are determined
pub simplified-only : (s r q : Values) → IsValues r → IsValues q → IsSimplified s r → IsSimplified s q → r ≡ q
simplified-only s r q r_whole q_whole first second =
    let r_earlier : AreEarlier r.values = made-earlier (draft r) r_whole.made in
    let values : r.values ≡ q.values =
    same-values r.values q.values r_earlier (made-earlier (draft q) q_whole.made) (kept-different s r first)
    (kept-only (needed s) [] (trees s.values) (trees r.values) (trees q.values) first.kept second.kept) in
    let outs_trees : map (tree_of r.values) r.outs ≡ map (tree_of r.values) q.outs =
    first.outs ∙ sym second.outs ∙ ap (λ (l : List Op). map (tree_of l) q.outs) (sym values) in
    let q_outs : All (IsBelow (length r.values)) q.outs =
    subst (λ (l : List Op). All (IsBelow (length l)) q.outs) (sym values) (outs-within q q_whole) in
    let outs : r.outs ≡ q.outs =
    map-injective (IsBelow (length r.values)) (IsBelow (length r.values)) (tree_of r.values) r.outs q.outs
    (tree_of-injective r.values (length r.values) r_earlier (omega arith) (kept-different s r first))
    (all-recursion (IsBelow (length r.values)) r.outs (outs-within r r_whole)) (all-recursion (IsBelow (length r.values)) q.outs q_outs) outs_trees in
    ap (λ (x : FieldId). made_of x r.secrets r.publics r.maps r.values r.outs) (first.field ∙ sym second.field)
    ∙ ap (λ (x : ℕ). made_of q.field x r.publics r.maps r.values r.outs) (first.secrets ∙ sym second.secrets)
    ∙ ap (λ (x : ℕ). made_of q.field q.secrets x r.maps r.values r.outs) (first.publics ∙ sym second.publics)
    ∙ ap (λ (x : List AddMap). made_of q.field q.secrets q.publics x r.values r.outs) (first.maps ∙ sym second.maps)
    ∙ ap (λ (x : List Op). made_of q.field q.secrets q.publics q.maps x r.outs) values
    ∙ ap (λ (x : List Operand). made_of q.field q.secrets q.publics q.maps q.values x) outs
