-- Simplified values have no more of any operator, and no more constants than there are elements.
use Rattle.std.proofs.Common.{◌≡◌, ℕ, suc, ◌+◌, ◌≤◌, List, [], ◌∷◌, ◌++◌, inl, inr, Bool, true, false, ◌||◌, cond, eqb, map, length, slice_get, Some, refl, sym, ◌∙◌, ap, subst, arith}
use Rattle.std.specs.List.{AllByRecursion, IsDistinct, list_any, count_by}
use Rattle.std.proofs.lemmas.Bool.{eqb-true}
use Rattle.std.proofs.lemmas.List.Recursion.{is_count_by}
use Rattle.std.proofs.lemmas.Map.Steps.{length-le_from_distinct_below}
use Rattle.mk_field.specs.Field.{size}
use Rattle.mk_ssa.specs.declared.Op.{Op}
use Rattle.mk_ssa.specs.declared.Op.TheVariants.{Const}
use Rattle.mk_ssa.specs.Operators.{Operator, operator, operands}
use Rattle.mk_ssa.specs.Values.{Values, IsDraft, draft}
use Rattle.mk_ssa.specs.Denoted.{in_order}
use Rattle.mk_simplify.specs.Trees.{Tree, operand_tree, next_tree, trees}
use Rattle.mk_simplify.specs.Simplified.{needed, AreKept, IsSimplified, count_operators, is_constant}
use Rattle.mk_simplify.proofs.Trees.{root, root-over}

-- how many pass
count : {X : Type 0} → (X → Bool) → List X → ℕ
count p [] = 0
count p (x ∷ xs) = cond (p x) (1 + count p xs) (count p xs)

-- it is the library's count
count-count_by : {X : Type 0} (p : X → Bool) (xs : List X) → count p xs ≡ count_by p xs
unfolding count
count-count_by p xs = is_count_by (count p) p refl (λ x xs. refl) xs

-- how many images pass
count-map : {X Y : Type 0} (p : Y → Bool) (f : X → Y) (xs : List X) → count p (map f xs) ≡ count (λ x. p (f x)) xs
unfolding count
count-map p f [] = refl
count-map p f (x ∷ xs) = ap (λ n. cond (p (f x)) (1 + n) n) (count-map p f xs)

-- one more on both sides, or on the greater
more-both : (b : Bool) (m n : ℕ) → m ≤ n → cond b (1 + m) m ≤ cond b (1 + n) n
more-both true m n less = omega (arith, less)
more-both false m n less = less

-- one more on the greater side alone
more-behind : (b : Bool) (m n : ℕ) → m ≤ n → m ≤ cond b (1 + n) n
more-behind true m n less = omega (arith, less)
more-behind false m n less = less

-- no more kept trees pass than trees
count-kept : (p : Tree → Bool) (wanted before ts kept : List Tree) → AreKept wanted before ts kept → count p kept ≤ count p ts
unfolding AreKept count
count-kept p wanted before [] kept are = let e : count p kept ≡ 0 = ap (count p) are in omega (arith, e)
count-kept p wanted before (t ∷ ts) kept are = elim are [
  | inl here ↦
      subst (λ (l : List Tree). count p l ≤ count p (t ∷ ts)) (sym here.2)
      (more-both (p t) (count p here.1) (count p ts) (count-kept p wanted (before ++ t ∷ []) ts here.1 here.3))
  | inr other ↦ more-behind (p t) (count p kept) (count p ts) (count-kept p wanted (before ++ t ∷ []) ts kept other.1)
]

-- the images of two lists one after the other
map-append : {X Y : Type 0} (f : X → Y) (xs ys : List X) → map f (xs ++ ys) ≡ map f xs ++ map f ys
map-append f [] ys = refl
map-append f (x ∷ xs) ys = ap (λ zs. f x ∷ zs) (map-append f xs ys)

-- one element at the end of the first list, or at the front of the second
append-one : {X : Type 0} (xs : List X) (x : X) (ys : List X) → (xs ++ x ∷ []) ++ ys ≡ xs ++ x ∷ ys
append-one [] x ys = refl
append-one (z ∷ zs) x ys = ap (λ l. z ∷ l) (append-one zs x ys)

-- the operators at the roots of the trees
roots : (before : List Tree) (ops : List Op) → map root (in_order next_tree before ops) ≡ map root before ++ map operator ops
unfolding in_order
roots before [] = append-none (map root before)
  where
    append-none : (xs : List Operator) → xs ≡ xs ++ []
    append-none [] = refl
    append-none (x ∷ xs) = ap (λ l. x ∷ l) (append-none xs)
roots before (x ∷ xs) =
    let t = next_tree before x in
    roots (before ++ t ∷ []) xs
    ∙ ap (λ l. l ++ map operator xs) (map-append root before (t ∷ []))
    ∙ ap (λ o. (map root before ++ o ∷ []) ++ map operator xs) (root-over (operator x) (map (operand_tree before) (operands x)))
    ∙ append-one (map root before) (operator x) (map operator xs)

-- as many trees have such a root as there are such values
count-roots : (p : Operator → Bool) (s : Values) → count (λ t. p (root t)) (trees s.values) ≡ count_operators p s
unfolding in_order
count-roots p s =
    sym (count-map p root (trees s.values)) ∙ ap (count p) (roots [] s.values) ∙ count-map p operator s.values
    ∙ count-count_by (λ x. p (operator x)) s.values

-- no more values have an operator that passes the test
pub simplified-operators : (s r : Values) → IsSimplified s r → (p : Operator → Bool) → count_operators p r ≤ count_operators p s
simplified-operators s r is p =
    let less : count (λ t. p (root t)) (trees r.values) ≤ count (λ t. p (root t)) (trees s.values) =
    count-kept (λ t. p (root t)) (needed s) [] (trees s.values) (trees r.values) is.kept in
    omega (arith, less, count-roots p s, count-roots p r)

-- ---- constants

-- the elements that are constants
constants : List Op → List ℕ
constants [] = []
constants (Const value ∷ ops) = value ∷ constants ops
constants (x ∷ ops) = constants ops

-- as many as there are constants
length-constants : (ops : List Op) → length (constants ops) ≡ count (λ x. is_constant (operator x)) ops
unfolding constants count
length-constants [] = refl
length-constants (Const value ∷ ops) = omega (arith, length-constants ops)
length-constants (x ∷ ops) = length-constants ops

-- a constant that is there
constants-from : (ops : List Op) (v : ℕ) → list_any (eqb v) (constants ops) ≡ true → (k : ℕ) × (slice_get ops k ≡ Some (Const v))
unfolding constants
constants-from [] v there = absurd (cc)
constants-from (Const value ∷ ops) v there = either (eqb v value) refl there (constants-from ops v)
  where
    either : (b : Bool) → eqb v value ≡ b → (b || list_any (eqb v) (constants ops)) ≡ true
        → (list_any (eqb v) (constants ops) ≡ true → (k : ℕ) × (slice_get ops k ≡ Some (Const v))) → (k : ℕ) × (slice_get (Const value ∷ ops) k ≡ Some (Const v))
    either true same there behind = (0, ap (λ a. Some (Const a)) (sym (eqb-true v value same)))
    either false other there behind = let rest = behind there in (suc rest.0, rest.1)
constants-from (x ∷ ops) v there = let rest = constants-from ops v there in (suc rest.0, rest.1)

-- no constant is equal to one of these
apart : (v : ℕ) (vs : List ℕ) → (list_any (eqb v) vs ≡ true → ⊥) → AllByRecursion (λ w. eqb v w ≡ false) vs
apart v [] none = tt
apart v (w ∷ ws) none = (first (eqb v w) refl none, apart v ws (λ there. none (behind (eqb v w) there)))
  where
    first : (b : Bool) → eqb v w ≡ b → ((b || list_any (eqb v) ws) ≡ true → ⊥) → eqb v w ≡ false
    first true same not = absurd (not refl)
    first false other not = other

    behind : (b : Bool) → list_any (eqb v) ws ≡ true → (b || list_any (eqb v) ws) ≡ true
    behind true there = refl
    behind false there = there

-- constants of different values are different
constants-distinct : (ops : List Op) → ((i j : ℕ) (x : Op) → slice_get ops i ≡ Some x → slice_get ops j ≡ Some x → i ≡ j) → IsDistinct eqb (constants ops)
unfolding constants IsDistinct
constants-distinct [] different = tt
constants-distinct (Const value ∷ ops) different = (
  apart value (constants ops) (λ there.
      let found = constants-from ops value there in
      let same : 0 ≡ suc found.0 = different 0 (suc found.0) (Const value) refl found.1 in
      absurd (omega (arith, same))),
  constants-distinct ops (λ i j x first second. let same : suc i ≡ suc j = different (suc i) (suc j) x first second in omega (arith, same)),
)
constants-distinct (x ∷ ops) different =
    constants-distinct ops (λ i j y first second. let same : suc i ≡ suc j = different (suc i) (suc j) y first second in omega (arith, same))

-- at most as many constants as elements
pub few-constants : (r : Values) → IsDraft (draft r) → ((i j : ℕ) (x : Op) → slice_get r.values i ≡ Some x → slice_get r.values j ≡ Some x → i ≡ j)
    → count_operators is_constant r ≤ size r.field
few-constants r made different =
    let long : length (constants r.values) ≡ count_operators is_constant r =
    length-constants r.values ∙ count-count_by (λ x. is_constant (operator x)) r.values in
    let few : length (constants r.values) ≤ size r.field =
    length-le_from_distinct_below (constants r.values) (size r.field) (constants-distinct r.values different)
    (λ v there. let found = constants-from r.values v there in made.fit found.0 (Const v) found.1) in
    subst (λ n. n ≤ size r.field) long few
