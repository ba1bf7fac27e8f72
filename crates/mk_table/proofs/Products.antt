-- The values of the program of a table, simplified, have 34 products.
use Rattle.std.proofs.Common.{◌≡◌, ◌⊎◌, ℕ, zero, suc, ◌+◌, ◌*◌, Bool, true, false, not, ◌&&◌, cond, nat_eq, nat_lt, List, [], ◌∷◌, ◌++◌, Contains, map, length, refl, sym, ap, subst, ◌∙◌, inl, inr, arith, true≢false}
use Rattle.std.specs.Prelude.{slice_index_or}
use Rattle.std.specs.Fmt.{digits}
use Rattle.std.specs.List.{AllByRecursion, position_or_len}
use Rattle.std.proofs.lemmas.Bool.{and_parts, eqb-true, ltb-true}
use Rattle.std.proofs.lemmas.Bool.Decides.{Decides-eqb}
use Rattle.std.proofs.lemmas.List.Recursion.{is_count_by}
use Rattle.mk_field.specs.declared.field.FieldId.TheVariants.{Gf256}
use Rattle.mk_ssa.specs.declared.Operand.{Operand}
use Rattle.mk_ssa.specs.declared.Operand.TheVariants.{Secret, Public, Block}
use Rattle.mk_ssa.specs.declared.Op.{Op}
use Rattle.mk_ssa.specs.Operators.{Operator, operator, operands}
use Rattle.mk_ssa.specs.Values.{Values}
use Rattle.mk_ssa.specs.Denoted.{in_order}
use Rattle.mk_types.specs.Elements.{secrets_of, publics_of, maps_of}
use Rattle.mk_types.specs.Environment.{output_elements}
use Rattle.mk_unroll.specs.Unrolled.{Unrolling}
use Rattle.mk_simplify.specs.Trees.{Tree, over, operand_tree, next_tree, trees, parts}
use Rattle.mk_simplify.specs.Simplified.{needed, IsKept, AreKept, IsSimplified, count_operators}
use Rattle.mk_table.specs.Source.{source_decls, source}
use Rattle.mk_table.specs.Table.{is_product, HasProducts}
use Rattle.mk_table.proofs.Typing.{of_bits}
use Rattle.mk_table.proofs.Values.{whole_unrolling, source_unrolls}

-- whether the root of a tree is a product
abbrev product_root : Tree → Bool
product_root (Tree.Input v) = false
product_root (Tree.Leaf o) = is_product o
product_root (Tree.Unary o a) = is_product o
product_root (Tree.Binary o a b) = is_product o

-- the exponent of x that a tree of squares and products stands for
abbrev weight : Tree → ℕ
weight (Tree.Input v) = 1
weight (Tree.Leaf o) = 0
weight (Tree.Unary o a) = 2 * weight a
weight (Tree.Binary o a b) = cond (is_product o) (weight a + weight b) 0

-- whether it is a square
abbrev is_square : Operator → Bool
is_square (Operator.Const value) = false
is_square Operator.PubAdd = false
is_square Operator.PubMul = false
is_square Operator.PubSq = false
is_square (Operator.PubMap map) = false
is_square Operator.Lift = false
is_square Operator.Add = false
is_square Operator.AddPub = false
is_square Operator.Scale = false
is_square Operator.Sq = true
is_square (Operator.Map map) = false
is_square Operator.Mul = false
is_square Operator.Refresh = false

-- then it is the square
square_is : (o : Operator) → is_square o ≡ true → o ≡ Operator.Sq
square_is (Operator.Const value) is = absurd (true≢false (sym is))
square_is Operator.PubAdd is = absurd (true≢false (sym is))
square_is Operator.PubMul is = absurd (true≢false (sym is))
square_is Operator.PubSq is = absurd (true≢false (sym is))
square_is (Operator.PubMap map) is = absurd (true≢false (sym is))
square_is Operator.Lift is = absurd (true≢false (sym is))
square_is Operator.Add is = absurd (true≢false (sym is))
square_is Operator.AddPub is = absurd (true≢false (sym is))
square_is Operator.Scale is = absurd (true≢false (sym is))
square_is Operator.Sq is = refl
square_is (Operator.Map map) is = absurd (true≢false (sym is))
square_is Operator.Mul is = absurd (true≢false (sym is))
square_is Operator.Refresh is = absurd (true≢false (sym is))

-- and a product is the product
product_is : (o : Operator) → is_product o ≡ true → o ≡ Operator.Mul
product_is (Operator.Const value) is = absurd (true≢false (sym is))
product_is Operator.PubAdd is = absurd (true≢false (sym is))
product_is Operator.PubMul is = absurd (true≢false (sym is))
product_is Operator.PubSq is = absurd (true≢false (sym is))
product_is (Operator.PubMap map) is = absurd (true≢false (sym is))
product_is Operator.Lift is = absurd (true≢false (sym is))
product_is Operator.Add is = absurd (true≢false (sym is))
product_is Operator.AddPub is = absurd (true≢false (sym is))
product_is Operator.Scale is = absurd (true≢false (sym is))
product_is Operator.Sq is = absurd (true≢false (sym is))
product_is (Operator.Map map) is = absurd (true≢false (sym is))
product_is Operator.Mul is = refl
product_is Operator.Refresh is = absurd (true≢false (sym is))

-- whether two operands are the same secret
abbrev same_secret : Operand → Operand → Bool
same_secret (Secret k) (Secret j) = nat_eq k j
same_secret (Secret k) (Public j) = false
same_secret (Secret k) (Block j) = false
same_secret (Public k) w = false
same_secret (Block k) w = false

-- then they are the same
secret_is : (v w : Operand) → same_secret v w ≡ true → v ≡ w
secret_is (Secret k) (Secret j) is = ap Secret (eqb-true k j is)
secret_is (Secret k) (Public j) is = absurd (true≢false (sym is))
secret_is (Secret k) (Block j) is = absurd (true≢false (sym is))
secret_is (Public k) w is = absurd (true≢false (sym is))
secret_is (Block k) w is = absurd (true≢false (sym is))

-- whether two trees are the same squares and products of secrets
abbrev same : Tree → Tree → Bool
same (Tree.Input v) (Tree.Input w) = same_secret v w
same (Tree.Input v) (Tree.Leaf p) = false
same (Tree.Input v) (Tree.Unary p c) = false
same (Tree.Input v) (Tree.Binary p c d) = false
same (Tree.Leaf o) t = false
same (Tree.Unary o a) (Tree.Input w) = false
same (Tree.Unary o a) (Tree.Leaf p) = false
same (Tree.Unary o a) (Tree.Unary p c) = is_square o && (is_square p && same a c)
same (Tree.Unary o a) (Tree.Binary p c d) = false
same (Tree.Binary o a b) (Tree.Input w) = false
same (Tree.Binary o a b) (Tree.Leaf p) = false
same (Tree.Binary o a b) (Tree.Unary p c) = false
same (Tree.Binary o a b) (Tree.Binary p c d) = is_product o && (is_product p && (same a c && same b d))

-- then they are the same tree
tree_is : (s t : Tree) → same s t ≡ true → s ≡ t
tree_is (Tree.Input v) (Tree.Input w) is = ap Tree.Input (secret_is v w is)
tree_is (Tree.Input v) (Tree.Leaf p) is = absurd (true≢false (sym is))
tree_is (Tree.Input v) (Tree.Unary p c) is = absurd (true≢false (sym is))
tree_is (Tree.Input v) (Tree.Binary p c d) is = absurd (true≢false (sym is))
tree_is (Tree.Leaf o) t is = absurd (true≢false (sym is))
tree_is (Tree.Unary o a) (Tree.Input w) is = absurd (true≢false (sym is))
tree_is (Tree.Unary o a) (Tree.Leaf p) is = absurd (true≢false (sym is))
tree_is (Tree.Unary o a) (Tree.Unary p c) is =
    let first = and_parts (is_square o) (is_square p && same a c) is in
    let second = and_parts (is_square p) (same a c) first.1 in
    λ i. Tree.Unary ((square_is o first.0 ∙ sym (square_is p second.0)) i) (tree_is a c second.1 i)
tree_is (Tree.Unary o a) (Tree.Binary p c d) is = absurd (true≢false (sym is))
tree_is (Tree.Binary o a b) (Tree.Input w) is = absurd (true≢false (sym is))
tree_is (Tree.Binary o a b) (Tree.Leaf p) is = absurd (true≢false (sym is))
tree_is (Tree.Binary o a b) (Tree.Unary p c) is = absurd (true≢false (sym is))
tree_is (Tree.Binary o a b) (Tree.Binary p c d) is =
    let first = and_parts (is_product o) (is_product p && (same a c && same b d)) is in
    let second = and_parts (is_product p) (same a c && same b d) first.1 in
    let third = and_parts (same a c) (same b d) second.1 in
    λ i. Tree.Binary ((product_is o first.0 ∙ sym (product_is p second.0)) i) (tree_is a c third.0 i) (tree_is b d third.1 i)

-- how many pass
abbrev count : {X : Type 0} → (X → Bool) → List X → ℕ
count p [] = 0
count p (x ∷ xs) = cond (p x) (1 + count p xs) (count p xs)

-- those that pass
abbrev passing : (Tree → Bool) → List Tree → List Tree
passing p [] = []
passing p (t ∷ ts) = cond (p t) (t ∷ passing p ts) (passing p ts)

-- whether no tree has this weight
abbrev none_weighs : ℕ → List Tree → Bool
none_weighs w [] = true
none_weighs w (t ∷ ts) = not (nat_eq (weight t) w) && none_weighs w ts

-- then none is a tree of this weight
none_is : (t : Tree) (ts : List Tree) → none_weighs (weight t) ts ≡ true → Contains ts t → ⊥
none_is t [] none (k, within, is) = omega (arith, within)
none_is t (s ∷ ts) none (zero, within, is) =
    true≢false (sym (and_parts (not (nat_eq (weight s) (weight t))) (none_weighs (weight t) ts) none).0 ∙ ap not ((Decides-eqb (weight s) (weight t)).1 (ap weight is)))
none_is t (s ∷ ts) none (suc k, within, is) =
    none_is t ts (and_parts (not (nat_eq (weight s) (weight t))) (none_weighs (weight t) ts) none).1 (k, omega (arith, within), is)

-- whether each product has another weight than all trees before it
abbrev all_apart : List Tree → List Tree → Bool
all_apart before [] = true
all_apart before (t ∷ ts) = cond (product_root t) (none_weighs (weight t) before) true && all_apart (before ++ t ∷ []) ts

-- where each product is apart and needed, all are kept
all_kept : (wanted before ts kept : List Tree) → AreKept wanted before ts kept → all_apart before ts ≡ true
    → AllByRecursion (λ t. Contains wanted t) (passing product_root ts) → count product_root kept ≡ count product_root ts
unfolding AreKept
all_kept wanted before [] kept are apart found = ap (count product_root) are
all_kept wanted before (t ∷ ts) kept are apart found =
    let tests = and_parts (cond (product_root t) (none_weighs (weight t) before) true) (all_apart (before ++ t ∷ []) ts) apart in
    by (product_root t) refl tests.0 found are
    (λ rest more_found inner. all_kept wanted (before ++ t ∷ []) ts rest inner tests.1 more_found)
  where
    by : (b : Bool) → product_root t ≡ b → cond b (none_weighs (weight t) before) true ≡ true
        → AllByRecursion (λ t. Contains wanted t) (cond b (t ∷ passing product_root ts) (passing product_root ts))
        → (IsKept wanted before t × (rest : List Tree) × (kept ≡ t ∷ rest) × AreKept wanted (before ++ t ∷ []) ts rest)
        ⊎ ((¬ IsKept wanted before t) × AreKept wanted (before ++ t ∷ []) ts kept)
        → ((rest : List Tree) → AllByRecursion (λ t. Contains wanted t) (passing product_root ts) → AreKept wanted (before ++ t ∷ []) ts rest → count product_root rest ≡ count product_root ts)
        → count product_root kept ≡ cond b (1 + count product_root ts) (count product_root ts)
    by true is apart found (inl here) again =
        ap (count product_root) here.2 ∙ ap (λ b. cond b (1 + count product_root here.1) (count product_root here.1)) is ∙ ap (λ n. 1 + n) (again here.1 found.1 here.3)
    by true is apart found (inr other) again = absurd (other.0 (none_is t before apart, found.0))
    by false is apart found (inl here) again =
        ap (count product_root) here.2 ∙ ap (λ b. cond b (1 + count product_root here.1) (count product_root here.1)) is ∙ again here.1 found here.3
    by false is apart found (inr other) again = again kept found other.1

-- trees that stand at their places in a list are in it
located : (wanted : List Tree) (place : Tree → ℕ) (ts : List Tree) → map (λ t. same (slice_index_or wanted (place t) t) t) ts ≡ map (λ t. true) ts
    → map (λ t. nat_lt (place t) (length wanted)) ts ≡ map (λ t. true) ts → AllByRecursion (λ t. Contains wanted t) ts
located wanted place [] there within = tt
located wanted place (t ∷ ts) there within =
    let here : same (slice_index_or wanted (place t) t) t ≡ true = cc in
    let behind : map (λ t. same (slice_index_or wanted (place t) t) t) ts ≡ map (λ t. true) ts = cc in
    let inside : nat_lt (place t) (length wanted) ≡ true = cc in
    let later : map (λ t. nat_lt (place t) (length wanted)) ts ≡ map (λ t. true) ts = cc in
    ((place t, ltb-true (place t) (length wanted) inside, tree_is (slice_index_or wanted (place t) t) t here), located wanted place ts behind later)

-- the root of an operator over trees
root_over : (o : Operator) (ts : List Tree) → product_root (over o ts) ≡ is_product o
root_over o [] = refl
root_over o (a ∷ []) = refl
root_over o (a ∷ b ∷ more) = refl

-- one more tree at the end
count-last : (before : List Tree) (t : Tree) → count product_root (before ++ t ∷ []) ≡ count product_root before + cond (product_root t) 1 0
count-last [] t = at_end (product_root t)
  where
    at_end : (b : Bool) → cond b (1 + 0) 0 ≡ 0 + cond b 1 0
    at_end true = refl
    at_end false = refl
count-last (s ∷ before) t = one_more (product_root s) (count product_root (before ++ t ∷ [])) (count product_root before) (cond (product_root t) 1 0) (count-last before t)
  where
    one_more : (b : Bool) (m n k : ℕ) → m ≡ n + k → cond b (1 + m) m ≡ cond b (1 + n) n + k
    one_more true m n k is = omega (arith, is)
    one_more false m n k is = is

-- as many trees are products as there are values that are
count-trees : (before : List Tree) (ops : List Op) → count product_root (in_order next_tree before ops) ≡ count product_root before + count (λ x. is_product (operator x)) ops
unfolding in_order
count-trees before [] = omega arith
count-trees before (x ∷ ops) =
    let t = next_tree before x in
    let inner = count-trees (before ++ t ∷ []) ops in
    let last = count-last before t in
    let root : product_root t ≡ is_product (operator x) = root_over (operator x) (map (operand_tree before) (operands x)) in
    inner ∙ ap (λ n. n + count (λ x. is_product (operator x)) ops) (last ∙ ap (λ b. count product_root before + cond b 1 0) root)
    ∙ arranged (is_product (operator x)) (count product_root before) (count (λ x. is_product (operator x)) ops)
  where
    arranged : (b : Bool) (m n : ℕ) → m + cond b 1 0 + n ≡ m + cond b (1 + n) n
    arranged true m n = omega arith
    arranged false m n = omega arith

-- so it is for values
count-values : (s : Values) → count product_root (trees s.values) ≡ count_operators is_product s
count-values s =
    count-trees [] s.values ∙ omega arith
    ∙ is_count_by (count (λ x. is_product (operator x))) (λ x. is_product (operator x)) refl (λ x xs. refl) s.values

-- The program of these images, and of this last and first coefficient.
module _ (image : ℕ → ℕ → ℕ) (last first : ℕ) where
  -- the values of what is unrolled
  abbrev values_of : Unrolling → Values
  values_of u = record {
    field = Gf256;
    secrets = secrets_of (source (of_bits image) last first);
    publics = publics_of (source (of_bits image) last first);
    maps = maps_of (source_decls (of_bits image));
    values = u.values;
    outs = output_elements (source_decls (of_bits image)) u.env;
  }

  -- the trees that the output is made of
  abbrev wanted : List Tree
  wanted = needed (values_of (whole_unrolling image last first))

  -- all trees
  abbrev all_trees : List Tree
  all_trees = trees (whole_unrolling image last first).values

  -- where a tree of this weight stands in it
  abbrev place : Tree → ℕ
  place t = position_or_len (λ s. nat_eq (weight s) (weight t)) wanted

  -- the products differ from all before
  products_apart : all_apart [] all_trees ≡ true
  unfolding digits in_order
  products_apart = refl

  -- the products are among them
  products_there : map (λ t. same (slice_index_or wanted (place t) t) t) (passing product_root all_trees) ≡ map (λ t. true) (passing product_root all_trees)
  unfolding digits in_order parts
  products_there = refl

  -- within the list
  products_within : map (λ t. nat_lt (place t) (length wanted)) (passing product_root all_trees) ≡ map (λ t. true) (passing product_root all_trees)
  unfolding digits in_order parts
  products_within = refl

  -- there are 34
  products_count : count product_root all_trees ≡ 34
  unfolding digits in_order
  products_count = refl

  -- so there are 34 products
  pub source_products : HasProducts 34 (source (of_bits image) last first)
  source_products r is =
      let simplified : IsSimplified (values_of (whole_unrolling image last first)) r =
      subst (λ (u : Unrolling). IsSimplified (values_of u) r) (source_unrolls image last first) is in
      sym (count-values r)
      ∙ all_kept wanted [] all_trees (trees r.values) simplified.kept products_apart (located wanted place (passing product_root all_trees) products_there products_within)
      ∙ products_count
