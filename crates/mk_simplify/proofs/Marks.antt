-- Marking the operands of values that are needed.
use Rattle.std.proofs.Common.{◌≡◌, ℕ, zero, suc, ◌+◌, ◌≤◌, ◌<◌, List, [], ◌∷◌, ◌++◌, ◌⊎◌, inl, inr, Bool, true, false, All, fold, flat_map, map, replicate, length, slice_get, slice_set, get_or, Some, refl, sym, ◌∙◌, ap, subst, arith}
use Rattle.std.specs.List.{AllByRecursion, Contains}
use Rattle.std.proofs.lemmas.List.Elements.{All-push, All-nil, All-weaker, Contains-append_left, Contains-append_right, Contains-append_cases}
use Rattle.std.proofs.lemmas.Bool.{cases_order}
use Rattle.mk_base.proofs.Lists.{Contains-cases, Contains-map}
use Rattle.mk_ssa.specs.declared.Op.{Op}
use Rattle.mk_ssa.specs.declared.Operand.{Operand}
use Rattle.mk_ssa.specs.declared.Operand.TheVariants.{Secret, Public, Block}
use Rattle.mk_ssa.specs.Operators.{operator, operands}
use Rattle.mk_ssa.proofs.Lists.{slice_get-at}
use Rattle.mk_simplify.specs.Trees.{Tree, tree_of, parts}
use Rattle.mk_simplify.specs.Renumbering.{OnValue, IsBelow, AreEarlier, IsMarked, with_mark}
use Rattle.mk_simplify.proofs.Operators.{operands-few}
use Rattle.mk_simplify.proofs.Trees.{kids, kids-over, length-map, tree_of-at, AllByRecursion-weaker}
use Rattle.mk_simplify.proofs.Different.{true-not_false}
use Rattle.mk_simplify.proofs.Kept.{slice_get-contains, unsome}

-- as many marks
set-length : {X : Type 0} (xs : List X) (k : ℕ) (x : X) → length (slice_set xs k x) ≡ length xs
set-length [] k x = refl
set-length (y ∷ ys) zero x = refl
set-length (y ∷ ys) (suc k) x = ap suc (set-length ys k x)

-- what is set is there
set-here : {X : Type 0} (xs : List X) (k : ℕ) (x : X) → k < length xs → slice_get (slice_set xs k x) k ≡ Some x
set-here [] k x below = absurd (omega (arith, below))
set-here (y ∷ ys) zero x below = refl
set-here (y ∷ ys) (suc k) x below = set-here ys k x (omega (arith, below))

-- what was there stays, where the same is set
set-stays : {X : Type 0} (xs : List X) (k j : ℕ) (x : X) → slice_get xs j ≡ Some x → slice_get (slice_set xs k x) j ≡ Some x
set-stays [] k j x at = at
set-stays (y ∷ ys) zero zero x at = refl
set-stays (y ∷ ys) zero (suc j) x at = at
set-stays (y ∷ ys) (suc k) zero x at = at
set-stays (y ∷ ys) (suc k) (suc j) x at = set-stays ys k j x at

-- what is there was there or was set
set-cases : {X : Type 0} (xs : List X) (k j : ℕ) (x z : X) → slice_get (slice_set xs k x) j ≡ Some z → (slice_get xs j ≡ Some z) ⊎ (k ≡ j)
set-cases [] k j x z at = inl at
set-cases (y ∷ ys) zero zero x z at = inr refl
set-cases (y ∷ ys) zero (suc j) x z at = inl at
set-cases (y ∷ ys) (suc k) zero x z at = inl at
set-cases (y ∷ ys) (suc k) (suc j) x z at = elim (set-cases ys k j x z at) [ inl before ↦ inl before | inr same ↦ inr (ap suc same) ]

-- a mark more leaves their number
pub length-with_mark : (marks : List Bool) (v : Operand) → length (with_mark marks v) ≡ length marks
length-with_mark marks (Secret k) = refl
length-with_mark marks (Public k) = refl
length-with_mark marks (Block k) = set-length marks k true

-- a mark stays
mark-stays : (marks : List Bool) (v : Operand) (k : ℕ) → IsMarked marks k → IsMarked (with_mark marks v) k
mark-stays marks (Secret j) k is = is
mark-stays marks (Public j) k is = is
mark-stays marks (Block j) k is = set-stays marks j k true is

-- what is marked is marked
mark-here : (marks : List Bool) (v : Operand) → IsBelow (length marks) v → OnValue (IsMarked (with_mark marks v)) v
mark-here marks (Secret k) below = tt
mark-here marks (Public k) below = tt
mark-here marks (Block k) below = set-here marks k true below

-- what is marked was marked before, or is what was marked
mark-cases : (marks : List Bool) (v : Operand) (k : ℕ) → IsMarked (with_mark marks v) k → IsMarked marks k ⊎ (v ≡ Block k)
mark-cases marks (Secret j) k is = inl is
mark-cases marks (Public j) k is = inl is
mark-cases marks (Block j) k is = elim (set-cases marks j k true true is) [ inl before ↦ inl before | inr same ↦ inr (ap Block same) ]

-- what holds where a mark is holds where more are
pub OnValue-weaker : (P Q : ℕ → Type 0) (v : Operand) → ((k : ℕ) → P k → Q k) → OnValue P v → OnValue Q v
OnValue-weaker P Q (Secret k) weaker holds = tt
OnValue-weaker P Q (Public k) weaker holds = tt
OnValue-weaker P Q (Block k) weaker holds = weaker k holds

-- the marks of several operands
pub all-stay : (vs : List Operand) (marks : List Bool) (k : ℕ) → IsMarked marks k → IsMarked (fold with_mark marks vs) k
all-stay [] marks k is = is
all-stay (v ∷ vs) marks k is = all-stay vs (with_mark marks v) k (mark-stays marks v k is)

-- several marks leave their number
pub all-length : (vs : List Operand) (marks : List Bool) → length (fold with_mark marks vs) ≡ length marks
all-length [] marks = refl
all-length (v ∷ vs) marks = all-length vs (with_mark marks v) ∙ length-with_mark marks v

-- each of the operands is marked
pub all-here : (vs : List Operand) (marks : List Bool) → AllByRecursion (IsBelow (length marks)) vs → AllByRecursion (OnValue (IsMarked (fold with_mark marks vs))) vs
all-here [] marks below = tt
all-here (v ∷ vs) marks below = (
  OnValue-weaker (IsMarked (with_mark marks v)) (IsMarked (fold with_mark marks (v ∷ vs))) v (λ k is. all-stay vs (with_mark marks v) k is) (mark-here marks v below.0),
  all-here vs (with_mark marks v) (subst (λ n. AllByRecursion (IsBelow n) vs) (sym (length-with_mark marks v)) below.1),
)

-- what is marked was marked before, or is one of the operands
pub all-cases : (vs : List Operand) (marks : List Bool) (k : ℕ) → IsMarked (fold with_mark marks vs) k → IsMarked marks k ⊎ Contains vs (Block k)
all-cases [] marks k is = inl is
all-cases (v ∷ vs) marks k is = elim (all-cases vs (with_mark marks v) k is) [
  | inl before ↦ elim (mark-cases marks v k before) [
    | inl old ↦ inl old
    | inr same ↦ inr (slice_get-contains (v ∷ vs) 0 (Block k) (ap Some same))
  ]
  | inr behind ↦ inr (Contains-append_right (v ∷ []) vs (Block k) behind)
]

-- no mark is set at first
none-marked : (n k : ℕ) → IsMarked (replicate n false) k → ⊥
none-marked zero k is = absurd (cc)
none-marked (suc n) zero is = absurd (cc)
none-marked (suc n) (suc k) is = none-marked n k is

-- as many as asked for
length-replicate : {X : Type 0} (n : ℕ) (x : X) → length (replicate n x) ≡ n
length-replicate zero x = refl
length-replicate (suc n) x = ap suc (length-replicate n x)

-- ---- parts of trees

-- a tree is a part of itself
pub parts-whole : (t : Tree) → Contains (parts t) t
unfolding parts
parts-whole (Tree.Input v) = slice_get-contains (Tree.Input v ∷ []) 0 (Tree.Input v) refl
parts-whole (Tree.Leaf o) = slice_get-contains (Tree.Leaf o ∷ []) 0 (Tree.Leaf o) refl
parts-whole (Tree.Unary o a) = slice_get-contains (Tree.Unary o a ∷ parts a) 0 (Tree.Unary o a) refl
parts-whole (Tree.Binary o a b) = slice_get-contains (Tree.Binary o a b ∷ parts a ++ parts b) 0 (Tree.Binary o a b) refl

-- a part is the tree, or a part of a tree below its root
pub parts-cases : (w t : Tree) → Contains (parts w) t → (w ≡ t) ⊎ Contains (flat_map parts (kids w)) t
unfolding parts kids
parts-cases (Tree.Input v) t there = elim (Contains-cases (Tree.Input v) [] t there) [ inl same ↦ inl same | inr behind ↦ inr behind ]
parts-cases (Tree.Leaf o) t there = elim (Contains-cases (Tree.Leaf o) [] t there) [ inl same ↦ inl same | inr behind ↦ inr behind ]
parts-cases (Tree.Unary o a) t there = elim (Contains-cases (Tree.Unary o a) (parts a) t there) [
  | inl same ↦ inl same
  | inr behind ↦ inr (Contains-append_left (parts a) [] t behind)
]
parts-cases (Tree.Binary o a b) t there = elim (Contains-cases (Tree.Binary o a b) (parts a ++ parts b) t there) [
  | inl same ↦ inl same
  | inr behind ↦ elim (Contains-append_cases (parts a) (parts b) t behind) [
    | inl first ↦ inr (Contains-append_left (parts a) (parts b ++ []) t first)
    | inr second ↦ inr (Contains-append_right (parts a) (parts b ++ []) t (Contains-append_left (parts b) [] t second))
  ]
]

-- a tree below the root is a part
kids-parts : (w a : Tree) → Contains (kids w) a → Contains (parts w) a
unfolding parts kids
kids-parts (Tree.Input v) a there = absurd (omega (arith, there.1))
kids-parts (Tree.Leaf o) a there = absurd (omega (arith, there.1))
kids-parts (Tree.Unary o b) a there = elim (Contains-cases b [] a there) [
  | inl same ↦ Contains-append_right (Tree.Unary o b ∷ []) (parts b) a (subst (λ (t : Tree). Contains (parts b) t) same (parts-whole b))
  | inr behind ↦ absurd (omega (arith, behind.1))
]
kids-parts (Tree.Binary o b c) a there = elim (Contains-cases b (c ∷ []) a there) [
  | inl same ↦
      Contains-append_right (Tree.Binary o b c ∷ []) (parts b ++ parts c) a
      (Contains-append_left (parts b) (parts c) a (subst (λ (t : Tree). Contains (parts b) t) same (parts-whole b)))
  | inr behind ↦ elim (Contains-cases c [] a behind) [
    | inl same ↦
        Contains-append_right (Tree.Binary o b c ∷ []) (parts b ++ parts c) a
        (Contains-append_right (parts b) (parts c) a (subst (λ (t : Tree). Contains (parts c) t) same (parts-whole c)))
    | inr none ↦ absurd (omega (arith, none.1))
  ]
]

-- a part of a part is a part
pub parts-of-parts : (w u t : Tree) → Contains (parts w) u → Contains (parts u) t → Contains (parts w) t
unfolding parts
parts-of-parts (Tree.Input v) u t first second = elim (Contains-cases (Tree.Input v) [] u first) [
  | inl same ↦ subst (λ (x : Tree). Contains (parts x) t) (sym same) second
  | inr behind ↦ absurd (omega (arith, behind.1))
]
parts-of-parts (Tree.Leaf o) u t first second = elim (Contains-cases (Tree.Leaf o) [] u first) [
  | inl same ↦ subst (λ (x : Tree). Contains (parts x) t) (sym same) second
  | inr behind ↦ absurd (omega (arith, behind.1))
]
parts-of-parts (Tree.Unary o a) u t first second = elim (Contains-cases (Tree.Unary o a) (parts a) u first) [
  | inl same ↦ subst (λ (x : Tree). Contains (parts x) t) (sym same) second
  | inr behind ↦ Contains-append_right (Tree.Unary o a ∷ []) (parts a) t (parts-of-parts a u t behind second)
]
parts-of-parts (Tree.Binary o a b) u t first second = elim (Contains-cases (Tree.Binary o a b) (parts a ++ parts b) u first) [
  | inl same ↦ subst (λ (x : Tree). Contains (parts x) t) (sym same) second
  | inr behind ↦ elim (Contains-append_cases (parts a) (parts b) u behind) [
    | inl left ↦
        Contains-append_right (Tree.Binary o a b ∷ []) (parts a ++ parts b) t (Contains-append_left (parts a) (parts b) t (parts-of-parts a u t left second))
    | inr right ↦
        Contains-append_right (Tree.Binary o a b ∷ []) (parts a ++ parts b) t (Contains-append_right (parts a) (parts b) t (parts-of-parts b u t right second))
  ]
]

-- what is made of one of the elements is among what is made of all
pub flat_map-contains : {X Y : Type 0} (f : X → List Y) (xs : List X) (x : X) (y : Y) → Contains xs x → Contains (f x) y → Contains (flat_map f xs) y
flat_map-contains f [] x y there of = absurd (omega (arith, there.1))
flat_map-contains f (z ∷ zs) x y there of = elim (Contains-cases z zs x there) [
  | inl same ↦ Contains-append_left (f z) (flat_map f zs) y (subst (λ w. Contains (f w) y) (sym same) of)
  | inr behind ↦ Contains-append_right (f z) (flat_map f zs) y (flat_map-contains f zs x y behind of)
]

-- what is made of all is made of one of them
pub flat_map-from : {X Y : Type 0} (f : X → List Y) (xs : List X) (y : Y) → Contains (flat_map f xs) y → (x : X) × Contains xs x × Contains (f x) y
flat_map-from f [] y there = absurd (omega (arith, there.1))
flat_map-from f (z ∷ zs) y there = elim (Contains-append_cases (f z) (flat_map f zs) y there) [
  | inl here ↦ (z, slice_get-contains (z ∷ zs) 0 z refl, here)
  | inr behind ↦ let rest = flat_map-from f zs y behind in (rest.0, Contains-append_right (z ∷ []) zs rest.0 rest.1, rest.2)
]

-- ---- the marks so far

-- marked are the outputs of `done`, and of the values from n on the operands of those that are marked; what
-- is marked is needed by `outs`
pub record IsMarking (ops : List Op) (outs done : List Operand) (n : ℕ) (marks : List Bool) : Type 0 where
  pub count : length marks ≡ length ops
  pub outputs : All (OnValue (IsMarked marks)) done
  pub closed : (k : ℕ) (x : Op) → n ≤ k → IsMarked marks k → slice_get ops k ≡ Some x → AllByRecursion (OnValue (IsMarked marks)) (operands x)
  pub needed : (k : ℕ) → IsMarked marks k → Contains (flat_map (λ v. parts (tree_of ops v)) outs) (tree_of ops (Block k))

-- what holds of each holds of one
pub AllByRecursion-contains : {X : Type 0} (P : X → Type 0) (xs : List X) (x : X) → AllByRecursion P xs → Contains xs x → P x
AllByRecursion-contains P [] x all there = absurd (omega (arith, there.1))
AllByRecursion-contains P (y ∷ ys) x all there = elim (Contains-cases y ys x there) [
  | inl same ↦ subst P same all.0
  | inr behind ↦ AllByRecursion-contains P ys x all.1 behind
]

-- an operand's tree is below the root of the value's
pub kid-of : (ops : List Op) (k : ℕ) (x : Op) (v : Operand) → AreEarlier ops → slice_get ops k ≡ Some x → Contains (operands x) v
    → Contains (kids (tree_of ops (Block k))) (tree_of ops v)
kid-of ops k x v earlier at there =
    let e : kids (tree_of ops (Block k)) ≡ map (tree_of ops) (operands x) =
    ap kids (tree_of-at ops k x earlier at)
    ∙ kids-over (operator x) (map (tree_of ops) (operands x)) (omega (arith, operands-few x, length-map (tree_of ops) (operands x))) in
    subst (λ (l : List Tree). Contains l (tree_of ops v)) (sym e) (Contains-map (tree_of ops) (operands x) v there)

-- one output more is marked
pub IsMarking-out : (ops : List Op) (outs done : List Operand) (marks : List Bool) (v : Operand) → IsMarking ops outs done (length ops) marks
    → IsBelow (length ops) v → Contains outs v → IsMarking ops outs (done ++ v ∷ []) (length ops) (with_mark marks v)
IsMarking-out ops outs done marks v so_far below there = record {
  count = length-with_mark marks v ∙ so_far.count;
  outputs =
      All-push (OnValue (IsMarked (with_mark marks v))) done v
      (All-weaker (OnValue (IsMarked marks)) (OnValue (IsMarked (with_mark marks v)))
      (λ w is. OnValue-weaker (IsMarked marks) (IsMarked (with_mark marks v)) w (mark-stays marks v) is) done so_far.outputs)
      (mark-here marks v (subst (λ n. IsBelow n v) (sym so_far.count) below));
  closed = λ k x behind is at. absurd (omega (arith, behind, (slice_get-at ops k x x at).0));
  needed = λ k is. elim (mark-cases marks v k is) [
    | inl before ↦ so_far.needed k before
    | inr same ↦
        flat_map-contains (λ w. parts (tree_of ops w)) outs v (tree_of ops (Block k)) there
        (subst (λ (w : Operand). Contains (parts (tree_of ops v)) (tree_of ops w)) same (parts-whole (tree_of ops v)))
  ];
}

-- the operands of one value more are marked
pub IsMarking-value : (ops : List Op) (outs : List Operand) (n : ℕ) (x : Op) (marks : List Bool) → AreEarlier ops → IsMarking ops outs outs (n + 1) marks
    → IsMarked marks n → slice_get ops n ≡ Some x → IsMarking ops outs outs n (fold with_mark marks (operands x))
IsMarking-value ops outs n x marks earlier so_far is at =
    let next = fold with_mark marks (operands x) in
    let here = slice_get-at ops n x x at in
    record {
      count = all-length (operands x) marks ∙ so_far.count;
      outputs =
          All-weaker (OnValue (IsMarked marks)) (OnValue (IsMarked next))
          (λ w on. OnValue-weaker (IsMarked marks) (IsMarked next) w (all-stay (operands x) marks) on) outs so_far.outputs;
      closed = λ k y behind marked_k y_at. elim (all-cases (operands x) marks k marked_k) [
        | inl before ↦ elim (cases_order n k) [
          | inl same ↦
              let equal : Some x ≡ Some y = sym at ∙ ap (slice_get ops) same ∙ y_at in
              subst (λ (z : Op). AllByRecursion (OnValue (IsMarked next)) (operands z)) (unsome equal)
              (all-here (operands x) marks
              (AllByRecursion-weaker (IsBelow n) (IsBelow (length marks)) (operands x)
              (λ w less. OnValue-weaker (λ i. i < n) (λ i. i < length marks) w (λ i small. omega (arith, small, here.0, so_far.count)) less) (earlier n x at)))
          | inr other ↦
              AllByRecursion-weaker (OnValue (IsMarked marks)) (OnValue (IsMarked next)) (operands y)
              (λ w on. OnValue-weaker (IsMarked marks) (IsMarked next) w (all-stay (operands x) marks) on)
              (so_far.closed k y (elim other [ inl less ↦ omega (arith, less) | inr more ↦ absurd (omega (arith, more, behind)) ]) before y_at)
        ]
        | inr operand ↦
            let small : k < n = AllByRecursion-contains (IsBelow n) (operands x) (Block k) (earlier n x at) operand in
            absurd (omega (arith, small, behind))
      ];
      needed = λ k marked_k. elim (all-cases (operands x) marks k marked_k) [
        | inl before ↦ so_far.needed k before
        | inr operand ↦
            let above = flat_map-from (λ w. parts (tree_of ops w)) outs (tree_of ops (Block n)) (so_far.needed n is) in
            flat_map-contains (λ w. parts (tree_of ops w)) outs above.0 (tree_of ops (Block k)) above.1
            (parts-of-parts (tree_of ops above.0) (tree_of ops (Block n)) (tree_of ops (Block k)) above.2
            (kids-parts (tree_of ops (Block n)) (tree_of ops (Block k)) (kid-of ops n x (Block k) earlier at operand)))
      ];
    }

-- a value that isn't marked is passed
pub IsMarking-passed : (ops : List Op) (outs : List Operand) (n : ℕ) (marks : List Bool) → IsMarking ops outs outs (n + 1) marks → ¬ IsMarked marks n
    → IsMarking ops outs outs n marks
IsMarking-passed ops outs n marks so_far not = record {
  count = so_far.count;
  outputs = so_far.outputs;
  closed = λ k x behind is at. elim (cases_order n k) [
    | inl same ↦ absurd (not (subst (IsMarked marks) (sym same) is))
    | inr other ↦ so_far.closed k x (elim other [ inl less ↦ omega (arith, less) | inr more ↦ absurd (omega (arith, more, behind)) ]) is at
  ];
  needed = so_far.needed;
}

-- no mark
pub IsMarking-new : (ops : List Op) (outs : List Operand) → IsMarking ops outs [] (length ops) (replicate (length ops) false)
IsMarking-new ops outs = record {
  count = length-replicate (length ops) false;
  outputs = All-nil (OnValue (IsMarked (replicate (length ops) false)));
  closed = λ k x behind is at. absurd (omega (arith, behind, (slice_get-at ops k x x at).0));
  needed = λ k is. absurd (none-marked (length ops) k is);
}

-- the operands of a value that is there are there
pub operands-within : (ops : List Op) (k : ℕ) (x : Op) (n : ℕ) → AreEarlier ops → k ≤ n → slice_get ops k ≡ Some x → AllByRecursion (IsBelow n) (operands x)
operands-within ops k x n earlier small at =
    AllByRecursion-weaker (IsBelow k) (IsBelow n) (operands x)
    (λ w less. OnValue-weaker (λ i. i < k) (λ i. i < n) w (λ i below. omega (arith, below, small)) less) (earlier k x at)

-- a value whose mark is false isn't marked
pub unmarked : (marks : List Bool) (k : ℕ) (b : Bool) → b ≡ get_or marks k b → b ≡ false → ¬ IsMarked marks k
unmarked marks k b is none marked_k = true-not_false (sym (is ∙ (slice_get-at marks k true b marked_k).1) ∙ none)
