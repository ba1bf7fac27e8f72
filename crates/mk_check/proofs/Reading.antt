-- Which operand a position is of, among those that a block reads.
use Rattle.std.proofs.Common.{◌≡◌, ℕ, zero, suc, ◌-◌, ◌<◌, ◌≤◌, List, [], ◌∷◌, ◌++◌, length, slice_get, Some, None, refl, ◌∙◌, ap, subst, arith, append-nil}
use Rattle.std.specs.List.{flat_map, AllByRecursion}
use Rattle.std.proofs.lemmas.Option.{slice_get_past, same_Some}
use Rattle.mk_ssa.specs.declared.Op.{Op}
use Rattle.mk_ssa.specs.declared.Op.TheVariants.{Const, PubAdd, PubMul, PubSq, PubMap, Lift, Add, AddPub, Scale, Sq, Map, Mul, Refresh}
use Rattle.mk_ssa.specs.declared.Operand.{Operand}
use Rattle.mk_ssa.specs.Kinds.{shared_operands, public_operands}
use Rattle.mk_check.specs.Plans.{front_len}

-- an element of a front
pub front-at : {X : Type 0} (xs ys : List X) (k : ℕ) → k < length xs → slice_get (xs ++ ys) k ≡ slice_get xs k
front-at [] ys k below = absurd (omega (arith, below))
front-at (x ∷ xs) ys zero below = refl
front-at (x ∷ xs) ys (suc k) below = front-at xs ys k (omega (arith, below))

-- an element behind a front
behind-at : {X : Type 0} (xs ys : List X) (k : ℕ) → length xs ≤ k → slice_get (xs ++ ys) k ≡ slice_get ys (k - length xs)
behind-at [] ys k past = let e : k ≡ k - 0 = omega arith in ap (slice_get ys) e
behind-at (x ∷ xs) ys zero past = absurd (omega (arith, past))
behind-at (x ∷ xs) ys (suc k) past =
    let e : k - length xs ≡ suc k - suc (length xs) = omega arith in
    behind-at xs ys k (omega (arith, past)) ∙ ap (slice_get ys) e

-- how long the first of some lists is, if there is a second one; else at most so long
pub record IsFront (f : Operand → List ℕ) (vs : List Operand) (w : ℕ) : Type 0 where
  pub two : (v u : Operand) → slice_get vs 0 ≡ Some v → slice_get vs 1 ≡ Some u → length (f v) ≡ w
  pub one : (v : Operand) → slice_get vs 0 ≡ Some v → length (f v) ≤ w
  pub few : length vs ≤ 2

-- an element of the first
pub first-at : (f : Operand → List ℕ) (vs : List Operand) (w k : ℕ) (v : Operand) → IsFront f vs w → k < w → slice_get vs 0 ≡ Some v
    → slice_get (flat_map f vs) k ≡ slice_get (f v) k
first-at f [] w k v front below first = absurd (cc)
first-at f (x ∷ []) w k v front below first =
    ap (λ (ps : List ℕ). slice_get ps k) (append-nil (f x)) ∙ ap (λ (o : Operand). slice_get (f o) k) (same_Some x v first)
first-at f (x ∷ y ∷ vs) w k v front below first =
    front-at (f x) (f y ++ flat_map f vs) k (omega (arith, below, front.two x y refl refl)) ∙ ap (λ (o : Operand). slice_get (f o) k) (same_Some x v first)

-- an element of the second
pub second-at : (f : Operand → List ℕ) (vs : List Operand) (w k : ℕ) (v : Operand) → IsFront f vs w → w ≤ k → slice_get vs 1 ≡ Some v
    → slice_get (flat_map f vs) k ≡ slice_get (f v) (k - w)
second-at f [] w k v front past second = absurd (cc)
second-at f (x ∷ []) w k v front past second = absurd (cc)
second-at f (x ∷ y ∷ []) w k v front past second =
    let wide : length (f x) ≡ w = front.two x y refl refl in
    behind-at (f x) (f y ++ []) k (omega (arith, past, wide))
    ∙ ap (λ (m : ℕ). slice_get (f y ++ []) (k - m)) wide
    ∙ ap (λ (ps : List ℕ). slice_get ps (k - w)) (append-nil (f y))
    ∙ ap (λ (o : Operand). slice_get (f o) (k - w)) (same_Some y v second)
second-at f (x ∷ y ∷ z ∷ vs) w k v front past second = absurd (omega (arith, front.few))

-- there is none without the first
pub no-first : (f : Operand → List ℕ) (vs : List Operand) (k : ℕ) → slice_get vs 0 ≡ None → slice_get (flat_map f vs) k ≡ None
no-first f [] k none = refl
no-first f (x ∷ vs) k none = absurd (cc)

-- nor behind the first without the second
pub no-second : (f : Operand → List ℕ) (vs : List Operand) (w k : ℕ) → IsFront f vs w → w ≤ k → slice_get vs 1 ≡ None → slice_get (flat_map f vs) k ≡ None
no-second f [] w k front past none = refl
no-second f (x ∷ []) w k front past none =
    ap (λ (ps : List ℕ). slice_get ps k) (append-nil (f x)) ∙ slice_get_past (f x) k (omega (arith, past, front.one x refl))
no-second f (x ∷ y ∷ vs) w k front past none = absurd (cc)

-- a list of one operand
front-one : (f : Operand → List ℕ) (x : Operand) (w : ℕ) → length (f x) ≤ w → IsFront f (x ∷ []) w
front-one f x w short = record {
  two = λ v u first second. absurd (cc);
  one = λ v first. subst (λ (o : Operand). length (f o) ≤ w) (same_Some x v first) short;
  few = omega arith;
}

-- a list of two
front-two : (f : Operand → List ℕ) (x y : Operand) (w : ℕ) → length (f x) ≡ w → IsFront f (x ∷ y ∷ []) w
front-two f x y w long = record {
  two = λ v u first second. subst (λ (o : Operand). length (f o) ≡ w) (same_Some x v first) long;
  one = λ v first. subst (λ (o : Operand). length (f o) ≤ w) (same_Some x v first) (omega (arith, long));
  few = omega arith;
}

-- the operands of an operator, by the number of their places
pub front-of : (f : Operand → List ℕ) (n : ℕ) (op : Op) → 1 ≤ n → AllByRecursion (λ v. length (f v) ≡ n) (shared_operands op)
    → AllByRecursion (λ v. length (f v) ≡ 1) (public_operands op) → IsFront f (shared_operands op ++ public_operands op) (front_len n op)
front-of f n (Const value) some shared publics = record { two = λ v u first second. absurd (cc); one = λ v first. absurd (cc); few = omega arith }
front-of f n (PubAdd left right) some shared publics = front-two f left right 1 publics.0
front-of f n (PubMul left right) some shared publics = front-two f left right 1 publics.0
front-of f n (PubSq arg) some shared publics = front-one f arg n (omega (arith, some, publics.0))
front-of f n (PubMap m arg) some shared publics = front-one f arg n (omega (arith, some, publics.0))
front-of f n (Lift arg) some shared publics = front-one f arg n (omega (arith, some, publics.0))
front-of f n (Add left right) some shared publics = front-two f left right n shared.0
front-of f n (AddPub left right) some shared publics = front-two f left right n shared.0
front-of f n (Scale left right) some shared publics = front-two f left right n shared.0
front-of f n (Sq arg) some shared publics = front-one f arg n (omega (arith, shared.0))
front-of f n (Map m arg) some shared publics = front-one f arg n (omega (arith, shared.0))
front-of f n (Mul left right) some shared publics = front-two f left right n shared.0
front-of f n (Refresh arg) some shared publics = front-one f arg n (omega (arith, shared.0))
