-- Values that stand in another list with their operands renumbered have the same trees there.
use Rattle.std.proofs.Common.{◌≡◌, ℕ, zero, suc, ◌<◌, List, [], ◌∷◌, ◌++◌, true, false, length, slice_get, slice_index, get_or, Some, refl, sym, ◌∙◌, ap, subst, arith}
use Rattle.std.specs.List.{AllByRecursion}
use Rattle.std.proofs.lemmas.List.{get_or_append_left}
use Rattle.std.proofs.lemmas.Option.{slice_get-get_or}
use Rattle.mk_ssa.specs.declared.Op.{Op}
use Rattle.mk_ssa.specs.declared.Op.TheVariants.{Const}
use Rattle.mk_ssa.specs.declared.Operand.{Operand}
use Rattle.mk_ssa.specs.declared.Operand.TheVariants.{Secret, Public, Block}
use Rattle.mk_ssa.specs.Kinds.{is_public}
use Rattle.mk_ssa.specs.Operators.{operands, with_operands}
use Rattle.mk_ssa.specs.Values.{Draft, IsDraft, IsSharedThere, IsPublicThere, Fits, front}
use Rattle.mk_ssa.proofs.Lists.{IsSomeAnd-value, IsSomeAnd-from, slice_get-at, slice_get-front}
use Rattle.mk_simplify.specs.Trees.{tree_of}
use Rattle.mk_simplify.specs.Renumbering.{renumbered, OnValue, IsBelow, AreEarlier, AreCarried}
use Rattle.mk_simplify.proofs.Operators.{Fits-with, operands-there, is_public-with}
use Rattle.mk_simplify.proofs.Trees.{AllByRecursion-weaker, tree_by-same, tree_by-with, tree_of-at, with_operands-same}

-- what holds of everything
pub AllByRecursion-of_all : {X : Type 0} (P : X → Type 0) (xs : List X) → ((x : X) → P x) → AllByRecursion P xs
AllByRecursion-of_all P [] all = tt
AllByRecursion-of_all P (x ∷ xs) all = (all x, AllByRecursion-of_all P xs all)

-- two things that hold of each
pub AllByRecursion-both : {X : Type 0} (P Q : X → Type 0) (xs : List X) → AllByRecursion P xs → AllByRecursion Q xs → AllByRecursion (λ x. P x × Q x) xs
AllByRecursion-both P Q [] first second = tt
AllByRecursion-both P Q (x ∷ xs) first second = ((first.0, second.0), AllByRecursion-both P Q xs first.1 second.1)

-- a shared operand among the first n values is an earlier one
pub shared-below : (d : Draft) (n : ℕ) (v : Operand) → IsSharedThere (front d n) v → IsBelow n v
shared-below d n (Secret k) there = tt
shared-below d n (Public k) there = tt
shared-below d n (Block k) there =
    let at = IsSomeAnd-value (slice_get (front d n).values k) (λ x. is_public x ≡ false) there in
    (slice_get-front d.values n k at.0 at.1).0

-- a public operand among the first n values is an earlier one
pub public-below : (d : Draft) (n : ℕ) (v : Operand) → IsPublicThere (front d n) v → IsBelow n v
public-below d n (Secret k) there = tt
public-below d n (Public k) there = tt
public-below d n (Block k) there =
    let at = IsSomeAnd-value (slice_get (front d n).values k) (λ x. is_public x ≡ true) there in
    (slice_get-front d.values n k at.0 at.1).0

-- the operands of values that fit together are earlier
pub made-earlier : (d : Draft) → IsDraft d → AreEarlier d.values
made-earlier d made k x at = operands-there (front d k) (IsBelow k) x (shared-below d k) (public-below d k) (made.fit k x at)

-- a shared operand is below the length
pub shared-within : (d : Draft) (v : Operand) → IsSharedThere d v → IsBelow (length d.values) v
shared-within d (Secret k) there = tt
shared-within d (Public k) there = tt
shared-within d (Block k) there =
    let at = IsSomeAnd-value (slice_get d.values k) (λ x. is_public x ≡ false) there in (slice_get-at d.values k at.0 at.0 at.1).0

-- a public operand is below the length
pub public-within : (d : Draft) (v : Operand) → IsPublicThere d v → IsBelow (length d.values) v
public-within d (Secret k) there = tt
public-within d (Public k) there = tt
public-within d (Block k) there =
    let at = IsSomeAnd-value (slice_get d.values k) (λ x. is_public x ≡ true) there in (slice_get-at d.values k at.0 at.0 at.1).0

-- the tree of an operand, where those of earlier values are the same
carried-at : (on : ℕ → Type 0) (ops kept : List Op) (numbers : List ℕ) (n k : ℕ) → k < suc n → k < length ops
    → ((j : ℕ) → j < n → on j → j < length ops → tree_of kept (Block (slice_index numbers j)) ≡ tree_of ops (Block j))
    → (v : Operand) → IsBelow k v × OnValue on v → tree_of kept (renumbered numbers v) ≡ tree_of ops v
carried-at on ops kept numbers n k below within before (Secret j) both = refl
carried-at on ops kept numbers n k below within before (Public j) both = refl
carried-at on ops kept numbers n k below within before (Block j) both = before j (omega (arith, both.0, below)) both.1 (omega (arith, both.0, within))

-- the trees of operands, where those of earlier values are the same
carried-tree : (on : ℕ → Type 0) (ops kept : List Op) (numbers : List ℕ) → AreEarlier ops → AreEarlier kept
    → ((k : ℕ) (x : Op) → on k → slice_get ops k ≡ Some x → AllByRecursion (OnValue on) (operands x)) → AreCarried on ops kept numbers
    → (n k : ℕ) → k < n → on k → k < length ops → tree_of kept (Block (slice_index numbers k)) ≡ tree_of ops (Block k)
carried-tree on ops kept numbers earlier kept_earlier closed carried zero k below holds within = absurd (omega (arith, below))
carried-tree on ops kept numbers earlier kept_earlier closed carried (suc n) k below holds within =
    let x = get_or ops k (Const 0) in
    let at : slice_get ops k ≡ Some x = slice_get-get_or ops k (Const 0) within in
    tree_of-at kept (slice_index numbers k) (with_operands (renumbered numbers) x) kept_earlier (carried k x holds at)
    ∙ tree_by-with (tree_of kept) (renumbered numbers) x
    ∙ tree_by-same (λ v. tree_of kept (renumbered numbers v)) (tree_of ops) x
    (AllByRecursion-weaker (λ v. IsBelow k v × OnValue on v) (λ v. tree_of kept (renumbered numbers v) ≡ tree_of ops v) (operands x)
    (carried-at on ops kept numbers n k below within (carried-tree on ops kept numbers earlier kept_earlier closed carried n))
    (AllByRecursion-both (IsBelow k) (OnValue on) (operands x) (earlier k x at) (closed k x holds at)))
    ∙ sym (tree_of-at ops k x earlier at)

-- the tree of an operand that is carried
pub carried-operand : (on : ℕ → Type 0) (ops kept : List Op) (numbers : List ℕ) → AreEarlier ops → AreEarlier kept
    → ((k : ℕ) (x : Op) → on k → slice_get ops k ≡ Some x → AllByRecursion (OnValue on) (operands x)) → AreCarried on ops kept numbers
    → (v : Operand) → OnValue on v → IsBelow (length ops) v → tree_of kept (renumbered numbers v) ≡ tree_of ops v
carried-operand on ops kept numbers earlier kept_earlier closed carried (Secret k) holds below = refl
carried-operand on ops kept numbers earlier kept_earlier closed carried (Public k) holds below = refl
carried-operand on ops kept numbers earlier kept_earlier closed carried (Block k) holds below =
    carried-tree on ops kept numbers earlier kept_earlier closed carried (suc k) k (omega arith) holds below

-- a shared operand that is carried is there
pub carried-shared : (d e : Draft) (on : ℕ → Type 0) (numbers : List ℕ) → e.secrets ≡ d.secrets → AreCarried on d.values e.values numbers
    → (v : Operand) → OnValue on v → IsSharedThere d v → IsSharedThere e (renumbered numbers v)
carried-shared d e on numbers secrets carried (Secret k) holds there = subst (λ (n : ℕ). k < n) (sym secrets) there
carried-shared d e on numbers secrets carried (Public k) holds there = there
carried-shared d e on numbers secrets carried (Block k) holds there =
    let at = IsSomeAnd-value (slice_get d.values k) (λ x. is_public x ≡ false) there in
    IsSomeAnd-from (slice_get e.values (slice_index numbers k)) (λ x. is_public x ≡ false) (with_operands (renumbered numbers) at.0)
    (carried k at.0 holds at.1) (is_public-with (renumbered numbers) at.0 ∙ at.2)

-- a public operand that is carried is there
pub carried-public : (d e : Draft) (on : ℕ → Type 0) (numbers : List ℕ) → e.publics ≡ d.publics → AreCarried on d.values e.values numbers
    → (v : Operand) → OnValue on v → IsPublicThere d v → IsPublicThere e (renumbered numbers v)
carried-public d e on numbers publics carried (Secret k) holds there = there
carried-public d e on numbers publics carried (Public k) holds there = subst (λ (n : ℕ). k < n) (sym publics) there
carried-public d e on numbers publics carried (Block k) holds there =
    let at = IsSomeAnd-value (slice_get d.values k) (λ x. is_public x ≡ true) there in
    IsSomeAnd-from (slice_get e.values (slice_index numbers k)) (λ x. is_public x ≡ true) (with_operands (renumbered numbers) at.0)
    (carried k at.0 holds at.1) (is_public-with (renumbered numbers) at.0 ∙ at.2)

-- an operator whose operands are carried fits
pub carried-fits : (d e : Draft) (on : ℕ → Type 0) (numbers : List ℕ) (x : Op) → e.field ≡ d.field → e.secrets ≡ d.secrets → e.publics ≡ d.publics
    → length e.maps ≡ length d.maps → AreCarried on d.values e.values numbers → AllByRecursion (OnValue on) (operands x) → Fits d x
    → Fits e (with_operands (renumbered numbers) x)
carried-fits d e on numbers x field secrets publics maps carried holds fits =
    Fits-with d e (renumbered numbers) x field maps
    (AllByRecursion-weaker (OnValue on)
    (λ v. (IsSharedThere d v → IsSharedThere e (renumbered numbers v)) × (IsPublicThere d v → IsPublicThere e (renumbered numbers v))) (operands x)
    (λ v on_v. (carried-shared d e on numbers secrets carried v on_v, carried-public d e on numbers publics carried v on_v)) holds)
    fits

-- an operand keeps its number when others come behind
pub renumbered-more : (numbers more : List ℕ) (v : Operand) → IsBelow (length numbers) v → renumbered (numbers ++ more) v ≡ renumbered numbers v
renumbered-more numbers more (Secret k) below = refl
renumbered-more numbers more (Public k) below = refl
renumbered-more numbers more (Block k) below = ap Block (get_or_append_left numbers more 0 k below)

-- an operator keeps its operands when others come behind
pub with_operands-more : (numbers more : List ℕ) (x : Op) → AllByRecursion (IsBelow (length numbers)) (operands x)
    → with_operands (renumbered (numbers ++ more)) x ≡ with_operands (renumbered numbers) x
with_operands-more numbers more x below =
    with_operands-same (renumbered (numbers ++ more)) (renumbered numbers) x
    (AllByRecursion-weaker (IsBelow (length numbers)) (λ v. renumbered (numbers ++ more) v ≡ renumbered numbers v) (operands x) (renumbered-more numbers more) below)
