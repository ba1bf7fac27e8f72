-- One value more has its place.
use Rattle.std.proofs.Common.{◌≡◌, ℕ, zero, suc, ◌+◌, ◌≤◌, ◌<◌, List, [], ◌∷◌, ◌++◌, inl, inr, Bool, true, false, length, take, slice_get, slice_index, Some, refl, sym, ◌∙◌, ap, subst, arith, add-one}
use Rattle.std.specs.List.{AllByRecursion}
use Rattle.std.proofs.lemmas.Bool.{cases_order}
use Rattle.std.proofs.lemmas.List.{length-append, get_or_append_left}
use Rattle.std.proofs.Math.Seq.{get_or-append_seam}
use Rattle.mk_ssa.specs.declared.Op.{Op}
use Rattle.mk_ssa.specs.declared.Operand.{Operand}
use Rattle.mk_ssa.specs.declared.Operand.TheVariants.{Secret, Public, Block}
use Rattle.mk_ssa.specs.Operators.{operands, with_operands}
use Rattle.mk_ssa.specs.Values.{Draft, IsDraft, Fits, front, pushed}
use Rattle.mk_ssa.proofs.There.{IsDraft-pushed}
use Rattle.mk_ssa.specs.Denoted.{in_order}
use Rattle.mk_ssa.proofs.Lists.{slice_get-at, slice_get-more, slice_get-last, slice_get-front}
use Rattle.mk_simplify.specs.Trees.{Tree, tree_by, trees, tree_of}
use Rattle.mk_simplify.specs.Renumbering.{renumbered, OnValue, IsBelow, AreEarlier, IsMarked, AreClosed, marked, ArePlaced}
use Rattle.mk_simplify.proofs.Trees.{tree_by-same, tree_by-with, tree_of-at, AllByRecursion-weaker}
use Rattle.mk_simplify.proofs.Carried.{AllByRecursion-both, made-earlier, carried-operand, carried-fits, with_operands-more}
use Rattle.mk_simplify.proofs.Different.{true-not_false}
use Rattle.mk_simplify.proofs.Kept.{unsome}
use Rattle.mk_simplify.proofs.Marks.{OnValue-weaker, operands-within}
use Rattle.mk_simplify.proofs.Merges.{trees-push, tree-at}

-- no tree is marked where there is none
no-tree : (ms : List Bool) → marked ms [] ≡ []
no-tree [] = refl
no-tree (m ∷ ms) = refl

-- a marked tree more
marked-true : (ms : List Bool) (ts : List Tree) (k : ℕ) (t : Tree) → slice_get ms k ≡ Some true → slice_get ts k ≡ Some t
    → marked ms (take (suc k) ts) ≡ marked ms (take k ts) ++ t ∷ []
marked-true [] ts k t is at = absurd (cc)
marked-true (m ∷ ms) [] k t is at = absurd (cc)
marked-true (true ∷ ms) (s ∷ ts) zero t is at = ap (λ x. x ∷ marked ms []) (unsome at) ∙ ap (λ l. t ∷ l) (no-tree ms)
marked-true (false ∷ ms) (s ∷ ts) zero t is at = absurd (cc)
marked-true (true ∷ ms) (s ∷ ts) (suc k) t is at = ap (λ (l : List Tree). s ∷ l) (marked-true ms ts k t is at)
marked-true (false ∷ ms) (s ∷ ts) (suc k) t is at = marked-true ms ts k t is at

-- a tree more that isn't marked
marked-false : (ms : List Bool) (ts : List Tree) (k : ℕ) (t : Tree) → slice_get ms k ≡ Some false → slice_get ts k ≡ Some t
    → marked ms (take (suc k) ts) ≡ marked ms (take k ts)
marked-false [] ts k t is at = absurd (cc)
marked-false (m ∷ ms) [] k t is at = absurd (cc)
marked-false (true ∷ ms) (s ∷ ts) zero t is at = absurd (cc)
marked-false (false ∷ ms) (s ∷ ts) zero t is at = no-tree ms
marked-false (true ∷ ms) (s ∷ ts) (suc k) t is at = ap (λ (l : List Tree). s ∷ l) (marked-false ms ts k t is at)
marked-false (false ∷ ms) (s ∷ ts) (suc k) t is at = marked-false ms ts k t is at

-- an earlier operand that is marked
pub on-both : (P : ℕ → Type 0) (k : ℕ) (v : Operand) → IsBelow k v × OnValue P v → OnValue (λ j. (j < k) × P j) v
on-both P k (Secret j) both = tt
on-both P k (Public j) both = tt
on-both P k (Block j) both = both

-- the operands of a marked value are earlier ones that are marked
pub placed-operands : (ops : List Op) (marks : List Bool) (k n : ℕ) (x : Op) → AreEarlier ops → AreClosed ops marks → k ≤ n → IsMarked marks k
    → slice_get ops k ≡ Some x → AllByRecursion (OnValue (λ j. (j < n) × IsMarked marks j)) (operands x)
placed-operands ops marks k n x earlier closed small is at =
    AllByRecursion-weaker (λ v. IsBelow n v × OnValue (IsMarked marks) v) (OnValue (λ j. (j < n) × IsMarked marks j)) (operands x)
    (on-both (IsMarked marks) n)
    (AllByRecursion-both (IsBelow n) (OnValue (IsMarked marks)) (operands x) (operands-within ops k x n earlier small at) (closed k x is at))

-- no value has a place
pub ArePlaced-new : (ops : List Op) (marks : List Bool) → ArePlaced 0 ops marks [] []
unfolding in_order
ArePlaced-new ops marks = record {
  count = refl;
  carried = λ k x on at. absurd (omega (arith, on.0));
  chosen = sym (no-tree marks);
}

-- the values that had their places keep them
kept-places : (n : ℕ) (ops kept next : List Op) (marks : List Bool) (places : List ℕ) (place : ℕ) → AreEarlier ops → ArePlaced n ops marks kept places
    → ((k : ℕ) (y : Op) → slice_get kept k ≡ Some y → slice_get next k ≡ Some y)
    → (k : ℕ) (x : Op) → k < n → IsMarked marks k → slice_get ops k ≡ Some x
    → slice_get next (slice_index (places ++ place ∷ []) k) ≡ Some (with_operands (renumbered (places ++ place ∷ [])) x)
kept-places n ops kept next marks places place earlier so_far stays k x below is at =
    ap (slice_get next) (get_or_append_left places (place ∷ []) 0 k (omega (arith, below, so_far.count)))
    ∙ stays (slice_index places k) (with_operands (renumbered places) x) (so_far.carried k x (below, is) at)
    ∙ ap Some (sym (with_operands-more places (place ∷ []) x (operands-within ops k x (length places) earlier (omega (arith, below, so_far.count)) at)))

-- a value that isn't marked
pub ArePlaced-passed : (n : ℕ) (ops kept : List Op) (marks : List Bool) (places : List ℕ) (place : ℕ) → AreEarlier ops → ArePlaced n ops marks kept places
    → n < length ops → slice_get marks n ≡ Some false → ArePlaced (n + 1) ops marks kept (places ++ place ∷ [])
ArePlaced-passed n ops kept marks places place earlier so_far within not = record {
  count = omega (arith, length-append places (place ∷ []), so_far.count);
  carried = λ k x on at. elim (cases_order k n) [
    | inl same ↦ absurd (true-not_false (unsome (sym on.1 ∙ ap (slice_get marks) same ∙ not)))
    | inr other ↦ elim other [
      | inl less ↦ kept-places n ops kept kept marks places place earlier so_far (λ j y there. there) k x less on.1 at
      | inr more ↦ absurd (omega (arith, more, on.0))
    ]
  ];
  chosen = so_far.chosen ∙ sym (marked-false marks (trees ops) n (tree_of ops (Block n)) not (tree-at ops n within)) ∙ ap (λ (m : ℕ). marked marks (take m (trees ops))) (sym (add-one n));
}

-- a marked value fits behind those kept
pub placed-fits : (d e : Draft) (n : ℕ) (marks : List Bool) (places : List ℕ) (place : ℕ) (x : Op) → IsDraft d → AreClosed d.values marks
    → e.field ≡ d.field → e.secrets ≡ d.secrets → e.publics ≡ d.publics → e.maps ≡ d.maps
    → ArePlaced n d.values marks e.values places → IsMarked marks n → slice_get d.values n ≡ Some x
    → Fits e (with_operands (renumbered (places ++ place ∷ [])) x)
placed-fits d e n marks places place x made closed field secrets publics maps so_far is at =
    let earlier = made-earlier d made in
    subst (Fits e) (sym (with_operands-more places (place ∷ []) x (operands-within d.values n x (length places) earlier (omega (arith, so_far.count)) at)))
    (carried-fits (front d n) e (λ j. (j < n) × IsMarked marks j) places x field secrets publics (ap length maps)
    (λ k y on there. so_far.carried k y on (slice_get-front d.values n k y there).1)
    (placed-operands d.values marks n n x earlier closed (omega arith) is at) (made.fit n x at))

-- a value that is marked
pub ArePlaced-marked : (n : ℕ) (ops kept : List Op) (marks : List Bool) (places : List ℕ) (x : Op) → AreEarlier ops → AreEarlier kept → AreClosed ops marks
    → ArePlaced n ops marks kept places → IsMarked marks n → slice_get ops n ≡ Some x
    → ArePlaced (n + 1) ops marks (kept ++ with_operands (renumbered (places ++ length kept ∷ [])) x ∷ []) (places ++ length kept ∷ [])
ArePlaced-marked n ops kept marks places x earlier kept_earlier closed so_far is at =
    let place = length kept in
    let y = with_operands (renumbered (places ++ place ∷ [])) x in
    let on : ℕ → Type 0 = λ j. (j < n) × IsMarked marks j in
    let within = (slice_get-at ops n x x at).0 in
    let plain : y ≡ with_operands (renumbered places) x =
    with_operands-more places (place ∷ []) x (operands-within ops n x (length places) earlier (omega (arith, so_far.count)) at) in
    let operands_on = placed-operands ops marks n n x earlier closed (omega arith) is at in
    let same : tree_by (tree_of kept) y ≡ tree_of ops (Block n) =
    ap (tree_by (tree_of kept)) plain
    ∙ tree_by-with (tree_of kept) (renumbered places) x
    ∙ tree_by-same (λ v. tree_of kept (renumbered places v)) (tree_of ops) x
    (AllByRecursion-weaker (λ v. OnValue on v × IsBelow (length ops) v) (λ v. tree_of kept (renumbered places v) ≡ tree_of ops v) (operands x)
    (λ v both. carried-operand on ops kept places earlier kept_earlier
    (λ k z on_k z_at. AllByRecursion-weaker (OnValue (λ j. (j < k) × IsMarked marks j)) (OnValue on) (operands z)
    (λ w on_w. OnValue-weaker (λ j. (j < k) × IsMarked marks j) on w (λ j of. (omega (arith, of.0, on_k.0), of.1)) on_w)
    (placed-operands ops marks k k z earlier closed (omega arith) on_k.1 z_at))
    so_far.carried v both.0 both.1)
    (AllByRecursion-both (OnValue on) (IsBelow (length ops)) (operands x) operands_on (operands-within ops n x (length ops) earlier (omega (arith, within)) at)))
    ∙ sym (tree_of-at ops n x earlier at) in
    record {
      count = omega (arith, length-append places (place ∷ []), so_far.count);
      carried = λ k z of z_at. elim (cases_order k n) [
        | inl equal ↦
            let e : k ≡ length places = equal ∙ sym so_far.count in
            let x_is : x ≡ z = unsome (sym at ∙ ap (slice_get ops) (sym equal) ∙ z_at) in
            ap (λ (i : ℕ). slice_get (kept ++ y ∷ []) (slice_index (places ++ place ∷ []) i)) e
            ∙ ap (slice_get (kept ++ y ∷ [])) (get_or-append_seam places place [] 0)
            ∙ slice_get-last kept y
            ∙ ap (λ (w : Op). Some (with_operands (renumbered (places ++ place ∷ [])) w)) x_is
        | inr other ↦ elim other [
          | inl less ↦
              kept-places n ops kept (kept ++ y ∷ []) marks places place earlier so_far (λ j w there. slice_get-more kept (y ∷ []) j w there) k z less of.1 z_at
          | inr more ↦ absurd (omega (arith, more, of.0))
        ]
      ];
      chosen =
          trees-push kept y ∙ ap (λ (t : Tree). trees kept ++ t ∷ []) same ∙ ap (λ (l : List Tree). l ++ tree_of ops (Block n) ∷ []) so_far.chosen
          ∙ sym (marked-true marks (trees ops) n (tree_of ops (Block n)) is (tree-at ops n within))
          ∙ ap (λ (m : ℕ). marked marks (take m (trees ops))) (sym (add-one n));
    }

-- no value yet, over the same inputs
pub IsDraft-empty : (d : Draft) (ops : List Op) → d.values ≡ [] → IsDraft (record d { values = ops }) → IsDraft d
IsDraft-empty d ops none made = record {
  bytes = made.bytes;
  fit = λ k x at. let bad : slice_get [] k ≡ Some x = subst (λ (l : List Op). slice_get l k ≡ Some x) none at in absurd (cc);
}

-- the values kept so far, over the same inputs as at first
abbrev pub IsKeeping : Draft → List Op → List Bool → ℕ → Draft → List ℕ → Type 0
IsKeeping d ops marks n b places = ArePlaced n ops marks b.values places × (b ≡ record d { values = b.values }) × IsDraft b

-- a marked value fits
pub keeping-fits : (d : Draft) (ops : List Op) (marks : List Bool) (n : ℕ) (b : Draft) (places : List ℕ) (place : ℕ) (x : Op)
    → IsDraft (record d { values = ops }) → AreClosed ops marks → IsKeeping d ops marks n b places → IsMarked marks n → slice_get ops n ≡ Some x
    → Fits b (with_operands (renumbered (places ++ place ∷ [])) x)
keeping-fits d ops marks n b places place x made closed so_far is at =
    placed-fits (record d { values = ops }) b n marks places place x made closed
    (ap (λ (e : Draft). e.field) so_far.1) (ap (λ (e : Draft). e.secrets) so_far.1) (ap (λ (e : Draft). e.publics) so_far.1) (ap (λ (e : Draft). e.maps) so_far.1)
    so_far.0 is at

-- a marked value is kept
pub keeping-marked : (d : Draft) (ops : List Op) (marks : List Bool) (n : ℕ) (b : Draft) (places : List ℕ) (x : Op)
    → IsDraft (record d { values = ops }) → AreClosed ops marks → IsKeeping d ops marks n b places → IsMarked marks n → slice_get ops n ≡ Some x
    → IsKeeping d ops marks (n + 1) (pushed b (with_operands (renumbered (places ++ length b.values ∷ [])) x)) (places ++ length b.values ∷ [])
keeping-marked d ops marks n b places x made closed so_far is at =
    let y = with_operands (renumbered (places ++ length b.values ∷ [])) x in (
      ArePlaced-marked n ops b.values marks places x (made-earlier (record d { values = ops }) made) (made-earlier b so_far.2) closed so_far.0 is at,
      ap (λ (e : Draft). pushed e y) so_far.1,
      IsDraft-pushed b y so_far.2 (keeping-fits d ops marks n b places (length b.values) x made closed so_far is at),
    )

-- a value that isn't marked is passed
pub keeping-passed : (d : Draft) (ops : List Op) (marks : List Bool) (n : ℕ) (b : Draft) (places : List ℕ) (place : ℕ)
    → IsDraft (record d { values = ops }) → IsKeeping d ops marks n b places → n < length ops → slice_get marks n ≡ Some false
    → IsKeeping d ops marks (n + 1) b (places ++ place ∷ [])
keeping-passed d ops marks n b places place made so_far within not =
    (ArePlaced-passed n ops b.values marks places place (made-earlier (record d { values = ops }) made) so_far.0 within not, so_far.1, so_far.2)
