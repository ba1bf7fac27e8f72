-- The blocks so far are those of the first values, and each step adds those of the next.
use Rattle.std.proofs.Common.{◌≡◌, ℕ, zero, suc, ◌+◌, ◌<◌, Bool, true, Option, Some, None, IsSome, List, [], ◌∷◌, ◌++◌, length, take, slice_get, slice_index, slice_index_or, if◌then◌else◌, refl, sym, ◌∙◌, ap, ap₂, subst, arith, inl, inr, append_assoc}
use Rattle.std.proofs.lemmas.Bool.{cases_Bool, cases_lt, cond-true, cond-false, false≢true}
use Rattle.std.proofs.lemmas.List.{append-nil, length-append, length-take-le, get_or_append_left, get_or_push}
use Rattle.std.proofs.lemmas.Option.{get_or_from_slice_get, slice_get_within}
use Rattle.mk_ssa.specs.declared.Op.{Op}
use Rattle.mk_ssa.specs.declared.Op.TheVariants.{Const, PubAdd, PubMul, PubSq, PubMap, Lift, Add, AddPub, Scale, Sq, Map, Mul, Refresh}
use Rattle.mk_ssa.specs.declared.Operand.{Operand}
use Rattle.mk_ssa.specs.declared.Operand.TheVariants.{Secret, Public, Block}
use Rattle.mk_ssa.specs.Kinds.{shared_operands}
use Rattle.mk_ssa.specs.Operators.{with_operands_by}
use Rattle.mk_place.specs.Layout.{Marks, one, blocks_before, own_block, refresh_block, renamed, refreshed, refresh_at, blocks_of, blocks_from}
use Rattle.mk_place.specs.Laying.{named, HasName, HasNames, argument, refreshes, pick, with_refreshes, own_of, IsLaid}
use Rattle.mk_place.specs.declared.marking.Fresh.{Fresh}

-- the blocks of values, and of one value more
pub blocks-last : (marks : Marks) (i : ℕ) (ops : List Op) (op : Op)
    → blocks_from marks i (ops ++ op ∷ []) ≡ blocks_from marks i ops ++ blocks_of marks (i + length ops) op
unfolding blocks_from
blocks-last marks i [] op =
    let e : i ≡ i + 0 = omega arith in
    append-nil (blocks_of marks i op) ∙ ap (λ (n : ℕ). blocks_of marks n op) e
blocks-last marks i (x ∷ ops) op =
    let e : suc i + length ops ≡ i + suc (length ops) = omega arith in
    ap (λ (rest : List Op). blocks_of marks i x ++ rest) (blocks-last marks (suc i) ops op ∙ ap (λ (n : ℕ). blocks_from marks (suc i) ops ++ blocks_of marks n op) e)
    ∙ sym (append_assoc (blocks_of marks i x) (blocks_from marks (suc i) ops) (blocks_of marks (i + suc (length ops)) op))

module _ (marks : Marks) (i : ℕ) (names : List ℕ) (each : (k : ℕ) → k < length names → slice_index names k ≡ own_block marks k) where
  -- new numbers
  pub named-is : (v : Operand) → HasName names v → named names v ≡ renamed marks v
  named-is (Secret k) has = refl
  named-is (Public k) has = refl
  named-is (Block k) has = ap (λ (n : ℕ). Block n) (each k has)

  -- what stands for a shared operand
  pub argument-is : (len k : ℕ) (m : Bool) (v : Operand) → m ≡ marks i k → len ≡ refresh_block marks i k → HasName names v
      → argument names len (Some v) m ≡ refreshed marks i k v
  argument-is len k m v marked at has =
      ap (λ (b : Bool). if b then Block len else named names v) marked
      ∙ ap (λ (n : ℕ). if marks i k then Block n else named names v) at
      ∙ ap (λ (w : Operand). if marks i k then Block (refresh_block marks i k) else w) (named-is v has)

  -- the block of the value itself
  pub own-is : (op : Op) (l_0 l_1 : ℕ) (m_0 m_1 : Bool) → m_0 ≡ marks i 0 → m_1 ≡ marks i 1 → l_0 ≡ refresh_block marks i 0 → l_1 ≡ refresh_block marks i 1
      → HasNames names op
      → with_operands_by (pick (argument names l_0 (slice_get (shared_operands op) 0) m_0) (argument names l_1 (slice_get (shared_operands op) 1) m_1)) (named names) op
      ≡ with_operands_by (refreshed marks i) (renamed marks) op
  own-is (Const value) l_0 l_1 m_0 m_1 is_0 is_1 at_0 at_1 has = refl
  own-is (PubAdd left right) l_0 l_1 m_0 m_1 is_0 is_1 at_0 at_1 has = ap₂ (λ a b. PubAdd a b) (named-is left has.0) (named-is right has.1.0)
  own-is (PubMul left right) l_0 l_1 m_0 m_1 is_0 is_1 at_0 at_1 has = ap₂ (λ a b. PubMul a b) (named-is left has.0) (named-is right has.1.0)
  own-is (PubSq arg) l_0 l_1 m_0 m_1 is_0 is_1 at_0 at_1 has = ap (λ a. PubSq a) (named-is arg has.0)
  own-is (PubMap k arg) l_0 l_1 m_0 m_1 is_0 is_1 at_0 at_1 has = ap (λ a. PubMap k a) (named-is arg has.0)
  own-is (Lift arg) l_0 l_1 m_0 m_1 is_0 is_1 at_0 at_1 has = ap (λ a. Lift a) (named-is arg has.0)
  own-is (Add left right) l_0 l_1 m_0 m_1 is_0 is_1 at_0 at_1 has =
      ap₂ (λ a b. Add a b) (argument-is l_0 0 m_0 left is_0 at_0 has.0) (argument-is l_1 1 m_1 right is_1 at_1 has.1.0)
  own-is (AddPub left right) l_0 l_1 m_0 m_1 is_0 is_1 at_0 at_1 has =
      ap₂ (λ a b. AddPub a b) (argument-is l_0 0 m_0 left is_0 at_0 has.0) (named-is right has.1.0)
  own-is (Scale left right) l_0 l_1 m_0 m_1 is_0 is_1 at_0 at_1 has =
      ap₂ (λ a b. Scale a b) (argument-is l_0 0 m_0 left is_0 at_0 has.0) (named-is right has.1.0)
  own-is (Sq arg) l_0 l_1 m_0 m_1 is_0 is_1 at_0 at_1 has = ap (λ a. Sq a) (argument-is l_0 0 m_0 arg is_0 at_0 has.0)
  own-is (Map k arg) l_0 l_1 m_0 m_1 is_0 is_1 at_0 at_1 has = ap (λ a. Map k a) (argument-is l_0 0 m_0 arg is_0 at_0 has.0)
  own-is (Mul left right) l_0 l_1 m_0 m_1 is_0 is_1 at_0 at_1 has =
      ap₂ (λ a b. Mul a b) (argument-is l_0 0 m_0 left is_0 at_0 has.0) (argument-is l_1 1 m_1 right is_1 at_1 has.1.0)
  own-is (Refresh arg) l_0 l_1 m_0 m_1 is_0 is_1 at_0 at_1 has = ap (λ a. Refresh a) (argument-is l_0 0 m_0 arg is_0 at_0 has.0)

  -- the refresh of an operand: what is marked is there
  refreshes-of : (o : Option Operand) (m : Bool) (w : Operand) → (m ≡ true → IsSome o) → ((v : Operand) → o ≡ Some v → (v ≡ w) × HasName names v)
      → refreshes names o m ≡ (if m then Refresh (renamed marks w) ∷ [] else [])
  refreshes-of None m w used there = elim (cases_Bool m) [
    | inl on ↦ absurd (false≢true (used on))
    | inr off ↦ sym (cond-false m (Refresh (renamed marks w) ∷ []) [] off)
  ]
  refreshes-of (Some v) m w used there =
      ap (λ (x : Operand). if m then Refresh x ∷ [] else []) (named-is v (there v refl).1 ∙ ap (renamed marks) (there v refl).0)

  -- the refresh of the operand at a place
  pub refreshes-is : (k : ℕ) (m : Bool) (op : Op) → m ≡ marks i k → (marks i k ≡ true → IsSome (slice_get (shared_operands op) k))
      → ((v : Operand) → slice_get (shared_operands op) k ≡ Some v → HasName names v)
      → refreshes names (slice_get (shared_operands op) k) m ≡ refresh_at marks i k op
  refreshes-is k m op marked used has =
      let w : Operand = slice_index_or (shared_operands op) k (Secret 0) in
      refreshes-of (slice_get (shared_operands op) k) m w (λ on. used (sym marked ∙ on))
      (λ v there. (sym (get_or_from_slice_get (shared_operands op) k v (Secret 0) there), has v there))
      ∙ ap (λ (b : Bool). if b then Refresh (renamed marks w) ∷ [] else []) marked

-- there is one refresh for a mark
pub refresh-long : (marks : Marks) (i k : ℕ) (op : Op) → length (refresh_at marks i k op) ≡ one (marks i k)
refresh-long marks i k op =
    let r : List Op = Refresh (renamed marks (slice_index_or (shared_operands op) k (Secret 0))) ∷ [] in
    elim (cases_Bool (marks i k)) [
      | inl on ↦ ap (λ (xs : List Op). length xs) (cond-true (marks i k) r [] on) ∙ sym (ap one on)
      | inr off ↦ ap (λ (xs : List Op). length xs) (cond-false (marks i k) r [] off) ∙ sym (ap one off)
    ]

-- the one of one operand
one-of : (names : List ℕ) (a v : Operand) (k : ℕ) → HasName names a → slice_get (a ∷ []) k ≡ Some v → HasName names v
one-of names a v zero has there = let same : a ≡ v = cc in subst (HasName names) same has
one-of names a v (suc k) has there = absurd (cc)

-- one of two operands
two-of : (names : List ℕ) (a b v : Operand) (k : ℕ) → HasName names a → HasName names b → slice_get (a ∷ b ∷ []) k ≡ Some v → HasName names v
two-of names a b v zero has also there = let same : a ≡ v = cc in subst (HasName names) same has
two-of names a b v (suc k) has also there = one-of names b v k also there

-- there is a new number for each shared operand
pub shared-named : (names : List ℕ) (op : Op) (k : ℕ) (v : Operand) → HasNames names op → slice_get (shared_operands op) k ≡ Some v → HasName names v
shared-named names (Const value) k v has there = absurd (cc)
shared-named names (PubAdd left right) k v has there = absurd (cc)
shared-named names (PubMul left right) k v has there = absurd (cc)
shared-named names (PubSq arg) k v has there = absurd (cc)
shared-named names (PubMap m arg) k v has there = absurd (cc)
shared-named names (Lift arg) k v has there = absurd (cc)
shared-named names (Add left right) k v has there = two-of names left right v k has.0 has.1.0 there
shared-named names (AddPub left right) k v has there = one-of names left v k has.0 there
shared-named names (Scale left right) k v has there = one-of names left v k has.0 there
shared-named names (Sq arg) k v has there = one-of names arg v k has.0 there
shared-named names (Map m arg) k v has there = one-of names arg v k has.0 there
shared-named names (Mul left right) k v has there = two-of names left right v k has.0 has.1.0 there
shared-named names (Refresh arg) k v has there = one-of names arg v k has.0 there

-- a front of a list, and one element more
take-next : {X : Type 0} (xs : List X) (i : ℕ) (x : X) → slice_get xs i ≡ Some x → take (suc i) xs ≡ take i xs ++ x ∷ []
take-next [] i x there = absurd (cc)
take-next (y ∷ xs) zero x there = let same : y ≡ x = cc in ap (λ (z : _). z ∷ []) same
take-next (y ∷ xs) (suc i) x there = ap (λ (ys : List _). y ∷ ys) (take-next xs i x there)

-- one value more is laid
pub laid-step : (marks : Marks) (values : List Op) (i : ℕ) (op : Op) (blocks : List Op) (names : List ℕ) (fresh : Fresh)
    → IsLaid marks values i blocks names → slice_get values i ≡ Some op → HasNames names op → fresh.first ≡ marks i 0 → fresh.second ≡ marks i 1
    → ((k : ℕ) → marks i k ≡ true → IsSome (slice_get (shared_operands op) k))
    → IsLaid marks values (suc i) (with_refreshes names blocks op fresh ++ own_of names blocks op fresh ∷ [])
    (names ++ length (with_refreshes names blocks op fresh) ∷ [])
unfolding blocks_before
laid-step marks values i op blocks names fresh laid there has first second used =
    let o_0 : Option Operand = slice_get (shared_operands op) 0 in
    let o_1 : Option Operand = slice_get (shared_operands op) 1 in
    let r_0 : List Op = refreshes names o_0 fresh.first in
    let r_1 : List Op = refreshes names o_1 fresh.second in
    let own : Op = own_of names blocks op fresh in
    let is_0 : r_0 ≡ refresh_at marks i 0 op =
    refreshes-is marks i names laid.each 0 fresh.first op first (used 0) (λ v at. shared-named names op 0 v has at) in
    let is_1 : r_1 ≡ refresh_at marks i 1 op =
    refreshes-is marks i names laid.each 1 fresh.second op second (used 1) (λ v at. shared-named names op 1 v has at) in
    let long_0 : length r_0 ≡ one (marks i 0) = ap (λ (xs : List Op). length xs) is_0 ∙ refresh-long marks i 0 op in
    let long_1 : length r_1 ≡ one (marks i 1) = ap (λ (xs : List Op). length xs) is_1 ∙ refresh-long marks i 1 op in
    let at_1 : length (blocks ++ r_0) ≡ blocks_before marks i + one (marks i 0) = omega (arith, length-append blocks r_0, laid.count, long_0) in
    let own_is : own ≡ with_operands_by (refreshed marks i) (renamed marks) op =
    own-is marks i names laid.each op (length blocks) (length (blocks ++ r_0)) fresh.first fresh.second first second laid.count at_1 has in
    let whole : List Op = (blocks ++ r_0) ++ r_1 in
    let long : length whole ≡ own_block marks i = omega (arith, length-append (blocks ++ r_0) r_1, at_1, long_1) in
    let within : i < length values = slice_get_within values i op there in
    let place : 0 + length (take i values) ≡ i = omega (arith, length-take-le i values (omega (arith, within))) in
    let parts : whole ++ own ∷ [] ≡ blocks ++ blocks_of marks i op =
    ap (λ (xs : List Op). xs ++ own ∷ []) (append_assoc blocks r_0 r_1) ∙ append_assoc blocks (r_0 ++ r_1) (own ∷ [])
    ∙ ap (λ (xs : List Op). blocks ++ ((xs ++ r_1) ++ own ∷ [])) is_0
    ∙ ap (λ (xs : List Op). blocks ++ ((refresh_at marks i 0 op ++ xs) ++ own ∷ [])) is_1
    ∙ ap (λ (x : Op). blocks ++ ((refresh_at marks i 0 op ++ refresh_at marks i 1 op) ++ x ∷ [])) own_is in
    record {
      same =
          parts ∙ ap (λ (xs : List Op). xs ++ blocks_of marks i op) laid.same
          ∙ ap (λ (n : ℕ). blocks_from marks 0 (take i values) ++ blocks_of marks n op) (sym place)
          ∙ sym (blocks-last marks 0 (take i values) op) ∙ ap (blocks_from marks 0) (sym (take-next values i op there));
      count = omega (arith, length-append whole (own ∷ []), long);
      long = omega (arith, length-append names (length whole ∷ []), laid.long);
      each = λ k below. elim (cases_lt k (length names)) [
        | inl before ↦ get_or_append_left names (length whole ∷ []) 0 k before ∙ laid.each k before
        | inr last ↦
            let at : k ≡ length names = omega (arith, below, last, length-append names (length whole ∷ [])) in
            get_or_push names (length whole) 0 k (sym at) ∙ long ∙ ap (own_block marks) (sym (at ∙ laid.long))
      ];
    }
