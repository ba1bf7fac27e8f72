-- The uses of each value, noted from the last block to the first.
use Rattle.std.proofs.Common.{◌≡◌, ℕ, zero, suc, ◌+◌, ◌<◌, ◌≤◌, Some, List, [], ◌∷◌, ◌++◌, length, drop, slice_get, get_or, set, nat_eq, refl, sym, ◌∙◌, ap, subst, inl, inr, arith}
use Rattle.std.proofs.lemmas.Bool.{cases_eq, cond-true, cond-false, eq-eqb, ne_eqb}
use Rattle.std.proofs.lemmas.List.{length-set, get_or-set_same, get_or-set_other, drop_all}
use Rattle.std.proofs.lemmas.Option.{same_Some}
use Rattle.mk_ssa.specs.declared.Op.{Op}
use Rattle.mk_ssa.specs.declared.Op.TheVariants.{Const, PubAdd, PubMul, PubSq, PubMap, Lift, Add, AddPub, Scale, Sq, Map, Mul, Refresh}
use Rattle.mk_ssa.specs.Kinds.{Kind, kind}
use Rattle.mk_rules.specs.declared.uses.OperandPlace.{OperandPlace}
use Rattle.mk_rules.specs.Shape.{Shape}
use Rattle.mk_rules.specs.Reaches.{links}
use Rattle.mk_rules.specs.Uses.{AreThere, AreUses, AreUsesAt, IsNoted, Use, last_first, place_of_use, shared_numbers, uses_behind, uses_by, uses_from}
use Rattle.mk_rules.proofs.Doubled.{link_of}

-- a use by its parts
abbrev pub use_of : ℕ → Kind → ℕ → ℕ → Use
use_of value kind place operand = record { value = value; kind = kind; place = place; operand = operand }

-- a place by its parts
abbrev pub place_of : ℕ → ℕ → OperandPlace
place_of value operand = record { value = value; operand = operand }

-- the links of the blocks from one on
pub drop-links : (shape : Shape) (ops : List Op) (i : ℕ) (op : Op) → slice_get ops i ≡ Some op
    → drop i (links shape ops) ≡ link_of shape op ∷ drop (suc i) (links shape ops)
drop-links shape [] i op there = absurd (cc)
drop-links shape (x ∷ ops) zero op there = ap (λ (y : Op). link_of shape y ∷ links shape ops) (same_Some x op there)
drop-links shape (x ∷ ops) (suc i) op there = drop-links shape ops i op there

-- the uses by a block and those behind it
pub uses-next : (shape : Shape) (ops : List Op) (i : ℕ) (op : Op) → slice_get ops i ≡ Some op
    → uses_behind shape ops i ≡ uses_by i (kind op) 0 (shared_numbers shape op) ++ uses_behind shape ops (suc i)
unfolding uses_from
uses-next shape ops i op there = ap (uses_from i) (drop-links shape ops i op there)

-- at most two operands are shared
pub operands-short : (shape : Shape) (op : Op) → length (shared_numbers shape op) ≤ 2
operands-short shape (Const value) = omega arith
operands-short shape (PubAdd left right) = omega arith
operands-short shape (PubMul left right) = omega arith
operands-short shape (PubSq arg) = omega arith
operands-short shape (PubMap k arg) = omega arith
operands-short shape (Lift arg) = omega arith
operands-short shape (Add left right) = omega arith
operands-short shape (AddPub left right) = omega arith
operands-short shape (Scale left right) = omega arith
operands-short shape (Sq arg) = omega arith
operands-short shape (Map k arg) = omega arith
operands-short shape (Mul left right) = omega arith
operands-short shape (Refresh arg) = omega arith

-- a use of this value stands behind the others
pub noted-own : (v : ℕ) (u : Use) (us : List Use) → u.operand ≡ v → last_first v (u ∷ us) ≡ last_first v us ++ place_of_use u ∷ []
unfolding last_first
noted-own v u us same = cond-true (nat_eq u.operand v) (last_first v us ++ place_of_use u ∷ []) (last_first v us) (eq-eqb u.operand v same)

-- a use of another one doesn't count
pub noted-other : (v : ℕ) (u : Use) (us : List Use) → (u.operand ≡ v → ⊥) → last_first v (u ∷ us) ≡ last_first v us
unfolding last_first
noted-other v u us differ = cond-false (nat_eq u.operand v) (last_first v us ++ place_of_use u ∷ []) (last_first v us) (ne_eqb u.operand v differ)

-- one use more
noted-one : (len i : ℕ) (kind : Kind) (k v : ℕ) (us : List Use) (noted after : List (List OperandPlace)) → AreUses len us noted → v < len
    → IsNoted noted (Some v) (place_of i k) after → AreUses len (use_of i kind k v ∷ us) after
noted-one len i kind k v us noted after are below is =
    let more : List OperandPlace = get_or noted v [] ++ place_of i k ∷ [] in
    record {
      count = ap (λ (t : List (List OperandPlace)). length t) is ∙ length-set noted v more ∙ are.count;
      each = λ w within. ap (λ (t : List (List OperandPlace)). get_or t w []) is ∙ elim (cases_eq w v) [
        | inl same ↦
            ap (λ (x : ℕ). get_or (set noted v more) x []) same ∙ get_or-set_same noted v more [] (omega (arith, below, are.count))
            ∙ ap (λ (xs : List OperandPlace). xs ++ place_of i k ∷ []) (are.each v below)
            ∙ sym (noted-own v (use_of i kind k v) us refl) ∙ ap (λ (x : ℕ). last_first x (use_of i kind k v ∷ us)) (sym same)
        | inr differ ↦ get_or-set_other noted v w more [] differ ∙ are.each w within ∙ sym (noted-other w (use_of i kind k v) us (λ e. differ (sym e)))
      ];
    }

-- the uses by one block more
noted-step : (len i : ℕ) (kind : Kind) (vs : List ℕ) (us : List Use) (noted middle after : List (List OperandPlace)) → length vs ≤ 2
    → ((k v : ℕ) → slice_get vs k ≡ Some v → v < len)
    → AreUses len us noted → IsNoted noted (slice_get vs 1) (place_of i 1) middle → IsNoted middle (slice_get vs 0) (place_of i 0) after
    → AreUses len (uses_by i kind 0 vs ++ us) after
unfolding uses_by
noted-step len i kind [] us noted middle after short below are is_1 is_0 = subst (AreUses len us) (sym (is_0 ∙ is_1)) are
noted-step len i kind (v ∷ []) us noted middle after short below are is_1 is_0 =
    noted-one len i kind 0 v us middle after (subst (AreUses len us) (sym is_1) are) (below 0 v refl) is_0
noted-step len i kind (v ∷ w ∷ []) us noted middle after short below are is_1 is_0 =
    noted-one len i kind 0 v (use_of i kind 1 w ∷ us) middle after
    (noted-one len i kind 1 w us noted middle are (below 1 w refl) is_1) (below 0 v refl) is_0
noted-step len i kind (v ∷ w ∷ x ∷ vs) us noted middle after short below are is_1 is_0 = absurd (omega (arith, short))

-- so those by block i are noted
pub uses-noted : (shape : Shape) (ops : List Op) → AreThere shape ops → (i : ℕ) (op : Op) → slice_get ops i ≡ Some op
    → (noted middle after : List (List OperandPlace)) → AreUsesAt shape ops (suc i) noted
    → IsNoted noted (slice_get (shared_numbers shape op) 1) (place_of i 1) middle → IsNoted middle (slice_get (shared_numbers shape op) 0) (place_of i 0) after
    → AreUsesAt shape ops i after
uses-noted shape ops are_there i op there noted middle after are is_1 is_0 =
    subst (λ (us : List Use). AreUses (shape.secrets + shape.publics + length ops) us after) (sym (uses-next shape ops i op there))
    (noted-step (shape.secrets + shape.publics + length ops) i (kind op) (shared_numbers shape op) (uses_behind shape ops (suc i)) noted middle after
    (operands-short shape op) (λ k v at. are_there i k v op there at) are is_1 is_0)

-- there are as many links as blocks
links-long : (shape : Shape) (ops : List Op) → length (links shape ops) ≡ length ops
links-long shape [] = refl
links-long shape (op ∷ ops) = ap (λ (n : ℕ). suc n) (links-long shape ops)

-- behind the last block there is no use
pub uses-start : (shape : Shape) (ops : List Op) (n : ℕ) (noted : List (List OperandPlace)) → n ≡ length ops
    → length noted ≡ shape.secrets + shape.publics + length ops → ((v : ℕ) → get_or noted v [] ≡ []) → AreUsesAt shape ops n noted
unfolding uses_from last_first
uses-start shape ops n noted long count none =
    let past : drop n (links shape ops) ≡ [] = drop_all n (links shape ops) (omega (arith, long, links-long shape ops)) in
    record { count = count; each = λ v below. none v ∙ ap (λ (ls : List _). last_first v (uses_from n ls)) (sym past) }
