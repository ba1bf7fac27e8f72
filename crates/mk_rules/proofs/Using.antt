-- The uses of values: what each is, that there are no others, and where they are noted.
use Rattle.std.proofs.Common.{◌≡◌, ℕ, zero, suc, ◌+◌, Some, IsSomeAnd, List, [], ◌∷◌, ◌++◌, slice_get, Option, refl, sym, ◌∙◌, ap, subst, arith, inl, inr}
use Rattle.std.specs.List.{Contains}
use Rattle.std.proofs.lemmas.Bool.{cases_eq}
use Rattle.std.proofs.lemmas.List.Elements.{Contains-append_left, Contains-append_right, Contains-append_cases, Contains-push, Contains-push_cases}
use Rattle.std.proofs.lemmas.Option.{same_Some}
use Rattle.mk_base.proofs.Lists.{Contains-cases}
use Rattle.mk_ssa.specs.declared.Op.{Op}
use Rattle.mk_ssa.specs.Kinds.{Kind, kind}
use Rattle.mk_rules.specs.declared.uses.OperandPlace.{OperandPlace}
use Rattle.mk_rules.specs.Shape.{Shape}
use Rattle.mk_rules.specs.Reaches.{Link, links}
use Rattle.mk_rules.specs.Uses.{Use, last_first, place_of_use, shared_numbers, uses_behind, uses_by, uses_from}
use Rattle.mk_rules.proofs.Doubled.{link_of, links-at, links-from}
use Rattle.mk_rules.proofs.Probes.{Contains-none, Contains-front, Contains-more}
use Rattle.mk_rules.proofs.Noting.{noted-own, noted-other, use_of}

-- a use by one block of its operands from a place on
pub record IsBy (value : ℕ) (kind : Kind) (place : ℕ) (vs : List ℕ) (u : Use) : Type 0 where
  pub past : ℕ
  pub own : u.value ≡ value
  pub same : u.kind ≡ kind
  pub at : u.place ≡ place + past
  pub operand : slice_get vs past ≡ Some u.operand

-- each of the uses by a block is such
pub by-from : (value : ℕ) (kind : Kind) (place : ℕ) (vs : List ℕ) (u : Use) → Contains (uses_by value kind place vs) u → IsBy value kind place vs u
unfolding uses_by
by-from value kind place [] u held = absurd (Contains-none u held)
by-from value kind place (v ∷ vs) u held = elim (Contains-cases (use_of value kind place v) (uses_by value kind (suc place) vs) u held) [
  | inl own ↦ record {
    past = 0;
    own = sym (ap (λ (x : Use). x.value) own);
    same = sym (ap (λ (x : Use). x.kind) own);
    at = omega (arith, ap (λ (x : Use). x.place) own);
    operand = ap (λ (x : Use). Some x.operand) own;
  }
  | inr rest ↦
      let found : IsBy value kind (suc place) vs u = by-from value kind (suc place) vs u rest in
      record { past = suc found.past; own = found.own; same = found.same; at = omega (arith, found.at); operand = found.operand }
]

-- and they are all there
by-at : (value : ℕ) (kind : Kind) (place : ℕ) (vs : List ℕ) (k v : ℕ) → slice_get vs k ≡ Some v
    → Contains (uses_by value kind place vs) (use_of value kind (place + k) v)
unfolding uses_by
by-at value kind place [] k v there = absurd (cc)
by-at value kind place (x ∷ vs) zero v there =
    let e : place ≡ place + 0 = omega arith in
    let same : use_of value kind place x ≡ use_of value kind (place + 0) v =
    ap (use_of value kind place) (same_Some x v there) ∙ ap (λ (n : ℕ). use_of value kind n v) e in
    subst (Contains (use_of value kind place x ∷ uses_by value kind (suc place) vs)) same
    (Contains-front (use_of value kind place x) (uses_by value kind (suc place) vs))
by-at value kind place (x ∷ vs) (suc k) v there =
    let e : suc place + k ≡ place + suc k = omega arith in
    Contains-more (use_of value kind place x) (uses_by value kind (suc place) vs) (use_of value kind (place + suc k) v)
    (subst (λ (n : ℕ). Contains (uses_by value kind (suc place) vs) (use_of value kind n v)) e (by-at value kind (suc place) vs k v there))

-- a use by one of the blocks with these links
pub record IsFrom (from : ℕ) (ls : List Link) (u : Use) : Type 0 where
  pub past : ℕ
  pub link : Link
  pub own : u.value ≡ from + past
  pub there : slice_get ls past ≡ Some link
  pub same : u.kind ≡ link.kind
  pub operand : slice_get link.shared u.place ≡ Some u.operand

-- each of their uses is such
pub from-is : (from : ℕ) (ls : List Link) (u : Use) → Contains (uses_from from ls) u → IsFrom from ls u
unfolding uses_from
from-is from [] u held = absurd (Contains-none u held)
from-is from (l ∷ ls) u held = elim (Contains-append_cases (uses_by from l.kind 0 l.shared) (uses_from (suc from) ls) u held) [
  | inl own ↦
      let found : IsBy from l.kind 0 l.shared u = by-from from l.kind 0 l.shared u own in
      let at : found.past ≡ u.place = omega (arith, found.at) in
      record {
        past = 0;
        link = l;
        own = omega (arith, found.own);
        there = refl;
        same = found.same;
        operand = ap (slice_get l.shared) (sym at) ∙ found.operand;
      }
  | inr rest ↦
      let found : IsFrom (suc from) ls u = from-is (suc from) ls u rest in
      record { past = suc found.past; link = found.link; own = omega (arith, found.own); there = found.there; same = found.same; operand = found.operand }
]

-- and they are all there
from-at : (from : ℕ) (ls : List Link) (i : ℕ) (l : Link) (k v : ℕ) → slice_get ls i ≡ Some l → slice_get l.shared k ≡ Some v
    → Contains (uses_from from ls) (use_of (from + i) l.kind k v)
unfolding uses_from
from-at from [] i l k v there at = absurd (cc)
from-at from (x ∷ ls) zero l k v there at =
    let e : from ≡ from + 0 = omega arith in
    let zeroth : 0 + k ≡ k = omega arith in
    let same : x ≡ l = same_Some x l there in
    Contains-append_left (uses_by from x.kind 0 x.shared) (uses_from (suc from) ls) (use_of (from + 0) l.kind k v)
    (subst (λ (y : Link). Contains (uses_by from y.kind 0 y.shared) (use_of (from + 0) l.kind k v)) (sym same)
    (subst (λ (n : ℕ). Contains (uses_by from l.kind 0 l.shared) (use_of n l.kind k v)) e
    (subst (λ (n : ℕ). Contains (uses_by from l.kind 0 l.shared) (use_of from l.kind n v)) zeroth (by-at from l.kind 0 l.shared k v at))))
from-at from (x ∷ ls) (suc i) l k v there at =
    let e : suc from + i ≡ from + suc i = omega arith in
    Contains-append_right (uses_by from x.kind 0 x.shared) (uses_from (suc from) ls) (use_of (from + suc i) l.kind k v)
    (subst (λ (n : ℕ). Contains (uses_from (suc from) ls) (use_of n l.kind k v)) e (from-at (suc from) ls i l k v there at))

-- a use among those of blocks: a block is there, of this kind, and has the operand at the place
pub record IsUse (shape : Shape) (ops : List Op) (u : Use) : Type 0 where
  pub op : Op
  pub there : slice_get ops u.value ≡ Some op
  pub same : u.kind ≡ kind op
  pub operand : slice_get (shared_numbers shape op) u.place ≡ Some u.operand

-- each use is such
pub use-is : (shape : Shape) (ops : List Op) (u : Use) → Contains (uses_from 0 (links shape ops)) u → IsUse shape ops u
use-is shape ops u held =
    let found : IsFrom 0 (links shape ops) u = from-is 0 (links shape ops) u held in
    let value : (op : Op) × (slice_get ops found.past ≡ Some op) × (link_of shape op ≡ found.link) =
    links-from shape ops found.past (λ (l : Link). l ≡ found.link)
    (subst (λ (o : Option Link). IsSomeAnd o (λ (l : Link). l ≡ found.link)) (sym found.there) refl) in
    let at : found.past ≡ u.value = omega (arith, found.own) in
    record {
      op = value.0;
      there = ap (slice_get ops) (sym at) ∙ value.1;
      same = found.same ∙ sym (ap (λ (l : Link). l.kind) value.2);
      operand = ap (λ (l : Link). slice_get l.shared u.place) value.2 ∙ found.operand;
    }

-- and they are all there
pub use-at : (shape : Shape) (ops : List Op) (i k v : ℕ) (op : Op) → slice_get ops i ≡ Some op → slice_get (shared_numbers shape op) k ≡ Some v
    → Contains (uses_from 0 (links shape ops)) (use_of i (kind op) k v)
use-at shape ops i k v op there at =
    let e : 0 + i ≡ i = omega arith in
    subst (λ (n : ℕ). Contains (uses_from 0 (links shape ops)) (use_of n (kind op) k v)) e
    (from-at 0 (links shape ops) i (link_of shape op) k v (links-at shape ops i op there) at)

-- each place that is noted is that of a use of the value
pub noted-from : (v : ℕ) (us : List Use) (p : OperandPlace) → Contains (last_first v us) p
    → (u : Use) × Contains us u × (u.operand ≡ v) × (place_of_use u ≡ p)
unfolding last_first
noted-from v [] p held = absurd (Contains-none p held)
noted-from v (u ∷ us) p held = elim (cases_eq u.operand v) [
  | inl own ↦ elim (Contains-push_cases (last_first v us) (place_of_use u) p (subst (λ (ps : List OperandPlace). Contains ps p) (noted-own v u us own) held)) [
    | inl before ↦ let found = noted-from v us p before in (found.0, Contains-more u us found.0 found.1, found.2, found.3)
    | inr here ↦ (u, Contains-front u us, own, here)
  ]
  | inr other ↦
      let found = noted-from v us p (subst (λ (ps : List OperandPlace). Contains ps p) (noted-other v u us other) held) in
      (found.0, Contains-more u us found.0 found.1, found.2, found.3)
]

-- and each use of it is noted
pub noted-in : (v : ℕ) (us : List Use) (u : Use) → Contains us u → u.operand ≡ v → Contains (last_first v us) (place_of_use u)
noted-in v [] u held own = absurd (Contains-none u held)
noted-in v (x ∷ us) u held own = elim (Contains-cases x us u held) [
  | inl here ↦
      subst (λ (ps : List OperandPlace). Contains ps (place_of_use u)) (sym (noted-own v x us (ap (λ (y : Use). y.operand) here ∙ own)))
      (subst (λ (y : Use). Contains (last_first v us ++ place_of_use y ∷ []) (place_of_use u)) (sym here) (Contains-push (last_first v us) (place_of_use u)))
  | inr rest ↦ elim (cases_eq x.operand v) [
    | inl also ↦
        subst (λ (ps : List OperandPlace). Contains ps (place_of_use u)) (sym (noted-own v x us also))
        (Contains-append_left (last_first v us) (place_of_use x ∷ []) (place_of_use u) (noted-in v us u rest own))
    | inr other ↦ subst (λ (ps : List OperandPlace). Contains ps (place_of_use u)) (sym (noted-other v x us other)) (noted-in v us u rest own)
  ]
]

module _ (shape : Shape) (ops : List Op) where
  -- the value with this number is used at this place
  pub record IsUsedAt (v : ℕ) (p : OperandPlace) : Type 0 where
    pub op : Op
    pub there : slice_get ops p.value ≡ Some op
    pub operand : slice_get (shared_numbers shape op) p.operand ≡ Some v

  -- a noted place is such
  pub noted-is : (v : ℕ) (p : OperandPlace) → Contains (last_first v (uses_behind shape ops 0)) p → IsUsedAt v p
  noted-is v p held =
      let found = noted-from v (uses_from 0 (links shape ops)) p held in
      let found_use : IsUse shape ops found.0 = use-is shape ops found.0 found.1 in
      subst (IsUsedAt v) found.3 (record { op = found_use.op; there = found_use.there; operand = found_use.operand ∙ ap (λ (w : ℕ). Some w) found.2 })

  -- and each such place is noted
  pub noted-at : (v : ℕ) (p : OperandPlace) → IsUsedAt v p → Contains (last_first v (uses_behind shape ops 0)) p
  noted-at v p is =
      noted-in v (uses_from 0 (links shape ops)) (use_of p.value (kind is.op) p.operand v)
      (use-at shape ops p.value p.operand v is.op is.there is.operand) refl
