-- The first step of a way through a certificate: which use it goes by, and what follows it.
use Rattle.std.proofs.Common.{◌≡◌, ◌⊎◌, ℕ, zero, suc, ◌+◌, ◌-◌, ◌<◌, true, false, nat_lt, if◌then◌else◌, Some, IsSomeAnd, List, [], ◌∷◌, map, take, slice_get, get_or, Option, refl, sym, ◌∙◌, ap, subst, arith, inl, inr}
use Rattle.std.specs.List.{Contains}
use Rattle.std.proofs.lemmas.Bool.{cases_Bool, cases_lt, cond-true, cond-false, lt-ltb, le-ltb}
use Rattle.std.proofs.lemmas.Option.{same_Some, slice_get_within, slice_get-get_or}
use Rattle.mk_ssa.specs.declared.Op.{Op}
use Rattle.mk_ssa.specs.declared.Op.TheVariants.{Const, Refresh}
use Rattle.mk_ssa.specs.declared.Operand.{Operand}
use Rattle.mk_ssa.specs.declared.Operand.TheVariants.{Secret, Public, Block}
use Rattle.mk_ssa.specs.Kinds.{Kind, Linear, Strong, kind, shared_operands}
use Rattle.mk_ssa.specs.Values.{Values, IsValues}
use Rattle.mk_rules.specs.Tiles.{value_number}
use Rattle.mk_rules.specs.Wired.{IsSharedThere}
use Rattle.mk_rules.specs.Reaches.{Link, IsPath, Reaches, links}
use Rattle.mk_rules.proofs.Doubled.{link_of, links-at, links-from}
use Rattle.mk_rules.proofs.Operators.{wired-operands}
use Rattle.mk_rules.proofs.Views.{Contains-at}
use Rattle.mk_rules.proofs.Noting.{operands-short, use_of}
use Rattle.mk_rules.proofs.Using.{IsUse, use-at, use-is}
use Rattle.mk_rules.specs.Uses.{Use, shared_numbers}
use Rattle.mk_place.specs.Uses.{shape_of_values, uses}
use Rattle.mk_place.specs.Layout.{Marks, own_block, refresh_block, renamed, refreshed, blocks_from}
use Rattle.mk_ssa.specs.Operators.{with_operands_by}
use Rattle.mk_place.specs.Placed.{Brings}
use Rattle.mk_place.specs.Marking.{inputs}
use Rattle.mk_place.specs.Different.{IsRefresh}
use Rattle.mk_place.proofs.Wiring.{wired-value, each-at}
use Rattle.mk_place.proofs.Blocks.{own-there, each-block, own-once, own-no-refresh}
use Rattle.mk_place.proofs.Differing.{places, shared-laid, refresh-or-own}

-- the image of an element
image-at : {X Y : Type 0} (f : X → Y) (xs : List X) (k : ℕ) (x : X) → slice_get xs k ≡ Some x → slice_get (map f xs) k ≡ Some (f x)
image-at f [] k x there = absurd (cc)
image-at f (y ∷ xs) zero x there = ap (λ (z : _). Some (f z)) (same_Some y x there)
image-at f (y ∷ xs) (suc k) x there = image-at f xs k x there

-- an image is that of an element
pub image-from : {X Y : Type 0} (f : X → Y) (xs : List X) (k : ℕ) (y : Y) → slice_get (map f xs) k ≡ Some y
    → (x : X) × (slice_get xs k ≡ Some x) × (f x ≡ y)
image-from f [] k y there = absurd (cc)
image-from f (x ∷ xs) zero y there = (x, refl, same_Some (f x) y there)
image-from f (x ∷ xs) (suc k) y there = image-from f xs k y there

-- other operands leave the kind
with-kind : (f : ℕ → Operand → Operand) (g : Operand → Operand) (op : Op) → kind (with_operands_by f g op) ≡ kind op
with-kind f g (Const value) = refl
with-kind f g _ = refl

-- a refresh is strong
refresh-strong : (op : Op) → IsRefresh op → kind op ≡ Strong
refresh-strong (Refresh arg) is = refl
refresh-strong _ is = absurd is

-- and has one operand
pub refresh-single : (f : Operand → ℕ) (op : Op) (x : ℕ) → IsRefresh op → slice_get (map f (shared_operands op)) 1 ≡ Some x → ⊥
refresh-single f (Refresh arg) x is there = absurd (cc)
refresh-single f _ x is there = absurd is

-- what stands for the operand at a place
pub place-of : (f : ℕ → Operand → Operand) (n : ℕ) (vs : List Operand) (k : ℕ) (v : Operand) → slice_get vs k ≡ Some v
    → slice_get (places f n vs) k ≡ Some (f (n + k) v)
unfolding places
place-of f n [] k v there = absurd (cc)
place-of f n (x ∷ vs) zero v there =
    let e : n ≡ n + 0 = omega arith in
    ap (λ (y : Operand). Some (f n y)) (same_Some x v there) ∙ ap (λ (m : ℕ). Some (f m v)) e
place-of f n (x ∷ vs) (suc k) v there =
    let e : suc n + k ≡ n + suc k = omega arith in
    place-of f (suc n) vs k v there ∙ ap (λ (m : ℕ). Some (f m v)) e

-- and nothing else does
pub place-in : (f : ℕ → Operand → Operand) (n : ℕ) (vs : List Operand) (k : ℕ) (x : Operand) → slice_get (places f n vs) k ≡ Some x
    → (v : Operand) × (slice_get vs k ≡ Some v) × (f (n + k) v ≡ x)
unfolding places
place-in f n [] k x there = absurd (cc)
place-in f n (v ∷ vs) zero x there =
    let e : n + 0 ≡ n = omega arith in
    (v, refl, ap (λ (m : ℕ). f m v) e ∙ same_Some (f n v) x there)
place-in f n (v ∷ vs) (suc k) x there =
    let e : n + suc k ≡ suc n + k = omega arith in
    let found : (w : Operand) × (slice_get vs k ≡ Some w) × (f (suc n + k) w ≡ x) = place-in f (suc n) vs k x there in
    (found.0, found.1, ap (λ (m : ℕ). f m found.0) e ∙ found.2)

-- the number of a value in the certificate
abbrev pub moved : Values → Marks → ℕ → ℕ
moved s marks v = if nat_lt v (inputs s) then v else inputs s + own_block marks (v - inputs s)

-- what a use has as its operand in the certificate: the refresh for it, or the value
abbrev pub stands : Values → Marks → Use → ℕ
stands s marks u = if marks u.value u.place then inputs s + refresh_block marks u.value u.place else moved s marks u.operand

-- the blocks of the certificate, as a path sees them
abbrev pub links_of : Values → Marks → List Link
links_of s marks = links (shape_of_values s) (blocks_from marks 0 s.values)

module _ (s : Values) (marks : Marks) where
  -- an input keeps its number
  pub moved-input : (v : ℕ) → v < inputs s → moved s marks v ≡ v
  moved-input v below =
      cond-true (nat_lt v (inputs s)) v (inputs s + own_block marks (v - inputs s)) (lt-ltb v (inputs s) below)

  -- a value has that of its own block
  pub moved-value : (i : ℕ) → moved s marks (inputs s + i) ≡ inputs s + own_block marks i
  moved-value i =
      let e : inputs s + i - inputs s ≡ i = omega arith in
      cond-false (nat_lt (inputs s + i) (inputs s)) (inputs s + i) (inputs s + own_block marks (inputs s + i - inputs s))
      (le-ltb (inputs s + i) (inputs s) (omega arith))
      ∙ ap (λ (n : ℕ). inputs s + own_block marks n) e

  -- an input, or a value
  record IsBehind (v : ℕ) : Type 0 where
    pub value : ℕ
    pub is : v ≡ inputs s + value
    pub number : moved s marks v ≡ inputs s + own_block marks value

  -- a number is that of an input or of a value
  behind : (v : ℕ) → (v < inputs s) ⊎ IsBehind v
  behind v = elim (cases_lt v (inputs s)) [
    | inl below ↦ inl below
    | inr above ↦
        let e : v ≡ inputs s + (v - inputs s) = omega (arith, above) in
        inr (record { value = v - inputs s; is = e; number = ap (moved s marks) e ∙ moved-value (v - inputs s) })
  ]

  -- different values have different numbers
  pub moved-once : (v w : ℕ) → moved s marks v ≡ moved s marks w → v ≡ w
  moved-once v w same = elim (behind v) [
    | inl here ↦ elim (behind w) [
      | inl there ↦ sym (moved-input v here) ∙ same ∙ moved-input w there
      | inr there ↦ absurd (omega (arith, here, sym (moved-input v here) ∙ same ∙ there.number))
    ]
    | inr here ↦ elim (behind w) [
      | inl there ↦ absurd (omega (arith, there, sym here.number ∙ same ∙ moved-input w there))
      | inr there ↦
          let e : inputs s + own_block marks here.value ≡ inputs s + own_block marks there.value = sym here.number ∙ same ∙ there.number in
          here.is ∙ ap (λ (n : ℕ). inputs s + n) (own-once marks here.value there.value (omega (arith, e))) ∙ sym there.is
    ]
  ]

  -- and none has that of a refresh
  pub moved-no-refresh : (v j k : ℕ) → k < 2 → marks j k ≡ true → moved s marks v ≡ inputs s + refresh_block marks j k → ⊥
  moved-no-refresh v j k two on same = elim (behind v) [
    | inl here ↦ omega (arith, here, sym (moved-input v here) ∙ same)
    | inr here ↦
        let e : inputs s + own_block marks here.value ≡ inputs s + refresh_block marks j k = sym here.number ∙ same in
        own-no-refresh marks here.value j k two on (omega (arith, e))
  ]

  -- the number of an operand that is there
  moved-is : (before : List Op) (w : Operand) → IsSharedThere (shape_of_values s) before w
      → value_number (shape_of_values s) (renamed marks w) ≡ moved s marks (value_number (shape_of_values s) w)
  moved-is before (Secret k) there = sym (moved-input k (omega (arith, there)))
  moved-is before (Public k) there = absurd there
  moved-is before (Block k) there = sym (moved-value k)

  -- a use that is marked has its refresh
  pub stands-refresh : (u : Use) → marks u.value u.place ≡ true → stands s marks u ≡ inputs s + refresh_block marks u.value u.place
  stands-refresh u on = cond-true (marks u.value u.place) (inputs s + refresh_block marks u.value u.place) (moved s marks u.operand) on

  -- another one has the value
  pub stands-value : (u : Use) → marks u.value u.place ≡ false → stands s marks u ≡ moved s marks u.operand
  stands-value u off = cond-false (marks u.value u.place) (inputs s + refresh_block marks u.value u.place) (moved s marks u.operand) off

  -- the number of what stands for an operand that is there
  stands-is : (before : List Op) (i k : ℕ) (kind : Kind) (w : Operand) → IsSharedThere (shape_of_values s) before w
      → value_number (shape_of_values s) (refreshed marks i k w) ≡ stands s marks (use_of i kind k (value_number (shape_of_values s) w))
  stands-is before i k kind w there = elim (cases_Bool (marks i k)) [
    | inl on ↦
        ap (value_number (shape_of_values s)) (cond-true (marks i k) (Block (refresh_block marks i k)) (renamed marks w) on)
        ∙ sym (stands-refresh (use_of i kind k (value_number (shape_of_values s) w)) on)
    | inr off ↦
        ap (value_number (shape_of_values s)) (cond-false (marks i k) (Block (refresh_block marks i k)) (renamed marks w) off)
        ∙ moved-is before w there ∙ sym (stands-value (use_of i kind k (value_number (shape_of_values s) w)) off)
  ]

  module _ (is : IsValues s) where
    -- a use is at one of two places
    pub use-two : (u : Use) → Contains (uses s) u → u.place < 2
    use-two u held =
        let found : IsUse (shape_of_values s) s.values u = use-is (shape_of_values s) s.values u held in
        omega (arith, slice_get_within (shared_numbers (shape_of_values s) found.op) u.place u.operand found.operand, operands-short (shape_of_values s) found.op)

    -- the own block of a value
    abbrev pub own_of : ℕ → Op → Op
    own_of i op = with_operands_by (refreshed marks i) (renamed marks) op

    -- a shared operand of a value is there
    operand-there : (i k : ℕ) (op : Op) (w : Operand) → slice_get s.values i ≡ Some op → slice_get (shared_operands op) k ≡ Some w
        → IsSharedThere (shape_of_values s) (take i s.values) w
    operand-there i k op w there at =
        each-at (IsSharedThere (shape_of_values s) (take i s.values)) (shared_operands op) k w
        (wired-operands (shape_of_values s) (take i s.values) op (wired-value s is i op there)).0 at

    -- the number of the operand of an own block at a place
    place-at : (i k v : ℕ) (op : Op) → slice_get s.values i ≡ Some op → slice_get (shared_numbers (shape_of_values s) op) k ≡ Some v
        → slice_get (map (value_number (shape_of_values s)) (shared_operands (own_of i op))) k ≡ Some (stands s marks (use_of i (kind op) k v))
    place-at i k v op there at =
        let found : (w : Operand) × (slice_get (shared_operands op) k ≡ Some w) × (value_number (shape_of_values s) w ≡ v) =
        image-from (value_number (shape_of_values s)) (shared_operands op) k v at in
        ap (λ (vs : List Operand). slice_get (map (value_number (shape_of_values s)) vs) k) (shared-laid (refreshed marks i) (renamed marks) op)
        ∙ image-at (value_number (shape_of_values s)) (places (refreshed marks i) 0 (shared_operands op)) k (refreshed marks i (0 + k) found.0)
        (place-of (refreshed marks i) 0 (shared_operands op) k found.0 found.1)
        ∙ ap (λ (x : ℕ). Some x)
        (let e : 0 + k ≡ k = omega arith in
        ap (λ (n : ℕ). value_number (shape_of_values s) (refreshed marks i n found.0)) e
        ∙ stands-is (take i s.values) i k (kind op) found.0 (operand-there i k op found.0 there found.1)
        ∙ ap (λ (n : ℕ). stands s marks (use_of i (kind op) k n)) found.2)

    -- and nothing else is there
    place-from : (i k x : ℕ) (op : Op) → slice_get s.values i ≡ Some op
        → slice_get (map (value_number (shape_of_values s)) (shared_operands (own_of i op))) k ≡ Some x
        → (v : ℕ) × (slice_get (shared_numbers (shape_of_values s) op) k ≡ Some v) × (x ≡ stands s marks (use_of i (kind op) k v))
    place-from i k x op there at =
        let outer : (y : Operand) × (slice_get (shared_operands (own_of i op)) k ≡ Some y) × (value_number (shape_of_values s) y ≡ x) =
        image-from (value_number (shape_of_values s)) (shared_operands (own_of i op)) k x at in
        let inner : (w : Operand) × (slice_get (shared_operands op) k ≡ Some w) × (refreshed marks i (0 + k) w ≡ outer.0) =
        place-in (refreshed marks i) 0 (shared_operands op) k outer.0
        (ap (λ (vs : List Operand). slice_get vs k) (sym (shared-laid (refreshed marks i) (renamed marks) op)) ∙ outer.1) in
        let same : slice_get (shared_numbers (shape_of_values s) op) k ≡ Some (value_number (shape_of_values s) inner.0) =
        image-at (value_number (shape_of_values s)) (shared_operands op) k inner.0 inner.1 in
        let number : Some x ≡ Some (stands s marks (use_of i (kind op) k (value_number (shape_of_values s) inner.0))) =
        sym at ∙ place-at i k (value_number (shape_of_values s) inner.0) op there same in
        (value_number (shape_of_values s) inner.0, same, same_Some x (stands s marks (use_of i (kind op) k (value_number (shape_of_values s) inner.0))) number)

    -- a way from a value: it goes by a use that brings the place
    pub record Hop (v q k : ℕ) : Type 0 where
      pub hop : Use
      pub there : Contains (uses s) hop
      pub at : v ≡ stands s marks hop
      pub brings : Brings (inputs s) (links_of s marks) marks hop q k

    -- the block that is numbered as a value's own is that
    own-at : (q : ℕ) (x : Op) → slice_get (blocks_from marks 0 s.values) (own_block marks q) ≡ Some x
        → (op : Op) × (slice_get s.values q ≡ Some op) × (own_of q op ≡ x)
    own-at q x here =
        elim (each-block marks s.values (own_block marks q) (slice_get_within (blocks_from marks 0 s.values) (own_block marks q) x here)) [
          | inl own ↦
              let op : Op = get_or s.values q (Const 0) in
              let there : slice_get s.values q ≡ Some op =
              slice_get-get_or s.values q (Const 0) (omega (arith, own.1, own-once marks q own.0 own.2)) in
              (op, there, same_Some (own_of q op) x (sym (own-there marks s.values q op there) ∙ here))
          | inr fresh ↦ absurd (own-no-refresh marks q fresh.0 fresh.1 fresh.3 fresh.4 fresh.5)
        ]

    -- the operand of a strong block is that of a use
    hop-last : (q k w : ℕ) → IsSomeAnd (slice_get (links_of s marks) (own_block marks q)) (λ link. (link.kind ≡ Strong) × (slice_get link.shared k ≡ Some w))
        → Hop w q k
    hop-last q k w strong =
        let at : (x : Op) × (slice_get (blocks_from marks 0 s.values) (own_block marks q) ≡ Some x) × ((kind x ≡ Strong) × (slice_get (map (value_number (shape_of_values s)) (shared_operands x)) k ≡ Some w)) =
        links-from (shape_of_values s) (blocks_from marks 0 s.values) (own_block marks q) (λ link. (link.kind ≡ Strong) × (slice_get link.shared k ≡ Some w)) strong in
        let own : (op : Op) × (slice_get s.values q ≡ Some op) × (own_of q op ≡ at.0) = own-at q at.0 at.1 in
        let place : (v : ℕ) × (slice_get (shared_numbers (shape_of_values s) own.0) k ≡ Some v) × (w ≡ stands s marks (use_of q (kind own.0) k v)) =
        place-from q k w own.0 own.1 (subst (λ (x : Op). slice_get (map (value_number (shape_of_values s)) (shared_operands x)) k ≡ Some w) (sym own.2) at.2.1) in
        let is_strong : kind own.0 ≡ Strong = sym (with-kind (refreshed marks q) (renamed marks) own.0) ∙ ap kind own.2 ∙ at.2.0 in
        record {
          hop = use_of q (kind own.0) k place.0;
          there = use-at (shape_of_values s) s.values q k place.0 own.0 own.1 place.1;
          at = place.2;
          brings = inl (is_strong, refl, refl);
        }

    -- a linear block on the way is that of a value, and the way came by a use of it
    hop-first : (v q k b w : ℕ) (path : List ℕ)
        → IsSomeAnd (slice_get (links_of s marks) b) (λ link. (link.kind ≡ Linear) × Contains link.shared v)
        → IsPath (inputs s) (links_of s marks) (inputs s + b) path w
        → IsSomeAnd (slice_get (links_of s marks) (own_block marks q)) (λ link. (link.kind ≡ Strong) × (slice_get link.shared k ≡ Some w))
        → Hop v q k
    hop-first v q k b w path linear leads strong =
        let at : (x : Op) × (slice_get (blocks_from marks 0 s.values) b ≡ Some x) × ((kind x ≡ Linear) × Contains (map (value_number (shape_of_values s)) (shared_operands x)) v) =
        links-from (shape_of_values s) (blocks_from marks 0 s.values) b (λ link. (link.kind ≡ Linear) × Contains link.shared v) linear in
        elim (refresh-or-own marks s.values b at.0 at.1) [
          | inl fresh ↦ let e : Strong ≡ Linear = sym (refresh-strong at.0 fresh) ∙ at.2.0 in absurd (cc)
          | inr own ↦
              let i : ℕ = own.value in
              let held : Contains (map (value_number (shape_of_values s)) (shared_operands (own_of i own.own))) v =
              subst (λ (x : Op). Contains (map (value_number (shape_of_values s)) (shared_operands x)) v) (sym own.is) at.2.1 in
              let there : slice_get (map (value_number (shape_of_values s)) (shared_operands (own_of i own.own))) held.0 ≡ Some v =
              slice_get-get_or (map (value_number (shape_of_values s)) (shared_operands (own_of i own.own))) held.0 v held.1 ∙ ap (λ (x : ℕ). Some x) held.2 in
              let place : (y : ℕ) × (slice_get (shared_numbers (shape_of_values s) own.own) held.0 ≡ Some y) × (v ≡ stands s marks (use_of i (kind own.own) held.0 y)) =
              place-from i held.0 v own.own own.there there in
              let is_linear : kind own.own ≡ Linear =
              sym (with-kind (refreshed marks i) (renamed marks) own.own) ∙ ap kind own.is ∙ at.2.0 in
              record {
                hop = use_of i (kind own.own) held.0 place.0;
                there = use-at (shape_of_values s) s.values i held.0 place.0 own.own own.there place.1;
                at = place.2;
                brings =
                    inr (
                      is_linear,
                      record {
                        path = path;
                        operand = w;
                        leads = subst (λ (n : ℕ). IsPath (inputs s) (links_of s marks) (inputs s + n) path w) own.place leads;
                        strong = strong;
                      },
                    );
              }
        ]

    -- each way begins with a use
    hop-path : (v q k w : ℕ) (path : List ℕ) → IsPath (inputs s) (links_of s marks) v path w
        → IsSomeAnd (slice_get (links_of s marks) (own_block marks q)) (λ link. (link.kind ≡ Strong) × (slice_get link.shared k ≡ Some w))
        → Hop v q k
    unfolding IsPath
    hop-path v q k w [] leads strong = subst (λ (x : ℕ). Hop x q k) (sym leads) (hop-last q k w strong)
    hop-path v q k w (b ∷ path) leads strong = hop-first v q k b w path leads.0 leads.1 strong

    -- what reaches a place of a product gets there by a hop
    pub hop-from : (v q k : ℕ) → Reaches (inputs s) (links_of s marks) v (own_block marks q) k → Hop v q k
    hop-from v q k reaches = hop-path v q k reaches.operand reaches.path reaches.leads reaches.strong

    -- and by each use there is a way
    pub hop-at : (u : Use) (q k : ℕ) → Contains (uses s) u → Brings (inputs s) (links_of s marks) marks u q k
        → Reaches (inputs s) (links_of s marks) (stands s marks u) (own_block marks q) k
    unfolding IsPath
    hop-at u q k held brings =
        let found : IsUse (shape_of_values s) s.values u = use-is (shape_of_values s) s.values u held in
        let own : Op = own_of u.value found.op in
        let link : slice_get (links_of s marks) (own_block marks u.value) ≡ Some (link_of (shape_of_values s) own) =
        links-at (shape_of_values s) (blocks_from marks 0 s.values) (own_block marks u.value) own (own-there marks s.values u.value found.op found.there) in
        let same : use_of u.value (kind found.op) u.place u.operand ≡ u = ap (λ (x : Kind). use_of u.value x u.place u.operand) (sym found.same) in
        let at : slice_get (map (value_number (shape_of_values s)) (shared_operands own)) u.place ≡ Some (stands s marks u) =
        place-at u.value u.place u.operand found.op found.there found.operand ∙ ap (λ (x : Use). Some (stands s marks x)) same in
        let is : kind own ≡ u.kind = with-kind (refreshed marks u.value) (renamed marks) found.op ∙ sym found.same in
        elim brings [
          | inl strong ↦
              record {
                path = [];
                operand = stands s marks u;
                leads = refl;
                strong =
                    subst (λ (o : Option Link). IsSomeAnd o (λ x. (x.kind ≡ Strong) × (slice_get x.shared k ≡ Some (stands s marks u))))
                    (sym (ap (λ (n : ℕ). slice_get (links_of s marks) (own_block marks n)) strong.1 ∙ link))
                    (is ∙ strong.0, ap (slice_get (map (value_number (shape_of_values s)) (shared_operands own))) strong.2 ∙ at);
              }
          | inr linear ↦
              record {
                path = own_block marks u.value ∷ linear.1.path;
                operand = linear.1.operand;
                leads = (
                  subst (λ (o : Option Link). IsSomeAnd o (λ x. (x.kind ≡ Linear) × Contains x.shared (stands s marks u))) (sym link)
                      (is ∙ linear.0, Contains-at (map (value_number (shape_of_values s)) (shared_operands own)) u.place (stands s marks u) at),
                  linear.1.leads,
                );
                strong = linear.1.strong;
              }
        ]

    -- a way from a value goes by a use of it that isn't marked
    pub record Step (v q k : ℕ) : Type 0 where
      pub hop : Use
      pub there : Contains (uses s) hop
      pub same : hop.operand ≡ v
      pub kept : marks hop.value hop.place ≡ false
      pub brings : Brings (inputs s) (links_of s marks) marks hop q k

    -- a value that reaches a place of a product does so by one of its uses
    pub step-from : (v q k : ℕ) → Reaches (inputs s) (links_of s marks) (moved s marks v) (own_block marks q) k → Step v q k
    step-from v q k reaches =
        let found : Hop (moved s marks v) q k = hop-from (moved s marks v) q k reaches in
        let u : Use = found.hop in
        elim (cases_Bool (marks u.value u.place)) [
          | inl on ↦ absurd (moved-no-refresh v u.value u.place (use-two u found.there) on (found.at ∙ stands-refresh u on))
          | inr off ↦
              record {
                hop = u;
                there = found.there;
                same = sym (moved-once v u.operand (found.at ∙ stands-value u off));
                kept = off;
                brings = found.brings;
              }
        ]
