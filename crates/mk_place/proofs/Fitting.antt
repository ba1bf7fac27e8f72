-- The blocks of values that fit together are wired, the claims are there, and there are at most three blocks for a value.
use Rattle.std.proofs.Common.{◌≡◌, ℕ, zero, suc, ◌+◌, ◌*◌, ◌<◌, ◌≤◌, Bool, true, false, Some, IsSome, IsSomeAnd, List, [], ◌∷◌, ◌++◌, length, take, slice_get, get_or, slice_index_or, refl, sym, ◌∙◌, ap, subst, arith, inl, inr}
use Rattle.std.specs.List.{All}
use Rattle.std.proofs.lemmas.Bool.{cases_Bool, cond-true, cond-false}
use Rattle.std.proofs.lemmas.List.{take_all}
use Rattle.std.proofs.lemmas.List.Elements.{All-map}
use Rattle.std.proofs.lemmas.Option.{slice_get_within, slice_get-get_or}
use Rattle.mk_field.specs.Field.{size}
use Rattle.mk_ssa.specs.declared.Op.{Op}
use Rattle.mk_ssa.specs.declared.Op.TheVariants.{Const, PubAdd, PubMul, PubSq, PubMap, Lift, Add, AddPub, Scale, Sq, Map, Mul, Refresh}
use Rattle.mk_ssa.specs.declared.Operand.{Operand}
use Rattle.mk_ssa.specs.declared.Operand.TheVariants.{Secret, Public, Block}
use Rattle.mk_ssa.specs.Kinds.{is_public, shared_operands}
use Rattle.mk_ssa.specs.Values as ssa
use Rattle.mk_ssa.specs.Values.{Values, draft, IsValues}
use Rattle.mk_ssa.proofs.Lists.{IsSomeAnd-value, IsSomeAnd-from, slice_get-take, slice_get-front}
use Rattle.mk_rules.specs.Shape.{Shape}
use Rattle.mk_rules.specs.Wired.{IsSharedThere, IsPublicThere, IsWired, AllWired, Wired}
use Rattle.mk_rules.proofs.Operators.{wired-operands}
use Rattle.mk_rules.proofs.Wired.{Wired-more}
use Rattle.mk_ssa.specs.Operators.{with_operands_by}
use Rattle.mk_place.specs.Uses.{shape_of_values}
use Rattle.mk_place.specs.Layout.{Marks, one, blocks_before, own_block, refresh_block, renamed, refreshed, blocks_from, laid_out}
use Rattle.mk_place.proofs.Wiring.{wired-value, each-at}
use Rattle.mk_place.proofs.Blocks.{own-there, refresh-there, blocks-length, each-block, blocks-before-after, refresh-within}

-- what is wired over one shape is wired over another with the same field, inputs and maps
module _ (a b : Shape) (field : a.field ≡ b.field) (secrets : a.secrets ≡ b.secrets) (publics : a.publics ≡ b.publics) (maps : a.maps ≡ b.maps) where
  -- a shared operand
  pub shared-recoded : (before : List Op) (v : Operand) → IsSharedThere a before v → IsSharedThere b before v
  shared-recoded before (Secret k) there = subst (λ (n : ℕ). k < n) secrets there
  shared-recoded before (Public k) there = absurd there
  shared-recoded before (Block k) there = there

  -- a public one
  public-recoded : (before : List Op) (v : Operand) → IsPublicThere a before v → IsPublicThere b before v
  public-recoded before (Secret k) there = absurd there
  public-recoded before (Public k) there = subst (λ (n : ℕ). k < n) publics there
  public-recoded before (Block k) there = there

  -- a map
  map-recoded : (k : ℕ) → k < length a.maps → k < length b.maps
  map-recoded k below = subst (λ (ms : List _). k < length ms) maps below

  -- a block
  block-recoded : (before : List Op) (op : Op) → IsWired a before op → IsWired b before op
  block-recoded before (Const value) wired = subst (λ f. value < size f) field wired
  block-recoded before (PubAdd left right) wired = (public-recoded before left wired.0, public-recoded before right wired.1)
  block-recoded before (PubMul left right) wired = (public-recoded before left wired.0, public-recoded before right wired.1)
  block-recoded before (PubSq arg) wired = public-recoded before arg wired
  block-recoded before (PubMap k arg) wired = (map-recoded k wired.0, public-recoded before arg wired.1)
  block-recoded before (Lift arg) wired = public-recoded before arg wired
  block-recoded before (Add left right) wired = (shared-recoded before left wired.0, shared-recoded before right wired.1)
  block-recoded before (AddPub left right) wired = (shared-recoded before left wired.0, public-recoded before right wired.1)
  block-recoded before (Scale left right) wired = (shared-recoded before left wired.0, public-recoded before right wired.1)
  block-recoded before (Sq arg) wired = shared-recoded before arg wired
  block-recoded before (Map k arg) wired = (map-recoded k wired.0, shared-recoded before arg wired.1)
  block-recoded before (Mul left right) wired = (shared-recoded before left wired.0, shared-recoded before right wired.1)
  block-recoded before (Refresh arg) wired = shared-recoded before arg wired

  -- blocks behind others
  pub wired-recoded : (before blocks : List Op) → AllWired a before blocks → AllWired b before blocks
  wired-recoded before [] wired = tt
  wired-recoded before (op ∷ ops) wired = (block-recoded before op wired.0, wired-recoded (before ++ op ∷ []) ops wired.1)

-- blocks of which each is wired behind those before it
wired-front : (shape : Shape) (blocks : List Op) → ((j : ℕ) (op : Op) → slice_get blocks j ≡ Some op → IsWired shape (take j blocks) op)
    → (n : ℕ) → n ≤ length blocks → Wired shape (take n blocks)
wired-front shape blocks each zero below = tt
wired-front shape blocks each (suc n) below =
    let next : n + 1 ≡ suc n = omega arith in
    let within : n < length blocks = omega (arith, below) in
    subst (λ (m : ℕ). Wired shape (take m blocks)) next
    (Wired-more shape blocks n (Const 0) within (wired-front shape blocks each n (omega (arith, below)))
    (each n (get_or blocks n (Const 0)) (slice_get-get_or blocks n (Const 0) within)))

-- all are wired
wired-all : (shape : Shape) (blocks : List Op) → ((j : ℕ) (op : Op) → slice_get blocks j ≡ Some op → IsWired shape (take j blocks) op) → Wired shape blocks
wired-all shape blocks each =
    subst (Wired shape) (take_all (length blocks) blocks (omega arith)) (wired-front shape blocks each (length blocks) (omega arith))

-- other operands make no other kind of value
public-same : (shared : ℕ → Operand → Operand) (public : Operand → Operand) (op : Op) → is_public (with_operands_by shared public op) ≡ is_public op
public-same shared public (Const value) = refl
public-same shared public (PubAdd left right) = refl
public-same shared public (PubMul left right) = refl
public-same shared public (PubSq arg) = refl
public-same shared public (PubMap k arg) = refl
public-same shared public (Lift arg) = refl
public-same shared public (Add left right) = refl
public-same shared public (AddPub left right) = refl
public-same shared public (Scale left right) = refl
public-same shared public (Sq arg) = refl
public-same shared public (Map k arg) = refl
public-same shared public (Mul left right) = refl
public-same shared public (Refresh arg) = refl

-- an element that there is
operand-there : (vs : List Operand) (k : ℕ) → IsSome (slice_get vs k) → slice_get vs k ≡ Some (slice_index_or vs k (Secret 0))
operand-there [] k some = absurd (cc)
operand-there (v ∷ vs) zero some = refl
operand-there (v ∷ vs) (suc k) some = operand-there vs k some

-- no use is marked but of an operand that there is
abbrev pub AreAtUses : Marks → List Op → Type 0
AreAtUses marks values = (i k : ℕ) (op : Op) → slice_get values i ≡ Some op → marks i k ≡ true → IsSome (slice_get (shared_operands op) k)

module _ (marks : Marks) (shape : Shape) (values : List Op) where
  -- the blocks of the values
  abbrev blocks : List Op
  blocks = blocks_from marks 0 values

  -- a value's block is there behind it
  block-kept : (i k m : ℕ) (b : Bool) → blocks_before marks i ≤ m → IsSomeAnd (slice_get (take i values) k) (λ op. is_public op ≡ b)
      → IsSomeAnd (slice_get (take m blocks) (own_block marks k)) (λ op. is_public op ≡ b)
  block-kept i k m b behind there =
      let at = IsSomeAnd-value (slice_get (take i values) k) (λ op. is_public op ≡ b) there in
      let held = slice_get-front values i k at.0 at.1 in
      let own : Op = with_operands_by (refreshed marks k) (renamed marks) at.0 in
      IsSomeAnd-from (slice_get (take m blocks) (own_block marks k)) (λ op. is_public op ≡ b) own
      (slice_get-take blocks m (own_block marks k) (omega (arith, behind, blocks-before-after marks k i held.0)) ∙ own-there marks values k at.0 held.1)
      (public-same (refreshed marks k) (renamed marks) at.0 ∙ at.2)

  -- a shared operand by its new number
  shared-kept : (i m : ℕ) (v : Operand) → blocks_before marks i ≤ m → IsSharedThere shape (take i values) v → IsSharedThere shape (take m blocks) (renamed marks v)
  shared-kept i m (Secret k) behind there = there
  shared-kept i m (Public k) behind there = absurd there
  shared-kept i m (Block k) behind there = block-kept i k m false behind there

  -- a public one
  public-kept : (i m : ℕ) (v : Operand) → blocks_before marks i ≤ m → IsPublicThere shape (take i values) v → IsPublicThere shape (take m blocks) (renamed marks v)
  public-kept i m (Secret k) behind there = absurd there
  public-kept i m (Public k) behind there = there
  public-kept i m (Block k) behind there = block-kept i k m true behind there

  module _ (i : ℕ) (op : Op) (there : slice_get values i ≡ Some op) where
    -- what stands for a shared operand
    fresh-kept : (k : ℕ) (v : Operand) → k < 2 → IsSharedThere shape (take i values) v → IsSharedThere shape (take (own_block marks i) blocks) (refreshed marks i k v)
    fresh-kept k v few held = elim (cases_Bool (marks i k)) [
      | inl on ↦
          let x : Op = Refresh (renamed marks (slice_index_or (shared_operands op) k (Secret 0))) in
          subst (IsSharedThere shape (take (own_block marks i) blocks)) (sym (cond-true (marks i k) (Block (refresh_block marks i k)) (renamed marks v) on))
          (IsSomeAnd-from (slice_get (take (own_block marks i) blocks) (refresh_block marks i k)) (λ y. is_public y ≡ false) x
          (slice_get-take blocks (own_block marks i) (refresh_block marks i k) (refresh-within marks i k few on).1 ∙ refresh-there marks values i k op there few on) refl)
      | inr off ↦
          subst (IsSharedThere shape (take (own_block marks i) blocks)) (sym (cond-false (marks i k) (Block (refresh_block marks i k)) (renamed marks v) off))
          (shared-kept i (own_block marks i) v (omega arith) held)
    ]

    -- a public operand of the own block
    public-own : (v : Operand) → IsPublicThere shape (take i values) v → IsPublicThere shape (take (own_block marks i) blocks) (renamed marks v)
    public-own v held = public-kept i (own_block marks i) v (omega arith) held

  -- the own block of a value is wired
  own-wired : (i : ℕ) (op : Op) → slice_get values i ≡ Some op → IsWired shape (take i values) op
      → IsWired shape (take (own_block marks i) blocks) (with_operands_by (refreshed marks i) (renamed marks) op)
  own-wired i (Const value) there wired = wired
  own-wired i (PubAdd left right) there wired = (public-own i (PubAdd left right) there left wired.0, public-own i (PubAdd left right) there right wired.1)
  own-wired i (PubMul left right) there wired = (public-own i (PubMul left right) there left wired.0, public-own i (PubMul left right) there right wired.1)
  own-wired i (PubSq arg) there wired = public-own i (PubSq arg) there arg wired
  own-wired i (PubMap k arg) there wired = (wired.0, public-own i (PubMap k arg) there arg wired.1)
  own-wired i (Lift arg) there wired = public-own i (Lift arg) there arg wired
  own-wired i (Add left right) there wired =
      (fresh-kept i (Add left right) there 0 left (omega arith) wired.0, fresh-kept i (Add left right) there 1 right (omega arith) wired.1)
  own-wired i (AddPub left right) there wired =
      (fresh-kept i (AddPub left right) there 0 left (omega arith) wired.0, public-own i (AddPub left right) there right wired.1)
  own-wired i (Scale left right) there wired =
      (fresh-kept i (Scale left right) there 0 left (omega arith) wired.0, public-own i (Scale left right) there right wired.1)
  own-wired i (Sq arg) there wired = fresh-kept i (Sq arg) there 0 arg (omega arith) wired
  own-wired i (Map k arg) there wired = (wired.0, fresh-kept i (Map k arg) there 0 arg (omega arith) wired.1)
  own-wired i (Mul left right) there wired =
      (fresh-kept i (Mul left right) there 0 left (omega arith) wired.0, fresh-kept i (Mul left right) there 1 right (omega arith) wired.1)
  own-wired i (Refresh arg) there wired = fresh-kept i (Refresh arg) there 0 arg (omega arith) wired

  -- the refresh for an operand that there is is wired
  refresh-wired : (i k : ℕ) (op : Op) → k < 2 → marks i k ≡ true → IsSome (slice_get (shared_operands op) k) → IsWired shape (take i values) op
      → IsWired shape (take (refresh_block marks i k) blocks) (Refresh (renamed marks (slice_index_or (shared_operands op) k (Secret 0))))
  refresh-wired i k op few on some wired =
      let v : Operand = slice_index_or (shared_operands op) k (Secret 0) in
      let at : slice_get (shared_operands op) k ≡ Some v = operand-there (shared_operands op) k some in
      shared-kept i (refresh_block marks i k) v (refresh-within marks i k few on).0
      (each-at (IsSharedThere shape (take i values)) (shared_operands op) k v (wired-operands shape (take i values) op wired).0 at)

  -- each block is wired
  pub each-wired : AreAtUses marks values → ((i : ℕ) (op : Op) → slice_get values i ≡ Some op → IsWired shape (take i values) op)
      → (j : ℕ) (x : Op) → slice_get blocks j ≡ Some x → IsWired shape (take j blocks) x
  each-wired used wired j x there = elim (each-block marks values j (slice_get_within blocks j x there)) [
    | inl own ↦
        let i : ℕ = own.0 in
        let op : Op = get_or values i (Const 0) in
        let at : slice_get values i ≡ Some op = slice_get-get_or values i (Const 0) own.1 in
        let y : Op = with_operands_by (refreshed marks i) (renamed marks) op in
        let same : Some y ≡ Some x = sym (own-there marks values i op at) ∙ ap (slice_get blocks) (sym own.2) ∙ there in
        let is : y ≡ x = cc in
        subst (IsWired shape (take j blocks)) is
        (subst (λ (n : ℕ). IsWired shape (take n blocks) y) (sym own.2) (own-wired i op at (wired i op at)))
    | inr fresh ↦
        let i : ℕ = fresh.0 in
        let k : ℕ = fresh.1 in
        let op : Op = get_or values i (Const 0) in
        let at : slice_get values i ≡ Some op = slice_get-get_or values i (Const 0) fresh.2 in
        let y : Op = Refresh (renamed marks (slice_index_or (shared_operands op) k (Secret 0))) in
        let same : Some y ≡ Some x = sym (refresh-there marks values i k op at fresh.3 fresh.4) ∙ ap (slice_get blocks) (sym fresh.5) ∙ there in
        let is : y ≡ x = cc in
        subst (IsWired shape (take j blocks)) is
        (subst (λ (n : ℕ). IsWired shape (take n blocks) y) (sym fresh.5)
        (refresh-wired i k op fresh.3 fresh.4 (used i k op at fresh.4) (wired i op at)))
  ]

-- an output is there in the one sense and in the other
pub out-there : (s : Values) (v : Operand) → ssa.IsSharedThere (draft s) v → IsSharedThere (shape_of_values s) s.values v
out-there s (Secret k) there = there
out-there s (Public k) there = absurd there
out-there s (Block k) there = there

module _ (marks : Marks) (s : Values) (is : IsValues s) where
  -- the blocks are wired
  pub laid-wired : AreAtUses marks s.values → Wired (shape_of_values s) (laid_out marks s).blocks
  laid-wired used =
      wired-all (shape_of_values s) (blocks_from marks 0 s.values) (each-wired marks (shape_of_values s) s.values used (λ i op there. wired-value s is i op there))

  -- the claims are there
  claim-there : (v : Operand) → ssa.IsSharedThere (draft s) v → IsSharedThere (shape_of_values s) (laid_out marks s).blocks (renamed marks v)
  claim-there v there =
      let n : ℕ = length s.values in
      let m : ℕ = length (blocks_from marks 0 s.values) in
      subst (λ (bs : List Op). IsSharedThere (shape_of_values s) bs (renamed marks v)) (take_all m (blocks_from marks 0 s.values) (omega arith))
      (shared-kept marks (shape_of_values s) s.values n m v (omega (arith, blocks-length marks s.values))
      (subst (λ (vs : List Op). IsSharedThere (shape_of_values s) vs v) (sym (take_all n s.values (omega arith))) (out-there s v there)))

  -- each claim is there
  pub laid-claims : All (IsSharedThere (shape_of_values s) (laid_out marks s).blocks) (laid_out marks s).claims
  laid-claims =
      All-map (IsSharedThere (shape_of_values s) (laid_out marks s).blocks) (renamed marks) s.outs (λ k d below. claim-there (get_or s.outs k d) (is.outs k d below))

-- a mark counts at most once
pub one-few : (b : Bool) → one b ≤ 1
one-few true = omega arith
one-few false = omega arith

-- there are at most three blocks for a value
before-few : (marks : Marks) (n : ℕ) → blocks_before marks n ≤ 3 * n
unfolding blocks_before
before-few marks zero = omega arith
before-few marks (suc n) = omega (arith, before-few marks n, one-few (marks n 0), one-few (marks n 1))

-- so there are at most three times as many as values
pub laid-few : (marks : Marks) (s : Values) → length (laid_out marks s).blocks ≤ 3 * length s.values
laid-few marks s = omega (arith, blocks-length marks s.values, before-few marks (length s.values))
