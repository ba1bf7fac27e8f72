-- The banks of operands stand before what is emitted next.
use Rattle.std.proofs.Common.{◌≡◌, true, false, ℕ, zero, ◌+◌, ◌-◌, ◌*◌, ◌<◌, ◌≤◌, List, [], ◌∷◌, ◌++◌, All, IsSomeAnd, Some, length, slice_get, slice_index_or, ap, sym, subst, arith, suc, refl, ◌∙◌}
use Rattle.std.proofs.lemmas.List.{length-replicate, length-append}
use Rattle.std.proofs.lemmas.List.FromFn.{length-map-range_with_len}
use Rattle.std.proofs.lemmas.Option.{slice_get_within, get_or_from_slice_get}
use Rattle.std.proofs.lemmas.List.Elements.{All-get_or, recursion_from_All}
use Rattle.std.proofs.Math.Nat.{mul-le-mul_right}
use Rattle.mk_code.specs.Draft.{Draft, draft_len}
use Rattle.mk_code.specs.Counting.{AllBelow}
use Rattle.mk_ssa.specs.declared.Operand.{Operand}
use Rattle.mk_ssa.specs.declared.Operand.TheVariants as operand
use Rattle.mk_field.specs.declared.field.FieldId.{FieldId}
use Rattle.mk_code.specs.declared.instr.Instr.{Instr}
use Rattle.mk_code.specs.Listing.{FitsAt}
use Rattle.mk_code.proofs.Totals.{AllBelow-append}
use Rattle.mk_gadget.specs.Gadget.{Gadget, placement, placed, placed_outs}
use Rattle.mk_gadget.specs.Emitted.{Emitted}
use Rattle.mk_gadget.proofs.Ranges.{placement-own}
use Rattle.mk_code.proofs.Steps.{AllBelow-at}
use Rattle.std.specs.List.{flat_map, AllByRecursion}
use Rattle.std.proofs.lemmas.Bool.{lt-ltb}
use Rattle.mk_code.specs.declared.instr.Instr.TheVariants as instr
use Rattle.mk_ssa.specs.declared.Op.{Op}
use Rattle.mk_ssa.specs.declared.Op.TheVariants.{Const, PubAdd, PubMul, PubSq, PubMap, Lift, Add, AddPub, Scale, Sq, Map}
use Rattle.mk_ssa.specs.Kinds.{Linear, kind, is_public, shared_operands, public_operands}
use Rattle.mk_gadget.specs.Template.{built_in}
use Rattle.mk_gadget.proofs.Ranges.{AllBelow-range}
use Rattle.mk_compile.specs.declared.positions.Position.{Position}
use Rattle.mk_compile.specs.declared.positions.Position.TheVariants.{Shared, Public}
use Rattle.mk_compile.specs.Positions.{bank_at, is_public_at, bank_of, IsSharedAt, IsPublicAt, HasOperands, IsElement, AreBefore, positions_read}

-- an element that is there is among them
pub within-some : {A : Type 0} (xs : List A) (k : ℕ) (P : A → Type 0) → IsSomeAnd (slice_get xs k) P → k < length xs
within-some [] k P there = absurd there
within-some (x ∷ xs) zero P there = omega arith
within-some (x ∷ xs) (suc k) P there = omega (arith, within-some xs k P there)

-- what holds of all elements holds of this one
held : {A : Type 0} (P : A → Type 0) (xs : List A) (k : ℕ) (x : A) → slice_get xs k ≡ Some x → All P xs → P x
held P xs k x at all = subst P (get_or_from_slice_get xs k x x at) (All-get_or P xs k x (slice_get_within xs k x at) all)

module _ {N : ℕ} (d : Draft) (secrets publics : ℕ) (blocks : List (Position N)) (order : d.order + 1 ≡ N) (same : secrets ≡ d.secrets)
    (same_publics : publics ≡ d.publics) (before : AreBefore (draft_len d) blocks) where
  -- the inputs stand before all instructions
  inputs-before : secrets * N + publics ≤ draft_len d
  inputs-before = subst (λ (n : ℕ). secrets * n + publics ≤ draft_len d) order (omega (arith, ap (λ (s : ℕ). s * (d.order + 1)) same, same_publics))

  -- the bank of a shared value
  pub shared-before : (v : Operand) (bank : List ℕ) → IsSharedAt secrets blocks v → bank ≡ bank_of secrets blocks v → AllBelow (draft_len d) bank
  shared-before (operand.Secret k) bank there is =
      let step : suc k * N ≤ secrets * N = mul-le-mul_right N there in
      subst (AllBelow (draft_len d)) (sym is) (AllBelow-range (draft_len d) (k * N) N (omega (arith, step, inputs-before)))
  shared-before (operand.Public k) bank there is = absurd there
  shared-before (operand.Block k) bank there is =
      subst (AllBelow (draft_len d)) (sym is)
      (All-get_or (λ position. AllBelow (draft_len d) (bank_at position)) blocks k (Public 0) (within-some blocks k (λ position. is_public_at position ≡ false) there) before)

  -- the bank of a public value
  public-bank-before : (v : Operand) → IsPublicAt publics blocks v → AllBelow (draft_len d) (bank_of secrets blocks v)
  unfolding AllBelow
  public-bank-before (operand.Secret k) there = absurd there
  public-bank-before (operand.Public k) there = (omega (arith, there, inputs-before), tt)
  public-bank-before (operand.Block k) there =
      All-get_or (λ position. AllBelow (draft_len d) (bank_at position)) blocks k (Public 0) (within-some blocks k (λ position. is_public_at position ≡ true) there) before

  -- its position
  pub public-before : (v : Operand) (position : ℕ) → IsPublicAt publics blocks v → position ∷ [] ≡ bank_of secrets blocks v → position < draft_len d
  unfolding AllBelow
  public-before v position there is = (subst (AllBelow (draft_len d)) (sym is) (public-bank-before v there)).0

  -- a public value has one position
  public-one-position : (v : Operand) → IsPublicAt publics blocks v → length (bank_of secrets blocks v) ≡ 1
  public-one-position (operand.Secret k) there = absurd there
  public-one-position (operand.Public k) there = refl
  public-one-position (operand.Block k) there = one-at blocks k there
    where
      one-of : (p : Position N) → is_public_at p ≡ true → length (bank_at p) ≡ 1
      one-of (Shared bank) is = absurd (cc (is))
      one-of (Public position) is = refl

      one-at : (ps : List (Position N)) (j : ℕ) → IsSomeAnd (slice_get ps j) (λ p. is_public_at p ≡ true) → length (bank_at (slice_index_or ps j (Public 0))) ≡ 1
      one-at [] j is = absurd is
      one-at (p ∷ ps) zero is = one-of p is
      one-at (p ∷ ps) (suc j) is = one-at ps j is

  -- so public operands have one position each, before what is emitted next
  public-reads : (vs : List Operand) → AllByRecursion (IsPublicAt publics blocks) vs
      → (length (flat_map (bank_of secrets blocks) vs) ≡ length vs) × AllBelow (draft_len d) (flat_map (bank_of secrets blocks) vs)
  unfolding AllBelow
  public-reads [] all = (refl, tt)
  public-reads (v ∷ vs) all =
      let rest = public-reads vs all.1 in (
        omega (arith, length-append (bank_of secrets blocks v) (flat_map (bank_of secrets blocks) vs), public-one-position v all.0, rest.0),
        AllBelow-append (draft_len d) (bank_of secrets blocks v) (flat_map (bank_of secrets blocks) vs) (public-bank-before v all.0) rest.1,
      )

  -- the only instruction of a public operator fits, and its position is the out bank
  abbrev IsOne : FieldId → Op → Type 0
  IsOne field op =
      (base : ℕ)
      → (placed_outs (positions_read secrets blocks op) base (built_in N op) ≡ base ∷ [])
      × ((i : Instr) → placed (positions_read secrets blocks op) base (built_in N op) ≡ i ∷ [] → FitsAt field (length d.maps) (draft_len d) i)

  -- a position of an operand
  operand-below : (reads : List ℕ) (base q : ℕ) → AllBelow (draft_len d) reads → q < length reads → placement reads base q < draft_len d
  operand-below reads base q below inside = rw (lt-ltb q (length reads) inside) (AllBelow-at (draft_len d) reads q below inside)

  -- the position behind the operands
  behind-operands : (reads : List ℕ) (base q : ℕ) → length reads ≡ q → placement reads base q ≡ base
  behind-operands reads base q same = let end : base + (q - length reads) ≡ base = omega (arith, same) in placement-own reads base q (omega (arith, same)) ∙ end

  -- a public operator whose operands are there has one instruction, which fits
  pub public-one : (field : FieldId) (op : Op) → is_public op ≡ true → IsElement field op → HasOperands secrets publics (length d.maps) blocks op → IsOne field op
  public-one field (Const value) public element there base =
      let end : base + (0 - 0) ≡ base = omega arith in
      (ap (λ (p : ℕ). p ∷ []) end, λ i is. subst (FitsAt field (length d.maps) (draft_len d)) (ap (λ (is : List Instr). slice_index_or is 0 instr.Rnd) is) element)
  public-one field (PubAdd left right) public element there base =
      let all = public-reads (left ∷ right ∷ []) (recursion_from_All (IsPublicAt publics blocks) (left ∷ right ∷ []) there.public) in
      let reads : List ℕ = positions_read secrets blocks (PubAdd left right) in (
        ap (λ (p : ℕ). p ∷ []) (behind-operands reads base 2 all.0),
        λ i is. subst (FitsAt field (length d.maps) (draft_len d)) (ap (λ (is : List Instr). slice_index_or is 0 instr.Rnd) is)
            (operand-below reads base 0 all.1 (omega (arith, all.0)), operand-below reads base 1 all.1 (omega (arith, all.0))),
      )
  public-one field (PubMul left right) public element there base =
      let all = public-reads (left ∷ right ∷ []) (recursion_from_All (IsPublicAt publics blocks) (left ∷ right ∷ []) there.public) in
      let reads : List ℕ = positions_read secrets blocks (PubMul left right) in (
        ap (λ (p : ℕ). p ∷ []) (behind-operands reads base 2 all.0),
        λ i is. subst (FitsAt field (length d.maps) (draft_len d)) (ap (λ (is : List Instr). slice_index_or is 0 instr.Rnd) is)
            (operand-below reads base 0 all.1 (omega (arith, all.0)), operand-below reads base 1 all.1 (omega (arith, all.0))),
      )
  public-one field (PubSq arg) public element there base =
      let all = public-reads (arg ∷ []) (recursion_from_All (IsPublicAt publics blocks) (arg ∷ []) there.public) in
      let reads : List ℕ = positions_read secrets blocks (PubSq arg) in (
        ap (λ (p : ℕ). p ∷ []) (behind-operands reads base 1 all.0),
        λ i is. subst (FitsAt field (length d.maps) (draft_len d)) (ap (λ (is : List Instr). slice_index_or is 0 instr.Rnd) is)
            (operand-below reads base 0 all.1 (omega (arith, all.0))),
      )
  public-one field (PubMap k arg) public element there base =
      let all = public-reads (arg ∷ []) (recursion_from_All (IsPublicAt publics blocks) (arg ∷ []) there.public) in
      let reads : List ℕ = positions_read secrets blocks (PubMap k arg) in (
        ap (λ (p : ℕ). p ∷ []) (behind-operands reads base 1 all.0),
        λ i is. subst (FitsAt field (length d.maps) (draft_len d)) (ap (λ (is : List Instr). slice_index_or is 0 instr.Rnd) is)
            (there.map, operand-below reads base 0 all.1 (omega (arith, all.0))),
      )
  public-one field _ public element there base = absurd (cc)

module _ {N : ℕ} (secrets publics maps : ℕ) (blocks : List (Position N)) (op : Op) (there : HasOperands secrets publics maps blocks op) where
  -- an operand that is to be shared
  pub shared-at : (k : ℕ) (v : Operand) → slice_get (shared_operands op) k ≡ Some v → IsSharedAt secrets blocks v
  shared-at k v at = held (IsSharedAt secrets blocks) (shared_operands op) k v at there.shared

  -- one that is to be public
  pub public-at : (k : ℕ) (v : Operand) → slice_get (public_operands op) k ≡ Some v → IsPublicAt publics blocks v
  public-at k v at = held (IsPublicAt publics blocks) (public_operands op) k v at there.public

-- a linear operator has an instruction for each share
pub linear-len : (n : ℕ) → 1 ≤ n → (op : Op) → kind op ≡ Linear → length (built_in n op).instrs ≡ n
linear-len n least (Lift arg) linear = omega (arith, least, length-replicate (n - 1) (instr.Const 0))
linear-len n least (Add left right) linear = length-map-range_with_len _ 0 n
linear-len n least (AddPub left right) linear = length-map-range_with_len _ 0 n
linear-len n least (Scale left right) linear = length-map-range_with_len _ 0 n
linear-len n least (Sq arg) linear = length-map-range_with_len _ 0 n
linear-len n least (Map map arg) linear = length-map-range_with_len _ 0 n
linear-len n least _ linear = absurd (cc)

-- one instruction is emitted
pub one-emitted : (old room new : Draft) (i : Instr) (reads : List ℕ) (gadget : Gadget) (position : ℕ) → room ≡ record old { spare = room.spare }
    → new ≡ record room { instrs = room.instrs ++ i ∷ []; spare = room.spare - 1 } → position ≡ draft_len room
    → placed reads (draft_len old) gadget ≡ i ∷ [] → placed_outs reads (draft_len old) gadget ≡ draft_len old ∷ []
    → Emitted old new reads gadget (position ∷ [])
one-emitted old room new i reads gadget position same pushed at here outs = record {
  code = pushed
      ∙ ap (λ (d : Draft). record d { instrs = d.instrs ++ i ∷ []; spare = room.spare - 1 }) same
      ∙ ap (λ (is : List Instr). record old { instrs = old.instrs ++ is; spare = room.spare - 1 }) (sym here)
      ∙ ap (λ (k : ℕ). record old { instrs = old.instrs ++ placed reads (draft_len old) gadget; spare = k }) (sym (ap (λ (d : Draft). d.spare) pushed));
  outs = ap (λ (p : ℕ). p ∷ []) (at ∙ ap draft_len same) ∙ sym outs;
}
