-- One block more is emitted.
use Rattle.std.proofs.Common.{◌≡◌, true, false, Bool, ℕ, zero, suc, ◌+◌, ◌-◌, ◌*◌, ◌<◌, ◌≤◌, List, [], ◌∷◌, ◌++◌, IsSomeAnd, length, map, take, drop, get_or, slice_get, slice_index_or, sum_by, sym, ◌∙◌, ap, refl, subst, arith, append_assoc, append-nil}
use Rattle.std.specs.List.{flat_map, range_with_len, AllByRecursion}
use Rattle.std.proofs.lemmas.List.{length-append, length-map, map-append, get_or_append_left, get_or-append_right, get_or-map, take_more, drop_more, take_all}
use Rattle.std.proofs.lemmas.List.Sums.{sum_by-take-drop, sum_by-cons}
use Rattle.std.proofs.lemmas.List.FromFn.{length-map-range_with_len}
use Rattle.std.proofs.lemmas.List.Elements.{All-from_recursion, recursion_from_All}
use Rattle.mk_code.specs.declared.instr.Instr.{Instr}
use Rattle.mk_code.specs.Draft.{Draft, draft_len}
use Rattle.mk_code.specs.Counting.{AllBelow}
use Rattle.mk_ssa.specs.declared.Operand.{Operand}
use Rattle.mk_ssa.specs.declared.Operand.TheVariants as operand
use Rattle.mk_ssa.specs.declared.Op.{Op}
use Rattle.mk_ssa.specs.declared.Op.TheVariants.{Const, PubMap, Map}
use Rattle.mk_ssa.specs.Kinds.{is_public, shared_operands, public_operands}
use Rattle.mk_gadget.specs.Gadget.{Gadget, moved, placement, placed, placed_outs}
use Rattle.mk_gadget.specs.Emitted.{Emitted}
use Rattle.mk_gadget.specs.Template.{built_in}
use Rattle.std.proofs.lemmas.List.Concat.{flat_map-append}
use Rattle.mk_rules.specs.Shape.{Shape}
use Rattle.mk_rules.specs.Tiles.{value_number, input_banks, first_position, reads, laid, laid_banks}
use Rattle.mk_compile.proofs.Banks.{within-some}
use Rattle.mk_rules.specs.Wired.{IsSharedThere, IsPublicThere, IsWired}
use Rattle.mk_rules.proofs.Operators.{wired-operands}
use Rattle.mk_rules.proofs.Standing.{bank}
use Rattle.mk_rules.specs.Wired.{Wired, AllWired}
use Rattle.mk_rules.proofs.Wired.{wired-at}
use Rattle.std.proofs.lemmas.Option.{slice_get-get_or}
use Rattle.mk_simplify.proofs.Trees.{AllByRecursion-weaker}
use Rattle.mk_rules.proofs.Laid.{laid_to-more, banks_to-more}
use Rattle.mk_rules.proofs.Front.{secret-bank, public-bank}
use Rattle.mk_gadget.specs.Product.{product_gadget}
use Rattle.mk_gadget.specs.Refresh.{refresh_gadget}
use Rattle.mk_compile.specs.RightValues.{built_banks}
use Rattle.mk_compile.specs.Emitting.{instrs_of, blocks_len}
use Rattle.mk_compile.proofs.Right.{banks-all}
use Rattle.mk_compile.proofs.Whole.{inputs-banked}
use Rattle.mk_compile.specs.declared.positions.Position.{Position}
use Rattle.mk_compile.specs.declared.positions.Position.TheVariants.{Public}
use Rattle.mk_compile.specs.Positions.{bank_at, is_public_at, bank_of, IsSharedAt, IsPublicAt, HasMap, HasOperands, IsElement, AreBefore, ArePlaced, positions_read}

module _ {N : ℕ} (shape : Shape) (order : shape.order + 1 ≡ N) where
  -- a block of a kind has a value of that kind
  kind-at : (before : List Op) (positions : List (Position N)) (t : Bool) (k : ℕ) → map is_public_at positions ≡ map is_public before
      → IsSomeAnd (slice_get before k) (λ op. is_public op ≡ t) → IsSomeAnd (slice_get positions k) (λ p. is_public_at p ≡ t)
  kind-at [] positions t k same there = absurd there
  kind-at (op ∷ before) [] t k same there = absurd (cc (same))
  kind-at (op ∷ before) (p ∷ positions) t zero same there = ap (λ (ts : List Bool). slice_index_or ts 0 true) same ∙ there
  kind-at (op ∷ before) (p ∷ positions) t (suc k) same there = kind-at before positions t k (ap (drop 1) same) there

  -- a shared value that is there is among those that stand somewhere
  pub shared-placed : (before : List Op) (positions : List (Position N)) (v : Operand) → map is_public_at positions ≡ map is_public before
      → IsSharedThere shape before v → IsSharedAt shape.secrets positions v
  shared-placed before positions (operand.Secret k) same there = there
  shared-placed before positions (operand.Public k) same there = absurd there
  shared-placed before positions (operand.Block k) same there = kind-at before positions false k same there

  -- a public one
  public-placed : (before : List Op) (positions : List (Position N)) (v : Operand) → map is_public_at positions ≡ map is_public before
      → IsPublicThere shape before v → IsPublicAt shape.publics positions v
  public-placed before positions (operand.Secret k) same there = absurd there
  public-placed before positions (operand.Public k) same there = there
  public-placed before positions (operand.Block k) same there = kind-at before positions true k same there

  -- the map of a wired operator is there
  map-there : (before : List Op) (op : Op) → IsWired shape before op → HasMap (length shape.maps) op
  map-there before (PubMap k arg) wired = wired.0
  map-there before (Map k arg) wired = wired.0
  map-there before _ wired = tt

  -- its constant is an element
  pub constant-there : (before : List Op) (op : Op) → IsWired shape before op → IsElement shape.field op
  constant-there before (Const value) wired = wired
  constant-there before _ wired = tt

  -- the operands of a wired operator are among the values that stand somewhere
  pub wired-placed : (before : List Op) (positions : List (Position N)) (op : Op) → map is_public_at positions ≡ map is_public before → IsWired shape before op
      → HasOperands shape.secrets shape.publics (length shape.maps) positions op
  wired-placed before positions op same wired =
      let both : AllByRecursion (IsSharedThere shape before) (shared_operands op) × AllByRecursion (IsPublicThere shape before) (public_operands op) = wired-operands shape before op wired in
      record {
        shared = All-from_recursion (IsSharedAt shape.secrets positions) (shared_operands op)
            (AllByRecursion-weaker (IsSharedThere shape before) (IsSharedAt shape.secrets positions) (shared_operands op) (λ v there. shared-placed before positions v same there) both.0);
        public = All-from_recursion (IsPublicAt shape.publics positions) (public_operands op)
            (AllByRecursion-weaker (IsPublicThere shape before) (IsPublicAt shape.publics positions) (public_operands op) (λ v there. public-placed before positions v same there) both.1);
        map = map-there before op wired;
      }

  -- the banks of inputs, and those of the values of blocks
  abbrev all_banks : List (Position N) → List (List ℕ)
  all_banks positions = input_banks shape ++ map bank_at positions

  -- how many inputs have banks
  inputs-count : length (input_banks shape) ≡ shape.secrets + shape.publics
  inputs-count =
      let n : ℕ = shape.order + 1 in
      omega (
        arith,
        length-append (map (λ k. range_with_len (k * n) n) (range_with_len 0 shape.secrets)) (map (λ k. (shape.secrets * n + k) ∷ []) (range_with_len 0 shape.publics)),
        length-map-range_with_len (λ k. range_with_len (k * n) n) 0 shape.secrets,
        length-map-range_with_len (λ k. (shape.secrets * n + k) ∷ []) 0 shape.publics,
      )

  -- the bank of the value of a block
  block-bank : (positions : List (Position N)) (k : ℕ) (none : Position N) → k < length positions → bank_at (slice_index_or positions k none) ≡ bank (all_banks positions) (shape.secrets + shape.publics + k)
  block-bank positions k none below =
      let back : shape.secrets + shape.publics + k - (shape.secrets + shape.publics) ≡ k = omega arith in
      sym (get_or-append_right (input_banks shape) (map bank_at positions) (shape.secrets + shape.publics) (shape.secrets + shape.publics + k) [] inputs-count (omega arith)
      ∙ ap (λ (i : ℕ). slice_index_or (map bank_at positions) i []) back
      ∙ get_or-map bank_at positions k none [] below)

  -- the bank of a shared value
  pub shared-bank : (positions : List (Position N)) (v : Operand) → IsSharedAt shape.secrets positions v
      → bank_of shape.secrets positions v ≡ bank (all_banks positions) (value_number shape v)
  shared-bank positions (operand.Secret k) there =
      ap (λ (n : ℕ). range_with_len (k * n) n) (sym order)
      ∙ sym (get_or_append_left (input_banks shape) (map bank_at positions) [] k (omega (arith, there, inputs-count)) ∙ secret-bank shape k there)
  shared-bank positions (operand.Public k) there = absurd there
  shared-bank positions (operand.Block k) there = block-bank positions k (Public 0) (within-some positions k (λ p. is_public_at p ≡ false) there)

  -- of a public one
  public-bank-of : (positions : List (Position N)) (v : Operand) → IsPublicAt shape.publics positions v
      → bank_of shape.secrets positions v ≡ bank (all_banks positions) (value_number shape v)
  public-bank-of positions (operand.Secret k) there = absurd there
  public-bank-of positions (operand.Public k) there =
      let back : shape.secrets + k - shape.secrets ≡ k = omega arith in
      ap (λ (n : ℕ). (shape.secrets * n + k) ∷ []) (sym order)
      ∙ ap (λ (i : ℕ). (shape.secrets * (shape.order + 1) + i) ∷ []) (sym back)
      ∙ sym (get_or_append_left (input_banks shape) (map bank_at positions) [] (shape.secrets + k) (omega (arith, there, inputs-count))
      ∙ public-bank shape (shape.secrets + k) (omega arith) (omega (arith, there)))
  public-bank-of positions (operand.Block k) there = block-bank positions k (Public 0) (within-some positions k (λ p. is_public_at p ≡ true) there)

  -- the banks of some operands
  pub banks-same : (P : Operand → Type 0) (positions : List (Position N)) (vs : List Operand)
      → ((v : Operand) → P v → bank_of shape.secrets positions v ≡ bank (all_banks positions) (value_number shape v)) → AllByRecursion P vs
      → flat_map (bank_of shape.secrets positions) vs ≡ flat_map (λ v. slice_index_or (all_banks positions) (value_number shape v) []) vs
  banks-same P positions [] same all = refl
  banks-same P positions (v ∷ vs) same all =
      ap (λ (l : List ℕ). l ++ flat_map (bank_of shape.secrets positions) vs) (same v all.0)
      ∙ ap (λ (l : List ℕ). bank (all_banks positions) (value_number shape v) ++ l) (banks-same P positions vs same all.1)

  -- an operator reads these positions
  pub reads-placed : (positions : List (Position N)) (op : Op) → HasOperands shape.secrets shape.publics (length shape.maps) positions op
      → positions_read shape.secrets positions op ≡ reads shape (all_banks positions) op
  reads-placed positions op there =
      let at : Operand → List ℕ = λ v. slice_index_or (all_banks positions) (value_number shape v) [] in
      let of : Operand → List ℕ = bank_of shape.secrets positions in
      flat_map-append of (shared_operands op) (public_operands op)
      ∙ ap (λ (l : List ℕ). l ++ flat_map of (public_operands op))
      (banks-same (IsSharedAt shape.secrets positions) positions (shared_operands op) (shared-bank positions) (recursion_from_All (IsSharedAt shape.secrets positions) (shared_operands op) there.shared))
      ∙ ap (λ (l : List ℕ). flat_map at (shared_operands op) ++ l)
      (banks-same (IsPublicAt shape.publics positions) positions (public_operands op) (public-bank-of positions) (recursion_from_All (IsPublicAt shape.publics positions) (public_operands op) there.public))
      ∙ sym (flat_map-append at (shared_operands op) (public_operands op))

  -- how many instructions the blocks have
  pub laid-len : (banks : List (List ℕ)) (base : ℕ) (ops : List Op)
      → length (laid shape (product_gadget (shape.order + 1)) (refresh_gadget (shape.order + 1)) banks base ops) ≡ blocks_len N ops
  unfolding laid
  laid-len banks base [] = refl
  laid-len banks base (op ∷ ops) =
      let gadget : Gadget = built_in (shape.order + 1) op in
      let at : List ℕ = reads shape banks op in
      let next : List (List ℕ) = banks ++ placed_outs at base gadget ∷ [] in
      let size : length gadget.instrs ≡ length (built_in N op).instrs = ap (λ (n : ℕ). length (built_in n op).instrs) order in
      omega (
        arith,
        length-append (placed at base gadget) (laid shape (product_gadget (shape.order + 1)) (refresh_gadget (shape.order + 1)) next (base + length gadget.instrs) ops),
        length-map gadget.instrs (moved (placement at base)),
        laid-len next (base + length gadget.instrs) ops,
        size,
        sum_by-cons (λ (o : Op). length (built_in N o).instrs) op ops,
      )

  module _ (blocks : List Op) where
    -- the values of blocks stand before what is emitted next
    pub before-placed : (instrs : List Instr) (positions : List (Position N)) → Wired shape blocks → ArePlaced shape blocks instrs positions
        → AreBefore (first_position shape + length instrs) positions
    before-placed instrs positions wired so k none below =
        let all = banks-all shape [] blocks (first_position shape) (input_banks shape) wired (inputs-banked shape blocks) in
        let count : length positions ≡ length blocks = sym (length-map positions is_public_at) ∙ ap length so.kinds ∙ length-map blocks is_public in
        let at : bank_at (slice_index_or positions k none) ≡ bank (built_banks shape blocks) (shape.secrets + shape.publics + k) =
        block-bank positions k none below ∙ ap (λ (banks : List (List ℕ)). bank banks (shape.secrets + shape.publics + k)) so.banks in
        subst (λ (end : ℕ). AllBelow (first_position shape + end) (bank_at (slice_index_or positions k none))) (ap length (sym so.laid))
        (subst (AllBelow (first_position shape + length (instrs_of shape blocks))) (sym at) (all.below (shape.secrets + shape.publics + k) (omega (arith, below, count))))

    -- one block more is placed
    pub placed-more : (k : ℕ) (none op : Op) (d new : Draft) (positions : List (Position N)) (position : Position N) → k < length blocks → get_or blocks k none ≡ op
        → draft_len d ≡ first_position shape + length d.instrs → Emitted d new (positions_read shape.secrets positions op) (built_in N op) (bank_at position)
        → is_public_at position ≡ is_public op → HasOperands shape.secrets shape.publics (length shape.maps) positions op
        → ArePlaced shape (take k blocks) d.instrs positions → ArePlaced shape (take (k + 1) blocks) new.instrs (positions ++ position ∷ [])
    placed-more k none op d new positions position below is at emitted kind there so =
        let product : Gadget = product_gadget (shape.order + 1) in
        let refresh : Gadget = refresh_gadget (shape.order + 1) in
        let to : List Instr = instrs_of shape (take k blocks) in
        let banks : List (List ℕ) = built_banks shape (take k blocks) in
        let from : positions_read shape.secrets positions op ≡ reads shape banks op =
        reads-placed positions op there ∙ ap (λ (bs : List (List ℕ)). reads shape bs op) so.banks in
        let base : draft_len d ≡ first_position shape + length to = at ∙ ap (λ (is : List Instr). first_position shape + length is) so.laid in
        let more : take (k + 1) blocks ≡ take k blocks ++ op ∷ [] = take_more blocks k none below ∙ ap (λ (o : Op). take k blocks ++ o ∷ []) is in
        record {
          laid = ap (λ (e : Draft). e.instrs) emitted.code
              ∙ ap (λ (ps : List ℕ). d.instrs ++ placed ps (draft_len d) (built_in N op)) from
              ∙ ap (λ (b : ℕ). d.instrs ++ placed (reads shape banks op) b (built_in N op)) base
              ∙ ap (λ (is : List Instr). is ++ placed (reads shape banks op) (first_position shape + length to) (built_in N op)) so.laid
              ∙ ap (λ (n : ℕ). to ++ placed (reads shape banks op) (first_position shape + length to) (built_in n op)) (sym order)
              ∙ ap (λ (o : Op). to ++ placed (reads shape banks o) (first_position shape + length to) (built_in (shape.order + 1) o)) (sym is)
              ∙ sym (laid_to-more shape product refresh blocks k none below);
          banks = ap (λ (bs : List (List ℕ)). input_banks shape ++ bs) (map-append bank_at positions (position ∷ []))
              ∙ sym (append_assoc (input_banks shape) (map bank_at positions) (bank_at position ∷ []))
              ∙ ap (λ (bs : List (List ℕ)). bs ++ bank_at position ∷ []) so.banks
              ∙ ap (λ (b : List ℕ). banks ++ b ∷ []) emitted.outs
              ∙ ap (λ (ps : List ℕ). banks ++ placed_outs ps (draft_len d) (built_in N op) ∷ []) from
              ∙ ap (λ (b : ℕ). banks ++ placed_outs (reads shape banks op) b (built_in N op) ∷ []) base
              ∙ ap (λ (n : ℕ). banks ++ placed_outs (reads shape banks op) (first_position shape + length to) (built_in n op) ∷ []) (sym order)
              ∙ ap (λ (o : Op). banks ++ placed_outs (reads shape banks o) (first_position shape + length to) (built_in (shape.order + 1) o) ∷ []) (sym is)
              ∙ sym (banks_to-more shape product refresh blocks k none below);
          kinds = map-append is_public_at positions (position ∷ [])
              ∙ ap (λ (ts : List Bool). ts ++ is_public_at position ∷ []) so.kinds
              ∙ ap (λ (t : Bool). map is_public (take k blocks) ++ t ∷ []) kind
              ∙ sym (map-append is_public (take k blocks) (op ∷ []))
              ∙ ap (map is_public) (sym more);
        }

    -- what is emitted next has room
    pub room : (k : ℕ) (none op : Op) (instrs : List Instr) → k < length blocks → get_or blocks k none ≡ op → instrs ≡ instrs_of shape (take k blocks)
        → length instrs + length (built_in N op).instrs ≤ blocks_len N blocks
    room k none op instrs below is so =
        let f : Op → ℕ = λ o. length (built_in N o).instrs in
        let cut : sum_by f (drop k blocks) ≡ f op + sum_by f (drop (k + 1) blocks) =
        ap (sum_by f) (drop_more blocks k none below) ∙ sum_by-cons f (get_or blocks k none) (drop (k + 1) blocks) ∙ ap (λ (o : Op). f o + sum_by f (drop (k + 1) blocks)) is in
        omega (arith, ap length so, laid-len (input_banks shape) (first_position shape) (take k blocks), sum_by-take-drop f blocks k, cut)

    -- all blocks are placed
    pub placed-all : (k : ℕ) (instrs : List Instr) (positions : List (Position N)) → length blocks ≤ k → ArePlaced shape (take k blocks) instrs positions
        → ArePlaced shape blocks instrs positions
    placed-all k instrs positions past so = subst (λ (ops : List Op). ArePlaced shape ops instrs positions) (take_all k blocks past) so

    -- the next block is wired behind those before
    pub wired-next : (k : ℕ) (none : Op) → k < length blocks → Wired shape blocks → IsWired shape (take k blocks) (get_or blocks k none)
    wired-next k none below wired = wired-at shape [] blocks k (get_or blocks k none) wired (slice_get-get_or blocks k none below)

    -- its operands are among the values that stand somewhere
    pub operands-next : (k : ℕ) (none : Op) (secrets publics maps : ℕ) (instrs : List Instr) (positions : List (Position N)) → k < length blocks → Wired shape blocks
        → secrets ≡ shape.secrets → publics ≡ shape.publics → maps ≡ length shape.maps → ArePlaced shape (take k blocks) instrs positions
        → HasOperands secrets publics maps positions (get_or blocks k none)
    operands-next k none secrets publics maps instrs positions below wired first second third so =
        subst (λ (s : ℕ). HasOperands s publics maps positions (get_or blocks k none)) (sym first)
        (subst (λ (p : ℕ). HasOperands shape.secrets p maps positions (get_or blocks k none)) (sym second)
        (subst (λ (m : ℕ). HasOperands shape.secrets shape.publics m positions (get_or blocks k none)) (sym third)
        (wired-placed (take k blocks) positions (get_or blocks k none) so.kinds (wired-next k none below wired))))

  -- no block is placed
  pub placed-none : (instrs : List Instr) (positions : List (Position N)) → instrs ≡ [] → positions ≡ [] → ArePlaced shape [] instrs positions
  unfolding laid laid_banks
  placed-none instrs positions first second = record {
    laid = first;
    banks = ap (λ (ps : List (Position N)). input_banks shape ++ map bank_at ps) second ∙ append-nil (input_banks shape);
    kinds = ap (map is_public_at) second;
  }

  -- the first of wired blocks are wired
  pub wired-front : (before blocks : List Op) (k : ℕ) → AllWired shape before blocks → AllWired shape before (take k blocks)
  wired-front before blocks zero wired = tt
  wired-front before [] (suc k) wired = tt
  wired-front before (op ∷ ops) (suc k) wired = (wired.0, wired-front (before ++ op ∷ []) ops k wired.1)
