-- Where the template of a block stands among those of all, and how many places the banks of values have.
use Rattle.std.proofs.Common.{◌≡◌, false, ℕ, zero, suc, ◌+◌, ◌*◌, ◌<◌, ◌≤◌, List, [], ◌∷◌, ◌++◌, length, map, take, drop, slice_get, get_or, slice_index_or, IsSomeAnd, refl, sym, ◌∙◌, ap, subst, arith, append_assoc, append-nil, inl, inr}
use Rattle.std.specs.List.{range_with_len}
use Rattle.std.proofs.lemmas.Bool.{cases_lt}
use Rattle.std.proofs.lemmas.List.{length-append, take_more, drop_more, take-append-drop, get_or_append_left, length-map}
use Rattle.std.proofs.lemmas.List.FromFn.{length-range_with_len, length-map-range_with_len, get_or-map-range_with_len}
use Rattle.std.proofs.Math.Seq.{get_or-append_seam}
use Rattle.mk_code.specs.declared.instr.Instr.{Instr}
use Rattle.mk_ssa.specs.declared.Op.{Op}
use Rattle.mk_ssa.specs.declared.Operand.{Operand}
use Rattle.mk_ssa.specs.declared.Operand.TheVariants as operand
use Rattle.mk_ssa.specs.Kinds.{kind, is_public}
use Rattle.mk_gadget.specs.Gadget.{Gadget, placement, moved, placed, placed_outs}
use Rattle.mk_gadget.specs.Template.{template}
use Rattle.mk_rules.specs.Shape.{Shape}
use Rattle.mk_rules.specs.Tiles.{value_number, input_banks, reads, laid, laid_banks, first_position, banks_of}
use Rattle.mk_rules.specs.Wired.{IsSharedThere, AllWired, Wired}
use Rattle.mk_rules.proofs.Standing.{bank_length, is_known}
use Rattle.mk_rules.proofs.Operators.{IsGiven, FitsBehind, reads_length, template-behind, public-known}

module _ (shape : Shape) (product refresh : Gadget) where
  -- the instructions of some blocks and then of others
  pub laid-append : (banks : List (List ℕ)) (base : ℕ) (xs ys : List Op)
      → laid shape product refresh banks base (xs ++ ys)
      ≡ laid shape product refresh banks base xs
      ++ laid shape product refresh (laid_banks shape product refresh banks base xs) (base + length (laid shape product refresh banks base xs)) ys
  unfolding laid laid_banks
  laid-append banks base [] ys = let e : base ≡ base + 0 = omega arith in ap (λ (b : ℕ). laid shape product refresh banks b ys) e
  laid-append banks base (op ∷ xs) ys =
      let gadget : Gadget = template (shape.order + 1) product refresh op in
      let at : List ℕ = reads shape banks op in
      let next : List (List ℕ) = banks ++ placed_outs at base gadget ∷ [] in
      let here : List Instr = placed at base gadget in
      let rest : List Instr = laid shape product refresh next (base + length gadget.instrs) xs in
      let count : length here ≡ length gadget.instrs = length-map gadget.instrs (moved (placement at base)) in
      let e : base + length gadget.instrs + length rest ≡ base + length (here ++ rest) = omega (arith, count, length-append here rest) in
      ap (λ (is : List Instr). here ++ is) (laid-append next (base + length gadget.instrs) xs ys)
      ∙ sym (append_assoc here rest (laid shape product refresh (laid_banks shape product refresh next (base + length gadget.instrs) xs) (base + length gadget.instrs + length rest) ys))
      ∙ ap (λ (b : ℕ). (here ++ rest) ++ laid shape product refresh (laid_banks shape product refresh next (base + length gadget.instrs) xs) b ys) e

  -- and their banks
  pub laid_banks-append : (banks : List (List ℕ)) (base : ℕ) (xs ys : List Op)
      → laid_banks shape product refresh banks base (xs ++ ys)
      ≡ laid_banks shape product refresh (laid_banks shape product refresh banks base xs) (base + length (laid shape product refresh banks base xs)) ys
  unfolding laid laid_banks
  laid_banks-append banks base [] ys = let e : base ≡ base + 0 = omega arith in ap (λ (b : ℕ). laid_banks shape product refresh banks b ys) e
  laid_banks-append banks base (op ∷ xs) ys =
      let gadget : Gadget = template (shape.order + 1) product refresh op in
      let at : List ℕ = reads shape banks op in
      let next : List (List ℕ) = banks ++ placed_outs at base gadget ∷ [] in
      let here : List Instr = placed at base gadget in
      let rest : List Instr = laid shape product refresh next (base + length gadget.instrs) xs in
      let count : length here ≡ length gadget.instrs = length-map gadget.instrs (moved (placement at base)) in
      let e : base + length gadget.instrs + length rest ≡ base + length (here ++ rest) = omega (arith, count, length-append here rest) in
      laid_banks-append next (base + length gadget.instrs) xs ys
      ∙ ap (λ (b : ℕ). laid_banks shape product refresh (laid_banks shape product refresh next (base + length gadget.instrs) xs) b ys) e

  -- those of one block
  laid-one : (banks : List (List ℕ)) (base : ℕ) (op : Op)
      → laid shape product refresh banks base (op ∷ []) ≡ placed (reads shape banks op) base (template (shape.order + 1) product refresh op)
  unfolding laid
  laid-one banks base op = append-nil (placed (reads shape banks op) base (template (shape.order + 1) product refresh op))

  -- the instructions of the first block stand in front
  laid-front : (banks : List (List ℕ)) (base : ℕ) (op : Op) (ops : List Op) → (rest : List Instr)
      × (laid shape product refresh banks base (op ∷ ops) ≡ placed (reads shape banks op) base (template (shape.order + 1) product refresh op) ++ rest)
  unfolding laid
  laid-front banks base op ops = (_, refl)

  -- the banks with that of one block
  laid_banks-one : (banks : List (List ℕ)) (base : ℕ) (op : Op)
      → laid_banks shape product refresh banks base (op ∷ [])
      ≡ banks ++ placed_outs (reads shape banks op) base (template (shape.order + 1) product refresh op) ∷ []
  unfolding laid_banks
  laid_banks-one banks base op = refl

  module _ (blocks : List Op) where
    -- the instructions of the first k blocks
    abbrev pub laid_to : ℕ → List Instr
    laid_to k = laid shape product refresh (input_banks shape) (first_position shape) (take k blocks)

    -- those of all
    abbrev pub laid_all : List Instr
    laid_all = laid shape product refresh (input_banks shape) (first_position shape) blocks

    -- the banks of the inputs and of the first k blocks
    abbrev pub banks_to : ℕ → List (List ℕ)
    banks_to k = banks_of shape product refresh (take k blocks)

    -- block k as it is placed
    abbrev pub placed_at : ℕ → Op → List Instr
    placed_at k op =
        placed (reads shape (banks_to k) op) (first_position shape + length (laid_to k)) (template (shape.order + 1) product refresh op)

    -- one block more
    pub laid_to-more : (k : ℕ) (op : Op) → k < length blocks → laid_to (k + 1) ≡ laid_to k ++ placed_at k (get_or blocks k op)
    laid_to-more k op below =
        let next : Op = get_or blocks k op in
        ap (laid shape product refresh (input_banks shape) (first_position shape)) (take_more blocks k op below)
        ∙ laid-append (input_banks shape) (first_position shape) (take k blocks) (next ∷ [])
        ∙ ap (λ (is : List Instr). laid_to k ++ is) (laid-one (banks_to k) (first_position shape + length (laid_to k)) next)

    -- its bank
    pub banks_to-more : (k : ℕ) (op : Op) → k < length blocks
        → banks_to (k + 1)
        ≡ banks_to k ++ placed_outs (reads shape (banks_to k) (get_or blocks k op)) (first_position shape + length (laid_to k)) (template (shape.order + 1) product refresh (get_or blocks k op)) ∷ []
    banks_to-more k op below =
        let next : Op = get_or blocks k op in
        ap (laid_banks shape product refresh (input_banks shape) (first_position shape)) (take_more blocks k op below)
        ∙ laid_banks-append (input_banks shape) (first_position shape) (take k blocks) (next ∷ [])
        ∙ laid_banks-one (banks_to k) (first_position shape + length (laid_to k)) next

    -- block k among all
    pub laid-parts : (k : ℕ) (op : Op) → k < length blocks → (rest : List Instr) × (laid_all ≡ laid_to k ++ (placed_at k (get_or blocks k op) ++ rest))
    laid-parts k op below =
        let next : Op = get_or blocks k op in
        let front : (rest : List Instr) × (laid shape product refresh (banks_to k) (first_position shape + length (laid_to k)) (next ∷ drop (k + 1) blocks) ≡ placed_at k next ++ rest) =
        laid-front (banks_to k) (first_position shape + length (laid_to k)) next (drop (k + 1) blocks) in (
          front.0,
          ap (laid shape product refresh (input_banks shape) (first_position shape))
              (sym (take-append-drop k blocks) ∙ ap (λ (ops : List Op). take k blocks ++ ops) (drop_more blocks k op below))
              ∙ laid-append (input_banks shape) (first_position shape) (take k blocks) (next ∷ drop (k + 1) blocks)
              ∙ ap (λ (is : List Instr). laid_to k ++ is) front.1,
        )

-- the banks of the inputs and of some blocks: one for each, those of shared values with n places
record AreLong (shape : Shape) (before : List Op) (banks : List (List ℕ)) : Type 0 where
  secrets : (k : ℕ) → k < shape.secrets → length (slice_index_or banks k []) ≡ shape.order + 1
  blocks : (k : ℕ) → IsSomeAnd (slice_get before k) (λ op. is_public op ≡ false)
      → length (slice_index_or banks (shape.secrets + shape.publics + k) []) ≡ shape.order + 1
  count : length banks ≡ shape.secrets + shape.publics + length before

-- the last of some blocks
last-of : (before : List Op) (op : Op) (P : Op → Type 0) (k : ℕ) → length before ≤ k → IsSomeAnd (slice_get (before ++ op ∷ []) k) P → (k ≡ length before) × P op
last-of [] op P zero late there = (refl, there)
last-of [] op P (suc k) late there = absurd there
last-of (x ∷ before) op P zero late there = absurd (omega (arith, late))
last-of (x ∷ before) op P (suc k) late there =
    let rest : (k ≡ length before) × P op = last-of before op P k (omega (arith, late)) there in
    (omega (arith, rest.0), rest.1)

-- one of those before it
before-last : (before : List Op) (op : Op) (P : Op → Type 0) (k : ℕ) → k < length before → IsSomeAnd (slice_get (before ++ op ∷ []) k) P → IsSomeAnd (slice_get before k) P
before-last [] op P k below there = absurd (omega (arith, below))
before-last (x ∷ before) op P zero below there = there
before-last (x ∷ before) op P (suc k) below there = before-last before op P k (omega (arith, below)) there

-- the bank of one block more
AreLong-more : (shape : Shape) (before : List Op) (banks : List (List ℕ)) (op : Op) (last : List ℕ) → AreLong shape before banks
    → (is_public op ≡ false → length last ≡ shape.order + 1) → AreLong shape (before ++ op ∷ []) (banks ++ last ∷ [])
AreLong-more shape before banks op last b long = record {
  secrets = λ k below.
      let within : k < length banks = omega (arith, b.count, below) in
      ap length (get_or_append_left banks (last ∷ []) [] k within) ∙ b.secrets k below;
  blocks = λ k there. elim (cases_lt k (length before)) [
    | inl earlier ↦
        let within : shape.secrets + shape.publics + k < length banks = omega (arith, b.count, earlier) in
        ap length (get_or_append_left banks (last ∷ []) [] (shape.secrets + shape.publics + k) within)
        ∙ b.blocks k (before-last before op (λ o. is_public o ≡ false) k earlier there)
    | inr late ↦
        let own : (k ≡ length before) × (is_public op ≡ false) = last-of before op (λ o. is_public o ≡ false) k late there in
        let at : shape.secrets + shape.publics + k ≡ length banks = omega (arith, b.count, own.0) in
        ap (λ (i : ℕ). length (slice_index_or (banks ++ last ∷ []) i [])) at
        ∙ ap length (get_or-append_seam banks last [] []) ∙ long own.1
  ];
  count = omega (arith, b.count, length-append banks (last ∷ []), length-append before (op ∷ []));
}

module _ (shape : Shape) (product refresh : Gadget) where
  -- the banks of the inputs
  inputs-long : AreLong shape [] (input_banks shape)
  inputs-long =
      let n : ℕ = shape.order + 1 in
      let fronts : List (List ℕ) = map (λ k. range_with_len (k * n) n) (range_with_len 0 shape.secrets) in
      let backs : List (List ℕ) = map (λ k. (shape.secrets * n + k) ∷ []) (range_with_len 0 shape.publics) in
      let count : length fronts ≡ shape.secrets = length-map-range_with_len (λ k. range_with_len (k * n) n) 0 shape.secrets in
      let more : length backs ≡ shape.publics = length-map-range_with_len (λ k. (shape.secrets * n + k) ∷ []) 0 shape.publics in
      record {
        secrets = λ k below.
            let inside : k < length fronts = omega (arith, count, below) in
            ap length (get_or_append_left fronts backs [] k inside
            ∙ get_or-map-range_with_len (λ k. range_with_len (k * n) n) 0 shape.secrets k k [] below (omega arith)) ∙ length-range_with_len (k * n) n;
        blocks = λ k there. absurd there;
        count = omega (arith, length-append fronts backs, count, more);
      }

  -- those of wired blocks
  blocks-long : (before : List Op) (banks : List (List ℕ)) (base : ℕ) (ops : List Op) → AreLong shape before banks
      → AllWired shape before ops → ((op : Op) → IsGiven shape product refresh op)
      → AreLong shape (before ++ ops) (laid_banks shape product refresh banks base ops)
  unfolding laid_banks
  blocks-long before banks base [] b wired given = subst (λ (bs : List Op). AreLong shape bs banks) (sym (append-nil before)) b
  blocks-long before banks base (op ∷ ops) b wired given =
      let n : ℕ = shape.order + 1 in
      let gadget : Gadget = template n product refresh op in
      let behind : FitsBehind shape.field shape.maps (reads_length n op) (bank_length n (is_known (kind op))) gadget =
      template-behind shape product refresh before op wired.0 (given op) in
      let last : List ℕ = placed_outs (reads shape banks op) base gadget in
      subst (λ (bs : List Op). AreLong shape bs (laid_banks shape product refresh (banks ++ last ∷ []) (base + length gadget.instrs) ops)) (append_assoc before (op ∷ []) ops)
      (blocks-long (before ++ op ∷ []) (banks ++ last ∷ []) (base + length gadget.instrs) ops
      (AreLong-more shape before banks op last b
      (λ shared. length-map gadget.outs (placement (reads shape banks op) base) ∙ behind.count ∙ ap (bank_length n) (sym (public-known op) ∙ shared)))
      wired.1 given)

  -- the bank of a shared value that is there has n places
  pub bank-long : (blocks : List Op) (v : Operand) → Wired shape blocks → ((op : Op) → IsGiven shape product refresh op) → IsSharedThere shape blocks v
      → length (slice_index_or (banks_of shape product refresh blocks) (value_number shape v) []) ≡ shape.order + 1
  bank-long blocks (operand.Secret k) wired given there =
      (blocks-long [] (input_banks shape) (first_position shape) blocks inputs-long wired given).secrets k there
  bank-long blocks (operand.Public k) wired given there = absurd there
  bank-long blocks (operand.Block k) wired given there =
      (blocks-long [] (input_banks shape) (first_position shape) blocks inputs-long wired given).blocks k there
