-- The banks of the values of wired blocks: where they stand, and how many places they have.
use Rattle.std.proofs.Common.{◌≡◌, Bool, true, false, ℕ, zero, suc, ◌+◌, ◌-◌, ◌*◌, ◌<◌, ◌≤◌, List, [], ◌∷◌, ◌++◌, length, map, take, drop, get_or, slice_get, slice_index_or, Some, None, refl, sym, ◌∙◌, ap, subst, arith}
use Rattle.std.specs.List.{range_with_len, flat_map, AllByRecursion}
use Rattle.std.proofs.lemmas.List.Concat.{flat_map-append}
use Rattle.std.specs.Option.{option_map}
use Rattle.std.proofs.lemmas.List.{length-map, take_all, drop_more, take-append-drop, length-append, length-take-le, get_or_past}
use Rattle.std.proofs.lemmas.Option.{slice_get-map, slice_get_within, slice_get-get_or, get_or_from_slice_get}
use Rattle.mk_code.specs.declared.instr.Instr.{Instr}
use Rattle.mk_ssa.specs.declared.Op.{Op}
use Rattle.mk_ssa.specs.declared.Op.TheVariants.{Const}
use Rattle.mk_ssa.specs.declared.Operand.{Operand}
use Rattle.mk_ssa.specs.Kinds.{shared_operands, public_operands}
use Rattle.mk_gadget.specs.Gadget.{Gadget, placement, placed, placed_outs}
use Rattle.mk_gadget.specs.Template.{template}
use Rattle.mk_gadget.proofs.Ranges.{placement-own}
use Rattle.mk_rules.specs.Shape.{Shape}
use Rattle.mk_rules.specs.Tiles.{value_number, input_banks, reads, laid, laid_banks, first_position, banks_of}
use Rattle.mk_rules.specs.Wired.{IsSharedThere, IsPublicThere, Wired}
use Rattle.mk_rules.proofs.Blocks.{Block}
use Rattle.mk_rules.proofs.Front.{input-banks, secret-bank, public-bank}
use Rattle.mk_rules.proofs.Laid.{laid_to, banks_to, laid_to-more, banks_to-more}
use Rattle.mk_rules.proofs.Operators.{IsGiven, reads_length, wired-operands}
use Rattle.mk_rules.proofs.Standing.{bank, block_reads, IsBlock, AreBanks, AreBanks-next, bank-before, bank-next, length-reads, bank_length}
use Rattle.mk_rules.proofs.Accepted.{known_of, known-secret, known-public, block_of, block-good, reads-same, shared-there, public-there}
use Rattle.mk_rules.proofs.Wired.{wired-at}

-- so many instructions more, behind those of the first k blocks
pub laid-next : (shape : Shape) (product refresh : Gadget) (blocks : List Op) (k : ℕ) (op : Op) → slice_get blocks k ≡ Some op
    → length (laid_to shape product refresh blocks (k + 1)) ≡ length (laid_to shape product refresh blocks k) + length (template (shape.order + 1) product refresh op).instrs
laid-next shape product refresh blocks k op there =
    let n : ℕ = shape.order + 1 in
    let at : List ℕ = reads shape (banks_to shape product refresh blocks k) op in
    let base : ℕ = first_position shape + length (laid_to shape product refresh blocks k) in
    let here : List Instr = placed at base (template n product refresh op) in
    let own : get_or blocks k op ≡ op = get_or_from_slice_get blocks k op op there in
    ap length (laid_to-more shape product refresh blocks k op (slice_get_within blocks k op there)
    ∙ ap (λ (o : Op). laid_to shape product refresh blocks k ++ placed (reads shape (banks_to shape product refresh blocks k) o) base (template n product refresh o)) own)
    ∙ length-append (laid_to shape product refresh blocks k) here
    ∙ ap (λ (m : ℕ). length (laid_to shape product refresh blocks k) + m) (length-map (template n product refresh op).instrs _)

module _ (shape : Shape) (product refresh : Gadget) (blocks : List Op) (given : (op : Op) → IsGiven shape product refresh op) (wired : Wired shape blocks) where
  -- the block with this number meets what blocks have to meet
  good-at : (k : ℕ) (op : Op) → slice_get blocks k ≡ Some op
      → IsBlock shape.field shape.maps (shape.order + 1) (known_of shape blocks) (shape.secrets + shape.publics + k) (block_of shape product refresh op (given op))
  good-at k op there =
      let below : k < length blocks = slice_get_within blocks k op there in
      let parts : take k blocks ++ op ∷ drop (k + 1) blocks ≡ blocks =
      ap (λ (o : Op). take k blocks ++ o ∷ drop (k + 1) blocks) (sym (get_or_from_slice_get blocks k op op there))
      ∙ ap (λ (ops : List Op). take k blocks ++ ops) (sym (drop_more blocks k op below)) ∙ take-append-drop k blocks in
      let count : length (take k blocks) ≡ k = length-take-le k blocks (omega (arith, below)) in
      subst (λ (m : ℕ). IsBlock shape.field shape.maps (shape.order + 1) (known_of shape blocks) (shape.secrets + shape.publics + m) (block_of shape product refresh op (given op))) count
      (subst (λ (all : List Op). IsBlock shape.field shape.maps (shape.order + 1) (known_of shape all) (shape.secrets + shape.publics + length (take k blocks)) (block_of shape product refresh op (given op))) parts
      (block-good shape product refresh (take k blocks) op (drop (k + 1) blocks) (given op) (wired-at shape [] blocks k op wired there)))

  -- the banks of the inputs and of the first k blocks
  banked : (k : ℕ) → k ≤ length blocks
      → AreBanks (shape.order + 1) (known_of shape blocks) (shape.secrets + shape.publics + k) (first_position shape + length (laid_to shape product refresh blocks k)) (banks_to shape product refresh blocks k)
  unfolding laid laid_banks
  banked zero low =
      let none : shape.secrets + shape.publics ≡ shape.secrets + shape.publics + 0 = omega arith in
      let start : first_position shape ≡ first_position shape + 0 = omega arith in
      subst (λ (v : ℕ). AreBanks (shape.order + 1) (known_of shape blocks) v (first_position shape + 0) (input_banks shape)) none
      (subst (λ (base : ℕ). AreBanks (shape.order + 1) (known_of shape blocks) (shape.secrets + shape.publics) base (input_banks shape)) start
      (input-banks shape (known_of shape blocks)
      (record { secrets = known-secret shape product refresh blocks; publics = known-public shape product refresh blocks })))
  banked (suc k) low =
      let n : ℕ = shape.order + 1 in
      let op : Op = get_or blocks k (Const 0) in
      let there : slice_get blocks k ≡ Some op = slice_get-get_or blocks k (Const 0) (omega (arith, low)) in
      let b : Block = block_of shape product refresh op (given op) in
      let v : ℕ = shape.secrets + shape.publics + k in
      let base : ℕ = first_position shape + length (laid_to shape product refresh blocks k) in
      let old : List (List ℕ) = banks_to shape product refresh blocks k in
      let next : AreBanks n (known_of shape blocks) (v + 1) (base + length (template n product refresh op).instrs) (old ++ placed_outs (block_reads old b) base (template n product refresh op) ∷ []) =
      AreBanks-next shape.field shape.maps n (known_of shape blocks) v base old b (banked k (omega (arith, low))) (good-at k op there) in
      let one : k + 1 ≡ suc k = omega arith in
      let number : v + 1 ≡ shape.secrets + shape.publics + suc k = omega arith in
      let behind : base + length (template n product refresh op).instrs ≡ first_position shape + length (laid_to shape product refresh blocks (suc k)) =
      omega (arith, laid-next shape product refresh blocks k op there, ap (λ (j : ℕ). length (laid_to shape product refresh blocks j)) one) in
      let banks : old ++ placed_outs (block_reads old b) base (template n product refresh op) ∷ [] ≡ banks_to shape product refresh blocks (suc k) =
      ap (λ (rs : List ℕ). old ++ placed_outs rs base (template n product refresh op) ∷ []) (sym (reads-same shape product refresh old op (given op)))
      ∙ sym (banks_to-more shape product refresh blocks k (Const 0) (omega (arith, low)))
      ∙ ap (banks_to shape product refresh blocks) one in
      subst (λ (bs : List (List ℕ)). AreBanks n (known_of shape blocks) (shape.secrets + shape.publics + suc k) (first_position shape + length (laid_to shape product refresh blocks (suc k))) bs) banks
      (subst (λ (m : ℕ). AreBanks n (known_of shape blocks) (shape.secrets + shape.publics + suc k) m (old ++ placed_outs (block_reads old b) base (template n product refresh op) ∷ [])) behind
      (subst (λ (m : ℕ). AreBanks n (known_of shape blocks) m (base + length (template n product refresh op).instrs) (old ++ placed_outs (block_reads old b) base (template n product refresh op) ∷ [])) number next))

  -- a block reads as many places as its operands have
  pub reads-long : (k : ℕ) (op : Op) → slice_get blocks k ≡ Some op
      → length (reads shape (banks_to shape product refresh blocks k) op) ≡ reads_length (shape.order + 1) op
  reads-long k op there =
      let n : ℕ = shape.order + 1 in
      let old : List (List ℕ) = banks_to shape product refresh blocks k in
      ap length (reads-same shape product refresh old op (given op))
      ∙ length-reads shape.field shape.maps n (known_of shape blocks) (shape.secrets + shape.publics + k) (first_position shape + length (laid_to shape product refresh blocks k)) old
      (block_of shape product refresh op (given op)) (banked k (omega (arith, slice_get_within blocks k op there))) (good-at k op there)
      ∙ ap (λ (m : ℕ). n * m + length (map (value_number shape) (public_operands op))) (length-map (shared_operands op) (value_number shape))
      ∙ ap (λ (m : ℕ). n * length (shared_operands op) + m) (length-map (public_operands op) (value_number shape))

  -- the bank of a value stays where more blocks follow
  bank-stays : (more k x : ℕ) → more + k ≤ length blocks → x < shape.secrets + shape.publics + k
      → bank (banks_to shape product refresh blocks (more + k)) x ≡ bank (banks_to shape product refresh blocks k) x
  bank-stays zero k x low below =
      let none : zero + k ≡ k = omega arith in
      ap (λ (j : ℕ). bank (banks_to shape product refresh blocks j) x) none
  bank-stays (suc more) k x low below =
      let j : ℕ = more + k in
      let here : j < length blocks = omega (arith, low) in
      let op : Op = get_or blocks j (Const 0) in
      let one : suc more + k ≡ j + 1 = omega arith in
      let old : List (List ℕ) = banks_to shape product refresh blocks j in
      let inside : x < length old = omega (arith, (banked j (omega (arith, low))).count, below) in
      ap (λ (i : ℕ). bank (banks_to shape product refresh blocks i) x) one
      ∙ ap (λ (bs : List (List ℕ)). bank bs x) (banks_to-more shape product refresh blocks j (Const 0) here)
      ∙ bank-before old (placed_outs (reads shape old op) (first_position shape + length (laid_to shape product refresh blocks j)) (template (shape.order + 1) product refresh op)) x inside
      ∙ bank-stays more k x (omega (arith, low)) below

  -- up to all of them
  pub bank-all : (k x : ℕ) → k ≤ length blocks → x < shape.secrets + shape.publics + k
      → bank (banks_of shape product refresh blocks) x ≡ bank (banks_to shape product refresh blocks k) x
  bank-all k x low below =
      let whole : length blocks - k + k ≡ length blocks = omega (arith, low) in
      ap (λ (ops : List Op). bank (banks_of shape product refresh ops) x) (sym (take_all (length blocks) blocks (omega arith)))
      ∙ ap (λ (j : ℕ). bank (banks_to shape product refresh blocks j) x) (sym whole)
      ∙ bank-stays (length blocks - k) k x (omega (arith, whole)) below

  -- that of a block
  pub bank-at : (k : ℕ) (op : Op) → slice_get blocks k ≡ Some op
      → bank (banks_of shape product refresh blocks) (shape.secrets + shape.publics + k)
      ≡ placed_outs (reads shape (banks_to shape product refresh blocks k) op) (first_position shape + length (laid_to shape product refresh blocks k)) (template (shape.order + 1) product refresh op)
  bank-at k op there =
      let below : k < length blocks = slice_get_within blocks k op there in
      let old : List (List ℕ) = banks_to shape product refresh blocks k in
      let x : ℕ = shape.secrets + shape.publics + k in
      let base : ℕ = first_position shape + length (laid_to shape product refresh blocks k) in
      bank-all (k + 1) x (omega (arith, below)) (omega arith)
      ∙ ap (λ (bs : List (List ℕ)). bank bs x) (banks_to-more shape product refresh blocks k op below)
      ∙ bank-next old _ x (banked k (omega (arith, below))).count
      ∙ ap (λ (o : Op). placed_outs (reads shape old o) base (template (shape.order + 1) product refresh o)) (get_or_from_slice_get blocks k op op there)

  -- a share of it, whose position in the template is the block's own
  pub share-at : (k j p : ℕ) (op : Op) → slice_get blocks k ≡ Some op → slice_get (template (shape.order + 1) product refresh op).outs j ≡ Some p
      → reads_length (shape.order + 1) op ≤ p
      → slice_get (bank (banks_of shape product refresh blocks) (shape.secrets + shape.publics + k)) j
      ≡ Some (first_position shape + length (laid_to shape product refresh blocks k) + (p - reads_length (shape.order + 1) op))
  share-at k j p op there out own =
      let old : List (List ℕ) = banks_to shape product refresh blocks k in
      let at : List ℕ = reads shape old op in
      let base : ℕ = first_position shape + length (laid_to shape product refresh blocks k) in
      let long : length at ≡ reads_length (shape.order + 1) op = reads-long k op there in
      ap (λ (ps : List ℕ). slice_get ps j) (bank-at k op there)
      ∙ slice_get-map (placement at base) (template (shape.order + 1) product refresh op).outs j
      ∙ ap (option_map (placement at base)) out
      ∙ ap (λ (q : ℕ). Some q) (placement-own at base p (omega (arith, long, own)))
      ∙ ap (λ (m : ℕ). Some (base + (p - m))) long

  -- none where the template has none
  pub share-none : (k j : ℕ) (op : Op) → slice_get blocks k ≡ Some op → slice_get (template (shape.order + 1) product refresh op).outs j ≡ None
      → slice_get (bank (banks_of shape product refresh blocks) (shape.secrets + shape.publics + k)) j ≡ None
  share-none k j op there none =
      let old : List (List ℕ) = banks_to shape product refresh blocks k in
      let at : List ℕ = reads shape old op in
      let base : ℕ = first_position shape + length (laid_to shape product refresh blocks k) in
      ap (λ (ps : List ℕ). slice_get ps j) (bank-at k op there)
      ∙ slice_get-map (placement at base) (template (shape.order + 1) product refresh op).outs j
      ∙ ap (option_map (placement at base)) none

  -- behind all blocks there is no bank
  pub bank-none : (x : ℕ) → shape.secrets + shape.publics + length blocks ≤ x → bank (banks_of shape product refresh blocks) x ≡ []
  bank-none x behind =
      let all : banks_to shape product refresh blocks (length blocks) ≡ banks_of shape product refresh blocks =
      ap (λ (ops : List Op). banks_of shape product refresh ops) (take_all (length blocks) blocks (omega arith)) in
      let count : length (banks_of shape product refresh blocks) ≤ x = omega (arith, behind, (banked (length blocks) (omega arith)).count, ap length all) in
      get_or_past (banks_of shape product refresh blocks) x [] count

  -- the bank of a secret
  pub bank-secret : (x : ℕ) → x < shape.secrets → bank (banks_of shape product refresh blocks) x ≡ range_with_len (x * (shape.order + 1)) (shape.order + 1)
  unfolding laid_banks
  bank-secret x below = bank-all 0 x (omega arith) (omega (arith, below)) ∙ secret-bank shape x below

  -- and that of a public
  pub bank-public : (x : ℕ) → shape.secrets ≤ x → x < shape.secrets + shape.publics
      → bank (banks_of shape product refresh blocks) x ≡ (shape.secrets * (shape.order + 1) + (x - shape.secrets)) ∷ []
  unfolding laid_banks
  bank-public x late below = bank-all 0 x (omega arith) (omega (arith, below)) ∙ public-bank shape x late below

  -- the banks of some operands that are there, and how long they are
  operands-there : (k w : ℕ) (t : Bool) (P : Operand → Type 0) (vs : List Operand) → k ≤ length blocks → bank_length (shape.order + 1) t ≡ w
      → ((v : Operand) → P v → (value_number shape v < shape.secrets + shape.publics + k) × (known_of shape blocks (value_number shape v) ≡ t))
      → AllByRecursion P vs
      → AllByRecursion (λ v. length (slice_index_or (banks_of shape product refresh blocks) (value_number shape v) []) ≡ w) vs
      × (flat_map (λ v. slice_index_or (banks_of shape product refresh blocks) (value_number shape v) []) vs
      ≡ flat_map (λ v. slice_index_or (banks_to shape product refresh blocks k) (value_number shape v) []) vs)
  operands-there k w t P [] low wide each all = (tt, refl)
  operands-there k w t P (v ∷ vs) low wide each all =
      let there : (value_number shape v < shape.secrets + shape.publics + k) × (known_of shape blocks (value_number shape v) ≡ t) = each v all.0 in
      let rest = operands-there k w t P vs low wide each all.1 in
      let same : bank (banks_of shape product refresh blocks) (value_number shape v) ≡ bank (banks_to shape product refresh blocks k) (value_number shape v) =
      bank-all k (value_number shape v) low there.0 in (
        (
          ap length same ∙ (banked k low).long (value_number shape v) there.0 ∙ ap (bank_length (shape.order + 1)) there.1 ∙ wide,
          rest.0,
        ),
        ap (λ (ps : List ℕ). ps ++ flat_map (λ u. slice_index_or (banks_of shape product refresh blocks) (value_number shape u) []) vs) same
            ∙ ap (λ (ps : List ℕ). bank (banks_to shape product refresh blocks k) (value_number shape v) ++ ps) rest.1,
      )

  -- those of a block's operands
  pub reads-there : (k : ℕ) (op : Op) → slice_get blocks k ≡ Some op
      → AllByRecursion (λ v. length (slice_index_or (banks_of shape product refresh blocks) (value_number shape v) []) ≡ shape.order + 1) (shared_operands op)
      × AllByRecursion (λ v. length (slice_index_or (banks_of shape product refresh blocks) (value_number shape v) []) ≡ 1) (public_operands op)
      × (reads shape (banks_of shape product refresh blocks) op ≡ reads shape (banks_to shape product refresh blocks k) op)
  reads-there k op there =
      let below : k < length blocks = slice_get_within blocks k op there in
      let parts : take k blocks ++ op ∷ drop (k + 1) blocks ≡ blocks =
      ap (λ (o : Op). take k blocks ++ o ∷ drop (k + 1) blocks) (sym (get_or_from_slice_get blocks k op op there))
      ∙ ap (λ (ops : List Op). take k blocks ++ ops) (sym (drop_more blocks k op below)) ∙ take-append-drop k blocks in
      let count : length (take k blocks) ≡ k = length-take-le k blocks (omega (arith, below)) in
      let operands = wired-operands shape (take k blocks) op (wired-at shape [] blocks k op wired there) in
      let at : List (List ℕ) → Operand → List ℕ = λ banks v. slice_index_or banks (value_number shape v) [] in
      let now : List (List ℕ) = banks_of shape product refresh blocks in
      let old : List (List ℕ) = banks_to shape product refresh blocks k in
      let shared = operands-there k (shape.order + 1) false (IsSharedThere shape (take k blocks)) (shared_operands op) (omega (arith, below)) refl
      (λ v held.
      let found = shared-there shape product refresh (take k blocks) (op ∷ drop (k + 1) blocks) v held in
      (omega (arith, found.0, count), ap (λ (ops : List Op). known_of shape ops (value_number shape v)) (sym parts) ∙ found.1)) operands.0 in
      let publics = operands-there k 1 true (IsPublicThere shape (take k blocks)) (public_operands op) (omega (arith, below)) refl
      (λ v held.
      let found = public-there shape product refresh (take k blocks) (op ∷ drop (k + 1) blocks) v held in
      (omega (arith, found.0, count), ap (λ (ops : List Op). known_of shape ops (value_number shape v)) (sym parts) ∙ found.1)) operands.1 in (
        shared.0,
        publics.0,
        flat_map-append (at now) (shared_operands op) (public_operands op)
            ∙ ap (λ (ps : List ℕ). ps ++ flat_map (at now) (public_operands op)) shared.1
            ∙ ap (λ (ps : List ℕ). flat_map (at old) (shared_operands op) ++ ps) publics.1
            ∙ sym (flat_map-append (at old) (shared_operands op) (public_operands op)),
      )
