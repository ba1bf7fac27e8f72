-- What the rule accepts is private: its blocks are laid blocks whose marks are single.
use Rattle.std.proofs.Common.{◌≡◌, ℕ, zero, suc, ◌+◌, ◌-◌, ◌*◌, ◌<◌, ◌≤◌, Bool, true, false, List, [], ◌∷◌, ◌++◌, length, map, slice_get, IsSomeAnd, slice_index_or, nat_lt, if◌then◌else◌, sym, ◌∙◌, ap, refl, subst, arith, append_assoc, inl, inr}
use Rattle.std.specs.List.{Contains, flat_map, AllByRecursion}
use Rattle.std.proofs.lemmas.Bool.{lt-ltb, le-ltb}
use Rattle.std.proofs.lemmas.List.{length-append, length-map}
use Rattle.std.proofs.lemmas.List.Concat.{flat_map-append}
use Rattle.std.proofs.lemmas.List.Elements.{Contains-append_right}
use Rattle.mk_code.specs.declared.instr.Instr.{Instr}
use Rattle.mk_code.specs.Listing.{Listing, AllFit}
use Rattle.mk_code.specs.Counting.{AllBelow}
use Rattle.mk_ssa.specs.declared.Operand.{Operand}
use Rattle.mk_ssa.specs.declared.Operand.TheVariants as operand
use Rattle.mk_ssa.specs.declared.Op.{Op}
use Rattle.mk_ssa.specs.declared.Op.TheVariants.{Mul, Refresh}
use Rattle.mk_ssa.specs.Kinds.{kind, is_public, shared_operands, public_operands}
use Rattle.mk_gadget.specs.Gadget.{Gadget, placed, placed_outs}
use Rattle.mk_gadget.specs.Template.{template}
use Rattle.mk_gadget.proofs.Steady.{template-steady}
use Rattle.mk_rules.specs.Shape.{Shape, shape_of}
use Rattle.mk_rules.specs.Claimed.{Claimed}
use Rattle.mk_rules.specs.Tiles.{value_number, input_banks, reads, laid, first_position}
use Rattle.mk_rules.specs.Wired.{IsSharedThere, IsPublicThere, IsWired, AllWired}
use Rattle.mk_rules.specs.Reaches.{Link, links}
use Rattle.mk_rules.specs.Privacy.{HaveTemplates, AcceptedIsPrivate}
use Rattle.mk_rules.proofs.Blocks.{Block}
use Rattle.mk_rules.proofs.Needs.{strong_or}
use Rattle.mk_rules.proofs.Standing.{bank, block_reads, banks_with, block_placed, blocks_laid, bank_length, is_known, IsBlock, AllBlocks}
use Rattle.mk_rules.proofs.Front.{blocks-private}
use Rattle.mk_rules.proofs.Marks.{link_of, undoubled-single}
use Rattle.mk_rules.proofs.Asking.{Asking, asking-weak, asking-strong}
use Rattle.mk_rules.proofs.Operators.{FitsBehind, IsGiven, reads_length, template-behind, strong-publics, strong-two, public-unshared, public-known, wired-operands, numbers-there}

-- whether the block with this number is public
unfoldable pub public_at : List Op → ℕ → Bool
public_at [] k = false
public_at (op ∷ ops) zero = is_public op
public_at (op ∷ ops) (suc k) = public_at ops k

-- whether the value with this number is public
abbrev pub known_of : Shape → List Op → ℕ → Bool
known_of shape blocks x =
    if nat_lt x shape.secrets then false
    else (if nat_lt x (shape.secrets + shape.publics) then true else public_at blocks (x - (shape.secrets + shape.publics)))

-- what is told of a block before is told of it among all
public_at-before : (before ops : List Op) (k : ℕ) (t : Bool) → IsSomeAnd (slice_get before k) (λ op. is_public op ≡ t)
    → (k < length before) × (public_at (before ++ ops) k ≡ t)
unfolding public_at
public_at-before [] ops k t there = absurd there
public_at-before (op ∷ before) ops zero t there = (omega arith, there)
public_at-before (op ∷ before) ops (suc k) t there =
    let rest : (k < length before) × (public_at (before ++ ops) k ≡ t) = public_at-before before ops k t there in
    (omega (arith, rest.0), rest.1)

-- the next block
public_at-next : (before : List Op) (op : Op) (ops : List Op) → public_at (before ++ op ∷ ops) (length before) ≡ is_public op
unfolding public_at
public_at-next [] op ops = refl
public_at-next (first ∷ before) op ops = public_at-next before op ops

-- each of the blocks that is strong has a gadget that may stand for it
unfoldable AreGiven : Shape → Gadget → Gadget → List Op → Type 0
AreGiven shape product refresh [] = Unit {0}
AreGiven shape product refresh (op ∷ ops) = IsGiven shape product refresh op × AreGiven shape product refresh ops

module _ (shape : Shape) (product refresh : Gadget) where
  -- the secrets
  pub known-secret : (blocks : List Op) (x : ℕ) → x < shape.secrets → known_of shape blocks x ≡ false
  known-secret blocks x below = rw (lt-ltb x shape.secrets below) refl

  -- the publics
  pub known-public : (blocks : List Op) (x : ℕ) → shape.secrets ≤ x → x < shape.secrets + shape.publics → known_of shape blocks x ≡ true
  known-public blocks x late below = rw (le-ltb x shape.secrets late, lt-ltb x (shape.secrets + shape.publics) below) refl

  -- the blocks
  known-block : (blocks : List Op) (k : ℕ) → known_of shape blocks (shape.secrets + shape.publics + k) ≡ public_at blocks k
  known-block blocks k =
      let x : ℕ = shape.secrets + shape.publics + k in
      let late : shape.secrets ≤ x = omega arith in
      let later : shape.secrets + shape.publics ≤ x = omega arith in
      let back : x - (shape.secrets + shape.publics) ≡ k = omega arith in
      rw (le-ltb x shape.secrets late, le-ltb x (shape.secrets + shape.publics) later) (ap (public_at blocks) back)

  -- a shared operand that is there
  pub shared-there : (before ops : List Op) (v : Operand) → IsSharedThere shape before v
      → (value_number shape v < shape.secrets + shape.publics + length before) × (known_of shape (before ++ ops) (value_number shape v) ≡ false)
  shared-there before ops (operand.Secret k) there = (omega (arith, there), known-secret (before ++ ops) k there)
  shared-there before ops (operand.Public k) there = absurd there
  shared-there before ops (operand.Block k) there =
      let found : (k < length before) × (public_at (before ++ ops) k ≡ false) = public_at-before before ops k false there in
      (omega (arith, found.0), known-block (before ++ ops) k ∙ found.1)

  -- a public one
  pub public-there : (before ops : List Op) (v : Operand) → IsPublicThere shape before v
      → (value_number shape v < shape.secrets + shape.publics + length before) × (known_of shape (before ++ ops) (value_number shape v) ≡ true)
  public-there before ops (operand.Secret k) there = absurd there
  public-there before ops (operand.Public k) there =
      (omega (arith, there), known-public (before ++ ops) (shape.secrets + k) (omega arith) (omega (arith, there)))
  public-there before ops (operand.Block k) there =
      let found : (k < length before) × (public_at (before ++ ops) k ≡ true) = public_at-before before ops k true there in
      (omega (arith, found.0), known-block (before ++ ops) k ∙ found.1)

  -- what an operator's gadget asks for
  abbrev pub operator_asks : Op → Type 0
  operator_asks op =
      Asking shape.field shape.maps (shape.order + 1) (length (map (value_number shape) (shared_operands op))) (length (map (value_number shape) (public_operands op)))
      (template (shape.order + 1) product refresh op) (kind op)

  -- it is that of a strong gadget, or of a steady one
  pub asking-of : (op : Op) → IsGiven shape product refresh op → operator_asks op
  asking-of op given =
      let n : ℕ = shape.order + 1 in
      let gadget : Gadget = template n product refresh op in
      let counts : (m p : ℕ) → length (shared_operands op) ≡ m → length (public_operands op) ≡ p
      → Asking shape.field shape.maps n m p gadget (kind op) → operator_asks op =
      λ m p shared publics asking.
      subst (λ (k : ℕ). Asking shape.field shape.maps n (length (map (value_number shape) (shared_operands op))) k gadget (kind op))
      (sym (length-map (public_operands op) (value_number shape) ∙ publics))
      (subst (λ (k : ℕ). Asking shape.field shape.maps n k p gadget (kind op)) (sym (length-map (shared_operands op) (value_number shape) ∙ shared)) asking) in
      elim (strong_or (kind op)) [
        | inl strong ↦
            counts (length (shared_operands op)) 0 refl (ap length (strong-publics op strong))
            (asking-strong shape.field shape.maps n (length (shared_operands op)) 0 gadget (kind op) strong (given strong).strong)
        | inr weak ↦
            counts (length (shared_operands op)) (length (public_operands op)) refl refl
            (asking-weak shape.field shape.maps n (length (shared_operands op)) (length (public_operands op)) gadget (kind op) weak
            (template-steady shape.field shape.maps n product refresh op weak))
      ]

  -- the operator as a block
  abbrev pub block_of : (op : Op) → IsGiven shape product refresh op → Block
  block_of op given = record {
    kind = kind op;
    shared = map (value_number shape) (shared_operands op);
    publics = map (value_number shape) (public_operands op);
    gadget = template (shape.order + 1) product refresh op;
    asks = (asking-of op given).asks;
  }

  -- the blocks
  unfoldable blocks_of : (ops : List Op) → AreGiven shape product refresh ops → List Block
  unfolding AreGiven
  blocks_of [] given = []
  blocks_of (op ∷ ops) given = block_of op given.0 ∷ blocks_of ops given.1

  -- a wired operator behind others is a block that meets what blocks have to meet
  pub block-good : (before : List Op) (op : Op) (ops : List Op) (given : IsGiven shape product refresh op) → IsWired shape before op
      → IsBlock shape.field shape.maps (shape.order + 1) (known_of shape (before ++ op ∷ ops)) (shape.secrets + shape.publics + length before) (block_of op given)
  block-good before op ops given wired =
      let n : ℕ = shape.order + 1 in
      let v : ℕ = shape.secrets + shape.publics + length before in
      let known : ℕ → Bool = known_of shape (before ++ op ∷ ops) in
      let asking : operator_asks op = asking-of op given in
      let behind : FitsBehind shape.field shape.maps (reads_length n op) (bank_length n (is_known (kind op))) (template n product refresh op) =
      template-behind shape product refresh before op wired given in
      let operands : AllByRecursion (IsSharedThere shape before) (shared_operands op) × AllByRecursion (IsPublicThere shape before) (public_operands op) =
      wired-operands shape before op wired in
      let shared : length (map (value_number shape) (shared_operands op)) ≡ length (shared_operands op) = length-map (shared_operands op) (value_number shape) in
      let publics : length (map (value_number shape) (public_operands op)) ≡ length (public_operands op) = length-map (public_operands op) (value_number shape) in
      let places : reads_length n op ≡ n * length (map (value_number shape) (shared_operands op)) + length (map (value_number shape) (public_operands op)) =
      ap (λ (m : ℕ). n * m + length (public_operands op)) (sym shared)
      ∙ ap (λ (p : ℕ). n * length (map (value_number shape) (shared_operands op)) + p) (sym publics) in
      record {
        asking = record { few = asking.few; below = asking.below; even = asking.even };
        own = known-block (before ++ op ∷ ops) (length before) ∙ public_at-next before op ops ∙ public-known op;
        shared = λ x held.
            numbers-there shape (IsSharedThere shape before) (λ y. (y < v) × (known y ≡ false)) (shared_operands op) x (shared-there before (op ∷ ops)) operands.0 held;
        publics = λ x held.
            numbers-there shape (IsPublicThere shape before) (λ y. (y < v) × (known y ≡ true)) (public_operands op) x (public-there before (op ∷ ops)) operands.1 held;
        unshared = λ public. shared ∙ public-unshared op public;
        two = λ strong. omega (arith, shared, strong-two op strong);
        fit = subst (λ (m : ℕ). AllFit shape.field (length shape.maps) m (template n product refresh op).instrs) places behind.fit;
        within = subst (λ (m : ℕ). AllBelow (m + length (template n product refresh op).instrs) (template n product refresh op).outs) places behind.within;
        count = behind.count;
        weak = asking.weak;
        strong = asking.strong;
      }

  -- wired operators are such blocks
  blocks-good : (before ops : List Op) (given : AreGiven shape product refresh ops) → AllWired shape before ops
      → AllBlocks shape.field shape.maps (shape.order + 1) (known_of shape (before ++ ops)) (shape.secrets + shape.publics + length before) (blocks_of ops given)
  unfolding AllBlocks blocks_of AreGiven
  blocks-good before [] given wired = tt
  blocks-good before (op ∷ ops) given wired =
      let v : ℕ = shape.secrets + shape.publics + length before in
      let next : List Op = before ++ op ∷ [] in
      let at : shape.secrets + shape.publics + length next ≡ v + 1 = omega (arith, length-append before (op ∷ [])) in
      let rest : AllBlocks shape.field shape.maps (shape.order + 1) (known_of shape (next ++ ops)) (shape.secrets + shape.publics + length next) (blocks_of ops given.1) =
      blocks-good next ops given.1 wired.1 in (
        block-good before op ops given.0 wired.0,
        subst (λ (m : ℕ). AllBlocks shape.field shape.maps (shape.order + 1) (known_of shape (before ++ op ∷ ops)) m (blocks_of ops given.1)) at
            (subst (λ (all : List Op). AllBlocks shape.field shape.maps (shape.order + 1) (known_of shape all) (shape.secrets + shape.publics + length next) (blocks_of ops given.1))
            (append_assoc before (op ∷ []) ops) rest),
      )

  -- the banks of some operands, one after the other
  flat_map-numbers : (banks : List (List ℕ)) (vs : List Operand)
      → flat_map (λ v. slice_index_or banks (value_number shape v) []) vs ≡ flat_map (bank banks) (map (value_number shape) vs)
  flat_map-numbers banks [] = refl
  flat_map-numbers banks (v ∷ vs) = ap (λ (l : List ℕ). bank banks (value_number shape v) ++ l) (flat_map-numbers banks vs)

  -- a block reads what the operator reads
  pub reads-same : (banks : List (List ℕ)) (op : Op) (given : IsGiven shape product refresh op) → reads shape banks op ≡ block_reads banks (block_of op given)
  reads-same banks op given =
      let at : Operand → List ℕ = λ v. slice_index_or banks (value_number shape v) [] in
      flat_map-append at (shared_operands op) (public_operands op)
      ∙ ap (λ (l : List ℕ). l ++ flat_map at (public_operands op)) (flat_map-numbers banks (shared_operands op))
      ∙ ap (λ (l : List ℕ). flat_map (bank banks) (map (value_number shape) (shared_operands op)) ++ l) (flat_map-numbers banks (public_operands op))

  -- the blocks are laid as the operators are
  laid-same : (banks : List (List ℕ)) (base : ℕ) (ops : List Op) (given : AreGiven shape product refresh ops)
      → laid shape product refresh banks base ops ≡ blocks_laid banks base (blocks_of ops given)
  unfolding laid blocks_laid blocks_of AreGiven
  laid-same banks base [] given = refl
  laid-same banks base (op ∷ ops) given =
      let gadget : Gadget = template (shape.order + 1) product refresh op in
      let next : ℕ = base + length gadget.instrs in
      let b : Block = block_of op given.0 in
      ap (λ (at : List ℕ). placed at base gadget ++ laid shape product refresh (banks ++ placed_outs at base gadget ∷ []) next ops) (reads-same banks op given.0)
      ∙ ap (λ (l : List Instr). block_placed banks base b ++ l) (laid-same (banks_with banks base b) next ops given.1)

  -- paths see the same of them
  links-same : (ops : List Op) (given : AreGiven shape product refresh ops) → links shape ops ≡ map link_of (blocks_of ops given)
  unfolding blocks_of AreGiven
  links-same [] given = refl
  links-same (op ∷ ops) given = ap (λ (l : List Link). link_of (block_of op given.0) ∷ l) (links-same ops given.1)

  -- a strong operator's gadget may stand for it
  pub given-operator : (blocks : List Op) → HaveTemplates shape product refresh blocks → (op : Op) → Contains blocks op → IsGiven shape product refresh op
  given-operator blocks templates (Mul left right) held strong = templates.of_product left right held
  given-operator blocks templates (Refresh arg) held strong = templates.of_refresh arg held
  given-operator blocks templates _ held strong = absurd (cc)

  -- so may those of all
  are-given : (ops : List Op) → ((op : Op) → Contains ops op → IsGiven shape product refresh op) → AreGiven shape product refresh ops
  unfolding AreGiven
  are-given [] given = tt
  are-given (op ∷ ops) given =
      (given op (0, omega arith, refl), are-given ops (λ other held. given other (Contains-append_right (op ∷ []) ops other held)))

-- what the rule accepts is private
pub accepted-private : (code : Listing) (product refresh : Gadget) (cert : Claimed) → AcceptedIsPrivate code product refresh cert
accepted-private code product refresh cert images templates accepts =
    let inputs : ℕ = code.secrets + code.publics in
    let given : AreGiven (shape_of code) product refresh cert.blocks =
    are-given (shape_of code) product refresh cert.blocks (given-operator (shape_of code) product refresh cert.blocks templates) in
    let bs : List Block = blocks_of (shape_of code) product refresh cert.blocks given in
    let known : ℕ → Bool = known_of (shape_of code) cert.blocks in
    let none : inputs + 0 ≡ inputs = omega arith in
    let all : AllBlocks code.field code.maps (code.order + 1) known inputs bs =
    subst (λ (v : ℕ). AllBlocks code.field code.maps (code.order + 1) known v bs) none (blocks-good (shape_of code) product refresh [] cert.blocks given accepts.wired) in
    blocks-private code known bs images
    (record { secrets = known-secret (shape_of code) product refresh cert.blocks; publics = known-public (shape_of code) product refresh cert.blocks })
    (accepts.tiles ∙ laid-same (shape_of code) product refresh (input_banks (shape_of code)) (first_position (shape_of code)) cert.blocks given)
    all
    (undoubled-single inputs (links (shape_of code) cert.blocks) accepts.undoubled code.field code.maps (code.order + 1) known 0 inputs bs (sym none)
    (λ i.
    let e : 0 + i ≡ i = omega arith in
    ap (slice_get (links (shape_of code) cert.blocks)) e ∙ ap (λ (l : List Link). slice_get l i) (links-same (shape_of code) product refresh cert.blocks given))
    all)
