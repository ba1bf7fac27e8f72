-- The template of each operator, placed, gives what the operator stands for over the values of its operands.
use Rattle.std.proofs.Common.{◌≡◌, ℕ, ◌+◌, ◌-◌, ◌<◌, List, [], ◌∷◌, ◌++◌, length, slice_index, slice_index_or, bit_xor, sym, ◌∙◌, ap, refl, subst, arith, append-nil}
use Rattle.std.proofs.lemmas.List.{get_or_push}
use Rattle.mk_field.specs.Field.{size, product, square, image_by}
use Rattle.mk_field.specs.Sharing.{field_sum}
use Rattle.mk_field.proofs.Sum.{sum-zero_right}
use Rattle.mk_code.specs.declared.instr.Instr.{Instr}
use Rattle.mk_code.specs.declared.instr.Instr.TheVariants as instr
use Rattle.mk_code.specs.Trace.{run, entry}
use Rattle.mk_code.specs.Counting.{AllBelow}
use Rattle.mk_code.specs.Private.{observation}
use Rattle.mk_ssa.specs.declared.Operand.{Operand}
use Rattle.mk_ssa.specs.declared.Op.{Op}
use Rattle.mk_ssa.specs.declared.Op.TheVariants.{Const, PubAdd, PubMul, PubSq, PubMap, Lift, Add, AddPub, Scale, Sq, Map, Mul, Refresh}
use Rattle.mk_ssa.specs.Denoted.{value_by}
use Rattle.mk_gadget.specs.Gadget.{Gadget, placed, placed_outs}
use Rattle.mk_gadget.specs.Emitted.{shared_at}
use Rattle.mk_gadget.specs.Template.{built_in}
use Rattle.mk_gadget.proofs.Values.{addition-gives, public_addition-gives, scaling-gives, squaring-gives, mapping-gives, lift-gives}
use Rattle.mk_gadget.proofs.StrongValues.{refresh-gives, product-gives}
use Rattle.mk_rules.specs.Shape.{Shape}
use Rattle.mk_rules.specs.Tiles.{value_number, reads}
use Rattle.mk_rules.specs.Wired.{IsSharedThere, IsPublicThere, IsWired}

-- the operand's bank among these
abbrev pub operand_bank : Shape → List (List ℕ) → Operand → List ℕ
operand_bank shape banks v = slice_index_or banks (value_number shape v) []

-- what the positions of a value have as sum
abbrev pub sum_at : Shape → List (List ℕ) → List ℕ → Operand → ℕ
sum_at shape banks entries v = shared_at (operand_bank shape banks v) entries

-- a bank with one position
one-position : (xs : List ℕ) → length xs ≡ 1 → xs ≡ slice_index xs 0 ∷ []
one-position [] one = absurd (omega (arith, one))
one-position (x ∷ []) one = refl
one-position (x ∷ y ∷ xs) one = absurd (omega (arith, one))

-- has what stands there as sum
one-sum : (xs entries : List ℕ) → length xs ≡ 1 → slice_index entries (slice_index xs 0) ≡ shared_at xs entries
unfolding field_sum
one-sum xs entries one =
    sym (sum-zero_right (slice_index entries (slice_index xs 0))) ∙ ap (λ (ps : List ℕ). shared_at ps entries) (sym (one-position xs one))

-- an instruction behind entries has its value behind them as sum
single-value : (shape : Shape) (base : ℕ) (at : List ℕ) (gadget : Gadget) (i : Instr) (value : ℕ) (tape entries : List ℕ)
    → placed at base gadget ≡ i ∷ [] → placed_outs at base gadget ≡ base ∷ [] → length entries ≡ base
    → ((word : ℕ) → entry shape.field shape.maps i word entries ≡ value)
    → field_sum (observation (placed_outs at base gadget) (run shape.field shape.maps (placed at base gadget) tape entries)) ≡ value
unfolding run field_sum
single-value shape base at gadget i value tape entries here outs len is =
    let word : ℕ = slice_index tape 0 in
    ap (λ (ps : List ℕ). field_sum (observation ps (run shape.field shape.maps (placed at base gadget) tape entries))) outs
    ∙ ap (λ (is : List Instr). field_sum (observation (base ∷ []) (run shape.field shape.maps is tape entries))) here
    ∙ sum-zero_right (slice_index (entries ++ entry shape.field shape.maps i word entries ∷ []) base)
    ∙ get_or_push entries (entry shape.field shape.maps i word entries) 0 base len
    ∙ is word

module _ (shape : Shape) (banks : List (List ℕ)) (base : ℕ) (before : List Op)
    (shared-long : (v : Operand) → IsSharedThere shape before v → length (operand_bank shape banks v) ≡ shape.order + 1)
    (public-long : (v : Operand) → IsPublicThere shape before v → length (operand_bank shape banks v) ≡ 1)
    (shared-below : (v : Operand) → IsSharedThere shape before v → AllBelow base (operand_bank shape banks v))
    (public-below : (v : Operand) → IsPublicThere shape before v → AllBelow base (operand_bank shape banks v)) where
  -- the bank of an operand
  abbrev at_ : Operand → List ℕ
  at_ v = operand_bank shape banks v

  -- the only position of a public one
  abbrev position_ : Operand → ℕ
  position_ v = slice_index (at_ v) 0

  -- what an operator stands for where its operands have the sums at their positions
  abbrev pub GivesRight : Op → Type 0
  GivesRight op =
      (tape entries : List ℕ) → length entries ≡ base → AllBelow (size shape.field) entries
      → field_sum (observation (placed_outs (reads shape banks op) base (built_in (shape.order + 1) op))
      (run shape.field shape.maps (placed (reads shape banks op) base (built_in (shape.order + 1) op)) tape entries))
      ≡ value_by shape.field shape.maps (sum_at shape banks entries) op

  -- the banks of two operands, and of one
  reads-two : (x y : Operand) → at_ x ++ (at_ y ++ []) ≡ at_ x ++ at_ y
  reads-two x y = ap (λ (l : List ℕ). at_ x ++ l) (append-nil (at_ y))

  -- a shared operand and a public one
  reads-public : (x y : Operand) → IsPublicThere shape before y → at_ x ++ (at_ y ++ []) ≡ at_ x ++ position_ y ∷ []
  reads-public x y there = ap (λ (l : List ℕ). at_ x ++ l) (append-nil (at_ y) ∙ one-position (at_ y) (public-long y there))

  -- two public ones
  reads-publics : (x y : Operand) → IsPublicThere shape before x → IsPublicThere shape before y → at_ x ++ (at_ y ++ []) ≡ position_ x ∷ position_ y ∷ []
  reads-publics x y first second =
      ap (λ (l : List ℕ). l ++ (at_ y ++ [])) (one-position (at_ x) (public-long x first))
      ∙ ap (λ (l : List ℕ). position_ x ∷ l) (append-nil (at_ y) ∙ one-position (at_ y) (public-long y second))

  -- one public one
  reads-one : (x : Operand) → IsPublicThere shape before x → at_ x ++ [] ≡ position_ x ∷ []
  reads-one x there = append-nil (at_ x) ∙ one-position (at_ x) (public-long x there)

  -- what stands at the position of a public one
  at-position : (x : Operand) (entries : List ℕ) → IsPublicThere shape before x → slice_index entries (position_ x) ≡ sum_at shape banks entries x
  at-position x entries there = one-sum (at_ x) entries (public-long x there)

  -- the position stands before
  position-below : (x : Operand) → IsPublicThere shape before x → position_ x < base
  unfolding AllBelow
  position-below x there = (subst (AllBelow base) (one-position (at_ x) (public-long x there)) (public-below x there)).0

  -- a gadget read at these positions and not at those
  abbrev GivesAt : List ℕ → Op → (List ℕ → ℕ) → Type 0
  GivesAt from op value =
      (tape entries : List ℕ) → length entries ≡ base → AllBelow (size shape.field) entries
      → field_sum (observation (placed_outs from base (built_in (shape.order + 1) op))
      (run shape.field shape.maps (placed from base (built_in (shape.order + 1) op)) tape entries)) ≡ value entries

  -- one public operator
  single-right : (op : Op) (from : List ℕ) (i : Instr) (value : List ℕ → ℕ)
      → placed from base (built_in (shape.order + 1) op) ≡ i ∷ [] → placed_outs from base (built_in (shape.order + 1) op) ≡ base ∷ []
      → ((word : ℕ) (entries : List ℕ) → entry shape.field shape.maps i word entries ≡ value entries) → GivesAt from op value
  single-right op from i value here outs is tape entries len elements =
      single-value shape base from (built_in (shape.order + 1) op) i (value entries) tape entries here outs len (λ word. is word entries)

  -- the template of a wired operator gives what it stands for
  pub template-right : (op : Op) → IsWired shape before op → GivesRight op
  template-right (Const value) wired =
      let end : base + (0 - 0) ≡ base = omega arith in
      single-right (Const value) [] (instr.Const value) (λ entries. value) refl (ap (λ (p : ℕ). p ∷ []) end) (λ word entries. refl)
  template-right (PubAdd left right) wired =
      let end : base + (2 - 2) ≡ base = omega arith in
      subst (λ (from : List ℕ). GivesAt from (PubAdd left right) (λ entries. bit_xor (sum_at shape banks entries left) (sum_at shape banks entries right)))
      (sym (reads-publics left right wired.0 wired.1))
      (single-right (PubAdd left right) (position_ left ∷ position_ right ∷ []) (instr.Add (position_ left) (position_ right)) _ refl (ap (λ (p : ℕ). p ∷ []) end)
      (λ word entries. ap (λ (a : ℕ). bit_xor a (slice_index entries (position_ right))) (at-position left entries wired.0) ∙ ap (bit_xor (sum_at shape banks entries left)) (at-position right entries wired.1)))
  template-right (PubMul left right) wired =
      let end : base + (2 - 2) ≡ base = omega arith in
      subst (λ (from : List ℕ). GivesAt from (PubMul left right) (λ entries. product shape.field (sum_at shape banks entries left) (sum_at shape banks entries right)))
      (sym (reads-publics left right wired.0 wired.1))
      (single-right (PubMul left right) (position_ left ∷ position_ right ∷ []) (instr.Mul (position_ left) (position_ right)) _ refl (ap (λ (p : ℕ). p ∷ []) end)
      (λ word entries. ap (λ (a : ℕ). product shape.field a (slice_index entries (position_ right))) (at-position left entries wired.0)
      ∙ ap (product shape.field (sum_at shape banks entries left)) (at-position right entries wired.1)))
  template-right (PubSq arg) wired =
      let end : base + (1 - 1) ≡ base = omega arith in
      subst (λ (from : List ℕ). GivesAt from (PubSq arg) (λ entries. square shape.field (sum_at shape banks entries arg))) (sym (reads-one arg wired))
      (single-right (PubSq arg) (position_ arg ∷ []) (instr.Sq (position_ arg)) _ refl (ap (λ (p : ℕ). p ∷ []) end)
      (λ word entries. ap (square shape.field) (at-position arg entries wired)))
  template-right (PubMap k arg) wired =
      let end : base + (1 - 1) ≡ base = omega arith in
      subst (λ (from : List ℕ). GivesAt from (PubMap k arg) (λ entries. image_by shape.maps k (sum_at shape banks entries arg))) (sym (reads-one arg wired.1))
      (single-right (PubMap k arg) (position_ arg ∷ []) (instr.Map k (position_ arg)) _ refl (ap (λ (p : ℕ). p ∷ []) end)
      (λ word entries. ap (image_by shape.maps k) (at-position arg entries wired.1)))
  template-right (Lift arg) wired =
      subst (λ (from : List ℕ). GivesAt from (Lift arg) (λ entries. sum_at shape banks entries arg)) (sym (reads-one arg wired))
      (λ tape entries len elements.
      (lift-gives shape.field shape.maps (shape.order + 1) base (position_ arg) (omega arith) (position-below arg wired) tape entries len elements).sum ∙ at-position arg entries wired)
  template-right (Add left right) wired =
      subst (λ (from : List ℕ). GivesAt from (Add left right) (λ entries. bit_xor (sum_at shape banks entries left) (sum_at shape banks entries right))) (sym (reads-two left right))
      (λ tape entries len elements.
      (addition-gives shape.field shape.maps (shape.order + 1) base (at_ left) (at_ right) (shared-long left wired.0) (shared-long right wired.1)
      (shared-below left wired.0) (shared-below right wired.1) tape entries len elements).sum)
  template-right (AddPub left right) wired =
      subst (λ (from : List ℕ). GivesAt from (AddPub left right) (λ entries. bit_xor (sum_at shape banks entries left) (sum_at shape banks entries right)))
      (sym (reads-public left right wired.1))
      (λ tape entries len elements.
      (public_addition-gives shape.field shape.maps (shape.order + 1) base (at_ left) (position_ right) (omega arith) (shared-long left wired.0)
      (shared-below left wired.0) (position-below right wired.1) tape entries len elements).sum
      ∙ ap (bit_xor (sum_at shape banks entries left)) (at-position right entries wired.1))
  template-right (Scale left right) wired =
      subst (λ (from : List ℕ). GivesAt from (Scale left right) (λ entries. product shape.field (sum_at shape banks entries left) (sum_at shape banks entries right)))
      (sym (reads-public left right wired.1))
      (λ tape entries len elements.
      (scaling-gives shape.field shape.maps (shape.order + 1) base (at_ left) (position_ right) (shared-long left wired.0)
      (shared-below left wired.0) (position-below right wired.1) tape entries len elements).sum
      ∙ ap (product shape.field (sum_at shape banks entries left)) (at-position right entries wired.1))
  template-right (Sq arg) wired =
      subst (λ (from : List ℕ). GivesAt from (Sq arg) (λ entries. square shape.field (sum_at shape banks entries arg))) (sym (append-nil (at_ arg)))
      (λ tape entries len elements.
      (squaring-gives shape.field shape.maps (shape.order + 1) base (at_ arg) (shared-long arg wired) (shared-below arg wired) tape entries len elements).sum)
  template-right (Map k arg) wired =
      subst (λ (from : List ℕ). GivesAt from (Map k arg) (λ entries. image_by shape.maps k (sum_at shape banks entries arg))) (sym (append-nil (at_ arg)))
      (λ tape entries len elements.
      (mapping-gives shape.field shape.maps (shape.order + 1) base k (at_ arg) wired.0 (shared-long arg wired.1) (shared-below arg wired.1) tape entries len elements).sum)
  template-right (Mul left right) wired =
      subst (λ (from : List ℕ). GivesAt from (Mul left right) (λ entries. product shape.field (sum_at shape banks entries left) (sum_at shape banks entries right))) (sym (reads-two left right))
      (λ tape entries len elements.
      (product-gives shape.field shape.maps (shape.order + 1) base (at_ left) (at_ right) (shared-long left wired.0) (shared-long right wired.1)
      (shared-below left wired.0) (shared-below right wired.1) tape entries len elements).sum)
  template-right (Refresh arg) wired =
      subst (λ (from : List ℕ). GivesAt from (Refresh arg) (λ entries. sum_at shape banks entries arg)) (sym (append-nil (at_ arg)))
      (λ tape entries len elements.
      (refresh-gives shape.field shape.maps (shape.order + 1) base (at_ arg) (shared-long arg wired) (shared-below arg wired) tape entries len elements).sum)
