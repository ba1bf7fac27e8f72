-- In a run of code that is made of wired blocks the positions of each value have as sum what the value stands for.
use Rattle.std.proofs.Common.{◌≡◌, ℕ, ◌+◌, ◌*◌, ◌<◌, Bool, true, false, List, [], ◌∷◌, ◌++◌, length, drop, slice_get, Some, IsSomeAnd, ◌⊎◌, sym, ◌∙◌, ap, refl, subst, arith, append_assoc, append-nil, inl, inr}
use Rattle.std.proofs.lemmas.List.{length-append, length-map, get_or_append_left, get_or_push}
use Rattle.mk_field.specs.Field.{size}
use Rattle.mk_field.specs.Sharing.{field_sum}
use Rattle.mk_code.specs.declared.instr.Instr.{Instr}
use Rattle.mk_code.specs.Listing.{AreElementMaps}
use Rattle.mk_code.specs.Trace.{run, randoms}
use Rattle.mk_code.specs.Counting.{AllBelow, Elements}
use Rattle.mk_code.proofs.Totals.{AllBelow-drop}
use Rattle.mk_code.proofs.Runs.{run-append, take-run}
use Rattle.mk_ssa.specs.declared.Operand.{Operand}
use Rattle.mk_ssa.specs.declared.Operand.TheVariants as operand
use Rattle.mk_ssa.specs.declared.Op.{Op}
use Rattle.mk_ssa.specs.declared.Op.TheVariants.{Const, PubAdd, PubMul, PubSq, PubMap, Lift, Add, AddPub, Scale, Sq, Map, Mul, Refresh}
use Rattle.mk_ssa.specs.Kinds.{is_public}
use Rattle.mk_ssa.proofs.Lists.{IsSomeAnd-value, IsSomeAnd-from, slice_get-cases}
use Rattle.mk_ssa.specs.Denoted.{value_by, value_of, operand_value, in_order}
use Rattle.mk_gadget.specs.Gadget.{Gadget, placed, placed_outs}
use Rattle.mk_gadget.specs.Emitted.{shared_at}
use Rattle.mk_gadget.specs.Product.{product_gadget}
use Rattle.mk_gadget.specs.Refresh.{refresh_gadget}
use Rattle.mk_gadget.specs.Template.{built_in}
use Rattle.mk_rules.specs.Shape.{Shape}
use Rattle.mk_rules.specs.Tiles.{value_number, reads, laid, laid_banks}
use Rattle.mk_rules.specs.Wired.{IsSharedThere, IsPublicThere, IsWired, AllWired}
use Rattle.mk_rules.proofs.Values.{placed-elements}
use Rattle.mk_rules.proofs.Standing.{bank, bank_length, IsBlock, AreBanks, AreBanks-next, bank-before, bank-next}
use Rattle.mk_rules.proofs.Blocks.{Block}
use Rattle.mk_rules.proofs.Accepted.{known_of, block_of, block-good, reads-same, shared-there, public-there}
use Rattle.mk_rules.proofs.BuiltIn.{built_in-given}
use Rattle.mk_compile.proofs.Gives.{sum_at, template-right}
use Rattle.mk_compile.proofs.Sharings.{observation-stays}

-- what holds of a block behind one more holds of one before, or the block is the last
block-cases : (before : List Op) (op : Op) (k : ℕ) (P : Op → Type 0) → IsSomeAnd (slice_get (before ++ op ∷ []) k) P
    → IsSomeAnd (slice_get before k) P ⊎ (k ≡ length before)
block-cases before op k P there =
    let found : (o : Op) × (slice_get (before ++ op ∷ []) k ≡ Some o) × P o = IsSomeAnd-value (slice_get (before ++ op ∷ []) k) P there in
    elim (slice_get-cases before op k found.0 found.1) [
      | inl old ↦ inl (IsSomeAnd-from (slice_get before k) P found.0 old.1 found.2)
      | inr last ↦ inr last.0
    ]

module _ (shape : Shape) where
  -- the product that emitters append
  abbrev product_of : Gadget
  product_of = product_gadget (shape.order + 1)

  -- the refresh
  abbrev refresh_of : Gadget
  refresh_of = refresh_gadget (shape.order + 1)

  -- how many inputs there are
  abbrev inputs : ℕ
  inputs = shape.secrets + shape.publics

  -- an operator as a block
  abbrev block : Op → Block
  block op = block_of shape product_of refresh_of op (built_in-given shape op)

  -- a wired one is good
  good : (before : List Op) (op : Op) (ops : List Op) → IsWired shape before op
      → IsBlock shape.field shape.maps (shape.order + 1) (known_of shape (before ++ op ∷ ops)) (inputs + length before) (block op)
  good before op ops wired = block-good shape product_of refresh_of before op ops (built_in-given shape op) wired

  -- banks behind one operator more
  banks-more : (before : List Op) (op : Op) (ops : List Op) (base : ℕ) (banks : List (List ℕ)) → IsWired shape before op
      → AreBanks (shape.order + 1) (known_of shape (before ++ op ∷ ops)) (inputs + length before) base banks
      → AreBanks (shape.order + 1) (known_of shape ((before ++ op ∷ []) ++ ops)) (inputs + length (before ++ op ∷ [])) (base + length (built_in (shape.order + 1) op).instrs)
      (banks ++ placed_outs (reads shape banks op) base (built_in (shape.order + 1) op) ∷ [])
  banks-more before op ops base banks wired banked =
      let n : ℕ = shape.order + 1 in
      let at : inputs + length before + 1 ≡ inputs + length (before ++ op ∷ []) = omega (arith, length-append before (op ∷ [])) in
      let next = AreBanks-next shape.field shape.maps n (known_of shape (before ++ op ∷ ops)) (inputs + length before) base banks (block op) banked (good before op ops wired) in
      subst (λ (all : List Op). AreBanks n (known_of shape all) (inputs + length (before ++ op ∷ [])) (base + length (built_in n op).instrs) (banks ++ placed_outs (reads shape banks op) base (built_in n op) ∷ []))
      (sym (append_assoc before (op ∷ []) ops))
      (subst (λ (v : ℕ). AreBanks n (known_of shape (before ++ op ∷ ops)) v (base + length (built_in n op).instrs) (banks ++ placed_outs (reads shape banks op) base (built_in n op) ∷ [])) at
      (subst (λ (from : List ℕ). AreBanks n (known_of shape (before ++ op ∷ ops)) (inputs + length before + 1) (base + length (built_in n op).instrs) (banks ++ placed_outs from base (built_in n op) ∷ []))
      (sym (reads-same shape product_of refresh_of banks op (built_in-given shape op))) next))

  -- behind all operators
  pub banks-all : (before ops : List Op) (base : ℕ) (banks : List (List ℕ)) → AllWired shape before ops
      → AreBanks (shape.order + 1) (known_of shape (before ++ ops)) (inputs + length before) base banks
      → AreBanks (shape.order + 1) (known_of shape (before ++ ops)) (inputs + length (before ++ ops)) (base + length (laid shape product_of refresh_of banks base ops))
      (laid_banks shape product_of refresh_of banks base ops)
  unfolding laid laid_banks
  banks-all before [] base banks wired banked =
      let none : List Op = [] in
      let whole : inputs + length before ≡ inputs + length (before ++ []) = omega (arith, length-append before none) in
      let end : base ≡ base + 0 = omega arith in
      subst (λ (b : ℕ). AreBanks (shape.order + 1) (known_of shape (before ++ [])) (inputs + length (before ++ [])) b banks) end
      (subst (λ (v : ℕ). AreBanks (shape.order + 1) (known_of shape (before ++ [])) v base banks) whole banked)
  banks-all before (op ∷ ops) base banks wired banked =
      let n : ℕ = shape.order + 1 in
      let gadget : Gadget = built_in n op in
      let at : List ℕ = reads shape banks op in
      let next : List (List ℕ) = banks ++ placed_outs at base gadget ∷ [] in
      let rest : List Instr = laid shape product_of refresh_of next (base + length gadget.instrs) ops in
      let end : base + length gadget.instrs + length rest ≡ base + length (placed at base gadget ++ rest) =
      omega (arith, length-append (placed at base gadget) rest, (run_laws-placed gadget at base)) in
      subst (λ (b : ℕ). AreBanks n (known_of shape (before ++ op ∷ ops)) (inputs + length (before ++ op ∷ ops)) b (laid_banks shape product_of refresh_of next (base + length gadget.instrs) ops)) end
      (subst (λ (all : List Op). AreBanks n (known_of shape all) (inputs + length all) (base + length gadget.instrs + length rest) (laid_banks shape product_of refresh_of next (base + length gadget.instrs) ops))
      (append_assoc before (op ∷ []) ops)
      (banks-all (before ++ op ∷ []) ops (base + length gadget.instrs) next wired.1 (banks-more before op ops base banks wired.0 banked)))
    where
      run_laws-placed : (gadget : Gadget) (at : List ℕ) (base : ℕ) → length (placed at base gadget) ≡ length gadget.instrs
      run_laws-placed gadget at base = length-map gadget.instrs _

  -- an operand that is there, shared or public
  abbrev pub IsThere : List Op → Operand → Type 0
  IsThere blocks v = IsSharedThere shape blocks v ⊎ IsPublicThere shape blocks v

  -- the sums at the positions of the values that are there are what they stand for
  abbrev pub AreRight : List Op → List (List ℕ) → List ℕ → List ℕ → List ℕ → List ℕ → Type 0
  AreRight blocks banks entries publics secrets values =
      (v : Operand) → IsThere blocks v → sum_at shape banks entries v ≡ operand_value publics secrets values v

  -- operators stand for the same where their operands do
  pub value_by-same : (before : List Op) (of to : Operand → ℕ) (op : Op) → ((v : Operand) → IsThere before v → of v ≡ to v) → IsWired shape before op
      → value_by shape.field shape.maps of op ≡ value_by shape.field shape.maps to op
  value_by-same before of to (Const value) same wired = refl
  value_by-same before of to (PubAdd left right) same wired = rw (same left (inr wired.0), same right (inr wired.1)) refl
  value_by-same before of to (PubMul left right) same wired = rw (same left (inr wired.0), same right (inr wired.1)) refl
  value_by-same before of to (PubSq arg) same wired = rw (same arg (inr wired)) refl
  value_by-same before of to (PubMap k arg) same wired = rw (same arg (inr wired.1)) refl
  value_by-same before of to (Lift arg) same wired = same arg (inr wired)
  value_by-same before of to (Add left right) same wired = rw (same left (inl wired.0), same right (inl wired.1)) refl
  value_by-same before of to (AddPub left right) same wired = rw (same left (inl wired.0), same right (inr wired.1)) refl
  value_by-same before of to (Scale left right) same wired = rw (same left (inl wired.0), same right (inr wired.1)) refl
  value_by-same before of to (Sq arg) same wired = rw (same arg (inl wired)) refl
  value_by-same before of to (Map k arg) same wired = rw (same arg (inl wired.1)) refl
  value_by-same before of to (Mul left right) same wired = rw (same left (inl wired.0), same right (inl wired.1)) refl
  value_by-same before of to (Refresh arg) same wired = same arg (inl wired)

  -- a value that is there behind one operator more was there, or is the operator's
  there-cases : (before : List Op) (op : Op) (v : Operand) → IsThere (before ++ op ∷ []) v → IsThere before v ⊎ (v ≡ operand.Block (length before))
  there-cases before op (operand.Secret k) (inl there) = inl (inl there)
  there-cases before op (operand.Secret k) (inr there) = absurd there
  there-cases before op (operand.Public k) (inl there) = absurd there
  there-cases before op (operand.Public k) (inr there) = inl (inr there)
  there-cases before op (operand.Block k) (inl there) =
      elim (block-cases before op k (λ o. is_public o ≡ false) there) [ inl old ↦ inl (inl old) | inr last ↦ inr (ap operand.Block last) ]
  there-cases before op (operand.Block k) (inr there) =
      elim (block-cases before op k (λ o. is_public o ≡ true) there) [ inl old ↦ inl (inr old) | inr last ↦ inr (ap operand.Block last) ]

  -- the number of a value that is there
  number-below : (before ops : List Op) (v : Operand) → IsThere before v → value_number shape v < inputs + length before
  number-below before ops v (inl there) = (shared-there shape product_of refresh_of before ops v there).0
  number-below before ops v (inr there) = (public-there shape product_of refresh_of before ops v there).0

  -- it stands for the same behind one value more
  operand-stays : (before : List Op) (publics secrets values : List ℕ) (x : ℕ) (v : Operand) → length values ≡ length before → IsThere before v
      → operand_value publics secrets (values ++ x ∷ []) v ≡ operand_value publics secrets values v
  operand-stays before publics secrets values x (operand.Secret k) long there = refl
  operand-stays before publics secrets values x (operand.Public k) long there = refl
  operand-stays before publics secrets values x (operand.Block k) long there =
      let below : value_number shape (operand.Block k) < inputs + length before = number-below before [] (operand.Block k) there in
      get_or_append_left values (x ∷ []) 0 k (omega (arith, below, long))

  module _ (publics secrets : List ℕ) (images : AreElementMaps shape.field shape.maps) where
    -- what an operator stands for
    abbrev next_value : List ℕ → Op → ℕ
    next_value values op = value_of shape.field shape.maps publics secrets values op

    -- one operator more
    right-more : (before : List Op) (op : Op) (ops : List Op) (base : ℕ) (banks : List (List ℕ)) (tape entries values : List ℕ) → IsWired shape before op
        → AreBanks (shape.order + 1) (known_of shape (before ++ op ∷ ops)) (inputs + length before) base banks
        → Elements (size shape.field) base entries → length values ≡ length before → AreRight before banks entries publics secrets values
        → AreRight (before ++ op ∷ []) (banks ++ placed_outs (reads shape banks op) base (built_in (shape.order + 1) op) ∷ [])
        (run shape.field shape.maps (placed (reads shape banks op) base (built_in (shape.order + 1) op)) tape entries)
        publics secrets (values ++ next_value values op ∷ [])
    right-more before op ops base banks tape entries values wired banked elements long right v there =
        let n : ℕ = shape.order + 1 in
        let outs : List ℕ = placed_outs (reads shape banks op) base (built_in n op) in
        let is : List Instr = placed (reads shape banks op) base (built_in n op) in
        let after : List ℕ = run shape.field shape.maps is tape entries in
        let x : ℕ = next_value values op in
        let known : ℕ → Bool = known_of shape (before ++ op ∷ ops) in
        elim (there-cases before op v there) [
          | inl old ↦
              let number : ℕ = value_number shape v in
              let below : number < inputs + length before = number-below before (op ∷ ops) v old in
              ap (λ (positions : List ℕ). shared_at positions after) (bank-before banks outs number (omega (arith, below, banked.count)))
              ∙ ap field_sum (observation-stays entries after (bank banks number) (take-run shape.field shape.maps is tape entries)
              (subst (λ (b : ℕ). AllBelow b (bank banks number)) (sym elements.count) (banked.below number below)))
              ∙ right v old
              ∙ sym (operand-stays before publics secrets values x v long old)
          | inr last ↦
              let shared : (w : Operand) → IsSharedThere shape before w → (value_number shape w < inputs + length before) × (known (value_number shape w) ≡ false) =
              shared-there shape product_of refresh_of before (op ∷ ops) in
              let public : (w : Operand) → IsPublicThere shape before w → (value_number shape w < inputs + length before) × (known (value_number shape w) ≡ true) =
              public-there shape product_of refresh_of before (op ∷ ops) in
              subst (λ (w : Operand). sum_at shape (banks ++ outs ∷ []) after w ≡ operand_value publics secrets (values ++ x ∷ []) w) (sym last)
              (ap (λ (positions : List ℕ). shared_at positions after) (bank-next banks outs (inputs + length before) banked.count)
              ∙ template-right shape banks base before
              (λ w here. banked.long (value_number shape w) (shared w here).0 ∙ ap (bank_length n) (shared w here).1)
              (λ w here. banked.long (value_number shape w) (public w here).0 ∙ ap (bank_length n) (public w here).1)
              (λ w here. banked.below (value_number shape w) (shared w here).0)
              (λ w here. banked.below (value_number shape w) (public w here).0)
              op wired tape entries elements.count elements.below
              ∙ value_by-same before (sum_at shape banks entries) (operand_value publics secrets values) op right wired
              ∙ sym (get_or_push values x 0 (length before) long))
        ]

    -- all operators
    pub right-all : (before ops : List Op) (base : ℕ) (banks : List (List ℕ)) (tape entries values : List ℕ) → AllWired shape before ops
        → AreBanks (shape.order + 1) (known_of shape (before ++ ops)) (inputs + length before) base banks
        → Elements (size shape.field) base entries → AllBelow (size shape.field) tape → length values ≡ length before → AreRight before banks entries publics secrets values
        → AreRight (before ++ ops) (laid_banks shape product_of refresh_of banks base ops)
        (run shape.field shape.maps (laid shape product_of refresh_of banks base ops) tape entries) publics secrets (in_order next_value values ops)
    unfolding laid laid_banks run in_order
    right-all before [] base banks tape entries values wired banked elements random long right =
        subst (λ (all : List Op). AreRight all banks entries publics secrets values) (sym (append-nil before)) right
    right-all before (op ∷ ops) base banks tape entries values wired banked elements random long right =
        let n : ℕ = shape.order + 1 in
        let gadget : Gadget = built_in n op in
        let at : List ℕ = reads shape banks op in
        let outs : List ℕ = placed_outs at base gadget in
        let is : List Instr = placed at base gadget in
        let after : List ℕ = run shape.field shape.maps is tape entries in
        let x : ℕ = next_value values op in
        let rest : List Instr = laid shape product_of refresh_of (banks ++ outs ∷ []) (base + length gadget.instrs) ops in
        let b : IsBlock shape.field shape.maps n (known_of shape (before ++ op ∷ ops)) (inputs + length before) (block op) = good before op ops wired.0 in
        let more : Elements (size shape.field) (base + length gadget.instrs) after =
        placed-elements shape.field shape.maps (length shape.maps) (n * length (block op).shared + length (block op).publics) base at gadget tape entries images b.fit random elements
        (length-map gadget.instrs _) in
        subst (λ (all : List ℕ). AreRight (before ++ op ∷ ops) (laid_banks shape product_of refresh_of (banks ++ outs ∷ []) (base + length gadget.instrs) ops) all publics secrets (in_order next_value (values ++ x ∷ []) ops))
        (sym (run-append shape.field shape.maps is rest tape entries))
        (subst (λ (all : List Op). AreRight all (laid_banks shape product_of refresh_of (banks ++ outs ∷ []) (base + length gadget.instrs) ops)
        (run shape.field shape.maps rest (drop (randoms is) tape) after) publics secrets (in_order next_value (values ++ x ∷ []) ops)) (append_assoc before (op ∷ []) ops)
        (right-all (before ++ op ∷ []) ops (base + length gadget.instrs) (banks ++ outs ∷ []) (drop (randoms is) tape) after (values ++ x ∷ []) wired.1
        (banks-more before op ops base banks wired.0 banked) more (AllBelow-drop (size shape.field) (randoms is) tape random)
        (omega (arith, length-append values (x ∷ []), length-append before (op ∷ []), long))
        (right-more before op ops base banks tape entries values wired.0 banked elements long right)))
