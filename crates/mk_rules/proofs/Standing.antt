-- Blocks laid one after the other behind values with banks: what each of them has to meet, and that the
-- banks behind it are again such.
use Rattle.std.proofs.Common.{◌≡◌, ◌≢◌, ℕ, ◌+◌, ◌*◌, ◌<◌, ◌≤◌, Bool, true, false, List, [], ◌∷◌, ◌++◌, length, map, slice_index_or, sym, ◌∙◌, ap, subst, arith, inl, inr}
use Rattle.std.specs.List.{Contains, flat_map}
use Rattle.std.proofs.lemmas.Bool.{cases_lt}
use Rattle.std.proofs.lemmas.List.{length-append, length-map, get_or_append_left, get_or_push}
use Rattle.mk_field.specs.declared.field.FieldId.{FieldId}
use Rattle.mk_field.specs.declared.map.AddMap.{AddMap}
use Rattle.mk_code.specs.declared.instr.Instr.{Instr}
use Rattle.mk_code.specs.Listing.{AllFit}
use Rattle.mk_code.specs.Counting.{AllBelow}
use Rattle.mk_code.proofs.Totals.{AllBelow-append}
use Rattle.mk_ssa.specs.Kinds.{Kind, Public, Linear, Strong}
use Rattle.mk_gadget.specs.Gadget.{placement, placed, placed_outs}
use Rattle.mk_gadget.specs.Steady.{DependsAt}
use Rattle.mk_gadget.proofs.Placing.{placement-below}
use Rattle.mk_rules.proofs.Blocks.{Block, block_len, only, IsSingle, AsksFew, AllAskFew}
use Rattle.mk_rules.proofs.Views.{flat-long, flat-below}

-- the bank of the value with this number
abbrev pub bank : List (List ℕ) → ℕ → List ℕ
bank banks x = slice_index_or banks x []

-- the places that a block reads
abbrev pub block_reads : List (List ℕ) → Block → List ℕ
block_reads banks b = flat_map (bank banks) b.shared ++ flat_map (bank banks) b.publics

-- the bank of its value
abbrev pub block_outs : List (List ℕ) → ℕ → Block → List ℕ
block_outs banks base b = placed_outs (block_reads banks b) base b.gadget

-- the banks with that of its value
abbrev pub banks_with : List (List ℕ) → ℕ → Block → List (List ℕ)
banks_with banks base b = banks ++ block_outs banks base b ∷ []

-- its instructions there
abbrev pub block_placed : List (List ℕ) → ℕ → Block → List Instr
block_placed banks base b = placed (block_reads banks b) base b.gadget

-- the instructions of blocks one after the other
unfoldable pub blocks_laid : List (List ℕ) → ℕ → List Block → List Instr
blocks_laid banks base [] = []
blocks_laid banks base (b ∷ bs) = block_placed banks base b ++ blocks_laid (banks_with banks base b) (base + block_len b) bs

-- how many places a value has, if it is public or else
abbrev pub bank_length : ℕ → Bool → ℕ
bank_length n true = 1
bank_length n false = n

-- whether blocks of this kind are public
abbrev pub is_known : Kind → Bool
is_known Public = true
is_known Linear = false
is_known Strong = false

-- a block whose value has the number v, `known` telling the public values: its operands stand before it and
-- are of their kind, its gadget fits and has a bank of its kind, and what is seen of it depends on the
-- shares that it asks for, and unless it is strong also on those that are seen of its value
pub record IsBlock (field : FieldId) (maps : List AddMap) (n : ℕ) (known : ℕ → Bool) (v : ℕ) (b : Block) : Type 0 where
  pub asking : AsksFew n b
  pub own : known v ≡ is_known b.kind
  pub shared : (x : ℕ) → Contains b.shared x → (x < v) × (known x ≡ false)
  pub publics : (x : ℕ) → Contains b.publics x → (x < v) × (known x ≡ true)
  pub unshared : b.kind ≡ Public → length b.shared ≡ 0
  pub two : b.kind ≡ Strong → length b.shared ≤ 2
  pub fit : AllFit field (length maps) (n * length b.shared + length b.publics) b.gadget.instrs
  pub within : AllBelow (n * length b.shared + length b.publics + block_len b) b.gadget.outs
  pub count : length b.gadget.outs ≡ bank_length n (is_known b.kind)
  pub weak : b.kind ≢ Strong → (probes outs : List ℕ) → AllBelow (block_len b) probes → AllBelow n outs
      → DependsAt field maps n (length b.shared) (length b.publics) b.gadget probes outs (λ k. b.asks probes outs k ++ outs)
  pub strong : b.kind ≡ Strong → (probes outs : List ℕ) → AllBelow (block_len b) probes → AllBelow n outs → length probes + length outs < n
      → DependsAt field maps n (length b.shared) (length b.publics) b.gadget probes outs (b.asks probes outs)

-- each of the blocks is such, the first with the value number v
unfoldable pub AllBlocks : FieldId → List AddMap → ℕ → (ℕ → Bool) → ℕ → List Block → Type 0
AllBlocks field maps n known v [] = Unit {0}
AllBlocks field maps n known v (b ∷ bs) = IsBlock field maps n known v b × AllBlocks field maps n known (v + 1) bs

-- so each asks for few shares
pub AllBlocks-few : (field : FieldId) (maps : List AddMap) (n : ℕ) (known : ℕ → Bool) (v : ℕ) (bs : List Block)
    → AllBlocks field maps n known v bs → AllAskFew n bs
unfolding AllBlocks AllAskFew
AllBlocks-few field maps n known v [] all = tt
AllBlocks-few field maps n known v (b ∷ bs) all = (all.0.asking, AllBlocks-few field maps n known (v + 1) bs all.1)

-- behind each number of blocks the marks from any one value there are single
unfoldable pub AllSingle : ℕ → List Block → Type 0
AllSingle v [] = Unit {0}
AllSingle v (b ∷ bs) = ((x : ℕ) → x < v → IsSingle (only x) v (b ∷ bs)) × AllSingle (v + 1) bs

-- the banks of the values below v, all of them before the place `base`
pub record AreBanks (n : ℕ) (known : ℕ → Bool) (v base : ℕ) (banks : List (List ℕ)) : Type 0 where
  pub count : length banks ≡ v
  pub long : (x : ℕ) → x < v → length (bank banks x) ≡ bank_length n (known x)
  pub below : (x : ℕ) → x < v → AllBelow base (bank banks x)

-- numbers below some are below more
pub AllBelow-more : (q r : ℕ) (xs : List ℕ) → q ≤ r → AllBelow q xs → AllBelow r xs
unfolding AllBelow
AllBelow-more q r [] more below = tt
AllBelow-more q r (x ∷ xs) more below = (omega (arith, below.0, more), AllBelow-more q r xs more below.1)

-- the bank of an earlier value stays
pub bank-before : (banks : List (List ℕ)) (outs : List ℕ) (x : ℕ) → x < length banks → bank (banks ++ outs ∷ []) x ≡ bank banks x
bank-before banks outs x before = get_or_append_left banks (outs ∷ []) [] x before

-- that of the next one
pub bank-next : (banks : List (List ℕ)) (outs : List ℕ) (x : ℕ) → length banks ≡ x → bank (banks ++ outs ∷ []) x ≡ outs
bank-next banks outs x last = get_or_push banks outs [] x last

module _ (field : FieldId) (maps : List AddMap) (n : ℕ) (known : ℕ → Bool) (v base : ℕ) (banks : List (List ℕ)) (b : Block)
    (banked : AreBanks n known v base banks) (good : IsBlock field maps n known v b) where
  -- the banks of a block's shared operands have n places each
  pub shared-long : (x : ℕ) → Contains b.shared x → length (bank banks x) ≡ n
  shared-long x held =
      let there : (x < v) × (known x ≡ false) = good.shared x held in
      banked.long x there.0 ∙ ap (bank_length n) there.1

  -- those of its public operands have one
  pub publics-long : (x : ℕ) → Contains b.publics x → length (bank banks x) ≡ 1
  publics-long x held =
      let there : (x < v) × (known x ≡ true) = good.publics x held in
      banked.long x there.0 ∙ ap (bank_length n) there.1

  -- how many places of shared operands a block reads
  pub length-shared : length (flat_map (bank banks) b.shared) ≡ n * length b.shared
  length-shared = flat-long (bank banks) n b.shared shared-long

  -- how many of public ones
  pub length-publics : length (flat_map (bank banks) b.publics) ≡ length b.publics
  length-publics = omega (arith, flat-long (bank banks) 1 b.publics publics-long)

  -- how many in all
  pub length-reads : length (block_reads banks b) ≡ n * length b.shared + length b.publics
  length-reads = omega (arith, length-append (flat_map (bank banks) b.shared) (flat_map (bank banks) b.publics), length-shared, length-publics)

  -- it reads what stands before it
  pub reads-below : AllBelow base (block_reads banks b)
  reads-below =
      AllBelow-append base (flat_map (bank banks) b.shared) (flat_map (bank banks) b.publics)
      (flat-below (bank banks) base b.shared (λ x held. banked.below x (good.shared x held).0))
      (flat-below (bank banks) base b.publics (λ x held. banked.below x (good.publics x held).0))

  -- its instructions fit behind what it reads
  pub reads-fit : AllFit field (length maps) (length (block_reads banks b)) b.gadget.instrs
  reads-fit = subst (λ (m : ℕ). AllFit field (length maps) m b.gadget.instrs) (sym length-reads) good.fit

  -- its outs are there
  pub reads-within : AllBelow (length (block_reads banks b) + block_len b) b.gadget.outs
  reads-within = subst (λ (m : ℕ). AllBelow (m + block_len b) b.gadget.outs) (sym length-reads) good.within

  -- as many places as a value of its kind has
  pub length-outs : length (block_outs banks base b) ≡ bank_length n (known v)
  length-outs = length-map b.gadget.outs (placement (block_reads banks b) base) ∙ good.count ∙ ap (bank_length n) (sym good.own)

-- so do those of its out bank
outs-below : (reads : List ℕ) (base len : ℕ) (outs : List ℕ) → AllBelow base reads → AllBelow (length reads + len) outs
    → AllBelow (base + len) (map (placement reads base) outs)
unfolding AllBelow
outs-below reads base len [] below within = tt
outs-below reads base len (q ∷ qs) below within = (placement-below reads base q len below within.0, outs-below reads base len qs below within.1)

-- the banks behind one block more
pub AreBanks-next : (field : FieldId) (maps : List AddMap) (n : ℕ) (known : ℕ → Bool) (v base : ℕ) (banks : List (List ℕ)) (b : Block)
    → AreBanks n known v base banks → IsBlock field maps n known v b → AreBanks n known (v + 1) (base + block_len b) (banks_with banks base b)
AreBanks-next field maps n known v base banks b banked good =
    let outs : List ℕ = block_outs banks base b in
    let after : AllBelow (base + block_len b) outs =
    outs-below (block_reads banks b) base (block_len b) b.gadget.outs (reads-below field maps n known v base banks b banked good)
    (reads-within field maps n known v base banks b banked good) in
    record {
      count = omega (arith, length-append banks (outs ∷ []), banked.count);
      long = λ x below. elim (cases_lt x v) [
        | inl before ↦ ap length (bank-before banks outs x (omega (arith, before, banked.count))) ∙ banked.long x before
        | inr late ↦
            let last : v ≡ x = omega (arith, below, late) in
            ap length (bank-next banks outs x (banked.count ∙ last))
            ∙ length-outs field maps n known v base banks b banked good ∙ ap (λ (y : ℕ). bank_length n (known y)) last
      ];
      below = λ x below. elim (cases_lt x v) [
        | inl before ↦
            subst (AllBelow (base + block_len b)) (sym (bank-before banks outs x (omega (arith, before, banked.count))))
            (AllBelow-more base (base + block_len b) (bank banks x) (omega arith) (banked.below x before))
        | inr late ↦
            let last : v ≡ x = omega (arith, below, late) in
            subst (AllBelow (base + block_len b)) (sym (bank-next banks outs x (banked.count ∙ last))) after
      ];
    }
