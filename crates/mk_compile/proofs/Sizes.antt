-- How many blocks and instructions the blocks of values have, by how many values are constants, lifts and others.
use Rattle.std.proofs.Common.{◌≡◌, ℕ, zero, suc, ◌+◌, ◌*◌, ◌≤◌, Bool, true, false, cond, Some, IsSome, List, [], ◌∷◌, ◌++◌, length, map, slice_get, sum_by, slice_index_or, refl, sym, ◌∙◌, ap, subst, arith, inl, inr}
use Rattle.std.specs.List.{Contains, count_by}
use Rattle.std.proofs.lemmas.Bool.{cases_Bool, cond-true, cond-false, false≢true}
use Rattle.std.proofs.lemmas.List.Sums.{sum_by-append, sum_by-cons}
use Rattle.std.proofs.lemmas.Option.{same_Some}
use Rattle.std.proofs.lemmas.Nat.{mul-le}
use Rattle.std.proofs.Math.Nat.{mul-le-mul_right}
use Rattle.mk_base.specs.declared.TheConstants.{TOP_ORDER}
use Rattle.mk_unroll.specs.declared.TheConstants.{MOST_SIZE}
use Rattle.mk_types.specs.declared.TheConstants.{MOST_WORK, MOST_OPERATIONS}
use Rattle.mk_field.specs.declared.field.FieldId.{FieldId}
use Rattle.mk_field.specs.declared.field.FieldId.TheVariants.{Gf2, Gf256}
use Rattle.mk_field.specs.Field.{size}
use Rattle.mk_ssa.specs.declared.Op.{Op}
use Rattle.mk_ssa.specs.declared.Op.TheVariants.{Const, PubAdd, PubMul, PubSq, PubMap, Lift, Add, AddPub, Scale, Sq, Map, Mul, Refresh}
use Rattle.mk_ssa.specs.declared.Operand.{Operand}
use Rattle.mk_ssa.specs.declared.Operand.TheVariants as operand
use Rattle.mk_ssa.specs.Kinds.{shared_operands}
use Rattle.mk_ssa.specs.Operators.{Operator, operator, with_operands_by}
use Rattle.mk_ssa.specs.Values.{Values}
use Rattle.mk_simplify.specs.Simplified as simplified_
use Rattle.mk_unroll.specs.ValueCounts.{is_made, is_lift, is_constant, made, lifts, constants}
use Rattle.mk_unroll.specs.Meant.{HasFewValues}
use Rattle.mk_gadget.specs.Refresh.{refresh_gadget}
use Rattle.mk_gadget.specs.Template.{built_in}
use Rattle.mk_gadget.proofs.Pairs.{twice-pairs}
use Rattle.mk_gadget.proofs.RefreshRun.{length-refresh}
use Rattle.mk_gadget.proofs.ProductRows.{length-product}
use Rattle.mk_rules.specs.Shape.{Shape}
use Rattle.mk_rules.specs.Tiles.{value_number}
use Rattle.mk_rules.proofs.Using.{IsUse, use-is}
use Rattle.mk_rules.specs.Uses.{Use}
use Rattle.mk_place.specs.Uses.{shape_of_values, uses}
use Rattle.mk_place.specs.Layout.{Marks, one, renamed, refreshed, refresh_at, blocks_of, blocks_from}
use Rattle.mk_place.proofs.Fitting.{AreAtUses, one-few}
use Rattle.mk_compile.specs.Emitting.{blocks_len}
use Rattle.mk_compile.proofs.Banks.{linear-len}

-- an operand is there where its number is
unnumbered : (shape : Shape) (vs : List Operand) (k v : ℕ) → slice_get (map (value_number shape) vs) k ≡ Some v → IsSome (slice_get vs k)
unnumbered shape [] k v there = absurd (cc)
unnumbered shape (w ∷ vs) zero v there = refl
unnumbered shape (w ∷ vs) (suc k) v there = unnumbered shape vs k v there

-- where only uses are marked, each mark is at an operand that there is
pub used-there : (s : Values) (marks : Marks) → ((i k : ℕ) → marks i k ≡ true → (u : Use) × Contains (uses s) u × (u.value ≡ i) × (u.place ≡ k))
    → AreAtUses marks s.values
used-there s marks used i k op there on =
    let mark = used i k on in
    let u : Use = mark.0 in
    let is : IsUse (shape_of_values s) s.values u = use-is (shape_of_values s) s.values u mark.1 in
    let same : is.op ≡ op = same_Some is.op op (sym is.there ∙ ap (slice_get s.values) mark.2 ∙ there) in
    subst (λ (x : Op). IsSome (slice_get (shared_operands x) k)) same
    (subst (λ (j : ℕ). IsSome (slice_get (shared_operands is.op) j)) mark.3
    (unnumbered (shape_of_values s) (shared_operands is.op) u.place u.operand is.operand))

-- what is marked of a value without shared operands is nothing
none-marked : (marks : Marks) (i k : ℕ) (op : Op) → shared_operands op ≡ [] → (marks i k ≡ true → IsSome (slice_get (shared_operands op) k)) → one (marks i k) ≡ 0
none-marked marks i k op none used = elim (cases_Bool (marks i k)) [
  | inl on ↦ absurd (false≢true (subst (λ (vs : List Operand). IsSome (slice_get vs k)) none (used on)))
  | inr off ↦ ap one off
]

-- what values count as, by the three kinds
module _ (c l m : ℕ) where
  -- a value
  abbrev weight : Op → ℕ
  weight op = c * cond (is_constant op) 1 0 + l * cond (is_lift op) 1 0 + m * cond (is_made op) 1 0

  -- all values
  weights : (ops : List Op) → sum_by weight ops ≡ c * constants ops + l * lifts ops + m * made ops
  weights [] = omega arith
  weights (op ∷ ops) =
      omega (
        arith,
        weights ops,
        sum_by-cons weight op ops,
        ap (λ (n : ℕ). c * n) (sum_by-cons (λ x. cond (is_constant x) 1 0) op ops),
        ap (λ (n : ℕ). l * n) (sum_by-cons (λ x. cond (is_lift x) 1 0) op ops),
        ap (λ (n : ℕ). m * n) (sum_by-cons (λ x. cond (is_made x) 1 0) op ops),
      )

  -- what blocks count as, where a refresh counts r, and with so many refreshes each value counts at most its weight
  module _ (f : Op → ℕ) (r : ℕ) (same : (shared : ℕ → Operand → Operand) (public : Operand → Operand) (op : Op) → f (with_operands_by shared public op) ≡ f op)
      (fresh : (v : Operand) → f (Refresh v) ≡ r) (bound : (op : Op) (n : ℕ) → n ≤ 2 → (shared_operands op ≡ [] → n ≡ 0) → f op + n * r ≤ weight op)
      (marks : Marks) where
    -- the refreshes for one use
    refresh-counts : (i k : ℕ) (op : Op) → sum_by f (refresh_at marks i k op) ≡ one (marks i k) * r
    refresh-counts i k op =
        let x : Op = Refresh (renamed marks (slice_index_or (shared_operands op) k (operand.Secret 0))) in
        elim (cases_Bool (marks i k)) [
          | inl on ↦
              ap (sum_by f) (cond-true (marks i k) (x ∷ []) [] on)
              ∙ omega (arith, sum_by-cons f x [], fresh (renamed marks (slice_index_or (shared_operands op) k (operand.Secret 0))))
              ∙ ap (λ (b : Bool). one b * r) (sym on)
          | inr off ↦
              let none : sum_by f [] ≡ one false * r = omega arith in
              ap (sum_by f) (cond-false (marks i k) (x ∷ []) [] off) ∙ none ∙ ap (λ (b : Bool). one b * r) (sym off)
        ]

    -- the blocks of one value
    value-counts : (i : ℕ) (op : Op) → ((k : ℕ) → marks i k ≡ true → IsSome (slice_get (shared_operands op) k)) → sum_by f (blocks_of marks i op) ≤ weight op
    value-counts i op used =
        let own : Op = with_operands_by (refreshed marks i) (renamed marks) op in
        let n : ℕ = one (marks i 0) + one (marks i 1) in
        let few : n ≤ 2 = omega (arith, one-few (marks i 0), one-few (marks i 1)) in
        let none : shared_operands op ≡ [] → n ≡ 0 = λ empty. omega (arith, none-marked marks i 0 op empty (used 0), none-marked marks i 1 op empty (used 1)) in
        omega (
          arith,
          bound op n few none,
          sum_by-append f (refresh_at marks i 0 op ++ refresh_at marks i 1 op) (own ∷ []),
          sum_by-append f (refresh_at marks i 0 op) (refresh_at marks i 1 op),
          refresh-counts i 0 op,
          refresh-counts i 1 op,
          sum_by-cons f own [],
          same (refreshed marks i) (renamed marks) op,
        )

    -- the blocks of values from one on
    from-count : (i : ℕ) (ops : List Op) → ((d k : ℕ) (op : Op) → slice_get ops d ≡ Some op → marks (i + d) k ≡ true → IsSome (slice_get (shared_operands op) k))
        → sum_by f (blocks_from marks i ops) ≤ sum_by weight ops
    unfolding blocks_from
    from-count i [] used = omega arith
    from-count i (op ∷ ops) used =
        let here : i ≡ i + 0 = omega arith in
        let rest : sum_by f (blocks_from marks (suc i) ops) ≤ sum_by weight ops =
        from-count (suc i) ops
        (λ d k x there on.
        let next : suc i + d ≡ i + suc d = omega arith in
        used (suc d) k x there (subst (λ (j : ℕ). marks j k ≡ true) next on)) in
        omega (
          arith,
          rest,
          value-counts i op (λ k on. used 0 k op refl (subst (λ (j : ℕ). marks j k ≡ true) here on)),
          sum_by-append f (blocks_of marks i op) (blocks_from marks (suc i) ops),
          sum_by-cons weight op ops,
        )

    -- the blocks of all values
    blocks-count : (values : List Op) → AreAtUses marks values → sum_by f (blocks_from marks 0 values) ≤ c * constants values + l * lifts values + m * made values
    blocks-count values used =
        omega (
          arith,
          weights values,
          from-count 0 values
              (λ d k op there on.
              let same : 0 + d ≡ d = omega arith in
              used d k op there (subst (λ (j : ℕ). marks j k ≡ true) same on)),
        )

-- a length is a sum of ones
length-ones : (ops : List Op) → length ops ≡ sum_by (λ _. 1) ops
length-ones [] = refl
length-ones (op ∷ ops) = omega (arith, length-ones ops, sum_by-cons (λ (_ : Op). 1) op ops)

-- a value is one block, with a refresh for each of two operands at most
one-block : (op : Op) (n : ℕ) → n ≤ 2 → (shared_operands op ≡ [] → n ≡ 0) → 1 + n * 1 ≤ weight 1 1 3 op
one-block (Const value) n few none = omega (arith, none refl)
one-block (PubAdd left right) n few none = omega (arith, few)
one-block (PubMul left right) n few none = omega (arith, few)
one-block (PubSq arg) n few none = omega (arith, few)
one-block (PubMap k arg) n few none = omega (arith, few)
one-block (Lift arg) n few none = omega (arith, none refl)
one-block (Add left right) n few none = omega (arith, few)
one-block (AddPub left right) n few none = omega (arith, few)
one-block (Scale left right) n few none = omega (arith, few)
one-block (Sq arg) n few none = omega (arith, few)
one-block (Map k arg) n few none = omega (arith, few)
one-block (Mul left right) n few none = omega (arith, few)
one-block (Refresh arg) n few none = omega (arith, few)

-- how many instructions an operator has with n shares
abbrev price : ℕ → Op → ℕ
price n op = length (built_in n op).instrs

-- other operands leave it
price-same : (n : ℕ) (shared : ℕ → Operand → Operand) (public : Operand → Operand) (op : Op) → price n (with_operands_by shared public op) ≡ price n op
price-same n shared public (Const value) = refl
price-same n shared public (PubAdd left right) = refl
price-same n shared public (PubMul left right) = refl
price-same n shared public (PubSq arg) = refl
price-same n shared public (PubMap k arg) = refl
price-same n shared public (Lift arg) = refl
price-same n shared public (Add left right) = refl
price-same n shared public (AddPub left right) = refl
price-same n shared public (Scale left right) = refl
price-same n shared public (Sq arg) = refl
price-same n shared public (Map k arg) = refl
price-same n shared public (Mul left right) = refl
price-same n shared public (Refresh arg) = refl

module _ (n : ℕ) (least : 1 ≤ n) (most : n ≤ TOP_ORDER + 1) where
  -- how many instructions a refresh has
  abbrev fresh_price : ℕ
  fresh_price = length (refresh_gadget n).instrs

  -- there is a square of shares
  square-least : 1 ≤ n * n
  square-least = omega (arith, mul-le 1 1 n n least least)

  -- two refreshes at most and one instruction, or one for each share
  mild-few : (k p : ℕ) → k ≤ 2 → p ≤ n → p + k * fresh_price ≤ 7 * (n * n)
  mild-few k p few short =
      omega (arith, short, square-least, mul-le 1 n n n least (omega arith), mul-le-mul_right fresh_price few, length-refresh n, twice-pairs n n (omega arith))

  -- a value is at most seven squares of instructions, a lift as many as there are shares at most, and a constant one
  few-instrs : (op : Op) (k : ℕ) → k ≤ 2 → (shared_operands op ≡ [] → k ≡ 0) → price n op + k * fresh_price ≤ weight 1 (TOP_ORDER + 1) (7 * (n * n)) op
  few-instrs (Const value) k few none = omega (arith, ap (λ (j : ℕ). j * fresh_price) (none refl))
  few-instrs (PubAdd left right) k few none = omega (arith, mild-few k 1 few least)
  few-instrs (PubMul left right) k few none = omega (arith, mild-few k 1 few least)
  few-instrs (PubSq arg) k few none = omega (arith, mild-few k 1 few least)
  few-instrs (PubMap m arg) k few none = omega (arith, mild-few k 1 few least)
  few-instrs (Lift arg) k few none = omega (arith, ap (λ (j : ℕ). j * fresh_price) (none refl), linear-len n least (Lift arg) refl, most)
  few-instrs (Add left right) k few none = omega (arith, mild-few k n few (omega arith), linear-len n least (Add left right) refl)
  few-instrs (AddPub left right) k few none = omega (arith, mild-few k n few (omega arith), linear-len n least (AddPub left right) refl)
  few-instrs (Scale left right) k few none = omega (arith, mild-few k n few (omega arith), linear-len n least (Scale left right) refl)
  few-instrs (Sq arg) k few none = omega (arith, mild-few k n few (omega arith), linear-len n least (Sq arg) refl)
  few-instrs (Map m arg) k few none = omega (arith, mild-few k n few (omega arith), linear-len n least (Map m arg) refl)
  few-instrs (Mul left right) k few none =
      omega (arith, mul-le-mul_right fresh_price few, length-refresh n, length-product n, twice-pairs n n (omega arith), mul-le 1 n n n least (omega arith))
  few-instrs (Refresh arg) k few none =
      omega (arith, mul-le-mul_right fresh_price few, length-refresh n, twice-pairs n n (omega arith), mul-le 1 n n n least (omega arith))

  -- so many instructions have the blocks
  pub instrs-count : (marks : Marks) (values : List Op) → AreAtUses marks values
      → blocks_len n (blocks_from marks 0 values) ≤ 1 * constants values + (TOP_ORDER + 1) * lifts values + 7 * (n * n) * made values
  instrs-count marks values used =
      blocks-count 1 (TOP_ORDER + 1) (7 * (n * n)) (price n) fresh_price (price-same n) (λ v. refl) few-instrs marks values used

-- and so many blocks there are
pub length-count : (marks : Marks) (values : List Op) → AreAtUses marks values
    → length (blocks_from marks 0 values) ≤ 1 * constants values + 1 * lifts values + 3 * made values
length-count marks values used =
    omega (
      arith,
      length-ones (blocks_from marks 0 values),
      blocks-count 1 1 3 (λ _. 1) 1 (λ shared public op. refl) (λ v. refl) one-block marks values used,
    )

-- whether an operator makes a lift
abbrev lifts_operator : Operator → Bool
lifts_operator (Operator.Const value) = false
lifts_operator Operator.PubAdd = false
lifts_operator Operator.PubMul = false
lifts_operator Operator.PubSq = false
lifts_operator (Operator.PubMap k) = false
lifts_operator Operator.Lift = true
lifts_operator Operator.Add = false
lifts_operator Operator.AddPub = false
lifts_operator Operator.Scale = false
lifts_operator Operator.Sq = false
lifts_operator (Operator.Map k) = false
lifts_operator Operator.Mul = false
lifts_operator Operator.Refresh = false

-- whether it makes neither a constant nor a lift
abbrev makes_operator : Operator → Bool
makes_operator (Operator.Const value) = false
makes_operator Operator.PubAdd = true
makes_operator Operator.PubMul = true
makes_operator Operator.PubSq = true
makes_operator (Operator.PubMap k) = true
makes_operator Operator.Lift = false
makes_operator Operator.Add = true
makes_operator Operator.AddPub = true
makes_operator Operator.Scale = true
makes_operator Operator.Sq = true
makes_operator (Operator.Map k) = true
makes_operator Operator.Mul = true
makes_operator Operator.Refresh = true

-- the tests agree
record Agrees (op : Op) : Type 0 where
  constant : simplified_.is_constant (operator op) ≡ is_constant op
  lift : lifts_operator (operator op) ≡ is_lift op
  made : makes_operator (operator op) ≡ is_made op

-- the tests on operators and on blocks agree for each operator
agrees : (op : Op) → Agrees op
agrees (Const value) = record { constant = refl; lift = refl; made = refl }
agrees (PubAdd left right) = record { constant = refl; lift = refl; made = refl }
agrees (PubMul left right) = record { constant = refl; lift = refl; made = refl }
agrees (PubSq arg) = record { constant = refl; lift = refl; made = refl }
agrees (PubMap k arg) = record { constant = refl; lift = refl; made = refl }
agrees (Lift arg) = record { constant = refl; lift = refl; made = refl }
agrees (Add left right) = record { constant = refl; lift = refl; made = refl }
agrees (AddPub left right) = record { constant = refl; lift = refl; made = refl }
agrees (Scale left right) = record { constant = refl; lift = refl; made = refl }
agrees (Sq arg) = record { constant = refl; lift = refl; made = refl }
agrees (Map k arg) = record { constant = refl; lift = refl; made = refl }
agrees (Mul left right) = record { constant = refl; lift = refl; made = refl }
agrees (Refresh arg) = record { constant = refl; lift = refl; made = refl }

-- tests that agree count the same
count-same : (p q : Op → Bool) → ((op : Op) → p op ≡ q op) → (ops : List Op) → count_by p ops ≡ count_by q ops
count-same p q same [] = refl
count-same p q same (op ∷ ops) =
    omega (
      arith,
      count-same p q same ops,
      sum_by-cons (λ x. cond (p x) 1 0) op ops,
      sum_by-cons (λ x. cond (q x) 1 0) op ops,
      ap {B = ℕ} (λ (b : Bool). cond b 1 0) (same op),
    )

-- a field has at most 256 elements
size-few : (field : FieldId) → size field ≤ 256
size-few Gf2 = omega arith
size-few Gf256 = omega arith

-- how many simplified values there are of each kind, where the values before are few
pub record AreFew (values : List Op) (n : ℕ) : Type 0 where
  pub few_constants : constants values ≤ 256
  pub few_lifts : lifts values ≤ MOST_WORK + 1
  pub few_made : made values ≤ MOST_OPERATIONS
  pub few_size : made values * (n * n) ≤ MOST_SIZE

-- where simplifying adds no value of any kind and leaves few constants, values that were few stay few
pub simplified-few : (s r : Values) (order : ℕ) → HasFewValues s order
    → ((p : Operator → Bool) → simplified_.count_operators p r ≤ simplified_.count_operators p s)
    → simplified_.count_operators simplified_.is_constant r ≤ size r.field → AreFew r.values (order + 1)
simplified-few s r order few operators constant =
    let lifted : lifts r.values ≤ lifts s.values =
    omega (
      arith,
      operators lifts_operator,
      count-same (λ x. lifts_operator (operator x)) is_lift (λ op. (agrees op).lift) r.values,
      count-same (λ x. lifts_operator (operator x)) is_lift (λ op. (agrees op).lift) s.values,
    ) in
    let less : made r.values ≤ made s.values =
    omega (
      arith,
      operators makes_operator,
      count-same (λ x. makes_operator (operator x)) is_made (λ op. (agrees op).made) r.values,
      count-same (λ x. makes_operator (operator x)) is_made (λ op. (agrees op).made) s.values,
    ) in
    record {
      few_constants =
          omega (
            arith,
            constant,
            size-few r.field,
            count-same (λ x. simplified_.is_constant (operator x)) is_constant (λ op. (agrees op).constant) r.values,
          );
      few_lifts = omega (arith, lifted, few.lifted);
      few_made = omega (arith, less, few.operators);
      few_size = omega (arith, mul-le-mul_right ((order + 1) * (order + 1)) less, few.size);
    }

-- the blocks of few values are few
pub few-blocks : (marks : Marks) (values : List Op) (n : ℕ) → AreFew values n → AreAtUses marks values → length (blocks_from marks 0 values) ≤ 131072
few-blocks marks values n few used = omega (arith, length-count marks values used, few.few_constants, few.few_lifts, few.few_made)

-- and have few instructions
pub few-blocks_len : (marks : Marks) (values : List Op) (n : ℕ) → 1 ≤ n → n ≤ TOP_ORDER + 1 → AreFew values n → AreAtUses marks values
    → blocks_len n (blocks_from marks 0 values) ≤ 8388608
few-blocks_len marks values n least most few used =
    omega (arith, instrs-count n least most marks values used, few.few_constants, few.few_lifts, few.few_size)
