-- Marks that are passed back from block to block say which places of products each value reaches.
use Rattle.std.proofs.Common.{◌≡◌, ℕ, zero, suc, ◌+◌, ◌-◌, ◌*◌, ◌/◌, ◌%◌, ◌^◌, ◌<◌, ◌≤◌, Option, Some, None, IsSomeAnd, IfSome, unwrap_or, List, [], ◌∷◌, length, map, slice_get, slice_index, slice_index_or, slice_set, bit_or, ◌⊎◌, inl, inr, ◌↔◌, refl, sym, ◌∙◌, ap, subst, arith}
use Rattle.std.specs.Int.{bit_at}
use Rattle.std.specs.List.{Contains}
use Rattle.std.proofs.lemmas.Bool.{cases_eq, cases_lt}
use Rattle.std.proofs.lemmas.List.{length-map, get_or-set_same, get_or-set_other}
use Rattle.std.proofs.lemmas.Nat.Bits.{bit_at-zero}
use Rattle.std.proofs.lemmas.Option.{same_Some, slice_get_within, slice_get-get_or}
use Rattle.mk_ssa.specs.declared.Op.{Op}
use Rattle.mk_ssa.specs.declared.Op.TheVariants.{Const, Mul, Refresh}
use Rattle.mk_ssa.specs.declared.Operand.{Operand}
use Rattle.mk_ssa.specs.Kinds.{Linear, Strong, kind, shared_operands}
use Rattle.mk_ssa.specs.Operators.{Operator, operator}
use Rattle.mk_ssa.proofs.Lists.{IsSomeAnd-value}
use Rattle.mk_rules.specs.Shape.{Shape}
use Rattle.mk_rules.specs.Tiles.{value_number}
use Rattle.mk_rules.specs.Uses.{shared_numbers}
use Rattle.mk_rules.specs.Products.{one_product, products_before}
use Rattle.mk_rules.specs.Wired.{IsSharedThere, Wired}
use Rattle.mk_rules.specs.Reaches.{Link, IsPath, Reaches, Undoubled, links}
use Rattle.mk_rules.specs.Faults.{IsDoubled, FirstDoubled}
use Rattle.mk_rules.proofs.Counting.{product-strong, products-next, products-up, products-more, products-once}
use Rattle.mk_rules.proofs.Doubled.{links-at, links-from, number-there, HasValue, wired-ordered, reaches-there}
use Rattle.mk_rules.proofs.RowBits.{or-set, set-or, one-bit}
use Rattle.mk_rules.proofs.Views.{Contains-at}
use Rattle.mk_check.specs.declared.doubled.Batch.{Batch}
use Rattle.mk_check.specs.Passing.{IsBatch, IsNumbered, ReachesFrom, HasMark, HasBoth, AreMarks, IsBrought, Brings, IsPassedOn}

-- ---- words

-- a word that has more bits
pub brought-more : (marks : List ℕ) (n word : ℕ) → n < length marks → (v j : ℕ)
    → HasMark (slice_set marks n (bit_or (slice_index marks n) word)) v j ↔ (HasMark marks v j ⊎ ((Some n ≡ Some v) × (bit_at word j ≡ 1)))
brought-more marks n word within v j = elim (cases_eq v n) [
  | inl same ↦
      let here : slice_index (slice_set marks n (bit_or (slice_index marks n) word)) v ≡ bit_or (slice_index marks v) word =
      ap (slice_index (slice_set marks n (bit_or (slice_index marks n) word))) same
      ∙ get_or-set_same marks n (bit_or (slice_index marks n) word) 0 within
      ∙ ap (λ (i : ℕ). bit_or (slice_index marks i) word) (sym same) in (
        λ set. elim (or-set (slice_index marks v) word j (ap (λ (w : ℕ). bit_at w j) (sym here) ∙ set)) [
          | inl had ↦ inl had
          | inr new ↦ inr (ap (λ (i : ℕ). Some i) (sym same), new)
        ],
        λ set. ap (λ (w : ℕ). bit_at w j) here ∙ set-or (slice_index marks v) word j (elim set [ inl had ↦ inl had | inr new ↦ inr new.1 ]),
      )
  | inr other ↦
      let here : slice_index (slice_set marks n (bit_or (slice_index marks n) word)) v ≡ slice_index marks v =
      get_or-set_other marks n v (bit_or (slice_index marks n) word) 0 other in (
        λ set. inl (ap (λ (w : ℕ). bit_at w j) (sym here) ∙ set),
        λ set. elim set [
          | inl had ↦ ap (λ (w : ℕ). bit_at w j) here ∙ had
          | inr new ↦ absurd (other (sym (same_Some n v new.0)))
        ],
      )
]

-- a block is a product, or it doesn't count
product-or : (op : Op) → (operator op ≡ Operator.Mul) ⊎ (one_product op ≡ 0)
product-or (Mul left right) = inl refl
product-or _ = inr refl

-- a block counts for the blocks behind it if it is a product
pub counted-next : (blocks : List Op) (b : ℕ) → b < length blocks
    → products_before blocks (b + 1) ≡ one_product (slice_index_or blocks b (Const 0)) + products_before blocks b
counted-next blocks b within =
    let up : b + 1 ≡ suc b = omega arith in
    ap (products_before blocks) up ∙ products-next blocks b (slice_index_or blocks b (Const 0)) (slice_get-get_or blocks b (Const 0) within)

-- a strong block isn't linear
strong-not : (op : Op) → kind op ≡ Strong → kind op ≡ Linear → ⊥
strong-not op strong linear = cc (sym strong ∙ linear)

-- ---- operators

-- only a product has two places, and a block with one place at most has place 0 alone
pub places-few : (shape : Shape) (op : Op) (c v : ℕ) → slice_get (shared_numbers shape op) c ≡ Some v → c < 2
places-few shape op c v at = few (shared_operands op) c (short op) at
  where
    short : (x : Op) → length (shared_operands x) ≤ 2
    short (Const value) = omega arith
    short _ = omega arith

    few : (vs : List Operand) (k : ℕ) → length vs ≤ 2 → slice_get (map (value_number shape) vs) k ≡ Some v → k < 2
    few [] k le there = absurd (cc (there))
    few (x ∷ xs) zero le there = omega arith
    few (x ∷ xs) (suc zero) le there = omega arith
    few (x ∷ y ∷ ys) (suc (suc k)) le there = absurd (omega (arith, le, slice_get_within (map (value_number shape) ys) k v there, length-map ys (value_number shape)))
    few (x ∷ []) (suc (suc k)) le there = absurd (cc (there))

-- a strong block with a second place is a product
pub two-places : (shape : Shape) (op : Op) (x : ℕ) → kind op ≡ Strong → slice_get (shared_numbers shape op) 1 ≡ Some x → operator op ≡ Operator.Mul
two-places shape (Mul left right) x strong at = refl
two-places shape (Refresh arg) x strong at = absurd (cc (at))
two-places shape _ x strong at = absurd (cc (strong))

-- a product that brings each of its places has passed them on
pub passed-product : (shape : Shape) (op : Op) (own p : ℕ) (marks between after : List ℕ) → p < 32 → operator op ≡ Operator.Mul
    → IsBrought (slice_get (shared_numbers shape op) 0) (1 * 2 ^ (2 * p) % 2 ^ 64) marks between
    → IsBrought (slice_get (shared_numbers shape op) 1) (1 * 2 ^ (2 * p + 1) % 2 ^ 64) between after
    → IsPassedOn shape op own (Some p) marks after
passed-product shape op own p marks between after few mul first second v j = (from, to)
  where
    zeroth : bit_at (1 * 2 ^ (2 * p) % 2 ^ 64) j ≡ 1 ↔ (j ≡ 2 * p)
    zeroth = one-bit (2 * p) j (omega (arith, few))

    next : bit_at (1 * 2 ^ (2 * p + 1) % 2 ^ 64) j ≡ 1 ↔ (j ≡ 2 * p + 1)
    next = one-bit (2 * p + 1) j (omega (arith, few))

    from : HasMark after v j → HasMark marks v j ⊎ ((c : ℕ) × (slice_get (shared_numbers shape op) c ≡ Some v) × Brings op own (Some p) c j)
    from set = elim ((second v j).0 set) [
      | inr new ↦ inr (1, new.0, inr (mul, p, refl, next.0 new.1))
      | inl had ↦ elim ((first v j).0 had) [
        | inr new ↦ inr (0, new.0, inr (mul, p, refl, omega (arith, zeroth.0 new.1)))
        | inl old ↦ inl old
      ]
    ]

    by_place : (c r : ℕ) → slice_get (shared_numbers shape op) c ≡ Some v → c < 2 → Some p ≡ Some r → j ≡ 2 * r + c → HasMark after v j
    by_place zero r at two is bit =
        (second v j).1 (inl ((first v j).1 (inr (at, zeroth.1 (omega (arith, bit, same_Some p r is))))))
    by_place (suc zero) r at two is bit = (second v j).1 (inr (at, next.1 (omega (arith, bit, same_Some p r is))))
    by_place (suc (suc c)) r at two is bit = absurd (omega (arith, two))

    to : HasMark marks v j ⊎ ((c : ℕ) × (slice_get (shared_numbers shape op) c ≡ Some v) × Brings op own (Some p) c j) → HasMark after v j
    to (inl old) = (second v j).1 (inl ((first v j).1 (inl old)))
    to (inr (c, at, inl (linear, set))) = absurd (strong-not op (product-strong op mul) linear)
    to (inr (c, at, inr (is_mul, r, is, bit))) = by_place c r at (places-few shape op c v at) is bit

-- ---- what is reached
module _ (shape : Shape) (blocks : List Op) where
  -- how many inputs there are
  abbrev inputs : ℕ
  inputs = shape.secrets + shape.publics

  -- the links of the blocks
  abbrev ls : List Link
  ls = links shape blocks

  -- by a use behind block k is by one in it or behind
  pub from-next : (k v s c : ℕ) → ReachesFrom shape blocks (k + 1) v s c → ReachesFrom shape blocks k v s c
  from-next k v s c (inl at) = inl (omega (arith, at.0), at.1)
  from-next k v s c (inr (b, late, leads, on)) = inr (b, omega (arith, late), leads, on)

  -- by one in it or behind is by one in it, or behind
  pub from-split : (k v s c : ℕ) → ReachesFrom shape blocks k v s c
      → ReachesFrom shape blocks (k + 1) v s c
      ⊎ (((k ≡ s) × IsSomeAnd (slice_get ls s) (λ link. (link.kind ≡ Strong) × (slice_get link.shared c ≡ Some v)))
      ⊎ (IsSomeAnd (slice_get ls k) (λ link. (link.kind ≡ Linear) × Contains link.shared v) × Reaches inputs ls (inputs + k) s c))
  from-split k v s c (inl at) = elim (cases_eq k s) [
    | inl same ↦ inr (inl (same, at.1))
    | inr other ↦ inl (inl (omega (arith, at.0, other), at.1))
  ]
  from-split k v s c (inr (b, late, leads, on)) = elim (cases_eq b k) [
    | inl same ↦
        inr (inr (
          subst (λ (i : ℕ). IsSomeAnd (slice_get ls i) (λ link. (link.kind ≡ Linear) × Contains link.shared v)) same leads,
          subst (λ (i : ℕ). Reaches inputs ls (inputs + i) s c) same on,
        ))
    | inr other ↦ inl (inr (b, omega (arith, late, other), leads, on))
  ]

  -- what is reached by some use is reached
  pub from-all : (k v s c : ℕ) → ReachesFrom shape blocks k v s c → Reaches inputs ls v s c
  unfolding IsPath
  from-all k v s c (inl at) = record { path = []; operand = v; leads = refl; strong = at.1 }
  from-all k v s c (inr (b, late, leads, on)) =
      record { path = b ∷ on.path; operand = on.operand; leads = (leads, on.leads); strong = on.strong }

  -- and the other way round
  pub all-from : (v s c : ℕ) → Reaches inputs ls v s c → ReachesFrom shape blocks 0 v s c
  unfolding IsPath
  all-from v s c reaches = by reaches.path reaches.leads
    where
      by : (path : List ℕ) → IsPath inputs ls v path reaches.operand → ReachesFrom shape blocks 0 v s c
      by [] leads =
          inl (omega arith, subst (λ (w : ℕ). IsSomeAnd (slice_get ls s) (λ link. (link.kind ≡ Strong) × (slice_get link.shared c ≡ Some w))) (sym leads) reaches.strong)
      by (b ∷ path) leads =
          inr (b, omega arith, leads.0, record { path = path; operand = reaches.operand; leads = leads.1; strong = reaches.strong })

  module _ (wired : Wired shape blocks) where
    -- the operands of a block are there
    pub operand-there : (k : ℕ) (op : Op) (c n : ℕ) → slice_get blocks k ≡ Some op → n ≡ inputs + length blocks
        → IfSome (slice_get (shared_numbers shape op) c) (λ v. v < n)
    operand-there k op c n there count = below (slice_get (shared_numbers shape op) c) refl
      where
        below : (o : Option ℕ) → o ≡ slice_get (shared_numbers shape op) c → IfSome o (λ v. v < n)
        below None is = tt
        below (Some v) is =
            let low : v < inputs + k =
            wired-ordered shape blocks wired k v
            (subst (λ (o : Option Link). IsSomeAnd o (λ link. Contains link.shared v)) (sym (links-at shape blocks k op there))
            (Contains-at (shared_numbers shape op) c v (sym is))) in
            omega (arith, low, slice_get_within blocks k op there, count)

    -- a value at the start of a path comes before what its end does
    path-before : (v w n : ℕ) (path : List ℕ) → IsPath inputs ls v path w → w < n → v < n
    unfolding IsPath
    path-before v w n [] leads low = omega (arith, leads, low)
    path-before v w n (b ∷ path) leads low =
        let link = IsSomeAnd-value (slice_get ls b) (λ link. (link.kind ≡ Linear) × Contains link.shared v) leads.0 in
        let first : v < inputs + b =
        wired-ordered shape blocks wired b v (subst (λ (o : Option Link). IsSomeAnd o (λ link. Contains link.shared v)) (sym link.1) link.2.1) in
        omega (arith, first, path-before (inputs + b) w n path leads.1 low)

    -- a value comes before the blocks of which it reaches a place
    reaches-before : (v s c : ℕ) → Reaches inputs ls v s c → v < inputs + s
    reaches-before v s c reaches =
        let link = IsSomeAnd-value (slice_get ls s) (λ link. (link.kind ≡ Strong) × (slice_get link.shared c ≡ Some reaches.operand)) reaches.strong in
        path-before v reaches.operand (inputs + s) reaches.path reaches.leads
        (wired-ordered shape blocks wired s reaches.operand
        (subst (λ (o : Option Link). IsSomeAnd o (λ link. Contains link.shared reaches.operand)) (sym link.1) (Contains-at link.0.shared c reaches.operand link.2.1)))

    -- a block's value is used behind it alone
    pub own-from : (k s c : ℕ) → Reaches inputs ls (inputs + k) s c → ReachesFrom shape blocks (k + 1) (inputs + k) s c
    own-from k s c reaches = behind (all-from (inputs + k) s c reaches)
      where
        behind : ReachesFrom shape blocks 0 (inputs + k) s c → ReachesFrom shape blocks (k + 1) (inputs + k) s c
        behind (inl at) =
            let link = IsSomeAnd-value (slice_get ls s) (λ link. (link.kind ≡ Strong) × (slice_get link.shared c ≡ Some (inputs + k))) at.1 in
            let low : inputs + k < inputs + s =
            wired-ordered shape blocks wired s (inputs + k)
            (subst (λ (o : Option Link). IsSomeAnd o (λ link. Contains link.shared (inputs + k))) (sym link.1) (Contains-at link.0.shared c (inputs + k) link.2.1)) in
            inl (omega (arith, low), at.1)
        behind (inr (b, late, leads, on)) =
            let link = IsSomeAnd-value (slice_get ls b) (λ link. (link.kind ≡ Linear) × Contains link.shared (inputs + k)) leads in
            let low : inputs + k < inputs + b =
            wired-ordered shape blocks wired b (inputs + k)
            (subst (λ (o : Option Link). IsSomeAnd o (λ link. Contains link.shared (inputs + k))) (sym link.1) link.2.1) in
            inr (b, omega (arith, low), leads, on)

  -- ---- marks
  module _ (batch : Batch) where
    -- a product that has a number
    pub numbered-op : (r b : ℕ) → IsNumbered blocks batch r b → (op : Op) × (slice_get blocks b ≡ Some op) × (operator op ≡ Operator.Mul)
    numbered-op r b numbered = IsSomeAnd-value (slice_get blocks b) (λ op. operator op ≡ Operator.Mul) numbered.product

    -- one number, one product
    pub numbered-once : (r b d : ℕ) → IsNumbered blocks batch r b → IsNumbered blocks batch r d → b ≡ d
    numbered-once r b d first second =
        let x = numbered-op r b first in
        let y = numbered-op r d second in
        products-once blocks b d x.0 y.0 x.1 x.2 y.1 y.2 (omega (arith, first.number, second.number))

    -- the number is one of the batch
    pub numbered-few : (r b : ℕ) → IsBatch blocks batch.from batch → IsNumbered blocks batch r b → r < batch.products
    numbered-few r b is numbered =
        let x = numbered-op r b numbered in
        omega (arith, products-more blocks b batch.end x.0 x.1 x.2 numbered.before, is.count, numbered.number)

    -- where no value has a mark, none is reached by a use behind the batch
    pub marks-none : Wired shape blocks → (marks : List ℕ) → length marks ≡ inputs + length blocks → ((v : ℕ) → slice_index marks v ≡ 0)
        → AreMarks shape blocks batch batch.end marks
    marks-none wired marks count none = record {
      count = count;
      each = λ v j. (
        λ set. absurd (omega (arith, set, ap (λ (w : ℕ). bit_at w j) (none v) ∙ bit_at-zero j)),
        λ reach. absurd (late reach.0 v (j % 2) reach.1.before reach.2),
      );
    }
      where
        late : (b v c : ℕ) → b < batch.end → ReachesFrom shape blocks batch.end v b c → ⊥
        late b v c before (inl at) = omega (arith, before, at.0)
        late b v c before (inr (d, behind, leads, on)) = omega (arith, before, behind, reaches-before wired (inputs + d) b c on)

    module _ (wired : Wired shape blocks) (k : ℕ) (op : Op) (there : slice_get blocks k ≡ Some op) (product : Option ℕ)
        (named : (r : ℕ) → (product ≡ Some r) ↔ IsNumbered blocks batch r k) (marks after : List ℕ) (are : AreMarks shape blocks batch (k + 1) marks)
        (passed : IsPassedOn shape op (slice_index marks (inputs + k)) product marks after) where
      -- what the block brings is reached
      brought-reached : (v j c : ℕ) → slice_get (shared_numbers shape op) c ≡ Some v → Brings op (slice_index marks (inputs + k)) product c j
          → (b : ℕ) × IsNumbered blocks batch (j / 2) b × ReachesFrom shape blocks k v b (j % 2)
      brought-reached v j c at (inl (linear, set)) =
          let on = (are.each (inputs + k) j).0 set in (
            on.0,
            on.1,
            inr (
              k,
              omega arith,
              subst (λ (o : Option Link). IsSomeAnd o (λ link. (link.kind ≡ Linear) × Contains link.shared v)) (sym (links-at shape blocks k op there))
                  (linear, Contains-at (shared_numbers shape op) c v at),
              from-all (k + 1) (inputs + k) on.0 (j % 2) on.2,
            ),
          )
      brought-reached v j c at (inr (mul, r, is, bit)) =
          let two : c < 2 = places-few shape op c v at in
          let half : r ≡ j / 2 = omega (arith, bit, two) in
          let place : c ≡ j % 2 = omega (arith, bit, two) in (
            k,
            subst (λ (n : ℕ). IsNumbered blocks batch n k) half ((named r).0 is),
            inl (
              omega arith,
              subst (λ (o : Option Link). IsSomeAnd o (λ link. (link.kind ≡ Strong) × (slice_get link.shared (j % 2) ≡ Some v))) (sym (links-at shape blocks k op there))
                  (product-strong op mul, subst (λ (n : ℕ). slice_get (shared_numbers shape op) n ≡ Some v) place at),
            ),
          )

      -- what is reached through the block it brings
      reached-brought : (v j b : ℕ) → IsNumbered blocks batch (j / 2) b → ReachesFrom shape blocks k v b (j % 2)
          → HasMark marks v j ⊎ ((c : ℕ) × (slice_get (shared_numbers shape op) c ≡ Some v) × Brings op (slice_index marks (inputs + k)) product c j)
      reached-brought v j b numbered reach = elim (from-split k v b (j % 2) reach) [
        | inl later ↦ inl ((are.each v j).1 (b, numbered, later))
        | inr (inl (same, stands)) ↦
            let here : IsNumbered blocks batch (j / 2) k = subst (IsNumbered blocks batch (j / 2)) (sym same) numbered in
            let x = numbered-op (j / 2) k here in
            let mul : operator op ≡ Operator.Mul = ap operator (same_Some op x.0 (sym there ∙ x.1)) ∙ x.2 in
            let at : (kind op ≡ Strong) × (slice_get (shared_numbers shape op) (j % 2) ≡ Some v) =
            subst (λ (o : Option Link). IsSomeAnd o (λ link. (link.kind ≡ Strong) × (slice_get link.shared (j % 2) ≡ Some v)))
            (ap (slice_get ls) (sym same) ∙ links-at shape blocks k op there) stands in
            inr (j % 2, at.1, inr (mul, j / 2, (named (j / 2)).1 here, omega arith))
        | inr (inr (leads, on)) ↦
            let link : (kind op ≡ Linear) × Contains (shared_numbers shape op) v =
            subst (λ (o : Option Link). IsSomeAnd o (λ link. (link.kind ≡ Linear) × Contains link.shared v)) (links-at shape blocks k op there) leads in
            let at : slice_get (shared_numbers shape op) link.1.0 ≡ Some v =
            slice_get-get_or (shared_numbers shape op) link.1.0 v link.1.1 ∙ ap (λ (x : ℕ). Some x) link.1.2 in
            inr (link.1.0, at, inl (link.0, (are.each (inputs + k) j).1 (b, numbered, own-from wired k b (j % 2) on)))
      ]

      -- so the marks say what is reached from the block on
      pub marks-next : length after ≡ length marks → AreMarks shape blocks batch k after
      marks-next count = record {
        count = count ∙ are.count;
        each = λ v j. (
          λ set. elim ((passed v j).0 set) [
            | inl had ↦ let on = (are.each v j).0 had in (on.0, on.1, from-next k v on.0 (j % 2) on.2)
            | inr new ↦ brought-reached v j new.0 new.1 new.2
          ],
          λ reach. (passed v j).1 (reached-brought v j reach.0 reach.1 reach.2),
        );
      }

    -- a value with both marks of a number reaches both places of its product, and the other way round
    module _ (wired : Wired shape blocks) (is : IsBatch blocks batch.from batch) (marks : List ℕ) (are : AreMarks shape blocks batch 0 marks) where
      -- a value with both marks
      pub both-doubled : (r v : ℕ) → HasBoth marks r v → (b : ℕ) × IsNumbered blocks batch r b × IsDoubled shape blocks v b
      both-doubled r v (within, (few, low, high)) =
          let first = (are.each v (2 * r)).0 low in
          let second = (are.each v (2 * r + 1)).0 high in
          let half : (2 * r) / 2 ≡ r = omega arith in
          let halves : (2 * r + 1) / 2 ≡ r = omega arith in
          let even : (2 * r) % 2 ≡ 0 = omega arith in
          let odd : (2 * r + 1) % 2 ≡ 1 = omega arith in
          let numbered : IsNumbered blocks batch r first.0 = subst (λ (n : ℕ). IsNumbered blocks batch n first.0) half first.1 in
          let also : IsNumbered blocks batch r second.0 = subst (λ (n : ℕ). IsNumbered blocks batch n second.0) halves second.1 in (
            first.0,
            numbered,
            (
              from-all 0 v first.0 0 (subst (ReachesFrom shape blocks 0 v first.0) even first.2),
              subst (λ (b : ℕ). Reaches inputs ls v b 1) (numbered-once r second.0 first.0 also numbered)
                  (from-all 0 v second.0 1 (subst (ReachesFrom shape blocks 0 v second.0) odd second.2)),
            ),
          )

      -- one that reaches both places
      pub doubled-both : (r v b : ℕ) → IsNumbered blocks batch r b → IsDoubled shape blocks v b → HasBoth marks r v
      doubled-both r v b numbered doubled =
          let value : HasValue shape blocks v = reaches-there shape blocks wired v b 0 doubled.0 in
          let half : r ≡ (2 * r) / 2 = omega arith in
          let halves : r ≡ (2 * r + 1) / 2 = omega arith in
          let even : 0 ≡ (2 * r) % 2 = omega arith in
          let odd : 1 ≡ (2 * r + 1) % 2 = omega arith in (
            omega (arith, number-there shape blocks value.value value.there, value.is, are.count),
            (
              omega (arith, numbered-few r b is numbered, is.few),
              (are.each v (2 * r)).1 (
                b,
                subst (λ (n : ℕ). IsNumbered blocks batch n b) half numbered,
                subst (ReachesFrom shape blocks 0 v b) even (all-from v b 0 doubled.0),
              ),
              (are.each v (2 * r + 1)).1 (
                b,
                subst (λ (n : ℕ). IsNumbered blocks batch n b) halves numbered,
                subst (ReachesFrom shape blocks 0 v b) odd (all-from v b 1 doubled.1),
              ),
            ),
          )

      -- in the batch only a product has a value that reaches both places
      doubled-numbered : (s v : ℕ) → batch.from ≤ s → s < batch.end → IsDoubled shape blocks v s
          → IsNumbered blocks batch (products_before blocks s - products_before blocks batch.from) s
      doubled-numbered s v from before doubled =
          let at = links-from shape blocks s (λ link. (link.kind ≡ Strong) × (slice_get link.shared 1 ≡ Some doubled.1.operand)) doubled.1.strong in
          let up : products_before blocks batch.from ≤ products_before blocks s = products-up blocks batch.from s from in
          record {
            from = from;
            before = before;
            product =
                subst (λ (o : Option Op). IsSomeAnd o (λ op. operator op ≡ Operator.Mul)) (sym at.1)
                (two-places shape at.0 doubled.1.operand at.2.0 at.2.1);
            number = omega (arith, up);
          }

      module _ (none : (s v : ℕ) → s < batch.from → IsDoubled shape blocks v s → ⊥) where
        -- where no value has both marks of a number none is doubled up to the batch's end
        pub clash-none : ((r v : ℕ) → HasBoth marks r v → ⊥) → (s v : ℕ) → s < batch.end → IsDoubled shape blocks v s → ⊥
        clash-none never s v before doubled = elim (cases_lt s batch.from) [
          | inl early ↦ none s v early doubled
          | inr late ↦
              never (products_before blocks s - products_before blocks batch.from) v
              (doubled-both (products_before blocks s - products_before blocks batch.from) v s (doubled-numbered s v late before doubled) doubled)
        ]

        -- the first number of which a value has both marks, and the first such value, are the first doubled ones
        pub clash-first : (r v block : ℕ) (value : Operand) → HasBoth marks r v → IsNumbered blocks batch r block
            → ((q w : ℕ) → HasBoth marks q w → (r < q) ⊎ ((r ≡ q) × (v ≤ w)))
            → ((ops : List Op) (x : Operand) → IsSharedThere shape ops x → value_number shape x ≡ v → value ≡ x)
            → FirstDoubled shape blocks value block
        clash-first r v block value both numbered first is_value =
            let found = both-doubled r v both in
            let doubled : IsDoubled shape blocks v block =
            subst (IsDoubled shape blocks v) (numbered-once r found.0 block found.1 numbered) found.2 in
            let there : HasValue shape blocks v = reaches-there shape blocks wired v block 0 doubled.0 in
            let same : there.value ≡ value = sym (is_value blocks there.value there.there there.is) in
            let at : value_number shape value ≡ v = ap (value_number shape) (sym same) ∙ there.is in
            record {
              there = subst (IsSharedThere shape blocks) same there.there;
              doubled = subst (λ (n : ℕ). IsDoubled shape blocks n block) (sym at) doubled;
              least = λ w less again. elim (first r w (doubled-both r w block numbered again)) [
                | inl more ↦ omega (arith, more)
                | inr equal ↦ omega (arith, equal.1, less, at)
              ];
              before = λ s w less again. elim (cases_lt s batch.from) [
                | inl early ↦ none s w early again
                | inr late ↦
                    let q : ℕ = products_before blocks s - products_before blocks batch.from in
                    let own : IsNumbered blocks batch q s = doubled-numbered s w late (omega (arith, less, numbered.before)) again in
                    let x = numbered-op q s own in
                    let fewer : products_before blocks s < products_before blocks block = products-more blocks s block x.0 x.1 x.2 less in
                    elim (first q w (doubled-both q w s own again)) [
                      | inl more ↦ omega (arith, more, fewer, own.number, numbered.number)
                      | inr equal ↦ omega (arith, equal.0, fewer, own.number, numbered.number)
                    ]
              ];
            }

-- a product in a batch has its number there
pub product-numbered : (blocks : List Op) (batch : Batch) (b r : ℕ) → batch.from ≤ b → b < batch.end → b < length blocks
    → operator (slice_index_or blocks b (Const 0)) ≡ Operator.Mul → products_before blocks b ≡ products_before blocks batch.from + r → IsNumbered blocks batch r b
product-numbered blocks batch b r from before within mul number = record {
  from = from;
  before = before;
  product = subst (λ (o : Option Op). IsSomeAnd o (λ op. operator op ≡ Operator.Mul)) (sym (slice_get-get_or blocks b (Const 0) within)) mul;
  number = number;
}

-- a block that has a number is a product
pub numbered-product : (blocks : List Op) (batch : Batch) (b r : ℕ) → b < length blocks → IsNumbered blocks batch r b
    → operator (slice_index_or blocks b (Const 0)) ≡ Operator.Mul
numbered-product blocks batch b r within numbered =
    subst (λ (o : Option Op). IsSomeAnd o (λ op. operator op ≡ Operator.Mul)) (slice_get-get_or blocks b (Const 0) within) numbered.product

-- the number of a block is how many products stand before it, and another block leaves how many there are
pub counted-back : (blocks : List Op) (batch : Batch) (b products : ℕ) (o : Option ℕ) → ((r : ℕ) → (o ≡ Some r) ↔ IsNumbered blocks batch r b)
    → batch.from ≤ b → b < batch.end → b < length blocks → products_before blocks (b + 1) ≡ products_before blocks batch.from + products
    → products_before blocks b ≡ products_before blocks batch.from + unwrap_or o products
counted-back blocks batch b products (Some r) named from before within count = ((named r).0 refl).number
counted-back blocks batch b products None named from before within count = elim (product-or (slice_index_or blocks b (Const 0))) [
  | inr none ↦ omega (arith, counted-next blocks b within, none, count)
  | inl mul ↦
      let up : products_before blocks batch.from ≤ products_before blocks b = products-up blocks batch.from b from in
      absurd (cc ((named (products_before blocks b - products_before blocks batch.from)).1
      (product-numbered blocks batch b (products_before blocks b - products_before blocks batch.from) from before within mul (omega (arith, up)))))
]

-- a batch begins where it begins
pub batch-own : (blocks : List Op) (from : ℕ) (batch : Batch) → IsBatch blocks from batch → IsBatch blocks batch.from batch
batch-own blocks from batch is = subst (λ (n : ℕ). IsBatch blocks n batch) (sym is.starts) is

-- where no block doubles a value, none is doubled
pub all-undoubled : (shape : Shape) (blocks : List Op) (n : ℕ) → length blocks ≤ n → ((s v : ℕ) → s < n → IsDoubled shape blocks v s → ⊥)
    → Undoubled (shape.secrets + shape.publics) (links shape blocks)
all-undoubled shape blocks n all none v s first second =
    let at = links-from shape blocks s (λ link. (link.kind ≡ Strong) × (slice_get link.shared 0 ≡ Some first.operand)) first.strong in
    none s v (omega (arith, all, slice_get_within blocks s at.0 at.1)) (first, second)
