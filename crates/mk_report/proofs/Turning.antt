-- One turn of the pass: what the uses of a value bring makes its row, and the rows that are to be passed on later stay.
use Rattle.std.proofs.Common.{◌≡◌, ◌⊎◌, ◌↔◌, ℕ, suc, ◌+◌, ◌-◌, ◌<◌, true, Option, Some, IsSomeAnd, List, [], ◌∷◌, ◌++◌, length, slice_get, slice_index_or, slice_set, sym, ◌∙◌, ap, subst, inl, inr, arith}
use Rattle.std.specs.List.{Contains}
use Rattle.std.proofs.lemmas.Bool.{cases_eq, cases_lt}
use Rattle.std.proofs.lemmas.List.{length-append, get_or_append_left, get_or_past, get_or_push, get_or-set_other, get_or_default}
use Rattle.std.proofs.lemmas.List.Elements.{Contains-append_left, Contains-push, Contains-push_cases}
use Rattle.std.proofs.lemmas.Option.{get_or_from_slice_get, slice_get_within, slice_get-get_or}
use Rattle.mk_ssa.specs.declared.Op.{Op}
use Rattle.mk_ssa.specs.declared.Op.TheVariants.{Const}
use Rattle.mk_ssa.specs.Operators.{Operator, operator}
use Rattle.mk_ssa.proofs.Lists.{IsSomeAnd-value, slice_get-last, slice_get-more}
use Rattle.mk_rules.specs.declared.uses.OperandPlace.{OperandPlace}
use Rattle.mk_rules.specs.Shape.{Shape}
use Rattle.mk_rules.specs.Wired.{Wired}
use Rattle.mk_rules.specs.Products.{products_before}
use Rattle.mk_rules.specs.Reaches.{Link}
use Rattle.mk_rules.specs.Rows.{HasBit}
use Rattle.mk_rules.specs.Uses.{AreThere, shared_numbers}
use Rattle.mk_rules.proofs.Counting.{product-one, product-none, products-next}
use Rattle.mk_rules.proofs.Doubled.{links-at, wired-ordered}
use Rattle.mk_rules.proofs.Probes.{Contains-none}
use Rattle.mk_rules.proofs.Noting.{operands-short}
use Rattle.mk_rules.proofs.Using.{IsUsedAt, noted-at, noted-is}
use Rattle.mk_rules.proofs.Views.{Contains-at}
use Rattle.mk_report.specs.Reached.{IsProduct}
use Rattle.mk_report.specs.Rows.{IsRowOf}
use Rattle.mk_report.specs.Passing.{Brings, HasEarlier, HasRow, HasRows, IsBehind, IsGathered, IsIndex, IsReady, block_at, passes, row_at}
use Rattle.mk_report.proofs.Stepping.{gathered-is}

-- an element at a place of a list is in it
pub held-at : {X : Type 0} (xs : List X) (k : ℕ) (d : X) → k < length xs → Contains xs (slice_index_or xs k d)
held-at xs k d below = (k, below, get_or_default xs k (slice_index_or xs k d) d below)

-- a row with what one use more brings
pub gathered-more : (blocks : List Op) (rows : List (List ℕ)) (us : List OperandPlace) (u : OperandPlace) (row new : List ℕ) → IsGathered blocks rows us row
    → ((k : ℕ) → HasBit new k ↔ (HasBit row k ⊎ Brings blocks rows u k)) → IsGathered blocks rows (us ++ u ∷ []) new
gathered-more blocks rows us u row new so_far more k = (
  λ set. elim ((more k).0 set) [
    | inl old ↦
        let found = (so_far k).0 old in
        (found.0, Contains-append_left us (u ∷ []) found.0 found.1, found.2)
    | inr own ↦ (u, Contains-push us u, own)
  ],
  λ found. (more k).1 (elim (Contains-push_cases us u found.0 found.1) [
    | inl before ↦ inl ((so_far k).1 (found.0, before, found.2))
    | inr here ↦ inr (subst (λ (x : OperandPlace). Brings blocks rows x k) (sym here) found.2)
  ]),
)

-- one block more, which is a product
pub listed-more : (blocks : List Op) (products : List ℕ) (at : ℕ) → at < length blocks → operator (block_at blocks at) ≡ Operator.Mul
    → length products ≡ products_before blocks at
    → ((b : ℕ) → b < at → IsProduct blocks b → slice_get products (products_before blocks b) ≡ Some b)
    → (length (products ++ at ∷ []) ≡ products_before blocks (at + 1))
    × ((b : ℕ) → b < at + 1 → IsProduct blocks b → slice_get (products ++ at ∷ []) (products_before blocks b) ≡ Some b)
listed-more blocks products at below product count each =
    let next : products_before blocks (suc at) ≡ 1 + products_before blocks at =
    omega (arith, products-next blocks at (block_at blocks at) (slice_get-get_or blocks at (Const 0) below), product-one (block_at blocks at) product) in
    let up : suc at ≡ at + 1 = omega arith in (
      length-append products (at ∷ []) ∙ omega (arith, count, next, ap (products_before blocks) up),
      λ b within is. elim (cases_eq b at) [
        | inl here ↦
            ap (slice_get (products ++ at ∷ [])) (ap (products_before blocks) here ∙ sym count) ∙ slice_get-last products at ∙ ap (λ (n : ℕ). Some n) (sym here)
        | inr other ↦ slice_get-more products (at ∷ []) (products_before blocks b) b (each b (omega (arith, within, other)) is)
      ],
    )

-- one block more, which isn't
pub listed-still : (blocks : List Op) (products : List ℕ) (at : ℕ) → at < length blocks → (operator (block_at blocks at) ≡ Operator.Mul → ⊥)
    → length products ≡ products_before blocks at
    → ((b : ℕ) → b < at → IsProduct blocks b → slice_get products (products_before blocks b) ≡ Some b)
    → (length products ≡ products_before blocks (at + 1))
    × ((b : ℕ) → b < at + 1 → IsProduct blocks b → slice_get products (products_before blocks b) ≡ Some b)
listed-still blocks products at below another count each =
    let there : slice_get blocks at ≡ Some (block_at blocks at) = slice_get-get_or blocks at (Const 0) below in
    let next : products_before blocks (suc at) ≡ products_before blocks at =
    omega (arith, products-next blocks at (block_at blocks at) there, product-none (block_at blocks at) another) in
    let up : suc at ≡ at + 1 = omega arith in (
      omega (arith, count, next, ap (products_before blocks) up),
      λ b within is. elim (cases_eq b at) [
        | inl here ↦
            let product : (op : Op) × (slice_get blocks b ≡ Some op) × (operator op ≡ Operator.Mul) =
            IsSomeAnd-value (slice_get blocks b) (λ op. operator op ≡ Operator.Mul) is in
            absurd (another (ap operator (ap (block_at blocks) (sym here) ∙ get_or_from_slice_get blocks b product.0 (Const 0) product.1) ∙ product.2))
        | inr other ↦ each b (omega (arith, within, other)) is
      ],
    )

module _ (shape : Shape) (blocks : List Op) where
  -- how many inputs there are
  abbrev inputs : ℕ
  inputs = shape.secrets + shape.publics

  -- the rows of other blocks stay
  pub rows-still : (rows : List (List ℕ)) (number : ℕ) (u : OperandPlace) → IsBehind blocks rows u → (HasEarlier shape (block_at blocks u.value) number → ⊥)
      → (b : ℕ) → HasEarlier shape (block_at blocks b) number
      → row_at blocks (slice_set rows (length blocks - suc u.value) []) b ≡ row_at blocks rows b
  rows-still rows number u behind late b early =
      get_or-set_other rows (length blocks - suc u.value) (length blocks - suc b) [] [] (λ same. elim (cases_lt b (length blocks)) [
        | inl within ↦
            let one : b ≡ u.value = omega (arith, same, within, behind.0) in
            late (subst (λ (n : ℕ). HasEarlier shape (block_at blocks n) number) one early)
        | inr past ↦
            Contains-none early.0 (subst (λ (op : Op). Contains (shared_numbers shape op) early.0) (get_or_past blocks b (Const 0) past) early.1)
      ])

  module _ (wired : Wired shape blocks) where
    -- a use comes behind the value
    used-behind : (n : ℕ) (u : OperandPlace) → IsUsedAt shape blocks n u → n < inputs + u.value
    used-behind n u is =
        wired-ordered shape blocks wired u.value n
        (subst (λ (o : Option Link). IsSomeAnd o (λ link. Contains link.shared n)) (sym (links-at shape blocks u.value is.op is.there))
        (Contains-at (shared_numbers shape is.op) u.operand n is.operand))

    -- each operand is there
    pub all-there : AreThere shape blocks
    all-there i k v op there at =
        omega (arith, used-behind v (record { value = i; operand = k }) (record { op = op; there = there; operand = at }), slice_get_within blocks i op there)

    module _ (noted : List (List OperandPlace)) (numbers products : List ℕ) (words : ℕ) (index : IsIndex shape blocks noted numbers products words)
        (n : ℕ) (below : n < inputs + length blocks) (us : List OperandPlace) (us_are : us ≡ slice_index_or noted n []) (rows : List (List ℕ))
        (count : length rows + suc n ≡ inputs + length blocks) (are : HasRows shape blocks rows words (suc n)) where
      -- the uses are those of the value
      used : (u : OperandPlace) → Contains us u → IsUsedAt shape blocks n u
      used u held =
          noted-is shape blocks n u (subst (λ (xs : List OperandPlace). Contains xs u) (us_are ∙ index.noted_all.each n below) held)

      -- all of them
      noted_too : (u : OperandPlace) → IsUsedAt shape blocks n u → Contains us u
      noted_too u is =
          subst (λ (xs : List OperandPlace). Contains xs u) (sym (us_are ∙ index.noted_all.each n below)) (noted-at shape blocks n u is)

      -- there is a row for each of them that passes places on
      use-row : (u : OperandPlace) → IsUsedAt shape blocks n u → passes (block_at blocks u.value) ≡ true → HasRow shape blocks rows words u.value
      use-row u is passing =
          let op : block_at blocks u.value ≡ is.op = get_or_from_slice_get blocks u.value is.op (Const 0) is.there in
          are u.value (omega (arith, used-behind n u is)) (slice_get_within blocks u.value is.op is.there) passing
          (n, subst (λ (x : Op). Contains (shared_numbers shape x) n) (sym op) (Contains-at (shared_numbers shape is.op) u.operand n is.operand), omega arith)

      -- so each is ready
      pub use-ready : (u : OperandPlace) → Contains us u → IsReady blocks rows words u
      use-ready u held =
          let is : IsUsedAt shape blocks n u = used u held in
          let within : u.value < length blocks = slice_get_within blocks u.value is.op is.there in
          record {
            behind = (within, omega (arith, used-behind n u is, within, count));
            two = omega (arith, operands-short shape is.op, slice_get_within (shared_numbers shape is.op) u.operand n is.operand);
            count = λ passing. (use-row u is passing).count;
          }

      module _ (row : List ℕ) (gathered : IsGathered blocks rows us row) where
        -- the row that they make stands for what the value reaches
        pub row-is : IsRowOf shape blocks n row
        row-is = gathered-is shape blocks n rows us row gathered used noted_too (λ u is passing. (use-row u is passing).is)

        -- and the rows that are to be passed on to earlier values are there
        pub rows-next : (after : List (List ℕ)) (last : List ℕ) → length row ≡ words → length after ≡ length rows
            → ((b : ℕ) → HasEarlier shape (block_at blocks b) n → row_at blocks after b ≡ row_at blocks rows b)
            → ((b : ℕ) → n ≡ inputs + b → passes (block_at blocks b) ≡ true → last ≡ row) → HasRows shape blocks (after ++ last ∷ []) words n
        rows-next after last long same still kept b from within passing early = elim (cases_eq n (inputs + b)) [
          | inl here ↦
              let at : row_at blocks (after ++ last ∷ []) b ≡ row =
              get_or_push after last [] (length blocks - suc b) (omega (arith, same, count, here, within)) ∙ kept b here passing in
              record {
                count = ap (λ (xs : List ℕ). length xs) at ∙ long;
                is = subst (λ (v : ℕ). IsRowOf shape blocks v (row_at blocks (after ++ last ∷ []) b)) here (subst (IsRowOf shape blocks n) (sym at) row-is);
              }
          | inr other ↦
              let before : HasRow shape blocks rows words b =
              are b (omega (arith, from, other)) within passing (early.0, early.1, omega (arith, early.2)) in
              let at : row_at blocks (after ++ last ∷ []) b ≡ row_at blocks rows b =
              get_or_append_left after (last ∷ []) [] (length blocks - suc b) (omega (arith, same, count, from, other, within)) ∙ still b early in
              record {
                count = ap (λ (xs : List ℕ). length xs) at ∙ before.count;
                is = subst (IsRowOf shape blocks (inputs + b)) (sym at) before.is;
              }
        ]
