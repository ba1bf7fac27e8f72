-- Values that differ have blocks that differ.
use Rattle.std.proofs.Common.{◌≡◌, ◌⊎◌, ℕ, suc, ◌+◌, ◌<◌, ◌≤◌, true, false, Some, List, [], ◌∷◌, ◌++◌, length, map, slice_get, slice_index_or, get_or, refl, sym, ◌∙◌, ap, ap₂, subst, arith, inl, inr}
use Rattle.std.proofs.lemmas.Bool.{cases_Bool, cases_order, cond-true, cond-false}
use Rattle.std.proofs.lemmas.List.{length-append}
use Rattle.std.proofs.lemmas.Option.{slice_get_within, slice_get-get_or, same_Some}
use Rattle.mk_ssa.specs.declared.Op.{Op}
use Rattle.mk_ssa.specs.declared.Op.TheVariants.{Const, PubAdd, PubMul, PubSq, PubMap, Lift, Add, AddPub, Scale, Sq, Map, Mul, Refresh}
use Rattle.mk_ssa.specs.declared.Operand.{Operand}
use Rattle.mk_ssa.specs.declared.Operand.TheVariants.{Secret, Public, Block}
use Rattle.mk_ssa.specs.Kinds.{shared_operands, public_operands}
use Rattle.mk_ssa.specs.Operators.{operator, with_operands_by}
use Rattle.mk_ssa.specs.Values.{Values}
use Rattle.mk_simplify.specs.Simplified.{AllDiffer}
use Rattle.mk_simplify.proofs.Operators.{operands-few, same-op}
use Rattle.mk_place.specs.Layout.{Marks, own_block, refresh_block, renamed, refreshed, blocks_from, laid_out}
use Rattle.mk_place.specs.Different.{IsRefresh, AllDifferButRefreshes}
use Rattle.mk_place.proofs.Blocks.{own-there, refresh-there, each-block, own-once, own-no-refresh, refresh-once}

-- operands by place, of which the first has the place k
unfoldable pub places : (ℕ → Operand → Operand) → ℕ → List Operand → List Operand
places shared k [] = []
places shared k (v ∷ vs) = shared k v ∷ places shared (suc k) vs

module _ (shared : ℕ → Operand → Operand) (public : Operand → Operand) where
  -- other operands leave the operator
  pub operator-laid : (op : Op) → operator (with_operands_by shared public op) ≡ operator op
  operator-laid (Const value) = refl
  operator-laid (PubAdd left right) = refl
  operator-laid (PubMul left right) = refl
  operator-laid (PubSq arg) = refl
  operator-laid (PubMap k arg) = refl
  operator-laid (Lift arg) = refl
  operator-laid (Add left right) = refl
  operator-laid (AddPub left right) = refl
  operator-laid (Scale left right) = refl
  operator-laid (Sq arg) = refl
  operator-laid (Map k arg) = refl
  operator-laid (Mul left right) = refl
  operator-laid (Refresh arg) = refl

  -- the shared ones are those by place
  pub shared-laid : (op : Op) → shared_operands (with_operands_by shared public op) ≡ places shared 0 (shared_operands op)
  unfolding places
  shared-laid (Const value) = refl
  shared-laid (PubAdd left right) = refl
  shared-laid (PubMul left right) = refl
  shared-laid (PubSq arg) = refl
  shared-laid (PubMap k arg) = refl
  shared-laid (Lift arg) = refl
  shared-laid (Add left right) = refl
  shared-laid (AddPub left right) = refl
  shared-laid (Scale left right) = refl
  shared-laid (Sq arg) = refl
  shared-laid (Map k arg) = refl
  shared-laid (Mul left right) = refl
  shared-laid (Refresh arg) = refl

  -- the public ones are the images
  pub public-laid : (op : Op) → public_operands (with_operands_by shared public op) ≡ map public (public_operands op)
  public-laid (Const value) = refl
  public-laid (PubAdd left right) = refl
  public-laid (PubMul left right) = refl
  public-laid (PubSq arg) = refl
  public-laid (PubMap k arg) = refl
  public-laid (Lift arg) = refl
  public-laid (Add left right) = refl
  public-laid (AddPub left right) = refl
  public-laid (Scale left right) = refl
  public-laid (Sq arg) = refl
  public-laid (Map k arg) = refl
  public-laid (Mul left right) = refl
  public-laid (Refresh arg) = refl

-- the number of a block
block_number : Operand → ℕ
block_number (Secret k) = 0
block_number (Public k) = 0
block_number (Block k) = k

-- two blocks are one where they are equal
pub block-once : (m n : ℕ) → Block m ≡ Block n → m ≡ n
unfolding block_number
block-once m n same = ap block_number same

module _ (marks : Marks) where
  -- two operands have two new numbers
  renamed-once : (v w : Operand) → renamed marks v ≡ renamed marks w → v ≡ w
  renamed-once (Secret k) (Secret j) same = same
  renamed-once (Secret k) (Public j) same = absurd (cc)
  renamed-once (Secret k) (Block j) same = absurd (cc)
  renamed-once (Public k) (Secret j) same = absurd (cc)
  renamed-once (Public k) (Public j) same = same
  renamed-once (Public k) (Block j) same = absurd (cc)
  renamed-once (Block k) (Secret j) same = absurd (cc)
  renamed-once (Block k) (Public j) same = absurd (cc)
  renamed-once (Block k) (Block j) same = ap (λ (n : ℕ). Block n) (own-once marks k j (block-once (own_block marks k) (own_block marks j) same))

  -- none of them is that of a refresh
  pub renamed-fresh : (v : Operand) (j k : ℕ) → k < 2 → marks j k ≡ true → renamed marks v ≡ Block (refresh_block marks j k) → ⊥
  renamed-fresh (Secret n) j k few on same = absurd (cc)
  renamed-fresh (Public n) j k few on same = absurd (cc)
  renamed-fresh (Block n) j k few on same = own-no-refresh marks n j k few on (block-once (own_block marks n) (refresh_block marks j k) same)

  -- what stands for an operand at a marked use
  pub fresh-on : (i k : ℕ) (v : Operand) → marks i k ≡ true → refreshed marks i k v ≡ Block (refresh_block marks i k)
  fresh-on i k v on = cond-true (marks i k) (Block (refresh_block marks i k)) (renamed marks v) on

  -- and at another
  pub fresh-off : (i k : ℕ) (v : Operand) → marks i k ≡ false → refreshed marks i k v ≡ renamed marks v
  fresh-off i k v off = cond-false (marks i k) (Block (refresh_block marks i k)) (renamed marks v) off

  module _ (i j : ℕ) where
    -- where the same stands for two operands at one place, they are those of one value or equal
    fresh-once : (k : ℕ) (v w : Operand) → k < 2 → refreshed marks i k v ≡ refreshed marks j k w → (i ≡ j) ⊎ (v ≡ w)
    fresh-once k v w few same = elim (cases_Bool (marks i k)) [
      | inl on ↦ elim (cases_Bool (marks j k)) [
        | inl also ↦
            inl (refresh-once marks i k j k few few on also
            (block-once (refresh_block marks i k) (refresh_block marks j k) (sym (fresh-on i k v on) ∙ same ∙ fresh-on j k w also))).0
        | inr off ↦ absurd (renamed-fresh w i k few on (sym (fresh-off j k w off) ∙ sym same ∙ fresh-on i k v on))
      ]
      | inr off ↦ elim (cases_Bool (marks j k)) [
        | inl on ↦ absurd (renamed-fresh v j k few on (sym (fresh-off i k v off) ∙ same ∙ fresh-on j k w on))
        | inr also ↦ inr (renamed-once v w (sym (fresh-off i k v off) ∙ same ∙ fresh-off j k w also))
      ]
    ]

    -- so with all shared operands
    shared-once : (k : ℕ) (vs ws : List Operand) → k + length vs ≤ 2 → places (refreshed marks i) k vs ≡ places (refreshed marks j) k ws
        → (i ≡ j) ⊎ (vs ≡ ws)
    unfolding places
    shared-once k [] [] few same = inr refl
    shared-once k [] (w ∷ ws) few same = absurd (cc)
    shared-once k (v ∷ vs) [] few same = absurd (cc)
    shared-once k (v ∷ vs) (w ∷ ws) few same =
        let here : refreshed marks i k v ≡ refreshed marks j k w = cc in
        let rest : places (refreshed marks i) (suc k) vs ≡ places (refreshed marks j) (suc k) ws = cc in
        elim (fresh-once k v w (omega (arith, few)) here) [
          | inl one ↦ inl one
          | inr equal ↦ elim (shared-once (suc k) vs ws (omega (arith, few)) rest) [
            | inl one ↦ inl one
            | inr others ↦ inr (ap₂ (λ x xs. x ∷ xs) equal others)
          ]
        ]

  -- with all public operands
  public-once : (vs ws : List Operand) → map (renamed marks) vs ≡ map (renamed marks) ws → vs ≡ ws
  public-once [] [] same = refl
  public-once [] (w ∷ ws) same = absurd (cc)
  public-once (v ∷ vs) [] same = absurd (cc)
  public-once (v ∷ vs) (w ∷ ws) same =
      let here : renamed marks v ≡ renamed marks w = cc in
      let rest : map (renamed marks) vs ≡ map (renamed marks) ws = cc in
      ap₂ (λ x xs. x ∷ xs) (renamed-once v w here) (public-once vs ws rest)

  -- two values with equal own blocks are one or equal
  own-differ : (i j : ℕ) (x y : Op) → with_operands_by (refreshed marks i) (renamed marks) x ≡ with_operands_by (refreshed marks j) (renamed marks) y
      → (i ≡ j) ⊎ (x ≡ y)
  own-differ i j x y same =
      let few : 0 + length (shared_operands x) ≤ 2 = omega (arith, operands-few x, length-append (shared_operands x) (public_operands x)) in
      let op_same : operator x ≡ operator y =
      sym (operator-laid (refreshed marks i) (renamed marks) x) ∙ ap operator same ∙ operator-laid (refreshed marks j) (renamed marks) y in
      let shared_same : places (refreshed marks i) 0 (shared_operands x) ≡ places (refreshed marks j) 0 (shared_operands y) =
      sym (shared-laid (refreshed marks i) (renamed marks) x) ∙ ap shared_operands same ∙ shared-laid (refreshed marks j) (renamed marks) y in
      let public_same : map (renamed marks) (public_operands x) ≡ map (renamed marks) (public_operands y) =
      sym (public-laid (refreshed marks i) (renamed marks) x) ∙ ap public_operands same ∙ public-laid (refreshed marks j) (renamed marks) y in
      elim (shared-once i j 0 (shared_operands x) (shared_operands y) few shared_same) [
        | inl one ↦ inl one
        | inr equal ↦ inr (same-op x y op_same (ap₂ (λ vs ws. vs ++ ws) equal (public-once (public_operands x) (public_operands y) public_same)))
      ]

-- a block is a refresh, or the own block of a value
pub record IsOwn (marks : Marks) (values : List Op) (a : ℕ) (op : Op) : Type 0 where
  pub value : ℕ
  pub own : Op
  pub there : slice_get values value ≡ Some own
  pub place : a ≡ own_block marks value
  pub is : with_operands_by (refreshed marks value) (renamed marks) own ≡ op

-- each is
pub refresh-or-own : (marks : Marks) (values : List Op) (a : ℕ) (op : Op) → slice_get (blocks_from marks 0 values) a ≡ Some op
    → IsRefresh op ⊎ IsOwn marks values a op
refresh-or-own marks values a op there = elim (each-block marks values a (slice_get_within (blocks_from marks 0 values) a op there)) [
  | inl own ↦
      let x : Op = get_or values own.0 (Const 0) in
      let at : slice_get values own.0 ≡ Some x = slice_get-get_or values own.0 (Const 0) own.1 in
      inr (record {
        value = own.0;
        own = x;
        there = at;
        place = own.2;
        is = same_Some (with_operands_by (refreshed marks own.0) (renamed marks) x) op
            (sym (own-there marks values own.0 x at) ∙ ap (slice_get (blocks_from marks 0 values)) (sym own.2) ∙ there);
      })
  | inr fresh ↦
      let x : Op = get_or values fresh.0 (Const 0) in
      let at : slice_get values fresh.0 ≡ Some x = slice_get-get_or values fresh.0 (Const 0) fresh.2 in
      let v : Operand = renamed marks (slice_index_or (shared_operands x) fresh.1 (Secret 0)) in
      let is : Refresh v ≡ op =
      same_Some (Refresh v) op
      (sym (refresh-there marks values fresh.0 fresh.1 x at fresh.3 fresh.4) ∙ ap (slice_get (blocks_from marks 0 values)) (sym fresh.5) ∙ there) in
      inl (subst IsRefresh is tt)
]

-- equal values are one, where values differ
value-once : (s : Values) → AllDiffer s → (i j : ℕ) (x y : Op) → slice_get s.values i ≡ Some x → slice_get s.values j ≡ Some y → x ≡ y → i ≡ j
value-once s differ i j x y first second equal = elim (cases_order i j) [
  | inl same ↦ same
  | inr other ↦ elim other [
    | inl before ↦ absurd (differ i j x y before first second equal)
    | inr behind ↦ absurd (differ j i y x behind second first (sym equal))
  ]
]

-- equal blocks are refreshes or one, where values differ
pub laid-different : (marks : Marks) (s : Values) → AllDiffer s → AllDifferButRefreshes (laid_out marks s).blocks
laid-different marks s differ a b op first second = elim (refresh-or-own marks s.values a op first) [
  | inl fresh ↦ inl fresh
  | inr x ↦ elim (refresh-or-own marks s.values b op second) [
    | inl fresh ↦ inl fresh
    | inr y ↦
        let same : x.value ≡ y.value = elim (own-differ marks x.value y.value x.own y.own (x.is ∙ sym y.is)) [
          | inl one ↦ one
          | inr equal ↦ value-once s differ x.value y.value x.own y.own x.there y.there equal
        ] in
        inr (x.place ∙ ap (own_block marks) same ∙ sym y.place)
  ]
]
