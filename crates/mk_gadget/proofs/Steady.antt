-- Gadgets that work share by share are steady, and so are gadgets without shared operands.
use Rattle.std.proofs.Common.{arith, ◌≡◌, ◌≢◌, ◌⊎◌, ℕ, zero, suc, ◌+◌, ◌*◌, ◌<◌, ◌≤◌, List, [], ◌∷◌, ◌++◌, length, map, nat_eq, if◌then◌else◌, slice_index, inl, inr, refl, sym, ◌∙◌, ap, subst}
use Rattle.std.specs.List.{range_with_len, Contains}
use Rattle.std.proofs.lemmas.List.{length-append, get_or_append_left, get_or-append_right, get_or-append-add}
use Rattle.std.proofs.lemmas.List.Elements.{Contains-append_left, Contains-append_right}
use Rattle.std.proofs.lemmas.List.FromFn.{length-map-range_with_len, get_or-map-range_with_len}
use Rattle.std.proofs.Math.Nat.{mul-le-mul_left}
use Rattle.std.proofs.Math.Dec.{eqb-suc-zero}
use Rattle.mk_field.specs.declared.field.FieldId.{FieldId}
use Rattle.mk_field.specs.declared.map.AddMap.{AddMap}
use Rattle.mk_field.specs.Field.{size, product, square, image_by}
use Rattle.mk_code.specs.declared.instr.Instr.{Instr}
use Rattle.mk_code.specs.declared.instr.Instr.TheVariants.{Rnd, Const, Copy, Add, Mul, Sq, Map}
use Rattle.mk_code.specs.Listing.{FitsAt}
use Rattle.mk_code.specs.Trace.{run, randoms, takes, entry}
use Rattle.mk_code.specs.Counting.{one_if_equal, AllBelow}
use Rattle.mk_code.specs.Private.{observation}
use Rattle.mk_code.proofs.Totals.{total-same}
use Rattle.mk_ssa.specs.declared.Op.{Op}
use Rattle.mk_ssa.specs.declared.Op.TheVariants as op
use Rattle.mk_ssa.specs.Kinds.{Strong, kind, shared_operands, public_operands}
use Rattle.mk_gadget.specs.Gadget.{Gadget}
use Rattle.mk_gadget.specs.Template.{single, rows, lift, addition, public_addition, scaling, squaring, mapping, template}
use Rattle.mk_gadget.specs.Steady.{block_view, block_ways, IsSteady}
use Rattle.mk_gadget.proofs.Ranges.{observed-behind}
use Rattle.mk_gadget.proofs.Rows.{Still, run-rows}

-- the instruction reads only positions of these, and isn't random
abbrev pub ReadsOnly : (ℕ → Type 0) → Instr → Type 0
ReadsOnly Own Rnd = ⊥
ReadsOnly Own (Const value) = Unit {0}
ReadsOnly Own (Copy from) = Own from
ReadsOnly Own (Add left right) = Own left × Own right
ReadsOnly Own (Mul left right) = Own left × Own right
ReadsOnly Own (Sq from) = Own from
ReadsOnly Own (Map map from) = Own from

-- a position of share i of an operand, or behind the shares
abbrev pub IsOfShare : ℕ → ℕ → ℕ → ℕ → Type 0
IsOfShare n m i q = ((k : ℕ) × (k < m) × (q ≡ n * k + i)) ⊎ (n * m ≤ q)

-- states that are the same at what an instruction reads give it the same value
entry-same : (field : FieldId) (maps : List AddMap) (Own : ℕ → Type 0) (i : Instr) (u v : List ℕ)
    → ((q : ℕ) → Own q → slice_index u q ≡ slice_index v q) → ReadsOnly Own i → entry field maps i 0 u ≡ entry field maps i 0 v
entry-same field maps Own Rnd u v same reads = absurd reads
entry-same field maps Own (Const value) u v same reads = refl
entry-same field maps Own (Copy from) u v same reads = same from reads
entry-same field maps Own (Add left right) u v same reads =
    let a : slice_index u left ≡ slice_index v left = same left reads.0 in
    let b : slice_index u right ≡ slice_index v right = same right reads.1 in
    cc
entry-same field maps Own (Mul left right) u v same reads =
    ap (λ (a : ℕ). product field a (slice_index u right)) (same left reads.0)
    ∙ ap (product field (slice_index v left)) (same right reads.1)
entry-same field maps Own (Sq from) u v same reads = ap (square field) (same from reads)
entry-same field maps Own (Map map from) u v same reads = ap (image_by maps map) (same from reads)

-- a share of one of m operands stands among the shares
pub share-inside : (n m k i : ℕ) → k < m → i < n → n * k + i < n * m
share-inside n m k i first below =
    let step : n * (k + 1) ≤ n * m = mul-le-mul_left n (omega (arith, first)) in
    omega (arith, step, below)

-- states with the same share i of each operand and the same publics are the same at its positions
same-at : (n m i : ℕ) (first second publics : List ℕ) → i < n → length first ≡ n * m → length second ≡ n * m
    → ((k : ℕ) → k < m → slice_index first (n * k + i) ≡ slice_index second (n * k + i))
    → (q : ℕ) → IsOfShare n m i q → slice_index (first ++ publics) q ≡ slice_index (second ++ publics) q
same-at n m i first second publics below left right same q own = elim own [
  | inl share ↦
      let inside : n * share.0 + i < n * m = share-inside n m share.0 i share.1 below in
      get_or_append_left first publics 0 q (omega (arith, inside, share.2, left))
      ∙ ap (slice_index first) share.2 ∙ same share.0 share.1 ∙ ap (slice_index second) (sym share.2)
      ∙ sym (get_or_append_left second publics 0 q (omega (arith, inside, share.2, right)))
  | inr behind ↦
      get_or-append_right first publics (n * m) q 0 left behind ∙ sym (get_or-append_right second publics (n * m) q 0 right behind)
]

-- functions that agree at the numbers of a list make the same list of it
pub map-same : (f g : ℕ → ℕ) (xs : List ℕ) → ((i : ℕ) → Contains xs i → f i ≡ g i) → map f xs ≡ map g xs
map-same f g [] same = refl
map-same f g (x ∷ xs) same =
    let here : f x ≡ g x = same x (0, omega arith, refl) in
    let rest : map f xs ≡ map g xs = map-same f g xs (λ i held. same i (suc held.0, omega (arith, held.1), held.2)) in
    cc

-- an element of a list of numbers below n
pub below-held : (n : ℕ) (xs : List ℕ) (i : ℕ) → AllBelow n xs → Contains xs i → i < n
unfolding AllBelow
below-held n [] i below held = absurd (omega (arith, held.1))
below-held n (x ∷ xs) i below (zero, inside, here) = omega (arith, below.0, here)
below-held n (x ∷ xs) i below (suc k, inside, here) = below-held n xs i below.1 (k, omega (arith, inside), here)

-- the values of a row are seen at the positions behind the entries
seen-behind : (f : ℕ → ℕ) (n : ℕ) (entries probes : List ℕ) → AllBelow n probes
    → observation (map (λ k. length entries + k) probes) (entries ++ map f (range_with_len 0 n)) ≡ map f probes
unfolding AllBelow
seen-behind f n entries [] below = refl
seen-behind f n entries (x ∷ xs) below =
    let more : List ℕ = map f (range_with_len 0 n) in
    let here : slice_index (entries ++ more) (length entries + x) ≡ f x =
    get_or-append-add entries more x 0 ∙ get_or-map-range_with_len f 0 n x x 0 below.0 (omega arith) in
    let rest : observation (map (λ k. length entries + k) xs) (entries ++ more) ≡ map f xs = seen-behind f n entries xs below.1 in
    cc

-- the values of a row, seen by number
seen-row : (f : ℕ → ℕ) (n : ℕ) (outs : List ℕ) → AllBelow n outs → observation outs (map f (range_with_len 0 n)) ≡ map f outs
unfolding AllBelow
seen-row f n [] below = refl
seen-row f n (x ∷ xs) below =
    let here : slice_index (map f (range_with_len 0 n)) x ≡ f x = get_or-map-range_with_len f 0 n x x 0 below.0 (omega arith) in
    let rest : observation xs (map f (range_with_len 0 n)) ≡ map f xs = seen-row f n xs below.1 in
    cc

-- what is seen of a gadget of rows are the rows' values
rows-view : (field : FieldId) (maps : List AddMap) (j n b : ℕ) (row : ℕ → Instr) (tape state probes outs : List ℕ) → length state ≡ b
    → Still field j b row 0 n → AllBelow n probes → AllBelow n outs
    → block_view (length state) (rows n b row) probes outs (run field maps (map row (range_with_len 0 n)) tape state)
    ≡ map (λ i. entry field maps (row i) 0 state) probes ++ map (λ i. entry field maps (row i) 0 state) outs
rows-view field maps j n b row tape state probes outs len still inside within =
    let f : ℕ → ℕ = λ i. entry field maps (row i) 0 state in
    let more : List ℕ = map f (range_with_len 0 n) in
    let bank : observation (range_with_len b n) (state ++ more) ≡ more =
    ap (λ (k : ℕ). observation (range_with_len k n) (state ++ more)) (sym len)
    ∙ observed-behind state more n (length-map-range_with_len f 0 n) in
    ap (block_view (length state) (rows n b row) probes outs)
    (run-rows field maps j row tape state 0 n (subst (λ (k : ℕ). Still field j k row 0 n) (sym len) still))
    ∙ ap (λ (xs : List ℕ). xs ++ observation outs (observation (range_with_len b n) (state ++ more))) (seen-behind f n state probes inside)
    ∙ ap (λ (xs : List ℕ). map f probes ++ observation outs xs) bank
    ∙ ap (λ (xs : List ℕ). map f probes ++ xs) (seen-row f n outs within)

-- a gadget of n rows, of which row i reads share i of the operands and public positions alone, is steady: what
-- is asked for are the numbers of the probed rows
pub rows-steady : (field : FieldId) (maps : List AddMap) (j n m p b : ℕ) (row : ℕ → Instr) → b ≡ n * m + p
    → Still field j b row 0 n → ((i : ℕ) → i < n → ReadsOnly (IsOfShare n m i) (row i))
    → IsSteady field maps n m p (rows n b row)
rows-steady field maps j n m p b row base still own probes within =
    let inside : AllBelow n probes = subst (λ (k : ℕ). AllBelow k probes) (length-map-range_with_len row 0 n) within in (
      probes,
      omega arith,
      λ outs few first second publics seen left right given same.
          let value : List ℕ → ℕ → ℕ = λ state i. entry field maps (row i) 0 state in
          let u : List ℕ = first ++ publics in
          let v : List ℕ = second ++ publics in
          let at : (i : ℕ) → Contains (probes ++ outs) i → i < n → value u i ≡ value v i =
          λ i held below. entry-same field maps (IsOfShare n m i) (row i) u v
          (same-at n m i first second publics below left.count right.count (λ k lt. same k i lt below held)) (own i below) in
          let equal : map (value u) probes ++ map (value u) outs ≡ map (value v) probes ++ map (value v) outs =
          ap (λ (xs : List ℕ). xs ++ map (value u) outs)
          (map-same (value u) (value v) probes (λ i held. at i (Contains-append_left probes outs i held) (below-held n probes i inside held)))
          ∙ ap (λ (xs : List ℕ). map (value v) probes ++ xs)
          (map-same (value u) (value v) outs (λ i held. at i (Contains-append_right probes outs i held) (below-held n outs i few held))) in
          total-same (size field) (randoms (map row (range_with_len 0 n))) _ _ (λ tape here.
          ap (λ (xs : List ℕ). one_if_equal xs seen)
          (rows-view field maps j n b row tape u probes outs (omega (arith, length-append first publics, left.count, given.count, base)) still inside few
          ∙ equal
          ∙ sym (rows-view field maps j n b row tape v probes outs (omega (arith, length-append second publics, right.count, given.count, base)) still inside few))),
    )

-- no elements are the empty list
pub nothing : (q : ℕ) (xs : List ℕ) → length xs ≡ 0 → xs ≡ []
nothing q [] none = refl
nothing q (x ∷ xs) none = absurd (omega (arith, none))

-- a gadget without shared operands is steady: it asks for nothing
pub unshared-steady : (field : FieldId) (maps : List AddMap) (n p : ℕ) (gadget : Gadget) → IsSteady field maps n 0 p gadget
unshared-steady field maps n p gadget probes within = (
  [],
  omega arith,
  λ outs few first second publics seen left right given same.
      let none : n * 0 ≡ 0 = omega arith in
      let equal : first ≡ second = nothing 0 first (left.count ∙ none) ∙ sym (nothing 0 second (right.count ∙ none)) in
      ap (λ (xs : List ℕ). block_ways field maps gadget (xs ++ publics) probes outs seen) equal,
)

-- share i of the first operand
first-own : (n m i : ℕ) → 0 < m → IsOfShare n m i i
first-own n m i some = inl (0, some, omega arith)

-- share i of the second
second-own : (n m i : ℕ) → 1 < m → IsOfShare n m i (n + i)
second-own n m i two = inl (1, two, omega arith)

-- a sum, share by share
pub addition-steady : (field : FieldId) (maps : List AddMap) (n : ℕ) → IsSteady field maps n 2 0 (addition n)
addition-steady field maps n =
    rows-steady field maps 0 n 2 0 (2 * n) (λ i. Add i (n + i)) (omega arith)
    (λ i low high. ((omega (arith, high), omega (arith, high)), refl))
    (λ i below. (first-own n 2 i (omega arith), second-own n 2 i (omega arith)))

-- the rows of a sum with a public value
public_addition-row-own : (field : FieldId) (n i : ℕ) → i < n
    → (FitsAt field 0 (n + 1) (if nat_eq i 0 then Add 0 n else Copy i) × (takes (if nat_eq i 0 then Add 0 n else Copy i) ≡ 0))
    × ReadsOnly (IsOfShare n 1 i) (if nat_eq i 0 then Add 0 n else Copy i)
public_addition-row-own field n zero below =
    (((omega arith, omega arith), refl), (first-own n 1 0 (omega arith), inr (omega arith)))
public_addition-row-own field n (suc i) below = rw (eqb-suc-zero i) ((omega (arith, below), refl), first-own n 1 (suc i) (omega arith))

-- a sum with a public value
pub public_addition-steady : (field : FieldId) (maps : List AddMap) (n : ℕ) → IsSteady field maps n 1 1 (public_addition n)
public_addition-steady field maps n =
    rows-steady field maps 0 n 1 1 (n + 1) (λ i. if nat_eq i 0 then Add 0 n else Copy i) (omega arith)
    (λ i low high. (public_addition-row-own field n i (omega (arith, high))).0)
    (λ i below. (public_addition-row-own field n i below).1)

-- a product with a public value
pub scaling-steady : (field : FieldId) (maps : List AddMap) (n : ℕ) → IsSteady field maps n 1 1 (scaling n)
scaling-steady field maps n =
    rows-steady field maps 0 n 1 1 (n + 1) (λ i. Mul i n) (omega arith)
    (λ i low high. ((omega (arith, high), omega arith), refl))
    (λ i below. (first-own n 1 i (omega arith), inr (omega arith)))

-- a square
pub squaring-steady : (field : FieldId) (maps : List AddMap) (n : ℕ) → IsSteady field maps n 1 0 (squaring n)
squaring-steady field maps n =
    rows-steady field maps 0 n 1 0 n (λ i. Sq i) (omega arith)
    (λ i low high. (omega (arith, high), refl))
    (λ i below. first-own n 1 i (omega arith))

-- the image under a map
pub mapping-steady : (field : FieldId) (maps : List AddMap) (n map : ℕ) → IsSteady field maps n 1 0 (mapping n map)
mapping-steady field maps n map =
    rows-steady field maps (suc map) n 1 0 n (λ i. Map map i) (omega arith)
    (λ i low high. ((omega arith, omega (arith, high)), refl))
    (λ i below. first-own n 1 i (omega arith))

-- the template of an operator that isn't strong is steady
pub template-steady : (field : FieldId) (maps : List AddMap) (n : ℕ) (product refresh : Gadget) (op : Op) → kind op ≢ Strong
    → IsSteady field maps n (length (shared_operands op)) (length (public_operands op)) (template n product refresh op)
template-steady field maps n product refresh (op.Const value) weak = unshared-steady field maps n 0 (single 0 (Const value))
template-steady field maps n product refresh (op.PubAdd left right) weak = unshared-steady field maps n 2 (single 2 (Add 0 1))
template-steady field maps n product refresh (op.PubMul left right) weak = unshared-steady field maps n 2 (single 2 (Mul 0 1))
template-steady field maps n product refresh (op.PubSq arg) weak = unshared-steady field maps n 1 (single 1 (Sq 0))
template-steady field maps n product refresh (op.PubMap map arg) weak = unshared-steady field maps n 1 (single 1 (Map map 0))
template-steady field maps n product refresh (op.Lift arg) weak = unshared-steady field maps n 1 (lift n)
template-steady field maps n product refresh (op.Add left right) weak = addition-steady field maps n
template-steady field maps n product refresh (op.AddPub left right) weak = public_addition-steady field maps n
template-steady field maps n product refresh (op.Scale left right) weak = scaling-steady field maps n
template-steady field maps n product refresh (op.Sq arg) weak = squaring-steady field maps n
template-steady field maps n product refresh (op.Map map arg) weak = mapping-steady field maps n map
template-steady field maps n product refresh (op.Mul left right) weak = absurd (weak refl)
template-steady field maps n product refresh (op.Refresh arg) weak = absurd (weak refl)
