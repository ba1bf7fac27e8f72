-- What rows of instructions compute that read only what stands before all of them.
use Rattle.std.proofs.Common.{arith, ◌≡◌, ℕ, zero, suc, ◌+◌, ◌<◌, ◌≤◌, List, [], ◌∷◌, ◌++◌, length, map, drop, slice_index, bit_xor, refl, sym, ◌∙◌, ap, subst, append_assoc}
use Rattle.std.specs.List.{range_with_len}
use Rattle.std.proofs.lemmas.List.{length-append, append-nil, get_or_append_left}
use Rattle.std.proofs.lemmas.List.FromFn.{length-map-range_with_len}
use Rattle.mk_field.specs.declared.field.FieldId.{FieldId}
use Rattle.mk_field.specs.declared.map.AddMap.{AddMap}
use Rattle.mk_field.specs.Field.{size, product, square, image_by}
use Rattle.mk_field.specs.Sharing.{field_sum}
use Rattle.mk_field.proofs.Sum.{sum-in_field, sum-zero_right, zero-element}
use Rattle.mk_code.specs.declared.instr.Instr.{Instr}
use Rattle.mk_code.specs.declared.instr.Instr.TheVariants.{Rnd, Const, Copy, Add, Mul, Sq, Map}
use Rattle.mk_code.specs.Listing.{FitsAt}
use Rattle.mk_code.specs.Trace.{run, entry, takes}
use Rattle.mk_code.specs.Counting.{AllBelow}
use Rattle.mk_code.specs.Private.{observation}
use Rattle.mk_gadget.specs.Gadget.{Gadget, placed, placed_outs}
use Rattle.mk_gadget.specs.Emitted.{Gives}
use Rattle.mk_gadget.proofs.Ranges.{map-range-same, observed-behind}

-- what takes no random element has the same value over any tape, and with more entries behind
pub entry-stable : (field : FieldId) (maps : List AddMap) (m : ℕ) (i : Instr) (word other : ℕ) (entries more : List ℕ)
    → FitsAt field m (length entries) i → takes i ≡ 0
    → entry field maps i word (entries ++ more) ≡ entry field maps i other entries
entry-stable field maps m Rnd word other entries more fits none = absurd (omega (arith, none))
entry-stable field maps m (Const value) word other entries more fits none = refl
entry-stable field maps m (Copy from) word other entries more fits none = get_or_append_left entries more 0 from fits
entry-stable field maps m (Add left right) word other entries more fits none =
    let p : slice_index (entries ++ more) left ≡ slice_index entries left = get_or_append_left entries more 0 left fits.0 in
    let q : slice_index (entries ++ more) right ≡ slice_index entries right = get_or_append_left entries more 0 right fits.1 in
    cc
entry-stable field maps m (Mul left right) word other entries more fits none =
    let p : slice_index (entries ++ more) left ≡ slice_index entries left = get_or_append_left entries more 0 left fits.0 in
    let q : slice_index (entries ++ more) right ≡ slice_index entries right = get_or_append_left entries more 0 right fits.1 in
    ap (λ (a : ℕ). product field a (slice_index (entries ++ more) right)) p ∙ ap (λ (b : ℕ). product field (slice_index entries left) b) q
entry-stable field maps m (Sq from) word other entries more fits none = ap (square field) (get_or_append_left entries more 0 from fits)
entry-stable field maps m (Map map from) word other entries more fits none = ap (image_by maps map) (get_or_append_left entries more 0 from fits.1)

-- what takes no random element has the same value over any tape
pub entry-any : (field : FieldId) (maps : List AddMap) (i : Instr) (word other : ℕ) (entries : List ℕ)
    → takes i ≡ 0 → entry field maps i word entries ≡ entry field maps i other entries
entry-any field maps Rnd word other entries none = absurd (omega (arith, none))
entry-any field maps (Const value) word other entries none = refl
entry-any field maps (Copy from) word other entries none = refl
entry-any field maps (Add left right) word other entries none = refl
entry-any field maps (Mul left right) word other entries none = refl
entry-any field maps (Sq from) word other entries none = refl
entry-any field maps (Map map from) word other entries none = refl

-- an instruction that fits behind some entries fits behind more of them
pub FitsAt-later : (field : FieldId) (m len more : ℕ) (i : Instr) → len ≤ more → FitsAt field m len i → FitsAt field m more i
FitsAt-later field m len more Rnd le fits = tt
FitsAt-later field m len more (Const value) le fits = fits
FitsAt-later field m len more (Copy from) le fits = omega (arith, le, fits)
FitsAt-later field m len more (Add left right) le fits = (omega (arith, le, fits.0), omega (arith, le, fits.1))
FitsAt-later field m len more (Mul left right) le fits = (omega (arith, le, fits.0), omega (arith, le, fits.1))
FitsAt-later field m len more (Sq from) le fits = omega (arith, le, fits)
FitsAt-later field m len more (Map map from) le fits = (fits.0, omega (arith, le, fits.1))

-- each instruction of a row reads only positions below `len`, and takes no random element
abbrev pub Still : FieldId → ℕ → ℕ → (ℕ → Instr) → ℕ → ℕ → Type 0
Still field m len row a n = (i : ℕ) → a ≤ i → i < a + n → FitsAt field m len (row i) × (takes (row i) ≡ 0)

-- behind the entries stand the values of the row in order
pub run-rows : (field : FieldId) (maps : List AddMap) (m : ℕ) (row : ℕ → Instr) (tape entries : List ℕ) (a n : ℕ)
    → Still field m (length entries) row a n
    → run field maps (map row (range_with_len a n)) tape entries ≡ entries ++ map (λ i. entry field maps (row i) 0 entries) (range_with_len a n)
unfolding run
run-rows field maps m row tape entries a zero still = sym (append-nil entries)
run-rows field maps m row tape entries a (suc n) still =
    let none : takes (row a) ≡ 0 = (still a (omega arith) (omega arith)).1 in
    let v : ℕ = entry field maps (row a) 0 entries in
    let w : entry field maps (row a) (slice_index tape 0) entries ≡ v = entry-any field maps (row a) (slice_index tape 0) 0 entries none in
    let more : List ℕ = entries ++ v ∷ [] in
    let grown : length more ≡ length entries + 1 = length-append entries (v ∷ []) in
    let rest : run field maps (map row (range_with_len (a + 1) n)) (drop (takes (row a)) tape) more
    ≡ more ++ map (λ i. entry field maps (row i) 0 more) (range_with_len (a + 1) n) =
    run-rows field maps m row (drop (takes (row a)) tape) more (a + 1) n
    (λ i low high. (FitsAt-later field m (length entries) (length more) (row i) (omega (arith, grown)) (still i (omega arith) (omega arith)).0, (still i (omega arith) (omega arith)).1)) in
    let same : map (λ i. entry field maps (row i) 0 more) (range_with_len (a + 1) n) ≡ map (λ i. entry field maps (row i) 0 entries) (range_with_len (a + 1) n) =
    map-range-same (λ i. entry field maps (row i) 0 more) (λ i. entry field maps (row i) 0 entries) (a + 1) n
    (λ i low high. entry-stable field maps m (row i) 0 0 entries (v ∷ []) (still i (omega arith) (omega arith)).0 (still i (omega arith) (omega arith)).1) in
    ap (λ (x : ℕ). run field maps (map row (range_with_len (a + 1) n)) (drop (takes (row a)) tape) (entries ++ x ∷ [])) w
    ∙ rest ∙ ap (λ (xs : List ℕ). more ++ xs) same
    ∙ append_assoc entries (v ∷ []) (map (λ i. entry field maps (row i) 0 entries) (range_with_len (a + 1) n))

-- a gadget that is placed as such a row gives the sum of the row's values
pub rows-give : (field : FieldId) (maps : List AddMap) (m n base : ℕ) (reads : List ℕ) (gadget : Gadget) (value : List ℕ → ℕ) (row : ℕ → Instr)
    → placed reads base gadget ≡ map row (range_with_len 0 n)
    → placed_outs reads base gadget ≡ range_with_len base n
    → Still field m base row 0 n
    → ((entries : List ℕ) → length entries ≡ base → AllBelow (size field) entries → field_sum (map (λ i. entry field maps (row i) 0 entries) (range_with_len 0 n)) ≡ value entries)
    → Gives field maps n base reads gadget value
rows-give field maps m n base reads gadget value row rows outs still sum tape entries len elements =
    let more : List ℕ = map (λ i. entry field maps (row i) 0 entries) (range_with_len 0 n) in
    let count : length more ≡ n = length-map-range_with_len (λ i. entry field maps (row i) 0 entries) 0 n in
    let ran : run field maps (placed reads base gadget) tape entries ≡ entries ++ more =
    ap (λ (is : List Instr). run field maps is tape entries) rows
    ∙ run-rows field maps m row tape entries 0 n (subst (λ (k : ℕ). Still field m k row 0 n) (sym len) still) in
    let seen : observation (placed_outs reads base gadget) (run field maps (placed reads base gadget) tape entries) ≡ more =
    ap (λ (ps : List ℕ). observation ps (run field maps (placed reads base gadget) tape entries)) (outs ∙ ap (λ (k : ℕ). range_with_len k n) (sym len))
    ∙ ap (observation (range_with_len (length entries) n)) ran ∙ observed-behind entries more n count in
    record { count = ap length seen ∙ count; sum = ap field_sum seen ∙ sum entries len elements }

-- the sum of elements is one
pub field_sum-element : (field : FieldId) (f : ℕ → ℕ) (a n : ℕ) → ((i : ℕ) → a ≤ i → i < a + n → f i < size field)
    → field_sum (map f (range_with_len a n)) < size field
unfolding field_sum
field_sum-element field f a zero below = zero-element field
field_sum-element field f a (suc n) below =
    sum-in_field field (f a) (field_sum (map f (range_with_len (a + 1) n))) (below a (omega arith) (omega arith))
    (field_sum-element field f (a + 1) n (λ i low high. below i (omega arith) (omega arith)))

-- an additive function of a sum is the sum of its values
pub field_sum-additive : (field : FieldId) (h f : ℕ → ℕ) (a n : ℕ)
    → ((x y : ℕ) → x < size field → y < size field → h (bit_xor x y) ≡ bit_xor (h x) (h y)) → h 0 ≡ 0
    → ((i : ℕ) → a ≤ i → i < a + n → f i < size field)
    → field_sum (map (λ i. h (f i)) (range_with_len a n)) ≡ h (field_sum (map f (range_with_len a n)))
unfolding field_sum
field_sum-additive field h f a zero additive null below = sym null
field_sum-additive field h f a (suc n) additive null below =
    let rest : (i : ℕ) → a + 1 ≤ i → i < a + 1 + n → f i < size field = λ i low high. below i (omega arith) (omega arith) in
    ap (bit_xor (h (f a))) (field_sum-additive field h f (a + 1) n additive null rest)
    ∙ sym (additive (f a) (field_sum (map f (range_with_len (a + 1) n))) (below a (omega arith) (omega arith)) (field_sum-element field f (a + 1) n rest))

-- a sum of zeros
pub field_sum-zeros : (f : ℕ → ℕ) (a n : ℕ) → ((i : ℕ) → a ≤ i → i < a + n → f i ≡ 0) → field_sum (map f (range_with_len a n)) ≡ 0
unfolding field_sum
field_sum-zeros f a zero zeros = refl
field_sum-zeros f a (suc n) zeros =
    let here : f a ≡ 0 = zeros a (omega arith) (omega arith) in
    ap (λ (x : ℕ). bit_xor x (field_sum (map f (range_with_len (a + 1) n)))) here
    ∙ ap (bit_xor 0) (field_sum-zeros f (a + 1) n (λ i low high. zeros i (omega arith) (omega arith)))

-- a value, and zeros behind it
abbrev pub first : ℕ → ℕ → ℕ
first q zero = q
first q (suc i) = 0

-- behind the first of them stand zeros
first-later : (q i : ℕ) → 1 ≤ i → first q i ≡ 0
first-later q zero later = absurd (omega (arith, later))
first-later q (suc i) later = refl

-- a value and zeros behind it have that value as sum
pub field_sum-first : (q n : ℕ) → 1 ≤ n → field_sum (map (first q) (range_with_len 0 n)) ≡ q
unfolding field_sum
field_sum-first q zero least = absurd (omega (arith, least))
field_sum-first q (suc n) least =
    ap (bit_xor q) (field_sum-zeros (first q) 1 n (λ i low high. first-later q i low)) ∙ sum-zero_right q
