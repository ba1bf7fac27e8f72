-- The linear gadgets, placed: their rows, their out banks, and the values that these share.
use Rattle.std.proofs.Common.{arith, ◌≡◌, ℕ, zero, suc, ◌+◌, ◌-◌, ◌*◌, ◌<◌, ◌≤◌, List, [], ◌∷◌, ◌++◌, length, map, replicate, nat_eq, if◌then◌else◌, slice_index, bit_xor, refl, sym, ◌∙◌, ap}
use Rattle.std.specs.List.{range_with_len}
use Rattle.std.proofs.lemmas.List.{length-append, get_or-append-add}
use Rattle.std.proofs.lemmas.Bool.{lt-ltb}
use Rattle.std.proofs.Math.Dec.{eqb-suc-zero}
use Rattle.mk_field.specs.declared.field.FieldId.{FieldId}
use Rattle.mk_field.specs.declared.map.AddMap.{AddMap}
use Rattle.mk_field.specs.Field.{size, product, square, image_by}
use Rattle.mk_field.specs.Sharing.{field_sum}
use Rattle.mk_field.proofs.Sum.{sum-zero_right, zero-element}
use Rattle.mk_field.proofs.Product.{product-sum_left, product-zero_left, square-sum, image-sum, image-zero}
use Rattle.mk_code.specs.declared.instr.Instr.{Instr}
use Rattle.mk_code.specs.declared.instr.Instr.TheVariants.{Const, Copy, Add, Mul, Sq, Map}
use Rattle.mk_code.specs.Listing.{FitsAt}
use Rattle.mk_code.specs.Trace.{entry, takes}
use Rattle.mk_code.specs.Counting.{AllBelow}
use Rattle.mk_gadget.specs.Gadget.{placement, moved, placed}
use Rattle.mk_gadget.specs.Emitted.{Gives, shared_at}
use Rattle.mk_gadget.specs.Template.{addition, public_addition, scaling, squaring, mapping, lift}
use Rattle.mk_gadget.proofs.Ranges.{map-range-same, map-map-range, range-moved, placement-left, placement-right, placement-own, observed-by_index, field_sum-sums}
use Rattle.mk_code.proofs.Steps.{AllBelow-at}
use Rattle.mk_gadget.proofs.Rows.{rows-give, field_sum-additive, first, field_sum-first}

-- the rows, by the banks of the operands: here the two shares of a row are added
abbrev pub addition-row : List ℕ → List ℕ → ℕ → Instr
addition-row xs ys i = Add (slice_index xs i) (slice_index ys i)

-- the public value is added to share 0, and the other shares are copied
abbrev pub public_addition-row : List ℕ → ℕ → ℕ → Instr
public_addition-row xs p zero = Add (slice_index xs 0) p
public_addition-row xs p (suc i) = Copy (slice_index xs (suc i))

-- each share is multiplied by the public value
abbrev pub scaling-row : List ℕ → ℕ → ℕ → Instr
scaling-row xs p i = Mul (slice_index xs i) p

-- each share is squared
abbrev pub squaring-row : List ℕ → ℕ → Instr
squaring-row xs i = Sq (slice_index xs i)

-- each share goes through the map
abbrev pub mapping-row : ℕ → List ℕ → ℕ → Instr
mapping-row map xs i = Map map (slice_index xs i)

-- share 0 is the public value, and the others are zero
abbrev pub lift-row : ℕ → ℕ → Instr
lift-row p zero = Copy p
lift-row p (suc i) = Const 0

-- a position of the only operand stands where it is
pub placement-only : (xs : List ℕ) (base i : ℕ) → i < length xs → placement xs base i ≡ slice_index xs i
placement-only xs base i below = rw (lt-ltb i (length xs) below) refl

-- the position of the public operand behind a shared one
pub placement-public : (xs : List ℕ) (p base n : ℕ) → length xs ≡ n → placement (xs ++ p ∷ []) base n ≡ p
placement-public xs p base n count =
    let inside : n < length (xs ++ p ∷ []) = omega (arith, length-append xs (p ∷ []), count) in
    let at : n ≡ length xs + 0 = omega (arith, count) in
    rw (lt-ltb n (length (xs ++ p ∷ [])) inside) (ap (slice_index (xs ++ p ∷ [])) at ∙ get_or-append-add xs (p ∷ []) 0 0)

-- the out bank of a gadget that ends with it
pub outs-behind : (reads : List ℕ) (base k n : ℕ) → length reads ≡ k → map (placement reads base) (range_with_len k n) ≡ range_with_len base n
outs-behind reads base k n count =
    map-range-same (placement reads base) (λ i. base + (i - k)) k n
    (λ i low high. placement-own reads base i (omega (arith, low, count)) ∙ ap (λ (j : ℕ). base + (i - j)) count)
    ∙ range-moved k base n

-- two banks of n shares have 2 n positions
pub two-banks : (xs ys : List ℕ) (n : ℕ) → length xs ≡ n → length ys ≡ n → length (xs ++ ys) ≡ 2 * n
two-banks xs ys n left right = omega (arith, length-append xs ys, left, right)

-- a bank of n shares and a public position have n + 1 positions
pub bank-and-one : (xs : List ℕ) (p n : ℕ) → length xs ≡ n → length (xs ++ p ∷ []) ≡ n + 1
bank-and-one xs p n count = omega (arith, length-append xs (p ∷ []), count)

-- the sum of two shared values, placed, has these rows
pub addition-placed : (n base : ℕ) (xs ys : List ℕ) → length xs ≡ n → length ys ≡ n
    → placed (xs ++ ys) base (addition n) ≡ map (addition-row xs ys) (range_with_len 0 n)
addition-placed n base xs ys left right =
    map-map-range (moved (placement (xs ++ ys) base)) (λ i. Add i (n + i)) 0 n
    ∙ map-range-same (λ i. moved (placement (xs ++ ys) base) (Add i (n + i))) (addition-row xs ys) 0 n
    (λ i low high.
    ap (λ (a : ℕ). Add a (placement (xs ++ ys) base (n + i))) (placement-left xs ys base n i left (omega (arith, high)))
    ∙ ap (λ (b : ℕ). Add (slice_index xs i) b) (placement-right xs ys base n i left right (omega (arith, high))))

-- an instruction of a public addition, placed, is its row
public_addition-moved : (n base : ℕ) (xs : List ℕ) (p : ℕ) → length xs ≡ n → (i : ℕ) → i < n
    → moved (placement (xs ++ p ∷ []) base) (if nat_eq i 0 then Add 0 n else Copy i) ≡ public_addition-row xs p i
public_addition-moved n base xs p count zero below =
    ap (λ (a : ℕ). Add a (placement (xs ++ p ∷ []) base n)) (placement-left xs (p ∷ []) base n 0 count below)
    ∙ ap (λ (b : ℕ). Add (slice_index xs 0) b) (placement-public xs p base n count)
public_addition-moved n base xs p count (suc i) below = rw (eqb-suc-zero i) (ap Copy (placement-left xs (p ∷ []) base n (suc i) count below))

-- a public addition, placed, has these rows
pub public_addition-placed : (n base : ℕ) (xs : List ℕ) (p : ℕ) → length xs ≡ n
    → placed (xs ++ p ∷ []) base (public_addition n) ≡ map (public_addition-row xs p) (range_with_len 0 n)
public_addition-placed n base xs p count =
    map-map-range (moved (placement (xs ++ p ∷ []) base)) (λ i. if nat_eq i 0 then Add 0 n else Copy i) 0 n
    ∙ map-range-same (λ i. moved (placement (xs ++ p ∷ []) base) (if nat_eq i 0 then Add 0 n else Copy i)) (public_addition-row xs p) 0 n
    (λ i low high. public_addition-moved n base xs p count i (omega (arith, high)))

-- the rows behind the first copy their shares
pub public_addition-later : (xs : List ℕ) (p i : ℕ) → 1 ≤ i → Copy (slice_index xs i) ≡ public_addition-row xs p i
public_addition-later xs p zero later = absurd (omega (arith, later))
public_addition-later xs p (suc i) later = refl

-- a scaling, placed, has these rows
pub scaling-placed : (n base : ℕ) (xs : List ℕ) (p : ℕ) → length xs ≡ n
    → placed (xs ++ p ∷ []) base (scaling n) ≡ map (scaling-row xs p) (range_with_len 0 n)
scaling-placed n base xs p count =
    map-map-range (moved (placement (xs ++ p ∷ []) base)) (λ i. Mul i n) 0 n
    ∙ map-range-same (λ i. moved (placement (xs ++ p ∷ []) base) (Mul i n)) (scaling-row xs p) 0 n
    (λ i low high.
    ap (λ (a : ℕ). Mul a (placement (xs ++ p ∷ []) base n)) (placement-left xs (p ∷ []) base n i count (omega (arith, high)))
    ∙ ap (λ (b : ℕ). Mul (slice_index xs i) b) (placement-public xs p base n count))

-- a squaring, placed, has these rows
pub squaring-placed : (n base : ℕ) (xs : List ℕ) → length xs ≡ n → placed xs base (squaring n) ≡ map (squaring-row xs) (range_with_len 0 n)
squaring-placed n base xs count =
    map-map-range (moved (placement xs base)) (λ i. Sq i) 0 n
    ∙ map-range-same (λ i. moved (placement xs base) (Sq i)) (squaring-row xs) 0 n
    (λ i low high. ap Sq (placement-only xs base i (omega (arith, high, count))))

-- a mapping, placed, has these rows
pub mapping-placed : (n base m : ℕ) (xs : List ℕ) → length xs ≡ n → placed xs base (mapping n m) ≡ map (mapping-row m xs) (range_with_len 0 n)
mapping-placed n base m xs count =
    map-map-range (moved (placement xs base)) (λ i. Map m i) 0 n
    ∙ map-range-same (λ i. moved (placement xs base) (Map m i)) (mapping-row m xs) 0 n
    (λ i low high. ap (Map m) (placement-only xs base i (omega (arith, high, count))))

-- the rows behind the first are zero
pub lift-later : (p i : ℕ) → 1 ≤ i → Const 0 ≡ lift-row p i
lift-later p zero later = absurd (omega (arith, later))
lift-later p (suc i) later = refl

-- the zeros of a lift are its rows behind the first
lift-zeros : (to : ℕ → ℕ) (p a n : ℕ) → 1 ≤ a → map (moved to) (replicate n (Const 0)) ≡ map (lift-row p) (range_with_len a n)
lift-zeros to p a zero least = refl
lift-zeros to p a (suc n) least =
    ap (λ (x : Instr). x ∷ map (moved to) (replicate n (Const 0))) (lift-later p a least)
    ∙ ap (λ (xs : List Instr). lift-row p a ∷ xs) (lift-zeros to p (a + 1) n (omega (arith, least)))

-- a lift, placed, has these rows
pub lift-placed : (n base p : ℕ) → 1 ≤ n → placed (p ∷ []) base (lift n) ≡ map (lift-row p) (range_with_len 0 n)
lift-placed zero base p least = absurd (omega (arith, least))
lift-placed (suc n) base p least =
    let rest : suc n - 1 ≡ n = omega arith in
    ap (λ (k : ℕ). Copy p ∷ map (moved (placement (p ∷ []) base)) (replicate k (Const 0))) rest
    ∙ ap (λ (xs : List Instr). Copy p ∷ xs) (lift-zeros (placement (p ∷ []) base) p 1 n (omega arith))

-- what stands at the position of a share
abbrev at : List ℕ → List ℕ → ℕ → ℕ
at entries xs i = slice_index entries (slice_index xs i)

-- what stands at the positions of the shares has the shared value as sum
at-sum : (entries xs : List ℕ) (n : ℕ) → length xs ≡ n → field_sum (map (at entries xs) (range_with_len 0 n)) ≡ shared_at xs entries
at-sum entries xs n count = ap field_sum (sym (observed-by_index entries xs n count))

-- what stands at the position of a share is an element of the field
at-element : (field : FieldId) (entries xs : List ℕ) (n base : ℕ) → length xs ≡ n → AllBelow base xs → length entries ≡ base → AllBelow (size field) entries
    → (i : ℕ) → 0 ≤ i → i < 0 + n → at entries xs i < size field
at-element field entries xs n base count here len elements i low high =
    AllBelow-at (size field) entries (slice_index xs i) elements (omega (arith, AllBelow-at base xs i here (omega (arith, high, count)), len))

-- the sum of two shared values, placed, gives the sum of both
pub addition-gives : (field : FieldId) (maps : List AddMap) (n base : ℕ) (xs ys : List ℕ) → length xs ≡ n → length ys ≡ n → AllBelow base xs → AllBelow base ys
    → Gives field maps n base (xs ++ ys) (addition n) (λ entries. bit_xor (shared_at xs entries) (shared_at ys entries))
addition-gives field maps n base xs ys left right here there =
    rows-give field maps 0 n base (xs ++ ys) (addition n) (λ entries. bit_xor (shared_at xs entries) (shared_at ys entries)) (addition-row xs ys)
    (addition-placed n base xs ys left right) (outs-behind (xs ++ ys) base (2 * n) n (two-banks xs ys n left right))
    (λ i low high. ((AllBelow-at base xs i here (omega (arith, high, left)), AllBelow-at base ys i there (omega (arith, high, right))), refl))
    (λ entries len elements.
    field_sum-sums (at entries xs) (at entries ys) 0 n
    ∙ ap (λ (a : ℕ). bit_xor a (field_sum (map (at entries ys) (range_with_len 0 n)))) (at-sum entries xs n left)
    ∙ ap (bit_xor (shared_at xs entries)) (at-sum entries ys n right))

-- the rows of a public addition read only what stands before them, and take no random element
public_addition-still : (field : FieldId) (m n base : ℕ) (xs : List ℕ) (p : ℕ) → length xs ≡ n → AllBelow base xs → p < base
    → (i : ℕ) → i < n → FitsAt field m base (public_addition-row xs p i) × (takes (public_addition-row xs p i) ≡ 0)
public_addition-still field m n base xs p count here there zero below = ((AllBelow-at base xs 0 here (omega (arith, below, count)), there), refl)
public_addition-still field m n base xs p count here there (suc i) below = (AllBelow-at base xs (suc i) here (omega (arith, below, count)), refl)

-- such a row has its share as value, to which the public value is added in the first
public_addition-entry : (field : FieldId) (maps : List AddMap) (entries xs : List ℕ) (p i : ℕ)
    → entry field maps (public_addition-row xs p i) 0 entries ≡ bit_xor (at entries xs i) (first (slice_index entries p) i)
public_addition-entry field maps entries xs p zero = refl
public_addition-entry field maps entries xs p (suc i) = sym (sum-zero_right (at entries xs (suc i)))

-- a public addition, placed, gives the shared value plus the public one
pub public_addition-gives : (field : FieldId) (maps : List AddMap) (n base : ℕ) (xs : List ℕ) (p : ℕ) → 1 ≤ n → length xs ≡ n → AllBelow base xs → p < base
    → Gives field maps n base (xs ++ p ∷ []) (public_addition n) (λ entries. bit_xor (shared_at xs entries) (slice_index entries p))
public_addition-gives field maps n base xs p least count here there =
    rows-give field maps 0 n base (xs ++ p ∷ []) (public_addition n) (λ entries. bit_xor (shared_at xs entries) (slice_index entries p)) (public_addition-row xs p)
    (public_addition-placed n base xs p count) (outs-behind (xs ++ p ∷ []) base (n + 1) n (bank-and-one xs p n count))
    (λ i low high. public_addition-still field 0 n base xs p count here there i (omega (arith, high)))
    (λ entries len elements.
    let q : ℕ = slice_index entries p in
    ap field_sum (map-range-same (λ i. entry field maps (public_addition-row xs p i) 0 entries) (λ i. bit_xor (at entries xs i) (first q i)) 0 n
    (λ i low high. public_addition-entry field maps entries xs p i))
    ∙ field_sum-sums (at entries xs) (first q) 0 n
    ∙ ap (λ (a : ℕ). bit_xor a (field_sum (map (first q) (range_with_len 0 n)))) (at-sum entries xs n count)
    ∙ ap (bit_xor (shared_at xs entries)) (field_sum-first q n least))

-- a scaling, placed, gives the shared value times the public one
pub scaling-gives : (field : FieldId) (maps : List AddMap) (n base : ℕ) (xs : List ℕ) (p : ℕ) → length xs ≡ n → AllBelow base xs → p < base
    → Gives field maps n base (xs ++ p ∷ []) (scaling n) (λ entries. product field (shared_at xs entries) (slice_index entries p))
scaling-gives field maps n base xs p count here there =
    rows-give field maps 0 n base (xs ++ p ∷ []) (scaling n) (λ entries. product field (shared_at xs entries) (slice_index entries p)) (scaling-row xs p)
    (scaling-placed n base xs p count) (outs-behind (xs ++ p ∷ []) base (n + 1) n (bank-and-one xs p n count))
    (λ i low high. ((AllBelow-at base xs i here (omega (arith, high, count)), there), refl))
    (λ entries len elements.
    let q : ℕ = slice_index entries p in
    field_sum-additive field (λ a. product field a q) (at entries xs) 0 n (λ a b left right. product-sum_left field a b q left right) (product-zero_left field q)
    (at-element field entries xs n base count here len elements)
    ∙ ap (λ (a : ℕ). product field a q) (at-sum entries xs n count))

-- a squaring, placed, gives the square of the shared value
pub squaring-gives : (field : FieldId) (maps : List AddMap) (n base : ℕ) (xs : List ℕ) → length xs ≡ n → AllBelow base xs
    → Gives field maps n base xs (squaring n) (λ entries. square field (shared_at xs entries))
squaring-gives field maps n base xs count here =
    rows-give field maps 0 n base xs (squaring n) (λ entries. square field (shared_at xs entries)) (squaring-row xs)
    (squaring-placed n base xs count) (outs-behind xs base n n count)
    (λ i low high. (AllBelow-at base xs i here (omega (arith, high, count)), refl))
    (λ entries len elements.
    field_sum-additive field (square field) (at entries xs) 0 n (square-sum field) (product-zero_left field 0)
    (at-element field entries xs n base count here len elements)
    ∙ ap (square field) (at-sum entries xs n count))

-- a mapping, placed, gives the image of the shared value under the map
pub mapping-gives : (field : FieldId) (maps : List AddMap) (n base m : ℕ) (xs : List ℕ) → m < length maps → length xs ≡ n → AllBelow base xs
    → Gives field maps n base xs (mapping n m) (λ entries. image_by maps m (shared_at xs entries))
mapping-gives field maps n base m xs there count here =
    rows-give field maps (length maps) n base xs (mapping n m) (λ entries. image_by maps m (shared_at xs entries)) (mapping-row m xs)
    (mapping-placed n base m xs count) (outs-behind xs base n n count)
    (λ i low high. ((there, AllBelow-at base xs i here (omega (arith, high, count))), refl))
    (λ entries len elements.
    field_sum-additive field (image_by maps m) (at entries xs) 0 n (λ a b left right. image-sum _ a b) (image-zero _)
    (at-element field entries xs n base count here len elements)
    ∙ ap (image_by maps m) (at-sum entries xs n count))

-- the rows of a lift read only what stands before them, and take no random element
lift-still : (field : FieldId) (base p : ℕ) → p < base → (i : ℕ) → FitsAt field 0 base (lift-row p i) × (takes (lift-row p i) ≡ 0)
lift-still field base p there zero = (there, refl)
lift-still field base p there (suc i) = (zero-element field, refl)

-- such a row has the public value in the first position, and zero in the others
lift-entry : (field : FieldId) (maps : List AddMap) (entries : List ℕ) (p i : ℕ) → entry field maps (lift-row p i) 0 entries ≡ first (slice_index entries p) i
lift-entry field maps entries p zero = refl
lift-entry field maps entries p (suc i) = refl

-- a lift, placed, gives the public value
pub lift-gives : (field : FieldId) (maps : List AddMap) (n base p : ℕ) → 1 ≤ n → p < base
    → Gives field maps n base (p ∷ []) (lift n) (λ entries. slice_index entries p)
lift-gives field maps n base p least there =
    rows-give field maps 0 n base (p ∷ []) (lift n) (λ entries. slice_index entries p) (lift-row p)
    (lift-placed n base p least) (outs-behind (p ∷ []) base 1 n refl)
    (λ i low high. lift-still field base p there i)
    (λ entries len elements.
    ap field_sum (map-range-same (λ i. entry field maps (lift-row p i) 0 entries) (first (slice_index entries p)) 0 n (λ i low high. lift-entry field maps entries p i))
    ∙ field_sum-first (slice_index entries p) n least)
