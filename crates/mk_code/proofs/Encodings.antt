-- The law of encodings: what looks past one share of each secret has the same total, whatever the
-- secrets are.
use Rattle.std.proofs.Common.{◌≡◌, ◌≢◌, ℕ, zero, suc, ◌+◌, ◌*◌, ◌^◌, ◌<◌, ◌≤◌, List, [], ◌∷◌, ◌++◌, length, take, drop, slice_index, bit_xor, refl, sym, ◌∙◌, ap, subst, arith, pow_pos, zero-mul, suc-mul, mul-suc, get_or-append-add}
use Rattle.std.proofs.lemmas.List.{take_at, drop_at, get_or_append_left}
use Rattle.mk_field.specs.declared.field.FieldId.{FieldId}
use Rattle.mk_field.specs.Field.{bits}
use Rattle.mk_field.specs.Sharing.{field_sum, added, encoding, encodings}
use Rattle.mk_field.proofs.Sum.{sum-below, sum-cancel, sum-left_comm, sum-assoc, sum-zero_right, field_sum-added, length-added}
use Rattle.mk_code.specs.Counting.{total, one_if_equal, AllBelow, Elements}
use Rattle.mk_code.specs.Private.{observation}
use Rattle.mk_code.specs.Shares.{AgreeBut, LooksPast, EncodingLaw, EncodingsLaw}
use Rattle.mk_code.proofs.Totals.{Elements-cons, Elements-append, Elements-take, Elements-drop, total-same, total-split, total-moved}
use Rattle.mk_code.proofs.LeftOut.{IsLeftOut, left_out}

-- the sum of elements below a power of 2 is below it
pub field_sum-below : (k : ℕ) (xs : List ℕ) → AllBelow (2 ^ k) xs → field_sum xs < 2 ^ k
unfolding field_sum AllBelow
field_sum-below k [] below = pow_pos k
field_sum-below k (x ∷ xs) below = sum-below k x (field_sum xs) below.0 (field_sum-below k xs below.1)

-- the encoding of an element is made of elements
pub Elements-encoding : (k order x : ℕ) (s : List ℕ) → x < 2 ^ k → Elements (2 ^ k) order s → Elements (2 ^ k) (suc order) (encoding x s)
Elements-encoding k order x s below here =
    Elements-cons (2 ^ k) order (bit_xor x (field_sum s)) s (sum-below k x (field_sum s) below (field_sum-below k s here.below)) here

-- two lists of elements added
pub AllBelow-added : (k : ℕ) (d s : List ℕ) → AllBelow (2 ^ k) d → AllBelow (2 ^ k) s → AllBelow (2 ^ k) (added d s)
unfolding AllBelow added
AllBelow-added k [] s left right = right
AllBelow-added k (x ∷ d) [] left right = left
AllBelow-added k (x ∷ d) (a ∷ s) left right = (sum-below k x a left.0 right.0, AllBelow-added k d s left.1 right.1)

-- v at position n behind zeros
lone : ℕ → ℕ → List ℕ
lone zero v = v ∷ []
lone (suc n) v = 0 ∷ lone n v

-- its length
length-lone : (n v : ℕ) → length (lone n v) ≡ suc n
unfolding lone
length-lone zero v = refl
length-lone (suc n) v = ap suc (length-lone n v)

-- its sum
field_sum-lone : (n v : ℕ) → field_sum (lone n v) ≡ v
unfolding lone field_sum
field_sum-lone zero v = sum-zero_right v
field_sum-lone (suc n) v = field_sum-lone n v

-- its numbers
AllBelow-lone : (k n v : ℕ) → v < 2 ^ k → AllBelow (2 ^ k) (lone n v)
unfolding lone AllBelow
AllBelow-lone k zero v below = (below, tt)
AllBelow-lone k (suc n) v below = (omega arith, AllBelow-lone k n v below)

-- added to a list it changes that position only
added-lone : (n v : ℕ) (s : List ℕ) (j : ℕ) → n < length s → j ≢ n → slice_index (added (lone n v) s) j ≡ slice_index s j
unfolding lone added
added-lone n v [] j fits other = absurd (omega arith)
added-lone zero v (a ∷ s) zero fits other = absurd (other refl)
added-lone zero v (a ∷ s) (suc j) fits other = refl
added-lone (suc n) v (a ∷ s) zero fits other = refl
added-lone (suc n) v (a ∷ s) (suc j) fits other = added-lone n v s j (omega arith) (λ e. other (ap suc e))

-- what the elements are moved by where share f is hidden and the secret changes by v
move : ℕ → ℕ → List ℕ
move zero v = []
move (suc f) v = lone f v

-- the moved elements show the same shares of the other secret, but for the hidden one
encoding-moved : (f x y : ℕ) (s : List ℕ) (j : ℕ) → f ≤ length s → j ≢ f
    → slice_index (encoding x s) j ≡ slice_index (encoding y (added (move f (bit_xor x y)) s)) j
unfolding move added
encoding-moved zero x y s zero fits other = absurd (other refl)
encoding-moved zero x y s (suc j) fits other = refl
encoding-moved (suc f) x y s zero fits other = sym (
    ap (bit_xor y) (field_sum-added (lone f (bit_xor x y)) s ∙ ap (λ (n : ℕ). bit_xor n (field_sum s)) (field_sum-lone f (bit_xor x y)) ∙ sum-assoc x y (field_sum s))
    ∙ sum-left_comm y x (bit_xor y (field_sum s))
    ∙ ap (bit_xor x) (sum-cancel y (field_sum s)))
encoding-moved (suc f) x y s (suc j) fits other = sym (added-lone f (bit_xor x y) s j (omega arith) (λ e. other (ap suc e)))

-- the move is no longer than the tape, and made of elements
move-fits : (f v order : ℕ) → f ≤ order → length (move f v) ≤ order
unfolding move
move-fits zero v order fits = omega arith
move-fits (suc f) v order fits = omega (arith, length-lone f v)

-- the move is made of elements
AllBelow-move : (k f v : ℕ) → v < 2 ^ k → AllBelow (2 ^ k) (move f v)
unfolding move AllBelow
AllBelow-move k zero v below = tt
AllBelow-move k (suc f) v below = AllBelow-lone k f v below

-- one secret: what looks past one share has the same total over all encodings
pub encoding-law : (k order f x y : ℕ) (h : List ℕ → ℕ) → f ≤ order → x < 2 ^ k → y < 2 ^ k
    → ((u v : List ℕ) → Elements (2 ^ k) (suc order) u → Elements (2 ^ k) (suc order) v
    → ((j : ℕ) → j ≢ f → slice_index u j ≡ slice_index v j) → h u ≡ h v)
    → total (2 ^ k) order (λ s. h (encoding x s)) ≡ total (2 ^ k) order (λ s. h (encoding y s))
encoding-law k order f x y h fits left right looks =
    let d = move f (bit_xor x y) in
    let short : length d ≤ order = move-fits f (bit_xor x y) order fits in
    let below : AllBelow (2 ^ k) d = AllBelow-move k f (bit_xor x y) (sum-below k x y left right) in
    total-same (2 ^ k) order (λ s. h (encoding x s)) (λ s. h (encoding y (added d s))) (λ s here.
    looks (encoding x s) (encoding y (added d s)) (Elements-encoding k order x s left here)
    (Elements-encoding k order y (added d s) right (record {
      count = length-added d s (omega (arith, here.count)) ∙ here.count;
      below = AllBelow-added k d s below here.below;
    }))
    (λ j other. encoding-moved f x y s j (omega (arith, here.count)) other))
    ∙ total-moved k order d (λ s. h (encoding y s)) short below

-- the encodings of one secret more
encodings-cons : (order x : ℕ) (xs a b : List ℕ) → length a ≡ order
    → encodings order (x ∷ xs) (a ++ b) ≡ encoding x a ++ encodings order xs b
unfolding encodings
encodings-cons order x xs a b long =
    ap (λ (l : List ℕ). encoding x l ++ encodings order xs (drop order (a ++ b))) (take_at a b order long)
    ∙ ap (λ (l : List ℕ). encoding x a ++ encodings order xs l) (drop_at a b order long)

-- a total over the encodings of one secret more
total-encodings-cons : (q order n x : ℕ) (xs : List ℕ) (h : List ℕ → ℕ)
    → total q (order * suc n) (λ s. h (encodings order (x ∷ xs) s))
    ≡ total q order (λ a. total q (order * n) (λ b. h (encoding x a ++ encodings order xs b)))
total-encodings-cons q order n x xs h =
    let e : order * suc n ≡ order + order * n = omega (arith, mul-suc order n) in
    ap (λ (m : ℕ). total q m (λ s. h (encodings order (x ∷ xs) s))) e
    ∙ total-split q order (order * n) (λ s. h (encodings order (x ∷ xs) s))
    ∙ total-same q order (λ a. total q (order * n) (λ b. h (encodings order (x ∷ xs) (a ++ b)))) (λ a. total q (order * n) (λ b. h (encoding x a ++ encodings order xs b)))
    (λ a here. total-same q (order * n) (λ b. h (encodings order (x ∷ xs) (a ++ b))) (λ b. h (encoding x a ++ encodings order xs b))
    (λ b there. ap h (encodings-cons order x xs a b here.count)))

-- the shares of one value, and those of n others
joined : (q order n : ℕ) (e u : List ℕ) → Elements q (suc order) e → Elements q (n * (order + 1)) u → Elements q (suc n * (order + 1)) (e ++ u)
joined q order n e u front back =
    let count : suc order + n * (order + 1) ≡ suc n * (order + 1) = omega (arith, suc-mul n (order + 1)) in
    subst (λ (m : ℕ). Elements q m (e ++ u)) count (Elements-append q (suc order) (n * (order + 1)) e u front back)

-- the encodings of elements are made of elements
pub Elements-encodings : (k order n : ℕ) (xs s : List ℕ) → Elements (2 ^ k) n xs → Elements (2 ^ k) (order * n) s
    → Elements (2 ^ k) (n * (order + 1)) (encodings order xs s)
unfolding encodings AllBelow
Elements-encodings k order zero [] s secrets here = record { count = omega (arith, zero-mul (order + 1)); below = tt }
Elements-encodings k order zero (x ∷ xs) s secrets here = absurd (omega (arith, secrets.count))
Elements-encodings k order (suc n) [] s secrets here = absurd (omega (arith, secrets.count))
Elements-encodings k order (suc n) (x ∷ xs) s secrets here =
    let e : order * suc n ≡ order + order * n = omega (arith, mul-suc order n) in
    let parts : Elements (2 ^ k) (order + order * n) s = subst (λ (m : ℕ). Elements (2 ^ k) m s) e here in
    let front = Elements-encoding k order x (take order s) secrets.below.0 (Elements-take (2 ^ k) order (order * n) s parts) in
    let back = Elements-encodings k order n xs (drop order s) (record { count = omega (arith, secrets.count); below = secrets.below.1 })
    (Elements-drop (2 ^ k) order (order * n) s parts) in
    joined (2 ^ k) order n (encoding x (take order s)) (encodings order xs (drop order s)) front back

-- a share of the first of several values
first-share : (order j : ℕ) (e u : List ℕ) → length e ≡ suc order → j ≤ order → slice_index (e ++ u) (0 * (order + 1) + j) ≡ slice_index e j
first-share order j e u long fits =
    let position : 0 * (order + 1) + j ≡ j = omega (arith, zero-mul (order + 1)) in
    ap (slice_index (e ++ u)) position ∙ get_or_append_left e u 0 j (omega arith)

-- a share of a value behind the first
later-share : (order i j : ℕ) (e u : List ℕ) → length e ≡ suc order → slice_index (e ++ u) (suc i * (order + 1) + j) ≡ slice_index u (i * (order + 1) + j)
later-share order i j e u long =
    let position : suc i * (order + 1) + j ≡ length e + (i * (order + 1) + j) = omega (arith, suc-mul i (order + 1), long) in
    ap (slice_index (e ++ u)) position ∙ get_or-append-add e u (i * (order + 1) + j) 0

-- equal shares of the first value, and others that are equal but for the hidden ones
agree-behind : (order n : ℕ) (hidden : ℕ → ℕ) (e u v : List ℕ) → length e ≡ suc order
    → AgreeBut order n (λ i. hidden (suc i)) u v → AgreeBut order (suc n) hidden (e ++ u) (e ++ v)
agree-behind order n hidden e u v long agree = record { shares = shares } where
  shares : (i j : ℕ) → i < suc n → j ≤ order → j ≢ hidden i
      → slice_index (e ++ u) (i * (order + 1) + j) ≡ slice_index (e ++ v) (i * (order + 1) + j)
  shares zero j first fits other = first-share order j e u long fits ∙ sym (first-share order j e v long fits)
  shares (suc i) j first fits other =
      later-share order i j e u long ∙ agree.shares i j (omega arith) fits other ∙ sym (later-share order i j e v long)

-- shares of the first value that are equal but for the hidden one, and equal others
agree-before : (order n : ℕ) (hidden : ℕ → ℕ) (d e u : List ℕ) → length d ≡ suc order → length e ≡ suc order
    → ((j : ℕ) → j ≢ hidden 0 → slice_index d j ≡ slice_index e j) → AgreeBut order (suc n) hidden (d ++ u) (e ++ u)
agree-before order n hidden d e u left right agree = record { shares = shares } where
  shares : (i j : ℕ) → i < suc n → j ≤ order → j ≢ hidden i
      → slice_index (d ++ u) (i * (order + 1) + j) ≡ slice_index (e ++ u) (i * (order + 1) + j)
  shares zero j first fits other = first-share order j d u left fits ∙ agree j other ∙ sym (first-share order j e u right fits)
  shares (suc i) j first fits other = later-share order i j d u left ∙ sym (later-share order i j e u right)

-- several secrets: what looks past one share of each has the same total over all encodings
pub encodings-law : (k order n : ℕ) (hidden : ℕ → ℕ) (h : List ℕ → ℕ) (xs ys : List ℕ)
    → ((i : ℕ) → hidden i ≤ order) → LooksPast (2 ^ k) order n hidden h
    → Elements (2 ^ k) n xs → Elements (2 ^ k) n ys
    → total (2 ^ k) (order * n) (λ s. h (encodings order xs s)) ≡ total (2 ^ k) (order * n) (λ s. h (encodings order ys s))
unfolding AllBelow
encodings-law k order zero hidden h [] [] within looks left right = refl
encodings-law k order zero hidden h (x ∷ xs) ys within looks left right = absurd (omega (arith, left.count))
encodings-law k order zero hidden h [] (y ∷ ys) within looks left right = absurd (omega (arith, right.count))
encodings-law k order (suc n) hidden h [] ys within looks left right = absurd (omega (arith, left.count))
encodings-law k order (suc n) hidden h (x ∷ xs) [] within looks left right = absurd (omega (arith, right.count))
encodings-law k order (suc n) hidden h (x ∷ xs) (y ∷ ys) within looks left right =
    let q : ℕ = 2 ^ k in
    let lefts : Elements q n xs = record { count = omega (arith, left.count); below = left.below.1 } in
    let rights : Elements q n ys = record { count = omega (arith, right.count); below = right.below.1 } in
    total-encodings-cons q order n x xs h
    ∙ total-same q order (λ a. total q (order * n) (λ b. h (encoding x a ++ encodings order xs b))) (λ a. total q (order * n) (λ b. h (encoding x a ++ encodings order ys b)))
    (λ a here.
    let e : Elements q (suc order) (encoding x a) = Elements-encoding k order x a left.below.0 here in
    encodings-law k order n (λ i. hidden (suc i)) (λ u. h (encoding x a ++ u)) xs ys (λ i. within (suc i))
    (record {
      same = λ u v first second agree.
          looks.same (encoding x a ++ u) (encoding x a ++ v) (joined q order n (encoding x a) u e first) (joined q order n (encoding x a) v e second)
          (agree-behind order n hidden (encoding x a) u v e.count agree);
    })
    lefts rights)
    ∙ encoding-law k order (hidden 0) x y (λ e. total q (order * n) (λ b. h (e ++ encodings order ys b))) (within 0) left.below.0 right.below.0
    (λ d e first second agree.
    total-same q (order * n) (λ b. h (d ++ encodings order ys b)) (λ b. h (e ++ encodings order ys b)) (λ b there.
    let u : Elements q (n * (order + 1)) (encodings order ys b) = Elements-encodings k order n ys b rights there in
    looks.same (d ++ encodings order ys b) (e ++ encodings order ys b) (joined q order n d (encodings order ys b) first u) (joined q order n e (encodings order ys b) second u)
    (agree-before order n hidden d e (encodings order ys b) first.count second.count agree)))
    ∙ sym (total-encodings-cons q order n y ys h)

-- positions that leave f out show the same of lists that are equal but at f
pub observation-left_out : (f : ℕ) (positions u v : List ℕ) → IsLeftOut f positions
    → ((j : ℕ) → j ≢ f → slice_index u j ≡ slice_index v j) → observation positions u ≡ observation positions v
unfolding IsLeftOut
observation-left_out f [] u v out agree = refl
observation-left_out f (p ∷ ps) u v out agree =
    let here : slice_index u p ≡ slice_index v p = agree p out.0 in
    let rest : observation ps u ≡ observation ps v = observation-left_out f ps u v out.1 agree in
    cc

-- in each field at most `order` shares of an encoding are each list of values in equally many ways
pub EncodingLaw-holds : (field : FieldId) → EncodingLaw field
EncodingLaw-holds field order first second indexes seen left right few =
    let found : (f : ℕ) × (f < suc order) × IsLeftOut f indexes = left_out (suc order) indexes (omega arith) in
    encoding-law (bits field) order found.0 first second (λ e. one_if_equal (observation indexes e) seen) (omega (arith, found.1)) left right
    (λ u v here there agree. ap (λ (l : List ℕ). one_if_equal l seen) (observation-left_out found.0 indexes u v found.2 agree))

-- in each field what looks past one share of each secret has the same total over all encodings
pub EncodingsLaw-holds : (field : FieldId) → EncodingsLaw field
EncodingsLaw-holds field order count hidden h first second within looks left right =
    encodings-law (bits field) order count hidden h first second within looks left right
