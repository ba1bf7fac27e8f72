-- A sum over all tapes is a sum over their numbers.
use Rattle.std.proofs.Common.{◌≡◌, ℕ, zero, suc, ◌+◌, ◌-◌, ◌*◌, ◌/◌, ◌%◌, ◌^◌, ◌<◌, ◌≤◌, List, [], ◌∷◌, ◌++◌, length, take, drop, refl, length-append, sym, ap, ◌∙◌, arith, inl, inr, append_assoc, length-set, zero-add, add-one}
use Rattle.std.specs.Prelude.{slice_set, slice_index}
use Rattle.std.proofs.Math.Nat.{mod-lt, pow-suc, pow-zero}
use Rattle.std.proofs.lemmas.Nat.{mod-mul-add, div-mul-add}
use Rattle.std.proofs.lemmas.List.{take_more_set, take_at, length-map}
use Rattle.mk_field.specs.declared.field.FieldId.{FieldId}
use Rattle.mk_field.specs.Field.{size}
use Rattle.mk_field.specs.Sharing.{encodings}
use Rattle.mk_code.specs.Counting.{sum_below, total, one_if_equal, Elements}
use Rattle.mk_code.specs.Listing.{Listing, trace_len}
use Rattle.mk_code.specs.Private.{observation, masked_trace, spent, ways}
use Rattle.mk_code.specs.Trace.{randoms}
use Rattle.mk_code.proofs.Matching.{one_if_equal-self, one_if_equal-cases}
use Rattle.mk_code.proofs.Runs.{length-run}
use Rattle.mk_field.proofs.Sum.{zero-element}
use Rattle.mk_code.proofs.Sums.{sum_below-same, sum_below-exchange}
use Rattle.mk_code.proofs.Totals.{Elements-nil, Elements-cons, Elements-take}
use Rattle.mk_run.specs.Refusals.{tapes, tape_len}
use Rattle.mk_run.specs.Tapes.{numbered}
use Rattle.mk_run.proofs.Shares.{Elements-of, encodings-elements}

-- the next digit, written in its place
pub numbered-next : (q i number : ℕ) (xs : List ℕ) → i < length xs
    → take (i + 1) (slice_set xs i (number % q)) ++ numbered q (length (slice_set xs i (number % q)) - (i + 1)) (number / q)
    ≡ take i xs ++ numbered q (length xs - i) number
unfolding numbered
numbered-next q i number xs below =
    let long : length (slice_set xs i (number % q)) ≡ length xs = length-set xs i (number % q) in
    let left : length xs - i ≡ suc (length xs - (i + 1)) = omega (arith, below) in
    ap (λ (n : ℕ). take (i + 1) (slice_set xs i (number % q)) ++ numbered q (n - (i + 1)) (number / q)) long
    ∙ ap (λ (front : List ℕ). front ++ numbered q (length xs - (i + 1)) (number / q)) (take_more_set xs i (number % q) below)
    ∙ append_assoc (take i xs) (number % q ∷ []) (numbered q (length xs - (i + 1)) (number / q))
    ∙ sym (ap (λ (n : ℕ). take i xs ++ numbered q n number) left)

-- the tape of a number has elements
pub numbered-elements : (q n number : ℕ) → 0 < q → Elements q n (numbered q n number)
unfolding numbered
numbered-elements q zero number some = Elements-nil q
numbered-elements q (suc n) number some = Elements-cons q n (number % q) (numbered q n (number / q)) (mod-lt number some) (numbered-elements q n (number / q) some)

-- the numbers below m + n are those below m and then n more
sum_below-plus : (m n : ℕ) (f : ℕ → ℕ) → sum_below (m + n) f ≡ sum_below m f + sum_below n (λ a. f (m + a))
unfolding sum_below
sum_below-plus m zero f =
    let none : m + 0 ≡ m = omega arith in
    let same : sum_below (m + 0) f ≡ sum_below m f = ap (λ (k : ℕ). sum_below k f) none in
    omega (arith, same)
sum_below-plus m (suc n) f =
    let more : m + suc n ≡ suc (m + n) = omega arith in
    let same : sum_below (m + suc n) f ≡ sum_below (m + n) f + f (m + n) = ap (λ (k : ℕ). sum_below k f) more in
    omega (arith, same, sum_below-plus m n f)

-- the numbers below m * q, row by row
sum_below-rows : (q m : ℕ) (f : ℕ → ℕ) → sum_below (m * q) f ≡ sum_below m (λ r. sum_below q (λ a. f (r * q + a)))
unfolding sum_below
sum_below-rows q zero f =
    let none : 0 * q ≡ 0 = omega arith in
    ap (λ (k : ℕ). sum_below k f) none
sum_below-rows q (suc m) f =
    let more : suc m * q ≡ m * q + q = omega arith in
    ap (λ (k : ℕ). sum_below k f) more ∙ sum_below-plus (m * q) q f
    ∙ ap (λ (n : ℕ). n + sum_below q (λ a. f (m * q + a))) (sum_below-rows q m f)

-- a sum over all tapes
pub total-numbered : (q n : ℕ) (g : List ℕ → ℕ) → total q n g ≡ sum_below (q ^ n) (λ i. g (numbered q n i))
unfolding total sum_below numbered
total-numbered q zero g =
    let one : q ^ 0 ≡ 1 = pow-zero q in
    sym (zero-add (g [])) ∙ sym (ap (λ (k : ℕ). sum_below k (λ i. g [])) one)
total-numbered q (suc n) g =
    sum_below-same q (λ a. total q n (λ rest. g (a ∷ rest))) (λ a. sum_below (q ^ n) (λ r. g (a ∷ numbered q n r)))
    (λ a below. total-numbered q n (λ rest. g (a ∷ rest)))
    ∙ sum_below-exchange q (q ^ n) (λ a r. g (a ∷ numbered q n r))
    ∙ sum_below-same (q ^ n) (λ r. sum_below q (λ a. g (a ∷ numbered q n r))) (λ r. sum_below q (λ a. g ((r * q + a) % q ∷ numbered q n ((r * q + a) / q))))
    (λ r below. sum_below-same q (λ a. g (a ∷ numbered q n r)) (λ a. g ((r * q + a) % q ∷ numbered q n ((r * q + a) / q)))
    (λ a lt. sym (ap (λ (b : ℕ). g (b ∷ numbered q n ((r * q + a) / q))) (mod-mul-add r q a lt) ∙ ap (λ (k : ℕ). g (a ∷ numbered q n k)) (div-mul-add r q a lt))))
    ∙ sym (sum_below-rows q (q ^ n) (λ i. g (i % q ∷ numbered q n (i / q))))
    ∙ sym (ap (λ (k : ℕ). sum_below k (λ i. g (i % q ∷ numbered q n (i / q)))) (pow-suc q n))

-- the tapes with the numbers below `count` that show a tuple
abbrev pub shown_by : Listing → List ℕ → List ℕ → List ℕ → ℕ → List ℕ → ℕ
shown_by code publics secrets probes count tuple =
    sum_below count (λ i. one_if_equal (observation probes (masked_trace code publics secrets (numbered (size code.field) (tape_len code) i))) tuple)

-- those below the number of tapes are all
pub shown-all : (code : Listing) (publics secrets probes tuple : List ℕ)
    → ways code publics secrets probes tuple ≡ shown_by code publics secrets probes (tapes code) tuple
shown-all code publics secrets probes tuple =
    total-numbered (size code.field) (tape_len code) (λ tape. one_if_equal (observation probes (masked_trace code publics secrets tape)) tuple)

-- at most one
one_if_equal-le : (xs ys : List ℕ) → one_if_equal xs ys ≤ 1
one_if_equal-le xs ys = elim (one_if_equal-cases xs ys) [
  | inl same ↦ omega (arith, one_if_equal-self xs, ap (one_if_equal xs) (sym same))
  | inr nothing ↦ omega (arith, nothing)
]

-- so many tapes, and no more
pub shown-le : (code : Listing) (publics secrets probes : List ℕ) (count : ℕ) (tuple : List ℕ)
    → shown_by code publics secrets probes count tuple ≤ count
unfolding sum_below
shown-le code publics secrets probes zero tuple = omega arith
shown-le code publics secrets probes (suc n) tuple =
    let here = one_if_equal-le (observation probes (masked_trace code publics secrets (numbered (size code.field) (tape_len code) n))) tuple in
    omega (arith, here, shown-le code publics secrets probes n tuple)

-- one more tape
pub shown-next : (code : Listing) (publics secrets probes : List ℕ) (count : ℕ) (tuple : List ℕ)
    → shown_by code publics secrets probes (count + 1) tuple
    ≡ shown_by code publics secrets probes count tuple
    + one_if_equal (observation probes (masked_trace code publics secrets (numbered (size code.field) (tape_len code) count))) tuple
unfolding sum_below
shown-next code publics secrets probes count tuple = ap (λ (n : ℕ). shown_by code publics secrets probes n tuple) (add-one count)

-- no tape yet
pub shown-none : (code : Listing) (publics secrets probes tuple : List ℕ) → shown_by code publics secrets probes 0 tuple ≡ 0
unfolding sum_below
shown-none code publics secrets probes tuple = refl

-- a tape that is written into a buffer
pub tape-of : (code : Listing) (field : FieldId) (number len : ℕ) (items lent new : List ℕ) → field ≡ code.field → length items ≡ tape_len code
    → lent ≡ items → len ≡ length items → new ≡ numbered (size field) (length lent) number
    → take len (new ++ drop (length new) items) ≡ numbered (size code.field) (tape_len code) number
tape-of code field number len items lent new same long lend room written =
    let n = tape_len code in
    let q = size code.field in
    let whole : new ≡ numbered q n number =
    written ∙ ap (λ (k : ℕ). numbered (size field) k number) (ap length lend ∙ long) ∙ ap (λ (f : FieldId). numbered (size f) n number) same in
    let count : length new ≡ n = ap length whole ∙ (numbered-elements q n number (zero-element code.field)).count in
    take_at new (drop (length new) items) len (omega (arith, count, room, long)) ∙ whole

-- what is seen, written into a buffer
pub seen-of : (probes entries items new : List ℕ) (len : ℕ) → length items ≡ length probes → len ≡ length items → new ≡ observation probes entries
    → take len (new ++ drop (length new) items) ≡ observation probes entries
seen-of probes entries items new len long room seen =
    let count : length new ≡ length probes = ap length seen ∙ length-map probes (λ p. slice_index entries p) in
    take_at new (drop (length new) items) len (omega (arith, count, room, long)) ∙ seen

-- a whole trace has all entries
pub masked-length : (code : Listing) (publics secrets tape : List ℕ) → Elements (size code.field) code.publics publics → Elements (size code.field) code.secrets secrets
    → Elements (size code.field) (tape_len code) tape → length (masked_trace code publics secrets tape) ≡ trace_len code
masked-length code publics secrets tape fits known elements =
    let q = size code.field in
    let front : Elements q (spent code) (take (spent code) tape) = Elements-take q (spent code) (randoms code.instrs) tape elements in
    let shares = encodings code.order secrets (take (spent code) tape) in
    let count = (encodings-elements code.field code.order code.secrets secrets (take (spent code) tape) known (Elements-of q (take (spent code) tape) front.below) (omega (arith, front.count))).count in
    let inputs = length-append shares publics in
    let all = length-run code.field code.maps code.instrs (drop (spent code) tape) (shares ++ publics) in
    omega (arith, all, inputs, count, fits.count)
