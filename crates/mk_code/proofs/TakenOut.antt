-- An element of the tape that hides a value which doesn't depend on it.
use Rattle.std.proofs.Common.{◌≡◌, ◌≢◌, ℕ, zero, suc, ◌+◌, ◌*◌, ◌^◌, ◌<◌, List, ◌∷◌, slice_index, nat_eq, if◌then◌else◌, bit_xor, refl, sym, ◌∙◌, ap, arith, zero-mul, suc-mul}
use Rattle.std.proofs.Math.Nat.{mul-add}
use Rattle.std.proofs.lemmas.Nat.{pow_pos}
use Rattle.mk_code.specs.Counting.{sum_below, total, one_if_equal, Elements}
use Rattle.mk_code.specs.CountingLaws.{Overlooks}
use Rattle.mk_code.proofs.Sums.{sum_below-same, sum_below-single, sum_below-moved}
use Rattle.mk_code.proofs.Totals.{Elements-cons, total-same, total-sum_below}

-- what overlooks the first element is the same for each
front-same : {A : Type 0} (q n a b : ℕ) (s : List ℕ) (f : List ℕ → A) → Overlooks q (suc n) 0 f → a < q → b < q → Elements q n s
    → f (a ∷ s) ≡ f (b ∷ s)
front-same q n a b s f over left right here =
    over.same (a ∷ s) (b ∷ s) (Elements-cons q n a s left here) (Elements-cons q n b s right here) (at a b s) where
      -- behind the first element both are the same
      at : (a b : ℕ) (s : List ℕ) (i : ℕ) → i ≢ 0 → slice_index (a ∷ s) i ≡ slice_index (b ∷ s) i
      at a b s zero other = absurd (other refl)
      at a b s (suc i) other = refl

-- what overlooks a later element does so behind a first one
behind-over : {A : Type 0} (q n j a : ℕ) (f : List ℕ → A) → a < q → Overlooks q (suc n) (suc j) f → Overlooks q n j (λ s. f (a ∷ s))
behind-over q n j a f below over = record {
  same = λ s t left right agree.
      over.same (a ∷ s) (a ∷ t) (Elements-cons q n a s below left) (Elements-cons q n a t below right) (at a j s t agree);
} where
  -- with one more in front they agree beside the element behind it
  at : (a j : ℕ) (s t : List ℕ) → ((i : ℕ) → i ≢ j → slice_index s i ≡ slice_index t i)
      → (i : ℕ) → i ≢ suc j → slice_index (a ∷ s) i ≡ slice_index (a ∷ t) i
  at a j s t agree zero other = refl
  at a j s t agree (suc i) other = agree i (λ e. other (ap suc e))

-- an element that hides a value which doesn't depend on it may stand alone
pub total-renamed : (k n j : ℕ) (v : List ℕ → ℕ) (h : ℕ → List ℕ → ℕ) → j < n
    → ((s : List ℕ) → Elements (2 ^ k) n s → v s < 2 ^ k) → Overlooks (2 ^ k) n j v → ((a : ℕ) → Overlooks (2 ^ k) n j (h a))
    → total (2 ^ k) n (λ s. h (bit_xor (v s) (slice_index s j)) s) ≡ total (2 ^ k) n (λ s. h (slice_index s j) s)
unfolding total
total-renamed k zero j v h inside below hidden over = absurd (omega arith)
total-renamed k (suc n) zero v h inside below hidden over =
    let q : ℕ = 2 ^ k in
    let some : 0 < q = pow_pos k in
    total-sum_below q q n (λ a rest. h (bit_xor (v (a ∷ rest)) a) (a ∷ rest))
    ∙ total-same q n (λ rest. sum_below q (λ a. h (bit_xor (v (a ∷ rest)) a) (a ∷ rest))) (λ rest. sum_below q (λ a. h a (a ∷ rest)))
    (λ rest here.
    let w : ℕ = v (0 ∷ rest) in
    sum_below-same q (λ a. h (bit_xor (v (a ∷ rest)) a) (a ∷ rest)) (λ a. h (bit_xor w a) (0 ∷ rest)) (λ a lt.
    ap (λ (x : ℕ). h (bit_xor x a) (a ∷ rest)) (front-same q n a 0 rest v hidden lt some here)
    ∙ front-same q n a 0 rest (h (bit_xor w a)) (over (bit_xor w a)) lt some here)
    ∙ sum_below-moved k w (λ a. h a (0 ∷ rest)) (below (0 ∷ rest) (Elements-cons q n 0 rest some here))
    ∙ sum_below-same q (λ a. h a (0 ∷ rest)) (λ a. h a (a ∷ rest)) (λ a lt. front-same q n 0 a rest (h a) (over a) some lt here))
    ∙ sym (total-sum_below q q n (λ a rest. h a (a ∷ rest)))
total-renamed k (suc n) (suc j) v h inside below hidden over =
    let q : ℕ = 2 ^ k in
    sum_below-same q (λ a. total q n (λ rest. h (bit_xor (v (a ∷ rest)) (slice_index rest j)) (a ∷ rest))) (λ a. total q n (λ rest. h (slice_index rest j) (a ∷ rest)))
    (λ a lt. total-renamed k n j (λ rest. v (a ∷ rest)) (λ b rest. h b (a ∷ rest)) (omega arith)
    (λ s here. below (a ∷ s) (Elements-cons q n a s lt here))
    (behind-over q n j a v lt hidden) (λ b. behind-over q n j a (h b) lt (over b)))

-- the sum of one number q times
sum_below-constant : (q c : ℕ) → sum_below q (λ a. c) ≡ q * c
unfolding sum_below
sum_below-constant zero c = omega (arith, zero-mul c)
sum_below-constant (suc q) c = omega (arith, sum_below-constant q c, suc-mul q c)

-- a factor before a sum
sum_below-times : (c q : ℕ) (f : ℕ → ℕ) → c * sum_below q f ≡ sum_below q (λ a. c * f a)
unfolding sum_below
sum_below-times c zero f = omega arith
sum_below-times c (suc q) f = mul-add c (sum_below q f) (f q) ∙ ap (λ (n : ℕ). n + c * f q) (sum_below-times c q f)

-- one element of the tape is each number for one in q tapes
total-single : (q n j a : ℕ) (h : List ℕ → ℕ) → j < n → a < q → Overlooks q n j h
    → q * total q n (λ s. if nat_eq (slice_index s j) a then h s else 0) ≡ total q n h
unfolding total
total-single q zero j a h inside lt over = absurd (omega arith)
total-single q (suc n) zero a h inside lt over =
    ap (λ (m : ℕ). q * m)
    (total-sum_below q q n (λ b rest. if nat_eq b a then h (b ∷ rest) else 0)
    ∙ total-same q n (λ rest. sum_below q (λ b. if nat_eq b a then h (b ∷ rest) else 0)) (λ rest. h (a ∷ rest))
    (λ rest here. sum_below-single q a (λ b. h (b ∷ rest)) lt))
    ∙ sym (sum_below-constant q (total q n (λ rest. h (a ∷ rest))))
    ∙ sum_below-same q (λ b. total q n (λ rest. h (a ∷ rest))) (λ b. total q n (λ rest. h (b ∷ rest)))
    (λ b below. total-same q n (λ rest. h (a ∷ rest)) (λ rest. h (b ∷ rest)) (λ rest here. front-same q n a b rest h over lt below here))
total-single q (suc n) (suc j) a h inside lt over =
    sum_below-times q q (λ b. total q n (λ rest. if nat_eq (slice_index rest j) a then h (b ∷ rest) else 0))
    ∙ sum_below-same q (λ b. q * total q n (λ rest. if nat_eq (slice_index rest j) a then h (b ∷ rest) else 0)) (λ b. total q n (λ rest. h (b ∷ rest)))
    (λ b below. total-single q n j a (λ rest. h (b ∷ rest)) (omega arith) lt (behind-over q n j b h below over))

-- an entry that is hidden by an element of the tape is each number for one in 2 ^ k tapes, whatever the
-- other entries are
pub total-taken_out : (k n j a : ℕ) (v : List ℕ → ℕ) (others : List ℕ → List ℕ) (seen : List ℕ) → j < n → a < 2 ^ k
    → ((s : List ℕ) → Elements (2 ^ k) n s → v s < 2 ^ k) → Overlooks (2 ^ k) n j v → Overlooks (2 ^ k) n j others
    → 2 ^ k * total (2 ^ k) n (λ s. one_if_equal (bit_xor (v s) (slice_index s j) ∷ others s) (a ∷ seen))
    ≡ total (2 ^ k) n (λ s. one_if_equal (others s) seen)
unfolding one_if_equal
total-taken_out k n j a v others seen inside lt below hidden over =
    let h : List ℕ → ℕ = λ s. one_if_equal (others s) seen in
    ap (λ (m : ℕ). 2 ^ k * m)
    (total-renamed k n j v (λ b s. if nat_eq b a then h s else 0) inside below hidden
    (λ b. record { same = λ s t left right agree. ap (λ (o : List ℕ). if nat_eq b a then one_if_equal o seen else 0) (over.same s t left right agree) }))
    ∙ total-single (2 ^ k) n j a h inside lt
    (record { same = λ s t left right agree. ap (λ (o : List ℕ). one_if_equal o seen) (over.same s t left right agree) })
