-- A table is the polynomial of its coefficients.
use Rattle.std.proofs.Common.{◌≡◌, ◌≢◌, ℕ, zero, suc, ◌+◌, ◌-◌, ◌≤◌, ◌<◌, ◌^◌, List, [], ◌∷◌, bit_xor, slice_index, refl, sym, ◌∙◌, ap, arith}
use Rattle.std.specs.Int.Bits.{xor_self, xor_zero_l}
use Rattle.std.specs.List.{AllByRecursion}
use Rattle.std.proofs.lemmas.Nat.{xor_lt}
use Rattle.mk_field.specs.declared.field.FieldId.TheVariants.{Gf256}
use Rattle.mk_field.specs.Field.{byte_product, raised}
use Rattle.mk_field.proofs.Sum.{sum-assoc, sum-comm, sum-cancel, sum-cancel_right}
use Rattle.mk_field.proofs.Bytes.{byte_product-below, byte_product-assoc, byte_product-comm, byte_product-one_left, byte_product-one_right, byte_product-zero_right, byte_product-sum_left, byte_product-sum_right}
use Rattle.mk_table.specs.Coefficients.{sum_from, coefficient, IsInterpolated}
use Rattle.mk_table.proofs.Sums.{sum_from-none, sum_from-first, sum_from-same, sum_from-both, sum_from-last, sum_from-times, sum_from-times_right, sum_from-below, sum_from-swap, sum_from-one, sum_from-twice}
use Rattle.mk_table.proofs.Raised.{raised-below, raised-none, raised-more, raised-255, raised-256, raised-zero}
use Rattle.mk_field.proofs.Raised.{raised-sum, zero-product}

-- the sum of the products of powers of x and a whose exponents add up to n - 1
abbrev geometric : ℕ → ℕ → ℕ → ℕ
geometric x a n = sum_from 0 n (λ k. byte_product (raised Gf256 a (n - 1 - k)) (raised Gf256 x k))

-- one more exponent: all terms so far times a, and a power of x
geometric-more : (x a n : ℕ) → x < 256 → a < 256 → geometric x a (suc n) ≡ bit_xor (byte_product a (geometric x a n)) (raised Gf256 x n)
geometric-more x a n small below =
    sum_from-last 0 n (λ k. byte_product (raised Gf256 a (suc n - 1 - k)) (raised Gf256 x k))
    ∙ (λ i. bit_xor
    (sum_from-same 0 n (λ k. byte_product (raised Gf256 a (suc n - 1 - k)) (raised Gf256 x k)) (λ k. byte_product a (byte_product (raised Gf256 a (n - 1 - k)) (raised Gf256 x k)))
    (λ k low high.
    let e : suc n - 1 - k ≡ suc (n - 1 - k) = omega arith in
    ap (λ (m : ℕ). byte_product (raised Gf256 a m) (raised Gf256 x k)) e
    ∙ ap (λ (v : ℕ). byte_product v (raised Gf256 x k)) (raised-more a (n - 1 - k))
    ∙ byte_product-assoc a (raised Gf256 a (n - 1 - k)) (raised Gf256 x k) (omega arith) (raised-below a (n - 1 - k) (omega arith)) (raised-below x k (omega arith))) i)
    (last_term i))
    ∙ ap (λ (v : ℕ). bit_xor v (raised Gf256 x n)) (sym (sum_from-times a 0 n (λ k. byte_product (raised Gf256 a (n - 1 - k)) (raised Gf256 x k))))
  where
    last_term : byte_product (raised Gf256 a (suc n - 1 - (0 + n))) (raised Gf256 x (0 + n)) ≡ raised Gf256 x n
    last_term =
        let none : suc n - 1 - (0 + n) ≡ 0 = omega arith in
        let same : 0 + n ≡ n = omega arith in
        ap (λ (m : ℕ). byte_product (raised Gf256 a m) (raised Gf256 x (0 + n))) none
        ∙ ap (λ (m : ℕ). byte_product (raised Gf256 a 0) (raised Gf256 x m)) same
        ∙ ap (λ (v : ℕ). byte_product v (raised Gf256 x n)) (raised-none a) ∙ byte_product-one_left (raised Gf256 x n) (raised-below x n (omega arith))

-- times x + a that is the sum of the powers to n
geometric-times : (x a n : ℕ) → x < 256 → a < 256 → byte_product (bit_xor x a) (geometric x a n) ≡ bit_xor (raised Gf256 x n) (raised Gf256 a n)
geometric-times x a zero small below =
    ap (byte_product (bit_xor x a)) (sum_from-none 0 (λ k. byte_product (raised Gf256 a (0 - 1 - k)) (raised Gf256 x k)))
    ∙ byte_product-zero_right (bit_xor x a)
    ∙ sym (xor_self 1) ∙ (λ i. bit_xor (sym (raised-none x) i) (sym (raised-none a) i))
geometric-times x a (suc n) small below =
    let d = bit_xor x a in
    let g = geometric x a n in
    let in_field : d < 2 ^ 8 = xor_lt 8 x a (omega arith) (omega arith) in
    let inside : g < 2 ^ 8 = sum_from-below 0 n (λ k. byte_product (raised Gf256 a (n - 1 - k)) (raised Gf256 x k)) (λ k low high. byte_product-below (raised Gf256 a (n - 1 - k)) (raised Gf256 x k) (raised-below a (n - 1 - k) (omega arith))) in
    let p = raised Gf256 x n in
    let q = raised Gf256 a n in
    let p_in : p < 2 ^ 8 = raised-below x n (omega arith) in
    let q_in : q < 2 ^ 8 = raised-below a n (omega arith) in
    ap (byte_product d) (geometric-more x a n small below)
    ∙ byte_product-sum_right d (byte_product a g) p
    ∙ (λ i. bit_xor (swapped d g in_field inside i) (byte_product-sum_left x a p (omega arith) (omega arith) i))
    ∙ ap (λ (v : ℕ). bit_xor v (bit_xor (byte_product x p) (byte_product a p))) (ap (byte_product a) (geometric-times x a n small below) ∙ byte_product-sum_right a p q)
    ∙ ap (λ (v : ℕ). bit_xor v (bit_xor (byte_product x p) (byte_product a p))) (sum-comm (byte_product a p) (byte_product a q))
    ∙ ap (bit_xor (bit_xor (byte_product a q) (byte_product a p))) (sum-comm (byte_product x p) (byte_product a p))
    ∙ sum-assoc (byte_product a q) (byte_product a p) (bit_xor (byte_product a p) (byte_product x p))
    ∙ ap (bit_xor (byte_product a q)) (sum-cancel (byte_product a p) (byte_product x p))
    ∙ sum-comm (byte_product a q) (byte_product x p)
    ∙ (λ i. bit_xor (sym (raised-more x n) i) (sym (raised-more a n) i))
  where
    swapped : (d g : ℕ) → d < 2 ^ 8 → g < 2 ^ 8 → byte_product d (byte_product a g) ≡ byte_product a (byte_product d g)
    swapped d g in_field inside =
        sym (byte_product-assoc d a g in_field (omega arith) inside)
        ∙ ap (λ (v : ℕ). byte_product v g) (byte_product-comm d a in_field (omega arith))
        ∙ byte_product-assoc a d g (omega arith) in_field inside

-- with all 256 exponents the sum is 1 where x and a differ
geometric-other : (x a : ℕ) → x < 256 → a < 256 → x ≢ a → geometric x a 256 ≡ 1
geometric-other x a small below other =
    let d = bit_xor x a in
    let g = geometric x a 256 in
    let in_field : d < 2 ^ 8 = xor_lt 8 x a (omega arith) (omega arith) in
    let inside : g < 2 ^ 8 = sum_from-below 0 256 (λ k. byte_product (raised Gf256 a (256 - 1 - k)) (raised Gf256 x k)) (λ k low high. byte_product-below (raised Gf256 a (256 - 1 - k)) (raised Gf256 x k) (raised-below a (256 - 1 - k) (omega arith))) in
    let whole : byte_product d g ≡ d = geometric-times x a 256 small below ∙ (λ i. bit_xor (raised-256 x small i) (raised-256 a below i)) in
    let nothing : byte_product d (bit_xor g 1) ≡ 0 = byte_product-sum_right d g 1 ∙ (λ i. bit_xor (whole i) (byte_product-one_right d i)) ∙ xor_self d in
    let together : bit_xor g 1 < 2 ^ 8 = xor_lt 8 g 1 inside (omega arith) in
    let none : bit_xor g 1 ≡ 0 = zero-product Gf256 d (bit_xor g 1) in_field together (differ x a other) nothing in
    sym (sum-cancel_right g 1) ∙ ap (λ (v : ℕ). bit_xor v 1) none ∙ xor_zero_l 1
  where
    differ : (x a : ℕ) → x ≢ a → bit_xor x a ≢ 0
    differ x a other e = other (sym (sum-cancel_right x a) ∙ ap (λ (v : ℕ). bit_xor v a) e ∙ xor_zero_l a)

-- and 0 where they are the same
geometric-own : (x : ℕ) → x < 256 → geometric x x 256 ≡ 0
geometric-own x small =
    sum_from-same 0 256 (λ k. byte_product (raised Gf256 x (256 - 1 - k)) (raised Gf256 x k)) (λ k. raised Gf256 x 255)
    (λ k low high.
    let e : 255 ≡ 256 - 1 - k + k = omega arith in
    sym (raised-sum Gf256 x (256 - 1 - k) k small) ∙ ap (raised Gf256 x) (sym e))
    ∙ sum_from-twice 0 128 (raised Gf256 x 255)

-- the polynomial that is 1 at a alone
abbrev indicator : ℕ → ℕ → ℕ
indicator x a = bit_xor 1 (geometric x a 256)

-- a sum of values by these polynomials
indicated : (f : ℕ → ℕ) (x : ℕ) → x < 256 → ((a : ℕ) → f a < 256) → sum_from 0 256 (λ a. byte_product (f a) (indicator x a)) ≡ f x
indicated f x small values =
    sum_from-one 0 256 x (λ a. byte_product (f a) (indicator x a)) (omega arith) (omega arith)
    (λ a low high other.
    ap (λ (v : ℕ). byte_product (f a) (bit_xor 1 v)) (geometric-other x a small (omega arith) (λ e. other (sym e)))
    ∙ ap (byte_product (f a)) (xor_self 1) ∙ byte_product-zero_right (f a))
    ∙ ap (λ (v : ℕ). byte_product (f x) (bit_xor 1 v)) (geometric-own x small)
    ∙ byte_product-one_right (f x)

-- the sum of all values times powers of their places
abbrev weighted : (ℕ → ℕ) → ℕ → ℕ
weighted f k = sum_from 0 256 (λ a. byte_product (f a) (raised Gf256 a (255 - k)))

-- a value times the sum for its place, term by term
term : (f : ℕ → ℕ) (x a : ℕ) → x < 256 → a < 256 → f a < 256
    → byte_product (f a) (indicator x a) ≡ bit_xor (f a) (sum_from 0 256 (λ k. byte_product (byte_product (f a) (raised Gf256 a (255 - k))) (raised Gf256 x k)))
term f x a small below value =
    byte_product-sum_right (f a) 1 (geometric x a 256)
    ∙ (λ i. bit_xor (byte_product-one_right (f a) i)
    ((sum_from-times (f a) 0 256 (λ k. byte_product (raised Gf256 a (256 - 1 - k)) (raised Gf256 x k))
    ∙ sum_from-same 0 256 (λ k. byte_product (f a) (byte_product (raised Gf256 a (256 - 1 - k)) (raised Gf256 x k))) (λ k. byte_product (byte_product (f a) (raised Gf256 a (255 - k))) (raised Gf256 x k))
    (λ k low high. sym (byte_product-assoc (f a) (raised Gf256 a (255 - k)) (raised Gf256 x k) (omega arith) (raised-below a (255 - k) (omega arith)) (raised-below x k (omega arith))))) i))

-- the values by powers of x
powers : (f : ℕ → ℕ) (x : ℕ) → x < 256 → ((a : ℕ) → f a < 256)
    → f x ≡ bit_xor (sum_from 0 256 f) (sum_from 0 256 (λ k. byte_product (weighted f k) (raised Gf256 x k)))
powers f x small values =
    sym (indicated f x small values)
    ∙ sum_from-same 0 256 (λ a. byte_product (f a) (indicator x a)) (λ a. bit_xor (f a) (sum_from 0 256 (part a))) (λ a low high. term f x a small (omega arith) (values a))
    ∙ sum_from-both 0 256 f (λ a. sum_from 0 256 (part a))
    ∙ ap (bit_xor (sum_from 0 256 f))
    (sum_from-swap 0 256 0 256 part
    ∙ sum_from-same 0 256 (λ k. sum_from 0 256 (λ a. part a k)) (λ k. byte_product (weighted f k) (raised Gf256 x k))
    (λ k low high. sym (sum_from-times_right (raised Gf256 x k) 0 256 (λ a. byte_product (f a) (raised Gf256 a (255 - k)))
    (λ a above within. byte_product-below (f a) (raised Gf256 a (255 - k)) (bound (values a))))))
  where
    part : ℕ → ℕ → ℕ
    part a k = byte_product (byte_product (f a) (raised Gf256 a (255 - k))) (raised Gf256 x k)

    bound : {v : ℕ} → v < 256 → v < 2 ^ 8
    bound small = omega (arith, small)

-- what stands at exponent 0, with the sum of all values, is the value at 0
constant : (f : ℕ → ℕ) → ((a : ℕ) → f a < 256) → bit_xor (sum_from 0 256 f) (weighted f 0) ≡ f 0
constant f values =
    (λ i. bit_xor (sum_from-first 0 255 f i) ((sum_from-first 0 255 (λ a. byte_product (f a) (raised Gf256 a (255 - 0))) ∙ at_zero) i))
    ∙ sum-cancel_right (f 0) (sum_from (0 + 1) 255 f)
  where
    at_zero : bit_xor (byte_product (f 0) (raised Gf256 0 (255 - 0))) (sum_from (0 + 1) 255 (λ a. byte_product (f a) (raised Gf256 a (255 - 0)))) ≡ sum_from (0 + 1) 255 f
    at_zero =
        (λ i. bit_xor ((ap (byte_product (f 0)) (raised-zero 254) ∙ byte_product-zero_right (f 0)) i)
        (sum_from-same (0 + 1) 255 (λ a. byte_product (f a) (raised Gf256 a (255 - 0))) f
        (λ a low high. ap (byte_product (f a)) (raised-255 a (omega arith) (omega arith)) ∙ byte_product-one_right (f a)) i))
        ∙ xor_zero_l (sum_from (0 + 1) 255 f)

-- an entry of a list of bytes, or 0 behind its end
pub entry-below : (table : List ℕ) → AllByRecursion (λ a. a < 256) table → (a : ℕ) → slice_index table a < 256
entry-below [] all a = omega arith
entry-below (b ∷ table) all zero = all.0
entry-below (b ∷ table) all (suc a) = entry-below table all.1 a

-- a coefficient is a byte
pub coefficient-below : (table : List ℕ) → AllByRecursion (λ a. a < 256) table → (k : ℕ) → coefficient table k < 2 ^ 8
unfolding coefficient
coefficient-below table all zero = omega (arith, entry-below table all 0)
coefficient-below table all (suc k) =
    sum_from-below 0 256 (λ a. byte_product (slice_index table a) (raised Gf256 a (255 - suc k)))
    (λ a low high. byte_product-below (slice_index table a) (raised Gf256 a (255 - suc k)) (omega (arith, entry-below table all a)))

-- the first coefficient
pub coefficient-first : (table : List ℕ) → coefficient table 0 ≡ slice_index table 0
unfolding coefficient
coefficient-first table = refl

-- the later coefficients
pub coefficient-later : (table : List ℕ) (k : ℕ) → 1 ≤ k → coefficient table k ≡ weighted (slice_index table) k
unfolding coefficient
coefficient-later table zero low = absurd (omega arith)
coefficient-later table (suc k) low = refl

-- the law of interpolation
pub interpolated : (table : List ℕ) → IsInterpolated table
interpolated table all x small =
    sum_from-first 0 255 (λ k. byte_product (coefficient table k) (raised Gf256 x k))
    ∙ (λ i. bit_xor ((ap (λ (v : ℕ). byte_product v (raised Gf256 x 0)) (coefficient-first table) ∙ ap (byte_product (f 0)) (raised-none x) ∙ byte_product-one_right (f 0) ∙ sym (constant f values)) i)
    (sum_from-same (0 + 1) 255 (λ k. byte_product (coefficient table k) (raised Gf256 x k)) (λ k. byte_product (weighted f k) (raised Gf256 x k)) (λ k low high. ap (λ (v : ℕ). byte_product v (raised Gf256 x k)) (coefficient-later table k low)) i))
    ∙ sum-assoc (sum_from 0 256 f) (weighted f 0) rest
    ∙ ap (bit_xor (sum_from 0 256 f))
    (sym (sum_from-first 0 255 (λ k. byte_product (weighted f k) (raised Gf256 x k)) ∙ ap (λ (v : ℕ). bit_xor v rest) (ap (byte_product (weighted f 0)) (raised-none x) ∙ byte_product-one_right (weighted f 0))))
    ∙ sym (powers f x small values)
  where
    f : ℕ → ℕ
    f a = slice_index table a

    values : (a : ℕ) → slice_index table a < 256
    values = entry-below table all

    rest : ℕ
    rest = sum_from (0 + 1) 255 (λ k. byte_product (weighted (slice_index table) k) (raised Gf256 x k))
