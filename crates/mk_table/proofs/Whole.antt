-- The maps of all classes together make the polynomial, but for its first and its last term.
use Rattle.std.proofs.Common.{◌≡◌, ℕ, zero, suc, ◌+◌, ◌*◌, ◌/◌, ◌^◌, ◌<◌, ◌≤◌, Bool, true, ◌&&◌, nat_lt, List, [], ◌∷◌, map, flat_map, bit_xor, slice_index, refl, sym, ◌∙◌, ap, subst, inl, inr, arith}
use Rattle.std.specs.List.{AllByRecursion, range_with_len}
use Rattle.std.proofs.lemmas.List.{map-append}
use Rattle.std.proofs.lemmas.Bool.{and_parts, ltb-true, cases_lt}
use Rattle.std.proofs.Math.Nat.{mod-add-div'}
use Rattle.std.proofs.lemmas.Simd.{map-map}
use Rattle.mk_field.specs.declared.field.FieldId.TheVariants.{Gf256}
use Rattle.mk_field.specs.Field.{byte_product, raised}
use Rattle.mk_field.specs.Sharing.{field_sum}
use Rattle.mk_field.proofs.Sum.{field_sum-append, sum-comm, sum-left_comm}
use Rattle.mk_field.proofs.Bytes.{byte_product-one_right}
use Rattle.mk_table.specs.Coefficients.{sum_from, coefficient}
use Rattle.mk_table.specs.Classes.{doubled_exponent, class_size, leaders}
use Rattle.mk_table.specs.ClassImages.{class_image}
use Rattle.mk_table.proofs.Sums.{sum_from-first, sum_from-last, sum_from-same}
use Rattle.mk_table.proofs.Raised.{raised-none, raised-times, raised-again}
use Rattle.mk_table.proofs.Taken.{all_once, sum-all_once}
use Rattle.mk_table.proofs.Interpolation.{interpolated}

-- the exponents of a class
class : ℕ → List ℕ
class k = map (doubled_exponent k) (range_with_len 0 (class_size k))

-- each exponent from 1 to 254 is in one class
classes-all : all_once 1 254 (flat_map class leaders) ≡ true
unfolding class all_once
classes-all = refl

-- whether none of n doublings from this one on gives 0
doubles_on : ℕ → ℕ → ℕ → Bool
doubles_on k first zero = true
doubles_on k first (suc n) = nat_lt 0 (doubled_exponent k first) && doubles_on k (first + 1) n

-- then each is positive
doubles-positive : (k first n : ℕ) → doubles_on k first n ≡ true → (j : ℕ) → first ≤ j → j < first + n → 0 < doubled_exponent k j
unfolding doubles_on
doubles-positive k first zero all j low high = absurd (omega arith)
doubles-positive k first (suc n) all j low high =
    let parts = and_parts (nat_lt 0 (doubled_exponent k first)) (doubles_on k (first + 1) n) all in
    elim (cases_lt first j) [
      | inl behind ↦ doubles-positive k (first + 1) n parts.1 j (omega arith) (omega arith)
      | inr here ↦
          let same : first ≡ j = omega arith in
          subst (λ (i : ℕ). 0 < doubled_exponent k i) same (ltb-true 0 (doubled_exponent k first) parts.0)
    ]

-- whether that is so of the classes of all these
all_double : List ℕ → Bool
all_double [] = true
all_double (k ∷ ks) = doubles_on k 0 (class_size k) && all_double ks

-- it is so of the leaders
leaders-double : all_double leaders ≡ true
unfolding all_double doubles_on
leaders-double = refl

-- A table of bytes, and a byte.
module _ (table : List ℕ) (x : ℕ) (small : x < 256) where
  -- a term of the polynomial
  abbrev pub term : ℕ → ℕ
  term e = byte_product (coefficient table e) (raised Gf256 x e)

  -- the power to an exponent that is doubled
  raised-doubled : (k j : ℕ) → 0 < doubled_exponent k j → raised Gf256 (raised Gf256 x k) (2 ^ j) ≡ raised Gf256 x (doubled_exponent k j)
  raised-doubled k j positive =
      let turns : 2 ^ j * k ≡ doubled_exponent k j + k * 2 ^ j / 255 * 255 = swap (2 ^ j) k ∙ sym (mod-add-div' (k * 2 ^ j) 255) in
      sym (raised-times x k (2 ^ j) (omega arith)) ∙ ap (raised Gf256 x) turns
      ∙ raised-again x (doubled_exponent k j) (k * 2 ^ j / 255) small (omega arith)
    where
      swap : (a b : ℕ) → a * b ≡ b * a
      swap a b = omega arith

  -- the map of a class gives its terms
  class-terms : (k : ℕ) → doubles_on k 0 (class_size k) ≡ true → class_image (coefficient table) k (raised Gf256 x k) ≡ field_sum (map term (class k))
  unfolding class sum_from
  class-terms k all =
      sum_from-same 0 (class_size k) (λ j. byte_product (coefficient table (doubled_exponent k j)) (raised Gf256 (raised Gf256 x k) (2 ^ j))) (λ j. term (doubled_exponent k j))
      (λ j low high. ap (byte_product (coefficient table (doubled_exponent k j))) (raised-doubled k j (doubles-positive k 0 (class_size k) all j low high)))
      ∙ ap field_sum (sym (map-map _ _ (range_with_len 0 (class_size k))))

  -- the maps of all of these give the terms of their classes
  classes-terms : (ks : List ℕ) → all_double ks ≡ true → field_sum (map (λ k. class_image (coefficient table) k (raised Gf256 x k)) ks) ≡ field_sum (map term (flat_map class ks))
  unfolding all_double field_sum
  classes-terms [] all = refl
  classes-terms (k ∷ ks) all =
      let parts = and_parts (doubles_on k 0 (class_size k)) (all_double ks) all in
      (λ i. bit_xor (class-terms k parts.0 i) (classes-terms ks parts.1 i))
      ∙ sym (field_sum-append (map term (class k)) (map term (flat_map class ks)))
      ∙ ap field_sum (sym (map-append term (class k) (flat_map class ks)))

  -- the maps of all classes, the last term and the first make the value of the table
  pub whole : AllByRecursion (λ a. a < 256) table
      → bit_xor (field_sum (map (λ k. class_image (coefficient table) k (raised Gf256 x k)) leaders)) (bit_xor (byte_product (coefficient table 255) (raised Gf256 x 255)) (coefficient table 0)) ≡ slice_index table x
  whole all =
      (λ i. bit_xor ((classes-terms leaders leaders-double ∙ sum-all_once term 1 254 (flat_map class leaders) classes-all) i) (sum-comm (term 255) (coefficient table 0) i))
      ∙ sum-left_comm (sum_from 1 254 term) (coefficient table 0) (term 255)
      ∙ ap (bit_xor (coefficient table 0)) (sym (sum_from-last 1 254 term))
      ∙ ap (λ (v : ℕ). bit_xor v (sum_from 1 255 term)) (sym (ap (byte_product (coefficient table 0)) (raised-none x) ∙ byte_product-one_right (coefficient table 0)))
      ∙ sym (sum_from-first 0 255 term)
      ∙ interpolated table all x small
