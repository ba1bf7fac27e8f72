-- Powers and sums as loops make them, step by step.
use Rattle.std.proofs.Common.{◌≡◌, ℕ, suc, ◌+◌, ◌-◌, ◌*◌, ◌%◌, ◌<◌, ◌≤◌, ◌^◌, List, [], ◌∷◌, ◌++◌, append_assoc, bit_xor, slice_index, ◌∙◌, ap, arith}
use Rattle.std.proofs.lemmas.Nat.{pow_below}
use Rattle.std.proofs.Math.Nat.{mod-eq_of_lt}
use Rattle.mk_field.specs.declared.field.FieldId.TheVariants.{Gf256}
use Rattle.mk_field.specs.Field.{byte_product, raised}
use Rattle.mk_field.proofs.Bytes.{byte_product-below}
use Rattle.mk_table.specs.Coefficients.{sum_from, coefficient}
use Rattle.mk_table.proofs.Raised.{raised-none, raised-more}
use Rattle.mk_table.proofs.Sums.{sum_from-none, sum_from-last}
use Rattle.mk_table.proofs.Interpolation.{coefficient-first, coefficient-later}

-- to the power 0
pub raised_none : (a : ℕ) → raised Gf256 a 0 ≡ 1
raised_none a = raised-none a

-- one exponent more
pub raised_next : (a n : ℕ) → raised Gf256 a (n + 1) ≡ byte_product a (raised Gf256 a n)
raised_next a n = let e : n + 1 ≡ suc n = omega arith in ap (raised Gf256 a) e ∙ raised-more a n

-- no terms
pub sum_none : (f : ℕ → ℕ) → sum_from 0 0 f ≡ 0
sum_none f = sum_from-none 0 f

-- one term more
pub sum_next : (n : ℕ) (f : ℕ → ℕ) → sum_from 0 (n + 1) f ≡ bit_xor (sum_from 0 n f) (f n)
sum_next n f =
    let e : n + 1 ≡ suc n = omega arith in
    let same : 0 + n ≡ n = omega arith in
    ap (λ (m : ℕ). sum_from 0 m f) e ∙ sum_from-last 0 n f ∙ ap (λ (k : ℕ). bit_xor (sum_from 0 n f) (f k)) same

-- the coefficients
pub coefficient_first : (table : List ℕ) → coefficient table 0 ≡ slice_index table 0
coefficient_first table = coefficient-first table

-- and those behind the first
pub coefficient_next : (table : List ℕ) (k : ℕ) → 1 ≤ k → coefficient table k ≡ sum_from 0 256 (λ a. byte_product (slice_index table a) (raised Gf256 a (255 - k)))
coefficient_next table k low = coefficient-later table k low

-- a product of bytes is a byte
pub product_below : (a b : ℕ) → a < 256 → byte_product a b < 256
product_below a b below = omega (arith, byte_product-below a b (omega arith))

-- 1 moved to a place of a byte
pub shifted : (place : ℕ) → place < 8 → 1 * 2 ^ place % 256 ≡ 2 ^ place
shifted place below =
    let one : 1 * 2 ^ place ≡ 2 ^ place = omega arith in
    ap (λ (x : ℕ). x % 256) one ∙ mod-eq_of_lt (pow_below place 8 below)

-- a list that is put together from two lists and three items
pub assembled : {A : Type 0} (none maps behind_first powers behind_second whole first_list second_list : List A) (x q y : A)
    → none ≡ [] → maps ≡ none ++ first_list → behind_first ≡ maps ++ x ∷ [] → powers ≡ behind_first ++ second_list
    → behind_second ≡ powers ++ q ∷ [] → whole ≡ behind_second ++ y ∷ [] → whole ≡ first_list ++ x ∷ second_list ++ q ∷ y ∷ []
assembled none maps behind_first powers behind_second whole first_list second_list x q y start first_is x_is second_is q_is y_is =
    y_is
    ∙ ap (λ s. s ++ y ∷ []) (q_is ∙ ap (λ s. s ++ q ∷ []) (second_is ∙ ap (λ s. s ++ second_list) (x_is ∙ ap (λ s. s ++ x ∷ []) (first_is ∙ ap (λ s. s ++ first_list) start))))
    ∙ append_assoc ((first_list ++ x ∷ []) ++ second_list) (q ∷ []) (y ∷ [])
    ∙ ap (λ s. s ++ q ∷ y ∷ []) (append_assoc first_list (x ∷ []) second_list)
