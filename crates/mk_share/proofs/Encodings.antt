-- An encoding is a sharing of its value.
use Rattle.std.proofs.Common.{◌≡◌, ℕ, zero, suc, ◌+◌, ◌<◌, List, [], ◌∷◌, ◌++◌, All, length, take, slice_index, bit_xor, sym, ◌∙◌, ap, subst, arith, add-one}
use Rattle.std.proofs.Math.Seq.{take-suc}
use Rattle.mk_field.specs.declared.field.FieldId.{FieldId}
use Rattle.mk_field.specs.Field.{size}
use Rattle.mk_field.specs.Sharing.{IsSharing, field_sum, encoding}
use Rattle.mk_field.proofs.Sum.{sum-cancel_right, sum-zero_right, sum-in_field, field_sum-append, zero-element}

-- the sum of an encoding is its value
pub field_sum-encoding : (value : ℕ) (elements : List ℕ) → field_sum (encoding value elements) ≡ value
unfolding field_sum
field_sum-encoding value elements = sum-cancel_right value (field_sum elements)

-- an encoding is a sharing of its value
pub encoding-shares : (value : ℕ) (elements : List ℕ) → IsSharing (length elements + 1) value (encoding value elements)
encoding-shares value elements = record { count = omega arith; sum = field_sum-encoding value elements }

-- one more element behind the others is added to their sum
pub field_sum-push : (xs : List ℕ) (a : ℕ) → field_sum (xs ++ a ∷ []) ≡ bit_xor (field_sum xs) a
unfolding field_sum
field_sum-push xs a = field_sum-append xs (a ∷ []) ∙ ap (bit_xor (field_sum xs)) (sum-zero_right a)

-- the sum of the first k + 1 elements
pub field_sum-take : (xs : List ℕ) (k : ℕ) → k < length xs → field_sum (take (k + 1) xs) ≡ bit_xor (field_sum (take k xs)) (slice_index xs k)
field_sum-take xs k below = ap field_sum (rw (add-one, take-suc xs k 0)) ∙ field_sum-push (take k xs) (slice_index xs k)

-- the sum of elements is an element
pub field_sum-element : (field : FieldId) (xs : List ℕ) → All (λ a. a < size field) xs → field_sum xs < size field
unfolding field_sum
field_sum-element field [] all = zero-element field
field_sum-element field (x ∷ xs) all =
    sum-in_field field x (field_sum xs) (all 0 0 (omega arith)) (field_sum-element field xs (λ k d below. all (suc k) d (omega (arith, below))))

-- what is an encoding is a sharing of its value
pub shares-of : (n value : ℕ) (parts elements : List ℕ) → parts ≡ encoding value elements → length elements + 1 ≡ n → IsSharing n value parts
shares-of n value parts elements same count =
    record { count = omega (arith, ap length same); sum = ap field_sum same ∙ field_sum-encoding value elements }

-- what is an encoding of an element by elements has elements alone
pub elements-of : (field : FieldId) (value : ℕ) (parts elements : List ℕ) → parts ≡ encoding value elements
    → value < size field → All (λ a. a < size field) elements → All (λ a. a < size field) parts
elements-of field value parts elements same one all = subst (All (λ a. a < size field)) (sym same) by
  where
    by : All (λ a. a < size field) (encoding value elements)
    by zero d below = sum-in_field field value (field_sum elements) one (field_sum-element field elements all)
    by (suc k) d below = all k d (omega (arith, below))
