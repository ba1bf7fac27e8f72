-- Laws of the sum of elements, and of the sum of a list of them.
use Rattle.std.proofs.Common.{◌≡◌, ℕ, suc, ◌^◌, ◌≤◌, ◌<◌, List, [], ◌∷◌, ◌++◌, length, bit_xor, refl, sym, ◌∙◌, ap, arith, lit<}
use Rattle.std.specs.Int.Bits.{xor_assoc, xor_self, xor_zero_l, xor_zero_r}
use Rattle.std.proofs.lemmas.Nat.{xor_comm, xor_lt}
use Rattle.mk_field.specs.declared.field.FieldId.{FieldId}
use Rattle.mk_field.specs.declared.field.FieldId.TheVariants.{Gf2, Gf256}
use Rattle.mk_field.specs.Field.{bits, size}
use Rattle.mk_field.specs.Sharing.{field_sum, added}
use Rattle.mk_field.specs.Laws.{SumLaws}

-- 0 is an element
pub zero-element : (field : FieldId) → 0 < size field
zero-element Gf2 = lit< tt
zero-element Gf256 = lit< tt

-- the sum is associative
pub sum-assoc : (a b c : ℕ) → bit_xor (bit_xor a b) c ≡ bit_xor a (bit_xor b c)
sum-assoc a b c = xor_assoc a b c

-- the sum is commutative
pub sum-comm : (a b : ℕ) → bit_xor a b ≡ bit_xor b a
sum-comm a b = xor_comm a b

-- twice the same element is 0
pub sum-self : (a : ℕ) → bit_xor a a ≡ 0
sum-self a = xor_self a

-- 0 and an element
pub sum-zero_left : (a : ℕ) → bit_xor 0 a ≡ a
sum-zero_left a = xor_zero_l a

-- an element and 0
pub sum-zero_right : (a : ℕ) → bit_xor a 0 ≡ a
sum-zero_right a = xor_zero_r a

-- the first two of three summands change places
pub sum-left_comm : (a b c : ℕ) → bit_xor a (bit_xor b c) ≡ bit_xor b (bit_xor a c)
sum-left_comm a b c = sym (xor_assoc a b c) ∙ ap (λ (x : ℕ). bit_xor x c) (xor_comm a b) ∙ xor_assoc b a c

-- an element added twice in front falls out
pub sum-cancel : (a b : ℕ) → bit_xor a (bit_xor a b) ≡ b
sum-cancel a b = sym (xor_assoc a a b) ∙ ap (λ (x : ℕ). bit_xor x b) (xor_self a)

-- an element added twice behind falls out
pub sum-cancel_right : (a b : ℕ) → bit_xor (bit_xor a b) b ≡ a
sum-cancel_right a b = xor_assoc a b b ∙ ap (bit_xor a) (xor_self b) ∙ xor_zero_r a

-- the middle two of four summands change places
pub sum-interchange : (a b c d : ℕ) → bit_xor (bit_xor a b) (bit_xor c d) ≡ bit_xor (bit_xor a c) (bit_xor b d)
sum-interchange a b c d = xor_assoc a b (bit_xor c d) ∙ ap (bit_xor a) (sum-left_comm b c d) ∙ sym (xor_assoc a c (bit_xor b d))

-- the same element added in front can be left out
pub sum-inject : (a b c : ℕ) → bit_xor a b ≡ bit_xor a c → b ≡ c
sum-inject a b c e = sym (sum-cancel a b) ∙ ap (bit_xor a) e ∙ sum-cancel a c

-- the sum of numbers below a power of 2 is below it
pub sum-below : (k a b : ℕ) → a < 2 ^ k → b < 2 ^ k → bit_xor a b < 2 ^ k
sum-below k a b left right = xor_lt k a b left right

-- the sum of elements is an element
pub sum-in_field : (field : FieldId) (a b : ℕ) → a < size field → b < size field → bit_xor a b < size field
sum-in_field field a b left right = xor_lt (bits field) a b left right

-- equations that bring sums into one order, for `simp`
pub ruleset sums = (sum-assoc, sum-self, sum-zero_right, sum-cancel)

-- the sum of two lists one behind the other
pub field_sum-append : (xs ys : List ℕ) → field_sum (xs ++ ys) ≡ bit_xor (field_sum xs) (field_sum ys)
unfolding field_sum
field_sum-append [] ys = refl
field_sum-append (x ∷ xs) ys = ap (bit_xor x) (field_sum-append xs ys) ∙ sym (xor_assoc x (field_sum xs) (field_sum ys))

-- the sum of a list that another was added to
pub field_sum-added : (xs ys : List ℕ) → field_sum (added xs ys) ≡ bit_xor (field_sum xs) (field_sum ys)
unfolding field_sum added
field_sum-added [] ys = refl
field_sum-added (x ∷ xs) [] = sym (xor_zero_r (bit_xor x (field_sum xs)))
field_sum-added (x ∷ xs) (y ∷ ys) = ap (bit_xor (bit_xor x y)) (field_sum-added xs ys) ∙ sum-interchange x y (field_sum xs) (field_sum ys)

-- the sum of two lists is as long as the second, where the first is no longer
pub length-added : (xs ys : List ℕ) → length xs ≤ length ys → length (added xs ys) ≡ length ys
unfolding added
length-added [] ys fits = refl
length-added (x ∷ xs) [] fits = absurd (omega arith)
length-added (x ∷ xs) (y ∷ ys) fits = ap suc (length-added xs ys (omega arith))

-- the laws of the sum hold in both fields
pub sum_laws-hold : (field : FieldId) → SumLaws field
sum_laws-hold field = record {
  associative = λ a b c. sum-assoc a b c;
  commutative = λ a b. sum-comm a b;
  zero_left = λ a. sum-zero_left a;
  self_inverse = λ a. sum-self a;
  closed = λ a b left right. sum-in_field field a b left right;
  of_append = field_sum-append;
  of_added = field_sum-added;
}
