-- Boolean sharings (Ishai, Sahai and Wagner, CRYPTO 2003): a value is the sum of its shares. That the
-- share that corrects the sum stands first is this project's own choice.
use Rattle.std.specs.Prelude.{◌≡◌, ℕ, zero, suc, List, [], ◌∷◌, ◌++◌, length, take, drop, bit_xor, refl}

-- the sum of a list of elements
unfoldable pub field_sum : List ℕ → ℕ
field_sum [] = 0
field_sum (a ∷ rest) = bit_xor a (field_sum rest)

-- two lists added element by element, what is behind the end of the shorter one counting as 0
unfoldable pub added : List ℕ → List ℕ → List ℕ
added [] ys = ys
added (x ∷ xs) [] = x ∷ xs
added (x ∷ xs) (y ∷ ys) = bit_xor x y ∷ added xs ys

-- these are n shares of the value a
pub record IsSharing (n a : ℕ) (shares : List ℕ) : Type 0 where
  pub count : length shares ≡ n
  pub sum : field_sum shares ≡ a

-- the encoding of a secret by random elements: the secret plus their sum, and then the elements
abbrev pub encoding : ℕ → List ℕ → List ℕ
encoding secret elements = bit_xor secret (field_sum elements) ∷ elements

-- the encodings of several secrets one after the other, each by the next `order` elements
unfoldable pub encodings : ℕ → List ℕ → List ℕ → List ℕ
encodings order [] elements = []
encodings order (secret ∷ secrets) elements =
    encoding secret (take order elements) ++ encodings order secrets (drop order elements)

-- 02 and 55 are two shares of 57
pub sharing-57 : IsSharing 2 0x57 (0x02 ∷ 0x55 ∷ [])
unfolding field_sum
sharing-57 = record { count = refl; sum = refl }

-- 57 and 83 encoded by 55 and 55 at order 1
pub encodings-57-83 : encodings 1 (0x57 ∷ 0x83 ∷ []) (0x55 ∷ 0x55 ∷ []) ≡ 0x02 ∷ 0x55 ∷ 0xd6 ∷ 0x55 ∷ []
unfolding encodings field_sum
encodings-57-83 = refl

-- the values of k sharings that stand one after the other, each of n shares
unfoldable pub decoded : ℕ → ℕ → List ℕ → List ℕ
decoded n zero shares = []
decoded n (suc k) shares = field_sum (take n shares) ∷ decoded n k (drop n shares)

-- decoding two sharings of two shares
pub decoded-57-83 : decoded 2 2 (0x02 ∷ 0x55 ∷ 0xd6 ∷ 0x55 ∷ []) ≡ 0x57 ∷ 0x83 ∷ []
unfolding decoded field_sum
decoded-57-83 = refl
