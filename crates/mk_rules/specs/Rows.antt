-- Rows of bits, which are held in words of 64 bits.
use Rattle.std.specs.Prelude.{◌≡◌, ℕ, ◌+◌, ◌*◌, ◌/◌, ◌%◌, ◌<◌, List, [], ◌∷◌, slice_index, refl}
use Rattle.std.specs.Prelude.{◌⊎◌}
use Rattle.std.specs.Int.{bit_at}

-- bit k of a row is set: bit k % 64 of its word k / 64. Behind the last word no bit is
abbrev pub HasBit : List ℕ → ℕ → Type 0
HasBit row k = bit_at (slice_index row (k / 64)) (k % 64) ≡ 1

-- bit k is set in one of two rows
abbrev pub HasBitIn : List ℕ → List ℕ → ℕ → Type 0
HasBitIn row other k = HasBit row k ⊎ HasBit other k

-- for some r, each of the bits 2r and 2r + 1 is set in one of two rows
abbrev pub Clash : List ℕ → List ℕ → Type 0
Clash row other = (r : ℕ) × HasBitIn row other (2 * r) × HasBitIn row other (2 * r + 1)

-- a word has both bits 2j and 2j + 1
abbrev pub HasPairAt : ℕ → ℕ → Type 0
HasPairAt word j = (j < 32) × (bit_at word (2 * j) ≡ 1) × (bit_at word (2 * j + 1) ≡ 1)

-- it has both for some j
abbrev pub HasPair : ℕ → Type 0
HasPair word = (j : ℕ) × HasPairAt word j

-- in a row of the words 5 and 2, bit 0 is set
pub HasBit-0 : HasBit (5 ∷ 2 ∷ []) 0
HasBit-0 = refl

-- so is bit 65
pub HasBit-65 : HasBit (5 ∷ 2 ∷ []) 65
HasBit-65 = refl

-- and bit 64 isn't
pub HasBit-64 : bit_at (slice_index (5 ∷ 2 ∷ []) (64 / 64)) (64 % 64) ≡ 0
HasBit-64 = refl
