-- What a program sees of the outside world: bytes that come and go, and a count of faults.
use Rattle.std.specs.Prelude.{◌≡◌, ℕ, ◌+◌, ◌-◌, ◌^◌, ◌≤◌, min, List, ◌++◌, length, take, drop, Option, Some}

-- the count of faults after one more, which stays at its last value, that of 64 bits
abbrev pub one_more : ℕ → ℕ
one_more count = min (count + 1) (2 ^ 64 - 1)

-- a fault was counted between two moments
abbrev pub Rose : ℕ → ℕ → Type 0
Rose before after = one_more before ≤ after

-- the first n bytes of the buffer are the next n of those that were left, and these are taken
pub record GivesNext (rest : List ℕ) (n : ℕ) (buffer : List ℕ) (after : Option (List ℕ)) : Type 0 where
  pub within : n ≤ length rest
  pub bytes : take n buffer ≡ take n rest
  pub taken : after ≡ Some (drop n rest)

-- the first n bytes of the piece were appended to those taken before
abbrev pub TakesFront : List ℕ → List ℕ → ℕ → Option (List ℕ) → Type 0
TakesFront before piece n after = after ≡ Some (before ++ take n piece)
