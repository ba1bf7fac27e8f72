-- What a whole reading or writing leaves.
use Rattle.std.specs.Prelude.{◌≡◌, ℕ, ◌≤◌, ◌<◌, List, [], ◌++◌, length, take, drop, Option, Some}

-- the bytes that were left are all read, and the source is at its end
pub record ReadsAll (rest : List ℕ) (bytes : List ℕ) (after : Option (List ℕ)) : Type 0 where
  pub whole : bytes ≡ rest
  pub end : after ≡ Some []

-- at most so many bytes came
pub record CameWithin (limit : ℕ) (rest : List ℕ) (after : Option (List ℕ)) : Type 0 where
  pub count : ℕ
  pub within : count ≤ length rest
  pub few : count ≤ limit
  pub taken : after ≡ Some (drop count rest)

-- more bytes came than the limit
pub record CamePast (limit : ℕ) (rest : List ℕ) (after : Option (List ℕ)) : Type 0 where
  pub count : ℕ
  pub within : count ≤ length rest
  pub many : limit < count
  pub taken : after ≡ Some (drop count rest)

-- a prefix of the piece was appended to what was taken before
pub record TakesPrefix (before piece : List ℕ) (after : Option (List ℕ)) : Type 0 where
  pub count : ℕ
  pub within : count ≤ length piece
  pub taken : after ≡ Some (before ++ take count piece)
