-- The loops around a statement that is executed, each with the number of its present turn, the outermost
-- first. The language is this project's own; docs/LANGUAGE.md has its execution in words.
use Rattle.std.specs.Prelude.{ℕ, ◌-◌, List, [], ◌∷◌, ◌++◌, bytes_eq, find, option_map, unwrap_or}
use Rattle.std.specs.List.{range_with_len}

-- a loop in one of its turns
pub record Turn : Type 0 where
  pub name : List ℕ
  pub number : ℕ

-- the number of the present turn of the loop of this name
abbrev pub turn_number : List Turn → List ℕ → ℕ
turn_number turns name = unwrap_or (option_map (λ t. t.number) (find (λ t. bytes_eq t.name name) turns)) 0

-- within the turn of this number of one more loop
abbrev pub in_turn : List Turn → List ℕ → ℕ → List Turn
in_turn turns name number = turns ++ (record { name = name; number = number }) ∷ []

-- the numbers of the turns of a loop: from the first up to but not with the last
abbrev pub turn_numbers : ℕ → ℕ → List ℕ
turn_numbers from to = range_with_len from (to - from)
