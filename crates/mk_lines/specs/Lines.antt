-- Texts as lines, and where one goes wrong, for the texts of any form.
use Rattle.std.specs.Prelude.{◌≡◌, ℕ, ◌≤◌, ◌<◌, true, List, ◌++◌, length, flat_map}
use Rattle.std.specs.List.{AllByRecursion}
use Rattle.mk_lines.specs.Words.{line, is_line}

-- no line feed stands in any of these
abbrev pub AreLines : List (List ℕ) → Type 0
AreLines lines = AllByRecursion (λ l. is_line l ≡ true) lines

-- the bytes begin with these lines, each of which is ended by a line feed
abbrev pub BeginsWith : List (List ℕ) → List ℕ → Type 0
BeginsWith lines bytes = (rest : List ℕ) × (bytes ≡ flat_map line lines ++ rest)

-- the bytes have n lines that are ended by line feeds, and some text of the form begins with them
abbrev pub GoesWellFor : (List ℕ → Type 0) → ℕ → List ℕ → Type 0
GoesWellFor IsText n bytes =
    (lines : List (List ℕ)) × AreLines lines × (length lines ≡ n) × BeginsWith lines bytes
    × ((whole : List ℕ) × IsText whole × BeginsWith lines whole)

-- n is the number of the first line, counted from 1, such that no text of the form begins with the lines up to it
abbrev pub NamesFirst : (List ℕ → Type 0) → ℕ → List ℕ → Type 0
NamesFirst IsText n bytes = (1 ≤ n) × (GoesWellFor IsText n bytes → ⊥) × ((m : ℕ) → m < n → GoesWellFor IsText m bytes)
