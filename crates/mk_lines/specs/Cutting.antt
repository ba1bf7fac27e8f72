-- A text is cut at its first line feed.
use Rattle.std.specs.Prelude.{◌≡◌, ℕ, List, ◌∷◌, ◌++◌, true, Option, Some, None}
use Rattle.std.specs.Borrow.{Bor}
use Rattle.mk_lines.specs.Words.{is_line}

-- the first line and the bytes behind its line feed, or none where no line feed stands in the text
abbrev pub Cuts : Option (Bor (List ℕ) × Bor (List ℕ)) → List ℕ → Type 0
Cuts (Some (line, behind)) text = (is_line line.now ≡ true) × (text ≡ line.now ++ 10 ∷ behind.now)
Cuts None text = is_line text ≡ true
