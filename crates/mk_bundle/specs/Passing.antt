-- Bytes that are held back before they are written.
use Rattle.std.specs.Prelude.{◌≡◌, ℕ, ◌*◌, List, ◌++◌, length, codes, Option, Some, IfSome}
use Rattle.mk_base.specs.Streams.{TakesPrefix}
use Rattle.mk_lines.specs.Words.{line}

-- of what was held back and of the text behind it a front was taken, and the rest is held back
pub record Passes (before held text : List ℕ) (after : Option (List ℕ)) (kept : List ℕ) : Type 0 where
  pub sent : List ℕ
  pub parts : held ++ text ≡ sent ++ kept
  pub taken : after ≡ Some (before ++ sent)

-- the same of a sink that may tell nothing
abbrev pub Sends : Option (List ℕ) → List ℕ → List ℕ → Option (List ℕ) → List ℕ → Type 0
Sends before held text after kept = IfSome before (λ taken. Passes taken held text after kept)

-- a front of what was held back and of the text behind it was taken, before the sink failed
abbrev pub Breaks : Option (List ℕ) → List ℕ → List ℕ → Option (List ℕ) → Type 0
Breaks before held text after = IfSome before (λ taken. TakesPrefix taken (held ++ text) after)

-- the line of the code and those behind it, where these are the lines of the instructions and of the outputs
abbrev pub rest_with : List ℕ → List ℕ → List ℕ
rest_with instrs outs = line (codes "code") ++ instrs ++ outs ++ line (codes "end")

-- the numbers of outputs are so many for each output
abbrev pub AreWhole : ℕ → List ℕ → Type 0
AreWhole shares outs = (outputs : ℕ) × (length outs ≡ outputs * shares)
