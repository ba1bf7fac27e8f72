-- Texts that are appended one after the other, and the lines of outputs.
use Rattle.std.proofs.Common.{◌≡◌, ℕ, suc, List, [], ◌++◌, take, drop, append_assoc}
use Rattle.mk_lines.specs.CodeLines.{out_line, out_lines}

-- no output has no line
pub out_lines-none : (shares outputs : ℕ) (positions : List ℕ) → outputs ≡ 0 → out_lines shares outputs positions ≡ []
unfolding out_lines
out_lines-none shares outputs positions none = rw none

-- the first of several outputs has the next positions
pub out_lines-more : (shares outputs fewer : ℕ) (positions : List ℕ) → outputs ≡ suc fewer
    → out_lines shares outputs positions ≡ out_line (take shares positions) ++ out_lines shares fewer (drop shares positions)
unfolding out_lines
out_lines-more shares outputs fewer positions more = rw more

-- a line goes from those that are left to the text
pub line_moved : (before after line rest left whole : List ℕ)
    → after ≡ before ++ line → left ≡ line ++ rest → before ++ left ≡ whole → after ++ rest ≡ whole
line_moved before after line rest left whole p q r = simp (p, append_assoc) (rw q at r)
