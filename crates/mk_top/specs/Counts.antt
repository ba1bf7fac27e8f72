-- What `count` writes: the lines of a table of two worlds, and whether they are equal.
use Rattle.std.specs.Prelude.{◌≡◌, ℕ, List, [], ◌∷◌, ◌++◌, Option, None, codes, decimal, nat_eq, flat_map, if◌then◌else◌}
use Rattle.std.specs.List.{list_all}
use Rattle.mk_code.specs.Listing.{Listing}
use Rattle.mk_code.specs.Private.{ways}
use Rattle.mk_rules.specs.Claimed.{Claimed}
use Rattle.mk_run.specs.declared.table.Row.{Row}
use Rattle.mk_run.specs.Refusals.{count_refusal}
use Rattle.mk_run.specs.Table.{IsTable}
use Rattle.mk_words.specs.Words.{elements_word}
use Rattle.mk_top.specs.Bundles.{GivesText}

-- the line of a row: the word of what is seen, and the number of tapes that show it in each world
abbrev pub row_line : Row → List ℕ
row_line row = elements_word row.seen ++ codes " " ++ decimal row.first ++ codes " " ++ decimal row.second ++ 10 ∷ []

-- the last line: whether the two numbers are equal in every row
abbrev pub verdict_line : List Row → List ℕ
verdict_line rows = if list_all (λ row. nat_eq row.first row.second) rows then codes "equal\n" else codes "differs\n"

-- the lines of a table
abbrev pub table_text : List Row → List ℕ
table_text rows = flat_map row_line rows ++ verdict_line rows

-- A bundle, given where the input tells its bytes, was counted on these public inputs, the secrets of two worlds and
-- these probes to this text: the bytes are a text of a code and a certificate, whoever wrote them, and the text is
-- the lines of the table of both worlds: each list of values that the probes show in one of them, and in how many
-- ways in each.
pub record Counts (publics first second probes : List ℕ) (given : Option (List ℕ)) (written : List ℕ) : Type 0 where
  pub code : Listing
  pub cert : Claimed
  pub rows : List Row
  pub bundle : GivesText given code cert
  pub taken : count_refusal code publics first second probes ≡ None
  pub table : IsTable (ways code publics first probes) (ways code publics second probes) rows
  pub bytes : written ≡ table_text rows
