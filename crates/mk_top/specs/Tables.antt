-- What is written of a table.
use Rattle.std.specs.Prelude.{◌≡◌, ℕ, ◌<◌, ◌≤◌, List, [], ◌∷◌, Option, None, IfSome, length}
use Rattle.mk_base.specs.declared.TheConstants.{TOP_ORDER}
use Rattle.mk_ast.specs.declared.tree.Program.{Program as Tree}
use Rattle.mk_ast.specs.Canonical.{canonical}
use Rattle.mk_table.specs.declared.TheConstants.{TABLE_BYTES}
use Rattle.mk_table.specs.Source.{table_source}
use Rattle.mk_table.specs.Table.{IsTabled}
use Rattle.mk_words.specs.Words.{Compile, Eval}
use Rattle.mk_top.specs.Decided.{Decides}

-- A table, given where the input tells its bytes, has a byte for each byte, and a source of it was written: the
-- canonical text of the program of the table. It spells a program that is well typed, declares few elements, and whose
-- execution comes to its end; at each element the program gives the element of the table, with 34 products. Its bytes
-- decide that `eval` on an element has no fault, nor `compile` at any order.
pub record Tabulates (given : Option (List ℕ)) (written : List ℕ) : Type 0 where
  pub table : List ℕ
  pub taken : IfSome given (λ bytes. table ≡ bytes)
  pub whole : length table ≡ TABLE_BYTES
  pub bytes : written ≡ canonical (table_source table)
  pub tree : Tree
  pub program : IsTabled table tree written
  pub evaluates : (x : ℕ) → x < TABLE_BYTES → Decides (Eval [] (x ∷ [])) written None
  pub compiles : (order : ℕ) → order ≤ TOP_ORDER → Decides (Compile order) written None
