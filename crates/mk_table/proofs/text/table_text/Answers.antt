-- The text is that of the program of the table, and spells one like it.
use Rattle.std.proofs.Common.{◌≡◌, ◌∙◌, ◌<◌, ◌≤◌, ◌^◌, List, ℕ, ap, length, arith}
use Rattle.std.proofs.lemmas.Result.{IfOk-weaker}
use Rattle.mk_ast.specs.declared.tree.Program.{Program}
use Rattle.mk_ast.specs.Places.{placeless}
use Rattle.mk_ast.specs.Canonical.{canonical}
use Rattle.mk_parse.specs.declared.TheConstants.{MOST_SOURCE_BYTES}
use Rattle.mk_table.specs.ClassImages.{class_image}
use Rattle.mk_table.specs.Coefficients.{coefficient}
use Rattle.mk_table.specs.Source.{table_source}
use Rattle.mk_table.specs.Table.{IsTabled}
use Rattle.mk_table.proofs.Lengths.{source_length}
use Rattle.mk_table.proofs.Lists.{all_entries}
use Rattle.mk_table.proofs.Spelled.{tabled}
use Rattle.mk_table.proofs.text.table_text.Goals as goal

pub returns-clause-text : goal.returns-clause-text
returns-clause-text c =
    IfOk-weaker c.to_text.result (λ text. text ≡ canonical c.in_ok-program.program) (λ text. text ≡ canonical (table_source c.args.table.now))
    (λ text same. same ∙ ap canonical c.in_ok-program.ensures.program) c.to_text.ensures.text

pub returns-clause-short : goal.returns-clause-short
returns-clause-short c =
    IfOk-weaker c.to_text.result (λ text. text ≡ canonical (table_source c.args.table.now)) (λ text. length text ≤ MOST_SOURCE_BYTES)
    (λ text same.
    let bytes = ap (λ (list : List ℕ). length list) same
    ∙ source_length (λ k b. class_image (coefficient c.args.table.now) k (2 ^ b)) (coefficient c.args.table.now 255) (coefficient c.args.table.now 0) in
    omega (arith, bytes))
    (returns-clause-text c)

pub returns-clause-program : goal.returns-clause-program
returns-clause-program c =
    IfOk-weaker c.to_text.result _ (λ text. (p : Program) × IsTabled c.args.table.now p text)
    (λ text found. (
      found.0,
      tabled c.args.table.now (all_entries (λ a. a < 256) c.args.table.now (λ i below. c.fits-table i)) found.0 text found.1
          (found.2 ∙ ap placeless c.in_ok-program.ensures.program),
    ))
    c.to_text.ensures.spelled
