-- The bytes are the table, whose text is what it promises.
use Rattle.std.proofs.Common.{◌≡◌, List, ℕ, Some, length, sym, subst}
use Rattle.std.specs.Array.{IsWholeChunk}
use Rattle.mk_top.specs.Tables.{Tabulates}
use Rattle.mk_top.proofs.Tabled.{tabulates-made}
use Rattle.mk_top.proofs.tables.source_of_table.Goals as goal

pub returns-in_ok-table_text-in-Ok-clause-made : goal.returns-in_ok-table_text-in-Ok-clause-made
returns-in_ok-table_text-in-Ok-clause-made c =
    let chunk : IsWholeChunk c.args.bytes.now c.in-Ok.table.now 256 = c.in-Ok.ensures.1 in
    let written = c.in_ok-table_text-in-Ok.field-0 in
    let program = c.in_ok-table_text-in-Ok.ensures.program in
    subst (λ (bytes : List ℕ). Tabulates (Some bytes) written) chunk.same
    (tabulates-made c.in-Ok.table.now written program.0 program.1
    (subst (λ (bytes : List ℕ). length bytes ≡ 256) (sym chunk.same) chunk.long) c.in_ok-table_text-in-Ok.ensures.text c.in_ok-table_text-in-Ok.ensures.short)
