-- A name that the table has keeps its entry, and another has that of the declaration.
use Rattle.std.proofs.Common.{◌≡◌, true, false, refl, sym, ◌∙◌}
use Rattle.mk_types.proofs.Known.{knows_taken, knows_new, known_test}
use Rattle.mk_types.proofs.names.note.Goals as goal

pub returns-in_ok-insert : goal.returns-in_ok-insert
returns-in_ok-insert c =
    let absent : c.contains_key.result ≡ false = search (c.if-not-contains_key.true) in
    λ decls next knows. knows_new c.args.table.now c.insert.new.self decls c.args.decl.now knows c.as_slice-name.result c.args.entry c.as_slice-name.ensures.items next
    (known_test c.args.table.now c.insert.new.self decls c.args.decl.now knows c.as_slice-name.result c.as_slice-name.ensures.items ∙ sym c.contains_key.ensures ∙ absent)
    (c.in_ok-insert.ensures.updates.0)

pub returns-else-not-contains_key : goal.returns-else-not-contains_key
returns-else-not-contains_key c =
    let present : c.contains_key.result ≡ true = search (c.if-not-contains_key.false) in
    λ decls next knows. knows_taken c.args.table.now c.args.table.now decls c.args.decl.now knows
    (known_test c.args.table.now c.args.table.now decls c.args.decl.now knows c.as_slice-name.result c.as_slice-name.ensures.items ∙ sym c.contains_key.ensures ∙ present)
    (λ q. refl)
