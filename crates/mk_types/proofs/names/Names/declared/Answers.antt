-- What stands at the number.
use Rattle.std.proofs.Common.{option_map, slice_get, sym, ap, ◌∙◌}
use Rattle.std.proofs.lemmas.Option.{slice_get-get_or, slice_get_past}
use Rattle.mk_types.specs.Elements.{number_of}
use Rattle.mk_ast.specs.declared.tree.Decl.{Decl}
use Rattle.mk_types.proofs.Known.{declared_at}
use Rattle.mk_types.proofs.names.Names.declared.Goals as goal

pub returns-then-number-self : goal.returns-then-number-self
returns-then-number-self c =
    let decls = c.self.inside.decls.now in
    let what = option_map (λ (d : Decl). d.what) in
    ap what (sym (slice_get_past decls c.number-number.result c.if-number-self.true))
    ∙ ap (λ n. what (slice_get decls n)) c.number-number.ensures
    ∙ ap (λ ds. what (slice_get ds (number_of c.args.self.now c.args.name.now))) c.self.view_is
    ∙ declared_at c.args.self.now c.args.name.now

pub returns : goal.returns
returns c =
    let decls = c.self.inside.decls.now in
    let what = option_map (λ (d : Decl). d.what) in
    ap what (sym (slice_get-get_or decls c.number-number.result c.index-self-number.result c.if-number-self.false))
    ∙ ap (λ n. what (slice_get decls n)) c.number-number.ensures
    ∙ ap (λ ds. what (slice_get ds (number_of c.args.self.now c.args.name.now))) c.self.view_is
    ∙ declared_at c.args.self.now c.args.name.now
