-- What the table has is the number.
use Rattle.std.proofs.Common.{sym, ap, ◌∙◌}
use Rattle.std.specs.Option.{option_copied}
use Rattle.mk_types.specs.Elements.{number_of}
use Rattle.mk_types.proofs.Known.{entry_is, none_is}
use Rattle.mk_types.proofs.names.Names.number.Goals as goal

pub returns-in-Some : goal.returns-in-Some
returns-in-Some c =
    let decls = c.self.inside.decls.now in
    let known = sym (c.self.invariant.1 c.args.name) ∙ sym c.get.ensures.value ∙ ap option_copied c.in-Some.is in
    (entry_is decls c.args.name.now c.in-Some.entry.now known).0 ∙ ap (λ ds. number_of ds c.args.name.now) c.self.view_is

pub returns-in-None : goal.returns-in-None
returns-in-None c =
    let decls = c.self.inside.decls.now in
    let known = sym (c.self.invariant.1 c.args.name) ∙ sym c.get.ensures.value ∙ ap option_copied c.in-None.is in
    (none_is decls c.args.name.now known).0 ∙ ap (λ ds. number_of ds c.args.name.now) c.self.view_is
