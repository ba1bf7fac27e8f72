-- The names of the loops are what the references point to.
use Rattle.std.proofs.Common.{bytes_eq, ap, ◌∙◌}
use Rattle.std.specs.List.{list_any}
use Rattle.mk_types.specs.Scope.{is_loop}
use Rattle.mk_types.proofs.Lists.{list_any_map}
use Rattle.mk_types.proofs.scope.Scope.is_loop.Goals as goal

pub returns : goal.returns
returns c =
    c.is_among.ensures
    ∙ ap (λ xs. list_any (λ o. bytes_eq o.now c.args.name.now) xs) c.deref.ensures.value
    ∙ list_any_map (λ name. bytes_eq name c.args.name.now) (λ x. x.now) c.self.inside.loops.items
    ∙ ap (λ s. is_loop s c.args.name.now) c.self.view_is
