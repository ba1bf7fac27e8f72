-- One more declaration, with its map or none.
use Rattle.std.proofs.Common.{◌++◌, ◌∷◌, [], take, option_to_list, sym, ap, ◌∙◌}
use Rattle.std.proofs.lemmas.List.{take_more}
use Rattle.mk_types.specs.Elements.{map_in}
use Rattle.mk_unroll.proofs.FirstOperands.{maps_next}
use Rattle.mk_unroll.proofs.beginning.maps_in_order.Goals as goal

pub loop-decl-preserved : goal.loop-decl-preserved
loop-decl-preserved c =
    let ds = c.args.decls.now in
    let i = c.loop-decl.decl-index in
    let d = c.decl-item.result in
    c.in_ok-push_map.ensures
    ∙ ap (λ ms. ms ++ option_to_list (map_in d.what)) c.loop-decl.invariant
    ∙ maps_next ds i d (take_more ds i d c.loop-decl-test.true ∙ ap (λ x. take i ds ++ x ∷ []) (sym c.decl-item.is))
