-- The declarations, one after the other.
use Rattle.std.proofs.Common.{◌∙◌, ap, ◌++◌, [], ◌∷◌, map, slice_index}
use Rattle.mk_ast.specs.declared.tree.Class.TheVariants as class_
use Rattle.mk_table.specs.Classes.{leaders}
use Rattle.mk_table.specs.ClassImages.{class_images}
use Rattle.mk_table.specs.Source.{map_decl, scalar, power_name}
use Rattle.mk_table.proofs.Steps.{assembled}
use Rattle.mk_table.proofs.source.declarations.Goals as goal

pub returns : goal.returns
returns c =
    let maps = map (map_decl (class_images (slice_index c.args.coefficients.now))) leaders in
    let powers = map (λ k. scalar class_.LocalSecret (power_name k)) leaders in
    assembled _ _ _ _ _ _ maps powers c.scalar.result c.scalar-2.result c.scalar-3.result
    c.new-decls.ensures (c.in_ok-push_maps.ensures ∙ ap (λ ks. c.new-decls.result ++ map (map_decl (class_images (slice_index c.args.coefficients.now))) ks) c.as_slice.ensures) c.in_ok-push.ensures.ok (c.in_ok-push_powers.ensures ∙ ap (λ ks. c.push.new.self ++ map (λ k. scalar class_.LocalSecret (power_name k)) ks) c.as_slice-2.ensures) c.in_ok-push-2.ensures.ok c.in_ok-push-3.ensures.ok
    ∙ (λ i. maps
    ++ (c.scalar.ensures ∙ ap (scalar class_.Secret) c.in_ok-name_of.ensures) i
    ∷ powers
    ++ (c.scalar-2.ensures ∙ ap (scalar class_.LocalSecret) c.in_ok-name_of-2.ensures) i
    ∷ (c.scalar-3.ensures ∙ ap (scalar class_.Output) c.in_ok-name_of-3.ensures) i
    ∷ [])
