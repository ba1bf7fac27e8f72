-- One more declaration, with its map or none.
use Rattle.std.proofs.Common.{◌≡◌, ◌+◌, ◌++◌, ◌∷◌, [], length, take, sym, ap, subst, ◌∙◌, arith}
use Rattle.std.proofs.lemmas.List.{take_more, length-take-le}
use Rattle.mk_types.specs.Elements.{maps_of}
use Rattle.mk_types.specs.Known.{Knows, next_entry}
use Rattle.mk_types.proofs.Known.{maps_more, maps_within}
use Rattle.mk_types.proofs.names.Names.new.Goals as goal

pub overflow_add-maps : goal.overflow_add-maps
overflow_add-maps c =
    let decls = c.args.decls.now in
    let i = c.loop-number.number in
    let more = take_more decls i c.index-decls-number.result c.loop-number-test.true ∙ ap (λ x. take i decls ++ x ∷ []) (sym c.index-decls-number.is) in
    omega (
      arith,
      maps_more decls i c.index-decls-number.result more,
      c.loop-number.invariant.maps,
      c.maps_in-maps.ensures.maps,
      maps_within (take (i + 1) decls),
      length-take-le (i + 1) decls (omega (arith, c.loop-number-test.true)),
      c.loop-number-test.true,
      c.if-decls-gt4294967295.false,
    )

pub loop-number-preserved : goal.loop-number-preserved
loop-number-preserved c =
    let decls = c.args.decls.now in
    let i = c.loop-number.number in
    let d = c.index-decls-number.result in
    let more = take_more decls i d c.loop-number-test.true ∙ ap (λ x. take i decls ++ x ∷ []) (sym c.index-decls-number.is) in
    let next : record { number = i; map = c.loop-number.maps } ≡ next_entry (take i decls) =
    ap (λ m. record { number = i; map = m }) c.loop-number.invariant.maps
    ∙ ap (λ n. record { number = n; map = length (maps_of (take i decls)) }) (sym (length-take-le i decls (omega (arith, c.loop-number-test.true)))) in
    record {
      maps =
          ap (λ n. n + c.maps_in-maps.result) c.loop-number.invariant.maps
          ∙ ap (λ n. length (maps_of (take i decls)) + n) c.maps_in-maps.ensures.maps
          ∙ maps_more decls i d more;
      table = subst (λ ds. Knows c.note.new.table ds) (sym more) (c.in_ok-note.ensures (take i decls) next c.loop-number.invariant.table);
    }
