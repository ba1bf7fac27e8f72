-- What parts give and what stops in them is what the whole gives and what stops in it.
use Rattle.std.proofs.Common.{rules, ℕ, ◌<◌, length, ◌≡◌, ◌++◌, ◌∷◌, [], List, take, map, flat_map, refl, sym, ap, subst, ◌∙◌}
use Rattle.std.proofs.lemmas.List.{take_more, take_all, append-nil}
use Rattle.std.proofs.lemmas.Result.{IfOk-weaker}
use Rattle.mk_ast.specs.declared.tree.Expr.{Expr}
use Rattle.mk_ast.specs.declared.tree.Expr.TheViews.{the_lemmas}
use Rattle.mk_ast.specs.declared.refusal.SourceRefusal.TheVariants as refusal_
use Rattle.mk_field.specs.declared.field.FieldId.{FieldId}
use Rattle.mk_ssa.specs.Values.{Draft}
use Rattle.mk_field.specs.declared.map.AddMap.{AddMap}
use Rattle.mk_types.specs.Elements.{number_of, map_number, maps_of}
use Rattle.mk_types.specs.Offences.{expr_offences}
use Rattle.mk_types.specs.Units.{Operation, expr_units, parts_units}
use Rattle.mk_types.proofs.Layers.{expr-Lit, expr-Sq, expr-Apply, expr-Sum, expr-Product}
use Rattle.mk_unroll.specs.Counted.{Count, counted, Halts}
use Rattle.mk_unroll.specs.Kept.{Gives, scope_in}
use Rattle.mk_unroll.specs.Unrolled.{Given, expr_given, applied, square_op, map_op, sum_op, product_op, joined_parts}
use Rattle.mk_unroll.proofs.Counting.{told, flat_halts, parts_first_halts, parts_rest_halts, parts_count, halts_back}
use Rattle.mk_unroll.proofs.Holding.{holds_kept, read_gives}
use Rattle.mk_unroll.proofs.Keeping.{keeps_then, gives_then}
use Rattle.mk_types.proofs.MapNumbers.{map_number_is}
use Rattle.mk_unroll.proofs.Typed.{nil_left, nil_right, nil_at, when_none, names_map}
use Rattle.mk_unroll.proofs.UnrolledLayers.{given-Lit, given-Read, given-Sq, given-Apply, given-Sum, given-Product}
use Rattle.mk_unroll.proofs.expressions.+expr.Goals as goal

pub join_parts-operand_of-requires : goal.join_parts-operand_of-requires
join_parts-operand_of-requires t c =
    let f = expr_offences (scope_in c.args.values.now.field c.args.frame.now.names c.args.frame.now.turns) in
    (search (rules, the_lemmas), (nil_left _ _ (ap (flat_map f) (sym c.in-Some.ensures.cases.0) ∙ c.requires.typed), (c.requires.maps, c.requires.holds)))

pub join_parts-operand_of-requires-in-loop-part : goal.join_parts-operand_of-requires-in-loop-part
join_parts-operand_of-requires-in-loop-part t c =
    let f = expr_offences (scope_in c.args.values.now.field c.args.frame.now.names c.args.frame.now.turns) in
    let rest = c.in-Some.rest.now in
    let i = c.loop-part.part-index in
    let more = take_more rest i c.part-item.result c.loop-part-test.true ∙ ap (λ x. take i rest ++ x ∷ []) (sym c.part-item.is) in
    let typed = nil_at f rest i c.part-item.result (nil_right (f c.in-Some.first.now) (flat_map f rest) (ap (flat_map f) (sym c.in-Some.ensures.cases.0) ∙ c.requires.typed)) more in
    let first = c.in_ok-so_far.ensures.given in
    let so_far = c.loop-part.invariant.given in
    let field = ap (λ (d : Draft). d.field) so_far.values ∙ ap (λ (d : Draft). d.field) first.values in
    let maps = ap (λ (d : Draft). d.maps) so_far.values ∙ ap (λ (d : Draft). d.maps) first.values ∙ c.requires.maps in (
      search (rules, the_lemmas),
      (
        subst (λ (k : FieldId). expr_offences (scope_in k c.args.frame.now.names c.args.frame.now.turns) c.part-item.result ≡ []) (sym field) typed,
        (
          maps,
          holds_kept c.args.values.now c.loop-part.values c.args.frame.now.names c.args.frame.now.variables
              (keeps_then c.args.values.now c.operand_of.new.values c.loop-part.values first.keeps so_far.keeps) c.requires.holds,
        ),
      ),
    )

pub join_parts-returns-in_err-so_far-clause-halted : goal.join_parts-returns-in_err-so_far-clause-halted
join_parts-returns-in_err-so_far-clause-halted t c =
    let f = expr_units c.args.frame.now.names c.args.frame.now.turns in
    let e = c.in_err-so_far.field-0.0 in
    told c.from_residual.result e (counted c.args.meter.now (parts_units (map f c.args.parts.now))) c.from_residual.ensures.1
    (parts_first_halts e c.args.meter.now c.args.meter.now f c.args.parts.now c.in-Some.rest.now c.in-Some.first.now c.in-Some.ensures.cases.0
    c.in_err-so_far.ensures.halted)

pub join_parts-returns-in_err-right-clause-halted : goal.join_parts-returns-in_err-right-clause-halted
join_parts-returns-in_err-right-clause-halted t c =
    let f = expr_units c.args.frame.now.names c.args.frame.now.turns in
    let e = c.in_err-right.field-0.0 in
    let rest = c.in-Some.rest.now in
    let i = c.loop-part.part-index in
    let x = c.part-item.result in
    let more = take_more rest i x c.loop-part-test.true ∙ ap (λ y. take i rest ++ y ∷ []) (sym c.part-item.is) in
    told c.from_residual-in_err-right.result e (counted c.args.meter.now (parts_units (map f c.args.parts.now))) c.from_residual-in_err-right.ensures.1
    (parts_rest_halts e c.args.meter.now c.operand_of.new.meter f c.args.parts.now rest c.in-Some.first.now c.in-Some.ensures.cases.0 c.in_ok-so_far.ensures.ok
    (flat_halts e c.operand_of.new.meter c.loop-part.meter (λ part. f part ++ Operation ∷ []) rest i x (f x) (Operation ∷ []) more c.loop-part.invariant.meter refl
    c.in_err-right.ensures.halted))

pub join_parts-returns-in_err-so_far-2-clause-halted : goal.join_parts-returns-in_err-so_far-2-clause-halted
join_parts-returns-in_err-so_far-2-clause-halted t c =
    let f = expr_units c.args.frame.now.names c.args.frame.now.turns in
    let e = c.in_err-so_far-2.field-0.0 in
    let rest = c.in-Some.rest.now in
    let i = c.loop-part.part-index in
    let x = c.part-item.result in
    let more = take_more rest i x c.loop-part-test.true ∙ ap (λ y. take i rest ++ y ∷ []) (sym c.part-item.is) in
    told c.from_residual-in_err-so_far-2.result e (counted c.args.meter.now (parts_units (map f c.args.parts.now))) c.from_residual-in_err-so_far-2.ensures.1
    (parts_rest_halts e c.args.meter.now c.operand_of.new.meter f c.args.parts.now rest c.in-Some.first.now c.in-Some.ensures.cases.0 c.in_ok-so_far.ensures.ok
    (flat_halts e c.operand_of.new.meter c.loop-part.meter (λ part. f part ++ Operation ∷ []) rest i x (f x ++ Operation ∷ []) [] more c.loop-part.invariant.meter
    (sym (append-nil _))
    (halts_back e c.loop-part.meter (f x) (Operation ∷ [])
    (subst (λ (m : Count). Halts e (counted m (Operation ∷ []))) c.in_ok-right.ensures.ok c.in_err-so_far-2.ensures.halted))))

pub join_parts-returns-clause-ok : goal.join_parts-returns-clause-ok
join_parts-returns-clause-ok t c =
    let f = expr_units c.args.frame.now.names c.args.frame.now.turns in
    let rest = c.in-Some.rest.now in
    c.loop-part.invariant.meter
    ∙ ap (λ ps. counted c.operand_of.new.meter (flat_map (λ part. f part ++ Operation ∷ []) ps)) (take_all c.loop-part.part-index rest c.loop-part-test.false)
    ∙ parts_count refusal_.Memory c.args.meter.now c.operand_of.new.meter f c.args.parts.now rest c.in-Some.first.now c.in-Some.ensures.cases.0
    c.in_ok-so_far.ensures.ok

pub operand_of-constant-requires : goal.operand_of-constant-requires
operand_of-constant-requires t c =
    let s = scope_in c.args.values.now.field c.args.frame.now.names c.args.frame.now.turns in
    when_none _ c.in-Lit.at _ (sym (expr-Lit s c.in-Lit.value c.in-Lit.at) ∙ ap (expr_offences s) (sym c.in-Lit.is) ∙ c.requires.typed)

pub operand_of-operand_of-requires : goal.operand_of-operand_of-requires
operand_of-operand_of-requires t c =
    let s = scope_in c.args.values.now.field c.args.frame.now.names c.args.frame.now.turns in (
      search (rules, the_lemmas),
      (
        ap (expr_offences s) c.get.ensures ∙ sym (expr-Sq s c.in-Sq.arg) ∙ ap (expr_offences s) (sym c.in-Sq.is) ∙ c.requires.typed,
        (c.requires.maps, c.requires.holds),
      ),
    )

pub operand_of-operand_of-requires-in-Apply : goal.operand_of-operand_of-requires-in-Apply
operand_of-operand_of-requires-in-Apply t c =
    let s = scope_in c.args.values.now.field c.args.frame.now.names c.args.frame.now.turns in (
      search (rules, the_lemmas),
      (
        ap (expr_offences s) c.get-in-Apply.ensures
            ∙ nil_right _ _ (sym (expr-Apply s c.in-Apply.map c.in-Apply.at c.in-Apply.arg) ∙ ap (expr_offences s) (sym c.in-Apply.is) ∙ c.requires.typed),
        (c.requires.maps, c.requires.holds),
      ),
    )

pub operand_of-apply-requires-clause-map : goal.operand_of-apply-requires-clause-map
operand_of-apply-requires-clause-map t c =
    let decls = c.args.frame.now.names in
    let s = scope_in c.args.values.now.field decls c.args.frame.now.turns in
    let name = c.in-Apply.map in
    let declared = names_map s name c.in-Apply.at
    (nil_left _ _ (sym (expr-Apply s name c.in-Apply.at c.in-Apply.arg) ∙ ap (expr_offences s) (sym c.in-Apply.is) ∙ c.requires.typed)) in
    let maps : c.operand_of-in-Apply.new.values.maps ≡ maps_of decls = ap (λ (d : Draft). d.maps) c.in_ok-arg-in-Apply.ensures.given.values ∙ c.requires.maps in
    subst (λ (n : ℕ). n < length c.operand_of-in-Apply.new.values.maps) (sym (c.map_number.ensures ∙ ap (map_number decls) c.as_slice-in-Apply.ensures.items))
    (subst (λ (ms : List AddMap). map_number decls name < length ms) (sym maps) (map_number_is decls name declared.0 declared.1).within)

pub operand_of-join_parts-requires : goal.operand_of-join_parts-requires
operand_of-join_parts-requires t c =
    let f = expr_offences (scope_in c.args.values.now.field c.args.frame.now.names c.args.frame.now.turns) in (
      search (rules, the_lemmas),
      (
        ap (flat_map f) c.as_slice-in-Sum.ensures ∙ sym (expr-Sum (scope_in c.args.values.now.field c.args.frame.now.names c.args.frame.now.turns) c.in-Sum.parts)
            ∙ ap f (sym c.in-Sum.is) ∙ c.requires.typed,
        (c.requires.maps, c.requires.holds),
      ),
    )

pub operand_of-join_parts-requires-in-Product : goal.operand_of-join_parts-requires-in-Product
operand_of-join_parts-requires-in-Product t c =
    let f = expr_offences (scope_in c.args.values.now.field c.args.frame.now.names c.args.frame.now.turns) in (
      search (rules, the_lemmas),
      (
        ap (flat_map f) c.as_slice-in-Product.ensures
            ∙ sym (expr-Product (scope_in c.args.values.now.field c.args.frame.now.names c.args.frame.now.turns) c.in-Product.parts)
            ∙ ap f (sym c.in-Product.is) ∙ c.requires.typed,
        (c.requires.maps, c.requires.holds),
      ),
    )

pub operand_of-returns-in_ok-constant-in-Lit-clause-given : goal.operand_of-returns-in_ok-constant-in-Lit-clause-given
operand_of-returns-in_ok-constant-in-Lit-clause-given t c =
    let decls = c.args.frame.now.names in
    let turns = c.args.frame.now.turns in
    let env = c.args.frame.now.variables in
    let d = c.args.values.now in
    subst (λ (g : Given). Gives d g c.constant.new.values c.in_ok-constant-in-Lit.field-0)
    (sym (ap (λ x. expr_given decls turns env x d.values) c.in-Lit.is ∙ given-Lit decls turns env c.in-Lit.value c.in-Lit.at d.values))
    c.in_ok-constant-in-Lit.ensures

pub operand_of-returns-in_ok-index-in-Read-clause-given : goal.operand_of-returns-in_ok-index-in-Read-clause-given
operand_of-returns-in_ok-index-in-Read-clause-given t c =
    let decls = c.args.frame.now.names in
    let turns = c.args.frame.now.turns in
    let env = c.args.frame.now.variables in
    let d = c.args.values.now in
    let from = c.in-Read.from in
    subst (λ (g : Given). Gives d g d c.read.result) (sym (ap (λ x. expr_given decls turns env x d.values) c.in-Read.is ∙ given-Read decls turns env from d.values))
    (read_gives d decls turns env from c.number-number.result c.in_ok-index-in-Read.index c.read.result c.requires.holds
    (c.number-number.ensures ∙ ap (number_of decls) c.as_slice.ensures.items) c.in_ok-index-in-Read.ensures.value c.read.ensures)

pub operand_of-returns-in_ok-arg-in-Sq-clause-given : goal.operand_of-returns-in_ok-arg-in-Sq-clause-given
operand_of-returns-in_ok-arg-in-Sq-clause-given t c =
    let decls = c.args.frame.now.names in
    let turns = c.args.frame.now.turns in
    let env = c.args.frame.now.variables in
    let d = c.args.values.now in
    let arg = expr_given decls turns env c.in-Sq.arg d.values in
    let first = subst (λ (x : Expr). Gives d (expr_given decls turns env x d.values) c.operand_of.new.values c.in_ok-arg-in-Sq.arg) c.get.ensures c.in_ok-arg-in-Sq.ensures.given in
    IfOk-weaker c.square.result _ _
    (λ v gives. subst (λ (g : Given). Gives d g c.square.new.values v)
    (sym (ap (λ x. expr_given decls turns env x d.values) c.in-Sq.is ∙ given-Sq decls turns env c.in-Sq.arg d.values))
    (gives_then d c.operand_of.new.values c.square.new.values arg (applied square_op) c.in_ok-arg-in-Sq.arg v first gives))
    c.square.ensures.given

pub operand_of-returns-in_ok-arg-in-Apply-clause-given : goal.operand_of-returns-in_ok-arg-in-Apply-clause-given
operand_of-returns-in_ok-arg-in-Apply-clause-given t c =
    let decls = c.args.frame.now.names in
    let turns = c.args.frame.now.turns in
    let env = c.args.frame.now.variables in
    let d = c.args.values.now in
    let name = c.in-Apply.map in
    let arg = expr_given decls turns env c.in-Apply.arg d.values in
    let after = c.operand_of-in-Apply.new.values in
    let x = c.in_ok-arg-in-Apply.arg in
    let first = subst (λ (y : Expr). Gives d (expr_given decls turns env y d.values) after x) c.get-in-Apply.ensures c.in_ok-arg-in-Apply.ensures.given in
    let number = c.map_number.ensures ∙ ap (map_number decls) c.as_slice-in-Apply.ensures.items in
    IfOk-weaker c.apply.result _ _
    (λ v gives. subst (λ (g : Given). Gives d g c.apply.new.values v)
    (sym (ap (λ y. expr_given decls turns env y d.values) c.in-Apply.is ∙ given-Apply decls turns env name c.in-Apply.at c.in-Apply.arg d.values))
    (gives_then d after c.apply.new.values arg (applied (λ shared y. map_op shared (map_number decls name) y)) x v first
    (subst (λ (n : ℕ). Gives after (applied (λ shared y. map_op shared n y) (record { operand = x; values = after.values })) c.apply.new.values v) number gives)))
    c.apply.ensures.given

pub operand_of-returns-in-Sum-clause-given : goal.operand_of-returns-in-Sum-clause-given
operand_of-returns-in-Sum-clause-given t c =
    let decls = c.args.frame.now.names in
    let turns = c.args.frame.now.turns in
    let env = c.args.frame.now.variables in
    let d = c.args.values.now in
    IfOk-weaker c.join_parts.result _ _
    (λ v gives. subst (λ (g : Given). Gives d g c.join_parts.new.values v)
    (ap (λ ps. joined_parts sum_op (map (expr_given decls turns env) ps) d.values) c.as_slice-in-Sum.ensures
    ∙ sym (ap (λ y. expr_given decls turns env y d.values) c.in-Sum.is ∙ given-Sum decls turns env c.in-Sum.parts d.values))
    gives)
    c.join_parts.ensures.given

pub operand_of-returns-in-Product-clause-given : goal.operand_of-returns-in-Product-clause-given
operand_of-returns-in-Product-clause-given t c =
    let decls = c.args.frame.now.names in
    let turns = c.args.frame.now.turns in
    let env = c.args.frame.now.variables in
    let d = c.args.values.now in
    IfOk-weaker c.join_parts-in-Product.result _ _
    (λ v gives. subst (λ (g : Given). Gives d g c.join_parts-in-Product.new.values v)
    (ap (λ ps. joined_parts product_op (map (expr_given decls turns env) ps) d.values) c.as_slice-in-Product.ensures
    ∙ sym (ap (λ y. expr_given decls turns env y d.values) c.in-Product.is ∙ given-Product decls turns env c.in-Product.parts d.values))
    gives)
    c.join_parts-in-Product.ensures.given
