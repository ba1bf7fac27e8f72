-- A product brings its place, and another one its row.
use Rattle.std.proofs.Common.{◌≡◌, ◌+◌, ◌-◌, ◌*◌, ◌<◌, ℕ, suc, List, [], length, slice_index, slice_index_or, sym, ◌∙◌, ap, subst, arith}
use Rattle.std.proofs.lemmas.List.{get_or_default}
use Rattle.std.proofs.lemmas.Option.{slice_get-get_or}
use Rattle.mk_ssa.specs.declared.Op.{Op}
use Rattle.mk_ssa.specs.declared.Op.TheVariants.{Const}
use Rattle.mk_ssa.specs.Kinds.{Strong, kind}
use Rattle.mk_ssa.specs.Operators.{Operator, operator}
use Rattle.mk_ssa.specs.Values.{IsValues, Values}
use Rattle.mk_rules.specs.declared.uses.OperandPlace.{OperandPlace}
use Rattle.mk_rules.specs.Products.{products_before}
use Rattle.mk_place.specs.Marking.{HasRow, IsNeed, final_need, inputs}
use Rattle.mk_place.proofs.Bringing.{strong-alone, op_at, bits-within, place-brought, row-brought}
use Rattle.mk_place.proofs.need.take.Goals as goal

-- the operator that the code reads
same-op : (s : Values) (ops : List Op) (p : OperandPlace) → ops ≡ s.values → slice_index_or ops p.value (Const 0) ≡ op_at s p
same-op s ops p same = ap (λ (xs : List Op). slice_index_or xs p.value (Const 0)) same

-- it is a product where the code finds one
product : (s : Values) (ops : List Op) (p : OperandPlace) → ops ≡ s.values → operator (slice_index_or ops p.value (Const 0)) ≡ Operator.Mul
    → operator (op_at s p) ≡ Operator.Mul
product s ops p same is = ap operator (sym (same-op s ops p same)) ∙ is

-- a value that isn't a product isn't strong
weak : (s : Values) → IsValues s → (p : OperandPlace) → p.value < length s.values → (operator (op_at s p) ≡ Operator.Mul → ⊥) → kind (op_at s p) ≡ Strong → ⊥
weak s is p there other strong = other (strong-alone s is p.value (op_at s p) (slice_get-get_or s.values p.value (Const 0) there) strong)

-- two numbers within a row
within : (s : Values) (p : OperandPlace) (numbers : List ℕ) (words : ℕ) → p.value < length s.values → operator (op_at s p) ≡ Operator.Mul
    → slice_index numbers p.value ≡ products_before s.values p.value → 2 * products_before s.values (length s.values) < 64 * words + 1
    → 2 * slice_index numbers p.value + 1 < 64 * words
within s p numbers words there is number room = omega (arith, number, bits-within s p there words is (omega (arith, room)))

pub take_place-requires-clause-own : goal.take_place-requires-clause-own
take_place-requires-clause-own c =
    let below = within c.args.s.now c.args.place c.args.numbers.now (length c.args.row.now) c.requires.there
    (product c.args.s.now c.as_slice-ops.result.now c.args.place (c.as_slice-ops.ensures.items ∙ c.values.ensures.values)
    (c.is_product.ensures.0 c.if-is_product.true))
    (c.requires.numbers c.args.place.value (omega (arith, c.requires.there))) (omega (arith, c.requires.room)) in
    omega (arith, below)

pub take_place-requires-clause-other : goal.take_place-requires-clause-other
take_place-requires-clause-other c =
    let below = within c.args.s.now c.args.place c.args.numbers.now (length c.args.row.now) c.requires.there
    (product c.args.s.now c.as_slice-ops.result.now c.args.place (c.as_slice-ops.ensures.items ∙ c.values.ensures.values)
    (c.is_product.ensures.0 c.if-is_product.true))
    (c.requires.numbers c.args.place.value (omega (arith, c.requires.there))) (omega (arith, c.requires.room)) in
    omega (arith, below)

pub take_place-requires-else-place-eq0-clause-own : goal.take_place-requires-else-place-eq0-clause-own
take_place-requires-else-place-eq0-clause-own c =
    let below = within c.args.s.now c.args.place c.args.numbers.now (length c.args.row.now) c.requires.there
    (product c.args.s.now c.as_slice-ops.result.now c.args.place (c.as_slice-ops.ensures.items ∙ c.values.ensures.values)
    (c.is_product.ensures.0 c.if-is_product.true))
    (c.requires.numbers c.args.place.value (omega (arith, c.requires.there))) (omega (arith, c.requires.room)) in
    omega (arith, below)

pub take_place-requires-else-place-eq0-clause-other : goal.take_place-requires-else-place-eq0-clause-other
take_place-requires-else-place-eq0-clause-other c =
    let below = within c.args.s.now c.args.place c.args.numbers.now (length c.args.row.now) c.requires.there
    (product c.args.s.now c.as_slice-ops.result.now c.args.place (c.as_slice-ops.ensures.items ∙ c.values.ensures.values)
    (c.is_product.ensures.0 c.if-is_product.true))
    (c.requires.numbers c.args.place.value (omega (arith, c.requires.there))) (omega (arith, c.requires.room)) in
    omega (arith, below)

pub returns-then-place-eq0-clause-clashes : goal.returns-then-place-eq0-clause-clashes
returns-then-place-eq0-clause-clashes c = λ need is.
    let number = c.requires.numbers c.args.place.value (omega (arith, c.requires.there)) in
    (place-brought c.args.s.now c.args.place c.requires.there need c.args.row.now c.take_place.new.row c.take_place.result
    (2 * slice_index c.args.numbers.now c.args.place.value) (2 * slice_index c.args.numbers.now c.args.place.value + 1)
    (product c.args.s.now c.as_slice-ops.result.now c.args.place (c.as_slice-ops.ensures.items ∙ c.values.ensures.values)
    (c.is_product.ensures.0 c.if-is_product.true))
    c.requires.two (omega (arith, number, c.if-place-eq0.true)) (omega (arith, number, c.if-place-eq0.true)) c.take_place.ensures.clashes c.take_place.ensures.bits is).answer

pub returns-then-place-eq0-clause-taken : goal.returns-then-place-eq0-clause-taken
returns-then-place-eq0-clause-taken c = λ need is.
    let number = c.requires.numbers c.args.place.value (omega (arith, c.requires.there)) in
    (place-brought c.args.s.now c.args.place c.requires.there need c.args.row.now c.take_place.new.row c.take_place.result
    (2 * slice_index c.args.numbers.now c.args.place.value) (2 * slice_index c.args.numbers.now c.args.place.value + 1)
    (product c.args.s.now c.as_slice-ops.result.now c.args.place (c.as_slice-ops.ensures.items ∙ c.values.ensures.values)
    (c.is_product.ensures.0 c.if-is_product.true))
    c.requires.two (omega (arith, number, c.if-place-eq0.true)) (omega (arith, number, c.if-place-eq0.true)) c.take_place.ensures.clashes c.take_place.ensures.bits is).taken

pub returns-else-place-eq0-clause-clashes : goal.returns-else-place-eq0-clause-clashes
returns-else-place-eq0-clause-clashes c = λ need is.
    let number = c.requires.numbers c.args.place.value (omega (arith, c.requires.there)) in
    (place-brought c.args.s.now c.args.place c.requires.there need c.args.row.now c.take_place-else-place-eq0.new.row c.take_place-else-place-eq0.result
    (2 * slice_index c.args.numbers.now c.args.place.value + 1) (2 * slice_index c.args.numbers.now c.args.place.value)
    (product c.args.s.now c.as_slice-ops.result.now c.args.place (c.as_slice-ops.ensures.items ∙ c.values.ensures.values)
    (c.is_product.ensures.0 c.if-is_product.true))
    c.requires.two (omega (arith, number, c.if-place-eq0.false, c.requires.two)) (omega (arith, number, c.if-place-eq0.false, c.requires.two))
    c.take_place-else-place-eq0.ensures.clashes c.take_place-else-place-eq0.ensures.bits is).answer

pub returns-else-place-eq0-clause-taken : goal.returns-else-place-eq0-clause-taken
returns-else-place-eq0-clause-taken c = λ need is.
    let number = c.requires.numbers c.args.place.value (omega (arith, c.requires.there)) in
    (place-brought c.args.s.now c.args.place c.requires.there need c.args.row.now c.take_place-else-place-eq0.new.row c.take_place-else-place-eq0.result
    (2 * slice_index c.args.numbers.now c.args.place.value + 1) (2 * slice_index c.args.numbers.now c.args.place.value)
    (product c.args.s.now c.as_slice-ops.result.now c.args.place (c.as_slice-ops.ensures.items ∙ c.values.ensures.values)
    (c.is_product.ensures.0 c.if-is_product.true))
    c.requires.two (omega (arith, number, c.if-place-eq0.false, c.requires.two)) (omega (arith, number, c.if-place-eq0.false, c.requires.two))
    c.take_place-else-place-eq0.ensures.clashes c.take_place-else-place-eq0.ensures.bits is).taken

-- what the code reads of the rows
read-row : (s : Values) (p : OperandPlace) (rows : List (List ℕ)) (ops : List Op) (row other read : List ℕ) → ops ≡ s.values
    → HasRow s rows (length row) p.value → other ≡ read → read ≡ slice_index_or rows (length ops - 1 - p.value) read
    → (length row ≡ length other) × IsNeed s.values (final_need s (inputs s + p.value)) other
read-row s p rows ops row other read same has is known =
    let e : length ops - 1 - p.value ≡ length s.values - suc p.value = omega (arith, ap (λ (xs : List Op). length xs) same) in
    let at : other ≡ slice_index_or rows (length s.values - suc p.value) [] =
    is ∙ known ∙ ap (λ (n : ℕ). slice_index_or rows n read) e ∙ get_or_default rows (length s.values - suc p.value) read [] has.there in (
      sym (ap (λ (xs : List ℕ). length xs) at ∙ has.count),
      subst (IsNeed s.values (final_need s (inputs s + p.value))) (sym at) has.need,
    )

pub returns-else-is_product-clause-clashes : goal.returns-else-is_product-clause-clashes
returns-else-is_product-clause-clashes c = λ need is.
    (row-brought c.args.s.now c.args.place c.requires.there need c.args.row.now c.as_slice.result.now c.take_row.new.row c.take_row.result
    (weak c.args.s.now c.values.ensures.fits c.args.place c.requires.there
    (λ is. absurd (cc (
      c.is_product.ensures.1
          (ap operator (same-op c.args.s.now c.as_slice-ops.result.now c.args.place (c.as_slice-ops.ensures.items ∙ c.values.ensures.values)) ∙ is),
      c.if-is_product.false,
    ))))
    (read-row c.args.s.now c.args.place c.args.rows.now c.as_slice-ops.result.now c.args.row.now c.as_slice.result.now c.index-rows-ops.result
    (c.as_slice-ops.ensures.items ∙ c.values.ensures.values) c.requires.brought c.as_slice.ensures.items c.index-rows-ops.is).1
    c.take_row.ensures.clashes c.take_row.ensures.bits is).answer

pub returns-else-is_product-clause-taken : goal.returns-else-is_product-clause-taken
returns-else-is_product-clause-taken c = λ need is.
    (row-brought c.args.s.now c.args.place c.requires.there need c.args.row.now c.as_slice.result.now c.take_row.new.row c.take_row.result
    (weak c.args.s.now c.values.ensures.fits c.args.place c.requires.there
    (λ is. absurd (cc (
      c.is_product.ensures.1
          (ap operator (same-op c.args.s.now c.as_slice-ops.result.now c.args.place (c.as_slice-ops.ensures.items ∙ c.values.ensures.values)) ∙ is),
      c.if-is_product.false,
    ))))
    (read-row c.args.s.now c.args.place c.args.rows.now c.as_slice-ops.result.now c.args.row.now c.as_slice.result.now c.index-rows-ops.result
    (c.as_slice-ops.ensures.items ∙ c.values.ensures.values) c.requires.brought c.as_slice.ensures.items c.index-rows-ops.is).1
    c.take_row.ensures.clashes c.take_row.ensures.bits is).taken
