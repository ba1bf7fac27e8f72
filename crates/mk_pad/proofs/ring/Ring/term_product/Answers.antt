-- The exponents of a product, one after the other.
use Rattle.std.proofs.Common.{◌≡◌, ◌∙◌, sym, ap, length, List, ℕ, arith, slice_index, ◌++◌, [], ◌∷◌, ◌+◌, subst, drop}
use Rattle.mk_field.specs.Field.{size}
use Rattle.mk_pad.specs.declared.term.Term.{Term}
use Rattle.mk_pad.specs.Polynomial.{exponents_sum, reduced, term_product}
use Rattle.mk_pad.proofs.Combining.{exponents_sum-more, exponents_sum-all}
use Rattle.mk_pad.proofs.Entries.{element-of}
use Rattle.mk_pad.proofs.ring.Ring.term_product.Goals as goal

pub reduced_sum-requires-clause-left : goal.reduced_sum-requires-clause-left
reduced_sum-requires-clause-left c =
    element-of (size c.args.self.now.field) c.args.self.now.variables c.args.left.now.exponents c.as_slice-first.result.now c.loop-i.i
    c.requires.left.exponents c.as_slice-first.ensures.items c.loop-i-test.true

pub reduced_sum-requires-clause-right : goal.reduced_sum-requires-clause-right
reduced_sum-requires-clause-right c =
    element-of (size c.args.self.now.field) c.args.self.now.variables c.args.right.now.exponents c.as_slice-second.result.now c.loop-i.i
    c.requires.right.exponents c.as_slice-second.ensures.items
    (omega (
      arith,
      c.loop-i-test.true,
      ap length c.as_slice-first.ensures.items,
      ap length c.as_slice-second.ensures.items,
      c.requires.left.exponents.count,
      c.requires.right.exponents.count,
    ))

pub loop-i-preserved : goal.loop-i-preserved
loop-i-preserved c =
    let field = c.args.self.now.field in
    let first = c.as_slice-first.result.now in
    let second = c.as_slice-second.result.now in
    let i = c.loop-i.i in
    let more : c.push.new.self ≡ c.loop-i.exponents ++ reduced field (slice_index first i + slice_index second i) ∷ [] =
    c.in_ok-push.ensures.ok ∙ ap (λ (x : ℕ). c.loop-i.exponents ++ x ∷ []) c.reduced_sum.ensures in
    subst (λ (es : List ℕ). es ++ exponents_sum field (drop (i + 1) first) (drop (i + 1) second) ≡ exponents_sum field first second) (sym more)
    (exponents_sum-more field first second c.loop-i.exponents i (exponents_sum field first second) c.loop-i-test.true
    (omega (arith, ap length c.as_slice-first.ensures.items, ap length c.as_slice-second.ensures.items, c.requires.left.exponents.count, c.requires.right.exponents.count))
    c.loop-i.invariant)

pub returns : goal.returns
returns c =
    let field = c.args.self.now.field in
    let first = c.as_slice-first.result.now in
    let second = c.as_slice-second.result.now in
    let all : c.loop-i.exponents ≡ exponents_sum field c.args.left.now.exponents c.args.right.now.exponents =
    exponents_sum-all field first second c.loop-i.exponents c.loop-i.i (exponents_sum field first second) c.loop-i-test.false c.loop-i.invariant
    ∙ ap (λ (es : List ℕ). exponents_sum field es second) c.as_slice-first.ensures.items
    ∙ ap (exponents_sum field c.args.left.now.exponents) c.as_slice-second.ensures.items in
    let t : Term = term_product field c.args.left.now c.args.right.now in
    ap (λ (es : List ℕ). record { exponents = es; coefficient = c.mul.result }) all
    ∙ ap (λ (x : ℕ). record t { coefficient = x }) c.mul.ensures
