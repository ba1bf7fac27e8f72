-- Each instruction is one step of the walk.
use Rattle.std.proofs.Common.{◌≡◌, ◌+◌, ◌∙◌, ◌++◌, ◌∷◌, [], length, slice_index_or, sym, ap, arith, List, ℕ, inr, subst}
use Rattle.mk_code.specs.declared.instr.Instr.TheVariants.{Rnd}
use Rattle.mk_code.specs.Listing.{FitsAt}
use Rattle.mk_code.specs.Trace.{takes}
use Rattle.mk_pad.specs.declared.term.Term.{Term}
use Rattle.mk_pad.specs.Positions.{term_count, next_polynomial}
use Rattle.mk_pad.proofs.Walk.{IsWalk, walk-start, walk-fits, walk-room, walk-above, walk-step, walk-all, walk-few}
use Rattle.mk_pad.proofs.positions.polynomials.Goals as goal

pub loop-instr-init : goal.loop-instr-init
loop-instr-init c =
    let n = c.args.ring.now.variables in
    subst (IsWalk c.args.ring.now.field n c.args.shares c.args.instrs.now 0 c.args.shares) (sym c.in_ok-positions.ensures)
    (walk-start c.args.ring.now.field n c.args.shares c.args.instrs.now c.requires.variables)

pub count_terms-terms-requires : goal.count_terms-terms-requires
count_terms-terms-requires c =
    let field = c.args.ring.now.field in
    let i = c.loop-instr.instr-index in
    subst (λ (ps : List (List Term)). FitsAt field 0 (length ps) (slice_index_or c.args.instrs.now i Rnd)) (sym c.as_slice.ensures.items)
    (walk-fits field c.args.ring.now.variables c.args.shares c.args.instrs.now i c.loop-instr.next c.loop-instr.positions
    c.loop-instr.invariant c.requires.fit c.loop-instr-test.true)

pub returns-then-terms-gt-MOST_TERMS-clause-refused : goal.returns-then-terms-gt-MOST_TERMS-clause-refused
returns-then-terms-gt-MOST_TERMS-clause-refused c =
    let i = c.loop-instr.instr-index in
    inr (walk-above c.args.ring.now.field c.args.ring.now.variables c.args.shares c.args.instrs.now i c.loop-instr.next c.loop-instr.positions
    c.count_terms-terms.result c.loop-instr.invariant c.loop-instr-test.true
    (c.count_terms-terms.ensures ∙ ap (term_count (slice_index_or c.args.instrs.now i Rnd)) c.as_slice.ensures.items) c.if-terms-gt-MOST_TERMS.true)

pub polynomial_of-requires-clause-fits : goal.polynomial_of-requires-clause-fits
polynomial_of-requires-clause-fits c =
    let field = c.args.ring.now.field in
    let i = c.loop-instr.instr-index in
    subst (λ (ps : List (List Term)). FitsAt field 0 (length ps) (slice_index_or c.args.instrs.now i Rnd)) (sym c.as_slice-in-loop-instr.ensures.items)
    (walk-fits field c.args.ring.now.variables c.args.shares c.args.instrs.now i c.loop-instr.next c.loop-instr.positions
    c.loop-instr.invariant c.requires.fit c.loop-instr-test.true)

pub polynomial_of-requires-clause-next : goal.polynomial_of-requires-clause-next
polynomial_of-requires-clause-next c =
    omega (
      arith,
      walk-room c.args.ring.now.field c.args.ring.now.variables c.args.shares c.args.instrs.now c.loop-instr.instr-index c.loop-instr.next
          c.loop-instr.positions c.loop-instr.invariant c.loop-instr-test.true,
    )

pub overflow_add-next : goal.overflow_add-next
overflow_add-next c =
    omega (
      arith,
      c.randoms-next.ensures,
      walk-room c.args.ring.now.field c.args.ring.now.variables c.args.shares c.args.instrs.now c.loop-instr.instr-index
          c.loop-instr.next c.loop-instr.positions c.loop-instr.invariant c.loop-instr-test.true,
    )

pub loop-instr-preserved : goal.loop-instr-preserved
loop-instr-preserved c =
    let field = c.args.ring.now.field in
    let n = c.args.ring.now.variables in
    let is = c.args.instrs.now in
    let i = c.loop-instr.instr-index in
    let next = c.loop-instr.next in
    let positions = c.loop-instr.positions in
    let instr = slice_index_or is i Rnd in
    let more : c.push.new.self ≡ positions ++ next_polynomial field n instr next positions ∷ [] =
    c.in_ok-push.ensures.ok
    ∙ ap (λ (ps : List Term). positions ++ ps ∷ []) (c.in_ok-polynomial.ensures ∙ ap (next_polynomial field n instr next) c.as_slice-in-loop-instr.ensures.items) in
    subst (λ (k : ℕ). IsWalk field n c.args.shares is (i + 1) (next + k) c.push.new.self) (sym c.randoms-next.ensures)
    (subst (IsWalk field n c.args.shares is (i + 1) (next + takes instr)) (sym more)
    (walk-step field n c.args.shares is i next positions c.count_terms-terms.result c.loop-instr.invariant c.requires.fit c.loop-instr-test.true
    (c.count_terms-terms.ensures ∙ ap (term_count instr) c.as_slice.ensures.items) c.if-terms-gt-MOST_TERMS.false))

pub returns-clause-polynomials : goal.returns-clause-polynomials
returns-clause-polynomials c =
    walk-all c.args.ring.now.field c.args.ring.now.variables c.args.shares c.args.instrs.now c.loop-instr.instr-index c.loop-instr.next c.loop-instr.positions
    c.loop-instr.invariant c.loop-instr-test.false

pub returns-clause-few : goal.returns-clause-few
returns-clause-few c =
    walk-few c.args.ring.now.field c.args.ring.now.variables c.args.shares c.args.instrs.now c.loop-instr.instr-index c.loop-instr.next c.loop-instr.positions
    c.loop-instr.invariant c.loop-instr-test.false
