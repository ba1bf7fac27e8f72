-- A second term that has the variable, or another one, tells that it isn't added.
use Rattle.std.proofs.Common.{◌≡◌, sym, ◌∙◌, [], ap, cond, Bool, ℕ, length}
use Rattle.std.proofs.lemmas.Bool.{false≢true}
use Rattle.mk_pad.specs.declared.term.Term.{Term}
use Rattle.mk_pad.specs.Positions.{variable}
use Rattle.mk_pad.proofs.Noting.{not-twice, not-other, all-at}
use Rattle.mk_pad.proofs.occurrences.is_added.Goals as goal
use Rattle.mk_pad.proofs.occurrences.is_added.Goals.{then-found-via-then-found, then-found-via-else-found+then-not-is_variable}

pub returns-then-found : goal.returns-then-found
returns-then-found c = (
  λ no. absurd (false≢true no),
  λ added. absurd (elim c.then-found.branch [
    | then-found-via-then-found w ↦
        not-twice c.args.variables c.args.variable c.args.terms.now c.loop-term.term-index c.term-item.result c.loop-term-test.true c.term-item.is
        (sym c.has_variable.ensures ∙ c.if-has_variable.true)
        (c.loop-term.invariant ∙ ap (λ (b : Bool). cond b (variable c.args.variables c.args.variable) []) w.if-found.true) added
    | then-found-via-else-found+then-not-is_variable w ↦
        not-other c.args.variables c.args.variable c.args.terms.now c.loop-term.term-index c.term-item.result c.loop-term-test.true c.term-item.is
        (sym c.has_variable.ensures ∙ c.if-has_variable.true)
        (c.loop-term.invariant ∙ ap (λ (b : Bool). cond b (variable c.args.variables c.args.variable) []) w.if-found.false)
        (λ same. false≢true (sym w.if-not-is_variable.true ∙ w.is_variable.ensures.1
        (same ∙ ap (λ (n : ℕ). variable n c.args.variable) (sym (all-at (λ t. length t.exponents ≡ c.args.variables) c.args.terms.now c.loop-term.term-index c.term-item.result c.requires.terms c.loop-term-test.true)
        ∙ sym (ap (λ (t : Term). length t.exponents) c.term-item.is))))) added
  ]),
)
