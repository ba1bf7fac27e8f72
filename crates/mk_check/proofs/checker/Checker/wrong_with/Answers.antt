-- The next out is the first that is wrong if none was.
use Rattle.std.proofs.Common.{◌≡◌, ◌+◌, ◌++◌, [], ℕ, List, length, slice_get, slice_index_or, IsSomeAnd, Some, None, sym, ap, subst, ◌∙◌, arith}
use Rattle.std.proofs.lemmas.Bool.{false≢true}
use Rattle.mk_code.specs.declared.instr.Instr.{Instr}
use Rattle.mk_rules.specs.Tiles.{value_number}
use Rattle.mk_rules.specs.Wired.{IsSharedThere, Wired}
use Rattle.mk_check.specs.Gadgets.{Gadgets}
use Rattle.mk_check.specs.Laying.{all_banks}
use Rattle.mk_check.specs.Outlines.{outlined, code_over}
use Rattle.mk_check.specs.Given.{Checking, Given, IsFirstWrong}
use Rattle.mk_check.proofs.Stepping.{unwired-not, first_wrong-stays, none_wrong-next, first_wrong-next}
use Rattle.mk_check.proofs.checker.Checker.wrong_with.Goals as goal
use Rattle.mk_check.proofs.checker.Checker.wrong_with.Goals.{then-is_some-via-then-is_some, then-is_some-via-else-is_some+then-is_some-2}

pub returns-then-is_some : goal.returns-then-is_some
returns-then-is_some c =
    subst (λ (s : Checking). (instrs : List Instr) (outs : List ℕ) → Given s instrs outs → Wired (outlined s.outline) s.cert.blocks
    → IsFirstWrong (code_over s.outline instrs (outs ++ c.args.positions.now)) s.cert.blocks s.cert.claims (s.outs + 1) c.self.inside.wrong) c.self.view_is
    (λ instrs outs given wired. elim c.then-is_some.branch [
      | then-is_some-via-then-is_some w ↦
          absurd (unwired-not (outlined c.self.inside.plan.outline) c.self.inside.plan.cert.blocks c.self.inside.unwired c.self.invariant.1
          (sym c.is_some.ensures ∙ w.if-is_some.true) wired)
      | then-is_some-via-else-is_some+then-is_some-2 w ↦
          first_wrong-stays c.self.inside.plan.outline c.self.inside.plan.cert.blocks c.self.inside.plan.cert.claims instrs instrs outs c.args.positions.now c.self.inside.outs (c.self.inside.outs + 1)
          c.self.inside.wrong given.outputs (omega arith) (sym w.is_some-else-is_some.ensures ∙ w.if-is_some-2.true) (given.wrong wired)
    ])

pub returns-then-is_claimed : goal.returns-then-is_claimed
returns-then-is_claimed c =
    let whole : length c.args.positions.now ≡ c.self.inside.plan.outline.order + 1 = c.requires.count ∙ ap (λ (s : Checking). s.outline.order + 1) (sym c.self.view_is) in
    subst (λ (s : Checking). (instrs : List Instr) (outs : List ℕ) → Given s instrs outs → Wired (outlined s.outline) s.cert.blocks
    → IsFirstWrong (code_over s.outline instrs (outs ++ c.args.positions.now)) s.cert.blocks s.cert.claims (s.outs + 1) None) c.self.view_is
    (λ instrs outs given wired.
    none_wrong-next c.self.inside.plan.outline c.self.inside.plan.cert.blocks c.self.inside.plan.cert.claims instrs outs c.args.positions.now c.self.inside.outs c.self.inside.wrong given.outputs whole
    (sym c.is_some-else-is_some.ensures ∙ c.if-is_some-2.false) (given.wrong wired)
    (subst (λ (g : Gadgets). IsSomeAnd (slice_get c.self.inside.plan.cert.claims c.self.inside.outs)
    (λ v. IsSharedThere (outlined c.self.inside.plan.outline) c.self.inside.plan.cert.blocks v
    × (slice_index_or (all_banks (outlined c.self.inside.plan.outline) g c.self.inside.plan.cert.blocks) (value_number (outlined c.self.inside.plan.outline) v) [] ≡ c.args.positions.now)))
    c.self.invariant.0.templates (c.is_claimed.ensures.0 c.if-is_claimed.true)))

pub returns-else-is_claimed : goal.returns-else-is_claimed
returns-else-is_claimed c =
    let whole : length c.args.positions.now ≡ c.self.inside.plan.outline.order + 1 = c.requires.count ∙ ap (λ (s : Checking). s.outline.order + 1) (sym c.self.view_is) in
    subst (λ (s : Checking). (instrs : List Instr) (outs : List ℕ) → Given s instrs outs → Wired (outlined s.outline) s.cert.blocks
    → IsFirstWrong (code_over s.outline instrs (outs ++ c.args.positions.now)) s.cert.blocks s.cert.claims (s.outs + 1) (Some c.self.inside.outs)) c.self.view_is
    (λ instrs outs given wired.
    first_wrong-next c.self.inside.plan.outline c.self.inside.plan.cert.blocks c.self.inside.plan.cert.claims instrs outs c.args.positions.now c.self.inside.outs c.self.inside.wrong given.outputs whole
    (sym c.is_some-else-is_some.ensures ∙ c.if-is_some-2.false) (given.wrong wired)
    (λ claim.
    false≢true (sym c.if-is_claimed.false
    ∙ c.is_claimed.ensures.1
    (subst (λ (g : Gadgets). IsSomeAnd (slice_get c.self.inside.plan.cert.claims c.self.inside.outs)
    (λ v. IsSharedThere (outlined c.self.inside.plan.outline) c.self.inside.plan.cert.blocks v
    × (slice_index_or (all_banks (outlined c.self.inside.plan.outline) g c.self.inside.plan.cert.blocks) (value_number (outlined c.self.inside.plan.outline) v) [] ≡ c.args.positions.now)))
    (sym c.self.invariant.0.templates) claim))))
