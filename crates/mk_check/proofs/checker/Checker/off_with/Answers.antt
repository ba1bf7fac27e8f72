-- The next instruction is the first that is off if none was.
use Rattle.std.proofs.Common.{◌≡◌, ◌+◌, ◌++◌, ◌∷◌, [], ℕ, List, length, slice_get, Some, None, sym, ap, subst, ◌∙◌}
use Rattle.std.proofs.lemmas.Bool.{false≢true}
use Rattle.mk_code.specs.declared.instr.Instr.{Instr}
use Rattle.mk_rules.specs.Wired.{Wired}
use Rattle.mk_check.specs.Gadgets.{Gadgets, built_in_gadgets}
use Rattle.mk_check.specs.Laying.{all_laid}
use Rattle.mk_check.specs.Outlines.{outlined, code_over}
use Rattle.mk_check.specs.Given.{Checking, Given, IsFirstOff}
use Rattle.mk_check.proofs.Stepping.{unwired-not, off-stays, off-none, agree-next, differ-next}
use Rattle.mk_check.proofs.checker.Checker.off_with.Goals as goal
use Rattle.mk_check.proofs.checker.Checker.off_with.Goals.{then-is_some-via-then-is_some, then-is_some-via-else-is_some+then-is_some-2}

pub returns-then-is_some : goal.returns-then-is_some
returns-then-is_some c =
    subst (λ (s : Checking). (instrs : List Instr) (outs : List ℕ) → Given s instrs outs → Wired (outlined s.outline) s.cert.blocks
    → IsFirstOff (code_over s.outline (instrs ++ c.args.instr ∷ []) outs) s.cert.blocks c.self.inside.off) c.self.view_is
    (λ instrs outs given wired. elim c.then-is_some.branch [
      | then-is_some-via-then-is_some w ↦
          absurd (unwired-not (outlined c.self.inside.plan.outline) c.self.inside.plan.cert.blocks c.self.inside.unwired c.self.invariant.1
          (sym c.is_some.ensures ∙ w.if-is_some.true) wired)
      | then-is_some-via-else-is_some+then-is_some-2 w ↦
          off-stays c.self.inside.plan.outline c.self.inside.plan.cert.blocks instrs outs c.args.instr c.self.inside.off
          (sym w.is_some-else-is_some.ensures ∙ w.if-is_some-2.true) (given.off wired)
    ])

pub returns-then-is_next : goal.returns-then-is_next
returns-then-is_next c =
    subst (λ (s : Checking). (instrs : List Instr) (outs : List ℕ) → Given s instrs outs → Wired (outlined s.outline) s.cert.blocks
    → IsFirstOff (code_over s.outline (instrs ++ c.args.instr ∷ []) outs) s.cert.blocks None) c.self.view_is
    (λ instrs outs given wired.
    let gadgets : Gadgets = built_in_gadgets (c.self.inside.plan.outline.order + 1) in
    let laid : List Instr = all_laid (outlined c.self.inside.plan.outline) gadgets c.self.inside.plan.cert.blocks in
    let next : slice_get laid (length instrs) ≡ Some c.args.instr =
    ap (slice_get laid) (sym given.count)
    ∙ ap (λ (g : Gadgets). slice_get (all_laid (outlined c.self.inside.plan.outline) g c.self.inside.plan.cert.blocks) c.self.inside.instrs) (sym c.self.invariant.0.templates)
    ∙ c.is_next.ensures.0 c.if-is_next.true in
    agree-next instrs laid c.args.instr
    (off-none c.self.inside.plan.outline c.self.inside.plan.cert.blocks instrs outs c.self.inside.off (sym c.is_some-else-is_some.ensures ∙ c.if-is_some-2.false) (given.off wired)) next)

pub returns-else-is_next : goal.returns-else-is_next
returns-else-is_next c =
    subst (λ (s : Checking). (instrs : List Instr) (outs : List ℕ) → Given s instrs outs → Wired (outlined s.outline) s.cert.blocks
    → IsFirstOff (code_over s.outline (instrs ++ c.args.instr ∷ []) outs) s.cert.blocks (Some c.self.inside.instrs)) c.self.view_is
    (λ instrs outs given wired.
    let gadgets : Gadgets = built_in_gadgets (c.self.inside.plan.outline.order + 1) in
    let laid : List Instr = all_laid (outlined c.self.inside.plan.outline) gadgets c.self.inside.plan.cert.blocks in
    differ-next instrs laid c.args.instr c.self.inside.instrs given.count
    (off-none c.self.inside.plan.outline c.self.inside.plan.cert.blocks instrs outs c.self.inside.off (sym c.is_some-else-is_some.ensures ∙ c.if-is_some-2.false) (given.off wired))
    (λ e.
    false≢true (sym c.if-is_next.false
    ∙ c.is_next.ensures.1 (ap (λ (g : Gadgets). slice_get (all_laid (outlined c.self.inside.plan.outline) g c.self.inside.plan.cert.blocks) c.self.inside.instrs) c.self.invariant.0.templates ∙ e))))
