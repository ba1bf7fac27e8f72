-- One out is wrong, or claims are left, or the outs are those of the claims.
use Rattle.std.proofs.Common.{◌≡◌, ◌≤◌, ℕ, List, length, MatchOption, false, sym, ap, subst, ◌∙◌, arith}
use Rattle.std.specs.Option.{is_some}
use Rattle.std.proofs.lemmas.Bool.{false≢true}
use Rattle.mk_code.specs.declared.instr.Instr.{Instr}
use Rattle.mk_rules.specs.Wired.{Wired}
use Rattle.mk_check.specs.Outlines.{outlined}
use Rattle.mk_check.specs.Given.{Checking, Given, HasOutputs, IsWrong}
use Rattle.mk_check.proofs.Stepping.{wrong-last}
use Rattle.mk_check.proofs.checker.Checker.first_wrong.Goals as goal
use Rattle.mk_check.proofs.checker.Checker.first_wrong.Goals.{else-is_none-via-then-is_none+else-self-len, else-is_none-via-else-is_none}

pub returns-else-is_none : goal.returns-else-is_none
returns-else-is_none c =
    subst (λ (s : Checking). (instrs : List Instr) (outs : List ℕ) → Given s instrs outs → Wired (outlined s.outline) s.cert.blocks
    → MatchOption c.self.inside.wrong (HasOutputs s instrs outs) (λ k. IsWrong s instrs outs k)) c.self.view_is
    (λ instrs outs given wired.
    let ended : is_some c.self.inside.wrong ≡ false → length c.self.inside.plan.cert.claims ≤ c.self.inside.outs = λ none. elim c.else-is_none.branch [
      | else-is_none-via-then-is_none+else-self-len w ↦ omega (arith, w.if-self-len.false, w.len.ensures.count, ap length w.claims.ensures)
      | else-is_none-via-else-is_none w ↦ absurd (false≢true (sym none ∙ w.if-is_none.ensures))
    ] in
    wrong-last c.self.inside.plan.outline c.self.inside.plan.cert.blocks c.self.inside.plan.cert.claims instrs outs c.self.inside.outs c.self.inside.wrong given.outputs (given.wrong wired) ended)
