-- Inputs that are taken are what the values ask for, and what these denote is the result.
use Rattle.std.proofs.Common.{◌≡◌, ◌≤◌, ℕ, List, None, Some, All, ◌<◌, length, sym, ap, subst}
use Rattle.mk_field.specs.Field.{size}
use Rattle.mk_ast.specs.declared.tree.Program.{Program}
use Rattle.mk_ssa.specs.Values.{Values}
use Rattle.mk_ssa.specs.Denoted.{denoted}
use Rattle.mk_types.specs.Meaning.{result}
use Rattle.mk_unroll.specs.Unrolled.{unrolled}
use Rattle.mk_eval.specs.Refusals.{inputs_refusal}
use Rattle.mk_eval.proofs.Taken.{is_taken, evaluates}
use Rattle.mk_eval.proofs.evaluation.eval.Goals as goal

pub denote-requires-clause-publics : goal.denote-requires-clause-publics
denote-requires-clause-publics c =
    let taken : inputs_refusal c.args.p.now c.args.publics.now c.args.secrets.now ≡ None =
    subst (λ (p : Program). inputs_refusal p c.args.publics.now c.args.secrets.now ≡ None) c.program.ensures.program (c.in_ok-check_inputs.ensures).right in
    subst (λ (s : Values). All (λ a. a < size s.field) c.args.publics.now) (sym (c.in_ok-values.ensures).values)
    (is_taken c.args.p.now c.args.publics.now c.args.secrets.now taken).publics_elements

pub denote-requires-clause-secrets : goal.denote-requires-clause-secrets
denote-requires-clause-secrets c =
    let taken : inputs_refusal c.args.p.now c.args.publics.now c.args.secrets.now ≡ None =
    subst (λ (p : Program). inputs_refusal p c.args.publics.now c.args.secrets.now ≡ None) c.program.ensures.program (c.in_ok-check_inputs.ensures).right in
    subst (λ (s : Values). All (λ a. a < size s.field) c.args.secrets.now) (sym (c.in_ok-values.ensures).values)
    (is_taken c.args.p.now c.args.publics.now c.args.secrets.now taken).secrets_elements

pub returns-clause-outputs : goal.returns-clause-outputs
returns-clause-outputs c =
    let taken : inputs_refusal c.args.p.now c.args.publics.now c.args.secrets.now ≡ None =
    subst (λ (p : Program). inputs_refusal p c.args.publics.now c.args.secrets.now ≡ None) c.program.ensures.program (c.in_ok-check_inputs.ensures).right in
    let both = evaluates c.args.p.now c.args.publics.now c.args.secrets.now c.program.ensures.regular c.program.ensures.typed taken (c.in_ok-values.ensures).ends in
    subst (λ (xs : List ℕ). result c.args.p.now c.args.publics.now c.args.secrets.now ≡ Some xs) (sym (c.in_ok-denote.ensures).values)
    (subst (λ (s : Values). result c.args.p.now c.args.publics.now c.args.secrets.now ≡ Some (denoted s c.args.publics.now c.args.secrets.now)) (sym (c.in_ok-values.ensures).values) both.0)

pub returns-clause-few : goal.returns-clause-few
returns-clause-few c =
    let taken : inputs_refusal c.args.p.now c.args.publics.now c.args.secrets.now ≡ None =
    subst (λ (p : Program). inputs_refusal p c.args.publics.now c.args.secrets.now ≡ None) c.program.ensures.program (c.in_ok-check_inputs.ensures).right in
    let both = evaluates c.args.p.now c.args.publics.now c.args.secrets.now c.program.ensures.regular c.program.ensures.typed taken (c.in_ok-values.ensures).ends in
    subst (λ (xs : List ℕ). length xs ≤ 65536) (sym (c.in_ok-denote.ensures).values)
    (subst (λ (s : Values). length (denoted s c.args.publics.now c.args.secrets.now) ≤ 65536) (sym (c.in_ok-values.ensures).values) both.1)
