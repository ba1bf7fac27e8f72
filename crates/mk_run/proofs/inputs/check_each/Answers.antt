-- No input is no element.
use Rattle.std.proofs.Common.{refl, subst, ℕ, ◌<◌, All, OnOk, length}
use Rattle.std.proofs.lemmas.Result.{on_ok_weaker}
use Rattle.mk_field.specs.Field.{size}
use Rattle.mk_code.specs.Counting.{Elements}
use Rattle.mk_code.proofs.Steps.{AllBelow-all}
use Rattle.mk_run.proofs.inputs.check_each.Goals as goal

pub returns-clause-elements : goal.returns-clause-elements
returns-clause-elements c =
    let xs = c.args.inputs.now in
    subst (λ (q : ℕ). OnOk c.check_each.result (Elements q (length xs) xs)) c.size.ensures
    (on_ok_weaker {P = All (λ a. a < c.size.result) xs} c.check_each.result
    (λ all. record { count = refl; below = AllBelow-all c.size.result xs all }) c.check_each.ensures.elements)
