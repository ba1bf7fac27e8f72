-- The first shares are zeros.
use Rattle.std.proofs.Common.{rules, ◌≡◌, ◌+◌, ◌*◌, replicate, sym, ◌∙◌, subst}
use Rattle.std.proofs.lemmas.List.{length-replicate}
use Rattle.mk_field.specs.Field.{size}
use Rattle.mk_code.specs.Counting.{Elements}
use Rattle.mk_field.proofs.Sum.{zero-element}
use Rattle.mk_run.proofs.Shares.{AllBelow-zeros}
use Rattle.mk_run.proofs.runner.Runner.new.Goals as goal

pub new-requires-clause-shares : goal.new-requires-clause-shares
new-requires-clause-shares c =
    let code = c.args.code.now in
    let zeros : c.deref.result.now ≡ replicate c.shares_of.result 0 = search rules in
    subst (Elements (size code.field) (code.secrets * (code.order + 1))) (sym zeros)
    (record { count = length-replicate c.shares_of.result 0 ∙ c.shares_of.ensures; below = AllBelow-zeros (size code.field) c.shares_of.result (zero-element code.field) })
