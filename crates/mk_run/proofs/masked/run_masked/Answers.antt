-- Both parts of the tape are elements.
use Rattle.std.proofs.Common.{sym, subst}
use Rattle.mk_field.specs.Field.{size}
use Rattle.mk_code.specs.Counting.{AllBelow}
use Rattle.mk_code.proofs.Totals.{AllBelow-take, AllBelow-drop}
use Rattle.mk_run.proofs.Shares.{Elements-of}
use Rattle.mk_run.proofs.masked.run_masked.Goals as goal

pub encoded-requires-clause-tape : goal.encoded-requires-clause-tape
encoded-requires-clause-tape c =
    let q = size c.args.code.now.field in
    Elements-of q c.split_at.result.0.now
    (subst (AllBelow q) (sym c.split_at.ensures.front) (AllBelow-take q c.spent_by.result c.args.tape.now (c.in_ok-check_whole.ensures).tape.below))

pub traced-requires-clause-tape : goal.traced-requires-clause-tape
traced-requires-clause-tape c =
    let q = size c.args.code.now.field in
    Elements-of q c.split_at.result.1.now
    (subst (AllBelow q) (sym c.split_at.ensures.back) (AllBelow-drop q c.spent_by.result c.args.tape.now (c.in_ok-check_whole.ensures).tape.below))
