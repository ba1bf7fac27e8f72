-- The limit that an unrolling exceeds is the one that stops execution.
use Rattle.std.proofs.Common.{inr}
use Rattle.mk_eval.proofs.Taken.{stopped-by}
use Rattle.mk_eval.proofs.evaluation.values_of.Goals as goal

pub returns-in-Err-Large-clause-stops : goal.returns-in-Err-Large-clause-stops
returns-in-Err-Large-clause-stops c =
    inr (stopped-by c.args.p.now c.in-Err-Large.field-0 c.in-Err-Large.limit c.requires c.in-Err-Large.field-0-is (c.in-Err-Large.ensures).cause)
