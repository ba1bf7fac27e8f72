-- The text, line by line.
use Rattle.std.proofs.lemmas.Result.{on_ok_weaker}
use Rattle.mk_gen.proofs.Lines.{generated_written}
use Rattle.mk_gen.proofs.text.push_text.Goals as goal

pub returns : goal.returns
returns c =
    on_ok_weaker c.push_line-3.result
    (λ last. generated_written c.args.n _ _ _ _ _ _ c.in_ok-push_declarations.ensures c.in_ok-write.ensures.bytes c.in_ok-push_line.ensures c.in_ok-push_line-2.ensures last)
    c.push_line-3.ensures
