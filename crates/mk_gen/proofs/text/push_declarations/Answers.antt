-- The lines in front of the loop, one after the other.
use Rattle.std.proofs.lemmas.Result.{on_ok_weaker}
use Rattle.mk_gen.proofs.Lines.{declarations_written}
use Rattle.mk_gen.proofs.text.push_declarations.Goals as goal

pub returns : goal.returns
returns c =
    on_ok_weaker c.push_line-5.result
    (λ last. declarations_written _ _ _ _ _ _ c.in_ok-push_line.ensures c.in_ok-push_line-2.ensures c.in_ok-push_line-3.ensures c.in_ok-push_line-4.ensures last)
    c.push_line-5.ensures
