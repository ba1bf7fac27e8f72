-- The source that was read is the one that was given.
use Rattle.std.proofs.Common.{ℕ, List, Some, IfOk, IfErr, subst}
use Rattle.mk_words.specs.Words.{Eval}
use Rattle.mk_top.specs.Headline.{Makes}
use Rattle.mk_top.specs.Seen.{seen}
use Rattle.mk_top.specs.Running.{NotMade}
use Rattle.mk_top.proofs.Given.{made-given, no_text-given}
use Rattle.mk_top.proofs.source.evaluated_text.Goals as goal

pub returns-clause-made : goal.returns-clause-made
returns-clause-made g c =
    let command = Eval c.args.publics.now c.args.secrets.now in
    made-given command (seen g.S.Source.left g.S.Source.faults c.args.src.now c.whole_text.new.src) c.in_ok-source.source c.text_of_outputs.result c.in_ok-source.ensures.within c.in_ok-source.ensures.read
    (subst (λ (bytes : List ℕ). IfOk c.text_of_outputs.result (Makes command (Some bytes))) c.as_slice.ensures.items c.text_of_outputs.ensures.evaluated)

pub returns-clause-unmade : goal.returns-clause-unmade
returns-clause-unmade g c =
    let command = Eval c.args.publics.now c.args.secrets.now in
    no_text-given command (seen g.S.Source.left g.S.Source.faults c.args.src.now c.whole_text.new.src) c.in_ok-source.source c.text_of_outputs.result c.in_ok-source.ensures.within c.in_ok-source.ensures.read
    (subst (λ (bytes : List ℕ). IfErr c.text_of_outputs.result (NotMade command bytes)) c.as_slice.ensures.items c.text_of_outputs.ensures.fault)
