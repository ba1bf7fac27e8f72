-- The gadget that was read is the one that was given.
use Rattle.std.proofs.Common.{ℕ, List, Some, IfOk, IfErr, subst}
use Rattle.mk_words.specs.Words.{Gadget}
use Rattle.mk_top.specs.Headline.{Makes}
use Rattle.mk_top.specs.Seen.{seen}
use Rattle.mk_top.specs.Running.{NotMade}
use Rattle.mk_top.proofs.Given.{made-given, no_text-given}
use Rattle.mk_top.proofs.gadgets.judged_text.Goals as goal

pub returns-clause-made : goal.returns-clause-made
returns-clause-made g c =
    let command = Gadget in
    made-given command (seen g.S.Source.left g.S.Source.faults c.args.src.now c.whole_text.new.src) c.in_ok-bytes.bytes c.judged_bytes.result c.in_ok-bytes.ensures.within c.in_ok-bytes.ensures.read
    (subst (λ (bytes : List ℕ). IfOk c.judged_bytes.result (Makes command (Some bytes))) c.as_slice.ensures.items c.judged_bytes.ensures.judges)

pub returns-clause-unmade : goal.returns-clause-unmade
returns-clause-unmade g c =
    let command = Gadget in
    no_text-given command (seen g.S.Source.left g.S.Source.faults c.args.src.now c.whole_text.new.src) c.in_ok-bytes.bytes c.judged_bytes.result c.in_ok-bytes.ensures.within c.in_ok-bytes.ensures.read
    (subst (λ (bytes : List ℕ). IfErr c.judged_bytes.result (NotMade command bytes)) c.as_slice.ensures.items c.judged_bytes.ensures.fault)
