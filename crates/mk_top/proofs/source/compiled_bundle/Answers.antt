-- The source that was read is the one that was given.
use Rattle.std.proofs.Common.{ℕ, List, Some, IfOk, IfErr, subst}
use Rattle.mk_bundle.specs.Text.{register_text}
use Rattle.mk_words.specs.Words.{Compile}
use Rattle.mk_top.specs.Headline.{Makes}
use Rattle.mk_top.specs.Seen.{seen}
use Rattle.mk_top.specs.Running.{NotMade}
use Rattle.mk_top.proofs.Given.{bundle-given, no_text-given}
use Rattle.mk_top.proofs.source.compiled_bundle.Goals as goal

pub returns-clause-made : goal.returns-clause-made
returns-clause-made g c =
    let command = Compile c.args.order in
    bundle-given command (seen g.S.Source.left g.S.Source.faults c.args.src.now c.whole_text.new.src) c.in_ok-source.source c.bundle_of_source.result c.in_ok-source.ensures.within c.in_ok-source.ensures.read
    (subst (λ (bytes : List ℕ). IfOk c.bundle_of_source.result (λ b. Makes command (Some bytes) (register_text b.code b.cert))) c.as_slice.ensures.items c.bundle_of_source.ensures.compiled)

pub returns-clause-unmade : goal.returns-clause-unmade
returns-clause-unmade g c =
    let command = Compile c.args.order in
    no_text-given command (seen g.S.Source.left g.S.Source.faults c.args.src.now c.whole_text.new.src) c.in_ok-source.source c.bundle_of_source.result c.in_ok-source.ensures.within c.in_ok-source.ensures.read
    (subst (λ (bytes : List ℕ). IfErr c.bundle_of_source.result (NotMade command bytes)) c.as_slice.ensures.items c.bundle_of_source.ensures.fault)
