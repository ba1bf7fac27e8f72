-- A count on the elements and probes that words say.
use Rattle.mk_top.specs.Seen.{seen}
use Rattle.mk_top.specs.Running.{Made, NoText}
use Rattle.mk_top.proofs.Ends.{made-said, unmade-said}
use Rattle.mk_top.proofs.top.counted_on_words.Goals as goal

pub returns-clause-made : goal.returns-clause-made
returns-clause-made g c =
    made-said c.args.publics.now c.args.first.now c.args.second.now c.args.probes.now _ _ _ _ _ _ _ _
    (λ command. Made command (seen g.S.Source.left g.S.Source.faults c.args.src.now c.counted_text.new.src)) c.counted_text.result
    (c.in_ok-publics.ensures, c.in_ok-first.ensures, c.in_ok-second.ensures, c.in_ok-probes.ensures)
    (c.as_slice.ensures.items, c.as_slice-2.ensures.items, c.as_slice-3.ensures.items, c.as_slice-4.ensures.items) c.counted_text.ensures.made

pub returns-clause-unmade : goal.returns-clause-unmade
returns-clause-unmade g c =
    unmade-said c.args.publics.now c.args.first.now c.args.second.now c.args.probes.now _ _ _ _ _ _ _ _
    (λ command. NoText command (seen g.S.Source.left g.S.Source.faults c.args.src.now c.counted_text.new.src)) c.counted_text.result
    (c.in_ok-publics.ensures, c.in_ok-first.ensures, c.in_ok-second.ensures, c.in_ok-probes.ensures)
    (c.as_slice.ensures.items, c.as_slice-2.ensures.items, c.as_slice-3.ensures.items, c.as_slice-4.ensures.items) c.counted_text.ensures.unmade
