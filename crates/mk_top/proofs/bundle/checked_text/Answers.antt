-- The line is that of a bundle that was checked.
use Rattle.mk_top.specs.Seen.{seen}
use Rattle.mk_top.proofs.Progress.{checked-made}
use Rattle.mk_top.proofs.bundle.checked_text.Goals as goal

pub returns-clause-made : goal.returns-clause-made
returns-clause-made g c =
    checked-made (seen g.S.Source.left g.S.Source.faults c.args.src.now c.verdict.new.src) c.in_ok-accepted_line.field-0 c.in_ok-verdict.ensures.checked
    c.in_ok-accepted_line.ensures
