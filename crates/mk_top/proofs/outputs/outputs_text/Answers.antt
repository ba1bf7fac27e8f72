-- The places are in the trace, and as many are seen.
use Rattle.mk_code.specs.Listing.{trace_len}
use Rattle.mk_code.proofs.Steps.{AllBelow-all}
use Rattle.mk_top.proofs.outputs.outputs_text.Goals as goal

pub entries_at-requires : goal.entries_at-requires
entries_at-requires c =
    let code = c.args.code.now in
    rw (c.as_slice.ensures.items, c.outs.ensures, c.requires) (AllBelow-all (trace_len code) code.outs c.law.ensures.fits.outs)
