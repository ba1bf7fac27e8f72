-- The probes are in the trace.
use Rattle.std.proofs.Common.{length}
use Rattle.mk_code.proofs.Steps.{AllBelow-at}
use Rattle.mk_run.proofs.counting.observe.Goals as goal

pub bounds-trace-probes : goal.bounds-trace-probes
bounds-trace-probes c = AllBelow-at (length c.args.trace.now) c.args.probes.now c.loop-i.i c.requires.probes c.loop-i-test.true
