-- A fault stops what nothing has stopped.
use Rattle.std.proofs.Common.{refl, sym, ap, inr}
use Rattle.mk_types.specs.Units.{Fault}
use Rattle.mk_types.specs.Stops.{Index}
use Rattle.mk_unroll.specs.Counted.{Count, one_more}
use Rattle.mk_unroll.proofs.meter.Meter.fault.Goals as goal

pub returns : goal.returns
returns c = inr (Index c.args.at, ap (λ (m : Count). (one_more m (Fault c.args.at)).stop) (sym c.self.view_is), refl)
