-- No line was read.
use Rattle.std.proofs.Common.{refl, ap}
use Rattle.mk_bundle.specs.Taking.{Held}
use Rattle.mk_bundle.proofs.Stepping.{reads_nothing}
use Rattle.mk_bundle.proofs.reader.BundleReader.new.Goals as goal

pub returns-clause-read : goal.returns-clause-read
returns-clause-read c =
    reads_nothing _ c.empty_notes.ensures.empty refl refl (ap (λ (h : Held). h.pending) c.in_ok-input.ensures) (ap (λ (h : Held). h.count) c.in_ok-input.ensures)
