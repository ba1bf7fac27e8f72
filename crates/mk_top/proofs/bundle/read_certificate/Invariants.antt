-- The certificate is what the events behind the head gave, which are blocks and claims.
use Rattle.std.proofs.Common.{◌≡◌, ◌≤◌, [], ◌∷◌, List, Option, ℕ}
use Rattle.std.specs.List.{AllByRecursion}
use Rattle.mk_bundle.specs.declared.event.Event.{Event}
use Rattle.mk_bundle.specs.declared.event.Event.TheVariants as event
use Rattle.mk_bundle.specs.Reads.{IsGoing, to_come}
use Rattle.mk_bundle.specs.Gathering.{nothing, gather_all}
use Rattle.mk_top.specs.Reading.{Reading, IsUpper}
use Rattle.mk_top.proofs.bundle.read_certificate.Given as goal

abbrev pub invariant-loop-cert : goal.invariant-loop-cert
invariant-loop-cert g l = record {
  going : IsGoing l.reader;
  falls : g.S.Source.faults l.initial.src ≤ g.S.Source.faults l.src;
  upper : List Event;
  uppers : AllByRecursion IsUpper upper;
  gives : gather_all nothing (event.Head l.head ∷ upper) ≡ record { head = l.head; blocks = l.cert.blocks; claims = l.cert.claims; instrs = []; outs = [] };
  reading : (before : Option (List ℕ)) → Reading before (g.S.Source.left l.initial.src) l.initial.reader (event.Head l.head ∷ []) → Reading before (g.S.Source.left l.src) l.reader (event.Head l.head ∷ upper);
}

abbrev pub decreases-loop-cert : goal.decreases-loop-cert
decreases-loop-cert g l = to_come l.reader
