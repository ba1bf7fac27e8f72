-- The first values are laid.
use Rattle.std.proofs.Common.{◌≡◌, [], length}
use Rattle.mk_place.specs.Marking.{all_marks}
use Rattle.mk_place.specs.Laying.{IsLaid}
use Rattle.mk_place.proofs.layout.lay_values.Given as goal

abbrev pub invariant-loop-at : goal.invariant-loop-at
invariant-loop-at l =
    (l.len ≡ length l.s.values) × IsLaid (all_marks l.s) l.s.values l.at l.cert.blocks l.names × (l.cert.claims ≡ [])
