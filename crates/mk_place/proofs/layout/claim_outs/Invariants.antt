-- The outputs so far are claimed.
use Rattle.std.proofs.Common.{◌≡◌, ◌++◌, map, take}
use Rattle.mk_place.specs.Laying.{named}
use Rattle.mk_place.proofs.layout.claim_outs.Given as goal

abbrev pub invariant-loop-out : goal.invariant-loop-out
invariant-loop-out l =
    (l.cert.blocks ≡ l.initial.cert.blocks) × (l.cert.claims ≡ l.initial.cert.claims ++ map (named l.names) (take l.out-index l.out-items))
