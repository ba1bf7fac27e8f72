-- The positions so far are appended.
use Rattle.std.proofs.Common.{◌≡◌, ◌++◌, take, string_bytes, codes, decimal, flat_map}
use Rattle.mk_top.proofs.gadgets.push_others.Given as goal

abbrev pub invariant-loop-position : goal.invariant-loop-position
invariant-loop-position l = string_bytes l.text ≡ string_bytes l.initial.text ++ flat_map (λ q. codes "," ++ decimal q) (take l.position-index l.positions)
