use Rattle.std.proofs.Common.{◌≡◌, slice_index}
use Rattle.mk_field.specs.Field.{sum_bits}
use Rattle.mk_field.proofs.map.AddMap.apply.Given as goal

-- the sum so far is that of the images of the lowest i bits
abbrev pub invariant-loop-i : goal.invariant-loop-i
invariant-loop-i l = l.sum ≡ sum_bits l.i (λ i. slice_index l.self.images i) l.a
