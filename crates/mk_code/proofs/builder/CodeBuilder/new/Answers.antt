-- No instruction fits, and takes no random element.
use Rattle.std.proofs.Common.{arith, refl, subst}
use Rattle.std.specs.List.{AllByRecursion}
use Rattle.mk_field.specs.Maps.{MapFits}
use Rattle.mk_code.specs.Trace.{randoms}
use Rattle.mk_code.proofs.builder.CodeBuilder.new.Goals as goal

pub invariant_of-result : goal.invariant_of-result
unfolding randoms
invariant_of-result g c = rw c.new.ensures.items (
  record {
    order = omega arith;
    secrets = c.requires.secrets;
    publics = c.requires.publics;
    maps = c.requires.maps;
    bytes = c.requires.bytes;
    few = omega arith;
    fit = tt;
  },
  subst (AllByRecursion MapFits) c.as_slice.ensures.items c.walk_maps.ensures,
  refl,
)
