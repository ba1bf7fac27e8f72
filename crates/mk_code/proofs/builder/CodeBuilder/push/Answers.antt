-- The instruction fits behind the others, and its random element is counted.
use Rattle.std.proofs.Common.{arith, ◌<◌, ◌≤◌, ◌+◌, [], ◌∷◌, length}
use Rattle.std.proofs.lemmas.List.{length-append}
use Rattle.std.proofs.lemmas.Grind.{common_steps}
use Rattle.mk_code.specs.Listing.{FitsAt, inputs_len}
use Rattle.mk_code.proofs.Instrs.{randoms-le, randoms-push, takes-le, AllFit-push}
use Rattle.mk_code.proofs.builder.CodeBuilder.push.Goals as goal

pub overflow_add-self : goal.overflow_add-self
overflow_add-self g c =
    let few : length c.self.inside.instrs.items ≤ 8388608 = c.self.invariant.0.few in
    grind (arith, common_steps, randoms-le c.self.inside.instrs.items, takes-le c.args.instr, few, c.self.invariant.2)

pub invariant_of-self : goal.invariant_of-self
invariant_of-self g c =
    let i = c.args.instr in
    let is = c.self.inside.instrs.items in
    let fits : FitsAt g.F.Field.ID (length c.self.inside.maps) (inputs_len c.self.inside.order c.self.inside.secrets c.self.inside.publics + length is) i =
    rw (← c.self.view_is) at c.requires.fits in
    let few : length is < 8388608 = rw (← c.self.view_is) at c.requires.few in
    rw c.push_reserved.ensures.items (
      record {
        order = c.self.invariant.0.order;
        secrets = c.self.invariant.0.secrets;
        publics = c.self.invariant.0.publics;
        maps = c.self.invariant.0.maps;
        bytes = c.self.invariant.0.bytes;
        few = omega (arith, length-append is (i ∷ []), few);
        fit = AllFit-push g.F.Field.ID _ _ is i c.self.invariant.0.fit fits;
      },
      c.self.invariant.1,
      omega (arith, randoms-push is i, c.self.invariant.2, c.randoms.ensures),
    )
