-- The inputs are the first entries, and the room is as before.
use Rattle.std.proofs.Common.{rules, arith, ◌≡◌, ℕ, List, ◌++◌, sym, subst}
use Rattle.std.proofs.lemmas.Grind.{common_steps}
use Rattle.mk_code.specs.Machine.{IsProgress}
use Rattle.mk_code.proofs.Steps.{IsProgress-new}
use Rattle.mk_code.proofs.machine.Machine.restart.Goals as goal

pub invariant_of-self : goal.invariant_of-self
invariant_of-self c =
    let m = c.self.inside in
    let e : c.extend_from_slice-2.new.self.items ≡ c.args.shares.now ++ c.args.publics.now = search rules in (
      subst (λ (entries : List ℕ). IsProgress (record { code = m.code.now; at = 0; entries = entries })) (sym e)
          (IsProgress-new m.code.now c.args.publics.now c.args.shares.now (rw (← c.self.view_is) at c.requires.publics) (rw (← c.self.view_is) at c.requires.shares)),
      c.self.invariant.1,
      grind (arith, common_steps, c.self.invariant.2),
    )
