-- The inputs are the first entries.
use Rattle.std.proofs.Common.{rules, arith, ◌≡◌, ℕ, List, ◌++◌, sym, subst}
use Rattle.std.proofs.lemmas.Grind.{common_steps}
use Rattle.mk_code.specs.Machine.{IsProgress}
use Rattle.mk_code.proofs.Steps.{IsProgress-new}
use Rattle.mk_code.proofs.machine.Machine.new.Goals as goal

pub invariant_of-result : goal.invariant_of-result
invariant_of-result c =
    let e : c.extend_from_slice-2.new.self.items ≡ c.args.shares.now ++ c.args.publics.now = search rules in (
      subst (λ (entries : List ℕ). IsProgress (record { code = c.args.code.now; at = 0; entries = entries })) (sym e)
          (IsProgress-new c.args.code.now c.args.publics.now c.args.shares.now c.requires.publics c.requires.shares),
      c.trace_len.ensures.fits,
      grind (arith, common_steps),
    )
