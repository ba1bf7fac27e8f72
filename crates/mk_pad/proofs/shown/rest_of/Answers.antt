-- One position after the other is taken out.
use Rattle.std.proofs.Common.{arith, sym, ◌∙◌, ap, subst, ℕ, ◌<◌, ◌++◌, ◌∷◌, [], List, length}
use Rattle.std.specs.List.{AllByRecursion}
use Rattle.mk_pad.specs.Form.{position_count}
use Rattle.mk_pad.specs.Shown.{is_in, without, MayTake, Leaves}
use Rattle.mk_pad.proofs.Taking.{leaves-all, leaves-more, all-without, without-few, without-fewer}
use Rattle.mk_pad.proofs.shown.rest_of.Goals as goal

pub loop-position-init : goal.loop-position-init
loop-position-init c = (
  leaves-all c.args.gadget.now c.args.set.now c.copy_of-left.result.items c.copy_of-left.ensures,
  subst (AllByRecursion (λ p. p < position_count c.args.gadget.now)) (sym c.copy_of-left.ensures) c.requires.set,
  omega (arith, ap length c.copy_of-left.ensures, c.requires.few),
)

pub loop-position-smaller : goal.loop-position-smaller
loop-position-smaller c =
    omega (
      arith,
      ap length (c.without-left.ensures ∙ ap (without c.in-Some.position) c.as_slice-in-Some.ensures.value),
      without-fewer c.in-Some.position c.loop-position.left.items (ap (λ (xs : List ℕ). is_in xs c.in-Some.position) (sym c.as_slice.ensures.value) ∙ c.in-Some.ensures.0),
    )

pub loop-position-preserved : goal.loop-position-preserved
loop-position-preserved c =
    let g = c.args.gadget.now in
    let left : List ℕ = c.loop-position.left.items in
    let p : ℕ = c.in-Some.position in
    let is = c.without-left.ensures ∙ ap (without p) c.as_slice-in-Some.ensures.value in
    let there = ap (λ (xs : List ℕ). is_in xs p) (sym c.as_slice.ensures.value) ∙ c.in-Some.ensures.0 in
    let may : MayTake g left p = subst (λ (xs : List ℕ). MayTake g xs p) c.as_slice.ensures.value c.in-Some.ensures.1 in (
      (
        c.loop-position.invariant.0.0 ++ p ∷ [],
        subst (Leaves g (c.loop-position.invariant.0.0 ++ p ∷ []) c.args.set.now) (sym is)
            (leaves-more g c.loop-position.invariant.0.0 c.args.set.now left p c.loop-position.invariant.0.1 there may),
      ),
      subst (AllByRecursion (λ q. q < position_count g)) (sym is) (all-without (λ q. q < position_count g) p left c.loop-position.invariant.1),
      omega (arith, ap length is, without-few p left, c.loop-position.invariant.2),
    )
