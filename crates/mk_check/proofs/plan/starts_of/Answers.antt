-- One start more.
use Rattle.std.proofs.Common.{◌≡◌, ◌+◌, ◌*◌, ◌≤◌, ℕ, List, [], ◌∷◌, length, slice_index, slice_index_or, refl, subst, sym, ap, arith}
use Rattle.std.proofs.lemmas.List.{length-append}
use Rattle.std.proofs.lemmas.Option.{slice_get-get_or}
use Rattle.mk_code.specs.declared.TheConstants.{MOST_INSTRS}
use Rattle.mk_ssa.specs.declared.Op.{Op}
use Rattle.mk_ssa.specs.declared.Op.TheVariants.{Const}
use Rattle.mk_gadget.specs.Template.{template}
use Rattle.mk_rules.specs.Tiles.{laid}
use Rattle.mk_check.specs.Outlines.{outlined}
use Rattle.mk_check.specs.Plans.{laid_len}
use Rattle.mk_check.proofs.Banks.{laid-next}
use Rattle.mk_check.proofs.Lists.{each-pushed}
use Rattle.mk_check.proofs.plan.starts_of.Goals as goal

pub loop-at-init : goal.loop-at-init
unfolding laid
loop-at-init c = record {
  count = ap length c.in_ok-starts.ensures.items;
  start = refl;
  few = omega arith;
  each = λ k below. absurd (omega (arith, below));
  small = λ k below. absurd (omega (arith, below));
}

pub loop-at-preserved : goal.loop-at-preserved
loop-at-preserved c =
    let at : ℕ = c.loop-at.at in
    let op : Op = slice_index_or c.args.blocks.now at (Const 0) in
    let more : c.loop-at.start + c.from-start.result ≡ laid_len (outlined c.args.outline.now) c.args.templates.now c.args.blocks.now (at + 1) =
    omega (
      arith,
      c.loop-at.invariant.start,
      c.from-start.ensures,
      c.len.ensures.count,
      ap (λ (n : ℕ). length (template n c.args.templates.now.product c.args.templates.now.refresh op).instrs) c.requires.shares,
      laid-next (outlined c.args.outline.now) c.args.templates.now.product c.args.templates.now.refresh c.args.blocks.now at op (slice_get-get_or c.args.blocks.now at (Const 0) c.loop-at-test.true),
    ) in
    record {
      count = omega (arith, ap length c.in_ok-push.ensures.items, length-append c.loop-at.starts.items (c.loop-at.start ∷ []), c.loop-at.invariant.count);
      start = more;
      few = omega (arith, c.loop-at.invariant.few, c.from-start.ensures, c.len.ensures.small);
      each = λ k below.
          subst (λ (xs : List ℕ). slice_index xs k ≡ laid_len (outlined c.args.outline.now) c.args.templates.now c.args.blocks.now k) (sym c.in_ok-push.ensures.items)
          (each-pushed (λ j x. x ≡ laid_len (outlined c.args.outline.now) c.args.templates.now c.args.blocks.now j) c.loop-at.starts.items at c.loop-at.start
          c.loop-at.invariant.count c.loop-at.invariant.each c.loop-at.invariant.start k below);
      small = λ k below.
          subst (λ (xs : List ℕ). slice_index xs k ≤ k * MOST_INSTRS) (sym c.in_ok-push.ensures.items)
          (each-pushed (λ j x. x ≤ j * MOST_INSTRS) c.loop-at.starts.items at c.loop-at.start c.loop-at.invariant.count c.loop-at.invariant.small c.loop-at.invariant.few k below);
    }
