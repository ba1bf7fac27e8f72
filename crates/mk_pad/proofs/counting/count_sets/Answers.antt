-- Each next number of sets comes from the last.
use Rattle.std.proofs.Common.{arith, ◌≡◌, ◌∙◌, ap, ℕ, suc, ◌+◌, ◌*◌, ◌/◌}
use Rattle.mk_pad.specs.Verified.{choose}
use Rattle.mk_pad.proofs.Choosing.{next-number, next-step, times-few, sets-few, sum-few, counted-none, counted-more}
use Rattle.mk_pad.proofs.counting.count_sets.Goals as goal

pub loop-size-init : goal.loop-size-init
loop-size-init c = counted-none c.args.things

pub overflow_mul-sets : goal.overflow_mul-sets
overflow_mul-sets c =
    let n : ℕ = c.args.things in
    let k : ℕ = c.loop-size.size in
    let product : c.loop-size.sets * c.from.result ≡ (k + 1) * choose n (suc k) =
    ap (λ (s : ℕ). s * c.from.result) c.loop-size.invariant.0
    ∙ ap (λ (d : ℕ). choose n k * d) (c.from.ensures ∙ c.saturating_sub.ensures)
    ∙ next-step n k in
    omega (arith, product, times-few n k c.requires.things (omega (arith, c.loop-size-test.true, c.requires.most)))

pub overflow_add-total : goal.overflow_add-total
overflow_add-total c =
    let n : ℕ = c.args.things in
    let k : ℕ = c.loop-size.size in
    let next : c.loop-size.sets * c.from.result / c.from-in-loop-size.result ≡ choose n (suc k) =
    ap (λ (d : ℕ). c.loop-size.sets * c.from.result / d) c.from-in-loop-size.ensures
    ∙ next-number n k c.loop-size.sets c.from.result c.loop-size.invariant.0 (c.from.ensures ∙ c.saturating_sub.ensures) in
    omega (
      arith,
      next,
      c.loop-size.invariant.1,
      sum-few n k c.requires.things (omega (arith, c.loop-size-test.true, c.requires.most)),
      sets-few n (suc k) c.requires.things (omega (arith, c.loop-size-test.true, c.requires.most)),
      c.loop-size-test.true,
      c.requires.most,
    )

pub loop-size-preserved : goal.loop-size-preserved
loop-size-preserved c =
    let n : ℕ = c.args.things in
    let k : ℕ = c.loop-size.size in
    let next : c.loop-size.sets * c.from.result / c.from-in-loop-size.result ≡ choose n (suc k) =
    ap (λ (d : ℕ). c.loop-size.sets * c.from.result / d) c.from-in-loop-size.ensures
    ∙ next-number n k c.loop-size.sets c.from.result c.loop-size.invariant.0 (c.from.ensures ∙ c.saturating_sub.ensures) in
    counted-more n k c.loop-size.sets c.loop-size.total (c.loop-size.sets * c.from.result / c.from-in-loop-size.result) c.loop-size.invariant next
