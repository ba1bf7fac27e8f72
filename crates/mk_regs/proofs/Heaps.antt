-- A heap of registers whose greatest element is the least register.
use Rattle.std.proofs.Common.{◌≡◌, ℕ, ◌<◌, ◌≤◌, Bool, false, nat_eq, nat_lt, cond, ◌==◌, List, [], ◌∷◌, inl, inr, refl, sym, ◌∙◌, ap, arith}
use Rattle.std.specs.List.{AllByRecursion}
use Rattle.std.specs.Ordering.{nat_cmp, is_lt}
use Rattle.std.specs.declared.cmp.Ordering.TheVariants.{Less, Equal, Greater}
use Rattle.std.specs.declared.cmp.Reverse.{Reverse}
use Rattle.std.proofs.lemmas.Bool.{cases_Bool, ltb-false, ne_eqb, true≢false}
use Rattle.std.proofs.lemmas.List.Sums.{sum_by-cons}
use Rattle.mk_regs.specs.Tables.{one_where, times_free}

-- what isn't less is at least as great
not-less : (a b : ℕ) → is_lt (nat_cmp a b) ≡ false → b ≤ a
not-less a b e = elim (cases_Bool (nat_lt a b)) [
  | inl less ↦ absurd (true≢false (sym (ap (λ (t : Bool). is_lt (cond t Less (cond (a == b) Equal Greater))) less) ∙ e))
  | inr other ↦ ltb-false a b other
]

-- registers below the least one stand nowhere in the heap
pub none-below : (xs : List (Reverse ℕ)) (x s : ℕ) → AllByRecursion (λ (y : Reverse ℕ). is_lt (nat_cmp y.0 x) ≡ false) xs → s < x → times_free xs s ≡ 0
none-below [] x s all below = refl
none-below (y ∷ ys) x s all below =
    let here : one_where (nat_eq y.0 s) ≡ 0 = ap one_where (ne_eqb y.0 s (λ e. absurd (omega (arith, e, not-less y.0 x all.0)))) in
    omega (arith, here, sum_by-cons (λ (z : Reverse ℕ). one_where (nat_eq z.0 s)) y ys, none-below ys x s all.1 below)
