-- The register code that is allocated for two small codes.
use Rattle.std.proofs.Common.{◌≡◌, ℕ, zero, suc, ◌<◌, Bool, true, false, not, ◌&&◌, List, Option, inl, inr, refl, ◌∙◌, ap, arith}
use Rattle.std.proofs.lemmas.Bool.{cases_eq, and_parts}
use Rattle.mk_code.specs.declared.instr.Instr.{Instr}
use Rattle.mk_code.specs.Counting.{sum_below}
use Rattle.mk_regs.specs.Width.{is_read, most_live}
use Rattle.mk_regs.specs.Allocation.{is_free, IsLeastFree, GoLeast, IsAllocated}
use Rattle.mk_regs.specs.Examples.{sum_code, sum_registers, sum-renamed, square_code, square_registers, square-renamed}

-- no number below n passes the test
unfoldable none_pass : ℕ → (ℕ → Bool) → Bool
none_pass zero test = true
none_pass (suc n) test = not (test n) && none_pass n test

-- what fails where its contrary holds
not-true : (b : Bool) → not b ≡ true → b ≡ false
not-true true e = cc
not-true false e = refl

-- where no number passes, each fails
none-at : (n : ℕ) (test : ℕ → Bool) → none_pass n test ≡ true → (s : ℕ) → s < n → test s ≡ false
unfolding none_pass
none-at zero test none s below = absurd (omega arith)
none-at (suc n) test none s below =
    let both = and_parts (not (test n)) (none_pass n test) none in
    elim (cases_eq s n) [
      | inl same ↦ ap test same ∙ not-true (test n) both.0
      | inr other ↦ none-at n test both.1 s (omega arith)
    ]

-- the least free register, by computing
least-at : (held : List (Option ℕ)) (later : List Instr) (outs : List ℕ) (r : ℕ) → is_free held later outs r ≡ true
    → none_pass r (is_free held later outs) ≡ true → IsLeastFree held later outs r
least-at held later outs r free none = record { free = free; least = none-at r (is_free held later outs) none }

-- two results in the registers of the first operands
pub sum-allocated : IsAllocated sum_code sum_registers
unfolding is_read most_live sum_below GoLeast none_pass
sum-allocated = record {
  renamed = sum-renamed;
  registers = refl;
  least = (least-at _ _ _ _ refl refl, (least-at _ _ _ _ refl refl, tt));
}

-- twelve results in seven registers
pub square-allocated : IsAllocated square_code square_registers
unfolding is_read most_live sum_below GoLeast none_pass
square-allocated = record {
  renamed = square-renamed;
  registers = refl;
  least = (
    least-at _ _ _ _ refl refl,
    (
      least-at _ _ _ _ refl refl,
      (
        least-at _ _ _ _ refl refl,
        (
          least-at _ _ _ _ refl refl,
          (
            least-at _ _ _ _ refl refl,
            (
              least-at _ _ _ _ refl refl,
              (
                least-at _ _ _ _ refl refl,
                (
                  least-at _ _ _ _ refl refl,
                  (least-at _ _ _ _ refl refl, (least-at _ _ _ _ refl refl, (least-at _ _ _ _ refl refl, (least-at _ _ _ _ refl refl, tt)))),
                ),
              ),
            ),
          ),
        ),
      ),
    ),
  );
}
