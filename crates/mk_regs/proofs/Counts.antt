-- Counting the numbers below n that pass a test.
use Rattle.std.proofs.Common.{◌≡◌, ◌≢◌, ℕ, zero, suc, ◌+◌, ◌≤◌, ◌<◌, Bool, true, false, nat_eq, nat_lt, if◌then◌else◌, List, [], ◌∷◌, Option, Some, None, length, inl, inr, refl, sym, ◌∙◌, ap, arith}
use Rattle.std.proofs.lemmas.Bool.{cases_Bool, cases_eq, eq-eqb, ne_eqb, false≢true, ltb-true, ltb-false}
use Rattle.std.proofs.lemmas.Option.{same_Some, none-some}
use Rattle.mk_code.specs.Counting.{sum_below}
use Rattle.mk_code.proofs.Sums.{sum_below-same}
use Rattle.mk_regs.specs.Renaming.{holding}
use Rattle.mk_regs.specs.Width.{count_below}

-- what a test counts
abbrev one_if : Bool → ℕ
one_if b = if b then 1 else 0

-- the test for all numbers but q
abbrev pub without : (ℕ → Bool) → ℕ → ℕ → Bool
without test q p = if nat_eq p q then false else test p

-- other numbers pass as before
pub without-other : (test : ℕ → Bool) (q p : ℕ) → p ≢ q → without test q p ≡ test p
without-other test q p other = ap (λ (b : Bool). if b then false else test p) (ne_eqb p q other)

-- q itself doesn't pass
pub without-there : (test : ℕ → Bool) (q : ℕ) → without test q q ≡ false
without-there test q = ap (λ (b : Bool). if b then false else test q) (eq-eqb q q refl)

-- what passes is another number that passed before
pub without-passes : (test : ℕ → Bool) (q p : ℕ) → without test q p ≡ true → (p ≢ q) × (test p ≡ true)
without-passes test q p passes = elim (cases_eq p q) [
  | inl same ↦ absurd (false≢true (sym (ap (λ (b : Bool). if b then false else test p) (eq-eqb p q same)) ∙ passes))
  | inr other ↦ (other, sym (without-other test q p other) ∙ passes)
]

-- one more number
pub count-suc : (n : ℕ) (test : ℕ → Bool) → count_below (suc n) test ≡ count_below n test + one_if (test n)
unfolding sum_below
count-suc n test = refl

-- tests that agree count the same
pub count-same : (n : ℕ) (f g : ℕ → Bool) → ((p : ℕ) → p < n → f p ≡ g p) → count_below n f ≡ count_below n g
count-same n f g same = sum_below-same n (λ p. one_if (f p)) (λ p. one_if (g p)) (λ p below. ap one_if (same p below))

-- a test that no number passes counts none
pub count-none : (n : ℕ) (test : ℕ → Bool) → ((p : ℕ) → p < n → test p ≡ false) → count_below n test ≡ 0
unfolding sum_below
count-none zero test none = refl
count-none (suc n) test none = omega (arith, count-none n test (λ p below. none p (omega arith)), ap one_if (none n (omega arith)))

-- a number that passes, taken out, counts 1
pub count-without : (n q : ℕ) (test : ℕ → Bool) → q < n → test q ≡ true → count_below n (without test q) + 1 ≡ count_below n test
count-without zero q test below passes = absurd (omega arith)
count-without (suc n) q test below passes = elim (cases_eq n q) [
  | inl last ↦
      let same : count_below n (without test q) ≡ count_below n test = count-same n (without test q) test (λ p under. without-other test q p (omega arith)) in
      omega (
        arith,
        count-suc n test,
        count-suc n (without test q),
        same,
        ap one_if (ap (without test q) last ∙ without-there test q),
        ap one_if (ap test last ∙ passes),
      )
  | inr before ↦
      omega (
        arith,
        count-suc n test,
        count-suc n (without test q),
        count-without n q test (omega arith) passes,
        ap one_if (without-other test q n before),
      )
]

-- any number, taken out, counts at most 1
pub count-without-le : (n q : ℕ) (test : ℕ → Bool) → count_below n test ≤ count_below n (without test q) + 1
count-without-le n q test = elim (cases_Bool (nat_lt q n)) [
  | inl below ↦ elim (cases_Bool (test q)) [
    | inl passes ↦ omega (arith, count-without n q test (ltb-true q n below) passes)
    | inr fails ↦ omega (arith, count-same n test (without test q) (λ p under. agree p fails))
  ]
  | inr above ↦ omega (arith, count-same n test (without test q) (λ p under. sym (without-other test q p (λ e. absurd (omega (arith, ltb-false q n above))))))
] where
  agree : (p : ℕ) → test q ≡ false → test p ≡ without test q p
  agree p fails = elim (cases_eq p q) [
    | inl same ↦ ap test same ∙ fails ∙ sym (ap (without test q) same ∙ without-there test q)
    | inr other ↦ sym (without-other test q p other)
  ]

-- numbers that all stand in registers are at most as many as registers
pub count-held : (held : List (Option ℕ)) (n : ℕ) (test : ℕ → Bool)
    → ((p : ℕ) → p < n → test p ≡ true → (r : ℕ) × (holding held r ≡ Some p)) → count_below n test ≤ length held
count-held [] n test stands = omega (arith, count-none n test (λ p below. fails p below)) where
  fails : (p : ℕ) → p < n → test p ≡ false
  fails p below = elim (cases_Bool (test p)) [
    | inl passes ↦ absurd (none-some p (stands p below passes).1)
    | inr not_it ↦ not_it
  ]
count-held (None ∷ hs) n test stands =
    omega (arith, count-held hs n test (λ p below passes. behind p (stands p below passes).0 (stands p below passes).1)) where
      -- an entry that is held, and not by the first register, which holds nothing, is held by one of the others
      behind : (p r : ℕ) → holding (None ∷ hs) r ≡ Some p → (s : ℕ) × (holding hs s ≡ Some p)
      behind p zero e = absurd (none-some p e)
      behind p (suc r) e = (r, e)
count-held (Some q ∷ hs) n test stands =
    omega (
      arith,
      count-without-le n q test,
      count-held hs n (without test q) (λ p below passes.
          let both = without-passes test q p passes in
          behind p (stands p below both.1).0 both.0 (stands p below both.1).1),
    ) where
      -- an entry that is held and isn't that of the first register is held by one of the others
      behind : (p r : ℕ) → p ≢ q → holding (Some q ∷ hs) r ≡ Some p → (s : ℕ) × (holding hs s ≡ Some p)
      behind p zero other e = absurd (other (sym (same_Some q p e)))
      behind p (suc r) other e = (r, e)

-- different numbers that pass are at most as many as are counted
pub count-different : (m n : ℕ) (test : ℕ → Bool) (f : ℕ → ℕ) → ((r : ℕ) → r < m → (f r < n) × (test (f r) ≡ true))
    → ((r s : ℕ) → r < m → s < m → f r ≡ f s → r ≡ s) → m ≤ count_below n test
count-different zero n test f pass different = omega arith
count-different (suc m) n test f pass different =
    let last = pass m (omega arith) in
    let rest : m ≤ count_below n (without test (f m)) = count-different m n (without test (f m)) f
    (λ r below.
    let here = pass r (omega arith) in
    let other : f r ≢ f m = λ e. absurd (omega (arith, different r m (omega arith) (omega arith) e)) in
    (here.0, without-other test (f m) (f r) other ∙ here.1))
    (λ r s left right e. different r s (omega arith) (omega arith) e) in
    omega (arith, rest, count-without n (f m) test last.0 last.1)
