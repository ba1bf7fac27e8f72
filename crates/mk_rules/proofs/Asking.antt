-- Which shares a steady or a strong gadget asks for, as functions of what is looked at.
use Rattle.std.proofs.Common.{◌≡◌, ◌≢◌, ℕ, ◌+◌, ◌<◌, ◌≤◌, List, [], ◌∷◌, ◌++◌, length, nat_lt, if◌then◌else◌, ap, refl, subst, arith, inl, inr}
use Rattle.std.specs.List.{Contains}
use Rattle.std.proofs.lemmas.Bool.{cases_lt, lt-ltb, le-ltb}
use Rattle.std.proofs.lemmas.List.Elements.{Contains-append_left, Contains-append_right, Contains-append_cases}
use Rattle.mk_base.proofs.Lists.{Contains-cases}
use Rattle.mk_field.specs.declared.field.FieldId.{FieldId}
use Rattle.mk_field.specs.declared.map.AddMap.{AddMap}
use Rattle.mk_code.specs.Counting.{AllBelow}
use Rattle.mk_ssa.specs.Kinds.{Kind, Strong}
use Rattle.mk_gadget.specs.Gadget.{Gadget}
use Rattle.mk_gadget.specs.Steady.{DependsAt, IsSteady, IsStrong}
use Rattle.mk_rules.proofs.Probes.{Contains-none, Contains-first, Contains-more, AllBelow-held}

-- those of the numbers that are below n
unfoldable pub kept_below : ℕ → List ℕ → List ℕ
kept_below n [] = []
kept_below n (x ∷ xs) = if nat_lt x n then x ∷ kept_below n xs else kept_below n xs

-- they are no more
kept_below-few : (n : ℕ) (xs : List ℕ) → length (kept_below n xs) ≤ length xs
unfolding kept_below
kept_below-few n [] = omega arith
kept_below-few n (x ∷ xs) = elim (cases_lt x n) [
  | inl low ↦ rw (lt-ltb x n low) (omega (arith, kept_below-few n xs))
  | inr high ↦ rw (le-ltb x n high) (omega (arith, kept_below-few n xs))
]

-- they are below n
kept_below-below : (n : ℕ) (xs : List ℕ) → AllBelow n (kept_below n xs)
unfolding kept_below AllBelow
kept_below-below n [] = tt
kept_below-below n (x ∷ xs) = elim (cases_lt x n) [
  | inl low ↦ rw (lt-ltb x n low) (low, kept_below-below n xs)
  | inr high ↦ rw (le-ltb x n high) (kept_below-below n xs)
]

-- numbers below n are all kept
kept_below-all : (n : ℕ) (xs : List ℕ) → AllBelow n xs → kept_below n xs ≡ xs
unfolding kept_below AllBelow
kept_below-all n [] below = refl
kept_below-all n (x ∷ xs) below = rw (lt-ltb x n below.0) (ap (λ (l : List ℕ). x ∷ l) (kept_below-all n xs below.1))

-- a number below n is kept
kept_below-held : (n : ℕ) (xs : List ℕ) (i : ℕ) → i < n → Contains xs i → Contains (kept_below n xs) i
unfolding kept_below
kept_below-held n [] i low held = absurd (Contains-none i held)
kept_below-held n (x ∷ xs) i low held = elim (Contains-cases x xs i held) [
  | inl same ↦
      let small : x < n = omega (arith, same, low) in
      rw (lt-ltb x n small) (Contains-first x (kept_below n xs) i same)
  | inr more ↦
      let rest : Contains (kept_below n xs) i = kept_below-held n xs i low more in
      elim (cases_lt x n) [
        | inl small ↦ rw (lt-ltb x n small) (Contains-more x (kept_below n xs) i rest)
        | inr high ↦ rw (le-ltb x n high) rest
      ]
]

-- what depends on some shares depends on these and others
depends-more : (field : FieldId) (maps : List AddMap) (n m p : ℕ) (gadget : Gadget) (probes outs : List ℕ) (asked more : ℕ → List ℕ)
    → DependsAt field maps n m p gadget probes outs asked → ((k i : ℕ) → i < n → Contains (asked k) i → Contains (more k) i)
    → DependsAt field maps n m p gadget probes outs more
depends-more field maps n m p gadget probes outs asked more depends held first second publics seen left right given same =
    depends first second publics seen left right given (λ k i inside below asks. same k i inside below (held k i below asks))

-- which shares a gadget of a kind asks for, and that it depends on no others
pub record Asking (field : FieldId) (maps : List AddMap) (n m p : ℕ) (gadget : Gadget) (kind : Kind) : Type 0 where
  pub asks : List ℕ → List ℕ → ℕ → List ℕ
  pub few : (probes outs : List ℕ) (k : ℕ) → length (asks probes outs k) ≤ length probes
  pub below : (probes outs : List ℕ) (k i : ℕ) → Contains (asks probes outs k) i → i < n
  pub even : kind ≢ Strong → (probes outs : List ℕ) (j k : ℕ) → asks probes outs j ≡ asks probes outs k
  pub weak : kind ≢ Strong → (probes outs : List ℕ) → AllBelow (length gadget.instrs) probes → AllBelow n outs
      → DependsAt field maps n m p gadget probes outs (λ k. asks probes outs k ++ outs)
  -- a strong gadget asks for no more than was probed
  pub strong : kind ≡ Strong → (probes outs : List ℕ) → AllBelow (length gadget.instrs) probes → AllBelow n outs → length probes + length outs < n
      → DependsAt field maps n m p gadget probes outs (asks probes outs)

module _ (field : FieldId) (maps : List AddMap) (n m p : ℕ) (gadget : Gadget) (kind : Kind) where
  -- a steady gadget asks for what it keeps
  pub asking-weak : kind ≢ Strong → IsSteady field maps n m p gadget → Asking field maps n m p gadget kind
  asking-weak weak steady =
      let len : ℕ = length gadget.instrs in
      let kept : List ℕ → List ℕ = λ probes. (steady (kept_below len probes) (kept_below-below len probes)).0 in
      record {
        asks = λ probes outs k. kept_below n (kept probes);
        few = λ probes outs k.
            omega (arith, kept_below-few n (kept probes), (steady (kept_below len probes) (kept_below-below len probes)).1, kept_below-few len probes);
        below = λ probes outs k i held. AllBelow-held n (kept_below n (kept probes)) i (kept_below-below n (kept probes)) held;
        even = λ again probes outs j k. refl;
        weak = λ again probes outs inside within.
            depends-more field maps n m p gadget probes outs (λ k. kept probes ++ outs) (λ k. kept_below n (kept probes) ++ outs)
            (subst (λ (l : List ℕ). DependsAt field maps n m p gadget l outs (λ k. kept probes ++ outs)) (kept_below-all len probes inside)
            ((steady (kept_below len probes) (kept_below-below len probes)).2 outs within))
            (λ k i low held. elim (Contains-append_cases (kept probes) outs i held) [
              | inl asked ↦ Contains-append_left (kept_below n (kept probes)) outs i (kept_below-held n (kept probes) i low asked)
              | inr passed ↦ Contains-append_right (kept_below n (kept probes)) outs i passed
            ]);
        strong = λ is probes outs inside within short. absurd (weak is);
      }

  -- what a strong gadget asks for, where little enough is looked at
  record Chosen (probes outs : List ℕ) : Type 0 where
    asked : ℕ → List ℕ
    few : (k : ℕ) → length (asked k) ≤ length probes
    below : (k i : ℕ) → Contains (asked k) i → i < n
    depends : AllBelow (length gadget.instrs) probes → AllBelow n outs → length probes + length outs < n
        → DependsAt field maps n m p gadget probes outs asked

  -- and nothing where it isn't
  chosen : IsStrong field maps n m p gadget → (probes outs : List ℕ) → Chosen probes outs
  chosen strong probes outs =
      let len : ℕ = length gadget.instrs in
      let own : List ℕ = kept_below len probes in
      let seen : List ℕ = kept_below n outs in
      elim (cases_lt (length own + length seen) n) [
        | inl short ↦
            let found : (asked : ℕ → List ℕ) × ((k : ℕ) → length (asked k) ≤ length own) × DependsAt field maps n m p gadget own seen asked =
            strong own seen (kept_below-below len probes) (kept_below-below n outs) short in
            record {
              asked = λ k. kept_below n (found.0 k);
              few = λ k. omega (arith, kept_below-few n (found.0 k), found.1 k, kept_below-few len probes);
              below = λ k i held. AllBelow-held n (kept_below n (found.0 k)) i (kept_below-below n (found.0 k)) held;
              depends = λ inside within again.
                  depends-more field maps n m p gadget probes outs found.0 (λ k. kept_below n (found.0 k))
                  (subst (λ (l : List ℕ). DependsAt field maps n m p gadget probes l found.0) (kept_below-all n outs within)
                  (subst (λ (l : List ℕ). DependsAt field maps n m p gadget l seen found.0) (kept_below-all len probes inside) found.2))
                  (λ k i low held. kept_below-held n (found.0 k) i low held);
            }
        | inr long ↦ record {
          asked = λ k. [];
          few = λ k. omega arith;
          below = λ k i held. absurd (Contains-none i held);
          depends = λ inside within short. absurd (omega (arith, long, short, kept_below-few len probes, kept_below-few n outs));
        }
      ]

  -- a strong gadget asks for these
  pub asking-strong : kind ≡ Strong → IsStrong field maps n m p gadget → Asking field maps n m p gadget kind
  asking-strong is strong = record {
    asks = λ probes outs. (chosen strong probes outs).asked;
    few = λ probes outs. (chosen strong probes outs).few;
    below = λ probes outs. (chosen strong probes outs).below;
    even = λ weak probes outs j k. absurd (weak is);
    weak = λ weak probes outs inside within. absurd (weak is);
    strong = λ again probes outs. (chosen strong probes outs).depends;
  }
