-- The product of two bits with two shares is strong, the short refresh isn't, and the exchange of two shares
-- isn't steady.
use Rattle.std.proofs.Common.{arith, ◌≡◌, ◌≢◌, ◌⊎◌, ℕ, zero, suc, ◌+◌, ◌*◌, ◌<◌, ◌≤◌, List, [], ◌∷◌, ◌++◌, length, slice_index, inl, inr, refl, sym, ◌∙◌, subst}
use Rattle.std.specs.List.{Contains}
use Rattle.mk_field.specs.declared.field.FieldId.TheVariants.{Gf2}
use Rattle.mk_code.specs.Counting.{AllBelow, Elements}
use Rattle.mk_gadget.specs.Steady.{block_ways, IsSteady, IsStrong}
use Rattle.mk_gadget.specs.Examples.{bit_product, product_gadget-2, short_refresh, short_refresh-000, short_refresh-100, short_refresh-010, exchange, exchange-00, exchange-01}
use Rattle.mk_gadget.proofs.ProductStrong.{product-strong}

-- the product of two bits with two shares of each is strong
pub bit_product-strong : IsStrong Gf2 [] 2 2 0 bit_product
bit_product-strong = subst (IsStrong Gf2 [] 2 2 0) product_gadget-2 (product-strong Gf2 [] 2)

-- the one number of a list
only : (x i : ℕ) → x ≢ i → Contains (x ∷ []) i → ⊥
only x i other (zero, inside, here) = other here
only x i other (suc k, inside, here) = absurd (omega (arith, inside))

-- a list of at most one number leaves 0 or 1 out
misses : (asked : List ℕ) → length asked ≤ 1 → (Contains asked 0 → ⊥) ⊎ (Contains asked 1 → ⊥)
misses [] few = inl (λ held. absurd (omega (arith, held.1)))
misses (zero ∷ []) few = inr (only 0 1 (λ e. absurd (cc)))
misses (suc x ∷ []) few = inl (only (suc x) 0 (λ e. absurd (omega (arith, e))))
misses (x ∷ y ∷ rest) few = absurd (omega arith)

-- three bits
bits-3 : (a b c : ℕ) → a < 2 → b < 2 → c < 2 → Elements 2 3 (a ∷ b ∷ c ∷ [])
unfolding AllBelow
bits-3 a b c one two three = record { count = refl; below = (one, (two, (three, tt))) }

-- states that differ at share 0 alone agree at lists without it
agree-100 : (asked : ℕ → List ℕ) → (Contains (asked 0) 0 → ⊥) → (k i : ℕ) → k < 1 → i < 3 → Contains (asked k) i
    → slice_index (0 ∷ 0 ∷ 0 ∷ []) (3 * k + i) ≡ slice_index (1 ∷ 0 ∷ 0 ∷ []) (3 * k + i)
agree-100 asked without zero zero first below held = absurd (without held)
agree-100 asked without zero (suc zero) first below held = refl
agree-100 asked without zero (suc (suc zero)) first below held = refl
agree-100 asked without zero (suc (suc (suc i))) first below held = absurd (omega arith)
agree-100 asked without (suc k) i first below held = absurd (omega arith)

-- and at share 1 alone
agree-010 : (asked : ℕ → List ℕ) → (Contains (asked 0) 1 → ⊥) → (k i : ℕ) → k < 1 → i < 3 → Contains (asked k) i
    → slice_index (0 ∷ 0 ∷ 0 ∷ []) (3 * k + i) ≡ slice_index (0 ∷ 1 ∷ 0 ∷ []) (3 * k + i)
agree-010 asked without zero zero first below held = refl
agree-010 asked without zero (suc zero) first below held = absurd (without held)
agree-010 asked without zero (suc (suc zero)) first below held = refl
agree-010 asked without zero (suc (suc (suc i))) first below held = absurd (omega arith)
agree-010 asked without (suc k) i first below held = absurd (omega arith)

-- the short refresh isn't strong: for one probe, the first sum in share 0, and one output, share 1, no list
-- of one share is enough
pub short_refresh-not-strong : IsStrong Gf2 [] 3 1 0 short_refresh → ⊥
unfolding AllBelow
short_refresh-not-strong strong =
    let found = strong (1 ∷ []) (1 ∷ []) (omega arith, tt) (omega arith, tt) (omega arith) in
    let zeros : Elements 2 3 (0 ∷ 0 ∷ 0 ∷ []) = bits-3 0 0 0 (omega arith) (omega arith) (omega arith) in
    let none : Elements 2 0 [] = record { count = refl; below = tt } in
    elim (misses (found.0 0) (found.1 0)) [
      | inl without ↦
          let same : block_ways Gf2 [] short_refresh (0 ∷ 0 ∷ 0 ∷ []) (1 ∷ []) (1 ∷ []) (0 ∷ 0 ∷ [])
          ≡ block_ways Gf2 [] short_refresh (1 ∷ 0 ∷ 0 ∷ []) (1 ∷ []) (1 ∷ []) (0 ∷ 0 ∷ []) =
          found.2 (0 ∷ 0 ∷ 0 ∷ []) (1 ∷ 0 ∷ 0 ∷ []) [] (0 ∷ 0 ∷ []) zeros (bits-3 1 0 0 (omega arith) (omega arith) (omega arith)) none
          (agree-100 found.0 without) in
          let differ : 2 ≡ 0 = sym short_refresh-000 ∙ same ∙ short_refresh-100 in
          absurd (omega (arith, differ))
      | inr without ↦
          let same : block_ways Gf2 [] short_refresh (0 ∷ 0 ∷ 0 ∷ []) (1 ∷ []) (1 ∷ []) (0 ∷ 0 ∷ [])
          ≡ block_ways Gf2 [] short_refresh (0 ∷ 1 ∷ 0 ∷ []) (1 ∷ []) (1 ∷ []) (0 ∷ 0 ∷ []) =
          found.2 (0 ∷ 0 ∷ 0 ∷ []) (0 ∷ 1 ∷ 0 ∷ []) [] (0 ∷ 0 ∷ []) zeros (bits-3 0 1 0 (omega arith) (omega arith) (omega arith)) none
          (agree-010 found.0 without) in
          let differ : 2 ≡ 0 = sym short_refresh-000 ∙ same ∙ short_refresh-010 in
          absurd (omega (arith, differ))
    ]

-- an empty list asks for share 0 of the out bank alone
agree-01 : (kept : List ℕ) → length kept ≤ 0 → (k i : ℕ) → k < 1 → i < 2 → Contains (kept ++ 0 ∷ []) i
    → slice_index (0 ∷ 0 ∷ []) (2 * k + i) ≡ slice_index (0 ∷ 1 ∷ []) (2 * k + i)
agree-01 [] few zero zero first below held = refl
agree-01 [] few zero (suc i) first below held = absurd (only 0 (suc i) (λ e. absurd (omega (arith, e))) held)
agree-01 [] few (suc k) i first below held = absurd (omega arith)
agree-01 (x ∷ xs) few k i first below held = absurd (omega arith)

-- the exchange of two shares isn't steady: an output without any probe depends on the other share
pub exchange-not-steady : IsSteady Gf2 [] 2 1 0 exchange → ⊥
unfolding AllBelow
exchange-not-steady steady =
    let found = steady [] tt in
    let same : block_ways Gf2 [] exchange (0 ∷ 0 ∷ []) [] (0 ∷ []) (0 ∷ []) ≡ block_ways Gf2 [] exchange (0 ∷ 1 ∷ []) [] (0 ∷ []) (0 ∷ []) =
    found.2 (0 ∷ []) (omega arith, tt) (0 ∷ 0 ∷ []) (0 ∷ 1 ∷ []) [] (0 ∷ [])
    (record { count = refl; below = (omega arith, (omega arith, tt)) }) (record { count = refl; below = (omega arith, (omega arith, tt)) })
    (record { count = refl; below = tt }) (agree-01 found.0 found.1) in
    let differ : 1 ≡ 0 = sym exchange-00 ∙ same ∙ exchange-01 in
    absurd (omega (arith, differ))
