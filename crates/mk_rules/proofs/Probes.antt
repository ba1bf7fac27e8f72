-- Which of an observer's places stand in a part of the trace, and how many stand behind it.
use Rattle.std.proofs.Common.{◌≡◌, ◌⊎◌, ℕ, zero, suc, ◌+◌, ◌-◌, ◌<◌, ◌≤◌, List, [], ◌∷◌, length, nat_lt, if◌then◌else◌, ap, refl, arith, inl, inr}
use Rattle.std.specs.List.{Contains}
use Rattle.std.proofs.lemmas.Bool.{cases_lt, lt-ltb, le-ltb}
use Rattle.std.proofs.lemmas.List.Elements.{Contains-append_right}
use Rattle.mk_base.proofs.Lists.{Contains-cases}
use Rattle.mk_code.specs.Counting.{AllBelow}

-- no list without elements has one
pub Contains-none : {X : Type 0} (y : X) → Contains [] y → ⊥
Contains-none y held = absurd (omega (arith, held.1))

-- a list of one element has no other
pub Contains-only : {X : Type 0} (x y : X) → Contains (x ∷ []) y → x ≡ y
Contains-only x y held = elim (Contains-cases x [] y held) [
  | inl here ↦ here
  | inr more ↦ absurd (Contains-none y more)
]

-- the first element
pub Contains-first : {X : Type 0} (x : X) (xs : List X) (y : X) → x ≡ y → Contains (x ∷ xs) y
Contains-first x xs y same = (0, omega arith, same)

-- it is itself one
pub Contains-front : {X : Type 0} (x : X) (xs : List X) → Contains (x ∷ xs) x
Contains-front x xs = Contains-first x xs x refl

-- an element of the others
pub Contains-more : {X : Type 0} (x : X) (xs : List X) (y : X) → Contains xs y → Contains (x ∷ xs) y
Contains-more x xs y held = Contains-append_right (x ∷ []) xs y held

-- an element of numbers below q is below q
pub AllBelow-held : (q : ℕ) (xs : List ℕ) (y : ℕ) → AllBelow q xs → Contains xs y → y < q
unfolding AllBelow
AllBelow-held q [] y below held = absurd (Contains-none y held)
AllBelow-held q (x ∷ xs) y below held = elim (Contains-cases x xs y held) [
  | inl same ↦ omega (arith, same, below.0)
  | inr more ↦ AllBelow-held q xs y below.1 more
]

-- the numbers, from 0 on, of those of the places that are among the `len` from `base` on
unfoldable pub inside : ℕ → ℕ → List ℕ → List ℕ
inside base len [] = []
inside base len (p ∷ ps) =
    if nat_lt p base then inside base len ps
    else (if nat_lt p (base + len) then (p - base) ∷ inside base len ps else inside base len ps)

-- how many of the places stand at `base` or behind it
unfoldable pub behind : ℕ → List ℕ → ℕ
behind base [] = 0
behind base (p ∷ ps) = if nat_lt p base then behind base ps else suc (behind base ps)

-- they are numbers below `len`
pub inside-below : (base len : ℕ) (ps : List ℕ) → AllBelow len (inside base len ps)
unfolding inside AllBelow
inside-below base len [] = tt
inside-below base len (p ∷ ps) = elim (cases_lt p base) [
  | inl before ↦ rw (lt-ltb p base before) (inside-below base len ps)
  | inr late ↦ elim (cases_lt p (base + len)) [
    | inl within ↦ rw (le-ltb p base late, lt-ltb p (base + len) within) (omega arith, inside-below base len ps)
    | inr past ↦ rw (le-ltb p base late, le-ltb p (base + len) past) (inside-below base len ps)
  ]
]

-- a place among them has its number there
pub inside-held : (base len : ℕ) (ps : List ℕ) (q : ℕ) → Contains ps q → base ≤ q → q < base + len → Contains (inside base len ps) (q - base)
unfolding inside
inside-held base len [] q held low high = absurd (Contains-none q held)
inside-held base len (p ∷ ps) q held low high = elim (Contains-cases p ps q held) [
  | inl same ↦
      let late : base ≤ p = omega (arith, same, low) in
      let within : p < base + len = omega (arith, same, high) in
      let e : p - base ≡ q - base = ap (λ (n : ℕ). n - base) same in
      rw (le-ltb p base late, lt-ltb p (base + len) within) (Contains-first (p - base) (inside base len ps) (q - base) e)
  | inr more ↦
      let rest : Contains (inside base len ps) (q - base) = inside-held base len ps q more low high in
      elim (cases_lt p base) [
        | inl before ↦ rw (lt-ltb p base before) rest
        | inr late ↦ elim (cases_lt p (base + len)) [
          | inl within ↦ rw (le-ltb p base late, lt-ltb p (base + len) within) (Contains-more (p - base) (inside base len ps) (q - base) rest)
          | inr past ↦ rw (le-ltb p base late, le-ltb p (base + len) past) rest
        ]
      ]
]

-- no more places stand among some and behind them than stand from them on
pub inside-behind : (base len next : ℕ) (ps : List ℕ) → base + len ≤ next → length (inside base len ps) + behind next ps ≤ behind base ps
unfolding inside behind
inside-behind base len next [] apart = omega arith
inside-behind base len next (p ∷ ps) apart =
    let rest : length (inside base len ps) + behind next ps ≤ behind base ps = inside-behind base len next ps apart in
    elim (cases_lt p base) [
      | inl before ↦
          let early : p < next = omega arith in
          rw (lt-ltb p base before, lt-ltb p next early) rest
      | inr late ↦ elim (cases_lt p (base + len)) [
        | inl within ↦
            let early : p < next = omega arith in
            rw (le-ltb p base late, lt-ltb p (base + len) within, lt-ltb p next early) (omega (arith, rest))
        | inr past ↦ elim (cases_lt p next) [
          | inl early ↦ rw (le-ltb p base late, le-ltb p (base + len) past, lt-ltb p next early) (omega (arith, rest))
          | inr far ↦ rw (le-ltb p base late, le-ltb p (base + len) past, le-ltb p next far) (omega (arith, rest))
        ]
      ]
    ]

-- no more than all
pub behind-few : (base : ℕ) (ps : List ℕ) → behind base ps ≤ length ps
unfolding behind
behind-few base [] = omega arith
behind-few base (p ∷ ps) = elim (cases_lt p base) [
  | inl before ↦ rw (lt-ltb p base before) (omega (arith, behind-few base ps))
  | inr late ↦ rw (le-ltb p base late) (omega (arith, behind-few base ps))
]

-- numbers each of which is below q
pub AllBelow-from : (q : ℕ) (xs : List ℕ) → ((y : ℕ) → Contains xs y → y < q) → AllBelow q xs
unfolding AllBelow
AllBelow-from q [] below = tt
AllBelow-from q (x ∷ xs) below = (below x (Contains-first x xs x refl), AllBelow-from q xs (λ y held. below y (Contains-more x xs y held)))
