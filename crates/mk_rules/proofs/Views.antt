-- What is seen at lists of places, and at the banks of several values one after the other.
use Rattle.std.proofs.Common.{◌≡◌, ℕ, zero, suc, ◌+◌, ◌*◌, ◌<◌, List, [], ◌∷◌, ◌++◌, length, take, drop, slice_index, slice_get, Some, sym, ◌∙◌, ap, refl, arith, inl, inr, mul-suc}
use Rattle.std.specs.List.{Contains, flat_map}
use Rattle.std.proofs.lemmas.Bool.{cases_lt}
use Rattle.std.proofs.lemmas.List.{length-append, map-append, take_at, drop_at, get_or_append_left, get_or-append-add, get_or_past}
use Rattle.std.proofs.lemmas.Option.{same_Some}
use Rattle.mk_base.proofs.Lists.{Contains-cases}
use Rattle.mk_code.specs.Counting.{AllBelow}
use Rattle.mk_code.specs.Private.{observation}
use Rattle.mk_code.proofs.Totals.{AllBelow-append}
use Rattle.mk_code.proofs.Steps.{AllBelow-at}
use Rattle.mk_rules.proofs.Probes.{Contains-none, Contains-first, Contains-more}

-- what is seen at some places and then others
pub observation-append : (places more entries : List ℕ) → observation (places ++ more) entries ≡ observation places entries ++ observation more entries
observation-append places more entries = map-append (λ p. slice_index entries p) places more

-- entries that are equal at the places show the same
pub observation-same : (places u w : List ℕ) → ((p : ℕ) → Contains places p → slice_index u p ≡ slice_index w p)
    → observation places u ≡ observation places w
observation-same [] u w same = refl
observation-same (p ∷ ps) u w same =
    let here : slice_index u p ≡ slice_index w p = same p (Contains-first p ps p refl) in
    let rest : observation ps u ≡ observation ps w = observation-same ps u w (λ q held. same q (Contains-more p ps q held)) in
    cc

-- the first values of equal lists
head-same : (a b : ℕ) (xs ys : List ℕ) → a ∷ xs ≡ b ∷ ys → a ≡ b
head-same a b xs ys same = cc

-- the others
tail-same : (a b : ℕ) (xs ys : List ℕ) → a ∷ xs ≡ b ∷ ys → xs ≡ ys
tail-same a b xs ys same = cc

-- entries that show the same are equal at each of the places
pub observation-seen : (places u w : List ℕ) (p : ℕ) → observation places u ≡ observation places w → Contains places p
    → slice_index u p ≡ slice_index w p
observation-seen [] u w p same held = absurd (Contains-none p held)
observation-seen (q ∷ qs) u w p same held = elim (Contains-cases q qs p held) [
  | inl here ↦
      ap (slice_index u) (sym here)
      ∙ head-same (slice_index u q) (slice_index w q) (observation qs u) (observation qs w) same
      ∙ ap (slice_index w) here
  | inr more ↦
      observation-seen qs u w p (tail-same (slice_index u q) (slice_index w q) (observation qs u) (observation qs w) same) more
]

-- two parts of equal lists
pub same-parts : (a b c d : List ℕ) → length a ≡ length b → a ++ c ≡ b ++ d → (a ≡ b) × (c ≡ d)
same-parts a b c d long same = (
  sym (take_at a c (length a) refl) ∙ ap (take (length a)) same ∙ take_at b d (length a) (sym long),
  sym (drop_at a c (length a) refl) ∙ ap (drop (length a)) same ∙ drop_at b d (length a) (sym long),
)

-- each entry is below q, and so is 0 past the end
pub index-below : (q : ℕ) (xs : List ℕ) (p : ℕ) → 0 < q → AllBelow q xs → slice_index xs p < q
index-below q xs p some below = elim (cases_lt p (length xs)) [
  | inl inside ↦ AllBelow-at q xs p below inside
  | inr past ↦ omega (arith, get_or_past xs p 0 past)
]

-- so is what is seen
pub observation-below : (q : ℕ) (places entries : List ℕ) → 0 < q → AllBelow q entries → AllBelow q (observation places entries)
unfolding AllBelow
observation-below q [] entries some below = tt
observation-below q (p ∷ ps) entries some below = (index-below q entries p some below, observation-below q ps entries some below)

-- an element of a list is held by it
pub Contains-at : (xs : List ℕ) (k x : ℕ) → slice_get xs k ≡ Some x → Contains xs x
Contains-at [] k x there = absurd (cc)
Contains-at (y ∷ ys) zero x there = Contains-first y ys x (same_Some y x there)
Contains-at (y ∷ ys) (suc k) x there = Contains-more y ys x (Contains-at ys k x there)

-- banks of n places each, one after the other
pub flat-long : (f : ℕ → List ℕ) (n : ℕ) (xs : List ℕ) → ((x : ℕ) → Contains xs x → length (f x) ≡ n) → length (flat_map f xs) ≡ n * length xs
flat-long f n [] long = omega arith
flat-long f n (x ∷ xs) long =
    omega (arith, length-append (f x) (flat_map f xs), long x (Contains-first x xs x refl), flat-long f n xs (λ y held. long y (Contains-more x xs y held)))

-- a place of one of them
pub flat-at : (f : ℕ → List ℕ) (n : ℕ) (xs : List ℕ) (k x i : ℕ) → ((y : ℕ) → Contains xs y → length (f y) ≡ n)
    → slice_get xs k ≡ Some x → i < n → slice_index (flat_map f xs) (n * k + i) ≡ slice_index (f x) i
flat-at f n [] k x i long there below = absurd (cc)
flat-at f n (y ∷ ys) zero x i long there below =
    let at : n * 0 + i ≡ i = omega arith in
    let same : y ≡ x = same_Some y x there in
    ap (slice_index (f y ++ flat_map f ys)) at
    ∙ get_or_append_left (f y) (flat_map f ys) 0 i (omega (arith, long y (Contains-first y ys y refl)))
    ∙ ap (λ (z : ℕ). slice_index (f z) i) same
flat-at f n (y ∷ ys) (suc k) x i long there below =
    let at : n * suc k + i ≡ length (f y) + (n * k + i) = omega (arith, long y (Contains-first y ys y refl), mul-suc n k) in
    ap (slice_index (f y ++ flat_map f ys)) at
    ∙ get_or-append-add (f y) (flat_map f ys) (n * k + i) 0
    ∙ flat-at f n ys k x i (λ z held. long z (Contains-more y ys z held)) there below

-- their places are below a number if those of each are
pub flat-below : (f : ℕ → List ℕ) (base : ℕ) (xs : List ℕ) → ((x : ℕ) → Contains xs x → AllBelow base (f x)) → AllBelow base (flat_map f xs)
unfolding AllBelow
flat-below f base [] below = tt
flat-below f base (x ∷ xs) below =
    AllBelow-append base (f x) (flat_map f xs) (below x (Contains-first x xs x refl)) (flat-below f base xs (λ y held. below y (Contains-more x xs y held)))

-- what is seen at them
pub flat-same : (f : ℕ → List ℕ) (xs u w : List ℕ) → ((x : ℕ) → Contains xs x → observation (f x) u ≡ observation (f x) w)
    → observation (flat_map f xs) u ≡ observation (flat_map f xs) w
flat-same f [] u w same = refl
flat-same f (x ∷ xs) u w same =
    let here : observation (f x) u ≡ observation (f x) w = same x (Contains-first x xs x refl) in
    let rest : observation (flat_map f xs) u ≡ observation (flat_map f xs) w = flat-same f xs u w (λ y held. same y (Contains-more x xs y held)) in
    observation-append (f x) (flat_map f xs) u
    ∙ ap (λ (l : List ℕ). l ++ observation (flat_map f xs) u) here
    ∙ ap (λ (l : List ℕ). observation (f x) w ++ l) rest
    ∙ sym (observation-append (f x) (flat_map f xs) w)
