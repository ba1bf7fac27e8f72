-- The place behind some bytes, byte after byte.
use Rattle.std.proofs.Common.{◌≡◌, ℕ, ◌+◌, ◌-◌, ◌≤◌, Bool, true, false, List, [], ◌∷◌, ◌++◌, length, take, drop, refl, ap, ◌∙◌, arith, length-append, length-drop, length-take}
use Rattle.std.specs.Prelude.{◌==◌, not, cond, filter, take_while, reverse}
use Rattle.std.specs.List.{prefix_len}
use Rattle.std.proofs.lemmas.List.{reverse-append, length-reverse}
use Rattle.std.proofs.lemmas.List.Elements.{filter-append}
use Rattle.std.proofs.lemmas.List.Filters.{length-filter_both}
use Rattle.std.proofs.lemmas.List.Sums.{prefix_len-le-length, take_while-cons}
use Rattle.mk_base.specs.declared.Place.{Place}
use Rattle.mk_ast.specs.Tokens.{place_behind, place_of}

-- a line feed, and any other byte
abbrev feeds : ℕ → Bool
feeds b = b == 10

-- whether a byte stays on its line
abbrev stays : ℕ → Bool
stays b = not (b == 10)

-- the place of this line and column
abbrev pub place_at : ℕ → ℕ → Place
place_at line column = record { line = line; column = column }

-- line feeds before and behind
feeds_push : (front : List ℕ) (b : ℕ) → length (filter feeds (front ++ b ∷ [])) ≡ length (filter feeds front) + cond (b == 10) 1 0
feeds_push front b = ap length (filter-append feeds front (b ∷ [])) ∙ length-append (filter feeds front) (filter feeds (b ∷ [])) ∙ ap (λ (n : ℕ). length (filter feeds front) + n) (by (b == 10))
  where
    by : (t : Bool) → length (cond t (b ∷ []) []) ≡ cond t 1 0
    by true = refl
    by false = refl

-- the bytes since the last line feed
since_push : (front : List ℕ) (b : ℕ) → length (take_while stays (reverse (front ++ b ∷ []))) ≡ cond (not (b == 10)) (length (take_while stays (reverse front)) + 1) 0
since_push front b = ap (λ (xs : List ℕ). length (take_while stays xs)) (reverse-append front (b ∷ [])) ∙ ap length (take_while-cons stays b (reverse front)) ∙ by (not (b == 10)) (take_while stays (reverse front))
  where
    by : (t : Bool) (xs : List ℕ) → length (cond t (b ∷ xs) []) ≡ cond t (length xs + 1) 0
    by true xs = omega arith
    by false xs = refl

-- places of the same line and column are the same
same_place : (l m c d : ℕ) → l ≡ m → c ≡ d → place_at l c ≡ place_at m d
same_place l m c d e f = cc

-- the place behind a line feed
pub place_feed : (front : List ℕ) (b : ℕ) → (b == 10) ≡ true → place_behind (front ++ b ∷ []) ≡ place_at ((place_behind front).line + 1) 1
place_feed front b e = same_place _ _ _ _
    (ap (λ n. 1 + n) (feeds_push front b ∙ ap (λ (t : Bool). length (filter feeds front) + cond t 1 0) e) ∙ omega arith)
    (ap (λ n. 1 + n) (since_push front b ∙ ap (λ (t : Bool). cond (not t) (length (take_while stays (reverse front)) + 1) 0) e))

-- the place behind any other byte
pub place_other : (front : List ℕ) (b : ℕ) → (b == 10) ≡ false → place_behind (front ++ b ∷ []) ≡ place_at (place_behind front).line ((place_behind front).column + 1)
place_other front b e = same_place _ _ _ _
    (ap (λ n. 1 + n) (feeds_push front b ∙ ap (λ (t : Bool). length (filter feeds front) + cond t 1 0) e) ∙ omega arith)
    (ap (λ n. 1 + n) (since_push front b ∙ ap (λ (t : Bool). cond (not t) (length (take_while stays (reverse front)) + 1) 0) e) ∙ omega arith)

-- how large places are
pub place_small : (front : List ℕ) → ((place_behind front).line ≤ length front + 1) × ((place_behind front).column ≤ length front + 1)
place_small front =
    (omega (arith, length-filter_both feeds stays (λ b. refl) front), omega (arith, length-take (prefix_len stays (reverse front)) (reverse front), prefix_len-le-length stays (reverse front), length-reverse front))

-- the place of a rest that begins at this index
pub place_of_drop : (text : List ℕ) (i : ℕ) → i ≤ length text → place_of text (drop i text) ≡ place_behind (take i text)
place_of_drop text i h = let e : length text - length (drop i text) ≡ i = omega (arith, length-drop i text) in ap (λ (n : ℕ). place_behind (take n text)) e
