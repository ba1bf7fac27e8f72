-- Neighbouring positions, and sharings that stand one after the other.
use Rattle.std.proofs.Common.{◌≡◌, ℕ, zero, suc, ◌+◌, ◌*◌, ◌<◌, ◌≤◌, List, [], ◌∷◌, ◌++◌, length, map, take, drop, slice_index, refl, sym, ◌∙◌, ap, arith, drop-cons}
use Rattle.std.specs.List.{range_with_len, flat_map, AllByRecursion}
use Rattle.std.proofs.lemmas.List.{drop-drop, take-append-drop, get_or_append_left, map-append, length-map, take_at, drop_at}
use Rattle.mk_field.specs.Sharing.{field_sum, decoded}
use Rattle.mk_code.specs.Counting.{AllBelow}
use Rattle.mk_code.specs.Private.{observation}
use Rattle.mk_gadget.specs.Emitted.{shared_at}

-- neighbouring positions, as a part of the list
pub observed-window : (a n : ℕ) (entries : List ℕ) → a + n ≤ length entries → observation (range_with_len a n) entries ≡ take n (drop a entries)
observed-window a zero entries within = refl
observed-window a (suc n) entries within =
    let cut : drop a entries ≡ slice_index entries a ∷ drop (suc a) entries = drop-cons entries a 0 (omega arith) in
    let next : suc a ≡ a + 1 = omega arith in
    let rest : observation (range_with_len (a + 1) n) entries ≡ take n (drop (suc a) entries) =
    observed-window (a + 1) n entries (omega arith) ∙ ap (λ (k : ℕ). take n (drop k entries)) (sym next) in
    rw (cut, rest) refl

-- one of the values of sharings that stand one after the other
pub decoded-at : (n k : ℕ) (shares : List ℕ) (c : ℕ) → c < k → slice_index (decoded n k shares) c ≡ field_sum (take n (drop (c * n) shares))
unfolding decoded
decoded-at n zero shares c below = absurd (omega (arith, below))
decoded-at n (suc k) shares zero below = let e : 0 * n ≡ 0 = omega arith in ap (λ (m : ℕ). field_sum (take n (drop m shares))) (sym e)
decoded-at n (suc k) shares (suc c) below =
    let e : n + c * n ≡ suc c * n = omega arith in
    decoded-at n k (drop n shares) c (omega arith)
    ∙ ap (λ (xs : List ℕ). field_sum (take n xs)) (drop-drop (c * n) n shares ∙ ap (λ (m : ℕ). drop m shares) e)

-- banks of n positions one after the other show the sum of each
pub decoded-banks : {X : Type 0} (n : ℕ) (bank : X → List ℕ) (P : X → Type 0) (vs : List X) (entries : List ℕ) → ((v : X) → P v → length (bank v) ≡ n) → AllByRecursion P vs
    → decoded n (length vs) (observation (flat_map bank vs) entries) ≡ map (λ v. shared_at (bank v) entries) vs
unfolding decoded
decoded-banks n bank P [] entries long all = refl
decoded-banks n bank P (v ∷ vs) entries long all =
    let parts : observation (bank v ++ flat_map bank vs) entries ≡ observation (bank v) entries ++ observation (flat_map bank vs) entries =
    map-append (slice_index entries) (bank v) (flat_map bank vs) in
    let count : length (observation (bank v) entries) ≡ n = length-map (bank v) (slice_index entries) ∙ long v all.0 in
    ap (λ (xs : List ℕ). field_sum (take n xs) ∷ decoded n (length vs) (drop n xs)) parts
    ∙ ap (λ (xs : List ℕ). field_sum xs ∷ decoded n (length vs) (drop n (observation (bank v) entries ++ observation (flat_map bank vs) entries)))
    (take_at (observation (bank v) entries) (observation (flat_map bank vs) entries) n count)
    ∙ ap (λ (xs : List ℕ). shared_at (bank v) entries ∷ decoded n (length vs) xs)
    (drop_at (observation (bank v) entries) (observation (flat_map bank vs) entries) n count)
    ∙ ap (λ (xs : List ℕ). shared_at (bank v) entries ∷ xs) (decoded-banks n bank P vs entries long all.1)

-- an entry stays where more come behind
entry-stays : (entries after : List ℕ) (p : ℕ) → take (length entries) after ≡ entries → p < length entries → slice_index after p ≡ slice_index entries p
entry-stays entries after p front below =
    ap (λ (l : List ℕ). slice_index l p) (sym (take-append-drop (length entries) after) ∙ ap (λ (l : List ℕ). l ++ drop (length entries) after) front)
    ∙ get_or_append_left entries (drop (length entries) after) 0 p below

-- so does what is seen at earlier positions
pub observation-stays : (entries after positions : List ℕ) → take (length entries) after ≡ entries → AllBelow (length entries) positions
    → observation positions after ≡ observation positions entries
unfolding AllBelow
observation-stays entries after [] front below = refl
observation-stays entries after (p ∷ ps) front below =
    ap (λ (a : ℕ). a ∷ observation ps after) (entry-stays entries after p front below.0)
    ∙ ap (λ (l : List ℕ). slice_index entries p ∷ l) (observation-stays entries after ps front below.1)
