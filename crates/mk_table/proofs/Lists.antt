-- What holds of each item of a list.
use Rattle.std.proofs.Common.{◌≡◌, ℕ, suc, ◌<◌, Bool, true, ◌&&◌, List, [], ◌∷◌, ◌++◌, length, map, flat_map, slice_index, refl, arith}
use Rattle.std.specs.List.{AllByRecursion}
use Rattle.std.proofs.lemmas.Bool.{and_parts}

-- whether all of these pass a test
abbrev pub all_pass : (ℕ → Bool) → List ℕ → Bool
all_pass test [] = true
all_pass test (k ∷ ks) = test k && all_pass test ks

-- what follows from the test holds of all that is made of them
pub all_mapped : {X : Type 0} (P : X → Type 0) (f : ℕ → X) (test : ℕ → Bool) → ((k : ℕ) → test k ≡ true → P (f k))
    → (ks : List ℕ) → all_pass test ks ≡ true → AllByRecursion P (map f ks)
all_mapped P f test follows [] all = tt
all_mapped P f test follows (k ∷ ks) all =
    let parts = and_parts (test k) (all_pass test ks) all in
    (follows k parts.0, all_mapped P f test follows ks parts.1)

-- what holds of two lists holds of both together
pub all_both : {X : Type 0} (P : X → Type 0) (xs ys : List X) → AllByRecursion P xs → AllByRecursion P ys → AllByRecursion P (xs ++ ys)
all_both P [] ys first second = second
all_both P (x ∷ xs) ys first second = (first.0, all_both P xs ys first.1 second)

-- what holds at each index of a list of numbers
pub all_entries : (P : ℕ → Type 0) (xs : List ℕ) → ((i : ℕ) → i < length xs → P (slice_index xs i)) → AllByRecursion P xs
all_entries P [] each = tt
all_entries P (x ∷ xs) each = (each 0 (omega arith), all_entries P xs (λ i below. each (suc i) (omega (arith, below))))

-- what is made of each is the same
pub flat_same : {X Y : Type 0} (f : X → List Y) (g : ℕ → X) (h : ℕ → List Y) → ((k : ℕ) → f (g k) ≡ h k) → (ks : List ℕ) → flat_map f (map g ks) ≡ flat_map h ks
flat_same f g h same [] = refl
flat_same f g h same (k ∷ ks) = λ i. same k i ++ flat_same f g h same ks i

-- so are the lists of what is made
pub map_same : {X Y : Type 0} (f : X → Y) (g : ℕ → X) (h : ℕ → Y) → ((k : ℕ) → f (g k) ≡ h k) → (ks : List ℕ) → map f (map g ks) ≡ map h ks
map_same f g h same [] = refl
map_same f g h same (k ∷ ks) = λ i. same k i ∷ map_same f g h same ks i
