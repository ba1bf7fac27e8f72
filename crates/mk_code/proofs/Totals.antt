-- Laws of totals: sums over all lists of n numbers below q.
use Rattle.std.proofs.Common.{◌≡◌, ℕ, zero, suc, ◌+◌, ◌^◌, ◌<◌, ◌≤◌, List, [], ◌∷◌, ◌++◌, length, take, drop, bit_xor, refl, ◌∙◌, ap, arith, zero-add, suc-add, length-append, length-drop, length-take-le}
use Rattle.mk_field.specs.Sharing.{added}
use Rattle.mk_code.specs.Counting.{sum_below, total, AllBelow, Elements}
use Rattle.mk_code.proofs.Sums.{sum_below-same, sum_below-zero, sum_below-add, sum_below-exchange, sum_below-moved}

-- one more element in front
pub Elements-cons : (q n a : ℕ) (s : List ℕ) → a < q → Elements q n s → Elements q (suc n) (a ∷ s)
unfolding AllBelow
Elements-cons q n a s below rest = record { count = ap suc rest.count; below = (below, rest.below) }

-- no elements
pub Elements-nil : (q : ℕ) → Elements q 0 []
unfolding AllBelow
Elements-nil q = record { count = refl; below = tt }

-- numbers below q, and then more of them
pub AllBelow-append : (q : ℕ) (s t : List ℕ) → AllBelow q s → AllBelow q t → AllBelow q (s ++ t)
unfolding AllBelow
AllBelow-append q [] t front back = back
AllBelow-append q (a ∷ s) t front back = (front.0, AllBelow-append q s t front.1 back)

-- elements, and then more of them
pub Elements-append : (q m n : ℕ) (s t : List ℕ) → Elements q m s → Elements q n t → Elements q (m + n) (s ++ t)
Elements-append q m n s t front back = record {
  count = omega (arith, length-append s t, front.count, back.count);
  below = AllBelow-append q s t front.below back.below;
}

-- the front of numbers below q
pub AllBelow-take : (q m : ℕ) (s : List ℕ) → AllBelow q s → AllBelow q (take m s)
unfolding AllBelow
AllBelow-take q zero s below = tt
AllBelow-take q (suc m) [] below = tt
AllBelow-take q (suc m) (a ∷ s) below = (below.0, AllBelow-take q m s below.1)

-- the back of numbers below q
pub AllBelow-drop : (q m : ℕ) (s : List ℕ) → AllBelow q s → AllBelow q (drop m s)
unfolding AllBelow
AllBelow-drop q zero s below = below
AllBelow-drop q (suc m) [] below = tt
AllBelow-drop q (suc m) (a ∷ s) below = AllBelow-drop q m s below.1

-- the first m of m + n elements
pub Elements-take : (q m n : ℕ) (s : List ℕ) → Elements q (m + n) s → Elements q m (take m s)
Elements-take q m n s here = record { count = length-take-le m s (omega (arith, here.count)); below = AllBelow-take q m s here.below }

-- what is behind the first m of m + n elements
pub Elements-drop : (q m n : ℕ) (s : List ℕ) → Elements q (m + n) s → Elements q n (drop m s)
Elements-drop q m n s here = record { count = omega (arith, length-drop m s, here.count); below = AllBelow-drop q m s here.below }

-- functions that are equal at each list of n elements have equal totals
pub total-same : (q n : ℕ) (g h : List ℕ → ℕ) → ((s : List ℕ) → Elements q n s → g s ≡ h s) → total q n g ≡ total q n h
unfolding total
total-same q zero g h same = same [] (Elements-nil q)
total-same q (suc n) g h same =
    sum_below-same q (λ a. total q n (λ rest. g (a ∷ rest))) (λ a. total q n (λ rest. h (a ∷ rest)))
    (λ a below. total-same q n (λ rest. g (a ∷ rest)) (λ rest. h (a ∷ rest)) (λ s here. same (a ∷ s) (Elements-cons q n a s below here)))

-- the total of sums
pub total-add : (q n : ℕ) (g h : List ℕ → ℕ) → total q n (λ s. g s + h s) ≡ total q n g + total q n h
unfolding total
total-add q zero g h = refl
total-add q (suc n) g h =
    sum_below-same q (λ a. total q n (λ rest. g (a ∷ rest) + h (a ∷ rest))) (λ a. total q n (λ rest. g (a ∷ rest)) + total q n (λ rest. h (a ∷ rest)))
    (λ a below. total-add q n (λ rest. g (a ∷ rest)) (λ rest. h (a ∷ rest)))
    ∙ sum_below-add q (λ a. total q n (λ rest. g (a ∷ rest))) (λ a. total q n (λ rest. h (a ∷ rest)))

-- lists of m + n elements are those of m and of n elements one behind the other
pub total-split : (q m n : ℕ) (g : List ℕ → ℕ) → total q (m + n) g ≡ total q m (λ a. total q n (λ b. g (a ++ b)))
unfolding total
total-split q zero n g = ap (λ (k : ℕ). total q k g) (zero-add n)
total-split q (suc m) n g =
    ap (λ (k : ℕ). total q k g) (suc-add m n)
    ∙ sum_below-same q (λ a. total q (m + n) (λ rest. g (a ∷ rest))) (λ a. total q m (λ s. total q n (λ b. g (a ∷ s ++ b))))
    (λ a below. total-split q m n (λ rest. g (a ∷ rest)))

-- a sum and a total change places
pub total-sum_below : (p q n : ℕ) (g : ℕ → List ℕ → ℕ)
    → sum_below p (λ a. total q n (g a)) ≡ total q n (λ s. sum_below p (λ a. g a s))
unfolding total
total-sum_below p q zero g = refl
total-sum_below p q (suc n) g =
    sum_below-exchange p q (λ a b. total q n (λ rest. g a (b ∷ rest)))
    ∙ sum_below-same q (λ b. sum_below p (λ a. total q n (λ rest. g a (b ∷ rest)))) (λ b. total q n (λ rest. sum_below p (λ a. g a (b ∷ rest))))
    (λ b below. total-sum_below p q n (λ a rest. g a (b ∷ rest)))

-- two totals change places
pub total-exchange : (q m n : ℕ) (g : List ℕ → List ℕ → ℕ)
    → total q m (λ s. total q n (λ t. g s t)) ≡ total q n (λ t. total q m (λ s. g s t))
unfolding total
total-exchange q zero n g = refl
total-exchange q (suc m) n g =
    sum_below-same q (λ a. total q m (λ s. total q n (λ t. g (a ∷ s) t))) (λ a. total q n (λ t. total q m (λ s. g (a ∷ s) t)))
    (λ a below. total-exchange q m n (λ s t. g (a ∷ s) t))
    ∙ total-sum_below q q n (λ a t. total q m (λ s. g (a ∷ s) t))

-- adding one list of at most n elements to all of them leaves the total
pub total-moved : (k n : ℕ) (d : List ℕ) (g : List ℕ → ℕ) → length d ≤ n → AllBelow (2 ^ k) d
    → total (2 ^ k) n (λ s. g (added d s)) ≡ total (2 ^ k) n g
unfolding total added AllBelow
total-moved k n [] g fits below = refl
total-moved k zero (x ∷ d) g fits below = absurd (omega arith)
total-moved k (suc n) (x ∷ d) g fits below =
    sum_below-same (2 ^ k) (λ a. total (2 ^ k) n (λ rest. g (bit_xor x a ∷ added d rest))) (λ a. total (2 ^ k) n (λ rest. g (bit_xor x a ∷ rest)))
    (λ a lt. total-moved k n d (λ rest. g (bit_xor x a ∷ rest)) (omega arith) below.1)
    ∙ sum_below-moved k x (λ a. total (2 ^ k) n (λ rest. g (a ∷ rest))) below.0
