-- The classes of the exponents from 1 to 254 under doubling modulo 255 (cyclotomic cosets; see Lidl and
-- Niederreiter, Finite Fields, chapter 2). To square a power of an element is to double its exponent, so
-- that the powers of one class are additive functions of each other.
use Rattle.std.specs.Prelude.{◌≡◌, ℕ, ◌*◌, ◌^◌, ◌%◌, List, [], ◌∷◌, ◌==◌, min, filter, find, fold, unwrap_or, refl}
use Rattle.std.specs.List.{range_with_len}

-- an exponent doubled j times
abbrev pub doubled_exponent : ℕ → ℕ → ℕ
doubled_exponent k j = k * 2 ^ j % 255

-- how many exponents are in the class of k: the least number of times, from 1 on, by which k is doubled to k
abbrev pub class_size : ℕ → ℕ
class_size k = unwrap_or (find (λ s. doubled_exponent k s == k) (range_with_len 1 8)) 0

-- the leader of a class: its least exponent
abbrev pub leader_of : ℕ → ℕ
leader_of k = fold (λ least j. min least (doubled_exponent k j)) k (range_with_len 0 8)

-- the least number of times by which the leader of k is doubled to k
abbrev pub doublings : ℕ → ℕ
doublings k = unwrap_or (find (λ h. doubled_exponent (leader_of k) h == k) (range_with_len 0 8)) 0

-- the leaders behind 1, in order
abbrev pub further_leaders : List ℕ
further_leaders =
    3 ∷ 5 ∷ 7 ∷ 9 ∷ 11 ∷ 13 ∷ 15 ∷ 17 ∷ 19 ∷ 21 ∷ 23 ∷ 25 ∷ 27 ∷ 29 ∷ 31 ∷ 37 ∷ 39 ∷ 43 ∷ 45 ∷ 47 ∷ 51 ∷ 53 ∷ 55 ∷ 59 ∷ 61 ∷ 63
    ∷ 85 ∷ 87 ∷ 91 ∷ 95 ∷ 111 ∷ 119 ∷ 127 ∷ []

-- the leaders of the 34 classes, in order
abbrev pub leaders : List ℕ
leaders = 1 ∷ further_leaders

-- these are all leaders
pub leaders-all : filter (λ k. leader_of k == k) (range_with_len 1 254) ≡ leaders
leaders-all = refl

-- 17 is doubled to 34, 68, 136 and 17
pub class-17 : class_size 17 ≡ 4
class-17 = refl

-- 126 is led by 63, which is doubled once
pub leader-126 : leader_of 126 ≡ 63
leader-126 = refl

-- 24 is led by 3, which is doubled three times
pub doublings-24 : doublings 24 ≡ 3
doublings-24 = refl
