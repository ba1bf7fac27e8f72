-- The pairs of shares i < j, in the order in which the product and the refresh go through them, and the
-- other shares of each.
use Rattle.std.specs.Prelude.{ℕ, zero, suc, ◌+◌, ◌-◌, List, [], ◌∷◌, ◌++◌, length, map, nat_eq, if◌then◌else◌}
use Rattle.std.specs.List.{range_with_len}

-- a share and one behind it
abbrev pub Pair : Type 0
Pair = ℕ × ℕ

-- the pairs of share i with the shares behind it, of n shares
abbrev pub pairs_of : ℕ → ℕ → List Pair
pairs_of n i = map (λ j. (i, j)) (range_with_len (i + 1) (n - (i + 1)))

-- those of the first m shares, share by share
unfoldable pub pairs_upto : ℕ → ℕ → List Pair
pairs_upto n zero = []
pairs_upto n (suc m) = pairs_upto n m ++ pairs_of n m

-- all pairs of n shares
abbrev pub pairs : ℕ → List Pair
pairs n = pairs_upto n n

-- how many pairs stand before that of i and j, where i < j
abbrev pub pair_number : ℕ → ℕ → ℕ → ℕ
pair_number n i j = length (pairs_upto n i) + (j - (i + 1))

-- the shares below m but share i, in order
unfoldable pub others : ℕ → ℕ → List ℕ
others i zero = []
others i (suc m) = others i m ++ (if nat_eq i m then [] else m ∷ [])
