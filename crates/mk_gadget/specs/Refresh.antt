-- The refresh: one random element for each pair of shares is added to both of them, after Ishai, Sahai and
-- Wagner (CRYPTO 2003). Its operand's n shares have the positions 0 to n - 1, and each pair three
-- instructions: the random element, and its sums with either share.
use Rattle.std.specs.Prelude.{ℕ, zero, suc, ◌+◌, ◌*◌, List, [], ◌∷◌, map, nat_eq, nat_lt, if◌then◌else◌}
use Rattle.std.specs.List.{flat_map, range_with_len}
use Rattle.mk_code.specs.declared.instr.Instr.{Instr}
use Rattle.mk_code.specs.declared.instr.Instr.TheVariants.{Rnd, Add}
use Rattle.mk_gadget.specs.Gadget.{Gadget}
use Rattle.mk_gadget.specs.Pairs.{Pair, pairs, pair_number}

-- the position of the random element of shares i < j
abbrev pub refresh_random : ℕ → ℕ → ℕ → ℕ
refresh_random n i j = n + 3 * pair_number n i j

-- the position of share i plus the random elements of its pairs with the shares below m: the last such sum
unfoldable pub refresh_sum : ℕ → ℕ → ℕ → ℕ
refresh_sum n i zero = i
refresh_sum n i (suc m) =
    if nat_eq i m then refresh_sum n i m else if nat_lt i m then refresh_random n i m + 1 else refresh_random n m i + 2

-- the instructions of a pair
abbrev pub refresh_pair : ℕ → Pair → List Instr
refresh_pair n (i, j) =
    Rnd ∷ Add (refresh_sum n i j) (refresh_random n i j) ∷ Add (refresh_sum n j i) (refresh_random n i j) ∷ []

-- the refresh with n shares
abbrev pub refresh_gadget : ℕ → Gadget
refresh_gadget n = record {
  instrs = flat_map (refresh_pair n) (pairs n);
  outs = map (λ i. refresh_sum n i n) (range_with_len 0 n);
}
