-- The product of two shared values, after Ishai, Sahai and Wagner (CRYPTO 2003). Its operands' n shares have
-- the positions i and n + i. Row i and column j have a cell each: for i < j it is a random element, and for
-- j < i that of the pair plus both cross products. Share i of the product is the product of the shares i
-- plus the cells of row i.
use Rattle.std.specs.Prelude.{ℕ, ◌+◌, ◌*◌, List, [], ◌∷◌, ◌++◌, length, map, nat_lt, if◌then◌else◌}
use Rattle.std.specs.List.{flat_map, range_with_len}
use Rattle.mk_code.specs.declared.instr.Instr.{Instr}
use Rattle.mk_code.specs.declared.instr.Instr.TheVariants.{Rnd, Add, Mul}
use Rattle.mk_gadget.specs.Gadget.{Gadget}
use Rattle.mk_gadget.specs.Pairs.{Pair, pairs, pair_number, others}

-- the position of the first of the five instructions of shares i < j
abbrev pub pair_position : ℕ → ℕ → ℕ → ℕ
pair_position n i j = 2 * n + 5 * pair_number n i j

-- the position of the cell of row i and another column j
abbrev pub cell_position : ℕ → ℕ → ℕ → ℕ
cell_position n i j = if nat_lt i j then pair_position n i j else pair_position n j i + 4

-- the position of the first of the n instructions of row i, behind all pairs
abbrev pub row_position : ℕ → ℕ → ℕ
row_position n i = 2 * n + 5 * length (pairs n) + n * i

-- the position of the product of the shares i plus the cells of row i in the columns below m
abbrev pub sum_position : ℕ → ℕ → ℕ → ℕ
sum_position n i m = row_position n i + length (others i m)

-- the instructions of a pair: its random element, and its sum with one cross product and then the other
abbrev pub product_pair : ℕ → Pair → List Instr
product_pair n (i, j) =
    let first = pair_position n i j in
    Rnd ∷ Mul i (n + j) ∷ Add first (first + 1) ∷ Mul j (n + i) ∷ Add (first + 2) (first + 3) ∷ []

-- those of row i
abbrev pub product_row : ℕ → ℕ → List Instr
product_row n i = Mul i (n + i) ∷ map (λ j. Add (sum_position n i j) (cell_position n i j)) (others i n)

-- the product with n shares
abbrev pub product_gadget : ℕ → Gadget
product_gadget n = record {
  instrs = flat_map (product_pair n) (pairs n) ++ flat_map (product_row n) (range_with_len 0 n);
  outs = map (λ i. sum_position n i n) (range_with_len 0 n);
}
