-- Small gadgets over bits and over bytes, and what an observer sees of them.
use Rattle.std.specs.Prelude.{◌≡◌, ℕ, List, [], ◌∷◌, length, map, replicate, refl}
use Rattle.mk_field.specs.declared.field.FieldId.TheVariants.{Gf2, Gf256}
use Rattle.mk_field.specs.Field.{sum_bits}
use Rattle.mk_code.specs.declared.instr.Instr.TheVariants.{Rnd, Copy, Add, Mul}
use Rattle.mk_code.specs.Trace.{randoms, run}
use Rattle.mk_code.specs.Counting.{sum_below, total, one_if_equal}
use Rattle.mk_gadget.specs.Gadget.{Gadget, placed, placed_outs}
use Rattle.mk_gadget.specs.Pairs.{pairs, pairs_upto, others}
use Rattle.mk_gadget.specs.Refresh.{refresh_sum, refresh_gadget}
use Rattle.mk_gadget.specs.Product.{product_gadget}
use Rattle.mk_gadget.specs.Template.{public_addition, scaling}
use Rattle.mk_gadget.specs.Steady.{block_ways}

-- the product of x and y with two shares of each, after Ishai, Sahai and Wagner (CRYPTO 2003): a random
-- element hides the sum of the two cross products
abbrev pub bit_product : Gadget
bit_product = record {
  instrs = Rnd ∷ Mul 0 3 ∷ Add 4 5 ∷ Mul 1 2 ∷ Add 6 7 ∷ Mul 0 2 ∷ Add 9 4 ∷ Mul 1 3 ∷ Add 11 8 ∷ [];
  outs = 10 ∷ 12 ∷ [];
}

-- its sixteen states: the two shares of x, and those of y
abbrev pub product_states : List (List ℕ)
product_states =
    (0 ∷ 0 ∷ 0 ∷ 0 ∷ []) ∷ (0 ∷ 0 ∷ 0 ∷ 1 ∷ []) ∷ (0 ∷ 0 ∷ 1 ∷ 0 ∷ []) ∷ (0 ∷ 0 ∷ 1 ∷ 1 ∷ [])
    ∷ (0 ∷ 1 ∷ 0 ∷ 0 ∷ []) ∷ (0 ∷ 1 ∷ 0 ∷ 1 ∷ []) ∷ (0 ∷ 1 ∷ 1 ∷ 0 ∷ []) ∷ (0 ∷ 1 ∷ 1 ∷ 1 ∷ [])
    ∷ (1 ∷ 0 ∷ 0 ∷ 0 ∷ []) ∷ (1 ∷ 0 ∷ 0 ∷ 1 ∷ []) ∷ (1 ∷ 0 ∷ 1 ∷ 0 ∷ []) ∷ (1 ∷ 0 ∷ 1 ∷ 1 ∷ [])
    ∷ (1 ∷ 1 ∷ 0 ∷ 0 ∷ []) ∷ (1 ∷ 1 ∷ 0 ∷ 1 ∷ []) ∷ (1 ∷ 1 ∷ 1 ∷ 0 ∷ []) ∷ (1 ∷ 1 ∷ 1 ∷ 1 ∷ []) ∷ []

-- in how many ways these instructions and these shares of the out bank show 1, state by state
abbrev pub product_ones : List ℕ → List ℕ → List ℕ
product_ones probes outs = map (λ state. block_ways Gf2 [] bit_product state probes outs (1 ∷ [])) product_states

-- the product of the shares 0 tells these two shares
pub bit_product-diagonal : product_ones (5 ∷ []) [] ≡ 0 ∷ 0 ∷ 0 ∷ 0 ∷ 0 ∷ 0 ∷ 0 ∷ 0 ∷ 0 ∷ 0 ∷ 2 ∷ 2 ∷ 0 ∷ 0 ∷ 2 ∷ 2 ∷ []
unfolding randoms run sum_below total one_if_equal
bit_product-diagonal = refl

-- a cross product tells share 0 of x and share 1 of y
pub bit_product-cross : product_ones (1 ∷ []) [] ≡ 0 ∷ 0 ∷ 0 ∷ 0 ∷ 0 ∷ 0 ∷ 0 ∷ 0 ∷ 0 ∷ 2 ∷ 0 ∷ 2 ∷ 0 ∷ 2 ∷ 0 ∷ 2 ∷ []
unfolding randoms run sum_below total one_if_equal
bit_product-cross = refl

-- the sum of the random element and a cross product tells nothing
pub bit_product-half : product_ones (2 ∷ []) [] ≡ replicate 16 1
unfolding randoms run sum_below total one_if_equal
bit_product-half = refl

-- nor does the sum of both cross products and the random element
pub bit_product-cell : product_ones (4 ∷ []) [] ≡ replicate 16 1
unfolding randoms run sum_below total one_if_equal
bit_product-cell = refl

-- nor does share 1 of the product
pub bit_product-output : product_ones [] (1 ∷ []) ≡ replicate 16 1
unfolding randoms run sum_below total one_if_equal
bit_product-output = refl

-- the refresh of Rivain and Prouff (CHES 2010) with three shares, which is not strong: one random element
-- for each share but share 0 is added to that share and to share 0
abbrev pub short_refresh : Gadget
short_refresh = record {
  instrs = Rnd ∷ Add 0 3 ∷ Add 1 3 ∷ Rnd ∷ Add 4 6 ∷ Add 2 6 ∷ [];
  outs = 7 ∷ 5 ∷ 8 ∷ [];
}

-- the first sum in share 0 and share 1 of the out bank are both 0 for two of the four tapes where all shares are 0
pub short_refresh-000 : block_ways Gf2 [] short_refresh (0 ∷ 0 ∷ 0 ∷ []) (1 ∷ []) (1 ∷ []) (0 ∷ 0 ∷ []) ≡ 2
unfolding randoms run sum_below total one_if_equal
short_refresh-000 = refl

-- and for no tape where share 0 alone is 1
pub short_refresh-100 : block_ways Gf2 [] short_refresh (1 ∷ 0 ∷ 0 ∷ []) (1 ∷ []) (1 ∷ []) (0 ∷ 0 ∷ []) ≡ 0
unfolding randoms run sum_below total one_if_equal
short_refresh-100 = refl

-- or where share 1 alone is 1
pub short_refresh-010 : block_ways Gf2 [] short_refresh (0 ∷ 1 ∷ 0 ∷ []) (1 ∷ []) (1 ∷ []) (0 ∷ 0 ∷ []) ≡ 0
unfolding randoms run sum_below total one_if_equal
short_refresh-010 = refl

-- two shares, copied in the other order: not steady
abbrev pub exchange : Gadget
exchange = record { instrs = Copy 1 ∷ Copy 0 ∷ []; outs = 2 ∷ 3 ∷ [] }

-- share 0 of the out bank is 0 where both shares are
pub exchange-00 : block_ways Gf2 [] exchange (0 ∷ 0 ∷ []) [] (0 ∷ []) (0 ∷ []) ≡ 1
unfolding randoms run total one_if_equal
exchange-00 = refl

-- and isn't where share 1 is 1
pub exchange-01 : block_ways Gf2 [] exchange (0 ∷ 1 ∷ []) [] (0 ∷ []) (0 ∷ []) ≡ 0
unfolding randoms run total one_if_equal
exchange-01 = refl

-- the shares 57 and 01 times the public 13 are fe (FIPS 197 section 4.2.1) and 13: a probe of the second
-- instruction sees 13, and then share 0 of the out bank is fe
pub scaling-57-13 : block_ways Gf256 [] (scaling 2) (0x57 ∷ 0x01 ∷ 0x13 ∷ []) (1 ∷ []) (0 ∷ []) (0x13 ∷ 0xfe ∷ []) ≡ 1
unfolding randoms run total one_if_equal sum_bits
scaling-57-13 = refl

-- and not the other way round
pub scaling-13-57 : block_ways Gf256 [] (scaling 2) (0x57 ∷ 0x01 ∷ 0x13 ∷ []) (1 ∷ []) (0 ∷ []) (0xfe ∷ 0x13 ∷ []) ≡ 0
unfolding randoms run total one_if_equal sum_bits
scaling-13-57 = refl

-- a public value at position 2 is added to the shares at 5 and 6, by the instructions from 9 on
pub public_addition-placed : placed (5 ∷ 6 ∷ 2 ∷ []) 9 (public_addition 2) ≡ Add 5 2 ∷ Copy 6 ∷ []
public_addition-placed = refl

-- which are its out bank
pub public_addition-outs : placed_outs (5 ∷ 6 ∷ 2 ∷ []) 9 (public_addition 2) ≡ 9 ∷ 10 ∷ []
public_addition-outs = refl

-- the product with two shares
pub product_gadget-2 : product_gadget 2 ≡ bit_product
unfolding pairs_upto others
product_gadget-2 = refl

-- the refresh with three shares: nine instructions, of which three are random elements
pub refresh_gadget-3 : refresh_gadget 3 ≡ record {
  instrs = Rnd ∷ Add 0 3 ∷ Add 1 3 ∷ Rnd ∷ Add 4 6 ∷ Add 2 6 ∷ Rnd ∷ Add 5 9 ∷ Add 8 9 ∷ [];
  outs = 7 ∷ 10 ∷ 11 ∷ [];
}
unfolding pairs_upto refresh_sum
refresh_gadget-3 = refl

-- the product with three shares: three pairs of five instructions, and three rows of three
pub product_gadget-3 : product_gadget 3 ≡ record {
  instrs = Rnd ∷ Mul 0 4 ∷ Add 6 7 ∷ Mul 1 3 ∷ Add 8 9
      ∷ Rnd ∷ Mul 0 5 ∷ Add 11 12 ∷ Mul 2 3 ∷ Add 13 14
      ∷ Rnd ∷ Mul 1 5 ∷ Add 16 17 ∷ Mul 2 4 ∷ Add 18 19
      ∷ Mul 0 3 ∷ Add 21 6 ∷ Add 22 11
      ∷ Mul 1 4 ∷ Add 24 10 ∷ Add 25 16
      ∷ Mul 2 5 ∷ Add 27 15 ∷ Add 28 20 ∷ [];
  outs = 23 ∷ 26 ∷ 29 ∷ [];
}
unfolding pairs_upto others
product_gadget-3 = refl

-- the product with nine shares: 36 pairs of five instructions, and nine rows of nine
pub product_gadget-9 : length (product_gadget 9).instrs ≡ 261
unfolding pairs_upto others
product_gadget-9 = refl

-- the refresh with nine shares: 36 pairs of three instructions
pub refresh_gadget-9 : length (refresh_gadget 9).instrs ≡ 108
unfolding pairs_upto refresh_sum
refresh_gadget-9 = refl

-- each pair takes a random element in the product
pub product_gadget-9-randoms : randoms (product_gadget 9).instrs ≡ 36
unfolding pairs_upto others randoms
product_gadget-9-randoms = refl

-- and in the refresh
pub refresh_gadget-9-randoms : randoms (refresh_gadget 9).instrs ≡ 36
unfolding pairs_upto refresh_sum randoms
refresh_gadget-9-randoms = refl

-- the pairs of four shares stand share by share
pub pairs-4 : pairs 4 ≡ (0, 1) ∷ (0, 2) ∷ (0, 3) ∷ (1, 2) ∷ (1, 3) ∷ (2, 3) ∷ []
unfolding pairs_upto
pairs-4 = refl
