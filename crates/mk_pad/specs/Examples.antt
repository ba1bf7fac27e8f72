-- Small gadgets, and their polynomials.
use Rattle.std.specs.Prelude.{◌≡◌, ℕ, ◌+◌, take, false, not, List, [], ◌∷◌, slice_index, refl}
use Rattle.std.proofs.Common.{inl, inr, arith}
use Rattle.std.specs.List.{list_any}
use Rattle.mk_field.specs.declared.field.FieldId.TheVariants.{Gf2, Gf256}
use Rattle.mk_field.specs.Field.{sum_bits, raised}
use Rattle.mk_field.specs.Sharing.{field_sum}
use Rattle.mk_code.specs.declared.instr.Instr.TheVariants as instr
use Rattle.mk_code.specs.Trace.{randoms, run}
use Rattle.mk_pad.specs.declared.kind.GadgetKind.TheVariants.{Mul, Refresh}
use Rattle.mk_pad.specs.declared.term.Term.{Term}
use Rattle.mk_pad.specs.Form.{GadgetForm, share_count}
use Rattle.mk_pad.specs.Shown.{occurs, IsAdded, polynomial_of, shares_in, inner}
use Rattle.mk_pad.specs.Polynomial.{monomial_at, value, with_term, exponents_sum, plus}
use Rattle.mk_pad.specs.Positions.{polynomials_from, polynomials, counts_from, counts}
use Rattle.mk_pad.specs.Verified.{choose, sets_up_to, Precedes, ComesBefore}
use Rattle.mk_pad.specs.Value.{outs_polynomial, wanted_polynomial, wanted_value}

-- the product of two bits with two shares each: the cells of the cross products are hidden by one random element
abbrev pub bit_product : GadgetForm
bit_product = record {
  kind = Mul;
  field = Gf2;
  order = 1;
  instrs = instr.Rnd ∷ instr.Mul 0 3 ∷ instr.Add 4 5 ∷ instr.Mul 1 2 ∷ instr.Add 6 7 ∷ instr.Mul 0 2 ∷ instr.Add 9 4 ∷ instr.Mul 1 3 ∷ instr.Add 11 8 ∷ [];
  outs = 10 ∷ 12 ∷ [];
}

-- a term
abbrev term : ℕ → List ℕ → Term
term c es = record { exponents = es; coefficient = c }

-- the outs share all four products of shares, and the random element falls out
pub bit_product-outs : outs_polynomial bit_product
    ≡ term 1 (1 ∷ 0 ∷ 1 ∷ 0 ∷ 0 ∷ []) ∷ term 1 (0 ∷ 1 ∷ 0 ∷ 1 ∷ 0 ∷ []) ∷ term 1 (1 ∷ 0 ∷ 0 ∷ 1 ∷ 0 ∷ []) ∷ term 1 (0 ∷ 1 ∷ 1 ∷ 0 ∷ 0 ∷ []) ∷ []
unfolding with_term exponents_sum polynomials_from randoms
bit_product-outs = refl

-- so many terms each instruction counts
pub bit_product-counts : counts bit_product ≡ 1 ∷ 1 ∷ 2 ∷ 1 ∷ 3 ∷ 1 ∷ 2 ∷ 1 ∷ 4 ∷ []
unfolding with_term exponents_sum counts_from randoms
bit_product-counts = refl

-- the sum of the polynomials of the outs and of the wanted one: it has no terms where they are equal
abbrev both : GadgetForm → List Term
both g = plus (outs_polynomial g) (wanted_polynomial g.field g.kind (g.order + 1) (take (share_count g) (polynomials g)))

-- the product is right
pub bit_product-right : both bit_product ≡ []
unfolding with_term exponents_sum polynomials_from randoms
bit_product-right = refl

-- the same product, where the cross products are added up before the random element is
abbrev pub other_product : GadgetForm
other_product = record bit_product {
  instrs = instr.Rnd ∷ instr.Mul 0 3 ∷ instr.Mul 1 2 ∷ instr.Add 5 6 ∷ instr.Add 4 7 ∷ instr.Mul 0 2 ∷ instr.Add 9 4 ∷ instr.Mul 1 3 ∷ instr.Add 11 8 ∷ [];
}

-- the sum of the cross products has both shares of each operand, and no random element is added in it: it isn't shown
pub other_product-shares : shares_in other_product (7 ∷ []) 0 ≡ 2
unfolding with_term exponents_sum polynomials_from randoms
other_product-shares = refl

-- so many of its positions are no outs
pub other_product-inner : inner other_product (7 ∷ 10 ∷ []) ≡ 1
other_product-inner = refl

-- in the product before it a random element is added in this sum, beside one product of shares
pub bit_product-added : IsAdded 5 4 (polynomial_of bit_product 6)
unfolding with_term exponents_sum polynomials_from randoms
bit_product-added = refl

-- it is right too
pub other_product-right : both other_product ≡ []
unfolding with_term exponents_sum polynomials_from randoms
other_product-right = refl

-- the refresh of Rivain and Prouff (CHES 2010) with three shares
abbrev pub short_refresh : GadgetForm
short_refresh = record {
  kind = Refresh;
  field = Gf2;
  order = 2;
  instrs = instr.Rnd ∷ instr.Add 0 3 ∷ instr.Add 1 3 ∷ instr.Rnd ∷ instr.Add 4 6 ∷ instr.Add 2 6 ∷ [];
  outs = 7 ∷ 5 ∷ 8 ∷ [];
}

-- one random element is added in the first two sums, so that neither can be left out: two shares occur, and one of the
-- two positions is an out
pub short_refresh-shares : shares_in short_refresh (4 ∷ 5 ∷ []) 0 ≡ 2
unfolding with_term polynomials_from randoms
short_refresh-shares = refl

-- so the two aren't shown
pub short_refresh-inner : inner short_refresh (4 ∷ 5 ∷ []) ≡ 1
short_refresh-inner = refl

-- the element occurs in both
pub short_refresh-both : list_any (λ p. not (occurs 3 (polynomial_of short_refresh p))) (4 ∷ 5 ∷ []) ≡ false
unfolding with_term polynomials_from randoms
short_refresh-both = refl

-- its value is right
pub short_refresh-right : both short_refresh ≡ []
unfolding with_term polynomials_from randoms
short_refresh-right = refl

-- two random elements, which are no refresh
abbrev pub two_randoms : GadgetForm
two_randoms = record { kind = Refresh; field = Gf2; order = 1; instrs = instr.Rnd ∷ instr.Rnd ∷ []; outs = 2 ∷ 3 ∷ [] }

-- both random elements and both shares are left
pub two_randoms-wrong : both two_randoms
    ≡ term 1 (0 ∷ 0 ∷ 1 ∷ 0 ∷ []) ∷ term 1 (0 ∷ 0 ∷ 0 ∷ 1 ∷ []) ∷ term 1 (1 ∷ 0 ∷ 0 ∷ 0 ∷ []) ∷ term 1 (0 ∷ 1 ∷ 0 ∷ 0 ∷ []) ∷ []
unfolding with_term polynomials_from randoms
two_randoms-wrong = refl

-- the product of bytes with two shares, of which the first is squared eight times, which is the share
abbrev pub squared_product : GadgetForm
squared_product = record {
  kind = Mul;
  field = Gf256;
  order = 1;
  instrs = instr.Sq 0 ∷ instr.Sq 4 ∷ instr.Sq 5 ∷ instr.Sq 6 ∷ instr.Sq 7 ∷ instr.Sq 8 ∷ instr.Sq 9 ∷ instr.Sq 10
      ∷ instr.Mul 11 2 ∷ instr.Mul 11 3 ∷ instr.Mul 1 2 ∷ instr.Mul 1 3 ∷ instr.Add 12 13 ∷ instr.Add 14 15 ∷ [];
  outs = 16 ∷ 17 ∷ [];
}

-- it is right
pub squared_product-right : both squared_product ≡ []
unfolding with_term exponents_sum polynomials_from randoms sum_bits
squared_product-right = refl

-- instructions over bytes that square, which isn't right as a refresh
abbrev pub squares : GadgetForm
squares = record {
  kind = Refresh;
  field = Gf256;
  order = 1;
  instrs = instr.Const 2 ∷ instr.Mul 0 2 ∷ instr.Sq 3 ∷ instr.Mul 4 4 ∷ instr.Add 0 5 ∷ instr.Add 6 0 ∷ instr.Copy 1 ∷ instr.Const 0 ∷ [];
  outs = 7 ∷ 8 ∷ [];
}

-- 02 times a share, to the fourth power: the coefficient is 02 to the fourth power
pub squares-polynomials : polynomials squares
    ≡ (term 1 (1 ∷ 0 ∷ []) ∷ []) ∷ (term 1 (0 ∷ 1 ∷ []) ∷ []) ∷ (term 2 (0 ∷ 0 ∷ []) ∷ []) ∷ (term 2 (1 ∷ 0 ∷ []) ∷ [])
    ∷ (term 4 (2 ∷ 0 ∷ []) ∷ []) ∷ (term 16 (4 ∷ 0 ∷ []) ∷ []) ∷ (term 1 (1 ∷ 0 ∷ []) ∷ term 16 (4 ∷ 0 ∷ []) ∷ [])
    ∷ (term 16 (4 ∷ 0 ∷ []) ∷ []) ∷ (term 1 (0 ∷ 1 ∷ []) ∷ []) ∷ [] ∷ []
unfolding with_term exponents_sum polynomials_from randoms sum_bits
squares-polynomials = refl

-- so many terms each instruction counts: a constant counts 1, and 0 has no term when it is combined
pub squares-counts : counts squares ≡ 1 ∷ 1 ∷ 1 ∷ 1 ∷ 2 ∷ 3 ∷ 1 ∷ 1 ∷ []
unfolding with_term exponents_sum counts_from randoms sum_bits
squares-counts = refl

-- the polynomial of the fourth power of 02 times a share has the value that a run gives where the share is 57
pub squares-value : value Gf256 (term 16 (4 ∷ 0 ∷ []) ∷ []) (0x57 ∷ 0x13 ∷ []) ≡ slice_index (run Gf256 [] squares.instrs [] (0x57 ∷ 0x13 ∷ [])) 5
unfolding value monomial_at raised sum_bits run
squares-value = refl

-- 200 and 100 give the exponent 45, and 200 and 55 the exponent 255
pub exponents-sum : exponents_sum Gf256 (200 ∷ 200 ∷ []) (100 ∷ 55 ∷ []) ≡ 45 ∷ 255 ∷ []
unfolding exponents_sum
exponents-sum = refl

-- {57} times {83} is {c1} (FIPS 197 section 4.2): the value that shares of the two should give
pub wanted-57-83 : wanted_value Gf256 Mul 2 (0x02 ∷ 0x55 ∷ 0xd6 ∷ 0x55 ∷ []) ≡ 0xc1
unfolding field_sum sum_bits
wanted-57-83 = refl

-- of five things there are 5 and 10 sets of one and two, and of six there are 20 of three
pub sets-of_five : sets_up_to 5 2 ≡ 15
unfolding sets_up_to choose
sets-of_five = refl

pub sets-of_six : choose 6 3 ≡ 20
unfolding choose
sets-of_six = refl

-- no set has more things than there are
pub sets-of_two : choose 2 3 ≡ 0
unfolding choose
sets-of_two = refl

-- one position comes before two, and of two sets of one size the one with the smaller number where they first differ
pub single-first : ComesBefore (9 ∷ []) (4 ∷ 5 ∷ [])
single-first = inl (omega arith)

pub smaller-first : ComesBefore (4 ∷ 5 ∷ []) (4 ∷ 6 ∷ [])
unfolding Precedes
smaller-first = inr (refl, inr (refl, inl (omega arith)))

pub larger-last : ComesBefore (4 ∷ 6 ∷ []) (4 ∷ 5 ∷ []) → ⊥
unfolding Precedes
larger-last before = elim before [
  | inl less ↦ absurd (omega (arith, less))
  | inr same ↦ elim same.1 [
    | inl less ↦ absurd (omega (arith, less))
    | inr equal ↦ elim equal.1 [
      | inl less ↦ absurd (omega (arith, less))
      | inr again ↦ again.1
    ]
  ]
]
