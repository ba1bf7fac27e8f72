-- The laws of polynomials with reduced exponents, and of those of a gadget's positions.
use Rattle.std.specs.Prelude.{◌≡◌, ◌↔◌, ℕ, List, [], ◌++◌, map, bit_xor}
use Rattle.std.specs.List.{AllByRecursion}
use Rattle.mk_field.specs.declared.field.FieldId.{FieldId}
use Rattle.mk_field.specs.Field.{size, product, square}
use Rattle.mk_code.specs.Counting.{Elements}
use Rattle.mk_code.specs.Trace.{randoms, run}
use Rattle.mk_pad.specs.declared.term.Term.{Term}
use Rattle.mk_pad.specs.Form.{GadgetForm, share_count}
use Rattle.mk_pad.specs.Polynomial.{value, coefficient_at, IsPolynomial, plus, times, squared}
use Rattle.mk_pad.specs.Positions.{variable_count, polynomials}

-- sums, products and squares of polynomials in n variables are polynomials, whose values at any elements are the
-- sums, products and squares of their values. `unique`: two polynomials have the same coefficients exactly where
-- they have the same values at all elements
pub record PolynomialLaws (field : FieldId) (n : ℕ) : Type 0 where
  pub plus_fits : (ps qs : List Term) → IsPolynomial field n ps → IsPolynomial field n qs → IsPolynomial field n (plus ps qs)
  pub plus_value : (ps qs : List Term) (xs : List ℕ) → IsPolynomial field n ps → IsPolynomial field n qs
      → value field (plus ps qs) xs ≡ bit_xor (value field ps xs) (value field qs xs)
  pub times_fits : (ps qs : List Term) → IsPolynomial field n ps → IsPolynomial field n qs → IsPolynomial field n (times field ps qs)
  pub times_value : (ps qs : List Term) (xs : List ℕ) → IsPolynomial field n ps → IsPolynomial field n qs → Elements (size field) n xs
      → value field (times field ps qs) xs ≡ product field (value field ps xs) (value field qs xs)
  pub squared_fits : (ps : List Term) → IsPolynomial field n ps → IsPolynomial field n (squared field ps)
  pub squared_value : (ps : List Term) (xs : List ℕ) → IsPolynomial field n ps → Elements (size field) n xs
      → value field (squared field ps) xs ≡ square field (value field ps xs)
  pub unique : (ps qs : List Term) → IsPolynomial field n ps → IsPolynomial field n qs
      → ((exponents : List ℕ) → coefficient_at exponents ps ≡ coefficient_at exponents qs)
      ↔ ((xs : List ℕ) → Elements (size field) n xs → value field ps xs ≡ value field qs xs)

-- the polynomials of a gadget's positions have as values at any shares and random elements the entries of its run
pub record PositionsLaw (g : GadgetForm) : Type 0 where
  pub fit : AllByRecursion (IsPolynomial g.field (variable_count g)) (polynomials g)
  pub values : (shares tape : List ℕ) → Elements (size g.field) (share_count g) shares → Elements (size g.field) (randoms g.instrs) tape
      → map (λ ps. value g.field ps (shares ++ tape)) (polynomials g) ≡ run g.field [] g.instrs tape shares
