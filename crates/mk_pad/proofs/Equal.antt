-- Equations of polynomials: the characteristic being 2, two are equal where their sum has no terms.
use Rattle.std.proofs.Common.{◌≡◌, ℕ, List, [], bit_xor, sym, ◌∙◌, ap}
use Rattle.mk_field.specs.declared.field.FieldId.{FieldId}
use Rattle.mk_field.specs.Field.{size}
use Rattle.mk_field.proofs.Sum.{sum-self, sum-zero_left, sum-cancel_right}
use Rattle.mk_code.specs.Counting.{Elements}
use Rattle.mk_pad.specs.declared.term.Term.{Term}
use Rattle.mk_pad.specs.Polynomial.{value, coefficient_at, IsPolynomial, plus}
use Rattle.mk_pad.specs.Laws.{PolynomialLaws}
use Rattle.mk_pad.proofs.Combining.{polynomial-plus, polynomial-times, polynomial-squared}
use Rattle.mk_pad.proofs.Values.{value-plus, value-times, value-squared}
use Rattle.mk_pad.proofs.Unique.{coefficients-zero, no-terms, coefficient-plus}

-- elements with the sum 0 are the same
pub same-of_zero : (a b : ℕ) → bit_xor a b ≡ 0 → a ≡ b
same-of_zero a b e = sym (sum-cancel_right a b) ∙ ap (λ (x : ℕ). bit_xor x b) e ∙ sum-zero_left b

-- and the other way round
zero-of_same : (a b : ℕ) → a ≡ b → bit_xor a b ≡ 0
zero-of_same a b e = ap (λ (x : ℕ). bit_xor x b) e ∙ sum-self b

-- where the sum has no terms, the coefficients are the same
pub coefficients-of_none : (ps qs : List Term) → plus ps qs ≡ [] → (es : List ℕ) → coefficient_at es ps ≡ coefficient_at es qs
unfolding coefficient_at
coefficients-of_none ps qs none es =
    same-of_zero (coefficient_at es ps) (coefficient_at es qs) (sym (coefficient-plus es ps qs) ∙ ap (coefficient_at es) none)

-- and the other way round
pub none-of_coefficients : (field : FieldId) (n : ℕ) (ps qs : List Term) → IsPolynomial field n ps → IsPolynomial field n qs
    → ((es : List ℕ) → coefficient_at es ps ≡ coefficient_at es qs) → plus ps qs ≡ []
none-of_coefficients field n ps qs left right same =
    no-terms field n (plus ps qs) (polynomial-plus field n ps qs left right.terms)
    (λ es here. coefficient-plus es ps qs ∙ zero-of_same (coefficient_at es ps) (coefficient_at es qs) (same es))

-- where the sum has no terms, the values are the same
values-of_none : (field : FieldId) (n : ℕ) (ps qs : List Term) (xs : List ℕ) → IsPolynomial field n ps → IsPolynomial field n qs
    → plus ps qs ≡ [] → value field ps xs ≡ value field qs xs
unfolding value
values-of_none field n ps qs xs left right none =
    same-of_zero (value field ps xs) (value field qs xs)
    (sym (value-plus field n ps qs xs left.terms right.terms) ∙ ap (λ (ts : List Term). value field ts xs) none)

-- and the other way round
none-of_values : (field : FieldId) (n : ℕ) (ps qs : List Term) → IsPolynomial field n ps → IsPolynomial field n qs
    → ((xs : List ℕ) → Elements (size field) n xs → value field ps xs ≡ value field qs xs) → plus ps qs ≡ []
none-of_values field n ps qs left right same =
    let fit = polynomial-plus field n ps qs left right.terms in
    no-terms field n (plus ps qs) fit
    (coefficients-zero field n (plus ps qs) fit.terms
    (λ xs here. value-plus field n ps qs xs left.terms right.terms ∙ zero-of_same (value field ps xs) (value field qs xs) (same xs here)))

-- the laws of polynomials hold
pub polynomial_laws-hold : (field : FieldId) (n : ℕ) → PolynomialLaws field n
polynomial_laws-hold field n = record {
  plus_fits = λ ps qs left right. polynomial-plus field n ps qs left right.terms;
  plus_value = λ ps qs xs left right. value-plus field n ps qs xs left.terms right.terms;
  times_fits = polynomial-times field n;
  times_value = λ ps qs xs left right here. value-times field n ps qs xs left right here.below;
  squared_fits = polynomial-squared field n;
  squared_value = λ ps xs fit here. value-squared field n ps xs fit here.below;
  unique = λ ps qs left right. (
    λ same. λ xs here. values-of_none field n ps qs xs left right (none-of_coefficients field n ps qs left right same),
    λ same. coefficients-of_none ps qs (none-of_values field n ps qs left right same),
  );
}
