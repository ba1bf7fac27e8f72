-- Where a term more goes.
use Rattle.std.proofs.Common.{◌≡◌, ◌≢◌, ℕ, zero, suc, ◌<◌, List, [], ◌∷◌, ◌++◌, length, take, drop, get_or, slice_set, bit_xor, refl, add-one, ◌+◌, sym, ◌∙◌, ap, arith, All}
use Rattle.std.specs.List.{HoldsAt, AllWithin}
use Rattle.std.proofs.lemmas.Bool.{ne_eqb}
use Rattle.std.proofs.lemmas.List.{set_split, get_or_default}
use Rattle.std.proofs.lemmas.List.Elements.{All-head, All-tail}
use Rattle.mk_pad.specs.declared.term.Term.{Term}
use Rattle.mk_pad.specs.Polynomial.{with_coefficient, with_term}
use Rattle.mk_pad.proofs.Combining.{with_term-same, with_term-other}

-- no term has its exponents
pub with_term-none : (ts : List Term) (t : Term) → All (λ u. u.exponents ≢ t.exponents) ts → with_term ts t ≡ ts ++ t ∷ []
unfolding with_term
with_term-none [] t absent = refl
with_term-none (u ∷ us) t absent =
    with_term-other u t us (All-head (λ v. v.exponents ≢ t.exponents) u us absent)
    ∙ ap (λ (vs : List Term). u ∷ vs) (with_term-none us t (All-tail (λ v. v.exponents ≢ t.exponents) u us absent))

-- the first term that has them is the i-th
with_term-at : (ts : List Term) (t : Term) (i : ℕ) (d : Term) → i < length ts → HoldsAt (λ u. u.exponents ≡ t.exponents) ts i
    → AllWithin (λ u. u.exponents ≢ t.exponents) ts 0 i
    → with_term ts t ≡ take i ts ++ with_coefficient (get_or ts i d) (bit_xor (get_or ts i d).coefficient t.coefficient) (drop (suc i) ts)
with_term-at [] t i d within here before = absurd (omega arith)
with_term-at (u ∷ us) t zero d within here before = with_term-same u t us (here u)
with_term-at (u ∷ us) t (suc i) d within here before =
    with_term-other u t us (before 0 u (omega arith) (omega arith))
    ∙ ap (λ (vs : List Term). u ∷ vs) (with_term-at us t i d (omega arith) here (λ k e least most. before (suc k) e (omega arith) (omega arith)))

-- a term with another coefficient, which isn't 0, in its position
pub set-coefficient : (ts : List Term) (i c : ℕ) (u d : Term) → i < length ts → u ≡ get_or ts i u → c ≢ 0
    → slice_set ts i (record u { coefficient = c }) ≡ take i ts ++ with_coefficient (get_or ts i d) c (drop (i + 1) ts)
set-coefficient ts i c u d within read nonzero =
    set_split ts i (record u { coefficient = c }) within
    ∙ ap (λ (v : Term). take i ts ++ record v { coefficient = c } ∷ drop (suc i) ts) (read ∙ get_or_default ts i u d within)
    ∙ rw (ne_eqb c 0 nonzero, add-one) refl

-- the same, as the code finds it
pub absent-pushed : (ts terms new : List Term) (t : Term) (es : List ℕ) → terms ≡ ts → es ≡ t.exponents
    → All (λ u. u.exponents ≢ es) terms → new ≡ ts ++ t ∷ [] → new ≡ with_term ts t
absent-pushed ts terms new t es same_terms same absent is =
    is ∙ sym (with_term-none ts t (λ k d below e. absent k d (rw same_terms below) (rw same_terms (e ∙ sym same))))

-- where one has its exponents, the coefficients are added
pub found-joined : (ts terms new : List Term) (t u d : Term) (es : List ℕ) (i : ℕ) → terms ≡ ts → es ≡ t.exponents
    → (i < length terms) × HoldsAt (λ w. w.exponents ≡ es) terms i × AllWithin (λ w. w.exponents ≢ es) terms 0 i
    → u ≡ get_or ts i u → new ≡ take i ts ++ with_coefficient (get_or ts i d) (bit_xor u.coefficient t.coefficient) (drop (i + 1) ts)
    → new ≡ with_term ts t
found-joined ts terms new t u d es i same_terms same found read is =
    let within : i < length ts = rw (← same_terms) found.0 in
    is ∙ ap (λ (v : Term). take i ts ++ with_coefficient (get_or ts i d) (bit_xor v.coefficient t.coefficient) (drop (i + 1) ts)) (read ∙ get_or_default ts i u d within)
    ∙ rw add-one (sym (with_term-at ts t i d within (λ e. rw (← same_terms) (found.1 e) ∙ same)
    (λ k e least most there. found.2 k e least most (rw same_terms (there ∙ sym same)))))
