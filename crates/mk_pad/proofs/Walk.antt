-- Going through the instructions: what is known behind the first i of them.
use Rattle.std.proofs.Common.{◌≡◌, ℕ, suc, ◌+◌, ◌<◌, ◌≤◌, List, [], ◌∷◌, ◌++◌, length, drop, slice_index, slice_index_or, refl, sym, ◌∙◌, ap, arith, subst, inl, inr}
use Rattle.std.specs.List.{AllByRecursion, range_with_len}
use Rattle.std.proofs.lemmas.Bool.{cases_lt}
use Rattle.std.proofs.lemmas.List.{drop_more, drop_all, length-append, get_or-drop}
use Rattle.std.proofs.lemmas.List.Elements.{All-from_get_or}
use Rattle.mk_field.specs.declared.field.FieldId.{FieldId}
use Rattle.mk_code.specs.declared.instr.Instr.{Instr}
use Rattle.mk_code.specs.declared.instr.Instr.TheVariants.{Rnd}
use Rattle.mk_code.specs.Listing.{FitsAt, AllFit}
use Rattle.mk_code.specs.Trace.{takes, randoms}
use Rattle.mk_code.proofs.Steps.{AllFit-at, drop-next, randoms-drop}
use Rattle.mk_pad.specs.declared.term.Term.{Term}
use Rattle.mk_pad.specs.declared.TheConstants.{MOST_TERMS}
use Rattle.mk_pad.specs.Polynomial.{IsPolynomial}
use Rattle.mk_pad.specs.Positions.{next_polynomial, polynomials_from, term_count, counts_from, variables, polynomials_of, counts_of, AreFew, IsFirstAbove}
use Rattle.mk_pad.proofs.Entries.{next_polynomial-fits, fit-push}
use Rattle.mk_pad.proofs.Right.{variables-fit, shares-length}

-- positions with these polynomials stand behind the first i instructions, and the next random element is the variable `next`
pub record IsWalk (field : FieldId) (n shares : ℕ) (is : List Instr) (i next : ℕ) (positions : List (List Term)) : Type 0 where
  pub polynomials : polynomials_from field n (drop i is) next positions ≡ polynomials_of field n shares is
  pub counts : counts_from field n (drop i is) next positions ≡ drop i (counts_of field n shares is)
  pub few : (j : ℕ) → j < i → slice_index (counts_of field n shares is) j ≤ MOST_TERMS
  pub room : next + randoms (drop i is) ≡ n
  pub count : length positions ≡ shares + i
  pub fit : AllByRecursion (IsPolynomial field n) positions

-- at the start
pub walk-start : (field : FieldId) (n shares : ℕ) (is : List Instr) → shares + randoms is ≡ n → IsWalk field n shares is 0 shares (variables n shares)
walk-start field n shares is room = record {
  polynomials = refl;
  counts = refl;
  few = λ j below. absurd (omega arith);
  room = room;
  count = omega (arith, shares-length n shares);
  fit = variables-fit field n (range_with_len 0 shares);
}

-- the next instruction fits
pub walk-fits : (field : FieldId) (n shares : ℕ) (is : List Instr) (i next : ℕ) (positions : List (List Term)) → IsWalk field n shares is i next positions
    → AllFit field 0 shares is → i < length is → FitsAt field 0 (length positions) (slice_index_or is i Rnd)
walk-fits field n shares is i next positions here fit within =
    subst (λ (len : ℕ). FitsAt field 0 len (slice_index_or is i Rnd)) (sym here.count) (AllFit-at field 0 shares is i within fit)

-- there is a variable for it
pub walk-room : (field : FieldId) (n shares : ℕ) (is : List Instr) (i next : ℕ) (positions : List (List Term)) → IsWalk field n shares is i next positions
    → i < length is → next + takes (slice_index_or is i Rnd) + randoms (drop (i + 1) is) ≡ n
walk-room field n shares is i next positions here within = omega (arith, here.room, randoms-drop is i within)

-- one count for each instruction
length-counts_from : (field : FieldId) (n : ℕ) (is : List Instr) (next : ℕ) (positions : List (List Term)) → length (counts_from field n is next positions) ≡ length is
unfolding counts_from
length-counts_from field n [] next positions = refl
length-counts_from field n (i ∷ is) next positions =
    ap suc (length-counts_from field n is (next + takes i) (positions ++ next_polynomial field n i next positions ∷ []))

-- there is a count for each instruction
pub counts-length : (field : FieldId) (n shares : ℕ) (is : List Instr) → length (counts_of field n shares is) ≡ length is
counts-length field n shares is = length-counts_from field n is shares (variables n shares)

-- what it counts
pub walk-count : (field : FieldId) (n shares : ℕ) (is : List Instr) (i next : ℕ) (positions : List (List Term)) → IsWalk field n shares is i next positions
    → i < length is → slice_index (counts_of field n shares is) i ≡ term_count (slice_index_or is i Rnd) positions
unfolding counts_from
walk-count field n shares is i next positions here within =
    let counts : List ℕ = counts_of field n shares is in
    ap (slice_index counts) (omega arith) ∙ sym (get_or-drop i counts 0 0)
    ∙ ap (λ (cs : List ℕ). slice_index cs 0) (sym here.counts)
    ∙ ap (λ (js : List Instr). slice_index (counts_from field n js next positions) 0) (drop-next is i within)

-- too many terms
pub walk-above : (field : FieldId) (n shares : ℕ) (is : List Instr) (i next : ℕ) (positions : List (List Term)) (terms : ℕ)
    → IsWalk field n shares is i next positions → i < length is → terms ≡ term_count (slice_index_or is i Rnd) positions → MOST_TERMS < terms
    → IsFirstAbove (counts_of field n shares is) terms
walk-above field n shares is i next positions terms here within same above =
    (i, omega (arith, counts-length field n shares is), walk-count field n shares is i next positions here within ∙ sym same, above, here.few)

-- the few behind the first i, and one more
few-more : (counts : List ℕ) (i : ℕ) → ((j : ℕ) → j < i → slice_index counts j ≤ MOST_TERMS) → slice_index counts i ≤ MOST_TERMS
    → (j : ℕ) → j < i + 1 → slice_index counts j ≤ MOST_TERMS
few-more counts i before here j below = elim (cases_lt j i) [
  | inl less ↦ before j less
  | inr most ↦ (let same : i ≡ j = omega arith in subst (λ (k : ℕ). slice_index counts k ≤ MOST_TERMS) same here)
]

-- one instruction further
pub walk-step : (field : FieldId) (n shares : ℕ) (is : List Instr) (i next : ℕ) (positions : List (List Term)) (terms : ℕ)
    → IsWalk field n shares is i next positions → AllFit field 0 shares is → i < length is
    → terms ≡ term_count (slice_index_or is i Rnd) positions → terms ≤ MOST_TERMS
    → IsWalk field n shares is (i + 1) (next + takes (slice_index_or is i Rnd))
    (positions ++ next_polynomial field n (slice_index_or is i Rnd) next positions ∷ [])
unfolding polynomials_from counts_from
walk-step field n shares is i next positions terms here fit within same few =
    let instr : Instr = slice_index_or is i Rnd in
    let ps : List Term = next_polynomial field n instr next positions in
    let counts : List ℕ = counts_of field n shares is in
    let one : counts_from field n (drop i is) next positions ≡ term_count instr positions ∷ counts_from field n (drop (i + 1) is) (next + takes instr) (positions ++ ps ∷ []) =
    ap (λ (js : List Instr). counts_from field n js next positions) (drop-next is i within) in
    let more : drop i counts ≡ slice_index counts i ∷ drop (i + 1) counts = drop_more counts i 0 (omega (arith, counts-length field n shares is)) in
    record {
      polynomials = sym (ap (λ (js : List Instr). polynomials_from field n js next positions) (drop-next is i within)) ∙ here.polynomials;
      counts = ap (drop 1) (sym one ∙ here.counts ∙ more);
      few = few-more counts i here.few (subst (λ (x : ℕ). x ≤ MOST_TERMS) (same ∙ sym (walk-count field n shares is i next positions here within)) few);
      room = walk-room field n shares is i next positions here within;
      count = omega (arith, length-append positions (ps ∷ []), here.count);
      fit = fit-push field n positions ps here.fit (next_polynomial-fits field n (length positions) instr next positions (walk-fits field n shares is i next positions here fit within) here.fit);
    }

-- all of them
pub walk-all : (field : FieldId) (n shares : ℕ) (is : List Instr) (i next : ℕ) (positions : List (List Term)) → IsWalk field n shares is i next positions
    → length is ≤ i → positions ≡ polynomials_of field n shares is
unfolding polynomials_from
walk-all field n shares is i next positions here past =
    sym (ap (λ (js : List Instr). polynomials_from field n js next positions) (drop_all i is past)) ∙ here.polynomials

-- all counts are small at the end
pub walk-few : (field : FieldId) (n shares : ℕ) (is : List Instr) (i next : ℕ) (positions : List (List Term)) → IsWalk field n shares is i next positions
    → length is ≤ i → AreFew (counts_of field n shares is)
walk-few field n shares is i next positions here past =
    All-from_get_or (λ count. count ≤ MOST_TERMS) (counts_of field n shares is) 0
    (λ j below. here.few j (omega (arith, counts-length field n shares is)))
