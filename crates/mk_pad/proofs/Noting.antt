-- What is noted of polynomials, one after the other.
use Rattle.std.proofs.Common.{◌≡◌, ℕ, zero, suc, ◌+◌, ◌<◌, Bool, true, false, List, [], ◌∷◌, ◌++◌, length, take, slice_index_or, slice_set, replicate, cond, refl, sym, ◌∙◌, ap, subst, arith, length-append}
use Rattle.std.specs.List.{AllByRecursion, filter}
use Rattle.std.proofs.lemmas.List.{take_more, take_all}
use Rattle.std.proofs.lemmas.List.FromFn.{get_or-map-range_with_len, length-map-range_with_len}
use Rattle.mk_pad.specs.declared.term.Term.{Term}
use Rattle.mk_pad.specs.declared.occurrences.Occurrences.{Occurrences}
use Rattle.mk_field.specs.declared.field.FieldId.{FieldId}
use Rattle.mk_pad.specs.Form.{GadgetForm, IsGadget, share_count, position_count}
use Rattle.mk_pad.specs.Polynomial.{IsTerm, IsPolynomial}
use Rattle.mk_pad.specs.Positions.{variable, variable_count, polynomial_at, polynomials}
use Rattle.mk_pad.specs.Shown.{has_variable, occurs, IsAdded, polynomial_of}
use Rattle.mk_pad.specs.Looking.{IsNoted, AreNoted, Notes}
use Rattle.mk_pad.proofs.Right.{polynomials-length, own-polynomial-list}

-- one term more in front of two joined lists, or not
joined-one : (b : Bool) (t : Term) (xs ys : List Term) → cond b (t ∷ (xs ++ ys)) (xs ++ ys) ≡ cond b (t ∷ xs) xs ++ ys
joined-one true t xs ys = refl
joined-one false t xs ys = refl

-- what a test keeps before a term, and from it on
filter-at : (test : Term → Bool) (ts : List Term) (i : ℕ) (d : Term) → i < length ts
    → (rest : List Term) × (filter test ts ≡ filter test (take i ts) ++ filter test (slice_index_or ts i d ∷ rest))
filter-at test [] i d within = absurd (omega (arith, within))
filter-at test (t ∷ ts) zero d within = (ts, refl)
filter-at test (t ∷ ts) (suc i) d within =
    let later = filter-at test ts i d (omega (arith, within)) in (
      later.0,
      ap (λ (us : List Term). cond (test t) (t ∷ us) us) later.1
          ∙ joined-one (test t) t (filter test (take i ts)) (filter test (slice_index_or ts i d ∷ later.0)),
    )

-- what is kept from a term on that passes begins with it
kept-first : (test : Term → Bool) (t : Term) (ts : List Term) → test t ≡ true → filter test (t ∷ ts) ≡ t ∷ filter test ts
kept-first test t ts passes = ap (λ (b : Bool). cond b (t ∷ filter test ts) (filter test ts)) passes

-- a second term that has the variable: it isn't added
pub not-twice : (n v : ℕ) (ts : List Term) (i : ℕ) (t : Term) → i < length ts → t ≡ slice_index_or ts i t → has_variable v t ≡ true
    → filter (has_variable v) (take i ts) ≡ variable n v → IsAdded n v ts → ⊥
not-twice n v ts i t within is has once added =
    let parts = filter-at (has_variable v) ts i t within in
    let whole : variable n v ≡ variable n v ++ (t ∷ filter (has_variable v) parts.0) =
    sym added ∙ parts.1
    ∙ ap (λ (us : List Term). us ++ filter (has_variable v) (slice_index_or ts i t ∷ parts.0)) once
    ∙ ap (λ (u : Term). variable n v ++ filter (has_variable v) (u ∷ parts.0)) (sym is)
    ∙ ap (λ (us : List Term). variable n v ++ us) (kept-first (has_variable v) t parts.0 has) in
    absurd (omega (arith, ap length whole, length-append (variable n v) (t ∷ filter (has_variable v) parts.0)))

-- the first of two equal lists
first-same : (t u : Term) (ts us : List Term) → t ∷ ts ≡ u ∷ us → t ≡ u
first-same t u ts us e = cc

-- a first term that has the variable and isn't that variable: it isn't added
pub not-other : (n v : ℕ) (ts : List Term) (i : ℕ) (t : Term) → i < length ts → t ≡ slice_index_or ts i t → has_variable v t ≡ true
    → filter (has_variable v) (take i ts) ≡ [] → (t ∷ [] ≡ variable n v → ⊥) → IsAdded n v ts → ⊥
not-other n v ts i t within is has none other added =
    let parts = filter-at (has_variable v) ts i t within in
    let whole : variable n v ≡ t ∷ filter (has_variable v) parts.0 =
    sym added ∙ parts.1
    ∙ ap (λ (us : List Term). us ++ filter (has_variable v) (slice_index_or ts i t ∷ parts.0)) none
    ∙ ap (λ (u : Term). filter (has_variable v) (u ∷ parts.0)) (sym is)
    ∙ kept-first (has_variable v) t parts.0 has in
    other (ap (λ (u : Term). u ∷ []) (sym (first-same (record { exponents = slice_set (replicate n 0) v 1; coefficient = 1 }) t [] (filter (has_variable v) parts.0) whole)))

-- what holds of each holds at a place
pub all-at : {A : Type 0} (P : A → Type 0) (xs : List A) (i : ℕ) (d : A) → AllByRecursion P xs → i < length xs → P (slice_index_or xs i d)
all-at P [] i d all within = absurd (omega (arith, within))
all-at P (x ∷ xs) zero d all within = all.0
all-at P (x ∷ xs) (suc i) d all within = all-at P xs i d all.1 (omega (arith, within))

-- one polynomial more is noted
noted-push : (shares n : ℕ) (positions : List (List Term)) (rows : List Occurrences) (ps : List Term) (o : Occurrences) → AreNoted shares n positions rows
    → IsNoted shares n ps o → AreNoted shares n (positions ++ ps ∷ []) (rows ++ o ∷ [])
unfolding AreNoted
noted-push shares n [] [] ps o all one = (one, tt)
noted-push shares n [] (r ∷ rows) ps o all one = absurd all
noted-push shares n (q ∷ positions) [] ps o all one = absurd all
noted-push shares n (q ∷ positions) (r ∷ rows) ps o all one = (all.0, noted-push shares n positions rows ps o all.1 one)

-- nothing is noted of no polynomials
pub noted-none : (shares n : ℕ) → AreNoted shares n [] []
unfolding AreNoted
noted-none shares n = tt

-- the next polynomial is noted
pub noted-more : (shares n : ℕ) (positions : List (List Term)) (i : ℕ) (rows new : List Occurrences) (ps terms : List Term) (o : Occurrences) → i < length positions
    → ps ≡ slice_index_or positions i ps → terms ≡ ps → AreNoted shares n (take i positions) rows → IsNoted shares n terms o → new ≡ rows ++ o ∷ []
    → AreNoted shares n (take (i + 1) positions) new
noted-more shares n positions i rows new ps terms o within is same all one pushed =
    let next : take (i + 1) positions ≡ take i positions ++ terms ∷ [] =
    take_more positions i ps within ∙ ap (λ (qs : List Term). take i positions ++ qs ∷ []) (sym is ∙ sym same) in
    subst (λ (l : List Occurrences). AreNoted shares n (take (i + 1) positions) l) (sym pushed)
    (subst (λ (l : List (List Term)). AreNoted shares n l (rows ++ o ∷ [])) (sym next) (noted-push shares n (take i positions) rows terms o all one))

-- all are
pub noted-all : (shares n : ℕ) (positions : List (List Term)) (i : ℕ) (rows : List Occurrences) → (i < length positions → ⊥) → AreNoted shares n (take i positions) rows
    → AreNoted shares n positions rows
noted-all shares n positions i rows end all =
    subst (λ (l : List (List Term)). AreNoted shares n l rows) (take_all i positions (omega (arith, end))) all

-- there is a note for each polynomial
pub noted-length : (shares n : ℕ) (positions : List (List Term)) (rows : List Occurrences) → AreNoted shares n positions rows → length rows ≡ length positions
unfolding AreNoted
noted-length shares n [] [] all = refl
noted-length shares n [] (r ∷ rows) all = absurd all
noted-length shares n (q ∷ positions) [] all = absurd all
noted-length shares n (q ∷ positions) (r ∷ rows) all = ap suc (noted-length shares n positions rows all.1)

-- what is noted of a position
pub noted-at : (shares n : ℕ) (positions : List (List Term)) (rows : List Occurrences) (p : ℕ) (d : Occurrences) → AreNoted shares n positions rows → p < length rows
    → IsNoted shares n (polynomial_at positions p) (slice_index_or rows p d)
unfolding AreNoted
noted-at shares n [] [] p d all within = absurd (omega (arith, within))
noted-at shares n [] (r ∷ rows) p d all within = absurd all
noted-at shares n (q ∷ positions) [] p d all within = absurd all
noted-at shares n (q ∷ positions) (r ∷ rows) zero d all within = all.0
noted-at shares n (q ∷ positions) (r ∷ rows) (suc p) d all within = noted-at shares n positions rows p d all.1 (omega (arith, within))

-- whether a variable occurs, as it is noted
pub occurs-noted : (shares n : ℕ) (ps : List Term) (o : Occurrences) (v : ℕ) (d : Bool) → IsNoted shares n ps o → v < n → slice_index_or o.occurring v d ≡ occurs v ps
occurs-noted shares n ps o v d noted within =
    ap (λ (bs : List Bool). slice_index_or bs v d) noted.occurring
    ∙ get_or-map-range_with_len (λ v. occurs v ps) 0 n v v d within (omega arith)

-- there is a note for each position of a gadget
pub notes-length : (g : GadgetForm) (rows : List Occurrences) → Notes g rows → length rows ≡ position_count g
notes-length g rows notes = noted-length (share_count g) (variable_count g) (polynomials g) rows notes.noted ∙ polynomials-length g

-- what is noted of a position
pub notes-at : (g : GadgetForm) (rows : List Occurrences) (p : ℕ) (d : Occurrences) → Notes g rows → p < position_count g
    → IsNoted (share_count g) (variable_count g) (polynomial_of g p) (slice_index_or rows p d)
notes-at g rows p d notes within =
    noted-at (share_count g) (variable_count g) (polynomials g) rows p d notes.noted (omega (arith, within, notes-length g rows notes))

-- so many variables are noted
pub occurring-length : (shares n : ℕ) (ps : List Term) (o : Occurrences) → IsNoted shares n ps o → length o.occurring ≡ n
occurring-length shares n ps o noted = ap length noted.occurring ∙ length-map-range_with_len (λ v. occurs v ps) 0 n

-- the terms of a polynomial have an exponent for each variable
terms-count : (field : FieldId) (n : ℕ) (ts : List Term) → AllByRecursion (IsTerm field n) ts → AllByRecursion (λ t. length t.exponents ≡ n) ts
terms-count field n [] all = tt
terms-count field n (t ∷ ts) all = (all.0.exponents.count, terms-count field n ts all.1)

-- so have those of each
each-count : (field : FieldId) (n : ℕ) (positions : List (List Term)) → AllByRecursion (IsPolynomial field n) positions
    → AllByRecursion (λ ts. AllByRecursion (λ t. length t.exponents ≡ n) ts) positions
each-count field n [] all = tt
each-count field n (ts ∷ positions) all = (terms-count field n ts all.0.terms, each-count field n positions all.1)

-- so have those of a gadget's positions
pub terms-long : (g : GadgetForm) (n : ℕ) (positions : List (List Term)) → IsGadget g → n ≡ variable_count g → positions ≡ polynomials g
    → AllByRecursion (λ ts. AllByRecursion (λ t. length t.exponents ≡ n) ts) positions
terms-long g n positions here all is =
    each-count g.field n positions (own-polynomial-list g g.field n positions here refl all is)

-- what is noted of its polynomials is noted of it
pub notes-own : (g : GadgetForm) (shares n : ℕ) (positions : List (List Term)) (rows : List Occurrences) → IsGadget g → shares ≡ share_count g → n ≡ variable_count g
    → positions ≡ polynomials g → AreNoted shares n positions rows → Notes g rows
notes-own g shares n positions rows here count all is noted =
    record {
      form = here;
      noted =
          subst (λ (k : ℕ). AreNoted k (variable_count g) (polynomials g) rows) count
          (subst (λ (k : ℕ). AreNoted shares k (polynomials g) rows) all (subst (λ (ps : List (List Term)). AreNoted shares n ps rows) is noted));
    }
