-- Which uses are marked so far.
use Rattle.std.proofs.Common.{◌≡◌, ◌⊎◌, ◌↔◌, ℕ, zero, suc, ◌+◌, ◌-◌, ◌<◌, Bool, true, false, Some, List, [], ◌∷◌, ◌++◌, length, replicate, take, slice_index_or, refl, sym, ◌∙◌, ap, ap₂, subst, arith, inl, inr}
use Rattle.std.specs.List.{Contains}
use Rattle.std.proofs.lemmas.Bool.{cases_lt, cases_eq, false≢true}
use Rattle.std.proofs.lemmas.List.Elements.{Contains-append_left, Contains-append_right, Contains-push, Contains-push_cases}
use Rattle.std.proofs.Math.Seq.{take-append_seam}
use Rattle.std.proofs.lemmas.List.{length-append, length-replicate, get_or-replicate, get_or_append_left, get_or_past, get_or_push}
use Rattle.std.proofs.lemmas.Option.{slice_get-get_or, slice_get_within}
use Rattle.mk_ssa.specs.Values.{Values, IsValues}
use Rattle.mk_rules.specs.declared.uses.OperandPlace.{OperandPlace}
use Rattle.mk_rules.proofs.Probes.{Contains-front}
use Rattle.mk_rules.proofs.Noting.{place_of}
use Rattle.mk_rules.proofs.Using.{IsUse, noted-from, noted-in, use-is}
use Rattle.mk_rules.specs.Uses.{Use, last_first}
use Rattle.mk_place.specs.declared.marking.Fresh.{Fresh}
use Rattle.mk_place.specs.Uses.{uses, shape_of_values}
use Rattle.mk_place.specs.Layout.{Marks}
use Rattle.mk_place.specs.Marking.{AreMarks, HasRow, HasRows, IsDue, IsMarked, IsNeed, all_marks, final_need, inputs, mark_in, unmarked}
use Rattle.mk_place.proofs.Joining.{same-place}
use Rattle.mk_place.proofs.Flow.{Found, marks-from, IsMarked as IsMarkedUse}
use Rattle.mk_place.proofs.Standing.{same-answer}
use Rattle.mk_place.proofs.Using.{use-before}

-- the use at one of these places is to be marked
abbrev pub IsAmong : Marks → List OperandPlace → ℕ → ℕ → Type 0
IsAmong marks ps i k = Contains ps (place_of i k) × (marks i k ≡ true)

module _ (marks : Marks) (A : ℕ → ℕ → Type 0) (old : List Fresh) (ps : List OperandPlace) (p : OperandPlace)
    (so_far : (i k : ℕ) → IsMarked old i k ↔ (A i k ⊎ IsAmong marks ps i k)) where
  -- a use that isn't to be marked
  pub among-still : marks p.value p.operand ≡ false → (i k : ℕ) → IsMarked old i k ↔ (A i k ⊎ IsAmong marks (ps ++ p ∷ []) i k)
  among-still off i k = (
    λ on. elim ((so_far i k).0 on) [
      | inl before ↦ inl before
      | inr among ↦ inr (Contains-append_left ps (p ∷ []) (place_of i k) among.0, among.1)
    ],
    λ is. (so_far i k).1 (elim is [
      | inl before ↦ inl before
      | inr among ↦ elim (Contains-push_cases ps p (place_of i k) among.0) [
        | inl inner ↦ inr (inner, among.1)
        | inr here ↦ absurd (false≢true (sym off ∙ ap (λ (q : OperandPlace). marks q.value q.operand) here ∙ among.1))
      ]
    ]),
  )

  -- a use that is marked
  pub among-more : (new : List Fresh) → marks p.value p.operand ≡ true
      → ((i k : ℕ) → IsMarked new i k ↔ (IsMarked old i k ⊎ ((i ≡ p.value) × (k ≡ p.operand))))
      → (i k : ℕ) → IsMarked new i k ↔ (A i k ⊎ IsAmong marks (ps ++ p ∷ []) i k)
  among-more new on marked i k = (
    λ is. elim ((marked i k).0 is) [
      | inl before ↦ elim ((so_far i k).0 before) [
        | inl earlier ↦ inl earlier
        | inr among ↦ inr (Contains-append_left ps (p ∷ []) (place_of i k) among.0, among.1)
      ]
      | inr here ↦
          let same : p ≡ place_of i k = same-place p (place_of i k) (sym here.0) (sym here.1) in
          inr (subst (Contains (ps ++ p ∷ [])) same (Contains-push ps p), ap (λ (q : OperandPlace). marks q.value q.operand) (sym same) ∙ on)
    ],
    λ is. (marked i k).1 (elim is [
      | inl before ↦ inl ((so_far i k).1 (inl before))
      | inr among ↦ elim (Contains-push_cases ps p (place_of i k) among.0) [
        | inl inner ↦ inl ((so_far i k).1 (inr (inner, among.1)))
        | inr here ↦ inr (ap (λ (q : OperandPlace). q.value) (sym here), ap (λ (q : OperandPlace). q.operand) (sym here))
      ]
    ]),
  )

-- the uses of one value
pub among-due : (s : Values) (v i k : ℕ) → IsAmong (all_marks s) (last_first v (uses s)) i k → IsDue s v i k
among-due s v i k (held, on) =
    let found = noted-from v (uses s) (place_of i k) held in
    (found.0, found.1, found.2, ap (λ (q : OperandPlace). q.value) found.3, ap (λ (q : OperandPlace). q.operand) found.3, on)

-- and the other way round
pub due-among : (s : Values) (v i k : ℕ) → IsDue s v i k → IsAmong (all_marks s) (last_first v (uses s)) i k
due-among s v i k (u, held, own, value, place, on) =
    (subst (Contains (last_first v (uses s))) (same-place _ (place_of i k) value place) (noted-in v (uses s) u held own), on)

-- the use by value i at place k is one of such a value, and is to be marked
abbrev pub IsSettled : Values → (ℕ → Type 0) → ℕ → ℕ → Type 0
IsSettled s P i k = (u : Use) × Contains (uses s) u × P u.operand × (u.value ≡ i) × (u.place ≡ k) × (all_marks s i k ≡ true)

-- the uses of one value more
pub settled-more : (s : Values) (P Q : ℕ → Type 0) (v : ℕ) (old new : List Fresh) → ((w : ℕ) → Q w ↔ (P w ⊎ (w ≡ v)))
    → ((i k : ℕ) → IsMarked old i k ↔ IsSettled s P i k) → ((i k : ℕ) → IsMarked new i k ↔ (IsMarked old i k ⊎ IsDue s v i k))
    → (i k : ℕ) → IsMarked new i k ↔ IsSettled s Q i k
settled-more s P Q v old new with_v so_far marked i k = (
  λ is. elim ((marked i k).0 is) [
    | inl before ↦ let found = (so_far i k).0 before in (found.0, found.1, (with_v found.0.operand).1 (inl found.2), found.3, found.4, found.5)
    | inr due ↦ (due.0, due.1, (with_v due.0.operand).1 (inr due.2), due.3, due.4, due.5)
  ],
  λ found. (marked i k).1 (elim ((with_v found.0.operand).0 found.2) [
    | inl before ↦ inl ((so_far i k).1 (found.0, found.1, before, found.3, found.4, found.5))
    | inr here ↦ inr (found.0, found.1, here, found.3, found.4, found.5)
  ]),
)

-- when all uses are settled, the marks are those of the pass
pub settled-all : (s : Values) (P : ℕ → Type 0) (fresh : List Fresh) → ((w : ℕ) → P w) → length fresh ≡ length s.values
    → ((i k : ℕ) → IsMarked fresh i k ↔ IsSettled s P i k) → AreMarks s fresh
settled-all s P fresh all count so_far = record {
  count = count;
  each = λ i below.
      slice_get-get_or fresh i unmarked (omega (arith, count, below))
      ∙ ap (λ (x : Fresh). Some x) (whole (slice_index_or fresh i unmarked) (all_marks s i 0) (all_marks s i 1) (same i 0) (same i 1));
}
  where
    whole : (x : Fresh) (a b : Bool) → x.first ≡ a → x.second ≡ b → x ≡ record { first = a; second = b }
    whole x a b first second = ap₂ (λ (p q : Bool). made p q) first second
      where
        made : Bool → Bool → Fresh
        made p q = record { first = p; second = q }

    same : (i k : ℕ) → mark_in (slice_index_or fresh i unmarked) k ≡ all_marks s i k
    same i k = same-answer (mark_in (slice_index_or fresh i unmarked) k) (all_marks s i k)
        (λ on. ((so_far i k).0 on).5)
        (λ on.
        let found : Found (inputs s) (uses s) (λ behind u. IsMarkedUse (inputs s) i k behind u) = marks-from (inputs s) (uses s) i k on in
        (so_far i k).1 (
          found.here,
          subst (λ (us : List Use). Contains us found.here) (sym found.split)
              (Contains-append_right found.front (found.here ∷ found.behind) found.here (Contains-front found.here found.behind)),
          all found.here.operand,
          sym found.holds.value,
          sym found.holds.place,
          on,
        ))

-- where nothing is marked, no use is
pub none-marked : (n i k : ℕ) → IsMarked (replicate n unmarked) i k → ⊥
none-marked n i k on = false≢true (sym (off k) ∙ ap (λ (x : Fresh). mark_in x k) (sym same) ∙ on)
  where
    same : slice_index_or (replicate n unmarked) i unmarked ≡ unmarked
    same = elim (cases_lt i n) [
      | inl inside ↦ get_or-replicate n i unmarked unmarked inside
      | inr past ↦ get_or_past (replicate n unmarked) i unmarked (omega (arith, length-replicate n unmarked, past))
    ]

    off : (k : ℕ) → mark_in unmarked k ≡ false
    off zero = refl
    off (suc zero) = refl
    off (suc (suc k)) = refl

-- what is used is one of the values
pub used-within : (s : Values) → IsValues s → (u : Use) → Contains (uses s) u → u.operand < inputs s + length s.values
used-within s is u held =
    let found : IsUse (shape_of_values s) s.values u = use-is (shape_of_values s) s.values u held in
    omega (arith, use-before s is u held, slice_get_within s.values u.value found.op found.there)

-- one row more, for the value before those that have one
pub rows-more : (s : Values) (rows : List (List ℕ)) (row : List ℕ) (words n : ℕ) → length rows + suc n ≡ length s.values → HasRows s rows words (suc n)
    → length row ≡ words → IsNeed s.values (final_need s (inputs s + n)) row → HasRows s (rows ++ row ∷ []) words n
rows-more s rows row words n long has count need i low high = elim (cases_eq i n) [
  | inl same ↦
      let at : length rows ≡ length s.values - suc i = omega (arith, long, same) in
      let read : slice_index_or (rows ++ row ∷ []) (length s.values - suc i) [] ≡ row = get_or_push rows row [] (length s.values - suc i) at in
      record {
        there = omega (arith, length-append rows (row ∷ []), at);
        count = ap (λ (xs : List ℕ). length xs) read ∙ count;
        need = subst (IsNeed s.values (final_need s (inputs s + i))) (sym read)
            (subst (λ (j : ℕ). IsNeed s.values (final_need s (inputs s + j)) row) (sym same) need);
      }
  | inr other ↦
      let old : HasRow s rows words i = has i (omega (arith, low, other)) high in
      let read : slice_index_or (rows ++ row ∷ []) (length s.values - suc i) [] ≡ slice_index_or rows (length s.values - suc i) [] =
      get_or_append_left rows (row ∷ []) [] (length s.values - suc i) old.there in
      record {
        there = omega (arith, length-append rows (row ∷ []), old.there);
        count = ap (λ (xs : List ℕ). length xs) read ∙ old.count;
        need = subst (IsNeed s.values (final_need s (inputs s + i))) (sym read) old.need;
      }
]

-- what is written through a slice of all items
pub written : {X : Type 0} (n : ℕ) (xs ys : List X) → n ≡ length ys → take n (ys ++ xs) ≡ ys
written n xs ys long = ap (λ (k : ℕ). take k (ys ++ xs)) long ∙ take-append_seam ys xs
