-- Which positions may be taken out, as it is noted.
use Rattle.std.proofs.Common.{◌≡◌, ℕ, zero, suc, ◌+◌, ◌<◌, ◌≤◌, Bool, true, false, List, [], ◌∷◌, ◌++◌, length, take, not, nat_eq, cond, slice_index_or, eq-eqb, ne_eqb, refl, sym, ◌∙◌, ap, subst, arith, inl, inr}
use Rattle.std.specs.Prelude.{◌||◌}
use Rattle.std.specs.List.{AllByRecursion, list_any, AllWithin, count_by, range_with_len}
use Rattle.std.proofs.lemmas.List.{take_more}
use Rattle.std.proofs.lemmas.List.FromFn.{length-range_with_len}
use Rattle.std.proofs.lemmas.List.Sums.{count_by-le-length, sum_by-append}
use Rattle.std.proofs.lemmas.Bool.{cases_eq, false≢true}
use Rattle.mk_pad.specs.declared.occurrences.Occurrences.{Occurrences}
use Rattle.mk_pad.specs.Form.{GadgetForm, operands, share_count, position_count}
use Rattle.mk_pad.specs.Positions.{variable_count}
use Rattle.mk_pad.specs.Shown.{occurs, IsAdded, polynomial_of, is_in, without, MayTake, Leaves, IsRest, shares_in, inner, IsShown}
use Rattle.mk_pad.specs.Looking.{IsNoted, Notes}
use Rattle.mk_pad.proofs.Members.{any-default, in-cases, in-place, not-true}
use Rattle.mk_pad.proofs.Noting.{notes-at}
use Rattle.mk_pad.proofs.Rests.{rest-unique}
use Rattle.mk_pad.proofs.Strengths.{contains-in}

module _ (g : GadgetForm) (rows : List Occurrences) (p : ℕ) (row : Occurrences) (added : List ℕ) (notes : Notes g rows) (within : p < position_count g)
    (same : added ≡ (slice_index_or rows p row).added) where
  -- what is noted of the position
  noted : IsNoted (share_count g) (variable_count g) (polynomial_of g p) (slice_index_or rows p row)
  noted = notes-at g rows p row notes within

  -- the random elements of its row are added
  pub all-added : (v : ℕ) → is_in added v ≡ true → (share_count g ≤ v) × (v < variable_count g) × IsAdded (variable_count g) v (polynomial_of g p)
  all-added v there = (noted.added v).0 (sym (ap (λ (vs : List ℕ). is_in vs v) same) ∙ there)

  -- and it has all that are
  has-added : (v : ℕ) → share_count g ≤ v → v < variable_count g → IsAdded (variable_count g) v (polynomial_of g p) → is_in added v ≡ true
  has-added v least below is_added = ap (λ (vs : List ℕ). is_in vs v) same ∙ (noted.added v).1 (least, below, is_added)

-- what holds of the next element too holds of one more
pub within-more : (P : ℕ → Type 0) (xs : List ℕ) (i : ℕ) → i < length xs → AllWithin P xs 0 i → P (slice_index_or xs i 0) → AllWithin P xs 0 (i + 1)
within-more P xs i below all next = λ k d low high. elim (cases_eq k i) [
  | inl same ↦ subst P (sym (ap (λ (j : ℕ). slice_index_or xs j d) same ∙ any-default xs i d 0 below)) next
  | inr differ ↦ all k d low (omega (arith, high, differ))
]

-- the random element at a place of the row is added
pub added-there : (g : GadgetForm) (rows : List Occurrences) (p : ℕ) (row : Occurrences) (added : List ℕ) (i d : ℕ) → Notes g rows → p < position_count g
    → added ≡ (slice_index_or rows p row).added → i < length added
    → (share_count g ≤ slice_index_or added i d) × (slice_index_or added i d < variable_count g) × IsAdded (variable_count g) (slice_index_or added i d) (polynomial_of g p)
added-there g rows p row added i d notes within same below =
    all-added g rows p row added notes within same (slice_index_or added i d) (in-place added i d below)

-- one that occurs in no other position that is left lets it be taken out
pub may-from_added : (g : GadgetForm) (rows : List Occurrences) (left : List ℕ) (p : ℕ) (row : Occurrences) (added : List ℕ) (i : ℕ) (found : Bool) → Notes g rows
    → p < position_count g → added ≡ (slice_index_or rows p row).added → i < length added
    → found ≡ list_any (λ q. occurs (slice_index_or added i 0) (polynomial_of g q)) (without p left) → found ≡ false → MayTake g left p
may-from_added g rows left p row added i found notes within same below tells none =
    let there = added-there g rows p row added i 0 notes within same below in
    record { random = slice_index_or added i 0; is_random = (there.0, there.1); added = there.2; alone = sym tells ∙ none }

-- where each occurs in another one, it may not
pub none-may : (g : GadgetForm) (rows : List Occurrences) (left : List ℕ) (p : ℕ) (row : Occurrences) (added : List ℕ) (i : ℕ) → Notes g rows → p < position_count g
    → added ≡ (slice_index_or rows p row).added → (i < length added → ⊥)
    → AllWithin (λ random. list_any (λ q. occurs random (polynomial_of g q)) (without p left) ≡ true) added 0 i → MayTake g left p → ⊥
none-may g rows left p row added i notes within same end all may =
    let at = contains-in added may.random (has-added g rows p row added notes within same may.random may.is_random.0 may.is_random.1 may.added) in
    false≢true (sym may.alone
    ∙ sym (ap (λ (v : ℕ). list_any (λ q. occurs v (polynomial_of g q)) (without p left)) at.2)
    ∙ all at.0 may.random (omega arith) (omega (arith, at.1, end)))

-- ---- one position more is taken out

-- positions that leave some, and one more of these
pub leaves-more : (g : GadgetForm) (taken set left : List ℕ) (p : ℕ) → Leaves g taken set left → is_in left p ≡ true → MayTake g left p
    → Leaves g (taken ++ p ∷ []) set (without p left)
unfolding Leaves
leaves-more g [] set left p same there may =
    (ap (λ (xs : List ℕ). is_in xs p) same ∙ there, subst (λ (xs : List ℕ). MayTake g xs p) (sym same) may, ap (without p) same)
leaves-more g (q ∷ qs) set left p leaves there may = (leaves.0, leaves.1, leaves-more g qs (without q set) left p leaves.2 there may)

-- one number more, or not
all-one : (P : ℕ → Type 0) (b : Bool) (x : ℕ) (xs : List ℕ) → P x → AllByRecursion P xs → AllByRecursion P (cond b (x ∷ xs) xs)
all-one P true x xs first all = (first, all)
all-one P false x xs first all = all

-- what holds of each position holds of the others
pub all-without : (P : ℕ → Type 0) (p : ℕ) (left : List ℕ) → AllByRecursion P left → AllByRecursion P (without p left)
all-without P p [] all = tt
all-without P p (x ∷ xs) all = all-one P (not (nat_eq x p)) x (without p xs) all.0 (all-without P p xs all.1)

-- one number more at most
length-one : (b : Bool) (x : ℕ) (xs : List ℕ) (n : ℕ) → length xs ≤ n → length (cond b (x ∷ xs) xs) ≤ suc n
length-one true x xs n most = omega (arith, most)
length-one false x xs n most = omega (arith, most)

-- the others are no more
pub without-few : (p : ℕ) (left : List ℕ) → length (without p left) ≤ length left
without-few p [] = omega arith
without-few p (x ∷ xs) = length-one (not (nat_eq x p)) x (without p xs) (length xs) (without-few p xs)

-- and fewer where the position was there
length-less : (b : Bool) (x : ℕ) (xs : List ℕ) (n : ℕ) → (b ≡ false → length xs ≤ n) → (b ≡ true → length xs < n) → length (cond b (x ∷ xs) xs) < suc n
length-less true x xs n no_first first = omega (arith, first refl)
length-less false x xs n no_first first = omega (arith, no_first refl)

pub without-fewer : (p : ℕ) (left : List ℕ) → is_in left p ≡ true → length (without p left) < length left
without-fewer p [] there = absurd (false≢true there)
without-fewer p (x ∷ xs) there =
    length-less (not (nat_eq x p)) x (without p xs) (length xs) (λ e. without-few p xs)
    (λ e. without-fewer p xs (elim (in-cases x xs p there) [
      | inl same ↦ absurd (false≢true (sym (not-true (nat_eq x p) e) ∙ eq-eqb x p (sym same)))
      | inr later ↦ later
    ]))

-- ---- what is counted

-- the numbers of a range, and one more
range-more : (a n : ℕ) → range_with_len a (suc n) ≡ range_with_len a n ++ (a + n) ∷ []
range-more a zero = ap (λ (x : ℕ). x ∷ []) (omega arith)
range-more a (suc n) =
    ap (λ (xs : List ℕ). a ∷ xs) (range-more (a + 1) n)
    ∙ ap (λ (x : ℕ). a ∷ (range_with_len (a + 1) n ++ x ∷ [])) (omega arith)

-- one number more is counted where it passes
counted-more : (test : ℕ → Bool) (xs : List ℕ) (x : ℕ) → count_by test (xs ++ x ∷ []) ≡ count_by test xs + cond (test x) 1 0
counted-more test xs x = sum_by-append (λ y. cond (test y) 1 0) xs (x ∷ []) ∙ omega arith

-- a sum with 0 in front
zero-first : (n : ℕ) → 0 + n ≡ n
zero-first n = omega arith

-- a sum with 0 behind
zero-last : (n : ℕ) → n + 0 ≡ n
zero-last n = omega arith

-- the next number
next-first : (n : ℕ) → suc n ≡ n + 1
next-first n = omega arith

-- of a range
pub counted-range : (test : ℕ → Bool) (n count new : ℕ) (b : Bool) → count ≡ count_by test (range_with_len 0 n) → b ≡ test n → new ≡ count + cond b 1 0
    → new ≡ count_by test (range_with_len 0 (n + 1))
counted-range test n count new b is tells more =
    more ∙ ap (λ (c : ℕ). c + cond b 1 0) is ∙ ap (λ (a : Bool). count_by test (range_with_len 0 n) + cond a 1 0) tells
    ∙ sym (counted-more test (range_with_len 0 n) n)
    ∙ ap (λ (x : ℕ). count_by test (range_with_len 0 n ++ x ∷ [])) (sym (zero-first n))
    ∙ sym (ap (count_by test) (range-more 0 n))
    ∙ ap (λ (m : ℕ). count_by test (range_with_len 0 m)) (next-first n)

-- of the first of a list
pub counted-list : (test : ℕ → Bool) (xs : List ℕ) (i count new : ℕ) (b : Bool) → i < length xs → count ≡ count_by test (take i xs) → b ≡ test (slice_index_or xs i 0)
    → new ≡ count + cond b 1 0 → new ≡ count_by test (take (i + 1) xs)
counted-list test xs i count new b below is tells more =
    more ∙ ap (λ (c : ℕ). c + cond b 1 0) is ∙ ap (λ (a : Bool). count_by test (take i xs) + cond a 1 0) tells
    ∙ sym (counted-more test (take i xs) (slice_index_or xs i 0))
    ∙ sym (ap (count_by test) (take_more xs i 0 below))

-- a number that passes, of a range
pub passed-range : (test : ℕ → Bool) (n count new : ℕ) → count ≡ count_by test (range_with_len 0 n) → test n ≡ true → new ≡ count + 1
    → new ≡ count_by test (range_with_len 0 (n + 1))
passed-range test n count new is passes more = counted-range test n count new true is (sym passes) more

-- and one that doesn't
pub failed-range : (test : ℕ → Bool) (n count new : ℕ) → count ≡ count_by test (range_with_len 0 n) → test n ≡ false → new ≡ count
    → new ≡ count_by test (range_with_len 0 (n + 1))
failed-range test n count new is fails more = counted-range test n count new false is (sym fails) (more ∙ sym (zero-last count))

-- a number that passes, of a list
pub passed-list : (test : ℕ → Bool) (xs : List ℕ) (i count new : ℕ) → i < length xs → count ≡ count_by test (take i xs) → test (slice_index_or xs i 0) ≡ true
    → new ≡ count + 1 → new ≡ count_by test (take (i + 1) xs)
passed-list test xs i count new below is passes more = counted-list test xs i count new true below is (sym passes) more

-- and one that doesn't
pub failed-list : (test : ℕ → Bool) (xs : List ℕ) (i count new : ℕ) → i < length xs → count ≡ count_by test (take i xs) → test (slice_index_or xs i 0) ≡ false
    → new ≡ count → new ≡ count_by test (take (i + 1) xs)
failed-list test xs i count new below is fails more = counted-list test xs i count new false below is (sym fails) (more ∙ sym (zero-last count))

-- no more are counted than there are numbers in the range
pub counted-few : (test : ℕ → Bool) (n : ℕ) → count_by test (range_with_len 0 n) ≤ n
counted-few test n = omega (arith, count_by-le-length test (range_with_len 0 n), length-range_with_len 0 n)

-- equality of numbers can be looked at from both sides
pub eq-flipped : (x y : ℕ) → nat_eq x y ≡ nat_eq y x
eq-flipped x y = elim (cases_eq x y) [
  | inl same ↦ eq-eqb x y same ∙ sym (eq-eqb y x (sym same))
  | inr differ ↦ ne_eqb x y differ ∙ sym (ne_eqb y x (λ e. differ (sym e)))
]

-- what a search finds is in the list
pub found-in : (xs : List ℕ) (p : ℕ) → list_any (λ y. nat_eq y p) xs ≡ is_in xs p
found-in [] p = refl
found-in (x ∷ xs) p = ap (λ (b : Bool). b || list_any (λ y. nat_eq y p) xs) (eq-flipped x p) ∙ ap (λ (b : Bool). nat_eq p x || b) (found-in xs p)

-- a set that was given whole leaves itself
pub leaves-all : (g : GadgetForm) (set left : List ℕ) → left ≡ set → (taken : List ℕ) × Leaves g taken set left
unfolding Leaves
leaves-all g set left same = ([], sym same)

-- a set that has too many shares in its rest isn't shown
pub not-shown : (g : GadgetForm) (set rest : List ℕ) (k shares most : ℕ) → IsRest g set rest → k < operands g.kind → shares ≡ shares_in g rest k → most ≡ inner g set
    → most < shares → IsShown g set → ⊥
not-shown g set rest k shares most is_rest below counts is more shown =
    let same : shown.0 ≡ rest = rest-unique g set shown.0 rest shown.1 is_rest in
    absurd (omega (arith, counts, is, more, ap (λ (r : List ℕ). shares_in g r k) same, shown.2 k below))

-- one operand more has few shares in the rest
pub few-more : (g : GadgetForm) (set rest : List ℕ) (k shares most : ℕ) → ((i : ℕ) → i < k → shares_in g rest i ≤ inner g set) → shares ≡ shares_in g rest k
    → most ≡ inner g set → shares ≤ most → (i : ℕ) → i < k + 1 → shares_in g rest i ≤ inner g set
few-more g set rest k shares most few counts is small i below = elim (cases_eq i k) [
  | inl same ↦ omega (arith, ap (shares_in g rest) same, counts, is, small)
  | inr differ ↦ few i (omega (arith, below, differ))
]
