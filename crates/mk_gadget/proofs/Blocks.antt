-- Lists made of blocks of one length, and runs that go on block by block.
use Rattle.std.proofs.Common.{arith, ◌≡◌, ℕ, zero, suc, ◌+◌, ◌-◌, ◌*◌, ◌<◌, List, [], ◌∷◌, ◌++◌, length, map, drop, get_or, slice_index, inl, inr, refl, sym, ◌∙◌, ap, subst, append_assoc, append-nil}
use Rattle.std.specs.List.{flat_map}
use Rattle.std.proofs.lemmas.List.{length-append, get_or_append_left, get_or-append-add, get_or-append_right, map-append}
use Rattle.std.proofs.lemmas.Bool.{cases_lt}
use Rattle.std.proofs.lemmas.List.Concat.{flat_map-append}
use Rattle.mk_field.specs.declared.field.FieldId.{FieldId}
use Rattle.mk_field.specs.declared.map.AddMap.{AddMap}
use Rattle.mk_code.specs.declared.instr.Instr.{Instr}
use Rattle.mk_code.specs.Listing.{AllFit}
use Rattle.mk_code.specs.Trace.{run, randoms, takes, entry}
use Rattle.mk_code.proofs.Runs.{randoms-append}

-- how long blocks of one length are together
pub length-blocks : {X A : Type 0} (f : X → List A) (w : ℕ) (e : X) (xs : List X) → ((k : ℕ) → k < length xs → length (f (get_or xs k e)) ≡ w)
    → length (flat_map f xs) ≡ w * length xs
length-blocks f w e [] each = omega arith
length-blocks f w e (x ∷ xs) each =
    omega (arith, length-append (f x) (flat_map f xs), each 0 (omega arith), length-blocks f w e xs (λ k below. each (suc k) (omega (arith, below))))

-- what stands at position t of block k
pub blocks-at : {X A : Type 0} (f : X → List A) (w : ℕ) (e : X) (d : A) (xs : List X) (k t : ℕ) → ((k : ℕ) → k < length xs → length (f (get_or xs k e)) ≡ w)
    → k < length xs → t < w → get_or (flat_map f xs) (w * k + t) d ≡ get_or (f (get_or xs k e)) t d
blocks-at f w e d [] k t each below within = absurd (omega (arith, below))
blocks-at f w e d (x ∷ xs) zero t each below within =
    let here : w * 0 + t ≡ t = omega arith in
    ap (λ (p : ℕ). get_or (f x ++ flat_map f xs) p d) here
    ∙ get_or_append_left (f x) (flat_map f xs) d t (omega (arith, within, each 0 (omega arith)))
blocks-at f w e d (x ∷ xs) (suc k) t each below within =
    let here : w * suc k + t ≡ length (f x) + (w * k + t) = omega (arith, each 0 (omega arith)) in
    ap (λ (p : ℕ). get_or (f x ++ flat_map f xs) p d) here
    ∙ get_or-append-add (f x) (flat_map f xs) (w * k + t) d
    ∙ blocks-at f w e d xs k t (λ l low. each (suc l) (omega (arith, low))) (omega (arith, below)) within

-- one block more
pub blocks-more : {X A : Type 0} (f : X → List A) (xs : List X) (x : X) → flat_map f (xs ++ x ∷ []) ≡ flat_map f xs ++ f x
blocks-more f xs x = flat_map-append f xs (x ∷ []) ∙ ap (λ (ys : List _). flat_map f xs ++ ys) (append-nil (f x))

-- its images
pub map-blocks-more : {X A B : Type 0} (g : A → B) (f : X → List A) (xs : List X) (x : X)
    → map g (flat_map f (xs ++ x ∷ [])) ≡ map g (flat_map f xs) ++ map g (f x)
map-blocks-more g f xs x = ap (map g) (blocks-more f xs x) ∙ map-append g (flat_map f xs) (f x)

-- what stands before
pub old : (entries more : List ℕ) (position : ℕ) → position < length entries → slice_index (entries ++ more) position ≡ slice_index entries position
old entries more position within = get_or_append_left entries more 0 position within

-- what stands behind
pub own : (entries more : List ℕ) (position at : ℕ) → position ≡ length entries + at → slice_index (entries ++ more) position ≡ slice_index more at
own entries more position at e = ap (slice_index (entries ++ more)) e ∙ get_or-append-add entries more at 0

-- the next instruction
pub run-next : (field : FieldId) (maps : List AddMap) (i : Instr) (is : List Instr) (tape entries more : List ℕ) (value : ℕ)
    → entry field maps i (slice_index tape 0) (entries ++ more) ≡ value
    → run field maps (i ∷ is) tape (entries ++ more) ≡ run field maps is (drop (takes i) tape) (entries ++ (more ++ value ∷ []))
unfolding run
run-next field maps i is tape entries more value e =
    ap (λ (v : ℕ). run field maps is (drop (takes i) tape) ((entries ++ more) ++ v ∷ [])) e
    ∙ ap (run field maps is (drop (takes i) tape)) (append_assoc entries more (value ∷ []))

-- no instruction
pub run-done : (field : FieldId) (maps : List AddMap) (tape entries : List ℕ) → run field maps [] tape entries ≡ entries
unfolding run
run-done field maps tape entries = refl

-- blocks that take one random element each
pub randoms-blocks : {X : Type 0} (f : X → List Instr) (w : ℕ) → ((x : X) → randoms (f x) ≡ w) → (xs : List X) → randoms (flat_map f xs) ≡ w * length xs
unfolding randoms
randoms-blocks f w each [] = omega arith
randoms-blocks f w each (x ∷ xs) = omega (arith, randoms-append (f x) (flat_map f xs), each x, randoms-blocks f w each xs)

-- some instructions fit, and others behind them
pub AllFit-append : (field : FieldId) (maps len : ℕ) (first second : List Instr) → AllFit field maps len first → AllFit field maps (len + length first) second
    → AllFit field maps len (first ++ second)
AllFit-append field maps len [] second before behind = subst (λ (k : ℕ). AllFit field maps k second) (omega arith) behind
AllFit-append field maps len (i ∷ is) second before behind =
    (before.0, AllFit-append field maps (len + 1) is second before.1 (subst (λ (k : ℕ). AllFit field maps k second) (omega arith) behind))

-- each element of a list, by its index
abbrev pub Each : {X : Type 0} → (X → Type 0) → X → List X → Type 0
Each P d xs = (k : ℕ) → k < length xs → P (get_or xs k d)

-- of no element
pub each-none : {X : Type 0} (P : X → Type 0) (d : X) → Each P d []
each-none P d k below = absurd (omega (arith, below))

-- of an element and the rest
pub each-cons : {X : Type 0} (P : X → Type 0) (d x : X) (xs : List X) → P x → Each P d xs → Each P d (x ∷ xs)
each-cons P d x xs first rest zero below = first
each-cons P d x xs first rest (suc k) below = rest k (omega (arith, below))

-- of two lists
pub each-append : {X : Type 0} (P : X → Type 0) (d : X) (xs ys : List X) → Each P d xs → Each P d ys → Each P d (xs ++ ys)
each-append P d xs ys first second k below = elim (cases_lt k (length xs)) [
  | inl less ↦ subst P (sym (get_or_append_left xs ys d k less)) (first k less)
  | inr more ↦
      subst P (sym (get_or-append_right xs ys (length xs) k d refl more)) (second (k - length xs) (omega (arith, below, more, length-append xs ys)))
]
