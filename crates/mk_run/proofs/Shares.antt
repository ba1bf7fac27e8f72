-- Encodings of several secrets.
use Rattle.std.proofs.Common.{◌≡◌, ℕ, zero, suc, ◌+◌, ◌*◌, ◌-◌, ◌≤◌, List, [], ◌∷◌, ◌++◌, length, take, drop, refl, ap, ◌∙◌, subst, arith, append_assoc, length-append, length-drop, length-take-le, add-one, drop-cons, ◌<◌, All, slice_index, replicate}
use Rattle.std.proofs.lemmas.List.{take-take, drop-take}
use Rattle.mk_field.specs.declared.field.FieldId.{FieldId}
use Rattle.mk_field.specs.Field.{size, bits}
use Rattle.mk_field.specs.Sharing.{encoding, encodings}
use Rattle.mk_code.specs.Counting.{AllBelow, Elements}
use Rattle.mk_code.proofs.Totals.{AllBelow-drop, AllBelow-take, Elements-take}
use Rattle.mk_code.proofs.Steps.{All-below}
use Rattle.mk_code.proofs.Encodings.{Elements-encodings}

-- the encodings take so many elements, and no more of them matter
pub encodings-take : (order n : ℕ) (xs s : List ℕ) → length xs ≡ n → encodings order xs (take (order * n) s) ≡ encodings order xs s
unfolding encodings
encodings-take order n [] s count = refl
encodings-take order zero (x ∷ xs) s count = absurd (omega (arith, count))
encodings-take order (suc n) (x ∷ xs) s count =
    let more : order * suc n ≡ order + order * n = omega arith in
    ap (λ (k : ℕ). encodings order (x ∷ xs) (take k s)) more
    ∙ ap (λ (t : List ℕ). encoding x t ++ encodings order xs (drop order (take (order + order * n) s))) (take-take order (order + order * n) s (omega arith))
    ∙ ap (λ (t : List ℕ). encoding x (take order s) ++ encodings order xs t) (drop-take order (order * n) s)
    ∙ ap (λ (t : List ℕ). encoding x (take order s) ++ t) (encodings-take order n xs (drop order s) (omega (arith, count)))

-- encodings are elements
pub encodings-elements : (field : FieldId) (order n : ℕ) (xs s : List ℕ) → Elements (size field) n xs → Elements (size field) (length s) s
    → order * n ≤ length s → Elements (size field) (n * (order + 1)) (encodings order xs s)
encodings-elements field order n xs s secrets tape enough =
    let q = size field in
    let front : Elements q (order * n) (take (order * n) s) = Elements-take q (order * n) (length s - order * n) s (subst (λ (k : ℕ). Elements q k s) (omega (arith, enough)) tape) in
    subst (Elements q (n * (order + 1))) (encodings-take order n xs s secrets.count) (Elements-encodings (bits field) order n xs (take (order * n) s) secrets front)

-- encodings so far, where those of the secrets that are left make the whole: there are elements and room for them
pub record Pushing (q n room : ℕ) (whole left rest shares : List ℕ) : Type 0 where
  pub all : shares ++ encodings (n - 1) left rest ≡ whole
  pub secrets : AllBelow q left
  pub tape : AllBelow q rest
  pub enough : (n - 1) * length left ≤ length rest
  pub fits : length shares + length left * n ≤ room

-- the elements for the first secret that is left
pub pushing-count : (q n room x : ℕ) (whole left rest shares : List ℕ) → 2 ≤ n → Pushing q n room whole (x ∷ left) rest shares
    → length (take (n - 1) rest) ≡ n - 1
pushing-count q n room x whole left rest shares least p =
    let some : n - 1 + (n - 1) * length left ≤ length rest = omega (arith, p.enough) in
    length-take-le (n - 1) rest (omega (arith, some))

-- the first secret that is left can be encoded, and there is room for it
pub pushing-first : (q n room x : ℕ) (whole left rest shares : List ℕ) → 2 ≤ n → Pushing q n room whole (x ∷ left) rest shares
    → (x < q) × (length (take (n - 1) rest) + 1 ≡ n) × All (λ a. a < q) (take (n - 1) rest) × (length shares + n ≤ room)
unfolding AllBelow
pushing-first q n room x whole left rest shares least p =
    let count : length (take (n - 1) rest) ≡ n - 1 = pushing-count q n room x whole left rest shares least p in
    let fits : length shares + (n + length left * n) ≤ room = omega (arith, p.fits) in
    (p.secrets.0, omega (arith, count, least), All-below q (take (n - 1) rest) (AllBelow-take q (n - 1) rest p.tape), omega (arith, fits))

-- the first of those that are left
pub pushing-here : (q n room i : ℕ) (whole secrets rest shares : List ℕ) → i < length secrets → Pushing q n room whole (drop i secrets) rest shares
    → Pushing q n room whole (slice_index secrets i ∷ drop (i + 1) secrets) rest shares
pushing-here q n room i whole secrets rest shares below =
    subst (λ (left : List ℕ). Pushing q n room whole left rest shares) (rw (add-one, drop-cons secrets i 0) refl)

-- one encoding further
pub pushing-next : (q n room x : ℕ) (whole left rest shares : List ℕ) → 2 ≤ n → Pushing q n room whole (x ∷ left) rest shares
    → Pushing q n room whole left (drop (n - 1) rest) (shares ++ encoding x (take (n - 1) rest))
unfolding encodings AllBelow
pushing-next q n room x whole left rest shares least p =
    let some : n - 1 + (n - 1) * length left ≤ length rest = omega (arith, p.enough) in
    let count : length (take (n - 1) rest) ≡ n - 1 = pushing-count q n room x whole left rest shares least p in
    let behind : length (drop (n - 1) rest) ≡ length rest - (n - 1) = length-drop (n - 1) rest in
    let long : length (shares ++ encoding x (take (n - 1) rest)) ≡ length shares + suc (length (take (n - 1) rest)) = length-append shares (encoding x (take (n - 1) rest)) in
    let fits : length shares + (n + length left * n) ≤ room = omega (arith, p.fits) in
    record {
      all = append_assoc shares (encoding x (take (n - 1) rest)) (encodings (n - 1) left (drop (n - 1) rest)) ∙ p.all;
      secrets = p.secrets.1;
      tape = AllBelow-drop q (n - 1) rest p.tape;
      enough = omega (arith, some, behind);
      fits = omega (arith, long, count, fits, least);
    }

-- zeros are elements
pub AllBelow-zeros : (q n : ℕ) → 0 < q → AllBelow q (replicate n 0)
unfolding AllBelow
AllBelow-zeros q zero some = tt
AllBelow-zeros q (suc n) some = (some, AllBelow-zeros q n some)

-- they are as many as they are
pub Elements-of : (q : ℕ) (xs : List ℕ) → AllBelow q xs → Elements q (length xs) xs
Elements-of q xs below = record { count = refl; below = below }
