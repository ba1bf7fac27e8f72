-- Loops read one thing after the other, as the definitions do.
use Rattle.std.proofs.Common.{◌≡◌, ◌≢◌, ℕ, suc, ◌+◌, ◌-◌, ◌<◌, ◌≤◌, true, false, List, [], ◌∷◌, ◌++◌, length, take, drop, get_or, Option, Some, None, nat_lt, refl, sym, ap, ◌∙◌, arith, append_assoc, add-one, drop-cons, drop_of_length-le}
use Rattle.std.specs.Prelude.{codes}
use Rattle.std.proofs.lemmas.Bool.{lt-ltb, le-ltb, eq-eqb, ne_eqb}
use Rattle.std.proofs.lemmas.List.{append-nil}
use Rattle.std.proofs.Math.Seq.{take-length}
use Rattle.mk_lines.specs.Parsing.{◌>>=◌, after, whole, number_at, hex_at, images_at, positions_of}

-- ---- fronts

-- what stands behind the first byte
pub behind_first : (b : ℕ) (bs : List ℕ) → take (length (b ∷ bs) - 1) (drop 1 (b ∷ bs)) ≡ bs
behind_first b bs =
    let all : length (b ∷ bs) - 1 ≡ length bs = omega arith in
    ap (λ (n : ℕ). take n bs) all ∙ take-length bs

-- behind the first of those that are left are those that are left behind it
pub behind_left : (bytes rest : List ℕ) (i : ℕ) → i < length bytes → rest ≡ drop i bytes → take (length rest - 1) (drop 1 rest) ≡ drop (i + 1) bytes
behind_left bytes rest i lt is =
    let front : drop i bytes ≡ get_or bytes i 0 ∷ drop (i + 1) bytes = rw add-one (drop-cons bytes i 0 lt) in
    rw (is, front) (behind_first (get_or bytes i 0) (drop (i + 1) bytes))

-- ---- words

-- a letter that stands at the front is passed
pub after_more : (word bytes : List ℕ) (i : ℕ) (total : Option (List ℕ)) → i < length word → 0 < length bytes → get_or word i 0 ≡ get_or bytes 0 0
    → after (drop i word) bytes ≡ total → after (drop (i + 1) word) (take (length bytes - 1) (drop 1 bytes)) ≡ total
unfolding after
after_more word [] i total lt some is so_far = absurd (omega (arith, some))
after_more word (b ∷ bs) i total lt some is so_far =
    let front : drop i word ≡ b ∷ drop (i + 1) word = rw add-one (drop-cons word i 0 lt) ∙ ap (λ (w : ℕ). w ∷ drop (i + 1) word) is in
    let one : after (drop i word) (b ∷ bs) ≡ after (drop (i + 1) word) bs = rw (front, eq-eqb b b refl) refl in
    rw (behind_first b bs) (sym one ∙ so_far)

-- another letter stands at the front, or none
pub after_other : (word bytes : List ℕ) (i : ℕ) (total : Option (List ℕ)) → i < length word → (0 < length bytes → get_or word i 0 ≢ get_or bytes 0 0)
    → after (drop i word) bytes ≡ total → total ≡ None
unfolding after
after_other word [] i total lt isnt so_far =
    let front : drop i word ≡ get_or word i 0 ∷ drop (i + 1) word = rw add-one (drop-cons word i 0 lt) in
    let one : after (drop i word) [] ≡ None = rw front refl in
    sym so_far ∙ one
after_other word (b ∷ bs) i total lt isnt so_far =
    let front : drop i word ≡ get_or word i 0 ∷ drop (i + 1) word = rw add-one (drop-cons word i 0 lt) in
    let one : after (drop i word) (b ∷ bs) ≡ None = rw (front, ne_eqb (get_or word i 0) b (isnt (omega arith))) refl in
    sym so_far ∙ one

-- all letters were passed
pub after_done : (word rest : List ℕ) (i : ℕ) (total : Option (List ℕ)) → length word ≤ i → after (drop i word) rest ≡ total → total ≡ Some rest
unfolding after
after_done word rest i total all so_far =
    let one : after (drop i word) rest ≡ Some rest = rw (drop_of_length-le word all) refl in
    sym so_far ∙ one

-- ---- images

-- images that were read and what stands behind them, or none where something else stood there
abbrev pub Images : Type 0
Images = Option (List ℕ × List ℕ)

-- images that were read before
abbrev pub fronted : List ℕ → List ℕ × List ℕ → Images
fronted front x = Some (front ++ x.0, x.1)

-- one image more is put to those in front, and all give what they gave before
pub image_more : (front : List ℕ) (n m : ℕ) (rest behind : List ℕ) (image : ℕ) (total : Images) → n ≡ suc m → hex_at rest ≡ Some (image, behind)
    → (images_at n rest >>= fronted front) ≡ total → (images_at m behind >>= fronted (front ++ image ∷ [])) ≡ total
unfolding images_at
image_more front n m rest behind image total more e so_far =
    let one : (images_at n rest >>= fronted front) ≡ (images_at m behind >>= fronted (front ++ image ∷ [])) = rw (more, e) (by (images_at m behind)) in
    sym one ∙ so_far
  where
    by : (o : Images) → ((o >>= fronted (image ∷ [])) >>= fronted front) ≡ (o >>= fronted (front ++ image ∷ []))
    by (Some y) = ap (λ (all : List ℕ). Some (all, y.1)) (sym (append_assoc front (image ∷ []) y.0))
    by None = refl

-- where no image stands though one is missing, all bytes give no images
pub image_stops : (front : List ℕ) (n m : ℕ) (rest : List ℕ) (total : Images) → n ≡ suc m → hex_at rest ≡ None
    → (images_at n rest >>= fronted front) ≡ total → total ≡ None
unfolding images_at
image_stops front n m rest total more e so_far =
    let one : (images_at n rest >>= fronted front) ≡ None = rw (more, e) refl in
    sym so_far ∙ one

-- where no image is missing, all bytes give those in front
pub images_done : (front : List ℕ) (n : ℕ) (rest : List ℕ) (total : Images) → n ≡ 0
    → (images_at n rest >>= fronted front) ≡ total → total ≡ Some (front, rest)
unfolding images_at
images_done front n rest total none so_far =
    let one : (images_at n rest >>= fronted front) ≡ Some (front, rest) = rw none (ap (λ (all : List ℕ). Some (all, rest)) (append-nil front)) in
    sym so_far ∙ one

-- ---- positions

-- the n positions that the rest gives, behind those in front, are what all bytes give
abbrev pub Placed : List ℕ → ℕ → ℕ → List ℕ → Option (List ℕ) → Type 0
Placed front n len rest total = (positions_of n len rest >>= λ ps. Some (front ++ ps)) ≡ total

-- one position more is put to those in front, and all give what they gave before
pub position_more : (front : List ℕ) (n m len : ℕ) (rest word behind : List ℕ) (position : ℕ) (total : Option (List ℕ)) → n ≡ suc m → after (codes " ") rest ≡ Some word → number_at word ≡ Some (position, behind) → position < len
    → Placed front n len rest total → Placed (front ++ position ∷ []) m len behind total
unfolding positions_of
position_more front n m len rest word behind position total more e f low so_far =
    let below : nat_lt position len ≡ true = lt-ltb position len low in
    let one : (positions_of n len rest >>= λ ps. Some (front ++ ps)) ≡ (positions_of m len behind >>= λ ps. Some ((front ++ position ∷ []) ++ ps)) = rw (more, e, f, below) (by (positions_of m len behind)) in
    sym one ∙ so_far
  where
    by : (o : Option (List ℕ)) → ((o >>= λ y. Some (position ∷ y)) >>= λ ps. Some (front ++ ps)) ≡ (o >>= λ ps. Some ((front ++ position ∷ []) ++ ps))
    by (Some y) = ap (λ (all : List ℕ). Some all) (sym (append_assoc front (position ∷ []) y))
    by None = refl

-- where no space stands though a position is missing, all bytes give no positions
pub position_no_space : (front : List ℕ) (n m len : ℕ) (rest : List ℕ) (total : Option (List ℕ)) → n ≡ suc m → after (codes " ") rest ≡ None → Placed front n len rest total → total ≡ None
unfolding positions_of
position_no_space front n m len rest total more e so_far =
    let one : (positions_of n len rest >>= λ ps. Some (front ++ ps)) ≡ None = rw (more, e) refl in
    sym so_far ∙ one

-- where no number stands behind the space, all bytes give no positions
pub position_no_number : (front : List ℕ) (n m len : ℕ) (rest word : List ℕ) (total : Option (List ℕ)) → n ≡ suc m → after (codes " ") rest ≡ Some word → number_at word ≡ None → Placed front n len rest total → total ≡ None
unfolding positions_of
position_no_number front n m len rest word total more e f so_far =
    let one : (positions_of n len rest >>= λ ps. Some (front ++ ps)) ≡ None = rw (more, e, f) refl in
    sym so_far ∙ one

-- where the position is not below the length, all bytes give no positions
pub position_high : (front : List ℕ) (n m len : ℕ) (rest word behind : List ℕ) (position : ℕ) (total : Option (List ℕ)) → n ≡ suc m → after (codes " ") rest ≡ Some word → number_at word ≡ Some (position, behind) → len ≤ position
    → Placed front n len rest total → total ≡ None
unfolding positions_of
position_high front n m len rest word behind position total more e f high so_far =
    let below : nat_lt position len ≡ false = le-ltb position len high in
    let one : (positions_of n len rest >>= λ ps. Some (front ++ ps)) ≡ None = rw (more, e, f, below) refl in
    sym so_far ∙ one

-- where no position is missing and nothing is left, all bytes give those in front
pub positions_done : (front : List ℕ) (n len : ℕ) (rest : List ℕ) (total : Option (List ℕ)) → n ≡ 0 → rest ≡ [] → Placed front n len rest total → total ≡ Some front
unfolding positions_of whole
positions_done front n len rest total none ended so_far =
    let one : (positions_of n len rest >>= λ ps. Some (front ++ ps)) ≡ Some front = rw (none, ended) (ap (λ (all : List ℕ). Some all) (append-nil front)) in
    sym so_far ∙ one

-- where no position is missing and something is left, all bytes give no positions
pub positions_behind : (front : List ℕ) (n len : ℕ) (rest : List ℕ) (total : Option (List ℕ)) → n ≡ 0 → rest ≢ [] → Placed front n len rest total → total ≡ None
unfolding positions_of whole
positions_behind front n len [] total none ended so_far = absurd (ended refl)
positions_behind front n len (b ∷ bs) total none ended so_far =
    let one : (positions_of n len (b ∷ bs) >>= λ ps. Some (front ++ ps)) ≡ None = rw none (rw (le-ltb (suc (length bs)) 1 (omega arith)) refl) in
    sym so_far ∙ one
