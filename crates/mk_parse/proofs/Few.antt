-- A text of at most 1,048,576 bytes declares at most 32,768 maps of eight images.
use Rattle.std.proofs.Common.{◌≡◌, ℕ, ◌+◌, ◌*◌, ◌≤◌, ◌==◌, Bool, true, false, cond, List, [], ◌∷◌, ◌++◌, length, count_by, refl, ap, arith, inl, inr, length-append}
use Rattle.std.proofs.lemmas.Bool.Decides.{Decides-eqb}
use Rattle.std.proofs.lemmas.List.Sums.{sum_by-cons}
use Rattle.std.specs.Prelude.{codes}
use Rattle.mk_base.specs.declared.Place.{Place}
use Rattle.mk_ast.specs.declared.tree.Program.{Program}
use Rattle.mk_ast.specs.declared.tree.Decl.{Decl}
use Rattle.mk_ast.specs.declared.tree.What.{What}
use Rattle.mk_ast.specs.declared.tree.What.TheVariants as what
use Rattle.mk_ast.specs.Tokens.{Token, BeginsWith}
use Rattle.mk_ast.specs.Phrases.{Phrase, made, after, many, separated}
use Rattle.mk_ast.specs.Grammar.{element, declaration, map_declaration}
use Rattle.mk_ast.specs.Spells.{Spells}
use Rattle.mk_parse.specs.Parsed.{images_with, maps_of, has_eight, FewMaps}

-- the bytes of tokens
bytes : List Token → ℕ
bytes [] = 0
bytes (t ∷ ts) = length t.text + bytes ts

-- two lists of tokens have the bytes of both
bytes_append : (ts us : List Token) → bytes (ts ++ us) ≡ bytes ts + bytes us
unfolding bytes
bytes_append [] us = omega arith
bytes_append (t ∷ ts) us = omega (arith, bytes_append ts us)

-- tokens have no more bytes than the text
bytes_fit : (text left : List ℕ) (ts : List Token) (rest : List ℕ) → BeginsWith text left ts rest → bytes ts ≤ length left
unfolding bytes
bytes_fit text left [] rest h = omega arith
bytes_fit text left (t ∷ ts) rest h =
    omega (arith, bytes_fit text h.0 ts rest h.2, ap length h.1.parts, length-append h.1.gap (t.text ++ h.0), length-append t.text h.0)

-- an element of a map
abbrev image : Phrase ℕ
image = made (λ (x : ℕ × Place). x.0) element

-- its token has four bytes
image_bytes : (ts : List Token) (v : ℕ) → image ts v → 4 ≤ bytes ts
unfolding bytes
image_bytes ts v h =
    let t = h.1.0 in
    let four : length t.text ≡ 4 = ap length h.1.2.0.4 in
    omega (arith, ap bytes h.1.1, four)

-- so has each of those behind commas
images_bytes : (ts : List Token) (vs : List ℕ) → many (after (codes ",") image) ts vs → 4 * length vs ≤ bytes ts
unfolding bytes
images_bytes ts [] h = omega arith
images_bytes ts (v ∷ vs) h =
    let one = image_bytes h.3.1 v h.3.4 in
    let others = images_bytes h.1 vs h.4 in
    omega (arith, one, others, ap bytes h.2, bytes_append h.0 h.1, ap bytes h.3.2)

-- and so each of all of them
all_images_bytes : (ts : List Token) (vs : List ℕ) → separated (codes ",") image ts vs → 4 * length vs ≤ bytes ts
unfolding bytes
all_images_bytes ts vs h =
    let one = image_bytes h.1.0 h.0.0 h.1.3 in
    let others = images_bytes h.1.1 h.0.1 h.1.4 in
    omega (arith, one, others, ap bytes h.1.2, bytes_append h.1.0 h.1.1, ap length h.2)

-- how many images there are in all
counted : List (List ℕ) → ℕ
counted [] = 0
counted (images ∷ others) = length images + counted others

-- a map that is counted has eight images
counts_eight : (n : ℕ) (b : Bool) → n == 8 ≡ b → 8 * cond b 1 0 ≤ n
counts_eight n true e = omega (arith, (Decides-eqb n 8).0 e)
counts_eight n false e = omega arith

-- there are at least eight times as many images as maps that are counted
counted_eight : (maps : List (List ℕ)) → 8 * count_by has_eight maps ≤ counted maps
unfolding counted
counted_eight [] = omega arith
counted_eight (images ∷ others) =
    let more = sum_by-cons (λ images. cond (has_eight images) 1 0) images others in
    omega (arith, more, counts_eight (length images) (has_eight images) refl, counted_eight others)

-- the images of one declaration
declared : What → ℕ
declared w = counted (images_with w [])

-- the images of one more declaration
declared_more : (w : What) (others : List (List ℕ)) → counted (images_with w others) ≡ declared w + counted others
unfolding counted declared
declared_more (what.Map images) others = omega arith
declared_more (what.Var class size) others = omega arith

-- the tokens of a map have four bytes for each image
map_bytes : (ts : List Token) (d : Decl) → map_declaration ts d → 4 * declared d.what ≤ bytes ts
unfolding bytes counted declared
map_bytes ts d (x, (t, rest, head, is_map, (front, back, parts, is_name, (u, inside, equals, is_equals, (values, last, closed, is_closed, images)))), is) =
    let four = all_images_bytes values x.1 images in
    let same : declared d.what ≡ length x.1 + 0 = ap (λ (d : Decl). counted (images_with d.what [])) is in
    omega (arith, four, same, ap bytes head, ap bytes parts, bytes_append front back, ap bytes equals, ap bytes closed, bytes_append values (last ∷ []))

-- so have those of any declaration
declaration_bytes : (ts : List Token) (d : Decl) → declaration ts d → 4 * declared d.what ≤ bytes ts
unfolding counted declared
declaration_bytes ts d (inl h) = map_bytes ts d h
declaration_bytes ts d (inr h) = let none : declared d.what ≡ 0 = ap (λ (d : Decl). counted (images_with d.what [])) h.2 in omega (arith, none)

-- and those of a list of declarations
declarations_bytes : (ts : List Token) (ds : List Decl) → many declaration ts ds → 4 * counted (maps_of ds) ≤ bytes ts
unfolding counted
declarations_bytes ts [] h = omega arith
declarations_bytes ts (d ∷ ds) h =
    let one = declaration_bytes h.0 d h.3 in
    let others = declarations_bytes h.1 ds h.4 in
    omega (arith, one, others, declared_more d.what (maps_of ds), ap bytes h.2, bytes_append h.0 h.1)

-- each map of eight images takes 32 bytes for these alone
pub few_maps : (p : Program) (text : List ℕ) → Spells p text → length text ≤ 1048576 → FewMaps p
few_maps p text (tokens, (rest, begins, last), (x, (front, back, parts, head, (decls, body, split, declared_so, stated)), is)) short =
    let some = declarations_bytes decls x.1.0 declared_so in
    let eight = counted_eight (maps_of p.decls) in
    let same : counted (maps_of p.decls) ≡ counted (maps_of x.1.0) = ap (λ (q : Program). counted (maps_of q.decls)) is in
    omega (arith, some, eight, same, bytes_fit text text tokens rest begins, ap bytes parts, bytes_append front back, ap bytes split, bytes_append decls body, short)
