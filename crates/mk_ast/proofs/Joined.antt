-- Texts with separators between.
use Rattle.std.proofs.Common.{◌≡◌, ℕ, zero, suc, ◌+◌, ◌<◌, cond, eqb, List, [], ◌∷◌, ◌++◌, length, take, get_or, map, flat_map, refl, sym, ap, ◌∙◌, arith, append_assoc, add-one, codes}
use Rattle.std.proofs.lemmas.List.{append-nil, take_more}
use Rattle.std.proofs.lemmas.Grind.{flat_map-append}
use Rattle.std.proofs.Math.Dec.{eqb-suc-zero}
use Rattle.mk_ast.specs.Canonical.{joined, ended, indent, laid}

-- a function after a function, element by element
pub map_map : {A B C : Type 0} (g : B → C) (f : A → B) (xs : List A) → map g (map f xs) ≡ map (λ x. g (f x)) xs
map_map g f [] = refl
map_map g f (x ∷ xs) = ap (λ ys. g (f x) ∷ ys) (map_map g f xs)

-- what stands before the next text
abbrev pub between : {A : Type 0} → List ℕ → List A → List ℕ
between separator [] = []
between separator (x ∷ xs) = separator

-- one more text at the end
joined_push : {A : Type 0} (separator : List ℕ) (f : A → List ℕ) (xs : List A) (x : A) →
    joined separator (map f (xs ++ x ∷ [])) ≡ joined separator (map f xs) ++ (between separator xs ++ f x)
joined_push separator f [] x = append-nil (f x)
joined_push separator f (y ∷ ys) x = ap (λ t. f y ++ t) (more ys) ∙ sym (append_assoc (f y) _ _)
  where
    more : (zs : List _) → flat_map (λ next. separator ++ next) (map f (zs ++ x ∷ [])) ≡ flat_map (λ next. separator ++ next) (map f zs) ++ (separator ++ f x)
    more [] = append-nil (separator ++ f x)
    more (z ∷ zs) = ap (λ t. (separator ++ f z) ++ t) (more zs) ∙ sym (append_assoc (separator ++ f z) _ _)

-- the separator before number i, of the texts before it
between_take : {A : Type 0} (separator : List ℕ) (xs : List A) (i : ℕ) → i < length xs →
    between separator (take i xs) ≡ cond (eqb i 0) [] separator
between_take separator xs zero lt = refl
between_take separator [] (suc i) lt = absurd (omega arith)
between_take separator (x ∷ xs) (suc i) lt = sym (ap (λ b. cond b [] separator) (eqb-suc-zero i))

-- the step of a loop over the parts
pub joined_more : {A : Type 0} (old between_them more : List ℕ) (separator : List ℕ) (f : A → List ℕ) (xs : List A) (i : ℕ) (d : A) →
    i < length xs → between_them ≡ cond (eqb i 0) [] separator → more ≡ f (get_or xs i d) →
    ((old ++ joined separator (map f (take i xs))) ++ between_them) ++ more ≡ old ++ joined separator (map f (take (i + 1) xs))
joined_more old between_them more separator f xs i d lt e is =
    append_assoc (old ++ joined separator (map f (take i xs))) between_them more
    ∙ append_assoc old _ _
    ∙ ap (λ t. old ++ t)
    (ap (λ t. joined separator (map f (take i xs)) ++ t) (ap (λ b. b ++ more) (e ∙ sym (between_take separator xs i lt)) ∙ ap (λ t. between separator (take i xs) ++ t) is)
    ∙ sym (joined_push separator f (take i xs) (get_or xs i d))
    ∙ ap (λ t. joined separator (map f t)) (sym (take_more xs i d lt)))

-- two more spaces, in front or at the end
indent_end : (loops : ℕ) → indent (suc loops) ≡ indent loops ++ codes "  "
indent_end zero = refl
indent_end (suc loops) = ap (λ t. codes "  " ++ t) (indent_end loops)

-- an indent that gets two more spaces is that of one more loop
pub indent_more : (old : List ℕ) (loops : ℕ) → (old ++ indent loops) ++ codes "  " ≡ old ++ indent (loops + 1)
indent_more old loops =
    append_assoc old (indent loops) (codes "  ") ∙ ap (λ t. old ++ t) (sym (indent_end loops) ∙ ap indent (sym (add-one loops)))

-- the lines of a body, with two more spaces in front of each
pub laid_in : (loops : ℕ) (lines : List (List ℕ)) → laid loops (map (λ line. codes "  " ++ line) lines) ≡ laid (loops + 1) lines
laid_in loops [] = refl
laid_in loops (line ∷ lines) = λ i. first i ++ laid_in loops lines i
  where
    first : indent loops ++ ended (codes "  " ++ line) ≡ indent (loops + 1) ++ ended line
    first = sym (append_assoc (indent loops) (codes "  ") (ended line)) ∙ ap (λ t. t ++ ended line) (sym (indent_end loops) ∙ ap indent (sym (add-one loops)))

-- lines, and then lines
pub laid-append : (loops : ℕ) (front back : List (List ℕ)) → laid loops (front ++ back) ≡ laid loops front ++ laid loops back
laid-append loops front back = flat_map-append (λ line. indent loops ++ ended line) front back

-- five texts, one after the other
pub five_appended : (old t1 t2 t3 t4 t5 a b c d e : List ℕ) → t1 ≡ old ++ a → t2 ≡ t1 ++ b → t3 ≡ t2 ++ c → t4 ≡ t3 ++ d → t5 ≡ t4 ++ e →
    t5 ≡ old ++ (a ++ (b ++ (c ++ (d ++ e))))
five_appended old t1 t2 t3 t4 t5 a b c d e is1 is2 is3 is4 is5 =
    let whole : t5 ≡ ((((old ++ a) ++ b) ++ c) ++ d) ++ e = cc in
    whole ∙ simp append_assoc
