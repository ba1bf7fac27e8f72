-- Texts as lines, and what lines they begin with, for the texts of any form.
use Rattle.std.proofs.Common.{◌≡◌, ℕ, ◌+◌, ◌≤◌, true, List, [], ◌∷◌, ◌++◌, length, take, drop, refl, sym, ap, subst, ◌∙◌, arith, append_assoc, length-append}
use Rattle.std.specs.Prelude.{flat_map}
use Rattle.std.specs.List.{AllByRecursion}
use Rattle.std.proofs.lemmas.List.{append-nil, take-append-drop, length-take-le}
use Rattle.std.proofs.lemmas.Grind.{flat_map-append}
use Rattle.mk_lines.specs.Words.{line, is_line}
use Rattle.mk_lines.specs.Lines.{AreLines, BeginsWith, GoesWellFor}
use Rattle.mk_lines.proofs.Feeds.{first_line}

-- what holds of all of two lists holds of all of them together
pub All-append : {A : Type 0} (P : A → Type 0) (xs ys : List A) → AllByRecursion P xs → AllByRecursion P ys → AllByRecursion P (xs ++ ys)
All-append P [] ys all more = more
All-append P (x ∷ xs) ys all more = (all.0, All-append P xs ys all.1 more)

-- what holds of all of two lists together holds of all of the first
pub All-front : {A : Type 0} (P : A → Type 0) (xs ys : List A) → AllByRecursion P (xs ++ ys) → AllByRecursion P xs
All-front P [] ys all = tt
All-front P (x ∷ xs) ys all = (all.0, All-front P xs ys all.1)

-- what holds of all of two lists together holds of all of the second
pub All-back : {A : Type 0} (P : A → Type 0) (xs ys : List A) → AllByRecursion P (xs ++ ys) → AllByRecursion P ys
All-back P [] ys all = all
All-back P (x ∷ xs) ys all = All-back P xs ys all.1

-- the bytes of lines begin with the first of them and its line feed
pub joined : (l : List ℕ) (lines : List (List ℕ)) (rest : List ℕ) → flat_map line (l ∷ lines) ++ rest ≡ l ++ 10 ∷ (flat_map line lines ++ rest)
joined l lines rest = append_assoc (line l) (flat_map line lines) rest ∙ append_assoc l (10 ∷ []) (flat_map line lines ++ rest)

-- bytes in which a line feed stands are some
pub not_nil : (l rest : List ℕ) → [] ≡ l ++ 10 ∷ rest → ⊥
not_nil [] rest e = absurd cc
not_nil (b ∷ l) rest e = absurd cc

-- lines that begin with other lines
pub prefix_lines : (lines whole : List (List ℕ)) (rest : List ℕ) → AreLines lines → AreLines whole → flat_map line whole ≡ flat_map line lines ++ rest → (more : List (List ℕ)) × (whole ≡ lines ++ more) × (rest ≡ flat_map line more)
prefix_lines [] whole rest clean clean_whole e = (whole, refl, sym e)
prefix_lines (l ∷ lines) [] rest clean clean_whole e = absurd (not_nil l (flat_map line lines ++ rest) (e ∙ joined l lines rest))
prefix_lines (l ∷ lines) (w ∷ whole) rest clean clean_whole e =
    let first = first_line w l (flat_map line whole) (flat_map line lines ++ rest) clean_whole.0 clean.0 (sym (append_assoc w (10 ∷ []) (flat_map line whole)) ∙ e ∙ joined l lines rest) in
    let others = prefix_lines lines whole rest clean.1 clean_whole.1 first.1 in
    (others.0, ap (λ (v : List ℕ). v ∷ whole) first.0 ∙ ap (λ (vs : List (List ℕ)). l ∷ vs) others.1, others.2)

-- one line more
pub last_line : (lines longer : List (List ℕ)) (rest left : List ℕ) → AreLines lines → AreLines longer → length longer ≡ length lines + 1 → flat_map line lines ++ rest ≡ flat_map line longer ++ left
    → (l : List ℕ) × (longer ≡ lines ++ l ∷ []) × (rest ≡ l ++ 10 ∷ left) × (is_line l ≡ true)
last_line [] [] rest left clean clean_longer one e = absurd (omega (arith, one))
last_line [] (l ∷ []) rest left clean clean_longer one e = (l, refl, e ∙ joined l [] left, clean_longer.0)
last_line [] (l ∷ m ∷ longer) rest left clean clean_longer one e = absurd (omega (arith, one))
last_line (k ∷ lines) [] rest left clean clean_longer one e = absurd (omega (arith, one))
last_line (k ∷ lines) (l ∷ longer) rest left clean clean_longer one e =
    let first = first_line k l (flat_map line lines ++ rest) (flat_map line longer ++ left) clean.0 clean_longer.0 (sym (joined k lines rest) ∙ e ∙ joined l longer left) in
    let others = last_line lines longer rest left clean.1 clean_longer.1 (omega (arith, one)) first.1 in
    (others.0, ap (λ (v : List ℕ). v ∷ longer) (sym first.0) ∙ ap (λ (vs : List (List ℕ)). k ∷ vs) others.1, others.2, others.3)

-- there are at most as many lines as bytes in them
pub few_lines : (lines : List (List ℕ)) → length lines ≤ length (flat_map line lines)
few_lines [] = omega arith
few_lines (l ∷ lines) =
    let a : length (line l ++ flat_map line lines) ≡ length (line l) + length (flat_map line lines) = length-append (line l) (flat_map line lines) in
    let b : length (line l) ≡ length l + 1 = length-append l (10 ∷ []) in
    omega (arith, a, b, few_lines lines)

-- bytes that begin with lines begin with fewer of them
begins_less : (m : ℕ) (lines : List (List ℕ)) (bytes : List ℕ) → BeginsWith lines bytes → BeginsWith (take m lines) bytes
begins_less m lines bytes begins = (
  flat_map line (drop m lines) ++ begins.0,
  begins.1
      ∙ ap (λ (r : List ℕ). r ++ begins.0) (ap (flat_map line) (sym (take-append-drop m lines)) ∙ flat_map-append line (take m lines) (drop m lines))
      ∙ append_assoc (flat_map line (take m lines)) (flat_map line (drop m lines)) begins.0,
)

-- a text that goes well for some lines goes well for fewer
pub goes_well-less : (IsText : List ℕ → Type 0) (m n : ℕ) (bytes : List ℕ) → m ≤ n → GoesWellFor IsText n bytes → GoesWellFor IsText m bytes
goes_well-less IsText m n bytes le well =
    let lines = well.0 in
    let cut : take m lines ++ drop m lines ≡ lines = take-append-drop m lines in (
      take m lines,
      All-front (λ l. is_line l ≡ true) (take m lines) (drop m lines) (subst AreLines (sym cut) well.1),
      length-take-le m lines (omega (arith, le, well.2)),
      begins_less m lines bytes well.3,
      (well.4.0, well.4.1, begins_less m lines well.4.0 well.4.2),
    )

-- ---- what a list begins with

-- a list that begins with another
abbrev pub Front : List ℕ → List ℕ → Type 0
Front xs ys = (rest : List ℕ) × (ys ≡ xs ++ rest)

-- what a list begins with, it begins with too where more stands behind it
pub front_more : (xs ys more : List ℕ) → Front xs ys → Front xs (ys ++ more)
front_more xs ys more h = (h.0 ++ more, ap (λ (r : List ℕ). r ++ more) h.1 ∙ append_assoc xs h.0 more)

-- a list begins with itself
pub front_same : (xs : List ℕ) → Front xs xs
front_same xs = ([], sym (append-nil xs))
