-- Blanks and comments between tokens.
use Rattle.std.proofs.Common.{◌≡◌, ℕ, Bool, true, false, ◌⊎◌, List, [], ◌∷◌, ◌++◌, refl, sym, subst, ◌∙◌, inl, inr, append_assoc}
use Rattle.std.specs.Prelude.{◌||◌, ◌==◌, not, cond, IsTrue}
use Rattle.std.proofs.lemmas.Bool.{or_cases, or_parts, eqb-true, eqb-false, eq-eqb, cases_Bool, both_ways, false≢true}
use Rattle.std.proofs.lemmas.List.{append-nil}
use Rattle.mk_ast.specs.Tokens.{is_blank, IsGap, IsComment, IsLastGap}
use Rattle.mk_ast.specs.Spells.{NoGapBegins}

-- a gap and a gap behind it are a gap
mutual
  -- a gap and then another one are a gap
  pub gap_append : (xs ys : List ℕ) → IsGap xs → IsGap ys → IsGap (xs ++ ys)
  gap_append [] ys p q = q
  gap_append (b ∷ bs) ys (inl h) q = inl (h.0, gap_append bs ys h.1 q)
  gap_append (b ∷ bs) ys (inr h) q = inr (h.0, comment_append bs ys h.1 q)

  -- a comment and then a gap are a comment
  pub comment_append : (xs ys : List ℕ) → IsComment xs → IsGap ys → IsComment (xs ++ ys)
  comment_append [] ys p q = absurd p
  comment_append (b ∷ bs) ys (inl h) q = inl (h.0, gap_append bs ys h.1 q)
  comment_append (b ∷ bs) ys (inr h) q = inr (h.0, comment_append bs ys h.1 q)

-- a `#` is no blank
no_blank : (b : ℕ) → IsTrue (is_blank b) → b ≡ 35 → ⊥
no_blank b blank hash = both_ways (is_blank 35) refl (subst (λ (c : ℕ). is_blank c ≡ true) hash blank)

-- where no gap begins, none does
no_gap : (b : ℕ) (bs : List ℕ) → IsGap (b ∷ bs) → (is_blank b || b == 35) ≡ false → ⊥
no_gap b bs (inl h) none = both_ways (is_blank b) (or_parts (is_blank b) (b == 35) none).0 h.0
no_gap b bs (inr h) none = both_ways (b == 35) (or_parts (is_blank b) (b == 35) none).1 (eq-eqb b 35 h.0)

-- what a text begins with is a gap as long as possible in one way only
mutual
  -- of a text there is one longest gap at its front
  pub gap_unique : (g h x y : List ℕ) → IsGap g → IsGap h → g ++ x ≡ h ++ y → NoGapBegins x → NoGapBegins y → (g ≡ h) × (x ≡ y)
  gap_unique [] [] x y p q e nx ny = (refl, e)
  gap_unique [] (b ∷ bs) x y p q e nx ny = absurd (no_gap b bs q (subst NoGapBegins e nx))
  gap_unique (a ∷ cs) [] x y p q e nx ny = absurd (no_gap a cs p (subst NoGapBegins (sym e) ny))
  gap_unique (a ∷ cs) (b ∷ bs) x y (inl p) (inl q) e nx ny =
      let tails : cs ++ x ≡ bs ++ y = cc in
      let same = gap_unique cs bs x y p.1 q.1 tails nx ny in
      (cc, same.1)
  gap_unique (a ∷ cs) (b ∷ bs) x y (inr p) (inr q) e nx ny =
      let tails : cs ++ x ≡ bs ++ y = cc in
      let same = comment_unique cs bs x y p.1 q.1 tails nx ny in
      (cc, same.1)
  gap_unique (a ∷ cs) (b ∷ bs) x y (inl p) (inr q) e nx ny = let heads : a ≡ b = cc in absurd (no_blank a p.0 (heads ∙ q.0))
  gap_unique (a ∷ cs) (b ∷ bs) x y (inr p) (inl q) e nx ny = let heads : b ≡ a = cc in absurd (no_blank b q.0 (heads ∙ p.0))

  comment_unique : (g h x y : List ℕ) → IsComment g → IsComment h → g ++ x ≡ h ++ y → NoGapBegins x → NoGapBegins y → (g ≡ h) × (x ≡ y)
  comment_unique [] h x y p q e nx ny = absurd p
  comment_unique (a ∷ cs) [] x y p q e nx ny = absurd q
  comment_unique (a ∷ cs) (b ∷ bs) x y (inl p) (inl q) e nx ny =
      let tails : cs ++ x ≡ bs ++ y = cc in
      let same = gap_unique cs bs x y p.1 q.1 tails nx ny in
      (cc, same.1)
  comment_unique (a ∷ cs) (b ∷ bs) x y (inr p) (inr q) e nx ny =
      let tails : cs ++ x ≡ bs ++ y = cc in
      let same = comment_unique cs bs x y p.1 q.1 tails nx ny in
      (cc, same.1)
  comment_unique (a ∷ cs) (b ∷ bs) x y (inl p) (inr q) e nx ny = let heads : b ≡ a = cc in absurd (q.0 (heads ∙ p.0))
  comment_unique (a ∷ cs) (b ∷ bs) x y (inr p) (inl q) e nx ny = let heads : a ≡ b = cc in absurd (p.0 (heads ∙ q.0))

-- a last gap has nothing but a gap
pub last_gap_alone : (g : List ℕ) (b : ℕ) (bs : List ℕ) → IsGap g → NoGapBegins (b ∷ bs) → IsLastGap (g ++ b ∷ bs) → ⊥
last_gap_alone g b bs p begins last =
    let e : g ++ (b ∷ bs ++ 10 ∷ []) ≡ (g ++ b ∷ bs ++ 10 ∷ []) ++ [] = sym (append-nil (g ++ b ∷ bs ++ 10 ∷ []) ∙ append_assoc g (b ∷ bs) (10 ∷ [])) in
    never (bs ++ 10 ∷ []) (gap_unique g (g ++ b ∷ bs ++ 10 ∷ []) (b ∷ bs ++ 10 ∷ []) [] p last e begins tt).1
  where
    never : (ys : List ℕ) → b ∷ ys ≡ [] → ⊥
    never ys none = absurd cc

-- so far a gap, or one that any rest of a comment ends
abbrev pub IsSoFar : Bool → List ℕ → Type 0
IsSoFar false front = IsGap front
IsSoFar true front = (more : List ℕ) → IsComment more → IsGap (front ++ more)

-- one more byte of a gap
pub so_far_more : (comment : Bool) (front : List ℕ) (b : ℕ) → IsSoFar comment front → (comment ≡ true) ⊎ ((is_blank b || b == 35) ≡ true) → IsSoFar (cond comment (not (b == 10)) (b == 35)) (front ++ b ∷ [])
so_far_more true front b ended h = elim (cases_Bool (b == 10)) [
  | inl feed ↦ subst (λ (c : Bool). IsSoFar (not c) (front ++ b ∷ [])) (sym feed) (ended (b ∷ []) (inl (eqb-true b 10 feed, tt)))
  | inr other ↦ subst (λ (c : Bool). IsSoFar (not c) (front ++ b ∷ [])) (sym other) (λ more p. rw append_assoc (ended (b ∷ more) (inr (eqb-false b 10 other, p))))
]
so_far_more false front b gap h = elim (cases_Bool (b == 35)) [
  | inl hash ↦ subst (λ (c : Bool). IsSoFar c (front ++ b ∷ [])) (sym hash) (λ more p. rw append_assoc (gap_append front (b ∷ more) gap (inr (eqb-true b 35 hash, p))))
  | inr other ↦ subst (λ (c : Bool). IsSoFar c (front ++ b ∷ [])) (sym other) (gap_append front (b ∷ []) gap (inl (blank h other, tt)))
]
  where
    blank : (false ≡ true) ⊎ ((is_blank b || b == 35) ≡ true) → (b == 35) ≡ false → is_blank b ≡ true
    blank (inl never) other = absurd (false≢true never)
    blank (inr held) other = elim (or_cases (is_blank b) (b == 35) held) [ inl it ↦ it | inr hash ↦ absurd (both_ways (b == 35) other hash) ]
