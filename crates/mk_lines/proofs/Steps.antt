-- Options that are read on, and tests that went one way.
use Rattle.std.proofs.Common.{◌≡◌, ℕ, Bool, true, false, ◌⊎◌, List, [], ◌∷◌, ◌++◌, length, Option, Some, None, nat_lt, refl, sym, ap, ◌∙◌, inl, inr, arith}
use Rattle.std.specs.Prelude.{cond, bytes_eq, ◌==◌}
use Rattle.std.proofs.lemmas.Bool.{ltb-true, eqb-true, eq-eqb}
use Rattle.std.proofs.lemmas.List.{nil_from_length}
use Rattle.std.proofs.lemmas.Slice.Eq.{bytes_eq-Decides}
use Rattle.mk_lines.specs.Parsing.{◌>>=◌, after, whole, behind, or_else}

-- the value of a step that gave one
pub bind_some : {A B : Type 0} (o : Option A) (f : A → Option B) (y : B) → (o >>= f) ≡ Some y → (x : A) × (o ≡ Some x) × (f x ≡ Some y)
bind_some (Some x) f y e = (x, refl, e)
bind_some None f y e = absurd cc

-- of two options with something in them that are equal, what is in them is equal
pub same_some : {A : Type 0} (x y : A) → ◌≡◌ {A = Option A} (Some x) (Some y) → x ≡ y
same_some x y e = cc

-- which way a test went
pub chosen : {A : Type 0} (b : Bool) (x y z : A) → cond b x y ≡ z → ((b ≡ true) × (x ≡ z)) ⊎ ((b ≡ false) × (y ≡ z))
chosen true x y z e = inl (refl, e)
chosen false x y z e = inr (refl, e)

-- what gave something only where a test holds: the test held, and this was given
pub passed : {A : Type 0} (b : Bool) (x : Option A) (y : A) → cond b x None ≡ Some y → (b ≡ true) × (x ≡ Some y)
passed true x y e = (refl, e)
passed false x y e = absurd cc

-- what gave something only where a test fails: the test failed, and this was given
pub not_passed : {A : Type 0} (b : Bool) (x : Option A) (y : A) → cond b None x ≡ Some y → (b ≡ false) × (x ≡ Some y)
not_passed true x y e = absurd cc
not_passed false x y e = (refl, e)

-- a word that stands at the front, and what stands behind it
pub after_found : (word bytes rest : List ℕ) → after word bytes ≡ Some rest → bytes ≡ word ++ rest
unfolding after
after_found [] bytes rest e = same_some bytes rest e
after_found (w ∷ ws) [] rest e = absurd cc
after_found (w ∷ ws) (b ∷ bs) rest e =
    let h = passed (w == b) (after ws bs) rest e in
    let tail = after_found ws bs rest h.1 in
    let head : w ≡ b = eqb-true w b h.0 in
    cc

-- behind a word stands what was put behind it
pub after_again : (word rest : List ℕ) → after word (word ++ rest) ≡ Some rest
unfolding after
after_again [] rest = refl
after_again (w ∷ ws) rest = ap (λ b. cond b (after ws (ws ++ rest)) None) (eq-eqb w w refl) ∙ after_again ws rest

-- nothing behind what was read
pub whole_found : {A : Type 0} (read : A × List ℕ) (x : A) → whole read ≡ Some x → (read.0 ≡ x) × (read.1 ≡ [])
unfolding whole
whole_found read x e =
    let h = passed (nat_lt (length read.1) 1) (Some read.0) x e in
    (same_some read.0 x h.1, nil_from_length read.1 (omega (arith, ltb-true (length read.1) 1 h.0)))

-- a word that stands there or does not
pub behind_found : {A : Type 0} (word bytes : List ℕ) (f : List ℕ → Option A) (otherwise : Option A) (x : A) → behind (after word bytes) f otherwise ≡ Some x
    → ((rest : List ℕ) × (bytes ≡ word ++ rest) × (f rest ≡ Some x)) ⊎ (otherwise ≡ Some x)
behind_found word bytes f otherwise x e = by (after word bytes) refl e
  where
    by : (o : Option (List ℕ)) → after word bytes ≡ o → behind o f otherwise ≡ Some x → ((rest : List ℕ) × (bytes ≡ word ++ rest) × (f rest ≡ Some x)) ⊎ (otherwise ≡ Some x)
    by (Some rest) is h = inl (rest, after_found word bytes rest is, h)
    by None is h = inr h

-- where one of two gave something, it was the first or else the second
pub or_found : {A : Type 0} (o other : Option A) (x : A) → or_else o other ≡ Some x → (o ≡ Some x) ⊎ (other ≡ Some x)
or_found (Some y) other x e = inl e
or_found None other x e = inr e

-- where the first of two gave something, that is given
pub or_again : {A : Type 0} (o other : Option A) (x : A) → o ≡ Some x → or_else o other ≡ Some x
or_again (Some y) other x e = e
or_again None other x e = absurd cc

-- the bytes are those of this word
pub is_word : (bytes word : List ℕ) → bytes_eq bytes word ≡ true → bytes ≡ word
is_word bytes word e = (bytes_eq-Decides bytes word).0 e

-- bytes are there where the test of their length against 0 fails
pub some_bytes : (bytes : List ℕ) (r : Bool) → r ≡ (length bytes == 0) → r ≡ false → bytes ≡ [] → ⊥
some_bytes bytes r is f none = let t : (length bytes == 0) ≡ true = eq-eqb (length bytes) 0 (ap length none) in absurd (cc)

-- no bytes are there where the test of their length against 0 holds
pub no_bytes : (bytes : List ℕ) (r : Bool) → r ≡ (length bytes == 0) → r ≡ true → bytes ≡ []
no_bytes bytes r is t = nil_from_length bytes (eqb-true (length bytes) 0 (sym is ∙ t))
