-- What is noted of a list is the first of its offences.
use Rattle.std.proofs.Common.{◌≡◌, ℕ, zero, suc, ◌<◌, ◌⊎◌, inl, inr, Bool, true, false, List, [], ◌∷◌, Some, None, refl, sym, ap, ◌∙◌, subst, arith, if◌then◌else◌, true≢false, ◌==◌}
use Rattle.std.proofs.lemmas.Bool.{cases_lt}
use Rattle.std.proofs.lemmas.Bool.Decides.{Decides-or, Decides-and, Decides-ltb, Decides-eqb}
use Rattle.std.specs.Bool.{Decides}
use Rattle.std.specs.List.{AllByRecursion, Contains}
use Rattle.mk_base.specs.declared.Place.{Place}
use Rattle.mk_types.specs.declared.offence.Offence.{Offence}
use Rattle.mk_types.specs.declared.offence.OffenceKind.{OffenceKind}
use Rattle.mk_types.specs.declared.offence.OffenceKind.TheVariants as kind_
use Rattle.mk_types.specs.First.{number, is_before, IsFirst}
use Rattle.mk_types.specs.Noted.{noted}

-- three numbers before three, with the first ones that differ
abbrev Before : ℕ → ℕ → ℕ → ℕ → ℕ → ℕ → Type 0
Before a b c x y z = ((a < x) ⊎ ((a ≡ x) × (b < y))) ⊎ (((a ≡ x) × (b ≡ y)) × (c < z))

-- this is transitive
before_before : (a b c x y z u v w : ℕ) → Before a b c x y z → Before x y z u v w → Before a b c u v w
before_before a b c x y z u v w (inl (inl h)) (inl (inl k)) = inl (inl (omega arith))
before_before a b c x y z u v w (inl (inl h)) (inl (inr k)) = inl (inl (omega arith))
before_before a b c x y z u v w (inl (inl h)) (inr k) = inl (inl (omega arith))
before_before a b c x y z u v w (inl (inr h)) (inl (inl k)) = inl (inl (omega arith))
before_before a b c x y z u v w (inl (inr h)) (inl (inr k)) = inl (inr (omega arith, omega arith))
before_before a b c x y z u v w (inl (inr h)) (inr k) = inl (inr (omega arith, omega arith))
before_before a b c x y z u v w (inr h) (inl (inl k)) = inl (inl (omega arith))
before_before a b c x y z u v w (inr h) (inl (inr k)) = inl (inr (omega arith, omega arith))
before_before a b c x y z u v w (inr h) (inr k) = inr ((omega arith, omega arith), omega arith)

-- nothing is before itself
before_itself : (a b c : ℕ) → Before a b c a b c → ⊥
before_itself a b c (inl (inl h)) = absurd (omega arith)
before_itself a b c (inl (inr h)) = absurd (omega arith)
before_itself a b c (inr h) = absurd (omega arith)

-- an offence is before another where its numbers are
abbrev IsBefore : Offence → Offence → Type 0
IsBefore x y = Before x.at.line x.at.column (number x.kind) y.at.line y.at.column (number y.kind)

-- the test of the code decides it
decides : (x y : Offence) → Decides (is_before x y) (IsBefore x y)
decides x y =
    Decides-or _ _ (Decides-or _ _ (Decides-ltb x.at.line y.at.line) (Decides-and _ _ (Decides-eqb x.at.line y.at.line) (Decides-ltb x.at.column y.at.column)))
    (Decides-and _ _ (Decides-and _ _ (Decides-eqb x.at.line y.at.line) (Decides-eqb x.at.column y.at.column)) (Decides-ltb (number x.kind) (number y.kind)))

-- before is transitive
before_trans : (x y z : Offence) → is_before x y ≡ true → is_before y z ≡ true → is_before x z ≡ true
before_trans x y z xy yz = (decides x z).1 (before_before _ _ _ _ _ _ _ _ _ ((decides x y).0 xy) ((decides y z).0 yz))

-- nothing is before itself
not_itself : (x : Offence) → is_before x x ≡ false
not_itself x = by (is_before x x) refl
  where
    by : (b : Bool) → b ≡ is_before x x → is_before x x ≡ false
    by false e = sym e
    by true e = absurd (before_itself _ _ _ ((decides x x).0 (sym e)))

-- this one is the other, or before it
abbrev IsNoLater : Offence → Offence → Type 0
IsNoLater x y = (x ≡ y) ⊎ (is_before x y ≡ true)

-- what is no later than an offence is before what that is before
no_later_before : (x y z : Offence) → IsNoLater x y → is_before y z ≡ true → is_before x z ≡ true
no_later_before x y z (inl e) yz = subst (λ u. is_before u z ≡ true) (sym e) yz
no_later_before x y z (inr h) yz = before_trans x y z h yz

-- an offence is not before one that is no later
no_later_not : (x y : Offence) → IsNoLater x y → is_before y x ≡ false
no_later_not x y h = by (is_before y x) refl
  where
    by : (b : Bool) → b ≡ is_before y x → is_before y x ≡ false
    by false e = sym e
    by true e =
        let xx : is_before x x ≡ true = no_later_before x y x h (sym e) in
        absurd (true≢false (sym xx ∙ not_itself x))

-- what is not before an offence is not before one that is no later
not_before_earlier : (x y z : Offence) → IsNoLater z y → is_before x y ≡ false → is_before x z ≡ false
not_before_earlier x y z (inl e) h = subst (λ u. is_before x u ≡ false) (sym e) h
not_before_earlier x y z (inr zy) h = by (is_before x z) refl
  where
    by : (b : Bool) → b ≡ is_before x z → is_before x z ≡ false
    by false e = sym e
    by true e = absurd (true≢false (sym (before_trans x z y (sym e) zy) ∙ h))

-- what is noted behind one that was found
record IsLeast (y : Offence) (xs : List Offence) (z : Offence) : Type 0 where
  noted_is : noted (Some y) xs ≡ Some z
  among : Contains (y ∷ xs) z
  no_later : IsNoLater z y
  none_before : AllByRecursion (λ x. is_before x z ≡ false) xs

-- the elements of a list behind another
contains_more : (x y : Offence) (xs : List Offence) → Contains xs x → Contains (y ∷ xs) x
contains_more x y xs (k, within, is) = (suc k, omega arith, is)

-- an element behind the second of two
contains_third : (z x y : Offence) (xs : List Offence) → Contains (y ∷ xs) z → Contains (y ∷ x ∷ xs) z
contains_third z x y xs (zero, within, is) = (zero, omega arith, is)
contains_third z x y xs (suc k, within, is) = (suc (suc k), omega arith, is)

-- of an offence and more there is a first
least : (y : Offence) (xs : List Offence) → (z : Offence) × IsLeast y xs z
least y [] = (y, record { noted_is = refl; among = (zero, omega arith, refl); no_later = inl refl; none_before = tt })
least y (x ∷ xs) = by (is_before x y) refl (least x xs) (least y xs)
  where
    by : (b : Bool) → b ≡ is_before x y → (z : Offence) × IsLeast x xs z → (z : Offence) × IsLeast y xs z → (z : Offence) × IsLeast y (x ∷ xs) z
    by true e h _ = (
      h.0,
      record {
        noted_is = ap (λ b. noted (Some (if b then x else y)) xs) (sym e) ∙ h.1.noted_is;
        among = contains_more h.0 y (x ∷ xs) h.1.among;
        no_later = inr (no_later_before h.0 x y h.1.no_later (sym e));
        none_before = (no_later_not h.0 x h.1.no_later, h.1.none_before);
      },
    )
    by false e _ h = (
      h.0,
      record {
        noted_is = ap (λ b. noted (Some (if b then x else y)) xs) (sym e) ∙ h.1.noted_is;
        among = contains_third h.0 x y xs h.1.among;
        no_later = h.1.no_later;
        none_before = (not_before_earlier x y h.0 h.1.no_later (sym e), h.1.none_before);
      },
    )

-- what is noted of a list is its first offence
pub first_noted : (xs : List Offence) (z : Offence) → noted None xs ≡ Some z → IsFirst xs z
first_noted [] z e = cc
first_noted (x ∷ xs) z e =
    let h = least x xs in
    let same : h.0 ≡ z = (let both : Some h.0 ≡ Some z = sym h.1.noted_is ∙ e in cc) in
    subst (λ u. IsFirst (x ∷ xs) u) same
    (record { among = h.1.among; least = (no_later_not h.0 x h.1.no_later, h.1.none_before) })

-- where nothing is noted, there is none
pub none_noted : (xs : List Offence) → noted None xs ≡ None → xs ≡ []
none_noted [] e = refl
none_noted (x ∷ xs) e =
    let h = least x xs in
    let both : Some h.0 ≡ None = sym h.1.noted_is ∙ e in
    cc

-- numbers of which neither is below the other are equal
neither_below : (m n : ℕ) → (m < n → ⊥) → (n < m → ⊥) → m ≡ n
neither_below m n a b =
    elim (cases_lt m n) [
      | inl below ↦ absurd (a below)
      | inr above ↦ elim (cases_lt n m) [
        | inl below ↦ absurd (b below)
        | inr same ↦ omega (arith, above, same)
      ]
    ]

-- the kind of a number
abbrev kind_of : ℕ → OffenceKind
kind_of n =
    if n == 32 then kind_.Unknown else if n == 33 then kind_.Twice else if n == 34 then kind_.Kind else if n == 35 then kind_.AssignInput else kind_.MapForm

-- it is the one that has the number
kind_again : (k : OffenceKind) → kind_of (number k) ≡ k
kind_again kind_.Unknown = refl
kind_again kind_.Twice = refl
kind_again kind_.Kind = refl
kind_again kind_.AssignInput = refl
kind_again kind_.MapForm = refl

-- a place, of its numbers
abbrev place_of : ℕ → ℕ → Place
place_of line column = record { line = line; column = column }

-- an offence, of its parts
abbrev offence_of : Place → OffenceKind → Offence
offence_of at kind = record { at = at; kind = kind }

-- offences of equal numbers are equal
same_offence : (x y : Offence) → x.at.line ≡ y.at.line → x.at.column ≡ y.at.column → number x.kind ≡ number y.kind → x ≡ y
same_offence x y line column kind =
    let kinds : x.kind ≡ y.kind = sym (kind_again x.kind) ∙ ap kind_of kind ∙ kind_again y.kind in
    let places : x.at ≡ y.at = ap (λ (l : ℕ). place_of l x.at.column) line ∙ ap (λ (c : ℕ). place_of y.at.line c) column in
    ap (λ (a : Place). offence_of a x.kind) places ∙ ap (λ (k : OffenceKind). offence_of y.at k) kinds

-- what is not before is not
not_before : (x y : Offence) → is_before x y ≡ false → IsBefore x y → ⊥
not_before x y e h = true≢false (sym ((decides x y).1 h) ∙ e)

-- offences of which neither is before the other are equal
neither_before : (x y : Offence) → is_before x y ≡ false → is_before y x ≡ false → x ≡ y
neither_before x y e f =
    let line : x.at.line ≡ y.at.line = neither_below x.at.line y.at.line (λ h. not_before x y e (inl (inl h))) (λ h. not_before y x f (inl (inl h))) in
    let column : x.at.column ≡ y.at.column =
    neither_below x.at.column y.at.column (λ h. not_before x y e (inl (inr (line, h)))) (λ h. not_before y x f (inl (inr (sym line, h)))) in
    same_offence x y line column
    (neither_below (number x.kind) (number y.kind) (λ h. not_before x y e (inr ((line, column), h))) (λ h. not_before y x f (inr ((sym line, sym column), h))))

-- what holds of all holds of one among them
one_of_all : (P : Offence → Type 0) (xs : List Offence) (x : Offence) → AllByRecursion P xs → Contains xs x → P x
one_of_all P [] x all (k, within, is) = absurd (omega (arith, within))
one_of_all P (y ∷ xs) x all (zero, within, is) = subst P is all.0
one_of_all P (y ∷ xs) x all (suc k, within, is) = one_of_all P xs x all.1 (k, omega (arith, within), is)

-- a list has one first offence
pub first_one : (xs : List Offence) (x y : Offence) → IsFirst xs x → IsFirst xs y → x ≡ y
first_one xs x y first second =
    neither_before x y (one_of_all (λ z. is_before z y ≡ false) xs x second.least first.among) (one_of_all (λ z. is_before z x ≡ false) xs y first.least second.among)

-- where there is none, none is the first
pub none_first : (x : Offence) → IsFirst [] x → ⊥
none_first x first = absurd (omega (arith, first.among.1))
