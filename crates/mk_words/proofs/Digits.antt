-- Words of elements are made of hexadecimal digits.
use Rattle.std.proofs.Common.{◌≡◌, ◌≢◌, ℕ, suc, ◌%◌, List, [], ◌∷◌, length, Bool, true, false, true≢false, ◌==◌, refl, sym, ap, ◌∙◌, inl, inr, arith, Result, Ok, Err}
use Rattle.std.proofs.lemmas.Bool.Decides.{Decides-eqb}
use Rattle.std.specs.Prelude.{codes, MatchResult, is_some, nat_le, ◌&&◌, ◌||◌, if◌then◌else◌, Some, None}
use Rattle.std.specs.List.{AllPass}
use Rattle.std.specs.Char.{is_ascii_hexdigit}
use Rattle.std.proofs.lemmas.List.Elements.{All-weaker}
use Rattle.hex.specs.Hex.{decode_sized, is_hex_digit}
use Rattle.hex.specs.declared.error.FromHexError.{FromHexError}
use Rattle.hex.proofs.HexLemmas.{decode_of-ok, decode_of-digits, decode_sized-ok, decode_sized-twice}
use Rattle.mk_words.specs.Words.{SaysSeed}
use Rattle.mk_words.specs.Forms.{AreElements}

-- of three tests the order is the same
one-of : (a b d : Bool) (x y z : ℕ) → ((d || a) || b) ≡ is_some (if a then Some x else if b then Some y else if d then Some z else None)
one-of true true true x y z = refl
one-of true true false x y z = refl
one-of true false true x y z = refl
one-of true false false x y z = refl
one-of false true true x y z = refl
one-of false true false x y z = refl
one-of false false true x y z = refl
one-of false false false x y z = refl

-- std and hex mean the same digits
same-digits : (c : ℕ) → is_ascii_hexdigit c ≡ is_hex_digit c
same-digits c = one-of (nat_le 65 c && nat_le c 70) (nat_le 97 c && nat_le c 102) (nat_le 48 c && nat_le c 57) _ _ _

-- so the same words are made of them
to-hex : (word : List ℕ) → AllPass is_ascii_hexdigit word → AllPass is_hex_digit word
to-hex word digits = All-weaker (λ c. is_ascii_hexdigit c ≡ true) (λ c. is_hex_digit c ≡ true) (λ c digit. sym (same-digits c) ∙ digit) word digits

-- and the other way round
from-hex : (word : List ℕ) → AllPass is_hex_digit word → AllPass is_ascii_hexdigit word
from-hex word digits = All-weaker (λ c. is_hex_digit c ≡ true) (λ c. is_ascii_hexdigit c ≡ true) (λ c digit. same-digits c ∙ digit) word digits

-- a word of an even number of digits, not empty, says elements
pub says-digits : (word : List ℕ) → word ≢ [] → length word % 2 ≡ 0 → AllPass is_ascii_hexdigit word → AreElements word
says-digits word some even digits = let d = decode_of-digits word even (to-hex word digits) in (d.0, inr (some, d.1))

-- a word that says elements and is not `-` is such a word
pub says-only : (word : List ℕ) → word ≢ codes "-" → AreElements word → (word ≢ []) × (length word % 2 ≡ 0) × AllPass is_ascii_hexdigit word
says-only word other (xs, inl says) = absurd (other says.0)
says-only word other (xs, inr says) = let d = decode_of-ok word xs says.1 in (says.0, d.0, from-hex word d.1)

-- a word of no byte is empty
pub no-byte : (word : List ℕ) → (length word == 0) ≡ true → word ≡ []
no-byte [] none = refl
no-byte (x ∷ xs) none = absurd (zero-not (length xs) ((Decides-eqb (length (x ∷ xs)) 0).0 none))
  where
    zero-not : (n : ℕ) → suc n ≡ 0 → ⊥
    zero-not n e = omega (arith, e)

-- and one of some is not
pub some-byte : (word : List ℕ) → (length word == 0) ≡ false → word ≡ [] → ⊥
some-byte [] some none = absurd (true≢false some)
some-byte (x ∷ xs) some none = absurd cc

-- what the decoding of 32 bytes accepts is the word of a seed
pub seed-said : (word seed : List ℕ) (r : Result (Unit {0}) FromHexError)
    → MatchResult (decode_sized word 32) (λ bytes. (r ≡ Ok tt) × (seed ≡ bytes)) (λ e. r ≡ Err e) → r ≡ Ok tt → SaysSeed word seed
seed-said word seed r value ok = by (decode_sized word 32) refl value
  where
    by : (d : Result (List ℕ) FromHexError) → decode_sized word 32 ≡ d → MatchResult d (λ bytes. (r ≡ Ok tt) × (seed ≡ bytes)) (λ e. r ≡ Err e) → SaysSeed word seed
    by (Ok bytes) is said =
        let long = decode_sized-ok word 32 bytes is in
        (long, sym (decode_sized-twice word 32 long) ∙ is ∙ ap (λ (bs : List ℕ). Ok bs) (sym said.1))
    by (Err e) is said = let both : Ok tt ≡ Err e = sym ok ∙ said in absurd cc

-- and what it refuses is not
pub seed-unsaid : (word seed : List ℕ) (r : Result (Unit {0}) FromHexError) (e : FromHexError)
    → MatchResult (decode_sized word 32) (λ bytes. (r ≡ Ok tt) × (seed ≡ bytes)) (λ e. r ≡ Err e) → r ≡ Err e
    → (other : List ℕ) → SaysSeed word other → ⊥
seed-unsaid word seed r e value err other says = by (decode_sized word 32) refl value
  where
    by : (d : Result (List ℕ) FromHexError) → decode_sized word 32 ≡ d → MatchResult d (λ bytes. (r ≡ Ok tt) × (seed ≡ bytes)) (λ e. r ≡ Err e) → ⊥
    by (Ok bytes) is said = let both : Ok tt ≡ Err e = sym said.0 ∙ err in absurd cc
    by (Err f) is said = let both : Ok other ≡ Err f = sym says.1 ∙ sym (decode_sized-twice word 32 says.0) ∙ is in absurd cc
