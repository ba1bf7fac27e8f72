-- What numbers and words say.
use Rattle.std.proofs.Common.{◌≡◌, ℕ, ◌<◌, Bool, true, List, length, get_or, refl, sym, ◌∙◌, arith}
use Rattle.std.specs.Prelude.{Contains, bytes_eq, IsTrue, ◌↔◌}
use Rattle.std.specs.Str.{all_ascii_digits}
use Rattle.std.proofs.lemmas.Slice.Eq.{bytes_eq-Decides}
use Rattle.mk_base.specs.Digits.{valued}
use Rattle.mk_base.proofs.Digits.{number_parts as decimal_parts}
use Rattle.mk_ast.specs.Tokens.{IsNumber, reserved}

-- what is known of the text of a number
pub number_parts : (n : ℕ) (t : List ℕ) → IsNumber n t → (all_ascii_digits t ≡ true) × (valued 0 t ≡ n) × (0 < length t) × (get_or t 0 0 ≡ 48 → length t ≡ 1)
number_parts n t h = decimal_parts n t h.0 (omega (arith, h.1))

-- a text is the text of at most one number
pub number_unique : (n m : ℕ) (t : List ℕ) → IsNumber n t → IsNumber m t → n ≡ m
number_unique n m t p q = sym (number_parts n t p).1 ∙ (number_parts m t q).1

-- a word that equals the one of this number is reserved
pub reserved_at : (k : ℕ) (word literal : List ℕ) (equal : Bool) → k < 11 → equal ≡ bytes_eq word literal → literal ≡ get_or reserved k word → equal ≡ true → IsTrue true ↔ Contains reserved word
reserved_at k word literal equal lt is same held = (λ _. (k, lt, sym ((bytes_eq-Decides word literal).0 (sym is ∙ held) ∙ same)), λ _. refl)
