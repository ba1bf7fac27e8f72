-- The tapes, numbered.
use Rattle.std.specs.Prelude.{◌≡◌, ℕ, zero, suc, ◌/◌, ◌%◌, List, [], ◌∷◌, refl}

-- the list of n elements below q that has this number: its digits to the base q, the lowest first
unfoldable pub numbered : ℕ → ℕ → ℕ → List ℕ
numbered q zero number = []
numbered q (suc n) number = number % q ∷ numbered q n (number / q)

-- three bits of number 6
pub numbered-6 : numbered 2 3 6 ≡ 0 ∷ 1 ∷ 1 ∷ []
unfolding numbered
numbered-6 = refl
