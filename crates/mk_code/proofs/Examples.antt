-- The small codes: the square isn't private, and those that work share by share are.
use Rattle.std.proofs.Common.{◌≡◌, [], ◌∷◌, refl, sym, ◌∙◌, arith}
use Rattle.mk_code.specs.Counting.{AllBelow}
use Rattle.mk_code.specs.Private.{ways, Private}
use Rattle.mk_code.proofs.ColumnTest.{works_by_share-private}
use Rattle.mk_code.specs.Examples.{leaking_square, leaking_square-0-1, leaking_square-1-1, byte_sum, linear_bytes}

-- the square isn't private: the product of its operand's shares tells the secret
pub leaking_square-not-private : Private leaking_square → ⊥
unfolding AllBelow
leaking_square-not-private private =
    let same : ways leaking_square [] (0 ∷ []) (3 ∷ []) (1 ∷ []) ≡ ways leaking_square [] (1 ∷ []) (3 ∷ []) (1 ∷ []) =
    private [] (0 ∷ []) (1 ∷ []) (3 ∷ []) (1 ∷ []) (record { count = refl; below = tt })
    (record { count = refl; below = (omega arith, tt) }) (record { count = refl; below = (omega arith, tt) })
    (omega arith) (omega arith, tt) in
    let differ : 2 ≡ 0 = sym leaking_square-0-1 ∙ same ∙ leaking_square-1-1 in
    absurd (omega (arith, differ))

-- the sum of two bytes works share by share, and so is private
pub byte_sum-private : Private byte_sum
byte_sum-private = works_by_share-private byte_sum refl

-- code of every linear instruction, over secrets and publics, works share by share, and so is private
pub linear_bytes-private : Private linear_bytes
linear_bytes-private = works_by_share-private linear_bytes refl
