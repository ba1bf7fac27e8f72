-- Where no number fails the test of being below a bound, all are below it.
use Rattle.std.proofs.Common.{◌≡◌, ℕ, List, None, length, refl}
use Rattle.std.specs.Prelude.{not, nat_lt}
use Rattle.std.specs.List.{position}
use Rattle.mk_base.proofs.Wanted.{below-all}
use Rattle.mk_code.specs.Counting.{Elements}
use Rattle.mk_code.proofs.Steps.{AllBelow-all}

-- all of them are elements
pub elements-all : (q : ℕ) (xs : List ℕ) → position (λ x. not (nat_lt x q)) xs ≡ None → Elements q (length xs) xs
elements-all q xs none = record { count = refl; below = AllBelow-all q xs (below-all q xs none) }
