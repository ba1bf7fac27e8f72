-- What is refused of two small codes.
use Rattle.std.specs.Prelude.{◌≡◌, [], ◌∷◌, Some, None, refl}
use Rattle.mk_base.specs.declared.Which.TheVariants as which_
use Rattle.mk_code.specs.Examples.{byte_sum, leaking_square}
use Rattle.mk_code.specs.Trace.{randoms}
use Rattle.mk_run.specs.declared.refusal.RunRefusal.TheVariants as run_
use Rattle.mk_run.specs.declared.refusal.CountRefusal.TheVariants as count_
use Rattle.mk_run.specs.Refusals.{encode_refusal, run_refusal, whole_refusal, count_refusal}

-- one element doesn't encode two bytes
pub encode-short : encode_refusal byte_sum (0x57 ∷ 0x83 ∷ []) (0x55 ∷ []) ≡ Some (run_.TapeShort 1 2)
encode-short = refl

-- two bytes have four shares
pub run-length : run_refusal byte_sum [] (0x02 ∷ 0x55 ∷ []) [] ≡ Some (run_.Length 2 4)
unfolding randoms
run-length = refl

-- a bit and one random element take two elements of a tape
pub whole-short : whole_refusal leaking_square [] (1 ∷ []) (0 ∷ []) ≡ Some (run_.TapeShort 1 2)
unfolding randoms
whole-short = refl

-- a public input that isn't wanted comes before a secret that is no bit, and both before a tape that is too short
pub whole-length : whole_refusal leaking_square (0 ∷ []) (2 ∷ []) [] ≡ Some (run_.Length 1 0)
unfolding randoms
whole-length = refl

-- a secret that is no bit comes before a tape that is too short
pub whole-element : whole_refusal leaking_square [] (2 ∷ []) [] ≡ Some (run_.Element which_.Secret 0)
unfolding randoms
whole-element = refl

-- 2 is no bit
pub count-element : count_refusal leaking_square [] (0 ∷ []) (2 ∷ []) (3 ∷ 3 ∷ []) ≡ Some (count_.Element which_.Other 0)
unfolding randoms
count-element = refl

-- two probes are more than the order
pub count-probes : count_refusal leaking_square [] (0 ∷ []) (1 ∷ []) (3 ∷ 3 ∷ []) ≡ Some (count_.Probe 1)
unfolding randoms
count-probes = refl

-- position 11 is behind the trace
pub count-outside : count_refusal leaking_square [] (0 ∷ []) (1 ∷ []) (11 ∷ []) ≡ Some (count_.Probe 0)
unfolding randoms
count-outside = refl

-- the product of the shares is counted
pub count-taken : count_refusal leaking_square [] (0 ∷ []) (1 ∷ []) (3 ∷ []) ≡ None
unfolding randoms
count-taken = refl
