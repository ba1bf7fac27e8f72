-- The words of a command.
use Rattle.std.proofs.Common.{◌≡◌, ℕ, List, get_or, false, true≢false, sym, ◌∙◌, ap, arith}
use Rattle.std.specs.Prelude.{bytes_eq, codes}
use Rattle.std.proofs.lemmas.Slice.Eq.{bytes_eq-Decides}

-- words that were found different are not the same
pub other-word : (xs ys : List ℕ) → bytes_eq xs ys ≡ false → xs ≡ ys → ⊥
other-word xs ys different same = true≢false (sym ((bytes_eq-Decides xs ys).1 same) ∙ different)

-- `seed` and `tape` begin with different letters
pub seed-not-tape : codes "seed" ≡ codes "tape" → ⊥
seed-not-tape same =
    let letters : 115 ≡ 116 = ap (λ (w : List ℕ). get_or w 0 0) same in
    omega (arith, letters)
