-- The lines of outputs, one after the other.
use Rattle.std.proofs.Common.{◌≡◌, ℕ, suc, ◌+◌, ◌<◌, List, [], ◌∷◌, ◌++◌, length, take, drop, slice_index, ◌∙◌, ap, add-one}
use Rattle.std.proofs.Math.Seq.{take-suc}
use Rattle.std.proofs.lemmas.List.{map-append}
use Rattle.mk_code.specs.Private.{observation}
use Rattle.mk_top.specs.Runs.{output_line, output_lines}

-- no output has no line
pub output_lines-none : (n number outputs : ℕ) (shares : List ℕ) → outputs ≡ 0 → output_lines n number outputs shares ≡ []
unfolding output_lines
output_lines-none n number outputs shares none = rw none

-- the first of several outputs has the next shares
pub output_lines-more : (n number outputs fewer : ℕ) (shares : List ℕ) → outputs ≡ suc fewer
    → output_lines n number outputs shares ≡ output_line number (take n shares) ++ output_lines n (number + 1) fewer (drop n shares)
unfolding output_lines
output_lines-more n number outputs fewer shares more = rw more

-- what is seen at one place more
pub observation-more : (places entries : List ℕ) (k : ℕ) → k < length places
    → observation (take (k + 1) places) entries ≡ observation (take k places) entries ++ slice_index entries (slice_index places k) ∷ []
observation-more places entries k below =
    ap (λ (ps : List ℕ). observation ps entries) (rw (add-one, take-suc places k 0))
    ∙ map-append (λ (p : ℕ). slice_index entries p) (take k places) (slice_index places k ∷ [])
