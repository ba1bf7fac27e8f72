-- The out banks of the built-in templates are of their own positions, behind those of the operands.
use Rattle.std.proofs.Common.{◌≡◌, ◌≢◌, ℕ, zero, suc, ◌+◌, ◌<◌, ◌≤◌, map, slice_get, Some, inl, inr, sym, ◌∙◌, arith}
use Rattle.std.specs.List.{range_with_len}
use Rattle.std.proofs.lemmas.Bool.{cases_order}
use Rattle.std.proofs.lemmas.List.FromFn.{length-map-range_with_len, get_or-map-range_with_len}
use Rattle.std.proofs.lemmas.Option.{slice_get_within, get_or_from_slice_get, same_Some}
use Rattle.mk_ssa.specs.declared.Op.{Op}
use Rattle.mk_ssa.specs.declared.Op.TheVariants.{Mul, Refresh}
use Rattle.mk_ssa.specs.Kinds.{Strong, kind}
use Rattle.mk_gadget.specs.Product.{sum_position}
use Rattle.mk_gadget.specs.Refresh.{refresh_sum}
use Rattle.mk_gadget.specs.Template.{built_in}
use Rattle.mk_gadget.proofs.RefreshRun.{refresh_sum-same, refresh_sum-later, refresh_sum-earlier}
use Rattle.mk_check.proofs.Rows.{positions_before, out-at}

-- an element of a list made from a range
from-range : (f : ℕ → ℕ) (n k p : ℕ) → slice_get (map f (range_with_len 0 n)) k ≡ Some p → (k < n) × (p ≡ f k)
from-range f n k p there =
    let below : k < n = omega (arith, slice_get_within (map f (range_with_len 0 n)) k p there, length-map-range_with_len f 0 n) in
    (below, sym (get_or_from_slice_get (map f (range_with_len 0 n)) k p p there) ∙ get_or-map-range_with_len f 0 n k k p below (omega arith))

-- the last sum of a share that is refreshed is behind the shares
refreshed-own : (n k : ℕ) → 2 ≤ n → k < n → n ≤ refresh_sum n k n
refreshed-own zero k two below = absurd (omega (arith, two))
refreshed-own (suc zero) k two below = absurd (omega (arith, two))
refreshed-own (suc (suc m)) k two below = elim (cases_order k (suc m)) [
  | inl same ↦
      let earlier : m < k = omega (arith, same) in
      omega (arith, refresh_sum-same (suc (suc m)) k (suc m) same, refresh_sum-earlier (suc (suc m)) k m earlier)
  | inr (inl less) ↦ omega (arith, refresh_sum-later (suc (suc m)) k (suc m) less)
  | inr (inr more) ↦ absurd (omega (arith, more, below))
]

-- those of an operator that is neither a product nor a refresh
weak-own : (n : ℕ) (op : Op) (k p : ℕ) → kind op ≢ Strong → slice_get (built_in n op).outs k ≡ Some p → positions_before n op ≤ p
weak-own n op k p weak there =
    omega (arith, same_Some (positions_before n op + k) p (sym (out-at n k op weak (slice_get_within (built_in n op).outs k p there)) ∙ there))

-- a position of an out bank is behind those of the operands
pub own-out : (n : ℕ) (op : Op) (k p : ℕ) → 2 ≤ n → slice_get (built_in n op).outs k ≡ Some p → positions_before n op ≤ p
own-out n (Mul left right) k p two there =
    let at = from-range (λ i. sum_position n i n) n k p there in
    omega (arith, at.1)
own-out n (Refresh arg) k p two there =
    let at = from-range (λ i. refresh_sum n i n) n k p there in
    omega (arith, at.1, refreshed-own n k two at.0)
own-out n op k p two there = weak-own n op k p (λ strong. absurd (cc)) there
