-- What is made in order, value by value.
use Rattle.std.proofs.Common.{◌≡◌, ℕ, zero, suc, ◌+◌, ◌≤◌, ◌<◌, List, [], ◌∷◌, ◌++◌, length, take, drop, slice_get, get_or, Some, refl, sym, ◌∙◌, ap, arith}
use Rattle.std.proofs.lemmas.List.{length-append, get_or_append_left, take-append-drop, length-take-le}
use Rattle.std.proofs.Math.Seq.{get_or-append_seam}
use Rattle.mk_ssa.specs.declared.Op.{Op}
use Rattle.mk_ssa.specs.Denoted.{in_order}

-- the first values, and then the others behind them
pub in_order-append : {X : Type 0} (next : List X → Op → X) (before : List X) (first second : List Op)
    → in_order next before (first ++ second) ≡ in_order next (in_order next before first) second
unfolding in_order
in_order-append next before [] second = refl
in_order-append next before (op ∷ ops) second = in_order-append next (before ++ next before op ∷ []) ops second

-- one value more
pub in_order-push : {X : Type 0} (next : List X → Op → X) (before : List X) (ops : List Op) (op : Op)
    → in_order next before (ops ++ op ∷ []) ≡ in_order next before ops ++ next (in_order next before ops) op ∷ []
unfolding in_order
in_order-push next before ops op = in_order-append next before ops (op ∷ [])

-- there is something for each value
pub length-in_order : {X : Type 0} (next : List X → Op → X) (before : List X) (ops : List Op)
    → length (in_order next before ops) ≡ length before + length ops
unfolding in_order
length-in_order next before [] = omega arith
length-in_order next before (op ∷ ops) =
    omega (arith, length-in_order next (before ++ next before op ∷ []) ops, length-append before (next before op ∷ []))

-- what there is for the first values stays when others come behind
pub in_order-front : {X : Type 0} (next : List X → Op → X) (before : List X) (ops : List Op) (k : ℕ) (d : X) → k < length before
    → get_or (in_order next before ops) k d ≡ get_or before k d
unfolding in_order
in_order-front next before [] k d below = refl
in_order-front next before (op ∷ ops) k d below =
    in_order-front next (before ++ next before op ∷ []) ops k d (omega (arith, length-append before (next before op ∷ [])))
    ∙ get_or_append_left before (next before op ∷ []) d k below

-- what there is for the k-th value
pub in_order-at : {X : Type 0} (next : List X → Op → X) (before : List X) (ops : List Op) (k : ℕ) (op : Op) (d : X) → slice_get ops k ≡ Some op
    → get_or (in_order next before ops) (length before + k) d ≡ next (in_order next before (take k ops)) op
unfolding in_order
in_order-at next before [] k op d at = absurd (cc)
in_order-at next before (x ∷ xs) zero op d at =
    let same : x ≡ op = cc in
    let more = before ++ next before x ∷ [] in
    let e : length before + 0 ≡ length before = omega arith in
    ap (λ (n : ℕ). get_or (in_order next more xs) n d) e
    ∙ in_order-front next more xs (length before) d (omega (arith, length-append before (next before x ∷ [])))
    ∙ get_or-append_seam before (next before x) [] d
    ∙ ap (next before) same
in_order-at next before (x ∷ xs) (suc k) op d at =
    let more = before ++ next before x ∷ [] in
    let e : length before + suc k ≡ length more + k = omega (arith, length-append before (next before x ∷ [])) in
    ap (λ (n : ℕ). get_or (in_order next more xs) n d) e ∙ in_order-at next more xs k op d at

-- what there is for a value among the first n is what there is for it among all
pub in_order-take : {X : Type 0} (next : List X → Op → X) (ops : List Op) (n k : ℕ) (d : X) → k < n → n ≤ length ops
    → get_or (in_order next [] ops) k d ≡ get_or (in_order next [] (take n ops)) k d
in_order-take next ops n k d below within =
    let parts = take n ops in
    let long : length (in_order next [] parts) ≡ n = length-in_order next [] parts ∙ omega (arith, length-take-le n ops within) in
    ap (λ (l : List Op). get_or (in_order next [] l) k d) (sym (take-append-drop n ops))
    ∙ ap (λ (l : List _). get_or l k d) (in_order-append next [] parts (drop n ops))
    ∙ in_order-front next (in_order next [] parts) (drop n ops) k d (omega (arith, long, below))
