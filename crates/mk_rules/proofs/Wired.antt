-- What is wired at each block, and wired blocks with one more.
use Rattle.std.proofs.Common.{◌≡◌, ℕ, zero, suc, ◌+◌, ◌<◌, List, [], ◌∷◌, ◌++◌, length, take, slice_get, Some, sym, subst, append_assoc, get_or}
use Rattle.std.proofs.lemmas.List.{append-nil, take_more}
use Rattle.mk_ssa.specs.declared.Op.{Op}
use Rattle.mk_rules.specs.Shape.{Shape}
use Rattle.mk_rules.specs.Wired.{IsWired, AllWired, Wired}

-- what is wired is wired at each block
pub wired-at : (shape : Shape) (before blocks : List Op) (k : ℕ) (op : Op) → AllWired shape before blocks → slice_get blocks k ≡ Some op
    → IsWired shape (before ++ take k blocks) op
wired-at shape before [] k op wired there = absurd (cc)
wired-at shape before (x ∷ xs) zero op wired there =
    let same : x ≡ op = cc in
    subst (λ (bs : List Op). IsWired shape bs op) (sym (append-nil before)) (subst (IsWired shape before) same wired.0)
wired-at shape before (x ∷ xs) (suc k) op wired there =
    subst (λ (bs : List Op). IsWired shape bs op) (append_assoc before (x ∷ []) (take k xs))
    (wired-at shape (before ++ x ∷ []) xs k op wired.1 there)

-- one wired block more
wired-more : (shape : Shape) (before blocks : List Op) (op : Op) → AllWired shape before blocks → IsWired shape (before ++ blocks) op
    → AllWired shape before (blocks ++ op ∷ [])
wired-more shape before [] op wired last = (subst (λ (bs : List Op). IsWired shape bs op) (append-nil before) last, tt)
wired-more shape before (x ∷ xs) op wired last = (
  wired.0,
  wired-more shape (before ++ x ∷ []) xs op wired.1
      (subst (λ (bs : List Op). IsWired shape bs op) (sym (append_assoc before (x ∷ []) xs)) last),
)

-- the blocks so far are wired, and so is the next
pub Wired-more : (shape : Shape) (blocks : List Op) (k : ℕ) (op : Op) → k < length blocks → Wired shape (take k blocks)
    → IsWired shape (take k blocks) (get_or blocks k op) → Wired shape (take (k + 1) blocks)
Wired-more shape blocks k op below wired next =
    subst (AllWired shape []) (sym (take_more blocks k op below)) (wired-more shape [] (take k blocks) (get_or blocks k op) wired next)
