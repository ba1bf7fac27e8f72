-- What is there stays there when values come behind, and a value that fits makes the values one more.
use Rattle.std.proofs.Common.{◌≡◌, ℕ, List, [], ◌∷◌, ◌++◌, inl, inr, length, slice_get, true, false, sym, subst, arith}
use Rattle.std.proofs.lemmas.List.{take-append-le}
use Rattle.std.proofs.Math.Seq.{take-append_seam}
use Rattle.mk_ssa.specs.declared.Op.{Op}
use Rattle.mk_ssa.specs.declared.Operand.{Operand}
use Rattle.mk_ssa.specs.declared.Operand.TheVariants.{Secret, Public, Block}
use Rattle.mk_ssa.specs.Kinds.{is_public}
use Rattle.mk_ssa.specs.Values.{Draft, IsDraft, IsSharedThere, IsPublicThere, Fits, front, pushed}
use Rattle.mk_ssa.proofs.Lists.{IsSomeAnd-value, IsSomeAnd-from, slice_get-more, slice_get-last, slice_get-cases}

-- a shared operand that is there stays there
pub IsSharedThere-pushed : (d : Draft) (op : Op) (v : Operand) → IsSharedThere d v → IsSharedThere (pushed d op) v
IsSharedThere-pushed d op (Secret k) there = there
IsSharedThere-pushed d op (Public k) there = there
IsSharedThere-pushed d op (Block k) there =
    let at = IsSomeAnd-value (slice_get d.values k) (λ x. is_public x ≡ false) there in
    IsSomeAnd-from (slice_get (d.values ++ op ∷ []) k) (λ x. is_public x ≡ false) at.0 (slice_get-more d.values (op ∷ []) k at.0 at.1) at.2

-- a public operand that is there stays there
pub IsPublicThere-pushed : (d : Draft) (op : Op) (v : Operand) → IsPublicThere d v → IsPublicThere (pushed d op) v
IsPublicThere-pushed d op (Secret k) there = there
IsPublicThere-pushed d op (Public k) there = there
IsPublicThere-pushed d op (Block k) there =
    let at = IsSomeAnd-value (slice_get d.values k) (λ x. is_public x ≡ true) there in
    IsSomeAnd-from (slice_get (d.values ++ op ∷ []) k) (λ x. is_public x ≡ true) at.0 (slice_get-more d.values (op ∷ []) k at.0 at.1) at.2

-- a shared operator pushed is a shared operand
pub IsSharedThere-last : (d : Draft) (op : Op) → is_public op ≡ false → IsSharedThere (pushed d op) (Block (length d.values))
IsSharedThere-last d op shared =
    IsSomeAnd-from (slice_get (d.values ++ op ∷ []) (length d.values)) (λ x. is_public x ≡ false) op (slice_get-last d.values op) shared

-- a public operator pushed is a public operand
pub IsPublicThere-last : (d : Draft) (op : Op) → is_public op ≡ true → IsPublicThere (pushed d op) (Block (length d.values))
IsPublicThere-last d op public =
    IsSomeAnd-from (slice_get (d.values ++ op ∷ []) (length d.values)) (λ x. is_public x ≡ true) op (slice_get-last d.values op) public

-- a value that fits behind the others makes them one more
pub IsDraft-pushed : (d : Draft) (op : Op) → IsDraft d → Fits d op → IsDraft (pushed d op)
IsDraft-pushed d op made fits = record {
  bytes = made.bytes;
  fit = λ k x at. elim (slice_get-cases d.values op k x at) [
    | inl before ↦
        subst (λ (vs : List Op). Fits (record d { values = vs }) x) (sym (take-append-le k d.values (op ∷ []) (omega (arith, before.0))))
        (made.fit k x before.1)
    | inr last ↦
        subst (λ (n : ℕ). Fits (front (pushed d op) n) x) (sym last.0)
        (subst (λ (vs : List Op). Fits (record d { values = vs }) x) (sym (take-append_seam d.values (op ∷ [])))
        (subst (Fits d) last.1 fits))
  ];
}
