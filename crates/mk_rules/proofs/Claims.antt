-- The outputs are the banks of the claims exactly where each claim is that of its output.
use Rattle.std.proofs.Common.{◌≡◌, ℕ, zero, suc, ◌+◌, ◌*◌, ◌<◌, ◌≤◌, List, [], ◌∷◌, ◌++◌, inl, inr, length, take, drop, slice_get, slice_index_or, IsSomeAnd, refl, sym, ◌∙◌, ap, subst, arith, length-drop}
use Rattle.std.specs.List.{flat_map, AllByRecursion}
use Rattle.std.proofs.lemmas.Bool.{cases_lt}
use Rattle.std.proofs.lemmas.List.{length-append, take-append-drop, drop-drop}
use Rattle.std.proofs.lemmas.List.Elements.{recursion_from_All, All-from_recursion}
use Rattle.std.proofs.Math.Seq.{take-append_seam, drop-append-add}
use Rattle.std.proofs.Math.Nat.{mul-le-mul_right}
use Rattle.mk_code.specs.Listing.{Listing}
use Rattle.mk_ssa.specs.declared.Op.{Op}
use Rattle.mk_ssa.specs.declared.Operand.{Operand}
use Rattle.mk_gadget.specs.Gadget.{Gadget}
use Rattle.mk_rules.specs.Shape.{shape_of}
use Rattle.mk_rules.specs.Tiles.{banks_of, value_number}
use Rattle.mk_rules.specs.Wired.{IsSharedThere, Wired}
use Rattle.mk_rules.specs.Accepts.{AreOutputs, Outputs}
use Rattle.mk_rules.specs.Faults.{IsClaimed, FirstWrongOutput}
use Rattle.mk_rules.proofs.Operators.{IsGiven}
use Rattle.mk_rules.proofs.Laid.{bank-long}

-- pieces of n elements, one for each of xs, are the list if each stands in its place
joined : {X : Type 0} (n : ℕ) (f : X → List ℕ) (P : X → Type 0) (xs : List X) (outs : List ℕ) → length outs ≤ length xs * n
    → ((k : ℕ) → k < length xs → IsSomeAnd (slice_get xs k) (λ x. P x × (f x ≡ take n (drop (k * n) outs))))
    → AllByRecursion P xs × (outs ≡ flat_map f xs)
joined n f P [] [] short at = (tt, refl)
joined n f P [] (p ∷ outs) short at = absurd (omega (arith, short))
joined n f P (x ∷ xs) outs short at =
    let zero_more : 0 * n ≡ 0 = omega arith in
    let first : P x × (f x ≡ take n (drop (0 * n) outs)) = at 0 (omega arith) in
    let front : f x ≡ take n outs = first.1 ∙ ap (λ (m : ℕ). take n (drop m outs)) zero_more in
    let fewer : length (drop n outs) ≤ length xs * n = omega (arith, short, length-drop n outs) in
    let rest : AllByRecursion P xs × (drop n outs ≡ flat_map f xs) = joined n f P xs (drop n outs) fewer
    (λ k below.
    let e : n + k * n ≡ suc k * n = omega arith in
    let same : drop (k * n) (drop n outs) ≡ drop (suc k * n) outs = drop-drop (k * n) n outs ∙ ap (λ (m : ℕ). drop m outs) e in
    subst (λ (l : List ℕ). IsSomeAnd (slice_get xs k) (λ y. P y × (f y ≡ take n l))) (sym same) (at (suc k) (omega arith))) in (
      (first.0, rest.0),
      sym (take-append-drop n outs) ∙ ap (λ (l : List ℕ). l ++ drop n outs) (sym front) ∙ ap (λ (l : List ℕ). f x ++ l) rest.1,
    )

-- pieces of n elements, one for each of xs, stand in their places
parted : {X : Type 0} (n : ℕ) (f : X → List ℕ) (P : X → Type 0) (xs : List X) → AllByRecursion P xs → ((x : X) → P x → length (f x) ≡ n)
    → (k : ℕ) → k < length xs → IsSomeAnd (slice_get xs k) (λ x. P x × (f x ≡ take n (drop (k * n) (flat_map f xs))))
parted n f P [] all size k below = absurd (omega (arith, below))
parted n f P (x ∷ xs) all size zero below =
    let zero_more : 0 * n ≡ 0 = omega arith in
    let count : length (f x) ≡ n = size x all.0 in (
      all.0,
      sym (take-append_seam (f x) (flat_map f xs)) ∙ ap (λ (m : ℕ). take m (f x ++ flat_map f xs)) count
          ∙ ap (λ (m : ℕ). take n (drop m (f x ++ flat_map f xs))) (sym zero_more),
    )
parted n f P (x ∷ xs) all size (suc k) below =
    let count : length (f x) ≡ n = size x all.0 in
    let e : suc k * n ≡ length (f x) + k * n = omega (arith, count) in
    let same : drop (suc k * n) (f x ++ flat_map f xs) ≡ drop (k * n) (flat_map f xs) =
    ap (λ (m : ℕ). drop m (f x ++ flat_map f xs)) e ∙ drop-append-add (f x) (flat_map f xs) (k * n) in
    subst (λ (l : List ℕ). IsSomeAnd (slice_get xs k) (λ y. P y × (f y ≡ take n l))) (sym same) (parted n f P xs all.1 size k (omega arith))

-- how many elements they have
pub length-parted : {X : Type 0} (n : ℕ) (f : X → List ℕ) (P : X → Type 0) (xs : List X) → AllByRecursion P xs → ((x : X) → P x → length (f x) ≡ n)
    → length (flat_map f xs) ≡ length xs * n
length-parted n f P [] all size = omega arith
length-parted n f P (x ∷ xs) all size = omega (arith, length-append (f x) (flat_map f xs), size x all.0, length-parted n f P xs all.1 size)

-- where each claim is that of its output, and no output is left, the outputs are claimed
pub Outputs-from : (code : Listing) (banks : List (List ℕ)) (blocks : List Op) (claims : List Operand) → length code.outs ≤ length claims * (code.order + 1)
    → ((k : ℕ) → k < length claims → IsClaimed code banks blocks claims k) → AreOutputs code banks blocks claims
Outputs-from code banks blocks claims short at =
    let both = joined (code.order + 1) (λ (v : Operand). slice_index_or banks (value_number (shape_of code) v) [])
    (IsSharedThere (shape_of code) blocks) claims code.outs short (λ k below. (at k below).claim) in
    record { there = All-from_recursion (IsSharedThere (shape_of code) blocks) claims both.0; outs = both.1 }

module _ (code : Listing) (product refresh : Gadget) (blocks : List Op) (claims : List Operand) where
  -- no first one is wrong where the blocks are wired and the outputs are claimed
  pub FirstWrongOutput-not : ((op : Op) → IsGiven (shape_of code) product refresh op) → Wired (shape_of code) blocks → (k : ℕ) → FirstWrongOutput code (banks_of (shape_of code) product refresh blocks) blocks claims k
      → Outputs code product refresh blocks claims → ⊥
  FirstWrongOutput-not given wired k first outputs =
      let n : ℕ = code.order + 1 in
      let bank : Operand → List ℕ = λ v. slice_index_or (banks_of (shape_of code) product refresh blocks) (value_number (shape_of code) v) [] in
      let all : AllByRecursion (IsSharedThere (shape_of code) blocks) claims = recursion_from_All (IsSharedThere (shape_of code) blocks) claims outputs.there in
      let size : (v : Operand) → IsSharedThere (shape_of code) blocks v → length (bank v) ≡ n = λ v there.
      bank-long (shape_of code) product refresh blocks v wired given there in
      let count : length code.outs ≡ length claims * n = ap length outputs.outs ∙ length-parted n bank (IsSharedThere (shape_of code) blocks) claims all size in
      let claimed : k < length claims → IsClaimed code (banks_of (shape_of code) product refresh blocks) blocks claims k = λ below. record {
        output = omega (arith, count, mul-le-mul_right n below);
        claim =
            subst (λ (l : List ℕ). IsSomeAnd (slice_get claims k) (λ v. IsSharedThere (shape_of code) blocks v × (bank v ≡ take n (drop (k * n) l)))) (sym outputs.outs)
            (parted n bank (IsSharedThere (shape_of code) blocks) claims all size k below);
      } in
      elim first.more [
        | inl below ↦ first.fails (claimed below)
        | inr within ↦ elim (cases_lt k (length claims)) [
          | inl below ↦ first.fails (claimed below)
          | inr behind ↦ absurd (omega (arith, within, count, mul-le-mul_right n behind))
        ]
      ]
