-- The templates of public and linear operators, instruction by instruction.
use Rattle.std.proofs.Common.{◌≡◌, ◌≢◌, Bool, false, ℕ, zero, suc, ◌+◌, ◌-◌, ◌*◌, ◌<◌, ◌≤◌, length, map, replicate, slice_get, Some, if◌then◌else◌, nat_eq, refl, sym, ◌∙◌, ap, subst, arith}
use Rattle.std.specs.List.{range_with_len}
use Rattle.std.proofs.lemmas.Bool.{ne_eqb}
use Rattle.std.proofs.lemmas.List.{length-replicate}
use Rattle.std.proofs.lemmas.List.FromFn.{length-range_with_len, length-map-range_with_len, get_or-map-range_with_len, get_or-range_with_len}
use Rattle.std.proofs.lemmas.Option.{slice_get-get_or}
use Rattle.mk_code.specs.declared.instr.Instr.{Instr}
use Rattle.mk_code.specs.declared.instr.Instr.TheVariants as instr
use Rattle.mk_ssa.specs.declared.Operand.{Operand}
use Rattle.mk_ssa.specs.declared.Op.{Op}
use Rattle.mk_ssa.specs.declared.Op.TheVariants.{Const, PubAdd, PubMul, PubSq, PubMap, Lift, Add, AddPub, Scale, Sq, Map, Mul, Refresh}
use Rattle.mk_ssa.specs.Kinds.{Strong, kind, is_public, shared_operands, public_operands}
use Rattle.mk_gadget.specs.Template.{built_in, lift}
use Rattle.mk_check.specs.Gadgets.{Gadgets, template_of}

-- an element of rows
pub row-at : (row : ℕ → Instr) (n k : ℕ) → k < length (map row (range_with_len 0 n)) → slice_get (map row (range_with_len 0 n)) k ≡ Some (row k)
row-at row n k below =
    slice_get-get_or (map row (range_with_len 0 n)) k instr.Rnd below
    ∙ ap (λ (i : Instr). Some i)
    (get_or-map-range_with_len row 0 n k k instr.Rnd (omega (arith, below, length-map-range_with_len row 0 n)) (omega arith))

-- a zero behind the first share of a lifted value
replicate-at : {X : Type 0} (n k : ℕ) (x : X) → k < length (replicate n x) → slice_get (replicate n x) k ≡ Some x
replicate-at zero k x below = absurd (omega (arith, below))
replicate-at (suc n) zero x below = refl
replicate-at (suc n) (suc k) x below = replicate-at n k x (omega (arith, below))

-- an instruction behind the first one of a lifted value
pub lift-at : (n k : ℕ) → (k ≡ 0 → ⊥) → k < length (lift n).instrs → slice_get (lift n).instrs k ≡ Some (instr.Const 0)
lift-at n zero other below = absurd (other refl)
lift-at n (suc k) other below = replicate-at (n - 1) k (instr.Const 0) (omega (arith, below))

-- how many instructions and positions a linear operator's template has
pub linear-long : (n : ℕ) (op : Op) → 1 ≤ n → is_public op ≡ false → kind op ≢ Strong
    → (n ≡ length (built_in n op).instrs) × (n ≡ length (built_in n op).outs)
linear-long n (Lift arg) some shared weak = (omega (arith, some, length-replicate {A = Instr} (n - 1) (instr.Const 0)), sym (length-range_with_len 1 n))
linear-long n (Add left right) some shared weak = (sym (length-map-range_with_len _ 0 n), sym (length-range_with_len (2 * n) n))
linear-long n (AddPub left right) some shared weak = (sym (length-map-range_with_len _ 0 n), sym (length-range_with_len (n + 1) n))
linear-long n (Scale left right) some shared weak = (sym (length-map-range_with_len _ 0 n), sym (length-range_with_len (n + 1) n))
linear-long n (Sq arg) some shared weak = (sym (length-map-range_with_len _ 0 n), sym (length-range_with_len n n))
linear-long n (Map m arg) some shared weak = (sym (length-map-range_with_len _ 0 n), sym (length-range_with_len n n))
linear-long n (Mul left right) some shared weak = absurd (weak refl)
linear-long n (Refresh arg) some shared weak = absurd (weak refl)
linear-long n _ some shared weak = absurd (cc)

-- an element of a range
pub range-at : (p n k : ℕ) → k < length (range_with_len p n) → slice_get (range_with_len p n) k ≡ Some (p + k)
range-at p n k below =
    slice_get-get_or (range_with_len p n) k 0 below
    ∙ ap (λ (i : ℕ). Some i) (get_or-range_with_len p n k 0 (omega (arith, below, length-range_with_len p n)))

-- the same, with its first position written in another way
moved-to : (p q n k : ℕ) → p ≡ q → k < length (range_with_len p n) → slice_get (range_with_len p n) k ≡ Some (q + k)
moved-to p q n k same below = range-at p n k below ∙ ap (λ (i : ℕ). Some (i + k)) same

-- how many positions the operands of an operator have
abbrev pub positions_before : ℕ → Op → ℕ
positions_before n op = n * length (shared_operands op) + length (public_operands op)

-- a position of the out bank of a public or linear operator
pub out-at : (n k : ℕ) (op : Op) → kind op ≢ Strong → k < length (built_in n op).outs → slice_get (built_in n op).outs k ≡ Some (positions_before n op + k)
out-at n k (Const value) weak below = moved-to 0 (n * 0 + 0) 1 k (omega arith) below
out-at n k (PubAdd left right) weak below = moved-to 2 (n * 0 + 2) 1 k (omega arith) below
out-at n k (PubMul left right) weak below = moved-to 2 (n * 0 + 2) 1 k (omega arith) below
out-at n k (PubSq arg) weak below = moved-to 1 (n * 0 + 1) 1 k (omega arith) below
out-at n k (PubMap m arg) weak below = moved-to 1 (n * 0 + 1) 1 k (omega arith) below
out-at n k (Lift arg) weak below = moved-to 1 (n * 0 + 1) n k (omega arith) below
out-at n k (Add left right) weak below = moved-to (2 * n) (n * 2 + 0) n k (omega arith) below
out-at n k (AddPub left right) weak below = moved-to (n + 1) (n * 1 + 1) n k (omega arith) below
out-at n k (Scale left right) weak below = moved-to (n + 1) (n * 1 + 1) n k (omega arith) below
out-at n k (Sq arg) weak below = moved-to n (n * 1 + 0) n k (omega arith) below
out-at n k (Map m arg) weak below = moved-to n (n * 1 + 0) n k (omega arith) below
out-at n k (Mul left right) weak below = absurd (weak refl)
out-at n k (Refresh arg) weak below = absurd (weak refl)

-- an instruction that is there, of an operator that is known
pub there-at : (n k : ℕ) (op other : Op) → op ≡ other → k < length (built_in n op).instrs → k < length (built_in n other).instrs
there-at n k op other same there = subst (λ (o : Op). k < length (built_in n o).instrs) same there

-- a share of a value that a public one is added to, behind the first
pub added-at : (n k : ℕ) (left right : Operand) → (k ≡ 0 → ⊥) → k < length (built_in n (AddPub left right)).instrs
    → slice_get (built_in n (AddPub left right)).instrs k ≡ Some (instr.Copy k)
added-at n k left right other below =
    row-at (λ i. if nat_eq i 0 then instr.Add 0 n else instr.Copy i) n k below
    ∙ ap (λ (b : Bool). Some (if b then instr.Add 0 n else instr.Copy k)) (ne_eqb k 0 other)

-- an operator that is neither a product nor a refresh isn't strong
pub weak-from : (op : Op) → ((left right : Operand) → op ≡ Mul left right → ⊥) → ((arg : Operand) → op ≡ Refresh arg → ⊥) → kind op ≢ Strong
weak-from (Mul left right) no_product no_refresh = absurd (no_product left right refl)
weak-from (Refresh arg) no_product no_refresh = absurd (no_refresh arg refl)
weak-from _ no_product no_refresh = λ strong. absurd (cc)

-- the gadgets of the product and of the refresh don't matter to others
pub weak-same : (gadgets : Gadgets) (op : Op) → kind op ≢ Strong → built_in gadgets.shares op ≡ template_of gadgets op
weak-same gadgets (Mul left right) weak = absurd (weak refl)
weak-same gadgets (Refresh arg) weak = absurd (weak refl)
weak-same gadgets _ weak = refl
