-- What the templates of public and of linear blocks cost.
use Rattle.std.proofs.Common.{arith, ◌≡◌, ℕ, zero, suc, ◌+◌, ◌-◌, ◌≤◌, length, map, replicate, nat_eq, if◌then◌else◌, refl}
use Rattle.std.specs.List.{range_with_len}
use Rattle.std.proofs.lemmas.List.{length-replicate}
use Rattle.std.proofs.lemmas.List.FromFn.{length-map-range_with_len}
use Rattle.std.proofs.Math.Dec.{eqb-suc-zero}
use Rattle.mk_code.specs.declared.instr.Instr.{Instr}
use Rattle.mk_code.specs.declared.instr.Instr.TheVariants as instr
use Rattle.mk_code.specs.Trace.{takes, randoms}
use Rattle.mk_ssa.specs.declared.Operand.{Operand}
use Rattle.mk_ssa.specs.declared.Op.{Op}
use Rattle.mk_ssa.specs.declared.Op.TheVariants.{Const, PubAdd, PubMul, PubSq, PubMap, Lift, Add, AddPub, Scale, Sq, Map, Mul, Refresh}
use Rattle.mk_ssa.specs.Kinds.{is_public}
use Rattle.mk_gadget.specs.Template.{built_in}

-- the operator is none of those that are strong
pub record NotStrong (op : Op) : Type 0 where
  pub mul : (left right : Operand) → op ≡ Mul left right → ⊥
  pub refresh : (arg : Operand) → op ≡ Refresh arg → ⊥

-- a block that isn't strong has one instruction for each share, or one alone if it is public
pub mild-instrs : (n : ℕ) (op : Op) → 1 ≤ n → NotStrong op → length (built_in n op).instrs ≡ (if is_public op then 1 else n)
mild-instrs n (Const value) least mild = refl
mild-instrs n (PubAdd left right) least mild = refl
mild-instrs n (PubMul left right) least mild = refl
mild-instrs n (PubSq arg) least mild = refl
mild-instrs n (PubMap map arg) least mild = refl
mild-instrs n (Lift arg) least mild = omega (arith, least, length-replicate (n - 1) (instr.Const 0))
mild-instrs n (Add left right) least mild = length-map-range_with_len _ 0 n
mild-instrs n (AddPub left right) least mild = length-map-range_with_len _ 0 n
mild-instrs n (Scale left right) least mild = length-map-range_with_len _ 0 n
mild-instrs n (Sq arg) least mild = length-map-range_with_len _ 0 n
mild-instrs n (Map map arg) least mild = length-map-range_with_len _ 0 n
mild-instrs n (Mul left right) least mild = absurd (mild.mul left right refl)
mild-instrs n (Refresh arg) least mild = absurd (mild.refresh arg refl)

-- a row of instructions that take no random element
randoms-row : (row : ℕ → Instr) (a n : ℕ) → ((i : ℕ) → takes (row i) ≡ 0) → randoms (map row (range_with_len a n)) ≡ 0
unfolding randoms
randoms-row row a zero none = refl
randoms-row row a (suc n) none = omega (arith, none a, randoms-row row (a + 1) n none)

-- constants take none
randoms-constants : (n : ℕ) → randoms (replicate n (instr.Const 0)) ≡ 0
unfolding randoms
randoms-constants zero = refl
randoms-constants (suc n) = omega (arith, randoms-constants n)

-- nor does a row of a sum with a public value
public_addition-takes : (n i : ℕ) → takes (if nat_eq i 0 then instr.Add 0 n else instr.Copy i) ≡ 0
public_addition-takes n zero = refl
public_addition-takes n (suc i) = rw (eqb-suc-zero i) refl

-- no block takes a random element but a strong one
pub mild-randoms : (n : ℕ) (op : Op) → NotStrong op → randoms (built_in n op).instrs ≡ 0
unfolding randoms
mild-randoms n (Const value) mild = refl
mild-randoms n (PubAdd left right) mild = refl
mild-randoms n (PubMul left right) mild = refl
mild-randoms n (PubSq arg) mild = refl
mild-randoms n (PubMap map arg) mild = refl
mild-randoms n (Lift arg) mild = omega (arith, randoms-constants (n - 1))
mild-randoms n (Add left right) mild = randoms-row (λ i. instr.Add i (n + i)) 0 n (λ i. refl)
mild-randoms n (AddPub left right) mild =
    randoms-row (λ i. if nat_eq i 0 then instr.Add 0 n else instr.Copy i) 0 n (public_addition-takes n)
mild-randoms n (Scale left right) mild = randoms-row (λ i. instr.Mul i n) 0 n (λ i. refl)
mild-randoms n (Sq arg) mild = randoms-row (λ i. instr.Sq i) 0 n (λ i. refl)
mild-randoms n (Map map arg) mild = randoms-row (λ i. instr.Map map i) 0 n (λ i. refl)
mild-randoms n (Mul left right) mild = absurd (mild.mul left right refl)
mild-randoms n (Refresh arg) mild = absurd (mild.refresh arg refl)
