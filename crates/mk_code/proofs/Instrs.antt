-- Lists of instructions: how many random elements they take, and what fits behind them.
use Rattle.std.proofs.Common.{◌≡◌, ℕ, suc, ◌+◌, ◌≤◌, List, [], ◌∷◌, ◌++◌, length, sym, ◌∙◌, ap, subst, arith, add_assoc, zero-add}
use Rattle.mk_field.specs.declared.field.FieldId.{FieldId}
use Rattle.mk_code.specs.declared.instr.Instr.{Instr}
use Rattle.mk_code.specs.declared.instr.Instr.TheVariants.{Rnd, Const, Copy, Add, Mul, Sq, Map}
use Rattle.mk_code.specs.Listing.{FitsAt, AllFit}
use Rattle.mk_code.specs.Trace.{takes, randoms}

-- the random elements of two lists of instructions
pub randoms-append : (is js : List Instr) → randoms (is ++ js) ≡ randoms is + randoms js
unfolding randoms
randoms-append [] js = sym (zero-add (randoms js))
randoms-append (i ∷ is) js = ap (λ n. takes i + n) (randoms-append is js) ∙ sym (add_assoc (takes i) (randoms is) (randoms js))

-- an instruction takes at most one random element
pub takes-le : (i : Instr) → takes i ≤ 1
takes-le Rnd = omega arith
takes-le (Const value) = omega arith
takes-le (Copy from) = omega arith
takes-le (Add left right) = omega arith
takes-le (Mul left right) = omega arith
takes-le (Sq from) = omega arith
takes-le (Map map from) = omega arith

-- there are at most as many random elements as instructions
pub randoms-le : (is : List Instr) → randoms is ≤ length is
unfolding randoms
randoms-le [] = omega arith
randoms-le (i ∷ is) = omega (arith, takes-le i, randoms-le is)

-- one more instruction takes its random element
pub randoms-push : (is : List Instr) (i : Instr) → randoms (is ++ i ∷ []) ≡ randoms is + takes i
unfolding randoms
randoms-push is i = omega (arith, randoms-append is (i ∷ []))

-- an instruction that fits behind the others fits with them
pub AllFit-push : (field : FieldId) (maps len : ℕ) (is : List Instr) (i : Instr)
    → AllFit field maps len is → FitsAt field maps (len + length is) i → AllFit field maps len (is ++ i ∷ [])
AllFit-push field maps len [] i before here =
    let e : len + 0 ≡ len = omega arith in
    (subst (λ (n : ℕ). FitsAt field maps n i) e here, tt)
AllFit-push field maps len (j ∷ is) i before here =
    let e : len + suc (length is) ≡ len + 1 + length is = omega arith in
    (before.0, AllFit-push field maps (len + 1) is i before.1 (subst (λ (n : ℕ). FitsAt field maps n i) e here))
