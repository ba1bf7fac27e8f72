-- What fits as far as it came, and how it is filled up to a gadget.
use Rattle.std.proofs.Common.{◌≡◌, ℕ, zero, suc, ◌+◌, ◌-◌, ◌<◌, ◌≤◌, false, nat_eq, List, [], ◌∷◌, ◌++◌, length, refl, sym, ap, subst, ◌∙◌, arith, length-append}
use Rattle.std.specs.List.{AllByRecursion, IsDistinct}
use Rattle.std.proofs.lemmas.Bool.{ne_eqb}
use Rattle.mk_field.specs.declared.field.FieldId.{FieldId}
use Rattle.mk_code.specs.declared.instr.Instr.{Instr}
use Rattle.mk_code.specs.declared.instr.Instr.TheVariants as instr
use Rattle.mk_code.specs.Listing.{FitsAt, AllFit}
use Rattle.mk_code.proofs.Instrs.{AllFit-push}
use Rattle.mk_pad.specs.Form.{GadgetForm, IsGadget, share_count, position_count}
use Rattle.mk_lib.specs.declared.draft.Stage.{Stage}
use Rattle.mk_lib.specs.declared.draft.Stage.TheVariants.{Instrs, Ended}
use Rattle.mk_lib.specs.Reading.{State, IsGood, HasInstrs, HasOuts, with_instr}

-- a state of these parts
abbrev pub at : Stage → GadgetForm → State
at stage g = record { stage = stage; gadget = g }

-- where all instructions fit, the first of them do
pub AllFit-front : (field : FieldId) (maps len : ℕ) (is js : List Instr) → AllFit field maps len (is ++ js) → AllFit field maps len is
AllFit-front field maps len [] js fit = tt
AllFit-front field maps len (i ∷ is) js fit = (fit.0, AllFit-front field maps (len + 1) is js fit.1)

-- where all instructions fit, each fits behind those before it
pub AllFit-at : (field : FieldId) (maps len : ℕ) (done : List Instr) (i : Instr) (left : List Instr) → AllFit field maps len (done ++ i ∷ left) → FitsAt field maps (len + length done) i
AllFit-at field maps len [] i left fits = let same : len ≡ len + 0 = omega arith in subst (λ (n : ℕ). FitsAt field maps n i) same fits.0
AllFit-at field maps len (j ∷ done) i left fits =
    let same : len + 1 + length done ≡ len + suc (length done) = omega arith in
    subst (λ (n : ℕ). FitsAt field maps n i) same (AllFit-at field maps (len + 1) done i left fits.1)

-- so many random elements
pub rnds : ℕ → List Instr
rnds zero = []
rnds (suc n) = instr.Rnd ∷ rnds n

-- so many positions from the first on
pub range_from : ℕ → ℕ → List ℕ
range_from first zero = []
range_from first (suc n) = first ∷ range_from (suc first) n

-- so many random elements are so many instructions
length-rnds : (n : ℕ) → length (rnds n) ≡ n
unfolding rnds
length-rnds zero = refl
length-rnds (suc n) = ap suc (length-rnds n)

-- random elements fit anywhere
AllFit-rnds : (field : FieldId) (len n : ℕ) → AllFit field 0 len (rnds n)
unfolding rnds
AllFit-rnds field len zero = tt
AllFit-rnds field len (suc n) = (tt, AllFit-rnds field (len + 1) n)

-- random elements fit behind instructions
AllFit-filled : (field : FieldId) (len : ℕ) (is : List Instr) (n : ℕ) → AllFit field 0 len is → AllFit field 0 len (is ++ rnds n)
AllFit-filled field len [] n fit = AllFit-rnds field len n
AllFit-filled field len (i ∷ is) n fit = (fit.0, AllFit-filled field (len + 1) is n fit.1)

-- so many positions there are
length-range : (first n : ℕ) → length (range_from first n) ≡ n
unfolding range_from
length-range first zero = refl
length-range first (suc n) = ap suc (length-range (suc first) n)

-- they are within bounds
range-within : (low high first n : ℕ) → low ≤ first → first + n ≤ high → AllByRecursion (λ p. (low ≤ p) × (p < high)) (range_from first n)
unfolding range_from
range-within low high first zero le lt = tt
range-within low high first (suc n) le lt = ((le, omega (arith, lt)), range-within low high (suc first) n (omega (arith, le)) (omega (arith, lt)))

-- they differ from what is before them
range-above : (x first n : ℕ) → x < first → AllByRecursion (λ y. nat_eq x y ≡ false) (range_from first n)
unfolding range_from
range-above x first zero below = tt
range-above x first (suc n) below = (ne_eqb x first (λ same. absurd (omega (arith, below, same))), range-above x (suc first) n (omega (arith, below)))

-- no position stands twice
range-distinct : (first n : ℕ) → IsDistinct nat_eq (range_from first n)
unfolding range_from IsDistinct
range-distinct first zero = tt
range-distinct first (suc n) = (range-above first (suc first) n (omega arith), range-distinct (suc first) n)

-- the gadget with random elements behind its instructions, so that there are as many as it has outs, and with the first
-- instructions as its outs
abbrev pub filled : GadgetForm → GadgetForm
filled g = record g { instrs = g.instrs ++ rnds (g.order + 1 - length g.instrs); outs = range_from (share_count g) (g.order + 1) }

-- it has the form of a gadget, where what came has it as far as it came
pub filled_form : (stage : Stage) (g : GadgetForm) → IsGood (at stage g) → IsGadget (filled g)
filled_form stage g good =
    let missing : ℕ = g.order + 1 - length g.instrs in
    let long : length (g.instrs ++ rnds missing) ≡ length g.instrs + missing = length-append g.instrs (rnds missing) ∙ ap (λ (n : ℕ). length g.instrs + n) (length-rnds missing) in
    let low : 1 ≤ g.order = good.order.0 in
    let high : g.order ≤ 8 = good.order.1 in
    let few : length g.instrs ≤ 512 = good.few in
    record {
      order = good.order;
      few = omega (arith, long, high, few);
      fit = AllFit-filled g.field (share_count g) g.instrs missing good.fit;
      outs = record {
        count = length-range (share_count g) (g.order + 1);
        within = range-within (share_count g) (share_count g + length (g.instrs ++ rnds missing)) (share_count g) (g.order + 1) (omega arith) (omega (arith, long));
        different = range-distinct (share_count g) (g.order + 1);
      };
    }

-- what was read with its outs has the form of a gadget
pub ended_form : (st : State) → IsGood st → st.stage ≡ Ended → IsGadget st.gadget
ended_form st good ended = record {
  order = good.order;
  few = good.few;
  fit = good.fit;
  outs = subst (λ (s : Stage). HasOuts s st.gadget) ended good.outs;
}

-- with an instruction that fits behind what came, what came has the form as far as it came
pub good_more : (st : State) (i : Instr) → IsGood st → st.stage ≡ Instrs → length st.gadget.instrs < 512 → FitsAt st.gadget.field 0 (position_count st.gadget) i → IsGood (with_instr st i)
good_more st i good stage few fits =
    let none : st.gadget.outs ≡ [] = subst (λ (s : Stage). HasOuts s st.gadget) stage good.outs in
    record {
      order = good.order;
      few = omega (arith, few, length-append st.gadget.instrs (i ∷ []));
      fit = AllFit-push st.gadget.field 0 (share_count st.gadget) st.gadget.instrs i good.fit fits;
      instrs = subst (λ (s : Stage). HasInstrs s (st.gadget.instrs ++ i ∷ [])) (sym stage) tt;
      outs = subst (λ (s : Stage). HasOuts s (with_instr st i).gadget) (sym stage) none;
    }

-- the last instruction of what came fits behind the others
pub last_fits : (st : State) (i : Instr) → IsGood (with_instr st i) → FitsAt st.gadget.field 0 (position_count st.gadget) i
last_fits st i good = AllFit-at st.gadget.field 0 (share_count st.gadget) st.gadget.instrs i [] good.fit

-- there is room for the last instruction
pub last_few : (st : State) (i : Instr) → IsGood (with_instr st i) → length st.gadget.instrs < 512
last_few st i good =
    let few : length (st.gadget.instrs ++ i ∷ []) ≤ 512 = good.few in
    omega (arith, few, length-append st.gadget.instrs (i ∷ []))
