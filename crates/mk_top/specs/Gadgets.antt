-- What is written of a gadget.
use Rattle.std.specs.Prelude.{◌≡◌, ◌↔◌, ℕ, ◌+◌, ◌≤◌, List, ◌++◌, Option, IfSome, IsTrue, Bool, codes, if◌then◌else◌}
use Rattle.mk_field.specs.declared.map.AddMap.{AddMap}
use Rattle.mk_gadget.specs.Steady.{IsStrong}
use Rattle.mk_pad.specs.declared.TheConstants.{MOST_SETS}
use Rattle.mk_pad.specs.declared.refusal.Verdict.{Verdict}
use Rattle.mk_pad.specs.declared.refusal.Verdict.TheVariants.{Strong, NotShown}
use Rattle.mk_pad.specs.Form.{GadgetForm, IsGadget, operands}
use Rattle.mk_pad.specs.Positions.{counts, AreFew}
use Rattle.mk_pad.specs.Shown.{standing}
use Rattle.mk_pad.specs.Value.{HasRightValue, HasWrongValue}
use Rattle.mk_pad.specs.Verified.{set_count, IsVerdict}
use Rattle.mk_lib.specs.Texts.{IsTextOf}
use Rattle.mk_words.specs.Words.{probes_word}

-- the line of a verdict: that the gadget is strong, or the first set that isn't shown
abbrev pub verdict_line : Verdict → List ℕ
verdict_line Strong = codes "strong\n"
verdict_line (NotShown set) = codes "not shown " ++ probes_word set ++ codes "\n"

-- the line of a value
abbrev pub value_line : Bool → List ℕ
value_line right = if right then codes "right\n" else codes "wrong\n"

-- A gadget, given where the input tells the bytes of its text, was judged, and two lines were written. The first is
-- its verdict: `strong` where every set of at most as many positions as its order is shown, and then it is strong, with any
-- maps beside it; or the first set that isn't shown. The second says whether its outs share the product of its operands,
-- or its operand, for every sharing of the operands and every tape. It has no more sets than are looked at, and no
-- position counts too many terms.
pub record Judges (given : Option (List ℕ)) (written : List ℕ) : Type 0 where
  pub gadget : GadgetForm
  pub form : IsGadget gadget
  pub text : IfSome given (λ bytes. IsTextOf bytes gadget)
  pub verdict : Verdict
  pub right : Bool
  pub bytes : written ≡ verdict_line verdict ++ value_line right
  pub told : IsVerdict gadget verdict
  pub strong : verdict ≡ Strong → (maps : List AddMap) → IsStrong gadget.field maps (gadget.order + 1) (operands gadget.kind) 0 (standing gadget)
  pub valued : IsTrue right ↔ HasRightValue gadget
  pub otherwise : (IsTrue right → ⊥) ↔ HasWrongValue gadget
  pub few_sets : set_count gadget ≤ MOST_SETS
  pub few_terms : AreFew (counts gadget)
