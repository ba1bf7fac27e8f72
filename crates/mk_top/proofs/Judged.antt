-- What is written of a gadget, and what its text decides.
use Rattle.std.proofs.Common.{◌≡◌, ℕ, List, [], Option, Some, None, IfSome, inl, inr, refl, sym, ap, subst, ◌∙◌, arith, slice_index, ◌⊎◌}
use Rattle.std.proofs.lemmas.Bool.{cases_lt}
use Rattle.std.proofs.lemmas.List.{append-nil}
use Rattle.mk_base.specs.Streams.{ReadsAll}
use Rattle.mk_lines.specs.Lines.{NamesFirst}
use Rattle.mk_pad.specs.Form.{GadgetForm}
use Rattle.mk_pad.specs.Positions.{counts, AreFew, IsFirstAbove, IsRefused}
use Rattle.mk_pad.specs.declared.refusal.PadRefusal.{PadRefusal}
use Rattle.mk_pad.specs.declared.refusal.PadRefusal.TheVariants as unverified
use Rattle.mk_lib.specs.Texts.{IsTextOf, IsGadgetText}
use Rattle.mk_lib.proofs.Naming.{differ}
use Rattle.mk_top.specs.declared.fault.Fault.{Fault}
use Rattle.mk_top.specs.declared.fault.Fault.TheVariants as fault
use Rattle.mk_top.specs.Decided.{JudgementDecides, GadgetDecides}
use Rattle.mk_top.specs.Gadgets.{Judges}
use Rattle.mk_top.specs.Faults.{fault_of_gadget}
use Rattle.mk_top.specs.Running.{NotMade}
use Rattle.mk_words.specs.Words.{Gadget}
use Rattle.mk_top.proofs.Bundles.{of-given}

-- the line that is named is one
pub names-one : (IsText : List ℕ → Type 0) (bytes : List ℕ) (m n : ℕ) → NamesFirst IsText m bytes → NamesFirst IsText n bytes → m ≡ n
names-one IsText bytes m n first second =
    elim (cases_lt m n) [
      | inl below ↦ absurd (first.1 (second.2 m below))
      | inr above ↦ elim (cases_lt n m) [
        | inl below ↦ absurd (second.1 (first.2 n below))
        | inr same ↦ omega (arith, above, same)
      ]
    ]

-- the bytes are the text of one gadget
gadget-once : (bytes : List ℕ) (g other : GadgetForm) → IsTextOf bytes g → IsTextOf bytes other → g ≡ other
gadget-once bytes g other first second =
    (differ bytes [] g other (subst (λ (bs : List ℕ). IsTextOf bs g) (sym (append-nil bytes)) first) second).0

-- the first count that is too great is one
above-one : (ns : List ℕ) (m n : ℕ) → IsFirstAbove ns m → IsFirstAbove ns n → m ≡ n
above-one ns m n first second =
    elim (cases_lt first.0 second.0) [
      | inl below ↦ absurd (omega (arith, second.4 first.0 below, first.2, first.3))
      | inr above ↦ elim (cases_lt second.0 first.0) [
        | inl below ↦ absurd (omega (arith, first.4 second.0 below, second.2, second.3))
        | inr same ↦
            let place : first.0 ≡ second.0 = omega (arith, above, same) in
            sym first.2 ∙ ap (slice_index ns) place ∙ second.2
      ]
    ]

-- none is, where all are small
above-not : (ns : List ℕ) (n : ℕ) → AreFew ns → IsFirstAbove ns n → ⊥
above-not ns n few above = absurd (omega (arith, few above.0 0 above.1, above.2, above.3))

-- a gadget decides one answer
judgement-one : (g : GadgetForm) (a b : Option Fault) → JudgementDecides g a → JudgementDecides g b → a ≡ b
judgement-one g None None first second = refl
judgement-one g None (Some (fault.Sets sets)) first second = absurd (omega (arith, first.0, second.0, second.1))
judgement-one g None (Some (fault.Terms terms)) first second = absurd (above-not (counts g) terms first.1 second.1)
judgement-one g None (Some f) first second = absurd second
judgement-one g (Some (fault.Sets sets)) None first second = absurd (omega (arith, second.0, first.0, first.1))
judgement-one g (Some (fault.Sets sets)) (Some (fault.Sets others)) first second = ap (λ (n : ℕ). Some (fault.Sets n)) (first.0 ∙ sym second.0)
judgement-one g (Some (fault.Sets sets)) (Some (fault.Terms terms)) first second = absurd (omega (arith, second.0, first.0, first.1))
judgement-one g (Some (fault.Sets sets)) (Some f) first second = absurd second
judgement-one g (Some (fault.Terms terms)) None first second = absurd (above-not (counts g) terms second.1 first.1)
judgement-one g (Some (fault.Terms terms)) (Some (fault.Sets sets)) first second = absurd (omega (arith, first.0, second.0, second.1))
judgement-one g (Some (fault.Terms terms)) (Some (fault.Terms others)) first second =
    ap (λ (n : ℕ). Some (fault.Terms n)) (above-one (counts g) terms others first.1 second.1)
judgement-one g (Some (fault.Terms terms)) (Some f) first second = absurd second
judgement-one g (Some f) b first second = absurd first

-- a gadget text goes wrong at a line, or is that of a gadget
data Told (bytes : List ℕ) (answer : Option Fault) : Type 0 where
  wrong : (line : ℕ) → answer ≡ Some (fault.Gadget line) → NamesFirst IsGadgetText line bytes → (IsGadgetText bytes → ⊥) → Told bytes answer
  judged : (g : GadgetForm) → IsTextOf bytes g → JudgementDecides g answer → Told bytes answer

-- what the text of a gadget decides is one of the two
told : (bytes : List ℕ) (answer : Option Fault) → GadgetDecides bytes answer → Told bytes answer
told bytes (Some (fault.Gadget line)) d = wrong line refl d.0 d.1
told bytes answer d = judged d.0 d.1 d.2

-- which decides one answer
told-one : (bytes : List ℕ) (a b : Option Fault) → Told bytes a → Told bytes b → a ≡ b
told-one bytes a b (wrong m e names none) (wrong n f others never) =
    e ∙ ap (λ (l : ℕ). Some (fault.Gadget l)) (names-one IsGadgetText bytes m n names others) ∙ sym f
told-one bytes a b (wrong m e names none) (judged g is d) = absurd (none (g, is))
told-one bytes a b (judged g is d) (wrong n f others never) = absurd (never (g, is))
told-one bytes a b (judged g is d) (judged other are c) =
    judgement-one other a b (subst (λ (h : GadgetForm). JudgementDecides h a) (gadget-once bytes g other is are) d) c

-- the text of a gadget decides one answer
pub gadget-one : (bytes : List ℕ) (a b : Option Fault) → GadgetDecides bytes a → GadgetDecides bytes b → a ≡ b
gadget-one bytes a b first second = told-one bytes a b (told bytes a first) (told bytes b second)

-- the gadget that was read is the one that was given
pub judges-given : (given after : Option (List ℕ)) (bytes written : List ℕ)
    → IfSome given (λ rest. ReadsAll rest bytes after) → Judges (Some bytes) written → Judges given written
judges-given given after bytes written read c = record {
  gadget = c.gadget;
  form = c.form;
  text = of-given (λ (bs : List ℕ). IsTextOf bs c.gadget) given after bytes read c.text;
  verdict = c.verdict;
  right = c.right;
  bytes = c.bytes;
  told = c.told;
  strong = c.strong;
  valued = c.valued;
  otherwise = c.otherwise;
  few_sets = c.few_sets;
  few_terms = c.few_terms;
}

-- where no count is too great, a value is not found for want of memory alone
pub right-refused : (g : GadgetForm) (bytes : List ℕ) (e : PadRefusal) → AreFew (counts g) → (e ≡ unverified.Memory) ⊎ IsRefused (counts g) e
    → NotMade Gadget bytes (fault_of_gadget e)
right-refused g bytes (unverified.TooManySets sets) few (inl memory) = absurd cc
right-refused g bytes (unverified.TooManySets sets) few (inr above) = absurd above
right-refused g bytes (unverified.TooManyTerms terms) few (inl memory) = absurd cc
right-refused g bytes (unverified.TooManyTerms terms) few (inr above) = absurd (above-not (counts g) terms few above)
right-refused g bytes unverified.Memory few refused = tt
