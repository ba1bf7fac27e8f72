-- What was read so far is the front of the text of a gadget.
use Rattle.std.proofs.Common.{◌≡◌, ℕ, ◌+◌, ◌-◌, length, List, [], ◌∷◌, ◌++◌, Some, None, refl, sym, ap, subst, ◌∙◌, inl, inr, append_assoc}
use Rattle.std.specs.Prelude.{cond, codes, flat_map, bytes_eq}
use Rattle.std.proofs.lemmas.List.{append-nil}
use Rattle.std.proofs.lemmas.Grind.{flat_map-append}
use Rattle.mk_field.specs.declared.field.FieldId.{FieldId}
use Rattle.mk_code.specs.declared.instr.Instr.{Instr}
use Rattle.mk_pad.specs.declared.kind.GadgetKind.{GadgetKind}
use Rattle.mk_pad.specs.declared.kind.GadgetKind.TheVariants.{Mul, Refresh}
use Rattle.mk_pad.specs.Form.{GadgetForm, position_count}
use Rattle.mk_lines.specs.Words.{line}
use Rattle.mk_lines.specs.CodeLines.{field_line, instr_line, out_line, position_word}
use Rattle.mk_lines.specs.Parsing.{after, number_of, instr_of, field_of, positions_of}
use Rattle.mk_lines.proofs.Steps.{bind_some, same_some, chosen, passed, after_found, behind_found, is_word}
use Rattle.mk_lines.proofs.ByLines.{Front, front_more, front_same}
use Rattle.mk_lines.proofs.Fields.{field_found}
use Rattle.mk_lines.proofs.Numbers.{number_of_found}
use Rattle.mk_lines.proofs.Spelled.{positions_found}
use Rattle.mk_lines.proofs.Variants.{instr_line-words, instr_found}
use Rattle.mk_lib.specs.Text.{kind_line, order_line, text}
use Rattle.mk_lib.specs.Texts.{IsGadgetText}
use Rattle.mk_lib.specs.declared.draft.Stage.{Stage}
use Rattle.mk_lib.specs.declared.draft.Stage.TheVariants.{Kind, Field, Order, Instrs, End, Ended}
use Rattle.mk_lib.specs.Reading.{State, IsGood, kind_of, order_of, out_next, instr_next, with_instr, next_at}
use Rattle.mk_lib.proofs.Form.{at, rnds, filled, filled_form, ended_form}

-- the lines before the instructions
abbrev pub head_text : GadgetForm → List ℕ
head_text g = kind_line g.kind ++ field_line g.field ++ order_line g.order

-- the text before the line of this stage
abbrev pub text_at : Stage → GadgetForm → List ℕ
text_at Kind g = []
text_at Field g = kind_line g.kind
text_at Order g = kind_line g.kind ++ field_line g.field
text_at Instrs g = head_text g ++ flat_map instr_line g.instrs
text_at End g = head_text g ++ flat_map instr_line g.instrs ++ out_line g.outs
text_at Ended g = text g

-- the first line is that of what it says
kind_found : (l : List ℕ) (kind : GadgetKind) → kind_of l ≡ Some kind → kind_line kind ≡ line l
unfolding kind_of
kind_found l kind e = elim (chosen (bytes_eq l (codes "gadget mul")) (Some Mul) (cond (bytes_eq l (codes "gadget refresh")) (Some Refresh) None) (Some kind) e) [
  | inl h ↦ ap kind_line (sym (same_some Mul kind h.1)) ∙ ap line (sym (is_word l (codes "gadget mul") h.0))
  | inr h ↦ (let g = passed (bytes_eq l (codes "gadget refresh")) (Some Refresh) kind h.1 in
      ap kind_line (sym (same_some Refresh kind g.1)) ∙ ap line (sym (is_word l (codes "gadget refresh") g.0)))
]

-- a line with a number is the line of that order
order_found : (l : List ℕ) (order : ℕ) → order_of l ≡ Some order → order_line order ≡ line l
unfolding order_of
order_found l order e =
    let a = bind_some (after (codes "order ") l) number_of order e in
    ap line (sym (after_found (codes "order ") l a.0 a.1 ∙ ap (λ (r : List ℕ). codes "order " ++ r) (number_of_found a.0 order a.2).0))

-- the line of an instruction goes on with what was read
instr_goes : (g : GadgetForm) (l : List ℕ) (next : State) → instr_next (at Instrs g) l ≡ Some next → text_at next.stage next.gadget ≡ text_at Instrs g ++ line l
instr_goes g l next e =
    let a = bind_some (instr_of l) (λ (i : Instr). Some (with_instr (at Instrs g) i)) next e in
    let spelled : instr_line a.0 ≡ line l = instr_line-words a.0 ∙ ap line (sym (instr_found l a.0 a.1)) in
    let longer : flat_map instr_line (g.instrs ++ a.0 ∷ []) ≡ flat_map instr_line g.instrs ++ line l =
    flat_map-append instr_line g.instrs (a.0 ∷ []) ∙ ap (λ (r : List ℕ). flat_map instr_line g.instrs ++ r) (append-nil (instr_line a.0) ∙ spelled) in
    subst (λ (st : State). text_at st.stage st.gadget ≡ text_at Instrs g ++ line l) (same_some (with_instr (at Instrs g) a.0) next a.2)
    (ap (λ (r : List ℕ). head_text g ++ r) longer ∙ sym (append_assoc (head_text g) (flat_map instr_line g.instrs) (line l)))

-- the line of the outs goes on with what was read
out_goes : (g : GadgetForm) (l words : List ℕ) (next : State) → l ≡ codes "out" ++ words → out_next (at Instrs g) words ≡ Some next → text_at next.stage next.gadget ≡ text_at Instrs g ++ line l
out_goes g l words next here e =
    let a = bind_some (positions_of (g.order + 1) (position_count g) words) (λ (outs : List ℕ). Some (at End (record g { outs = outs }))) next e in
    let found = positions_found (g.order + 1) (position_count g) words a.0 a.1 in
    let spelled : l ≡ codes "out" ++ flat_map position_word a.0 = here ∙ ap (λ (r : List ℕ). codes "out" ++ r) found.0 in
    subst (λ (st : State). text_at st.stage st.gadget ≡ text_at Instrs g ++ line l) (same_some (at End (record g { outs = a.0 })) next a.2)
    (ap (λ (w : List ℕ). text_at Instrs g ++ line w) (sym spelled))

-- a line that is read goes on with what was read
pub goes : (stage : Stage) (g : GadgetForm) (l : List ℕ) (next : State) → IsGood (at stage g) → next_at stage (at stage g) l ≡ Some next → text_at next.stage next.gadget ≡ text_at stage g ++ line l
goes Kind g l next good e =
    let a = bind_some (kind_of l) (λ (kind : GadgetKind). Some (at Field (record g { kind = kind }))) next e in
    subst (λ (st : State). text_at st.stage st.gadget ≡ line l) (same_some (at Field (record g { kind = a.0 })) next a.2) (kind_found l a.0 a.1)
goes Field g l next good e =
    let a = bind_some (field_of l) (λ (field : FieldId). Some (at Order (record g { field = field }))) next e in
    subst (λ (st : State). text_at st.stage st.gadget ≡ kind_line g.kind ++ line l) (same_some (at Order (record g { field = a.0 })) next a.2)
    (ap (λ (r : List ℕ). kind_line g.kind ++ r) (field_found l a.0 a.1))
goes Order g l next good e =
    let a = bind_some (order_of l) (λ (order : ℕ). Some (at Instrs (record g { order = order }))) next e in
    let before : List ℕ = kind_line g.kind ++ field_line g.field in
    let none : g.instrs ≡ [] = good.instrs in
    subst (λ (st : State). text_at st.stage st.gadget ≡ text_at Order g ++ line l) (same_some (at Instrs (record g { order = a.0 })) next a.2)
    (ap (λ (is : List Instr). before ++ order_line a.0 ++ flat_map instr_line is) none ∙ append-nil (before ++ order_line a.0) ∙ ap (λ (r : List ℕ). before ++ r) (order_found l a.0 a.1))
goes Instrs g l next good e = elim (behind_found (codes "out") l _ _ next e) [
  | inl h ↦ out_goes g l h.0 next h.1 h.2
  | inr e ↦ instr_goes g l next e
]
goes End g l next good e =
    let h = passed (bytes_eq l (codes "end")) (Some (at Ended g)) next e in
    subst (λ (st : State). text_at st.stage st.gadget ≡ text_at End g ++ line l) (same_some (at Ended g) next h.1) (ap (λ (w : List ℕ). text_at End g ++ line w) (sym (is_word l (codes "end") h.0)))
goes Ended g l next good e = absurd cc

-- from a front of the lines before the instructions on
from_head : (xs : List ℕ) (g : GadgetForm) → Front xs (head_text g) → Front xs (text g)
from_head xs g h =
    front_more xs (text_at End g) (line (codes "end")) (front_more xs (text_at Instrs g) (out_line g.outs) (front_more xs (head_text g) (flat_map instr_line g.instrs) h))

-- from the instructions so far on
from_instrs : (g : GadgetForm) → Front (text_at Instrs g) (text (filled g))
from_instrs g =
    let more : List Instr = rnds (g.order + 1 - length g.instrs) in
    let longer : Front (text_at Instrs g) (text_at Instrs (filled g)) = (
      flat_map instr_line more,
      ap (λ (r : List ℕ). head_text g ++ r) (flat_map-append instr_line g.instrs more) ∙ sym (append_assoc (head_text g) (flat_map instr_line g.instrs) (flat_map instr_line more)),
    ) in
    front_more (text_at Instrs g) (text_at End (filled g)) (line (codes "end")) (front_more (text_at Instrs g) (text_at Instrs (filled g)) (out_line (filled g).outs) longer)

-- some gadget's text begins with what was read
pub completes : (stage : Stage) (g : GadgetForm) → IsGood (at stage g) → (whole : List ℕ) × IsGadgetText whole × Front (text_at stage g) whole
completes Kind g good = (text (filled g), (filled g, (filled_form Kind g good, refl)), (text (filled g), refl))
completes Field g good = (
  text (filled g),
  (filled g, (filled_form Field g good, refl)),
  from_head (kind_line g.kind) (filled g) (front_more (kind_line g.kind) (kind_line g.kind ++ field_line g.field) (order_line g.order) (front_more (kind_line g.kind) (kind_line g.kind) (field_line g.field) (front_same (kind_line g.kind)))),
)
completes Order g good = (
  text (filled g),
  (filled g, (filled_form Order g good, refl)),
  from_head (text_at Order g) (filled g) (front_more (text_at Order g) (text_at Order g) (order_line g.order) (front_same (text_at Order g))),
)
completes Instrs g good = (text (filled g), (filled g, (filled_form Instrs g good, refl)), from_instrs g)
completes End g good = (
  text g,
  (g, (ended_form (at Ended g) (record { order = good.order; few = good.few; fit = good.fit; instrs = tt; outs = good.outs }) refl, refl)),
  front_more (text_at End g) (text_at End g) (line (codes "end")) (front_same (text_at End g)),
)
completes Ended g good = (text g, (g, (ended_form (at Ended g) good refl, refl)), front_same (text g))
