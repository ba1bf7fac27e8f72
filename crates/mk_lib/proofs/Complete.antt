-- The lines of the text of a gadget are read, one after the other, up to the gadget.
use Rattle.std.proofs.Common.{◌≡◌, ℕ, ◌+◌, ◌*◌, ◌^◌, ◌<◌, ◌≤◌, true, List, [], ◌∷◌, ◌++◌, length, Option, Some, refl, sym, ap, subst, ◌∙◌, arith, append_assoc, length-append}
use Rattle.std.specs.Prelude.{codes, decimal, flat_map}
use Rattle.std.specs.List.{AllByRecursion}
use Rattle.std.proofs.lemmas.List.{append-nil}
use Rattle.std.proofs.lemmas.Grind.{flat_map-append}
use Rattle.mk_field.specs.declared.field.FieldId.{FieldId}
use Rattle.mk_field.specs.declared.field.FieldId.TheVariants.{Gf2, Gf256}
use Rattle.mk_field.specs.Field.{size}
use Rattle.mk_code.specs.declared.instr.Instr.{Instr}
use Rattle.mk_code.specs.declared.instr.Instr.TheVariants as instr
use Rattle.mk_code.specs.Listing.{FitsAt, AllFit}
use Rattle.mk_pad.specs.declared.kind.GadgetKind.{GadgetKind}
use Rattle.mk_pad.specs.declared.kind.GadgetKind.TheVariants.{Mul, Refresh}
use Rattle.mk_pad.specs.Form.{GadgetForm, IsGadget, share_count, position_count, operands}
use Rattle.mk_lines.specs.Words.{line, is_line}
use Rattle.mk_lines.specs.CodeLines.{field_line, instr_line, out_line, position_word, InstrFits}
use Rattle.mk_lines.specs.Lines.{AreLines}
use Rattle.mk_lines.specs.Parsing.{◌>>=◌, after, field_of, positions_of}
use Rattle.mk_lines.proofs.Steps.{same_some, after_again}
use Rattle.mk_lines.proofs.Numbers.{number_of_again}
use Rattle.mk_lines.proofs.Spelled.{positions_again}
use Rattle.mk_lines.proofs.Variants.{instr_words, instr_line-words, instr_again}
use Rattle.mk_lines.proofs.Feeds.{is_line-decimal, is_line-positions, is_line-instr}
use Rattle.mk_lib.specs.Text.{kind_line, order_line, text}
use Rattle.mk_lib.specs.declared.draft.Stage.TheVariants.{Kind, Field, Order, Instrs, End, Ended}
use Rattle.mk_lib.specs.Reading.{State, start, IsGood, kind_of, order_of, instr_next, lower_next, next_at}
use Rattle.mk_lines.proofs.ByLines.{All-append}
use Rattle.mk_lib.proofs.Form.{at, AllFit-front, AllFit-at}

-- ---- runs over lines

-- one line more
abbrev pub step : State → List ℕ → Option State
step st l = next_at st.stage st l

-- these lines lead from one state to another by good states
abbrev pub Runs : State → List (List ℕ) → State → Type 0
Runs from [] to = from ≡ to
Runs from (l ∷ lines) to = (next : State) × (step from l ≡ Some next) × IsGood next × Runs next lines to

-- lines to a second state and others from there to a third lead from the first to the third
pub Runs-append : (a b c : State) (xs ys : List (List ℕ)) → Runs a xs b → Runs b ys c → Runs a (xs ++ ys) c
Runs-append a b c [] ys first second = subst (λ (st : State). Runs st ys c) (sym first) second
Runs-append a b c (x ∷ xs) ys first second = (first.0, first.1, first.2, Runs-append first.0 b c xs ys first.3 second)

-- behind lines that lead to a state, the others lead on from there
pub Runs-rest : (a b c : State) (xs ys : List (List ℕ)) → Runs a xs b → Runs a (xs ++ ys) c → Runs b ys c
Runs-rest a b c [] ys first all = subst (λ (st : State). Runs st ys c) first all
Runs-rest a b c (x ∷ xs) ys first all =
    let same : all.0 ≡ first.0 = same_some all.0 first.0 (sym all.1 ∙ first.1) in
    Runs-rest first.0 b c xs ys first.3 (subst (λ (st : State). Runs st (xs ++ ys) c) same all.3)

-- the bytes are lines that lead from one state to the other
pub record Leads (from : State) (bytes : List ℕ) (to : State) : Type 0 where
  pub lines : List (List ℕ)
  pub clean : AreLines lines
  pub spelled : bytes ≡ flat_map line lines
  pub runs : Runs from lines to

-- a line that is read leads from one state to the next
one_leads : (from to : State) (l : List ℕ) → is_line l ≡ true → step from l ≡ Some to → IsGood to → Leads from (line l) to
one_leads from to l clean e good = record { lines = l ∷ []; clean = (clean, tt); spelled = sym (append-nil (line l)); runs = (to, e, good, refl) }

-- lines from one state to a second and others from there to a third lead from the first to the third
both_lead : (a b c : State) (xs ys : List ℕ) → Leads a xs b → Leads b ys c → Leads a (xs ++ ys) c
both_lead a b c xs ys first second = record {
  lines = first.lines ++ second.lines;
  clean = All-append (λ l. is_line l ≡ true) first.lines second.lines first.clean second.clean;
  spelled = ap (λ (r : List ℕ). r ++ ys) first.spelled ∙ ap (λ (r : List ℕ). flat_map line first.lines ++ r) second.spelled ∙ sym (flat_map-append line first.lines second.lines);
  runs = Runs-append a b c first.lines second.lines first.runs second.runs;
}

-- ---- the head

-- a gadget of which only the first lines have come
abbrev head_only : GadgetKind → FieldId → ℕ → GadgetForm
head_only kind field order = record { kind = kind; field = field; order = order; instrs = []; outs = [] }

-- the first lines of a gadget are good at each of their stages
start_good : (kind : GadgetKind) (field : FieldId) (order : ℕ) → (1 ≤ order) × (order ≤ 8)
    → IsGood (at Kind (head_only kind field order)) × IsGood (at Field (head_only kind field order)) × IsGood (at Order (head_only kind field order)) × IsGood (at Instrs (head_only kind field order))
start_good kind field order within = (
  record { order = within; few = omega arith; fit = tt; instrs = refl; outs = refl },
  record { order = within; few = omega arith; fit = tt; instrs = refl; outs = refl },
  record { order = within; few = omega arith; fit = tt; instrs = refl; outs = refl },
  record { order = within; few = omega arith; fit = tt; instrs = tt; outs = refl },
)

-- nothing read yet is good
pub begun_good : IsGood start
begun_good = (start_good Mul Gf2 1 (omega arith, omega arith)).0

-- the first line leads from the start to that of the field
kind_leads : (kind : GadgetKind) → Leads start (kind_line kind) (at Field (head_only kind Gf2 1))
unfolding kind_of
kind_leads Mul = one_leads start (at Field (head_only Mul Gf2 1)) (codes "gadget mul") refl refl (start_good Mul Gf2 1 (omega arith, omega arith)).1
kind_leads Refresh = one_leads start (at Field (head_only Refresh Gf2 1)) (codes "gadget refresh") refl refl (start_good Refresh Gf2 1 (omega arith, omega arith)).1

-- the field's line leads on to that of the order
field_leads : (kind : GadgetKind) (field : FieldId) → Leads (at Field (head_only kind Gf2 1)) (field_line field) (at Order (head_only kind field 1))
unfolding field_of
field_leads kind Gf2 = one_leads (at Field (head_only kind Gf2 1)) (at Order (head_only kind Gf2 1)) (codes "field gf2") refl refl (start_good kind Gf2 1 (omega arith, omega arith)).2
field_leads kind Gf256 = one_leads (at Field (head_only kind Gf2 1)) (at Order (head_only kind Gf256 1)) (codes "field gf256") refl refl (start_good kind Gf256 1 (omega arith, omega arith)).2

-- the order's number is read again
order_again : (order : ℕ) → order < 2 ^ 32 → order_of (codes "order " ++ decimal order) ≡ Some order
unfolding order_of
order_again order small = rw (after_again (codes "order ") (decimal order), number_of_again order small) refl

-- the order's line leads on to the instructions
order_leads : (kind : GadgetKind) (field : FieldId) (order : ℕ) → (1 ≤ order) × (order ≤ 8) → Leads (at Order (head_only kind field 1)) (order_line order) (at Instrs (head_only kind field order))
order_leads kind field order within =
    let high : order ≤ 8 = within.1 in
    let small : order < 2 ^ 32 = omega (arith, high) in
    one_leads (at Order (head_only kind field 1)) (at Instrs (head_only kind field order)) (codes "order " ++ decimal order) (is_line-decimal order small)
    (ap (λ (o : Option ℕ). o >>= λ n. Some (at Instrs (head_only kind field n))) (order_again order small)) (start_good kind field order within).3

-- ---- instructions

-- an element of either field is a byte
is_byte : (field : FieldId) (value : ℕ) → value < size field → value < 256
is_byte Gf2 value small = omega (arith, small)
is_byte Gf256 value small = omega (arith, small)

-- behind less than 2^32 positions the numbers of an instruction that fits have 32 bits
instr_fits : (field : FieldId) (len : ℕ) (i : Instr) → len < 2 ^ 32 → FitsAt field 0 len i → InstrFits i
instr_fits field len instr.Rnd short fits = tt
instr_fits field len (instr.Const value) short fits = is_byte field value fits
instr_fits field len (instr.Copy from) short fits = omega (arith, fits)
instr_fits field len (instr.Add left right) short fits = (omega (arith, fits.0), omega (arith, fits.1))
instr_fits field len (instr.Mul left right) short fits = (omega (arith, fits.0), omega (arith, fits.1))
instr_fits field len (instr.Sq from) short fits = omega (arith, fits)
instr_fits field len (instr.Map map from) short fits = absurd (omega (arith, fits.0))

-- the words of an instruction are not those of outs
instr_next-words : (st : State) (i : Instr) → lower_next st (instr_words i) ≡ instr_next st (instr_words i)
unfolding after
instr_next-words st instr.Rnd = refl
instr_next-words st (instr.Const value) = refl
instr_next-words st (instr.Copy from) = refl
instr_next-words st (instr.Add left right) = refl
instr_next-words st (instr.Mul left right) = refl
instr_next-words st (instr.Sq from) = refl
instr_next-words st (instr.Map map from) = refl

-- the operands of a gadget of order 8 have at most 18 shares
pub few_shares : (kind : GadgetKind) (order : ℕ) → order ≤ 8 → operands kind * (order + 1) ≤ 18
few_shares Mul order high = omega (arith, high)
few_shares Refresh order high = omega (arith, high)

-- the state behind these instructions of a gadget
abbrev pub with_instrs : GadgetForm → List Instr → State
with_instrs g instrs = at Instrs (record g { instrs = instrs; outs = [] })

-- the first instructions of a gadget are good
instrs_good : (g : GadgetForm) (done left : List Instr) → IsGadget g → done ++ left ≡ g.instrs → IsGood (with_instrs g done)
instrs_good g done left form e =
    let few : length g.instrs ≤ 512 = form.few in
    let long : length (done ++ left) ≡ length g.instrs = ap length e in
    record {
      order = form.order;
      few = omega (arith, few, long, length-append done left);
      fit = AllFit-front g.field 0 (share_count g) done left (subst (AllFit g.field 0 (share_count g)) (sym e) form.fit);
      instrs = tt;
      outs = refl;
    }

-- the line of an instruction leads from the instructions before it to these with it
instr_leads : (g : GadgetForm) → IsGadget g → (done : List Instr) (i : Instr) (left : List Instr) → done ++ i ∷ left ≡ g.instrs → Leads (with_instrs g done) (instr_line i) (with_instrs g (done ++ i ∷ []))
instr_leads g form done i left e =
    let few : length g.instrs ≤ 512 = form.few in
    let long : length done + length (i ∷ left) ≡ length g.instrs = sym (length-append done (i ∷ left)) ∙ ap length e in
    let here : FitsAt g.field 0 (share_count g + length done) i = AllFit-at g.field 0 (share_count g) done i left (subst (AllFit g.field 0 (share_count g)) (sym e) form.fit) in
    let fit : InstrFits i = instr_fits g.field (share_count g + length done) i (omega (arith, few, long, few_shares g.kind g.order form.order.1)) here in
    let read : step (with_instrs g done) (instr_words i) ≡ Some (with_instrs g (done ++ i ∷ [])) =
    instr_next-words (with_instrs g done) i ∙ ap (λ (o : Option Instr). o >>= λ j. Some (with_instrs g (done ++ j ∷ []))) (instr_again i fit) in
    subst (λ (bytes : List ℕ). Leads (with_instrs g done) bytes (with_instrs g (done ++ i ∷ []))) (sym (instr_line-words i))
    (one_leads (with_instrs g done) (with_instrs g (done ++ i ∷ [])) (instr_words i) (is_line-instr i fit) read
    (instrs_good g (done ++ i ∷ []) left form (append_assoc done (i ∷ []) left ∙ e)))

-- the lines of the instructions that are left lead from those before them to all
instrs_lead : (g : GadgetForm) → IsGadget g → (todo done : List Instr) → done ++ todo ≡ g.instrs → Leads (with_instrs g done) (flat_map instr_line todo) (with_instrs g g.instrs)
instrs_lead g form [] done e =
    subst (λ (is : List Instr). Leads (with_instrs g done) [] (with_instrs g is)) (sym (append-nil done) ∙ e) (record { lines = []; clean = tt; spelled = refl; runs = refl })
instrs_lead g form (i ∷ todo) done e =
    both_lead (with_instrs g done) (with_instrs g (done ++ i ∷ [])) (with_instrs g g.instrs) (instr_line i) (flat_map instr_line todo) (instr_leads g form done i todo e)
    (instrs_lead g form todo (done ++ i ∷ []) (append_assoc done (i ∷ []) todo ∙ e))

-- ---- outs and the last line

-- a gadget is good behind its outs and behind its last line
pub whole_good : (g : GadgetForm) → IsGadget g → IsGood (at End g) × IsGood (at Ended g)
whole_good g form = (
  record { order = form.order; few = form.few; fit = form.fit; instrs = tt; outs = form.outs },
  record { order = form.order; few = form.few; fit = form.fit; instrs = tt; outs = form.outs },
)

-- positions within bounds are below any greater one
all_small : (low high most : ℕ) (xs : List ℕ) → high ≤ most → AllByRecursion (λ p. (low ≤ p) × (p < high)) xs → AllByRecursion (λ p. p < most) xs
all_small low high most [] le all = tt
all_small low high most (x ∷ xs) le all = (let below : x < high = all.0.1 in omega (arith, below, le), all_small low high most xs le all.1)

-- the line of the outs leads from all instructions to the last line
out_leads : (g : GadgetForm) → IsGadget g → Leads (with_instrs g g.instrs) (out_line g.outs) (at End g)
unfolding after
out_leads g form =
    let few : length g.instrs ≤ 512 = form.few in
    let short : position_count g < 2 ^ 32 = omega (arith, few, few_shares g.kind g.order form.order.1) in
    let below = all_small (share_count g) (position_count g) (position_count g) g.outs (omega arith) form.outs.within in
    let small = all_small (share_count g) (position_count g) (2 ^ 32) g.outs (omega (arith, short)) form.outs.within in
    let found : positions_of (g.order + 1) (position_count g) (flat_map position_word g.outs) ≡ Some g.outs =
    ap (λ (n : ℕ). positions_of n (position_count g) (flat_map position_word g.outs)) (sym form.outs.count) ∙ positions_again (position_count g) g.outs (omega (arith, short)) below in
    one_leads (with_instrs g g.instrs) (at End g) (codes "out" ++ flat_map position_word g.outs) (is_line-positions g.outs small)
    (ap (λ (o : Option (List ℕ)). o >>= λ outs. Some (at End (record g { outs = outs }))) found) (whole_good g form).0

-- the last line leads to the end
end_leads : (g : GadgetForm) → IsGadget g → Leads (at End g) (line (codes "end")) (at Ended g)
end_leads g form = one_leads (at End g) (at Ended g) (codes "end") refl refl (whole_good g form).1

-- the lines of the text of a gadget lead from the start to the gadget
pub text_leads : (g : GadgetForm) → IsGadget g → Leads start (text g) (at Ended g)
text_leads g form =
    both_lead _ _ _ _ _ (both_lead _ _ _ _ _ (both_lead _ _ _ _ _ (both_lead _ _ _ _ _ (both_lead _ _ _ _ _ (kind_leads g.kind) (field_leads g.kind g.field)) (order_leads g.kind g.field g.order form.order))
    (instrs_lead g form g.instrs [] refl)) (out_leads g form)) (end_leads g form)
