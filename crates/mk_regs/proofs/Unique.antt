-- One register code is allocated for code.
use Rattle.std.proofs.Common.{◌≡◌, ◌≢◌, ℕ, zero, suc, ◌+◌, ◌<◌, Bool, nat_eq, if◌then◌else◌, List, [], ◌∷◌, Option, Some, None, length, map, set, unwrap_or, inl, inr, refl, sym, ◌∙◌, ap, arith, subst}
use Rattle.std.specs.List.{AllByRecursion}
use Rattle.std.proofs.lemmas.Bool.{cases_eq, eq-eqb, ne_eqb, false≢true}
use Rattle.std.proofs.lemmas.Option.{same_Some, none-some}
use Rattle.mk_field.specs.declared.field.FieldId.{FieldId}
use Rattle.mk_field.specs.declared.map.AddMap.{AddMap}
use Rattle.mk_code.specs.declared.instr.Instr.{Instr}
use Rattle.mk_code.specs.Listing.{Listing, inputs_len}
use Rattle.mk_regs.specs.declared.instr.RegInstr.{RegInstr}
use Rattle.mk_regs.specs.Form.{RegListing, target, operation, operands, with_operands}
use Rattle.mk_regs.specs.Renaming.{holding, position_in, held_on_entry, stepped, held_behind, renamed_instr, renamed_instrs, renamed}
use Rattle.mk_regs.specs.Width.{width}
use Rattle.mk_regs.specs.Allocation.{IsLeastFree, GoLeast, IsAllocated}
use Rattle.mk_regs.proofs.Parts.{parts-same, with_operands-back}
use Rattle.mk_regs.proofs.Held.{IsTidy, tidy-entry, tidy-step}
use Rattle.mk_regs.proofs.Running.{IsSet, AreSet, IsCarried, Runs, runs-from_none}

-- the first register that holds an entry
unfoldable register_of : List (Option ℕ) → ℕ → ℕ
register_of [] p = 0
register_of (None ∷ hs) p = suc (register_of hs p)
register_of (Some q ∷ hs) p = if nat_eq q p then 0 else suc (register_of hs p)

-- it holds the entry, where any does
register_of-holds : (held : List (Option ℕ)) (r p : ℕ) → holding held r ≡ Some p → holding held (register_of held p) ≡ Some p
unfolding register_of
register_of-holds [] r p holds = absurd (none-some p holds)
register_of-holds (None ∷ hs) zero p holds = absurd (none-some p holds)
register_of-holds (None ∷ hs) (suc r) p holds = register_of-holds hs r p holds
register_of-holds (Some q ∷ hs) r p holds = elim (cases_eq q p) [
  | inl same ↦ ap (λ (b : Bool). holding (Some q ∷ hs) (if b then 0 else suc (register_of hs p))) (eq-eqb q p same) ∙ ap (λ (a : ℕ). Some a) same
  | inr other ↦
      ap (λ (b : Bool). holding (Some q ∷ hs) (if b then 0 else suc (register_of hs p))) (ne_eqb q p other)
      ∙ register_of-holds hs (before r holds other).0 p (before r holds other).1
] where
  before : (r : ℕ) → holding (Some q ∷ hs) r ≡ Some p → q ≢ p → (s : ℕ) × (holding hs s ≡ Some p)
  before zero e other = absurd (other (same_Some q p e))
  before (suc r) e other = (r, e)

-- the register of a register's entry is that register
back-at : (held : List (Option ℕ)) (len r : ℕ) → IsTidy held len → IsSet held r → register_of held (position_in held r) ≡ r
back-at held len r tidy here =
    let at : position_in held r ≡ here.0 = ap (λ (o : Option ℕ). unwrap_or o 0) here.1 in
    ap (register_of held) at ∙ tidy.one (register_of held here.0) r here.0 (register_of-holds held r here.0 here.1) here.1

-- several registers are told by the positions of what they hold
back-all : (held : List (Option ℕ)) (len : ℕ) (rs : List ℕ) → IsTidy held len → AreSet held rs
    → AllByRecursion (λ q. register_of held (position_in held q) ≡ q) rs
back-all held len [] tidy sets = tt
back-all held len (r ∷ rs) tidy sets = (back-at held len r tidy sets.0, back-all held len rs tidy sets.1)

-- there is one least free register
one-least : (held : List (Option ℕ)) (later : List Instr) (outs : List ℕ) (r s : ℕ) → IsLeastFree held later outs r → IsLeastFree held later outs s → r ≡ s
one-least held later outs r s left right = omega (arith, not_below r s left right, not_below s r right left) where
  not_below : (a b : ℕ) → IsLeastFree held later outs a → IsLeastFree held later outs b → a < b → ⊥
  not_below a b first second below = false≢true (sym (second.least a below) ∙ first.free)

-- the heads and the rests of equal lists
head-same : {X : Type 0} (x y : X) (xs ys : List X) → x ∷ xs ≡ y ∷ ys → x ≡ y
head-same x y xs ys e = cc

-- the same of the rests
tail-same : {X : Type 0} (x y : X) (xs ys : List X) → x ∷ xs ≡ y ∷ ys → xs ≡ ys
tail-same x y xs ys e = cc

-- instructions that are renamed to the same, read entries and go to the same register are the same
instr-same : (held : List (Option ℕ)) (len : ℕ) (i j : RegInstr) → IsTidy held len → IsCarried held i → IsCarried held j
    → renamed_instr held i ≡ renamed_instr held j → target i ≡ target j → i ≡ j
instr-same held len i j tidy left right same to =
    parts-same i j to
    (sym (with_operands-back (position_in held) (register_of held) (operation i) (back-all held len (operands (operation i)) tidy left.reads))
    ∙ ap (with_operands (register_of held)) same
    ∙ with_operands-back (position_in held) (register_of held) (operation j) (back-all held len (operands (operation j)) tidy right.reads))

-- instructions that are renamed to the same and go to the least registers are the same
instrs-same : (held : List (Option ℕ)) (position : ℕ) (is js : List RegInstr) (code : List Instr) (outs ends others : List ℕ)
    → IsTidy held position → Runs held position is ends → Runs held position js others
    → renamed_instrs held position is ≡ code → renamed_instrs held position js ≡ code
    → GoLeast held position outs is code → GoLeast held position outs js code → is ≡ js
unfolding renamed_instrs GoLeast Runs
instrs-same held position [] [] code outs ends others tidy left right first second least also = refl
instrs-same held position [] (j ∷ js) code outs ends others tidy left right first second least also = absurd (apart first second) where
  apart : [] ≡ code → renamed_instrs held position (j ∷ js) ≡ code → ⊥
  apart e f = cc
instrs-same held position (i ∷ is) [] code outs ends others tidy left right first second least also = absurd (apart first second) where
  apart : renamed_instrs held position (i ∷ is) ≡ code → [] ≡ code → ⊥
  apart e f = cc
instrs-same held position (i ∷ is) (j ∷ js) [] outs ends others tidy left right first second least also = absurd least
instrs-same held position (i ∷ is) (j ∷ js) (c ∷ later) outs ends others tidy left right first second least also =
    let next = stepped held position i in
    let to : target i ≡ target j = one-least held later outs (target i) (target j) least.0 also.0 in
    let head : renamed_instr held i ≡ renamed_instr held j =
    head-same (renamed_instr held i) c (renamed_instrs next (position + 1) is) later first
    ∙ sym (head-same (renamed_instr held j) c (renamed_instrs (stepped held position j) (position + 1) js) later second) in
    let same : i ≡ j = instr-same held position i j tidy left.0 right.0 head to in
    let stays : stepped held position j ≡ next = ap (λ (r : ℕ). set held r (Some position)) (sym to) in
    let rest : is ≡ js = instrs-same next (position + 1) is js later outs ends others (tidy-step held position (target i) tidy) left.1
    (subst (λ (h : List (Option ℕ)). Runs h (position + 1) js others) stays right.1)
    (tail-same (renamed_instr held i) c (renamed_instrs next (position + 1) is) later first)
    (subst (λ (h : List (Option ℕ)). renamed_instrs h (position + 1) js ≡ later) stays
    (tail-same (renamed_instr held j) c (renamed_instrs (stepped held position j) (position + 1) js) later second))
    least.1 (subst (λ (h : List (Option ℕ)). GoLeast h (position + 1) outs js later) stays also.1) in
    ap (λ (x : RegInstr). x ∷ is) same ∙ ap (λ (xs : List RegInstr). j ∷ xs) rest

-- what is held behind instructions is tidy
pub tidy-behind : (held : List (Option ℕ)) (position : ℕ) (is : List RegInstr) → IsTidy held position
    → IsTidy (held_behind held position is) (position + length is)
unfolding held_behind
tidy-behind held position [] tidy =
    let e : position ≡ position + 0 = omega arith in
    subst (IsTidy held) e tidy
tidy-behind held position (i ∷ is) tidy =
    let e : position + 1 + length is ≡ position + suc (length is) = omega arith in
    subst (IsTidy (held_behind (stepped held position i) (position + 1) is)) e
    (tidy-behind (stepped held position i) (position + 1) is (tidy-step held position (target i) tidy))

-- and the outs read entries there
pub runs-outs : (held : List (Option ℕ)) (position : ℕ) (is : List RegInstr) (outs : List ℕ) → Runs held position is outs
    → AreSet (held_behind held position is) outs
unfolding held_behind Runs
runs-outs held position [] outs runs = runs
runs-outs held position (i ∷ is) outs runs = runs-outs (stepped held position i) (position + 1) is outs runs.1

-- outs that are renamed to the same are the same
outs-same : (held : List (Option ℕ)) (len : ℕ) (rs ss : List ℕ) → IsTidy held len → AreSet held rs → AreSet held ss
    → map (position_in held) rs ≡ map (position_in held) ss → rs ≡ ss
outs-same held len [] [] tidy left right same = refl
outs-same held len [] (s ∷ ss) tidy left right same = absurd (apart same) where
  apart : [] ≡ position_in held s ∷ map (position_in held) ss → ⊥
  apart e = cc
outs-same held len (r ∷ rs) [] tidy left right same = absurd (apart same) where
  apart : position_in held r ∷ map (position_in held) rs ≡ [] → ⊥
  apart e = cc
outs-same held len (r ∷ rs) (s ∷ ss) tidy left right same =
    let head : r ≡ s = sym (back-at held len r tidy left.0)
    ∙ ap (register_of held) (head-same (position_in held r) (position_in held s) (map (position_in held) rs) (map (position_in held) ss) same)
    ∙ back-at held len s tidy right.0 in
    let rest : rs ≡ ss = outs-same held len rs ss tidy left.1 right.1
    (tail-same (position_in held r) (position_in held s) (map (position_in held) rs) (map (position_in held) ss) same) in
    ap (λ (x : ℕ). x ∷ rs) head ∙ ap (λ (xs : List ℕ). s ∷ xs) rest

-- register code of the same shape is the same where its instructions and outs are
same-shape : (field : FieldId) (order secrets publics registers : ℕ) (maps : List AddMap) (is js : List RegInstr) (rs ss : List ℕ) → is ≡ js → rs ≡ ss
    → ◌≡◌ {A = RegListing}
    (record { field = field; order = order; secrets = secrets; publics = publics; registers = registers; maps = maps; instrs = is; outs = rs })
    (record { field = field; order = order; secrets = secrets; publics = publics; registers = registers; maps = maps; instrs = js; outs = ss })
same-shape field order secrets publics registers maps is js rs ss left right =
    let shape : List RegInstr → List ℕ → RegListing =
    λ xs ys. record { field = field; order = order; secrets = secrets; publics = publics; registers = registers; maps = maps; instrs = xs; outs = ys } in
    ap (λ (xs : List RegInstr). shape xs rs) left ∙ ap (shape js) right

-- the shape that register code has as what is allocated for code
abbrev shaped : Listing → RegListing → RegListing
shaped code r = record {
  field = code.field;
  order = code.order;
  secrets = code.secrets;
  publics = code.publics;
  registers = width code;
  maps = code.maps;
  instrs = r.instrs;
  outs = r.outs;
}

-- it has it
has-shape : (code : Listing) (r : RegListing) → IsAllocated code r → r ≡ shaped code r
has-shape code r is =
    let same : renamed r ≡ code = is.renamed.same in
    ap (λ (f : FieldId). record r { field = f }) (ap (λ (c : Listing). c.field) same)
    ∙ ap (λ (n : ℕ). record r { field = code.field; order = n }) (ap (λ (c : Listing). c.order) same)
    ∙ ap (λ (n : ℕ). record r { field = code.field; order = code.order; secrets = n }) (ap (λ (c : Listing). c.secrets) same)
    ∙ ap (λ (n : ℕ). record r { field = code.field; order = code.order; secrets = code.secrets; publics = n }) (ap (λ (c : Listing). c.publics) same)
    ∙ ap (λ (n : ℕ). record r { field = code.field; order = code.order; secrets = code.secrets; publics = code.publics; registers = n }) is.registers
    ∙ ap (λ (ms : List AddMap). record (shaped code r) { maps = ms }) (ap (λ (c : Listing). c.maps) same)

-- what is allocated is determined, where both have the shape
shaped-same : (code : Listing) (r s : RegListing) → IsAllocated code (shaped code r) → IsAllocated code (shaped code s) → shaped code r ≡ shaped code s
shaped-same code r s left right =
    let entries : ℕ = inputs_len code.order code.secrets code.publics in
    let held = held_on_entry entries (width code) in
    let tidy = tidy-entry entries (width code) in
    let e : entries + 0 ≡ entries = omega arith in
    let first : Runs held entries r.instrs r.outs =
    subst (λ (n : ℕ). Runs held n r.instrs r.outs) e (runs-from_none entries 0 held r.instrs r.outs left.renamed.runs) in
    let second : Runs held entries s.instrs s.outs =
    subst (λ (n : ℕ). Runs held n s.instrs s.outs) e (runs-from_none entries 0 held s.instrs s.outs right.renamed.runs) in
    let instrs : r.instrs ≡ s.instrs = instrs-same held entries r.instrs s.instrs code.instrs code.outs r.outs s.outs tidy first second
    (ap (λ (c : Listing). c.instrs) left.renamed.same) (ap (λ (c : Listing). c.instrs) right.renamed.same) left.least right.least in
    let ends = held_behind held entries r.instrs in
    let also : held_behind held entries s.instrs ≡ ends = ap (held_behind held entries) (sym instrs) in
    let outs : r.outs ≡ s.outs = outs-same ends (entries + length r.instrs) r.outs s.outs (tidy-behind held entries r.instrs tidy)
    (runs-outs held entries r.instrs r.outs first)
    (subst (λ (h : List (Option ℕ)). AreSet h s.outs) also (runs-outs held entries s.instrs s.outs second))
    (ap (λ (c : Listing). c.outs) left.renamed.same ∙ sym (ap (λ (c : Listing). c.outs) right.renamed.same)
    ∙ ap (λ (h : List (Option ℕ)). map (position_in h) s.outs) also) in
    same-shape code.field code.order code.secrets code.publics (width code) code.maps r.instrs s.instrs r.outs s.outs instrs outs

-- so what is allocated for code is one register code
pub allocated-one : (code : Listing) (r s : RegListing) → IsAllocated code r → IsAllocated code s → r ≡ s
allocated-one code r s left right =
    has-shape code r left
    ∙ shaped-same code r s (subst (IsAllocated code) (has-shape code r left) left) (subst (IsAllocated code) (has-shape code s right) right)
    ∙ sym (has-shape code s right)
