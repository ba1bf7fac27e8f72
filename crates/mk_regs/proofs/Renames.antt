-- Renaming instruction by instruction.
use Rattle.std.proofs.Common.{◌≡◌, ℕ, suc, ◌+◌, ◌<◌, ◌≤◌, ◌++◌, List, [], ◌∷◌, Option, Some, None, length, map, drop, get_or, unwrap_or, All, sym, ◌∙◌, ap, arith, subst, append_assoc, append-nil, zero}
use Rattle.std.specs.Option.{option_or}
use Rattle.std.specs.List.{AllByRecursion}
use Rattle.std.proofs.lemmas.List.{at_drop_more, drop_all, length-map}
use Rattle.std.proofs.lemmas.List.Elements.{All-from_get_or}
use Rattle.mk_field.specs.declared.field.FieldId.{FieldId}
use Rattle.mk_code.specs.declared.instr.Instr.{Instr}
use Rattle.mk_code.specs.Listing.{IsListing, AllFit, trace_len}
use Rattle.mk_regs.specs.declared.instr.RegInstr.{RegInstr}
use Rattle.mk_regs.specs.declared.instr.RegInstr.TheVariants.{Rnd}
use Rattle.mk_regs.specs.declared.refusal.RegRefusal.{RegRefusal}
use Rattle.mk_regs.specs.Form.{RegListing, IsRegListing, target, operation, operands, entries_len, HasParts}
use Rattle.mk_regs.specs.Renaming.{position_in, held_on_entry, stepped, held_behind, held_at_end, renamed_instr, renamed_instrs, renamed, instr_refusal, out_refusal, outs_refusal, first_refusal, refusal_of}
use Rattle.mk_regs.proofs.Parts.{operands-with, fits-from_parts, parts-with}
use Rattle.mk_regs.proofs.Held.{IsTidy, tidy-entry, tidy-step}
use Rattle.mk_regs.proofs.Running.{AreSet, Runs, runs-from_none}
use Rattle.mk_regs.proofs.Privacy.{length-renamed}
use Rattle.mk_regs.proofs.Unique.{tidy-behind, runs-outs}

-- an out that isn't refused leaves the refusals of those behind it
pub outs-step : (held : List (Option ℕ)) (k : ℕ) (outs : List ℕ) (i : ℕ) → i < length outs → out_refusal held k (get_or outs i 0) ≡ None
    → outs_refusal held k (drop i outs) ≡ outs_refusal held k (drop (i + 1) outs)
unfolding outs_refusal
outs-step held k outs i below none =
    at_drop_more (outs_refusal held k) outs i 0 below
    ∙ ap (λ (o : Option RegRefusal). option_or o (outs_refusal held k (drop (i + 1) outs))) none

-- the first one that is refused
pub outs-refused : (held : List (Option ℕ)) (k : ℕ) (outs : List ℕ) (i : ℕ) (e : RegRefusal) → i < length outs → out_refusal held k (get_or outs i 0) ≡ Some e
    → outs_refusal held k (drop i outs) ≡ Some e
unfolding outs_refusal
outs-refused held k outs i e below one =
    at_drop_more (outs_refusal held k) outs i 0 below
    ∙ ap (λ (o : Option RegRefusal). option_or o (outs_refusal held k (drop (i + 1) outs))) one

-- none is left
pub outs-end : (held : List (Option ℕ)) (k : ℕ) (outs : List ℕ) (i : ℕ) → length outs ≤ i → outs_refusal held k (drop i outs) ≡ None
unfolding outs_refusal
outs-end held k outs i past = ap (outs_refusal held k) (drop_all i outs past)

-- an instruction that isn't refused leaves the refusals of those behind it
pub refusal-step : (entries k : ℕ) (held : List (Option ℕ)) (is : List RegInstr) (outs : List ℕ) (i : ℕ) → i < length is
    → instr_refusal held k (get_or is i (Rnd 0)) ≡ None
    → first_refusal entries k held (drop i is) outs ≡ first_refusal entries (k + 1) (stepped held (entries + k) (get_or is i (Rnd 0))) (drop (i + 1) is) outs
unfolding first_refusal
refusal-step entries k held is outs i below none =
    let x = get_or is i (Rnd 0) in
    at_drop_more (λ js. first_refusal entries k held js outs) is i (Rnd 0) below
    ∙ ap (λ (o : Option RegRefusal). option_or o (first_refusal entries (k + 1) (stepped held (entries + k) x) (drop (i + 1) is) outs)) none

-- the first one that is refused
pub refusal-here : (entries k : ℕ) (held : List (Option ℕ)) (is : List RegInstr) (outs : List ℕ) (i : ℕ) (e : RegRefusal) → i < length is
    → instr_refusal held k (get_or is i (Rnd 0)) ≡ Some e
    → first_refusal entries k held (drop i is) outs ≡ Some e
unfolding first_refusal
refusal-here entries k held is outs i e below one =
    let x = get_or is i (Rnd 0) in
    at_drop_more (λ js. first_refusal entries k held js outs) is i (Rnd 0) below
    ∙ ap (λ (o : Option RegRefusal). option_or o (first_refusal entries (k + 1) (stepped held (entries + k) x) (drop (i + 1) is) outs)) one

-- behind all instructions the outs are left
pub refusal-end : (entries k : ℕ) (held : List (Option ℕ)) (is : List RegInstr) (outs : List ℕ) (i : ℕ) → length is ≤ i
    → first_refusal entries k held (drop i is) outs ≡ outs_refusal held k outs
unfolding first_refusal
refusal-end entries k held is outs i past = ap (λ (js : List RegInstr). first_refusal entries k held js outs) (drop_all i is past)

-- one more instruction renamed
pub renamed-step : (position : ℕ) (held : List (Option ℕ)) (is : List RegInstr) (i : ℕ) (done : List Instr) → i < length is
    → done ++ renamed_instrs held position (drop i is)
    ≡ (done ++ renamed_instr held (get_or is i (Rnd 0)) ∷ []) ++ renamed_instrs (stepped held position (get_or is i (Rnd 0))) (position + 1) (drop (i + 1) is)
unfolding renamed_instrs
renamed-step position held is i done below =
    let x = get_or is i (Rnd 0) in
    ap (λ (cs : List Instr). done ++ cs) (at_drop_more (renamed_instrs held position) is i (Rnd 0) below)
    ∙ sym (append_assoc done (renamed_instr held x ∷ []) (renamed_instrs (stepped held position x) (position + 1) (drop (i + 1) is)))

-- behind all instructions nothing more is renamed
pub renamed-end : (position : ℕ) (held : List (Option ℕ)) (is : List RegInstr) (i : ℕ) (done : List Instr) → length is ≤ i
    → done ++ renamed_instrs held position (drop i is) ≡ done
unfolding renamed_instrs
renamed-end position held is i done past =
    ap (λ (js : List RegInstr). done ++ renamed_instrs held position js) (drop_all i is past) ∙ append-nil done

-- what is held behind one more instruction
pub held-next : (position : ℕ) (held : List (Option ℕ)) (is : List RegInstr) (i : ℕ) → i < length is
    → held_behind held position (drop i is) ≡ held_behind (stepped held position (get_or is i (Rnd 0))) (position + 1) (drop (i + 1) is)
unfolding held_behind
held-next position held is i below = at_drop_more (held_behind held position) is i (Rnd 0) below

-- behind all instructions what is held stays
pub held-end : (position : ℕ) (held : List (Option ℕ)) (is : List RegInstr) (i : ℕ) → length is ≤ i → held_behind held position (drop i is) ≡ held
unfolding held_behind
held-end position held is i past = ap (held_behind held position) (drop_all i is past)

-- the positions of the entries that registers hold are below the number of entries
positions-below : (held : List (Option ℕ)) (len : ℕ) (rs : List ℕ) → IsTidy held len → AreSet held rs → AllByRecursion (λ q. q < len) (map (position_in held) rs)
positions-below held len [] tidy sets = tt
positions-below held len (r ∷ rs) tidy sets =
    let at : position_in held r ≡ sets.0.0 = ap (λ (o : Option ℕ). unwrap_or o 0) sets.0.1 in
    (omega (arith, at, tidy.below r sets.0.0 sets.0.1), positions-below held len rs tidy sets.1)

-- the renamed instructions fit
fits-renamed : (field : FieldId) (maps : ℕ) (held : List (Option ℕ)) (position : ℕ) (is : List RegInstr) (outs : List ℕ)
    → IsTidy held position → Runs held position is outs → AllByRecursion (λ i. HasParts field maps (operation i)) is
    → AllFit field maps position (renamed_instrs held position is)
unfolding renamed_instrs Runs
fits-renamed field maps held position [] outs tidy runs parts = tt
fits-renamed field maps held position (i ∷ is) outs tidy runs parts =
    let below : AllByRecursion (λ q. q < position) (operands (renamed_instr held i)) =
    subst (AllByRecursion (λ q. q < position)) (sym (operands-with (position_in held) (operation i))) (positions-below held position (operands (operation i)) tidy runs.0.reads) in (
      fits-from_parts field maps position (renamed_instr held i) (parts-with field maps (position_in held) (operation i) parts.0) below,
      fits-renamed field maps (stepped held position i) (position + 1) is outs (tidy-step held position (target i) tidy) runs.1 parts.1,
    )

-- of each element of a list
all-by-index : (len : ℕ) (xs : List ℕ) → AllByRecursion (λ q. q < len) xs → All (λ p. p < len) xs
all-by-index len [] all = λ i d below. absurd (omega (arith, below))
all-by-index len (x ∷ xs) all = All-from_get_or (λ (p : ℕ). p < len) (x ∷ xs) 0 (at x xs all) where
  at : (x : ℕ) (xs : List ℕ) → AllByRecursion (λ q. q < len) (x ∷ xs) → (i : ℕ) → i < length (x ∷ xs) → get_or (x ∷ xs) i 0 < len
  at x xs all zero below = all.0
  at x [] all (suc i) below = absurd (omega (arith, below))
  at x (y ∷ ys) all (suc i) below = at y ys all.1 i (omega arith)

-- renamed code fits together
pub renamed-fits : (r : RegListing) → IsRegListing r → refusal_of r ≡ None → IsListing (renamed r)
renamed-fits r listing none =
    let entries = entries_len r in
    let held = held_on_entry entries r.registers in
    let e : entries + 0 ≡ entries = omega arith in
    let runs : Runs held entries r.instrs r.outs =
    subst (λ (n : ℕ). Runs held n r.instrs r.outs) e (runs-from_none entries 0 held r.instrs r.outs none) in
    let long = length-renamed held entries r.instrs in
    let len : entries + length r.instrs ≡ trace_len (renamed r) = omega (arith, long) in
    record {
      order = listing.order;
      secrets = listing.secrets;
      publics = listing.publics;
      maps = listing.maps;
      bytes = listing.bytes;
      few = omega (arith, long, listing.few);
      fit = fits-renamed r.field (length r.maps) held entries r.instrs r.outs (tidy-entry entries r.registers) runs listing.parts;
      outs = all-by-index (trace_len (renamed r)) (map (position_in (held_at_end r)) r.outs)
          (subst (λ (n : ℕ). AllByRecursion (λ q. q < n) (map (position_in (held_at_end r)) r.outs)) len
          (positions-below (held_at_end r) (entries + length r.instrs) r.outs
          (tidy-behind held entries r.instrs (tidy-entry entries r.registers)) (runs-outs held entries r.instrs r.outs runs)));
      outputs = (listing.outputs.0, listing.outputs.1, length-map r.outs (position_in (held_at_end r)) ∙ listing.outputs.2);
    }
