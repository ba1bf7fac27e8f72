-- Register code and what it is renamed to have equal traces.
use Rattle.std.proofs.Common.{◌≡◌, ℕ, ◌+◌, ◌*◌, ◌-◌, ◌<◌, ◌≤◌, List, [], ◌∷◌, ◌++◌, length, drop, set, replicate, slice_index, Option, Some, unwrap_or, inl, inr, sym, ◌∙◌, ap, arith, subst, append_assoc, length-append, get_or-set_other, get_or-set_same}
use Rattle.std.specs.List.{AllByRecursion}
use Rattle.std.proofs.lemmas.Bool.{cases_eq}
use Rattle.std.proofs.lemmas.List.{length-set, get_or_append_left, get_or_at, append-nil, length-replicate}
use Rattle.std.proofs.lemmas.Option.{same_Some}
use Rattle.mk_field.specs.declared.field.FieldId.{FieldId}
use Rattle.mk_field.specs.declared.map.AddMap.{AddMap}
use Rattle.mk_code.specs.Listing.{Listing}
use Rattle.mk_code.specs.Trace.{entry, takes, run, trace}
use Rattle.mk_regs.specs.declared.instr.RegInstr.{RegInstr}
use Rattle.mk_regs.specs.Form.{RegListing, target, operation, operands, entries_len}
use Rattle.mk_regs.specs.Renaming.{holding, position_in, held_on_entry, stepped, renamed_instr, renamed_instrs, IsRenamed}
use Rattle.mk_regs.specs.Trace.{register_run, contents_on_entry, register_trace}
use Rattle.mk_regs.proofs.Parts.{entry-with, takes-with}
use Rattle.mk_regs.proofs.Held.{IsTidy, tidy-entry, tidy-step, holding-set, holding-other, held-length, held-entry}
use Rattle.mk_regs.proofs.Running.{AreSet, Runs, runs-from_none}

-- each register that holds an entry contains its value
pub record Contains (held : List (Option ℕ)) (entries contents : List ℕ) : Type 0 where
  pub long : length held ≤ length contents
  pub tidy : IsTidy held (length entries)
  pub same : (r p : ℕ) → holding held r ≡ Some p → slice_index contents r ≡ slice_index entries p

-- the entry at the position that a register holds is what the register holds by value
operands-same : (held : List (Option ℕ)) (entries contents : List ℕ) → Contains held entries contents → (rs : List ℕ) → AreSet held rs
    → AllByRecursion (λ q. slice_index entries (position_in held q) ≡ slice_index contents q) rs
operands-same held entries contents has [] sets = tt
operands-same held entries contents has (r ∷ rs) sets = (
  ap (λ (o : Option ℕ). slice_index entries (unwrap_or o 0)) sets.0.1 ∙ sym (has.same r sets.0.0 sets.0.1),
  operands-same held entries contents has rs sets.1,
)

-- one more entry, in a register
contains-step : (held : List (Option ℕ)) (entries contents : List ℕ) (to a : ℕ) → to < length held → Contains held entries contents
    → Contains (set held to (Some (length entries))) (entries ++ a ∷ []) (set contents to a)
contains-step held entries contents to a there has = record {
  long = omega (arith, has.long, length-set held to (Some (length entries)), length-set contents to a);
  tidy = subst (IsTidy (set held to (Some (length entries)))) (sym (length-append entries (a ∷ []))) (tidy-step held (length entries) to has.tidy);
  same = λ r p holds. elim (cases_eq r to) [
    | inl here ↦
        let at : p ≡ length entries = same_Some p (length entries) (sym holds ∙ ap (holding (set held to (Some (length entries)))) here ∙ holding-set held to (length entries) there) in
        let in_contents : to < length contents = omega (arith, has.long) in
        ap (slice_index (set contents to a)) here ∙ get_or-set_same contents to a 0 in_contents
        ∙ sym (get_or_at entries a [] 0 p (sym at))
    | inr other ↦
        let before : holding held r ≡ Some p = sym (holding-other held to (length entries) r other) ∙ holds in
        get_or-set_other contents to r a 0 other ∙ has.same r p before
        ∙ sym (get_or_append_left entries (a ∷ []) 0 p (has.tidy.below r p before))
  ];
}

-- the entries of the renamed instructions are those of the instructions
pub run-renamed : (field : FieldId) (maps : List AddMap) (is : List RegInstr) (outs tape : List ℕ) (held : List (Option ℕ)) (entries contents : List ℕ)
    → Contains held entries contents → Runs held (length entries) is outs
    → run field maps (renamed_instrs held (length entries) is) tape entries ≡ entries ++ register_run field maps is tape contents
unfolding run renamed_instrs register_run Runs
run-renamed field maps [] outs tape held entries contents has runs = sym (append-nil entries)
run-renamed field maps (i ∷ is) outs tape held entries contents has runs =
    let c = renamed_instr held i in
    let word = slice_index tape 0 in
    let a = entry field maps (operation i) word contents in
    let same : entry field maps c word entries ≡ a =
    entry-with field maps (position_in held) (operation i) word entries contents (operands-same held entries contents has (operands (operation i)) runs.0.reads) in
    let long : length entries + 1 ≡ length (entries ++ a ∷ []) = sym (length-append entries (a ∷ [])) in
    let next = stepped held (length entries) i in
    let behind : Runs next (length (entries ++ a ∷ [])) is outs = subst (λ (n : ℕ). Runs next n is outs) long runs.1 in
    ap (λ (b : ℕ). run field maps (renamed_instrs next (length entries + 1) is) (drop (takes c) tape) (entries ++ b ∷ [])) same
    ∙ ap (λ (n : ℕ). run field maps (renamed_instrs next n is) (drop (takes c) tape) (entries ++ a ∷ [])) long
    ∙ ap (λ (n : ℕ). run field maps (renamed_instrs next (length (entries ++ a ∷ [])) is) (drop n tape) (entries ++ a ∷ [])) (takes-with (position_in held) (operation i))
    ∙ run-renamed field maps is outs (drop (takes (operation i)) tape) next (entries ++ a ∷ []) (set contents (target i) a)
    (contains-step held entries contents (target i) a runs.0.there has) behind
    ∙ append_assoc entries (a ∷ []) (register_run field maps is (drop (takes (operation i)) tape) (set contents (target i) a))

-- on entry
contains-entry : (r : RegListing) (entries : List ℕ) → length entries ≡ entries_len r → entries_len r ≤ r.registers
    → Contains (held_on_entry (entries_len r) r.registers) entries (contents_on_entry r entries)
contains-entry r entries long room = record {
  long = omega (arith, held-length (entries_len r) r.registers, length-append entries (replicate (r.registers - entries_len r) 0), length-replicate {A = ℕ} (r.registers - entries_len r) 0, long);
  tidy = subst (IsTidy (held_on_entry (entries_len r) r.registers)) (sym long) (tidy-entry (entries_len r) r.registers);
  same = λ s p holds.
      let at = held-entry (entries_len r) r.registers s p holds in
      get_or_append_left entries (replicate (r.registers - entries_len r) 0) 0 s (omega (arith, at.1, long)) ∙ ap (slice_index entries) (sym at.0);
}

-- the traces are equal
pub traces-same : (r : RegListing) (code : Listing) → entries_len r ≤ r.registers → IsRenamed r code
    → (publics shares tape : List ℕ) → length publics ≡ r.publics → length shares ≡ r.secrets * (r.order + 1)
    → register_trace r publics shares tape ≡ trace code publics shares tape
traces-same r code room is publics shares tape public shared =
    let entries = shares ++ publics in
    let long : length entries ≡ entries_len r = omega (arith, length-append shares publics) in
    let held = held_on_entry (entries_len r) r.registers in
    let e : entries_len r + 0 ≡ length entries = omega arith in
    let runs : Runs held (length entries) r.instrs r.outs =
    subst (λ (n : ℕ). Runs held n r.instrs r.outs) e (runs-from_none (entries_len r) 0 held r.instrs r.outs is.runs) in
    sym (run-renamed r.field r.maps r.instrs r.outs tape held entries (contents_on_entry r entries) (contains-entry r entries long room) runs)
    ∙ ap (λ (n : ℕ). run r.field r.maps (renamed_instrs held n r.instrs) tape entries) long
    ∙ ap (λ (c : Listing). trace c publics shares tape) is.same
