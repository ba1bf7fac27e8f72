-- Register code has at least as many registers as the code that it is renamed to is wide.
use Rattle.std.proofs.Common.{◌≡◌, ℕ, zero, suc, ◌+◌, ◌≤◌, ◌<◌, true, nat_eq, ◌||◌, List, [], ◌∷◌, Option, Some, length, drop, map, set, unwrap_or, inl, inr, sym, ◌∙◌, ap, arith, subst}
use Rattle.std.proofs.lemmas.Bool.{cases_eq, eqb-true, or_cases, false≢true}
use Rattle.std.proofs.lemmas.List.{length-set}
use Rattle.std.proofs.lemmas.Option.{same_Some}
use Rattle.mk_code.specs.declared.instr.Instr.{Instr}
use Rattle.mk_code.specs.Listing.{Listing, inputs_len}
use Rattle.mk_regs.specs.declared.instr.RegInstr.{RegInstr}
use Rattle.mk_regs.specs.Form.{RegListing, target, operation, operands, entries_len}
use Rattle.mk_regs.specs.Renaming.{holding, position_in, held_on_entry, stepped, held_behind, renamed_instr, renamed_instrs, renamed, IsRenamed}
use Rattle.mk_regs.specs.Width.{is_among, is_read, live_count, most_live, width}
use Rattle.mk_regs.proofs.Parts.{operands-with}
use Rattle.mk_regs.proofs.Held.{holding-set, holding-other, held-length}
use Rattle.mk_regs.proofs.Running.{AreSet, Runs, runs-from_none}
use Rattle.mk_regs.proofs.Counts.{count-held}

-- a position that is read stands in a register
among-positions : (held : List (Option ℕ)) (rs : List ℕ) (p : ℕ) → AreSet held rs → is_among p (map (position_in held) rs) ≡ true
    → (r : ℕ) × (holding held r ≡ Some p)
among-positions held [] p sets among = absurd (false≢true among)
among-positions held (r ∷ rs) p sets among = elim (or_cases (nat_eq (position_in held r) p) (is_among p (map (position_in held) rs)) among) [
  | inl here ↦ (r, sets.0.1 ∙ ap (λ (q : ℕ). Some q) (sym (ap (λ (o : Option ℕ). unwrap_or o 0) sets.0.1) ∙ eqb-true (position_in held r) p here))
  | inr behind ↦ among-positions held rs p sets.1 behind
]

-- the register that is written holds the new entry alone
written : (held : List (Option ℕ)) (to position p : ℕ) → to < length held → holding (set held to (Some position)) to ≡ Some p → p ≡ position
written held to position p there holds = same_Some p position (sym holds ∙ holding-set held to position there)

-- an entry that is read later stands in a register
pub live-held : (held : List (Option ℕ)) (position : ℕ) (is : List RegInstr) (outs : List ℕ) (p : ℕ) → Runs held position is outs
    → is_read (renamed_instrs held position is) (map (position_in (held_behind held position is)) outs) p ≡ true → p < position
    → (r : ℕ) × (holding held r ≡ Some p)
unfolding is_read renamed_instrs held_behind Runs
live-held held position [] outs p runs read below = among-positions held outs p runs read
live-held held position (i ∷ is) outs p runs read below =
    let later = is_read (renamed_instrs (stepped held position i) (position + 1) is) (map (position_in (held_behind (stepped held position i) (position + 1) is)) outs) p in
    elim (or_cases (is_among p (operands (renamed_instr held i))) later read) [
      | inl now ↦ among-positions held (operands (operation i)) p runs.0.reads (sym (ap (is_among p) (operands-with (position_in held) (operation i))) ∙ now)
      | inr behind ↦
          let there = live-held (stepped held position i) (position + 1) is outs p runs.1 behind (omega arith) in
          elim (cases_eq there.0 (target i)) [
            | inl same ↦
                absurd (omega (arith, written held (target i) position p runs.0.there (sym (ap (holding (stepped held position i)) same) ∙ there.1)))
            | inr other ↦ (there.0, sym (holding-other held (target i) position there.0 other) ∙ there.1)
          ]
    ]

-- behind each instruction there are at most as many live entries as registers
most-held : (held : List (Option ℕ)) (position : ℕ) (is : List RegInstr) (outs : List ℕ) → Runs held position is outs
    → most_live position (renamed_instrs held position is) (map (position_in (held_behind held position is)) outs) ≤ length held
unfolding most_live renamed_instrs held_behind Runs
most-held held position [] outs runs = omega arith
most-held held position (i ∷ is) outs runs =
    let next = stepped held position i in
    let later = renamed_instrs next (position + 1) is in
    let ends = map (position_in (held_behind next (position + 1) is)) outs in
    let here : live_count position later ends ≤ length next =
    count-held next (position + 1) (λ p. nat_eq p position || is_read later ends p)
    (λ p below passes. elim (or_cases (nat_eq p position) (is_read later ends p) passes) [
      | inl own ↦ (target i, holding-set held (target i) position runs.0.there ∙ ap (λ (q : ℕ). Some q) (sym (eqb-true p position own)))
      | inr read ↦ live-held next (position + 1) is outs p runs.1 read below
    ]) in
    omega (arith, here, most-held next (position + 1) is outs runs.1, length-set held (target i) (Some position))

-- so the width is at most the number of registers
pub width-least : (code : Listing) (r : RegListing) → entries_len r ≤ r.registers → IsRenamed r code → width code ≤ r.registers
width-least code r room is =
    let held = held_on_entry (entries_len r) r.registers in
    let e : entries_len r + 0 ≡ entries_len r = omega arith in
    let runs : Runs held (entries_len r) r.instrs r.outs =
    subst (λ (n : ℕ). Runs held n r.instrs r.outs) e (runs-from_none (entries_len r) 0 held r.instrs r.outs is.runs) in
    let few : width (renamed r) ≤ r.registers =
    omega (arith, most-held held (entries_len r) r.instrs r.outs runs, held-length (entries_len r) r.registers) in
    subst (λ (c : Listing). width c ≤ r.registers) is.same few

-- the live entries behind each instruction are at most as many as the code is wide
live-most : (position : ℕ) (is : List Instr) (outs : List ℕ) (k : ℕ) → k < length is
    → live_count (position + k) (drop (k + 1) is) outs ≤ most_live position is outs
unfolding most_live
live-most position [] outs k below = absurd (omega arith)
live-most position (i ∷ is) outs zero below =
    let e : position + 0 ≡ position = omega arith in
    let d : 0 + 1 ≡ suc 0 = omega arith in
    let same : live_count (position + 0) (drop (0 + 1) (i ∷ is)) outs ≡ live_count position is outs =
    ap (λ (n : ℕ). live_count (position + 0) (drop n (i ∷ is)) outs) d ∙ ap (λ (n : ℕ). live_count n is outs) e in
    omega (arith, same)
live-most position (i ∷ is) outs (suc k) below =
    let e : position + 1 + k ≡ position + suc k = omega arith in
    let d : suc k + 1 ≡ suc (k + 1) = omega arith in
    let same : live_count (position + suc k) (drop (suc k + 1) (i ∷ is)) outs ≡ live_count (position + 1 + k) (drop (k + 1) is) outs =
    ap (λ (n : ℕ). live_count (position + suc k) (drop n (i ∷ is)) outs) d ∙ ap (λ (n : ℕ). live_count n (drop (k + 1) is) outs) (sym e) in
    let behind : live_count (position + 1 + k) (drop (k + 1) is) outs ≤ most_live (position + 1) is outs = live-most (position + 1) is outs k (omega arith) in
    omega (arith, behind, same)

-- behind each instruction at most as many entries are live as the code is wide
pub live-width : (code : Listing) (k : ℕ) → k < length code.instrs
    → live_count (inputs_len code.order code.secrets code.publics + k) (drop (k + 1) code.instrs) code.outs ≤ width code
live-width code k below =
    omega (arith, live-most (inputs_len code.order code.secrets code.publics) code.instrs code.outs k below)
