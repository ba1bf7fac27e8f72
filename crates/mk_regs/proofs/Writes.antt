-- What writes show are few positions of the trace.
use Rattle.std.proofs.Common.{◌≡◌, ℕ, zero, suc, ◌+◌, ◌*◌, ◌≤◌, ◌<◌, List, [], ◌∷◌, length, get_or, Option, Some, None, refl, arith, subst, length-append}
use Rattle.std.specs.Option.{option_to_list}
use Rattle.std.specs.List.{flat_map}
use Rattle.mk_code.specs.Counting.{AllBelow}
use Rattle.mk_code.proofs.Totals.{AllBelow-append}
use Rattle.mk_regs.specs.declared.instr.RegInstr.{RegInstr}
use Rattle.mk_regs.specs.Form.{RegListing, target, entries_len, register_trace_len}
use Rattle.mk_regs.specs.Renaming.{holding, held_on_entry, stepped}
use Rattle.mk_regs.specs.Trace.{IsPrivateOverRegisters}
use Rattle.mk_regs.specs.Transitions.{writes_from, shown_by_writes, transitions, IsPrivateAtWrites}
use Rattle.mk_regs.proofs.Held.{IsTidy, tidy-entry, tidy-step}

-- numbers below n are below a greater one
AllBelow-wider : (m n : ℕ) (xs : List ℕ) → m ≤ n → AllBelow m xs → AllBelow n xs
unfolding AllBelow
AllBelow-wider m n [] wide below = tt
AllBelow-wider m n (x ∷ xs) wide below = (omega (arith, below.0), AllBelow-wider m n xs wide below.1)

-- what a register held is one position at most
held-one : (held : List (Option ℕ)) (len : ℕ) (o : Option ℕ) → ((p : ℕ) → o ≡ Some p → p < len) → (length (option_to_list o) ≤ 1) × AllBelow len (option_to_list o)
unfolding AllBelow
held-one held len None below = (omega arith, tt)
held-one held len (Some p) below = (omega arith, (below p refl, tt))

-- a write shows at most two positions, of entries up to its own
write-few : (held : List (Option ℕ)) (position : ℕ) (is : List RegInstr) (k : ℕ) → IsTidy held position → k < length is
    → (length (get_or (writes_from held position is) k []) ≤ 2) × AllBelow (position + length is) (get_or (writes_from held position is) k [])
unfolding writes_from AllBelow
write-few held position [] k tidy below = absurd (omega arith)
write-few held position (i ∷ is) zero tidy below =
    let before = option_to_list (holding held (target i)) in
    let one = held-one held position (holding held (target i)) (tidy.below (target i)) in
    let wide : position ≤ position + suc (length is) = omega arith in (
      omega (arith, length-append before (position ∷ []), one.0),
      AllBelow-append (position + suc (length is)) before (position ∷ []) (AllBelow-wider position (position + suc (length is)) before wide one.1) (omega arith, tt),
    )
write-few held position (i ∷ is) (suc k) tidy below =
    let rest = write-few (stepped held position i) (position + 1) is k (tidy-step held position (target i) tidy) (omega arith) in
    let e : position + 1 + length is ≡ position + suc (length is) = omega arith in
    (rest.0, subst (λ (n : ℕ). AllBelow n (get_or (writes_from (stepped held position i) (position + 1) is) k [])) e rest.1)

-- several writes show at most twice as many
writes-few : (shown : List (List ℕ)) (n len : ℕ) (writes : List ℕ)
    → ((k : ℕ) → k < n → (length (get_or shown k []) ≤ 2) × AllBelow len (get_or shown k []))
    → AllBelow n writes
    → (length (flat_map (λ k. get_or shown k []) writes) ≤ 2 * length writes) × AllBelow len (flat_map (λ k. get_or shown k []) writes)
unfolding AllBelow
writes-few shown n len [] each below = (omega arith, tt)
writes-few shown n len (k ∷ ks) each below =
    let here = each k below.0 in
    let rest = writes-few shown n len ks each below.1 in (
      omega (arith, length-append (get_or shown k []) (flat_map (λ j. get_or shown j []) ks), here.0, rest.0),
      AllBelow-append len (get_or shown k []) (flat_map (λ j. get_or shown j []) ks) here.1 rest.1,
    )

-- private register code is private at writes
pub writes-private : (r : RegListing) → IsPrivateOverRegisters r → IsPrivateAtWrites r
writes-private r private publics first second writes seen public left right few below =
    let all = writes-few (shown_by_writes r) (length r.instrs) (register_trace_len r) writes
    (λ k there. write-few (held_on_entry (entries_len r) r.registers) (entries_len r) r.instrs k (tidy-entry (entries_len r) r.registers) there) below in
    private publics first second (transitions r writes) seen public left right (omega (arith, all.0, few)) all.1
