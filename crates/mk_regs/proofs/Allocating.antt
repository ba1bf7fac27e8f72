-- Register code in the making, as it is allocated.
use Rattle.std.proofs.Common.{◌≡◌, ℕ, suc, ◌+◌, ◌*◌, ◌<◌, ◌≤◌, Bool, true, nat_eq, nat_lt, nat_le, ◌&&◌, if◌then◌else◌, List, [], ◌∷◌, ◌++◌, length, map, take, drop, set, get_or, slice_index, Option, Some, None, unwrap_or, inl, inr, refl, sym, ◌∙◌, ap, arith, subst, mul-le-mul}
use Rattle.std.specs.List.{AllByRecursion, range_with_len}
use Rattle.std.specs.declared.cmp.Reverse.{Reverse}
use Rattle.std.proofs.lemmas.Bool.{cases_Bool, eq-eqb, lt-ltb, le-ltb, or_left, or_right, ltb-true, ltb-false}
use Rattle.std.proofs.lemmas.List.{drop_more, drop_all, take_more, take_all, length_push, length-set, length-map, get_or_past}
use Rattle.std.proofs.lemmas.List.Elements.{All-get_or}
use Rattle.std.proofs.lemmas.List.FromFn.{length-range_with_len, get_or-range_with_len}
use Rattle.mk_code.specs.declared.instr.Instr.{Instr}
use Rattle.mk_code.specs.declared.instr.Instr.TheVariants as op
use Rattle.mk_base.specs.declared.TheConstants.{TOP_ORDER}
use Rattle.mk_code.specs.declared.TheConstants.{MOST_INPUTS}
use Rattle.mk_code.specs.Listing.{Listing, IsListing, inputs_len, trace_len}
use Rattle.mk_code.proofs.Steps.{AllFit-at}
use Rattle.mk_regs.specs.declared.instr.RegInstr.{RegInstr}
use Rattle.mk_regs.specs.Form.{RegListing, IsRegListing, HasParts, target, operation, into_register, operands, with_operands}
use Rattle.mk_regs.specs.Renaming.{holding, position_in, held_on_entry, stepped, held_behind, renamed_instr, renamed_instrs, IsRenamed}
use Rattle.mk_regs.specs.Width.{is_among, is_read, width}
use Rattle.mk_regs.specs.Allocation.{is_unread, is_free, IsLeastFree, GoLeast, IsAllocated}
use Rattle.mk_regs.specs.Tables.{one_where, times_free, IsTaken, freed, TellsReads}
use Rattle.mk_regs.proofs.Parts.{target-into, operation-into, with_operands-back, operands-with, parts-fit}
use Rattle.mk_regs.proofs.Held.{IsTidy, held-length, held-at, tidy-entry}
use Rattle.mk_regs.proofs.Running.{AreSet, IsCarried, Runs, none-from_runs}
use Rattle.mk_regs.proofs.Widths.{width-least, live-width}
use Rattle.mk_regs.proofs.LastReads.{operands-there, all-wider}
use Rattle.mk_regs.proofs.Placing.{IsPlaced, AreAt, operands-at, unread-told, free-behind, IsChosen, chosen, placed-step, bumped-width}

-- one more instruction
pub held-push : (held : List (Option ℕ)) (position : ℕ) (is : List RegInstr) (i : RegInstr)
    → held_behind held position (is ++ i ∷ []) ≡ stepped (held_behind held position is) (position + length is) i
unfolding held_behind
held-push held position [] i =
    let e : position ≡ position + 0 = omega arith in
    ap (λ (n : ℕ). set held (target i) (Some n)) e
held-push held position (j ∷ is) i =
    let e : position + 1 + length is ≡ position + suc (length is) = omega arith in
    held-push (stepped held position j) (position + 1) is i
    ∙ ap (λ (n : ℕ). set (held_behind (stepped held position j) (position + 1) is) (target i) (Some n)) e

-- what is renamed where one instruction more stands at the end
pub renamed-push : (held : List (Option ℕ)) (position : ℕ) (is : List RegInstr) (i : RegInstr)
    → renamed_instrs held position (is ++ i ∷ []) ≡ renamed_instrs held position is ++ renamed_instr (held_behind held position is) i ∷ []
unfolding held_behind renamed_instrs
renamed-push held position [] i = refl
renamed-push held position (j ∷ is) i =
    ap (λ (cs : List Instr). renamed_instr held j ∷ cs) (renamed-push (stepped held position j) (position + 1) is i)

-- code that runs goes on running with an instruction that can be carried out behind it
pub runs-push : (held : List (Option ℕ)) (position : ℕ) (is : List RegInstr) (i : RegInstr) → Runs held position is []
    → IsCarried (held_behind held position is) i → Runs held position (is ++ i ∷ []) []
unfolding held_behind Runs
runs-push held position [] i runs carried = (carried, tt)
runs-push held position (j ∷ is) i runs carried = (runs.0, runs-push (stepped held position j) (position + 1) is i runs.1 carried)

-- each result still goes to the least free register, with one more that does
pub least-push : (held : List (Option ℕ)) (position : ℕ) (outs : List ℕ) (is : List RegInstr) (i : RegInstr) (code : List Instr)
    → GoLeast held position outs is code → length is < length code
    → IsLeastFree (held_behind held position is) (drop (length is + 1) code) outs (target i)
    → GoLeast held position outs (is ++ i ∷ []) code
unfolding held_behind GoLeast
least-push held position outs [] i [] least short here = absurd (omega arith)
least-push held position outs [] i (c ∷ later) least short here =
    let e : 0 + 1 ≡ suc 0 = omega arith in
    (subst (λ (n : ℕ). IsLeastFree held (drop n (c ∷ later)) outs (target i)) e here, tt)
least-push held position outs (j ∷ is) i [] least short here = absurd (omega arith)
least-push held position outs (j ∷ is) i (c ∷ later) least short here =
    let e : suc (length is) + 1 ≡ suc (length is + 1) = omega arith in (
      least.0,
      least-push (stepped held position j) (position + 1) outs is i later least.1 (omega arith)
          (subst (λ (n : ℕ). IsLeastFree (held_behind (stepped held position j) (position + 1) is) (drop n (c ∷ later)) outs (target i)) e here),
    )

-- as many registers as before
pub held_behind-length : (held : List (Option ℕ)) (position : ℕ) (is : List RegInstr) → length (held_behind held position is) ≡ length held
unfolding held_behind
held_behind-length held position [] = refl
held_behind-length held position (i ∷ is) =
    held_behind-length (stepped held position i) (position + 1) is ∙ length-set held (target i) (Some position)

-- outs that read entries behind instructions that run
pub runs-with_outs : (held : List (Option ℕ)) (position : ℕ) (is : List RegInstr) (outs : List ℕ) → Runs held position is []
    → AreSet (held_behind held position is) outs → Runs held position is outs
unfolding held_behind Runs
runs-with_outs held position [] outs runs sets = sets
runs-with_outs held position (i ∷ is) outs runs sets = (runs.0, runs-with_outs (stepped held position i) (position + 1) is outs runs.1 sets)

-- what is allocated behind k instructions, over so many registers
pub record IsSoFar (code : Listing) (k registers : ℕ) (done : List RegInstr) (register_of : List ℕ) (items : List (Reverse ℕ)) (next : ℕ) : Type 0 where
  pub count : length done ≡ k
  pub runs : Runs (held_on_entry (inputs_len code.order code.secrets code.publics) registers) (inputs_len code.order code.secrets code.publics) done []
  pub same : renamed_instrs (held_on_entry (inputs_len code.order code.secrets code.publics) registers) (inputs_len code.order code.secrets code.publics) done ≡ take k code.instrs
  pub least : GoLeast (held_on_entry (inputs_len code.order code.secrets code.publics) registers) (inputs_len code.order code.secrets code.publics) code.outs done code.instrs
  pub placed : IsPlaced code.outs (inputs_len code.order code.secrets code.publics + k) (drop k code.instrs)
      (held_behind (held_on_entry (inputs_len code.order code.secrets code.publics) registers) (inputs_len code.order code.secrets code.publics) done) register_of items next

-- before the first instruction
pub so_far-entry : (code : Listing) (registers : ℕ) (last : List ℕ) (items : List (Reverse ℕ))
    → TellsReads code last
    → ((r : ℕ) → times_free items r ≡ one_where (nat_lt r (inputs_len code.order code.secrets code.publics) && nat_le (slice_index last r) 0))
    → inputs_len code.order code.secrets code.publics ≤ registers
    → IsSoFar code 0 registers [] (range_with_len 0 (inputs_len code.order code.secrets code.publics)) items (inputs_len code.order code.secrets code.publics)
unfolding held_behind renamed_instrs GoLeast Runs
so_far-entry code registers last items tells free room = record {
  count = refl;
  runs = tt;
  same = refl;
  least = tt;
  placed = record {
    tidy = subst (IsTidy held) none (tidy-entry entries registers);
    room = omega (arith, held-length entries registers);
    full = λ r less. (r, at r less);
    empty = empty;
    count = length-range_with_len 0 entries ∙ none;
    placed = λ p less read. let under : p < entries = omega arith in ap (holding held) (get_or-range_with_len 0 entries p 0 under ∙ omega arith) ∙ at p under;
    free = frees;
  };
} where
  entries : ℕ
  entries = inputs_len code.order code.secrets code.publics

  held : List (Option ℕ)
  held = held_on_entry entries registers

  none : entries ≡ entries + 0
  none = omega arith

  at : (r : ℕ) → r < entries → holding held r ≡ Some r
  at r less = held-at entries registers r (omega arith) ∙ ap (λ (b : Bool). if b then Some r else None) (lt-ltb r entries less)

  empty : (r : ℕ) → entries ≤ r → holding held r ≡ None
  empty r past = elim (cases_Bool (nat_lt r registers)) [
    | inl there ↦ held-at entries registers r (ltb-true r registers there) ∙ ap (λ (b : Bool). if b then Some r else None) (le-ltb r entries past)
    | inr gone ↦ get_or_past held r None (omega (arith, held-length entries registers, ltb-false r registers gone))
  ]

  frees : (r : ℕ) → times_free items r ≡ one_where (nat_lt r entries && is_free held code.instrs code.outs r)
  frees r = free r ∙ elim (cases_Bool (nat_lt r entries)) [
    | inl less ↦
        let under : r < entries = ltb-true r entries less in
        ap (λ (b : Bool). one_where (nat_lt r entries && b)) (unread-told (slice_index last r) 0 (is_read code.instrs code.outs r) (tells.reads r 0 (omega arith) (omega arith)))
        ∙ sym (ap (λ (o : Option ℕ). one_where (nat_lt r entries && is_unread o code.instrs code.outs)) (at r under))
    | inr more ↦
        ap (λ (b : Bool). one_where (b && nat_le (slice_index last r) 0)) more
        ∙ sym (ap (λ (b : Bool). one_where (b && is_free held code.instrs code.outs r)) more)
  ]

-- an operand that is replaced by its register and put back
back-from_registers : (held : List (Option ℕ)) (register_of qs : List ℕ) → AreAt held register_of qs → AllByRecursion (λ q. position_in held (slice_index register_of q) ≡ q) qs
back-from_registers held register_of [] at = tt
back-from_registers held register_of (q ∷ qs) at = (ap (λ (o : Option ℕ). unwrap_or o 0) at.0, back-from_registers held register_of qs at.1)

-- registers of entries hold entries
set-registers : (held : List (Option ℕ)) (register_of qs : List ℕ) → AreAt held register_of qs → AreSet held (map (slice_index register_of) qs)
set-registers held register_of [] at = tt
set-registers held register_of (q ∷ qs) at = ((q, at.0), set-registers held register_of qs at.1)

-- the code's instruction k
abbrev pub instr_at : Listing → ℕ → Instr
instr_at code k = get_or code.instrs k op.Rnd

-- what is placed before instruction k, which comes first of what is left
placed-before : (code : Listing) (k : ℕ) (held : List (Option ℕ)) (register_of : List ℕ) (items : List (Reverse ℕ)) (next : ℕ) → k < length code.instrs
    → IsPlaced code.outs (inputs_len code.order code.secrets code.publics + k) (drop k code.instrs) held register_of items next
    → IsPlaced code.outs (inputs_len code.order code.secrets code.publics + k) (instr_at code k ∷ drop (k + 1) code.instrs) held register_of items next
placed-before code k held register_of items next below is =
    subst (λ (cs : List Instr). IsPlaced code.outs (inputs_len code.order code.secrets code.publics + k) cs held register_of items next) (drop_more code.instrs k op.Rnd below) is

-- the register that the result of instruction k goes to
pub chosen-next : (code : Listing) (k : ℕ) (last register_of : List ℕ) (held : List (Option ℕ)) (items before after : List (Reverse ℕ)) (next behind to : ℕ)
    → IsListing code → TellsReads code last → k < length code.instrs
    → IsPlaced code.outs (inputs_len code.order code.secrets code.publics + k) (drop k code.instrs) held register_of items next
    → ((r : ℕ) → times_free before r ≡ times_free items r + freed register_of last (k + 1) r (operands (instr_at code k)))
    → IsTaken before after next behind to
    → ((r : ℕ) → times_free before r ≡ one_where (nat_lt r next && is_free held (drop (k + 1) code.instrs) code.outs r))
    × IsChosen code.outs (drop (k + 1) code.instrs) held before after next behind to
chosen-next code k last register_of held items before after next behind to listing tells below is came taken =
    let entries = inputs_len code.order code.secrets code.publics in
    let later = drop (k + 1) code.instrs in
    let placed = placed-before code k held register_of items next below is in
    let free = free-behind code.outs (entries + k) (instr_at code k) later held register_of last (k + 1) items before next placed
    (operands-there code k listing below) (λ p under. tells.reads p (k + 1) (omega arith) (omega arith)) came in
    (free, chosen code.outs later held before after next behind to is.empty free taken)

-- never more registers than the code is wide
pub next-width : (code : Listing) (k : ℕ) (last register_of : List ℕ) (done : List RegInstr) (items before after : List (Reverse ℕ)) (next behind to : ℕ)
    → IsListing code → TellsReads code last → k < length code.instrs
    → IsSoFar code k (next + 1) done register_of items next
    → ((r : ℕ) → times_free before r ≡ times_free items r + freed register_of last (k + 1) r (operands (instr_at code k)))
    → IsTaken before after next behind to → next ≤ width code → behind ≤ width code
next-width code k last register_of done items before after next behind to listing tells below so came taken few =
    let entries = inputs_len code.order code.secrets code.publics in
    let held = held_behind (held_on_entry entries (next + 1)) entries done in
    let later = drop (k + 1) code.instrs in
    let both = chosen-next code k last register_of held items before after next behind to listing tells below so.placed came taken in
    elim both.1.from [
      | inl popped ↦ omega (arith, popped.1, few)
      | inr bumped ↦
          let long : next < length held = omega (arith, held_behind-length (held_on_entry entries (next + 1)) entries done, held-length entries (next + 1)) in
          let least : IsLeastFree held later code.outs next = subst (IsLeastFree held later code.outs) bumped.0 both.1.least in
          omega (arith, bumped.1, bumped-width code.outs (entries + k) later held next so.placed.tidy so.placed.full long least, live-width code k below)
    ]

-- one instruction further
pub so_far-step : (code : Listing) (k registers : ℕ) (last register_of : List ℕ) (done : List RegInstr) (items before after ends : List (Reverse ℕ)) (next behind to : ℕ)
    → IsListing code → TellsReads code last → k < length code.instrs
    → IsSoFar code k registers done register_of items next
    → ((r : ℕ) → times_free before r ≡ times_free items r + freed register_of last (k + 1) r (operands (instr_at code k)))
    → IsTaken before after next behind to
    → ((r : ℕ) → times_free ends r ≡ times_free after r + one_where (nat_le (slice_index last (inputs_len code.order code.secrets code.publics + k)) (k + 1) && nat_eq to r))
    → behind ≤ registers
    → IsSoFar code (k + 1) registers (done ++ into_register to (with_operands (slice_index register_of) (instr_at code k)) ∷ []) (register_of ++ to ∷ []) ends behind
so_far-step code k registers last register_of done items before after ends next behind to listing tells below so came taken came_unread room = record {
  count = length_push done i ∙ ap (λ (n : ℕ). n + 1) so.count;
  runs = runs-push start entries done i so.runs carried;
  same = renamed-push start entries done i ∙ ap (λ (cs : List Instr). cs ++ renamed_instr held i ∷ []) so.same
      ∙ ap (λ (x : Instr). take k code.instrs ++ x ∷ []) renames ∙ sym (take_more code.instrs k op.Rnd below);
  least = least-push start entries code.outs done i code.instrs so.least (omega (arith, so.count))
      (subst (λ (n : ℕ). IsLeastFree held (drop (n + 1) code.instrs) code.outs (target i)) (sym so.count)
      (subst (IsLeastFree held later code.outs) (sym (target-into to does)) both.1.least));
  placed = subst (λ (h : List (Option ℕ)). IsPlaced code.outs (entries + (k + 1)) later h (register_of ++ to ∷ []) ends behind) (sym stands)
      (subst (λ (n : ℕ). IsPlaced code.outs n later (set held to (Some (entries + k))) (register_of ++ to ∷ []) ends behind) one_more
      (placed-step code.outs (entries + k) c later held register_of last (k + 1) items before after ends next behind to placed
      (tells.reads (entries + k) (k + 1) (omega arith) (omega arith)) both.0 both.1 came_unread inside));
} where
  entries : ℕ
  entries = inputs_len code.order code.secrets code.publics

  start : List (Option ℕ)
  start = held_on_entry entries registers

  held : List (Option ℕ)
  held = held_behind start entries done

  later : List Instr
  later = drop (k + 1) code.instrs

  c : Instr
  c = instr_at code k

  does : Instr
  does = with_operands (slice_index register_of) c

  i : RegInstr
  i = into_register to does

  inside : behind ≤ length held
  inside = omega (arith, held_behind-length start entries done, held-length entries registers)

  placed : IsPlaced code.outs (entries + k) (c ∷ later) held register_of items next
  placed = placed-before code k held register_of items next below so.placed

  both : ((r : ℕ) → times_free before r ≡ one_where (nat_lt r next && is_free held later code.outs r)) × IsChosen code.outs later held before after next behind to
  both = chosen-next code k last register_of held items before after next behind to listing tells below so.placed came taken

  at : AreAt held register_of (operands c)
  at = operands-at code.outs (entries + k) c later held register_of items next placed (operands-there code k listing below)

  renames : renamed_instr held i ≡ c
  renames = ap (with_operands (position_in held)) (operation-into to does)
      ∙ with_operands-back (slice_index register_of) (position_in held) c (back-from_registers held register_of (operands c) at)

  within : to < length held
  within = elim both.1.from [ inl popped ↦ omega (arith, popped.0, popped.1, inside) | inr bumped ↦ omega (arith, bumped.0, bumped.1, inside) ]

  carried : IsCarried held i
  carried = record {
    there = subst (λ (n : ℕ). n < length held) (sym (target-into to does)) within;
    reads = subst (λ (d : Instr). AreSet held (operands d)) (sym (operation-into to does))
        (subst (AreSet held) (sym (operands-with (slice_index register_of) c)) (set-registers held register_of (operands c) at));
  }

  stands : held_behind start entries (done ++ i ∷ []) ≡ set held to (Some (entries + k))
  stands = held-push start entries done i ∙ ap (λ (n : ℕ). set held (target i) (Some (entries + n))) so.count
      ∙ ap (λ (n : ℕ). set held n (Some (entries + k))) (target-into to does)

  one_more : entries + k + 1 ≡ entries + (k + 1)
  one_more = omega arith

-- all outs are read behind the last instruction
outs-at : (code : Listing) (held : List (Option ℕ)) (register_of : List ℕ) (items : List (Reverse ℕ)) (next k : ℕ) → length code.instrs ≤ k → k ≤ length code.instrs
    → IsListing code
    → IsPlaced code.outs (inputs_len code.order code.secrets code.publics + k) (drop k code.instrs) held register_of items next
    → AreAt held register_of code.outs
unfolding is_read
outs-at code held register_of items next k past exact listing is =
    each code.outs (λ p among. among) (λ j less. All-get_or (λ p. p < trace_len code) code.outs j 0 less listing.outs) where
      -- each of these outs of the code stands in its register
      each : (qs : List ℕ) → ((p : ℕ) → is_among p qs ≡ true → is_among p code.outs ≡ true) → ((j : ℕ) → j < length qs → get_or qs j 0 < trace_len code) → AreAt held register_of qs
      each [] reads below = tt
      each (q ∷ qs) reads below =
          let read : is_read (drop k code.instrs) code.outs q ≡ true =
          ap (λ (is : List Instr). is_read is code.outs q) (drop_all k code.instrs past) ∙ reads q (or_left (nat_eq q q) (is_among q qs) (eq-eqb q q refl)) in
          let here : q < trace_len code = below 0 (omega arith) in (
            is.placed q (omega arith) read,
            each qs (λ p among. reads p (or_right (nat_eq q p) (is_among p qs) among)) (λ j less. below (suc j) (omega arith)),
          )

-- registers of entries, renamed, are the entries
map-back : (held : List (Option ℕ)) (register_of qs : List ℕ) → AreAt held register_of qs → map (position_in held) (map (slice_index register_of) qs) ≡ qs
map-back held register_of [] at = refl
map-back held register_of (q ∷ qs) at =
    ap (λ (n : ℕ). n ∷ map (position_in held) (map (slice_index register_of) qs)) (ap (λ (o : Option ℕ). unwrap_or o 0) at.0)
    ∙ ap (λ (ns : List ℕ). q ∷ ns) (map-back held register_of qs at.1)

-- the register code that was made
abbrev pub made : Listing → ℕ → List RegInstr → List ℕ → RegListing
made code registers done register_of = record {
  field = code.field;
  order = code.order;
  secrets = code.secrets;
  publics = code.publics;
  registers = registers;
  maps = code.maps;
  instrs = done;
  outs = map (slice_index register_of) code.outs;
}

-- it is what is allocated
pub allocated : (code : Listing) (done : List RegInstr) (register_of : List ℕ) (items : List (Reverse ℕ)) (next k : ℕ) → IsListing code
    → length code.instrs ≤ k → k ≤ length code.instrs
    → IsSoFar code k next done register_of items next → inputs_len code.order code.secrets code.publics ≤ next → next ≤ width code
    → IsAllocated code (made code next done register_of)
allocated code done register_of items next k listing past exact so room few = record {
  renamed = renames;
  registers = omega (arith, width-least code (made code next done register_of) room renames, few);
  least = so.least;
} where
  entries : ℕ
  entries = inputs_len code.order code.secrets code.publics

  start : List (Option ℕ)
  start = held_on_entry entries next

  held : List (Option ℕ)
  held = held_behind start entries done

  at : AreAt held register_of code.outs
  at = outs-at code held register_of items next k past exact listing so.placed

  runs : Runs start entries done (map (slice_index register_of) code.outs)
  runs = runs-with_outs start entries done (map (slice_index register_of) code.outs) so.runs (set-registers held register_of code.outs at)

  zero-more : entries ≡ entries + 0
  zero-more = omega arith

  renames : IsRenamed (made code next done register_of) code
  renames = record {
    runs = none-from_runs entries 0 start done (map (slice_index register_of) code.outs)
        (subst (λ (n : ℕ). Runs start n done (map (slice_index register_of) code.outs)) zero-more runs);
    same = ap (λ (is : List Instr). record code { instrs = is; outs = map (position_in held) (map (slice_index register_of) code.outs) }) (so.same ∙ take_all k code.instrs past)
        ∙ ap (λ (qs : List ℕ). record code { outs = qs }) (map-back held register_of code.outs at);
  }

-- the parts of one more instruction are there
pub parts-step : (code : Listing) (k to : ℕ) (register_of : List ℕ) (done : List RegInstr) → IsListing code → k < length code.instrs
    → AllByRecursion (λ i. HasParts code.field (length code.maps) (operation i)) done
    → AllByRecursion (λ i. HasParts code.field (length code.maps) (operation i)) (done ++ into_register to (with_operands (slice_index register_of) (instr_at code k)) ∷ [])
parts-step code k to register_of [] listing below parts =
    let does = with_operands (slice_index register_of) (instr_at code k) in
    let entries = inputs_len code.order code.secrets code.publics in (
      subst (HasParts code.field (length code.maps)) (sym (operation-into to does))
          (parts-fit code.field (length code.maps) (entries + k) (slice_index register_of) (instr_at code k) (AllFit-at code.field (length code.maps) entries code.instrs k below listing.fit)),
      tt,
    )
parts-step code k to register_of (i ∷ is) listing below parts = (parts.0, parts-step code k to register_of is listing below parts.1)

-- what was made fits together
pub made-fits : (code : Listing) (done : List RegInstr) (register_of : List ℕ) (next : ℕ) → IsListing code
    → inputs_len code.order code.secrets code.publics ≤ next → next ≤ trace_len code → length done ≡ length code.instrs
    → AllByRecursion (λ i. HasParts code.field (length code.maps) (operation i)) done
    → IsRegListing (made code next done register_of)
made-fits code done register_of next listing room few count parts = record {
  order = listing.order;
  secrets = listing.secrets;
  publics = listing.publics;
  registers = (room, omega (arith, few, shares, listing.few, listing.publics));
  maps = listing.maps;
  bytes = listing.bytes;
  few = omega (arith, count, listing.few);
  parts = parts;
  outputs = (listing.outputs.0, listing.outputs.1, length-map code.outs (slice_index register_of) ∙ listing.outputs.2);
} where
  shares : code.secrets * (code.order + 1) ≤ MOST_INPUTS * (TOP_ORDER + 1)
  shares = mul-le-mul {n₂ = MOST_INPUTS} {m₂ = TOP_ORDER + 1} (omega (arith, listing.secrets)) (omega (arith, listing.order.1))

-- the same at the beginning, as it is computed
pub begun : (code : Listing) (registers entries next : ℕ) (last own register_of : List ℕ) (done : List RegInstr) (none items : List (Reverse ℕ))
    → TellsReads code last → entries ≡ inputs_len code.order code.secrets code.publics → next ≡ entries → own ≡ last
    → register_of ≡ range_with_len 0 entries → done ≡ [] → none ≡ []
    → ((r : ℕ) → times_free items r ≡ times_free none r + one_where (nat_lt r entries && nat_le (slice_index own r) 0))
    → next ≤ registers → IsSoFar code 0 registers done register_of items next
begun code registers entries next last own register_of done none items tells is_entries is_next is_last is_registers is_done is_none free room =
    let e : ℕ = inputs_len code.order code.secrets code.publics in
    let frees : (r : ℕ) → times_free items r ≡ one_where (nat_lt r e && nat_le (slice_index last r) 0) = λ r.
    free r ∙ ap (λ (xs : List (Reverse ℕ)). times_free xs r + one_where (nat_lt r entries && nat_le (slice_index own r) 0)) is_none
    ∙ ap (λ (n : ℕ). 0 + one_where (nat_lt r n && nat_le (slice_index own r) 0)) is_entries
    ∙ ap (λ (xs : List ℕ). 0 + one_where (nat_lt r e && nat_le (slice_index xs r) 0)) is_last
    ∙ omega arith in
    let base : IsSoFar code 0 registers [] (range_with_len 0 e) items e = so_far-entry code registers last items tells frees (omega (arith, is_entries, is_next)) in
    subst (λ (n : ℕ). IsSoFar code 0 registers done register_of items n) (sym (is_next ∙ is_entries))
    (subst (λ (ps : List ℕ). IsSoFar code 0 registers done ps items e) (sym (is_registers ∙ ap (range_with_len 0) is_entries))
    (subst (λ (is : List RegInstr). IsSoFar code 0 registers is (range_with_len 0 e) items e) (sym is_done) base))

-- operands of instruction k, as it is read, are there
pub operands-within : (code : Listing) (k n : ℕ) (is : List Instr) → IsListing code → is ≡ code.instrs → k < length is
    → inputs_len code.order code.secrets code.publics + k ≤ n → AllByRecursion (λ q. q < n) (operands (get_or is k op.Rnd))
operands-within code k n is listing own below wide =
    let under : k < length code.instrs = omega (arith, ap length own) in
    subst (λ (cs : List Instr). AllByRecursion (λ q. q < n) (operands (get_or cs k op.Rnd))) (sym own)
    (all-wider (inputs_len code.order code.secrets code.publics + k) n (operands (instr_at code k)) wide (operands-there code k listing under))

-- what came free, as it is computed
pub came-free : (code : Listing) (k from : ℕ) (register_of own last told : List ℕ) (is : List Instr) (items before : List (Reverse ℕ))
    → is ≡ code.instrs → own ≡ register_of → told ≡ last → from ≡ k + 1
    → ((r : ℕ) → times_free before r ≡ times_free items r + freed own told from r (operands (get_or is k op.Rnd)))
    → (r : ℕ) → times_free before r ≡ times_free items r + freed register_of last (k + 1) r (operands (instr_at code k))
came-free code k from register_of own last told is items before instrs placed tells step came r =
    came r
    ∙ ap (λ (cs : List Instr). times_free items r + freed own told from r (operands (get_or cs k op.Rnd))) instrs
    ∙ ap (λ (ps : List ℕ). times_free items r + freed ps told from r (operands (instr_at code k))) placed
    ∙ ap (λ (ps : List ℕ). times_free items r + freed register_of ps from r (operands (instr_at code k))) tells
    ∙ ap (λ (n : ℕ). times_free items r + freed register_of last n r (operands (instr_at code k))) step

-- whether the register of the result came free, as it is computed
pub came-unread : (k from mark position to : ℕ) (last : List ℕ) (after ends : List (Reverse ℕ))
    → mark ≡ slice_index last position → from ≡ k + 1
    → ((r : ℕ) → times_free ends r ≡ times_free after r + one_where (nat_le mark from && nat_eq to r))
    → (r : ℕ) → times_free ends r ≡ times_free after r + one_where (nat_le (slice_index last position) (k + 1) && nat_eq to r)
came-unread k from mark position to last after ends marked step came r =
    came r
    ∙ ap (λ (n : ℕ). times_free after r + one_where (nat_le n from && nat_eq to r)) marked
    ∙ ap (λ (n : ℕ). times_free after r + one_where (nat_le (slice_index last position) n && nat_eq to r)) step
