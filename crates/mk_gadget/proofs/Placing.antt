-- A gadget that is being placed: which of its instructions stand in the code so far.
use Rattle.std.proofs.Common.{arith, ◌≡◌, ℕ, ◌+◌, ◌-◌, ◌*◌, ◌<◌, ◌≤◌, List, [], ◌∷◌, ◌++◌, length, map, slice_index, inl, inr, refl, sym, ◌∙◌, ap, subst, append_assoc, append-nil}
use Rattle.std.proofs.Math.Nat.{mul-le-mul_right}
use Rattle.std.proofs.lemmas.Bool.{cases_lt, lt-ltb}
use Rattle.std.proofs.lemmas.List.{length-append, length-map, map-append}
use Rattle.mk_code.specs.declared.instr.Instr.{Instr}
use Rattle.mk_code.specs.Counting.{AllBelow}
use Rattle.mk_code.specs.Draft.{Draft, draft_len}
use Rattle.mk_gadget.specs.Gadget.{Gadget, placement, moved, placed_outs}
use Rattle.mk_gadget.specs.Emitted.{Emitted}
use Rattle.mk_gadget.specs.Pairs.{pairs}
use Rattle.mk_gadget.proofs.Ranges.{placement-own}
use Rattle.mk_code.proofs.Steps.{AllBelow-at}
use Rattle.mk_gadget.proofs.Pairs.{twice-pairs}

-- these instructions, with their positions moved, are appended, and there is room for `total` in all
pub record Placing (old now : Draft) (to : ℕ → ℕ) (instrs : List Instr) (total : ℕ) : Type 0 where
  pub code : now ≡ record old { instrs = old.instrs ++ map (moved to) instrs; spare = now.spare }
  pub room : total ≤ now.spare + length instrs

-- room was reserved
pub Placing-start : (old now : Draft) (to : ℕ → ℕ) (total : ℕ) → now ≡ record old { spare = now.spare } → total ≤ now.spare → Placing old now to [] total
Placing-start old now to total same room = record {
  code = same ∙ ap (λ (is : List Instr). record old { instrs = is; spare = now.spare }) (sym (append-nil old.instrs));
  room = omega (arith, room);
}

-- how many instructions there are
pub Placing-length : (old now : Draft) (to : ℕ → ℕ) (instrs : List Instr) (total : ℕ) → Placing old now to instrs total
    → length now.instrs ≡ length old.instrs + length instrs
Placing-length old now to instrs total so =
    ap (λ (d : Draft). length d.instrs) so.code ∙ length-append old.instrs (map (moved to) instrs)
    ∙ ap (λ (k : ℕ). length old.instrs + k) (length-map instrs (moved to))

-- how long the trace is
pub Placing-len : (old now : Draft) (to : ℕ → ℕ) (instrs : List Instr) (total : ℕ) → Placing old now to instrs total
    → draft_len now ≡ draft_len old + length instrs
Placing-len old now to instrs total so =
    let grown : length (old.instrs ++ map (moved to) instrs) ≡ length old.instrs + length instrs =
    length-append old.instrs (map (moved to) instrs) ∙ ap (λ (k : ℕ). length old.instrs + k) (length-map instrs (moved to)) in
    omega (arith, ap draft_len so.code, grown)

-- one more instruction
pub Placing-push : (old now next : Draft) (to : ℕ → ℕ) (instrs : List Instr) (total : ℕ) (i pushed : Instr) → Placing old now to instrs total
    → length instrs < total → next ≡ record now { instrs = now.instrs ++ pushed ∷ []; spare = now.spare - 1 } → moved to i ≡ pushed
    → Placing old next to (instrs ++ i ∷ []) total
Placing-push old now next to instrs total i pushed so less is same =
    let spare : next.spare ≡ now.spare - 1 = ap (λ (d : Draft). d.spare) is in
    record {
      code = is
          ∙ ap (λ (d : Draft). record d { instrs = d.instrs ++ pushed ∷ []; spare = now.spare - 1 }) so.code
          ∙ ap (λ (is : List Instr). record old { instrs = is; spare = now.spare - 1 })
          (append_assoc old.instrs (map (moved to) instrs) (pushed ∷ [])
          ∙ ap (λ (j : Instr). old.instrs ++ (map (moved to) instrs ++ j ∷ [])) (sym same)
          ∙ ap (λ (is : List Instr). old.instrs ++ is) (sym (map-append (moved to) instrs (i ∷ []))))
          ∙ ap (λ (k : ℕ). record old { instrs = old.instrs ++ map (moved to) (instrs ++ i ∷ []); spare = k }) (sym spare);
      room = omega (arith, so.room, spare, less, length-append instrs (i ∷ []));
    }

-- the same instructions, written in another way
pub Placing-same : (old now : Draft) (to : ℕ → ℕ) (instrs others : List Instr) (total : ℕ) → instrs ≡ others → Placing old now to instrs total
    → Placing old now to others total
Placing-same old now to instrs others total same so = subst (λ (is : List Instr). Placing old now to is total) same so

-- the whole gadget is placed
pub Placing-all : (old now : Draft) (reads bank : List ℕ) (gadget : Gadget) (total : ℕ) → Placing old now (placement reads (draft_len old)) gadget.instrs total
    → bank ≡ placed_outs reads (draft_len old) gadget → Emitted old now reads gadget bank
Placing-all old now reads bank gadget total so outs = record { code = so.code; outs = outs }

-- the position of the next instruction
pub placement-next : (reads : List ℕ) (base position k : ℕ) → position ≡ length reads + k → placement reads base position ≡ base + k
placement-next reads base position k e =
    placement-own reads base position (omega (arith, e)) ∙ ap (λ (j : ℕ). base + j) (omega (arith, e))

-- what a gadget reads stands before
pub placement-below : (reads : List ℕ) (base position k : ℕ) → AllBelow base reads → position < length reads + k → placement reads base position < base + k
placement-below reads base position k below within = elim (cases_lt position (length reads)) [
  | inl operand ↦
      let at : placement reads base position ≡ slice_index reads position = rw (lt-ltb position (length reads) operand) refl in
      omega (arith, at, AllBelow-at base reads position below operand)
  | inr behind ↦ omega (arith, placement-own reads base position behind, within)
]

-- where the pairs fit into a code, there are few shares
pub few-shares : (n total : ℕ) → 3 * length (pairs n) ≤ total → total ≤ 8388608 → n ≤ 4096
few-shares n total pairs_fit few = elim (cases_lt 4096 n) [
  | inl more ↦
      let le : 4096 ≤ n = omega (arith, more) in
      absurd (omega (arith, twice-pairs n n (omega arith), mul-le-mul_right n le, pairs_fit, few, more))
  | inr le ↦ le
]

-- what one more instruction does to the numbers of a code
pub record HasPushed (now next : Draft) : Type 0 where
  pub len : draft_len next ≡ draft_len now + 1
  pub count : length next.instrs ≡ length now.instrs + 1
  pub spare : next.spare ≡ now.spare - 1

-- and it does so at each push
pub pushed-numbers : (now next : Draft) (pushed : Instr) → next ≡ record now { instrs = now.instrs ++ pushed ∷ []; spare = now.spare - 1 } → HasPushed now next
pushed-numbers now next pushed is =
    let long : length (now.instrs ++ pushed ∷ []) ≡ length now.instrs + 1 = length-append now.instrs (pushed ∷ []) in
    record {
      len = omega (arith, ap draft_len is, long);
      count = ap (λ (d : Draft). length d.instrs) is ∙ long;
      spare = ap (λ (d : Draft). d.spare) is;
    }
