-- A gadget in the making: the instructions of the shares so far, and the positions of their values.
use Rattle.std.proofs.Common.{arith, ◌≡◌, ℕ, ◌+◌, ◌-◌, ◌<◌, ◌≤◌, List, [], ◌∷◌, ◌++◌, length, map, take, slice_set, refl, sym, ◌∙◌, ap, subst, append_assoc}
use Rattle.std.specs.List.{range_with_len}
use Rattle.std.proofs.lemmas.List.{length-append, append-nil, take_more_set, length-set, take_all}
use Rattle.std.proofs.lemmas.List.FromFn.{length-map-range_with_len, map-range_with_len_more}
use Rattle.mk_code.specs.declared.instr.Instr.{Instr}
use Rattle.mk_field.specs.declared.field.FieldId.{FieldId}
use Rattle.mk_code.specs.Listing.{FitsAt}
use Rattle.mk_code.specs.Draft.{Draft, draft_len}
use Rattle.mk_share.proofs.Banks.{range-more}
use Rattle.mk_gadget.specs.Gadget.{Gadget, placed, placed_outs}
use Rattle.mk_gadget.specs.Emitted.{Emitted}
use Rattle.mk_gadget.proofs.Rows.{FitsAt-later}

-- of n shares, the first `share` have their instructions, and there is room for the rest
pub record Emitting (old now : Draft) (row : ℕ → Instr) (n share : ℕ) (regs : List ℕ) : Type 0 where
  pub code : now ≡ record old { instrs = old.instrs ++ map row (range_with_len 0 share); spare = now.spare }
  pub room : n ≤ now.spare + share
  pub positions : take share regs ≡ range_with_len (draft_len old) share
  pub count : length regs ≡ n

-- room was reserved
pub Emitting-start : (old now : Draft) (row : ℕ → Instr) (n : ℕ) (regs : List ℕ) → now ≡ record old { spare = now.spare } → n ≤ now.spare
    → length regs ≡ n → Emitting old now row n 0 regs
Emitting-start old now row n regs same room count =
    record {
      code = same ∙ ap (λ (is : List Instr). record old { instrs = is; spare = now.spare }) (sym (append-nil old.instrs));
      room = omega (arith, room);
      positions = refl;
      count = count;
    }

-- how many instructions there are
pub Emitting-length : (old now : Draft) (row : ℕ → Instr) (n share : ℕ) (regs : List ℕ) → Emitting old now row n share regs
    → length now.instrs ≡ length old.instrs + share
Emitting-length old now row n share regs so =
    ap (λ (d : Draft). length d.instrs) so.code ∙ length-append old.instrs (map row (range_with_len 0 share))
    ∙ ap (λ (k : ℕ). length old.instrs + k) (length-map-range_with_len row 0 share)

-- how long the trace is
pub Emitting-len : (old now : Draft) (row : ℕ → Instr) (n share : ℕ) (regs : List ℕ) → Emitting old now row n share regs
    → draft_len now ≡ draft_len old + share
Emitting-len old now row n share regs so =
    let grown : length (old.instrs ++ map row (range_with_len 0 share)) ≡ length old.instrs + share =
    length-append old.instrs (map row (range_with_len 0 share)) ∙ ap (λ (k : ℕ). length old.instrs + k) (length-map-range_with_len row 0 share) in
    omega (arith, ap draft_len so.code, grown)

-- how many maps there are
pub Emitting-maps : (old now : Draft) (row : ℕ → Instr) (n share : ℕ) (regs : List ℕ) → Emitting old now row n share regs
    → length now.maps ≡ length old.maps
Emitting-maps old now row n share regs so = ap (λ (d : Draft). length d.maps) so.code

-- what fits the code before fits the one in the making
pub Emitting-fits : (field : FieldId) (old now : Draft) (row : ℕ → Instr) (n share : ℕ) (regs : List ℕ) (i : Instr) → Emitting old now row n share regs
    → FitsAt field (length old.maps) (draft_len old) i → FitsAt field (length now.maps) (draft_len now) i
Emitting-fits field old now row n share regs i so fits =
    let len : draft_len now ≡ draft_len old + share = Emitting-len old now row n share regs so in
    subst (λ (m : ℕ). FitsAt field m (draft_len now) i) (sym (Emitting-maps old now row n share regs so))
    (FitsAt-later field (length old.maps) (draft_len old) (draft_len now) i (omega (arith, len)) fits)

-- one more share
pub Emitting-more : (old now next : Draft) (row : ℕ → Instr) (n share : ℕ) (regs : List ℕ) (position : ℕ) → Emitting old now row n share regs
    → share < n → next ≡ record now { instrs = now.instrs ++ row share ∷ []; spare = now.spare - 1 } → position ≡ draft_len now
    → Emitting old next row n (share + 1) (slice_set regs share position)
Emitting-more old now next row n share regs position so below pushed here =
    let rows : ℕ → List Instr = λ k. map row (range_with_len 0 k) in
    let more : rows (share + 1) ≡ rows share ++ row share ∷ [] = map-range_with_len_more row 0 share share (omega arith) in
    let spare : next.spare ≡ now.spare - 1 = ap (λ (d : Draft). d.spare) pushed in
    let at : position ≡ draft_len old + share = here ∙ Emitting-len old now row n share regs so in
    record {
      code = pushed
          ∙ ap (λ (d : Draft). record d { instrs = d.instrs ++ row share ∷ []; spare = now.spare - 1 }) so.code
          ∙ ap (λ (is : List Instr). record old { instrs = is; spare = now.spare - 1 })
          (append_assoc old.instrs (rows share) (row share ∷ []) ∙ ap (λ (is : List Instr). old.instrs ++ is) (sym more))
          ∙ ap (λ (k : ℕ). record old { instrs = old.instrs ++ rows (share + 1); spare = k }) (sym spare);
      room = omega (arith, so.room, spare, below);
      positions = take_more_set regs share position (omega (arith, below, so.count))
          ∙ ap (λ (ps : List ℕ). ps ++ position ∷ []) so.positions
          ∙ ap (λ (p : ℕ). range_with_len (draft_len old) share ++ p ∷ []) at
          ∙ sym (range-more (draft_len old) share);
      count = length-set regs share position ∙ so.count;
    }

-- all shares have theirs
pub Emitting-all : (old now : Draft) (row : ℕ → Instr) (n share : ℕ) (regs reads : List ℕ) (gadget : Gadget) → Emitting old now row n share regs
    → share ≡ n
    → placed reads (draft_len old) gadget ≡ map row (range_with_len 0 n)
    → placed_outs reads (draft_len old) gadget ≡ range_with_len (draft_len old) n
    → Emitted old now reads gadget regs
Emitting-all old now row n share regs reads gadget so all rows outs =
    let whole : regs ≡ take share regs = sym (take_all share regs (omega (arith, so.count, all))) in
    record {
      code = so.code
          ∙ ap (λ (k : ℕ). record old { instrs = old.instrs ++ map row (range_with_len 0 k); spare = now.spare }) all
          ∙ ap (λ (is : List Instr). record old { instrs = old.instrs ++ is; spare = now.spare }) (sym rows);
      outs = whole ∙ so.positions ∙ ap (λ (k : ℕ). range_with_len (draft_len old) k) all ∙ sym outs;
    }
