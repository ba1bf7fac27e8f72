-- What registers hold, and the code over positions that register code stands for.
use Rattle.std.specs.Prelude.{◌≡◌, ℕ, ◌+◌, List, [], ◌∷◌, length, map, Option, Some, None, is_some, unwrap_or, nat_lt, slice_set, slice_index_or, if◌then◌else◌}
use Rattle.std.specs.Option.{option_or}
use Rattle.std.specs.List.{list_all, range_with_len}
use Rattle.mk_code.specs.declared.instr.Instr.{Instr}
use Rattle.mk_code.specs.Listing.{Listing}
use Rattle.mk_regs.specs.declared.instr.RegInstr.{RegInstr}
use Rattle.mk_regs.specs.declared.refusal.RegRefusal.{RegRefusal}
use Rattle.mk_regs.specs.declared.refusal.RegRefusal.TheVariants.{Unset, Register}
use Rattle.mk_regs.specs.Form.{RegListing, target, operation, operands, with_operands, entries_len}

-- what a register holds: the position of an entry of the trace, or nothing. The list has what each register holds
abbrev pub holding : List (Option ℕ) → ℕ → Option ℕ
holding held r = slice_index_or held r None

-- the position of the entry that a register holds
abbrev pub position_in : List (Option ℕ) → ℕ → ℕ
position_in held r = unwrap_or (holding held r) 0

-- what so many registers hold on entry: register i the entry i, and those behind the entries nothing
abbrev pub held_on_entry : ℕ → ℕ → List (Option ℕ)
held_on_entry entries registers = map (λ r. if nat_lt r entries then Some r else None) (range_with_len 0 registers)

-- what the registers hold behind an instruction whose value has this position
abbrev pub stepped : List (Option ℕ) → ℕ → RegInstr → List (Option ℕ)
stepped held position i = slice_set held (target i) (Some position)

-- what they hold behind some instructions, whose values have the positions from this one on
unfoldable pub held_behind : List (Option ℕ) → ℕ → List RegInstr → List (Option ℕ)
held_behind held position [] = held
held_behind held position (i ∷ is) = held_behind (stepped held position i) (position + 1) is

-- the instruction in which each register read is replaced by the position of the entry that it holds
abbrev pub renamed_instr : List (Option ℕ) → RegInstr → Instr
renamed_instr held i = with_operands (position_in held) (operation i)

-- the same of some instructions
unfoldable pub renamed_instrs : List (Option ℕ) → ℕ → List RegInstr → List Instr
renamed_instrs held position [] = []
renamed_instrs held position (i ∷ is) = renamed_instr held i ∷ renamed_instrs (stepped held position i) (position + 1) is

-- what the registers of register code hold behind its last instruction
abbrev pub held_at_end : RegListing → List (Option ℕ)
held_at_end r = held_behind (held_on_entry (entries_len r) r.registers) (entries_len r) r.instrs

-- the code in which each register read is replaced by the position of the entry that the register holds. The outs
-- are read behind the last instruction
abbrev pub renamed : RegListing → Listing
renamed r = record {
  field = r.field;
  order = r.order;
  secrets = r.secrets;
  publics = r.publics;
  maps = r.maps;
  instrs = renamed_instrs (held_on_entry (entries_len r) r.registers) (entries_len r) r.instrs;
  outs = map (position_in (held_at_end r)) r.outs;
}

-- why these registers can't be named and those read at instruction k, if so: one that is named isn't there, or else
-- one that is read holds nothing
abbrev pub refusal_at : List (Option ℕ) → ℕ → List ℕ → List ℕ → Option RegRefusal
refusal_at held k named read =
    if list_all (λ r. nat_lt r (length held)) named
    then (if list_all (λ r. is_some (holding held r)) read then None else Some (Unset k))
    else Some (Register k)

-- why an instruction can't be carried out
abbrev pub instr_refusal : List (Option ℕ) → ℕ → RegInstr → Option RegRefusal
instr_refusal held k i = refusal_at held k (target i ∷ operands (operation i)) (operands (operation i))

-- why a register can't be an out behind k instructions
abbrev pub out_refusal : List (Option ℕ) → ℕ → ℕ → Option RegRefusal
out_refusal held k r = refusal_at held k (r ∷ []) (r ∷ [])

-- the first refusal among outs
unfoldable pub outs_refusal : List (Option ℕ) → ℕ → List ℕ → Option RegRefusal
outs_refusal held k [] = None
outs_refusal held k (r ∷ rs) = option_or (out_refusal held k r) (outs_refusal held k rs)

-- the first refusal among the instructions from number k on, and then the outs behind them
unfoldable pub first_refusal : ℕ → ℕ → List (Option ℕ) → List RegInstr → List ℕ → Option RegRefusal
first_refusal entries k held [] outs = outs_refusal held k outs
first_refusal entries k held (i ∷ is) outs =
    option_or (instr_refusal held k i) (first_refusal entries (k + 1) (stepped held (entries + k) i) is outs)

-- why register code has no trace, if so: it names a register that isn't there, or reads one that holds nothing
abbrev pub refusal_of : RegListing → Option RegRefusal
refusal_of r = first_refusal (entries_len r) 0 (held_on_entry (entries_len r) r.registers) r.instrs r.outs

-- register code that has a trace, and what it is renamed to
pub record IsRenamed (r : RegListing) (code : Listing) : Type 0 where
  pub runs : refusal_of r ≡ None
  pub same : renamed r ≡ code
