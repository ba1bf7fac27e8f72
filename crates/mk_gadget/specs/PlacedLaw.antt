-- A placed gadget computes what it computes alone.
use Rattle.std.specs.Prelude.{◌≡◌, ℕ, ◌+◌, ◌<◌, List, ◌++◌, length, map, slice_index}
use Rattle.mk_field.specs.declared.field.FieldId.{FieldId}
use Rattle.mk_field.specs.declared.map.AddMap.{AddMap}
use Rattle.mk_field.specs.Field.{size}
use Rattle.mk_code.specs.Listing.{AllFit}
use Rattle.mk_code.specs.Trace.{randoms, run}
use Rattle.mk_code.specs.Counting.{total, one_if_equal, AllBelow}
use Rattle.mk_code.specs.Private.{observation}
use Rattle.mk_gadget.specs.Gadget.{Gadget, placement, placed, placed_outs}
use Rattle.mk_gadget.specs.Steady.{block_view, block_ways}

-- what an observer sees of a gadget that is placed at `base`: the values of its instructions with these
-- numbers, and then the shares of its out bank with these indexes
abbrev pub placed_view : List ℕ → ℕ → Gadget → List ℕ → List ℕ → List ℕ → List ℕ
placed_view reads base gadget probes outs entries =
    observation (map (λ k. base + k) probes) entries ++ observation outs (observation (placed_outs reads base gadget) entries)

-- behind entries that have the positions `reads`, a gadget whose instructions fit behind that many positions, with
-- `count` maps, is placed. Over any tape, the entry where a position of the gadget stands is the one that the
-- gadget has at this position alone, run on the state that the entries hold at `reads`: `entry` for one position,
-- `view` for the instructions and shares of the out bank that an observer sees, and `ways` for the number of
-- tapes that show him these values. It has as many instructions and takes as many random elements as alone
pub record PlacedLaw (field : FieldId) (maps : List AddMap) : Type 0 where
  pub entry : (gadget : Gadget) (count position : ℕ) (reads tape entries : List ℕ)
      → AllBelow (length entries) reads → AllFit field count (length reads) gadget.instrs
      → position < length reads + length gadget.instrs
      → slice_index (run field maps (placed reads (length entries) gadget) tape entries) (placement reads (length entries) position)
      ≡ slice_index (run field maps gadget.instrs tape (observation reads entries)) position
  pub view : (gadget : Gadget) (count : ℕ) (reads tape entries probes outs : List ℕ)
      → AllBelow (length entries) reads → AllFit field count (length reads) gadget.instrs
      → AllBelow (length gadget.instrs) probes → AllBelow (length reads + length gadget.instrs) gadget.outs
      → placed_view reads (length entries) gadget probes outs (run field maps (placed reads (length entries) gadget) tape entries)
      ≡ block_view (length reads) gadget probes outs (run field maps gadget.instrs tape (observation reads entries))
  pub ways : (gadget : Gadget) (count : ℕ) (reads entries probes outs seen : List ℕ)
      → AllBelow (length entries) reads → AllFit field count (length reads) gadget.instrs
      → AllBelow (length gadget.instrs) probes → AllBelow (length reads + length gadget.instrs) gadget.outs
      → total (size field) (randoms (placed reads (length entries) gadget))
      (λ tape. one_if_equal (placed_view reads (length entries) gadget probes outs (run field maps (placed reads (length entries) gadget) tape entries)) seen)
      ≡ block_ways field maps gadget (observation reads entries) probes outs seen
  pub count : (gadget : Gadget) (reads : List ℕ) (base : ℕ) → length (placed reads base gadget) ≡ length gadget.instrs
  pub random : (gadget : Gadget) (reads : List ℕ) (base : ℕ) → randoms (placed reads base gadget) ≡ randoms gadget.instrs
