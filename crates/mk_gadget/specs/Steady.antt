-- Gadgets of which an observer sees few shares of each operand, so that blocks of them can be joined.
use Rattle.std.specs.Prelude.{◌≡◌, ℕ, ◌+◌, ◌*◌, ◌≤◌, ◌<◌, List, ◌++◌, length, map, slice_index, Contains}
use Rattle.mk_field.specs.declared.field.FieldId.{FieldId}
use Rattle.mk_field.specs.declared.map.AddMap.{AddMap}
use Rattle.mk_field.specs.Field.{size}
use Rattle.mk_code.specs.Trace.{randoms, run}
use Rattle.mk_code.specs.Counting.{total, one_if_equal, AllBelow, Elements}
use Rattle.mk_code.specs.Private.{observation}
use Rattle.mk_gadget.specs.Gadget.{Gadget}

-- what an observer of a gadget's run, whose operands have `base` positions, sees: the values of the
-- instructions with these numbers, and then the shares of the out bank with these indexes
abbrev pub block_view : ℕ → Gadget → List ℕ → List ℕ → List ℕ → List ℕ
block_view base gadget probes outs entries =
    observation (map (λ k. base + k) probes) entries ++ observation outs (observation gadget.outs entries)

-- a state of a gadget lists the shares of its shared operands, operand by operand, and then its public
-- operands; this is the number of tapes of the gadget's random elements for which an observer of these
-- instructions and of these shares of the out bank sees `seen`
abbrev pub block_ways : FieldId → List AddMap → Gadget → List ℕ → List ℕ → List ℕ → List ℕ → ℕ
block_ways field maps gadget state probes outs seen =
    total (size field) (randoms gadget.instrs)
    (λ tape. one_if_equal (block_view (length state) gadget probes outs (run field maps gadget.instrs tape state)) seen)

-- the ways depend on the p public operands and, of each of the m shared operands k, on the shares with the
-- indexes `asked k` alone: states in which these are the same show each list of values in equally many ways
abbrev pub DependsAt : FieldId → List AddMap → ℕ → ℕ → ℕ → Gadget → List ℕ → List ℕ → (ℕ → List ℕ) → Type 0
DependsAt field maps n m p gadget probes outs asked =
    (first second publics seen : List ℕ)
    → Elements (size field) (n * m) first → Elements (size field) (n * m) second → Elements (size field) p publics
    → ((k i : ℕ) → k < m → i < n → Contains (asked k) i → slice_index first (n * k + i) ≡ slice_index second (n * k + i))
    → block_ways field maps gadget (first ++ publics) probes outs seen
    ≡ block_ways field maps gadget (second ++ publics) probes outs seen

-- steady, with n shares, m shared and p public operands: for any probed instructions there is a list of no
-- more indexes, the same whatever is seen of the out bank, so that probes and seen outputs depend on the
-- shares at these indexes and at those of the outputs alone. Own form, share by share; it is stricter than
-- t-NI of Barthe and others (CCS 2016), where the indexes of the outputs may be any others
abbrev pub IsSteady : FieldId → List AddMap → ℕ → ℕ → ℕ → Gadget → Type 0
IsSteady field maps n m p gadget =
    (probes : List ℕ) → AllBelow (length gadget.instrs) probes
    → (kept : List ℕ) × (length kept ≤ length probes)
    × ((outs : List ℕ) → AllBelow n outs → DependsAt field maps n m p gadget probes outs (λ k. kept ++ outs))

-- strong: fewer than n probed instructions and seen outputs together depend on no more shares of each
-- operand than instructions are probed. This is t-SNI of Barthe and others (CCS 2016), the lists of
-- indexes following from positions alone
abbrev pub IsStrong : FieldId → List AddMap → ℕ → ℕ → ℕ → Gadget → Type 0
IsStrong field maps n m p gadget =
    (probes outs : List ℕ) → AllBelow (length gadget.instrs) probes → AllBelow n outs → length probes + length outs < n
    → (asked : ℕ → List ℕ) × ((k : ℕ) → length (asked k) ≤ length probes)
    × DependsAt field maps n m p gadget probes outs asked
