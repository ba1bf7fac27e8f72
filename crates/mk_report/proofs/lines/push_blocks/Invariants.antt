-- The lines of the blocks so far are appended.
use Rattle.std.proofs.Common.{◌≡◌, ◌+◌, ◌++◌, ℕ, List, take, string_bytes}
use Rattle.std.specs.List.{flat_map, enumerate_from}
use Rattle.mk_report.specs.declared.need.ProductPlace.{ProductPlace}
use Rattle.mk_report.specs.Passing.{AreTold}
use Rattle.mk_report.specs.Report.{block_line}
use Rattle.mk_report.proofs.lines.push_blocks.Given as goal

abbrev pub invariant-loop-block : goal.invariant-loop-block
invariant-loop-block l =
    (places : ℕ → List ProductPlace) → AreTold places l.told
    → string_bytes l.text
    ≡ string_bytes l.initial.text
    ++ flat_map (λ row. block_line l.code.order row.0 row.1 (places (l.code.secrets + l.code.publics + row.0))) (take l.block (enumerate_from 0 l.blocks))
