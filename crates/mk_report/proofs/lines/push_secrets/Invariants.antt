-- The lines of the secrets so far are appended.
use Rattle.std.proofs.Common.{◌≡◌, ◌++◌, ℕ, List, string_bytes}
use Rattle.std.specs.List.{flat_map, range_with_len}
use Rattle.mk_report.specs.declared.need.ProductPlace.{ProductPlace}
use Rattle.mk_report.specs.Passing.{AreTold}
use Rattle.mk_report.specs.Report.{secret_line}
use Rattle.mk_report.proofs.lines.push_secrets.Given as goal

abbrev pub invariant-loop-secret : goal.invariant-loop-secret
invariant-loop-secret l =
    (places : ℕ → List ProductPlace) → AreTold places l.told
    → string_bytes l.text ≡ string_bytes l.initial.text ++ flat_map (λ k. secret_line k (places k)) (range_with_len 0 l.secret)
