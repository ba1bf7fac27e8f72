-- The places so far are appended.
use Rattle.std.proofs.Common.{◌≡◌, ◌++◌, take, string_bytes, codes}
use Rattle.std.specs.List.{flat_map}
use Rattle.mk_report.specs.Report.{place_word}
use Rattle.mk_report.proofs.lines.push_others.Given as goal

abbrev pub invariant-loop-place : goal.invariant-loop-place
invariant-loop-place l = string_bytes l.text ≡ string_bytes l.initial.text ++ flat_map (λ q. codes "," ++ place_word q) (take l.place-index l.places)
