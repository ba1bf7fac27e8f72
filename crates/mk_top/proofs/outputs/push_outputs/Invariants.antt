-- With the lines of the outputs that are left, the text is the one that is wanted, and enough shares are left.
use Rattle.std.proofs.Common.{◌≡◌, ◌≤◌, ◌*◌, ◌-◌, ◌/◌, ◌++◌, length, string_bytes}
use Rattle.mk_top.specs.Runs.{output_lines}
use Rattle.mk_top.proofs.outputs.push_outputs.Given as goal

abbrev pub invariant-loop-number : goal.invariant-loop-number
invariant-loop-number l = record {
  room : (l.number-end - l.number) * l.count ≤ length l.rest;
  text : string_bytes l.text ++ output_lines l.count l.number (l.number-end - l.number) l.rest
      ≡ string_bytes l.initial.text ++ output_lines l.count 0 (length l.shares / l.count) l.shares;
}
