-- The probes that were read are the first of those that the word says.
use Rattle.std.proofs.Common.{◌≡◌, ℕ, List, length, take}
use Rattle.mk_words.specs.Words.{SaysProbes}
use Rattle.mk_words.proofs.numbers.probes_of.Given as goal

abbrev pub invariant-loop-part : goal.invariant-loop-part
invariant-loop-part l = record {
  can : (goal.iterator-loop-part).can_next l.part-iterator;
  finite : (goal.iterator-loop-part).is_finite l.part-iterator;
  first : (ps : List ℕ) → SaysProbes l.fn.word ps → l.probes ≡ take (length l.yielded) ps;
}
