-- The number so far, and what is counted of the parts so far.
use Rattle.std.proofs.Common.{◌≡◌, take}
use Rattle.mk_unroll.specs.Counted.{counted}
use Rattle.mk_unroll.specs.Walked.{added_parts, linked_parts}
use Rattle.mk_unroll.proofs.indexes.+index.Given as goal

abbrev pub invariant-follow_links-loop-link : goal.invariant-follow_links-loop-link
invariant-follow_links-loop-link l = record {
  number : l.number ≡ (linked_parts l.at l.turns l.first (take l.link-index l.links)).value;
  meter : l.meter ≡ counted l.initial.meter (linked_parts l.at l.turns l.first (take l.link-index l.links)).units;
}

abbrev pub invariant-sum_of-loop-part : goal.invariant-sum_of-loop-part
invariant-sum_of-loop-part l = record {
  sum : l.sum ≡ (added_parts l.at l.turns l.initial.sum (take l.part-index l.rest)).value;
  meter : l.meter ≡ counted l.initial.meter (added_parts l.at l.turns l.initial.sum (take l.part-index l.rest)).units;
}
