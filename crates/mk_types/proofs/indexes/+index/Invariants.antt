-- What is noted of the parts so far.
use Rattle.std.proofs.Common.{◌≡◌, take, flat_map}
use Rattle.mk_types.specs.Noted.{noted}
use Rattle.mk_types.specs.Offences.{index_offences, link_offences}
use Rattle.mk_types.proofs.indexes.+index.Given as goal

abbrev pub invariant-check_indexes-loop-index : goal.invariant-check_indexes-loop-index
invariant-check_indexes-loop-index l = l.found ≡ noted l.initial.found (flat_map (index_offences l.scope) (take l.index-index l.indexes))

abbrev pub invariant-check_links-loop-link : goal.invariant-check_links-loop-link
invariant-check_links-loop-link l = l.found ≡ noted l.initial.found (flat_map (link_offences l.scope) (take l.link-index l.links))
