-- What is appended for the parts so far.
use Rattle.std.proofs.Common.{◌≡◌, ◌++◌, take, map, flat_map, codes}
use Rattle.mk_ast.specs.Canonical.{joined, index_text, link_text, index_summand_text}
use Rattle.mk_ast.proofs.text.+index.Given as goal

abbrev pub invariant-push_index_sum-loop-number : goal.invariant-push_index_sum-loop-number
invariant-push_index_sum-loop-number l =
    l.text ≡ l.initial.text ++ joined (codes " + ") (map (λ i. index_summand_text i (index_text i)) (take l.number l.parts))

abbrev pub invariant-push_links-loop-link : goal.invariant-push_links-loop-link
invariant-push_links-loop-link l = l.text ≡ l.initial.text ++ flat_map link_text (take l.link-index l.links)
