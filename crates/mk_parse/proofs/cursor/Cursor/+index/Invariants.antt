-- A call has fewer brackets left to open, or as many and a phrase that stands within the caller's.
-- The loops read on as the reader of many parts does, with fewer tokens left at each turn.
use Rattle.std.proofs.Common.{◌∷◌, codes, ◌+◌, ◌*◌, length}
use Rattle.mk_parse.specs.Readers.{makes, every, past, says}
use Rattle.mk_parse.specs.Reading.{index_inner, index_link_by, begins_link, index_product_by}
use Rattle.mk_parse.proofs.Loops.{Going}
use Rattle.mk_parse.proofs.cursor.Cursor.+index.Given as goal

abbrev pub decreases-index_sum : goal.decreases-index_sum
decreases-index_sum l = 8 * l.brackets + 7

abbrev pub decreases-index_parts : goal.decreases-index_parts
decreases-index_parts l = 8 * l.brackets + 6

abbrev pub decreases-index_added : goal.decreases-index_added
decreases-index_added l = 8 * l.brackets + 5

abbrev pub decreases-index_product : goal.decreases-index_product
decreases-index_product l = 8 * l.brackets + 4

abbrev pub decreases-index_links : goal.decreases-index_links
decreases-index_links l = 8 * l.brackets + 3

abbrev pub decreases-index_link : goal.decreases-index_link
decreases-index_link l = 8 * l.brackets + 2

abbrev pub decreases-index_factor : goal.decreases-index_factor
decreases-index_factor l = 8 * l.brackets + 1

abbrev pub decreases-index_in_brackets : goal.decreases-index_in_brackets
decreases-index_in_brackets l = 8 * l.brackets

abbrev pub invariant-index_links-loop-links : goal.invariant-index_links-loop-links
invariant-index_links-loop-links l =
    Going begins_link (index_link_by (index_inner l.brackets)) l.links l.self (every begins_link (index_link_by (index_inner l.brackets)) l.fn.self)

abbrev pub decreases-index_links-loop-links : goal.decreases-index_links-loop-links
decreases-index_links-loop-links l = length l.self

abbrev pub invariant-index_parts-loop-parts : goal.invariant-index_parts-loop-parts
invariant-index_parts-loop-parts l =
    Going (says (codes "+")) (past (codes "+") (index_product_by (index_inner l.brackets))) l.parts l.self
    (makes (λ parts. l.fn.first ∷ parts) (every (says (codes "+")) (past (codes "+") (index_product_by (index_inner l.brackets)))) l.fn.self)

abbrev pub decreases-index_parts-loop-parts : goal.decreases-index_parts-loop-parts
decreases-index_parts-loop-parts l = length l.self
