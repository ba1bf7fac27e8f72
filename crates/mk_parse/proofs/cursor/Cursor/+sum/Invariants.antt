-- A call has fewer brackets left to open, or as many and a phrase that stands within the caller's.
-- The loops read on as the reader of many parts does, with fewer tokens left at each turn.
use Rattle.std.proofs.Common.{◌∷◌, codes, ◌+◌, ◌*◌, length}
use Rattle.mk_parse.specs.Readers.{makes, every, past, says}
use Rattle.mk_parse.specs.Reading.{sum_inner, factor_by, product_by}
use Rattle.mk_parse.proofs.Loops.{Going}
use Rattle.mk_parse.proofs.cursor.Cursor.+sum.Given as goal

abbrev pub decreases-sum : goal.decreases-sum
decreases-sum l = 10 * l.brackets + 9

abbrev pub decreases-products : goal.decreases-products
decreases-products l = 10 * l.brackets + 8

abbrev pub decreases-added : goal.decreases-added
decreases-added l = 10 * l.brackets + 7

abbrev pub decreases-product : goal.decreases-product
decreases-product l = 10 * l.brackets + 6

abbrev pub decreases-factors : goal.decreases-factors
decreases-factors l = 10 * l.brackets + 5

abbrev pub decreases-multiplied : goal.decreases-multiplied
decreases-multiplied l = 10 * l.brackets + 4

abbrev pub decreases-factor : goal.decreases-factor
decreases-factor l = 10 * l.brackets + 3

abbrev pub decreases-named : goal.decreases-named
decreases-named l = 10 * l.brackets + 2

abbrev pub decreases-square : goal.decreases-square
decreases-square l = 10 * l.brackets + 2

abbrev pub decreases-sum_in_brackets : goal.decreases-sum_in_brackets
decreases-sum_in_brackets l = 10 * l.brackets

abbrev pub invariant-factors-loop-parts : goal.invariant-factors-loop-parts
invariant-factors-loop-parts l =
    Going (says (codes "*")) (past (codes "*") (factor_by l.brackets (sum_inner l.brackets))) l.parts l.self
    (makes (λ parts. l.fn.first ∷ parts) (every (says (codes "*")) (past (codes "*") (factor_by l.brackets (sum_inner l.brackets)))) l.fn.self)

abbrev pub decreases-factors-loop-parts : goal.decreases-factors-loop-parts
decreases-factors-loop-parts l = length l.self

abbrev pub invariant-products-loop-parts : goal.invariant-products-loop-parts
invariant-products-loop-parts l =
    Going (says (codes "+")) (past (codes "+") (product_by l.brackets (sum_inner l.brackets))) l.parts l.self
    (makes (λ parts. l.fn.first ∷ parts) (every (says (codes "+")) (past (codes "+") (product_by l.brackets (sum_inner l.brackets)))) l.fn.self)

abbrev pub decreases-products-loop-parts : goal.decreases-products-loop-parts
decreases-products-loop-parts l = length l.self
