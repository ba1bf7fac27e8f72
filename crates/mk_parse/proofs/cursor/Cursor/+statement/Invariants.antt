-- A call has fewer brackets left to open, or as many and a phrase that stands within the caller's.
-- The loops read on as the reader of many parts does, with fewer tokens left at each turn.
use Rattle.std.proofs.Common.{◌+◌, ◌*◌, length}
use Rattle.mk_parse.specs.Readers.{every}
use Rattle.mk_parse.specs.Reading.{begins_statement, statement_at}
use Rattle.mk_parse.proofs.Loops.{Going}
use Rattle.mk_parse.proofs.cursor.Cursor.+statement.Given as goal

abbrev pub decreases-statements : goal.decreases-statements
decreases-statements l = 3 * l.brackets + 2

abbrev pub decreases-statement : goal.decreases-statement
decreases-statement l = 3 * l.brackets + 1

abbrev pub decreases-loop_statement : goal.decreases-loop_statement
decreases-loop_statement l = 3 * l.brackets

abbrev pub invariant-statements-loop-list : goal.invariant-statements-loop-list
invariant-statements-loop-list l = Going begins_statement (statement_at l.brackets) l.list l.self (every begins_statement (statement_at l.brackets) l.fn.self)

abbrev pub decreases-statements-loop-list : goal.decreases-statements-loop-list
decreases-statements-loop-list l = length l.self
