-- The declarations are read as the reader of many parts does, with fewer tokens left at each turn.
use Rattle.std.proofs.Common.{length}
use Rattle.mk_parse.specs.Readers.{every}
use Rattle.mk_parse.specs.Reading.{begins_declaration, declaration_by}
use Rattle.mk_parse.proofs.Loops.{Going}
use Rattle.mk_parse.proofs.cursor.Cursor.declarations.Given as goal

abbrev pub invariant-loop-list : goal.invariant-loop-list
invariant-loop-list l = Going begins_declaration declaration_by l.list l.self (every begins_declaration declaration_by l.fn.self)

abbrev pub decreases-loop-list : goal.decreases-loop-list
decreases-loop-list l = length l.self
