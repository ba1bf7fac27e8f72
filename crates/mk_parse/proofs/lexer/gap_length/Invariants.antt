-- The bytes so far are a gap, which may end within a comment.
use Rattle.std.proofs.Common.{take}
use Rattle.mk_parse.proofs.Gaps.{IsSoFar}
use Rattle.mk_parse.proofs.lexer.gap_length.Given as goal

abbrev pub invariant-loop-index : goal.invariant-loop-index
invariant-loop-index l = IsSoFar l.in_comment (take l.index l.bytes)
