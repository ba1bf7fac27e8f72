-- None of the loops so far has the name.
use Rattle.std.proofs.Common.{◌≡◌, None, take, find, bytes_eq}
use Rattle.mk_unroll.proofs.turns.Turns.number.Given as goal

abbrev pub invariant-loop-turn : goal.invariant-loop-turn
invariant-loop-turn l = find (λ t. bytes_eq t.name.now l.name) (take l.turn-index l.turn-items) ≡ None
