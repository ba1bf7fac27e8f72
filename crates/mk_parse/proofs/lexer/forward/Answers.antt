-- The place of the bytes on the way.
use Rattle.std.proofs.Common.{◌+◌, ◌-◌, arith, drop, length-take, length-drop}
use Rattle.mk_parse.proofs.Lexed.{placed_small, forward_placed}
use Rattle.mk_parse.proofs.lexer.forward.Goals as goal

pub behind_all-requires-clause-line : goal.behind_all-requires-clause-line
behind_all-requires-clause-line c =
    let i = c.args.spot.index in
    omega (arith, placed_small c.args.text.now i c.args.spot.at c.requires.placed, length-take (i + c.args.count - i) (drop i c.args.text.now), length-drop i c.args.text.now)

pub returns-clause-placed : goal.returns-clause-placed
returns-clause-placed c =
    forward_placed c.args.text.now c.args.spot.index c.args.count c.args.spot.at c.behind_all.result c.requires.placed c.requires.within c.behind_all.ensures
