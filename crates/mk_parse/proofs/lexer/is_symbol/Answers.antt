-- One byte that is found among those of the symbols, or two dots.
use Rattle.std.proofs.Common.{arith, eqb, get_or}
use Rattle.std.proofs.lemmas.Bool.Decides.{Decides-eqb}
use Rattle.std.proofs.lemmas.List.Elements.{contains_decides, Decides-contains}
use Rattle.mk_parse.proofs.Munching.{marks, single_symbol}
use Rattle.mk_parse.proofs.lexer.is_symbol.Goals as goal

pub returns-in-len1 : goal.returns-in-len1
returns-in-len1 c =
    let byte = get_or c.args.text.now 0 0 in
    let found = contains_decides eqb Decides-eqb marks byte c.contains.result c.contains.ensures.cases in
    single_symbol c.args.text.now c.contains.result (omega arith) (Decides-contains marks byte c.contains.result found)
