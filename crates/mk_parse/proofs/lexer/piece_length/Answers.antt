-- By the first byte.
use Rattle.std.proofs.Common.{true, false, get_or, inl, inr, sym, ◌∙◌, arith}
use Rattle.std.proofs.lemmas.Bool.{eq-eqb, ne_eqb}
use Rattle.std.proofs.lemmas.List.Sums.{prefix_len-le-length}
use Rattle.mk_ast.specs.Tokens.{goes_on}
use Rattle.mk_parse.proofs.Munching.{length_run, length_symbol, piece_alone, piece_whole}
use Rattle.mk_parse.proofs.lexer.piece_length.Goals as goal

pub returns-then-goes_on-clause-within : goal.returns-then-goes_on-clause-within
returns-then-goes_on-clause-within c = omega (arith, prefix_len-le-length goes_on c.args.bytes.now)

pub returns-then-goes_on-clause-alone : goal.returns-then-goes_on-clause-alone
returns-then-goes_on-clause-alone c =
    let bytes = c.args.bytes.now in
    piece_alone bytes c.run_length.result (length_run bytes c.in-len1-up.len_at_least (sym c.goes_on.ensures ∙ c.if-goes_on.true) ∙ sym c.run_length.ensures)

pub returns-then-goes_on-clause-whole : goal.returns-then-goes_on-clause-whole
returns-then-goes_on-clause-whole c = piece_whole c.args.bytes.now c.run_length.result (inl c.run_length.ensures)

pub returns-then-first-eq46-clause-alone : goal.returns-then-first-eq46-clause-alone
returns-then-first-eq46-clause-alone c =
    let bytes = c.args.bytes.now in
    let dot = length_symbol bytes true c.in-len1-up.len_at_least (sym c.goes_on.ensures ∙ c.if-goes_on.false) (eq-eqb (get_or bytes 0 0) 46 c.if-first-eq46.true) in
    piece_alone bytes c.min.result (dot ∙ sym c.min.ensures)

pub returns-then-first-eq46-clause-whole : goal.returns-then-first-eq46-clause-whole
returns-then-first-eq46-clause-whole c = piece_whole c.args.bytes.now c.min.result (inr (sym c.goes_on.ensures ∙ c.if-goes_on.false))

pub returns-clause-alone : goal.returns-clause-alone
returns-clause-alone c =
    let bytes = c.args.bytes.now in
    let other = length_symbol bytes false c.in-len1-up.len_at_least (sym c.goes_on.ensures ∙ c.if-goes_on.false) (ne_eqb (get_or bytes 0 0) 46 c.if-first-eq46.false) in
    piece_alone bytes 1 (other ∙ omega arith)

pub returns-clause-whole : goal.returns-clause-whole
returns-clause-whole c = piece_whole c.args.bytes.now 1 (inr (sym c.goes_on.ensures ∙ c.if-goes_on.false))
