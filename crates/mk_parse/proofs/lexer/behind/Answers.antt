-- A line feed, and any other byte.
use Rattle.std.proofs.Common.{◌+◌, ap, sym, ◌∙◌}
use Rattle.std.proofs.lemmas.Bool.{eq-eqb, ne_eqb}
use Rattle.mk_base.specs.declared.Place.{Place}
use Rattle.mk_parse.proofs.Placing.{place_at, place_feed, place_other}
use Rattle.mk_parse.proofs.lexer.behind.Goals as goal

pub returns-then-byte-eq10-clause-place : goal.returns-then-byte-eq10-clause-place
returns-then-byte-eq10-clause-place c = λ front e.
    ap (λ (p : Place). place_at (p.line + 1) 1) e ∙ sym (place_feed front c.args.byte (eq-eqb c.args.byte 10 c.if-byte-eq10.true))

pub returns-clause-place : goal.returns-clause-place
returns-clause-place c = λ front e.
    ap (λ (p : Place). place_at p.line (p.column + 1)) e ∙ sym (place_other front c.args.byte (ne_eqb c.args.byte 10 c.if-byte-eq10.false))
