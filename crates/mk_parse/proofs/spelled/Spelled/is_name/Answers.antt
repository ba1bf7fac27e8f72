-- The kind tells it.
use Rattle.std.proofs.Common.{sym, ap, ◌∙◌}
use Rattle.mk_ast.specs.Tokens.{Token}
use Rattle.mk_parse.specs.Reading.{is_name}
use Rattle.mk_parse.proofs.KindTests.{is_name_kind, name_by_kind, other_name}
use Rattle.mk_parse.proofs.spelled.Spelled.is_name.Goals as goal

pub returns-in-Name-clause-name : goal.returns-in-Name-clause-name
returns-in-Name-clause-name c =
    let token : Token = record { text = c.self.inside.bytes.now; at = c.self.inside.at } in
    ap is_name_kind (sym c.in-Name.is) ∙ name_by_kind c.self.inside.kind token c.self.invariant ∙ ap is_name c.self.view_is

pub returns-in_default : goal.returns-in_default
returns-in_default c =
    let token : Token = record { text = c.self.inside.bytes.now; at = c.self.inside.at } in
    record {
      name = sym (other_name c.self.inside.kind c.in_default.not-Name) ∙ name_by_kind c.self.inside.kind token c.self.invariant ∙ ap is_name c.self.view_is;
      short = λ wrong. absurd (let e = wrong in cc);
    }
