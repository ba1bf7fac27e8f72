-- The kind tells it.
use Rattle.std.proofs.Common.{sym, ap, ◌∙◌}
use Rattle.mk_parse.specs.Reading.{number_of}
use Rattle.mk_parse.proofs.KindTests.{number_kind, number_by_kind, other_number}
use Rattle.mk_parse.proofs.spelled.Spelled.number.Goals as goal

pub returns-in-Number : goal.returns-in-Number
returns-in-Number c =
    ap number_kind (sym c.in-Number.is) ∙ number_by_kind c.self.inside.kind c.self.inside.bytes.now c.self.invariant ∙ ap number_of c.self.view_is

pub returns-in_default : goal.returns-in_default
returns-in_default c =
    sym (other_number c.self.inside.kind c.in_default.not-Number) ∙ number_by_kind c.self.inside.kind c.self.inside.bytes.now c.self.invariant
    ∙ ap number_of c.self.view_is
