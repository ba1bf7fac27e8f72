-- The kind tells it.
use Rattle.std.proofs.Common.{sym, ap, ◌∙◌}
use Rattle.mk_parse.specs.Reading.{with_place, element_of}
use Rattle.mk_parse.proofs.KindTests.{element_kind, element_by_kind, other_element}
use Rattle.mk_parse.proofs.spelled.Spelled.element.Goals as goal

pub returns-in-Element : goal.returns-in-Element
returns-in-Element c =
    let at = c.self.inside.at in
    ap (λ kind. with_place at (element_kind kind)) (sym c.in-Element.is)
    ∙ ap (with_place at) (element_by_kind c.self.inside.kind c.self.inside.bytes.now c.self.invariant) ∙ ap element_of c.self.view_is

pub returns-in_default : goal.returns-in_default
returns-in_default c =
    let at = c.self.inside.at in
    ap (with_place at) (sym (other_element c.self.inside.kind c.in_default.not-Element)
    ∙ element_by_kind c.self.inside.kind c.self.inside.bytes.now c.self.invariant) ∙ ap element_of c.self.view_is
