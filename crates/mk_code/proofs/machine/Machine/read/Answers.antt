-- An entry is an element.
use Rattle.std.proofs.Common.{◌≡◌, ◌<◌, ℕ, length, slice_index, sym, ◌∙◌, subst}
use Rattle.std.proofs.lemmas.Grind.{get_or_default_zero}
use Rattle.mk_field.specs.Field.{size}
use Rattle.mk_code.proofs.Steps.{AllBelow-at}
use Rattle.mk_code.proofs.machine.Machine.read.Goals as goal

pub returns-clause-element : goal.returns-clause-element
returns-clause-element c =
    let m = c.self.inside in
    let below : c.args.position < length m.entries.items = rw (← c.self.view_is) at c.requires in
    let e : c.index.result.now ≡ slice_index m.entries.items c.args.position =
    c.index.ensures ∙ get_or_default_zero m.entries.items c.args.position c.index.result.now below in
    let element : c.index.result.now < size m.code.now.field =
    subst (λ (a : ℕ). a < size m.code.now.field) (sym e)
    (AllBelow-at (size m.code.now.field) m.entries.items c.args.position c.self.invariant.0.elements.below below) in
    rw (← c.self.view_is) element
