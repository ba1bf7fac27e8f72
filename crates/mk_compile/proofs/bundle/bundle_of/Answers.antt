-- The code is over the values' inputs and maps, and so it is accepted.
use Rattle.std.proofs.Common.{◌≡◌, ◌∙◌, ap, subst, sym}
use Rattle.mk_code.specs.Listing.{Listing}
use Rattle.mk_rules.specs.Accepts.{IsAccepted}
use Rattle.mk_rules.proofs.BuiltIn.{accepted_built_in-private}
use Rattle.mk_rules.proofs.Pairing.{accepted-pair}
use Rattle.mk_rules.specs.Shape.{Shape}
use Rattle.mk_compile.specs.Emitting.{shape_from, code_of}
use Rattle.mk_compile.proofs.Wires.{parts-wired, parts-shape, code-accepted}
use Rattle.mk_compile.proofs.bundle.bundle_of.Goals as goal

pub emit_code-requires-clause-wired : goal.emit_code-requires-clause-wired
emit_code-requires-clause-wired c =
    parts-wired c.args.s.now c.args.order c.args.cert.blocks c.field.result c.secrets.result c.publics.result c.in_ok-maps.maps
    c.field.ensures c.secrets.ensures c.publics.ensures (c.in_ok-maps.ensures ∙ c.maps.ensures) c.requires.wired

pub returns-clause-accepted : goal.returns-clause-accepted
returns-clause-accepted c =
    let same : shape_from c.field.result c.args.order c.secrets.result c.publics.result c.in_ok-maps.maps
    ≡ shape_from c.args.s.now.field c.args.order c.args.s.now.secrets c.args.s.now.publics c.args.s.now.maps =
    parts-shape c.args.s.now c.args.order c.field.result c.secrets.result c.publics.result c.in_ok-maps.maps
    c.field.ensures c.secrets.ensures c.publics.ensures (c.in_ok-maps.ensures ∙ c.maps.ensures) in
    subst (λ (x : Listing). IsAccepted x c.args.cert) (sym (c.in_ok-code.ensures ∙ ap (λ (x : Shape). code_of x c.args.cert) same))
    (code-accepted c.args.order c.args.s.now c.args.cert c.requires.wired c.requires.claims c.requires.undoubled)

pub returns-clause-private : goal.returns-clause-private
returns-clause-private c = accepted_built_in-private c.in_ok-code.code c.args.cert c.law-2.ensures.images (returns-clause-accepted c)

pub returns-clause-pair : goal.returns-clause-pair
returns-clause-pair c =
    accepted-pair c.in_ok-code.code c.args.cert c.law-2.ensures.fits c.law-2.ensures.maps (returns-clause-accepted c)
    c.requires.few_blocks c.requires.few_claims
