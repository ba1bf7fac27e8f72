-- The bundle is that of the placed certificate.
use Rattle.std.proofs.Common.{arith, ap, subst, sym, ◌∙◌}
use Rattle.mk_code.specs.Listing.{Listing}
use Rattle.mk_ssa.specs.Values.{Values}
use Rattle.mk_rules.specs.Claimed.{Claimed}
use Rattle.mk_rules.specs.Wired.{Wired}
use Rattle.mk_place.specs.Uses.{shape_of_values}
use Rattle.mk_compile.specs.Emitting.{shape_from, code_of}
use Rattle.mk_place.specs.Placed.{Placed}
use Rattle.mk_place.specs.Different.{AllDifferButRefreshes}
use Rattle.mk_compile.proofs.Compiling.{blocks-few, instrs-few, claims-count, code-correct}
use Rattle.mk_compile.proofs.program.compile.Goals as goal

pub bundle_of-requires-clause-few : goal.bundle_of-requires-clause-few
bundle_of-requires-clause-few c =
    instrs-few c.args.p.now c.args.order c.in_ok-unrolled.unrolled c.in_ok-values.values c.in_ok-cert.cert
    c.in_ok-unrolled.ensures.values c.in_ok-values.ensures.simplified c.in_ok-cert.ensures.placed
    c.in_ok-unrolled.ensures.counts c.in_ok-values.ensures.operators c.in_ok-values.ensures.constants
    c.requires.order.0 c.requires.order.1

pub bundle_of-requires-clause-few_blocks : goal.bundle_of-requires-clause-few_blocks
bundle_of-requires-clause-few_blocks c =
    blocks-few c.args.p.now c.args.order c.in_ok-unrolled.unrolled c.in_ok-values.values c.in_ok-cert.cert
    c.in_ok-unrolled.ensures.values c.in_ok-values.ensures.simplified c.in_ok-cert.ensures.placed
    c.in_ok-unrolled.ensures.counts c.in_ok-values.ensures.operators c.in_ok-values.ensures.constants

pub bundle_of-requires-clause-few_claims : goal.bundle_of-requires-clause-few_claims
bundle_of-requires-clause-few_claims c =
    omega (
      arith,
      c.in_ok-unrolled.ensures.counts.ends,
      claims-count c.args.p.now c.args.order c.in_ok-unrolled.unrolled c.in_ok-values.values c.in_ok-cert.cert
          c.in_ok-unrolled.ensures.values c.in_ok-values.ensures.simplified c.in_ok-cert.ensures.placed,
    )

pub returns-clause-correct : goal.returns-clause-correct
returns-clause-correct c =
    let placed : Placed c.in_ok-values.values c.in_ok-bundle.bundle.cert =
    subst (Placed c.in_ok-values.values) (sym c.in_ok-bundle.ensures.cert) c.in_ok-cert.ensures.placed in
    code-correct c.args.p.now c.args.order c.in_ok-unrolled.unrolled c.in_ok-values.values c.in_ok-bundle.bundle.cert
    c.in_ok-unrolled.ensures.values c.in_ok-values.ensures.simplified placed c.law-2.ensures
    (subst (λ (x : Claimed). Wired (shape_of_values c.in_ok-values.values) x.blocks) (sym c.in_ok-bundle.ensures.cert) c.in_ok-cert.ensures.wired)
    c.in_ok-values.ensures.meaning c.law.ensures.regular c.law.ensures.typed c.in_ok-unrolled.ensures.ends
    c.in_ok-bundle.bundle.code
    (c.in_ok-bundle.ensures.code ∙ ap (code_of (shape_from c.in_ok-values.values.field c.args.order c.in_ok-values.values.secrets c.in_ok-values.values.publics c.in_ok-values.values.maps)) (sym c.in_ok-bundle.ensures.cert))
    c.in_ok-bundle.ensures.images c.in_ok-bundle.ensures.accepted

pub returns-clause-maps : goal.returns-clause-maps
returns-clause-maps c =
    ap (λ (x : Listing). x.maps) c.in_ok-bundle.ensures.code ∙ c.in_ok-values.ensures.maps ∙ ap (λ (v : Values). v.maps) c.in_ok-unrolled.ensures.values

pub returns-clause-different : goal.returns-clause-different
returns-clause-different c =
    subst (λ (x : Claimed). AllDifferButRefreshes x.blocks) (sym (c.in_ok-bundle.ensures.cert ∙ c.in_ok-cert.ensures.placed.laid))
    (c.different_law.ensures c.in_ok-cert.ensures.placed.marks c.in_ok-values.values c.in_ok-values.ensures.different)
