-- The blocks are those of the values, and the claims those of the outputs.
use Rattle.std.proofs.Common.{◌++◌, ℕ, List, map, sym, ◌∙◌, ap, subst}
use Rattle.std.specs.List.{All}
use Rattle.mk_ssa.specs.declared.Operand.{Operand}
use Rattle.mk_ssa.specs.Values.{Values}
use Rattle.mk_place.specs.Laying.{named, HasName}
use Rattle.mk_place.proofs.Placing.{outs-named, laid-all}
use Rattle.mk_place.proofs.layout.laid_out.Goals as goal

pub claim_outs-requires : goal.claim_outs-requires
claim_outs-requires c =
    let s : Values = c.args.s.now in
    subst (λ (ns : List ℕ). All (HasName ns) s.outs) (sym c.as_slice.ensures.items)
    (outs-named s c.in_ok-cert.names c.lay_values.ensures.fits c.in_ok-cert.ensures.laid.long)

pub returns-clause-laid : goal.returns-clause-laid
returns-clause-laid c =
    let s : Values = c.args.s.now in
    laid-all s c.lay_values.ensures.fits c.claim_outs.new.cert c.in_ok-cert.cert.blocks c.in_ok-cert.names c.in_ok-cert.ensures.laid
    c.in_ok-claim_outs.ensures.blocks
    (c.in_ok-claim_outs.ensures.claims
    ∙ ap (λ (cs : List Operand). cs ++ map (named c.as_slice.result.now) s.outs) c.in_ok-cert.ensures.claims
    ∙ ap (λ (ns : List ℕ). map (named ns) s.outs) c.as_slice.ensures.items)

pub returns-clause-fits : goal.returns-clause-fits
returns-clause-fits c = c.lay_values.ensures.fits
