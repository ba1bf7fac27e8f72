-- What is laid out is placed, wired and undoubled, its claims are there, and its blocks are few.
use Rattle.std.proofs.Common.{◌≡◌, ◌+◌, ◌*◌, ◌≤◌, length, sym, subst}
use Rattle.std.specs.List.{All}
use Rattle.std.proofs.lemmas.Result.{IfOk-weaker}
use Rattle.mk_ssa.specs.Values.{Values}
use Rattle.mk_rules.specs.Claimed.{Claimed}
use Rattle.mk_rules.specs.Wired.{IsSharedThere, Wired}
use Rattle.mk_rules.specs.Reaches.{Undoubled, links}
use Rattle.mk_place.specs.Uses.{shape_of_values}
use Rattle.mk_place.specs.Layout.{laid_out}
use Rattle.mk_place.specs.Placed.{Placed}
use Rattle.mk_place.specs.Marking.{all_marks}
use Rattle.mk_place.proofs.Placing.{marked-there}
use Rattle.mk_place.proofs.Fitting.{laid-wired, laid-claims, laid-few}
use Rattle.mk_place.proofs.Holding.{is-placed, is-undoubled}
use Rattle.mk_place.proofs.placement.place.Goals as goal

pub returns-clause-placed : goal.returns-clause-placed
returns-clause-placed c =
    let s : Values = c.args.s.now in
    IfOk-weaker c.laid_out.result (λ x. x ≡ laid_out (all_marks s) s) (Placed s) (is-placed s c.laid_out.ensures.fits) c.laid_out.ensures.laid

pub returns-clause-wired : goal.returns-clause-wired
returns-clause-wired c =
    let s : Values = c.args.s.now in
    let cert : Claimed = laid_out (all_marks s) s in
    IfOk-weaker c.laid_out.result (λ x. x ≡ cert) (λ x. Wired (shape_of_values s) x.blocks)
    (λ x same. subst (λ (y : Claimed). Wired (shape_of_values s) y.blocks) (sym same)
    (laid-wired (all_marks s) s c.laid_out.ensures.fits (marked-there s)))
    c.laid_out.ensures.laid

pub returns-clause-claims : goal.returns-clause-claims
returns-clause-claims c =
    let s : Values = c.args.s.now in
    let cert : Claimed = laid_out (all_marks s) s in
    IfOk-weaker c.laid_out.result (λ x. x ≡ cert) (λ x. All (IsSharedThere (shape_of_values s) x.blocks) x.claims)
    (λ x same. subst (λ (y : Claimed). All (IsSharedThere (shape_of_values s) y.blocks) y.claims) (sym same)
    (laid-claims (all_marks s) s c.laid_out.ensures.fits))
    c.laid_out.ensures.laid

pub returns-clause-undoubled : goal.returns-clause-undoubled
returns-clause-undoubled c =
    let s : Values = c.args.s.now in
    IfOk-weaker c.laid_out.result (λ x. x ≡ laid_out (all_marks s) s) (λ x. Undoubled (s.secrets + s.publics) (links (shape_of_values s) x.blocks))
    (is-undoubled s c.laid_out.ensures.fits) c.laid_out.ensures.laid

pub returns-clause-few : goal.returns-clause-few
returns-clause-few c =
    let s : Values = c.args.s.now in
    let cert : Claimed = laid_out (all_marks s) s in
    IfOk-weaker c.laid_out.result (λ x. x ≡ cert) (λ x. length x.blocks ≤ 3 * length s.values)
    (λ x same. subst (λ (y : Claimed). length y.blocks ≤ 3 * length s.values) (sym same) (laid-few (all_marks s) s))
    c.laid_out.ensures.laid
