-- What is simplified stands for the same, is used and different, and there is no more of it.
use Rattle.std.proofs.Common.{◌≡◌, ◌≤◌, ◌<◌, ℕ, Bool, List, length, subst}
use Rattle.std.proofs.lemmas.Result.{IfOk-weaker}
use Rattle.mk_field.specs.Field.{size}
use Rattle.mk_ssa.specs.Operators.{Operator}
use Rattle.mk_ssa.specs.Values.{Values, IsValues, draft}
use Rattle.mk_ssa.specs.Denoted.{denoted}
use Rattle.mk_simplify.specs.Simplified.{IsSimplified, IsUsed, AllDiffer, count_operators, is_constant}
use Rattle.mk_simplify.proofs.Meaning.{simplified-meaning}
use Rattle.mk_simplify.proofs.Uses.{simplified-used, simplified-different, simplified-once, IfOk-both}
use Rattle.mk_simplify.proofs.Counts.{simplified-operators, few-constants}
use Rattle.mk_simplify.proofs.Whole.{outs-within}
use Rattle.mk_simplify.proofs.Carried.{made-earlier}
use Rattle.mk_simplify.proofs.simplified.simplify.Goals as goal

pub returns-clause-field : goal.returns-clause-field
returns-clause-field c =
    let s : Values = c.args.s in
    IfOk-weaker c.needed_of.result (IsSimplified s) (λ r. r.field ≡ s.field) (λ r is. is.field) c.needed_of.ensures.simplified

pub returns-clause-secrets : goal.returns-clause-secrets
returns-clause-secrets c =
    let s : Values = c.args.s in
    IfOk-weaker c.needed_of.result (IsSimplified s) (λ r. r.secrets ≡ s.secrets) (λ r is. is.secrets) c.needed_of.ensures.simplified

pub returns-clause-publics : goal.returns-clause-publics
returns-clause-publics c =
    let s : Values = c.args.s in
    IfOk-weaker c.needed_of.result (IsSimplified s) (λ r. r.publics ≡ s.publics) (λ r is. is.publics) c.needed_of.ensures.simplified

pub returns-clause-maps : goal.returns-clause-maps
returns-clause-maps c =
    let s : Values = c.args.s in
    IfOk-weaker c.needed_of.result (IsSimplified s) (λ r. r.maps ≡ s.maps) (λ r is. is.maps) c.needed_of.ensures.simplified

pub returns-clause-meaning : goal.returns-clause-meaning
returns-clause-meaning c =
    let s : Values = c.args.s in
    let whole : IsValues s = subst IsValues c.s.view_is c.s.invariant in
    IfOk-both c.needed_of.result (IsSimplified s) IsValues (λ r. (publics secrets : List ℕ) → denoted r publics secrets ≡ denoted s publics secrets)
    (λ r is fits. simplified-meaning s r is (made-earlier (draft s) whole.made) (made-earlier (draft r) fits.made) (outs-within s whole) (outs-within r fits))
    c.needed_of.ensures.simplified c.needed_of.ensures.fits

pub returns-clause-used : goal.returns-clause-used
returns-clause-used c =
    let s : Values = c.args.s in
    IfOk-both c.needed_of.result (IsSimplified s) IsValues (λ r. (k : ℕ) → k < length r.values → IsUsed r k)
    (λ r is fits. simplified-used s r is (made-earlier (draft r) fits.made) (outs-within r fits)) c.needed_of.ensures.simplified c.needed_of.ensures.fits

pub returns-clause-different : goal.returns-clause-different
returns-clause-different c =
    let s : Values = c.args.s in
    IfOk-both c.needed_of.result (IsSimplified s) IsValues AllDiffer
    (λ r is fits. simplified-different s r is (made-earlier (draft r) fits.made)) c.needed_of.ensures.simplified c.needed_of.ensures.fits

pub returns-clause-operators : goal.returns-clause-operators
returns-clause-operators c =
    let s : Values = c.args.s in
    IfOk-weaker c.needed_of.result (IsSimplified s) (λ r. (p : Operator → Bool) → count_operators p r ≤ count_operators p s)
    (λ r is. simplified-operators s r is) c.needed_of.ensures.simplified

pub returns-clause-constants : goal.returns-clause-constants
returns-clause-constants c =
    let s : Values = c.args.s in
    IfOk-both c.needed_of.result (IsSimplified s) IsValues (λ r. count_operators is_constant r ≤ size r.field)
    (λ r is fits. few-constants r fits.made (simplified-once s r is (made-earlier (draft r) fits.made))) c.needed_of.ensures.simplified c.needed_of.ensures.fits
