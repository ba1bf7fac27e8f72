-- The banks of the inputs.
use Rattle.std.proofs.Common.{◌≡◌, ◌+◌, ◌-◌, ◌*◌, ℕ, Some, ap, ◌∙◌, arith, [], slice_get, slice_index_or}
use Rattle.mk_check.specs.Laying.{all_banks}
use Rattle.mk_check.specs.Outlines.{outlined}
use Rattle.mk_check.proofs.Planned.{secret-share, secret-none, public-share, public-none}
use Rattle.mk_check.proofs.plan.Plan.share.Goals as goal

pub returns-then-from-shares : goal.returns-then-from-shares
returns-then-from-shares c =
    let n : c.from-shares.result ≡ c.args.self.now.outline.order + 1 = c.from-shares.ensures ∙ c.shares.ensures in
    ap (λ (m : ℕ). Some (c.args.number * m + c.from-then-from-shares.result)) n
    ∙ ap (λ (k : ℕ). Some (c.args.number * (c.args.self.now.outline.order + 1) + k)) c.from-then-from-shares.ensures
    ∙ secret-share c.args.self.now c.requires.plan c.requires.wired c.args.number c.args.k c.if-number-secrets.true
    (omega (arith, n, c.from.ensures, c.if-from-shares.true))

pub returns-else-from-shares : goal.returns-else-from-shares
returns-else-from-shares c =
    let n : c.from-shares.result ≡ c.args.self.now.outline.order + 1 = c.from-shares.ensures ∙ c.shares.ensures in
    secret-none c.args.self.now c.requires.plan c.requires.wired c.args.number c.args.k c.if-number-secrets.true
    (omega (arith, n, c.from.ensures, c.if-from-shares.false))

pub returns-then-k-eq0 : goal.returns-then-k-eq0
returns-then-k-eq0 c =
    let zero : 0 ≡ c.args.k = omega (arith, c.if-k-eq0.true) in
    ap (λ (p : ℕ). Some (p + (c.args.number - c.args.self.now.outline.secrets))) c.first_public.ensures.value
    ∙ public-share c.args.self.now c.requires.plan c.requires.wired c.args.number c.if-number-secrets.false
    (omega (arith, c.inputs.ensures.count, c.if-number-inputs.false))
    ∙ ap (slice_get (slice_index_or (all_banks (outlined c.args.self.now.outline) c.args.self.now.templates c.args.self.now.cert.blocks) c.args.number [])) zero

pub returns-else-k-eq0 : goal.returns-else-k-eq0
returns-else-k-eq0 c =
    public-none c.args.self.now c.requires.plan c.requires.wired c.args.number c.args.k c.if-number-secrets.false
    (omega (arith, c.inputs.ensures.count, c.if-number-inputs.false)) (λ e. omega (arith, e, c.if-k-eq0.false))
