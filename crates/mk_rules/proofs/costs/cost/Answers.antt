-- The price is that of the template.
use Rattle.std.proofs.Common.{arith, ◌≡◌, ◌≤◌, ℕ, Bool, true, false, if◌then◌else◌, ◌+◌, ◌-◌, ◌*◌, ◌/◌, length, sym, ap, ◌∙◌}
use Rattle.mk_ssa.specs.Kinds.{is_public}
use Rattle.mk_code.specs.Trace.{randoms}
use Rattle.mk_ssa.specs.declared.Op.{Op}
use Rattle.mk_gadget.specs.Template.{built_in}
use Rattle.mk_rules.proofs.Prices.{NotStrong, mild-instrs, mild-randoms}
use Rattle.mk_rules.proofs.costs.cost.Goals as goal

pub returns-in-Mul-clause-instrs : goal.returns-in-Mul-clause-instrs
returns-in-Mul-clause-instrs c =
    ap (λ (k : ℕ). (k + 1) * (k + 1) + 5 * ((k + 1) * (k + 1 - 1) / 2)) c.from-shares.ensures
    ∙ sym (c.cost_law.ensures (c.args.order + 1)).product
    ∙ sym (ap (λ (op : Op). length (built_in (c.args.order + 1) op).instrs) c.in-Mul.is)

pub returns-in-Mul-clause-randoms : goal.returns-in-Mul-clause-randoms
returns-in-Mul-clause-randoms c =
    ap (λ (k : ℕ). (k + 1) * (k + 1 - 1) / 2) c.from-shares.ensures
    ∙ sym (c.cost_law.ensures (c.args.order + 1)).product_randoms
    ∙ sym (ap (λ (op : Op). randoms (built_in (c.args.order + 1) op).instrs) c.in-Mul.is)

pub returns-in-Refresh-clause-instrs : goal.returns-in-Refresh-clause-instrs
returns-in-Refresh-clause-instrs c =
    ap (λ (k : ℕ). 3 * ((k + 1) * (k + 1 - 1) / 2)) c.from-shares.ensures
    ∙ sym (c.cost_law.ensures (c.args.order + 1)).refresh
    ∙ sym (ap (λ (op : Op). length (built_in (c.args.order + 1) op).instrs) c.in-Refresh.is)

pub returns-in-Refresh-clause-randoms : goal.returns-in-Refresh-clause-randoms
returns-in-Refresh-clause-randoms c =
    ap (λ (k : ℕ). (k + 1) * (k + 1 - 1) / 2) c.from-shares.ensures
    ∙ sym (c.cost_law.ensures (c.args.order + 1)).refresh_randoms
    ∙ sym (ap (λ (op : Op). randoms (built_in (c.args.order + 1) op).instrs) c.in-Refresh.is)

-- a mild block at either kind
mild-price : (n : ℕ) (op : Op) (public : Bool) → 1 ≤ n → NotStrong op → is_public op ≡ public → length (built_in n op).instrs ≡ (if public then 1 else n)
mild-price n op public least mild is = mild-instrs n op least mild ∙ ap (λ (b : Bool). if b then 1 else n) is

pub returns-then-is_public : goal.returns-then-is_public
returns-then-is_public c =
    let mild : NotStrong c.args.op.now = record { mul = c.in_default.not-Mul; refresh = c.in_default.not-Refresh } in
    record {
      instrs = sym (mild-price (c.args.order + 1) c.args.op.now true (omega arith) mild (sym c.is_public.ensures ∙ c.if-is_public.true));
      randoms = sym (mild-randoms (c.args.order + 1) c.args.op.now mild);
    }

pub returns-else-is_public : goal.returns-else-is_public
returns-else-is_public c =
    let mild : NotStrong c.args.op.now = record { mul = c.in_default.not-Mul; refresh = c.in_default.not-Refresh } in
    record {
      instrs = ap (λ (k : ℕ). k + 1) c.from-shares.ensures
          ∙ sym (mild-price (c.args.order + 1) c.args.op.now false (omega arith) mild (sym c.is_public.ensures ∙ c.if-is_public.false));
      randoms = sym (mild-randoms (c.args.order + 1) c.args.op.now mild);
    }
