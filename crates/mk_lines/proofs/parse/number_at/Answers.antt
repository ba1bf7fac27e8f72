-- The digits at the front lead or not.
use Rattle.std.proofs.Common.{◌∙◌, sym, arith}
use Rattle.std.proofs.lemmas.Grind.{common_steps}
use Rattle.mk_lines.proofs.Numbers.{number_at_first, number_at_none, leads_digit}
use Rattle.mk_lines.proofs.parse.number_at.Goals as goal

pub returns-then-not-leads : goal.returns-then-not-leads
returns-then-not-leads c = number_at_none c.args.bytes.now (sym c.leads.ensures ∙ c.if-not-leads.true)

pub returns-in_default : goal.returns-in_default
returns-in_default c = absurd (omega (arith, c.in_default.len_below, (leads_digit c.args.bytes.now (sym c.leads.ensures ∙ c.if-not-leads.false)).0))

pub overflow_sub-first : goal.overflow_sub-first
overflow_sub-first c = grind (arith, common_steps, (leads_digit c.args.bytes.now (sym c.leads.ensures ∙ c.if-not-leads.false)).1)

pub returns : goal.returns
returns c = rw (number_at_first c.args.bytes.now (sym c.leads.ensures ∙ c.if-not-leads.false)) c.digits_behind.ensures
