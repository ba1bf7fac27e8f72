-- An instruction before a line feed is the first line.
use Rattle.std.proofs.Common.{ℕ, List, length, subst, arith, ◌-◌}
use Rattle.mk_code.specs.declared.instr.Instr.{Instr}
use Rattle.mk_bundle.specs.Taking.{IsInstrLine}
use Rattle.mk_bundle.proofs.Instrs.{instr_leaves, instr_line_found, no_instr_read, no_feed_behind}
use Rattle.mk_bundle.proofs.input.Input.instr.Goals as goal

pub overflow_sub-result : goal.overflow_sub-result
overflow_sub-result c = instr_leaves c.bytes-held.result.now c.in_ok-instr.behind.now c.in_ok-instr.instr c.in_ok-instr.ensures

pub returns-clause-some : goal.returns-clause-some
returns-clause-some c =
    subst (λ (pending : List ℕ). IsInstrLine c.in_ok-instr.instr (length c.bytes-held.result.now - length c.in_ok-instr.behind.now) pending) c.bytes-held.ensures
    (instr_line_found c.bytes-held.result.now c.in_ok-instr.behind.now c.in_ok-instr.instr c.in_ok-instr.ensures (omega (arith, c.in-len1-up.len_at_least)) c.if-feed-ne10.false)

-- the first line is no instruction's
abbrev NoInstrLine : List ℕ → Type 0
NoInstrLine pending = (i : Instr) (n : ℕ) → IsInstrLine i n pending → ⊥

pub returns-in_err-instr : goal.returns-in_err-instr
returns-in_err-instr c =
    rw (c.from_residual.ensures) (record { some = tt; none = subst NoInstrLine c.bytes-held.ensures (no_instr_read c.bytes-held.result.now c.in_err-instr.ensures) })

pub returns-in_default : goal.returns-in_default
returns-in_default c = record {
  some = tt;
  none = subst NoInstrLine c.bytes-held.ensures (no_feed_behind c.bytes-held.result.now c.in_ok-instr.behind.now c.in_ok-instr.instr c.in_ok-instr.ensures (λ some. absurd (omega (arith, some, c.in_default.len_below))));
}

pub returns-then-feed-ne10 : goal.returns-then-feed-ne10
returns-then-feed-ne10 c = record {
  some = tt;
  none = subst NoInstrLine c.bytes-held.ensures (no_feed_behind c.bytes-held.result.now c.in_ok-instr.behind.now c.in_ok-instr.instr c.in_ok-instr.ensures (λ some. c.if-feed-ne10.true));
}
