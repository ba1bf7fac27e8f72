-- An instruction over registers before a line feed is the first line.
use Rattle.std.proofs.Common.{ℕ, List, length, subst, arith, ◌-◌}
use Rattle.mk_code.specs.declared.instr.Instr.{Instr}
use Rattle.mk_bundle.specs.Taking.{IsIntoLine}
use Rattle.mk_bundle.proofs.Intos.{into_leaves, into_line_found, no_into_read, no_feed_behind}
use Rattle.mk_bundle.proofs.input.Input.instr_into.Goals as goal

pub overflow_sub-result : goal.overflow_sub-result
overflow_sub-result c = into_leaves c.bytes-held.result.now c.in_ok-into.behind.now c.in_ok-into.into c.in_ok-into.ensures

pub returns-clause-some : goal.returns-clause-some
returns-clause-some c =
    subst (λ (pending : List ℕ). IsIntoLine c.in_ok-into.into (length c.bytes-held.result.now - length c.in_ok-into.behind.now) pending) c.bytes-held.ensures
    (into_line_found c.bytes-held.result.now c.in_ok-into.behind.now c.in_ok-into.into c.in_ok-into.ensures (omega (arith, c.in-len1-up.len_at_least)) c.if-feed-ne10.false)

-- the first line is no such instruction's
abbrev NoIntoLine : List ℕ → Type 0
NoIntoLine pending = (x : ℕ × Instr) (n : ℕ) → IsIntoLine x n pending → ⊥

pub returns-in_err-into : goal.returns-in_err-into
returns-in_err-into c =
    rw (c.from_residual.ensures) (record { some = tt; none = subst NoIntoLine c.bytes-held.ensures (no_into_read c.bytes-held.result.now c.in_err-into.ensures) })

pub returns-in_default : goal.returns-in_default
returns-in_default c = record {
  some = tt;
  none = subst NoIntoLine c.bytes-held.ensures (no_feed_behind c.bytes-held.result.now c.in_ok-into.behind.now c.in_ok-into.into c.in_ok-into.ensures (λ some. absurd (omega (arith, some, c.in_default.len_below))));
}

pub returns-then-feed-ne10 : goal.returns-then-feed-ne10
returns-then-feed-ne10 c = record {
  some = tt;
  none = subst NoIntoLine c.bytes-held.ensures (no_feed_behind c.bytes-held.result.now c.in_ok-into.behind.now c.in_ok-into.into c.in_ok-into.ensures (λ some. c.if-feed-ne10.true));
}
