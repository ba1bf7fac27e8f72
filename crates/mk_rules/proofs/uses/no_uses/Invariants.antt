-- So many values have no use.
use Rattle.std.proofs.Common.{◌≡◌, ℕ, [], length, slice_index_or}
use Rattle.mk_rules.proofs.uses.no_uses.Given as goal

abbrev pub invariant-loop : goal.invariant-loop
invariant-loop l = record {
  count : length l.noted.items ≡ l.counter;
  none : (v : ℕ) → slice_index_or l.noted.items v [] ≡ [];
}
