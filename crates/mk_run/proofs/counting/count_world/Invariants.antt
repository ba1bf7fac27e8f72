use Rattle.std.proofs.Common.{◌≡◌, ℕ, List, length}
use Rattle.mk_run.specs.Refusals.{tape_len}
use Rattle.mk_run.specs.Tally.{more, tally_of, KeepsShown}
use Rattle.mk_run.proofs.Numbers.{shown_by}
use Rattle.mk_run.proofs.counting.count_world.Given as goal

-- the tapes so far are counted
abbrev pub invariant-loop-number : goal.invariant-loop-number
invariant-loop-number l =
    (l.runner.code ≡ l.fn.runner.code)
    × (l.runner.publics ≡ l.fn.runner.publics)
    × (length l.tape.items ≡ tape_len l.fn.runner.code)
    × (length l.seen.items ≡ length l.probes)
    × ((tuple : List ℕ) → tally_of l.tallies tuple ≡ more l.world (shown_by l.fn.runner.code l.fn.runner.publics l.secrets l.probes l.number tuple) (tally_of l.fn.tallies tuple))
    × KeepsShown l.tallies
