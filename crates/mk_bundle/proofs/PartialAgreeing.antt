-- Reading a line by counts, and by what the registers hold, agrees with reading it up to a pair, in either version.
use Rattle.std.proofs.Common.{ℕ, List}
use Rattle.mk_bundle.specs.Versions.{Partial, Positions, Registers, partial_read, untold}
use Rattle.mk_bundle.specs.Noting.{noted, line_noted}
use Rattle.mk_bundle.proofs.Reaching.{GoodSoFar}
use Rattle.mk_bundle.proofs.Agreeing.{position_agrees}
use Rattle.mk_bundle.proofs.RegisterAgreeing.{register_agrees}
pub use Rattle.mk_bundle.proofs.Agreeing.{head_so_far, newly, Outcome, Agrees}

-- what is left and told behind a line is what reading by counts gives, and one reads the line where the other does
pub line_agrees : (p : Partial) (l : List ℕ) → GoodSoFar p → Agrees p (line_noted (noted p (untold p)) l) (partial_read p l)
unfolding partial_read
line_agrees (Positions st) l good = position_agrees st.stage st.code st.cert l good.0 good.1
line_agrees (Registers st) l good = register_agrees st l good.0 good.1
