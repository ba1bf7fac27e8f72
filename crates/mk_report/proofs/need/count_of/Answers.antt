-- Each word has as many bits as it has ones.
use Rattle.std.proofs.Common.{arith, ◌<◌, ◌^◌, ℕ, slice_index}
use Rattle.std.proofs.lemmas.Nat.{ones-le}
use Rattle.mk_report.proofs.Bits.{words-ones}
use Rattle.mk_report.proofs.need.count_of.Goals as goal

pub loop-word-preserved : goal.loop-word-preserved
loop-word-preserved c =
    let k : ℕ = c.loop-word.word-index in
    let small : slice_index c.args.row.now k < 2 ^ 64 = omega (arith, c.type_inv.row k) in
    (omega (arith, words-ones c.args.row.now k small, c.loop-word.invariant.0), omega (arith, c.loop-word.invariant.1, ones-le 64 _ small))
