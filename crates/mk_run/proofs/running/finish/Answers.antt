-- The word is an element of the tape, or 0.
use Rattle.std.proofs.Common.{◌<◌}
use Rattle.mk_field.specs.Field.{size}
use Rattle.mk_code.proofs.Steps.{AllBelow-at}
use Rattle.mk_field.proofs.Sum.{zero-element}
use Rattle.mk_run.proofs.running.finish.Goals.{then-taken-tape, else-taken-tape}
use Rattle.mk_run.proofs.running.finish.Goals as goal

pub step-requires-clause-element : goal.step-requires-clause-element
step-requires-clause-element c =
    let q = size c.args.machine.now.code.field in
    let word : c.if-taken-tape.word < q = elim c.if-taken-tape.branch [
      | then-taken-tape w ↦ rw w.word-is (AllBelow-at q c.args.tape.now c.loop-word.taken c.requires.tape.below w.if-taken-tape.true)
      | else-taken-tape w ↦ rw w.word-is (zero-element c.args.machine.now.code.field)
    ] in
    rw c.loop-word.invariant.0 word
