-- The decoding of 32 bytes accepts exactly the words of seeds.
use Rattle.mk_words.proofs.Digits.{seed-said, seed-unsaid}
use Rattle.mk_words.proofs.command.seed_of.Goals as goal

pub returns-in-Ok-clause-found : goal.returns-in-Ok-clause-found
returns-in-Ok-clause-found c = seed-said c.args.word.now _ c.decode_to_slice.result c.decode_to_slice.ensures.value c.in-Ok.is

pub returns-in-Err-clause-none : goal.returns-in-Err-clause-none
returns-in-Err-clause-none c = seed-unsaid c.args.word.now _ c.decode_to_slice.result _ c.decode_to_slice.ensures.value c.in-Err.is
