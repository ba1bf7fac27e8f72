use Rattle.std.proofs.Common.{◌≡◌, ◌≤◌}
use Rattle.std.specs.Prelude.{vec_capacity}
use Rattle.rand_chacha.specs.ChaCha.{key_of}
use Rattle.mk_field.specs.Field.{size}
use Rattle.mk_code.specs.Counting.{Elements}
use Rattle.mk_run.specs.Seed.{seed_tape}
use Rattle.mk_run.proofs.seed.tape_from_seed.Given as goal

-- so many words are taken, and the elements of these make the tape
abbrev pub invariant-loop : goal.invariant-loop
invariant-loop l =
    (l.words ≡ record { key = key_of l.seed; stream = 0; word_pos = l.counter })
    × (l.tape.items ≡ seed_tape l.field l.seed l.counter)
    × Elements (size l.field) l.counter l.tape.items
    × (l.len ≤ vec_capacity l.tape)
