-- Why secrets are not encoded, why a code is not run and why its tapes are not counted: the first cause in a
-- fixed order. The rules are this project's own.
use Rattle.std.specs.Prelude.{ℕ, ◌*◌, ◌^◌, ◌+◌, not, ◌||◌, nat_lt, if◌then◌else◌, List, Option, Some, None, length, option_map}
use Rattle.std.specs.Option.{option_or}
use Rattle.std.specs.List.{position}
use Rattle.mk_base.specs.declared.Which.TheVariants as which_
use Rattle.mk_base.specs.Inputs.{wrong_number, no_element}
use Rattle.mk_field.specs.Field.{size}
use Rattle.mk_code.specs.Listing.{Listing, trace_len}
use Rattle.mk_code.specs.Trace.{randoms}
use Rattle.mk_code.specs.Private.{spent}
use Rattle.mk_base.specs.declared.inputs.InputRefusal.{InputRefusal}
use Rattle.mk_base.specs.declared.inputs.InputRefusal.TheVariants as input_
use Rattle.mk_run.specs.declared.limits.TheConstants.{MOST_TAPES, MOST_ENTRIES}
use Rattle.mk_run.specs.declared.refusal.RunRefusal.{RunRefusal}
use Rattle.mk_run.specs.declared.refusal.RunRefusal.TheVariants as run_
use Rattle.mk_run.specs.declared.refusal.CountRefusal.{CountRefusal}
use Rattle.mk_run.specs.declared.refusal.CountRefusal.TheVariants as count_

-- why the inputs of a run are not taken, as a refusal of the run
abbrev pub run_refusal_of : InputRefusal → RunRefusal
run_refusal_of (input_.Length given wanted) = run_.Length given wanted
run_refusal_of (input_.Element which index) = run_.Element which index

-- why the inputs of a count are not taken, as a refusal of the count
abbrev pub count_refusal_of : InputRefusal → CountRefusal
count_refusal_of (input_.Length given wanted) = count_.Length given wanted
count_refusal_of (input_.Element which index) = count_.Element which index

-- the tape has fewer elements than are wanted
abbrev pub tape_short : List ℕ → ℕ → Option RunRefusal
tape_short tape wanted = if nat_lt (length tape) wanted then Some (run_.TapeShort (length tape) wanted) else None

-- why secrets are not taken with this tape: their number isn't the code's; or one of them, or of the tape, is no
-- element
abbrev pub secrets_refusal : Listing → List ℕ → List ℕ → Option InputRefusal
secrets_refusal code secrets tape =
    option_or (wrong_number secrets code.secrets)
    (option_or (no_element which_.Secret (size code.field) secrets) (no_element which_.Tape (size code.field) tape))

-- why they are not encoded, if they are not: they are not taken, or the tape is too short
abbrev pub encode_refusal : Listing → List ℕ → List ℕ → Option RunRefusal
encode_refusal code secrets tape = option_or (option_map run_refusal_of (secrets_refusal code secrets tape)) (tape_short tape (spent code))

-- why public inputs and shares are not taken with this tape: the number of the public inputs, or of the shares,
-- isn't the code's; or one of them, or of the tape, is no element
abbrev pub shares_refusal : Listing → List ℕ → List ℕ → List ℕ → Option InputRefusal
shares_refusal code publics shares tape =
    option_or (wrong_number publics code.publics)
    (option_or (wrong_number shares (code.secrets * (code.order + 1)))
    (option_or (no_element which_.Public (size code.field) publics)
    (option_or (no_element which_.Secret (size code.field) shares) (no_element which_.Tape (size code.field) tape))))

-- why the code is not run on them, if it is not: they are not taken, or the tape is too short
abbrev pub run_refusal : Listing → List ℕ → List ℕ → List ℕ → Option RunRefusal
run_refusal code publics shares tape =
    option_or (option_map run_refusal_of (shares_refusal code publics shares tape)) (tape_short tape (randoms code.instrs))

-- how many elements a tape has: those of the encodings, and those of the code
abbrev pub tape_len : Listing → ℕ
tape_len code = spent code + randoms code.instrs

-- why public inputs and secrets are not taken with a whole tape: the number of the public inputs, or of the secrets,
-- isn't the code's; or one of them, or of the tape, is no element
abbrev pub inputs_refusal : Listing → List ℕ → List ℕ → List ℕ → Option InputRefusal
inputs_refusal code publics secrets tape =
    option_or (wrong_number publics code.publics)
    (option_or (wrong_number secrets code.secrets)
    (option_or (no_element which_.Public (size code.field) publics)
    (option_or (no_element which_.Secret (size code.field) secrets) (no_element which_.Tape (size code.field) tape))))

-- why the code is not run on them, if it is not: they are not taken, or the whole tape is too short
abbrev pub whole_refusal : Listing → List ℕ → List ℕ → List ℕ → Option RunRefusal
whole_refusal code publics secrets tape =
    option_or (option_map run_refusal_of (inputs_refusal code publics secrets tape)) (tape_short tape (tape_len code))

-- how many tapes there are
abbrev pub tapes : Listing → ℕ
tapes code = size code.field ^ tape_len code

-- why public inputs and the secrets of two worlds are not taken: the number of the public inputs, or of the
-- secrets of a world, isn't the code's; or one of them is no element
abbrev pub worlds_refusal : Listing → List ℕ → List ℕ → List ℕ → Option InputRefusal
worlds_refusal code publics first second =
    option_or (wrong_number publics code.publics)
    (option_or (wrong_number first code.secrets)
    (option_or (wrong_number second code.secrets)
    (option_or (no_element which_.Public (size code.field) publics)
    (option_or (no_element which_.Secret (size code.field) first) (no_element which_.Other (size code.field) second)))))

-- there are more probes than the order, or a probe is no position of the trace: the first such one
abbrev pub wrong_probe : Listing → List ℕ → Option CountRefusal
wrong_probe code probes =
    if nat_lt code.order (length probes) then Some (count_.Probe code.order)
    else option_map count_.Probe (position (λ p. not (nat_lt p (trace_len code))) probes)

-- there are more than 1,048,576 tapes, or their traces have more than 4,294,967,296 entries
abbrev pub too_many_tapes : Listing → Option CountRefusal
too_many_tapes code =
    if nat_lt MOST_TAPES (tapes code) || nat_lt MOST_ENTRIES (tapes code * trace_len code) then Some (count_.Tapes (tape_len code)) else None

-- why the tapes are not counted, if they are not: the inputs are not taken, or the probes are not, or there are
-- too many tapes
abbrev pub count_refusal : Listing → List ℕ → List ℕ → List ℕ → List ℕ → Option CountRefusal
count_refusal code publics first second probes =
    option_or (option_map count_refusal_of (worlds_refusal code publics first second)) (option_or (wrong_probe code probes) (too_many_tapes code))
