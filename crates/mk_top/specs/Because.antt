-- Why an answer came, and what was read and told.
use Rattle.std.specs.Prelude.{◌≡◌, ◌≢◌, ℕ, ◌≤◌, ◌<◌, List, Option, Some, None, IfSome, length, ◌⊎◌, []}
use Rattle.mk_base.specs.Outside.{Rose}
use Rattle.mk_base.specs.Streams.{CameWithin}
use Rattle.mk_words.specs.Words.{Command, Compile, Check, Eval, Run, Count, Report, Gen, Trial, Table, Gadget, Regs}
use Rattle.mk_words.specs.declared.status.Status.{Status}
use Rattle.mk_words.specs.declared.status.Status.TheVariants as status
use Rattle.mk_top.specs.declared.fault.Fault.{Fault}
use Rattle.mk_top.specs.declared.fault.Fault.TheVariants as fault
use Rattle.mk_top.specs.Seen.{Seen}
use Rattle.mk_top.specs.Faults.{status_of, fault_line}
use Rattle.mk_top.specs.Decided.{limit_of, Decides}
use Rattle.mk_top.specs.Headline.{TakesWhole, TakesSome}

-- the command reads its input
abbrev pub Reads : Command → Type 0
Reads (Gen turns) = ⊥
Reads (Trial turns order) = ⊥
Reads command = Unit {0}

-- the bytes that a command has to read, where its input tells them: none, if it reads nothing
abbrev pub input_of : Command → Option (List ℕ) → Option (List ℕ)
input_of (Gen turns) given = Some []
input_of (Trial turns order) given = Some []
input_of command given = given

-- the input was read to its end, within the limit, where it tells its bytes
abbrev pub ReadWhole : ℕ → Option (List ℕ) → Option (List ℕ) → Type 0
ReadWhole limit given after = IfSome given (λ bytes. (length bytes ≤ limit) × (after ≡ Some []))

-- Why a command answers a fault. Reading and writing fail only where the input's, the output's count of
-- faults rose, reading only while no more bytes than the limit came; an input is too long by the command's
-- own limit; want of memory is free, and the bytes of the input decide every other fault.
abbrev pub Because : Command → Seen → Seen → Fault → Type 0
Because command input output fault.ReadFault =
    Rose input.faults input.faults_after
    × IfSome (input_of command input.before) (λ bytes. CameWithin (limit_of command) bytes (input_of command input.after))
Because command input output fault.WriteFault = Rose output.faults output.faults_after
Because command input output fault.Memory = Unit {0}
Because command input output (fault.TooLong limit) =
    (limit ≡ limit_of command) × IfSome (input_of command input.before) (λ bytes. limit_of command < length bytes)
Because command input output why = IfSome (input_of command input.before) (λ bytes. Decides command bytes (Some why))

-- the status of an answer: done, or that of its fault
abbrev pub answer_status : Option Fault → Status
answer_status None = status.Done
answer_status (Some why) = status_of why

-- the answer is this one, or memory was wanted
abbrev pub IsOrMemory : Status → Status → Type 0
IsOrMemory result wanted = (result ≡ wanted) ⊎ (result ≡ status.Memory)

-- after these answers the input was read to its end
abbrev pub ReadsToEnd : Status → Type 0
ReadsToEnd result = (result ≢ status.Words) × (result ≢ status.ReadFault) × (result ≢ status.Memory) × (result ≢ status.TooLong)

-- with these answers nothing was written to the output
abbrev pub WritesNothing : Status → Type 0
WritesNothing result = (result ≢ status.Done) × (result ≢ status.WriteFault)

-- the answers that a command has
abbrev pub IsAnswerOf : Command → Status → Type 0
IsAnswerOf command status.Done = Unit {0}
IsAnswerOf command status.ReadFault = Reads command
IsAnswerOf command status.WriteFault = Unit {0}
IsAnswerOf command status.Memory = Unit {0}
IsAnswerOf command status.TooLong = Reads command
IsAnswerOf (Compile order) status.Source = Unit {0}
IsAnswerOf Check status.Refused = Unit {0}
IsAnswerOf Check status.Bundle = Unit {0}
IsAnswerOf (Eval publics secrets) status.Source = Unit {0}
IsAnswerOf (Eval publics secrets) status.Inputs = Unit {0}
IsAnswerOf (Run publics secrets tape) status.Bundle = Unit {0}
IsAnswerOf (Run publics secrets tape) status.Inputs = Unit {0}
IsAnswerOf (Count publics first second probes) status.Bundle = Unit {0}
IsAnswerOf (Count publics first second probes) status.Inputs = Unit {0}
IsAnswerOf (Count publics first second probes) status.Tapes = Unit {0}
IsAnswerOf Report status.Refused = Unit {0}
IsAnswerOf Report status.Bundle = Unit {0}
IsAnswerOf (Trial turns order) status.Source = Unit {0}
IsAnswerOf Table status.Inputs = Unit {0}
IsAnswerOf Gadget status.Bundle = Unit {0}
IsAnswerOf Gadget status.Tapes = Unit {0}
IsAnswerOf Regs status.Refused = Unit {0}
IsAnswerOf Regs status.Bundle = Unit {0}
IsAnswerOf command _ = ⊥

-- the fault's line was told: a prefix of it, where the error output tells what it took, and the whole
-- line where the error output's count of faults didn't rise
abbrev pub Tells : Fault → Seen → Type 0
Tells why error =
    TakesSome error.before (fault_line why) error.after
    × ((Rose error.faults error.faults_after → ⊥) → TakesWhole error.before (fault_line why) error.after)
