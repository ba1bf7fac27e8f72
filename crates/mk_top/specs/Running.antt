-- What the steps of a run answer, for the functions that carry them out.
use Rattle.std.specs.Prelude.{◌≡◌, ◌⊎◌, ℕ, ◌<◌, ◌≤◌, List, Option, Some, IfSome, Result, Ok, Err, length}
use Rattle.mk_base.specs.Outside.{Rose}
use Rattle.mk_base.specs.Streams.{CameWithin, ReadsAll}
use Rattle.mk_code.specs.Listing.{Listing}
use Rattle.mk_rules.specs.Claimed.{Claimed}
use Rattle.mk_rules.specs.Accepts.{IsAccepted}
use Rattle.mk_bundle.specs.declared.TheConstants.{MOST_BYTES}
use Rattle.mk_bundle.specs.Pairs.{IsBundleOf, IsRegisterPair}
use Rattle.mk_bundle.specs.Text.{register_text}
use Rattle.mk_top.specs.declared.answer.Answer.{Answer}
use Rattle.mk_top.specs.declared.answer.Answer.TheVariants as answer
use Rattle.mk_top.specs.declared.fault.Fault.{Fault}
use Rattle.mk_top.specs.declared.fault.Fault.TheVariants.{Words, Source, ReadFault, WriteFault, Memory, TooLong}
use Rattle.mk_top.specs.Seen.{Seen}
use Rattle.mk_words.specs.Words.{Command, Check, Run, Count, Report, Regs, Asks, IsNoForm}
use Rattle.mk_top.specs.Decided.{SourceDecides, TextDecides, limit_of}
use Rattle.mk_top.specs.Headline.{Makes, TakesWhole, TakesSome}
use Rattle.mk_top.specs.Because.{ReadWhole, input_of, Reads, IsAnswerOf}
use Rattle.mk_top.specs.Faults.{status_of}

-- why a text was not read
abbrev pub NotRead : ℕ → Seen → Fault → Type 0
NotRead limit input ReadFault =
    Rose input.faults input.faults_after × IfSome input.before (λ bytes. CameWithin limit bytes input.after)
NotRead limit input Memory = Unit {0}
NotRead limit input (TooLong at) = (at ≡ limit) × IfSome input.before (λ bytes. limit < length bytes)
NotRead limit input _ = ⊥

-- why there is no typed source: the text spells none, or one with a first offence, or memory was wanted
abbrev pub NotTyped : List ℕ → Fault → Type 0
NotTyped bytes Memory = Unit {0}
NotTyped bytes (Source why) = SourceDecides (λ tree answer. ⊥) bytes (Some (Source why))
NotTyped bytes fault = ⊥

-- why nothing was made of a text that was read
abbrev pub NotMade : Command → List ℕ → Fault → Type 0
NotMade command bytes Words = ⊥
NotMade command bytes ReadFault = ⊥
NotMade command bytes WriteFault = ⊥
NotMade command bytes Memory = Unit {0}
NotMade command bytes (TooLong at) = ⊥
NotMade command bytes fault = TextDecides command bytes (Some fault)

-- why a command has no text of its input
abbrev pub NoText : Command → Seen → Fault → Type 0
NoText command input Words = ⊥
NoText command input ReadFault =
    Reads command × Rose input.faults input.faults_after
    × IfSome (input_of command input.before) (λ bytes. CameWithin (limit_of command) bytes (input_of command input.after))
NoText command input WriteFault = ⊥
NoText command input Memory = Unit {0}
NoText command input (TooLong at) =
    Reads command × (at ≡ limit_of command) × IfSome (input_of command input.before) (λ bytes. limit_of command < length bytes)
NoText command input fault =
    IfSome (input_of command input.before) (λ bytes. TextDecides command bytes (Some fault))
    × ReadWhole (limit_of command) (input_of command input.before) (input_of command input.after)
    × IsAnswerOf command (status_of fault)

-- the command reads a bundle
abbrev pub TakesBundle : Command → Type 0
TakesBundle Check = Unit {0}
TakesBundle (Run publics secrets tape) = Unit {0}
TakesBundle (Count publics first second probes) = Unit {0}
TakesBundle Report = Unit {0}
TakesBundle Regs = Unit {0}
TakesBundle command = ⊥

-- why a command that reads a bundle has no text: its input gives none
abbrev pub NoBundle : Seen → Fault → Type 0
NoBundle input fault = (command : Command) → TakesBundle command → NoText command input fault

-- the input gave a bundle's text to its end, and the rule accepts the code with its certificate
pub record Checked (before after : Option (List ℕ)) : Type 0 where
  pub bytes : List ℕ
  pub code : Listing
  pub cert : Claimed
  pub text : IsBundleOf bytes code cert
  pub accepted : IsAccepted code cert
  pub within : length bytes ≤ MOST_BYTES
  pub whole : IfSome before (λ rest. ReadsAll rest bytes after)

-- the text that a command made of its input, which was read to its end
pub record Made (command : Command) (input : Seen) (written : List ℕ) : Type 0 where
  pub read : ReadWhole (limit_of command) (input_of command input.before) (input_of command input.after)
  pub makes : Makes command (input_of command input.before) written

-- the text of an answer: its own, or that of its register code and certificate
abbrev pub text_of : Answer → List ℕ
text_of (answer.Text bytes) = bytes
text_of (answer.Bundle made) = register_text made.code made.cert

-- an answer can be written: its register code and certificate are a pair
abbrev pub HasText : Answer → Type 0
HasText (answer.Text bytes) = Unit {0}
HasText (answer.Bundle made) = IsRegisterPair made.code made.cert

-- what was made, as an answer
abbrev pub answered : {X : Type 0} → (X → Answer) → Result X Fault → Result Answer Fault
answered form (Ok made) = Ok (form made)
answered form (Err fault) = Err fault

-- what the command that the words ask for answers, which can be written
abbrev pub IsMade : List (List ℕ) → Seen → Answer → Type 0
IsMade words input made = (command : Command) × Asks words command × Made command input (text_of made) × HasText made

-- why there is no text: the words are no form, or the command that they ask for has none for its input
abbrev pub IsUnmade : List (List ℕ) → Seen → Fault → Type 0
IsUnmade words input Words = IsNoForm words
IsUnmade words input fault = (command : Command) × Asks words command × NoText command input fault

-- a command that was carried out: its text was made, and written whole
pub record Finished (command : Command) (input output : Seen) : Type 0 where
  pub written : List ℕ
  pub made : Made command input written
  pub whole : TakesWhole output.before written output.after

-- a command whose text was cut by a fault of the output, which counted it
pub record Cut (command : Command) (input output : Seen) : Type 0 where
  pub written : List ℕ
  pub made : Made command input written
  pub some : TakesSome output.before written output.after
  pub rose : Rose output.faults output.faults_after

-- Why a command stopped: by what its input gave, or by a fault of the output.
abbrev pub StoppedAt : Command → Seen → Seen → Fault → Type 0
StoppedAt command input output WriteFault = Cut command input output
StoppedAt command input output fault = NoText command input fault

-- The same of a run: its words are no form, or a command stopped.
abbrev pub Stopped : List (List ℕ) → Seen → Seen → Fault → Type 0
Stopped words input output Words = IsNoForm words
Stopped words input output fault = (command : Command) × Asks words command × StoppedAt command input output fault

-- a command that was asked for reads its input, or left it as it was
abbrev pub ReadsOrLeaves : List (List ℕ) → Type 0 → Type 0
ReadsOrLeaves words left = IsNoForm words ⊎ ((command : Command) × Asks words command × (Reads command ⊎ left))
