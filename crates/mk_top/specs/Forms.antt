-- What is said of the command that the words ask for, by the words of elements as they stand.
use Rattle.std.specs.Prelude.{◌≡◌, ◌<◌, ◌^◌, ℕ, List, length}
use Rattle.mk_words.specs.Words.{Command, Eval, Run, Count, GivenTape, Seed, Tape, SaysElements, SaysProbes}
use Rattle.mk_words.specs.declared.command.TapeForm.{TapeForm}
use Rattle.mk_words.specs.declared.command.TapeForm.TheVariants as tape_
use Rattle.mk_top.specs.declared.runs.WholeTape.{WholeTape}
use Rattle.mk_top.specs.declared.runs.WholeTape.TheVariants as whole

-- this holds of the evaluation on the elements that two words say
abbrev pub OfElements : List ℕ → List ℕ → (Command → Type 0) → Type 0
OfElements first second P = (publics secrets : List ℕ) × SaysElements first publics × SaysElements second secrets × P (Eval publics secrets)

-- the tape comes from here
abbrev pub IsGivenBy : TapeForm → GivenTape → Type 0
IsGivenBy (tape_.Seed seed) given = given ≡ Seed seed
IsGivenBy (tape_.Elements word) given = (elements : List ℕ) × SaysElements word.now elements × (given ≡ Tape elements)

-- this holds of the run on the elements that two words say and on this tape
abbrev pub OfRun : List ℕ → List ℕ → TapeForm → (Command → Type 0) → Type 0
OfRun first second tape P =
    (publics secrets : List ℕ) × (given : GivenTape) × SaysElements first publics × SaysElements second secrets × IsGivenBy tape given × P (Run publics secrets given)

-- this holds of the count on the elements and probes that four words say
abbrev pub OfCount : List ℕ → List ℕ → List ℕ → List ℕ → (Command → Type 0) → Type 0
OfCount word one two seen P =
    (publics first second probes : List ℕ) × SaysElements word publics × SaysElements one first × SaysElements two second × SaysProbes seen probes
    × P (Count publics first second probes)

-- the tape of a run, where its elements are decoded
abbrev pub given_of : WholeTape → GivenTape
given_of (whole.Seed seed) = Seed seed
given_of (whole.Elements elements) = Tape elements.now

-- a list of elements is one of the program's
abbrev pub IsShort : WholeTape → Type 0
IsShort (whole.Seed seed) = Unit {0}
IsShort (whole.Elements elements) = length elements.now < 2 ^ 32
