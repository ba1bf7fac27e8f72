-- What the words ask for, with the words of elements as they stand.
use Rattle.std.specs.Prelude.{◌≡◌, ◌<◌, ◌^◌, ℕ, List, [], ◌∷◌, length, codes}
use Rattle.mk_words.specs.declared.command.Form.{Form}
use Rattle.mk_words.specs.declared.command.Form.TheVariants as form
use Rattle.mk_words.specs.Words.{Compile, Check, Report, Gen, Trial, Table, Gadget, Regs, SaysElements, SaysSeed, SaysProbes, Asks}
use Rattle.mk_words.specs.declared.command.TapeForm.{TapeForm}
use Rattle.mk_words.specs.declared.command.TapeForm.TheVariants as tape_

-- the word says some elements
abbrev pub AreElements : List ℕ → Type 0
AreElements word = (elements : List ℕ) × SaysElements word elements

-- the word says some probes
abbrev pub AreProbes : List ℕ → Type 0
AreProbes word = (probes : List ℕ) × SaysProbes word probes

-- the word of a tape says elements, where there is one
abbrev pub IsTapeForm : TapeForm → Type 0
IsTapeForm (tape_.Seed seed) = Unit {0}
IsTapeForm (tape_.Elements elements) = AreElements elements.now × (length elements.now < 2 ^ 32)

-- two words say where a tape comes from
abbrev pub SaysTapeSo : List ℕ → List ℕ → TapeForm → Type 0
SaysTapeSo kind word (tape_.Seed seed) = (kind ≡ codes "seed") × SaysSeed word seed
SaysTapeSo kind word (tape_.Elements elements) = (kind ≡ codes "tape") × (word ≡ elements.now) × IsTapeForm (tape_.Elements elements)

-- the words ask for this
abbrev pub AsksSo : List (List ℕ) → Form → Type 0
AsksSo words (form.Compile order) = Asks words (Compile order)
AsksSo words form.Check = Asks words Check
AsksSo words (form.Eval publics secrets) =
    (words ≡ codes "eval" ∷ publics.now ∷ secrets.now ∷ []) × (AreElements publics.now × (length publics.now < 2 ^ 32)) × (AreElements secrets.now × (length secrets.now < 2 ^ 32))
AsksSo words (form.Run publics secrets tape) =
    (kind word : List ℕ) × (words ≡ codes "run" ∷ publics.now ∷ secrets.now ∷ kind ∷ word ∷ [])
    × (AreElements publics.now × (length publics.now < 2 ^ 32)) × (AreElements secrets.now × (length secrets.now < 2 ^ 32)) × SaysTapeSo kind word tape
AsksSo words (form.Count publics first second probes) =
    (words ≡ codes "count" ∷ publics.now ∷ first.now ∷ second.now ∷ probes.now ∷ [])
    × (AreElements publics.now × (length publics.now < 2 ^ 32)) × (AreElements first.now × (length first.now < 2 ^ 32))
    × (AreElements second.now × (length second.now < 2 ^ 32)) × (AreProbes probes.now × (length probes.now < 2 ^ 32))
AsksSo words form.Report = Asks words Report
AsksSo words (form.Gen turns) = Asks words (Gen turns)
AsksSo words (form.Trial turns order) = Asks words (Trial turns order)
AsksSo words form.Table = Asks words Table
AsksSo words form.Gadget = Asks words Gadget
AsksSo words form.Regs = Asks words Regs
