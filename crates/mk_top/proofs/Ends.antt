-- How a run ends, by its words, its input's bytes and the counts of faults.
use Rattle.std.proofs.Common.{◌≡◌, ℕ, ◌<◌, ◌≤◌, List, [], ◌∷◌, Option, Some, None, IfSome, Result, Ok, Err, IfOk, IfErr, OnOk, length, inl, inr, refl, ap, sym, subst, ◌∙◌, arith}
use Rattle.std.specs.Prelude.{option_map, codes}
use Rattle.mk_base.specs.Outside.{Rose}
use Rattle.mk_base.specs.Streams.{ReadsAll}
use Rattle.mk_bundle.specs.Text.{register_text}
use Rattle.mk_bundle.specs.Pairs.{IsRegisterPair, TextsReadOnce}
use Rattle.mk_words.specs.declared.status.Status.TheVariants as status
use Rattle.mk_top.specs.declared.answer.Answer.{Answer}
use Rattle.mk_top.specs.declared.answer.RegisterBundle.{RegisterBundle}
use Rattle.mk_top.specs.declared.answer.Answer.TheVariants as answer
use Rattle.mk_top.specs.declared.fault.Fault.{Fault}
use Rattle.mk_top.specs.declared.fault.Fault.TheVariants as fault_
use Rattle.mk_words.specs.Words.{Command, Compile, Check, Eval, Run, Count, Report, Gen, Trial, Table, Gadget, Regs, GivenTape, Seed, Tape, SaysElements, SaysTape, SaysProbes, Asks}
use Rattle.mk_words.specs.Forms.{AreElements, IsTapeForm, SaysTapeSo, AsksSo}
use Rattle.mk_top.specs.Forms.{OfElements, OfRun, OfCount, IsGivenBy}
use Rattle.mk_words.specs.declared.command.Form.{Form}
use Rattle.mk_words.specs.declared.command.Form.TheVariants as form
use Rattle.mk_words.specs.declared.command.TapeForm.{TapeForm}
use Rattle.mk_words.specs.declared.command.TapeForm.TheVariants as tape_
use Rattle.mk_top.specs.Faults.{status_of, fault_of_eval, fault_of_run, fault_of_count}
use Rattle.mk_top.specs.Decided.{Decides, TextDecides, limit_of}
use Rattle.mk_top.specs.Headline.{Makes, TakesWhole, TakesSome}
use Rattle.mk_top.specs.Because.{ReadWhole, ReadsToEnd, Reads, input_of, Because, IsOrMemory, answer_status, IsAnswerOf}
use Rattle.mk_top.specs.Seen.{Seen}
use Rattle.mk_top.specs.Running.{Finished, StoppedAt, Stopped, ReadsOrLeaves, NotMade, NoText, Made, IsMade, IsUnmade, text_of, answered}
use Rattle.mk_words.proofs.Asking.{asks-one}
use Rattle.mk_top.proofs.Deciding.{decides-one}
use Rattle.mk_top.proofs.Tried.{tries-decides}
use Rattle.mk_top.proofs.Bundles.{text-told}
use Rattle.mk_top.proofs.Given.{made-given, no_text-given}

-- what a command makes of its input decides that there is no fault
makes-decides : (words : List (List ℕ)) (command : Command) (bytes written : List ℕ) → Asks words command → Makes command (Some bytes) written → length bytes ≤ limit_of command
    → Decides command bytes None
makes-decides words (Compile order) bytes written asks makes within =
    (within, (makes.0.compiled.tree, makes.0.compiled.source.spelled.spelled, makes.0.compiled.source.typed, makes.0.compiled.within))
makes-decides words Check bytes written asks makes within =
    (within, (makes.0.code, makes.0.cert, text-told bytes makes.0.code makes.0.cert makes.0.bundle, makes.0.accepted))
makes-decides words (Eval ps ss) bytes written asks makes within =
    (within, (makes.tree, makes.source.spelled.spelled, makes.source.typed, sym (ap (option_map fault_of_eval) makes.taken)))
makes-decides words (Run ps ss tape) bytes written asks makes within =
    (within, (makes.code, makes.cert, text-told bytes makes.code makes.cert makes.bundle, sym (ap (option_map fault_of_run) makes.taken)))
makes-decides words (Count ps one two qs) bytes written asks makes within =
    (within, (makes.code, makes.cert, text-told bytes makes.code makes.cert makes.bundle, sym (ap (option_map fault_of_count) makes.taken)))
makes-decides words Report bytes written asks makes within = (within, (makes.code, makes.cert, text-told bytes makes.code makes.cert makes.bundle, makes.accepted))
makes-decides words (Gen turns) bytes written asks makes within = (within, refl)
makes-decides words (Trial turns order) bytes written asks makes within = (within, tries-decides turns order written asks.3.1 asks.3.2 makes)
makes-decides words Table bytes written asks makes within = (within, ap (λ (bs : List ℕ). length bs) (sym makes.taken) ∙ makes.whole)
makes-decides words Regs bytes written asks makes within =
    let c = makes.checked in
    (within, (c.code, c.cert, text-told bytes c.code c.cert c.bundle, c.accepted))
makes-decides words Gadget bytes written asks makes within = (within, (makes.gadget, makes.text, (makes.few_sets, makes.few_terms)))

module _ (words : List (List ℕ)) (input output : Seen) where
  -- a run that stopped under words that ask for a command stopped at this command
  pub stopped-at : (command : Command) (fault : Fault) → Asks words command → Stopped words input output fault → StoppedAt command input output fault
  stopped-at command fault asks stopped = go fault stopped
    where
      moved : (f : Fault) (other : Command) → Asks words other → StoppedAt other input output f → StoppedAt command input output f
      moved f other asked at = subst (λ (k : Command). StoppedAt k input output f) (asks-one words other command asked asks) at

      go : (f : Fault) → Stopped words input output f → StoppedAt command input output f
      go fault_.Words s = absurd (s command asks)
      go f s = moved f s.0 s.1 s.2

-- a command that was carried out is the one that the words ask for
pub finished-at : (words : List (List ℕ)) (command : Command) (input output : Seen)
    → (other : Command) × Asks words other × Finished other input output → Asks words command → Finished command input output
finished-at words command input output finished asks =
    subst (λ (k : Command). Finished k input output) (asks-one words finished.0 command finished.1 asks) finished.2

-- what holds of what an option has, said of what it is known to have
of-some : (o : Option (List ℕ)) (bytes : List ℕ) (P : List ℕ → Type 0) → o ≡ Some bytes → IfSome o P → P bytes
of-some o bytes P is holds = subst (λ (x : Option (List ℕ)). IfSome x P) is holds

-- and the other way round
on-some : (o : Option (List ℕ)) {P : List ℕ → Type 0} → ((bytes : List ℕ) → o ≡ Some bytes → P bytes) → IfSome o P
on-some None holds = tt
on-some (Some bytes) holds = holds bytes refl

-- an input that was read to its end is within the limit
read-within : (command : Command) (input : Seen) (bytes : List ℕ) → input_of command input.before ≡ Some bytes
    → ReadWhole (limit_of command) (input_of command input.before) (input_of command input.after) → length bytes ≤ limit_of command
read-within command input bytes is read =
    (of-some (input_of command input.before) bytes (λ (bs : List ℕ). (length bs ≤ limit_of command) × (input_of command input.after ≡ Some [])) is read).0

-- a text that was made of the bytes that the input gave decides that there is no fault
made-decides : (words : List (List ℕ)) (command : Command) (input : Seen) (written bytes : List ℕ) → input_of command input.before ≡ Some bytes → Asks words command
    → Made command input written → Decides command bytes None
made-decides words command input written bytes is asks made =
    makes-decides words command bytes written asks (subst (λ (o : Option (List ℕ)). Makes command o written) is made.makes) (read-within command input bytes is made.read)

-- what the bytes within the limit decide is what the bytes decide
within-decides : (command : Command) (input : Seen) (P : List ℕ → Type 0)
    → ReadWhole (limit_of command) (input_of command input.before) (input_of command input.after) → IfSome (input_of command input.before) P
    → IfSome (input_of command input.before) (λ bytes. (length bytes ≤ limit_of command) × P bytes)
within-decides command input P read holds =
    on-some (input_of command input.before) (λ bytes is. (read-within command input bytes is read, of-some (input_of command input.before) bytes P is holds))

-- why a command stopped, by its cause
pub stopped-because : (command : Command) (input output : Seen) (fault : Fault)
    → StoppedAt command input output fault → Because command input output fault
stopped-because command input output fault_.Words s = absurd s
stopped-because command input output (fault_.Source why) s =
    within-decides command input (λ bs. TextDecides command bs (Some (fault_.Source why))) s.1 s.0
stopped-because command input output (fault_.Inputs why) s =
    within-decides command input (λ bs. TextDecides command bs (Some (fault_.Inputs why))) s.1 s.0
stopped-because command input output (fault_.Check why) s =
    within-decides command input (λ bs. TextDecides command bs (Some (fault_.Check why))) s.1 s.0
stopped-because command input output (fault_.Bundle line) s =
    within-decides command input (λ bs. TextDecides command bs (Some (fault_.Bundle line))) s.1 s.0
stopped-because command input output (fault_.Unset instr) s =
    within-decides command input (λ bs. TextDecides command bs (Some (fault_.Unset instr))) s.1 s.0
stopped-because command input output (fault_.Register instr) s =
    within-decides command input (λ bs. TextDecides command bs (Some (fault_.Register instr))) s.1 s.0
stopped-because command input output (fault_.Tapes elements) s =
    within-decides command input (λ bs. TextDecides command bs (Some (fault_.Tapes elements))) s.1 s.0
stopped-because command input output (fault_.Gadget line) s =
    within-decides command input (λ bs. TextDecides command bs (Some (fault_.Gadget line))) s.1 s.0
stopped-because command input output (fault_.Sets sets) s =
    within-decides command input (λ bs. TextDecides command bs (Some (fault_.Sets sets))) s.1 s.0
stopped-because command input output (fault_.Terms terms) s =
    within-decides command input (λ bs. TextDecides command bs (Some (fault_.Terms terms))) s.1 s.0
stopped-because command input output fault_.ReadFault s = (s.1, s.2)
stopped-because command input output fault_.WriteFault s = s.rose
stopped-because command input output fault_.Memory s = tt
stopped-because command input output (fault_.TooLong at) s = (s.1, s.2)

-- why a command stopped is one of its answers
pub stopped-answer : (command : Command) (input output : Seen) (fault : Fault)
    → StoppedAt command input output fault → IsAnswerOf command (status_of fault)
stopped-answer command input output fault_.Words s = absurd s
stopped-answer command input output (fault_.Source why) s = s.2
stopped-answer command input output (fault_.Inputs why) s = s.2
stopped-answer command input output (fault_.Check why) s = s.2
stopped-answer command input output (fault_.Bundle line) s = s.2
stopped-answer command input output (fault_.Unset instr) s = s.2
stopped-answer command input output (fault_.Register instr) s = s.2
stopped-answer command input output fault_.ReadFault s = s.0
stopped-answer command input output fault_.WriteFault s = tt
stopped-answer command input output fault_.Memory s = tt
stopped-answer command input output (fault_.Tapes elements) s = s.2
stopped-answer command input output (fault_.Gadget line) s = s.2
stopped-answer command input output (fault_.Sets sets) s = s.2
stopped-answer command input output (fault_.Terms terms) s = s.2
stopped-answer command input output (fault_.TooLong at) s = s.0

-- a command that stopped where the output failed had its text made, and a prefix of it taken
pub stopped-cut : (command : Command) (input output : Seen) (fault : Fault)
    → StoppedAt command input output fault → status_of fault ≡ status.WriteFault
    → (written : List ℕ) × Makes command (input_of command input.before) written × TakesSome output.before written output.after
stopped-cut command input output fault_.Words s is = absurd cc
stopped-cut command input output (fault_.Source why) s is = absurd cc
stopped-cut command input output (fault_.Inputs why) s is = absurd cc
stopped-cut command input output (fault_.Check why) s is = absurd cc
stopped-cut command input output (fault_.Bundle line) s is = absurd cc
stopped-cut command input output (fault_.Unset instr) s is = absurd cc
stopped-cut command input output (fault_.Register instr) s is = absurd cc
stopped-cut command input output fault_.ReadFault s is = absurd cc
stopped-cut command input output fault_.WriteFault s is = (s.written, s.made.makes, s.some)
stopped-cut command input output fault_.Memory s is = absurd cc
stopped-cut command input output (fault_.Tapes elements) s is = absurd cc
stopped-cut command input output (fault_.Gadget line) s is = absurd cc
stopped-cut command input output (fault_.Sets sets) s is = absurd cc
stopped-cut command input output (fault_.Terms terms) s is = absurd cc
stopped-cut command input output (fault_.TooLong at) s is = absurd cc

-- a command that stopped has read its input to the end, but where the answer tells that it didn't
pub stopped-read : (command : Command) (input output : Seen) (fault : Fault) → StoppedAt command input output fault → ReadsToEnd (status_of fault)
    → ReadWhole (limit_of command) (input_of command input.before) (input_of command input.after)
stopped-read command input output fault_.Words s ends = absurd s
stopped-read command input output (fault_.Source why) s ends = s.1
stopped-read command input output (fault_.Inputs why) s ends = s.1
stopped-read command input output (fault_.Check why) s ends = s.1
stopped-read command input output (fault_.Bundle line) s ends = s.1
stopped-read command input output (fault_.Unset instr) s ends = s.1
stopped-read command input output (fault_.Register instr) s ends = s.1
stopped-read command input output (fault_.Gadget line) s ends = s.1
stopped-read command input output (fault_.Sets sets) s ends = s.1
stopped-read command input output (fault_.Terms terms) s ends = s.1
stopped-read command input output fault_.ReadFault s ends = absurd (ends.1 refl)
stopped-read command input output fault_.WriteFault s ends = s.made.read
stopped-read command input output fault_.Memory s ends = absurd (ends.2 refl)
stopped-read command input output (fault_.Tapes elements) s ends = s.1
stopped-read command input output (fault_.TooLong at) s ends = absurd (ends.3 refl)

-- the text that the command made which the words ask for
abbrev pub IsTextMade : List (List ℕ) → Seen → List ℕ → Type 0
IsTextMade words input written = (command : Command) × Asks words command × Made command input written

-- it is an answer, which can be written
pub text-answered : (words : List (List ℕ)) (input : Seen) (r : Result (List ℕ) Fault) (given : Result Answer Fault)
    → given ≡ answered answer.Text r → IfOk r (IsTextMade words input) → IfOk given (IsMade words input)
text-answered words input (Ok text) given is made = subst (λ (g : Result Answer Fault). IfOk g (IsMade words input)) (sym is) (made.0, made.1, made.2, tt)
text-answered words input (Err fault) given is made = subst (λ (g : Result Answer Fault). IfOk g (IsMade words input)) (sym is) tt

-- and so is a bundle whose register code and certificate are a pair
pub bundle-answered : (words : List (List ℕ)) (command : Command) (input : Seen) (r : Result RegisterBundle Fault) (given : Result Answer Fault)
    → given ≡ answered answer.Bundle r → Asks words command → IfOk r (λ made. Made command input (register_text made.code made.cert))
    → IfOk r (λ made. IsRegisterPair made.code made.cert) → IfOk given (IsMade words input)
bundle-answered words command input (Ok made) given is asks makes pair = subst (λ (g : Result Answer Fault). IfOk g (IsMade words input)) (sym is) (command, asks, makes, pair)
bundle-answered words command input (Err fault) given is asks makes pair = subst (λ (g : Result Answer Fault). IfOk g (IsMade words input)) (sym is) tt

-- a fault stays
pub fault-answered : {X : Type 0} (form : X → Answer) (P : Fault → Type 0) (r : Result X Fault) (given : Result Answer Fault)
    → given ≡ answered form r → IfErr r P → IfErr given P
fault-answered form P (Ok made) given is holds = subst (λ (g : Result Answer Fault). IfErr g P) (sym is) tt
fault-answered form P (Err fault) given is holds = subst (λ (g : Result Answer Fault). IfErr g P) (sym is) holds

-- the text of what the words ask for was put whole
pub put-finished : (words : List (List ℕ)) (input output : Seen) (made : Answer) (r : Result (Unit {0}) Fault)
    → IsMade words input made → OnOk r (TakesWhole output.before (text_of made) output.after)
    → OnOk r ((command : Command) × Asks words command × Finished command input output)
put-finished words input output made (Ok done) is whole = (is.0, is.1, record { written = text_of made; made = is.2; whole = whole })
put-finished words input output made (Err fault) is whole = tt

-- or the output failed
pub put-stopped : (words : List (List ℕ)) (input output : Seen) (made : Answer) (r : Result (Unit {0}) Fault)
    → IsMade words input made → IfErr r (λ fault. fault ≡ fault_.WriteFault)
    → IfErr r (λ fault. TakesSome output.before (text_of made) output.after) → IfErr r (λ fault. Rose output.faults output.faults_after)
    → IfErr r (Stopped words input output)
put-stopped words input output made (Ok done) has is some rose = tt
put-stopped words input output made (Err fault) has is some rose =
    subst (Stopped words input output) (sym is) (has.0, has.1, record { written = text_of made; made = has.2; some = some; rose = rose })

-- where there is no text, nothing was put
pub unmade-stopped : (words : List (List ℕ)) (input output : Seen) (fault : Fault) → IsUnmade words input fault → Stopped words input output fault
unmade-stopped words input output fault_.Words none = none
unmade-stopped words input output fault_.WriteFault none = absurd none.2
unmade-stopped words input output fault none = none

-- a text that a command made is that of the words that ask for it
pub made-asked : (words : List (List ℕ)) (command : Command) (input : Seen) (r : Result (List ℕ) Fault)
    → Asks words command → IfOk r (Made command input) → IfOk r (IsTextMade words input)
made-asked words command input (Ok text) asks made = (command, asks, made)
made-asked words command input (Err fault) asks made = tt

-- and where it has none, they have none
pub unmade-asked : {X : Type 0} (words : List (List ℕ)) (command : Command) (input : Seen) (r : Result X Fault)
    → Asks words command → IfErr r (NoText command input) → IfErr r (IsUnmade words input)
unmade-asked words command input (Ok made) asks none = tt
unmade-asked words command input (Err fault_.Words) asks none = absurd none
unmade-asked words command input (Err fault) asks none = (command, asks, none)

-- what a command that reads nothing has to read was read
nothing-read : (before after : Option (List ℕ)) → before ≡ Some [] → after ≡ Some [] → IfSome before (λ rest. ReadsAll rest [] after)
nothing-read before after none still =
    subst (λ (o : Option (List ℕ)). IfSome o (λ rest. ReadsAll rest [] after)) (sym none) (record { whole = refl; end = still })

-- so its text is made
pub made-unread : (words : List (List ℕ)) (command : Command) (input : Seen) (r : Result (List ℕ) Fault)
    → input_of command input.before ≡ Some [] → input_of command input.after ≡ Some [] → Asks words command → IfOk r (Makes command (Some []))
    → IfOk r (IsTextMade words input)
made-unread words command input r none still asks makes =
    made-asked words command input r asks (made-given command input [] r (omega arith) (nothing-read _ _ none still) makes)

-- or there is none
pub unmade-unread : (words : List (List ℕ)) (command : Command) (input : Seen) (r : Result (List ℕ) Fault)
    → input_of command input.before ≡ Some [] → input_of command input.after ≡ Some [] → Asks words command → IfErr r (NotMade command [])
    → IfErr r (IsUnmade words input)
unmade-unread words command input r none still asks why =
    unmade-asked words command input r asks (no_text-given command input [] r (omega arith) (nothing-read _ _ none still) why)

-- the same of an evaluation on the elements that the words say
pub made-evaluated : (words : List (List ℕ)) (first second : List ℕ) (input : Seen) (r : Result (List ℕ) Fault)
    → words ≡ codes "eval" ∷ first ∷ second ∷ [] → IfOk r (λ text. OfElements first second (λ command. Made command input text)) → IfOk r (IsTextMade words input)
made-evaluated words first second input (Ok text) asks made = (Eval made.0 made.1, (first, second, asks, made.2, made.3), made.4)
made-evaluated words first second input (Err fault) asks made = tt

-- or it has no text
pub unmade-evaluated : (words : List (List ℕ)) (first second : List ℕ) (input : Seen) (r : Result (List ℕ) Fault)
    → words ≡ codes "eval" ∷ first ∷ second ∷ [] → IfErr r (λ fault. OfElements first second (λ command. NoText command input fault))
    → IfErr r (IsUnmade words input)
unmade-evaluated words first second input (Ok text) asks none = tt
unmade-evaluated words first second input (Err fault) asks none =
    unmade-asked {X = List ℕ} words (Eval none.0 none.1) input (Err fault) (first, second, asks, none.2, none.3) none.4

-- the tape that the words give is the one that they say
tape-said : (kind word : List ℕ) (tape : TapeForm) (given : GivenTape) → SaysTapeSo kind word tape → IsGivenBy tape given → SaysTape kind word given
tape-said kind word (tape_.Seed seed) given says by = subst (SaysTape kind word) (sym by) says
tape-said kind word (tape_.Elements at) given says by =
    subst (SaysTape kind word) (sym by.2) (says.0, subst (λ (w : List ℕ). SaysElements w by.0) (sym says.1) by.1)

-- words of a run ask for the run on what they say
asks-run : (words : List (List ℕ)) (kind word : List ℕ) (first second : List ℕ) (tape : TapeForm) (P : Command → Type 0)
    → words ≡ codes "run" ∷ first ∷ second ∷ kind ∷ word ∷ [] → SaysTapeSo kind word tape → OfRun first second tape P → (command : Command) × Asks words command × P command
asks-run words kind word first second tape P asks says of =
    (Run of.0 of.1 of.2, (first, second, kind, word, asks, of.3, of.4, tape-said kind word tape of.2 says of.5), of.6)

-- the same of a run on what the words say
pub made-run : (words : List (List ℕ)) (kind word : List ℕ) (first second : List ℕ) (tape : TapeForm) (input : Seen) (r : Result (List ℕ) Fault)
    → words ≡ codes "run" ∷ first ∷ second ∷ kind ∷ word ∷ [] → SaysTapeSo kind word tape
    → IfOk r (λ text. OfRun first second tape (λ command. Made command input text)) → IfOk r (IsTextMade words input)
made-run words kind word first second tape input (Ok text) asks says made =
    asks-run words kind word first second tape (λ command. Made command input text) asks says made
made-run words kind word first second tape input (Err fault) asks says made = tt

-- or it has no text
pub unmade-run : (words : List (List ℕ)) (kind word : List ℕ) (first second : List ℕ) (tape : TapeForm) (input : Seen) (r : Result (List ℕ) Fault)
    → words ≡ codes "run" ∷ first ∷ second ∷ kind ∷ word ∷ [] → SaysTapeSo kind word tape
    → IfErr r (λ fault. OfRun first second tape (λ command. NoText command input fault)) → IfErr r (IsUnmade words input)
unmade-run words kind word first second tape input (Ok text) asks says none = tt
unmade-run words kind word first second tape input (Err fault) asks says none =
    let run =
    asks-run words kind word first second tape (λ command. NoText command input fault) asks says none in
    unmade-asked {X = List ℕ} words run.0 input (Err fault) run.1 run.2

-- what holds of every run holds of the one on what the words say
pub any-run : (first second : List ℕ) (tape : TapeForm) (P : Command → Type 0) → AreElements first → AreElements second → IsTapeForm tape
    → ((publics secrets : List ℕ) (given : GivenTape) → P (Run publics secrets given)) → OfRun first second tape P
any-run first second (tape_.Seed seed) P one two said all = (one.0, two.0, Seed seed, one.1, two.1, refl, all one.0 two.0 (Seed seed))
any-run first second (tape_.Elements word) P one two said all =
    (one.0, two.0, Tape said.0.0, one.1, two.1, (said.0.0, said.0.1, refl), all one.0 two.0 (Tape said.0.0))

-- so a run that wants memory before it reads has no text
pub run-wanting : (first second : List ℕ) (tape : TapeForm) (input : Seen) (r : Result (List ℕ) Fault) (why : Fault)
    → AreElements first → AreElements second → IsTapeForm tape → r ≡ Err why → why ≡ fault_.Memory
    → IfErr r (λ fault. OfRun first second tape (λ command. NoText command input fault))
run-wanting first second tape input r why one two said is wanted =
    let P = λ (fault : Fault). OfRun first second tape (λ command. NoText command input fault) in
    subst (λ (s : Result (List ℕ) Fault). IfErr s P) (sym is)
    (subst P (sym wanted) (any-run first second tape (λ command. NoText command input fault_.Memory) one two said (λ publics secrets given. tt)))

-- words of a count ask for the count on what they say
asks-count : (words : List (List ℕ)) (word one two seen : List ℕ) (P : Command → Type 0)
    → words ≡ codes "count" ∷ word ∷ one ∷ two ∷ seen ∷ [] → OfCount word one two seen P → (command : Command) × Asks words command × P command
asks-count words word one two seen P asks of = (Count of.0 of.1 of.2 of.3, (word, one, two, seen, asks, of.4, of.5, of.6, of.7), of.8)

-- the same of a count on what the words say
pub made-counted : (words : List (List ℕ)) (word one two seen : List ℕ) (input : Seen) (r : Result (List ℕ) Fault)
    → words ≡ codes "count" ∷ word ∷ one ∷ two ∷ seen ∷ [] → IfOk r (λ text. OfCount word one two seen (λ command. Made command input text)) → IfOk r (IsTextMade words input)
made-counted words word one two seen input (Ok text) asks made =
    asks-count words word one two seen (λ command. Made command input text) asks made
made-counted words word one two seen input (Err fault) asks made = tt

-- or it has no text
pub unmade-counted : (words : List (List ℕ)) (word one two seen : List ℕ) (input : Seen) (r : Result (List ℕ) Fault)
    → words ≡ codes "count" ∷ word ∷ one ∷ two ∷ seen ∷ [] → IfErr r (λ fault. OfCount word one two seen (λ command. NoText command input fault))
    → IfErr r (IsUnmade words input)
unmade-counted words word one two seen input (Ok text) asks none = tt
unmade-counted words word one two seen input (Err fault) asks none =
    let counted =
    asks-count words word one two seen (λ command. NoText command input fault) asks none in
    unmade-asked {X = List ℕ} words counted.0 input (Err fault) counted.1 counted.2

-- a count on elements and probes is one on the words that say them
module _ (word one two seen publics first second probes qs us xs ks : List ℕ) (P : Command → Type 0)
    (says : SaysElements word publics × SaysElements one first × SaysElements two second × SaysProbes seen probes)
    (same : (qs ≡ publics) × (us ≡ first) × (xs ≡ second) × (ks ≡ probes)) where
  -- the facts of this count hold
  count-said : P (Count qs us xs ks) → OfCount word one two seen P
  count-said holds = (
    qs,
    us,
    xs,
    ks,
    subst (SaysElements word) (sym same.0) says.0,
    subst (SaysElements one) (sym same.1) says.1,
    subst (SaysElements two) (sym same.2) says.2,
    subst (SaysProbes seen) (sym same.3) says.3,
    holds,
  )

-- so is its text
pub made-said : (word one two seen publics first second probes qs us xs ks : List ℕ) (P : Command → List ℕ → Type 0) (r : Result (List ℕ) Fault)
    → SaysElements word publics × SaysElements one first × SaysElements two second × SaysProbes seen probes
    → (qs ≡ publics) × (us ≡ first) × (xs ≡ second) × (ks ≡ probes)
    → IfOk r (P (Count qs us xs ks)) → IfOk r (λ text. OfCount word one two seen (λ command. P command text))
made-said word one two seen publics first second probes qs us xs ks P (Ok text) says same holds =
    count-said word one two seen publics first second probes qs us xs ks (λ command. P command text) says same holds
made-said word one two seen publics first second probes qs us xs ks P (Err fault) says same holds = tt

-- and that there is none
pub unmade-said : (word one two seen publics first second probes qs us xs ks : List ℕ) (P : Command → Fault → Type 0) (r : Result (List ℕ) Fault)
    → SaysElements word publics × SaysElements one first × SaysElements two second × SaysProbes seen probes
    → (qs ≡ publics) × (us ≡ first) × (xs ≡ second) × (ks ≡ probes)
    → IfErr r (P (Count qs us xs ks)) → IfErr r (λ fault. OfCount word one two seen (λ command. P command fault))
unmade-said word one two seen publics first second probes qs us xs ks P (Ok text) says same holds = tt
unmade-said word one two seen publics first second probes qs us xs ks P (Err fault) says same holds =
    count-said word one two seen publics first second probes qs us xs ks (λ command. P command fault) says same holds

-- the tape that the words give has a word of elements, where it has a word
tape-form : (kind word : List ℕ) (tape : TapeForm) → SaysTapeSo kind word tape → IsTapeForm tape
tape-form kind word (tape_.Seed seed) says = tt
tape-form kind word (tape_.Elements at) says = says.2

-- what a command that reads nothing has to show: that its input was left
abbrev LeavesBy : Form → Type 0 → Type 0
LeavesBy (form.Gen turns) left = left
LeavesBy (form.Trial turns order) left = left
LeavesBy f left = Unit {0}

-- what was asked for reads its input, or left it
pub asked-leaves : (words : List (List ℕ)) (f : Form) (left : Type 0) → AsksSo words f → LeavesBy f left → ReadsOrLeaves words left
asked-leaves words (form.Compile order) left asks leaves = inr (Compile order, asks, inl tt)
asked-leaves words form.Check left asks leaves = inr (Check, asks, inl tt)
asked-leaves words (form.Eval publics secrets) left asks leaves =
    inr (Eval asks.1.0.0 asks.2.0.0, (publics.now, secrets.now, asks.0, asks.1.0.1, asks.2.0.1), inl tt)
asked-leaves words (form.Run publics secrets tape) left asks leaves =
    let run =
    asks-run words asks.0 asks.1 publics.now secrets.now tape Reads asks.2 asks.5
    (any-run publics.now secrets.now tape Reads asks.3.0 asks.4.0 (tape-form asks.0 asks.1 tape asks.5) (λ ps ss given. tt)) in
    inr (run.0, run.1, inl run.2)
asked-leaves words (form.Count publics first second probes) left asks leaves =
    inr (
      Count asks.1.0.0 asks.2.0.0 asks.3.0.0 asks.4.0.0,
      (publics.now, first.now, second.now, probes.now, asks.0, asks.1.0.1, asks.2.0.1, asks.3.0.1, asks.4.0.1),
      inl tt,
    )
asked-leaves words form.Report left asks leaves = inr (Report, asks, inl tt)
asked-leaves words (form.Gen turns) left asks leaves = inr (Gen turns, asks, inr leaves)
asked-leaves words (form.Trial turns order) left asks leaves = inr (Trial turns order, asks, inr leaves)
asked-leaves words form.Table left asks leaves = inr (Table, asks, inl tt)
asked-leaves words form.Gadget left asks leaves = inr (Gadget, asks, inl tt)
asked-leaves words form.Regs left asks leaves = inr (Regs, asks, inl tt)

-- a command that reads nothing left its input
pub left-unread : (words : List (List ℕ)) (command : Command) (left : Type 0) → ReadsOrLeaves words left → Asks words command → (Reads command → ⊥) → left
left-unread words command left (inl none) asks unread = absurd (none command asks)
left-unread words command left (inr (other, asked, inl reads)) asks unread = absurd (unread (subst Reads (asks-one words other command asked asks) reads))
left-unread words command left (inr (other, asked, inr leaves)) asks unread = leaves

module _ (once : TextsReadOnce) where
  -- a fault other than want of memory is the one that the bytes decide
  decided-fault : (command : Command) (bytes : List ℕ) (fault : Fault) (answer : Option Fault) → Decides command bytes (Some fault) → Decides command bytes answer
      → IsOrMemory (status_of fault) (answer_status answer)
  decided-fault command bytes fault answer stopped decides = inl (ap answer_status (decides-one once command bytes (Some fault) answer stopped decides))

  -- the same of a fault of the text, which was read to its end
  decided-text : (command : Command) (bytes : List ℕ) (input : Seen) (fault : Fault) (answer : Option Fault) → input_of command input.before ≡ Some bytes
      → IfSome (input_of command input.before) (λ bs. TextDecides command bs (Some fault))
      → ReadWhole (limit_of command) (input_of command input.before) (input_of command input.after)
      → ((length bytes ≤ limit_of command) × TextDecides command bytes (Some fault) → Decides command bytes (Some fault)) → Decides command bytes answer
      → IsOrMemory (status_of fault) (answer_status answer)
  decided-text command bytes input fault answer is why read said decides =
      let told : TextDecides command bytes (Some fault) = of-some (input_of command input.before) bytes (λ (bs : List ℕ). TextDecides command bs (Some fault)) is why in
      decided-fault command bytes fault answer (said (read-within command input bytes is read, told)) decides

  -- where no fault rose, a stopped command answers what its bytes decide, or memory was wanted
  pub stopped-decided : (words : List (List ℕ)) (command : Command) (input output : Seen) (fault : Fault) (answer : Option Fault)
      → Asks words command → StoppedAt command input output fault
      → (Rose input.faults input.faults_after → ⊥) → (answer ≡ None → Rose output.faults output.faults_after → ⊥)
      → IfSome (input_of command input.before) (λ bytes. Decides command bytes answer → IsOrMemory (status_of fault) (answer_status answer))
  stopped-decided words command input output fault answer asks stopped calm still =
      on-some (input_of command input.before) (λ bytes is decides. go bytes is fault stopped decides)
    where
      go : (bytes : List ℕ) → input_of command input.before ≡ Some bytes → (f : Fault) → StoppedAt command input output f → Decides command bytes answer
          → IsOrMemory (status_of f) (answer_status answer)
      go bytes is fault_.Words s decides = absurd s
      go bytes is (fault_.Source why) s decides = decided-text command bytes input (fault_.Source why) answer is s.0 s.1 (λ d. d) decides
      go bytes is (fault_.Inputs why) s decides = decided-text command bytes input (fault_.Inputs why) answer is s.0 s.1 (λ d. d) decides
      go bytes is (fault_.Check why) s decides = decided-text command bytes input (fault_.Check why) answer is s.0 s.1 (λ d. d) decides
      go bytes is (fault_.Bundle line) s decides = decided-text command bytes input (fault_.Bundle line) answer is s.0 s.1 (λ d. d) decides
      go bytes is (fault_.Unset instr) s decides = decided-text command bytes input (fault_.Unset instr) answer is s.0 s.1 (λ d. d) decides
      go bytes is (fault_.Register instr) s decides = decided-text command bytes input (fault_.Register instr) answer is s.0 s.1 (λ d. d) decides
      go bytes is fault_.ReadFault s decides = absurd (calm s.1)
      go bytes is fault_.WriteFault s decides =
          absurd (still (decides-one once command bytes answer None decides (made-decides words command input s.written bytes is asks s.made)) s.rose)
      go bytes is fault_.Memory s decides = inr refl
      go bytes is (fault_.Tapes elements) s decides = decided-text command bytes input (fault_.Tapes elements) answer is s.0 s.1 (λ d. d) decides
      go bytes is (fault_.Gadget line) s decides = decided-text command bytes input (fault_.Gadget line) answer is s.0 s.1 (λ d. d) decides
      go bytes is (fault_.Sets sets) s decides = decided-text command bytes input (fault_.Sets sets) answer is s.0 s.1 (λ d. d) decides
      go bytes is (fault_.Terms terms) s decides = decided-text command bytes input (fault_.Terms terms) answer is s.0 s.1 (λ d. d) decides
      go bytes is (fault_.TooLong at) s decides =
          let long : limit_of command < length bytes = of-some (input_of command input.before) bytes (λ (bs : List ℕ). limit_of command < length bs) is s.2 in
          decided-fault command bytes (fault_.TooLong at) answer (s.1, subst (λ (l : ℕ). l < length bytes) (sym s.1) long) decides

  -- a command that was carried out answers what its bytes decide
  pub finished-decided : (words : List (List ℕ)) (command : Command) (input output : Seen) (answer : Option Fault)
      → Finished command input output → Asks words command
      → IfSome (input_of command input.before) (λ bytes. Decides command bytes answer → IsOrMemory status.Done (answer_status answer))
  finished-decided words command input output answer f asks =
      on-some (input_of command input.before)
      (λ bytes is decides. inl (ap answer_status (decides-one once command bytes None answer (made-decides words command input f.written bytes is asks f.made) decides)))
