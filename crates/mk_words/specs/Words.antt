-- The forms of the words that the program is started with, and the commands that they ask for.
use Rattle.std.specs.Prelude.{◌≡◌, ◌≢◌, ◌⊎◌, ℕ, ◌+◌, ◌<◌, ◌≤◌, ◌^◌, List, [], ◌∷◌, ◌++◌, All, length, Ok, codes, decimal, flat_map}
use Rattle.hex.specs.Hex.{decode_of, encode_lower}
use Rattle.mk_base.specs.declared.TheConstants.{TOP_ORDER}

-- where the random elements of a run come from: from a seed of 32 bytes, or from this tape
pub data GivenTape : Type 0 where
  Seed : List ℕ → GivenTape
  Tape : List ℕ → GivenTape

-- What the program is asked for: to compile a source at an order; to check a bundle; to evaluate a source on
-- public inputs and secrets; to run the code of a bundle on them and a tape; to count the tapes of a bundle's code on
-- public inputs, the secrets of two worlds and probes; to report on a bundle; to write the generator's text with so
-- many turns; to compile that text at an order; to write a source that gives the elements of a table; to judge a
-- gadget; or to allocate registers for the code of a bundle.
pub data Command : Type 0 where
  Compile : ℕ → Command
  Check : Command
  Eval : List ℕ → List ℕ → Command
  Run : List ℕ → List ℕ → GivenTape → Command
  Count : List ℕ → List ℕ → List ℕ → List ℕ → Command
  Report : Command
  Gen : ℕ → Command
  Trial : ℕ → ℕ → Command
  Table : Command
  Gadget : Command
  Regs : Command

-- the word is this order, in decimal
abbrev pub IsOrder : List ℕ → ℕ → Type 0
IsOrder word order = (word ≡ decimal order) × (1 ≤ order) × (order ≤ TOP_ORDER)

-- the word says these elements: `-` says none, and else two hexadecimal digits of either case say each
abbrev pub SaysElements : List ℕ → List ℕ → Type 0
SaysElements word elements = ((word ≡ codes "-") × (elements ≡ [])) ⊎ ((word ≢ []) × (decode_of word ≡ Ok elements))

-- the word of elements: `-` for none, and else two lower-case hexadecimal digits for each
abbrev pub elements_word : List ℕ → List ℕ
elements_word [] = codes "-"
elements_word (x ∷ xs) = encode_lower (x ∷ xs)

-- the word says this seed: two hexadecimal digits of either case for each of its 32 bytes
abbrev pub SaysSeed : List ℕ → List ℕ → Type 0
SaysSeed word seed = (length word ≡ 64) × (decode_of word ≡ Ok seed)

-- two words say where the tape comes from: `seed` and a seed, or `tape` and its elements
abbrev pub SaysTape : List ℕ → List ℕ → GivenTape → Type 0
SaysTape kind word (Seed seed) = (kind ≡ codes "seed") × SaysSeed word seed
SaysTape kind word (Tape elements) = (kind ≡ codes "tape") × SaysElements word elements

-- the word of probes: `-` for none, and else their decimal numbers with commas between
abbrev pub probes_word : List ℕ → List ℕ
probes_word [] = codes "-"
probes_word (p ∷ ps) = decimal p ++ flat_map (λ q. codes "," ++ decimal q) ps

-- the word says these probes, each below 2^32
abbrev pub SaysProbes : List ℕ → List ℕ → Type 0
SaysProbes word probes = (word ≡ probes_word probes) × All (λ p. p < 2 ^ 32) probes

-- the word is this number of turns, in decimal
abbrev pub IsTurns : List ℕ → ℕ → Type 0
IsTurns word turns = (word ≡ decimal turns) × (1 ≤ turns) × (turns ≤ 3276)

-- The words ask for this command: `compile` and an order; `check`; `eval`, the public inputs and the secrets;
-- `run`, these and the tape; `count`, the public inputs, the secrets of the first world, those of the second and the
-- probes; `report`; `gen` and the turns; `trial`, the turns and an order; `table`; `gadget`; or `regs`.
abbrev pub Asks : List (List ℕ) → Command → Type 0
Asks words (Compile order) = (word : List ℕ) × (words ≡ codes "compile" ∷ word ∷ []) × IsOrder word order
Asks words Check = words ≡ codes "check" ∷ []
Asks words (Eval publics secrets) =
    (first second : List ℕ) × (words ≡ codes "eval" ∷ first ∷ second ∷ []) × SaysElements first publics × SaysElements second secrets
Asks words (Run publics secrets tape) =
    (first second kind word : List ℕ) × (words ≡ codes "run" ∷ first ∷ second ∷ kind ∷ word ∷ [])
    × SaysElements first publics × SaysElements second secrets × SaysTape kind word tape
Asks words (Count publics first second probes) =
    (word one two seen : List ℕ) × (words ≡ codes "count" ∷ word ∷ one ∷ two ∷ seen ∷ [])
    × SaysElements word publics × SaysElements one first × SaysElements two second × SaysProbes seen probes
Asks words Report = words ≡ codes "report" ∷ []
Asks words (Gen turns) = (word : List ℕ) × (words ≡ codes "gen" ∷ word ∷ []) × IsTurns word turns
Asks words (Trial turns order) = (word second : List ℕ) × (words ≡ codes "trial" ∷ word ∷ second ∷ []) × IsTurns word turns × IsOrder second order
Asks words Table = words ≡ codes "table" ∷ []
Asks words Gadget = words ≡ codes "gadget" ∷ []
Asks words Regs = words ≡ codes "regs" ∷ []

-- the words are one of the forms
abbrev pub IsForm : List (List ℕ) → Type 0
IsForm words = (command : Command) × Asks words command

-- the words are none of the forms
abbrev pub IsNoForm : List (List ℕ) → Type 0
IsNoForm words = (command : Command) → Asks words command → ⊥
