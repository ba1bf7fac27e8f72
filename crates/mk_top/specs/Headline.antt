-- What the answer `Done` means, by the bytes that the input gave and the output took.
use Rattle.std.specs.Prelude.{◌≡◌, ℕ, List, ◌∷◌, ◌++◌, Option, Some, None, IfSome, length, codes, decimal, Bool, true, false, count_by, []}
use Rattle.mk_base.specs.Streams.{TakesPrefix}
use Rattle.mk_code.specs.Listing.{Listing}
use Rattle.mk_code.specs.Private.{Private}
use Rattle.mk_code.specs.Trace.{randoms}
use Rattle.mk_ssa.specs.declared.Op.{Op}
use Rattle.mk_ssa.specs.declared.Op.TheVariants.{Refresh}
use Rattle.mk_rules.specs.Claimed.{Claimed}
use Rattle.mk_rules.specs.Accepts.{IsAccepted}
use Rattle.mk_regs.specs.Form.{RegListing, IsRegListing}
use Rattle.mk_regs.specs.Allocation.{IsAllocated}
use Rattle.mk_bundle.specs.Pairs.{IsRegisterTextOf}
use Rattle.mk_bundle.specs.Text.{register_text}
use Rattle.mk_ast.specs.declared.tree.Program.{Program as Tree}
use Rattle.mk_types.specs.Offences.{IsWellTyped}
use Rattle.mk_types.specs.Elements.{maps_of}
use Rattle.mk_types.specs.Meaning.{result}
use Rattle.mk_eval.specs.Refusals.{refusal}
use Rattle.mk_report.specs.Report.{IsReport}
use Rattle.mk_gen.specs.Generated.{IsGenerated, generated}
use Rattle.mk_place.specs.Different.{AllDifferButRefreshes}
use Rattle.mk_compile.specs.Compiled.{IsWithin, IsCertified}
use Rattle.mk_compile.specs.Correct.{Correct}
use Rattle.mk_words.specs.Words.{Command, Compile, Check, Eval, Run, Count, Report, Gen, Trial, Table, Gadget, Regs, elements_word}
use Rattle.mk_top.specs.Sources.{IsSourceOf}
use Rattle.mk_top.specs.Registers.{CorrectOverRegisters}
use Rattle.mk_top.specs.Bundles.{GivesText, IsPrivateInRegisters, AreRegistersPrivate}
use Rattle.mk_top.specs.Runs.{Runs}
use Rattle.mk_top.specs.Counts.{Counts}
use Rattle.mk_top.specs.Tables.{Tabulates}
use Rattle.mk_top.specs.Gadgets.{Judges}
use Rattle.mk_top.specs.Decided.{Decides}

-- the output took this whole text, where it tells what it took
abbrev pub TakesWhole : Option (List ℕ) → List ℕ → Option (List ℕ) → Type 0
TakesWhole before written after = IfSome before (λ taken. after ≡ Some (taken ++ written))

-- the output took a prefix of this text, where it tells what it took
abbrev pub TakesSome : Option (List ℕ) → List ℕ → Option (List ℕ) → Type 0
TakesSome before written after = IfSome before (λ taken. TakesPrefix taken written after)

-- A source, given where the input tells its bytes, is compiled at this order to a code and a certificate: the bytes
-- spell one tree, which is well typed and within the limits. From every sharing of the secrets and every random tape
-- the code gives a sharing of the tree's result. The code is private, and the rule accepts it with its certificate.
pub record IsCompiled (order : ℕ) (given : Option (List ℕ)) : Type 0 where
  pub tree : Tree
  pub code : Listing
  pub cert : Claimed
  pub source : IfSome given (λ bytes. IsSourceOf bytes tree)
  pub typed : IsWellTyped tree
  pub within : IsWithin tree order
  pub correct : Correct tree order code
  pub private : Private code
  pub accepted : IsAccepted code cert

-- A source, given where the input tells its bytes, was compiled at this order to this text: that of the register code
-- that is allocated for the code, with the certificate. From every sharing of the secrets and every random tape the
-- register code gives a sharing of the tree's result, and it is private, over its trace and at its writes. The bytes of
-- the text, which are within the limit of a bundle, decide that `check` has no fault.
pub record Compiles (order : ℕ) (given : Option (List ℕ)) (written : List ℕ) : Type 0 where
  pub compiled : IsCompiled order given
  pub allocated : RegListing
  pub allocation : IsAllocated compiled.code allocated
  pub text : IsRegisterTextOf written allocated compiled.cert
  pub correct : CorrectOverRegisters compiled.tree order allocated
  pub private : IsPrivateInRegisters allocated
  pub checks : Decides Check written None

-- How a code and its certificate are made of a tree: the certificate is that of the values that the tree is unrolled to,
-- apart from refreshes no two of its blocks are equal, and the code has the tree's maps, in order of declaration.
pub record IsMadeOf (tree : Tree) (code : Listing) (cert : Claimed) : Type 0 where
  pub certified : IsCertified tree cert
  pub different : AllDifferButRefreshes cert.blocks
  pub maps : code.maps ≡ maps_of tree.decls

-- the same of a source that was compiled, and how its code and certificate are made
abbrev pub CompilesSo : ℕ → Option (List ℕ) → List ℕ → Type 0
CompilesSo order given written = (c : Compiles order given written) × IsMadeOf c.compiled.tree c.compiled.code c.compiled.cert

-- A bundle, given where the input tells its bytes, was checked: the bytes are a text of a code and a
-- certificate, whoever wrote them, the rule accepts the code with its certificate, and it is private. Where they are the
-- text of register code, that is private too, over its trace and at its writes.
pub record Checks (given : Option (List ℕ)) : Type 0 where
  pub code : Listing
  pub cert : Claimed
  pub bundle : GivesText given code cert
  pub accepted : IsAccepted code cert
  pub private : Private code
  pub registers : AreRegistersPrivate bundle.0

-- A bundle, given where the input tells its bytes, was checked, and a text was written: that of the register code that is
-- allocated for its code, with the same certificate. The register code is private, over its trace and at its writes. The
-- bytes of the text, which are within the limit of a bundle, decide that `check` has no fault.
pub record Allocates (given : Option (List ℕ)) (written : List ℕ) : Type 0 where
  pub checked : Checks given
  pub allocated : RegListing
  pub allocation : IsAllocated checked.code allocated
  pub text : IsRegisterTextOf written allocated checked.cert
  pub private : IsPrivateInRegisters allocated
  pub checks : Decides Check written None

-- A source, given where the input tells its bytes, was evaluated on these inputs to this text: the bytes spell
-- one tree, which is well typed, and the text is the word of its result on them and a line feed.
pub record Evaluates (publics secrets : List ℕ) (given : Option (List ℕ)) (written : List ℕ) : Type 0 where
  pub tree : Tree
  pub outputs : List ℕ
  pub source : IfSome given (λ bytes. IsSourceOf bytes tree)
  pub result : result tree publics secrets ≡ Some outputs
  pub taken : refusal tree publics secrets ≡ None
  pub bytes : written ≡ elements_word outputs ++ 10 ∷ []

-- A bundle, given where the input tells its bytes, was reported on to this text: the bytes are a text of a code and
-- a certificate, whoever wrote them, the rule accepts the code with its certificate, and the text is their report.
pub record Reports (given : Option (List ℕ)) (written : List ℕ) : Type 0 where
  pub code : Listing
  pub cert : Claimed
  pub bundle : GivesText given code cert
  pub accepted : IsAccepted code cert
  pub report : IsReport code cert written

-- the generator's text with so many turns was written: it spells a tree that is well typed, and whose execution
-- comes to its end
pub record Generates (turns : ℕ) (written : List ℕ) : Type 0 where
  pub tree : Tree
  pub program : IsGenerated turns tree
  pub bytes : written ≡ generated turns

-- whether a block is a refresh
abbrev pub is_refresh : Op → Bool
is_refresh (Refresh arg) = true
is_refresh op = false

-- the line of a trial: how many blocks a certificate has, how many of them are refreshes, and how many instructions
-- and random elements its code has
abbrev pub trial_line : Listing → Claimed → List ℕ
trial_line code cert =
    codes "blocks " ++ decimal (length cert.blocks) ++ codes " refreshes " ++ decimal (count_by is_refresh cert.blocks)
    ++ codes " instructions " ++ decimal (length code.instrs) ++ codes " randoms " ++ decimal (randoms code.instrs) ++ codes " accepted\n"

-- The generator's text with so many turns was tried at an order: the text written is the line of the code and
-- certificate that it is compiled to. Whatever register code is allocated for the code, the bytes of its text with the
-- certificate decide that `check` has no fault.
pub record Tries (turns order : ℕ) (written : List ℕ) : Type 0 where
  pub compiled : IsCompiled order (Some (generated turns))
  pub made : IsMadeOf compiled.tree compiled.code compiled.cert
  pub checks : (r : RegListing) → IsRegListing r → IsAllocated compiled.code r → Decides Check (register_text r compiled.cert) None
  pub bytes : written ≡ trial_line compiled.code compiled.cert

-- what a command made of its input, and the text that it writes
abbrev pub Makes : Command → Option (List ℕ) → List ℕ → Type 0
Makes (Compile order) given written = CompilesSo order given written
Makes Check given written = Checks given × (written ≡ codes "accepted\n")
Makes (Eval publics secrets) given written = Evaluates publics secrets given written
Makes (Run publics secrets tape) given written = Runs publics secrets tape given written
Makes (Count publics first second probes) given written = Counts publics first second probes given written
Makes Report given written = Reports given written
Makes (Gen turns) given written = Generates turns written
Makes (Trial turns order) given written = Tries turns order written
Makes Table given written = Tabulates given written
Makes Gadget given written = Judges given written
Makes Regs given written = Allocates given written
