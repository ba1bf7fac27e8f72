-- What the bytes of an input decide under a command: no fault, or one.
use Rattle.std.specs.Prelude.{◌≡◌, ℕ, ◌+◌, ◌*◌, ◌≤◌, ◌<◌, List, Option, Some, None, length, option_map}
use Rattle.mk_code.specs.Listing.{Listing}
use Rattle.mk_rules.specs.Claimed.{Claimed}
use Rattle.mk_rules.specs.Accepts.{IsAccepted}
use Rattle.mk_check.specs.declared.refusal.CheckRefusal.{CheckRefusal}
use Rattle.mk_check.specs.declared.refusal.CheckRefusal.TheVariants as refused
use Rattle.mk_check.specs.Verdict.{IsRefused}
use Rattle.mk_lines.specs.Lines.{NamesFirst}
use Rattle.mk_parse.specs.declared.TheConstants.{MOST_SOURCE_BYTES}
use Rattle.mk_unroll.specs.declared.TheConstants.{MOST_SIZE}
use Rattle.mk_bundle.specs.declared.TheConstants.{MOST_BYTES}
use Rattle.mk_regs.specs.declared.refusal.RegRefusal.TheVariants as unnamed
use Rattle.mk_bundle.specs.Pairs.{IsBundleOf, IsBundleText, IsRefusedText}
use Rattle.mk_ast.specs.declared.tree.Program.{Program as Tree}
use Rattle.mk_ast.specs.declared.refusal.SourceRefusal.TheVariants as refusal_
use Rattle.mk_ast.specs.declared.refusal.Limit.TheVariants as limit_
use Rattle.mk_ast.specs.Spells.{Spells, IsRefusedAt}
use Rattle.mk_types.specs.declared.offence.OffenceKind.TheVariants as kind_
use Rattle.mk_types.specs.Offences.{IsWellTyped}
use Rattle.mk_unroll.specs.Causes.{Cause}
use Rattle.mk_eval.specs.Refusals.{refusal}
use Rattle.mk_run.specs.Refusals.{count_refusal, whole_refusal}
use Rattle.mk_compile.specs.Compiled.{IsWithin}
use Rattle.mk_table.specs.declared.TheConstants.{TABLE_BYTES}
use Rattle.mk_pad.specs.declared.TheConstants.{MOST_SETS}
use Rattle.mk_pad.specs.declared.refusal.PadRefusal.TheVariants as unverified
use Rattle.mk_pad.specs.Form.{GadgetForm}
use Rattle.mk_pad.specs.Positions.{counts, AreFew}
use Rattle.mk_pad.specs.Verified.{set_count, IsUnverified}
use Rattle.mk_lib.specs.declared.TheConstants.{MOST_GADGET_BYTES}
use Rattle.mk_lib.specs.Texts as gadgets
use Rattle.mk_words.specs.Words.{Command, Compile, Check, Eval, Run, Count, Report, Gen, Trial, Table, Gadget, Regs, GivenTape}
use Rattle.mk_top.specs.declared.fault.Fault.{Fault}
use Rattle.mk_top.specs.declared.fault.Fault.TheVariants as fault
use Rattle.mk_words.specs.declared.fault.SourceFault.TheVariants as source
use Rattle.mk_words.specs.declared.fault.InputFault.TheVariants as input
use Rattle.mk_words.specs.declared.fault.CheckFault.{CheckFault}
use Rattle.mk_words.specs.declared.fault.CheckFault.TheVariants as check
use Rattle.mk_top.specs.Sources.{HasFirstOffence, IsNoSource}
use Rattle.mk_top.specs.Faults.{fault_of_eval, fault_of_run, fault_of_count}
use Rattle.mk_top.specs.Runs.{tape_of}

-- the most bytes that a command reads: of a source, of a bundle, of a table, of a gadget, and none
abbrev pub limit_of : Command → ℕ
limit_of (Compile order) = MOST_SOURCE_BYTES
limit_of Check = MOST_BYTES
limit_of (Eval publics secrets) = MOST_SOURCE_BYTES
limit_of (Run publics secrets tape) = MOST_BYTES
limit_of (Count publics first second probes) = MOST_BYTES
limit_of Report = MOST_BYTES
limit_of (Gen turns) = 0
limit_of (Trial turns order) = 0
limit_of Table = TABLE_BYTES
limit_of Gadget = MOST_GADGET_BYTES
limit_of Regs = MOST_BYTES

-- the refusal of the checker that a fault tells
abbrev pub refusal_of : CheckFault → CheckRefusal
refusal_of (check.Operand block) = refused.Operand block
refusal_of (check.Tile instr) = refused.Tile instr
refusal_of (check.Output index) = refused.Output index
refusal_of (check.Doubled value block) = refused.Doubled value block

-- the answer that a code and certificate decide under `check`: the rule accepts them, or this is why they are refused
abbrev pub PairDecides : Listing → Claimed → Option Fault → Type 0
PairDecides code cert None = IsAccepted code cert
PairDecides code cert (Some (fault.Check why)) = IsRefused code cert (refusal_of why)
PairDecides code cert (Some _) = ⊥

-- the answer that they decide under `run`: the first refusal of the run on these inputs, if there is one
abbrev pub RunDecides : List ℕ → List ℕ → GivenTape → Listing → Claimed → Option Fault → Type 0
RunDecides publics secrets tape code cert answer = answer ≡ option_map fault_of_run (whole_refusal code publics secrets (tape_of code tape))

-- the answer that they decide under `count`: the first refusal of the count, if there is one
abbrev pub CountDecides : List ℕ → List ℕ → List ℕ → List ℕ → Listing → Claimed → Option Fault → Type 0
CountDecides publics first second probes code cert answer = answer ≡ option_map fault_of_count (count_refusal code publics first second probes)

-- the answer that a bundle decides, by what a code and certificate decide: that of its own, or where it goes
-- wrong as a text, or why its register code can't be renamed
abbrev pub BundleDecides : (Listing → Claimed → Option Fault → Type 0) → List ℕ → Option Fault → Type 0
BundleDecides decides bytes (Some (fault.Bundle line)) = NamesFirst IsBundleText line bytes × (IsBundleText bytes → ⊥)
BundleDecides decides bytes (Some (fault.Unset instr)) = IsRefusedText (unnamed.Unset instr) bytes
BundleDecides decides bytes (Some (fault.Register instr)) = IsRefusedText (unnamed.Register instr) bytes
BundleDecides decides bytes answer = (code : Listing) × (cert : Claimed) × IsBundleOf bytes code cert × decides code cert answer

-- The answer that a source decides, by what a well typed tree decides: it spells none, and then its first
-- place where no program can go on; or one with a first offence; or one that is well typed.
abbrev pub SourceDecides : (Tree → Option Fault → Type 0) → List ℕ → Option Fault → Type 0
SourceDecides decides bytes (Some (fault.Source (source.Syntax at))) = IsRefusedAt bytes at × IsNoSource bytes
SourceDecides decides bytes (Some (fault.Source (source.Unknown at))) = HasFirstOffence bytes kind_.Unknown at
SourceDecides decides bytes (Some (fault.Source (source.Twice at))) = HasFirstOffence bytes kind_.Twice at
SourceDecides decides bytes (Some (fault.Source (source.Kind at))) = HasFirstOffence bytes kind_.Kind at
SourceDecides decides bytes (Some (fault.Source (source.AssignInput at))) = HasFirstOffence bytes kind_.AssignInput at
SourceDecides decides bytes (Some (fault.Source (source.MapForm at))) = HasFirstOffence bytes kind_.MapForm at
SourceDecides decides bytes answer = (tree : Tree) × Spells tree bytes × IsWellTyped tree × decides tree answer

-- The answer that a well typed tree decides under `compile` at an order: it stays within the limits; or its
-- execution stops at an index that goes wrong, or it exceeds this limit, and no cause before holds.
abbrev pub CompileDecides : ℕ → Tree → Option Fault → Type 0
CompileDecides order tree None = IsWithin tree order
CompileDecides order tree (Some (fault.Source (source.Index at))) = Cause tree order (refusal_.Index at)
CompileDecides order tree (Some (fault.Source (source.Large limit))) = Cause tree order (refusal_.Large limit)
CompileDecides order tree (Some _) = ⊥

-- the answer that it decides under `eval`: the first refusal of the evaluation on these inputs, if there is
-- one
abbrev pub EvalDecides : List ℕ → List ℕ → Tree → Option Fault → Type 0
EvalDecides publics secrets tree answer = answer ≡ option_map fault_of_eval (refusal tree publics secrets)

-- the answer of a trial: the generated program is within the limits, or its operators times the square of the number
-- of shares are too many
abbrev pub TrialDecides : ℕ → ℕ → Option Fault → Type 0
TrialDecides turns order None = 5 * turns * ((order + 1) * (order + 1)) ≤ MOST_SIZE
TrialDecides turns order (Some (fault.Source (source.Large limit_.Size))) = MOST_SIZE < 5 * turns * ((order + 1) * (order + 1))
TrialDecides turns order (Some _) = ⊥

-- the answer that the bytes of a table decide: they are as many as it has, or fewer
abbrev pub TableDecides : List ℕ → Option Fault → Type 0
TableDecides bytes None = length bytes ≡ TABLE_BYTES
TableDecides bytes (Some (fault.Inputs (input.Length given wanted))) = (given ≡ length bytes) × (wanted ≡ TABLE_BYTES) × (length bytes < TABLE_BYTES)
TableDecides bytes (Some _) = ⊥

-- The answer that a gadget decides: it has no more sets of positions than are looked at, and no position counts too many
-- terms; or it has too many sets; or not too many, and the first position that counts too many terms counts so many.
abbrev pub JudgementDecides : GadgetForm → Option Fault → Type 0
JudgementDecides g None = (set_count g ≤ MOST_SETS) × AreFew (counts g)
JudgementDecides g (Some (fault.Sets sets)) = IsUnverified g (unverified.TooManySets sets)
JudgementDecides g (Some (fault.Terms terms)) = IsUnverified g (unverified.TooManyTerms terms)
JudgementDecides g (Some _) = ⊥

-- the answer that the bytes of a gadget decide: that of the gadget whose text they are, or where they go wrong as a text
abbrev pub GadgetDecides : List ℕ → Option Fault → Type 0
GadgetDecides bytes (Some (fault.Gadget line)) = NamesFirst gadgets.IsGadgetText line bytes × (gadgets.IsGadgetText bytes → ⊥)
GadgetDecides bytes answer = (g : GadgetForm) × gadgets.IsTextOf bytes g × JudgementDecides g answer

-- the answer that the bytes within the limit decide
abbrev pub TextDecides : Command → List ℕ → Option Fault → Type 0
TextDecides (Compile order) bytes answer = SourceDecides (CompileDecides order) bytes answer
TextDecides Check bytes answer = BundleDecides PairDecides bytes answer
TextDecides (Eval publics secrets) bytes answer = SourceDecides (EvalDecides publics secrets) bytes answer
TextDecides (Run publics secrets tape) bytes answer = BundleDecides (RunDecides publics secrets tape) bytes answer
TextDecides (Count publics first second probes) bytes answer = BundleDecides (CountDecides publics first second probes) bytes answer
TextDecides Report bytes answer = BundleDecides PairDecides bytes answer
TextDecides (Gen turns) bytes answer = answer ≡ None
TextDecides (Trial turns order) bytes answer = TrialDecides turns order answer
TextDecides Table bytes answer = TableDecides bytes answer
TextDecides Gadget bytes answer = GadgetDecides bytes answer
TextDecides Regs bytes answer = BundleDecides PairDecides bytes answer

-- the answer that the bytes of the input decide under a command: no fault, or this one
abbrev pub Decides : Command → List ℕ → Option Fault → Type 0
Decides command bytes (Some (fault.TooLong limit)) = (limit ≡ limit_of command) × (limit < length bytes)
Decides command bytes answer = (length bytes ≤ limit_of command) × TextDecides command bytes answer
