-- How a run ends: its fault, its status, and the line that it tells.
use Rattle.std.specs.Prelude.{ℕ, List, codes}
use Rattle.mk_ast.specs.declared.refusal.SourceRefusal.{SourceRefusal}
use Rattle.mk_ast.specs.declared.refusal.SourceRefusal.TheVariants as refusal
use Rattle.mk_eval.specs.declared.refusal.EvalRefusal.{EvalRefusal}
use Rattle.mk_eval.specs.declared.refusal.EvalRefusal.TheVariants as eval
use Rattle.mk_run.specs.declared.refusal.RunRefusal.{RunRefusal}
use Rattle.mk_run.specs.declared.refusal.RunRefusal.TheVariants as run
use Rattle.mk_run.specs.declared.refusal.CountRefusal.{CountRefusal}
use Rattle.mk_run.specs.declared.refusal.CountRefusal.TheVariants as count
use Rattle.mk_check.specs.declared.refusal.CheckRefusal.{CheckRefusal}
use Rattle.mk_check.specs.declared.refusal.CheckRefusal.TheVariants as refused
use Rattle.mk_bundle.specs.declared.TheConstants.{MOST_BYTES}
use Rattle.mk_bundle.specs.declared.refusal.StreamRefusal.{StreamRefusal}
use Rattle.mk_bundle.specs.declared.refusal.StreamRefusal.TheVariants as stream
use Rattle.mk_lib.specs.declared.refusal.LibRefusal.{LibRefusal}
use Rattle.mk_lib.specs.declared.refusal.LibRefusal.TheVariants as unread
use Rattle.mk_pad.specs.declared.refusal.PadRefusal.{PadRefusal}
use Rattle.mk_pad.specs.declared.refusal.PadRefusal.TheVariants as unverified
use Rattle.mk_words.specs.declared.status.Status.{Status}
use Rattle.mk_words.specs.declared.status.Status.TheVariants as status
use Rattle.mk_top.specs.declared.fault.Fault.{Fault}
use Rattle.mk_top.specs.declared.fault.Fault.TheVariants as fault
use Rattle.mk_words.specs.declared.fault.SourceFault.TheVariants as source
use Rattle.mk_words.specs.declared.fault.InputFault.TheVariants as input
use Rattle.mk_words.specs.declared.fault.CheckFault.TheVariants as check
use Rattle.mk_words.specs.Lines.{numbered_line, source_line, input_line, check_line}

-- the fault of a bundle's text that is not read, or refused
abbrev pub fault_of_bundle : StreamRefusal → Fault
fault_of_bundle stream.Fault = fault.ReadFault
fault_of_bundle stream.TooLong = fault.TooLong MOST_BYTES
fault_of_bundle (stream.Form line) = fault.Bundle line
fault_of_bundle (stream.Unset instr) = fault.Unset instr
fault_of_bundle (stream.Register instr) = fault.Register instr
fault_of_bundle stream.Memory = fault.Memory

-- the fault of a refused source
abbrev pub fault_of_source : SourceRefusal → Fault
fault_of_source (refusal.Syntax at) = fault.Source (source.Syntax at)
fault_of_source (refusal.Unknown at) = fault.Source (source.Unknown at)
fault_of_source (refusal.Twice at) = fault.Source (source.Twice at)
fault_of_source (refusal.Kind at) = fault.Source (source.Kind at)
fault_of_source (refusal.AssignInput at) = fault.Source (source.AssignInput at)
fault_of_source (refusal.MapForm at) = fault.Source (source.MapForm at)
fault_of_source (refusal.Index at) = fault.Source (source.Index at)
fault_of_source (refusal.Large limit) = fault.Source (source.Large limit)
fault_of_source refusal.Memory = fault.Memory

-- the fault of a refused evaluation
abbrev pub fault_of_eval : EvalRefusal → Fault
fault_of_eval (eval.Index at) = fault.Source (source.Index at)
fault_of_eval (eval.Large limit) = fault.Source (source.Large limit)
fault_of_eval (eval.Length given wanted) = fault.Inputs (input.Length given wanted)
fault_of_eval (eval.Element which index) = fault.Inputs (input.Element which index)
fault_of_eval eval.Memory = fault.Memory

-- the fault of a refused run
abbrev pub fault_of_run : RunRefusal → Fault
fault_of_run (run.Length given wanted) = fault.Inputs (input.Length given wanted)
fault_of_run (run.Element which index) = fault.Inputs (input.Element which index)
fault_of_run (run.TapeShort given wanted) = fault.Inputs (input.TapeShort given wanted)
fault_of_run run.Memory = fault.Memory

-- the fault of a refused count
abbrev pub fault_of_count : CountRefusal → Fault
fault_of_count (count.Length given wanted) = fault.Inputs (input.Length given wanted)
fault_of_count (count.Element which index) = fault.Inputs (input.Element which index)
fault_of_count (count.Probe index) = fault.Inputs (input.Probe index)
fault_of_count (count.Tapes elements) = fault.Tapes elements
fault_of_count count.Memory = fault.Memory

-- the fault of a refused code and certificate
abbrev pub fault_of_check : CheckRefusal → Fault
fault_of_check (refused.Operand block) = fault.Check (check.Operand block)
fault_of_check (refused.Tile instr) = fault.Check (check.Tile instr)
fault_of_check (refused.Output index) = fault.Check (check.Output index)
fault_of_check (refused.Doubled value block) = fault.Check (check.Doubled value block)
fault_of_check refused.Memory = fault.Memory

-- the fault of a text that is no gadget's
abbrev pub fault_of_text : LibRefusal → Fault
fault_of_text (unread.Gadget line) = fault.Gadget line
fault_of_text unread.Memory = fault.Memory

-- the fault of a gadget that is not looked at
abbrev pub fault_of_gadget : PadRefusal → Fault
fault_of_gadget (unverified.TooManySets sets) = fault.Sets sets
fault_of_gadget (unverified.TooManyTerms terms) = fault.Terms terms
fault_of_gadget unverified.Memory = fault.Memory

-- the status that a fault ends with
abbrev pub status_of : Fault → Status
status_of fault.Words = status.Words
status_of (fault.Source why) = status.Source
status_of (fault.Inputs why) = status.Inputs
status_of (fault.Check why) = status.Refused
status_of (fault.Bundle line) = status.Bundle
status_of (fault.Unset instr) = status.Bundle
status_of (fault.Register instr) = status.Bundle
status_of (fault.Gadget line) = status.Bundle
status_of (fault.Sets sets) = status.Tapes
status_of (fault.Terms terms) = status.Tapes
status_of fault.ReadFault = status.ReadFault
status_of fault.WriteFault = status.WriteFault
status_of fault.Memory = status.Memory
status_of (fault.Tapes elements) = status.Tapes
status_of (fault.TooLong limit) = status.TooLong

-- the line that a fault is told by
abbrev pub fault_line : Fault → List ℕ
fault_line fault.Words = codes "21 words\n"
fault_line (fault.Source why) = source_line why
fault_line (fault.Inputs why) = input_line why
fault_line (fault.Check why) = check_line why
fault_line (fault.Bundle line) = numbered_line (codes "41 bundle ") line
fault_line (fault.Unset instr) = numbered_line (codes "42 unset ") instr
fault_line (fault.Register instr) = numbered_line (codes "43 register ") instr
fault_line (fault.Gadget line) = numbered_line (codes "44 gadget ") line
fault_line (fault.Sets sets) = numbered_line (codes "61 sets ") sets
fault_line (fault.Terms terms) = numbered_line (codes "62 terms ") terms
fault_line fault.ReadFault = codes "6 read fault\n"
fault_line fault.WriteFault = codes "7 write fault\n"
fault_line fault.Memory = codes "8 memory\n"
fault_line (fault.Tapes elements) = numbered_line (codes "91 tapes ") elements
fault_line (fault.TooLong limit) = numbered_line (codes "10 too long ") limit
