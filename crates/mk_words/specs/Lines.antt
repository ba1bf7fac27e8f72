-- The numbers of statuses, and the lines that faults are told by.
use Rattle.std.specs.Prelude.{ℕ, List, [], ◌∷◌, ◌++◌, codes, decimal}
use Rattle.mk_base.specs.declared.Place.{Place}
use Rattle.mk_base.specs.declared.Which.{Which}
use Rattle.mk_base.specs.declared.Which.TheVariants as which_
use Rattle.mk_ast.specs.declared.refusal.Limit.{Limit}
use Rattle.mk_ast.specs.declared.refusal.Limit.TheVariants as limit_
use Rattle.mk_lines.specs.Words.{operand_word}
use Rattle.mk_words.specs.declared.status.Status.{Status}
use Rattle.mk_words.specs.declared.status.Status.TheVariants as status
use Rattle.mk_words.specs.declared.fault.SourceFault.{SourceFault}
use Rattle.mk_words.specs.declared.fault.SourceFault.TheVariants as source
use Rattle.mk_words.specs.declared.fault.InputFault.{InputFault}
use Rattle.mk_words.specs.declared.fault.InputFault.TheVariants as input
use Rattle.mk_words.specs.declared.fault.CheckFault.{CheckFault}
use Rattle.mk_words.specs.declared.fault.CheckFault.TheVariants as check

-- the numbers of the statuses
abbrev pub status_number : Status → ℕ
status_number status.Done = 0
status_number status.Refused = 1
status_number status.Words = 2
status_number status.Source = 3
status_number status.Bundle = 4
status_number status.Inputs = 5
status_number status.ReadFault = 6
status_number status.WriteFault = 7
status_number status.Memory = 8
status_number status.Tapes = 9
status_number status.TooLong = 10

-- a line that ends in a place
abbrev pub placed_line : List ℕ → Place → List ℕ
placed_line head at = head ++ decimal at.line ++ codes ":" ++ decimal at.column ++ 10 ∷ []

-- a line that ends in a number
abbrev pub numbered_line : List ℕ → ℕ → List ℕ
numbered_line head number = head ++ decimal number ++ 10 ∷ []

-- the line of a limit that is exceeded
abbrev pub large_line : Limit → List ℕ
large_line limit_.Elements = codes "38 large elements\n"
large_line limit_.Work = codes "38 large work\n"
large_line limit_.Operations = codes "38 large operations\n"
large_line limit_.Size = codes "38 large size\n"

-- the line of a source that is refused
abbrev pub source_line : SourceFault → List ℕ
source_line (source.Syntax at) = placed_line (codes "31 syntax ") at
source_line (source.Unknown at) = placed_line (codes "32 unknown ") at
source_line (source.Twice at) = placed_line (codes "33 twice ") at
source_line (source.Kind at) = placed_line (codes "34 kind ") at
source_line (source.AssignInput at) = placed_line (codes "35 input ") at
source_line (source.MapForm at) = placed_line (codes "36 map ") at
source_line (source.Index at) = placed_line (codes "37 index ") at
source_line (source.Large limit) = large_line limit

-- the head of the line of an input that is no element
abbrev pub element_head : Which → List ℕ
element_head which_.Public = codes "52 element public "
element_head which_.Secret = codes "52 element secret "
element_head which_.Other = codes "52 element other "
element_head which_.Tape = codes "52 element tape "

-- the line of inputs that are refused
abbrev pub input_line : InputFault → List ℕ
input_line (input.Length given wanted) = codes "51 length " ++ decimal given ++ codes " " ++ decimal wanted ++ 10 ∷ []
input_line (input.Element which index) = numbered_line (element_head which) index
input_line (input.TapeShort given wanted) = codes "53 tape " ++ decimal given ++ codes " " ++ decimal wanted ++ 10 ∷ []
input_line (input.Probe index) = numbered_line (codes "54 probe ") index

-- the line of a code and certificate that are refused
abbrev pub check_line : CheckFault → List ℕ
check_line (check.Tile instr) = numbered_line (codes "11 tile ") instr
check_line (check.Operand block) = numbered_line (codes "12 operand ") block
check_line (check.Output index) = numbered_line (codes "14 output ") index
check_line (check.Doubled value block) = codes "13 doubled " ++ operand_word value ++ codes " b" ++ decimal block ++ 10 ∷ []
