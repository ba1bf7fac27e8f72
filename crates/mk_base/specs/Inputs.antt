-- Why some numbers are not taken as inputs. The rules are this project's own.
use Rattle.std.specs.Prelude.{ℕ, not, nat_lt, nat_eq, if◌then◌else◌, List, Option, Some, None, length, option_map}
use Rattle.std.specs.List.{position}
use Rattle.mk_base.specs.declared.Which.{Which}
use Rattle.mk_base.specs.declared.inputs.InputRefusal.{InputRefusal}
use Rattle.mk_base.specs.declared.inputs.InputRefusal.TheVariants.{Length, Element}

-- the number of the inputs isn't the wanted one
abbrev pub wrong_number : List ℕ → ℕ → Option InputRefusal
wrong_number inputs wanted = if nat_eq (length inputs) wanted then None else Some (Length (length inputs) wanted)

-- an input is no element of a field of this size, whose elements are the numbers below it: the first such one
abbrev pub no_element : Which → ℕ → List ℕ → Option InputRefusal
no_element which size inputs = option_map (Element which) (position (λ x. not (nat_lt x size)) inputs)
