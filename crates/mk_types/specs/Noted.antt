-- The first of the offences so far, as they are found.
use Rattle.std.specs.Prelude.{List, Option, Some, None, fold, if◌then◌else◌}
use Rattle.mk_types.specs.declared.offence.Offence.{Offence}
use Rattle.mk_types.specs.First.{is_before}

-- the first of what was found so far and one more
abbrev pub earliest : Option Offence → Offence → Option Offence
earliest None x = Some x
earliest (Some y) x = Some (if is_before x y then x else y)

-- the first of what was found so far and these
abbrev pub noted : Option Offence → List Offence → Option Offence
noted = fold earliest
