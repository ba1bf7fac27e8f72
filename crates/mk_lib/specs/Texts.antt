-- Which texts are those of a gadget.
use Rattle.std.specs.Prelude.{◌≡◌, ℕ, List, [], ◌++◌}
use Rattle.mk_pad.specs.Form.{GadgetForm, IsGadget}
use Rattle.mk_lib.specs.Text.{text}

-- these bytes are the text of this gadget
abbrev pub IsTextOf : List ℕ → GadgetForm → Type 0
IsTextOf bytes g = IsGadget g × (bytes ≡ text g)

-- these bytes are the text of a gadget
abbrev pub IsGadgetText : List ℕ → Type 0
IsGadgetText bytes = (g : GadgetForm) × IsTextOf bytes g

-- different gadgets have different texts, and no gadget text is a proper front of another
abbrev pub TextsDiffer : Type 0
TextsDiffer = (bytes rest : List ℕ) (g other : GadgetForm) → IsTextOf (bytes ++ rest) g → IsTextOf bytes other → (g ≡ other) × (rest ≡ [])
