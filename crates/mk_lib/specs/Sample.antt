-- The text of a small gadget, computed.
use Rattle.std.specs.Prelude.{◌≡◌, ℕ, List, [], ◌∷◌, ◌++◌, codes, refl}
use Rattle.std.specs.Fmt.{digits}
use Rattle.mk_field.specs.declared.field.FieldId.TheVariants.{Gf256}
use Rattle.mk_code.specs.declared.instr.Instr.TheVariants as instr
use Rattle.mk_pad.specs.declared.kind.GadgetKind.TheVariants.{Refresh}
use Rattle.mk_pad.specs.Form.{GadgetForm}
use Rattle.mk_lines.specs.Words.{line}
use Rattle.mk_lib.specs.Text.{text}

-- a gadget with an instruction of each kind that a gadget may have
abbrev pub refresh : GadgetForm
refresh = record {
  kind = Refresh;
  field = Gf256;
  order = 1;
  instrs = instr.Rnd ∷ instr.Sq 2 ∷ instr.Add 0 3 ∷ instr.Add 1 3 ∷ instr.Const 0x0a ∷ instr.Copy 4 ∷ instr.Mul 6 5 ∷ [];
  outs = 5 ∷ 7 ∷ [];
}

-- its twelve lines
abbrev pub refresh_text : List ℕ
refresh_text =
    line (codes "gadget refresh")
    ++ line (codes "field gf256")
    ++ line (codes "order 1")
    ++ line (codes "rnd")
    ++ line (codes "sq 2")
    ++ line (codes "add 0 3")
    ++ line (codes "add 1 3")
    ++ line (codes "const 0a")
    ++ line (codes "copy 4")
    ++ line (codes "mul 6 5")
    ++ line (codes "out 5 7")
    ++ line (codes "end")

-- its text is these lines
pub text-refresh : text refresh ≡ refresh_text
unfolding digits
text-refresh = refl
