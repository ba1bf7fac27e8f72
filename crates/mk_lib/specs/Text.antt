-- The text of a gadget.
use Rattle.std.specs.Prelude.{ℕ, List, ◌++◌, flat_map, codes, decimal}
use Rattle.mk_pad.specs.declared.kind.GadgetKind.{GadgetKind}
use Rattle.mk_pad.specs.declared.kind.GadgetKind.TheVariants.{Mul, Refresh}
use Rattle.mk_pad.specs.Form.{GadgetForm}
use Rattle.mk_lines.specs.Words.{line}
use Rattle.mk_lines.specs.CodeLines.{field_line, instr_line, out_line}

-- the line of what a gadget stands for
abbrev pub kind_line : GadgetKind → List ℕ
kind_line Mul = line (codes "gadget mul")
kind_line Refresh = line (codes "gadget refresh")

-- the line of an order
abbrev pub order_line : ℕ → List ℕ
order_line order = line (codes "order " ++ decimal order)

-- the text: what the gadget stands for, its field and its order, its instructions, and its outs
abbrev pub text : GadgetForm → List ℕ
text g =
    kind_line g.kind
    ++ field_line g.field
    ++ order_line g.order
    ++ flat_map instr_line g.instrs
    ++ out_line g.outs
    ++ line (codes "end")
