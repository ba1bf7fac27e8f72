-- The row of the position, and in it the variable.
use Rattle.std.proofs.Common.{◌∙◌, ap, arith, length, List, Bool, false, slice_index_or}
use Rattle.mk_pad.specs.declared.occurrences.Occurrences.{Occurrences}
use Rattle.mk_pad.specs.Form.{share_count}
use Rattle.mk_pad.specs.Positions.{variable_count}
use Rattle.mk_pad.specs.Shown.{polynomial_of}
use Rattle.mk_pad.proofs.Noting.{notes-length, notes-at, occurring-length, occurs-noted}
use Rattle.mk_pad.proofs.shown.occurs_at.Goals as goal

pub bounds-rows-position : goal.bounds-rows-position
bounds-rows-position c = omega (arith, c.requires.position, notes-length c.args.gadget.now c.args.rows.now c.requires.rows)

pub bounds-as_slice-variable : goal.bounds-as_slice-variable
bounds-as_slice-variable c =
    let g = c.args.gadget.now in
    let noted = notes-at g c.args.rows.now c.args.position c.index-rows-position.result c.requires.rows c.requires.position in
    omega (
      arith,
      c.requires.variable,
      ap length c.as_slice.ensures.items,
      ap (λ (o : Occurrences). length o.occurring) c.index-rows-position.is,
      occurring-length (share_count g) (variable_count g) (polynomial_of g c.args.position)
          (slice_index_or c.args.rows.now c.args.position c.index-rows-position.result) noted,
    )

pub returns : goal.returns
returns c =
    let g = c.args.gadget.now in
    ap (λ (bs : List Bool). slice_index_or bs c.args.variable false) c.as_slice.ensures.items
    ∙ occurs-noted (share_count g) (variable_count g) (polynomial_of g c.args.position) (slice_index_or c.args.rows.now c.args.position c.index-rows-position.result)
    c.args.variable false (notes-at g c.args.rows.now c.args.position c.index-rows-position.result c.requires.rows c.requires.position) c.requires.variable
