-- One block more is placed.
use Rattle.std.proofs.Common.{rules, arith, ℕ, List, ◌+◌, ◌++◌, [], length, take, slice_index_or, subst, sym, ap, refl, ◌∙◌}
use Rattle.mk_code.specs.Draft.{Draft, draft_len}
use Rattle.mk_code.specs.declared.instr.Instr.{Instr}
use Rattle.mk_ssa.specs.declared.Op.{Op}
use Rattle.mk_ssa.specs.declared.Op.TheVariants.{Const}
use Rattle.mk_gadget.specs.Gadget.{placed}
use Rattle.mk_gadget.specs.Emitted.{Emitted}
use Rattle.mk_gadget.specs.Template.{built_in}
use Rattle.mk_rules.specs.Shape.{Shape}
use Rattle.mk_compile.specs.declared.positions.Position.{Position}
use Rattle.mk_compile.specs.Emitting.{draft_shape}
use Rattle.mk_compile.specs.Positions.{HasOperands, ArePlaced, AreBefore, bank_at, positions_read}
use Rattle.mk_compile.proofs.Emitted.{placed-none, placed-more, placed-all, before-placed, room, wired-next, wired-front, operands-next, constant-there}
use Rattle.mk_compile.proofs.emit.emit_blocks.Goals as goal

pub loop-op-init : goal.loop-op-init
loop-op-init g c = record {
  same = refl;
  placed = placed-none (draft_shape g.F.Field.ID c.args.builder.now) c.requires.order c.args.builder.now.instrs c.new-positions.result.items c.requires.none c.new-positions.ensures.items;
}

pub emit-requires : goal.emit-requires
emit-requires g c =
    let shape : Shape = draft_shape g.F.Field.ID c.args.builder.now in
    let now : Draft = c.loop-op.builder in
    let same = c.loop-op.invariant.same in
    let so = c.loop-op.invariant.placed in
    let k : ℕ = c.loop-op.op-index in
    let blocks : List Op = c.args.blocks.now in
    let op : Op = slice_index_or blocks k (Const 0) in
    let there : HasOperands c.args.inputs.secrets c.args.inputs.publics (length now.maps) c.loop-op.positions.items op =
    operands-next shape c.requires.order blocks k (Const 0) c.args.inputs.secrets c.args.inputs.publics (length now.maps) now.instrs c.loop-op.positions.items c.loop-op-test.true c.requires.wired
    c.requires.secrets c.requires.publics (ap (λ (d : Draft). length d.maps) same) so in
    let before : AreBefore (draft_len now) c.loop-op.positions.items =
    subst (λ (b : ℕ). AreBefore b c.loop-op.positions.items) (sym (ap draft_len same))
    (before-placed shape c.requires.order (take k blocks) now.instrs c.loop-op.positions.items (wired-front shape c.requires.order [] blocks k c.requires.wired) so) in (
      search rules,
      (
        c.requires.shares,
        (
          ap (λ (d : Draft). d.order + 1) same ∙ c.requires.order,
          (
            c.requires.secrets ∙ sym (ap (λ (d : Draft). d.secrets) same),
            (
              c.requires.publics ∙ sym (ap (λ (d : Draft). d.publics) same),
              (
                c.requires.inputs,
                (
                  omega (arith, c.requires.few, room shape c.requires.order blocks k (Const 0) op now.instrs c.loop-op-test.true refl so.laid),
                  (
                    constant-there shape c.requires.order (take k blocks) op (wired-next shape c.requires.order blocks k (Const 0) c.loop-op-test.true c.requires.wired),
                    (
                      subst (λ (ps : List (Position g.row.N)). HasOperands c.args.inputs.secrets c.args.inputs.publics (length now.maps) ps op) (sym c.as_slice.ensures.value) there,
                      subst (AreBefore (draft_len now)) (sym c.as_slice.ensures.value) before,
                    ),
                  ),
                ),
              ),
            ),
          ),
        ),
      ),
    )

pub loop-op-preserved : goal.loop-op-preserved
loop-op-preserved g c =
    let shape : Shape = draft_shape g.F.Field.ID c.args.builder.now in
    let now : Draft = c.loop-op.builder in
    let next : Draft = c.emit.new.builder in
    let same = c.loop-op.invariant.same in
    let so = c.loop-op.invariant.placed in
    let k : ℕ = c.loop-op.op-index in
    let blocks : List Op = c.args.blocks.now in
    let op : Op = slice_index_or blocks k (Const 0) in
    let positions : List (Position g.row.N) = c.loop-op.positions.items in
    let there : HasOperands shape.secrets shape.publics (length shape.maps) positions op =
    operands-next shape c.requires.order blocks k (Const 0) shape.secrets shape.publics (length shape.maps) now.instrs positions c.loop-op-test.true c.requires.wired refl refl refl so in
    let emitted : Emitted now next (positions_read shape.secrets positions op) (built_in g.row.N op) (bank_at c.in_ok-position.position) =
    subst (λ (ps : List (Position g.row.N)). Emitted now next (positions_read shape.secrets ps op) (built_in g.row.N op) (bank_at c.in_ok-position.position)) c.as_slice.ensures.value
    (subst (λ (s : ℕ). Emitted now next (positions_read s c.as_slice.result.now op) (built_in g.row.N op) (bank_at c.in_ok-position.position)) c.requires.secrets c.in_ok-position.ensures.emitted) in
    record {
      same = emitted.code
          ∙ ap (λ (d : Draft). record d { instrs = d.instrs ++ placed (positions_read shape.secrets positions op) (draft_len now) (built_in g.row.N op); spare = next.spare }) same
          ∙ ap (λ (is : List Instr). record c.args.builder.now { instrs = is; spare = next.spare }) (sym (ap (λ (d : Draft). d.instrs) emitted.code));
      placed = subst (λ (ps : List (Position g.row.N)). ArePlaced shape (take (k + 1) blocks) next.instrs ps) (sym c.in_ok-push.ensures.items)
          (placed-more shape c.requires.order blocks k (Const 0) op now next positions c.in_ok-position.position c.loop-op-test.true refl (ap draft_len same) emitted
          c.in_ok-position.ensures.kind there so);
    }

pub returns-clause-code : goal.returns-clause-code
returns-clause-code g c = c.loop-op.invariant.same

pub returns-clause-placed : goal.returns-clause-placed
returns-clause-placed g c =
    placed-all (draft_shape g.F.Field.ID c.args.builder.now) c.requires.order c.args.blocks.now c.loop-op.op-index c.loop-op.builder.instrs c.loop-op.positions.items c.loop-op-test.false
    c.loop-op.invariant.placed
