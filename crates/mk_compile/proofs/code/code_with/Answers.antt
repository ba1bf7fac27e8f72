-- The blocks are placed, and the claims are the outputs.
use Rattle.std.proofs.Common.{rules, arith, ℕ, List, All, ◌≡◌, ◌≤◌, ◌*◌, length, subst, sym, ap, ◌∙◌}
use Rattle.std.specs.List.{flat_map}
use Rattle.mk_code.specs.declared.instr.Instr.{Instr}
use Rattle.mk_code.specs.Draft.{Draft, finished}
use Rattle.mk_ssa.specs.declared.Op.{Op}
use Rattle.mk_ssa.specs.declared.Operand.{Operand}
use Rattle.mk_rules.specs.Shape.{Shape}
use Rattle.mk_compile.specs.declared.positions.Position.{Position}
use Rattle.mk_compile.specs.Emitting.{shape_from, draft_shape, filled, instrs_of, outs_of}
use Rattle.mk_compile.specs.Positions.{bank_of, IsSharedAt, ArePlaced}
use Rattle.mk_compile.proofs.Codes.{claims-placed, claims-outs, claims-whole}
use Rattle.mk_compile.proofs.code.code_with.Goals as goal

pub outs-requires : goal.outs-requires
outs-requires g c =
    let shape : Shape = shape_from g.F.Field.ID c.args.order c.args.inputs.secrets c.args.inputs.publics c.args.maps in
    let d : Draft = c.emit_blocks.new.builder in
    let positions : List (Position g.row.N) = c.in_ok-positions.positions.items in
    let blocks_are : c.as_slice.result.now ≡ c.args.cert.now.blocks = c.as_slice.ensures.items ∙ c.blocks-2.ensures in
    let claims_are : c.as_slice-3.result.now ≡ c.args.cert.now.claims = c.as_slice-3.ensures.items ∙ c.claims.ensures in
    let so : ArePlaced shape c.args.cert.now.blocks d.instrs positions =
    subst (λ (bs : List Op). ArePlaced shape bs d.instrs positions) blocks_are
    (subst (λ (x : Shape). ArePlaced x c.as_slice.result.now d.instrs positions) (ap (draft_shape g.F.Field.ID) c.new-builder.ensures) c.in_ok-positions.ensures.placed) in
    let there : All (IsSharedAt c.args.inputs.secrets positions) c.args.cert.now.claims =
    claims-placed shape c.requires.shares c.args.cert.now.blocks positions c.args.cert.now.claims so.kinds c.requires.claims in
    let few : length c.as_slice-3.result.now ≤ 65536 = omega (arith, ap length claims_are, c.requires.few_claims) in (
      search rules,
      (
        omega (arith, c.requires.order, c.requires.shares),
        (
          c.requires.inputs.0,
          (
            subst (λ (vs : List Operand). All (IsSharedAt c.args.inputs.secrets c.as_slice-2.result.now) vs) (sym claims_are)
                (subst (λ (ps : List (Position g.row.N)). All (IsSharedAt c.args.inputs.secrets ps) c.args.cert.now.claims) (sym c.as_slice-2.ensures.value) there),
            few,
          ),
        ),
      ),
    )

pub finish-requires : goal.finish-requires
finish-requires g c =
    let shape : Shape = shape_from g.F.Field.ID c.args.order c.args.inputs.secrets c.args.inputs.publics c.args.maps in
    let d : Draft = c.emit_blocks.new.builder in
    let positions : List (Position g.row.N) = c.in_ok-positions.positions.items in
    let blocks_are : c.as_slice.result.now ≡ c.args.cert.now.blocks = c.as_slice.ensures.items ∙ c.blocks-2.ensures in
    let claims_are : c.as_slice-3.result.now ≡ c.args.cert.now.claims = c.as_slice-3.ensures.items ∙ c.claims.ensures in
    let so : ArePlaced shape c.args.cert.now.blocks d.instrs positions =
    subst (λ (bs : List Op). ArePlaced shape bs d.instrs positions) blocks_are
    (subst (λ (x : Shape). ArePlaced x c.as_slice.result.now d.instrs positions) (ap (draft_shape g.F.Field.ID) c.new-builder.ensures) c.in_ok-positions.ensures.placed) in
    let outs_are : c.in_ok-outs.outs ≡ flat_map (bank_of c.args.inputs.secrets positions) c.args.cert.now.claims =
    c.in_ok-outs.ensures.positions
    ∙ ap (λ (ps : List (Position g.row.N)). flat_map (bank_of c.args.inputs.secrets ps) c.as_slice-3.result.now) c.as_slice-2.ensures.value
    ∙ ap (flat_map (bank_of c.args.inputs.secrets positions)) claims_are in
    let count : length c.in_ok-outs.outs ≡ length c.args.cert.now.claims * g.row.N =
    c.in_ok-outs.ensures.count ∙ ap (λ (vs : List Operand). length vs * g.row.N) claims_are in
    claims-whole shape c.requires.shares c.args.cert.now.blocks positions c.args.cert.now.claims d c.in_ok-outs.outs
    (ap (λ (e : Draft). e.order) c.in_ok-positions.ensures.code ∙ ap (λ (e : Draft). e.order) c.new-builder.ensures)
    (ap (λ (e : Draft). e.secrets) c.in_ok-positions.ensures.code ∙ ap (λ (e : Draft). e.secrets) c.new-builder.ensures)
    (ap (λ (e : Draft). e.publics) c.in_ok-positions.ensures.code ∙ ap (λ (e : Draft). e.publics) c.new-builder.ensures)
    c.requires.order c.requires.wired so c.requires.claims c.requires.few_claims outs_are count

pub returns : goal.returns
returns g c =
    let shape : Shape = shape_from g.F.Field.ID c.args.order c.args.inputs.secrets c.args.inputs.publics c.args.maps in
    let d : Draft = c.emit_blocks.new.builder in
    let positions : List (Position g.row.N) = c.in_ok-positions.positions.items in
    let blocks_are : c.as_slice.result.now ≡ c.args.cert.now.blocks = c.as_slice.ensures.items ∙ c.blocks-2.ensures in
    let claims_are : c.as_slice-3.result.now ≡ c.args.cert.now.claims = c.as_slice-3.ensures.items ∙ c.claims.ensures in
    let so : ArePlaced shape c.args.cert.now.blocks d.instrs positions =
    subst (λ (bs : List Op). ArePlaced shape bs d.instrs positions) blocks_are
    (subst (λ (x : Shape). ArePlaced x c.as_slice.result.now d.instrs positions) (ap (draft_shape g.F.Field.ID) c.new-builder.ensures) c.in_ok-positions.ensures.placed) in
    let outs_are : c.in_ok-outs.outs ≡ outs_of shape c.args.cert.now.blocks c.args.cert.now.claims =
    c.in_ok-outs.ensures.positions
    ∙ ap (λ (ps : List (Position g.row.N)). flat_map (bank_of c.args.inputs.secrets ps) c.as_slice-3.result.now) c.as_slice-2.ensures.value
    ∙ ap (flat_map (bank_of c.args.inputs.secrets positions)) claims_are
    ∙ claims-outs shape c.requires.shares c.args.cert.now.blocks positions c.args.cert.now.claims d.instrs so c.requires.claims in
    c.finish.ensures
    ∙ ap (λ (e : Draft). finished g.F.Field.ID e c.in_ok-outs.outs) c.in_ok-positions.ensures.code
    ∙ ap (λ (e : Draft). finished g.F.Field.ID (record e { instrs = d.instrs }) c.in_ok-outs.outs) c.new-builder.ensures
    ∙ ap (λ (is : List Instr). filled shape is c.in_ok-outs.outs) so.laid
    ∙ ap (λ (os : List ℕ). filled shape (instrs_of shape c.args.cert.now.blocks) os) outs_are
