-- The instruction of a public operator.
use Rattle.std.proofs.Common.{length, subst, sym, ◌∙◌}
use Rattle.mk_code.specs.Draft.{Draft, draft_len}
use Rattle.mk_code.specs.Listing.{FitsAt}
use Rattle.mk_gadget.specs.Template.{built_in}
use Rattle.mk_compile.specs.Positions.{positions_read}
use Rattle.mk_compile.proofs.Banks.{public-one, one-emitted}
use Rattle.mk_compile.proofs.emit.emit.Goals as goal

pub push-position-requires-clause-fits : goal.push-position-requires-clause-fits
push-position-requires-clause-fits g c =
    let one = public-one c.args.builder.now c.args.inputs.secrets c.args.inputs.publics c.args.blocks.now c.requires.order c.requires.secrets c.requires.publics
    c.requires.before g.F.Field.ID c.args.op (sym c.is_public.ensures ∙ c.if-is_public.true) c.requires.constant c.requires.there (draft_len c.args.builder.now) in
    subst (λ (d : Draft). FitsAt g.F.Field.ID (length d.maps) (draft_len d) c.public_instr.result) (sym {b = record c.args.builder.now { spare = c.reserve.new.self.spare }} c.in_ok-reserve.ensures.same)
    (one.1 c.public_instr.result (c.public_instr.ensures (draft_len c.args.builder.now)))

pub returns-in_ok-reserve-clause-emitted : goal.returns-in_ok-reserve-clause-emitted
returns-in_ok-reserve-clause-emitted g c =
    let one = public-one c.args.builder.now c.args.inputs.secrets c.args.inputs.publics c.args.blocks.now c.requires.order c.requires.secrets c.requires.publics
    c.requires.before g.F.Field.ID c.args.op (sym c.is_public.ensures ∙ c.if-is_public.true) c.requires.constant c.requires.there (draft_len c.args.builder.now) in
    one-emitted c.args.builder.now c.reserve.new.self c.push-position.new.self c.public_instr.result (positions_read c.args.inputs.secrets c.args.blocks.now c.args.op)
    (built_in g.row.N c.args.op) c.push-position.result c.in_ok-reserve.ensures.same c.push-position.ensures.pushed c.push-position.ensures.position
    (c.public_instr.ensures (draft_len c.args.builder.now)) one.0
