use Rattle.std.proofs.Common.{rules, ◌≡◌, [], ◌∷◌, length, take, ◌∙◌, ap}
use Rattle.mk_ssa.specs.declared.Op.{Op}
use Rattle.mk_ssa.specs.Kinds.{shared_operands, public_operands}
use Rattle.mk_ssa.specs.Operators.{operator, with_operands as over, with_operands_by}
use Rattle.mk_place.specs.Laying.{named}
use Rattle.mk_place.proofs.Fitted.{fitted-is}
use Rattle.mk_place.proofs.layout.fitted.Goals as goal

pub returns : goal.returns
returns c =
    let over_is : c.with_operands.result ≡ over (named c.args.names.now) c.args.op = search rules in
    fitted-is c.args.first c.args.second (named c.args.names.now) c.args.op c.with_shared_operands.result
    (c.with_shared_operands.ensures.operator ∙ ap operator over_is)
    (c.with_shared_operands.ensures.shared ∙ ap (λ (x : Op). take (length (shared_operands x)) (c.args.first ∷ c.args.second ∷ [])) over_is)
    (c.with_shared_operands.ensures.public ∙ ap public_operands over_is)
