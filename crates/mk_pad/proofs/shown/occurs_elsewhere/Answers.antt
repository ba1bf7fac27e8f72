-- The other position at which the variable occurs.
use Rattle.std.proofs.Common.{◌∙◌, sym, ℕ, slice_index_or}
use Rattle.mk_pad.specs.Shown.{occurs, polynomial_of, without}
use Rattle.mk_pad.proofs.Members.{any-some, in-without, in-place}
use Rattle.mk_pad.proofs.shown.occurs_elsewhere.Goals as goal

pub returns-then-occurs_at : goal.returns-then-occurs_at
returns-then-occurs_at c =
    let other : ℕ = slice_index_or c.args.left.now c.loop-other.other-index 0 in
    sym (any-some (λ q. occurs c.args.variable (polynomial_of c.args.gadget.now q)) (without c.args.position c.args.left.now) other
    (in-without c.args.position c.args.left.now other (in-place c.args.left.now c.loop-other.other-index 0 c.loop-other-test.true) c.if-other-position.true)
    (sym c.occurs_at.ensures ∙ c.if-occurs_at.true))
