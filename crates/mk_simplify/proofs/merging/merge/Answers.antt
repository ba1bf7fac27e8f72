-- One value more is merged.
use Rattle.std.proofs.Common.{◌≡◌, ◌+◌, ◌<◌, List, ◌++◌, ◌∷◌, [], sym, ◌∙◌, ap, subst, length, slice_get, get_or, take, Some, refl}
use Rattle.std.specs.List.{AllByRecursion}
use Rattle.std.proofs.lemmas.List.{take_more, nil_from_length}
use Rattle.std.proofs.lemmas.Option.{slice_get-get_or}
use Rattle.mk_ssa.specs.declared.Op.{Op}
use Rattle.mk_ssa.specs.declared.Op.TheVariants.{Const}
use Rattle.mk_ssa.specs.contracts.OpPartialEq.TheImpl as op_eq
use Rattle.mk_ssa.specs.Operators.{operands, with_operands}
use Rattle.mk_ssa.specs.Values.{draft, front}
use Rattle.mk_simplify.specs.Renumbering.{IsMerged, IsBelow, renumbered}
use Rattle.mk_simplify.proofs.Merges.{IsMerged-push, IsMerged-new, IsFound, front-made, fits-within}
use Rattle.mk_simplify.proofs.Found.{found-by}
use Rattle.mk_simplify.proofs.Equal.{op-sound, op-same}
use Rattle.mk_simplify.proofs.merging.merge.Goals as goal

pub loop-op-init : goal.loop-op-init
loop-op-init c =
    let s = c.args.s.now in
    let none : c.new-ops.result.keys ≡ [] = nil_from_length c.new-ops.result.keys c.new-ops.ensures.len in
    subst (λ (l : List Op). IsMerged (front (draft s) 0) l c.new-numbers.result) (sym none)
    (subst (λ l. IsMerged (front (draft s) 0) [] l) (sym c.new-numbers.ensures) (IsMerged-new (front (draft s) 0) refl c.values.ensures.fits.made.bytes))

pub with_renumbered-requires : goal.with_renumbered-requires
with_renumbered-requires c =
    let s = c.args.s.now in
    let k = c.loop-op.op-index in
    let x = get_or c.as_slice-op-items.result.now k (Const 0) in
    let same : c.as_slice-op-items.result.now ≡ s.values = c.as_slice-op-items.ensures.items ∙ c.values.ensures.values in
    let below : k < length s.values = subst (λ (l : List Op). k < length l) same c.loop-op-test.true in
    let at : slice_get s.values k ≡ Some x = slice_get-get_or s.values k (Const 0) below ∙ ap (λ (l : List Op). Some (get_or l k (Const 0))) (sym same) in
    let long : length (front (draft s) k).values ≡ length c.as_slice.result.now = sym (ap length c.as_slice.ensures.items ∙ c.loop-op.invariant.count) in
    subst (λ n. AllByRecursion (IsBelow n) (operands x)) long (fits-within (front (draft s) k) x (c.values.ensures.fits.made.fit k x at))

pub loop-op-preserved : goal.loop-op-preserved
loop-op-preserved c =
    let s = c.args.s.now in
    let k = c.loop-op.op-index in
    let ops = c.loop-op.ops.keys in
    let x = get_or c.as_slice-op-items.result.now k (Const 0) in
    let y : c.with_renumbered.result ≡ with_operands (renumbered c.loop-op.numbers) x =
    c.with_renumbered.ensures ∙ ap (λ (ns : List _). with_operands (renumbered ns) x) c.as_slice.ensures.items in
    let found : IsFound ops (with_operands (renumbered c.loop-op.numbers) x) c.insert_full.new.self.keys c.in_ok-number.number =
    subst (λ (z : Op). IsFound ops z c.insert_full.new.self.keys c.in_ok-number.number) y
    (found-by op_eq.ghosts.eq ops c.insert_full.new.self.keys c.with_renumbered.result c.in_ok-number.number op-sound op-same c.in_ok-number.ensures.keys c.in_ok-number.ensures.stored) in
    let same : c.as_slice-op-items.result.now ≡ s.values = c.as_slice-op-items.ensures.items ∙ c.values.ensures.values in
    let below : k < length s.values = subst (λ (l : List Op). k < length l) same c.loop-op-test.true in
    let at : slice_get s.values k ≡ Some x = slice_get-get_or s.values k (Const 0) below ∙ ap (λ (l : List Op). Some (get_or l k (Const 0))) (sym same) in
    let more : take (k + 1) s.values ≡ take k s.values ++ x ∷ [] =
    take_more s.values k (Const 0) below ∙ ap (λ (l : List Op). take k s.values ++ get_or l k (Const 0) ∷ []) (sym same) in
    let step =
    IsMerged-push (front (draft s) k) ops c.insert_full.new.self.keys c.loop-op.numbers x c.in_ok-number.number
    (front-made (draft s) k c.values.ensures.fits.made) c.loop-op.invariant (c.values.ensures.fits.made.fit k x at) found in
    rw (more, c.in_ok-push.ensures.ok) step
