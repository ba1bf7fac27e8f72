-- The uses by each block are noted before those behind it.
use Rattle.std.proofs.Common.{◌≡◌, ◌+◌, ◌-◌, ◌<◌, ℕ, suc, List, Option, Some, None, IfSome, length, slice_get, slice_index_or, [], ◌∷◌, ◌++◌, sym, ◌∙◌, ap, subst, arith}
use Rattle.std.proofs.lemmas.List.{length-set}
use Rattle.std.proofs.lemmas.Option.{slice_get-get_or}
use Rattle.mk_ssa.specs.declared.Op.{Op}
use Rattle.mk_ssa.specs.declared.Op.TheVariants.{Const}
use Rattle.mk_rules.specs.declared.uses.OperandPlace.{OperandPlace}
use Rattle.mk_rules.specs.Shape.{Shape}
use Rattle.mk_rules.specs.Uses.{AreThere, AreUsesAt, IsNoted, input_shape, shared_numbers}
use Rattle.mk_rules.proofs.Noting.{place_of, uses-noted, uses-start}
use Rattle.mk_rules.proofs.uses.uses_of.Goals as goal

-- the operator with this number
abbrev op_of : List Op → ℕ → Op
op_of ops i = slice_index_or ops i (Const 0)

-- there is a list for each operand
room : (shape : Shape) (ops : List Op) → AreThere shape ops → (i : ℕ) → i < length ops → (len k : ℕ) (o : Option ℕ)
    → len ≡ shape.secrets + shape.publics + length ops → o ≡ slice_get (shared_numbers shape (op_of ops i)) k → IfSome o (λ v. v < len)
room shape ops are i within len k None count same = tt
room shape ops are i within len k (Some v) count same =
    omega (arith, count, are i k v (op_of ops i) (slice_get-get_or ops i (Const 0) within) (sym same))

-- a note leaves as many lists
noted-long : (noted after : List (List OperandPlace)) (o : Option ℕ) (p : OperandPlace) → IsNoted noted o p after → length after ≡ length noted
noted-long noted after None p is = ap (λ (t : List (List OperandPlace)). length t) is
noted-long noted after (Some v) p is =
    ap (λ (t : List (List OperandPlace)). length t) is ∙ length-set noted v (slice_index_or noted v [] ++ p ∷ [])

pub loop-done-init : goal.loop-done-init
loop-done-init c =
    uses-start (input_shape c.args.secrets c.args.publics) c.args.ops.now (length c.args.ops.now - 0) c.in_ok-noted.noted.items (omega arith)
    c.in_ok-noted.ensures.count c.in_ok-noted.ensures.none

pub note-requires : goal.note-requires
note-requires c =
    room (input_shape c.args.secrets c.args.publics) c.args.ops.now c.requires.there (length c.args.ops.now - 1 - c.loop-done.done) (omega (arith, c.loop-done-test.true))
    (length c.loop-done.noted.items) 1 c.shared_numbers-left.result.1 c.loop-done.invariant.count c.shared_numbers-left.ensures.second

pub note-requires-in-loop-done : goal.note-requires-in-loop-done
note-requires-in-loop-done c =
    let i : ℕ = length c.args.ops.now - 1 - c.loop-done.done in
    room (input_shape c.args.secrets c.args.publics) c.args.ops.now c.requires.there i (omega (arith, c.loop-done-test.true))
    (length c.note.new.noted.items) 0 c.shared_numbers-left.result.0
    (noted-long c.loop-done.noted.items c.note.new.noted.items c.shared_numbers-left.result.1 (place_of i 1) c.in_ok-note.ensures ∙ c.loop-done.invariant.count)
    c.shared_numbers-left.ensures.first

pub loop-done-preserved : goal.loop-done-preserved
loop-done-preserved c =
    let shape : Shape = input_shape c.args.secrets c.args.publics in
    let ops : List Op = c.args.ops.now in
    let i : ℕ = length ops - 1 - c.loop-done.done in
    let before : length ops - c.loop-done.done ≡ suc i = omega (arith, c.loop-done-test.true) in
    let e : i ≡ length ops - (c.loop-done.done + 1) = omega arith in
    subst (λ (n : ℕ). AreUsesAt shape ops n c.note-in-loop-done.new.noted.items) e
    (uses-noted shape ops c.requires.there i (op_of ops i) (slice_get-get_or ops i (Const 0) (omega (arith, c.loop-done-test.true)))
    c.loop-done.noted.items c.note.new.noted.items c.note-in-loop-done.new.noted.items
    (subst (λ (n : ℕ). AreUsesAt shape ops n c.loop-done.noted.items) before c.loop-done.invariant)
    (subst (λ (o : Option ℕ). IsNoted c.loop-done.noted.items o (place_of i 1) c.note.new.noted.items) c.shared_numbers-left.ensures.second c.in_ok-note.ensures)
    (subst (λ (o : Option ℕ). IsNoted c.note.new.noted.items o (place_of i 0) c.note-in-loop-done.new.noted.items) c.shared_numbers-left.ensures.first
    c.in_ok-note-2.ensures))
