-- One digit after the other.
use Rattle.std.proofs.Common.{rules, arith, ◌≡◌, ◌-◌, ℕ, List, [], ◌++◌, length, take, sym, ap, ◌∙◌, append-nil, length-set}
use Rattle.std.proofs.lemmas.List.{take_all}
use Rattle.mk_field.specs.Field.{size}
use Rattle.mk_run.specs.Tapes.{numbered}
use Rattle.mk_run.proofs.Numbers.{numbered-next}
use Rattle.mk_run.proofs.counting.write_tape.Goals as goal

pub loop-slot-preserved : goal.loop-slot-preserved
loop-slot-preserved c =
    let l = c.loop-slot in
    let q : c.from-size.result ≡ size c.args.field = search rules in
    (rw q (numbered-next (size c.args.field) l.slot-index l.left l.slot-items (omega (arith, c.loop-slot-test.true, l.invariant.1)) ∙ l.invariant.0), length-set l.slot-items l.slot-index _ ∙ l.invariant.1)

pub returns : goal.returns
unfolding numbered
returns c =
    let l = c.loop-slot in
    let none : length l.slot-items - l.slot-index ≡ 0 = omega (arith, c.loop-slot-test.false) in
    sym (append-nil l.slot-items)
    ∙ sym (ap (λ (xs : List ℕ). xs ++ []) (take_all l.slot-index l.slot-items (omega (arith, c.loop-slot-test.false))))
    ∙ sym (ap (λ (n : ℕ). take l.slot-index l.slot-items ++ numbered (size c.args.field) n l.left) none)
    ∙ l.invariant.0
