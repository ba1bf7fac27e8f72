-- A row that goes is that of a block without an earlier operand.
use Rattle.std.proofs.Common.{◌≡◌, ◌-◌, ℕ, suc, List, [], length, slice_index_or, slice_set, ◌∙◌, ap, arith}
use Rattle.std.proofs.lemmas.List.{length-set}
use Rattle.mk_rules.specs.declared.uses.OperandPlace.{OperandPlace}
use Rattle.mk_rules.specs.Shape.{shape_of}
use Rattle.mk_rules.proofs.Noting.{place_of}
use Rattle.mk_report.specs.Passing.{IsBehind, row_at}
use Rattle.mk_report.proofs.Turning.{held-at, rows-still}
use Rattle.mk_report.proofs.reached.let_go.Goals as goal
use Rattle.mk_report.proofs.reached.let_go.Goals.{then-not-has_earlier, else-not-has_earlier}

-- the next use
abbrev use_at : List OperandPlace → ℕ → OperandPlace
use_at us at = slice_index_or us at (place_of 0 0)

pub bounds-blocks-block : goal.bounds-blocks-block
bounds-blocks-block c = (c.requires (use_at c.args.uses.now c.loop-at.at) (held-at c.args.uses.now c.loop-at.at (place_of 0 0) c.loop-at-test.true)).0

pub overflow_sub-blocks : goal.overflow_sub-blocks
overflow_sub-blocks c =
    let behind = c.requires (use_at c.args.uses.now c.loop-at.at) (held-at c.args.uses.now c.loop-at.at (place_of 0 0) c.loop-at-test.true) in
    omega (arith, behind.0)

pub overflow_sub-blocks-then-not-has_earlier : goal.overflow_sub-blocks-then-not-has_earlier
overflow_sub-blocks-then-not-has_earlier c =
    let behind = c.requires (use_at c.args.uses.now c.loop-at.at) (held-at c.args.uses.now c.loop-at.at (place_of 0 0) c.loop-at-test.true) in
    omega (arith, behind.0)

pub index_mut-requires : goal.index_mut-requires
index_mut-requires c =
    let behind = c.requires (use_at c.args.uses.now c.loop-at.at) (held-at c.args.uses.now c.loop-at.at (place_of 0 0) c.loop-at-test.true) in
    omega (arith, behind.0, behind.1, c.loop-at.invariant.count)

pub loop-at-preserved : goal.loop-at-preserved
loop-at-preserved c =
    let blocks = c.args.blocks.now in
    let u : OperandPlace = use_at c.args.uses.now c.loop-at.at in
    let behind : IsBehind blocks c.args.rows.now.items u =
    c.requires u (held-at c.args.uses.now c.loop-at.at (place_of 0 0) c.loop-at-test.true) in
    elim c.if-not-has_earlier.branch [
      | then-not-has_earlier w ↦
          let e : length blocks - 1 - u.value ≡ length blocks - suc u.value = omega arith in
          let after : c.if-not-has_earlier.rows.items ≡ slice_set c.loop-at.rows.items (length blocks - suc u.value) [] =
          ap (λ (v : _). v.items) w.rows-is ∙ ap (λ (n : ℕ). slice_set c.loop-at.rows.items n w.new.result) e
          ∙ ap (slice_set c.loop-at.rows.items (length blocks - suc u.value)) w.new.ensures in
          record {
            count = ap (λ (rs : List (List ℕ)). length rs) after ∙ length-set c.loop-at.rows.items (length blocks - suc u.value) [] ∙ c.loop-at.invariant.count;
            kept = λ b early.
                ap (λ (rs : List (List ℕ)). row_at blocks rs b) after
                ∙ rows-still (shape_of c.args.code.now) blocks c.loop-at.rows.items c.args.number u (behind.0, omega (arith, behind.1, c.loop-at.invariant.count))
                (λ is. absurd (cc (c.has_earlier.ensures.1 is, w.if-not-has_earlier.true))) b early
                ∙ c.loop-at.invariant.kept b early;
          }
      | else-not-has_earlier w ↦ record {
        count = ap (λ (v : _). length v.items) w.rows-is ∙ c.loop-at.invariant.count;
        kept = λ b early. ap (λ (v : _). row_at blocks v.items b) w.rows-is ∙ c.loop-at.invariant.kept b early;
      }
    ]
