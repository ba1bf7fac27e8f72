-- Each use adds what it brings.
use Rattle.std.proofs.Common.{◌≡◌, ◌⊎◌, ◌↔◌, ◌+◌, ◌++◌, ◌∷◌, [], ℕ, List, length, take, drop, slice_index_or, sym, ◌∙◌, ap, subst, arith}
use Rattle.std.proofs.lemmas.List.{take_all, take_at, take_more}
use Rattle.mk_rules.specs.declared.uses.OperandPlace.{OperandPlace}
use Rattle.mk_rules.specs.Rows.{HasBit}
use Rattle.mk_rules.proofs.Noting.{place_of}
use Rattle.mk_report.specs.Passing.{Brings, IsGathered, IsReady}
use Rattle.mk_report.proofs.Turning.{gathered-more, held-at}
use Rattle.mk_report.proofs.reached.gather.Goals as goal

pub bring-requires-clause-ready : goal.bring-requires-clause-ready
bring-requires-clause-ready c =
    let u : OperandPlace = slice_index_or c.args.uses.now c.loop-at.at (place_of 0 0) in
    subst (λ (n : ℕ). IsReady c.args.blocks.now c.args.rows.now n u)
    (sym (ap (λ (xs : List ℕ). length xs) c.as_mut_slice.ensures.value ∙ c.loop-at.invariant.0))
    (c.requires.ready u (held-at c.args.uses.now c.loop-at.at (place_of 0 0) c.loop-at-test.true))

pub loop-at-preserved : goal.loop-at-preserved
loop-at-preserved c =
    let blocks = c.args.blocks.now in
    let rows : List (List ℕ) = c.args.rows.now in
    let us : List OperandPlace = c.args.uses.now in
    let at : ℕ = c.loop-at.at in
    let u : OperandPlace = slice_index_or us at (place_of 0 0) in
    let value : c.as_mut_slice.result.now ≡ c.loop-at.row.items = c.as_mut_slice.ensures.value in
    let row : take c.loop-at.row.len (c.bring.new.row ++ drop (length c.bring.new.row) c.loop-at.row.items) ≡ c.bring.new.row =
    take_at c.bring.new.row (drop (length c.bring.new.row) c.loop-at.row.items) c.loop-at.row.len (c.bring.ensures.count ∙ c.as_mut_slice.ensures.len) in
    let more : take (at + 1) us ≡ take at us ++ u ∷ [] = take_more us at (place_of 0 0) c.loop-at-test.true in (
      ap (λ (xs : List ℕ). length xs) row ∙ c.bring.ensures.count ∙ ap (λ (xs : List ℕ). length xs) value ∙ c.loop-at.invariant.0,
      subst (IsGathered blocks rows (take (at + 1) us)) (sym row)
          (subst (λ (xs : List OperandPlace). IsGathered blocks rows xs c.bring.new.row) (sym more)
          (gathered-more blocks rows (take at us) u c.loop-at.row.items c.bring.new.row c.loop-at.invariant.1
          (subst (λ (xs : List ℕ). (k : ℕ) → HasBit c.bring.new.row k ↔ (HasBit xs k ⊎ Brings blocks rows u k)) value c.bring.ensures.bits))),
    )

pub returns-clause-bits : goal.returns-clause-bits
returns-clause-bits c =
    subst (IsGathered c.args.blocks.now c.args.rows.now c.args.uses.now) (sym c.from_vec.ensures)
    (subst (λ (us : List OperandPlace). IsGathered c.args.blocks.now c.args.rows.now us c.loop-at.row.items)
    (take_all c.loop-at.at c.args.uses.now (omega (arith, c.loop-at-test.false))) c.loop-at.invariant.1)
