-- Each value is told of by the row that its uses make.
use Rattle.std.proofs.Common.{◌≡◌, ◌+◌, ◌-◌, ◌<◌, ◌++◌, ◌∷◌, ℕ, suc, true, List, [], length, slice_index_or, sym, ◌∙◌, ap, subst, arith}
use Rattle.std.proofs.lemmas.List.{get_or_default, length-append}
use Rattle.mk_ssa.specs.declared.Op.{Op}
use Rattle.mk_rules.specs.declared.uses.OperandPlace.{OperandPlace}
use Rattle.mk_rules.specs.Shape.{Shape, shape_of}
use Rattle.mk_report.specs.declared.need.Told.{Told}
use Rattle.mk_report.specs.Rows.{HavePlaces, IsRowOf, places_in}
use Rattle.std.specs.List.{Contains}
use Rattle.mk_rules.specs.Wired.{Wired}
use Rattle.mk_report.specs.Passing.{HasEarlier, HasRows, IsGathered, IsIndex, IsReady, IsTold, block_at, passes, row_at}
use Rattle.mk_report.proofs.Listed.{have-places, places-are}
use Rattle.mk_report.proofs.Telling.{AreToldFrom, tells-of, told-more}
use Rattle.mk_report.proofs.Turning.{row-is, rows-next, use-ready}
use Rattle.mk_report.proofs.reached.reached.Goals as goal

module _ (shape : Shape) (blocks : List Op) (wired : Wired shape blocks) (noted : List (List OperandPlace)) (numbers products : List ℕ) (words : ℕ)
    (index : IsIndex shape blocks noted numbers products words) (total done : ℕ) (total_is : total ≡ shape.secrets + shape.publics + length blocks)
    (within : done < total) (us read : List OperandPlace) (same : us ≡ read) (known : read ≡ slice_index_or noted (total - 1 - done) read)
    (rows seen : List (List ℕ)) (seen_is : seen ≡ rows) (count : length rows ≡ done) (are : HasRows shape blocks rows words (total - done)) where
  -- the value of this turn
  abbrev number : ℕ
  number = total - 1 - done

  -- it is there
  number-below : number < shape.secrets + shape.publics + length blocks
  number-below = omega (arith, total_is, within)

  -- the uses that the code reads are its uses
  uses-are : us ≡ slice_index_or noted number []
  uses-are = same ∙ known ∙ get_or_default noted number read [] (omega (arith, number-below, index.noted_all.count))

  -- so many rows are there
  rows-count : length seen + suc number ≡ shape.secrets + shape.publics + length blocks
  rows-count = omega (arith, ap (λ (rs : List (List ℕ)). length rs) seen_is, count, total_is, within)

  -- those that are to be passed on
  rows-are : HasRows shape blocks seen words (suc number)
  rows-are =
      let e : total - done ≡ suc number = omega (arith, within) in
      subst (HasRows shape blocks seen words) e (subst (λ (rs : List (List ℕ)). HasRows shape blocks rs words (total - done)) (sym seen_is) are)

  -- each use is ready
  turn-ready : (u : OperandPlace) → Contains us u → IsReady blocks seen words u
  turn-ready = use-ready shape blocks wired noted numbers products words index number number-below us uses-are seen rows-count rows-are

  module _ (row : List ℕ) (gathered : IsGathered blocks seen us row) where
    -- the row stands for what the value reaches
    turn-row : IsRowOf shape blocks number row
    turn-row = row-is shape blocks wired noted numbers products words index number number-below us uses-are seen rows-count rows-are row gathered

    -- the rows of the next turn
    turn-rows : (after : List (List ℕ)) (last : List ℕ) → length row ≡ words → length after ≡ length rows
        → ((b : ℕ) → HasEarlier shape (block_at blocks b) number → row_at blocks after b ≡ row_at blocks rows b)
        → ((b : ℕ) → number ≡ shape.secrets + shape.publics + b → passes (block_at blocks b) ≡ true → last ≡ row)
        → HasRows shape blocks (after ++ last ∷ []) words (total - (done + 1))
    turn-rows after last long as_many still kept =
        let e : number ≡ total - (done + 1) = omega arith in
        subst (HasRows shape blocks (after ++ last ∷ []) words) e
        (rows-next shape blocks wired noted numbers products words index number number-below us uses-are seen rows-count rows-are row gathered after last long
        (as_many ∙ ap (λ (rs : List (List ℕ)). length rs) (sym seen_is))
        (λ b early. still b early ∙ ap (λ (rs : List (List ℕ)). row_at blocks rs b) (sym seen_is)) kept)

    -- what is told of it
    turn-told : (told : List Told) (x : Told) (listed shown : List ℕ) → listed ≡ products → shown ≡ row → AreToldFrom shape blocks (total - done) told
        → IsTold (places_in listed shown) x → AreToldFrom shape blocks (total - (done + 1)) (told ++ x ∷ [])
    turn-told told x listed shown listed_is shown_is so_far is =
        let e : number ≡ total - (done + 1) = omega arith in
        subst (λ (n : ℕ). AreToldFrom shape blocks n (told ++ x ∷ [])) e
        (told-more shape blocks number (total - done) told x (places_in products row) (omega (arith, within)) so_far
        (places-are shape blocks products index.all number row turn-row)
        (subst (λ (ps : List ℕ). IsTold (places_in ps row) x) listed_is (subst (λ (r : List ℕ). IsTold (places_in listed r) x) shown_is is)))

    -- its bits are those of products
    turn-places : (listed shown : List ℕ) → listed ≡ products → shown ≡ row → HavePlaces listed shown
    turn-places listed shown listed_is shown_is =
        subst (λ (ps : List ℕ). HavePlaces ps shown) (sym listed_is)
        (subst (HavePlaces products) (sym shown_is) (have-places shape blocks products index.all number row turn-row))

pub gather-requires-clause-ready : goal.gather-requires-clause-ready
gather-requires-clause-ready c =
    turn-ready (shape_of c.args.code.now) c.args.blocks.now c.requires.wired c.in_ok-index.index.uses.items c.in_ok-index.index.numbers.items
    c.in_ok-index.index.products.items c.in_ok-index.index.words c.in_ok-index.ensures (c.secrets.result + c.publics.result + length c.args.blocks.now) c.loop-done.done c.loop-done.invariant.total
    c.loop-done-test.true c.as_slice-uses.result.now c.index.result.now c.as_slice-uses.ensures.items c.index.ensures
    c.loop-done.rows.items c.as_slice.result.now c.as_slice.ensures.value c.loop-done.invariant.count c.loop-done.invariant.rows

pub tell-requires-clause-products : goal.tell-requires-clause-products
tell-requires-clause-products c =
    turn-places (shape_of c.args.code.now) c.args.blocks.now c.requires.wired c.in_ok-index.index.uses.items c.in_ok-index.index.numbers.items
    c.in_ok-index.index.products.items c.in_ok-index.index.words c.in_ok-index.ensures (c.secrets.result + c.publics.result + length c.args.blocks.now) c.loop-done.done c.loop-done.invariant.total
    c.loop-done-test.true c.as_slice-uses.result.now c.index.result.now c.as_slice-uses.ensures.items c.index.ensures
    c.loop-done.rows.items c.as_slice.result.now c.as_slice.ensures.value c.loop-done.invariant.count c.loop-done.invariant.rows c.in_ok-row.row c.in_ok-row.ensures.bits
    c.as_slice-in-loop-done.result.now c.as_slice-in-loop-done-2.result.now c.as_slice-in-loop-done.ensures.value c.as_slice-in-loop-done-2.ensures.items

pub let_go-requires : goal.let_go-requires
let_go-requires c =
    λ u held.
    let ready = turn-ready (shape_of c.args.code.now) c.args.blocks.now c.requires.wired c.in_ok-index.index.uses.items c.in_ok-index.index.numbers.items
    c.in_ok-index.index.products.items c.in_ok-index.index.words c.in_ok-index.ensures (c.secrets.result + c.publics.result + length c.args.blocks.now) c.loop-done.done c.loop-done.invariant.total
    c.loop-done-test.true c.as_slice-uses.result.now c.index.result.now c.as_slice-uses.ensures.items c.index.ensures
    c.loop-done.rows.items c.as_slice.result.now c.as_slice.ensures.value c.loop-done.invariant.count c.loop-done.invariant.rows u held in
    (ready.behind.0, omega (arith, ready.behind.1, ap (λ (rs : List (List ℕ)). length rs) c.as_slice.ensures.value))

pub loop-done-preserved : goal.loop-done-preserved
loop-done-preserved c =
    record {
      first = c.loop-done.invariant.first;
      total = c.loop-done.invariant.total;
      count = ap (λ (rs : List (List ℕ)). length rs) c.in_ok-push-2.ensures.items
          ∙ omega (arith, length-append c.let_go.new.rows.items (c.kept.result ∷ []), c.let_go.ensures.count, c.loop-done.invariant.count);
      rows = subst (λ (rs : List (List ℕ)). HasRows (shape_of c.args.code.now) c.args.blocks.now rs c.in_ok-index.index.words (c.secrets.result + c.publics.result + length c.args.blocks.now - (c.loop-done.done + 1)))
          (sym c.in_ok-push-2.ensures.items)
          (turn-rows (shape_of c.args.code.now) c.args.blocks.now c.requires.wired c.in_ok-index.index.uses.items c.in_ok-index.index.numbers.items
          c.in_ok-index.index.products.items c.in_ok-index.index.words c.in_ok-index.ensures (c.secrets.result + c.publics.result + length c.args.blocks.now) c.loop-done.done c.loop-done.invariant.total
          c.loop-done-test.true c.as_slice-uses.result.now c.index.result.now c.as_slice-uses.ensures.items c.index.ensures
          c.loop-done.rows.items c.as_slice.result.now c.as_slice.ensures.value c.loop-done.invariant.count c.loop-done.invariant.rows c.in_ok-row.row c.in_ok-row.ensures.bits c.let_go.new.rows.items c.kept.result c.in_ok-row.ensures.count
          c.let_go.ensures.count c.let_go.ensures.kept
          (λ b at passing. c.kept.ensures b (omega (arith, at, c.loop-done.invariant.first)) passing));
      told = subst (AreToldFrom (shape_of c.args.code.now) c.args.blocks.now (c.secrets.result + c.publics.result + length c.args.blocks.now - (c.loop-done.done + 1))) (sym c.in_ok-push.ensures.items)
          (turn-told (shape_of c.args.code.now) c.args.blocks.now c.requires.wired c.in_ok-index.index.uses.items c.in_ok-index.index.numbers.items
          c.in_ok-index.index.products.items c.in_ok-index.index.words c.in_ok-index.ensures (c.secrets.result + c.publics.result + length c.args.blocks.now) c.loop-done.done c.loop-done.invariant.total
          c.loop-done-test.true c.as_slice-uses.result.now c.index.result.now c.as_slice-uses.ensures.items c.index.ensures
          c.loop-done.rows.items c.as_slice.result.now c.as_slice.ensures.value c.loop-done.invariant.count c.loop-done.invariant.rows c.in_ok-row.row c.in_ok-row.ensures.bits c.loop-done.told.items c.in_ok-tell.field-0
          c.as_slice-in-loop-done.result.now c.as_slice-in-loop-done-2.result.now c.as_slice-in-loop-done.ensures.value c.as_slice-in-loop-done-2.ensures.items
          c.loop-done.invariant.told c.in_ok-tell.ensures);
    }

pub returns-clause-places : goal.returns-clause-places
returns-clause-places c =
    let none : c.secrets.result + c.publics.result + length c.args.blocks.now - c.loop-done.done ≡ 0 = omega (arith, c.loop-done-test.false) in
    tells-of (shape_of c.args.code.now) c.args.blocks.now c.requires.wired c.loop-done.told.items
    (subst (λ (n : ℕ). AreToldFrom (shape_of c.args.code.now) c.args.blocks.now n c.loop-done.told.items) none c.loop-done.invariant.told)
