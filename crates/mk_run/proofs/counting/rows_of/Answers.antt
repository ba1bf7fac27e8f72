-- One entry after the other.
use Rattle.std.proofs.Common.{◌≡◌, ℕ, List, [], ◌∷◌, ◌++◌, map, sym, ap, ◌∙◌, subst, append-nil, append_assoc, Vec, Global}
use Rattle.mk_run.specs.declared.table.Row.{Row}
use Rattle.mk_run.specs.declared.tally.Tally.{Tally}
use Rattle.mk_run.specs.Table.{IsTable}
use Rattle.mk_run.specs.Tally.{tally_of}
use Rattle.mk_run.proofs.Rows.{row_of, rows-table}
use Rattle.mk_run.proofs.counting.rows_of.Goals as goal

pub loop-key-init : goal.loop-key-init
loop-key-init c =
    let given = c.into_iter-key-iterator.ensures.into_iter_gives in
    ap (λ (xs : List Row). xs ++ map row_of c.into_iter-key-iterator.result) c.new-rows.ensures ∙ ap (map row_of) given.0

pub loop-key-preserved : goal.loop-key-preserved
loop-key-preserved c =
    let e : Vec ℕ Global × Tally = (c.in-Some.key, c.in-Some.tally) in
    let pushed : c.push.new.self ≡ c.loop-key.rows ++ row_of e ∷ [] =
    c.in_ok-push.ensures.ok
    ∙ ap (λ (xs : List ℕ). c.loop-key.rows ++ record { seen = xs; first = c.in-Some.tally.first; second = c.in-Some.tally.second } ∷ []) c.in_ok-try_from_vec.ensures.ok in
    ap (λ (xs : List Row). xs ++ map row_of c.next.new.self) pushed ∙ append_assoc c.loop-key.rows (row_of e ∷ []) (map row_of c.next.new.self)
    ∙ sym (ap (λ es. c.loop-key.rows ++ map row_of es) c.in-Some.ensures.steps) ∙ c.loop-key.invariant

pub returns : goal.returns
returns c =
    let given = c.into_iter-key-iterator.ensures.into_iter_gives in
    let none : c.loop-key.key-iterator ≡ [] = c.in-None.ensures.steps.0 in
    let rows : c.loop-key.rows ≡ map row_of c.args.tallies.entries =
    sym (append-nil c.loop-key.rows) ∙ sym (ap (λ es. c.loop-key.rows ++ map row_of es) none) ∙ c.loop-key.invariant in
    subst (IsTable (λ tuple. (tally_of c.args.tallies tuple).first) (λ tuple. (tally_of c.args.tallies tuple).second)) (sym rows)
    (rows-table c.args.tallies given.5 c.requires.shown)
