-- The tally is set, or inserted.
use Rattle.std.proofs.Common.{◌+◌, ◌<◌, ◌^◌, ◌∙◌, ℕ, Option, Vec, sym, ap, subst}
use Rattle.std.specs.Prelude.{unwrap_or}
use Rattle.std.specs.BTreeMap.{BTreeMap}
use Rattle.std.specs.Cmp.Lexicographic.{slice_cmp}
use Rattle.std.specs.Ordering.{nat_cmp}
use Rattle.std.specs.Map.{set_value}
use Rattle.std.specs.BTreeMap.{insert_entry}
use Rattle.mk_run.specs.declared.tally.Tally.{Tally}
use Rattle.mk_run.specs.Tally.{none, more, number}
use Rattle.mk_run.proofs.Tallying.{Counts, counts-set, counts-insert, counts-one, counts-shown}
use Rattle.mk_run.proofs.tally.add.Goals as goal

-- one more where there is a tally
set : (c : goal.After-tallies-in-Some-1) → Counts c.args.tallies.now (c.get_mut.follows.lender c.one_more.result) c.args.seen.now c.args.world
set c =
    counts-set c.args.tallies.now (c.get_mut.follows.lender c.one_more.result) c.args.seen.now c.args.world c.in-Some.tally.now
    (sym c.in-Some.ensures.value) ((c.get_mut.follows.holds c.one_more.result).0 ∙ ap (set_value _ c.args.tallies.now.entries) c.one_more.ensures)

-- one more where there is none
inserted : (c : goal.In_ok-insert) → Counts c.args.tallies.now c.insert.new.self c.args.seen.now c.args.world
inserted c =
    counts-insert c.args.tallies.now c.insert.new.self c.args.seen.now c.args.world c.in_ok-key.key c.in_ok-key.ensures.items
    (sym c.in_default.ensures.value)
    (c.in_ok-insert.ensures.entries
    ∙ ap (λ (m : BTreeMap (Vec ℕ _) Tally). insert_entry (λ x y. slice_cmp nat_cmp x.items y.items) m.entries c.in_ok-key.key c.one_more-2.result) c.get_mut.follows.holds-at-none
    ∙ ap (insert_entry (λ x y. slice_cmp nat_cmp x.items y.items) c.args.tallies.now.entries c.in_ok-key.key) (c.one_more-2.ensures ∙ ap (more c.args.world 1) c.none.ensures))

pub one_more-requires : goal.one_more-requires
one_more-requires c =
    subst (λ (o : Option Tally). number c.args.world (unwrap_or o none) + 1 < 2 ^ 64) (sym c.in-Some.ensures.value) c.requires.fits

pub returns-in-Some-clause-counted : goal.returns-in-Some-clause-counted
returns-in-Some-clause-counted c = counts-one _ (c.get_mut.follows.lender c.one_more.result) _ _ (set c)

pub returns-in-Some-clause-shown : goal.returns-in-Some-clause-shown
returns-in-Some-clause-shown c = counts-shown _ (c.get_mut.follows.lender c.one_more.result) _ _ (set c) c.requires.shown

pub returns-clause-counted : goal.returns-clause-counted
returns-clause-counted c = counts-one _ c.insert.new.self _ _ (inserted c)

pub returns-clause-shown : goal.returns-clause-shown
returns-clause-shown c = counts-shown c.args.tallies.now c.insert.new.self c.args.seen.now c.args.world (inserted c) c.requires.shown
