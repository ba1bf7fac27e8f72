-- The tallies have the numbers of ways in both worlds.
use Rattle.std.proofs.Common.{◌∙◌}
use Rattle.std.proofs.lemmas.Result.{IfOk-weaker}
use Rattle.mk_code.specs.Private.{ways}
use Rattle.mk_run.specs.Table.{IsTable}
use Rattle.mk_run.specs.Tally.{tally_of}
use Rattle.mk_run.proofs.Rows.{same-table}
use Rattle.mk_run.proofs.Worlds.{tallied}
use Rattle.mk_run.proofs.counting.tabulated.Goals as goal

pub returns : goal.returns
returns c =
    let code = c.args.code.now in
    let publics = c.args.publics.now in
    let first = c.args.first.now in
    let second = c.args.second.now in
    let probes = c.args.probes.now in
    let one = c.in_ok-count_world.ensures in
    let two = c.in_ok-count_world-2.ensures in
    let start = c.in_ok-runner.ensures in
    let last = c.count_world-2.new.tallies in
    let both = tallied code c.in_ok-runner.runner.code c.count_world.new.runner.code publics c.in_ok-runner.runner.publics c.count_world.new.runner.publics first second probes
    c.new-tallies.result c.count_world.new.tallies last
    start.code start.publics (one.code ∙ start.code) (one.publics ∙ start.publics) c.new-tallies.ensures.empty one.counted two.counted in
    IfOk-weaker c.rows_of.result (IsTable (λ tuple. (tally_of last tuple).first) (λ tuple. (tally_of last tuple).second))
    (IsTable (ways code publics first probes) (ways code publics second probes))
    (λ rows table. same-table (λ tuple. (tally_of last tuple).first) (λ tuple. (tally_of last tuple).second) (ways code publics first probes) (ways code publics second probes) rows
    (λ tuple. (both tuple).0) (λ tuple. (both tuple).1) table)
    c.rows_of.ensures
