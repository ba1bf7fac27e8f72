-- The line of the code, the instructions, the outputs and the last line, one after the other.
use Rattle.std.proofs.Common.{ℕ, ◌/◌, List, length, codes, flat_map}
use Rattle.std.proofs.lemmas.Result.{on_ok_weaker, on_err_weaker}
use Rattle.mk_lines.specs.Words.{line}
use Rattle.mk_lines.specs.CodeLines.{out_lines}
use Rattle.mk_bundle.proofs.Sending.{four_sent, first_broken, second_broken, third_broken, last_broken, on_err}
use Rattle.mk_bundle.proofs.write.put_lower.Goals as goal

pub returns-in_err-put-clause-breaks : goal.returns-in_err-put-clause-breaks
returns-in_err-put-clause-breaks g c =
    let instrs : List ℕ = flat_map g.T.Spell.spelled c.args.instrs.now in
    let outs : List ℕ = out_lines c.args.shares (length c.args.outs.now / c.args.shares) c.args.outs.now in
    on_err c.from_residual.result (first_broken _ _ _ (line (codes "code")) instrs outs (line (codes "end")) c.in_err-put.ensures.breaks)

pub returns-in_err-put_all-clause-breaks : goal.returns-in_err-put_all-clause-breaks
returns-in_err-put_all-clause-breaks g c =
    let instrs : List ℕ = flat_map g.T.Spell.spelled c.args.instrs.now in
    let outs : List ℕ = out_lines c.args.shares (length c.args.outs.now / c.args.shares) c.args.outs.now in
    on_err c.from_residual-in_err-put_all.result (second_broken _ _ _ _ _ (line (codes "code")) instrs outs (line (codes "end")) c.in_ok-put.ensures.sends c.in_err-put_all.ensures.breaks)

pub returns-in_err-put_outs-clause-breaks : goal.returns-in_err-put_outs-clause-breaks
returns-in_err-put_outs-clause-breaks g c =
    let instrs : List ℕ = flat_map g.T.Spell.spelled c.args.instrs.now in
    let outs : List ℕ = out_lines c.args.shares (length c.args.outs.now / c.args.shares) c.args.outs.now in
    on_err c.from_residual-in_err-put_outs.result
    (third_broken _ _ _ _ _ _ _ (line (codes "code")) instrs outs (line (codes "end")) c.in_ok-put.ensures.sends c.in_ok-put_all.ensures.sends c.in_err-put_outs.ensures.breaks)

pub returns-clause-sends : goal.returns-clause-sends
returns-clause-sends g c =
    let instrs : List ℕ = flat_map g.T.Spell.spelled c.args.instrs.now in
    let outs : List ℕ = out_lines c.args.shares (length c.args.outs.now / c.args.shares) c.args.outs.now in
    on_ok_weaker c.put-2.result
    (λ sent. four_sent _ _ _ _ _ _ _ _ _ _ (line (codes "code")) instrs outs (line (codes "end")) c.in_ok-put.ensures.sends c.in_ok-put_all.ensures.sends c.in_ok-put_outs.ensures.sends sent)
    c.put-2.ensures.sends

pub returns-clause-breaks : goal.returns-clause-breaks
returns-clause-breaks g c =
    let instrs : List ℕ = flat_map g.T.Spell.spelled c.args.instrs.now in
    let outs : List ℕ = out_lines c.args.shares (length c.args.outs.now / c.args.shares) c.args.outs.now in
    on_err_weaker c.put-2.result
    (λ broken. last_broken _ _ _ _ _ _ _ _ _ (line (codes "code")) instrs outs (line (codes "end")) c.in_ok-put.ensures.sends c.in_ok-put_all.ensures.sends c.in_ok-put_outs.ensures.sends broken)
    c.put-2.ensures.breaks
