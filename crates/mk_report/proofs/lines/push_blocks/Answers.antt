-- One line more; in the end there is one for each block.
use Rattle.std.proofs.Common.{◌≡◌, ◌+◌, ◌++◌, ℕ, List, take, get_or, string_bytes, ap, subst, ◌∙◌, arith}
use Rattle.std.specs.List.{flat_map, enumerate_from}
use Rattle.std.proofs.lemmas.List.{take_all}
use Rattle.std.proofs.lemmas.List.FromFn.{length-enumerate_from}
use Rattle.mk_ssa.specs.declared.Op.{Op}
use Rattle.mk_ssa.specs.declared.Op.TheVariants.{Const}
use Rattle.mk_report.specs.Passing.{IsTold}
use Rattle.mk_report.specs.Report.{block_line}
use Rattle.mk_report.proofs.Texts.{line-more, rows-more}
use Rattle.mk_report.proofs.lines.push_blocks.Goals as goal

pub loop-block-preserved : goal.loop-block-preserved
loop-block-preserved c = λ places are.
    let k : ℕ = c.loop-block.block in
    let op : Op = get_or c.args.blocks.now k (Const 0) in
    let inputs : ℕ = c.args.code.now.secrets + c.args.code.now.publics in
    let at : c.secrets.result + c.publics.result + k ≡ inputs + k = omega (arith, c.secrets.ensures, c.publics.ensures) in
    line-more (λ row. block_line c.args.code.now.order row.0 row.1 (places (inputs + row.0)))
    (take k (enumerate_from 0 c.args.blocks.now)) (take (k + 1) (enumerate_from 0 c.args.blocks.now)) (k, op)
    (string_bytes c.args.text.now) (string_bytes c.loop-block.text) (string_bytes c.push_block.new.text)
    (rows-more c.args.blocks.now k (Const 0) c.loop-block-test.true) (c.loop-block.invariant places are)
    (c.in_ok-push_block.ensures (places (inputs + k)) (subst (λ (i : ℕ). IsTold (places i) c.told_of.result.now) at (c.told_of.ensures places are))
    ∙ ap (λ (order : ℕ). string_bytes c.loop-block.text ++ block_line order k op (places (inputs + k))) c.order.ensures)

pub returns : goal.returns
returns c = λ places are.
    let rows : List (ℕ × Op) = enumerate_from 0 c.args.blocks.now in
    let inputs : ℕ = c.args.code.now.secrets + c.args.code.now.publics in
    c.loop-block.invariant places are
    ∙ ap (λ (done : List (ℕ × Op)). string_bytes c.args.text.now
    ++ flat_map (λ row. block_line c.args.code.now.order row.0 row.1 (places (inputs + row.0))) done)
    (take_all c.loop-block.block rows (omega (arith, length-enumerate_from 0 c.args.blocks.now, c.loop-block-test.false)))
