-- One more declaration, with its outputs or none.
use Rattle.std.proofs.Common.{◌++◌, [], Some, take, if◌then◌else◌, ap, ◌∙◌}
use Rattle.mk_types.specs.Elements.{is_output_class}
use Rattle.mk_types.specs.Environment.{output_elements}
use Rattle.mk_types.specs.Scope.{is_variable}
use Rattle.mk_unroll.proofs.FirstOperands.{outs_more}
use Rattle.mk_unroll.proofs.outputs.outputs.Goals as goal

pub loop-number-preserved : goal.loop-number-preserved
loop-number-preserved c =
    let ds = c.args.decls.now in
    let env = c.args.variables.now in
    let i = c.loop-number.number in
    let d = c.index-decls-number.result in
    let test = is_variable is_output_class (Some d.what) in
    c.in_ok-push_output.ensures
    ∙ ap (λ outs. outs ++ (if test then c.variable.result.now else [])) c.loop-number.invariant
    ∙ ap (λ v. output_elements (take i ds) (take i env) ++ (if test then v else [])) c.variable.ensures
    ∙ outs_more ds env i d c.requires c.loop-number-test.true c.index-decls-number.is
