-- The text spells a program.
use Rattle.std.proofs.Common.{◌≡◌}
use Rattle.std.proofs.lemmas.Result.{IfOk-weaker}
use Rattle.mk_ast.specs.declared.tree.Program.{Program}
use Rattle.mk_gen.specs.Generated.{IsGenerated}
use Rattle.mk_gen.proofs.Spelled.{generated_program}
use Rattle.mk_gen.proofs.text.gen_text.Goals as goal

pub returns-clause-program : goal.returns-clause-program
returns-clause-program c =
    IfOk-weaker c.try_from_vec.result (λ list. list ≡ c.into_bytes.result.items) (λ list. (p : Program) × IsGenerated c.args.n p)
    (λ list same. generated_program c.args.n c.requires.few) c.try_from_vec.ensures.ok
