-- The encodings of elements are elements, and as many as there are shares.
use Rattle.std.proofs.Common.{rules, ◌≡◌, ◌+◌, ◌*◌, sym, ◌∙◌, subst}
use Rattle.std.proofs.lemmas.Result.{IfOk-weaker}
use Rattle.mk_field.specs.Field.{size}
use Rattle.mk_field.specs.Sharing.{encodings}
use Rattle.mk_code.specs.Counting.{Elements}
use Rattle.mk_run.proofs.Shares.{encodings-elements}
use Rattle.mk_run.proofs.encoding.encoded.Goals as goal

pub returns-clause-elements : goal.returns-clause-elements
returns-clause-elements c =
    let code = c.args.code.now in
    let same : c.push_all.new.shares.items ≡ encodings code.order c.args.secrets.now c.args.tape.now = search rules in
    IfOk-weaker c.try_from_vec.result (λ shares. shares ≡ c.push_all.new.shares.items) (Elements (size code.field) (code.secrets * (code.order + 1)))
    (λ shares e. subst (Elements (size code.field) (code.secrets * (code.order + 1))) (sym (e ∙ same))
    (encodings-elements code.field code.order code.secrets c.args.secrets.now c.args.tape.now c.requires.secrets c.requires.tape c.requires.enough))
    c.try_from_vec.ensures.ok
