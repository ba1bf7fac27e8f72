-- The generator's text is that of one program, which is compiled where it is small enough.
use Rattle.std.proofs.Common.{◌≤◌, List, [], ℕ, IfErr, Result, length, sym, subst, ◌∙◌}
use Rattle.std.proofs.lemmas.Result.{err_from_is_err_and}
use Rattle.mk_gen.specs.Generated.{generated}
use Rattle.mk_words.specs.Words.{Trial}
use Rattle.mk_top.specs.declared.fault.Fault.{Fault}
use Rattle.mk_top.specs.Sources.{IsSourceOf}
use Rattle.mk_top.specs.Running.{NotMade, NotTyped}
use Rattle.mk_top.proofs.Tried.{generated-within, trial-typed, trial-compiled}
use Rattle.mk_top.proofs.Allocated.{tries-made}
use Rattle.mk_top.proofs.trials.tried_text.Goals as goal

pub typed_source-requires : goal.typed_source-requires
typed_source-requires c =
    subst (λ (bytes : List ℕ). length bytes ≤ 1048576) (sym (c.as_slice.ensures.items ∙ c.in_ok-source.ensures.text)) (generated-within c.args.turns c.requires.turns.1)

pub returns-in_err-typed-clause-fault : goal.returns-in_err-typed-clause-fault
returns-in_err-typed-clause-fault c =
    let p = err_from_is_err_and c.from_residual-in_err-typed.result c.from_residual-in_err-typed.ensures.1 in
    let why : NotTyped (generated c.args.turns) c.in_err-typed.field-0.0 =
    subst (λ (bytes : List ℕ). NotTyped bytes c.in_err-typed.field-0.0) (c.as_slice.ensures.items ∙ c.in_ok-source.ensures.text) (c.in_err-typed.ensures).fault in
    subst (λ (r : Result (List ℕ) Fault). IfErr r (NotMade (Trial c.args.turns c.args.order) [])) (sym p.1)
    (subst (NotMade (Trial c.args.turns c.args.order) []) (sym p.2)
    (trial-typed c.args.turns c.args.order c.in_err-typed.field-0.0 c.requires.turns.1 why))

pub returns-in_err-bundle-clause-fault : goal.returns-in_err-bundle-clause-fault
returns-in_err-bundle-clause-fault c =
    let p = err_from_is_err_and c.from_residual-in_err-bundle.result c.from_residual-in_err-bundle.ensures.1 in
    let is : IsSourceOf (generated c.args.turns) c.in_ok-typed.typed =
    subst (λ (bytes : List ℕ). IsSourceOf bytes c.in_ok-typed.typed) (c.as_slice.ensures.items ∙ c.in_ok-source.ensures.text) (c.in_ok-typed.ensures).typed in
    subst (λ (r : Result (List ℕ) Fault). IfErr r (NotMade (Trial c.args.turns c.args.order) [])) (sym p.1)
    (subst (NotMade (Trial c.args.turns c.args.order) []) (sym p.2)
    (trial-compiled c.args.turns c.args.order c.in_ok-typed.typed c.in_err-bundle.field-0.0 c.requires.turns.1 is.spelled.spelled (c.in_err-bundle.ensures).cause))

pub returns-clause-tries : goal.returns-clause-tries
returns-clause-tries c =
    let is : IsSourceOf (generated c.args.turns) c.in_ok-typed.typed =
    subst (λ (bytes : List ℕ). IsSourceOf bytes c.in_ok-typed.typed) (c.as_slice.ensures.items ∙ c.in_ok-source.ensures.text) (c.in_ok-typed.ensures).typed in
    tries-made c.args.turns c.args.order c.in_ok-line_of_trial.field-0 c.in_ok-typed.typed c.in_ok-bundle.bundle.code c.in_ok-bundle.bundle.cert
    is (c.in_ok-bundle.ensures).within (c.in_ok-bundle.ensures).correct (c.in_ok-bundle.ensures).maps (c.in_ok-bundle.ensures).private
    (c.in_ok-bundle.ensures).certified (c.in_ok-bundle.ensures).different (c.in_ok-bundle.ensures).accepted
    (c.in_ok-bundle.ensures).pair c.in_ok-line_of_trial.ensures
