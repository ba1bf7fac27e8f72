-- The line is that of all bytes.
use Rattle.std.proofs.Common.{◌≡◌, ℕ, [], Some, subst, ◌∙◌}
use Rattle.mk_lines.specs.Lines.{NamesFirst}
use Rattle.mk_bundle.specs.Pairs.{IsBundleText}
use Rattle.mk_bundle.specs.declared.refusal.StreamRefusal.{StreamRefusal}
use Rattle.mk_bundle.specs.declared.refusal.StreamRefusal.TheVariants as refusals
use Rattle.mk_bundle.specs.Reads.{Denies}
use Rattle.mk_bundle.proofs.Ending.{all_came}
use Rattle.mk_bundle.proofs.read.read_bundle.Goals as goal

pub returns-in-Err-Form-clause-form : goal.returns-in-Err-Form-clause-form
returns-in-Err-Form-clause-form c = λ line e. (
    let same : c.in-Err-Form.line ≡ line = cc in
    let h : Denies (refusals.Form c.in-Err-Form.line) 268435456 [] (Some c.new-source.result) (Some c.collect_bundle.new.src) =
    subst (λ (r : StreamRefusal). Denies r 268435456 [] (Some c.new-source.result) (Some c.collect_bundle.new.src)) c.in-Err-Form.field-0-is c.in-Err-Form.ensures.collects in
    let all : h.came ≡ c.args.text.now = all_came c.new-source.result h.came _ h.comes h.end ∙ c.new-source.ensures in
    subst (λ (n : ℕ). NamesFirst IsBundleText n c.args.text.now) same (subst (NamesFirst IsBundleText c.in-Err-Form.line) all h.first))
