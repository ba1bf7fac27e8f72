-- The event that waits is answered first.
use Rattle.std.proofs.Common.{◌≡◌, ℕ, List, [], ◌∷◌, ◌++◌, None, sym, ap, subst, ◌∙◌, append-nil}
use Rattle.mk_bundle.specs.Noting.{refusal_in}
use Rattle.mk_bundle.specs.Reads.{Reader, Read}
use Rattle.mk_bundle.proofs.Coming.{comes_kept}
use Rattle.mk_bundle.proofs.Stepping.{reads_waiting, waiting_clean, not_last}
use Rattle.mk_bundle.proofs.Ending.{next_told}
use Rattle.mk_bundle.proofs.reader.BundleReader.next.Goals as goal

pub returns-in-Some-clause-next : goal.returns-in-Some-clause-next
returns-in-Some-clause-next g c = λ taken events r. (
    let e = c.in-Some.event in
    let waits = c.in-Some.ensures.some in
    let read : Read c.waited.new.self (taken ++ []) (events ++ e ∷ []) =
    subst (λ (l : List ℕ). Read c.waited.new.self l (events ++ e ∷ [])) (sym (append-nil taken)) (reads_waiting c.args.self.now c.waited.new.self e waits.0 waits.1 taken events r) in
    let both = waiting_clean c.args.self.now e taken events waits.0 r in
    let clean : refusal_in c.waited.new.self.noted.form ≡ None = ap (λ (x : Reader). refusal_in x.noted.form) waits.1 ∙ both.1 in
    next_told e c.waited.new.self taken [] events _ _ (comes_kept (g.S.Source.left c.args.src.now)) read clean (not_last e both.0))
