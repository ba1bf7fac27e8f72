-- What stands behind the last line is refused; nothing stands there at the end.
use Rattle.std.proofs.Common.{◌≡◌, ℕ, ◌≤◌, List, [], ◌++◌, length, Result, refl, sym, ap, subst, ◌∙◌, arith, length-append}
use Rattle.std.proofs.lemmas.List.{append-nil, nil_from_length}
use Rattle.mk_bundle.specs.Taking.{Comes}
use Rattle.mk_bundle.specs.declared.draft.Stage.TheVariants.{Ended}
use Rattle.mk_bundle.specs.declared.event.Event.{Event}
use Rattle.mk_bundle.specs.declared.refusal.StreamRefusal.{StreamRefusal}
use Rattle.mk_bundle.specs.Noting.{refusal_in}
use Rattle.mk_bundle.specs.Reads.{Reader, Read}
use Rattle.mk_bundle.specs.Stepping.{Ending, end_of}
use Rattle.mk_bundle.proofs.Coming.{end_kept}
use Rattle.mk_bundle.proofs.Ending.{reads_more, wrong_behind, ending_whole, ending_refused, ending_later}
use Rattle.mk_bundle.proofs.reader.BundleReader.finish.Goals as goal

pub returns-then-held-gt0-clause-finishes : goal.returns-then-held-gt0-clause-finishes
returns-then-held-gt0-clause-finishes g c = λ taken events r. (
    let some : 1 ≤ length c.args.self.now.pending = omega (arith, c.held.ensures, c.if-held-gt0.true) in
    ending_refused c.refuse.result c.args.self.now c.refuse.new.self _ _ taken events c.refuse.ensures.refused c.refuse.ensures.limit (wrong_behind c.args.self.now taken events r c.requires.ended some) r.count)

pub returns-then-count-gt0-clause-finishes : goal.returns-then-count-gt0-clause-finishes
returns-then-count-gt0-clause-finishes g c = λ taken events r. (
    let grown = c.in_ok-count.ensures.grows in
    let mid = c.fill.new.self in
    let read : Read mid (taken ++ grown.came) events = reads_more c.args.self.now mid c.in_ok-count.count _ _ taken events c.requires.waiting grown r in
    let ended : mid.noted.seen.stage ≡ Ended = ap (λ (x : Reader). x.noted.seen.stage) grown.held ∙ c.requires.ended in
    let some : 1 ≤ length mid.pending = omega (arith, ap (λ (x : Reader). length x.pending) grown.held, length-append c.args.self.now.pending grown.came, grown.number, c.if-count-gt0.true) in
    ending_later c.refuse-then-count-gt0.result mid c.refuse-then-count-gt0.new.self _ _ _ taken grown.came events grown.comes c.refuse-then-count-gt0.ensures.refused c.refuse-then-count-gt0.ensures.limit
    (wrong_behind mid (taken ++ grown.came) events read ended some) read.count)

pub returns-clause-finishes : goal.returns-clause-finishes
returns-clause-finishes g c = λ taken events r. (
    let grown = c.in_ok-count.ensures.grows in
    let mid = c.fill.new.self in
    let zero : c.in_ok-count.count ≡ 0 = omega (arith, c.if-count-gt0.false) in
    let nothing : grown.came ≡ [] = nil_from_length grown.came (omega (arith, grown.number, zero)) in
    let held : c.args.self.now.pending ≡ [] = nil_from_length c.args.self.now.pending (omega (arith, c.held.ensures, c.if-held-gt0.false)) in
    let comes : Comes [] (g.S.Source.left c.args.src.now) (g.S.Source.left c.fill.new.src) = subst (λ (l : List ℕ). Comes l (g.S.Source.left c.args.src.now) (g.S.Source.left c.fill.new.src)) nothing grown.comes in
    let read : Read mid (taken ++ []) events = subst (λ (l : List ℕ). Read mid (taken ++ l) events) nothing (reads_more c.args.self.now mid c.in_ok-count.count _ _ taken events c.requires.waiting grown r) in
    let now : Read mid taken events = subst (λ (l : List ℕ). Read mid l events) (append-nil taken) read in
    let same : mid.noted ≡ c.args.self.now.noted = ap (λ (x : Reader). x.noted) grown.held in
    let limit : mid.limit ≡ c.args.self.now.limit = ap (λ (x : Reader). x.limit) grown.held in
    let ends = ending_whole (refusal_in c.args.self.now.noted.form) c.args.self.now mid _ _ taken events refl r now same limit c.requires.waiting c.requires.ended held comes (end_kept _ _ (grown.end zero) comes) in
    subst (λ (res : Result Event StreamRefusal). Ending res mid taken events (g.S.Source.left c.args.src.now) (g.S.Source.left c.fill.new.src))
    (ap (λ (x : Reader). end_of (refusal_in x.noted.form)) (sym grown.held) ∙ sym c.end.ensures) ends)
