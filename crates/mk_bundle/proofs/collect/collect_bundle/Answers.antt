-- The events so far are gathered, up to the last one.
use Rattle.std.proofs.Common.{◌≡◌, ℕ, true, [], ◌∷◌, ◌++◌, Result, Err, sym, ap, subst, ◌∙◌, arith}
use Rattle.std.proofs.lemmas.Result.{err_from_is_err_and}
use Rattle.mk_code.specs.Listing.{Listing, IsListing}
use Rattle.mk_rules.specs.Claimed.{Claimed}
use Rattle.mk_rules.specs.declared.cert.Bundle.{Bundle}
use Rattle.mk_bundle.specs.Pairs.{IsBundleOf}
use Rattle.mk_bundle.specs.declared.event.Event.TheVariants as event
use Rattle.mk_bundle.specs.declared.refusal.StreamRefusal.{StreamRefusal}
use Rattle.mk_bundle.specs.Reads.{Denies, Collects}
use Rattle.mk_bundle.specs.Gathering.{Gathered, gathered_of, gather, nothing}
use Rattle.mk_bundle.proofs.Coming.{comes_kept, comes_more, end_from}
use Rattle.mk_bundle.proofs.Ending.{bundle_listing, denies_later, last_completes}
use Rattle.mk_bundle.proofs.Gathering.{gather_none, gather_more, gather_pair}
use Rattle.mk_bundle.proofs.collect.collect_bundle.Goals as goal

pub loop-parts-init : goal.loop-parts-init
loop-parts-init g c = record {
  going = c.in_ok-reader.ensures.going;
  limit = c.in_ok-reader.ensures.limit;
  read = ([], [], comes_kept (g.S.Source.left c.args.src.now), c.in_ok-reader.ensures.read, c.no_parts-parts.ensures ∙ sym (gather_none nothing));
  falls = omega arith;
}

pub returns-in_err-next-clause-collects : goal.returns-in_err-next-clause-collects
returns-in_err-next-clause-collects g c =
    let so = c.loop-parts.invariant.read in
    let p = err_from_is_err_and c.from_residual-in_err-next.result c.from_residual-in_err-next.ensures.1 in
    let refusal = c.in_err-next.field-0.0 in
    let limit : c.next.new.self.limit ≡ c.args.limit = c.next.ensures.limit ∙ c.loop-parts.invariant.limit in
    let denied : Denies refusal c.args.limit [] (g.S.Source.left c.args.src.now) (g.S.Source.left c.next.new.src) =
    subst (λ (n : ℕ). Denies refusal n [] (g.S.Source.left c.args.src.now) (g.S.Source.left c.next.new.src)) limit
    (denies_later refusal c.next.new.self.limit [] so.0 _ _ _ so.2 (c.in_err-next.ensures.next so.0 so.1 so.3)) in
    subst (λ (r : Result Bundle StreamRefusal). Collects r c.args.limit (g.S.Source.left c.args.src.now) (g.S.Source.left c.next.new.src)) (sym (p.1 ∙ ap Err p.2)) denied

pub bundle_of-requires : goal.bundle_of-requires
bundle_of-requires g c =
    let so = c.loop-parts.invariant.read in
    let h = c.in_ok-next.ensures.next so.0 so.1 so.3 in
    let done = last_completes c.in_ok-next.next c.next.new.self so.0 so.1 _ _ (c.is_last.ensures.0 c.if-is_last.true) h in
    let same = gather_pair done.code done.cert so.1 (gathered_of c.loop-parts.parts) (bundle_listing (so.0 ++ h.came) done.code done.cert done.text) done.gave so.4 in
    subst IsListing (sym same.0) (bundle_listing (so.0 ++ h.came) done.code done.cert done.text)

pub returns-then-is_last-clause-collects : goal.returns-then-is_last-clause-collects
returns-then-is_last-clause-collects g c =
    let so = c.loop-parts.invariant.read in
    let h = c.in_ok-next.ensures.next so.0 so.1 so.3 in
    let done = last_completes c.in_ok-next.next c.next.new.self so.0 so.1 _ _ (c.is_last.ensures.0 c.if-is_last.true) h in
    let same = gather_pair done.code done.cert so.1 (gathered_of c.loop-parts.parts) (bundle_listing (so.0 ++ h.came) done.code done.cert done.text) done.gave so.4 in
    let code : c.bundle_of.result.code ≡ done.code = c.bundle_of.ensures.code ∙ same.0 in
    let cert : c.bundle_of.result.cert ≡ done.cert = c.bundle_of.ensures.cert ∙ same.1 in
    let limit : c.next.new.self.limit ≡ c.args.limit = c.next.ensures.limit ∙ c.loop-parts.invariant.limit in record {
      came = so.0 ++ h.came;
      comes = comes_more _ _ _ so.0 h.came so.2 h.comes;
      within = omega (arith, h.read.count, h.read.within, limit);
      text = subst (λ (x : Listing). IsBundleOf (so.0 ++ h.came) x c.bundle_of.result.cert) (sym code) (subst (λ (x : Claimed). IsBundleOf (so.0 ++ h.came) done.code x) (sym cert) done.text);
      end = end_from _ _ _ so.0 so.2 done.end;
    }

pub loop-parts-preserved : goal.loop-parts-preserved
loop-parts-preserved g c =
    let so = c.loop-parts.invariant.read in
    let e = c.in_ok-next.next in
    let h = c.in_ok-next.ensures.next so.0 so.1 so.3 in
    let other : e ≡ event.End → ⊥ = λ last. (let yes : c.is_last.result ≡ true = c.is_last.ensures.1 last in absurd (cc (yes, c.if-is_last.false))) in record {
      going = c.in_ok-next.ensures.going other;
      limit = c.next.ensures.limit ∙ c.loop-parts.invariant.limit;
      read = (
        so.0 ++ h.came,
        so.1 ++ e ∷ [],
        comes_more _ _ _ so.0 h.came so.2 h.comes,
        h.read,
        c.in_ok-gather.ensures ∙ ap (λ (x : Gathered). gather x e) so.4 ∙ sym (gather_more nothing so.1 e),
      );
      falls = omega (arith, c.loop-parts.invariant.falls, c.next.ensures.never_falls);
    }
