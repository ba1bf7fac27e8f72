-- Each part is the decimal of the next probe.
use Rattle.std.proofs.Common.{◌≢◌, ◌<◌, ◌^◌, length, take, sym, ap, ◌∙◌, arith, rules, tests}
use Rattle.std.specs.Prelude.{codes, ◌==◌}
use Rattle.std.proofs.lemmas.List.{length_push}
use Rattle.std.proofs.lemmas.Iterator.Consumers.{YieldsList-at, YieldsList-turn, YieldsList-end}
use Rattle.std.proofs.lemmas.Iterator.Splits.{YieldsList-from_slice_split}
use Rattle.mk_words.proofs.Commands.{other-word}
use Rattle.mk_words.proofs.Decimals.{part-is, one-more, all-read}
use Rattle.mk_words.proofs.numbers.probes_of.Goals as goal

pub loop-part-preserved : goal.loop-part-preserved
loop-part-preserved c =
    let other : c.args.word.now ≢ codes "-" = λ e. other-word _ _ (sym c.eq.ensures ∙ c.if-eq.false) (e ∙ sym c.as_slice.ensures) in
    let turn = YieldsList-turn
    (YieldsList-at c.into_iter-part-iterator.ensures.into_iter_gives
    (YieldsList-from_slice_split _ (λ b. b == 44) c.args.word.now c.split-part-items.ensures.rest c.split-part-items.ensures.done c.split-part-items.ensures.closure (λ x r q k. search (rules, tests))))
    c.loop-part.yielded _ c.loop-part.yielded_by _ _ c.in-Some.part c.in-Some.is c.next.ensures.steps in
    let small : c.in-Some-number_of.probe < 2 ^ 32 = omega arith in
    record {
      can = search rules;
      finite = search rules;
      first = λ ps says.
          (c.in_ok-push-in-Some-number_of.ensures).ok
          ∙ one-more c.args.word.now ps c.loop-part.probes (length c.loop-part.yielded) c.in-Some-number_of.probe c.in-Some.part.now other says turn.0 turn.1
          (c.in-Some-number_of.ensures).found small (c.loop-part.invariant.first ps says)
          ∙ ap (λ n. take n ps) (sym (length_push c.loop-part.yielded c.in-Some.part));
    }

pub unreachable-requires : goal.unreachable-requires
unreachable-requires c =
    let other : c.args.word.now ≢ codes "-" = λ e. other-word _ _ (sym c.eq.ensures ∙ c.if-eq.false) (e ∙ sym c.as_slice.ensures) in
    let turn = YieldsList-turn
    (YieldsList-at c.into_iter-part-iterator.ensures.into_iter_gives
    (YieldsList-from_slice_split _ (λ b. b == 44) c.args.word.now c.split-part-items.ensures.rest c.split-part-items.ensures.done c.split-part-items.ensures.closure (λ x r q k. search (rules, tests))))
    c.loop-part.yielded _ c.loop-part.yielded_by _ _ c.in-Some.part c.in-Some.is c.next.ensures.steps in
    let is = part-is c.args.word.now c.requires.probes.0 (length c.loop-part.yielded) c.in-Some.part.now other c.requires.probes.1 turn.0 turn.1 in
    (c.in-None-number_of.ensures).none _ is.2 is.1

pub returns : goal.returns
returns c =
    let other : c.args.word.now ≢ codes "-" = λ e. other-word _ _ (sym c.eq.ensures ∙ c.if-eq.false) (e ∙ sym c.as_slice.ensures) in
    let end = YieldsList-end
    (YieldsList-at c.into_iter-part-iterator.ensures.into_iter_gives
    (YieldsList-from_slice_split _ (λ b. b == 44) c.args.word.now c.split-part-items.ensures.rest c.split-part-items.ensures.done c.split-part-items.ensures.closure (λ x r q k. search (rules, tests))))
    c.loop-part.yielded _ c.loop-part.yielded_by _ _ c.in-None.is c.next.ensures.steps in
    all-read c.args.word.now c.requires.probes.0 c.loop-part.probes (length c.loop-part.yielded) other c.requires.probes.1 end.1 (c.loop-part.invariant.first c.requires.probes.0 c.requires.probes.1)
