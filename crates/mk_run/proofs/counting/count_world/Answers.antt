-- One tape after the other.
use Rattle.std.proofs.Common.{rules, arith, ◌≡◌, ◌+◌, ℕ, List, length, sym, ap, ◌∙◌, subst, refl, slice_index}
use Rattle.std.proofs.lemmas.List.{length-map}
use Rattle.mk_field.specs.Field.{size}
use Rattle.mk_code.specs.Counting.{AllBelow, Elements, one_if_equal}
use Rattle.mk_code.specs.Listing.{Listing, trace_len}
use Rattle.mk_code.specs.Private.{observation, masked_trace}
use Rattle.mk_field.proofs.Sum.{zero-element}
use Rattle.mk_run.specs.Refusals.{tapes, tape_len}
use Rattle.mk_run.specs.Tally.{more, number, tally_of}
use Rattle.mk_run.specs.Tapes.{numbered}
use Rattle.mk_run.proofs.Numbers.{numbered-elements, tape-of, seen-of, shown_by, shown-all, shown-le, shown-next, shown-none}
use Rattle.mk_run.proofs.Tallying.{no-more, more-more, number-more}
use Rattle.mk_run.proofs.counting.count_world.Goals as goal

-- the tape that is written
tape-written : (c : goal.After-deref) → c.deref.result.now ≡ numbered (size c.args.runner.now.code.field) (tape_len c.args.runner.now.code) c.loop-number.number
tape-written c =
    let l = c.loop-number in
    c.deref.ensures.value
    ∙ tape-of c.args.runner.now.code c.field-field.result l.number l.tape.len l.tape.items c.deref_mut.result.now c.write_tape.new.tape
    (search rules) l.invariant.2 c.deref_mut.ensures.value (search rules) c.write_tape.ensures

pub loop-number-init : goal.loop-number-init
loop-number-init c =
    let tape : length c.in_ok-tape.tape.items ≡ tape_len c.args.runner.now.code = search (rules, c.tape_len_of.ensures) in
    let seen : length c.in_ok-seen.seen.items ≡ length c.args.probes.now = search rules in (
      refl,
      refl,
      tape,
      seen,
      λ tuple. sym (no-more c.args.world (tally_of c.args.tallies.now tuple)) ∙ ap (λ (n : ℕ). more c.args.world n (tally_of c.args.tallies.now tuple)) (sym (shown-none c.args.runner.now.code c.args.runner.now.publics c.args.secrets.now c.args.probes.now tuple)),
      c.requires.shown,
    )

pub run-requires-clause-tape : goal.run-requires-clause-tape
run-requires-clause-tape c =
    let code = c.args.runner.now.code in
    subst (λ (l : Listing). Elements (size l.field) (tape_len l) c.deref.result.now) (sym c.loop-number.invariant.0)
    (subst (Elements (size code.field) (tape_len code)) (sym (tape-written c)) (numbered-elements (size code.field) (tape_len code) c.loop-number.number (zero-element code.field)))

pub observe-requires-clause-probes : goal.observe-requires-clause-probes
observe-requires-clause-probes c =
    let code = c.args.runner.now.code in
    let long : length c.trace.result.now ≡ trace_len code = ap length c.trace.ensures ∙ c.run.ensures.whole ∙ ap (λ (l : Listing). trace_len l) c.loop-number.invariant.0 in
    subst (λ (n : ℕ). AllBelow n c.args.probes.now) (sym long) c.requires.probes

pub add-requires-clause-fits : goal.add-requires-clause-fits
add-requires-clause-fits c =
    let l = c.loop-number in
    let code = c.args.runner.now.code in
    let tuple = c.deref-in-loop-number.result.now in
    let so_far = shown_by code c.args.runner.now.publics c.args.secrets.now c.args.probes.now l.number tuple in
    let old = tally_of c.args.tallies.now tuple in
    let same : number c.args.world (tally_of l.tallies tuple) ≡ number c.args.world old + so_far =
    ap (number c.args.world) (l.invariant.4 tuple) ∙ number-more c.args.world so_far old in
    omega (arith, same, c.requires.fresh tuple, shown-le code c.args.runner.now.publics c.args.secrets.now c.args.probes.now l.number tuple, c.loop-number-test.true, c.requires.few)

pub loop-number-preserved : goal.loop-number-preserved
loop-number-preserved c =
    let l = c.loop-number in
    let code = c.args.runner.now.code in
    let publics = c.args.runner.now.publics in
    let secrets = c.args.secrets.now in
    let probes = c.args.probes.now in
    let tape : c.deref.result.now ≡ numbered (size code.field) (tape_len code) l.number =
    c.deref.ensures.value
    ∙ tape-of code c.field-field.result l.number l.tape.len l.tape.items c.deref_mut.result.now c.write_tape.new.tape (search rules) l.invariant.2 c.deref_mut.ensures.value (search rules) c.write_tape.ensures in
    let trace : c.trace.result.now ≡ masked_trace code publics secrets (numbered (size code.field) (tape_len code) l.number) =
    c.trace.ensures ∙ c.run.ensures.trace
    ∙ ap (λ (l : Listing). masked_trace l c.loop-number.runner.publics secrets c.deref.result.now) l.invariant.0
    ∙ ap (λ (xs : List ℕ). masked_trace code xs secrets c.deref.result.now) l.invariant.1
    ∙ ap (masked_trace code publics secrets) tape in
    let seen : c.deref-in-loop-number.result.now ≡ observation probes (masked_trace code publics secrets (numbered (size code.field) (tape_len code) l.number)) =
    c.deref-in-loop-number.ensures.value ∙ seen-of probes c.trace.result.now l.seen.items c.observe.new.seen l.seen.len l.invariant.3 (search rules) c.observe.ensures ∙ ap (observation probes) trace in
    let step : (tuple : List ℕ) → tally_of c.add.new.tallies tuple ≡ more c.args.world (shown_by code publics secrets probes (l.number + 1) tuple) (tally_of c.args.tallies.now tuple) =
    λ tuple.
    let old = tally_of c.args.tallies.now tuple in
    let so_far = shown_by code publics secrets probes l.number tuple in
    let one = one_if_equal (observation probes (masked_trace code publics secrets (numbered (size code.field) (tape_len code) l.number))) tuple in
    c.in_ok-add.ensures.counted tuple
    ∙ ap (λ (xs : List ℕ). more c.args.world (one_if_equal xs tuple) (tally_of l.tallies tuple)) seen
    ∙ ap (more c.args.world one) (l.invariant.4 tuple)
    ∙ more-more c.args.world so_far one old
    ∙ sym (ap (λ (n : ℕ). more c.args.world n old) (shown-next code publics secrets probes l.number tuple)) in (
      c.run.ensures.code ∙ l.invariant.0,
      c.run.ensures.publics ∙ l.invariant.1,
      ap length (sym c.deref.ensures.value ∙ tape) ∙ (numbered-elements (size code.field) (tape_len code) l.number (zero-element code.field)).count,
      ap length (sym c.deref-in-loop-number.ensures.value ∙ seen) ∙ length-map probes (λ p. slice_index (masked_trace code publics secrets (numbered (size code.field) (tape_len code) l.number)) p),
      step,
      c.in_ok-add.ensures.shown,
    )

pub returns-clause-counted : goal.returns-clause-counted
returns-clause-counted c = λ tuple.
    let l = c.loop-number in
    let all : l.number ≡ tapes c.args.runner.now.code = search (rules, c.requires.count) in
    l.invariant.4 tuple
    ∙ ap (λ (n : ℕ). more c.args.world (shown_by c.args.runner.now.code c.args.runner.now.publics c.args.secrets.now c.args.probes.now n tuple) (tally_of c.args.tallies.now tuple)) all
    ∙ sym (ap (λ (n : ℕ). more c.args.world n (tally_of c.args.tallies.now tuple)) (shown-all c.args.runner.now.code c.args.runner.now.publics c.args.secrets.now c.args.probes.now tuple))
