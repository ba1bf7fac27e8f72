-- The line of the next output is passed on; in the end no line and no number is left.
use Rattle.std.proofs.Common.{arith, ◌≡◌, ◌+◌, ◌-◌, ◌*◌, ◌/◌, ◌^◌, ◌≤◌, ◌<◌, ℕ, suc, List, [], ◌++◌, length, take, drop, length-drop, length-append, append-nil, append_assoc, ap, sym, ◌∙◌, subst}
use Rattle.std.specs.List.{AllByRecursion}
use Rattle.std.proofs.lemmas.List.{take-append-drop, length-take-le, nil_from_length}
use Rattle.std.proofs.Math.Nat.{mul-div_cancel, mul-le-mul}
use Rattle.mk_lines.specs.CodeLines.{out_line, out_lines}
use Rattle.mk_lines.proofs.ByLines.{All-append}
use Rattle.mk_bundle.specs.Passing.{Sends, Breaks}
use Rattle.mk_bundle.proofs.Appended.{out_lines-none, out_lines-more}
use Rattle.mk_bundle.proofs.Sending.{sends_more, breaks_later, breaks_sooner, on_err}
use Rattle.mk_bundle.proofs.write.put_outs.Goals as goal

-- one of so many is no more than all
more-than-none : (n k : ℕ) → n ≤ suc k * n
more-than-none n k = omega arith

pub returns-in_err-put-clause-breaks : goal.returns-in_err-put-clause-breaks
returns-in_err-put-clause-breaks g c =
    let shares = c.args.shares in
    let n : ℕ = length c.args.outs.now / shares in
    let left : ℕ = n - c.loop-output._output in
    let fewer : ℕ = n - (c.loop-output._output + 1) in
    let rest = c.loop-output.rest.now in
    let more : left ≡ suc fewer = omega arith in
    let first : List ℕ = out_line (take shares rest) in
    let others : List ℕ = out_lines shares fewer (drop shares rest) in
    let done = c.loop-output.invariant.sends in
    let whole : out_lines c.args.shares (length c.args.outs.now / c.args.shares) c.args.outs.now ≡ done.0 ++ first ++ others =
    sym done.2 ∙ ap (λ (l : List ℕ). done.0 ++ l) (out_lines-more shares left fewer rest more) ∙ sym (append_assoc done.0 first others) in
    let next : c.as_str.result.now ≡ first = c.as_str.ensures.value ∙ c.spell_out.ensures.text ∙ ap out_line c.split_at.ensures.front in
    let broken : Breaks (g.O.Sink.taken c.loop-output.out) c.loop-output.piece.bytes first (g.O.Sink.taken c.put.new.out) =
    subst (λ (w : List ℕ). Breaks (g.O.Sink.taken c.loop-output.out) c.loop-output.piece.bytes w (g.O.Sink.taken c.put.new.out)) next c.in_err-put.ensures.breaks in
    on_err c.from_residual.result
    (subst (λ (w : List ℕ). Breaks (g.O.Sink.taken c.args.out.now) c.args.piece.now.bytes w (g.O.Sink.taken c.put.new.out)) (sym whole)
    (breaks_sooner _ _ _ (done.0 ++ first) others (breaks_later _ _ _ _ _ done.0 first done.1 broken)))

pub loop-output-preserved : goal.loop-output-preserved
loop-output-preserved g c =
    let shares = c.args.shares in
    let n : ℕ = length c.args.outs.now / shares in
    let left : ℕ = n - c.loop-output._output in
    let fewer : ℕ = n - (c.loop-output._output + 1) in
    let rest = c.loop-output.rest.now in
    let more : left ≡ suc fewer = omega arith in
    let first : List ℕ = out_line (take shares rest) in
    let others : List ℕ = out_lines shares fewer (drop shares rest) in
    let done = c.loop-output.invariant.sends in
    let whole : done.0 ++ first ++ others ≡ out_lines c.args.shares (length c.args.outs.now / c.args.shares) c.args.outs.now =
    append_assoc done.0 first others ∙ ap (λ (l : List ℕ). done.0 ++ l) (sym (out_lines-more shares left fewer rest more)) ∙ done.2 in
    let next : c.as_str.result.now ≡ first = c.as_str.ensures.value ∙ c.spell_out.ensures.text ∙ ap out_line c.split_at.ensures.front in
    let sent : Sends (g.O.Sink.taken c.loop-output.out) c.loop-output.piece.bytes first (g.O.Sink.taken c.put.new.out) c.put.new.piece.bytes =
    subst (λ (w : List ℕ). Sends (g.O.Sink.taken c.loop-output.out) c.loop-output.piece.bytes w (g.O.Sink.taken c.put.new.out) c.put.new.piece.bytes) next c.in_ok-put.ensures.sends in
    let room : suc fewer * shares ≤ length rest = rw more at c.loop-output.invariant.room in
    let fit = c.loop-output.invariant.fits in
    let numbers : List ℕ = take shares rest in
    let small : AllByRecursion (λ n. n < 2 ^ 32) numbers = subst (AllByRecursion (λ n. n < 2 ^ 32)) c.split_at.ensures.front c.spell_out.ensures.fits in
    let enough : shares ≤ length rest = omega (arith, room, more-than-none shares fewer) in
    record {
      room = rw c.split_at.ensures.back (omega (arith, room, length-drop shares rest));
      sends = (done.0 ++ first, sends_more _ _ _ _ _ _ done.0 first done.1 sent, rw c.split_at.ensures.back whole);
      fits = (
        fit.0 ++ numbers,
        rw c.split_at.ensures.back (append_assoc fit.0 numbers (drop shares rest) ∙ ap (λ (l : List ℕ). fit.0 ++ l) (take-append-drop shares rest) ∙ fit.1),
        omega (arith, length-append fit.0 numbers, length-take-le shares rest enough, fit.2),
        All-append (λ n. n < 2 ^ 32) fit.0 numbers fit.3 small,
      );
      falls = omega (arith, c.loop-output.invariant.falls, c.put.ensures.never_falls);
    }

pub returns-clause-sends : goal.returns-clause-sends
returns-clause-sends g c =
    let n : ℕ = length c.args.outs.now / c.args.shares in
    let none : n - c.loop-output._output ≡ 0 = omega arith in
    let done = c.loop-output.invariant.sends in
    let whole : done.0 ≡ out_lines c.args.shares (length c.args.outs.now / c.args.shares) c.args.outs.now =
    sym (append-nil done.0) ∙ ap (λ (l : List ℕ). done.0 ++ l) (sym (out_lines-none c.args.shares _ c.loop-output.rest.now none)) ∙ done.2 in
    subst (λ (w : List ℕ). Sends (g.O.Sink.taken c.args.out.now) c.args.piece.now.bytes w (g.O.Sink.taken c.loop-output.out) c.loop-output.piece.bytes) whole done.1

pub returns-clause-fits : goal.returns-clause-fits
returns-clause-fits g c =
    let shares = c.args.shares in
    let outs = c.args.outs.now in
    let fit = c.loop-output.invariant.fits in
    let whole = c.requires.whole in
    let count : length outs / shares ≡ whole.0 = ap (λ (n : ℕ). n / shares) whole.1 ∙ mul-div_cancel whole.0 c.requires.some in
    let all : whole.0 ≤ c.loop-output._output = omega (arith, count) in
    let same : shares ≤ shares = omega arith in
    let parts : length outs ≡ length fit.0 + length c.loop-output.rest.now = sym (ap length fit.1) ∙ length-append fit.0 c.loop-output.rest.now in
    let none : c.loop-output.rest.now ≡ [] = nil_from_length c.loop-output.rest.now (omega (arith, parts, fit.2, whole.1, mul-le-mul all same)) in
    subst (AllByRecursion (λ n. n < 2 ^ 32)) (sym (append-nil fit.0) ∙ ap (λ (l : List ℕ). fit.0 ++ l) (sym none) ∙ fit.1) fit.3
