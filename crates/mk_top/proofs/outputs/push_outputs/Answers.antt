-- One more output, with the next shares; in the end no line is left.
use Rattle.std.proofs.Common.{arith, ◌≡◌, ◌+◌, ◌-◌, ◌*◌, ◌/◌, ◌≤◌, ℕ, suc, [], ◌++◌, length, take, string_bytes, length-drop, append-nil}
use Rattle.mk_bundle.proofs.Appended.{line_moved}
use Rattle.mk_top.specs.Runs.{output_line, output_lines}
use Rattle.mk_top.proofs.Lines.{output_lines-none, output_lines-more}
use Rattle.mk_top.proofs.outputs.push_outputs.Goals as goal

pub loop-number-preserved : goal.loop-number-preserved
loop-number-preserved c =
    let count = c.args.count in
    let number = c.loop-number.number in
    let left : ℕ = length c.args.shares.now / count - number in
    let fewer : ℕ = length c.args.shares.now / count - (number + 1) in
    let rest = c.loop-number.rest.now in
    let more : left ≡ suc fewer = omega arith in
    let room : suc fewer * count ≤ length rest = rw more at c.loop-number.invariant.room in
    let pushed : string_bytes c.push_output.new.text ≡ string_bytes c.loop-number.text ++ output_line number (take count rest) =
    rw c.split_at.ensures.front at c.in_ok-push_output.ensures in
    record {
      room = rw c.split_at.ensures.back (omega (arith, room, length-drop count rest));
      text = rw c.split_at.ensures.back (line_moved _ _ (output_line number (take count rest)) _ _ _ pushed (output_lines-more count number left fewer rest more) c.loop-number.invariant.text);
    }

pub returns : goal.returns
returns c =
    let n = length c.args.shares.now / c.args.count in
    let none : n - c.loop-number.number ≡ 0 = omega arith in
    let last : output_lines c.args.count c.loop-number.number (n - c.loop-number.number) c.loop-number.rest.now ≡ [] = output_lines-none _ _ _ _ none in
    rw (last, append-nil) at c.loop-number.invariant.text
