-- The first lines, the maps and the number of registers, one after the other.
use Rattle.std.proofs.Common.{◌≡◌, ℕ, List, flat_map, codes, ap, ◌∙◌, subst}
use Rattle.std.proofs.lemmas.Result.{on_ok_weaker, on_err_weaker}
use Rattle.mk_lines.specs.CodeLines.{map_line}
use Rattle.mk_bundle.specs.Text.{number_line, first_lines}
use Rattle.mk_bundle.specs.Passing.{Sends, Breaks}
use Rattle.mk_bundle.proofs.Sending.{three_sent, first_of_three_broken, second_of_three_broken, third_of_three_broken, on_err}
use Rattle.mk_bundle.proofs.write.put_register_front.Goals as goal

pub returns-in_err-put-clause-breaks : goal.returns-in_err-put-clause-breaks
returns-in_err-put-clause-breaks g c =
    let r = c.args.r.now in
    let first : List ℕ = first_lines (codes "mask 2") r.field r.order r.secrets r.publics in
    let count : List ℕ = number_line (codes "registers") r.registers in
    let head : c.as_str.result.now ≡ first = c.as_str.ensures.value ∙ c.spell_register_head.ensures in
    on_err c.from_residual.result (first_of_three_broken _ _ _ first (flat_map map_line r.maps) count
    (subst (λ (w : List ℕ). Breaks (g.O.Sink.taken c.args.out.now) c.args.piece.now.bytes w (g.O.Sink.taken c.put.new.out)) head c.in_err-put.ensures.breaks))

pub returns-in_err-put_all-clause-breaks : goal.returns-in_err-put_all-clause-breaks
returns-in_err-put_all-clause-breaks g c =
    let r = c.args.r.now in
    let first : List ℕ = first_lines (codes "mask 2") r.field r.order r.secrets r.publics in
    let count : List ℕ = number_line (codes "registers") r.registers in
    let head : c.as_str.result.now ≡ first = c.as_str.ensures.value ∙ c.spell_register_head.ensures in
    let maps : c.as_slice.result.now ≡ r.maps = c.as_slice.ensures.items ∙ c.maps.ensures in
    on_err c.from_residual-in_err-put_all.result (second_of_three_broken _ _ _ _ _ first (flat_map map_line r.maps) count
    (subst (λ (w : List ℕ). Sends (g.O.Sink.taken c.args.out.now) c.args.piece.now.bytes w (g.O.Sink.taken c.put.new.out) c.put.new.piece.bytes) head c.in_ok-put.ensures.sends)
    (subst (λ w. Breaks (g.O.Sink.taken c.put.new.out) c.put.new.piece.bytes (flat_map map_line w) (g.O.Sink.taken c.put_all.new.out)) maps c.in_err-put_all.ensures.breaks))

pub returns-clause-sends : goal.returns-clause-sends
returns-clause-sends g c =
    let r = c.args.r.now in
    let first : List ℕ = first_lines (codes "mask 2") r.field r.order r.secrets r.publics in
    let count : List ℕ = number_line (codes "registers") r.registers in
    let head : c.as_str.result.now ≡ first = c.as_str.ensures.value ∙ c.spell_register_head.ensures in
    let maps : c.as_slice.result.now ≡ r.maps = c.as_slice.ensures.items ∙ c.maps.ensures in
    let number : c.as_str-2.result.now ≡ count = c.as_str-2.ensures.value ∙ c.spell_registers.ensures ∙ ap (number_line (codes "registers")) c.registers.ensures in
    on_ok_weaker c.put-2.result (λ sent. three_sent _ _ _ _ _ _ _ _ first (flat_map map_line r.maps) count
    (subst (λ (w : List ℕ). Sends (g.O.Sink.taken c.args.out.now) c.args.piece.now.bytes w (g.O.Sink.taken c.put.new.out) c.put.new.piece.bytes) head c.in_ok-put.ensures.sends)
    (subst (λ w. Sends (g.O.Sink.taken c.put.new.out) c.put.new.piece.bytes (flat_map map_line w) (g.O.Sink.taken c.put_all.new.out) c.put_all.new.piece.bytes) maps c.in_ok-put_all.ensures.sends)
    (subst (λ (w : List ℕ). Sends (g.O.Sink.taken c.put_all.new.out) c.put_all.new.piece.bytes w (g.O.Sink.taken c.put-2.new.out) c.put-2.new.piece.bytes) number sent))
    c.put-2.ensures.sends

pub returns-clause-breaks : goal.returns-clause-breaks
returns-clause-breaks g c =
    let r = c.args.r.now in
    let first : List ℕ = first_lines (codes "mask 2") r.field r.order r.secrets r.publics in
    let count : List ℕ = number_line (codes "registers") r.registers in
    let head : c.as_str.result.now ≡ first = c.as_str.ensures.value ∙ c.spell_register_head.ensures in
    let maps : c.as_slice.result.now ≡ r.maps = c.as_slice.ensures.items ∙ c.maps.ensures in
    let number : c.as_str-2.result.now ≡ count = c.as_str-2.ensures.value ∙ c.spell_registers.ensures ∙ ap (number_line (codes "registers")) c.registers.ensures in
    on_err_weaker c.put-2.result (λ broken. third_of_three_broken _ _ _ _ _ _ _ first (flat_map map_line r.maps) count
    (subst (λ (w : List ℕ). Sends (g.O.Sink.taken c.args.out.now) c.args.piece.now.bytes w (g.O.Sink.taken c.put.new.out) c.put.new.piece.bytes) head c.in_ok-put.ensures.sends)
    (subst (λ w. Sends (g.O.Sink.taken c.put.new.out) c.put.new.piece.bytes (flat_map map_line w) (g.O.Sink.taken c.put_all.new.out) c.put_all.new.piece.bytes) maps c.in_ok-put_all.ensures.sends)
    (subst (λ (w : List ℕ). Breaks (g.O.Sink.taken c.put_all.new.out) c.put_all.new.piece.bytes w (g.O.Sink.taken c.put-2.new.out)) number broken))
    c.put-2.ensures.breaks
