-- The head, the maps, the blocks and the claims, one after the other.
use Rattle.std.proofs.Common.{◌≡◌, ℕ, List, flat_map, ◌∙◌, subst}
use Rattle.std.proofs.lemmas.Result.{on_ok_weaker, on_err_weaker}
use Rattle.mk_lines.specs.CertLines.{op_line, claim_line}
use Rattle.mk_lines.specs.CodeLines.{map_line}
use Rattle.mk_bundle.specs.Text.{head_lines}
use Rattle.mk_bundle.specs.Passing.{Sends, Breaks}
use Rattle.mk_bundle.proofs.Sending.{four_sent, first_broken, second_broken, third_broken, last_broken, on_err}
use Rattle.mk_bundle.proofs.write.put_upper.Goals as goal

pub returns-in_err-put-clause-breaks : goal.returns-in_err-put-clause-breaks
returns-in_err-put-clause-breaks g c =
    let code = c.args.code.now in
    let cert = c.args.cert.now in
    let head : c.as_str.result.now ≡ head_lines code = c.as_str.ensures.value ∙ c.spell_head.ensures in
    on_err c.from_residual.result (first_broken _ _ _ (head_lines code) (flat_map map_line code.maps) (flat_map op_line cert.blocks) (flat_map claim_line cert.claims)
    (subst (λ (w : List ℕ). Breaks (g.O.Sink.taken c.args.out.now) c.args.piece.now.bytes w (g.O.Sink.taken c.put.new.out)) head c.in_err-put.ensures.breaks))

pub returns-in_err-put_all-clause-breaks : goal.returns-in_err-put_all-clause-breaks
returns-in_err-put_all-clause-breaks g c =
    let code = c.args.code.now in
    let cert = c.args.cert.now in
    let head : c.as_str.result.now ≡ head_lines code = c.as_str.ensures.value ∙ c.spell_head.ensures in
    let maps : c.as_slice.result.now ≡ code.maps = c.as_slice.ensures.items ∙ c.maps.ensures in
    on_err c.from_residual-in_err-put_all.result (second_broken _ _ _ _ _ (head_lines code) (flat_map map_line code.maps) (flat_map op_line cert.blocks) (flat_map claim_line cert.claims)
    (subst (λ (w : List ℕ). Sends (g.O.Sink.taken c.args.out.now) c.args.piece.now.bytes w (g.O.Sink.taken c.put.new.out) c.put.new.piece.bytes) head c.in_ok-put.ensures.sends)
    (subst (λ w. Breaks (g.O.Sink.taken c.put.new.out) c.put.new.piece.bytes (flat_map map_line w) (g.O.Sink.taken c.put_all.new.out)) maps c.in_err-put_all.ensures.breaks))

pub returns-in_err-put_all-2-clause-breaks : goal.returns-in_err-put_all-2-clause-breaks
returns-in_err-put_all-2-clause-breaks g c =
    let code = c.args.code.now in
    let cert = c.args.cert.now in
    let head : c.as_str.result.now ≡ head_lines code = c.as_str.ensures.value ∙ c.spell_head.ensures in
    let maps : c.as_slice.result.now ≡ code.maps = c.as_slice.ensures.items ∙ c.maps.ensures in
    let blocks : c.as_slice-2.result.now ≡ cert.blocks = c.as_slice-2.ensures.items ∙ c.blocks-2.ensures in
    on_err c.from_residual-in_err-put_all-2.result (third_broken _ _ _ _ _ _ _ (head_lines code) (flat_map map_line code.maps) (flat_map op_line cert.blocks) (flat_map claim_line cert.claims)
    (subst (λ (w : List ℕ). Sends (g.O.Sink.taken c.args.out.now) c.args.piece.now.bytes w (g.O.Sink.taken c.put.new.out) c.put.new.piece.bytes) head c.in_ok-put.ensures.sends)
    (subst (λ w. Sends (g.O.Sink.taken c.put.new.out) c.put.new.piece.bytes (flat_map map_line w) (g.O.Sink.taken c.put_all.new.out) c.put_all.new.piece.bytes) maps c.in_ok-put_all.ensures.sends)
    (subst (λ w. Breaks (g.O.Sink.taken c.put_all.new.out) c.put_all.new.piece.bytes (flat_map op_line w) (g.O.Sink.taken c.put_all-2.new.out)) blocks c.in_err-put_all-2.ensures.breaks))

pub returns-clause-sends : goal.returns-clause-sends
returns-clause-sends g c =
    let code = c.args.code.now in
    let cert = c.args.cert.now in
    let head : c.as_str.result.now ≡ head_lines code = c.as_str.ensures.value ∙ c.spell_head.ensures in
    let maps : c.as_slice.result.now ≡ code.maps = c.as_slice.ensures.items ∙ c.maps.ensures in
    let blocks : c.as_slice-2.result.now ≡ cert.blocks = c.as_slice-2.ensures.items ∙ c.blocks-2.ensures in
    let claims : c.as_slice-3.result.now ≡ cert.claims = c.as_slice-3.ensures.items ∙ c.claims.ensures in
    on_ok_weaker c.put_all-3.result (λ sent. four_sent _ _ _ _ _ _ _ _ _ _ (head_lines code) (flat_map map_line code.maps) (flat_map op_line cert.blocks) (flat_map claim_line cert.claims)
    (subst (λ (w : List ℕ). Sends (g.O.Sink.taken c.args.out.now) c.args.piece.now.bytes w (g.O.Sink.taken c.put.new.out) c.put.new.piece.bytes) head c.in_ok-put.ensures.sends)
    (subst (λ w. Sends (g.O.Sink.taken c.put.new.out) c.put.new.piece.bytes (flat_map map_line w) (g.O.Sink.taken c.put_all.new.out) c.put_all.new.piece.bytes) maps c.in_ok-put_all.ensures.sends)
    (subst (λ w. Sends (g.O.Sink.taken c.put_all.new.out) c.put_all.new.piece.bytes (flat_map op_line w) (g.O.Sink.taken c.put_all-2.new.out) c.put_all-2.new.piece.bytes) blocks c.in_ok-put_all-2.ensures.sends)
    (subst (λ w. Sends (g.O.Sink.taken c.put_all-2.new.out) c.put_all-2.new.piece.bytes (flat_map claim_line w) (g.O.Sink.taken c.put_all-3.new.out) c.put_all-3.new.piece.bytes) claims sent))
    c.put_all-3.ensures.sends

pub returns-clause-breaks : goal.returns-clause-breaks
returns-clause-breaks g c =
    let code = c.args.code.now in
    let cert = c.args.cert.now in
    let head : c.as_str.result.now ≡ head_lines code = c.as_str.ensures.value ∙ c.spell_head.ensures in
    let maps : c.as_slice.result.now ≡ code.maps = c.as_slice.ensures.items ∙ c.maps.ensures in
    let blocks : c.as_slice-2.result.now ≡ cert.blocks = c.as_slice-2.ensures.items ∙ c.blocks-2.ensures in
    let claims : c.as_slice-3.result.now ≡ cert.claims = c.as_slice-3.ensures.items ∙ c.claims.ensures in
    on_err_weaker c.put_all-3.result (λ broken. last_broken _ _ _ _ _ _ _ _ _ (head_lines code) (flat_map map_line code.maps) (flat_map op_line cert.blocks) (flat_map claim_line cert.claims)
    (subst (λ (w : List ℕ). Sends (g.O.Sink.taken c.args.out.now) c.args.piece.now.bytes w (g.O.Sink.taken c.put.new.out) c.put.new.piece.bytes) head c.in_ok-put.ensures.sends)
    (subst (λ w. Sends (g.O.Sink.taken c.put.new.out) c.put.new.piece.bytes (flat_map map_line w) (g.O.Sink.taken c.put_all.new.out) c.put_all.new.piece.bytes) maps c.in_ok-put_all.ensures.sends)
    (subst (λ w. Sends (g.O.Sink.taken c.put_all.new.out) c.put_all.new.piece.bytes (flat_map op_line w) (g.O.Sink.taken c.put_all-2.new.out) c.put_all-2.new.piece.bytes) blocks c.in_ok-put_all-2.ensures.sends)
    (subst (λ w. Breaks (g.O.Sink.taken c.put_all-2.new.out) c.put_all-2.new.piece.bytes (flat_map claim_line w) (g.O.Sink.taken c.put_all-3.new.out)) claims broken))
    c.put_all-3.ensures.breaks
