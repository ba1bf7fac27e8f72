-- The lines up to the blocks, the blocks and the claims, one after the other.
use Rattle.std.proofs.Common.{◌≡◌, ℕ, List, flat_map, ◌∙◌, subst}
use Rattle.std.proofs.lemmas.Result.{on_ok_weaker, on_err_weaker}
use Rattle.mk_lines.specs.CertLines.{op_line, claim_line}
use Rattle.mk_bundle.specs.Text.{register_front}
use Rattle.mk_bundle.specs.Passing.{Sends, Breaks}
use Rattle.mk_bundle.proofs.Sending.{three_sent, first_of_three_broken, second_of_three_broken, third_of_three_broken, on_err}
use Rattle.mk_bundle.proofs.write.put_register_upper.Goals as goal

pub returns-in_err-put_register_front-clause-breaks : goal.returns-in_err-put_register_front-clause-breaks
returns-in_err-put_register_front-clause-breaks g c =
    let front : List ℕ = register_front c.args.r.now in
    let cert = c.args.cert.now in
    on_err c.from_residual.result (first_of_three_broken _ _ _ front (flat_map op_line cert.blocks) (flat_map claim_line cert.claims) c.in_err-put_register_front.ensures.breaks)

pub returns-in_err-put_all-clause-breaks : goal.returns-in_err-put_all-clause-breaks
returns-in_err-put_all-clause-breaks g c =
    let front : List ℕ = register_front c.args.r.now in
    let cert = c.args.cert.now in
    let blocks : c.as_slice.result.now ≡ cert.blocks = c.as_slice.ensures.items ∙ c.blocks-2.ensures in
    on_err c.from_residual-in_err-put_all.result (second_of_three_broken _ _ _ _ _ front (flat_map op_line cert.blocks) (flat_map claim_line cert.claims) c.in_ok-put_register_front.ensures.sends
    (subst (λ w. Breaks (g.O.Sink.taken c.put_register_front.new.out) c.put_register_front.new.piece.bytes (flat_map op_line w) (g.O.Sink.taken c.put_all.new.out)) blocks c.in_err-put_all.ensures.breaks))

pub returns-clause-sends : goal.returns-clause-sends
returns-clause-sends g c =
    let front : List ℕ = register_front c.args.r.now in
    let cert = c.args.cert.now in
    let blocks : c.as_slice.result.now ≡ cert.blocks = c.as_slice.ensures.items ∙ c.blocks-2.ensures in
    let claims : c.as_slice-2.result.now ≡ cert.claims = c.as_slice-2.ensures.items ∙ c.claims.ensures in
    on_ok_weaker c.put_all-2.result (λ sent. three_sent _ _ _ _ _ _ _ _ front (flat_map op_line cert.blocks) (flat_map claim_line cert.claims) c.in_ok-put_register_front.ensures.sends
    (subst (λ w. Sends (g.O.Sink.taken c.put_register_front.new.out) c.put_register_front.new.piece.bytes (flat_map op_line w) (g.O.Sink.taken c.put_all.new.out) c.put_all.new.piece.bytes) blocks c.in_ok-put_all.ensures.sends)
    (subst (λ w. Sends (g.O.Sink.taken c.put_all.new.out) c.put_all.new.piece.bytes (flat_map claim_line w) (g.O.Sink.taken c.put_all-2.new.out) c.put_all-2.new.piece.bytes) claims sent))
    c.put_all-2.ensures.sends

pub returns-clause-breaks : goal.returns-clause-breaks
returns-clause-breaks g c =
    let front : List ℕ = register_front c.args.r.now in
    let cert = c.args.cert.now in
    let blocks : c.as_slice.result.now ≡ cert.blocks = c.as_slice.ensures.items ∙ c.blocks-2.ensures in
    let claims : c.as_slice-2.result.now ≡ cert.claims = c.as_slice-2.ensures.items ∙ c.claims.ensures in
    on_err_weaker c.put_all-2.result (λ broken. third_of_three_broken _ _ _ _ _ _ _ front (flat_map op_line cert.blocks) (flat_map claim_line cert.claims) c.in_ok-put_register_front.ensures.sends
    (subst (λ w. Sends (g.O.Sink.taken c.put_register_front.new.out) c.put_register_front.new.piece.bytes (flat_map op_line w) (g.O.Sink.taken c.put_all.new.out) c.put_all.new.piece.bytes) blocks c.in_ok-put_all.ensures.sends)
    (subst (λ w. Breaks (g.O.Sink.taken c.put_all.new.out) c.put_all.new.piece.bytes (flat_map claim_line w) (g.O.Sink.taken c.put_all-2.new.out)) claims broken))
    c.put_all-2.ensures.breaks
