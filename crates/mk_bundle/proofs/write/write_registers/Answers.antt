-- The lines before that of the code, those from there on, and then what is still held back.
use Rattle.std.proofs.Common.{◌≡◌, ℕ, List, [], ◌++◌, Some, IfSome, flat_map, sym, ◌∙◌, subst}
use Rattle.std.proofs.lemmas.Result.{on_ok_weaker, on_err_weaker}
use Rattle.mk_base.specs.Streams.{TakesPrefix}
use Rattle.mk_bundle.specs.Text.{register_line, register_front, outputs_with, claimed_text, text_with}
use Rattle.mk_bundle.specs.Passing.{Sends, Breaks, rest_with}
use Rattle.mk_bundle.proofs.Sending.{sends_more, breaks_sooner, breaks_later, sends_all, breaks_end, text_cut, same_rest, on_err, broken_prefix}
use Rattle.mk_bundle.proofs.write.write_registers.Goals as goal

pub returns-in_err-put_register_upper-clause-prefix : goal.returns-in_err-put_register_upper-clause-prefix
returns-in_err-put_register_upper-clause-prefix g c =
    let r = c.args.r.now in
    let cert = c.args.cert.now in
    let front : List ℕ = register_front r in
    let instrs : List ℕ = flat_map register_line r.instrs in
    let outs : List ℕ = outputs_with r.order r.outs in
    let cut : text_with front cert instrs outs ≡ claimed_text front cert ++ rest_with instrs outs = text_cut front cert instrs outs in
    let held : c.new-piece.result.bytes ≡ [] = c.new-piece.ensures in
    on_err c.from_residual.result (broken_prefix (g.O.Sink.taken c.args.out.now) (g.O.Sink.taken c.put_register_upper.new.out) (text_with front cert instrs outs) (claimed_text front cert ++ rest_with instrs outs) (sym cut)
    (breaks_sooner _ _ [] (claimed_text front cert) (rest_with instrs outs)
    (subst (λ (h : List ℕ). Breaks (g.O.Sink.taken c.args.out.now) h (claimed_text front cert) (g.O.Sink.taken c.put_register_upper.new.out)) held c.in_err-put_register_upper.ensures.breaks)))

pub returns-in_err-put_lower-clause-prefix : goal.returns-in_err-put_lower-clause-prefix
returns-in_err-put_lower-clause-prefix g c =
    let r = c.args.r.now in
    let cert = c.args.cert.now in
    let front : List ℕ = register_front r in
    let instrs : List ℕ = flat_map register_line r.instrs in
    let outs : List ℕ = outputs_with r.order r.outs in
    let cut : text_with front cert instrs outs ≡ claimed_text front cert ++ rest_with instrs outs = text_cut front cert instrs outs in
    let held : c.new-piece.result.bytes ≡ [] = c.new-piece.ensures in
    let items : c.as_slice-instrs.result.now ≡ r.instrs = c.as_slice-instrs.ensures.items ∙ c.instrs.ensures in
    let numbers : c.as_slice.result.now ≡ r.outs = c.as_slice.ensures.items ∙ c.outs.ensures in
    let told = same_rest register_line c.as_slice-instrs.result.now r.instrs c.register_shares_of.result r.order c.as_slice.result.now r.outs items c.register_shares_of.ensures.shares numbers in
    let begun : Sends (g.O.Sink.taken c.args.out.now) [] (claimed_text front cert) (g.O.Sink.taken c.put_register_upper.new.out) c.put_register_upper.new.piece.bytes =
    subst (λ (h : List ℕ). Sends (g.O.Sink.taken c.args.out.now) h (claimed_text front cert) (g.O.Sink.taken c.put_register_upper.new.out) c.put_register_upper.new.piece.bytes) held c.in_ok-put_register_upper.ensures.sends in
    on_err c.from_residual-in_err-put_lower.result
    (broken_prefix (g.O.Sink.taken c.args.out.now) (g.O.Sink.taken c.put_lower.new.out) (text_with front cert instrs outs) (claimed_text front cert ++ rest_with instrs outs) (sym cut)
    (breaks_later _ _ _ [] _ (claimed_text front cert) (rest_with instrs outs) begun
    (subst (λ (w : List ℕ). Breaks (g.O.Sink.taken c.put_register_upper.new.out) c.put_register_upper.new.piece.bytes w (g.O.Sink.taken c.put_lower.new.out)) told c.in_err-put_lower.ensures.breaks)))

pub returns-clause-ok : goal.returns-clause-ok
returns-clause-ok g c =
    let r = c.args.r.now in
    let cert = c.args.cert.now in
    let front : List ℕ = register_front r in
    let instrs : List ℕ = flat_map register_line r.instrs in
    let outs : List ℕ = outputs_with r.order r.outs in
    let cut : text_with front cert instrs outs ≡ claimed_text front cert ++ rest_with instrs outs = text_cut front cert instrs outs in
    let held : c.new-piece.result.bytes ≡ [] = c.new-piece.ensures in
    let items : c.as_slice-instrs.result.now ≡ r.instrs = c.as_slice-instrs.ensures.items ∙ c.instrs.ensures in
    let numbers : c.as_slice.result.now ≡ r.outs = c.as_slice.ensures.items ∙ c.outs.ensures in
    let told = same_rest register_line c.as_slice-instrs.result.now r.instrs c.register_shares_of.result r.order c.as_slice.result.now r.outs items c.register_shares_of.ensures.shares numbers in
    let begun : Sends (g.O.Sink.taken c.args.out.now) [] (claimed_text front cert) (g.O.Sink.taken c.put_register_upper.new.out) c.put_register_upper.new.piece.bytes =
    subst (λ (h : List ℕ). Sends (g.O.Sink.taken c.args.out.now) h (claimed_text front cert) (g.O.Sink.taken c.put_register_upper.new.out) c.put_register_upper.new.piece.bytes) held c.in_ok-put_register_upper.ensures.sends in
    let sent : Sends (g.O.Sink.taken c.args.out.now) [] (text_with front cert instrs outs) (g.O.Sink.taken c.put_lower.new.out) c.put_lower.new.piece.bytes =
    subst (λ (w : List ℕ). Sends (g.O.Sink.taken c.args.out.now) [] w (g.O.Sink.taken c.put_lower.new.out) c.put_lower.new.piece.bytes) (sym cut)
    (sends_more _ _ _ [] _ _ (claimed_text front cert) (rest_with instrs outs) begun
    (subst (λ (w : List ℕ). Sends (g.O.Sink.taken c.put_register_upper.new.out) c.put_register_upper.new.piece.bytes w (g.O.Sink.taken c.put_lower.new.out) c.put_lower.new.piece.bytes) told c.in_ok-put_lower.ensures.sends)) in
    on_ok_weaker c.write_all.result (λ written. sends_all _ _ _ (text_with front cert instrs outs) c.put_lower.new.piece.bytes sent
    (subst (λ (w : List ℕ). IfSome (g.O.Sink.taken c.put_lower.new.out) (λ before. g.O.Sink.taken c.write_all.new.sink ≡ Some (before ++ w))) (c.as_bytes-kept.ensures.value ∙ c.as_str.ensures.value) written))
    c.write_all.ensures.ok

pub returns-clause-prefix : goal.returns-clause-prefix
returns-clause-prefix g c =
    let r = c.args.r.now in
    let cert = c.args.cert.now in
    let front : List ℕ = register_front r in
    let instrs : List ℕ = flat_map register_line r.instrs in
    let outs : List ℕ = outputs_with r.order r.outs in
    let cut : text_with front cert instrs outs ≡ claimed_text front cert ++ rest_with instrs outs = text_cut front cert instrs outs in
    let held : c.new-piece.result.bytes ≡ [] = c.new-piece.ensures in
    let items : c.as_slice-instrs.result.now ≡ r.instrs = c.as_slice-instrs.ensures.items ∙ c.instrs.ensures in
    let numbers : c.as_slice.result.now ≡ r.outs = c.as_slice.ensures.items ∙ c.outs.ensures in
    let told = same_rest register_line c.as_slice-instrs.result.now r.instrs c.register_shares_of.result r.order c.as_slice.result.now r.outs items c.register_shares_of.ensures.shares numbers in
    let begun : Sends (g.O.Sink.taken c.args.out.now) [] (claimed_text front cert) (g.O.Sink.taken c.put_register_upper.new.out) c.put_register_upper.new.piece.bytes =
    subst (λ (h : List ℕ). Sends (g.O.Sink.taken c.args.out.now) h (claimed_text front cert) (g.O.Sink.taken c.put_register_upper.new.out) c.put_register_upper.new.piece.bytes) held c.in_ok-put_register_upper.ensures.sends in
    let sent : Sends (g.O.Sink.taken c.args.out.now) [] (text_with front cert instrs outs) (g.O.Sink.taken c.put_lower.new.out) c.put_lower.new.piece.bytes =
    subst (λ (w : List ℕ). Sends (g.O.Sink.taken c.args.out.now) [] w (g.O.Sink.taken c.put_lower.new.out) c.put_lower.new.piece.bytes) (sym cut)
    (sends_more _ _ _ [] _ _ (claimed_text front cert) (rest_with instrs outs) begun
    (subst (λ (w : List ℕ). Sends (g.O.Sink.taken c.put_register_upper.new.out) c.put_register_upper.new.piece.bytes w (g.O.Sink.taken c.put_lower.new.out) c.put_lower.new.piece.bytes) told c.in_ok-put_lower.ensures.sends)) in
    on_err_weaker c.write_all.result (λ broken. breaks_end _ _ _ (text_with front cert instrs outs) c.put_lower.new.piece.bytes sent
    (subst (λ (w : List ℕ). IfSome (g.O.Sink.taken c.put_lower.new.out) (λ before. TakesPrefix before w (g.O.Sink.taken c.write_all.new.sink))) (c.as_bytes-kept.ensures.value ∙ c.as_str.ensures.value) broken))
    c.write_all.ensures.prefix
