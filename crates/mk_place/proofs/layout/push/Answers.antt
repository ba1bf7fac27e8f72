use Rattle.std.proofs.Common.{rules, ◌≡◌, ◌∷◌, ◌++◌, [], List, ◌∙◌, ap, ap₂}
use Rattle.std.proofs.lemmas.Result.{on_ok_weaker}
use Rattle.mk_ssa.specs.declared.Op.{Op}
use Rattle.mk_rules.specs.declared.cert.Cert.{Cert}
use Rattle.mk_place.specs.Laying.{with_refreshes, own_of}
use Rattle.mk_place.proofs.layout.push.Goals as goal

pub returns-clause-blocks : goal.returns-clause-blocks
returns-clause-blocks c =
    let laid : c.refreshed-2.new.cert.blocks ≡ with_refreshes c.args.names.now c.args.cert.now.blocks c.args.op c.args.fresh = search rules in
    let own : c.fitted.result ≡ own_of c.args.names.now c.args.cert.now.blocks c.args.op c.args.fresh = search rules in
    on_ok_weaker c.push.result (λ _. ap (λ (cert : Cert). cert.blocks) c.in_ok-push_block.ensures.ok ∙ ap₂ (λ (bs : List Op) (x : Op). bs ++ x ∷ []) laid own) c.push.ensures.ok
