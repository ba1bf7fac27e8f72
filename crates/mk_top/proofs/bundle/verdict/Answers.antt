-- The head, the certificate and the checker are those of the events that were read.
use Rattle.std.proofs.Common.{[], ◌∷◌, ◌++◌, Result, IfErr, refl, sym, subst, ap, arith}
use Rattle.std.proofs.lemmas.Result.{err_from_is_err_and}
use Rattle.mk_bundle.specs.declared.event.Event.TheVariants as event
use Rattle.mk_words.specs.Words.{Check}
use Rattle.mk_top.specs.declared.fault.Fault.{Fault}
use Rattle.mk_top.specs.Seen.{seen}
use Rattle.mk_top.specs.Running.{NoText}
use Rattle.mk_top.proofs.Events.{head-fits}
use Rattle.mk_top.proofs.Progress.{reading-new}
use Rattle.mk_top.proofs.Judging.{begun-first}
use Rattle.mk_top.proofs.bundle.verdict.Goals as goal

pub returns-in_err-head-clause-fault : goal.returns-in_err-head-clause-fault
returns-in_err-head-clause-fault g c =
    let p = err_from_is_err_and c.from_residual-in_err-head.result c.from_residual-in_err-head.ensures.1 in
    let left = g.S.Source.left c.args.src.now in
    let input = seen g.S.Source.left g.S.Source.faults c.args.src.now c.read_head.new.src in
    let begins = reading-new left c.in_ok-reader.reader c.in_ok-reader.ensures.read c.in_ok-reader.ensures.limit in
    subst (λ (x : Result (Unit {0}) Fault). IfErr x (NoText Check input)) (sym p.1)
    (subst (NoText Check input) (sym p.2)
    ((c.in_err-head.ensures).fault input (record { fewer = omega arith; after = refl; counts = refl }) begins Check tt))

pub returns-in_err-cert-clause-fault : goal.returns-in_err-cert-clause-fault
returns-in_err-cert-clause-fault g c =
    let p = err_from_is_err_and c.from_residual-in_err-cert.result c.from_residual-in_err-cert.ensures.1 in
    let left = g.S.Source.left c.args.src.now in
    let input = seen g.S.Source.left g.S.Source.faults c.args.src.now c.read_certificate.new.src in
    let begins = reading-new left c.in_ok-reader.reader c.in_ok-reader.ensures.read c.in_ok-reader.ensures.limit in
    subst (λ (x : Result (Unit {0}) Fault). IfErr x (NoText Check input)) (sym p.1)
    (subst (NoText Check input) (sym p.2)
    ((c.in_err-cert.ensures).fault input (record { fewer = c.read_head.ensures.never_falls; after = refl; counts = refl }) (c.in_ok-head.ensures.read left begins) Check tt))

pub new-requires-2 : goal.new-requires-2
new-requires-2 g c =
    let left = g.S.Source.left c.args.src.now in
    let begins = reading-new left c.in_ok-reader.reader c.in_ok-reader.ensures.read c.in_ok-reader.ensures.limit in
    let front = c.in_ok-cert.ensures.read left (c.in_ok-head.ensures.read left begins) in
    record { order = (head-fits c.in_ok-head.head (front.upper ++ event.Code ∷ []) front.first).0 }

pub judged-requires-clause-begins : goal.judged-requires-clause-begins
judged-requires-clause-begins g c =
    let left = g.S.Source.left c.args.src.now in
    let begins = reading-new left c.in_ok-reader.reader c.in_ok-reader.ensures.read c.in_ok-reader.ensures.limit in
    let front = c.in_ok-cert.ensures.read left (c.in_ok-head.ensures.read left begins) in
    let few = (head-fits c.in_ok-head.head (front.upper ++ event.Code ∷ []) front.first).1 in
    let outline = c.in_ok-checker.ensures.outline in
    let maps = ap (λ o. o.maps) outline in (
      left,
      begun-first left (g.S.Source.left c.read_certificate.new.src) c.read_certificate.new.reader c.in_ok-head.head c.in_ok-cert.cert c.in_ok-checker.checker front
          (record {
            field = sym (ap (λ o. o.field) outline);
            order = sym (ap (λ o. o.order) outline);
            secrets = sym (ap (λ o. o.secrets) outline);
            publics = sym (ap (λ o. o.publics) outline);
            maps = omega (arith, maps, few, c.len.ensures.count);
          })
          c.in_ok-checker.ensures.cert
          c.in_ok-checker.ensures.given,
    )

pub returns-clause-checked : goal.returns-clause-checked
returns-clause-checked g c =
    let left = g.S.Source.left c.args.src.now in
    let begins = reading-new left c.in_ok-reader.reader c.in_ok-reader.ensures.read c.in_ok-reader.ensures.limit in
    let front = c.in_ok-cert.ensures.read left (c.in_ok-head.ensures.read left begins) in
    let few = (head-fits c.in_ok-head.head (front.upper ++ event.Code ∷ []) front.first).1 in
    let outline = c.in_ok-checker.ensures.outline in
    let maps = ap (λ o. o.maps) outline in
    c.judged.ensures.checked left
    (begun-first left (g.S.Source.left c.read_certificate.new.src) c.read_certificate.new.reader c.in_ok-head.head c.in_ok-cert.cert c.in_ok-checker.checker front
    (record {
      field = sym (ap (λ o. o.field) outline);
      order = sym (ap (λ o. o.order) outline);
      secrets = sym (ap (λ o. o.secrets) outline);
      publics = sym (ap (λ o. o.publics) outline);
      maps = omega (arith, maps, few, c.len.ensures.count);
    })
    c.in_ok-checker.ensures.cert c.in_ok-checker.ensures.given)

pub returns-clause-fault : goal.returns-clause-fault
returns-clause-fault g c =
    let left = g.S.Source.left c.args.src.now in
    let begins = reading-new left c.in_ok-reader.reader c.in_ok-reader.ensures.read c.in_ok-reader.ensures.limit in
    let front = c.in_ok-cert.ensures.read left (c.in_ok-head.ensures.read left begins) in
    let few = (head-fits c.in_ok-head.head (front.upper ++ event.Code ∷ []) front.first).1 in
    let outline = c.in_ok-checker.ensures.outline in
    let maps = ap (λ o. o.maps) outline in
    c.judged.ensures.fault (seen g.S.Source.left g.S.Source.faults c.args.src.now c.judged.new.src)
    (record { fewer = omega (arith, c.read_head.ensures.never_falls, c.read_certificate.ensures.never_falls); after = refl; counts = refl })
    (begun-first left (g.S.Source.left c.read_certificate.new.src) c.read_certificate.new.reader c.in_ok-head.head c.in_ok-cert.cert c.in_ok-checker.checker front
    (record {
      field = sym (ap (λ o. o.field) outline);
      order = sym (ap (λ o. o.order) outline);
      secrets = sym (ap (λ o. o.secrets) outline);
      publics = sym (ap (λ o. o.publics) outline);
      maps = omega (arith, maps, few, c.len.ensures.count);
    })
    c.in_ok-checker.ensures.cert c.in_ok-checker.ensures.given)
