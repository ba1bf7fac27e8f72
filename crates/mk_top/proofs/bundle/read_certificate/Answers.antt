-- What the blocks and claims give, up to the line `code`.
use Rattle.std.proofs.Common.{◌≡◌, [], ◌∷◌, ◌++◌, Result, IfErr, refl, sym, subst, ap, arith}
use Rattle.std.proofs.lemmas.Result.{err_from_is_err_and}
use Rattle.mk_rules.specs.Claimed.{Claimed}
use Rattle.mk_bundle.specs.declared.event.Event.{Event}
use Rattle.mk_bundle.specs.declared.event.Event.TheVariants as event
use Rattle.mk_bundle.specs.Events.{AreFirst}
use Rattle.mk_top.specs.declared.fault.Fault.{Fault}
use Rattle.mk_top.specs.Reading.{Reading}
use Rattle.mk_top.specs.Running.{NoBundle}
use Rattle.mk_top.proofs.Events.{begun-next, is-code, gives-none, gives-more, uppers-more, upper_gathered}
use Rattle.mk_top.proofs.Progress.{input-later}
use Rattle.mk_top.proofs.bundle.read_certificate.Goals as goal

pub loop-cert-init : goal.loop-cert-init
loop-cert-init g c = record {
  going = c.requires.going;
  falls = omega arith;
  upper = [];
  uppers = tt;
  gives = gives-none c.args.head.now c.new-cert.result c.new-cert.ensures;
  reading = λ before r. r;
}

pub returns-in_err-op-clause-fault : goal.returns-in_err-op-clause-fault
returns-in_err-op-clause-fault g c input at r =
    let p = err_from_is_err_and c.from_residual.result c.from_residual.ensures.1 in
    let inv = c.loop-cert.invariant in
    subst (λ (x : Result Claimed Fault). IfErr x (NoBundle input)) (sym p.1)
    (subst (NoBundle input) (sym p.2)
    ((c.in_err-op.ensures).fault input (event.Head c.args.head.now ∷ inv.upper) (input-later input _ _ _ _ at inv.falls) (inv.reading input.before r)))

pub loop-cert-preserved-in-Continue-branch-3 : goal.loop-cert-preserved-in-Continue-branch-3
loop-cert-preserved-in-Continue-branch-3 g c =
    let inv = c.loop-cert.invariant in
    let e = c.in_ok-op.field-0 in
    let is = c.in-Block.is in
    let head = c.args.head.now in
    record {
      going = c.in_ok-op.ensures.going (λ end. absurd cc);
      falls = omega (arith, inv.falls, c.next_event.ensures.never_falls);
      upper = inv.upper ++ event.Block c.in-Block.op ∷ [];
      uppers = uppers-more inv.upper (event.Block c.in-Block.op) inv.uppers tt;
      gives =
          gives-more head inv.upper c.loop-cert.cert c.push_block.new.self (event.Block c.in-Block.op) inv.gives
          (ap (upper_gathered head) (sym (c.in_ok-push_block-in-Block.ensures).ok));
      reading = λ before r.
          subst (λ (x : Event). Reading before (g.S.Source.left c.next_event.new.src) c.next_event.new.reader (event.Head head ∷ (inv.upper ++ x ∷ []))) is
          (c.in_ok-op.ensures.read before (event.Head head ∷ inv.upper) (inv.reading before r));
    }

pub loop-cert-preserved : goal.loop-cert-preserved
loop-cert-preserved g c =
    let inv = c.loop-cert.invariant in
    let e = c.in_ok-op.field-0 in
    let is = c.in-Claim.is in
    let head = c.args.head.now in
    record {
      going = c.in_ok-op.ensures.going (λ end. absurd cc);
      falls = omega (arith, inv.falls, c.next_event.ensures.never_falls);
      upper = inv.upper ++ event.Claim c.in-Claim.value ∷ [];
      uppers = uppers-more inv.upper (event.Claim c.in-Claim.value) inv.uppers tt;
      gives =
          gives-more head inv.upper c.loop-cert.cert c.push_claim.new.self (event.Claim c.in-Claim.value) inv.gives
          (ap (upper_gathered head) (sym (c.in_ok-push_claim-in-Claim.ensures).ok));
      reading = λ before r.
          subst (λ (x : Event). Reading before (g.S.Source.left c.next_event.new.src) c.next_event.new.reader (event.Head head ∷ (inv.upper ++ x ∷ []))) is
          (c.in_ok-op.ensures.read before (event.Head head ∷ inv.upper) (inv.reading before r));
    }

pub returns-in_default : goal.returns-in_default
returns-in_default g c =
    let inv = c.loop-cert.invariant in
    let e = c.in_ok-op.field-0 in
    let head = c.args.head.now in
    let begins = c.requires.begins in
    let first : AreFirst (event.Head head ∷ (inv.upper ++ e ∷ [])) = c.in_ok-op.ensures.first begins.0 (event.Head head ∷ inv.upper) (inv.reading begins.0 begins.1) in
    let code : e ≡ event.Code = is-code e (begun-next head inv.upper e inv.uppers first) c.in_default.not-Block c.in_default.not-Claim in
    record {
      read = λ before r. record {
        upper = inv.upper;
        uppers = inv.uppers;
        reading = subst (λ (x : Event). Reading before (g.S.Source.left c.next_event.new.src) c.next_event.new.reader (event.Head head ∷ (inv.upper ++ x ∷ []))) code
            (c.in_ok-op.ensures.read before (event.Head head ∷ inv.upper) (inv.reading before r));
        first = subst (λ (x : Event). AreFirst (event.Head head ∷ (inv.upper ++ x ∷ []))) code first;
        gives = gives-more head inv.upper c.loop-cert.cert c.loop-cert.cert event.Code inv.gives refl;
      };
      fault = λ input at r. tt;
      going = c.in_ok-op.ensures.going (λ end. absurd cc);
      never_falls = omega (arith, inv.falls, c.next_event.ensures.never_falls);
    }
