-- A term more goes where the definition says.
use Rattle.std.proofs.Common.{[]}
use Rattle.mk_pad.proofs.Adding.{absent-pushed, found-joined}
use Rattle.mk_pad.proofs.terms.add_term.Goals as goal

pub returns-in_ok-push-in-None : goal.returns-in_ok-push-in-None
returns-in_ok-push-in-None c =
    absent-pushed c.args.terms.now.items c.as_slice.result.now c.push.new.self.items c.args.term c.as_slice-2.result.now
    c.as_slice.ensures.value c.as_slice-2.ensures.items c.in-None.ensures c.in_ok-push-in-None.ensures.items

pub returns-in-Some : goal.returns-in-Some
returns-in-Some c =
    found-joined c.args.terms.now.items c.as_slice.result.now c.set_coefficient.new.terms.items c.args.term c.index.result.now
    (record { exponents = []; coefficient = 0 }) c.as_slice-2.result.now c.in-Some.i
    c.as_slice.ensures.value c.as_slice-2.ensures.items c.in-Some.ensures c.index.ensures c.set_coefficient.ensures
