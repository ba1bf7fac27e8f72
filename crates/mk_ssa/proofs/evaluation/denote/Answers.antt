-- All values are worked out, and then the outputs are read.
use Rattle.mk_ssa.proofs.Evaluations.{IsEvaluated-new}
use Rattle.mk_ssa.proofs.evaluation.denote.Goals as goal

pub invariant_of-evaluation : goal.invariant_of-evaluation
invariant_of-evaluation c =
    rw c.new.ensures (
      IsEvaluated-new c.args.s.now c.args.publics.now c.args.secrets.now c.requires.publics_len c.requires.secrets_len c.requires.publics c.requires.secrets,
      c.values.ensures.fits,
    )
