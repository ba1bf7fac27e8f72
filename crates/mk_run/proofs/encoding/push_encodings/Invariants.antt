use Rattle.std.proofs.Common.{◌≤◌, ◌-◌, drop, ◌++◌}
use Rattle.std.specs.Prelude.{vec_capacity}
use Rattle.mk_field.specs.Field.{size}
use Rattle.mk_field.specs.Sharing.{encodings}
use Rattle.mk_run.proofs.Shares.{Pushing}
use Rattle.mk_run.proofs.encoding.push_encodings.Given as goal

-- what there is and the encodings of the secrets that are left are the whole
abbrev pub invariant-loop-secret : goal.invariant-loop-secret
invariant-loop-secret g l =
    Pushing (size g.F.Field.ID) g.row.N (vec_capacity l.fn.shares) (l.fn.shares.items ++ encodings (g.row.N - 1) l.secrets l.tape)
    (drop l.secret-index l.secrets) l.rest l.shares.items
    × (vec_capacity l.fn.shares ≤ vec_capacity l.shares)
