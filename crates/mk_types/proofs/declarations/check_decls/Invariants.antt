-- What is noted of the declarations so far.
use Rattle.std.proofs.Common.{◌≡◌, take, []}
use Rattle.mk_types.specs.Noted.{noted}
use Rattle.mk_types.specs.Offences.{decls_offences}
use Rattle.mk_types.proofs.declarations.check_decls.Given as goal

abbrev pub invariant-loop-number : goal.invariant-loop-number
invariant-loop-number l = l.found ≡ noted l.initial.found (decls_offences l.field [] (take l.number l.decls))
