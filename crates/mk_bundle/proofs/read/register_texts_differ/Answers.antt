-- The lines of both texts are read, and the first line tells the version.
use Rattle.mk_bundle.proofs.Versions.{registers_differ, versions_differ, read_once}
use Rattle.mk_bundle.proofs.read.register_texts_differ.Goals as goal

pub returns-clause-registers : goal.returns-clause-registers
returns-clause-registers c = registers_differ

pub returns-clause-versions : goal.returns-clause-versions
returns-clause-versions c = versions_differ

pub returns-clause-once : goal.returns-clause-once
returns-clause-once c = read_once
