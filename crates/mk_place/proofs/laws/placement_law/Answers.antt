-- A list of values has one placed certificate at most, which is the values where its refreshes are taken out; each
-- of these is used once, and stands before the block that uses it.
use Rattle.mk_place.proofs.Alike.{placed-alike}
use Rattle.mk_place.proofs.TakingOut.{placed-without}
use Rattle.mk_place.proofs.Serving.{placed-shared, placed-once, placed-stands}
use Rattle.mk_place.proofs.laws.placement_law.Goals as goal

pub returns-clause-one : goal.returns-clause-one
returns-clause-one c = placed-alike

pub returns-clause-taken_out : goal.returns-clause-taken_out
returns-clause-taken_out c = placed-without

pub returns-clause-used_once : goal.returns-clause-used_once
returns-clause-used_once c = λ s cert r v is placed there. (placed-shared s is cert placed r v there, placed-once s is cert placed r v there)

pub returns-clause-stands : goal.returns-clause-stands
returns-clause-stands c = λ s cert r b k v is placed. placed-stands s is cert placed r b k v
