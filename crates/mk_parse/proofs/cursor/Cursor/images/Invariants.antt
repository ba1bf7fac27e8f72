-- The images are read as the reader of many parts does, with fewer tokens left at each turn.
use Rattle.std.proofs.Common.{◌∷◌, codes, length}
use Rattle.mk_parse.specs.Readers.{makes, every, past, says}
use Rattle.mk_parse.specs.Reading.{image_by}
use Rattle.mk_parse.proofs.Loops.{Going}
use Rattle.mk_parse.proofs.cursor.Cursor.images.Given as goal

abbrev pub invariant-loop-images : goal.invariant-loop-images
invariant-loop-images l =
    Going (says (codes ",")) (past (codes ",") image_by) l.images l.self (makes (λ images. l.first ∷ images) (every (says (codes ",")) (past (codes ",") image_by)) l.initial.self)

abbrev pub decreases-loop-images : goal.decreases-loop-images
decreases-loop-images l = length l.self
