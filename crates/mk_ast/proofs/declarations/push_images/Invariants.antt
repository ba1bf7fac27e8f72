-- What is appended for the images so far.
use Rattle.std.proofs.Common.{◌≡◌, ◌++◌, take, map, codes}
use Rattle.mk_ast.specs.Canonical.{joined, element_text}
use Rattle.mk_ast.proofs.declarations.push_images.Given as goal

abbrev pub invariant-loop-number : goal.invariant-loop-number
invariant-loop-number l = l.text ≡ l.initial.text ++ joined (codes ", ") (map element_text (take l.number l.images))
