-- The uses of shared values. The words are this project's own; docs/MASKING.md has the rule in words.
use Rattle.std.specs.Prelude.{List}
use Rattle.mk_ssa.specs.Values.{Values}
use Rattle.mk_rules.specs.Shape.{Shape}
use Rattle.mk_rules.specs.Reaches.{links}
use Rattle.mk_rules.specs.Uses.{Use, uses_from}

-- the shape of values, at order 0: none is split, and each is its one share
abbrev pub shape_of_values : Values → Shape
shape_of_values s = record { field = s.field; order = 0; secrets = s.secrets; publics = s.publics; maps = s.maps }

-- the uses of shared values, in order
abbrev pub uses : Values → List Use
uses s = uses_from 0 (links (shape_of_values s) s.values)
