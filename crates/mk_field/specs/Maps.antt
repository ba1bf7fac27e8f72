-- Additive maps, as they are held.
use Rattle.std.specs.Prelude.{◌≡◌, ◌<◌, length}
use Rattle.std.specs.List.{AllByRecursion}
use Rattle.mk_field.specs.declared.map.AddMap.{AddMap}

-- a map has the images of eight bits, which are bytes
abbrev pub MapFits : AddMap → Type 0
MapFits map = (length map.images ≡ 8) × AllByRecursion (λ b. b < 256) map.images
