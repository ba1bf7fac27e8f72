-- Codes of which the field, the order, and the numbers of secrets, publics and maps are known.
use Rattle.std.specs.Prelude.{◌≡◌, ℕ, List, [], length, replicate}
use Rattle.mk_field.specs.declared.map.AddMap.{AddMap}
use Rattle.mk_code.specs.declared.instr.Instr.{Instr}
use Rattle.mk_code.specs.Listing.{Listing}
use Rattle.mk_rules.specs.Shape.{Shape}
use Rattle.mk_check.specs.declared.outline.Outline.{Outline}

-- the code is over these
pub record IsOver (code : Listing) (outline : Outline) : Type 0 where
  pub field : code.field ≡ outline.field
  pub order : code.order ≡ outline.order
  pub secrets : code.secrets ≡ outline.secrets
  pub publics : code.publics ≡ outline.publics
  pub maps : length code.maps ≡ outline.maps

-- so many maps, which stand for those of a code: the rule asks only whether a map is there
abbrev pub any_maps : ℕ → List AddMap
any_maps count = replicate count (record { images = [] })

-- the shape of a code over these, but for its maps
abbrev pub outlined : Outline → Shape
outlined outline = record { field = outline.field; order = outline.order; secrets = outline.secrets; publics = outline.publics; maps = any_maps outline.maps }

-- a code over these with these instructions and outs, but for its maps
abbrev pub code_over : Outline → List Instr → List ℕ → Listing
code_over outline instrs outs = record {
  field = outline.field;
  order = outline.order;
  secrets = outline.secrets;
  publics = outline.publics;
  maps = any_maps outline.maps;
  instrs = instrs;
  outs = outs;
}
