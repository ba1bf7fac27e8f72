-- The line of a field, as it is read.
use Rattle.std.proofs.Common.{◌≡◌, ℕ, List, Some, None, sym, ap, ◌∙◌, inl, inr}
use Rattle.std.specs.Prelude.{cond, codes, bytes_eq}
use Rattle.mk_field.specs.declared.field.FieldId.{FieldId}
use Rattle.mk_field.specs.declared.field.FieldId.TheVariants.{Gf2, Gf256}
use Rattle.mk_lines.specs.Words.{line}
use Rattle.mk_lines.specs.CodeLines.{field_line}
use Rattle.mk_lines.specs.Parsing.{field_of}
use Rattle.mk_lines.proofs.Steps.{same_some, chosen, passed, is_word}

-- a line that names a field is the line of that field
pub field_found : (l : List ℕ) (field : FieldId) → field_of l ≡ Some field → field_line field ≡ line l
unfolding field_of
field_found l field e = elim (chosen (bytes_eq l (codes "field gf2")) (Some Gf2) (cond (bytes_eq l (codes "field gf256")) (Some Gf256) None) (Some field) e) [
  | inl h ↦ ap field_line (sym (same_some Gf2 field h.1)) ∙ ap line (sym (is_word l (codes "field gf2") h.0))
  | inr h ↦ (let g = passed (bytes_eq l (codes "field gf256")) (Some Gf256) field h.1 in
      ap field_line (sym (same_some Gf256 field g.1)) ∙ ap line (sym (is_word l (codes "field gf256") g.0)))
]
