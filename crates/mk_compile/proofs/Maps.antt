-- A well typed program that a source spells has at most 32,768 maps.
use Rattle.std.proofs.Common.{◌≡◌, ℕ, ◌+◌, ◌≤◌, Bool, true, false, cond, not, List, [], ◌∷◌, ◌++◌, length, count_by, refl, ap, true≢false, arith}
use Rattle.std.proofs.lemmas.List.Sums.{sum_by-cons}
use Rattle.std.specs.Prelude.{is_some, flat_map}
use Rattle.std.specs.List.{cons_option}
use Rattle.mk_field.specs.declared.field.FieldId.{FieldId}
use Rattle.mk_field.specs.declared.field.FieldId.TheVariants.{Gf2, Gf256}
use Rattle.mk_field.specs.declared.map.AddMap.{AddMap}
use Rattle.mk_ast.specs.declared.tree.Program.{Program}
use Rattle.mk_ast.specs.declared.tree.Decl.{Decl}
use Rattle.mk_ast.specs.declared.tree.What.{What}
use Rattle.mk_ast.specs.declared.tree.What.TheVariants as what
use Rattle.mk_parse.specs.Parsed.{images_with, maps_of as images_of, has_eight, FewMaps}
use Rattle.mk_types.specs.declared.offence.OffenceKind.TheVariants as kind_
use Rattle.mk_types.specs.Scope.{declared}
use Rattle.mk_types.specs.Elements.{map_in, maps_of}
use Rattle.mk_types.specs.Offences.{is_no_map_of, decl_offences, decls_offences, stmt_offences, scope_of, when, IsWellTyped}
use Rattle.mk_types.proofs.Accepted.{no_offences, not_when}

-- what isn't false is true
not-false : (b : Bool) → not b ≡ false → b ≡ true
not-false true e = refl
not-false false e = absurd (true≢false e)

-- one declaration more has a map of eight images more, or none
counts-more : (field : FieldId) (w : What) (maps : List AddMap) (others : List (List ℕ)) → is_no_map_of field w ≡ false
    → length maps ≡ count_by has_eight others → length (cons_option (map_in w) maps) ≡ count_by has_eight (images_with w others)
counts-more Gf2 (what.Map images) maps others form same = absurd (true≢false form)
counts-more Gf256 (what.Map images) maps others form same =
    let more = sum_by-cons (λ images. cond (has_eight images) 1 0) images others in
    let one : cond (has_eight images) 1 0 + count_by has_eight others ≡ 1 + count_by has_eight others =
    ap (λ (b : Bool). cond b 1 0 + count_by has_eight others) (not-false (has_eight images) form) in
    omega (arith, same, more, one)
counts-more field (what.Var class size) maps others form same = same

-- where nothing declared is an offence, there are as many maps as lists of eight images
counts : (field : FieldId) (earlier decls : List Decl) → decls_offences field earlier decls ≡ [] → length (maps_of decls) ≡ count_by has_eight (images_of decls)
counts field earlier [] e = refl
counts field earlier (d ∷ ds) e =
    let both = no_offences (decl_offences field earlier d) (decls_offences field (earlier ++ d ∷ []) ds) e in
    let form = not_when _ d.at kind_.MapForm
    (no_offences (when (is_some (declared earlier d.name)) d.at kind_.Twice) (when (is_no_map_of field d.what) d.at kind_.MapForm) both.0).1 in
    counts-more field d.what (maps_of ds) (images_of ds) form (counts field (earlier ++ d ∷ []) ds both.1)

-- a well typed program of a source has few maps
pub few_maps : (p : Program) → FewMaps p → IsWellTyped p → length (maps_of p.decls) ≤ 32768
few_maps p few typed =
    let declared_well = (no_offences (decls_offences p.field [] p.decls) (flat_map (λ s. stmt_offences s (scope_of p)) p.body) typed).0 in
    omega (arith, few, counts p.field [] p.decls declared_well)
