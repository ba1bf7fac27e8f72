-- The text of the program of a table spells a program that gives the elements of the table.
use Rattle.std.proofs.Common.{◌≡◌, ℕ, zero, suc, ◌<◌, ◌^◌, List, [], ◌∷◌, Some, get_or, refl, sym, ap, subst, ◌∙◌, arith}
use Rattle.std.specs.List.{AllByRecursion}
use Rattle.mk_field.specs.Field.{size}
use Rattle.mk_field.specs.declared.field.FieldId.{FieldId}
use Rattle.mk_field.specs.declared.field.FieldId.TheVariants.{Gf256}
use Rattle.mk_ast.specs.declared.tree.Program.{Program}
use Rattle.mk_ast.specs.Places.{AreAlike}
use Rattle.mk_ast.specs.Spells.{Spells}
use Rattle.mk_ast.proofs.SpelledProgram.{spelled_is_regular}
use Rattle.mk_ssa.specs.Values.{Values}
use Rattle.mk_ssa.specs.Denoted.{denoted}
use Rattle.mk_types.specs.Elements.{elements_of}
use Rattle.mk_types.specs.Offences.{offences, IsWellTyped}
use Rattle.mk_types.specs.Units.{units}
use Rattle.mk_types.specs.Stops.{operations, stop}
use Rattle.mk_unroll.specs.Causes.{Ends}
use Rattle.mk_unroll.specs.Unrolled.{unrolled}
use Rattle.mk_unroll.proofs.Unrolls.{unrolled_result}
use Rattle.mk_simplify.specs.Simplified.{IsSimplified}
use Rattle.mk_gen.proofs.AlikeUnits.{placeless_units, units_alike, elements_alike}
use Rattle.mk_gen.proofs.AlikeOffences.{placeless_offences, offences_alike}
use Rattle.mk_gen.proofs.Spelled.{none_alike, faultless_placeless, faultless_same}
use Rattle.mk_table.specs.Coefficients.{coefficient}
use Rattle.mk_table.specs.ClassImages.{class_image, class_images}
use Rattle.mk_table.specs.Source.{source_decls, table_source}
use Rattle.mk_table.specs.Table.{Computes, HasProducts, IsTabled}
use Rattle.mk_table.proofs.AlikeUnrolled.{unrolled_alike}
use Rattle.mk_table.proofs.Computed.{table_computes}
use Rattle.mk_table.proofs.Made.{table_bytes}
use Rattle.mk_table.proofs.Products.{source_products}
use Rattle.mk_table.proofs.Regular.{source_regular}
use Rattle.mk_table.proofs.Typing.{source_typed, source_ends, source_elements, source_works, source_operations, whole_units, whole_faultless}

-- A table of bytes, and a program that a text spells and that is like the program of the table.
module _ (table : List ℕ) (bytes : AllByRecursion (λ a. a < 256) table) (p : Program) (text : List ℕ) (spelled : Spells p text) (like : AreAlike p (table_source table)) where
  -- the images of the bits
  abbrev bit_image : ℕ → ℕ → ℕ
  bit_image k b = class_image (coefficient table) k (2 ^ b)

  -- it is well typed
  like_typed : IsWellTyped p
  like_typed =
      none_alike (offences p)
      (sym (offences_alike p) ∙ ap offences like ∙ offences_alike (table_source table)
      ∙ ap placeless_offences (source_typed bit_image (coefficient table 255) (coefficient table 0)))

  -- it has the same units of work
  like_units : units p ≡ units (table_source table)
  like_units =
      let whole = source_works bit_image (coefficient table 255) (coefficient table 0) in
      let us = whole_units (source_decls (class_images (coefficient table))) in
      faultless_same (units p) us (whole_faultless (source_decls (class_images (coefficient table))))
      (sym (units_alike p) ∙ ap units like ∙ units_alike (table_source table) ∙ ap placeless_units whole
      ∙ faultless_placeless us (whole_faultless (source_decls (class_images (coefficient table)))))
      ∙ sym whole

  -- so it ends
  like_ends : Ends p
  like_ends = ap stop like_units ∙ source_ends bit_image (coefficient table 255) (coefficient table 0)

  -- with as many operations
  like_operations : operations (units p) ≡ 154
  like_operations = ap operations like_units ∙ source_operations bit_image (coefficient table 255) (coefficient table 0)

  -- it declares as many elements
  like_elements : elements_of p ≡ 37
  like_elements =
      sym (elements_alike p) ∙ ap elements_of like ∙ elements_alike (table_source table)
      ∙ source_elements (class_images (coefficient table)) (coefficient table 255) (coefficient table 0)

  -- it is unrolled to the same values
  like_unrolled : unrolled p ≡ unrolled (table_source table)
  like_unrolled = sym (unrolled_alike p) ∙ ap unrolled like ∙ unrolled_alike (table_source table)

  -- so these have as many products
  like_products : HasProducts 34 p
  like_products r simplified =
      source_products bit_image (coefficient table 255) (coefficient table 0) r (subst (λ (s : Values). IsSimplified s r) like_unrolled simplified)

  -- and the result is the same
  like_computes : Computes table p
  like_computes x small =
      unrolled_result p [] (x ∷ []) (spelled_is_regular p text spelled) like_typed like_ends
      (sym (ap (λ (s : Values). s.publics) like_unrolled)) (sym (ap (λ (s : Values). s.secrets) like_unrolled))
      (λ k d below. absurd (omega (arith, below))) one_element
      ∙ ap (λ (s : Values). Some (denoted s [] (x ∷ []))) like_unrolled
      ∙ sym (unrolled_result (table_source table) [] (x ∷ [])
      (source_regular (class_images (coefficient table)) (coefficient table 255) (coefficient table 0) (table_bytes table bytes))
      (source_typed bit_image (coefficient table 255) (coefficient table 0)) (source_ends bit_image (coefficient table 255) (coefficient table 0))
      refl refl (λ k d below. absurd (omega (arith, below))) element_there)
      ∙ table_computes table bytes x small
    where
      element_there : (k d : ℕ) → k < 1 → get_or (x ∷ []) k d < 256
      element_there zero d below = small
      element_there (suc k) d below = absurd (omega (arith, below))

      field_is : Gf256 ≡ p.field
      field_is = sym (ap (λ (s : Values). s.field) like_unrolled)

      one_element : (k d : ℕ) → k < 1 → get_or (x ∷ []) k d < size p.field
      one_element k d below = subst (λ (f : FieldId). get_or (x ∷ []) k d < size f) field_is (element_there k d below)

  -- all of this
  pub tabled : IsTabled table p text
  tabled = record {
    spelled = spelled;
    alike = like;
    field = ap (λ (s : Values). s.field) like_unrolled;
    publics = ap (λ (s : Values). s.publics) like_unrolled;
    secrets = ap (λ (s : Values). s.secrets) like_unrolled;
    well_typed = like_typed;
    few_elements = omega (arith, like_elements);
    ends = like_ends;
    operations = like_operations;
    computes = like_computes;
    products = like_products;
  }
