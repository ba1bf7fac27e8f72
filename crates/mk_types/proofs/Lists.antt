-- Lists through functions, and what is noted of two lists.
use Rattle.std.proofs.Common.{◌≡◌, append_assoc, Bool, ◌||◌, List, [], ◌∷◌, ◌++◌, Option, map, flat_map, refl, sym, ap, ◌∙◌}
use Rattle.std.proofs.lemmas.List.Sums.{fold-append}
use Rattle.std.proofs.lemmas.List.Folds.{list_any-append}
use Rattle.std.specs.List.{list_any}
use Rattle.mk_types.specs.declared.offence.Offence.{Offence}
use Rattle.mk_types.specs.Offences.{decl_offences, decls_offences}
use Rattle.mk_ast.specs.declared.tree.Decl.{Decl}
use Rattle.mk_field.specs.declared.field.FieldId.{FieldId}
use Rattle.std.proofs.lemmas.List.{append-nil}
use Rattle.mk_types.specs.Noted.{earliest, noted}

-- a test of what a function gives
pub list_any_map : {A B : Type 0} (p : B → Bool) (f : A → B) (xs : List A) → list_any (λ x. p (f x)) xs ≡ list_any p (map f xs)
list_any_map p f [] = refl
list_any_map p f (x ∷ xs) = ap (λ b. p (f x) || b) (list_any_map p f xs)

-- a test of the elements of lists one behind the other
pub list_any_flat_map : {A B : Type 0} (p : B → Bool) (f : A → List B) (xs : List A) → list_any p (flat_map f xs) ≡ list_any (λ x. list_any p (f x)) xs
list_any_flat_map p f [] = refl
list_any_flat_map p f (x ∷ xs) = list_any-append p (f x) (flat_map f xs) ∙ ap (λ b. list_any p (f x) || b) (list_any_flat_map p f xs)

-- what is noted of these and then of those
pub noted_append : (o : Option Offence) (xs ys : List Offence) → noted o (xs ++ ys) ≡ noted (noted o xs) ys
noted_append o xs ys = fold-append earliest o xs ys

-- the offences of declarations and one more
decls-append : (field : FieldId) (earlier : List Decl) (xs : List Decl) (d : Decl) →
    decls_offences field earlier (xs ++ d ∷ []) ≡ decls_offences field earlier xs ++ decl_offences field (earlier ++ xs) d
decls-append field earlier [] d = append-nil _ ∙ ap (λ e. decl_offences field e d) (sym (append-nil earlier))
decls-append field earlier (x ∷ xs) d =
    ap (λ t. decl_offences field earlier x ++ t) (decls-append field (earlier ++ x ∷ []) xs d ∙ ap (λ e. decls_offences field (earlier ++ x ∷ []) xs ++ decl_offences field e d) (append_assoc earlier (x ∷ []) xs))
    ∙ sym (append_assoc (decl_offences field earlier x) (decls_offences field (earlier ++ x ∷ []) xs) (decl_offences field (earlier ++ x ∷ xs) d))

-- what is noted of declarations and one more
pub decls_more : (field : FieldId) (o : Option Offence) (xs : List Decl) (d : Decl) →
    noted o (decls_offences field [] (xs ++ d ∷ [])) ≡ noted (noted o (decls_offences field [] xs)) (decl_offences field xs d)
decls_more field o xs d = ap (noted o) (decls-append field [] xs d) ∙ noted_append o (decls_offences field [] xs) (decl_offences field xs d)
