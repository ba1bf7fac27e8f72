-- The canonical text of a regular program spells it, apart from places.
use Rattle.std.proofs.Common.{◌≡◌, ℕ, ◌<◌, ◌≤◌, inl, List, [], ◌∷◌, ◌++◌, Option, Some, None, map, flat_map, length, refl, sym, ap, ◌∙◌, subst, codes, decimal, arith, append_assoc}
use Rattle.std.proofs.lemmas.List.{append-nil}
use Rattle.std.proofs.lemmas.List.Folds.{flat_map-map}
use Rattle.std.proofs.lemmas.Grind.{flat_map-append}
use Rattle.std.specs.List.{AllByRecursion}
use Rattle.mk_base.specs.declared.Place.{Place}
use Rattle.mk_field.specs.declared.field.FieldId.{FieldId}
use Rattle.mk_field.specs.declared.field.FieldId.TheVariants.{Gf2, Gf256}
use Rattle.mk_ast.specs.declared.tree.Program.{Program}
use Rattle.mk_ast.specs.declared.tree.Decl.{Decl}
use Rattle.mk_ast.specs.declared.tree.What.{What}
use Rattle.mk_ast.specs.declared.tree.What.TheVariants as what
use Rattle.mk_ast.specs.declared.tree.Class.{Class}
use Rattle.mk_ast.specs.declared.tree.Class.TheVariants as class_
use Rattle.mk_ast.specs.declared.tree.Stmt.{Stmt}
use Rattle.mk_ast.specs.Tokens.{IsName, NothingGoesOn, BeginsWith}
use Rattle.mk_ast.specs.Phrases.{Phrase, made, ◌or◌, after, until, optional, many, separated}
use Rattle.mk_ast.specs.Grammar.{size, element, meaning, class, declaration, statement, most_brackets, program}
use Rattle.mk_ast.specs.Spells.{Spells}
use Rattle.mk_ast.specs.Canonical.{joined, ended, laid, element_text, class_text, size_text, what_line, decl_line, field_line, stmt_lines, canonical}
use Rattle.mk_ast.specs.Regular.{IsRegularWhat, IsRegularDecl, IsRegular, IsRegularStmt}
use Rattle.mk_ast.specs.Places.{nowhere, placeless_decl, placeless_stmt, AreAlike}
use Rattle.mk_ast.proofs.Reading.{IsGap-append, Reading, Any, AreLike, reads_gap, reads_trail, reads_before, reads_as, reads_nothing, reads_after, reads_until, reads_and, reads_made, reads_first, reads_second, reads_many, reads_separated}
use Rattle.mk_ast.proofs.StmtReading.{stmts_read, stmt_reads}
use Rattle.mk_ast.proofs.TokenTexts.{is_semicolon, is_equals, is_comma, is_square_opening, is_square_closing, is_field, is_gf2, is_gf256, is_map, is_secret, is_public, is_output, is_local, reads_word, reads_name, reads_size, reads_element, reads_meaning, space_gap, feed_gap}

-- the text is read as a declaration like this one
abbrev ReadsDecl : Phrase Decl → Decl → List ℕ → Type 0
ReadsDecl phrase d t = Reading Any phrase (λ a. placeless_decl a ≡ placeless_decl d) t

-- the words of a class
class_reads : (c : Class) → Reading NothingGoesOn class (λ a. a ≡ c) (class_text c)
class_reads class_.Secret = reads_first _ _ _ (reads_meaning (codes "secret") class_.Secret is_secret)
class_reads class_.Public = reads_second _ _ _ (reads_first _ _ _ (reads_meaning (codes "public") class_.Public is_public))
class_reads class_.Output = reads_second _ _ _ (reads_second _ _ _ (reads_first _ _ _ (reads_meaning (codes "output") class_.Output is_output)))
class_reads class_.LocalSecret =
    reads_second _ _ _ (reads_second _ _ _ (reads_second _ _ _
    (reads_word (codes "local") (codes "secret") is_local (reads_first _ _ _ (reads_meaning (codes "secret") class_.LocalSecret is_secret)))))
class_reads class_.LocalPublic =
    reads_second _ _ _ (reads_second _ _ _ (reads_second _ _ _
    (reads_word (codes "local") (codes "public") is_local (reads_second _ _ _ (reads_meaning (codes "public") class_.LocalPublic is_public)))))

-- the brackets with a size, if there are any
size_reads : (c : Class) (s : Option ℕ) → IsRegularWhat (what.Var c s) →
    Reading NothingGoesOn (optional (after (codes "[") (until (codes "]") size))) (λ a. a ≡ s) (size_text s)
size_reads c None h = reads_nothing NothingGoesOn _ _ None refl refl
size_reads c (Some n) h =
    reads_as (optional (after (codes "[") (until (codes "]") size))) (λ a. a ≡ Some n) _ Some (λ tokens a spells like. (spells, ap Some like))
    (reads_before NothingGoesOn _ (λ rest r. tt)
    (subst (Reading Any (after (codes "[") (until (codes "]") size)) (λ a. a ≡ n)) (sym (append_assoc (codes "[") (decimal n) (codes "]")))
    (reads_after (codes "[") _ (λ rest r. inl is_square_opening)
    (reads_until (codes "]") _ is_square_closing (λ rest. refl) (reads_size n h.0 h.1)))))

-- the images of a map
images_read : (images : List ℕ) → 1 ≤ length images → AllByRecursion (λ image. image < 256) images →
    Reading NothingGoesOn (separated (codes ",") (made (λ (x : ℕ × Place). x.0) element)) (AreLike (λ image. image) images) (joined (codes ", ") (map element_text images))
images_read [] one all = absurd (omega arith)
images_read (image ∷ images) one all =
    reads_separated (made (λ x. x.0) element) (λ i. i) element_text [] (codes ",") (codes " ") tt space_gap is_comma (λ rest. refl) image images
    (each (image ∷ images) all)
  where
    each : (xs : List ℕ) → AllByRecursion (λ x. x < 256) xs → AllByRecursion (λ x. Reading NothingGoesOn (made (λ (x : ℕ × Place). x.0) element) (λ a. a ≡ x) (element_text x)) xs
    each [] p = tt
    each (x ∷ xs) p = (reads_made (λ a. a ≡ x) (λ y. y.0) _ (λ y like. like) (reads_element x p.0), each xs p.1)

-- a list through nothing
map_id : (xs : List ℕ) → map (λ x. x) xs ≡ xs
map_id [] = refl
map_id (x ∷ xs) = ap (λ ys. x ∷ ys) (map_id xs)

-- a declaration and its line feed
declaration_reads : (n : List ℕ) (at : Place) (w : What) → IsName n → IsRegularWhat w →
    ReadsDecl declaration (record { name = n; at = at; what = w }) (ended (what_line n w))
declaration_reads n at (what.Map images) is h =
    reads_trail Any (10 ∷ []) _ feed_gap (λ rest a. tt)
    (subst (ReadsDecl declaration (record { name = n; at = at; what = what.Map images })) map_text
    (reads_first _ _ _
    (reads_made (λ a. placeless_decl a ≡ record { name = n; at = nowhere; what = what.Map images }) (λ x. record { name = x.0.0; at = x.0.1; what = what.Map x.1 }) _
    (λ x like i. record { name = like.0 i; at = nowhere; what = what.Map ((sym (map_id x.1) ∙ like.1 ∙ map_id images) i) })
    (reads_word (codes "map") _ is_map
    (reads_and n _ (λ rest r. refl) (reads_name n is)
    (reads_gap (codes " ") _ space_gap (reads_after (codes "=") _ (λ rest r. inl is_equals)
    (reads_gap (codes " ") _ space_gap (reads_until (codes ";") _ is_semicolon (λ rest. refl) (images_read images h.0 h.1))))))))))
  where
    map_text : codes "map" ++ (codes " " ++ (n ++ (codes " " ++ (codes "=" ++ (codes " " ++ (joined (codes ", ") (map element_text images) ++ codes ";"))))))
        ≡ what_line n (what.Map images)
    map_text = simp append_assoc
declaration_reads n at (what.Var c s) is h =
    reads_trail Any (10 ∷ []) _ feed_gap (λ rest a. tt)
    (subst (ReadsDecl declaration (record { name = n; at = at; what = what.Var c s })) variable_text
    (reads_second _ _ _
    (reads_made (λ a. placeless_decl a ≡ record { name = n; at = nowhere; what = what.Var c s }) (λ x. record { name = x.1.0.0; at = x.1.0.1; what = what.Var x.0 x.1.1 }) _
    (λ x like i. record { name = like.1.0 i; at = nowhere; what = what.Var (like.0 i) (like.1.1 i) })
    (reads_and (class_text c) _ (λ rest r. refl) (class_reads c)
    (reads_gap (codes " ") _ space_gap
    (reads_until (codes ";") _ is_semicolon (λ rest. refl)
    (reads_and n (size_text s) (λ rest r. goes s rest r) (reads_name n is) (size_reads c s h))))))))
  where
    variable_text : class_text c ++ (codes " " ++ ((n ++ size_text s) ++ codes ";")) ≡ what_line n (what.Var c s)
    variable_text = simp append_assoc

    goes : (o : Option ℕ) (rest : List ℕ) → NothingGoesOn rest → NothingGoesOn (size_text o ++ rest)
    goes None rest r = r
    goes (Some m) rest r = refl

-- the line of the field
field_reads : (f : FieldId) →
    Reading Any (after (codes "field") (until (codes ";") (meaning (codes "gf2") Gf2 or meaning (codes "gf256") Gf256))) (λ a. a ≡ f) (field_line f)
field_reads Gf2 =
    reads_word (codes "field") (codes "gf2" ++ codes ";") is_field
    (reads_until (codes ";") (codes "gf2") is_semicolon (λ rest. refl) (reads_first _ _ _ (reads_meaning (codes "gf2") Gf2 is_gf2)))
field_reads Gf256 =
    reads_word (codes "field") (codes "gf256" ++ codes ";") is_field
    (reads_until (codes ";") (codes "gf256") is_semicolon (λ rest. refl) (reads_second _ _ _ (reads_meaning (codes "gf256") Gf256 is_gf256)))

-- the declarations, one behind the other
decls_read : (decls : List Decl) → AllByRecursion IsRegularDecl decls → Reading Any (many declaration) (AreLike placeless_decl decls) (flat_map (λ d. ended (decl_line d)) decls)
decls_read decls all = reads_many declaration placeless_decl (λ d. ended (decl_line d)) decls (λ d rest a. tt) (each decls all)
  where
    each : (ds : List Decl) → AllByRecursion IsRegularDecl ds → AllByRecursion (λ d. ReadsDecl declaration d (ended (decl_line d))) ds
    each [] p = tt
    each (d ∷ ds) p = (declaration_reads d.name d.at d.what p.0.0 p.0.1, each ds p.1)

-- the text in three parts
canonical_parts : (p : Program) → ended (field_line p.field) ++ (flat_map (λ d. ended (decl_line d)) p.decls ++ laid 0 (flat_map stmt_lines p.body)) ≡ canonical p
canonical_parts p =
    ap (λ t. ended (field_line p.field) ++ t)
    (ap (λ t. t ++ laid 0 (flat_map stmt_lines p.body)) (sym (flat_map-map ended decl_line p.decls))
    ∙ sym (flat_map-append ended (map decl_line p.decls) (flat_map stmt_lines p.body)))

-- the canonical text of a regular program is read as the program
program_reads : (p : Program) → IsRegular p → Reading Any program (λ a. AreAlike a p) (canonical p)
program_reads p h =
    subst (Reading Any program (λ a. AreAlike a p)) (canonical_parts p)
    (reads_made (λ a. AreAlike a p) (λ x. record { field = x.0; decls = x.1.0; body = x.1.1 }) _
    (λ x like i. record { field = like.0 i; decls = like.1.0 i; body = like.1.1 i })
    (reads_and (ended (field_line p.field)) _ (λ rest a. tt) (reads_trail Any (10 ∷ []) (field_line p.field) feed_gap (λ rest a. tt) (field_reads p.field))
    (reads_and _ _ (λ rest a. tt) (decls_read p.decls h.decls) (stmts_read p.body most_brackets 0 (all p.body) h.body))))
  where
    all : (ss : List Stmt) → AllByRecursion (λ s. (brackets loops : ℕ) → IsRegularStmt s brackets → Reading Any (statement brackets) (λ a. placeless_stmt a ≡ placeless_stmt s) (laid loops (stmt_lines s))) ss
    all [] = tt
    all (s ∷ ss) = (stmt_reads s, all ss)

-- the canonical text of a regular program spells a program that is like it
pub canonical_spells : (p : Program) → IsRegular p → (t : List ℕ) → t ≡ canonical p → (q : Program) × Spells q t × AreAlike q p
canonical_spells p h t is =
    let read = (program_reads p h).at t [] [] tt tt in (
      read.value,
      (
        read.tokens,
        (
          read.behind,
          subst (λ l. BeginsWith t l read.tokens read.behind) (append-nil (canonical p) ∙ sym is)
              (subst (λ l. BeginsWith t (canonical p ++ []) read.tokens l) (append-nil read.behind) read.begins),
          IsGap-append read.behind (10 ∷ []) read.is_gap feed_gap,
        ),
        read.spells,
      ),
      read.like,
    )

-- the parts of the text, one after the other
pub canonical_appended : (p : Program) (t1 t2 t3 : List ℕ) → t1 ≡ ended (field_line p.field) → t2 ≡ t1 ++ laid 0 (map decl_line p.decls) →
    t3 ≡ t2 ++ laid 0 (flat_map stmt_lines p.body) → t3 ≡ canonical p
canonical_appended p t1 t2 t3 is1 is2 is3 =
    let whole : t3 ≡ (ended (field_line p.field) ++ laid 0 (map decl_line p.decls)) ++ laid 0 (flat_map stmt_lines p.body) = cc in
    whole ∙ append_assoc (ended (field_line p.field)) _ _
    ∙ ap (λ t. ended (field_line p.field) ++ t) (sym (flat_map-append ended (map decl_line p.decls) (flat_map stmt_lines p.body)))
