-- The canonical text of a regular program spells it, apart from places.
use Rattle.std.proofs.Common.{◌≡◌, ℕ, zero, suc, ◌+◌, inl, List, [], ◌∷◌, ◌++◌, flat_map, refl, sym, ap, ◌∙◌, subst, codes, decimal, append_assoc}
use Rattle.std.proofs.lemmas.Grind.{flat_map-append}
use Rattle.std.specs.List.{AllByRecursion}
use Rattle.mk_base.specs.declared.Place.{Place}
use Rattle.mk_ast.specs.declared.tree.Stmt.{Stmt}
use Rattle.mk_ast.specs.declared.tree.Stmt.TheVariants as stmt
use Rattle.mk_ast.specs.declared.tree.Stmt.TheOpen.{Stmt-F}
use Rattle.mk_ast.specs.declared.tree.Stmt.TheViews as stmt_views
use Rattle.mk_ast.specs.declared.tree.Ref.{Ref}
use Rattle.mk_ast.specs.declared.tree.Expr.{Expr}
use Rattle.mk_ast.specs.Tokens.{IsGap, IsName, NothingGoesOn}
use Rattle.mk_ast.specs.Phrases.{Phrase, many}
use Rattle.mk_ast.specs.Grammar.{assignment, heading, statement}
use Rattle.mk_ast.specs.Canonical.{ended, indent, laid, reference_text, expr_text, assignment_line, head_line, stmt_lines}
use Rattle.mk_ast.specs.Regular.{IsInRange, Within, IsRegularRef, IsRegularExpr, IsRegularStmt}
use Rattle.mk_ast.specs.Places.{nowhere, placeless_stmt}
use Rattle.mk_ast.proofs.ExprReading.{reference_reads, expr_reads}
use Rattle.mk_ast.proofs.Induction.{all_both, stmt_induction}
use Rattle.mk_ast.proofs.Layers.{laid-Set, laid-Loop, placeless_stmt-Set, placeless_stmt-Loop}
use Rattle.mk_ast.proofs.Reading.{Reading, Any, AreLike, reads_gap, reads_trail, reads_after, reads_until, reads_and, reads_made, reads_first, reads_second, reads_many}
use Rattle.mk_ast.proofs.RegularLayers.{regular_stmt}
use Rattle.mk_ast.proofs.TokenTexts.{is_semicolon, is_equals, is_dots, is_curly_opening, is_curly_closing, is_for, is_in, reads_word, reads_name, reads_number, space_gap, feed_gap}

-- the text is read as a statement like this one
abbrev pub ReadsStmt : Phrase Stmt → Stmt → List ℕ → Type 0
ReadsStmt phrase s t = Reading Any phrase (λ a. placeless_stmt a ≡ placeless_stmt s) t

-- the text of the statement is read within any loops, where it is regular
abbrev StmtReads : Stmt → Type 0
StmtReads s = (brackets loops : ℕ) → IsRegularStmt s brackets → ReadsStmt (statement brackets) s (laid loops (stmt_lines s))

-- a line feed
abbrev feed : List ℕ
feed = 10 ∷ []

-- the spaces in front of a line are a gap
indent_gap : (loops : ℕ) → IsGap (indent loops)
indent_gap zero = tt
indent_gap (suc loops) = inl (refl, inl (refl, indent_gap loops))

-- an assignment and its line feed
assignment_reads : (target : Ref) (value : Expr) (brackets : ℕ) → IsRegularRef target brackets → IsRegularExpr value brackets →
    ReadsStmt (assignment brackets) (stmt.Set target value) (ended (assignment_line target value))
assignment_reads target value brackets r h =
    reads_trail Any feed (assignment_line target value) feed_gap (λ rest a. tt)
    (subst (ReadsStmt (assignment brackets) (stmt.Set target value)) assignment_text
    (reads_made (λ a. placeless_stmt a ≡ placeless_stmt (stmt.Set target value)) (λ x. stmt.Set x.0 x.1) _
    (λ x like. placeless_stmt-Set x.0 x.1 ∙ (λ i. stmt.Set (like.0 i) (like.1 i)) ∙ sym (placeless_stmt-Set target value))
    (reads_and (reference_text target) _ (λ rest a. refl) (reference_reads target brackets r)
    (reads_gap (codes " ") _ space_gap (reads_after (codes "=") _ (λ rest a. inl is_equals)
    (reads_gap (codes " ") _ space_gap (reads_until (codes ";") _ is_semicolon (λ rest. refl) (expr_reads value brackets h))))))))
  where
    assignment_text : reference_text target ++ (codes " " ++ (codes "=" ++ (codes " " ++ (expr_text value ++ codes ";")))) ≡ assignment_line target value
    assignment_text = simp append_assoc

-- the head of a loop
heading_reads : (n : List ℕ) (from to : ℕ) → IsName n → IsInRange from → IsInRange to →
    Reading NothingGoesOn heading (λ x. (x.0.0 ≡ n) × ((x.1.0 ≡ from) × (x.1.1 ≡ to)))
    (codes "for" ++ (codes " " ++ (n ++ (codes " " ++ (codes "in" ++ (codes " " ++ (decimal from ++ (codes ".." ++ decimal to))))))))
heading_reads n from to is f t =
    reads_word (codes "for") _ is_for
    (reads_and n _ (λ rest r. refl) (reads_name n is)
    (reads_gap (codes " ") _ space_gap
    (reads_word (codes "in") _ is_in
    (reads_and (decimal from) _ (λ rest r. refl) (reads_number from f)
    (reads_after (codes "..") _ (λ rest r. inl is_dots) (reads_number to t))))))

-- an assignment within loops
set_reads : (target : Ref) (value : Expr) → StmtReads (stmt.Set target value)
unfolding statement
set_reads target value brackets loops h =
    let layer = regular_stmt (Stmt-F.Set target value) brackets (subst (λ s. IsRegularStmt s brackets) (sym (stmt_views.rolls-Set target value)) h) in
    subst (ReadsStmt (statement brackets) (stmt.Set target value)) (sym (laid-Set loops target value))
    (reads_gap (indent loops) _ (indent_gap loops) (by brackets (assignment_reads target value brackets layer.0 layer.1)))
  where
    by : (b : ℕ) → ReadsStmt (assignment b) (stmt.Set target value) (ended (assignment_line target value)) →
        ReadsStmt (statement b) (stmt.Set target value) (ended (assignment_line target value))
    by zero reading = reading
    by (suc b) reading = reads_first _ _ _ reading

-- the bodies of statements, one behind the other
pub stmts_read : (body : List Stmt) (brackets loops : ℕ) → AllByRecursion StmtReads body → AllByRecursion (λ s. IsRegularStmt s brackets) body →
    Reading Any (many (statement brackets)) (AreLike placeless_stmt body) (laid loops (flat_map stmt_lines body))
stmts_read body brackets loops all regular =
    subst (Reading Any (many (statement brackets)) (AreLike placeless_stmt body)) (sym (lines body))
    (reads_many (statement brackets) placeless_stmt (λ s. laid loops (stmt_lines s)) body (λ s rest a. tt)
    (all_both StmtReads (λ s. IsRegularStmt s brackets) _ body (λ s reads r. reads brackets loops r) all regular))
  where
    lines : (ss : List Stmt) → laid loops (flat_map stmt_lines ss) ≡ flat_map (λ s. laid loops (stmt_lines s)) ss
    lines [] = refl
    lines (s ∷ ss) = flat_map-append _ (stmt_lines s) (flat_map stmt_lines ss) ∙ ap (λ t. laid loops (stmt_lines s) ++ t) (lines ss)

-- the lines of a loop, put together as its tokens are
loop_text : (n : List ℕ) (from to : ℕ) (inside front : List ℕ) →
    ((codes "for" ++ (codes " " ++ (n ++ (codes " " ++ (codes "in" ++ (codes " " ++ (decimal from ++ (codes ".." ++ decimal to))))))))
    ++ (codes " " ++ (codes "{" ++ (((feed ++ inside) ++ front) ++ codes "}")))) ++ feed
    ≡ ended (head_line n from to) ++ (inside ++ (front ++ ended (codes "}")))
loop_text n from to inside front = simp append_assoc

-- a loop
loop_reads : (n : List ℕ) (at : Place) (from to : ℕ) (body : List Stmt) → AllByRecursion StmtReads body → StmtReads (stmt.Loop n at from to body)
unfolding statement
loop_reads n at from to body all brackets loops h =
    let layer = regular_stmt (Stmt-F.Loop n at from to body) brackets (subst (λ s. IsRegularStmt s brackets) (sym (stmt_views.rolls-Loop n at from to body)) h) in
    subst (ReadsStmt (statement brackets) (stmt.Loop n at from to body)) (sym (laid-Loop loops n at from to body))
    (reads_gap (indent loops) _ (indent_gap loops) (by brackets layer.0 layer.1 layer.2 layer.3))
  where
    by : (b : ℕ) → IsName n → IsInRange from → IsInRange to → Within (λ b'. AllByRecursion (λ s. IsRegularStmt s b') body) b →
        ReadsStmt (statement b) (stmt.Loop n at from to body) (ended (head_line n from to) ++ (laid (loops + 1) (flat_map stmt_lines body) ++ (indent loops ++ ended (codes "}"))))
    by zero is f t never = absurd never
    by (suc b) is f t regular =
        subst (ReadsStmt (statement (suc b)) (stmt.Loop n at from to body)) (loop_text n from to (laid (loops + 1) (flat_map stmt_lines body)) (indent loops))
        (reads_trail Any feed _ feed_gap (λ rest a. tt)
        (reads_second _ _ _
        (reads_made (λ a. placeless_stmt a ≡ placeless_stmt (stmt.Loop n at from to body)) (λ x. stmt.Loop x.0.0.0 x.0.0.1 x.0.1.0 x.0.1.1 x.1) _
        (λ x like. placeless_stmt-Loop x.0.0.0 x.0.0.1 x.0.1.0 x.0.1.1 x.1
        ∙ (λ i. stmt.Loop (like.0.0 i) nowhere (like.0.1.0 i) (like.0.1.1 i) (like.1 i))
        ∙ sym (placeless_stmt-Loop n at from to body))
        (reads_and _ _ (λ rest a. refl) (heading_reads n from to is f t)
        (reads_gap (codes " ") _ space_gap (reads_after (codes "{") _ (λ rest a. inl is_curly_opening)
        (reads_until (codes "}") _ is_curly_closing (λ rest. tt)
        (reads_trail Any (indent loops) _ (indent_gap loops) (λ rest a. tt)
        (reads_gap feed _ feed_gap (stmts_read body b (loops + 1) all regular))))))))))

-- the text of a regular statement is read as the statement
pub stmt_reads : (s : Stmt) → StmtReads s
stmt_reads = stmt_induction StmtReads set_reads loop_reads
