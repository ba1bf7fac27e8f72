-- The canonical text of a regular expression spells it, apart from places.
use Rattle.std.proofs.Common.{◌≡◌, ℕ, zero, suc, ◌≤◌, Bool, true, false, ◌||◌, inl, List, [], ◌∷◌, ◌++◌, Option, Some, None, map, length, refl, sym, ap, ◌∙◌, subst, codes, arith, true≢false}
use Rattle.std.specs.List.{AllByRecursion}
use Rattle.std.specs.Option.{option_map}
use Rattle.mk_base.specs.declared.Place.{Place}
use Rattle.mk_ast.specs.declared.tree.Ref.{Ref}
use Rattle.mk_ast.specs.declared.tree.Expr.{Expr}
use Rattle.mk_ast.specs.declared.tree.Expr.TheVariants as expr
use Rattle.mk_ast.specs.declared.tree.Expr.TheOpen.{Expr-F}
use Rattle.mk_ast.specs.declared.tree.Expr.TheViews as expr_views
use Rattle.mk_ast.specs.declared.tree.Index.{Index}
use Rattle.mk_ast.specs.Tokens.{IsName, NothingGoesOn}
use Rattle.mk_ast.specs.Phrases.{Phrase, nothing, after, until, optional}
use Rattle.mk_ast.specs.Grammar.{bracketed, index_sum, reference, factor, product, sum_with, sum}
use Rattle.mk_ast.specs.Canonical.{joined, parenthesized, wrapped, subscript_text, reference_text, is_sum, is_product, summand_text, factor_text, expr_text}
use Rattle.mk_ast.specs.Regular.{Within, Wrapped, IsRegularSubscript, IsRegularRef, IsRegularExprLayer, IsRegularExpr}
use Rattle.mk_ast.specs.Places.{nowhere, placeless_index, placeless_ref, placeless_expr}
use Rattle.mk_ast.proofs.Induction.{all_both, expr_induction}
use Rattle.mk_ast.proofs.IndexReading.{index_reads}
use Rattle.mk_ast.proofs.Layers.{expr_text-Lit, expr_text-Read, expr_text-Sq, expr_text-Apply, expr_text-Sum, expr_text-Product, placeless_expr-Lit, placeless_expr-Read, placeless_expr-Sq, placeless_expr-Apply, placeless_expr-Sum, placeless_expr-Product}
use Rattle.mk_ast.proofs.Reading.{Reading, reads_before, reads_as, reads_nothing, reads_after, reads_until, reads_and, reads_made, reads_first, reads_second, reads_separated, reads_alone, reads_several}
use Rattle.mk_ast.proofs.RegularLayers.{regular_expr}
use Rattle.mk_ast.proofs.TokenTexts.{is_plus, is_times, is_opening, is_closing, is_square_opening, is_square_closing, is_sq, word_token, reads_name, reads_element, space_gap}

-- ---- references

-- the brackets behind the name of an array, if there are any
subscript_reads : (o : Option Index) (brackets : ℕ) → IsRegularSubscript o brackets →
    Reading NothingGoesOn (optional (bracketed (codes "[") (codes "]") index_sum brackets)) (λ a. option_map placeless_index a ≡ option_map placeless_index o) (subscript_text o)
subscript_reads None brackets h = reads_nothing NothingGoesOn _ _ None refl refl
subscript_reads (Some i) zero never = absurd never
subscript_reads (Some i) (suc brackets) h =
    reads_as (optional (bracketed (codes "[") (codes "]") index_sum (suc brackets))) (λ a. option_map placeless_index a ≡ Some (placeless_index i)) _ Some
    (λ tokens a spells like. (spells, ap Some like))
    (reads_before NothingGoesOn _ (λ rest r. tt)
    (reads_after (codes "[") _ (λ rest r. inl is_square_opening)
    (reads_until (codes "]") _ is_square_closing (λ rest. refl) (index_reads i brackets h).sum)))

-- the text of a regular reference is read as the reference
pub reference_reads : (r : Ref) (brackets : ℕ) → IsRegularRef r brackets →
    Reading NothingGoesOn (reference brackets) (λ a. placeless_ref a ≡ placeless_ref r) (reference_text r)
reference_reads r brackets h =
    reads_made (λ a. placeless_ref a ≡ placeless_ref r) (λ x. record { name = x.0.0; at = x.0.1; index = x.1 }) _
    (λ x like i. record { name = like.0 i; at = nowhere; index = like.1 i })
    (reads_and r.name (subscript_text r.index) (λ rest s. goes r.index rest s) (reads_name r.name h.0) (subscript_reads r.index brackets h.1))
  where
    goes : (o : Option Index) (rest : List ℕ) → NothingGoesOn rest → NothingGoesOn (subscript_text o ++ rest)
    goes None rest s = s
    goes (Some i) rest s = refl

-- ---- expressions

-- what may stand within parentheses
abbrev pub inner_expr : ℕ → Phrase Expr
inner_expr zero = nothing
inner_expr (suc brackets) = after (codes "(") (until (codes ")") (sum brackets))

-- factors and products, by the brackets that are left
abbrev factor_at : ℕ → Phrase Expr
factor_at brackets = factor brackets (inner_expr brackets)

-- a product of such factors
abbrev product_at : ℕ → Phrase Expr
product_at brackets = product brackets (inner_expr brackets)

-- the text is read as an expression like this one
abbrev pub ReadsExpr : Phrase Expr → Expr → List ℕ → Type 0
ReadsExpr phrase e t = Reading NothingGoesOn phrase (λ a. placeless_expr a ≡ placeless_expr e) t

-- how the text of an expression is read, with so many brackets left
record ExprReading (e : Expr) (brackets : ℕ) : Type 0 where
  as_sum : ReadsExpr (sum brackets) e (expr_text e)
  as_product : is_sum e ≡ false → ReadsExpr (product_at brackets) e (expr_text e)
  as_factor : is_sum e ≡ false → is_product e ≡ false → ReadsExpr (factor_at brackets) e (expr_text e)

-- the text of the expression is read, where it is regular
abbrev ExprReads : Expr → Type 0
ExprReads e = (brackets : ℕ) → IsRegularExpr e brackets → ExprReading e brackets

-- a sum, by the brackets that are left
by_sum : (brackets : ℕ) (e : Expr) (t : List ℕ) → ReadsExpr (sum_with brackets (inner_expr brackets)) e t → ReadsExpr (sum brackets) e t
unfolding sum
by_sum zero e t reading = reading
by_sum (suc brackets) e t reading = reading

-- a factor alone is a product, and a product alone a sum
product_alone : (brackets : ℕ) (e : Expr) (t : List ℕ) → ReadsExpr (factor_at brackets) e t → ReadsExpr (product_at brackets) e t
product_alone brackets e t reading = reads_alone (factor_at brackets) placeless_expr (codes "*") expr.Product e t reading

-- what is read as a product is read as a sum
sum_alone : (brackets : ℕ) (e : Expr) (t : List ℕ) → ReadsExpr (product_at brackets) e t → ReadsExpr (sum brackets) e t
sum_alone brackets e t reading = by_sum brackets e t (reads_alone (product_at brackets) placeless_expr (codes "+") expr.Sum e t reading)

-- a sum in parentheses
enclosed : (brackets : ℕ) (e : Expr) (t : List ℕ) → ReadsExpr (sum brackets) e t → ReadsExpr (inner_expr (suc brackets)) e (parenthesized t)
enclosed brackets e t reading =
    reads_before NothingGoesOn (parenthesized t) (λ rest r. tt)
    (reads_after (codes "(") (t ++ codes ")") (λ rest r. inl is_opening) (reads_until (codes ")") t is_closing (λ rest. refl) reading))

-- and so a factor
enclosed_factor : (brackets : ℕ) (e : Expr) (t : List ℕ) → ReadsExpr (sum brackets) e t → ReadsExpr (factor_at (suc brackets)) e (parenthesized t)
enclosed_factor brackets e t reading =
    reads_second _ _ _ (reads_second _ _ _ (reads_second _ _ _ (reads_second _ _ _ (enclosed brackets e t reading))))

-- an expression as a part of a sum
sum_part : (e : Expr) (brackets : ℕ) → ExprReads e → Wrapped (is_sum e) (IsRegularExpr e) brackets → ReadsExpr (product_at brackets) e (summand_text e (expr_text e))
sum_part e brackets reads = by (is_sum e) refl brackets
  where
    by : (s : Bool) → is_sum e ≡ s → (b : ℕ) → Wrapped s (IsRegularExpr e) b → ReadsExpr (product_at b) e (wrapped s (expr_text e))
    by true is zero never = absurd never
    by true is (suc b) h = product_alone (suc b) e _ (enclosed_factor b e (expr_text e) (reads b h).as_sum)
    by false is b h = (reads b h).as_product is

-- an expression as a factor
factor_part : (e : Expr) (brackets : ℕ) → ExprReads e → Wrapped (is_sum e || is_product e) (IsRegularExpr e) brackets →
    ReadsExpr (factor_at brackets) e (factor_text e (expr_text e))
factor_part e brackets reads = by (is_sum e) (is_product e) refl refl brackets
  where
    by : (s p : Bool) → is_sum e ≡ s → is_product e ≡ p → (b : ℕ) → Wrapped (s || p) (IsRegularExpr e) b →
        ReadsExpr (factor_at b) e (wrapped (s || p) (expr_text e))
    by true p is is' zero never = absurd never
    by true p is is' (suc b) h = enclosed_factor b e (expr_text e) (reads b h).as_sum
    by false true is is' zero never = absurd never
    by false true is is' (suc b) h = enclosed_factor b e (expr_text e) (reads b h).as_sum
    by false false is is' b h = (reads b h).as_factor is is'

-- what is read as a product is read wherever an expression stands
of_product : (e : Expr) (brackets : ℕ) → is_product e ≡ true → ReadsExpr (product_at brackets) e (expr_text e) → ExprReading e brackets
of_product e brackets is reading = record {
  as_sum = sum_alone brackets e _ reading;
  as_product = λ no_sum. reading;
  as_factor = λ no_sum no_product. absurd (true≢false (sym is ∙ no_product));
}

-- what is read as a factor is read wherever an expression stands
of_factor : (e : Expr) (brackets : ℕ) (t : List ℕ) → expr_text e ≡ t → ReadsExpr (factor_at brackets) e t → ExprReading e brackets
of_factor e brackets t is reading =
    let reading' = subst (ReadsExpr (factor_at brackets) e) (sym is) reading in
    record {
      as_sum = sum_alone brackets e _ (product_alone brackets e _ reading');
      as_product = λ no_sum. product_alone brackets e _ reading';
      as_factor = λ no_sum no_product. reading';
    }

-- what a regular expression has, by its layer
regular : (e : Expr) (d : Expr-F Expr) (brackets : ℕ) → expr_views.roll-Expr d ≡ e → IsRegularExpr e brackets →
    IsRegularExprLayer Expr (λ y. y) IsRegularExpr d brackets
regular e d brackets is h = regular_expr d brackets (subst (λ x. IsRegularExpr x brackets) (sym is) h)

-- an element
lit_reads : (value : ℕ) (at : Place) → ExprReads (expr.Lit value at)
lit_reads value at brackets h =
    of_factor (expr.Lit value at) brackets _ (expr_text-Lit value at)
    (reads_first _ _ _
    (reads_made (λ a. placeless_expr a ≡ placeless_expr (expr.Lit value at)) (λ x. expr.Lit x.0 x.1) _
    (λ x is. placeless_expr-Lit x.0 x.1 ∙ ap (λ v. expr.Lit v nowhere) is ∙ sym (placeless_expr-Lit value at))
    (reads_element value (regular (expr.Lit value at) (Expr-F.Lit value at) brackets (expr_views.rolls-Lit value at) h))))

-- a reference
read_reads : (from : Ref) → ExprReads (expr.Read from)
read_reads from brackets h =
    of_factor (expr.Read from) brackets _ (expr_text-Read from)
    (reads_second _ _ _ (reads_second _ _ _ (reads_second _ _ _ (reads_first _ _ _
    (reads_made (λ a. placeless_expr a ≡ placeless_expr (expr.Read from)) expr.Read _
    (λ r is. placeless_expr-Read r ∙ ap expr.Read is ∙ sym (placeless_expr-Read from))
    (reference_reads from brackets (regular (expr.Read from) (Expr-F.Read from) brackets (expr_views.rolls-Read from) h)))))))

-- a square
sq_reads : (arg : Expr) → ExprReads arg → ExprReads (expr.Sq arg)
sq_reads arg reads brackets h =
    of_factor (expr.Sq arg) brackets _ (expr_text-Sq arg)
    (by brackets (regular (expr.Sq arg) (Expr-F.Sq arg) brackets (expr_views.rolls-Sq arg) h))
  where
    by : (b : ℕ) → Within (IsRegularExpr arg) b → ReadsExpr (factor_at b) (expr.Sq arg) (codes "sq" ++ parenthesized (expr_text arg))
    by zero never = absurd never
    by (suc b) inside =
        reads_second _ _ _ (reads_first _ _ _
        (reads_made (λ a. placeless_expr a ≡ placeless_expr (expr.Sq arg)) expr.Sq _
        (λ a is. placeless_expr-Sq a ∙ ap expr.Sq is ∙ sym (placeless_expr-Sq arg))
        (reads_after (codes "sq") _ (λ rest r. word_token (codes "sq") (parenthesized (expr_text arg) ++ rest) is_sq refl) (enclosed b arg (expr_text arg) (reads b inside).as_sum))))

-- a map and its argument
apply_reads : (n : List ℕ) (at : Place) (arg : Expr) → ExprReads arg → ExprReads (expr.Apply n at arg)
apply_reads n at arg reads brackets h =
    let layer = regular (expr.Apply n at arg) (Expr-F.Apply n at arg) brackets (expr_views.rolls-Apply n at arg) h in
    of_factor (expr.Apply n at arg) brackets _ (expr_text-Apply n at arg) (by brackets layer.0 layer.1)
  where
    by : (b : ℕ) → IsName n → Within (IsRegularExpr arg) b → ReadsExpr (factor_at b) (expr.Apply n at arg) (n ++ parenthesized (expr_text arg))
    by zero is never = absurd never
    by (suc b) is inside =
        reads_second _ _ _ (reads_second _ _ _ (reads_first _ _ _
        (reads_made (λ a. placeless_expr a ≡ placeless_expr (expr.Apply n at arg)) (λ x. expr.Apply x.0.0 x.0.1 x.1) _
        (λ x like. placeless_expr-Apply x.0.0 x.0.1 x.1 ∙ (λ i. expr.Apply (like.0 i) nowhere (like.1 i)) ∙ sym (placeless_expr-Apply n at arg))
        (reads_and n _ (λ rest r. refl) (reads_name n is) (enclosed b arg (expr_text arg) (reads b inside).as_sum)))))

-- a sum of several parts
sum_reads : (parts : List Expr) → AllByRecursion ExprReads parts → ExprReads (expr.Sum parts)
sum_reads parts all brackets h =
    let layer = regular (expr.Sum parts) (Expr-F.Sum parts) brackets (expr_views.rolls-Sum parts) h in
    record {
      as_sum = subst (ReadsExpr (sum brackets) (expr.Sum parts)) (sym (expr_text-Sum parts))
          (by_sum brackets (expr.Sum parts) _ (by parts layer.0
          (all_both ExprReads (λ e. Wrapped (is_sum e) (IsRegularExpr e) brackets) _ parts (λ e reads r. sum_part e brackets reads r) all layer.1)));
      as_product = λ no_sum. absurd (true≢false no_sum);
      as_factor = λ no_sum no_product. absurd (true≢false no_sum);
    }
  where
    by : (xs : List Expr) → 2 ≤ length xs → AllByRecursion (λ e. ReadsExpr (product_at brackets) e (summand_text e (expr_text e))) xs →
        ReadsExpr (sum_with brackets (inner_expr brackets)) (expr.Sum xs) (joined (codes " + ") (map (λ e. summand_text e (expr_text e)) xs))
    by [] two p = absurd (omega arith)
    by (x ∷ []) two p = absurd (omega arith)
    by (x ∷ y ∷ zs) two p =
        reads_several (product_at brackets) placeless_expr (codes "+") expr.Sum expr.Sum placeless_expr-Sum x y zs _
        (reads_separated (product_at brackets) placeless_expr (λ e. summand_text e (expr_text e)) (codes " ") (codes "+") (codes " ")
        space_gap space_gap is_plus (λ rest. refl) x (y ∷ zs) p)

-- a product of several parts
product_reads : (parts : List Expr) → AllByRecursion ExprReads parts → ExprReads (expr.Product parts)
product_reads parts all brackets h =
    let layer = regular (expr.Product parts) (Expr-F.Product parts) brackets (expr_views.rolls-Product parts) h in
    of_product (expr.Product parts) brackets refl
    (subst (ReadsExpr (product_at brackets) (expr.Product parts)) (sym (expr_text-Product parts))
    (by parts layer.0
    (all_both ExprReads (λ e. Wrapped (is_sum e || is_product e) (IsRegularExpr e) brackets) _ parts (λ e reads r. factor_part e brackets reads r) all layer.1)))
  where
    by : (xs : List Expr) → 2 ≤ length xs → AllByRecursion (λ e. ReadsExpr (factor_at brackets) e (factor_text e (expr_text e))) xs →
        ReadsExpr (product_at brackets) (expr.Product xs) (joined (codes " * ") (map (λ e. factor_text e (expr_text e)) xs))
    by [] two p = absurd (omega arith)
    by (x ∷ []) two p = absurd (omega arith)
    by (x ∷ y ∷ zs) two p =
        reads_several (factor_at brackets) placeless_expr (codes "*") expr.Product expr.Product placeless_expr-Product x y zs _
        (reads_separated (factor_at brackets) placeless_expr (λ e. factor_text e (expr_text e)) (codes " ") (codes "*") (codes " ")
        space_gap space_gap is_times (λ rest. refl) x (y ∷ zs) p)

-- the text of a regular expression is read as the expression
pub expr_reads : (e : Expr) (brackets : ℕ) → IsRegularExpr e brackets → ReadsExpr (sum brackets) e (expr_text e)
expr_reads e brackets h = (expr_induction ExprReads lit_reads read_reads sq_reads apply_reads sum_reads product_reads e brackets h).as_sum
