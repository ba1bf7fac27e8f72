-- The operands that the variables hold stand for the elements that they hold, kind by kind.
use Rattle.std.proofs.Common.{◌≡◌, ℕ, zero, suc, ◌+◌, ◌<◌, Bool, true, false, not, cond, List, [], ◌∷◌, Option, Some, bytes_eq, length, get_or, set, one-add, length-set, sym, subst, ◌∙◌, arith}
use Rattle.std.specs.List.{AllZip}
use Rattle.mk_ast.specs.declared.tree.Decl.{Decl}
use Rattle.mk_ast.specs.declared.tree.What.{What}
use Rattle.mk_ast.specs.declared.tree.What.TheVariants as what
use Rattle.mk_ast.specs.declared.tree.Class.{Class}
use Rattle.mk_ssa.specs.declared.Operand.{Operand}
use Rattle.mk_ssa.specs.declared.Operand.TheVariants.{Block}
use Rattle.mk_ssa.specs.declared.Op.{Op}
use Rattle.mk_types.specs.Scope.{declared, is_shared_class}
use Rattle.mk_types.specs.Elements.{size_of, number_of}
use Rattle.mk_types.specs.Environment.{Environment, element, stored}
use Rattle.mk_types.proofs.Accepted.{first_or_rest}
use Rattle.mk_unroll.proofs.Stands.{Setting, Stands, Grows}

-- each operand, shared or public, stands for the element at its place
abbrev pub EachStands : Setting → Bool → List Op → List Operand → List ℕ → Type 0
EachStands t shared values xs elements = AllZip (λ x a. Stands t shared values x a) xs elements

-- a variable holds operands of its kind
abbrev pub VariableStands : Setting → List Op → What → List Operand → List ℕ → Type 0
VariableStands t values (what.Map images) xs elements = Unit {0}
VariableStands t values (what.Var class size) xs elements = (length xs ≡ size_of size) × EachStands t (is_shared_class class) values xs elements

-- each variable does
abbrev pub EnvironmentStands : Setting → List Op → List Decl → Environment Operand → Environment ℕ → Type 0
EnvironmentStands t values [] [] [] = Unit {0}
EnvironmentStands t values (d ∷ ds) (v ∷ env) (w ∷ elements) = VariableStands t values d.what v w × EnvironmentStands t values ds env elements
EnvironmentStands t values ds env elements = ⊥

module _ (t : Setting) where
  -- operands go on standing for elements
  pub each_grows : (shared : Bool) (before after : List Op) → Grows t before after → (xs : List Operand) (elements : List ℕ) →
      EachStands t shared before xs elements → EachStands t shared after xs elements
  each_grows shared before after grows [] [] all = tt
  each_grows shared before after grows (x ∷ xs) (a ∷ es) all = (grows shared x a all.0, each_grows shared before after grows xs es all.1)
  each_grows shared before after grows [] (a ∷ es) all = absurd all
  each_grows shared before after grows (x ∷ xs) [] all = absurd all

  -- a variable goes on holding them
  variable_grows : (before after : List Op) → Grows t before after → (w : What) (xs : List Operand) (elements : List ℕ) →
      VariableStands t before w xs elements → VariableStands t after w xs elements
  variable_grows before after grows (what.Map images) xs elements all = tt
  variable_grows before after grows (what.Var class size) xs elements all = (all.0, each_grows (is_shared_class class) before after grows xs elements all.1)

  -- and so do all variables
  pub environment_grows : (before after : List Op) → Grows t before after → (ds : List Decl) (env : Environment Operand) (elements : Environment ℕ) →
      EnvironmentStands t before ds env elements → EnvironmentStands t after ds env elements
  environment_grows before after grows [] [] [] all = tt
  environment_grows before after grows (d ∷ ds) (v ∷ env) (w ∷ elements) all =
      (variable_grows before after grows d.what v w all.0, environment_grows before after grows ds env elements all.1)
  environment_grows before after grows ds env elements all = absurd all

  -- the operand at a place stands for the element there
  each_at : (shared : Bool) (values : List Op) (xs : List Operand) (elements : List ℕ) → EachStands t shared values xs elements → (i : ℕ) → i < length xs →
      Stands t shared values (get_or xs i (Block 0)) (get_or elements i 0)
  each_at shared values [] elements all i below = absurd (omega arith)
  each_at shared values (x ∷ xs) [] all i below = absurd all
  each_at shared values (x ∷ xs) (a ∷ es) all zero below = all.0
  each_at shared values (x ∷ xs) (a ∷ es) all (suc i) below = each_at shared values xs es all.1 i (omega arith)

  -- one element changes
  each_set : (shared : Bool) (values : List Op) (xs : List Operand) (elements : List ℕ) → EachStands t shared values xs elements → (i : ℕ) (x : Operand) (a : ℕ) →
      Stands t shared values x a → EachStands t shared values (set xs i x) (set elements i a)
  each_set shared values [] [] all i x a stands = tt
  each_set shared values [] (b ∷ bs) all i x a stands = absurd all
  each_set shared values (y ∷ ys) [] all i x a stands = absurd all
  each_set shared values (y ∷ ys) (b ∷ bs) all zero x a stands = (stands, all.1)
  each_set shared values (y ∷ ys) (b ∷ bs) all (suc i) x a stands = (all.0, each_set shared values ys bs all.1 i x a stands)

  module _ (values : List Op) (class : Class) (size : Option ℕ) (i : ℕ) where
    -- what element i of variable n, which is so declared, stands for
    abbrev ElementStands : Environment Operand → Environment ℕ → ℕ → Type 0
    ElementStands env elements n = Stands t (is_shared_class class) values (element env n i (Block 0)) (element elements n i 0)

    -- by whether the first declaration is that of the name
    element_step : (b c : Bool) → b ≡ c → (n : ℕ) (env : Environment Operand) (elements : Environment ℕ) →
        ElementStands env elements (cond (not c) (1 + n) 0) → ElementStands env elements (cond (not b) (1 + n) 0)
    element_step b c same n env elements stands = subst (λ x. ElementStands env elements (cond (not x) (1 + n) 0)) (sym same) stands

    -- the element of a variable that is declared
    pub element_stands : i < size_of size → (name : List ℕ) (ds : List Decl) (env : Environment Operand) (elements : Environment ℕ) → EnvironmentStands t values ds env elements →
        declared ds name ≡ Some (what.Var class size) → ElementStands env elements (number_of ds name)
    element_stands below name [] env elements all is = absurd (cc)
    element_stands below name (d ∷ ds) (v ∷ env) (w ∷ elements) all is =
        let n = number_of ds name in
        first_or_rest (ElementStands (v ∷ env) (w ∷ elements) (number_of (d ∷ ds) name)) name d ds (what.Var class size) (bytes_eq name d.name) is
        (λ same here. element_step (bytes_eq name d.name) true same n (v ∷ env) (w ∷ elements)
        (let variable = subst (λ x. VariableStands t values x v w) here all.0 in
        each_at (is_shared_class class) values v w variable.1 i (subst (λ (m : ℕ). i < m) (sym variable.0) below)))
        (λ other there. element_step (bytes_eq name d.name) false other n (v ∷ env) (w ∷ elements)
        (subst (λ (k : ℕ). ElementStands (v ∷ env) (w ∷ elements) k) (sym (one-add n)) (element_stands below name ds env elements all.1 there)))
    element_stands below name (d ∷ ds) env elements all is = absurd all

  module _ (values : List Op) (class : Class) (size : Option ℕ) (i : ℕ) (x : Operand) (a : ℕ) (stands : Stands t (is_shared_class class) values x a) where
    -- what the variables hold when element i of variable n is changed
    abbrev StoredStands : List Decl → Environment Operand → Environment ℕ → ℕ → Type 0
    StoredStands ds env elements n = EnvironmentStands t values ds (stored env n i x) (stored elements n i a)

    -- by whether the first declaration is that of the name
    stored_step : (b c : Bool) → b ≡ c → (n : ℕ) (ds : List Decl) (env : Environment Operand) (elements : Environment ℕ) →
        StoredStands ds env elements (cond (not c) (1 + n) 0) → StoredStands ds env elements (cond (not b) (1 + n) 0)
    stored_step b c same n ds env elements all = subst (λ x. StoredStands ds env elements (cond (not x) (1 + n) 0)) (sym same) all

    -- a changed element of a variable that is declared
    pub stored_stands : (name : List ℕ) (ds : List Decl) (env : Environment Operand) (elements : Environment ℕ) → EnvironmentStands t values ds env elements →
        declared ds name ≡ Some (what.Var class size) → StoredStands ds env elements (number_of ds name)
    stored_stands name [] env elements all is = absurd (cc)
    stored_stands name (d ∷ ds) (v ∷ env) (w ∷ elements) all is =
        let n = number_of ds name in
        first_or_rest (StoredStands (d ∷ ds) (v ∷ env) (w ∷ elements) (number_of (d ∷ ds) name)) name d ds (what.Var class size) (bytes_eq name d.name) is
        (λ same here. stored_step (bytes_eq name d.name) true same n (d ∷ ds) (v ∷ env) (w ∷ elements)
        (let variable = subst (λ y. VariableStands t values y v w) here all.0 in (
          subst (λ y. VariableStands t values y (set v i x) (set w i a)) (sym here)
              (length-set v i x ∙ variable.0, each_set (is_shared_class class) values v w variable.1 i x a stands),
          all.1,
        )))
        (λ other there. stored_step (bytes_eq name d.name) false other n (d ∷ ds) (v ∷ env) (w ∷ elements)
        (subst (λ (k : ℕ). StoredStands (d ∷ ds) (v ∷ env) (w ∷ elements) k) (sym (one-add n)) (all.0, stored_stands name ds env elements all.1 there)))
    stored_stands name (d ∷ ds) env elements all is = absurd all
