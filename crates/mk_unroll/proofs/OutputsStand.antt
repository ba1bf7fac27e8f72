-- The operands of the outputs are shared and stand for the elements of the outputs.
use Rattle.std.proofs.Common.{◌≡◌, ℕ, true, cond, List, [], ◌∷◌, ◌++◌, Some, map, length, length-append, refl, ap, ◌∙◌, arith}
use Rattle.std.proofs.lemmas.List.Sums.{sum_by-cons}
use Rattle.mk_ast.specs.declared.tree.Decl.{Decl}
use Rattle.mk_ast.specs.declared.tree.What.{What}
use Rattle.mk_ast.specs.declared.tree.What.TheVariants as what
use Rattle.mk_ast.specs.declared.tree.Class.TheVariants as class_
use Rattle.mk_ssa.specs.declared.Operand.{Operand}
use Rattle.mk_ssa.specs.declared.Op.{Op}
use Rattle.mk_ssa.specs.Denoted.{operand_value}
use Rattle.mk_types.specs.Scope.{is_variable}
use Rattle.mk_types.specs.Elements.{is_output_class, elements_in, elements_among}
use Rattle.mk_types.specs.Environment.{Environment, output_elements}
use Rattle.mk_unroll.proofs.Stands.{Setting, elements_of_values}
use Rattle.mk_unroll.proofs.Environments.{EachStands, VariableStands, EnvironmentStands}

module _ (t : Setting) (values : List Op) where
  -- operands one list behind the other
  each_append : (xs ys : List Operand) (es bs : List ℕ) → EachStands t true values xs es → EachStands t true values ys bs → EachStands t true values (xs ++ ys) (es ++ bs)
  each_append [] ys [] bs first second = second
  each_append [] ys (a ∷ es) bs first second = absurd first
  each_append (x ∷ xs) ys [] bs first second = absurd first
  each_append (x ∷ xs) ys (a ∷ es) bs first second = (first.0, each_append xs ys es bs first.1 second)

  -- in front of others, the elements of an output
  output_in_front : (w : What) (v xs : List Operand) (e es : List ℕ) → VariableStands t values w v e → EachStands t true values xs es →
      EachStands t true values (cond (is_variable is_output_class (Some w)) v [] ++ xs) (cond (is_variable is_output_class (Some w)) e [] ++ es)
  output_in_front (what.Map images) v xs e es holds rest = rest
  output_in_front (what.Var class_.Secret n) v xs e es holds rest = rest
  output_in_front (what.Var class_.Public n) v xs e es holds rest = rest
  output_in_front (what.Var class_.Output n) v xs e es holds rest = each_append v xs e es holds.1 rest
  output_in_front (what.Var class_.LocalSecret n) v xs e es holds rest = rest
  output_in_front (what.Var class_.LocalPublic n) v xs e es holds rest = rest

  -- the operands of the outputs stand for the elements of the outputs
  pub outputs_stand : (ds : List Decl) (env : Environment Operand) (elements : Environment ℕ) → EnvironmentStands t values ds env elements →
      EachStands t true values (output_elements ds env) (output_elements ds elements)
  outputs_stand [] [] [] all = tt
  outputs_stand (d ∷ ds) (v ∷ env) (w ∷ elements) all =
      output_in_front d.what v (output_elements ds env) w (output_elements ds elements) all.0 (outputs_stand ds env elements all.1)
  outputs_stand ds env elements all = absurd all

  -- an output has its size
  output_size : (w : What) (v : List Operand) (e : List ℕ) → VariableStands t values w v e → length (cond (is_variable is_output_class (Some w)) v []) ≡ elements_in is_output_class w
  output_size (what.Map images) v e holds = refl
  output_size (what.Var class_.Secret n) v e holds = refl
  output_size (what.Var class_.Public n) v e holds = refl
  output_size (what.Var class_.Output n) v e holds = holds.0
  output_size (what.Var class_.LocalSecret n) v e holds = refl
  output_size (what.Var class_.LocalPublic n) v e holds = refl

  -- there are as many as are declared
  pub outputs_count : (ds : List Decl) (env : Environment Operand) (elements : Environment ℕ) → EnvironmentStands t values ds env elements →
      length (output_elements ds env) ≡ elements_among is_output_class ds
  outputs_count [] [] [] all = refl
  outputs_count (d ∷ ds) (v ∷ env) (w ∷ elements) all =
      let first = cond (is_variable is_output_class (Some d.what)) v [] in
      omega (
        arith,
        length-append first (output_elements ds env),
        output_size d.what v w all.0,
        outputs_count ds env elements all.1,
        sum_by-cons (λ x. elements_in is_output_class x.what) d ds,
      )
  outputs_count ds env elements all = absurd all

  -- each has its element as its value
  pub each_value : (xs : List Operand) (elements : List ℕ) → EachStands t true values xs elements → map (operand_value t.publics t.secrets (elements_of_values t values)) xs ≡ elements
  each_value [] [] all = refl
  each_value [] (a ∷ es) all = absurd all
  each_value (x ∷ xs) [] all = absurd all
  each_value (x ∷ xs) (a ∷ es) all = ap (λ (v : ℕ). v ∷ map (operand_value t.publics t.secrets (elements_of_values t values)) xs) all.0.value ∙ ap (λ (vs : List ℕ). a ∷ vs) (each_value xs es all.1)
