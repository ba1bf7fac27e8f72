-- Why a program is not evaluated on these inputs: the first cause in a fixed order. The rules are this
-- project's own; docs/COMMANDS.md has them in words.
use Rattle.std.specs.Prelude.{ℕ, nat_lt, if◌then◌else◌, List, [], ◌∷◌, Option, Some, None, option_map}
use Rattle.mk_unroll.specs.declared.TheConstants.{MOST_ELEMENTS}
use Rattle.mk_base.specs.declared.Which.TheVariants as which_
use Rattle.mk_base.specs.declared.inputs.InputRefusal.{InputRefusal}
use Rattle.mk_base.specs.declared.inputs.InputRefusal.TheVariants as input_
use Rattle.mk_base.specs.Inputs.{wrong_number, no_element}
use Rattle.mk_field.specs.Field.{size}
use Rattle.mk_ast.specs.declared.tree.Program.{Program}
use Rattle.mk_ast.specs.declared.refusal.Limit.TheVariants as limit_
use Rattle.mk_types.specs.Elements.{elements_of, publics_of, secrets_of}
use Rattle.mk_types.specs.Units.{units}
use Rattle.mk_types.specs.Stops.{Event, Work, Operations, Index, stop}
use Rattle.mk_eval.specs.declared.refusal.EvalRefusal.{EvalRefusal}
use Rattle.mk_eval.specs.declared.refusal.EvalRefusal.TheVariants as refusal_

-- the first of these that there is
abbrev pub first_of : {X : Type 0} → List (Option X) → Option X
first_of [] = None
first_of ((Some x) ∷ xs) = Some x
first_of (None ∷ xs) = first_of xs

-- the program declares more than 65,536 elements
abbrev pub too_many_elements : Program → Option EvalRefusal
too_many_elements p = if nat_lt MOST_ELEMENTS (elements_of p) then Some (refusal_.Large limit_.Elements) else None

-- why inputs are not taken, as a refusal of the evaluation
abbrev pub refusal_of_input : InputRefusal → EvalRefusal
refusal_of_input (input_.Length given wanted) = refusal_.Length given wanted
refusal_of_input (input_.Element which index) = refusal_.Element which index

-- the refusal that tells where execution stops
abbrev pub refusal_of_event : Event → EvalRefusal
refusal_of_event Work = refusal_.Large limit_.Work
refusal_of_event Operations = refusal_.Large limit_.Operations
refusal_of_event (Index at) = refusal_.Index at

-- why these are not a program's public inputs and secrets: the number of the public inputs, or of the
-- secrets, isn't the declared one; or one of them is no element
abbrev pub given_refusal : Program → List ℕ → List ℕ → Option InputRefusal
given_refusal p publics secrets = first_of (
    wrong_number publics (publics_of p) ∷ wrong_number secrets (secrets_of p)
    ∷ no_element which_.Public (size p.field) publics ∷ no_element which_.Secret (size p.field) secrets ∷ []
    )

-- why these public inputs and secrets are not taken: too many elements are declared, or they are not the
-- program's
abbrev pub inputs_refusal : Program → List ℕ → List ℕ → Option EvalRefusal
inputs_refusal p publics secrets = first_of (too_many_elements p ∷ option_map refusal_of_input (given_refusal p publics secrets) ∷ [])

-- why the program is not evaluated on them, if it is not: they are not taken, or execution stops before its end
abbrev pub refusal : Program → List ℕ → List ℕ → Option EvalRefusal
refusal p publics secrets = first_of (inputs_refusal p publics secrets ∷ option_map refusal_of_event (stop (units p)) ∷ [])
