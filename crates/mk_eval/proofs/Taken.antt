-- Inputs that are taken are as many as declared, and elements; and where the refusal of an evaluation stands.
use Rattle.std.proofs.Common.{◌≡◌, ℕ, ◌<◌, ◌≤◌, List, ◌∷◌, Option, Some, None, ◌⊎◌, Bool, true, false, length, refl, sym, ap, ◌∙◌, inl, inr, true≢false, if◌then◌else◌, arith}
use Rattle.std.specs.Prelude.{All, nat_lt, option_map}
use Rattle.std.proofs.lemmas.Bool.{cases_lt}
use Rattle.std.proofs.lemmas.Bool.Decides.{Decides-ltb}
use Rattle.mk_base.specs.declared.Which.TheVariants as which_
use Rattle.mk_base.specs.declared.inputs.InputRefusal.{InputRefusal}
use Rattle.mk_base.specs.Inputs.{wrong_number, no_element}
use Rattle.mk_base.proofs.Wanted.{number-right, elements-right}
use Rattle.mk_field.specs.Field.{size}
use Rattle.mk_ast.specs.declared.tree.Program.{Program}
use Rattle.std.proofs.lemmas.List.{length-map}
use Rattle.mk_ast.specs.Regular.{IsRegular}
use Rattle.mk_ast.specs.declared.refusal.Limit.{Limit}
use Rattle.mk_ast.specs.declared.refusal.SourceRefusal.{SourceRefusal}
use Rattle.mk_ast.specs.declared.refusal.SourceRefusal.TheVariants as refused
use Rattle.mk_types.specs.Offences.{IsWellTyped}
use Rattle.mk_types.specs.Meaning.{result}
use Rattle.mk_types.proofs.Faults.{operations_at_most}
use Rattle.mk_ssa.specs.Denoted.{denoted}
use Rattle.mk_unroll.specs.Unrolled.{unrolled}
use Rattle.mk_unroll.specs.Causes.{Cause, Elements, Stops, Size}
use Rattle.mk_unroll.proofs.FirstOperands.{less_among}
use Rattle.mk_unroll.proofs.Unrolls.{unrolled_outs_count, unrolled_result}
use Rattle.mk_types.specs.Elements.{is_output_class, elements_of, publics_of, secrets_of}
use Rattle.mk_types.specs.Units.{units}
use Rattle.mk_types.specs.Stops.{Work, Operations, Index, stop}
use Rattle.mk_ast.specs.declared.refusal.Limit.TheVariants as limit_
use Rattle.mk_eval.specs.declared.refusal.EvalRefusal.TheVariants as refusal_
use Rattle.mk_eval.specs.Refusals.{first_of, too_many_elements, refusal_of_input, given_refusal, inputs_refusal, refusal_of_event}

-- what is taken
pub record IsTaken (p : Program) (publics secrets : List ℕ) : Type 0 where
  pub few : elements_of p ≤ 65536
  pub publics_number : length publics ≡ publics_of p
  pub secrets_number : length secrets ≡ secrets_of p
  pub publics_elements : All (λ a. a < size p.field) publics
  pub secrets_elements : All (λ a. a < size p.field) secrets

-- of several causes there is none where there is none of each
none-first : {X : Type 0} (o : Option X) (os : List (Option X)) → first_of (o ∷ os) ≡ None → (o ≡ None) × (first_of os ≡ None)
none-first None os none = (refl, none)
none-first (Some x) os none = absurd cc

-- few elements
few-right : (p : Program) → too_many_elements p ≡ None → elements_of p ≤ 65536
few-right p none = by (nat_lt 65536 (elements_of p)) refl none
  where
    by : (b : Bool) → b ≡ nat_lt 65536 (elements_of p) → (if b then Some (refusal_.Large limit_.Elements) else None) ≡ None → elements_of p ≤ 65536
    by true e h = absurd cc
    by false e h = elim (cases_lt 65536 (elements_of p)) [
      | inl more ↦ absurd (true≢false (sym ((Decides-ltb 65536 (elements_of p)).1 more) ∙ sym e))
      | inr few ↦ omega (arith, few)
    ]

-- inputs that are not refused as a program's are taken
none-given : (o : Option InputRefusal) → option_map refusal_of_input o ≡ None → o ≡ None
none-given None none = refl
none-given (Some e) none = absurd cc

-- what is not refused is taken
pub is_taken : (p : Program) (publics secrets : List ℕ) → inputs_refusal p publics secrets ≡ None → IsTaken p publics secrets
is_taken p publics secrets none =
    let a = none-first (too_many_elements p) _ none in
    let given = none-given (given_refusal p publics secrets) (none-first (option_map refusal_of_input (given_refusal p publics secrets)) _ a.1).0 in
    let b = none-first (wrong_number publics (publics_of p)) _ given in
    let c = none-first (wrong_number secrets (secrets_of p)) _ b.1 in
    let d = none-first (no_element which_.Public (size p.field) publics) _ c.1 in
    let e = none-first (no_element which_.Secret (size p.field) secrets) _ d.1 in
    record {
      few = few-right p a.0;
      publics_number = number-right publics (publics_of p) b.0;
      secrets_number = number-right secrets (secrets_of p) c.0;
      publics_elements = elements-right which_.Public (size p.field) publics d.0;
      secrets_elements = elements-right which_.Secret (size p.field) secrets e.0;
    }

-- the values of a program that is evaluated give its result, of few elements
pub evaluates : (p : Program) (publics secrets : List ℕ) → IsRegular p → IsWellTyped p → inputs_refusal p publics secrets ≡ None → stop (units p) ≡ None
    → (result p publics secrets ≡ Some (denoted (unrolled p) publics secrets)) × (length (denoted (unrolled p) publics secrets) ≤ 65536)
evaluates p publics secrets regular accepted none ended =
    let t = is_taken p publics secrets none in
    let outs = unrolled_outs_count p regular accepted ended in
    let same : length (denoted (unrolled p) publics secrets) ≡ length (unrolled p).outs = length-map _ _ in
    let less = less_among is_output_class p.decls in
    let few = t.few in (
      unrolled_result p publics secrets regular accepted ended t.publics_number t.secrets_number t.publics_elements t.secrets_elements,
      omega (arith, outs, same, less, few),
    )

-- the refusal of an unrolling at order 1 is what stops execution
pub stopped-by : (p : Program) (e : SourceRefusal) (limit : Limit) → elements_of p ≤ 65536 → e ≡ refused.Large limit → (e ≡ refused.Memory) ⊎ Cause p 1 e
    → option_map refusal_of_event (stop (units p)) ≡ Some (refusal_.Large limit)
stopped-by p e limit few is (inl wanted) = absurd cc
stopped-by p e limit few is (inr (Elements many same)) = absurd (omega (arith, few, many))
stopped-by p e limit few is (inr (Stops Work _ at same)) = let l : limit ≡ limit_.Work = cc in ap (option_map refusal_of_event) at ∙ ap (λ (x : Limit). Some (refusal_.Large x)) (sym l)
stopped-by p e limit few is (inr (Stops Operations _ at same)) = let l : limit ≡ limit_.Operations = cc in ap (option_map refusal_of_event) at ∙ ap (λ (x : Limit). Some (refusal_.Large x)) (sym l)
stopped-by p e limit few is (inr (Stops (Index place) _ at same)) = absurd cc
stopped-by p e limit few is (inr (Size _ ended large same)) = let most = operations_at_most p ended in absurd (omega (arith, most, large))
