-- One value more is worked out, and in the end all are.
use Rattle.std.proofs.Common.{◌≡◌, ℕ, ◌+◌, ◌<◌, List, [], ◌∷◌, ◌++◌, All, length, take, slice_get, Some, refl, sym, ◌∙◌, ap, arith}
use Rattle.std.proofs.lemmas.List.{length-append, take_more}
use Rattle.std.proofs.lemmas.List.Elements.{All-push, All-nil}
use Rattle.mk_field.specs.Field.{size}
use Rattle.mk_ssa.specs.declared.Op.{Op}
use Rattle.mk_ssa.specs.Values.{Values}
use Rattle.mk_ssa.specs.Denoted.{value_of, values_of, in_order}
use Rattle.mk_ssa.specs.Evaluation.{Evaluated, IsEvaluated, next_value}
use Rattle.mk_ssa.proofs.Lists.{slice_get-at}
use Rattle.mk_ssa.proofs.InOrder.{in_order-push}

-- no value is worked out
pub IsEvaluated-new : (s : Values) (publics secrets : List ℕ) → length publics ≡ s.publics → length secrets ≡ s.secrets
    → All (λ a. a < size s.field) publics → All (λ a. a < size s.field) secrets
    → IsEvaluated (record { ssa = s; publics = publics; secrets = secrets; before = [] })
unfolding in_order
IsEvaluated-new s publics secrets publics_len secrets_len public_elements secret_elements = record {
  publics = publics_len;
  secrets = secrets_len;
  within = omega arith;
  before = refl;
  public_elements = public_elements;
  secret_elements = secret_elements;
  elements = All-nil (λ a. a < size s.field);
}

-- one value more
pub IsEvaluated-step : (e : Evaluated) (op : Op) (a : ℕ) → IsEvaluated e → slice_get e.ssa.values (length e.before) ≡ Some op
    → a ≡ next_value e op → a < size e.ssa.field → IsEvaluated (record e { before = e.before ++ a ∷ [] })
IsEvaluated-step e op a so_far at is element =
    let n = length e.before in
    let here = slice_get-at e.ssa.values n op op at in
    let next = value_of e.ssa.field e.ssa.maps e.publics e.secrets in
    let parts = values_of e.ssa.field e.ssa.maps e.publics e.secrets in
    let more : take (n + 1) e.ssa.values ≡ take n e.ssa.values ++ op ∷ [] =
    take_more e.ssa.values n op here.0 ∙ ap (λ x. take n e.ssa.values ++ x ∷ []) here.1 in
    let long : length (e.before ++ a ∷ []) ≡ n + 1 = length-append e.before (a ∷ []) in
    record {
      publics = so_far.publics;
      secrets = so_far.secrets;
      within = omega (arith, long, here.0);
      before =
          ap (λ (x : ℕ). e.before ++ x ∷ []) is
          ∙ ap (λ (l : List ℕ). l ++ next l op ∷ []) so_far.before
          ∙ sym (in_order-push next [] (take n e.ssa.values) op)
          ∙ ap parts (sym more)
          ∙ ap (λ (m : ℕ). parts (take m e.ssa.values)) (sym long);
      public_elements = so_far.public_elements;
      secret_elements = so_far.secret_elements;
      elements = All-push (λ x. x < size e.ssa.field) e.before a so_far.elements element;
    }
