-- What is written of a table, and what its bytes decide.
use Rattle.std.proofs.Common.{◌≡◌, ℕ, ◌+◌, ◌*◌, ◌≤◌, ◌<◌, nat_lt, Bool, true, false, if◌then◌else◌, List, [], ◌∷◌, Option, Some, None, IfSome, length, refl, sym, ap, subst, ◌∙◌, arith}
use Rattle.std.specs.Prelude.{option_map}
use Rattle.std.proofs.lemmas.Bool.{lt-ltb, le-ltb}
use Rattle.std.proofs.Math.Nat.{mul-le-mul_right}
use Rattle.mk_base.specs.declared.TheConstants.{TOP_ORDER}
use Rattle.mk_base.specs.declared.Which.TheVariants as which_
use Rattle.mk_base.specs.Inputs.{wrong_number, no_element}
use Rattle.mk_base.specs.Streams.{ReadsAll}
use Rattle.mk_field.specs.Field.{size}
use Rattle.mk_ast.specs.declared.tree.Program.{Program as Tree}
use Rattle.mk_ast.specs.declared.refusal.Limit.TheVariants as limit_
use Rattle.mk_ast.specs.Canonical.{canonical}
use Rattle.mk_types.specs.Elements.{elements_of}
use Rattle.mk_types.specs.Stops.{Event}
use Rattle.mk_eval.specs.declared.refusal.EvalRefusal.{EvalRefusal}
use Rattle.mk_eval.specs.declared.refusal.EvalRefusal.TheVariants as refusal_
use Rattle.mk_eval.specs.Refusals.{first_of, refusal_of_input, refusal_of_event, refusal}
use Rattle.mk_table.specs.Source.{table_source}
use Rattle.mk_table.specs.Table.{IsTabled}
use Rattle.mk_compile.specs.Compiled.{IsWithin}
use Rattle.mk_top.specs.declared.fault.Fault.{Fault}
use Rattle.mk_top.specs.declared.fault.Fault.TheVariants as fault
use Rattle.mk_words.specs.declared.fault.InputFault.TheVariants as input
use Rattle.mk_top.specs.Faults.{fault_of_eval}
use Rattle.mk_top.specs.Decided.{TableDecides}
use Rattle.mk_top.specs.Tables.{Tabulates}
use Rattle.mk_top.proofs.Bundles.{of-given}

-- a table decides one answer
pub table-one : (bytes : List ℕ) (a b : Option Fault) → TableDecides bytes a → TableDecides bytes b → a ≡ b
table-one bytes None None first second = refl
table-one bytes None (Some (fault.Inputs (input.Length given wanted))) first second = absurd (omega (arith, first, second.2))
table-one bytes None (Some f) first second = absurd second
table-one bytes (Some (fault.Inputs (input.Length given wanted))) None first second = absurd (omega (arith, second, first.2))
table-one bytes (Some (fault.Inputs (input.Length given wanted))) (Some (fault.Inputs (input.Length other limit))) first second =
    λ i. Some (fault.Inputs (input.Length ((first.0 ∙ sym second.0) i) ((first.1 ∙ sym second.1) i)))
table-one bytes (Some (fault.Inputs (input.Length given wanted))) (Some f) first second = absurd second
table-one bytes (Some f) b first second = absurd first

-- why one secret is refused, by what that is decided by
abbrev refused_by : Bool → ℕ → ℕ → ℕ → Option Event → ℕ → Option EvalRefusal
refused_by many publics secrets bound stopped x = first_of (
    first_of (
    (if many then Some (refusal_.Large limit_.Elements) else None)
    ∷ option_map refusal_of_input (first_of (wrong_number [] publics ∷ wrong_number (x ∷ []) secrets ∷ no_element which_.Public bound [] ∷ no_element which_.Secret bound (x ∷ []) ∷ []))
    ∷ []
    )
    ∷ option_map refusal_of_event stopped
    ∷ []
    )

module _ (table written : List ℕ) (tree : Tree) (is : IsTabled table tree written) where
  -- the program of a table takes one element
  tabled-taken : (x : ℕ) → x < 256 → refusal tree [] (x ∷ []) ≡ None
  tabled-taken x small =
      let low : nat_lt 65536 (elements_of tree) ≡ false = le-ltb 65536 (elements_of tree) is.few_elements in
      (λ i. refused_by (low i) (is.publics i) (is.secrets i) (size (is.field i)) (is.ends i) x)
      ∙ element_taken
    where
      inside : nat_lt x 256 ≡ true
      inside = lt-ltb x 256 small

      element_taken : refused_by false 0 1 256 None x ≡ None
      element_taken = rw inside refl

  -- it is within the limits at each order
  tabled-within : (order : ℕ) → order ≤ TOP_ORDER → IsWithin tree order
  tabled-within order few = record {
    elements = is.few_elements;
    ends = is.ends;
    small =
        let shares : (order + 1) * (order + 1) ≤ (TOP_ORDER + 1) * (order + 1) = mul-le-mul_right (order + 1) (omega (arith, few)) in
        subst (λ (n : ℕ). n * ((order + 1) * (order + 1)) ≤ 1000000) (sym is.operations) (omega (arith, shares, few));
  }

  -- the text of a table is what it promises
  pub tabulates-made : length table ≡ 256 → written ≡ canonical (table_source table) → length written ≤ 1048576 → Tabulates (Some table) written
  tabulates-made whole bytes short = record {
    table = table;
    taken = refl;
    whole = whole;
    bytes = bytes;
    tree = tree;
    program = is;
    evaluates = λ x small. (short, (tree, is.spelled, is.well_typed, sym (ap (option_map fault_of_eval) (tabled-taken x small))));
    compiles = λ order few. (short, (tree, is.spelled, is.well_typed, tabled-within order few));
  }

-- the table that was read is the one that was given
pub tabulates-given : (given after : Option (List ℕ)) (bytes written : List ℕ)
    → IfSome given (λ rest. ReadsAll rest bytes after) → Tabulates (Some bytes) written → Tabulates given written
tabulates-given given after bytes written read c = record {
  table = c.table;
  taken = of-given (λ (bs : List ℕ). c.table ≡ bs) given after bytes read c.taken;
  whole = c.whole;
  bytes = c.bytes;
  tree = c.tree;
  program = c.program;
  evaluates = c.evaluates;
  compiles = c.compiles;
}
