-- What the values of a source stand for, and how many there are.
use Rattle.std.specs.Prelude.{◌≡◌, ℕ, ◌+◌, ◌*◌, ◌≤◌, ◌<◌, List, Some, All, length}
use Rattle.mk_unroll.specs.declared.TheConstants.{MOST_ELEMENTS, MOST_SIZE}
use Rattle.mk_types.specs.declared.TheConstants.{MOST_OPERATIONS, MOST_WORK}
use Rattle.mk_field.specs.Field.{size}
use Rattle.mk_ast.specs.declared.tree.Program.{Program}
use Rattle.mk_ssa.specs.Values.{Values}
use Rattle.mk_ssa.specs.Denoted.{denoted}
use Rattle.mk_types.specs.Elements.{secrets_of, publics_of}
use Rattle.mk_types.specs.Meaning.{result}
use Rattle.mk_unroll.specs.ValueCounts.{made, lifts}

-- on all inputs of the right number that are elements, the outputs stand for the elements that the source gives
abbrev pub HasMeaning : Program → Values → Type 0
HasMeaning p s =
    (publics secrets : List ℕ) → length publics ≡ publics_of p → length secrets ≡ secrets_of p
    → All (λ a. a < size p.field) publics → All (λ a. a < size p.field) secrets
    → result p publics secrets ≡ Some (denoted s publics secrets)

-- secrets, public inputs and outputs are together at most 65,536, there are at most 65,537 lifts, and at most
-- 16,384 values that are no constant and no lift, whose number times the square of the number of shares is at
-- most 1,000,000
pub record HasFewValues (s : Values) (order : ℕ) : Type 0 where
  pub ends : s.secrets + s.publics + length s.outs ≤ MOST_ELEMENTS
  pub lifted : lifts s.values ≤ MOST_WORK + 1
  pub operators : made s.values ≤ MOST_OPERATIONS
  pub size : made s.values * ((order + 1) * (order + 1)) ≤ MOST_SIZE
