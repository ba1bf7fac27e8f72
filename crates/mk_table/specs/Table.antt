-- What the program of a table does, and what it costs.
use Rattle.std.specs.Prelude.{◌≡◌, ℕ, ◌<◌, Bool, true, false, List, [], ◌∷◌, Some, slice_index}
use Rattle.mk_field.specs.declared.field.FieldId.TheVariants.{Gf256}
use Rattle.mk_ast.specs.declared.tree.Program.{Program}
use Rattle.mk_ast.specs.Places.{AreAlike}
use Rattle.mk_ast.specs.Spells.{Spells}
use Rattle.mk_ssa.specs.Operators.{Operator}
use Rattle.mk_ssa.specs.Values.{Values}
use Rattle.mk_types.specs.Elements.{publics_of, secrets_of}
use Rattle.mk_types.specs.Meaning.{result}
use Rattle.mk_types.specs.Offences.{IsWellTyped}
use Rattle.mk_types.specs.Units.{units}
use Rattle.mk_types.specs.Stops.{operations}
use Rattle.mk_unroll.specs.Causes.{HasFewElements, Ends}
use Rattle.mk_unroll.specs.Unrolled.{unrolled}
use Rattle.mk_simplify.specs.Simplified.{IsSimplified, count_operators}
use Rattle.mk_table.specs.Source.{table_source}

-- of one secret, which is any element, the program gives one output: the element of the table there
abbrev pub Computes : List ℕ → Program → Type 0
Computes table p = (x : ℕ) → x < 256 → result p [] (x ∷ []) ≡ Some (slice_index table x ∷ [])

-- whether it is the product of two shared values
abbrev pub is_product : Operator → Bool
is_product (Operator.Const value) = false
is_product Operator.PubAdd = false
is_product Operator.PubMul = false
is_product Operator.PubSq = false
is_product (Operator.PubMap map) = false
is_product Operator.Lift = false
is_product Operator.Add = false
is_product Operator.AddPub = false
is_product Operator.Scale = false
is_product Operator.Sq = false
is_product (Operator.Map map) = false
is_product Operator.Mul = true
is_product Operator.Refresh = false

-- the values of the program, simplified, have so many products of shared values
abbrev pub HasProducts : ℕ → Program → Type 0
HasProducts n p = (r : Values) → IsSimplified (unrolled p) r → count_operators is_product r ≡ n

-- The text spells this program, which can be compiled: apart from places it is that of the table, over bytes, with no
-- public input and one secret. It is well typed, declares few elements, and its execution comes to its end, with 154
-- operations. It gives the elements of the table, with 34 products.
pub record IsTabled (table : List ℕ) (p : Program) (text : List ℕ) : Type 0 where
  pub spelled : Spells p text
  pub alike : AreAlike p (table_source table)
  pub field : p.field ≡ Gf256
  pub publics : publics_of p ≡ 0
  pub secrets : secrets_of p ≡ 1
  pub well_typed : IsWellTyped p
  pub few_elements : HasFewElements p
  pub ends : Ends p
  pub operations : operations (units p) ≡ 154
  pub computes : Computes table p
  pub products : HasProducts 34 p
