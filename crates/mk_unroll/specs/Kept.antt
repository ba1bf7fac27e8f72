-- What holds of values and variables while a source is unrolled: an operand that is there stays there, and
-- the variables of a shared class hold shared operands.
use Rattle.std.specs.Prelude.{◌≡◌, ◌⊎◌, true, List, [], ◌∷◌, Some, map}
use Rattle.std.specs.List.{AllByRecursion}
use Rattle.mk_field.specs.declared.field.FieldId.{FieldId}
use Rattle.mk_ast.specs.declared.tree.Decl.{Decl}
use Rattle.mk_ast.specs.declared.tree.What.{What}
use Rattle.mk_ssa.specs.declared.Operand.{Operand}
use Rattle.mk_ssa.specs.declared.Operand.TheVariants.{Block}
use Rattle.mk_ssa.specs.Values.{Draft, IsSharedThere, IsPublicThere}
use Rattle.mk_types.specs.Scope.{Scope, is_variable, is_shared_class}
use Rattle.mk_types.specs.Turns.{Turn}
use Rattle.mk_types.specs.Environment.{Environment}
use Rattle.mk_unroll.specs.Unrolled.{Given, Unrolling}

-- a secret, a public input or a value that is there
abbrev pub IsThere : Draft → Operand → Type 0
IsThere d x = IsSharedThere d x ⊎ IsPublicThere d x

-- what is there stays there
pub record Keeps (before after : Draft) : Type 0 where
  pub shared : (x : Operand) → IsSharedThere before x → IsSharedThere after x
  pub public : (x : Operand) → IsPublicThere before x → IsPublicThere after x

-- the values became those that were given, with an operand that is there
pub record Gives (before : Draft) (given : Given) (after : Draft) (x : Operand) : Type 0 where
  pub operand : x ≡ given.operand
  pub values : after ≡ record before { values = given.values }
  pub there : IsThere after x
  pub keeps : Keeps before after

-- what a variable of such a declaration may hold
pub record IsHeld (d : Draft) (what : What) (x : Operand) : Type 0 where
  pub there : IsThere d x
  pub shared : is_variable is_shared_class (Some what) ≡ true → IsSharedThere d x

-- each variable holds what it may
abbrev pub AreHeld : Draft → List Decl → Environment Operand → Type 0
AreHeld d [] [] = Unit {0}
AreHeld d [] (v ∷ vs) = ⊥
AreHeld d (c ∷ cs) [] = ⊥
AreHeld d (c ∷ cs) (v ∷ vs) = AllByRecursion (IsHeld d c.what) v × AreHeld d cs vs

-- each variable holds what it may, and the constant 00 is there
pub record Holds (d : Draft) (decls : List Decl) (env : Environment Operand) : Type 0 where
  pub zero : IsPublicThere d (Block 0)
  pub held : AreHeld d decls env

-- the values and the variables became those that were unrolled
pub record Becomes (decls : List Decl) (before : Draft) (u : Unrolling) (after : Draft) (now : Environment Operand) : Type 0 where
  pub env : now ≡ u.env
  pub values : after ≡ record before { values = u.values }
  pub holds : Holds after decls now

-- what a statement stands in, in these turns
abbrev pub scope_in : FieldId → List Decl → List Turn → Scope
scope_in field decls turns = record { field = field; decls = decls; loops = map (λ t. t.name) turns }
