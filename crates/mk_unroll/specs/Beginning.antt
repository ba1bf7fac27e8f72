-- What the variables hold first, operand by operand.
use Rattle.std.specs.Prelude.{◌≡◌, ℕ, ◌+◌, List, [], ◌∷◌, map, length}
use Rattle.std.specs.List.{range_with_len}
use Rattle.mk_field.specs.declared.field.FieldId.{FieldId}
use Rattle.mk_ast.specs.declared.tree.Decl.{Decl}
use Rattle.mk_ast.specs.declared.tree.What.{What}
use Rattle.mk_ast.specs.declared.tree.What.TheVariants as what
use Rattle.mk_ast.specs.declared.tree.Class.{Class}
use Rattle.mk_ast.specs.declared.tree.Class.TheVariants as class_
use Rattle.mk_ssa.specs.declared.Operand.{Operand}
use Rattle.mk_ssa.specs.declared.Operand.TheVariants.{Secret, Public, Block}
use Rattle.mk_ssa.specs.declared.Op.TheVariants.{Const, Lift}
use Rattle.mk_ssa.specs.Values.{Draft}
use Rattle.mk_types.specs.Elements.{is_secret_class, is_public_class, size_of, elements_among, maps_of}
use Rattle.mk_types.specs.Environment.{Environment, beginnings}

-- element k of a variable, behind so many secrets and public inputs
abbrev pub first_operand : Class → ℕ → ℕ → ℕ → Operand
first_operand class_.Secret secrets publics k = Secret (secrets + k)
first_operand class_.Public secrets publics k = Public (publics + k)
first_operand class_.Output secrets publics k = Block 1
first_operand class_.LocalSecret secrets publics k = Block 1
first_operand class_.LocalPublic secrets publics k = Block 0

-- the elements of a declaration
abbrev pub first_operands : What → ℕ → ℕ → List Operand
first_operands (what.Map images) secrets publics = []
first_operands (what.Var class size) secrets publics = map (first_operand class secrets publics) (range_with_len 0 (size_of size))

-- what the variables of declarations behind these hold first
abbrev pub first_env : List Decl → List Decl → Environment Operand
first_env = beginnings (λ before n. map Secret (range_with_len before n)) (λ before n. map Public (range_with_len before n)) (Block 1) (Block 0)

-- the values of these declarations before the first statement
abbrev pub first_draft : FieldId → List Decl → Draft
first_draft field decls = record {
  field = field;
  secrets = elements_among is_secret_class decls;
  publics = elements_among is_public_class decls;
  maps = maps_of decls;
  values = Const 0 ∷ Lift (Block 0) ∷ [];
}

-- a map has eight images
abbrev pub HasEight : What → Type 0
HasEight (what.Map images) = length images ≡ 8
HasEight (what.Var class size) = Unit {0}
