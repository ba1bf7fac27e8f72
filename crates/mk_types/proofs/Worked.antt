-- The offences of small programs, worked out by hand.
use Rattle.std.proofs.Common.{◌≡◌, ℕ, List, [], ◌∷◌, Some, None, refl, codes}
use Rattle.mk_base.specs.declared.Place.{Place}
use Rattle.mk_field.specs.declared.field.FieldId.TheVariants.{Gf2, Gf256}
use Rattle.mk_ast.specs.declared.tree.Decl.{Decl}
use Rattle.mk_ast.specs.declared.tree.What.TheVariants as what
use Rattle.mk_ast.specs.declared.tree.Class.TheVariants as class_
use Rattle.mk_ast.specs.declared.tree.Stmt.TheVariants as stmt
use Rattle.mk_ast.specs.declared.tree.Expr.TheVariants as expr
use Rattle.mk_ast.specs.declared.tree.Index.TheVariants as index
use Rattle.mk_types.proofs.Sources.{scalar, array, ref, ref_at, program}
use Rattle.mk_types.specs.declared.offence.Offence.{Offence}
use Rattle.mk_types.specs.declared.offence.OffenceKind.{OffenceKind}
use Rattle.mk_types.specs.declared.offence.OffenceKind.TheVariants as kind_
use Rattle.mk_types.specs.Noted.{noted}
use Rattle.mk_types.specs.Offences.{offences}
use Rattle.mk_types.proofs.Layers.{stmt_layers, expr_layers, index_layers, shared_layers}

-- a map with these images
abbrev map_of : List ℕ → List ℕ → Place → Decl
map_of images name at = record { name = name; at = at; what = what.Map images }

-- one offence
abbrev here : OffenceKind → Place → Offence
here kind at = record { at = at; kind = kind }

-- `field gf2;` `secret s;` `local public q;` `q = s;`
shared_into_public : (a b c d : Place) → offences (program Gf2
    (scalar class_.Secret (codes "s") a ∷ scalar class_.LocalPublic (codes "q") b ∷ [])
    (stmt.Set (ref (codes "q") c) (expr.Read (ref (codes "s") d)) ∷ [])) ≡ here kind_.Kind c ∷ []
shared_into_public a b c d = simp (stmt_layers, expr_layers, shared_layers) refl

-- `field gf2;` `public p;` `local public q;` `q = p;`
public_into_public : (a b c d : Place) → offences (program Gf2
    (scalar class_.Public (codes "p") a ∷ scalar class_.LocalPublic (codes "q") b ∷ [])
    (stmt.Set (ref (codes "q") c) (expr.Read (ref (codes "p") d)) ∷ [])) ≡ []
public_into_public a b c d = simp (stmt_layers, expr_layers, shared_layers) refl

-- `field gf2;` `secret s;` `s = s;`
input_assigned : (a b c : Place) → offences (program Gf2 (scalar class_.Secret (codes "s") a ∷ [])
    (stmt.Set (ref (codes "s") b) (expr.Read (ref (codes "s") c)) ∷ [])) ≡ here kind_.AssignInput b ∷ []
input_assigned a b c = simp (stmt_layers, expr_layers) refl

-- `field gf2;` `map m = 0x01;`
map_of_bits : (a : Place) → offences (program Gf2 (map_of (1 ∷ []) (codes "m") a ∷ []) []) ≡ here kind_.MapForm a ∷ []
map_of_bits a = refl

-- `field gf256;` `map m = 0x01, 0x02, 0x03, 0x04, 0x05, 0x06, 0x07;`
map_of_seven : (a : Place) → offences (program Gf256 (map_of (1 ∷ 2 ∷ 3 ∷ 4 ∷ 5 ∷ 6 ∷ 7 ∷ []) (codes "m") a ∷ []) []) ≡ here kind_.MapForm a ∷ []
map_of_seven a = refl

-- `field gf256;` `map m = 0x01, 0x02, 0x03, 0x04, 0x05, 0x06, 0x07, 0x08;`: its images are in no expression
map_of_eight : (a : Place) → offences (program Gf256 (map_of (1 ∷ 2 ∷ 3 ∷ 4 ∷ 5 ∷ 6 ∷ 7 ∷ 8 ∷ []) (codes "m") a ∷ []) []) ≡ []
map_of_eight a = refl

-- `field gf2;` `output y;` `output y;`
declared_twice : (a b : Place) → offences (program Gf2 (scalar class_.Output (codes "y") a ∷ scalar class_.Output (codes "y") b ∷ []) []) ≡ here kind_.Twice b ∷ []
declared_twice a b = refl

-- `field gf2;` `output y;` `y = z;`
unknown : (a b c : Place) → offences (program Gf2 (scalar class_.Output (codes "y") a ∷ [])
    (stmt.Set (ref (codes "y") b) (expr.Read (ref (codes "z") c)) ∷ [])) ≡ here kind_.Unknown c ∷ []
unknown a b c = simp (stmt_layers, expr_layers) refl

-- `field gf2;` `output y;` `for y in 0..1 { }`
loop_of_a_variable : (a b : Place) → offences (program Gf2 (scalar class_.Output (codes "y") a ∷ [])
    (stmt.Loop (codes "y") b 0 1 [] ∷ [])) ≡ here kind_.Twice b ∷ []
loop_of_a_variable a b = simp (stmt_layers) refl

-- `field gf2;` `for i in 0..1 { for i in 0..1 { } }` `for i in 0..1 { }`
loop_in_its_like : (a b c : Place) → offences (program Gf2 []
    (stmt.Loop (codes "i") a 0 1 (stmt.Loop (codes "i") b 0 1 [] ∷ []) ∷ stmt.Loop (codes "i") c 0 1 [] ∷ [])) ≡ here kind_.Twice b ∷ []
loop_in_its_like a b c = simp (stmt_layers) refl

-- `field gf2;` `output y;` `output z[2];` `z[y] = y;`
index_by_a_variable : (a b c d e : Place) → offences (program Gf2
    (scalar class_.Output (codes "y") a ∷ array class_.Output 2 (codes "z") b ∷ [])
    (stmt.Set (ref_at (codes "z") c (index.Var (codes "y") d)) (expr.Read (ref (codes "y") e)) ∷ [])) ≡ here kind_.Kind d ∷ []
index_by_a_variable a b c d e = simp (stmt_layers, expr_layers, index_layers) refl

-- `field gf2;` `secret s;` `public p[2];` `local public q;` `q = p[s];`: what stands in an index shares
-- nothing, so the only offence is that of the index
shared_in_an_index : (a b c d e f : Place) → offences (program Gf2
    (scalar class_.Secret (codes "s") a ∷ array class_.Public 2 (codes "p") b ∷ scalar class_.LocalPublic (codes "q") c ∷ [])
    (stmt.Set (ref (codes "q") d) (expr.Read (ref_at (codes "p") e (index.Var (codes "s") f))) ∷ [])) ≡ here kind_.Kind f ∷ []
shared_in_an_index a b c d e f = simp (stmt_layers, expr_layers, index_layers, shared_layers) refl

-- `field gf256;` `map m = ..;` `output y;` `y = m;`
map_as_a_variable : (a b c d : Place) → offences (program Gf256
    (map_of (1 ∷ 2 ∷ 3 ∷ 4 ∷ 5 ∷ 6 ∷ 7 ∷ 8 ∷ []) (codes "m") a ∷ scalar class_.Output (codes "y") b ∷ [])
    (stmt.Set (ref (codes "y") c) (expr.Read (ref (codes "m") d)) ∷ [])) ≡ here kind_.Kind d ∷ []
map_as_a_variable a b c d = simp (stmt_layers, expr_layers) refl

-- `field gf2;` `output y;` `y = y(y);`
variable_as_a_map : (a b c d : Place) → offences (program Gf2 (scalar class_.Output (codes "y") a ∷ [])
    (stmt.Set (ref (codes "y") b) (expr.Apply (codes "y") c (expr.Read (ref (codes "y") d))) ∷ [])) ≡ here kind_.Kind c ∷ []
variable_as_a_map a b c d = simp (stmt_layers, expr_layers) refl

-- `field gf2;` `output y;` `output z[2];` `y[0] = z;`
indexes_misplaced : (a b c d : Place) → offences (program Gf2
    (scalar class_.Output (codes "y") a ∷ array class_.Output 2 (codes "z") b ∷ [])
    (stmt.Set (ref_at (codes "y") c (index.Num 0)) (expr.Read (ref (codes "z") d)) ∷ [])) ≡ here kind_.Kind c ∷ here kind_.Kind d ∷ []
indexes_misplaced a b c d = simp (stmt_layers, expr_layers, index_layers) refl

-- `output y;` `y = 0x02;` over either field
element_past_the_field : (a b c : Place) → offences (program Gf2 (scalar class_.Output (codes "y") a ∷ [])
    (stmt.Set (ref (codes "y") b) (expr.Lit 2 c) ∷ [])) ≡ here kind_.Kind c ∷ []
element_past_the_field a b c = simp (stmt_layers, expr_layers) refl

-- and over bytes 02 is an element
element_of_the_field : (a b c : Place) → offences (program Gf256 (scalar class_.Output (codes "y") a ∷ [])
    (stmt.Set (ref (codes "y") b) (expr.Lit 2 c) ∷ [])) ≡ []
element_of_the_field a b c = simp (stmt_layers, expr_layers) refl

-- of two offences at one place the one of the least number is the first, and else the one of the least place
abbrev place : ℕ → ℕ → Place
place line column = record { line = line; column = column }

-- at one place the lesser number comes first, though it is noted last
least_number : noted None (here kind_.AssignInput (place 3 1) ∷ here kind_.Kind (place 3 1) ∷ []) ≡ Some (here kind_.Kind (place 3 1))
least_number = refl

-- on one line the lesser column comes first, whatever the numbers
least_column : noted None (here kind_.Unknown (place 3 5) ∷ here kind_.MapForm (place 3 1) ∷ []) ≡ Some (here kind_.MapForm (place 3 1))
least_column = refl

-- the lesser line comes first, whatever the columns
least_line : noted None (here kind_.MapForm (place 2 9) ∷ here kind_.Unknown (place 3 1) ∷ []) ≡ Some (here kind_.MapForm (place 2 9))
least_line = refl
