-- The code that a certificate over values stands for is accepted.
use Rattle.std.proofs.Common.{◌≡◌, ℕ, ◌+◌, List, [], ◌∷◌, All, map, subst, ap, ap₂, refl}
use Rattle.std.proofs.lemmas.List.Elements.{All-from_recursion, recursion_from_All}
use Rattle.mk_simplify.proofs.Trees.{AllByRecursion-weaker}
use Rattle.mk_field.specs.declared.field.FieldId.{FieldId}
use Rattle.mk_field.specs.declared.map.AddMap.{AddMap}
use Rattle.mk_ssa.specs.declared.Operand.{Operand}
use Rattle.mk_ssa.specs.declared.Operand.TheVariants as operand
use Rattle.mk_ssa.specs.declared.Op.{Op}
use Rattle.mk_ssa.specs.Kinds.{kind, shared_operands}
use Rattle.mk_ssa.specs.Values.{Values}
use Rattle.mk_gadget.specs.Product.{product_gadget}
use Rattle.mk_gadget.specs.Refresh.{refresh_gadget}
use Rattle.mk_rules.specs.Shape.{Shape}
use Rattle.mk_rules.specs.Claimed.{Claimed}
use Rattle.mk_rules.specs.Tiles.{Tiles, value_number}
use Rattle.mk_rules.specs.Wired.{IsSharedThere, Wired}
use Rattle.mk_rules.specs.Reaches.{Link, links, Undoubled}
use Rattle.mk_rules.specs.Accepts.{Outputs, IsAccepted}
use Rattle.mk_place.specs.Uses.{shape_of_values}
use Rattle.mk_place.proofs.Fitting.{shared-recoded, wired-recoded}
use Rattle.mk_compile.specs.Emitting.{shape_from, code_of}

-- two shapes over the same field, inputs and maps
module _ (a b : Shape) (field : a.field ≡ b.field) (secrets : a.secrets ≡ b.secrets) (publics : a.publics ≡ b.publics) (maps : a.maps ≡ b.maps) where
  -- values have the same numbers
  number-recoded : (v : Operand) → value_number a v ≡ value_number b v
  number-recoded (operand.Secret k) = refl
  number-recoded (operand.Public k) = ap (λ (n : ℕ). n + k) secrets
  number-recoded (operand.Block k) = ap₂ (λ (n m : ℕ). n + m + k) secrets publics

  -- and so have lists of values
  numbers-recoded : (vs : List Operand) → map (value_number a) vs ≡ map (value_number b) vs
  numbers-recoded [] = refl
  numbers-recoded (v ∷ vs) = ap₂ (λ (n : ℕ) (ns : List ℕ). n ∷ ns) (number-recoded v) (numbers-recoded vs)

  -- blocks have the same links
  links-recoded : (blocks : List Op) → links a blocks ≡ links b blocks
  links-recoded [] = refl
  links-recoded (op ∷ ops) =
      ap₂ (λ (ns : List ℕ) (ls : List Link). record { kind = kind op; shared = ns } ∷ ls) (numbers-recoded (shared_operands op)) (links-recoded ops)

  -- values that are there stay there
  pub claims-recoded : (blocks : List Op) (claims : List Operand) → All (IsSharedThere a blocks) claims → All (IsSharedThere b blocks) claims
  claims-recoded blocks claims there =
      All-from_recursion (IsSharedThere b blocks) claims
      (AllByRecursion-weaker (IsSharedThere a blocks) (IsSharedThere b blocks) claims (shared-recoded a b field secrets publics maps blocks)
      (recursion_from_All (IsSharedThere a blocks) claims there))

  -- none is doubled where none was
  undoubled-recoded : (blocks : List Op) → Undoubled (a.secrets + a.publics) (links a blocks) → Undoubled (b.secrets + b.publics) (links b blocks)
  undoubled-recoded blocks undoubled =
      subst (λ (ls : List Link). Undoubled (b.secrets + b.publics) ls) (links-recoded blocks)
      (subst (λ (n : ℕ). Undoubled n (links a blocks)) (ap₂ (λ (n m : ℕ). n + m) secrets publics) undoubled)

-- over parts that are equal blocks are wired
pub parts-wired : (s : Values) (order : ℕ) (blocks : List Op) (field : FieldId) (secrets publics : ℕ) (maps : List AddMap) → field ≡ s.field → secrets ≡ s.secrets
    → publics ≡ s.publics → maps ≡ s.maps → Wired (shape_of_values s) blocks → Wired (shape_from field order secrets publics maps) blocks
parts-wired s order blocks field secrets publics maps first second third fourth wired =
    rw (first, second, third, fourth) (wired-recoded (shape_of_values s) (shape_from s.field order s.secrets s.publics s.maps) refl refl refl refl [] blocks wired)

-- the shape with such parts
pub parts-shape : (s : Values) (order : ℕ) (field : FieldId) (secrets publics : ℕ) (maps : List AddMap) → field ≡ s.field → secrets ≡ s.secrets
    → publics ≡ s.publics → maps ≡ s.maps → shape_from field order secrets publics maps ≡ shape_from s.field order s.secrets s.publics s.maps
parts-shape s order field secrets publics maps first second third fourth = rw (first, second, third, fourth) refl

-- the code that a certificate stands for is made of its blocks
code_of-tiles : (shape : Shape) (cert : Claimed)
    → Tiles (code_of shape cert) (product_gadget (shape.order + 1)) (refresh_gadget (shape.order + 1)) cert.blocks
code_of-tiles shape cert = refl

-- and its outputs are the claims
code_of-outputs : (shape : Shape) (cert : Claimed) → All (IsSharedThere shape cert.blocks) cert.claims
    → Outputs (code_of shape cert) (product_gadget (shape.order + 1)) (refresh_gadget (shape.order + 1)) cert.blocks cert.claims
code_of-outputs shape cert there = record { there = there; outs = refl }

-- the code of a certificate over values is accepted
pub code-accepted : (order : ℕ) (s : Values) (cert : Claimed) → Wired (shape_of_values s) cert.blocks → All (IsSharedThere (shape_of_values s) cert.blocks) cert.claims
    → Undoubled (s.secrets + s.publics) (links (shape_of_values s) cert.blocks)
    → IsAccepted (code_of (shape_from s.field order s.secrets s.publics s.maps) cert) cert
code-accepted order s cert wired there undoubled =
    let shape : Shape = shape_from s.field order s.secrets s.publics s.maps in
    record {
      wired = wired-recoded (shape_of_values s) shape refl refl refl refl [] cert.blocks wired;
      tiles = code_of-tiles shape cert;
      outputs = code_of-outputs shape cert (claims-recoded (shape_of_values s) shape refl refl refl refl cert.blocks cert.claims there);
      undoubled = undoubled-recoded (shape_of_values s) shape refl refl refl refl cert.blocks undoubled;
    }
