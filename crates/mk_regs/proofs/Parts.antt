-- The parts of an instruction: its register, what it does, and its operands.
use Rattle.std.proofs.Common.{◌≡◌, ℕ, ◌<◌, List, map, slice_index, bit_xor, refl, sym, ◌∙◌, ap}
use Rattle.std.specs.List.{AllByRecursion}
use Rattle.mk_field.specs.declared.field.FieldId.{FieldId}
use Rattle.mk_field.specs.declared.map.AddMap.{AddMap}
use Rattle.mk_field.specs.Field.{product, square, image_by}
use Rattle.mk_code.specs.declared.instr.Instr.{Instr}
use Rattle.mk_code.specs.declared.instr.Instr.TheVariants as op
use Rattle.mk_code.specs.Listing.{FitsAt}
use Rattle.mk_code.specs.Trace.{entry, takes}
use Rattle.mk_regs.specs.declared.instr.RegInstr.{RegInstr}
use Rattle.mk_regs.specs.declared.instr.RegInstr.TheVariants.{Rnd, Const, Copy, Add, Mul, Sq, Map}
use Rattle.mk_regs.specs.Form.{target, operation, into_register, operands, with_operands, HasParts}

-- an instruction is what it does, into its register
pub into_register-parts : (i : RegInstr) → into_register (target i) (operation i) ≡ i
into_register-parts (Rnd to) = refl
into_register-parts (Const to value) = refl
into_register-parts (Copy to from) = refl
into_register-parts (Add to left right) = refl
into_register-parts (Mul to left right) = refl
into_register-parts (Sq to from) = refl
into_register-parts (Map to map from) = refl

-- so instructions with equal parts are equal
pub parts-same : (i j : RegInstr) → target i ≡ target j → operation i ≡ operation j → i ≡ j
parts-same i j to does =
    sym (into_register-parts i) ∙ ap (λ (r : ℕ). into_register r (operation i)) to ∙ ap (into_register (target j)) does ∙ into_register-parts j

-- the register of what is put into it
pub target-into : (to : ℕ) (c : Instr) → target (into_register to c) ≡ to
target-into to op.Rnd = refl
target-into to (op.Const value) = refl
target-into to (op.Copy from) = refl
target-into to (op.Add left right) = refl
target-into to (op.Mul left right) = refl
target-into to (op.Sq from) = refl
target-into to (op.Map map from) = refl

-- and what it does
pub operation-into : (to : ℕ) (c : Instr) → operation (into_register to c) ≡ c
operation-into to op.Rnd = refl
operation-into to (op.Const value) = refl
operation-into to (op.Copy from) = refl
operation-into to (op.Add left right) = refl
operation-into to (op.Mul left right) = refl
operation-into to (op.Sq from) = refl
operation-into to (op.Map map from) = refl

-- operands that are replaced and put back
pub with_operands-back : (f g : ℕ → ℕ) (c : Instr) → AllByRecursion (λ q. g (f q) ≡ q) (operands c) → with_operands g (with_operands f c) ≡ c
with_operands-back f g op.Rnd back = refl
with_operands-back f g (op.Const value) back = refl
with_operands-back f g (op.Copy from) back = ap (λ (a : ℕ). op.Copy a) back.0
with_operands-back f g (op.Add left right) back = ap (λ (a : ℕ). op.Add a (g (f right))) back.0 ∙ ap (λ (a : ℕ). op.Add left a) back.1.0
with_operands-back f g (op.Mul left right) back = ap (λ (a : ℕ). op.Mul a (g (f right))) back.0 ∙ ap (λ (a : ℕ). op.Mul left a) back.1.0
with_operands-back f g (op.Sq from) back = ap (λ (a : ℕ). op.Sq a) back.0
with_operands-back f g (op.Map map from) back = ap (λ (a : ℕ). op.Map map a) back.0

-- the operands are replaced one by one
pub operands-with : (f : ℕ → ℕ) (c : Instr) → operands (with_operands f c) ≡ map f (operands c)
operands-with f op.Rnd = refl
operands-with f (op.Const value) = refl
operands-with f (op.Copy from) = refl
operands-with f (op.Add left right) = refl
operands-with f (op.Mul left right) = refl
operands-with f (op.Sq from) = refl
operands-with f (op.Map map from) = refl

-- it takes as many random elements
pub takes-with : (f : ℕ → ℕ) (c : Instr) → takes (with_operands f c) ≡ takes c
takes-with f op.Rnd = refl
takes-with f (op.Const value) = refl
takes-with f (op.Copy from) = refl
takes-with f (op.Add left right) = refl
takes-with f (op.Mul left right) = refl
takes-with f (op.Sq from) = refl
takes-with f (op.Map map from) = refl

-- where the operands have the same values, it gives the same
pub entry-with : (field : FieldId) (maps : List AddMap) (f : ℕ → ℕ) (c : Instr) (word : ℕ) (entries contents : List ℕ)
    → AllByRecursion (λ q. slice_index entries (f q) ≡ slice_index contents q) (operands c)
    → entry field maps (with_operands f c) word entries ≡ entry field maps c word contents
entry-with field maps f op.Rnd word entries contents same = refl
entry-with field maps f (op.Const value) word entries contents same = refl
entry-with field maps f (op.Copy from) word entries contents same = same.0
entry-with field maps f (op.Add left right) word entries contents same =
    ap (λ (a : ℕ). bit_xor a (slice_index entries (f right))) same.0 ∙ ap (bit_xor (slice_index contents left)) same.1.0
entry-with field maps f (op.Mul left right) word entries contents same =
    ap (λ (a : ℕ). product field a (slice_index entries (f right))) same.0 ∙ ap (product field (slice_index contents left)) same.1.0
entry-with field maps f (op.Sq from) word entries contents same = ap (square field) same.0
entry-with field maps f (op.Map map from) word entries contents same = ap (image_by maps map) same.0

-- an instruction whose parts are there fits where its operands are
pub fits-from_parts : (field : FieldId) (maps len : ℕ) (c : Instr) → HasParts field maps c → AllByRecursion (λ q. q < len) (operands c)
    → FitsAt field maps len c
fits-from_parts field maps len op.Rnd parts within = tt
fits-from_parts field maps len (op.Const value) parts within = parts
fits-from_parts field maps len (op.Copy from) parts within = within.0
fits-from_parts field maps len (op.Add left right) parts within = (within.0, within.1.0)
fits-from_parts field maps len (op.Mul left right) parts within = (within.0, within.1.0)
fits-from_parts field maps len (op.Sq from) parts within = within.0
fits-from_parts field maps len (op.Map map from) parts within = (parts, within.0)

-- its operands are there
pub operands-fit : (field : FieldId) (maps len : ℕ) (c : Instr) → FitsAt field maps len c → AllByRecursion (λ q. q < len) (operands c)
operands-fit field maps len op.Rnd fits = tt
operands-fit field maps len (op.Const value) fits = tt
operands-fit field maps len (op.Copy from) fits = (fits, tt)
operands-fit field maps len (op.Add left right) fits = (fits.0, (fits.1, tt))
operands-fit field maps len (op.Mul left right) fits = (fits.0, (fits.1, tt))
operands-fit field maps len (op.Sq from) fits = (fits, tt)
operands-fit field maps len (op.Map map from) fits = (fits.1, tt)

-- and its parts, whatever its operands are replaced by
pub parts-fit : (field : FieldId) (maps len : ℕ) (f : ℕ → ℕ) (c : Instr) → FitsAt field maps len c → HasParts field maps (with_operands f c)
parts-fit field maps len f op.Rnd fits = tt
parts-fit field maps len f (op.Const value) fits = fits
parts-fit field maps len f (op.Copy from) fits = tt
parts-fit field maps len f (op.Add left right) fits = tt
parts-fit field maps len f (op.Mul left right) fits = tt
parts-fit field maps len f (op.Sq from) fits = tt
parts-fit field maps len f (op.Map map from) fits = fits.0

-- the parts stay when the operands are replaced
pub parts-with : (field : FieldId) (maps : ℕ) (f : ℕ → ℕ) (c : Instr) → HasParts field maps c → HasParts field maps (with_operands f c)
parts-with field maps f op.Rnd parts = tt
parts-with field maps f (op.Const value) parts = parts
parts-with field maps f (op.Copy from) parts = tt
parts-with field maps f (op.Add left right) parts = tt
parts-with field maps f (op.Mul left right) parts = tt
parts-with field maps f (op.Sq from) parts = tt
parts-with field maps f (op.Map map from) parts = parts
