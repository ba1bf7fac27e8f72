-- Operators and their operands: an operator is made of the two, and other operands change nothing else.
use Rattle.std.proofs.Common.{◌≡◌, ℕ, ◌≤◌, ◌<◌, List, [], ◌∷◌, length, map, refl, sym, ◌∙◌, ap, subst, arith}
use Rattle.mk_field.specs.declared.field.FieldId.{FieldId}
use Rattle.mk_field.specs.Field.{size}
use Rattle.std.specs.List.{AllByRecursion}
use Rattle.mk_ssa.specs.declared.Op.{Op}
use Rattle.mk_ssa.specs.declared.Op.TheVariants.{Const, PubAdd, PubMul, PubSq, PubMap, Lift, Add, AddPub, Scale, Sq, Map, Mul, Refresh}
use Rattle.mk_ssa.specs.declared.Operand.{Operand}
use Rattle.mk_ssa.specs.declared.Operand.TheVariants.{Secret}
use Rattle.mk_ssa.specs.Kinds.{is_public}
use Rattle.mk_ssa.specs.Operators.{Operator, operator, operands, with_operands}
use Rattle.mk_ssa.specs.Values.{Draft, IsSharedThere, IsPublicThere, Fits}

-- an operator has at most two operands
pub operands-few : (x : Op) → length (operands x) ≤ 2
operands-few (Const value) = omega arith
operands-few (PubAdd left right) = omega arith
operands-few (PubMul left right) = omega arith
operands-few (PubSq arg) = omega arith
operands-few (PubMap map arg) = omega arith
operands-few (Lift arg) = omega arith
operands-few (Add left right) = omega arith
operands-few (AddPub left right) = omega arith
operands-few (Scale left right) = omega arith
operands-few (Sq arg) = omega arith
operands-few (Map map arg) = omega arith
operands-few (Mul left right) = omega arith
operands-few (Refresh arg) = omega arith

-- other operands leave the operator
pub operator-with : (f : Operand → Operand) (x : Op) → operator (with_operands f x) ≡ operator x
operator-with f (Const value) = refl
operator-with f (PubAdd left right) = refl
operator-with f (PubMul left right) = refl
operator-with f (PubSq arg) = refl
operator-with f (PubMap map arg) = refl
operator-with f (Lift arg) = refl
operator-with f (Add left right) = refl
operator-with f (AddPub left right) = refl
operator-with f (Scale left right) = refl
operator-with f (Sq arg) = refl
operator-with f (Map map arg) = refl
operator-with f (Mul left right) = refl
operator-with f (Refresh arg) = refl

-- other operands are the operands
pub operands-with : (f : Operand → Operand) (x : Op) → operands (with_operands f x) ≡ map f (operands x)
operands-with f (Const value) = refl
operands-with f (PubAdd left right) = refl
operands-with f (PubMul left right) = refl
operands-with f (PubSq arg) = refl
operands-with f (PubMap map arg) = refl
operands-with f (Lift arg) = refl
operands-with f (Add left right) = refl
operands-with f (AddPub left right) = refl
operands-with f (Scale left right) = refl
operands-with f (Sq arg) = refl
operands-with f (Map map arg) = refl
operands-with f (Mul left right) = refl
operands-with f (Refresh arg) = refl

-- other operands leave the kind
pub is_public-with : (f : Operand → Operand) (x : Op) → is_public (with_operands f x) ≡ is_public x
is_public-with f (Const value) = refl
is_public-with f (PubAdd left right) = refl
is_public-with f (PubMul left right) = refl
is_public-with f (PubSq arg) = refl
is_public-with f (PubMap map arg) = refl
is_public-with f (Lift arg) = refl
is_public-with f (Add left right) = refl
is_public-with f (AddPub left right) = refl
is_public-with f (Scale left right) = refl
is_public-with f (Sq arg) = refl
is_public-with f (Map map arg) = refl
is_public-with f (Mul left right) = refl
is_public-with f (Refresh arg) = refl

-- the first of some operands
first : List Operand → Operand
first [] = Secret 0
first (v ∷ vs) = v

-- the second of some operands
second : List Operand → Operand
second [] = Secret 0
second (v ∷ vs) = first vs

-- an operator over operands
rebuilt : Operator → List Operand → Op
rebuilt (Operator.Const value) vs = Const value
rebuilt Operator.PubAdd vs = PubAdd (first vs) (second vs)
rebuilt Operator.PubMul vs = PubMul (first vs) (second vs)
rebuilt Operator.PubSq vs = PubSq (first vs)
rebuilt (Operator.PubMap map) vs = PubMap map (first vs)
rebuilt Operator.Lift vs = Lift (first vs)
rebuilt Operator.Add vs = Add (first vs) (second vs)
rebuilt Operator.AddPub vs = AddPub (first vs) (second vs)
rebuilt Operator.Scale vs = Scale (first vs) (second vs)
rebuilt Operator.Sq vs = Sq (first vs)
rebuilt (Operator.Map map) vs = Map map (first vs)
rebuilt Operator.Mul vs = Mul (first vs) (second vs)
rebuilt Operator.Refresh vs = Refresh (first vs)

-- each is that over its operands
rebuilt-operands : (x : Op) → rebuilt (operator x) (operands x) ≡ x
unfolding first second rebuilt
rebuilt-operands (Const value) = refl
rebuilt-operands (PubAdd left right) = refl
rebuilt-operands (PubMul left right) = refl
rebuilt-operands (PubSq arg) = refl
rebuilt-operands (PubMap map arg) = refl
rebuilt-operands (Lift arg) = refl
rebuilt-operands (Add left right) = refl
rebuilt-operands (AddPub left right) = refl
rebuilt-operands (Scale left right) = refl
rebuilt-operands (Sq arg) = refl
rebuilt-operands (Map map arg) = refl
rebuilt-operands (Mul left right) = refl
rebuilt-operands (Refresh arg) = refl

-- equal operators over equal operands
pub same-op : (x y : Op) → operator x ≡ operator y → operands x ≡ operands y → x ≡ y
same-op x y same operands_same =
    sym (rebuilt-operands x) ∙ ap (λ (o : Operator). rebuilt o (operands x)) same ∙ ap (rebuilt (operator y)) operands_same ∙ rebuilt-operands y

-- an operator fits over other operands that are there wherever the operands are
pub Fits-with : (d e : Draft) (f : Operand → Operand) (x : Op) → e.field ≡ d.field → length e.maps ≡ length d.maps
    → AllByRecursion (λ v. (IsSharedThere d v → IsSharedThere e (f v)) × (IsPublicThere d v → IsPublicThere e (f v))) (operands x)
    → Fits d x → Fits e (with_operands f x)
Fits-with d e f (Const value) field maps there fits = subst (λ (q : FieldId). value < size q) (sym field) fits
Fits-with d e f (PubAdd left right) field maps there fits = (there.0.1 fits.0, there.1.0.1 fits.1)
Fits-with d e f (PubMul left right) field maps there fits = (there.0.1 fits.0, there.1.0.1 fits.1)
Fits-with d e f (PubSq arg) field maps there fits = there.0.1 fits
Fits-with d e f (PubMap map arg) field maps there fits = (subst (λ (n : ℕ). map < n) (sym maps) fits.0, there.0.1 fits.1)
Fits-with d e f (Lift arg) field maps there fits = there.0.1 fits
Fits-with d e f (Add left right) field maps there fits = (there.0.0 fits.0, there.1.0.0 fits.1)
Fits-with d e f (AddPub left right) field maps there fits = (there.0.0 fits.0, there.1.0.1 fits.1)
Fits-with d e f (Scale left right) field maps there fits = (there.0.0 fits.0, there.1.0.1 fits.1)
Fits-with d e f (Sq arg) field maps there fits = there.0.0 fits
Fits-with d e f (Map map arg) field maps there fits = (subst (λ (n : ℕ). map < n) (sym maps) fits.0, there.0.0 fits.1)
Fits-with d e f (Mul left right) field maps there fits = (there.0.0 fits.0, there.1.0.0 fits.1)
Fits-with d e f (Refresh arg) field maps there fits = absurd fits

-- what holds of all operands that are there holds of those of an operator that fits
pub operands-there : (d : Draft) (P : Operand → Type 0) (x : Op) → ((v : Operand) → IsSharedThere d v → P v) → ((v : Operand) → IsPublicThere d v → P v)
    → Fits d x → AllByRecursion P (operands x)
operands-there d P (Const value) shared public fits = tt
operands-there d P (PubAdd left right) shared public fits = (public left fits.0, (public right fits.1, tt))
operands-there d P (PubMul left right) shared public fits = (public left fits.0, (public right fits.1, tt))
operands-there d P (PubSq arg) shared public fits = (public arg fits, tt)
operands-there d P (PubMap map arg) shared public fits = (public arg fits.1, tt)
operands-there d P (Lift arg) shared public fits = (public arg fits, tt)
operands-there d P (Add left right) shared public fits = (shared left fits.0, (shared right fits.1, tt))
operands-there d P (AddPub left right) shared public fits = (shared left fits.0, (public right fits.1, tt))
operands-there d P (Scale left right) shared public fits = (shared left fits.0, (public right fits.1, tt))
operands-there d P (Sq arg) shared public fits = (shared arg fits, tt)
operands-there d P (Map map arg) shared public fits = (shared arg fits.1, tt)
operands-there d P (Mul left right) shared public fits = (shared left fits.0, (shared right fits.1, tt))
operands-there d P (Refresh arg) shared public fits = absurd fits
