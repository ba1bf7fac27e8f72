-- The values are wired as blocks.
use Rattle.std.proofs.Common.{◌≡◌, ℕ, zero, suc, ◌+◌, ◌<◌, ◌≤◌, List, [], ◌∷◌, length, take, map, slice_get, Some, arith, subst}
use Rattle.std.proofs.lemmas.Option.{slice_get_within, same_Some}
use Rattle.std.proofs.lemmas.List.{length-take-le}
use Rattle.std.specs.List.{AllByRecursion}
use Rattle.mk_ssa.specs.declared.Op.{Op}
use Rattle.mk_ssa.specs.declared.Op.TheVariants.{Const, PubAdd, PubMul, PubSq, PubMap, Lift, Add, AddPub, Scale, Sq, Map, Mul, Refresh}
use Rattle.mk_ssa.specs.declared.Operand.{Operand}
use Rattle.mk_ssa.specs.declared.Operand.TheVariants.{Secret, Public, Block}
use Rattle.mk_ssa.specs.Kinds.{shared_operands}
use Rattle.mk_ssa.specs.Values as ssa
use Rattle.mk_ssa.specs.Values.{Values, Draft, draft, front, IsValues, IsDraft}
use Rattle.mk_rules.specs.Shape.{Shape}
use Rattle.mk_rules.specs.Tiles.{value_number}
use Rattle.mk_rules.specs.Wired.{IsSharedThere, IsPublicThere, IsWired}
use Rattle.mk_rules.proofs.Operators.{wired-operands}
use Rattle.mk_rules.proofs.Doubled.{number-there}
use Rattle.mk_rules.proofs.Noting.{operands-short}
use Rattle.mk_rules.specs.Uses.{shared_numbers}
use Rattle.mk_place.specs.Uses.{shape_of_values}
use Rattle.mk_place.specs.Marking.{inputs}
use Rattle.mk_place.proofs.Taking.{AreOperands}

-- what holds of each operand holds of the one at a place
pub each-at : (P : Operand → Type 0) (vs : List Operand) (k : ℕ) (v : Operand) → AllByRecursion P vs → slice_get vs k ≡ Some v → P v
each-at P [] k v each there = absurd (cc)
each-at P (x ∷ vs) zero v each there = subst P (same_Some x v there) each.0
each-at P (x ∷ vs) (suc k) v each there = each-at P vs k v each.1 there

-- a shared operand is there in the one sense and in the other
shared-there : (s : Values) (n : ℕ) (v : Operand) → ssa.IsSharedThere (front (draft s) n) v → IsSharedThere (shape_of_values s) (take n s.values) v
shared-there s n (Secret k) there = there
shared-there s n (Public k) there = absurd there
shared-there s n (Block k) there = there

-- a public one too
public-there : (s : Values) (n : ℕ) (v : Operand) → ssa.IsPublicThere (front (draft s) n) v → IsPublicThere (shape_of_values s) (take n s.values) v
public-there s n (Secret k) there = absurd there
public-there s n (Public k) there = there
public-there s n (Block k) there = there

-- what fits is wired
pub fits-wired : (s : Values) (n : ℕ) (op : Op) → ssa.Fits (front (draft s) n) op → IsWired (shape_of_values s) (take n s.values) op
fits-wired s n (Const value) fits = fits
fits-wired s n (PubAdd left right) fits = (public-there s n left fits.0, public-there s n right fits.1)
fits-wired s n (PubMul left right) fits = (public-there s n left fits.0, public-there s n right fits.1)
fits-wired s n (PubSq arg) fits = public-there s n arg fits
fits-wired s n (PubMap k arg) fits = (fits.0, public-there s n arg fits.1)
fits-wired s n (Lift arg) fits = public-there s n arg fits
fits-wired s n (Add left right) fits = (shared-there s n left fits.0, shared-there s n right fits.1)
fits-wired s n (AddPub left right) fits = (shared-there s n left fits.0, public-there s n right fits.1)
fits-wired s n (Scale left right) fits = (shared-there s n left fits.0, public-there s n right fits.1)
fits-wired s n (Sq arg) fits = shared-there s n arg fits
fits-wired s n (Map k arg) fits = (fits.0, shared-there s n arg fits.1)
fits-wired s n (Mul left right) fits = (shared-there s n left fits.0, shared-there s n right fits.1)
fits-wired s n (Refresh arg) fits = absurd fits

-- the number of each of some operands is below a bound
numbers-below : (shape : Shape) (before : List Op) (n : ℕ) (vs : List Operand) (k v : ℕ) → length before ≤ n → AllByRecursion (IsSharedThere shape before) vs
    → slice_get (map (value_number shape) vs) k ≡ Some v → v < shape.secrets + shape.publics + n
numbers-below shape before n [] k v long each there = absurd (cc)
numbers-below shape before n (w ∷ vs) zero v long each there =
    let same : value_number shape w ≡ v = cc in
    omega (arith, number-there shape before w each.0, same, long)
numbers-below shape before n (w ∷ vs) (suc k) v long each there = numbers-below shape before n vs k v long each.1 there

module _ (s : Values) (is : IsValues s) where
  -- each value is wired
  pub wired-value : (i : ℕ) (op : Op) → slice_get s.values i ≡ Some op → IsWired (shape_of_values s) (take i s.values) op
  wired-value i op there = fits-wired s i op (is.made.fit i op there)

  -- its shared operands come before it
  pub operands-before : (i : ℕ) (op : Op) → slice_get s.values i ≡ Some op → AreOperands (inputs s + i) (shared_numbers (shape_of_values s) op)
  operands-before i op there =
      let within : i < length s.values = slice_get_within s.values i op there in
      record {
        short = operands-short (shape_of_values s) op;
        below = λ k v at. numbers-below (shape_of_values s) (take i s.values) i (shared_operands op) k v
            (omega (arith, length-take-le i s.values (omega (arith, within))))
            (wired-operands (shape_of_values s) (take i s.values) op (wired-value i op there)).0 at;
      }
