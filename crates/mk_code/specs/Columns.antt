-- Linear code that works share by share: each entry of the trace has a column, which is the index of
-- the shares that it is made of, or none where it is made of publics and constants alone.
use Rattle.std.specs.Prelude.{◌≡◌, ℕ, ◌+◌, ◌*◌, ◌≤◌, ◌<◌, List, [], ◌∷◌, Option, Some, None, IfSome, length, slice_index}
use Rattle.mk_code.specs.declared.instr.Instr.{Instr}
use Rattle.mk_code.specs.declared.instr.Instr.TheVariants.{Rnd, Const, Copy, Add, Mul, Sq, Map}
use Rattle.mk_code.specs.Listing.{Listing, inputs_len}
use Rattle.mk_code.specs.Trace.{trace}

-- an entry of the first column may be read for a value of the second: where it has a column it is
-- the value's
abbrev pub MayRead : Option ℕ → Option ℕ → Type 0
MayRead None own = Unit {0}
MayRead (Some j) own = own ≡ Some j

-- the instruction's value has the column `own`: it reads entries of that column, or of none, and it
-- isn't random
abbrev pub StaysIn : (ℕ → Option ℕ) → Option ℕ → Instr → Type 0
StaysIn column own Rnd = ⊥
StaysIn column own (Const value) = Unit {0}
StaysIn column own (Copy from) = MayRead (column from) own
StaysIn column own (Add left right) = MayRead (column left) own × MayRead (column right) own
StaysIn column own (Mul left right) = MayRead (column left) own × MayRead (column right) own
StaysIn column own (Sq from) = MayRead (column from) own
StaysIn column own (Map map from) = MayRead (column from) own

-- each of the instructions behind `len` entries stays in the column of its position
abbrev pub AllStayIn : (ℕ → Option ℕ) → ℕ → List Instr → Type 0
AllStayIn column len [] = Unit {0}
AllStayIn column len (i ∷ is) = StaysIn column (column len) i × AllStayIn column (len + 1) is

-- these are columns of the positions of the code's trace: share j of each secret has column j, a public
-- input none, and each instruction stays in its own
pub record AreColumns (code : Listing) (column : ℕ → Option ℕ) : Type 0 where
  pub shares : (i j : ℕ) → i < code.secrets → j ≤ code.order → column (i * (code.order + 1) + j) ≡ Some j
  pub publics : (k : ℕ) → k < code.publics → column (code.secrets * (code.order + 1) + k) ≡ None
  pub instrs : AllStayIn column (inputs_len code.order code.secrets code.publics) code.instrs

-- the code works share by share
abbrev pub HasColumns : Listing → Type 0
HasColumns code = (column : ℕ → Option ℕ) × AreColumns code column

-- two lists of the shares of `count` values, order + 1 shares for each, have the same share j of each
-- value
abbrev pub AgreeAt : ℕ → ℕ → ℕ → List ℕ → List ℕ → Type 0
AgreeAt order count j u v =
    (i : ℕ) → i < count → slice_index u (i * (order + 1) + j) ≡ slice_index v (i * (order + 1) + j)

-- each entry depends on the publics and on the shares of its column alone: two runs over the same
-- publics, whatever their tapes, have the same entry at a position of column j if share j of each secret
-- is the same, and at a position of no column whatever the shares are
abbrev pub DependOnColumns : Listing → (ℕ → Option ℕ) → Type 0
DependOnColumns code column =
    (publics first second tape other : List ℕ) (p : ℕ)
    → length publics ≡ code.publics
    → length first ≡ code.secrets * (code.order + 1)
    → length second ≡ code.secrets * (code.order + 1)
    → IfSome (column p) (λ j. AgreeAt code.order code.secrets j first second)
    → slice_index (trace code publics first tape) p ≡ slice_index (trace code publics second other) p
