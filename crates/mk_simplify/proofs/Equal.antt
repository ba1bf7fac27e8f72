-- The comparison of operators answers whether they are equal.
use Rattle.std.proofs.Common.{◌≡◌, ℕ, Bool, true, false, ◌&&◌, ◌==◌, refl, ◌∙◌, ap}
use Rattle.std.proofs.lemmas.Bool.{eqb-true, eq-eqb}
use Rattle.mk_ssa.specs.declared.Op.{Op}
use Rattle.mk_ssa.specs.declared.Op.TheVariants.{Const, PubAdd, PubMul, PubSq, PubMap, Lift, Add, AddPub, Scale, Sq, Map, Mul, Refresh}
use Rattle.mk_ssa.specs.contracts.OpPartialEq.TheImpl as op_eq
use Rattle.mk_ssa.specs.contracts.OperandPartialEq.TheImpl as operand_eq
use Rattle.mk_ssa.specs.declared.Operand.{Operand}
use Rattle.mk_ssa.specs.declared.Operand.TheVariants.{Secret, Public, Block}

-- false isn't true
false-not_true : false ≡ true → ⊥
false-not_true same = absurd (cc)

-- both hold
both-first : (a b : Bool) → (a && b) ≡ true → a ≡ true
both-first true b both = refl
both-first false b both = absurd (cc)

-- the second of two that hold
both-second : (a b : Bool) → (a && b) ≡ true → b ≡ true
both-second true b both = both
both-second false b both = absurd (cc)

-- numbers
number-sound : (a b : ℕ) → (a == b) ≡ true → a ≡ b
number-sound a b equal = eqb-true a b equal

-- a number is equal to itself
number-same : (a : ℕ) → (a == a) ≡ true
number-same a = eq-eqb a a refl

-- operands
operand-sound : (v w : Operand) → operand_eq.ghosts.eq v w ≡ true → v ≡ w
operand-sound (Secret a) (Secret b) equal = ap Secret (number-sound a b equal)
operand-sound (Public a) (Public b) equal = ap Public (number-sound a b equal)
operand-sound (Block a) (Block b) equal = ap Block (number-sound a b equal)
operand-sound v w equal = absurd (false-not_true equal)

-- an operand is equal to itself
operand-same : (v : Operand) → operand_eq.ghosts.eq v v ≡ true
operand-same (Secret a) = number-same a
operand-same (Public a) = number-same a
operand-same (Block a) = number-same a

-- two parts that are equal
two-equal : (a b : Bool) → a ≡ true → b ≡ true → (a && b) ≡ true
two-equal a b first second = rw (first, second) refl

-- operators
pub op-sound : (x y : Op) → op_eq.ghosts.eq x y ≡ true → x ≡ y
op-sound (Const a) (Const b) equal = ap Const (number-sound a b equal)
op-sound (PubAdd v x) (PubAdd w y) equal =
    ap (λ (u : Operand). PubAdd u x) (operand-sound v w (both-first (operand_eq.ghosts.eq v w) (operand_eq.ghosts.eq x y) equal))
    ∙ ap (PubAdd w) (operand-sound x y (both-second (operand_eq.ghosts.eq v w) (operand_eq.ghosts.eq x y) equal))
op-sound (PubMul v x) (PubMul w y) equal =
    ap (λ (u : Operand). PubMul u x) (operand-sound v w (both-first (operand_eq.ghosts.eq v w) (operand_eq.ghosts.eq x y) equal))
    ∙ ap (PubMul w) (operand-sound x y (both-second (operand_eq.ghosts.eq v w) (operand_eq.ghosts.eq x y) equal))
op-sound (PubSq v) (PubSq w) equal = ap PubSq (operand-sound v w equal)
op-sound (PubMap a v) (PubMap b w) equal =
    ap (λ (c : ℕ). PubMap c v) (number-sound a b (both-first (a == b) (operand_eq.ghosts.eq v w) equal))
    ∙ ap (PubMap b) (operand-sound v w (both-second (a == b) (operand_eq.ghosts.eq v w) equal))
op-sound (Lift v) (Lift w) equal = ap Lift (operand-sound v w equal)
op-sound (Add v x) (Add w y) equal =
    ap (λ (u : Operand). Add u x) (operand-sound v w (both-first (operand_eq.ghosts.eq v w) (operand_eq.ghosts.eq x y) equal))
    ∙ ap (Add w) (operand-sound x y (both-second (operand_eq.ghosts.eq v w) (operand_eq.ghosts.eq x y) equal))
op-sound (AddPub v x) (AddPub w y) equal =
    ap (λ (u : Operand). AddPub u x) (operand-sound v w (both-first (operand_eq.ghosts.eq v w) (operand_eq.ghosts.eq x y) equal))
    ∙ ap (AddPub w) (operand-sound x y (both-second (operand_eq.ghosts.eq v w) (operand_eq.ghosts.eq x y) equal))
op-sound (Scale v x) (Scale w y) equal =
    ap (λ (u : Operand). Scale u x) (operand-sound v w (both-first (operand_eq.ghosts.eq v w) (operand_eq.ghosts.eq x y) equal))
    ∙ ap (Scale w) (operand-sound x y (both-second (operand_eq.ghosts.eq v w) (operand_eq.ghosts.eq x y) equal))
op-sound (Sq v) (Sq w) equal = ap Sq (operand-sound v w equal)
op-sound (Map a v) (Map b w) equal =
    ap (λ (c : ℕ). Map c v) (number-sound a b (both-first (a == b) (operand_eq.ghosts.eq v w) equal))
    ∙ ap (Map b) (operand-sound v w (both-second (a == b) (operand_eq.ghosts.eq v w) equal))
op-sound (Mul v x) (Mul w y) equal =
    ap (λ (u : Operand). Mul u x) (operand-sound v w (both-first (operand_eq.ghosts.eq v w) (operand_eq.ghosts.eq x y) equal))
    ∙ ap (Mul w) (operand-sound x y (both-second (operand_eq.ghosts.eq v w) (operand_eq.ghosts.eq x y) equal))
op-sound (Refresh v) (Refresh w) equal = ap Refresh (operand-sound v w equal)
op-sound x y equal = absurd (false-not_true equal)

-- an operator is equal to itself
pub op-same : (x : Op) → op_eq.ghosts.eq x x ≡ true
op-same (Const a) = number-same a
op-same (PubAdd v x) = two-equal (operand_eq.ghosts.eq v v) (operand_eq.ghosts.eq x x) (operand-same v) (operand-same x)
op-same (PubMul v x) = two-equal (operand_eq.ghosts.eq v v) (operand_eq.ghosts.eq x x) (operand-same v) (operand-same x)
op-same (PubSq v) = operand-same v
op-same (PubMap a v) = two-equal (a == a) (operand_eq.ghosts.eq v v) (number-same a) (operand-same v)
op-same (Lift v) = operand-same v
op-same (Add v x) = two-equal (operand_eq.ghosts.eq v v) (operand_eq.ghosts.eq x x) (operand-same v) (operand-same x)
op-same (AddPub v x) = two-equal (operand_eq.ghosts.eq v v) (operand_eq.ghosts.eq x x) (operand-same v) (operand-same x)
op-same (Scale v x) = two-equal (operand_eq.ghosts.eq v v) (operand_eq.ghosts.eq x x) (operand-same v) (operand-same x)
op-same (Sq v) = operand-same v
op-same (Map a v) = two-equal (a == a) (operand_eq.ghosts.eq v v) (number-same a) (operand-same v)
op-same (Mul v x) = two-equal (operand_eq.ghosts.eq v v) (operand_eq.ghosts.eq x x) (operand-same v) (operand-same x)
op-same (Refresh v) = operand-same v
