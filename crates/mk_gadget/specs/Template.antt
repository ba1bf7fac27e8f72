-- The templates: the gadget that each operator stands for, with n shares.
use Rattle.std.specs.Prelude.{ℕ, ◌+◌, ◌-◌, ◌*◌, [], ◌∷◌, map, replicate, nat_eq, if◌then◌else◌}
use Rattle.std.specs.List.{range_with_len}
use Rattle.mk_code.specs.declared.instr.Instr.{Instr}
use Rattle.mk_code.specs.declared.instr.Instr.TheVariants as instr
use Rattle.mk_ssa.specs.declared.Op.{Op}
use Rattle.mk_ssa.specs.declared.Op.TheVariants.{Const, PubAdd, PubMul, PubSq, PubMap, Lift, Add, AddPub, Scale, Sq, Map, Mul, Refresh}
use Rattle.mk_gadget.specs.Gadget.{Gadget}
use Rattle.mk_gadget.specs.Product.{product_gadget}
use Rattle.mk_gadget.specs.Refresh.{refresh_gadget}

-- a public value: one instruction behind p public operands
abbrev pub single : ℕ → Instr → Gadget
single p instr = record { instrs = instr ∷ []; outs = p ∷ [] }

-- one instruction for each of n shares, behind p operand positions
abbrev pub rows : ℕ → ℕ → (ℕ → Instr) → Gadget
rows n p row = record { instrs = map row (range_with_len 0 n); outs = range_with_len p n }

-- a public value as shares: the value itself, and zeros
abbrev pub lift : ℕ → Gadget
lift n = record { instrs = instr.Copy 0 ∷ replicate (n - 1) (instr.Const 0); outs = range_with_len 1 n }

-- the sum of two shared values: share by share
abbrev pub addition : ℕ → Gadget
addition n = rows n (2 * n) (λ i. instr.Add i (n + i))

-- a shared value plus a public one, which is added to share 0; the other shares are copied
abbrev pub public_addition : ℕ → Gadget
public_addition n = rows n (n + 1) (λ i. if nat_eq i 0 then instr.Add 0 n else instr.Copy i)

-- a shared value times a public one: each share times it
abbrev pub scaling : ℕ → Gadget
scaling n = rows n (n + 1) (λ i. instr.Mul i n)

-- the square of a shared value: that of each share
abbrev pub squaring : ℕ → Gadget
squaring n = rows n n (λ i. instr.Sq i)

-- the image of a shared value under a map: that of each share
abbrev pub mapping : ℕ → ℕ → Gadget
mapping n map = rows n n (λ i. instr.Map map i)

-- the gadget of an operator with n shares; those of the product and of the refresh are given
abbrev pub template : ℕ → Gadget → Gadget → Op → Gadget
template n product refresh (Const value) = single 0 (instr.Const value)
template n product refresh (PubAdd left right) = single 2 (instr.Add 0 1)
template n product refresh (PubMul left right) = single 2 (instr.Mul 0 1)
template n product refresh (PubSq arg) = single 1 (instr.Sq 0)
template n product refresh (PubMap map arg) = single 1 (instr.Map map 0)
template n product refresh (Lift arg) = lift n
template n product refresh (Add left right) = addition n
template n product refresh (AddPub left right) = public_addition n
template n product refresh (Scale left right) = scaling n
template n product refresh (Sq arg) = squaring n
template n product refresh (Map map arg) = mapping n map
template n product refresh (Mul left right) = product
template n product refresh (Refresh arg) = refresh

-- with the product and the refresh that emitters append
abbrev pub built_in : ℕ → Op → Gadget
built_in n op = template n (product_gadget n) (refresh_gadget n) op
