-- What a gadget should compute, and whether it does.
use Rattle.std.specs.Prelude.{◌≡◌, ℕ, ◌+◌, List, [], map, fold, take, drop}
use Rattle.mk_field.specs.declared.field.FieldId.{FieldId}
use Rattle.mk_field.specs.Field.{size, product}
use Rattle.mk_field.specs.Sharing.{field_sum, IsSharing}
use Rattle.mk_code.specs.Trace.{randoms, run}
use Rattle.mk_code.specs.Counting.{Elements}
use Rattle.mk_code.specs.Private.{observation}
use Rattle.mk_pad.specs.declared.kind.GadgetKind.{GadgetKind}
use Rattle.mk_pad.specs.declared.kind.GadgetKind.TheVariants.{Mul, Refresh}
use Rattle.mk_pad.specs.declared.term.Term.{Term}
use Rattle.mk_pad.specs.Form.{GadgetForm, share_count}
use Rattle.mk_pad.specs.Polynomial.{plus, times, coefficient_at}
use Rattle.mk_pad.specs.Positions.{polynomial_at, polynomials}

-- the product of the two values that have n shares each, or the value
abbrev pub wanted_value : FieldId → GadgetKind → ℕ → List ℕ → ℕ
wanted_value field Mul n shares = product field (field_sum (take n shares)) (field_sum (drop n shares))
wanted_value field Refresh n shares = field_sum shares

-- on these shares and this tape the outs share the product, or the value
abbrev pub IsRightAt : GadgetForm → List ℕ → List ℕ → Type 0
IsRightAt g shares tape =
    IsSharing (g.order + 1) (wanted_value g.field g.kind (g.order + 1) shares) (observation g.outs (run g.field [] g.instrs tape shares))

-- for every sharing of the operands and every tape they do
abbrev pub HasRightValue : GadgetForm → Type 0
HasRightValue g =
    (shares tape : List ℕ) → Elements (size g.field) (share_count g) shares → Elements (size g.field) (randoms g.instrs) tape
    → IsRightAt g shares tape

-- for some sharing and some tape they don't
abbrev pub HasWrongValue : GadgetForm → Type 0
HasWrongValue g =
    (shares : List ℕ) × (tape : List ℕ) × Elements (size g.field) (share_count g) shares × Elements (size g.field) (randoms g.instrs) tape
    × ¬ (IsRightAt g shares tape)

-- the sum of some polynomials
abbrev pub sum_all : List (List Term) → List Term
sum_all positions = fold plus [] positions

-- the product of the two sums of n polynomials, or the sum
abbrev pub wanted_polynomial : FieldId → GadgetKind → ℕ → List (List Term) → List Term
wanted_polynomial field Mul n shares = times field (sum_all (take n shares)) (sum_all (drop n shares))
wanted_polynomial field Refresh n shares = sum_all shares

-- the sum of the polynomials of the outs
abbrev pub outs_polynomial : GadgetForm → List Term
outs_polynomial g = sum_all (map (polynomial_at (polynomials g)) g.outs)

-- the sum of the polynomials of the outs is that of the product or the value: they have the same coefficients
abbrev pub HasRightPolynomials : GadgetForm → Type 0
HasRightPolynomials g =
    (exponents : List ℕ) → coefficient_at exponents (outs_polynomial g)
    ≡ coefficient_at exponents (wanted_polynomial g.field g.kind (g.order + 1) (take (share_count g) (polynomials g)))
