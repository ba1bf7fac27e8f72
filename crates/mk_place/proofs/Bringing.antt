-- What a use brings to a row.
use Rattle.std.proofs.Common.{◌≡◌, ◌⊎◌, ◌↔◌, ℕ, ◌+◌, ◌-◌, ◌*◌, ◌<◌, ◌≤◌, Bool, IsTrue, Some, List, [], ◌∷◌, length, slice_get, slice_index_or, refl, sym, ap, subst, arith}
use Rattle.std.proofs.lemmas.Option.{slice_get-get_or}
use Rattle.mk_ssa.specs.declared.Op.{Op}
use Rattle.mk_ssa.specs.declared.Op.TheVariants.{Const, Mul, Refresh}
use Rattle.mk_ssa.specs.Kinds.{Kind, Public, Linear, Strong, kind}
use Rattle.mk_ssa.specs.Operators.{Operator, operator}
use Rattle.mk_ssa.specs.Values.{Draft, Fits, IsValues, Values, draft, front}
use Rattle.mk_rules.specs.Rows.{HasBit, Clash}
use Rattle.mk_rules.specs.declared.uses.OperandPlace.{OperandPlace}
use Rattle.mk_rules.proofs.Counting.{product-strong, products-more}
use Rattle.mk_rules.specs.Products.{products_before}
use Rattle.mk_place.specs.Needs.{brought_by}
use Rattle.mk_place.specs.Marking.{IsNeed, bit_of, brings, final_need, inputs}
use Rattle.mk_place.proofs.Standing.{Taken, place-taken, row-taken}

-- the operator of the value that a place is of
abbrev pub op_at : Values → OperandPlace → Op
op_at s p = slice_index_or s.values p.value (Const 0)

-- another one than a product brings the need of its value
brought-own : (k : Kind) (here own : List OperandPlace) → (k ≡ Strong → ⊥) → brought_by k here own ≡ own
brought-own Public here own other = refl
brought-own Linear here own other = refl
brought-own Strong here own other = absurd (other refl)

-- what fits is strong as a product alone
strong-fits : (d : Draft) (op : Op) → Fits d op → kind op ≡ Strong → operator op ≡ Operator.Mul
strong-fits d (Mul left right) fits strong = refl
strong-fits d (Refresh arg) fits strong = absurd fits
strong-fits d _ fits strong = absurd (cc (strong))

-- so is a value
pub strong-alone : (s : Values) → IsValues s → (i : ℕ) (op : Op) → slice_get s.values i ≡ Some op → kind op ≡ Strong → operator op ≡ Operator.Mul
strong-alone s is i op there strong = strong-fits (front (draft s) i) op (is.made.fit i op there) strong

module _ (s : Values) (p : OperandPlace) (there : p.value < length s.values) where
  -- the operator is there
  op-there : slice_get s.values p.value ≡ Some (op_at s p)
  op-there = slice_get-get_or s.values p.value (Const 0) there

  -- both bits of a product are within a row
  pub bits-within : (words : ℕ) → operator (op_at s p) ≡ Operator.Mul → 2 * products_before s.values (length s.values) ≤ 64 * words
      → 2 * products_before s.values p.value + 1 < 64 * words
  bits-within words product room = omega (arith, room, products-more s.values p.value (length s.values) (op_at s p) op-there product there)

  -- a product brings its place
  pub place-brought : (need : List OperandPlace) (row new : List ℕ) (clashes : Bool) (own other : ℕ) → operator (op_at s p) ≡ Operator.Mul → p.operand < 2
      → own ≡ bit_of s.values p → other ≡ 2 * products_before s.values p.value + (1 - p.operand) → IsTrue clashes ↔ HasBit row other
      → ((k : ℕ) → HasBit new k ↔ (HasBit row k ⊎ ((HasBit row other → ⊥) × (k ≡ own)))) → IsNeed s.values need row
      → Taken s.values need (brings s p) new clashes
  place-brought need row new clashes own other product two own_is other_is answers bits is =
      subst (λ (b : List OperandPlace). Taken s.values need b new clashes)
      (sym (ap (λ (k : Kind). brought_by k (p ∷ []) (final_need s (inputs s + p.value))) (product-strong (op_at s p) product)))
      (place-taken s.values need p row new clashes own other is (record { op = op_at s p; there = op-there; product = product; two = two }) own_is other_is answers bits)

  -- another one brings its need
  pub row-brought : (need : List OperandPlace) (row other new : List ℕ) (clashes : Bool) → (kind (op_at s p) ≡ Strong → ⊥)
      → IsNeed s.values (final_need s (inputs s + p.value)) other → IsTrue clashes ↔ Clash row other
      → ((k : ℕ) → HasBit new k ↔ (HasBit row k ⊎ ((Clash row other → ⊥) × HasBit other k))) → IsNeed s.values need row
      → Taken s.values need (brings s p) new clashes
  row-brought need row other new clashes weak also answers bits is =
      subst (λ (b : List OperandPlace). Taken s.values need b new clashes)
      (sym (brought-own (kind (op_at s p)) (p ∷ []) (final_need s (inputs s + p.value)) weak))
      (row-taken s.values need (final_need s (inputs s + p.value)) row other new clashes is also answers bits)
