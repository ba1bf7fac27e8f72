-- The product and the refresh that emitters append may stand for the strong operators.
use Rattle.std.proofs.Common.{◌≡◌, ℕ, zero, suc, ◌+◌, ◌*◌, ◌<◌, ◌≤◌, List, length, map, subst, arith}
use Rattle.std.specs.List.{range_with_len}
use Rattle.std.proofs.lemmas.List.FromFn.{length-map-range_with_len}
use Rattle.mk_field.specs.declared.field.FieldId.{FieldId}
use Rattle.mk_field.specs.declared.map.AddMap.{AddMap}
use Rattle.mk_code.specs.Listing.{Listing, AllFit, HasElementImages}
use Rattle.mk_code.specs.Counting.{AllBelow}
use Rattle.mk_code.specs.Private.{Private}
use Rattle.mk_ssa.specs.declared.Op.{Op}
use Rattle.mk_ssa.specs.declared.Op.TheVariants.{Mul, Refresh}
use Rattle.mk_gadget.specs.Pairs.{pairs}
use Rattle.mk_gadget.specs.Product.{product_gadget, sum_position}
use Rattle.mk_gadget.specs.Refresh.{refresh_gadget, refresh_sum}
use Rattle.mk_gadget.proofs.RefreshRun.{length-refresh, refresh_sum-below, all-done, refresh-fits}
use Rattle.mk_gadget.proofs.ProductRows.{length-product, sum_position-inside, product-fits}
use Rattle.mk_gadget.proofs.RefreshStrong.{refresh-strong}
use Rattle.mk_gadget.proofs.ProductStrong.{product-strong}
use Rattle.mk_rules.specs.Shape.{Shape, shape_of}
use Rattle.mk_rules.specs.Claimed.{Claimed}
use Rattle.mk_rules.specs.Accepts.{IsAccepted}
use Rattle.mk_rules.specs.Privacy.{IsTemplate, HaveTemplates}
use Rattle.mk_rules.proofs.Operators.{IsGiven}
use Rattle.mk_rules.proofs.Accepted.{accepted-private}

-- values of a function that is below on a range
AllBelow-map : (q a n : ℕ) (f : ℕ → ℕ) → ((i : ℕ) → a ≤ i → i < a + n → f i < q) → AllBelow q (map f (range_with_len a n))
unfolding AllBelow
AllBelow-map q a zero f below = tt
AllBelow-map q a (suc n) f below = (
  below a (omega arith) (omega arith),
  AllBelow-map q (a + 1) n f (λ i low high. below i (omega (arith, low)) (omega (arith, high))),
)

-- the product
pub product-template : (field : FieldId) (maps : List AddMap) (n : ℕ) → IsTemplate field maps n 2 (product_gadget n)
product-template field maps n =
    let two : 2 * n ≡ n * 2 = omega arith in
    record {
      strong = product-strong field maps n;
      fit = subst (λ (p : ℕ). AllFit field (length maps) p (product_gadget n).instrs) two (product-fits field (length maps) n);
      count = length-map-range_with_len (λ i. sum_position n i n) 0 n;
      within = AllBelow-map (n * 2 + length (product_gadget n).instrs) 0 n (λ i. sum_position n i n)
          (λ i low high. omega (arith, sum_position-inside n i (omega (arith, high)), length-product n));
    }

-- the refresh
pub refresh-template : (field : FieldId) (maps : List AddMap) (n : ℕ) → IsTemplate field maps n 1 (refresh_gadget n)
refresh-template field maps n =
    let one : n ≡ n * 1 = omega arith in
    record {
      strong = refresh-strong field maps n;
      fit = subst (λ (p : ℕ). AllFit field (length maps) p (refresh_gadget n).instrs) one (refresh-fits field (length maps) n);
      count = length-map-range_with_len (λ i. refresh_sum n i n) 0 n;
      within = AllBelow-map (n * 1 + length (refresh_gadget n).instrs) 0 n (λ i. refresh_sum n i n)
          (λ i low high. omega (arith, refresh_sum-below n i n (length (pairs n)) (omega (arith, high)) (all-done n i (omega (arith, high))), length-refresh n));
    }

module _ (shape : Shape) where
  -- those of any blocks may stand for them
  pub built_in-templates : (blocks : List Op) → HaveTemplates shape (product_gadget (shape.order + 1)) (refresh_gadget (shape.order + 1)) blocks
  built_in-templates blocks = record {
    of_product = λ left right held. product-template shape.field shape.maps (shape.order + 1);
    of_refresh = λ arg held. refresh-template shape.field shape.maps (shape.order + 1);
  }

  -- and so may that of any operator
  pub built_in-given : (op : Op) → IsGiven shape (product_gadget (shape.order + 1)) (refresh_gadget (shape.order + 1)) op
  built_in-given (Mul left right) strong = product-template shape.field shape.maps (shape.order + 1)
  built_in-given (Refresh arg) strong = refresh-template shape.field shape.maps (shape.order + 1)
  built_in-given _ strong = absurd (cc)

-- what the rule accepts with them is private
pub accepted_built_in-private : (code : Listing) (cert : Claimed) → HasElementImages code → IsAccepted code cert → Private code
accepted_built_in-private code cert images accepted =
    accepted-private code (product_gadget (code.order + 1)) (refresh_gadget (code.order + 1)) cert images (built_in-templates (shape_of code) cert.blocks) accepted
