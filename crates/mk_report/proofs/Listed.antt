-- The places for the bits of a row that stands for what a value reaches: they are these places, in order.
use Rattle.std.proofs.Common.{◌≡◌, ℕ, zero, suc, ◌+◌, ◌*◌, ◌/◌, ◌%◌, ◌<◌, ◌≤◌, true, Some, List, [], ◌∷◌, length, map, slice_get, slice_index, refl, sym, ◌∙◌, ap, subst, inl, inr, arith}
use Rattle.std.specs.List.{Contains}
use Rattle.std.proofs.lemmas.Bool.{cases_Bool, cases_order}
use Rattle.std.proofs.lemmas.Option.{get_or_from_slice_get, slice_get_within}
use Rattle.mk_base.proofs.Lists.{Contains-map, Contains-from_map}
use Rattle.mk_ssa.specs.declared.Op.{Op}
use Rattle.mk_ssa.specs.Operators.{Operator, operator}
use Rattle.mk_ssa.proofs.Lists.{IsSomeAnd-value}
use Rattle.mk_rules.specs.Shape.{Shape}
use Rattle.mk_rules.specs.Products.{products_before}
use Rattle.mk_rules.specs.Rows.{HasBit}
use Rattle.mk_rules.proofs.Counting.{products-once, products-up}
use Rattle.mk_rules.proofs.Probes.{Contains-none, Contains-front, Contains-more}
use Rattle.mk_report.specs.declared.need.ProductPlace.{ProductPlace}
use Rattle.mk_report.specs.Reached.{AreAscending, ArePlacesOf, IsProduct, ReachesPlace, is_before}
use Rattle.mk_report.specs.Rows.{AreProducts, HavePlaces, IsBitOf, IsRowOf, bit_of, bits_between, has, place_for, places_in, set_bits}
use Rattle.mk_report.proofs.Bits.{bit-within, bits-at, bits-from, bits-off, bits-on}
use Rattle.mk_report.proofs.Stepping.{place_of, reached-two}

-- where the places for the bits ascend, so does the list of them
listed-ascending : (f : ℕ → ProductPlace) (row : List ℕ) (a n : ℕ) → ((j k : ℕ) → HasBit row j → HasBit row k → j < k → is_before (f j) (f k) ≡ true)
    → AreAscending (map f (bits_between row a n))
unfolding AreAscending
listed-ascending f row a zero before = tt
listed-ascending f row a (suc n) before = elim (cases_Bool (has row a)) [
  | inl on ↦ subst (λ (bs : List ℕ). AreAscending (map f bs)) (sym (bits-on row a n on)) (
    λ q held.
        let found = Contains-from_map f (bits_between row (a + 1) n) q held in
        let later = bits-from row (a + 1) n found.0 found.1 in
        let first = bits-from row a (suc n) a (subst (λ (bs : List ℕ). Contains bs a) (sym (bits-on row a n on)) (Contains-front a (bits_between row (a + 1) n))) in
        ap (is_before (f a)) (sym found.2) ∙ before a found.0 first.1.1 later.1.1 (omega (arith, later.0)),
    listed-ascending f row (a + 1) n before,
  )
  | inr off ↦ subst (λ (bs : List ℕ). AreAscending (map f bs)) (sym (bits-off row a n off)) (listed-ascending f row (a + 1) n before)
]

module _ (shape : Shape) (blocks : List Op) (products : List ℕ) (all : AreProducts blocks products) where
  -- the place for the bit for a place is that place
  place-back : (p : ProductPlace) → IsProduct blocks p.block → p.operand < 2 → place_for products (bit_of blocks p) ≡ p
  place-back p product two =
      let half : bit_of blocks p / 2 ≡ products_before blocks p.block = omega (arith, two) in
      let low : bit_of blocks p % 2 ≡ p.operand = omega (arith, two) in
      let block : slice_index products (bit_of blocks p / 2) ≡ p.block =
      ap (slice_index products) half ∙ get_or_from_slice_get products (products_before blocks p.block) p.block 0 (all p.block product) in
      ap (λ (b : ℕ). place_of b (bit_of blocks p % 2)) block ∙ ap (place_of p.block) low

  -- a place with a lesser bit comes before
  bit-before : (p q : ProductPlace) → IsProduct blocks p.block → IsProduct blocks q.block → p.operand < 2 → q.operand < 2
      → bit_of blocks p < bit_of blocks q → is_before p q ≡ true
  bit-before p q one other first second less = elim (cases_order p.block q.block) [
    | inl same ↦
        let rank : products_before blocks p.block ≡ products_before blocks q.block = ap (products_before blocks) same in
        by-operand p q same (omega (arith, rank, less))
    | inr (inl below) ↦ by-block p q below
    | inr (inr above) ↦
        let rank : products_before blocks q.block ≤ products_before blocks p.block = products-up blocks q.block p.block (omega (arith, above)) in
        absurd (apart p q one other (omega (arith, rank, less, first, second)) above)
  ]
    where
      by-operand : (p q : ProductPlace) → p.block ≡ q.block → p.operand < q.operand → is_before p q ≡ true
      by-operand p q same less = grind arith

      by-block : (p q : ProductPlace) → p.block < q.block → is_before p q ≡ true
      by-block p q less = grind arith

      -- two products before which as many stand are one
      apart : (p q : ProductPlace) → IsProduct blocks p.block → IsProduct blocks q.block → products_before blocks p.block ≡ products_before blocks q.block
          → q.block < p.block → ⊥
      apart p q one other rank above =
          let x : (op : Op) × (slice_get blocks p.block ≡ Some op) × (operator op ≡ Operator.Mul) =
          IsSomeAnd-value (slice_get blocks p.block) (λ op. operator op ≡ Operator.Mul) one in
          let y : (op : Op) × (slice_get blocks q.block ≡ Some op) × (operator op ≡ Operator.Mul) =
          IsSomeAnd-value (slice_get blocks q.block) (λ op. operator op ≡ Operator.Mul) other in
          omega (arith, above, products-once blocks p.block q.block x.0 y.0 x.1 x.2 y.1 y.2 rank)

  module _ (v : ℕ) (row : List ℕ) (is : IsRowOf shape blocks v row) where
    -- the place for a bit that is set is one that the value reaches, and has this bit
    found-place : (k : ℕ) → HasBit row k → ReachesPlace shape blocks v (place_for products k) × (bit_of blocks (place_for products k) ≡ k)
    found-place k set =
        let bit : IsBitOf shape blocks v k = (is k).0 set in
        let same : place_for products k ≡ bit.0 =
        ap (place_for products) (sym bit.2) ∙ place-back bit.0 bit.1.0 (reached-two shape blocks v bit.0 bit.1) in
        (subst (ReachesPlace shape blocks v) (sym same) bit.1, ap (bit_of blocks) same ∙ bit.2)

    -- each bit that is set is that of a product
    pub have-places : HavePlaces products row
    have-places k set =
        let bit : IsBitOf shape blocks v k = (is k).0 set in
        let half : k / 2 ≡ products_before blocks bit.0.block = omega (arith, bit.2, reached-two shape blocks v bit.0 bit.1) in
        omega (arith, half, slice_get_within products (products_before blocks bit.0.block) bit.0.block (all bit.0.block bit.1.0))

    -- so the places for these bits are those that the value reaches, in order
    pub places-are : ArePlacesOf shape blocks v (places_in products row)
    places-are = record {
      reached = λ p. (
        λ held.
            let found = Contains-from_map (place_for products) (set_bits row) p held in
            subst (ReachesPlace shape blocks v) found.2 (found-place found.0 (bits-from row 0 (64 * length row) found.0 found.1).1.1).0,
        λ reaches.
            let set : HasBit row (bit_of blocks p) = (is (bit_of blocks p)).1 (p, reaches, refl) in
            subst (Contains (places_in products row)) (place-back p reaches.0 (reached-two shape blocks v p reaches))
            (Contains-map (place_for products) (set_bits row) (bit_of blocks p)
            (bits-at row 0 (64 * length row) (bit_of blocks p) (omega arith) (omega (arith, bit-within row (bit_of blocks p) set)) set)),
      );
      ascending = listed-ascending (place_for products) row 0 (64 * length row) (λ j k low high less.
          let one = found-place j low in
          let other = found-place k high in
          bit-before (place_for products j) (place_for products k) one.0.0 other.0.0
          (reached-two shape blocks v (place_for products j) one.0) (reached-two shape blocks v (place_for products k) other.0)
          (omega (arith, one.1, other.1, less)));
    }
