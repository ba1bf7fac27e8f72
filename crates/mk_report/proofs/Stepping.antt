-- One step of reaching: a value reaches a place where it is an operand of the product, or of a linear block whose value
-- reaches the place. So the row that its uses make stands for the places that it reaches.
use Rattle.std.proofs.Common.{◌≡◌, ◌⊎◌, ℕ, ◌+◌, ◌<◌, ◌≤◌, true, Some, IsSomeAnd, List, [], ◌∷◌, length, slice_get, refl, sym, ◌∙◌, ap, inl, inr, arith}
use Rattle.std.specs.List.{Contains}
use Rattle.std.proofs.lemmas.Option.{get_or_from_slice_get, slice_get-get_or, slice_get_within}
use Rattle.mk_ssa.specs.declared.Op.{Op}
use Rattle.mk_ssa.specs.declared.Op.TheVariants.{Const, Lift, Add, AddPub, Scale, Sq, Map}
use Rattle.mk_ssa.specs.Kinds.{Linear, Strong, kind}
use Rattle.mk_ssa.specs.Operators.{Operator, operator}
use Rattle.mk_ssa.proofs.Lists.{IsSomeAnd-from, IsSomeAnd-value}
use Rattle.mk_rules.specs.declared.uses.OperandPlace.{OperandPlace}
use Rattle.mk_rules.specs.Shape.{Shape}
use Rattle.mk_rules.specs.Wired.{Wired}
use Rattle.mk_rules.specs.Reaches.{IsPath, links}
use Rattle.mk_rules.specs.Uses.{shared_numbers}
use Rattle.mk_rules.proofs.Counting.{product-strong}
use Rattle.mk_rules.proofs.Doubled.{HasValue, links-at, links-from, number-there, reaches-there}
use Rattle.mk_rules.proofs.Probes.{Contains-none}
use Rattle.mk_rules.proofs.Noting.{operands-short, place_of as use_at}
use Rattle.mk_rules.proofs.Using.{IsUsedAt}
use Rattle.mk_report.specs.declared.need.ProductPlace.{ProductPlace}
use Rattle.mk_rules.proofs.Views.{Contains-at}
use Rattle.mk_report.specs.Reached.{AreAscending, IsProduct, ReachesPlace, ArePlacesOf}
use Rattle.mk_report.specs.Rows.{IsBitOf, IsRowOf, bit_of}
use Rattle.mk_report.specs.Passing.{IsGathered, block_at, passes, row_at}

-- a place by its parts
abbrev pub place_of : ℕ → ℕ → ProductPlace
place_of block operand = record { block = block; operand = operand }

-- a block that passes places on is linear
passes-linear : (op : Op) → passes op ≡ true → kind op ≡ Linear
passes-linear (Add left right) is = refl
passes-linear (AddPub left right) is = refl
passes-linear (Scale left right) is = refl
passes-linear (Sq arg) is = refl
passes-linear (Map k arg) is = refl
passes-linear _ is = absurd (cc (is))

-- a linear block with a shared operand passes places on
linear-passes : (shape : Shape) (op : Op) (k v : ℕ) → kind op ≡ Linear → slice_get (shared_numbers shape op) k ≡ Some v → passes op ≡ true
linear-passes shape (Add left right) k v is at = refl
linear-passes shape (AddPub left right) k v is at = refl
linear-passes shape (Scale left right) k v is at = refl
linear-passes shape (Sq arg) k v is at = refl
linear-passes shape (Map m arg) k v is at = refl
linear-passes shape (Lift arg) k v is at = absurd (cc (at))
linear-passes shape _ k v is at = absurd (cc (is))

module _ (shape : Shape) (blocks : List Op) where
  -- how many inputs there are
  abbrev inputs : ℕ
  inputs = shape.secrets + shape.publics

  -- a block that is there is the one at its number
  block-at : (b : ℕ) (op : Op) → slice_get blocks b ≡ Some op → block_at blocks b ≡ op
  block-at b op there = get_or_from_slice_get blocks b op (Const 0) there

  -- an operand of a product reaches its place
  reach-own : (v : ℕ) (u : OperandPlace) → IsUsedAt shape blocks v u → operator (block_at blocks u.value) ≡ Operator.Mul
      → ReachesPlace shape blocks v (place_of u.value u.operand)
  unfolding IsPath
  reach-own v u use_is product =
      let op : Op = use_is.op in
      let mul : operator op ≡ Operator.Mul = sym (ap operator (block-at u.value op use_is.there)) ∙ product in (
        IsSomeAnd-from (slice_get blocks u.value) (λ x. operator x ≡ Operator.Mul) op use_is.there mul,
        record {
          path = [];
          operand = v;
          leads = refl;
          strong = IsSomeAnd-from (slice_get (links shape blocks) u.value) (λ link. (link.kind ≡ Strong) × (slice_get link.shared u.operand ≡ Some v))
              (record { kind = kind op; shared = shared_numbers shape op }) (links-at shape blocks u.value op use_is.there)
              (product-strong op mul, use_is.operand);
        },
      )

  -- an operand of a linear block reaches what its value does
  reach-on : (v : ℕ) (u : OperandPlace) (p : ProductPlace) → IsUsedAt shape blocks v u → kind (block_at blocks u.value) ≡ Linear
      → ReachesPlace shape blocks (inputs + u.value) p → ReachesPlace shape blocks v p
  unfolding IsPath
  reach-on v u p use_is linear reaches =
      let op : Op = use_is.op in (
        reaches.0,
        record {
          path = u.value ∷ reaches.1.path;
          operand = reaches.1.operand;
          leads = (
            IsSomeAnd-from (slice_get (links shape blocks) u.value) (λ link. (link.kind ≡ Linear) × Contains link.shared v)
                (record { kind = kind op; shared = shared_numbers shape op }) (links-at shape blocks u.value op use_is.there)
                (sym (ap kind (block-at u.value op use_is.there)) ∙ linear, Contains-at (shared_numbers shape op) u.operand v use_is.operand),
            reaches.1.leads,
          );
          strong = reaches.1.strong;
        },
      )

  -- a use that makes a value reach a place
  record Step (v : ℕ) (p : ProductPlace) : Type 0 where
    pub at : OperandPlace
    pub is : IsUsedAt shape blocks v at
    pub way : ((operator (block_at blocks at.value) ≡ Operator.Mul) × (place_of at.value at.operand ≡ p))
        ⊎ ((kind (block_at blocks at.value) ≡ Linear) × ReachesPlace shape blocks (inputs + at.value) p)

  -- there is one where it does: its first step
  step-on : (v : ℕ) (p : ProductPlace) (path : List ℕ) (operand : ℕ) → IsProduct blocks p.block → IsPath inputs (links shape blocks) v path operand
      → IsSomeAnd (slice_get (links shape blocks) p.block) (λ link. (link.kind ≡ Strong) × (slice_get link.shared p.operand ≡ Some operand)) → Step v p
  unfolding IsPath
  step-on v p [] operand product leads strong =
      let mul : (op : Op) × (slice_get blocks p.block ≡ Some op) × (operator op ≡ Operator.Mul) =
      IsSomeAnd-value (slice_get blocks p.block) (λ op. operator op ≡ Operator.Mul) product in
      let at : (op : Op) × (slice_get blocks p.block ≡ Some op) × ((kind op ≡ Strong) × (slice_get (shared_numbers shape op) p.operand ≡ Some operand)) =
      links-from shape blocks p.block (λ link. (link.kind ≡ Strong) × (slice_get link.shared p.operand ≡ Some operand)) strong in
      record {
        at = use_at p.block p.operand;
        is = record { op = at.0; there = at.1; operand = at.2.1 ∙ ap (λ (w : ℕ). Some w) (sym leads) };
        way = inl (ap operator (block-at p.block mul.0 mul.1) ∙ mul.2, refl);
      }
  step-on v p (b ∷ path) operand product leads strong =
      let at : (op : Op) × (slice_get blocks b ≡ Some op) × ((kind op ≡ Linear) × Contains (shared_numbers shape op) v) =
      links-from shape blocks b (λ link. (link.kind ≡ Linear) × Contains link.shared v) leads.0 in
      let held : Contains (shared_numbers shape at.0) v = at.2.1 in
      record {
        at = use_at b held.0;
        is = record {
          op = at.0;
          there = at.1;
          operand = slice_get-get_or (shared_numbers shape at.0) held.0 v held.1 ∙ ap (λ (w : ℕ). Some w) held.2;
        };
        way = inr (
          ap kind (block-at b at.0 at.1) ∙ at.2.0,
          (product, record { path = path; operand = operand; leads = leads.1; strong = strong }),
        );
      }

  -- so there is one
  step-from : (v : ℕ) (p : ProductPlace) → ReachesPlace shape blocks v p → Step v p
  step-from v p reaches = step-on v p reaches.1.path reaches.1.operand reaches.0 reaches.1.leads reaches.1.strong

  -- the operand of a place is one of two
  pub reached-two : (v : ℕ) (p : ProductPlace) → ReachesPlace shape blocks v p → p.operand < 2
  reached-two v p reaches =
      let at : (op : Op) × (slice_get blocks p.block ≡ Some op) × ((kind op ≡ Strong) × (slice_get (shared_numbers shape op) p.operand ≡ Some reaches.1.operand)) =
      links-from shape blocks p.block (λ link. (link.kind ≡ Strong) × (slice_get link.shared p.operand ≡ Some reaches.1.operand)) reaches.1.strong in
      omega (arith, operands-short shape at.0, slice_get_within (shared_numbers shape at.0) p.operand reaches.1.operand at.2.1)

  -- where the rows of the blocks that use a value stand for what they reach, the row that its uses make does for it
  pub gathered-is : (v : ℕ) (rows : List (List ℕ)) (us : List OperandPlace) (row : List ℕ) → IsGathered blocks rows us row
      → ((u : OperandPlace) → Contains us u → IsUsedAt shape blocks v u) → ((u : OperandPlace) → IsUsedAt shape blocks v u → Contains us u)
      → ((u : OperandPlace) → IsUsedAt shape blocks v u → passes (block_at blocks u.value) ≡ true → IsRowOf shape blocks (inputs + u.value) (row_at blocks rows u.value))
      → IsRowOf shape blocks v row
  gathered-is v rows us row gathered used noted rows_are k = (
    λ set.
        let found = (gathered k).0 set in
        let use_is : IsUsedAt shape blocks v found.0 = used found.0 found.1 in
        elim found.2 [
          | inl own ↦ (place_of found.0.value found.0.operand, reach-own v found.0 use_is own.0, sym own.1)
          | inr row_has ↦
              let bit : IsBitOf shape blocks (inputs + found.0.value) k = (rows_are found.0 use_is row_has.0 k).0 row_has.1 in
              (bit.0, reach-on v found.0 bit.0 use_is (passes-linear (block_at blocks found.0.value) row_has.0) bit.1, bit.2)
        ],
    λ bit.
        let step : Step v bit.0 = step-from v bit.0 bit.1 in
        (gathered k).1 (
          step.at,
          noted step.at step.is,
          elim step.way [
            | inl own ↦ inl (own.0, sym (ap (bit_of blocks) own.1 ∙ bit.2))
            | inr on ↦
                let passing : passes (block_at blocks step.at.value) ≡ true =
                linear-passes shape (block_at blocks step.at.value) step.at.operand v on.0
                (ap (λ (op : Op). slice_get (shared_numbers shape op) step.at.operand) (block-at step.at.value step.is.op step.is.there) ∙ step.is.operand) in
                inr (passing, (rows_are step.at step.is passing k).1 (bit.0, on.1, bit.2))
          ],
        ),
  )

  -- a value that isn't there reaches nothing
  pub reached-past : Wired shape blocks → (v : ℕ) → inputs + length blocks ≤ v → ArePlacesOf shape blocks v []
  unfolding AreAscending
  reached-past wired v past = record {
    ascending = tt;
    reached = λ p. (
      λ held. absurd (Contains-none p held),
      λ reaches.
          let value : HasValue shape blocks v = reaches-there shape blocks wired v p.block p.operand reaches.1 in
          absurd (omega (arith, past, number-there shape blocks value.value value.there, value.is)),
    );
  }
