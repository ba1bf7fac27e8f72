-- Rows that stand for needs: what they clash with, and what is added to them.
use Rattle.std.proofs.Common.{◌≡◌, ◌≢◌, ◌⊎◌, ◌↔◌, ℕ, ◌+◌, ◌-◌, ◌*◌, Bool, true, false, IsTrue, List, [], ◌∷◌, refl, sym, ◌∙◌, ap, subst, inl, inr, arith}
use Rattle.std.specs.List.{Contains}
use Rattle.std.proofs.lemmas.Bool.{cases_eq, false≢true, false_from_ne_true}
use Rattle.mk_ssa.specs.declared.Op.{Op}
use Rattle.mk_rules.specs.Rows.{HasBit, Clash}
use Rattle.mk_rules.specs.declared.uses.OperandPlace.{OperandPlace}
use Rattle.mk_rules.proofs.Counting.{products-once}
use Rattle.mk_rules.proofs.Probes.{Contains-front, Contains-none, Contains-only}
use Rattle.mk_rules.specs.Products.{products_before}
use Rattle.mk_place.specs.Needs.{clash, added}
use Rattle.mk_place.specs.Marking.{IsNeed, IsPlace, bit_of}
use Rattle.mk_place.proofs.Joining.{Clashing, clash-at, clash-from, added-left, added-right, added-from}

-- two answers that come together are the same
pub same-answer : (a b : Bool) → (a ≡ true → b ≡ true) → (b ≡ true → a ≡ true) → a ≡ b
same-answer true b from to = sym (from (refl))
same-answer false true from to = to (refl)
same-answer false false from to = refl

module _ (ops : List Op) where
  -- a row without bits stands for no place
  pub need-none : (row : List ℕ) → ((k : ℕ) → HasBit row k → ⊥) → IsNeed ops [] row
  need-none row none = record {
    bits = λ k. (λ set. absurd (none k set), λ found. absurd (Contains-none found.0 found.1));
    places = λ p held. absurd (Contains-none p held);
    alone = λ p q held also same. absurd (Contains-none p held);
  }

  -- places whose bits are of one product are of one value
  one-value : (p q : OperandPlace) → IsPlace ops p → IsPlace ops q → products_before ops p.value ≡ products_before ops q.value → p.value ≡ q.value
  one-value p q is other same = products-once ops p.value q.value is.op other.op is.there is.product other.there other.product same

  -- what a row stands for with what is brought
  pub need-added : (need brought : List OperandPlace) (row new : List ℕ) → IsNeed ops need row → ((p : OperandPlace) → Contains brought p → IsPlace ops p)
      → ((p q : OperandPlace) → Contains brought p → Contains brought q → p.value ≡ q.value → p.operand ≡ q.operand)
      → ((k : ℕ) → HasBit new k ↔ (HasBit row k ⊎ ((clash need brought ≡ false) × ((p : OperandPlace) × Contains brought p × (bit_of ops p ≡ k)))))
      → IsNeed ops (added need brought) new
  need-added need brought row new is places alone bits = record {
    bits = λ k. (
      λ set. elim ((bits k).0 set) [
        | inl old ↦ let found = (is.bits k).0 old in (found.0, added-left need brought found.0 found.1, found.2)
        | inr more ↦ (more.1.0, added-right need brought more.1.0 more.0 more.1.1, more.1.2)
      ],
      λ found. (bits k).1 (elim (added-from need brought found.0 found.1) [
        | inl first ↦ inl ((is.bits k).1 (found.0, first, found.2))
        | inr there ↦ inr (there.0, (found.0, there.1, found.2))
      ]),
    );
    places = λ p held. elim (added-from need brought p held) [
      | inl first ↦ is.places p first
      | inr there ↦ places p there.1
    ];
    alone = λ p q held also same. elim (added-from need brought p held) [
      | inl first ↦ elim (added-from need brought q also) [
        | inl other ↦ is.alone p q first other same
        | inr there ↦ apart p q there.0 first there.1 same
      ]
      | inr there ↦ elim (added-from need brought q also) [
        | inl first ↦ sym (apart q p there.0 first there.1 (sym same))
        | inr other ↦ alone p q there.1 other.1 same
      ]
    ];
  }
    where
      apart : (p q : OperandPlace) → clash need brought ≡ false → Contains need p → Contains brought q → p.value ≡ q.value → p.operand ≡ q.operand
      apart p q kept held there same = elim (cases_eq p.operand q.operand) [
        | inl equal ↦ equal
        | inr differ ↦
            absurd (false≢true (sym kept ∙ clash-at need brought (record { first = p; second = q; held = held; there = there; same = same; differ = differ })))
      ]

  -- what is left by a use: whether it clashes, and the need with what it brings
  pub record Taken (need brought : List OperandPlace) (new : List ℕ) (clashes : Bool) : Type 0 where
    pub answer : clashes ≡ clash need brought
    pub taken : IsNeed ops (added need brought) new

  -- where clashes are told by the rows
  told : (need brought : List OperandPlace) (row new : List ℕ) (clashes : Bool) (Tells : Type 0) → IsNeed ops need row
      → ((p : OperandPlace) → Contains brought p → IsPlace ops p)
      → ((p q : OperandPlace) → Contains brought p → Contains brought q → p.value ≡ q.value → p.operand ≡ q.operand)
      → (Tells → clash need brought ≡ true) → (clash need brought ≡ true → Tells) → IsTrue clashes ↔ Tells
      → ((k : ℕ) → HasBit new k ↔ (HasBit row k ⊎ ((Tells → ⊥) × ((p : OperandPlace) × Contains brought p × (bit_of ops p ≡ k)))))
      → Taken need brought new clashes
  told need brought row new clashes Tells is places alone from to answers bits = record {
    answer = same-answer clashes (clash need brought) (λ on. from (answers.0 on)) (λ on. answers.1 (to on));
    taken = need-added need brought row new is places alone (λ k. (
      λ set. elim ((bits k).0 set) [
        | inl old ↦ inl old
        | inr more ↦ inr (false_from_ne_true (clash need brought) (λ on. more.0 (to on)), more.1)
      ],
      λ set. (bits k).1 (elim set [
        | inl old ↦ inl old
        | inr more ↦ inr (λ tells. false≢true (sym more.0 ∙ from tells), more.1)
      ]),
    ));
  }

  -- a place, where the row is asked for the other place of the product
  pub place-taken : (need : List OperandPlace) (p : OperandPlace) (row new : List ℕ) (clashes : Bool) (own other : ℕ) → IsNeed ops need row → IsPlace ops p
      → own ≡ bit_of ops p → other ≡ 2 * products_before ops p.value + (1 - p.operand) → IsTrue clashes ↔ HasBit row other
      → ((k : ℕ) → HasBit new k ↔ (HasBit row k ⊎ ((HasBit row other → ⊥) × (k ≡ own)))) → Taken need (p ∷ []) new clashes
  place-taken need p row new clashes own other is place own_is other_is answers bits =
      told need (p ∷ []) row new clashes (HasBit row other) is
      (λ q held. subst (IsPlace ops) (Contains-only p q held) place)
      (λ q x held also same. ap (λ (y : OperandPlace). y.operand) (sym (Contains-only p q held) ∙ Contains-only p x also))
      from to answers
      (λ k. (
        λ set. elim ((bits k).0 set) [
          | inl old ↦ inl old
          | inr more ↦ inr (more.0, (p, Contains-front p [], sym (more.1 ∙ own_is)))
        ],
        λ set. (bits k).1 (elim set [
          | inl old ↦ inl old
          | inr more ↦ inr (more.0, sym more.1.2 ∙ sym (own_is ∙ ap (bit_of ops) (Contains-only p more.1.0 more.1.1)))
        ]),
      ))
    where
      from : HasBit row other → clash need (p ∷ []) ≡ true
      from set =
          let found = (is.bits other).0 set in
          let q : OperandPlace = found.0 in
          let here : IsPlace ops q = is.places q found.1 in
          let rank : products_before ops q.value ≡ products_before ops p.value = omega (arith, found.2, other_is, here.two, place.two) in
          clash-at need (p ∷ []) (record {
            first = q;
            second = p;
            held = found.1;
            there = Contains-front p [];
            same = one-value q p here place rank;
            differ = λ e. omega (arith, e, found.2, other_is, here.two, place.two, rank);
          })

      to : clash need (p ∷ []) ≡ true → HasBit row other
      to on =
          let c : Clashing need (p ∷ []) = clash-from need (p ∷ []) on in
          let here : IsPlace ops c.first = is.places c.first c.held in
          let same : p ≡ c.second = Contains-only p c.second c.there in
          let value : c.first.value ≡ p.value = c.same ∙ sym (ap (λ (y : OperandPlace). y.value) same) in
          let operand : c.first.operand ≢ p.operand = λ e. c.differ (e ∙ ap (λ (y : OperandPlace). y.operand) same) in
          let turned : c.first.operand ≡ 1 - p.operand = elim (cases_eq c.first.operand p.operand) [
            | inl equal ↦ absurd (operand equal)
            | inr differ ↦ omega (arith, differ, here.two, place.two)
          ] in
          (is.bits other).1 (c.first, c.held, omega (arith, other_is, turned, ap (products_before ops) value))

  -- another row
  pub row-taken : (need brought : List OperandPlace) (row other new : List ℕ) (clashes : Bool) → IsNeed ops need row → IsNeed ops brought other
      → IsTrue clashes ↔ Clash row other
      → ((k : ℕ) → HasBit new k ↔ (HasBit row k ⊎ ((Clash row other → ⊥) × HasBit other k))) → Taken need brought new clashes
  row-taken need brought row other new clashes is also answers bits =
      told need brought row new clashes (Clash row other) is also.places also.alone from to answers
      (λ k. (
        λ set. elim ((bits k).0 set) [
          | inl old ↦ inl old
          | inr more ↦ inr (more.0, (also.bits k).0 more.1)
        ],
        λ set. (bits k).1 (elim set [
          | inl old ↦ inl old
          | inr more ↦ inr (more.0, (also.bits k).1 more.1)
        ]),
      ))
    where
      -- two places whose bits are a pair are of one value, and differ
      paired : (p q : OperandPlace) (r : ℕ) → IsPlace ops p → IsPlace ops q → bit_of ops p ≡ 2 * r → bit_of ops q ≡ 2 * r + 1
          → (p.value ≡ q.value) × (p.operand ≢ q.operand)
      paired p q r here there low high =
          let rank : products_before ops p.value ≡ products_before ops q.value = omega (arith, low, high, here.two, there.two) in
          (one-value p q here there rank, λ e. omega (arith, e, low, high, rank))

      from : Clash row other → clash need brought ≡ true
      from (r, low, high) = elim low [
        | inl low_here ↦
            let p = (is.bits (2 * r)).0 low_here in
            elim high [
              | inl high_here ↦
                  let q = (is.bits (2 * r + 1)).0 high_here in
                  let pair = paired p.0 q.0 r (is.places p.0 p.1) (is.places q.0 q.1) p.2 q.2 in
                  absurd (pair.1 (is.alone p.0 q.0 p.1 q.1 pair.0))
              | inr high_there ↦
                  let q = (also.bits (2 * r + 1)).0 high_there in
                  let pair = paired p.0 q.0 r (is.places p.0 p.1) (also.places q.0 q.1) p.2 q.2 in
                  clash-at need brought (record { first = p.0; second = q.0; held = p.1; there = q.1; same = pair.0; differ = pair.1 })
            ]
        | inr low_there ↦
            let p = (also.bits (2 * r)).0 low_there in
            elim high [
              | inl high_here ↦
                  let q = (is.bits (2 * r + 1)).0 high_here in
                  let pair = paired p.0 q.0 r (also.places p.0 p.1) (is.places q.0 q.1) p.2 q.2 in
                  clash-at need brought (record { first = q.0; second = p.0; held = q.1; there = p.1; same = sym pair.0; differ = λ e. pair.1 (sym e) })
              | inr high_there ↦
                  let q = (also.bits (2 * r + 1)).0 high_there in
                  let pair = paired p.0 q.0 r (also.places p.0 p.1) (also.places q.0 q.1) p.2 q.2 in
                  absurd (pair.1 (also.alone p.0 q.0 p.1 q.1 pair.0))
            ]
      ]

      to : clash need brought ≡ true → Clash row other
      to on =
          let c : Clashing need brought = clash-from need brought on in
          let here : IsPlace ops c.first = is.places c.first c.held in
          let there : IsPlace ops c.second = also.places c.second c.there in
          let r : ℕ = products_before ops c.first.value in
          let rank : products_before ops c.first.value ≡ products_before ops c.second.value = ap (products_before ops) c.same in
          elim (cases_eq c.first.operand 0) [
            | inl first ↦
                let second : c.second.operand ≡ 1 = elim (cases_eq c.second.operand 0) [
                  | inl equal ↦ absurd (c.differ (first ∙ sym equal))
                  | inr differ ↦ omega (arith, differ, there.two)
                ] in (
                  r,
                  inl ((is.bits (2 * r)).1 (c.first, c.held, omega (arith, first))),
                  inr ((also.bits (2 * r + 1)).1 (c.second, c.there, omega (arith, second, rank))),
                )
            | inr some ↦
                let first : c.first.operand ≡ 1 = omega (arith, some, here.two) in
                let second : c.second.operand ≡ 0 = elim (cases_eq c.second.operand 1) [
                  | inl equal ↦ absurd (c.differ (first ∙ sym equal))
                  | inr differ ↦ omega (arith, differ, there.two)
                ] in (
                  r,
                  inr ((also.bits (2 * r)).1 (c.second, c.there, omega (arith, second, rank))),
                  inl ((is.bits (2 * r + 1)).1 (c.first, c.held, omega (arith, first))),
                )
          ]
