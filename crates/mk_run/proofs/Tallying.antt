-- One more tape in a tally.
use Rattle.std.proofs.Common.{◌≡◌, ◌⊎◌, ℕ, ◌+◌, ◌<◌, Bool, true, false, List, [], zero-add, Option, Some, None, Vec, refl, sym, ap, ◌∙◌, subst, arith, inl, inr}
use Rattle.std.specs.Prelude.{IfSome, unwrap_or}
use Rattle.std.specs.BTreeMap.{BTreeMap, insert_entry}
use Rattle.std.specs.Cmp.Lexicographic.{slice_cmp, nat_list_cmp_total}
use Rattle.std.specs.declared.cmp.Ordering.{Ordering}
use Rattle.std.specs.declared.cmp.Ordering.TheVariants.{Less, Equal, Greater}
use Rattle.std.specs.Ordering.{nat_cmp, is_eq, ordering_reverse}
use Rattle.std.specs.Map.{lookup, set_value}
use Rattle.std.proofs.lemmas.Map.Lookups.{exact_bytes}
use Rattle.mk_code.specs.Counting.{one_if_equal}
use Rattle.mk_code.proofs.Matching.{one_if_equal-self, one_if_equal-cases}
use Rattle.mk_run.specs.declared.tally.Tally.{Tally}
use Rattle.mk_run.specs.declared.tally.World.{World}
use Rattle.mk_run.specs.declared.tally.World.TheVariants.{First, Second}
use Rattle.mk_run.specs.Tally.{none, more, number, kept, tally_of, KeepsShown}
use Rattle.mk_run.proofs.Entries.{set-here, set-apart, insert-here, insert-apart}

-- a tuple is equal to itself
self-equal : (xs : List ℕ) → slice_cmp nat_cmp xs xs ≡ Equal
self-equal xs = by (slice_cmp nat_cmp xs xs) (nat_list_cmp_total.antisymm xs xs)
  where
    by : (o : Ordering) → o ≡ ordering_reverse o → o ≡ Equal
    by Less e = absurd cc
    by Equal e = refl
    by Greater e = absurd cc

-- what compares as equal is equal
pub is-equal : (o : Ordering) → is_eq o ≡ true → o ≡ Equal
is-equal Less e = absurd cc
is-equal Equal e = refl
is-equal Greater e = absurd cc

-- equal tuples are found as equal
equal-found : (xs ys : List ℕ) → xs ≡ ys → is_eq (slice_cmp nat_cmp xs ys) ≡ true
equal-found xs ys same = ap (λ (zs : List ℕ). is_eq (slice_cmp nat_cmp xs zs)) (sym same) ∙ ap is_eq (self-equal xs)

-- and others aren't
other-found : (xs ys : List ℕ) → (xs ≡ ys → ⊥) → is_eq (slice_cmp nat_cmp xs ys) ≡ false
other-found xs ys differ = by (is_eq (slice_cmp nat_cmp xs ys)) refl
  where
    by : (b : Bool) → b ≡ is_eq (slice_cmp nat_cmp xs ys) → b ≡ false
    by true e = absurd (differ (exact_bytes xs ys (is-equal _ (sym e))))
    by false e = refl

-- other tuples are shown by no tape
differ-none : (xs ys : List ℕ) → (xs ≡ ys → ⊥) → one_if_equal xs ys ≡ 0
differ-none xs ys differ = elim (one_if_equal-cases xs ys) [ inl same ↦ absurd (differ same) | inr nothing ↦ nothing ]

-- tuples are equal or not
either : (xs ys : List ℕ) → (xs ≡ ys) ⊎ (xs ≡ ys → ⊥)
either xs ys = elim (one_if_equal-cases xs ys) [
  | inl same ↦ inl same
  | inr nothing ↦ inr (λ same. absurd (omega (arith, nothing, ap (one_if_equal xs) (sym same), one_if_equal-self xs)))
]

-- no more tapes
pub no-more : (world : World) (t : Tally) → more world 0 t ≡ t
no-more First t = ap (λ (n : ℕ). record t { first = n }) (omega arith)
no-more Second t = ap (λ (n : ℕ). record t { second = n }) (omega arith)

-- with one more tape there is one
more-shown : (world : World) (t : Tally) → 0 < (more world 1 t).first + (more world 1 t).second
more-shown First t = omega arith
more-shown Second t = omega arith

module _ {Z : Type 0} where
  -- the tally of the tuple is kept, and those of others are as before
  pub record Counts (m n : BTreeMap (Vec ℕ Z) Tally) (seen : List ℕ) (world : World) : Type 0 where
    pub here : kept n seen ≡ Some (more world 1 (tally_of m seen))
    pub apart : (tuple : List ℕ) → (seen ≡ tuple → ⊥) → kept n tuple ≡ kept m tuple

  -- then one more tape is counted
  pub counts-one : (m n : BTreeMap (Vec ℕ Z) Tally) (seen : List ℕ) (world : World) → Counts m n seen world
      → (tuple : List ℕ) → tally_of n tuple ≡ more world (one_if_equal seen tuple) (tally_of m tuple)
  counts-one m n seen world counts tuple = elim (either seen tuple) [
    | inl same ↦ subst (λ (t : List ℕ). tally_of n t ≡ more world (one_if_equal seen t) (tally_of m t)) same
        (ap (λ (o : Option Tally). unwrap_or o none) counts.here ∙ ap (λ (k : ℕ). more world k (tally_of m seen)) (sym (one_if_equal-self seen)))
    | inr differ ↦ ap (λ (o : Option Tally). unwrap_or o none) (counts.apart tuple differ)
        ∙ sym (no-more world (tally_of m tuple)) ∙ ap (λ (k : ℕ). more world k (tally_of m tuple)) (sym (differ-none seen tuple differ))
  ]

  -- and what is kept is shown
  pub counts-shown : (m n : BTreeMap (Vec ℕ Z) Tally) (seen : List ℕ) (world : World) → Counts m n seen world → KeepsShown m → KeepsShown n
  counts-shown m n seen world counts shown tuple = elim (either seen tuple) [
    | inl same ↦ subst (λ (t : List ℕ). IfSome (kept n t) (λ t. 0 < t.first + t.second)) same
        (subst (λ (o : Option Tally). IfSome o (λ t. 0 < t.first + t.second)) (sym counts.here) (more-shown world (tally_of m seen)))
    | inr differ ↦ subst (λ (o : Option Tally). IfSome o (λ t. 0 < t.first + t.second)) (sym (counts.apart tuple differ)) (shown tuple)
  ]

  -- a tally that is set
  pub counts-set : (m n : BTreeMap (Vec ℕ Z) Tally) (seen : List ℕ) (world : World) (old : Tally) → kept m seen ≡ Some old
      → n.entries ≡ set_value (λ key. is_eq (slice_cmp nat_cmp seen key.items)) m.entries (more world 1 old) → Counts m n seen world
  counts-set m n seen world old found entries = record {
    here = ap (lookup (λ key. is_eq (slice_cmp nat_cmp seen key.items))) entries
        ∙ set-here (λ key. is_eq (slice_cmp nat_cmp seen key.items)) m.entries old (more world 1 old) found
        ∙ ap (λ (o : Option Tally). Some (more world 1 (unwrap_or o none))) (sym found);
    apart = λ tuple differ.
        ap (lookup (λ key. is_eq (slice_cmp nat_cmp tuple key.items))) entries
        ∙ set-apart (λ key. is_eq (slice_cmp nat_cmp tuple key.items)) (λ key. is_eq (slice_cmp nat_cmp seen key.items)) m.entries (more world 1 old)
        (λ key same. other-found tuple key.items (λ e. differ (exact_bytes seen key.items (is-equal _ same) ∙ sym e)));
  }

  -- a tally that is inserted
  pub counts-insert : (m n : BTreeMap (Vec ℕ Z) Tally) (seen : List ℕ) (world : World) (key : Vec ℕ Z) → key.items ≡ seen → kept m seen ≡ None
      → n.entries ≡ insert_entry (λ x y. slice_cmp nat_cmp x.items y.items) m.entries key (more world 1 none) → Counts m n seen world
  counts-insert m n seen world key same absent entries = record {
    here = ap (lookup (λ k. is_eq (slice_cmp nat_cmp seen k.items))) entries
        ∙ insert-here (λ x y. slice_cmp nat_cmp x.items y.items) (λ k. is_eq (slice_cmp nat_cmp seen k.items)) m.entries key (more world 1 none)
        (equal-found seen key.items (sym same))
        (λ x equal. equal-found seen x.items (sym same ∙ exact_bytes key.items x.items equal))
        (λ x greater. other-found seen x.items (λ e. absurd (apart-orders (slice_cmp nat_cmp key.items x.items) greater (ap (λ (zs : List ℕ). slice_cmp nat_cmp zs x.items) (same ∙ e) ∙ self-equal x.items))))
        ∙ ap (λ (o : Option Tally). Some (more world 1 (unwrap_or o none))) (sym absent);
    apart = λ tuple differ.
        ap (lookup (λ k. is_eq (slice_cmp nat_cmp tuple k.items))) entries
        ∙ insert-apart (λ x y. slice_cmp nat_cmp x.items y.items) (λ k. is_eq (slice_cmp nat_cmp tuple k.items)) m.entries key (more world 1 none)
        (other-found tuple key.items (λ e. differ (sym (e ∙ same))))
        (λ x equal. other-found tuple x.items (λ e. differ (sym same ∙ exact_bytes key.items x.items equal ∙ sym e)));
  }
    where
      apart-orders : (o : Ordering) → o ≡ Greater → o ≡ Equal → ⊥
      apart-orders o greater equal = absurd cc

-- more and more tapes
pub more-more : (world : World) (m n : ℕ) (t : Tally) → more world n (more world m t) ≡ more world (m + n) t
more-more First m n t = ap (λ (k : ℕ). record t { first = k }) (omega arith)
more-more Second m n t = ap (λ (k : ℕ). record t { second = k }) (omega arith)

-- how many they are
pub number-more : (world : World) (n : ℕ) (t : Tally) → number world (more world n t) ≡ number world t + n
number-more First n t = refl
number-more Second n t = refl

module _ {Z : Type 0} where
  -- from nothing, the tapes of one world and then of the other
  pub two-worlds : (t0 t1 t2 : BTreeMap (Vec ℕ Z) Tally) (first second : List ℕ → ℕ) → t0.entries ≡ []
      → ((tuple : List ℕ) → tally_of t1 tuple ≡ more First (first tuple) (tally_of t0 tuple))
      → ((tuple : List ℕ) → tally_of t2 tuple ≡ more Second (second tuple) (tally_of t1 tuple))
      → (tuple : List ℕ) → (((tally_of t2 tuple).first ≡ first tuple) × ((tally_of t2 tuple).second ≡ second tuple))
  two-worlds t0 t1 t2 first second empty left right tuple =
      let start : tally_of t0 tuple ≡ none = ap (λ (es : List (Vec ℕ Z × Tally)). unwrap_or (lookup (λ key. is_eq (slice_cmp nat_cmp tuple key.items)) es) none) empty in
      let all : tally_of t2 tuple ≡ more Second (second tuple) (more First (first tuple) none) =
      right tuple ∙ ap (more Second (second tuple)) (left tuple ∙ ap (more First (first tuple)) start) in (
        ap (λ (t : Tally). t.first) all ∙ zero-add (first tuple),
        ap (λ (t : Tally). t.second) all ∙ zero-add (second tuple),
      )
