-- The rows of tallies make the table.
use Rattle.std.proofs.Common.{◌≡◌, ℕ, zero, suc, ◌+◌, ◌<◌, List, [], ◌∷◌, All, Option, Some, None, Vec, length, map, slice_index_or, refl, sym, ap, ◌∙◌, subst, arith}
use Rattle.std.specs.Prelude.{IfSome, unwrap_or, Contains}
use Rattle.std.specs.BTreeMap.{BTreeMap}
use Rattle.std.specs.Cmp.{eq_by_cmp_equiv}
use Rattle.std.specs.Cmp.Lexicographic.{slice_cmp, on_texts}
use Rattle.std.specs.declared.cmp.Ordering.TheVariants.{Less}
use Rattle.std.specs.List.{AllByRecursion, slice_get}
use Rattle.std.specs.List.Sorted.{IsStrictlySortedBy}
use Rattle.std.specs.Map.{keys_of}
use Rattle.std.specs.Ordering.{nat_cmp, is_eq}
use Rattle.std.proofs.lemmas.Option.{slice_get-get_or}
use Rattle.std.proofs.lemmas.List.Elements.{All-map}
use Rattle.std.proofs.lemmas.Map.Entries.{lookup_from_place, place_from_lookup}
use Rattle.std.proofs.lemmas.Map.Keys.{IsDistinct-from_sorted}
use Rattle.std.proofs.lemmas.Map.Lookups.{exact_bytes}
use Rattle.mk_run.specs.declared.table.Row.{Row}
use Rattle.mk_run.specs.declared.tally.Tally.{Tally}
use Rattle.mk_run.specs.Table.{IsTable}
use Rattle.mk_run.specs.Tally.{none, kept, tally_of, KeepsShown}
use Rattle.mk_run.proofs.Tallying.{is-equal}

module _ {Z : Type 0} where
  -- the row of an entry
  abbrev pub row_of : Vec ℕ Z × Tally → Row
  row_of e = record { seen = e.0.items; first = e.1.first; second = e.1.second }

  -- the keys ascend
  abbrev pub Ascends : List (Vec ℕ Z × Tally) → Type 0
  Ascends es = IsStrictlySortedBy (λ x y. slice_cmp nat_cmp x.items y.items) (keys_of es)

  -- each entry is found
  pub all-found : (m : BTreeMap (Vec ℕ Z) Tally) → Ascends m.entries → All (λ e. kept m e.0.items ≡ Some e.1) m.entries
  all-found m ascends k d below =
      lookup_from_place (eq_by_cmp_equiv (on_texts (λ (x : Vec ℕ Z). x.items))) m.entries k (slice_index_or m.entries k d).0 (slice_index_or m.entries k d).1
      (IsDistinct-from_sorted (λ x y. slice_cmp nat_cmp x.items y.items) (keys_of m.entries) ascends) (slice_get-get_or m.entries k d below)

  -- what is below all keys is below all rows
  rows-below : (x : Vec ℕ Z) (es : List (Vec ℕ Z × Tally)) → AllByRecursion (λ y. slice_cmp nat_cmp x.items y.items ≡ Less) (keys_of es)
      → AllByRecursion (λ ys. slice_cmp nat_cmp x.items ys ≡ Less) (map (λ r. r.seen) (map row_of es))
  rows-below x [] all = tt
  rows-below x (e ∷ es) all = (all.0, rows-below x es all.1)

  -- the rows ascend
  rows-ascend : (es : List (Vec ℕ Z × Tally)) → Ascends es → IsStrictlySortedBy (slice_cmp nat_cmp) (map (λ r. r.seen) (map row_of es))
  unfolding IsStrictlySortedBy
  rows-ascend [] ascends = tt
  rows-ascend (e ∷ es) ascends = (rows-below e.0 es ascends.0, rows-ascend es ascends.1)

  -- the row of the entry at a place
  row-at : (es : List (Vec ℕ Z × Tally)) (i : ℕ) (key : Vec ℕ Z) (t : Tally) (d : List ℕ) → slice_get es i ≡ Some (key, t)
      → (i < length (map (λ r. r.seen) (map row_of es))) × (slice_index_or (map (λ r. r.seen) (map row_of es)) i d ≡ key.items)
  row-at [] i key t d found = absurd cc
  row-at (e ∷ es) zero key t d found =
      let same : e ≡ (key, t) = ap (λ (o : Option (Vec ℕ Z × Tally)). unwrap_or o e) found in
      (omega arith, ap (λ (p : Vec ℕ Z × Tally). p.0.items) same)
  row-at (e ∷ es) (suc i) key t d found =
      let rest = row-at es i key t d found in
      (omega (arith, rest.0), rest.1)

  -- a tuple that some tape shows has a row
  row-of-shown : (m : BTreeMap (Vec ℕ Z) Tally) (tuple : List ℕ) → 0 < (tally_of m tuple).first + (tally_of m tuple).second
      → Contains (map (λ r. r.seen) (map row_of m.entries)) tuple
  row-of-shown m tuple some = by (kept m tuple) refl
    where
      by : (o : Option Tally) → kept m tuple ≡ o → Contains (map (λ r. r.seen) (map row_of m.entries)) tuple
      by None is =
          let nothing : tally_of m tuple ≡ none = ap (λ (o : Option Tally). unwrap_or o none) is in
          absurd (omega (arith, subst (λ (t : Tally). 0 < t.first + t.second) nothing some))
      by (Some t) is =
          let place = place_from_lookup (λ key. is_eq (slice_cmp nat_cmp tuple key.items)) m.entries t is in
          let same : tuple ≡ place.1.items = exact_bytes tuple place.1.items (is-equal _ place.3) in
          let row = row-at m.entries place.0 place.1 t tuple place.2 in
          (place.0, row.0, row.1 ∙ sym same)

  -- the rows of tallies are the table of their numbers
  pub rows-table : (m : BTreeMap (Vec ℕ Z) Tally) → Ascends m.entries → KeepsShown m
      → IsTable (λ tuple. (tally_of m tuple).first) (λ tuple. (tally_of m tuple).second) (map row_of m.entries)
  rows-table m ascends shown = record {
    ascending = rows-ascend m.entries ascends;
    numbers = All-map (λ (r : Row). (r.first ≡ (tally_of m r.seen).first) × (r.second ≡ (tally_of m r.seen).second)) row_of m.entries
        (λ k d below.
        let same = ap (λ (o : Option Tally). unwrap_or o none) (all-found m ascends k d below) in
        (sym (ap (λ (t : Tally). t.first) same), sym (ap (λ (t : Tally). t.second) same)));
    seen = All-map (λ (r : Row). 0 < r.first + r.second) row_of m.entries
        (λ k d below.
        subst (λ (o : Option Tally). IfSome o (λ t. 0 < t.first + t.second)) (all-found m ascends k d below) (shown (slice_index_or m.entries k d).0.items));
    all = row-of-shown m;
  }

-- tables of equal numbers are the same
pub same-table : (f g first second : List ℕ → ℕ) (rows : List Row) → ((tuple : List ℕ) → f tuple ≡ first tuple) → ((tuple : List ℕ) → g tuple ≡ second tuple)
    → IsTable f g rows → IsTable first second rows
same-table f g first second rows left right table = record {
  ascending = table.ascending;
  numbers = λ k d below.
      let both = table.numbers k d below in
      (both.0 ∙ left (slice_index_or rows k d).seen, both.1 ∙ right (slice_index_or rows k d).seen);
  seen = table.seen;
  all = λ tuple some. table.all tuple (omega (arith, some, left tuple, right tuple));
}
