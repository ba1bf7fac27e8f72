-- The certificate by the marks of the pass is placed and undoubled.
use Rattle.std.proofs.Common.{◌≡◌, ℕ, ◌+◌, ◌≤◌, Some, List, [], ◌∷◌, ◌++◌, length, map, slice_get, refl, sym, ◌∙◌, ap, subst, arith, inl, inr, append_assoc}
use Rattle.std.specs.List.{Contains}
use Rattle.std.proofs.lemmas.Bool.{cases_Bool}
use Rattle.std.proofs.lemmas.Option.{same_Some}
use Rattle.std.proofs.lemmas.List.Elements.{Contains-append_right}
use Rattle.mk_ssa.specs.declared.Op.{Op}
use Rattle.mk_ssa.specs.Kinds.{Linear, Strong, kind, shared_operands}
use Rattle.mk_ssa.specs.Values.{Values, IsValues}
use Rattle.mk_rules.specs.Tiles.{value_number}
use Rattle.mk_rules.specs.Claimed.{Claimed}
use Rattle.mk_rules.specs.Reaches.{Reaches, Undoubled, links}
use Rattle.mk_rules.proofs.Doubled.{links-from}
use Rattle.mk_rules.proofs.Probes.{Contains-front, Contains-none}
use Rattle.mk_rules.proofs.Noting.{place_of}
use Rattle.mk_rules.proofs.Using.{IsUse, use-is}
use Rattle.mk_rules.specs.Uses.{Use}
use Rattle.mk_place.specs.Uses.{shape_of_values, uses}
use Rattle.mk_place.specs.Layout.{Marks, own_block, refresh_block, laid_out, blocks_from}
use Rattle.mk_place.specs.Placed.{Brings, Placed}
use Rattle.mk_place.specs.Needs.{needs_by, mark_by, marks_by}
use Rattle.mk_place.specs.Marking.{all_marks, inputs}
use Rattle.mk_place.proofs.Flow.{Ranked, Found, marks-at, marks-from, IsMarked, alone}
use Rattle.mk_place.proofs.Using.{uses-ranked}
use Rattle.mk_place.proofs.Blocks.{refresh-once}
use Rattle.mk_place.proofs.Differing.{refresh-or-own}
use Rattle.mk_place.proofs.Hops.{moved, moved-value, moved-once, moved-no-refresh, stands-value, stands-refresh, links_of, use-two, hop-at, hop-from, Hop, refresh-single}
use Rattle.mk_place.proofs.Reaching.{Agrees, agrees-at, reaches-need, marked-needs, needs-marked}

-- the pass agrees with itself
agrees-from : (s : Values) (front us : List Use) → uses s ≡ front ++ us → Agrees (inputs s) (all_marks s) us
unfolding Agrees
agrees-from s front [] split = tt
agrees-from s front (u ∷ us) split = (
  ap (λ (xs : List Use). marks_by (inputs s) xs u.value u.place) split
      ∙ marks-at (inputs s) front u us (subst (Ranked (inputs s)) split (uses-ranked s)),
  agrees-from s (front ++ u ∷ []) us (split ∙ sym (append_assoc front (u ∷ []) us)),
)

-- the marks of the pass agree with the needs
pub all-agree : (s : Values) → Agrees (inputs s) (all_marks s) (uses s)
all-agree s = agrees-from s [] (uses s) refl

module _ (s : Values) (is : IsValues s) where
  -- the certificate is placed
  pub laid-placed : Placed s (laid_out (all_marks s) s)
  laid-placed = record {
    marks = all_marks s;
    laid = refl;
    used = λ i k on.
        let found : Found (inputs s) (uses s) (λ behind u. IsMarked (inputs s) i k behind u) = marks-from (inputs s) (uses s) i k on in (
          found.here,
          subst (λ (us : List Use). Contains us found.here) (sym found.split)
              (Contains-append_right found.front (found.here ∷ found.behind) found.here (Contains-front found.here found.behind)),
          sym found.holds.value,
          sym found.holds.place,
        );
    needed = λ front behind u split.
        let parts : (all_marks s u.value u.place ≡ mark_by (inputs s) behind u) × Agrees (inputs s) (all_marks s) behind =
        agrees-at (inputs s) (all_marks s) front u behind (subst (Agrees (inputs s) (all_marks s)) split (all-agree s)) in (
          λ on. marked-needs s is (all_marks s) front behind u split parts.1 (sym parts.0 ∙ on),
          λ needs. parts.0 ∙ needs-marked s is (all_marks s) front behind u split parts.1 needs,
        );
  }

  module _ (marks : Marks) (agrees : Agrees (inputs s) marks (uses s)) where
    -- no value comes to both places of a product
    moved-alone : (v q : ℕ) → Reaches (inputs s) (links_of s marks) (moved s marks v) (own_block marks q) 0
        → Reaches (inputs s) (links_of s marks) (moved s marks v) (own_block marks q) 1 → ⊥
    moved-alone v q first second =
        let all : inputs s + length s.values ≤ v + (inputs s + length s.values) = omega arith in
        let zeroth : Contains (needs_by (inputs s) (uses s) v) (place_of q 0) =
        reaches-need s is marks (inputs s + length s.values) [] (uses s) v q 0 refl agrees all (λ x held same. Contains-none x held) first in
        let other : Contains (needs_by (inputs s) (uses s) v) (place_of q 1) =
        reaches-need s is marks (inputs s + length s.values) [] (uses s) v q 1 refl agrees all (λ x held same. Contains-none x held) second in
        omega (arith, alone (inputs s) (uses s) v (place_of q 0) (place_of q 1) zeroth other refl)

    -- nor by uses at one place of one value
    same-alone : (u x : Use) (q : ℕ) → Contains (uses s) u → Contains (uses s) x → u.value ≡ x.value → u.place ≡ x.place
        → Brings (inputs s) (links_of s marks) marks u q 0 → Brings (inputs s) (links_of s marks) marks x q 1 → ⊥
    same-alone u x q there also value place first second =
        let one : IsUse (shape_of_values s) s.values u = use-is (shape_of_values s) s.values u there in
        let two : IsUse (shape_of_values s) s.values x = use-is (shape_of_values s) s.values x also in
        let op : Some one.op ≡ Some two.op = sym one.there ∙ ap (slice_get s.values) value ∙ two.there in
        let kinds : u.kind ≡ x.kind = one.same ∙ ap kind (same_Some one.op two.op op) ∙ sym two.same in
        elim first [
          | inl strong ↦ elim second [
            | inl other ↦ omega (arith, strong.2, other.2, place)
            | inr linear ↦ let e : Strong ≡ Linear = sym strong.0 ∙ kinds ∙ linear.0 in absurd (cc)
          ]
          | inr linear ↦ elim second [
            | inl strong ↦ let e : Strong ≡ Linear = sym strong.0 ∙ sym kinds ∙ linear.0 in absurd (cc)
            | inr other ↦
                let at : inputs s + own_block marks x.value ≡ moved s marks (inputs s + u.value) =
                ap (λ (n : ℕ). inputs s + own_block marks n) (sym value) ∙ sym (moved-value s marks u.value) in
                moved-alone (inputs s + u.value) q
                (subst (λ (n : ℕ). Reaches (inputs s) (links_of s marks) n (own_block marks q) 0) (sym (moved-value s marks u.value)) linear.1)
                (subst (λ (n : ℕ). Reaches (inputs s) (links_of s marks) n (own_block marks q) 1) at other.1)
          ]
        ]

    -- nor by any two uses
    hops-alone : (v q : ℕ) → Hop s marks is v q 0 → Hop s marks is v q 1 → ⊥
    hops-alone v q first second =
        let u : Use = first.hop in
        let x : Use = second.hop in
        elim (cases_Bool (marks u.value u.place)) [
          | inl on ↦ elim (cases_Bool (marks x.value x.place)) [
            | inl also ↦
                let e : inputs s + refresh_block marks u.value u.place ≡ inputs s + refresh_block marks x.value x.place =
                sym (first.at ∙ stands-refresh s marks u on) ∙ second.at ∙ stands-refresh s marks x also in
                let same : (u.value ≡ x.value) × (u.place ≡ x.place) =
                refresh-once marks u.value u.place x.value x.place (use-two s marks is u first.there) (use-two s marks is x second.there) on also (omega (arith, e)) in
                same-alone u x q first.there second.there same.0 same.1 first.brings second.brings
            | inr off ↦
                moved-no-refresh s marks x.operand u.value u.place (use-two s marks is u first.there) on
                (sym (second.at ∙ stands-value s marks x off) ∙ first.at ∙ stands-refresh s marks u on)
          ]
          | inr off ↦ elim (cases_Bool (marks x.value x.place)) [
            | inl on ↦
                moved-no-refresh s marks u.operand x.value x.place (use-two s marks is x second.there) on
                (sym (first.at ∙ stands-value s marks u off) ∙ second.at ∙ stands-refresh s marks x on)
            | inr also ↦
                let same : x.operand ≡ u.operand =
                moved-once s marks x.operand u.operand (sym (second.at ∙ stands-value s marks x also) ∙ first.at ∙ stands-value s marks u off) in
                moved-alone u.operand q
                (subst (λ (n : ℕ). Reaches (inputs s) (links_of s marks) n (own_block marks q) 0) (stands-value s marks u off)
                (hop-at s marks is u q 0 first.there first.brings))
                (subst (λ (n : ℕ). Reaches (inputs s) (links_of s marks) n (own_block marks q) 1)
                (stands-value s marks x also ∙ ap (moved s marks) same) (hop-at s marks is x q 1 second.there second.brings))
          ]
        ]

    -- so the certificate is undoubled
    pub laid-undoubled : Undoubled (inputs s) (links_of s marks)
    laid-undoubled v b first second =
        let at : (x : Op) × (slice_get (blocks_from marks 0 s.values) b ≡ Some x) × ((kind x ≡ Strong) × (slice_get (map (value_number (shape_of_values s)) (shared_operands x)) 1 ≡ Some second.operand)) =
        links-from (shape_of_values s) (blocks_from marks 0 s.values) b (λ link. (link.kind ≡ Strong) × (slice_get link.shared 1 ≡ Some second.operand)) second.strong in
        elim (refresh-or-own marks s.values b at.0 at.1) [
          | inl fresh ↦ refresh-single (value_number (shape_of_values s)) at.0 second.operand fresh at.2.1
          | inr own ↦
              hops-alone v own.value
              (hop-from s marks is v own.value 0 (subst (λ (n : ℕ). Reaches (inputs s) (links_of s marks) v n 0) own.place first))
              (hop-from s marks is v own.value 1 (subst (λ (n : ℕ). Reaches (inputs s) (links_of s marks) v n 1) own.place second))
        ]

-- a certificate that is that of the pass
pub is-placed : (s : Values) → IsValues s → (cert : Claimed) → cert ≡ laid_out (all_marks s) s → Placed s cert
is-placed s is cert same = subst (Placed s) (sym same) (laid-placed s is)

-- so it is for the certificate itself
pub is-undoubled : (s : Values) → IsValues s → (cert : Claimed) → cert ≡ laid_out (all_marks s) s
    → Undoubled (s.secrets + s.publics) (links (shape_of_values s) cert.blocks)
is-undoubled s is cert same =
    subst (λ (c : Claimed). Undoubled (inputs s) (links (shape_of_values s) c.blocks)) (sym same) (laid-undoubled s is (all_marks s) (all-agree s))
