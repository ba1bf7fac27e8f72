-- What a value reaches in a certificate is its need, where the uses are marked as the pass marks them; so a use
-- is marked by the pass exactly where it needs a refresh.
use Rattle.std.proofs.Common.{◌≡◌, ℕ, zero, suc, ◌+◌, ◌<◌, ◌≤◌, true, false, List, [], ◌∷◌, ◌++◌, length, refl, sym, ◌∙◌, ap, subst, arith, inl, inr, append_assoc}
use Rattle.std.specs.List.{Contains}
use Rattle.std.proofs.lemmas.List.{length-map}
use Rattle.std.proofs.lemmas.List.Elements.{Contains-append_left, Contains-append_right, Contains-append_cases}
use Rattle.std.proofs.lemmas.Option.{slice_get_within}
use Rattle.mk_ssa.specs.Kinds.{Kind, Public, Linear, Strong, shared_operands}
use Rattle.mk_ssa.specs.Values.{Values, IsValues}
use Rattle.mk_rules.specs.Tiles.{value_number}
use Rattle.mk_rules.specs.Reaches.{Reaches}
use Rattle.mk_rules.proofs.Operators.{public-unshared}
use Rattle.mk_rules.specs.declared.uses.OperandPlace.{OperandPlace}
use Rattle.mk_rules.proofs.Probes.{Contains-more, Contains-front, Contains-none, Contains-only}
use Rattle.mk_rules.proofs.Noting.{place_of}
use Rattle.mk_rules.proofs.Using.{IsUse, use-is}
use Rattle.mk_rules.specs.Uses.{Use, shared_numbers}
use Rattle.mk_place.specs.Uses.{shape_of_values, uses}
use Rattle.mk_place.specs.Layout.{Marks, own_block}
use Rattle.mk_place.specs.Placed.{Brings, NeedsRefresh}
use Rattle.mk_place.specs.Needs.{brought_by, brought, needs_by, mark_by}
use Rattle.mk_place.specs.Marking.{inputs}
use Rattle.mk_place.proofs.Joining.{Clashing, clash-at, clash-from}
use Rattle.mk_place.proofs.Flow.{Ranked, comes-own, comes-from, IsBrought, Found, found-in, comes, comes-all}
use Rattle.mk_place.proofs.Using.{use-before, uses-ranked, ranked-front}
use Rattle.mk_place.proofs.Hops.{moved, moved-value, stands-value, links_of, hop-at, Step, step-from}

-- each of these uses is marked as the pass does by the uses behind it
unfoldable pub Agrees : ℕ → Marks → List Use → Type 0
Agrees inputs marks [] = Unit {0}
Agrees inputs marks (u ∷ us) = (marks u.value u.place ≡ mark_by inputs us u) × Agrees inputs marks us

-- so is one among them, and those behind it are
pub agrees-at : (inputs : ℕ) (marks : Marks) (front : List Use) (u : Use) (us : List Use) → Agrees inputs marks (front ++ u ∷ us)
    → (marks u.value u.place ≡ mark_by inputs us u) × Agrees inputs marks us
unfolding Agrees
agrees-at inputs marks [] u us agrees = agrees
agrees-at inputs marks (x ∷ front) u us agrees = agrees-at inputs marks front u us agrees.1

-- a use among others, the one before the rest
pub split-more : (all front us inner behind : List Use) (u : Use) → all ≡ front ++ us → us ≡ inner ++ u ∷ behind → all ≡ (front ++ inner) ++ u ∷ behind
split-more all front us inner behind u split same =
    split ∙ ap (λ (xs : List Use). front ++ xs) same ∙ sym (append_assoc front inner (u ∷ behind))

module _ (s : Values) (is : IsValues s) where
  -- a use by a value isn't public
  public-unused : (u : Use) → Contains (uses s) u → u.kind ≡ Public → ⊥
  public-unused u held public =
      let found : IsUse (shape_of_values s) s.values u = use-is (shape_of_values s) s.values u held in
      let none : length (shared_operands found.op) ≡ 0 = public-unshared found.op (sym found.same ∙ public) in
      let some : length (shared_numbers (shape_of_values s) found.op) ≡ length (shared_operands found.op) = length-map (shared_operands found.op) (value_number (shape_of_values s)) in
      omega (arith, slice_get_within (shared_numbers (shape_of_values s) found.op) u.place u.operand found.operand, some, none)

  -- the value of a use isn't used before it
  pub before-unused : (front : List Use) (u : Use) (behind : List Use) (x : Use) → uses s ≡ front ++ u ∷ behind → Contains (front ++ u ∷ []) x
      → x.operand ≡ inputs s + u.value → ⊥
  before-unused front u behind x split held at =
      let whole : (front ++ u ∷ []) ++ behind ≡ uses s = append_assoc front (u ∷ []) behind ∙ sym split in
      let there : Contains (uses s) x = subst (λ (us : List Use). Contains us x) whole (Contains-append_left (front ++ u ∷ []) behind x held) in
      let below : x.operand < inputs s + x.value = use-before s is x there in
      elim (Contains-append_cases front (u ∷ []) x held) [
        | inl early ↦
            let order : x.value ≤ u.value = ranked-front (inputs s) front u behind x (subst (Ranked (inputs s)) split (uses-ranked s)) early in
            omega (arith, below, order, at)
        | inr own ↦ omega (arith, below, at, ap (λ (y : Use). y.value) (Contains-only u x own))
      ]

  module _ (marks : Marks) where
    -- what a use brings by its need it brings in the certificate
    brings-from : (us : List Use) (u : Use) (p : OperandPlace) (kind : Kind) → u.kind ≡ kind → Contains (uses s) u
        → (Contains (needs_by (inputs s) us (inputs s + u.value)) p
        → Reaches (inputs s) (links_of s marks) (inputs s + own_block marks u.value) (own_block marks p.value) p.operand)
        → Contains (brought_by kind (place_of u.value u.place ∷ []) (needs_by (inputs s) us (inputs s + u.value))) p
        → Brings (inputs s) (links_of s marks) marks u p.value p.operand
    brings-from us u p Public is_kind there on held = absurd (public-unused u there is_kind)
    brings-from us u p Linear is_kind there on held = inr (is_kind, on held)
    brings-from us u p Strong is_kind there on held =
        let same : place_of u.value u.place ≡ p = Contains-only (place_of u.value u.place) p held in
        inl (is_kind, sym (ap (λ (x : OperandPlace). x.value) same), sym (ap (λ (x : OperandPlace). x.operand) same))

    -- and the other way round
    brings-to : (us : List Use) (u : Use) (q k : ℕ) → Brings (inputs s) (links_of s marks) marks u q k
        → (Reaches (inputs s) (links_of s marks) (inputs s + own_block marks u.value) (own_block marks q) k
        → Contains (needs_by (inputs s) us (inputs s + u.value)) (place_of q k))
        → Contains (brought (inputs s) (needs_by (inputs s) us) u) (place_of q k)
    brings-to us u q k brings on =
        let here : List OperandPlace = place_of u.value u.place ∷ [] in
        let own : List OperandPlace = needs_by (inputs s) us (inputs s + u.value) in
        elim brings [
          | inl strong ↦
              let same : place_of u.value u.place ≡ place_of q k = ap (λ (v : ℕ). place_of v u.place) (sym strong.1) ∙ ap (place_of q) (sym strong.2) in
              subst (λ (x : Kind). Contains (brought_by x here own) (place_of q k)) (sym strong.0)
              (subst (Contains here) same (Contains-front (place_of u.value u.place) []))
          | inr linear ↦ subst (λ (x : Kind). Contains (brought_by x here own) (place_of q k)) (sym linear.0) (on linear.1)
        ]

    -- a value reaches the places of its need
    pub need-reaches : (us : List Use) (v : ℕ) (p : OperandPlace) → ((u : Use) → Contains us u → Contains (uses s) u) → Agrees (inputs s) marks us
        → Contains (needs_by (inputs s) us v) p → Reaches (inputs s) (links_of s marks) (moved s marks v) (own_block marks p.value) p.operand
    unfolding needs_by Agrees
    need-reaches [] v p among agrees held = absurd (Contains-none p held)
    need-reaches (u ∷ us) v p among agrees held = elim (comes-from (inputs s) u us v p held) [
      | inl own ↦
          let there : Contains (uses s) u = among u (Contains-front u us) in
          let off : marks u.value u.place ≡ false = agrees.0 ∙ own.kept in
          let brings : Brings (inputs s) (links_of s marks) marks u p.value p.operand =
          brings-from us u p u.kind refl there
          (λ later. subst (λ (n : ℕ). Reaches (inputs s) (links_of s marks) n (own_block marks p.value) p.operand) (moved-value s marks u.value)
          (need-reaches us (inputs s + u.value) p (λ x more. among x (Contains-more u us x more)) agrees.1 later)) own.brings in
          subst (λ (n : ℕ). Reaches (inputs s) (links_of s marks) n (own_block marks p.value) p.operand)
          (stands-value s marks u off ∙ ap (moved s marks) (sym own.same)) (hop-at s marks is u p.value p.operand there brings)
      | inr behind ↦ need-reaches us v p (λ x more. among x (Contains-more u us x more)) agrees.1 behind
    ]

    -- so does a use
    pub brought-brings : (us : List Use) (u : Use) (p : OperandPlace) → Contains (uses s) u → ((x : Use) → Contains us x → Contains (uses s) x)
        → Agrees (inputs s) marks us → Contains (brought (inputs s) (needs_by (inputs s) us) u) p
        → Brings (inputs s) (links_of s marks) marks u p.value p.operand
    brought-brings us u p there among agrees held =
        brings-from us u p u.kind refl there
        (λ later. subst (λ (n : ℕ). Reaches (inputs s) (links_of s marks) n (own_block marks p.value) p.operand) (moved-value s marks u.value)
        (need-reaches us (inputs s + u.value) p among agrees later)) held

    -- a value that isn't used before some uses has in its need by them the places that it reaches
    pub reaches-need : (n : ℕ) (front us : List Use) (v q k : ℕ) → uses s ≡ front ++ us → Agrees (inputs s) marks us
        → inputs s + length s.values ≤ v + n → ((x : Use) → Contains front x → x.operand ≡ v → ⊥)
        → Reaches (inputs s) (links_of s marks) (moved s marks v) (own_block marks q) k → Contains (needs_by (inputs s) us v) (place_of q k)
    reaches-need zero front us v q k split agrees high unused reaches =
        let step : Step s marks is v q k = step-from s marks is v q k reaches in
        let u : Use = step.hop in
        let found : IsUse (shape_of_values s) s.values u = use-is (shape_of_values s) s.values u step.there in
        absurd (omega (arith, high, step.same, use-before s is u step.there, slice_get_within s.values u.value found.op found.there))
    reaches-need (suc n) front us v q k split agrees high unused reaches =
        let step : Step s marks is v q k = step-from s marks is v q k reaches in
        let u : Use = step.hop in
        elim (Contains-append_cases front us u (subst (λ (xs : List Use). Contains xs u) split step.there)) [
          | inl early ↦ absurd (unused u early step.same)
          | inr late ↦
              let found : Found (inputs s) us (λ behind x. x ≡ u) = found-in (inputs s) us u late in
              let x : Use = found.here in
              let whole : uses s ≡ (front ++ found.front) ++ x ∷ found.behind =
              split-more (uses s) front us found.front found.behind x split found.split in
              let parts : (marks x.value x.place ≡ mark_by (inputs s) found.behind x) × Agrees (inputs s) marks found.behind =
              agrees-at (inputs s) marks found.front x found.behind (subst (Agrees (inputs s) marks) found.split agrees) in
              let at : x.operand ≡ v = ap (λ (y : Use). y.operand) found.holds ∙ step.same in
              let below : u.operand < inputs s + u.value = use-before s is u step.there in
              let higher : inputs s + length s.values ≤ inputs s + x.value + n =
              omega (arith, high, below, step.same, ap (λ (y : Use). y.value) found.holds) in
              let held : Contains (brought (inputs s) (needs_by (inputs s) found.behind) x) (place_of q k) =
              brings-to found.behind x q k (subst (λ (y : Use). Brings (inputs s) (links_of s marks) marks y q k) (sym found.holds) step.brings)
              (λ later. reaches-need n ((front ++ found.front) ++ x ∷ []) found.behind (inputs s + x.value) q k
              (whole ∙ sym (append_assoc (front ++ found.front) (x ∷ []) found.behind)) parts.1 higher
              (λ y there. before-unused (front ++ found.front) x found.behind y whole there)
              (subst (λ (m : ℕ). Reaches (inputs s) (links_of s marks) m (own_block marks q) k) (sym (moved-value s marks x.value)) later)) in
              let off : mark_by (inputs s) found.behind x ≡ false =
              sym parts.0 ∙ subst (λ (y : Use). marks y.value y.place ≡ false) (sym found.holds) step.kept in
              let own : Contains (needs_by (inputs s) (x ∷ found.behind) v) (place_of q k) =
              subst (λ (w : ℕ). Contains (needs_by (inputs s) (x ∷ found.behind) w) (place_of q k)) at
              (comes-own (inputs s) x found.behind (place_of q k) off held) in
              subst (λ (xs : List Use). Contains (needs_by (inputs s) xs v) (place_of q k)) (sym found.split)
              (comes-all (inputs s) found.front (x ∷ found.behind) v (place_of q k) own)
        ]

    -- what a use brings in the certificate it brings by its need
    pub brings-brought : (front behind : List Use) (u : Use) (q k : ℕ) → uses s ≡ front ++ u ∷ behind → Agrees (inputs s) marks behind
        → Brings (inputs s) (links_of s marks) marks u q k → Contains (brought (inputs s) (needs_by (inputs s) behind) u) (place_of q k)
    brings-brought front behind u q k split agrees brings =
        brings-to behind u q k brings
        (λ later. reaches-need (inputs s + length s.values) (front ++ u ∷ []) behind (inputs s + u.value) q k
        (split ∙ sym (append_assoc front (u ∷ []) behind)) agrees (omega arith) (λ x held. before-unused front u behind x split held)
        (subst (λ (m : ℕ). Reaches (inputs s) (links_of s marks) m (own_block marks q) k) (sym (moved-value s marks u.value)) later))

    -- a use that the pass marks needs a refresh
    pub marked-needs : (front behind : List Use) (u : Use) → uses s ≡ front ++ u ∷ behind → Agrees (inputs s) marks behind
        → mark_by (inputs s) behind u ≡ true → NeedsRefresh (inputs s) (links_of s marks) marks u behind
    marked-needs front behind u split agrees on =
        let need : List OperandPlace = needs_by (inputs s) behind u.operand in
        let clash : Clashing need (brought (inputs s) (needs_by (inputs s) behind) u) =
        clash-from need (brought (inputs s) (needs_by (inputs s) behind) u) on in
        let found : Found (inputs s) behind (λ us x. IsBrought (inputs s) us x u.operand clash.first) =
        comes (inputs s) behind u.operand clash.first clash.held in
        let x : Use = found.here in
        let parts : (marks x.value x.place ≡ mark_by (inputs s) found.behind x) × Agrees (inputs s) marks found.behind =
        agrees-at (inputs s) marks found.front x found.behind (subst (Agrees (inputs s) marks) found.split agrees) in
        let among : (y : Use) → Contains (u ∷ behind) y → Contains (uses s) y =
        λ y held. subst (λ (us : List Use). Contains us y) (sym split) (Contains-append_right front (u ∷ behind) y held) in
        let inner : (y : Use) → Contains (x ∷ found.behind) y → Contains behind y =
        λ y held. subst (λ (us : List Use). Contains us y) (sym found.split) (Contains-append_right found.front (x ∷ found.behind) y held) in
        let there : Contains behind x = inner x (Contains-front x found.behind) in
        let later : Brings (inputs s) (links_of s marks) marks x clash.first.value clash.first.operand =
        brought-brings found.behind x clash.first (among x (Contains-more u behind x there))
        (λ y held. among y (Contains-more u behind y (inner y (Contains-more x found.behind y held)))) parts.1 found.holds.brings in
        record {
          later = x;
          comes = there;
          same = sym found.holds.same;
          kept = parts.0 ∙ found.holds.kept;
          product = clash.second.value;
          place = clash.second.operand;
          other = clash.first.operand;
          brings =
              brought-brings behind u clash.second (among u (Contains-front u behind)) (λ y held. among y (Contains-more u behind y held)) agrees clash.there;
          brought = subst (λ (q : ℕ). Brings (inputs s) (links_of s marks) marks x q clash.first.operand) clash.same later;
          differ = λ e. clash.differ (sym e);
        }

    -- and the other way round
    pub needs-marked : (front behind : List Use) (u : Use) → uses s ≡ front ++ u ∷ behind → Agrees (inputs s) marks behind
        → NeedsRefresh (inputs s) (links_of s marks) marks u behind → mark_by (inputs s) behind u ≡ true
    needs-marked front behind u split agrees needs =
        let found : Found (inputs s) behind (λ us x. x ≡ needs.later) = found-in (inputs s) behind needs.later needs.comes in
        let x : Use = found.here in
        let parts : (marks x.value x.place ≡ mark_by (inputs s) found.behind x) × Agrees (inputs s) marks found.behind =
        agrees-at (inputs s) marks found.front x found.behind (subst (Agrees (inputs s) marks) found.split agrees) in
        let whole : uses s ≡ ((front ++ u ∷ []) ++ found.front) ++ x ∷ found.behind =
        split-more (uses s) (front ++ u ∷ []) behind found.front found.behind x (split ∙ sym (append_assoc front (u ∷ []) behind)) found.split in
        let first : OperandPlace = place_of needs.product needs.other in
        let held : Contains (brought (inputs s) (needs_by (inputs s) found.behind) x) first =
        brings-brought ((front ++ u ∷ []) ++ found.front) found.behind x needs.product needs.other whole parts.1
        (subst (λ (y : Use). Brings (inputs s) (links_of s marks) marks y needs.product needs.other) (sym found.holds) needs.brought) in
        let off : mark_by (inputs s) found.behind x ≡ false =
        sym parts.0 ∙ subst (λ (y : Use). marks y.value y.place ≡ false) (sym found.holds) needs.kept in
        let at : x.operand ≡ u.operand = ap (λ (y : Use). y.operand) found.holds ∙ needs.same in
        let own : Contains (needs_by (inputs s) (x ∷ found.behind) u.operand) first =
        subst (λ (w : ℕ). Contains (needs_by (inputs s) (x ∷ found.behind) w) first) at (comes-own (inputs s) x found.behind first off held) in
        let need : List OperandPlace = needs_by (inputs s) behind u.operand in
        clash-at need (brought (inputs s) (needs_by (inputs s) behind) u)
        (record {
          first = first;
          second = place_of needs.product needs.place;
          held =
              subst (λ (xs : List Use). Contains (needs_by (inputs s) xs u.operand) first) (sym found.split)
              (comes-all (inputs s) found.front (x ∷ found.behind) u.operand first own);
          there = brings-brought front behind u needs.product needs.place split agrees needs.brings;
          same = refl;
          differ = λ e. needs.differ (sym e);
        })
