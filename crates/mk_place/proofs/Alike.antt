-- Certificates that are placed are marked as the pass marks them, so there is one at most.
use Rattle.std.proofs.Common.{◌≡◌, ◌↔◌, ℕ, Bool, true, List, [], ◌∷◌, ◌++◌, refl, sym, ◌∙◌, ap, subst, inl, inr, append_assoc}
use Rattle.std.specs.List.{Contains}
use Rattle.std.proofs.lemmas.Bool.{cases_Bool}
use Rattle.std.proofs.Math.Path.{fun_ext}
use Rattle.mk_ssa.specs.Values.{Values, IsValues}
use Rattle.mk_rules.specs.Claimed.{Claimed}
use Rattle.mk_rules.specs.Reaches.{links}
use Rattle.mk_rules.specs.Uses.{Use}
use Rattle.mk_place.specs.Uses.{shape_of_values, uses}
use Rattle.mk_place.specs.Layout.{Marks, laid_out}
use Rattle.mk_place.specs.Placed.{NeedsRefresh, Placed}
use Rattle.mk_place.specs.Needs.{mark_by}
use Rattle.mk_place.specs.Marking.{inputs}
use Rattle.mk_place.proofs.Flow.{Found, found-in}
use Rattle.mk_place.proofs.Hops.{links_of}
use Rattle.mk_place.proofs.Reaching.{Agrees, agrees-at, marked-needs, needs-marked}
use Rattle.mk_place.proofs.Standing.{same-answer}

module _ (s : Values) (is : IsValues s) where
  -- the marks of a placed certificate are those of the pass, from the last use to the first
  agrees-behind : (cert : Claimed) (placed : Placed s cert) (front us : List Use) → uses s ≡ front ++ us → Agrees (inputs s) placed.marks us
  unfolding Agrees
  agrees-behind cert placed front [] split = tt
  agrees-behind cert placed front (u ∷ us) split =
      let behind : Agrees (inputs s) placed.marks us =
      agrees-behind cert placed (front ++ u ∷ []) us (split ∙ sym (append_assoc front (u ∷ []) us)) in
      let needed : (placed.marks u.value u.place ≡ true) ↔ NeedsRefresh (inputs s) (links_of s placed.marks) placed.marks u us =
      subst (λ (c : Claimed). (placed.marks u.value u.place ≡ true) ↔ NeedsRefresh (inputs s) (links (shape_of_values s) c.blocks) placed.marks u us)
      placed.laid (placed.needed front us u split) in (
        same-answer (placed.marks u.value u.place) (mark_by (inputs s) us u)
            (λ on. needs-marked s is placed.marks front us u split behind (needed.0 on))
            (λ on. needed.1 (marked-needs s is placed.marks front us u split behind on)),
        behind,
      )

  -- a mark of one placed certificate is one of the other
  marks-carried : (one other : Claimed) (first : Placed s one) (second : Placed s other) (i k : ℕ) → first.marks i k ≡ true → second.marks i k ≡ true
  marks-carried one other first second i k on =
      let found_use : (u : Use) × Contains (uses s) u × (u.value ≡ i) × (u.place ≡ k) = first.used i k on in
      let found : Found (inputs s) (uses s) (λ behind x. x ≡ found_use.0) = found-in (inputs s) (uses s) found_use.0 found_use.1 in
      let x : Use = found.here in
      let value : x.value ≡ i = ap (λ (y : Use). y.value) found.holds ∙ found_use.2 in
      let place : x.place ≡ k = ap (λ (y : Use). y.place) found.holds ∙ found_use.3 in
      let here : first.marks x.value x.place ≡ mark_by (inputs s) found.behind x =
      (agrees-at (inputs s) first.marks found.front x found.behind (subst (Agrees (inputs s) first.marks) found.split (agrees-behind one first [] (uses s) refl))).0 in
      let there : second.marks x.value x.place ≡ mark_by (inputs s) found.behind x =
      (agrees-at (inputs s) second.marks found.front x found.behind (subst (Agrees (inputs s) second.marks) found.split (agrees-behind other second [] (uses s) refl))).0 in
      let at : (marks : Marks) → marks x.value x.place ≡ marks i k =
      λ marks. ap (λ (n : ℕ). marks n x.place) value ∙ ap (marks i) place in
      sym (at second.marks) ∙ there ∙ sym here ∙ at first.marks ∙ on

  -- so they have the same marks
  marks-alike : (one other : Claimed) (first : Placed s one) (second : Placed s other) → first.marks ≡ second.marks
  marks-alike one other first second =
      fun_ext (λ i. fun_ext (λ k. same-answer (first.marks i k) (second.marks i k)
      (marks-carried one other first second i k) (marks-carried other one second first i k)))

-- and are the same
pub placed-alike : (s : Values) (one other : Claimed) → IsValues s → Placed s one → Placed s other → one ≡ other
placed-alike s one other is first second =
    first.laid ∙ ap (λ (marks : Marks). laid_out marks s) (marks-alike s is one other first second) ∙ sym second.laid
