-- Ascending lists of places: the order is one, and the places that there are determine the list.
use Rattle.std.proofs.Common.{◌≡◌, true, List, [], ◌∷◌, refl, sym, ◌∙◌, ap, inl, inr, arith}
use Rattle.std.specs.List.{Contains}
use Rattle.mk_base.proofs.Lists.{Contains-cases}
use Rattle.mk_rules.proofs.Probes.{Contains-none, Contains-front, Contains-more}
use Rattle.mk_report.specs.declared.need.ProductPlace.{ProductPlace}
use Rattle.mk_report.specs.Reached.{is_before, AreAscending}

-- no two places are before each other
pub before-asym : (p q : ProductPlace) → is_before p q ≡ true → is_before q p ≡ true → ⊥
before-asym p q = grind arith

-- ascending lists with the same places are equal
pub ascending-same : (ps qs : List ProductPlace) → AreAscending ps → AreAscending qs → ((x : ProductPlace) → Contains ps x → Contains qs x)
    → ((x : ProductPlace) → Contains qs x → Contains ps x) → ps ≡ qs
unfolding AreAscending
ascending-same [] [] left right there back = refl
ascending-same [] (q ∷ qs) left right there back = absurd (Contains-none q (back q (Contains-front q qs)))
ascending-same (p ∷ ps) [] left right there back = absurd (Contains-none p (there p (Contains-front p ps)))
ascending-same (p ∷ ps) (q ∷ qs) left right there back =
    let same : p ≡ q = elim (Contains-cases q qs p (there p (Contains-front p ps))) [
      | inl own ↦ sym own
      | inr late ↦ elim (Contains-cases p ps q (back q (Contains-front q qs))) [
        | inl own ↦ own
        | inr other ↦ absurd (before-asym p q (left.0 q other) (right.0 p late))
      ]
    ] in
    let rest : ps ≡ qs =
    ascending-same ps qs left.1 right.1
    (λ x held. elim (Contains-cases q qs x (there x (Contains-more p ps x held))) [
      | inl own ↦
          let before : is_before p x ≡ true = left.0 x held in
          let again : is_before p p ≡ true = ap (is_before p) (same ∙ own) ∙ before in
          absurd (before-asym p p again again)
      | inr late ↦ late
    ])
    (λ x held. elim (Contains-cases p ps x (back x (Contains-more q qs x held))) [
      | inl own ↦
          let before : is_before q x ≡ true = right.0 x held in
          let again : is_before q q ≡ true = ap (is_before q) (sym same ∙ own) ∙ before in
          absurd (before-asym q q again again)
      | inr late ↦ late
    ]) in
    ap (λ (x : ProductPlace). x ∷ ps) same ∙ ap (λ (xs : List ProductPlace). q ∷ xs) rest
