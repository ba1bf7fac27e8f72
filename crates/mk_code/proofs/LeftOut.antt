-- A short list of numbers leaves a small number out.
use Rattle.std.proofs.Common.{◌≡◌, ◌≢◌, ◌⊎◌, ℕ, zero, suc, ◌<◌, List, [], ◌∷◌, length, nat_eq, if◌then◌else◌, sym, ◌∙◌, subst, arith, inl, inr, eq-eqb, ne_eqb}
use Rattle.std.proofs.lemmas.Bool.{cases_eq, cond-true, cond-false}

-- the number is none of these
unfoldable pub IsLeftOut : ℕ → List ℕ → Type 0
IsLeftOut f [] = Unit {0}
IsLeftOut f (x ∷ xs) = (x ≢ f) × IsLeftOut f xs

-- the list without the first position where f stands
unfoldable without : ℕ → List ℕ → List ℕ
without f [] = []
without f (x ∷ xs) = if nat_eq x f then xs else x ∷ without f xs

-- f is left out, or the list without it is shorter
shorter : (f : ℕ) (xs : List ℕ) → IsLeftOut f xs ⊎ (length (without f xs) < length xs)
unfolding IsLeftOut without
shorter f [] = inl tt
shorter f (x ∷ xs) = elim (cases_eq x f) [
  | inl same ↦
      let e : without f (x ∷ xs) ≡ xs = cond-true (nat_eq x f) xs (x ∷ without f xs) (eq-eqb x f same) in
      inr (rw e (omega arith))
  | inr differ ↦
      let e : without f (x ∷ xs) ≡ x ∷ without f xs = cond-false (nat_eq x f) xs (x ∷ without f xs) (ne_eqb x f differ) in
      elim (shorter f xs) [
        | inl out ↦ inl (differ, out)
        | inr less ↦ inr (rw e (omega arith))
      ]
]

-- another number that the list without f leaves out is left out by the list
left_out-behind : (f g : ℕ) (xs : List ℕ) → f ≢ g → IsLeftOut g (without f xs) → IsLeftOut g xs
unfolding IsLeftOut without
left_out-behind f g [] other out = tt
left_out-behind f g (x ∷ xs) other out = elim (cases_eq x f) [
  | inl same ↦
      let e : without f (x ∷ xs) ≡ xs = cond-true (nat_eq x f) xs (x ∷ without f xs) (eq-eqb x f same) in
      ((λ h. other (sym same ∙ h)), subst (λ (l : List ℕ). IsLeftOut g l) e out)
  | inr differ ↦
      let e : without f (x ∷ xs) ≡ x ∷ without f xs = cond-false (nat_eq x f) xs (x ∷ without f xs) (ne_eqb x f differ) in
      let parts : (x ≢ g) × IsLeftOut g (without f xs) = subst (λ (l : List ℕ). IsLeftOut g l) e out in
      (parts.0, left_out-behind f g xs other parts.1)
]

-- fewer than n numbers leave one below n out
pub left_out : (n : ℕ) (xs : List ℕ) → length xs < n → (f : ℕ) × (f < n) × IsLeftOut f xs
left_out zero xs few = absurd (omega arith)
left_out (suc n) xs few = elim (shorter n xs) [
  | inl out ↦ (n, omega arith, out)
  | inr less ↦
      let found : (f : ℕ) × (f < n) × IsLeftOut f (without n xs) = left_out n (without n xs) (omega arith) in
      (found.0, omega arith, left_out-behind n found.0 xs (λ e. absurd (omega (arith, found.1, e))) found.2)
]
