-- Bytes that come from a source, over several calls in a row.
use Rattle.std.proofs.Common.{◌≡◌, ℕ, List, [], ◌++◌, take, drop, Option, Some, None, IfSome, refl, sym, ◌∙◌, ap, subst, append_assoc}
use Rattle.std.proofs.lemmas.List.{take-append-drop}
use Rattle.mk_base.specs.Outside.{GivesNext}
use Rattle.mk_bundle.specs.Taking.{Comes}

-- nothing came where the source stayed as it was
pub comes_none : (told after : Option (List ℕ)) → IfSome told (λ rest. after ≡ Some rest) → Comes [] told after
comes_none None after same = tt
comes_none (Some rest) after same = (rest, refl, same)

-- nothing came where nothing was read
pub comes_kept : (told : Option (List ℕ)) → Comes [] told told
comes_kept None = tt
comes_kept (Some rest) = (rest, refl, refl)

-- what a read gave came
pub comes_given : (told after : Option (List ℕ)) (buffer : List ℕ) (n : ℕ) → IfSome told (λ rest. GivesNext rest n buffer after) → Comes (take n buffer) told after
comes_given None after buffer n given = tt
comes_given (Some rest) after buffer n given = (drop n rest, sym (take-append-drop n rest) ∙ ap (λ (l : List ℕ). l ++ drop n rest) (sym given.bytes), given.taken)

-- what came after what came before
pub comes_more : (told mid after : Option (List ℕ)) (first second : List ℕ) → Comes first told mid → Comes second mid after → Comes (first ++ second) told after
comes_more None mid after first second p q = tt
comes_more (Some rest) mid after first second p q =
    let step : Comes second (Some p.0) after = subst (λ (m : Option (List ℕ)). Comes second m after) p.2 q in
    (step.0, p.1 ∙ ap (λ (l : List ℕ). first ++ l) step.1 ∙ sym (append_assoc first second step.0), step.2)

-- where nothing was left, nothing is left behind what came
pub ends_behind : (told mid after : Option (List ℕ)) (came buffer : List ℕ) → Comes came told mid → IfSome mid (λ rest. rest ≡ []) → IfSome mid (λ rest. GivesNext rest 0 buffer after) → IfSome told (λ rest. after ≡ Some [])
ends_behind None mid after came buffer p end given = tt
ends_behind (Some rest) mid after came buffer p end given =
    let none : p.0 ≡ [] = subst (λ (m : Option (List ℕ)). IfSome m (λ r. r ≡ [])) p.2 end in
    let step : GivesNext p.0 0 buffer after = subst (λ (m : Option (List ℕ)). IfSome m (λ r. GivesNext r 0 buffer after)) p.2 given in
    step.taken ∙ ap Some none

-- where nothing was left and nothing came, nothing is left
pub end_kept : (told after : Option (List ℕ)) → IfSome told (λ rest. rest ≡ []) → Comes [] told after → IfSome told (λ rest. after ≡ Some [])
end_kept None after end comes = tt
end_kept (Some rest) after end comes = comes.2 ∙ ap Some (sym comes.1 ∙ end)

-- what holds of the end behind what came holds of it from the beginning on
pub end_from : (told mid after : Option (List ℕ)) (came : List ℕ) → Comes came told mid → IfSome mid (λ rest. after ≡ Some []) → IfSome told (λ rest. after ≡ Some [])
end_from None mid after came comes end = tt
end_from (Some rest) mid after came comes end = subst (λ (m : Option (List ℕ)). IfSome m (λ r. after ≡ Some [])) comes.2 end
