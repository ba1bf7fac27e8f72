-- What a look-up finds among entries after one is set or inserted.
use Rattle.std.proofs.Common.{◌≡◌, Bool, true, false, List, [], ◌∷◌, Option, Some, refl, sym, ap, ◌∙◌}
use Rattle.std.proofs.lemmas.Bool.{cond-true, cond-false}
use Rattle.std.specs.Prelude.{if◌then◌else◌}
use Rattle.std.specs.declared.cmp.Ordering.{Ordering}
use Rattle.std.specs.declared.cmp.Ordering.TheVariants.{Less, Equal, Greater}
use Rattle.std.specs.Ordering.{match_ordering}
use Rattle.std.specs.Map.{lookup, set_value}
use Rattle.std.specs.BTreeMap.{insert_entry}

module _ {K X : Type 0} where
  -- the first entry passes
  first-passes : (p : K → Bool) (e : K × X) (es : List (K × X)) → p e.0 ≡ true → lookup p (e ∷ es) ≡ Some e.1
  first-passes p e es passes = cond-true (p e.0) (Some e.1) (lookup p es) passes

  -- the first entry doesn't pass
  first-fails : (p : K → Bool) (e : K × X) (es : List (K × X)) → p e.0 ≡ false → lookup p (e ∷ es) ≡ lookup p es
  first-fails p e es fails = cond-false (p e.0) (Some e.1) (lookup p es) fails

  -- a value that is set where there is one is found
  pub set-here : (q : K → Bool) (es : List (K × X)) (old w : X) → lookup q es ≡ Some old → lookup q (set_value q es w) ≡ Some w
  set-here q [] old w found = absurd cc
  set-here q (e ∷ es) old w found = by (set-here q es old w) (q e.0) refl
    where
      by : (lookup q es ≡ Some old → lookup q (set_value q es w) ≡ Some w) → (b : Bool) → b ≡ q e.0 → lookup q (set_value q (e ∷ es) w) ≡ Some w
      by further true same =
          ap (lookup q) (cond-true (q e.0) ((e.0, w) ∷ es) (e ∷ set_value q es w) (sym same)) ∙ first-passes q (e.0, w) es (sym same)
      by further false same =
          ap (lookup q) (cond-false (q e.0) ((e.0, w) ∷ es) (e ∷ set_value q es w) (sym same))
          ∙ first-fails q e (set_value q es w) (sym same)
          ∙ further (sym (first-fails q e es (sym same)) ∙ found)

  -- where other keys are looked up, nothing changes
  pub set-apart : (p q : K → Bool) (es : List (K × X)) (w : X) → ((k : K) → q k ≡ true → p k ≡ false) → lookup p (set_value q es w) ≡ lookup p es
  set-apart p q [] w apart = refl
  set-apart p q (e ∷ es) w apart = by (set-apart p q es w apart) (q e.0) refl
    where
      by : lookup p (set_value q es w) ≡ lookup p es → (b : Bool) → b ≡ q e.0 → lookup p (set_value q (e ∷ es) w) ≡ lookup p (e ∷ es)
      by further true same =
          ap (lookup p) (cond-true (q e.0) ((e.0, w) ∷ es) (e ∷ set_value q es w) (sym same))
          ∙ first-fails p (e.0, w) es (apart e.0 (sym same)) ∙ sym (first-fails p e es (apart e.0 (sym same)))
      by further false same =
          ap (lookup p) (cond-false (q e.0) ((e.0, w) ∷ es) (e ∷ set_value q es w) (sym same))
          ∙ ap (λ (o : Option X). if p e.0 then Some e.1 else o) further

  -- a value that is inserted is found
  pub insert-here : (cmp : K → K → Ordering) (p : K → Bool) (es : List (K × X)) (k : K) (v : X) → p k ≡ true
      → ((x : K) → cmp k x ≡ Equal → p x ≡ true) → ((x : K) → cmp k x ≡ Greater → p x ≡ false)
      → lookup p (insert_entry cmp es k v) ≡ Some v
  insert-here cmp p [] k v here equal greater = first-passes p (k, v) [] here
  insert-here cmp p (e ∷ es) k v here equal greater = by (insert-here cmp p es k v here equal greater) (cmp k e.0) refl
    where
      by : lookup p (insert_entry cmp es k v) ≡ Some v → (o : Ordering) → o ≡ cmp k e.0
          → lookup p (match_ordering o ((k, v) ∷ e ∷ es) ((e.0, v) ∷ es) (e ∷ insert_entry cmp es k v)) ≡ Some v
      by further Less same = first-passes p (k, v) (e ∷ es) here
      by further Equal same = first-passes p (e.0, v) es (equal e.0 (sym same))
      by further Greater same = first-fails p e (insert_entry cmp es k v) (greater e.0 (sym same)) ∙ further

  -- where other keys are looked up, nothing changes
  pub insert-apart : (cmp : K → K → Ordering) (p : K → Bool) (es : List (K × X)) (k : K) (v : X) → p k ≡ false
      → ((x : K) → cmp k x ≡ Equal → p x ≡ false) → lookup p (insert_entry cmp es k v) ≡ lookup p es
  insert-apart cmp p [] k v apart equal = first-fails p (k, v) [] apart
  insert-apart cmp p (e ∷ es) k v apart equal = by (insert-apart cmp p es k v apart equal) (cmp k e.0) refl
    where
      by : lookup p (insert_entry cmp es k v) ≡ lookup p es → (o : Ordering) → o ≡ cmp k e.0
          → lookup p (match_ordering o ((k, v) ∷ e ∷ es) ((e.0, v) ∷ es) (e ∷ insert_entry cmp es k v)) ≡ lookup p (e ∷ es)
      by further Less same = first-fails p (k, v) (e ∷ es) apart
      by further Equal same = first-fails p (e.0, v) es (equal e.0 (sym same)) ∙ sym (first-fails p e es (equal e.0 (sym same)))
      by further Greater same = ap (λ (o : Option X). if p e.0 then Some e.1 else o) further
