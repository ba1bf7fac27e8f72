-- The turn of a name, among loops that are told by their names and numbers.
use Rattle.std.proofs.Common.{◌≡◌, ℕ, ◌+◌, ◌≤◌, length, Bool, true, false, cond, List, [], ◌∷◌, ◌++◌, Option, Some, None, map, take, drop, find, bytes_eq, option_map, unwrap_or, refl, sym, ap, ◌∙◌, append_assoc}
use Rattle.std.specs.Option.{option_or}
use Rattle.std.proofs.lemmas.List.{take-append-drop, take_all}
use Rattle.std.proofs.lemmas.List.Folds.{find-append}
use Rattle.mk_types.specs.Turns.{Turn, turn_number}

module _ {A : Type 0} (name_of : A → List ℕ) (number_of : A → ℕ) (name : List ℕ) where
  -- a loop in its turn
  abbrev pub turn : A → Turn
  turn x = record { name = name_of x; number = number_of x }

  -- whether it has the name
  abbrev has_name : A → Bool
  has_name x = bytes_eq (name_of x) name

  -- the number of what is found
  abbrev number_in : Option A → ℕ
  number_in found = unwrap_or (option_map number_of found) 0

  -- the number of the first that has the name
  number_found : (xs : List A) → turn_number (map turn xs) name ≡ number_in (find has_name xs)
  number_found [] = refl
  number_found (x ∷ xs) = by (has_name x) (number_found xs)
    where
      by : (b : Bool) → turn_number (map turn xs) name ≡ number_in (find has_name xs) → unwrap_or (option_map (λ t. t.number) (cond b (Some (turn x)) (find (λ t. bytes_eq t.name name) (map turn xs)))) 0
          ≡ number_in (cond b (Some x) (find has_name xs))
      by true rest = refl
      by false rest = rest

  -- it is that of one that has it where none before does
  pub number_first : (xs : List A) (i : ℕ) (x : A) → take (i + 1) xs ≡ take i xs ++ x ∷ [] → find has_name (take i xs) ≡ None → has_name x ≡ true →
      (ts : List Turn) → map turn xs ≡ ts → number_of x ≡ turn_number ts name
  number_first xs i x more none has ts is =
      sym (ap (λ us. turn_number us name) (sym is) ∙ number_found xs
      ∙ ap (λ ys. number_in (find has_name ys)) (sym (take-append-drop (i + 1) xs) ∙ ap (λ ys. ys ++ drop (i + 1) xs) more ∙ append_assoc (take i xs) (x ∷ []) (drop (i + 1) xs))
      ∙ ap number_in (find-append has_name (take i xs) (x ∷ drop (i + 1) xs))
      ∙ ap (λ o. number_in (option_or o (find has_name (x ∷ drop (i + 1) xs)))) none
      ∙ ap (λ b. number_in (cond b (Some x) (find has_name (drop (i + 1) xs)))) has)

  -- where none has it the number is 0
  pub number_none : (xs : List A) (i : ℕ) → length xs ≤ i → find has_name (take i xs) ≡ None → (ts : List Turn) → map turn xs ≡ ts → 0 ≡ turn_number ts name
  number_none xs i whole none ts is =
      sym (ap (λ us. turn_number us name) (sym is) ∙ number_found xs
      ∙ ap number_in (ap (find has_name) (sym (take_all i xs whole)) ∙ none))

  -- one more that does not have it
  pub none_more : (xs : List A) (i : ℕ) (x : A) → take (i + 1) xs ≡ take i xs ++ x ∷ [] → find has_name (take i xs) ≡ None → has_name x ≡ false →
      find has_name (take (i + 1) xs) ≡ None
  none_more xs i x more none hasnt =
      ap (find has_name) more ∙ find-append has_name (take i xs) (x ∷ [])
      ∙ ap (λ o. option_or o (find has_name (x ∷ []))) none ∙ ap (λ b. cond b (Some x) None) hasnt
