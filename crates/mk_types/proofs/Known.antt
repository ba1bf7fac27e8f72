-- A table that knows some declarations, and one more; and what its entries say.
use Rattle.std.proofs.Common.{◌≡◌, ◌≢◌, ◌⊎◌, inl, inr, find, slice_get, ℕ, zero, suc, ◌+◌, ◌≤◌, ◌<◌, Bool, true, false, cond, not, List, [], ◌∷◌, ◌++◌, length, length-append, take, Option, Some, None, nat_lt, eqb, bytes_eq, is_some, option_map, option_to_list, refl, sym, ap, ◌∙◌, if◌then◌else◌, true≢false, arith}
use Rattle.std.specs.List.{cons_option}
use Rattle.std.specs.Borrow.{Bor}
use Rattle.std.specs.Option.{option_or}
use Rattle.std.proofs.lemmas.Option.{none-some}
use Rattle.std.proofs.lemmas.Bool.{lt-ltb, le-ltb, ltb-true, ltb-false}
use Rattle.std.proofs.lemmas.Bool.Decides.{same_from_decides, Decides-ltb, eqb_tells}
use Rattle.std.proofs.lemmas.List.{take-append-le, take_all}
use Rattle.std.proofs.lemmas.List.Elements.{filter_map-append}
use Rattle.std.proofs.lemmas.List.Folds.{find_at, position_or_len_push}
use Rattle.std.proofs.lemmas.List.Sums.{prefix_len-le-length}
use Rattle.std.proofs.lemmas.Slice.Eq.{bytes_eq-Decides}
use Rattle.indexmap.specs.IndexMap.{IndexMap, get}
use Rattle.mk_field.specs.declared.map.AddMap.{AddMap}
use Rattle.mk_ast.specs.declared.tree.Decl.{Decl}
use Rattle.mk_types.specs.declared.names.Entry.{Entry}
use Rattle.mk_types.specs.Scope.{declared}
use Rattle.mk_types.specs.Elements.{number_of, map_in, maps_of, map_number}
use Rattle.mk_types.specs.Known.{is_same, next_entry, first_entry, Knows}

-- the number is at most how many declarations there are
pub number_within : (decls : List Decl) (name : List ℕ) → number_of decls name ≤ length decls
number_within decls name = prefix_len-le-length (λ d. not (bytes_eq name d.name)) decls

-- an entry with a number that is there
entry_here : (decls : List Decl) (name : List ℕ) (n : ℕ) → number_of decls name ≡ n → n < length decls → first_entry decls name ≡ Some (record { number = n; map = length (maps_of (take n decls)) })
entry_here decls name n is here =
    ap (λ (k : ℕ). if nat_lt k (length decls) then Some (record { number = k; map = length (maps_of (take k decls)) }) else None) is
    ∙ ap (λ b. if b then Some (record { number = n; map = length (maps_of (take n decls)) }) else None) (lt-ltb n (length decls) here)

-- no entry where the number is past all
entry_past : (decls : List Decl) (name : List ℕ) → length decls ≤ number_of decls name → first_entry decls name ≡ None
entry_past decls name past =
    ap (λ b. if b then Some (record { number = number_of decls name; map = map_number decls name }) else None) (le-ltb (number_of decls name) (length decls) past)

-- the entry of a name behind one more declaration: that which was, else the new one's where the name is its
pub entry_more : (decls : List Decl) (d : Decl) (name : List ℕ) →
    first_entry (decls ++ d ∷ []) name ≡ option_or (first_entry decls name) (if bytes_eq name d.name then Some (next_entry decls) else None)
entry_more decls d name = by (eqb n (length decls)) (bytes_eq name d.name) refl refl (eqb_tells n (length decls))
  where
    n : ℕ
    n = number_of decls name

    more : number_of (decls ++ d ∷ []) name ≡ cond (eqb n (length decls)) (length decls + cond (bytes_eq name d.name) 0 1) n
    more = position_or_len_push (λ x. bytes_eq name x.name) decls d

    long : length (decls ++ d ∷ []) ≡ length decls + 1
    long = length-append decls (d ∷ [])

    by : (e b : Bool) → eqb n (length decls) ≡ e → bytes_eq name d.name ≡ b → ((e ≡ true) × (n ≡ length decls)) ⊎ ((e ≡ false) × (n ≢ length decls)) →
        first_entry (decls ++ d ∷ []) name ≡ option_or (first_entry decls name) (if b then Some (next_entry decls) else None)
    by e true is same (inl past) =
        let none = entry_past decls name (omega (arith, past.1)) in
        let place : number_of (decls ++ d ∷ []) name ≡ length decls =
        more ∙ ap (λ x. cond x (length decls + cond (bytes_eq name d.name) 0 1) n) (is ∙ past.0) ∙ ap (λ x. length decls + cond x 0 1) same ∙ omega arith in
        entry_here (decls ++ d ∷ []) name (length decls) place (omega (arith, long))
        ∙ ap (λ ds. Some (record { number = length decls; map = length (maps_of ds) })) (take-append-le (length decls) decls (d ∷ []) (omega arith) ∙ take_all (length decls) decls (omega arith))
        ∙ ap (λ o. option_or o (Some (next_entry decls))) (sym none)
    by e false is same (inl past) =
        let none = entry_past decls name (omega (arith, past.1)) in
        let place : number_of (decls ++ d ∷ []) name ≡ length decls + 1 =
        more ∙ ap (λ x. cond x (length decls + cond (bytes_eq name d.name) 0 1) n) (is ∙ past.0) ∙ ap (λ x. length decls + cond x 0 1) same in
        entry_past (decls ++ d ∷ []) name (omega (arith, place, long))
        ∙ ap (λ o. option_or o None) (sym none)
    by e b is same (inr before) =
        let here : n < length decls = omega (arith, before.1, number_within decls name) in
        let place : number_of (decls ++ d ∷ []) name ≡ n =
        more ∙ ap (λ x. cond x (length decls + cond (bytes_eq name d.name) 0 1) n) (is ∙ before.0) in
        entry_here (decls ++ d ∷ []) name n place (omega (arith, here, long))
        ∙ ap (λ ds. Some (record { number = n; map = length (maps_of ds) })) (take-append-le n decls (d ∷ []) (omega (arith, here)))
        ∙ ap (λ o. option_or o (if b then Some (next_entry decls) else None)) (sym (entry_here decls name n refl here))

-- nothing, by its test
none_from : {A : Type 0} (x : Option A) → is_some x ≡ false → x ≡ None
none_from None e = refl
none_from (Some x) e = absurd (true≢false e)

-- or nothing
or_none : {A : Type 0} (x : Option A) → option_or x None ≡ x
or_none None = refl
or_none (Some x) = refl

-- the same bytes have the same entry
same_entry : (decls : List Decl) (a b : List ℕ) → bytes_eq a b ≡ true → first_entry decls a ≡ first_entry decls b
same_entry decls a b h = ap (first_entry decls) ((bytes_eq-Decides a b).0 h)

-- bytes are the same either way round
bytes_eq-sym : (a b : List ℕ) → bytes_eq a b ≡ bytes_eq b a
bytes_eq-sym a b =
    same_from_decides (bytes_eq a b) (bytes_eq b a) (bytes_eq-Decides a b)
    ((λ h. sym ((bytes_eq-Decides b a).0 h)), (λ e. (bytes_eq-Decides b a).1 (sym e)))

module _ {S : Type 0} (old new : IndexMap (Bor (List ℕ)) Entry S) (decls : List Decl) (d : Decl) (knows : Knows old decls) where
  -- a name that has an entry keeps it
  pub knows_taken : is_some (first_entry decls d.name) ≡ true → ((q : Bor (List ℕ)) → get is_same new q ≡ get is_same old q) → Knows new (decls ++ d ∷ [])
  knows_taken taken same q =
      same q ∙ knows q ∙ by (first_entry decls q.now) refl (bytes_eq q.now d.name) refl ∙ sym (entry_more decls d q.now)
    where
      by : (o : Option Entry) → o ≡ first_entry decls q.now → (b : Bool) → b ≡ bytes_eq q.now d.name →
          first_entry decls q.now ≡ option_or (first_entry decls q.now) (if bytes_eq q.now d.name then Some (next_entry decls) else None)
      by (Some n) e b _ = sym e ∙ ap (λ o. option_or o (if bytes_eq q.now d.name then Some (next_entry decls) else None)) e
      by None e false f =
          sym e ∙ ap (λ c. option_or None (if c then Some (next_entry decls) else None)) f
          ∙ ap (λ o. option_or o (if bytes_eq q.now d.name then Some (next_entry decls) else None)) e
      by None e true f =
          let none : is_some (first_entry decls d.name) ≡ false = ap is_some (sym (same_entry decls q.now d.name (sym f)) ∙ sym e) in
          absurd (true≢false (sym taken ∙ none))

  -- a name that had none has that of this declaration
  pub knows_new : (name : Bor (List ℕ)) (entry : Entry) → name.now ≡ d.name → entry ≡ next_entry decls → is_some (first_entry decls d.name) ≡ false →
      ((q : Bor (List ℕ)) → get is_same new q ≡ cond (is_same name q) (Some entry) (get is_same old q)) → Knows new (decls ++ d ∷ [])
  knows_new name entry is_name is_next free set q =
      set q ∙ ap (λ b. cond b (Some entry) (get is_same old q)) test
      ∙ ap (λ e. cond (bytes_eq q.now d.name) (Some e) (get is_same old q)) is_next
      ∙ by (bytes_eq q.now d.name) refl
      ∙ sym (entry_more decls d q.now)
    where
      test : is_same name q ≡ bytes_eq q.now d.name
      test = ap (λ n. bytes_eq n q.now) is_name ∙ bytes_eq-sym d.name q.now

      by : (b : Bool) → b ≡ bytes_eq q.now d.name →
          cond b (Some (next_entry decls)) (get is_same old q) ≡ option_or (first_entry decls q.now) (if b then Some (next_entry decls) else None)
      by true f =
          ap (λ o. option_or o (Some (next_entry decls))) (sym (same_entry decls q.now d.name (sym f) ∙ none_from (first_entry decls d.name) free))
      by false f = knows q ∙ sym (or_none (first_entry decls q.now))

  -- a name has an entry where the table has it
  pub known_test : (name : Bor (List ℕ)) → name.now ≡ d.name → is_some (first_entry decls d.name) ≡ is_some (get is_same old name)
  known_test name is_name = ap (λ n. is_some (first_entry decls n)) (sym is_name) ∙ ap is_some (sym (knows name))

-- what a name is declared to be stands at its number
pub declared_at : (decls : List Decl) (name : List ℕ) → option_map (λ d. d.what) (slice_get decls (number_of decls name)) ≡ declared decls name
declared_at decls name = ap (option_map (λ d. d.what)) (sym (find_at (λ d. bytes_eq name d.name) decls))

-- the entry of a name, by whether it is declared
abbrev entry_by : List Decl → List ℕ → Bool → Option Entry
entry_by decls name b = if b then Some (record { number = number_of decls name; map = map_number decls name }) else None

-- an entry has the numbers of its name
pub entry_is : (decls : List Decl) (name : List ℕ) (e : Entry) → first_entry decls name ≡ Some e → (e.number ≡ number_of decls name) × (e.map ≡ map_number decls name)
entry_is decls name e is = by (nat_lt (number_of decls name) (length decls)) is
  where
    number_in : Option Entry → ℕ
    number_in None = 0
    number_in (Some x) = x.number

    map_in_entry : Option Entry → ℕ
    map_in_entry None = 0
    map_in_entry (Some x) = x.map

    by : (b : Bool) → entry_by decls name b ≡ Some e → (e.number ≡ number_of decls name) × (e.map ≡ map_number decls name)
    by true there = (sym (ap number_in there), sym (ap map_in_entry there))
    by false none = absurd (none-some e none)

-- a name without an entry has the number of all declarations, and of all maps
pub none_is : (decls : List Decl) (name : List ℕ) → first_entry decls name ≡ None → (length decls ≡ number_of decls name) × (length (maps_of decls) ≡ map_number decls name)
none_is decls name is = by (nat_lt (number_of decls name) (length decls)) refl is
  where
    by : (b : Bool) → nat_lt (number_of decls name) (length decls) ≡ b → entry_by decls name b ≡ None →
        (length decls ≡ number_of decls name) × (length (maps_of decls) ≡ map_number decls name)
    by true within there = absurd (none-some _ (sym there))
    by false past none =
        let all = ltb-false (number_of decls name) (length decls) past in
        (omega (arith, all, number_within decls name), ap (λ ds. length (maps_of ds)) (sym (take_all (number_of decls name) decls all)))

-- a name is declared before a declaration where its number is smaller
pub taken_before : (decls : List Decl) (i : ℕ) (name : List ℕ) → i ≤ length decls → nat_lt (number_of decls name) i ≡ is_some (declared (take i decls) name)
taken_before decls zero name within = le-ltb (number_of decls name) 0 (omega arith)
taken_before [] (suc i) name within = absurd (omega (arith, within))
taken_before (d ∷ ds) (suc i) name within = by (bytes_eq name d.name) (taken_before ds i name (omega (arith, within)))
  where
    by : (b : Bool) → nat_lt (number_of ds name) i ≡ is_some (declared (take i ds) name) →
        nat_lt (cond (not b) (1 + number_of ds name) 0) (suc i) ≡ is_some (option_map (λ d. d.what) (cond b (Some d) (find (λ d. bytes_eq name d.name) (take i ds))))
    by true rest = lt-ltb 0 (suc i) (omega arith)
    by false rest =
        same_from_decides (nat_lt (1 + number_of ds name) (suc i)) (nat_lt (number_of ds name) i) (Decides-ltb (1 + number_of ds name) (suc i))
        ((λ h. omega (arith, ltb-true (number_of ds name) i h)), (λ (lt : 1 + number_of ds name < suc i). lt-ltb (number_of ds name) i (omega (arith, lt))))
        ∙ rest

-- the maps of these and one more
pub maps_more : (xs : List Decl) (i : ℕ) (x : Decl) → take (i + 1) xs ≡ take i xs ++ x ∷ [] →
    length (maps_of (take i xs)) + length (option_to_list (map_in x.what)) ≡ length (maps_of (take (i + 1) xs))
maps_more xs i x more =
    sym (
    ap (λ ys. length (maps_of ys)) more
    ∙ ap length (filter_map-append (λ (d : Decl). map_in d.what) (take i xs) (x ∷ []))
    ∙ length-append (maps_of (take i xs)) (maps_of (x ∷ []))
    ∙ ap (λ n. length (maps_of (take i xs)) + n) (one (map_in x.what))
    )
  where
    one : (o : Option AddMap) → length (cons_option o []) ≡ length (option_to_list o)
    one None = refl
    one (Some m) = refl

-- there are no more maps than declarations
pub maps_within : (xs : List Decl) → length (maps_of xs) ≤ length xs
maps_within [] = omega arith
maps_within (x ∷ xs) = by (map_in x.what) (maps_within xs)
  where
    by : (o : Option AddMap) → length (maps_of xs) ≤ length xs → length (cons_option o (maps_of xs)) ≤ suc (length xs)
    by None rest = omega (arith, rest)
    by (Some m) rest = omega (arith, rest)
