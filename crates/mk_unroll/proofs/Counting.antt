-- What is counted of units one behind the other, and what stops among them.
use Rattle.std.proofs.Common.{◌≡◌, ℕ, ◌+◌, List, [], ◌∷◌, ◌++◌, Option, Some, None, not, Result, Ok, Err, IsErrAnd, IfErr, inl, inr, map, flat_map, take, drop, refl, sym, ap, subst, ◌∙◌, append_assoc}
use Rattle.std.specs.Prelude.{fold, nat_lt}
use Rattle.std.proofs.lemmas.List.{append-nil, take-append-drop}
use Rattle.std.proofs.lemmas.List.Sums.{fold-append}
use Rattle.std.proofs.lemmas.Grind.{flat_map-append}
use Rattle.std.proofs.lemmas.List.Folds.{flat_map-map}
use Rattle.mk_base.specs.declared.Place.{Place}
use Rattle.mk_ast.specs.declared.refusal.SourceRefusal.{SourceRefusal}
use Rattle.mk_ast.specs.declared.tree.Decl.{Decl}
use Rattle.mk_ast.specs.declared.tree.Ref.{Ref}
use Rattle.mk_ast.specs.declared.tree.Index.{Index}
use Rattle.mk_ast.specs.declared.tree.Index.TheVariants as index
use Rattle.mk_ast.specs.declared.tree.Link.{Link}
use Rattle.mk_types.specs.Stops.{Event}
use Rattle.mk_ast.specs.declared.tree.Stmt.{Stmt}
use Rattle.mk_ast.specs.declared.tree.Stmt.TheVariants as stmt
use Rattle.mk_types.specs.Turns.{Turn, in_turn, turn_numbers}
use Rattle.mk_types.specs.Elements.{array_size}
use Rattle.mk_types.specs.Units.{WorkUnit, Step, Operation, fault_if, Evaluated, behind, plus_part, sum_of_parts, evaluated, linked, element_number, reference_units, parts_units, turn_units, stmt_units}
use Rattle.mk_types.proofs.ExecutionLayers.{evaluated-Num, evaluated-Var, evaluated-Sum, evaluated-Chain, linked-Times, linked-Mod, units-Lit, units-Read, units-Sq, units-Apply, units-Sum, units-Product, units-Set, units-Loop}
use Rattle.mk_unroll.specs.Counted.{Count, one_more, counted, Halts}
use Rattle.mk_unroll.specs.Running.{turns_units}
use Rattle.mk_unroll.specs.Walked.{given, walked, added_parts, linked_parts}

-- what is counted of these and then of those
pub counted_append : (c : Count) (us vs : List WorkUnit) → counted c (us ++ vs) ≡ counted (counted c us) vs
counted_append c us vs = fold-append one_more c us vs

-- behind an event nothing counts
pub stays : (work operations : ℕ) (e : Event) (us : List WorkUnit) →
    counted (record { work = work; operations = operations; stop = Some e }) us ≡ record { work = work; operations = operations; stop = Some e }
stays work operations e [] = refl
stays work operations e (u ∷ us) = stays work operations e us

-- a count, of its parts
abbrev pub count_of : ℕ → ℕ → Option Event → Count
count_of work operations stop = record { work = work; operations = operations; stop = stop }

-- what has stopped stays so
pub halts_on : (e : SourceRefusal) (c : Count) (us : List WorkUnit) → Halts e c → Halts e (counted c us)
halts_on e c us (inl memory) = inl memory
halts_on e c us (inr (event, stopped, is)) =
    let same : c ≡ count_of c.work c.operations (Some event) = ap (count_of c.work c.operations) stopped in
    inr (event, subst (λ (d : Count). (counted d us).stop ≡ Some event) (sym same) (ap (λ d. d.stop) (stays c.work c.operations event us)), is)

-- what stops among the first units stops among all
pub halts_front : (e : SourceRefusal) (c : Count) (us vs : List WorkUnit) → Halts e (counted c us) → Halts e (counted c (us ++ vs))
halts_front e c us vs halts = subst (Halts e) (sym (counted_append c us vs)) (halts_on e (counted c us) vs halts)

-- what stops among the last units stops among all
pub halts_back : (e : SourceRefusal) (c : Count) (us vs : List WorkUnit) → Halts e (counted (counted c us) vs) → Halts e (counted c (us ++ vs))
halts_back e c us vs halts = subst (Halts e) (sym (counted_append c us vs)) halts

-- what has stopped somewhere within these units
pub halts_within : (e : SourceRefusal) (c : Count) (front us rest whole : List WorkUnit) → whole ≡ front ++ (us ++ rest) →
    Halts e (counted (counted c front) us) → Halts e (counted c whole)
halts_within e c front us rest whole is halts =
    subst (λ (w : List WorkUnit). Halts e (counted c w)) (sym is) (halts_back e c front (us ++ rest) (halts_front e (counted c front) us rest halts))

-- Numbers found part by part.
module _ {A : Type 0} (next : A → ℕ → Evaluated) where
  -- what stands behind something is behind its value
  pub walked_behind : (a : Evaluated) (xs : List A) → walked next a xs ≡ behind a (λ v. walked next (given v) xs)
  walked_behind a [] = ap (λ us. record { value = a.value; units = us }) (sym (append-nil a.units))
  walked_behind a (x ∷ xs) =
      walked_behind (behind a (next x)) xs
      ∙ ap (λ us. record { value = (walked next (given (next x a.value).value) xs).value; units = us })
      (append_assoc a.units (next x a.value).units (walked next (given (next x a.value).value) xs).units)
      ∙ ap (λ (b : Evaluated). record { value = b.value; units = a.units ++ b.units }) (sym (walked_behind (next x a.value) xs))

  -- the units of all are those of the first and then some
  pub walked_units : (a : Evaluated) (xs ys : List A) →
      (walked next a (xs ++ ys)).units ≡ (walked next a xs).units ++ (walked next (given (walked next a xs).value) ys).units
  walked_units a xs ys =
      ap (λ b. b.units) (fold-append (λ so_far x. behind so_far (next x)) a xs ys ∙ walked_behind (walked next a xs) ys)

  -- what stops within the step of one of these stops among all
  pub walked_halts : (e : SourceRefusal) (c : Count) (a : Evaluated) (xs : List A) (i : ℕ) (x : A) (us vs : List WorkUnit) →
      take (i + 1) xs ≡ take i xs ++ x ∷ [] → (next x (walked next a (take i xs)).value).units ≡ us ++ vs →
      Halts e (counted (counted c (walked next a (take i xs)).units) us) → Halts e (counted c (walked next a xs).units)
  walked_halts e c a xs i x us vs more step halts =
      let all : xs ≡ take i xs ++ x ∷ drop (i + 1) xs =
      sym (take-append-drop (i + 1) xs) ∙ ap (λ ys. ys ++ drop (i + 1) xs) more ∙ append_assoc (take i xs) (x ∷ []) (drop (i + 1) xs) in
      let rest = (walked next (given (next x (walked next a (take i xs)).value).value) (drop (i + 1) xs)).units in
      let units : (walked next a xs).units ≡ (walked next a (take i xs)).units ++ (us ++ (vs ++ rest)) =
      ap (λ ys. (walked next a ys).units) all
      ∙ walked_units a (take i xs) (x ∷ drop (i + 1) xs)
      ∙ ap (λ us. (walked next a (take i xs)).units ++ us)
      (ap (λ b. b.units) (walked_behind (next x (walked next a (take i xs)).value) (drop (i + 1) xs))
      ∙ ap (λ ws. ws ++ rest) step ∙ append_assoc us vs rest) in
      halts_within e c (walked next a (take i xs)).units us (vs ++ rest) (walked next a xs).units units halts

-- a sum of indexes, from the value of the first on
pub sum_parts : (at : Place) (turns : List Turn) (first : Index) (rest : List Index) →
    sum_of_parts at (map (evaluated at turns) (first ∷ rest)) ≡ behind (evaluated at turns first) (λ v. added_parts at turns v rest)
sum_parts at turns first rest =
    mapped (evaluated at turns first) rest ∙ walked_behind (λ part. plus_part at (evaluated at turns part)) (evaluated at turns first) rest
  where
    mapped : (a : Evaluated) (parts : List Index) →
        fold (λ so_far part. behind so_far (plus_part at part)) a (map (evaluated at turns) parts) ≡ walked (λ part. plus_part at (evaluated at turns part)) a parts
    mapped a [] = refl
    mapped a (part ∷ parts) = mapped (behind a (plus_part at (evaluated at turns part))) parts

-- a chain, from the value of its first factor on
pub evaluated_chain : (at : Place) (turns : List Turn) (first : Index) (links : List Link) →
    evaluated at turns (index.Chain first links) ≡ behind (evaluated at turns first) (λ v. linked_parts at turns v links)
evaluated_chain at turns first links =
    evaluated-Chain at turns first links ∙ mapped (evaluated at turns first) links ∙ walked_behind (linked at turns) (evaluated at turns first) links
  where
    mapped : (a : Evaluated) (ls : List Link) → fold behind a (map (linked at turns) ls) ≡ walked (linked at turns) a ls
    mapped a [] = refl
    mapped a (l ∷ ls) = mapped (behind a (linked at turns l)) ls

module _ (e : SourceRefusal) (m now : Count) where
  -- what stops within the step of one of these, from what stands so far
  pub step_halts : {A : Type 0} (next : A → ℕ → Evaluated) (a : Evaluated) (xs : List A) (i : ℕ) (x : A) (v : ℕ) (us vs : List WorkUnit) →
      take (i + 1) xs ≡ take i xs ++ x ∷ [] → v ≡ (walked next a (take i xs)).value → now ≡ counted m (walked next a (take i xs)).units →
      (next x v).units ≡ us ++ vs → Halts e (counted now us) → Halts e (counted m (walked next a xs).units)
  step_halts next a xs i x v us vs more value count step halts =
      walked_halts next e m a xs i x us vs more (ap (λ n. (next x n).units) (sym value) ∙ step)
      (subst (λ (c : Count). Halts e (counted c us)) count halts)

  module _ (at : Place) (turns : List Turn) (parts rest : List Index) (first : Index) (is : parts ≡ first ∷ rest) where
    -- the units of a sum, from its first part on
    sum_units : (sum_of_parts at (map (evaluated at turns) parts)).units
        ≡ (evaluated at turns first).units ++ (added_parts at turns (evaluated at turns first).value rest).units
    sum_units = ap (λ ps. (sum_of_parts at (map (evaluated at turns) ps)).units) is ∙ ap (λ b. b.units) (sum_parts at turns first rest)

    -- what stops in the first part of a sum
    pub sum_first_halts : Halts e (counted m (evaluated at turns first).units) → Halts e (counted m (sum_of_parts at (map (evaluated at turns) parts)).units)
    sum_first_halts halts =
        subst (λ (us : List WorkUnit). Halts e (counted m us)) (sym sum_units) (halts_front e m (evaluated at turns first).units _ halts)

    module _ (v : ℕ) (value : v ≡ (evaluated at turns first).value) (count : now ≡ counted m (evaluated at turns first).units) where
      -- what stops behind it
      pub sum_rest_halts : Halts e (counted now (added_parts at turns v rest).units) → Halts e (counted m (sum_of_parts at (map (evaluated at turns) parts)).units)
      sum_rest_halts halts =
          subst (λ (us : List WorkUnit). Halts e (counted m us)) (sym sum_units)
          (halts_back e m (evaluated at turns first).units _
          (subst (λ (c : Count). Halts e (counted c (added_parts at turns (evaluated at turns first).value rest).units)) count
          (subst (λ (n : ℕ). Halts e (counted now (added_parts at turns n rest).units)) value halts)))

      -- a sum that came to its end
      pub sum_value : (added_parts at turns v rest).value ≡ (sum_of_parts at (map (evaluated at turns) parts)).value
      sum_value =
          ap (λ n. (added_parts at turns n rest).value) value
          ∙ sym (ap (λ ps. (sum_of_parts at (map (evaluated at turns) ps)).value) is ∙ ap (λ b. b.value) (sum_parts at turns first rest))

      -- and what is counted of it
      pub sum_count : counted now (added_parts at turns v rest).units ≡ counted m (sum_of_parts at (map (evaluated at turns) parts)).units
      sum_count =
          ap (λ n. counted now (added_parts at turns n rest).units) value
          ∙ ap (λ c. counted c (added_parts at turns (evaluated at turns first).value rest).units) count
          ∙ sym (counted_append m (evaluated at turns first).units _) ∙ ap (counted m) (sym sum_units)

  -- what stops in the first factor of a chain
  pub chain_first_halts : (at : Place) (turns : List Turn) (first : Index) (links : List Link) → Halts e (counted m (evaluated at turns first).units) →
      Halts e (counted m (evaluated at turns (index.Chain first links)).units)
  chain_first_halts at turns first links halts =
      subst (λ (us : List WorkUnit). Halts e (counted m us)) (sym (ap (λ b. b.units) (evaluated_chain at turns first links)))
      (halts_front e m (evaluated at turns first).units _ halts)

-- what stops at the operator of a sum
pub plus_halts : (e : SourceRefusal) (now last : Count) (at : Place) (part : Evaluated) (s v : ℕ) → v ≡ part.value → last ≡ counted now part.units →
    Halts e (counted last (Step ∷ fault_if (nat_lt 65535 (s + v)) at)) → Halts e (counted now (plus_part at part s).units)
plus_halts e now last at part s v value count halts =
    halts_back e now part.units _
    (subst (λ (c : Count). Halts e (counted c (Step ∷ fault_if (nat_lt 65535 (s + part.value)) at))) count
    (subst (λ (n : ℕ). Halts e (counted last (Step ∷ fault_if (nat_lt 65535 (s + n)) at))) value halts))

-- an error that `?` passed on
pub told : {A : Type 0} (r : Result A SourceRefusal) (e : SourceRefusal) (c : Count) → IsErrAnd r (λ y. y ≡ e) → Halts e c → IfErr r (λ y. Halts y c)
told (Ok x) e c is halts = tt
told (Err y) e c is halts = subst (λ (x : SourceRefusal). Halts x c) (sym is) halts

pub ruleset index_walk = (counted_append, evaluated-Num, evaluated-Var, evaluated-Sum, evaluated_chain, linked-Times, linked-Mod, sum_parts)

-- the units of a reference with an index
pub reference_some : (decls : List Decl) (turns : List Turn) (r : Ref) (i : Index) → r.index ≡ Some i →
    reference_units decls turns r ≡ (evaluated r.at turns i).units ++ fault_if (not (nat_lt (evaluated r.at turns i).value (array_size decls r.name))) r.at
reference_some decls turns r i is = ap (λ o. reference_units decls turns (record { name = r.name; at = r.at; index = o })) is

-- and which element it is to
pub number_some : (turns : List Turn) (r : Ref) (i : Index) → r.index ≡ Some i → element_number turns r ≡ (evaluated r.at turns i).value
number_some turns r i is = ap (λ o. element_number turns (record { name = r.name; at = r.at; index = o })) is

-- the units of a reference without one
pub reference_none : (decls : List Decl) (turns : List Turn) (r : Ref) → r.index ≡ None → reference_units decls turns r ≡ []
reference_none decls turns r is = ap (λ o. reference_units decls turns (record { name = r.name; at = r.at; index = o })) is

-- and which element it is to
pub number_none : (turns : List Turn) (r : Ref) → r.index ≡ None → element_number turns r ≡ 0
number_none turns r is = ap (λ o. element_number turns (record { name = r.name; at = r.at; index = o })) is

pub ruleset reference_walk = (counted_append, reference_some, reference_none, number_some, number_none)

pub ruleset expr_walk = (counted_append, units-Lit, units-Read, units-Sq, units-Apply, units-Sum, units-Product)

module _ (e : SourceRefusal) (m now : Count) where
  -- what stops within the units of one of these
  pub flat_halts : {A : Type 0} (g : A → List WorkUnit) (xs : List A) (i : ℕ) (x : A) (us vs : List WorkUnit) →
      take (i + 1) xs ≡ take i xs ++ x ∷ [] → now ≡ counted m (flat_map g (take i xs)) → g x ≡ us ++ vs →
      Halts e (counted now us) → Halts e (counted m (flat_map g xs))
  flat_halts g xs i x us vs more count step halts =
      let all : xs ≡ take i xs ++ x ∷ drop (i + 1) xs =
      sym (take-append-drop (i + 1) xs) ∙ ap (λ ys. ys ++ drop (i + 1) xs) more ∙ append_assoc (take i xs) (x ∷ []) (drop (i + 1) xs) in
      let units : flat_map g xs ≡ flat_map g (take i xs) ++ (us ++ (vs ++ flat_map g (drop (i + 1) xs))) =
      ap (flat_map g) all ∙ flat_map-append g (take i xs) (x ∷ drop (i + 1) xs)
      ∙ ap (λ ws. flat_map g (take i xs) ++ ws) (ap (λ ws. ws ++ flat_map g (drop (i + 1) xs)) step ∙ append_assoc us vs (flat_map g (drop (i + 1) xs))) in
      halts_within e m (flat_map g (take i xs)) us (vs ++ flat_map g (drop (i + 1) xs)) (flat_map g xs) units
      (subst (λ (c : Count). Halts e (counted c us)) count halts)

  -- Parts of an expression, each with its units.
  module _ {A : Type 0} (f : A → List WorkUnit) (parts rest : List A) (first : A) (is : parts ≡ first ∷ rest) where
    -- the units of the first, and those of the rest with their operations
    parts_are : parts_units (map f parts) ≡ f first ++ flat_map (λ part. f part ++ Operation ∷ []) rest
    parts_are = ap (λ ps. parts_units (map f ps)) is ∙ ap (λ us. f first ++ us) (flat_map-map _ _ rest)

    -- what stops in the first part
    pub parts_first_halts : Halts e (counted m (f first)) → Halts e (counted m (parts_units (map f parts)))
    parts_first_halts halts = subst (λ (us : List WorkUnit). Halts e (counted m us)) (sym parts_are) (halts_front e m (f first) _ halts)

    -- what stops behind it
    pub parts_rest_halts : now ≡ counted m (f first) → Halts e (counted now (flat_map (λ part. f part ++ Operation ∷ []) rest)) →
        Halts e (counted m (parts_units (map f parts)))
    parts_rest_halts count halts =
        subst (λ (us : List WorkUnit). Halts e (counted m us)) (sym parts_are)
        (halts_back e m (f first) _ (subst (λ (c : Count). Halts e (counted c (flat_map (λ part. f part ++ Operation ∷ []) rest))) count halts))

    -- what is counted of all
    pub parts_count : now ≡ counted m (f first) → counted now (flat_map (λ part. f part ++ Operation ∷ []) rest) ≡ counted m (parts_units (map f parts))
    parts_count count =
        ap (λ c. counted c (flat_map (λ part. f part ++ Operation ∷ []) rest)) count
        ∙ sym (counted_append m (f first) _) ∙ ap (counted m) (sym parts_are)

-- the units of a loop, turn by turn
pub units_loop : (decls : List Decl) (name : List ℕ) (at : Place) (from to : ℕ) (body : List Stmt) (turns : List Turn) →
    stmt_units decls (stmt.Loop name at from to body) turns ≡ Step ∷ turns_units decls turns name body (turn_numbers from to)
units_loop decls name at from to body turns = units-Loop decls name at from to body turns ∙ ap (λ us. Step ∷ us) (each (turn_numbers from to))
  where
    each : (numbers : List ℕ) → flat_map (λ number. turn_units (map (stmt_units decls) body) (in_turn turns name number)) numbers ≡ turns_units decls turns name body numbers
    each numbers = ap (λ (g : ℕ → List WorkUnit). flat_map g numbers) (λ i number. Step ∷ flat_map-map (λ (part : List Turn → List WorkUnit). part (in_turn turns name number)) (stmt_units decls) body i)

pub ruleset stmt_walk = (counted_append, units-Set, units_loop)

-- what holds of an error that `?` passed on
pub told_as : {A : Type 0} (Q : SourceRefusal → Type 0) (r : Result A SourceRefusal) (e : SourceRefusal) → IsErrAnd r (λ y. y ≡ e) → Q e → IfErr r Q
told_as Q (Ok x) e is holds = tt
told_as Q (Err y) e is holds = subst Q (sym is) holds
