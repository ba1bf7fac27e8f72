-- The elements that declarations make, and what their variables hold first.
use Rattle.std.proofs.Common.{◌≡◌, ℕ, zero, suc, ◌+◌, ◌≤◌, ◌<◌, Bool, true, false, List, [], ◌∷◌, ◌++◌, length, take, map, get_or, replicate, Option, Some, None, option_to_list, if◌then◌else◌, refl, sym, ap, ◌∙◌, append_assoc, arith}
use Rattle.std.specs.Prelude.{sum_by}
use Rattle.std.specs.List.{range_with_len, cons_option}
use Rattle.std.proofs.lemmas.List.{append-nil}
use Rattle.std.proofs.lemmas.List.Elements.{filter_map-append}
use Rattle.std.proofs.lemmas.List.Sums.{sum_by-append, sum_by-take-le}
use Rattle.mk_field.specs.declared.map.AddMap.{AddMap}
use Rattle.mk_ast.specs.declared.tree.Decl.{Decl}
use Rattle.mk_ast.specs.declared.tree.What.{What}
use Rattle.mk_ast.specs.declared.tree.What.TheVariants as what
use Rattle.mk_ast.specs.declared.tree.Class.{Class}
use Rattle.mk_ast.specs.declared.tree.Class.TheVariants as class_
use Rattle.mk_ssa.specs.declared.Operand.{Operand}
use Rattle.mk_ssa.specs.declared.Operand.TheVariants.{Secret, Public, Block}
use Rattle.mk_types.specs.Scope.{is_variable}
use Rattle.mk_types.specs.Elements.{is_secret_class, is_public_class, is_output_class, size_of, elements_in, elements_among, map_in, maps_of}
use Rattle.mk_types.specs.Environment.{Environment, beginning, output_elements}
use Rattle.mk_unroll.specs.Beginning.{first_operands, first_env}

-- what a declaration behind these holds first
abbrev pub first_variable : List Decl → What → List Operand
first_variable = beginning (λ before n. map Secret (range_with_len before n)) (λ before n. map Public (range_with_len before n)) (Block 1) (Block 0)

-- a sum of one more in front
pub sum_cons : {A : Type 0} (f : A → ℕ) (x : A) (xs : List A) → sum_by f (x ∷ xs) ≡ f x + sum_by f xs
sum_cons f x xs = sum_by-append f (x ∷ []) xs ∙ ap (λ n. n + sum_by f xs) (omega arith)

-- of one class there are no more than of all
pub less_in : (test : Class → Bool) (w : What) → elements_in test w ≤ elements_in (λ class. true) w
less_in test (what.Map images) = omega arith
less_in test (what.Var class n) = by (test class)
  where
    by : (b : Bool) → (if b then size_of n else 0) ≤ size_of n
    by true = omega arith
    by false = omega arith

-- no class has more elements than all have
pub less_among : (test : Class → Bool) (ds : List Decl) → elements_among test ds ≤ elements_among (λ class. true) ds
less_among test [] = omega arith
less_among test (d ∷ ds) =
    let one = sum_cons (λ (c : Decl). elements_in test c.what) d ds in
    let all = sum_cons (λ (c : Decl). elements_in (λ class. true) c.what) d ds in
    omega (arith, one, all, less_in test d.what, less_among test ds)

-- the elements of these and one more
pub among_more : (test : Class → Bool) (ds : List Decl) (i : ℕ) (d : Decl) → take (i + 1) ds ≡ take i ds ++ d ∷ [] →
    elements_among test (take i ds) + elements_in test d.what ≡ elements_among test (take (i + 1) ds)
among_more test ds i d more =
    let one : elements_among test (d ∷ []) ≡ elements_in test d.what = omega arith in
    sym (ap (elements_among test) more ∙ sum_by-append (λ (c : Decl). elements_in test c.what) (take i ds) (d ∷ []) ∙ ap (λ n. elements_among test (take i ds) + n) one)

-- there is room for one more
pub room : (test : Class → Bool) (ds : List Decl) (i : ℕ) (d : Decl) (s most : ℕ) → take (i + 1) ds ≡ take i ds ++ d ∷ [] →
    elements_among (λ class. true) ds ≤ most → s ≡ elements_among test (take i ds) → s + elements_in (λ class. true) d.what ≤ most
room test ds i d s most more few is =
    let next = among_more (λ class. true) ds i d more in
    omega (arith, next, few, is, less_among test (take i ds), sum_by-take-le (λ (c : Decl). elements_in (λ class. true) c.what) ds (i + 1))

-- the maps of these and one more
pub maps_next : (ds : List Decl) (i : ℕ) (d : Decl) → take (i + 1) ds ≡ take i ds ++ d ∷ [] →
    maps_of (take i ds) ++ option_to_list (map_in d.what) ≡ maps_of (take (i + 1) ds)
maps_next ds i d more =
    sym (ap maps_of more ∙ filter_map-append (λ (c : Decl). map_in c.what) (take i ds) (d ∷ []) ∙ ap (λ ms. maps_of (take i ds) ++ ms) (one (map_in d.what)))
  where
    one : (o : Option AddMap) → cons_option o [] ≡ option_to_list o
    one None = refl
    one (Some m) = refl

-- numbers from a later one on
shifted : (f : ℕ → Operand) (a b n : ℕ) → map f (range_with_len (a + b) n) ≡ map (λ k. f (a + k)) (range_with_len b n)
shifted f a b zero = refl
shifted f a b (suc n) =
    let next : a + b + 1 ≡ a + (b + 1) = omega arith in
    ap (λ xs. f (a + b) ∷ xs) (ap (λ c. map f (range_with_len c n)) next ∙ shifted f a (b + 1) n)

-- one operand for each number
same_each : (x : Operand) (b n : ℕ) → replicate n x ≡ map (λ k. x) (range_with_len b n)
same_each x b zero = refl
same_each x b (suc n) = ap (λ xs. x ∷ xs) (same_each x (b + 1) n)

-- what a declaration holds first, operand by operand
pub first_is : (earlier : List Decl) (w : What) →
    first_variable earlier w ≡ first_operands w (elements_among is_secret_class earlier) (elements_among is_public_class earlier)
first_is earlier (what.Map images) = refl
first_is earlier (what.Var class_.Secret n) =
    let from : elements_among is_secret_class earlier ≡ elements_among is_secret_class earlier + 0 = omega arith in
    ap (λ a. map Secret (range_with_len a (size_of n))) from ∙ shifted Secret (elements_among is_secret_class earlier) 0 (size_of n)
first_is earlier (what.Var class_.Public n) =
    let from : elements_among is_public_class earlier ≡ elements_among is_public_class earlier + 0 = omega arith in
    ap (λ a. map Public (range_with_len a (size_of n))) from ∙ shifted Public (elements_among is_public_class earlier) 0 (size_of n)
first_is earlier (what.Var class_.Output n) = same_each (Block 1) 0 (size_of n)
first_is earlier (what.Var class_.LocalSecret n) = same_each (Block 1) 0 (size_of n)
first_is earlier (what.Var class_.LocalPublic n) = same_each (Block 0) 0 (size_of n)

-- the variables of one more declaration
env_append : (earlier ds : List Decl) (d : Decl) → first_env earlier (ds ++ d ∷ []) ≡ first_env earlier ds ++ first_variable (earlier ++ ds) d.what ∷ []
env_append earlier [] d = ap (λ e. first_variable e d.what ∷ []) (sym (append-nil earlier))
env_append earlier (c ∷ cs) d =
    ap (λ vs. first_variable earlier c.what ∷ vs)
    (env_append (earlier ++ c ∷ []) cs d ∙ ap (λ e. first_env (earlier ++ c ∷ []) cs ++ first_variable e d.what ∷ []) (append_assoc earlier (c ∷ []) cs))

-- what the variables of one more declaration hold first
pub env_more : (ds : List Decl) (i : ℕ) (d : Decl) → take (i + 1) ds ≡ take i ds ++ d ∷ [] →
    first_env [] (take i ds) ++ first_operands d.what (elements_among is_secret_class (take i ds)) (elements_among is_public_class (take i ds)) ∷ []
    ≡ first_env [] (take (i + 1) ds)
env_more ds i d more =
    sym (ap (first_env []) more ∙ env_append [] (take i ds) d ∙ ap (λ v. first_env [] (take i ds) ++ v ∷ []) (first_is (take i ds) d.what))

-- the outputs of one more declaration
outs_next : (ds : List Decl) (env : Environment Operand) (i : ℕ) (c : Decl) → length ds ≡ length env → i < length ds →
    output_elements (take (suc i) ds) (take (suc i) env)
    ≡ output_elements (take i ds) (take i env) ++ (if is_variable is_output_class (Some (get_or ds i c).what) then get_or env i [] else [])
outs_next [] env i c same within = absurd (omega (arith, within))
outs_next (d ∷ ds) [] i c same within = absurd (omega (arith, same))
outs_next (d ∷ ds) (v ∷ vs) zero c same within = append-nil _
outs_next (d ∷ ds) (v ∷ vs) (suc i) c same within =
    let here = if is_variable is_output_class (Some d.what) then v else [] in
    ap (λ xs. here ++ xs) (outs_next ds vs i c (omega (arith, same)) (omega (arith, within)))
    ∙ sym (append_assoc here (output_elements (take i ds) (take i vs)) _)

-- the outputs with those of the next declaration's variable
pub outs_more : (ds : List Decl) (env : Environment Operand) (i : ℕ) (d : Decl) → length ds ≡ length env → i < length ds → d ≡ get_or ds i d →
    output_elements (take i ds) (take i env) ++ (if is_variable is_output_class (Some d.what) then get_or env i [] else [])
    ≡ output_elements (take (i + 1) ds) (take (i + 1) env)
outs_more ds env i d same within item =
    let next : suc i ≡ i + 1 = omega arith in
    ap (λ (c : Decl). output_elements (take i ds) (take i env) ++ (if is_variable is_output_class (Some c.what) then get_or env i [] else [])) item
    ∙ sym (outs_next ds env i d same within)
    ∙ ap (λ n. output_elements (take n ds) (take n env)) next
