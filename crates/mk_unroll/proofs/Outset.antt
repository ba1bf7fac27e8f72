-- What holds at the outset and of the outputs: first operands are there, maps are of bytes, and outputs are
-- shared.
use Rattle.std.proofs.Common.{◌≡◌, ℕ, zero, suc, ◌+◌, ◌≤◌, ◌<◌, Bool, true, false, not, List, [], ◌∷◌, ◌++◌, length, map, replicate, Some, inl, inr, if◌then◌else◌, refl, sym, ap, true≢false, arith}
use Rattle.std.specs.List.{AllByRecursion, range_with_len, cons_option}
use Rattle.std.proofs.lemmas.Bool.{eqb-true}
use Rattle.std.proofs.lemmas.List.Sums.{sum_by-append}
use Rattle.mk_field.specs.declared.field.FieldId.{FieldId}
use Rattle.mk_field.specs.declared.field.FieldId.TheVariants.{Gf2, Gf256}
use Rattle.mk_ast.specs.declared.tree.Decl.{Decl}
use Rattle.mk_ast.specs.declared.tree.What.{What}
use Rattle.mk_ast.specs.declared.tree.What.TheVariants as what
use Rattle.mk_ast.specs.declared.tree.Class.TheVariants as class_
use Rattle.mk_ssa.specs.declared.Operand.{Operand}
use Rattle.mk_ssa.specs.declared.Operand.TheVariants.{Secret, Public, Block}
use Rattle.mk_ssa.specs.Values.{Draft, IsSharedThere, IsPublicThere}
use Rattle.mk_field.specs.Field.{HasMapsOnlyInBytes}
use Rattle.mk_types.specs.Scope.{is_variable, is_shared_class}
use Rattle.mk_types.specs.Elements.{is_secret_class, is_public_class, is_output_class, size_of, elements_in, elements_among, map_in, maps_of}
use Rattle.mk_types.specs.Offences.{is_no_map_of, decls_offences}
use Rattle.mk_types.specs.Environment.{Environment, output_elements}
use Rattle.mk_unroll.specs.Beginning.{first_env, first_draft, HasEight}
use Rattle.mk_unroll.specs.Kept.{IsHeld, AreHeld, Holds}
use Rattle.mk_unroll.proofs.FirstOperands.{first_variable, sum_cons}
use Rattle.mk_unroll.proofs.Typed.{nil_left, nil_right, when_none}

-- no declaration is a map that the field does not have
no_map : (field : FieldId) (earlier ds : List Decl) → decls_offences field earlier ds ≡ [] → AllByRecursion (λ d. is_no_map_of field d.what ≡ false) ds
no_map field earlier [] is = tt
no_map field earlier (d ∷ ds) is =
    (when_none _ d.at _ (nil_right _ _ (nil_left _ _ is)), no_map field (earlier ++ d ∷ []) ds (nil_right _ _ is))

-- each map has eight images
eight_in : (field : FieldId) (w : What) → is_no_map_of field w ≡ false → HasEight w
eight_in Gf2 (what.Map images) is = absurd (true≢false is)
eight_in Gf256 (what.Map images) is = eqb-true (length images) 8 (by _ is)
  where
    by : (b : Bool) → not b ≡ false → b ≡ true
    by true e = refl
    by false e = absurd (true≢false e)
eight_in field (what.Var class n) is = tt

-- so has each of these declarations
eight_all : (field : FieldId) (ds : List Decl) → AllByRecursion (λ d. is_no_map_of field d.what ≡ false) ds → AllByRecursion (λ d. HasEight d.what) ds
eight_all field [] all = tt
eight_all field (d ∷ ds) all = (eight_in field d.what all.0, eight_all field ds all.1)

-- and each of declarations without an offence
pub eight : (field : FieldId) (ds : List Decl) → decls_offences field [] ds ≡ [] → AllByRecursion (λ d. HasEight d.what) ds
eight field ds is = eight_all field ds (no_map field [] ds is)

-- over bits there is no map
no_maps : (ds : List Decl) → AllByRecursion (λ d. is_no_map_of Gf2 d.what ≡ false) ds → maps_of ds ≡ []
no_maps [] all = refl
no_maps (d ∷ ds) all = by d.what all.0 (no_maps ds all.1)
  where
    by : (w : What) → is_no_map_of Gf2 w ≡ false → maps_of ds ≡ [] → cons_option (map_in w) (maps_of ds) ≡ []
    by (what.Map images) is rest = absurd (true≢false is)
    by (what.Var class n) is rest = rest

-- the maps of declarations without an offence are maps of bytes
pub only_bytes : (field : FieldId) (ds : List Decl) → decls_offences field [] ds ≡ [] → HasMapsOnlyInBytes field (maps_of ds)
only_bytes Gf2 ds is = no_maps ds (no_map Gf2 [] ds is)
only_bytes Gf256 ds is = tt

-- what holds below a number holds of the operands of a range below it
all_range : (P : Operand → Type 0) (f : ℕ → Operand) (a n most : ℕ) → ((k : ℕ) → k < most → P (f k)) → a + n ≤ most → AllByRecursion P (map f (range_with_len a n))
all_range P f a zero most holds within = tt
all_range P f a (suc n) most holds within = (holds a (omega (arith, within)), all_range P f (a + 1) n most holds (omega (arith, within)))

-- what holds of one operand holds of it again and again
all_same : (P : Operand → Type 0) (x : Operand) (n : ℕ) → P x → AllByRecursion P (replicate n x)
all_same P x zero holds = tt
all_same P x (suc n) holds = (holds, all_same P x n holds)

module _ (d : Draft) (zero_there : IsPublicThere d (Block 0)) (one_there : IsSharedThere d (Block 1)) where
  -- a variable holds first what it may
  first_held : (earlier : List Decl) (w : What) → elements_among is_secret_class earlier + elements_in is_secret_class w ≤ d.secrets →
      elements_among is_public_class earlier + elements_in is_public_class w ≤ d.publics → AllByRecursion (IsHeld d w) (first_variable earlier w)
  first_held earlier (what.Map images) secrets publics = tt
  first_held earlier (what.Var class_.Secret n) secrets publics =
      all_range (IsHeld d (what.Var class_.Secret n)) Secret _ (size_of n) d.secrets (λ k within. record { there = inl within; shared = λ e. within }) secrets
  first_held earlier (what.Var class_.Public n) secrets publics =
      all_range (IsHeld d (what.Var class_.Public n)) Public _ (size_of n) d.publics
      (λ k within. record { there = inr within; shared = λ e. absurd (true≢false (sym e)) }) publics
  first_held earlier (what.Var class_.Output n) secrets publics =
      all_same (IsHeld d (what.Var class_.Output n)) (Block 1) (size_of n) (record { there = inl one_there; shared = λ e. one_there })
  first_held earlier (what.Var class_.LocalSecret n) secrets publics =
      all_same (IsHeld d (what.Var class_.LocalSecret n)) (Block 1) (size_of n) (record { there = inl one_there; shared = λ e. one_there })
  first_held earlier (what.Var class_.LocalPublic n) secrets publics =
      all_same (IsHeld d (what.Var class_.LocalPublic n)) (Block 0) (size_of n) (record { there = inr zero_there; shared = λ e. absurd (true≢false (sym e)) })

  -- so do all
  pub env_held : (earlier ds : List Decl) → elements_among is_secret_class earlier + elements_among is_secret_class ds ≤ d.secrets →
      elements_among is_public_class earlier + elements_among is_public_class ds ≤ d.publics → AreHeld d ds (first_env earlier ds)
  env_held earlier [] secrets publics = tt
  env_held earlier (c ∷ cs) secrets publics =
      let s = sum_cons (λ (e : Decl). elements_in is_secret_class e.what) c cs in
      let p = sum_cons (λ (e : Decl). elements_in is_public_class e.what) c cs in
      let s_one : elements_among is_secret_class (c ∷ []) ≡ elements_in is_secret_class c.what = omega arith in
      let p_one : elements_among is_public_class (c ∷ []) ≡ elements_in is_public_class c.what = omega arith in
      let s_more = sum_by-append (λ (e : Decl). elements_in is_secret_class e.what) earlier (c ∷ []) in
      let p_more = sum_by-append (λ (e : Decl). elements_in is_public_class e.what) earlier (c ∷ []) in (
        first_held earlier c.what (omega (arith, s, secrets)) (omega (arith, p, publics)),
        env_held (earlier ++ c ∷ []) cs (omega (arith, s, s_one, s_more, secrets)) (omega (arith, p, p_one, p_more, publics)),
      )

-- there is a variable for each declaration
pub held_length : (d : Draft) (ds : List Decl) (env : Environment Operand) → AreHeld d ds env → length ds ≡ length env
held_length d [] [] held = refl
held_length d [] (v ∷ vs) held = absurd held
held_length d (c ∷ cs) [] held = absurd held
held_length d (c ∷ cs) (v ∷ vs) held = ap suc (held_length d cs vs held.1)

-- both lists
all_both : (P : Operand → Type 0) (xs ys : List Operand) → AllByRecursion P xs → AllByRecursion P ys → AllByRecursion P (xs ++ ys)
all_both P [] ys first last = last
all_both P (x ∷ xs) ys first last = (first.0, all_both P xs ys first.1 last)

-- a variable of a shared class holds shared operands
all_shared : (d : Draft) (w : What) (xs : List Operand) → is_variable is_shared_class (Some w) ≡ true → AllByRecursion (IsHeld d w) xs → AllByRecursion (IsSharedThere d) xs
all_shared d w [] is held = tt
all_shared d w (x ∷ xs) is held = (held.0.shared is, all_shared d w xs is held.1)

-- an output is shared
output_shared : (w : What) → is_variable is_output_class (Some w) ≡ true → is_variable is_shared_class (Some w) ≡ true
output_shared (what.Map images) is = is
output_shared (what.Var class_.Secret n) is = refl
output_shared (what.Var class_.Public n) is = is
output_shared (what.Var class_.Output n) is = refl
output_shared (what.Var class_.LocalSecret n) is = refl
output_shared (what.Var class_.LocalPublic n) is = is

-- what the outputs hold is shared
pub outs_shared : (d : Draft) (ds : List Decl) (env : Environment Operand) → AreHeld d ds env → AllByRecursion (IsSharedThere d) (output_elements ds env)
outs_shared d [] [] held = tt
outs_shared d [] (v ∷ vs) held = absurd held
outs_shared d (c ∷ cs) [] held = absurd held
outs_shared d (c ∷ cs) (v ∷ vs) held = by (is_variable is_output_class (Some c.what)) refl (outs_shared d cs vs held.1)
  where
    by : (b : Bool) → is_variable is_output_class (Some c.what) ≡ b → AllByRecursion (IsSharedThere d) (output_elements cs vs) →
        AllByRecursion (IsSharedThere d) ((if b then v else []) ++ output_elements cs vs)
    by true is rest = all_both (IsSharedThere d) v (output_elements cs vs) (all_shared d c.what v (output_shared c.what is) held.0) rest
    by false is rest = rest

-- what holds at the outset
pub first_holds : (field : FieldId) (ds : List Decl) → Holds (first_draft field ds) ds (first_env [] ds)
first_holds field ds = record {
  zero = refl;
  held = env_held (first_draft field ds) refl refl [] ds (omega arith) (omega arith);
}
