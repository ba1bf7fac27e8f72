-- Before the first statement, what the variables hold stands for the inputs and zeros.
use Rattle.std.proofs.Common.{◌≡◌, ℕ, zero, suc, ◌+◌, ◌≤◌, ◌<◌, Bool, true, false, List, [], ◌∷◌, ◌++◌, All, map, length, take, drop, replicate, pow_pos, refl, sym, subst, arith}
use Rattle.std.specs.List.{range_with_len}
use Rattle.std.proofs.lemmas.List.{drop_more, length-replicate}
use Rattle.std.proofs.lemmas.List.FromFn.{length-map-range_with_len}
use Rattle.std.proofs.lemmas.List.Sums.{sum_by-append, sum_by-cons}
use Rattle.mk_field.specs.declared.field.FieldId.{FieldId}
use Rattle.mk_field.specs.declared.field.FieldId.TheVariants.{Gf2, Gf256}
use Rattle.mk_field.specs.Field.{bits, size, HasMapsOnlyInBytes}
use Rattle.mk_ast.specs.declared.tree.Decl.{Decl}
use Rattle.mk_ast.specs.declared.tree.What.{What}
use Rattle.mk_ast.specs.declared.tree.What.TheVariants as what
use Rattle.mk_ast.specs.declared.tree.Class.{Class}
use Rattle.mk_ast.specs.declared.tree.Class.TheVariants as class_
use Rattle.mk_ssa.specs.declared.Operand.{Operand}
use Rattle.mk_ssa.specs.declared.Operand.TheVariants.{Secret, Public, Block}
use Rattle.mk_ssa.specs.declared.Op.{Op}
use Rattle.mk_ssa.specs.declared.Op.TheVariants.{Const, Lift}
use Rattle.mk_ssa.specs.Values.{IsDraft}
use Rattle.mk_types.specs.Elements.{is_secret_class, is_public_class, size_of, elements_in, elements_among, maps_of}
use Rattle.mk_types.specs.Environment.{beginning, beginnings}
use Rattle.mk_types.specs.Offences.{decls_offences}
use Rattle.mk_types.proofs.MapNumbers.{no_maps_of_bits}
use Rattle.mk_unroll.specs.Unrolled.{appended}
use Rattle.mk_unroll.proofs.Stands.{Setting, draft_of, Stands, Gives, gives_appended, const_stands, lift_stands}
use Rattle.mk_unroll.proofs.Environments.{EachStands, VariableStands, EnvironmentStands}
use Rattle.mk_unroll.proofs.ExpressionsStand.{Declares}

-- the inputs are elements, as many as are declared
pub record HasInputs (t : Setting) : Type 0 where
  pub publics : length t.publics ≡ elements_among is_public_class t.decls
  pub secrets : length t.secrets ≡ elements_among is_secret_class t.decls
  pub public_elements : All (λ a. a < size t.field) t.publics
  pub secret_elements : All (λ a. a < size t.field) t.secrets

-- the values before the first statement
abbrev pub zero_values : List Op
zero_values = Const 0 ∷ Lift (Block 0) ∷ []

-- maps are over bytes
maps_in_bytes : (field : FieldId) (decls : List Decl) → decls_offences field [] decls ≡ [] → HasMapsOnlyInBytes field (maps_of decls)
maps_in_bytes Gf2 decls accepted = no_maps_of_bits [] decls accepted
maps_in_bytes Gf256 decls accepted = tt

module _ (t : Setting) (declares : Declares t) where
  -- no values fit together
  made_none : IsDraft (draft_of t [])
  made_none = record { bytes = maps_in_bytes t.field t.decls declares.accepted; fit = λ k op is. absurd (cc) }

  -- value 0 is the constant 00
  gives_zero : Gives t false [] (appended [] (Const 0)) 0
  gives_zero = gives_appended t false [] [] (Const 0) 0 made_none (λ s x a stands. stands) (const_stands t [] 0 (pow_pos (bits t.field)))

  -- value 1 is its lift
  gives_lift : Gives t true (Const 0 ∷ []) (appended (Const 0 ∷ []) (Lift (Block 0))) 0
  gives_lift =
      gives_appended t true (Const 0 ∷ []) (Const 0 ∷ []) (Lift (Block 0)) 0 gives_zero.made (λ s x a stands. stands)
      (lift_stands t (Const 0 ∷ []) (Block 0) 0 gives_zero.stands)

  -- the first two values fit together
  pub made_first : IsDraft (draft_of t zero_values)
  made_first = gives_lift.made

  -- value 0 stands for 0
  zero_public : Stands t false zero_values (Block 0) 0
  zero_public = gives_lift.grows false (Block 0) 0 gives_zero.stands

  -- and so does value 1, shared
  zero_shared : Stands t true zero_values (Block 1) 0
  zero_shared = gives_lift.stands

  module _ (inputs : HasInputs t) where
    -- secrets stand for themselves
    secrets_stand : (n before : ℕ) → before + n ≤ length t.secrets → EachStands t true zero_values (map Secret (range_with_len before n)) (take n (drop before t.secrets))
    secrets_stand zero before room = tt
    secrets_stand (suc n) before room =
        let below : before < length t.secrets = omega arith in
        subst (λ (xs : List ℕ). EachStands t true zero_values (map Secret (range_with_len before (suc n))) (take (suc n) xs)) (sym (drop_more t.secrets before 0 below))
        (record { there = omega (arith, inputs.secrets); value = refl; element = inputs.secret_elements before 0 below }, secrets_stand n (before + 1) (omega arith))

    -- and so do public inputs
    publics_stand : (n before : ℕ) → before + n ≤ length t.publics → EachStands t false zero_values (map Public (range_with_len before n)) (take n (drop before t.publics))
    publics_stand zero before room = tt
    publics_stand (suc n) before room =
        let below : before < length t.publics = omega arith in
        subst (λ (xs : List ℕ). EachStands t false zero_values (map Public (range_with_len before (suc n))) (take (suc n) xs)) (sym (drop_more t.publics before 0 below))
        (record { there = omega (arith, inputs.publics); value = refl; element = inputs.public_elements before 0 below }, publics_stand n (before + 1) (omega arith))

    -- many times the same
    replicas_stand : (shared : Bool) (x : Operand) (a : ℕ) → Stands t shared zero_values x a → (n : ℕ) → EachStands t shared zero_values (replicate n x) (replicate n a)
    replicas_stand shared x a stands zero = tt
    replicas_stand shared x a stands (suc n) = (stands, replicas_stand shared x a stands n)

    -- a variable before the first statement
    beginning_stands : (earlier : List Decl) (w : What) → elements_among is_secret_class earlier + elements_in is_secret_class w ≤ length t.secrets →
        elements_among is_public_class earlier + elements_in is_public_class w ≤ length t.publics →
        VariableStands t zero_values w
        (beginning (λ before n. map Secret (range_with_len before n)) (λ before n. map Public (range_with_len before n)) (Block 1) (Block 0) earlier w)
        (beginning (λ before n. take n (drop before t.secrets)) (λ before n. take n (drop before t.publics)) 0 0 earlier w)
    beginning_stands earlier (what.Map images) secrets publics = tt
    beginning_stands earlier (what.Var class_.Secret n) secrets publics =
        (length-map-range_with_len Secret (elements_among is_secret_class earlier) (size_of n), secrets_stand (size_of n) (elements_among is_secret_class earlier) secrets)
    beginning_stands earlier (what.Var class_.Public n) secrets publics =
        (length-map-range_with_len Public (elements_among is_public_class earlier) (size_of n), publics_stand (size_of n) (elements_among is_public_class earlier) publics)
    beginning_stands earlier (what.Var class_.Output n) secrets publics = (length-replicate (size_of n) (Block 1), replicas_stand true (Block 1) 0 zero_shared (size_of n))
    beginning_stands earlier (what.Var class_.LocalSecret n) secrets publics = (length-replicate (size_of n) (Block 1), replicas_stand true (Block 1) 0 zero_shared (size_of n))
    beginning_stands earlier (what.Var class_.LocalPublic n) secrets publics = (length-replicate (size_of n) (Block 0), replicas_stand false (Block 0) 0 zero_public (size_of n))

    -- one declaration further
    room : (test : Class → Bool) (earlier : List Decl) (d : Decl) (ds : List Decl) (n : ℕ) → elements_among test earlier + elements_among test (d ∷ ds) ≤ n →
        (elements_among test earlier + elements_in test d.what ≤ n) × (elements_among test (earlier ++ d ∷ []) + elements_among test ds ≤ n)
    room test earlier d ds n fits =
        let one = sum_by-cons (λ x. elements_in test x.what) d ds in
        let more = sum_by-append (λ x. elements_in test x.what) earlier (d ∷ []) in
        (omega (arith, one, fits), omega (arith, one, more, fits))

    -- the variables before the first statement
    pub beginnings_stand : (earlier ds : List Decl) → elements_among is_secret_class earlier + elements_among is_secret_class ds ≤ length t.secrets →
        elements_among is_public_class earlier + elements_among is_public_class ds ≤ length t.publics →
        EnvironmentStands t zero_values ds
        (beginnings (λ before n. map Secret (range_with_len before n)) (λ before n. map Public (range_with_len before n)) (Block 1) (Block 0) earlier ds)
        (beginnings (λ before n. take n (drop before t.secrets)) (λ before n. take n (drop before t.publics)) 0 0 earlier ds)
    beginnings_stand earlier [] secrets publics = tt
    beginnings_stand earlier (d ∷ ds) secrets publics =
        let s = room is_secret_class earlier d ds (length t.secrets) secrets in
        let p = room is_public_class earlier d ds (length t.publics) publics in
        (beginning_stands earlier d.what s.0 p.0, beginnings_stand (earlier ++ d ∷ []) ds s.1 p.1)
