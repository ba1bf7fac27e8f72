-- What a program is unrolled to has its meaning, and few values.
use Rattle.std.proofs.Common.{◌≡◌, ℕ, ◌+◌, ◌*◌, ◌≤◌, List, [], ◌∷◌, Result, Ok, Err, IfOk, OnOk, true, sym, subst, arith}
use Rattle.mk_ast.specs.declared.tree.Program.{Program}
use Rattle.mk_ast.specs.declared.tree.Decl.{Decl}
use Rattle.mk_ast.specs.declared.tree.What.{What}
use Rattle.mk_ast.specs.declared.tree.What.TheVariants as what
use Rattle.mk_ast.specs.declared.tree.Class.TheVariants as class_
use Rattle.mk_ast.specs.declared.refusal.SourceRefusal.{SourceRefusal}
use Rattle.mk_ast.specs.Regular.{IsRegular}
use Rattle.mk_ssa.specs.Values.{Values}
use Rattle.mk_types.specs.Elements.{is_secret_class, is_public_class, is_output_class, elements_in, elements_among}
use Rattle.mk_types.specs.Offences.{IsWellTyped}
use Rattle.mk_unroll.specs.Causes.{HasFewElements, Ends, IsSmall}
use Rattle.mk_unroll.specs.Meant.{HasMeaning, HasFewValues}
use Rattle.mk_unroll.specs.Unrolled.{unrolled}
use Rattle.mk_unroll.proofs.FirstOperands.{sum_cons}
use Rattle.mk_unroll.proofs.Unrolls.{unrolled_outs_count, unrolled_result}
use Rattle.mk_unroll.proofs.Counts.{unrolled_made, unrolled_made_at_most, unrolled_lifts_at_most}

-- secrets, public inputs and outputs are no more than all elements, of one declaration
three_in : (w : What) → elements_in is_secret_class w + elements_in is_public_class w + elements_in is_output_class w ≤ elements_in (λ class. true) w
three_in (what.Map images) = omega arith
three_in (what.Var class_.Secret n) = omega arith
three_in (what.Var class_.Public n) = omega arith
three_in (what.Var class_.Output n) = omega arith
three_in (what.Var class_.LocalSecret n) = omega arith
three_in (what.Var class_.LocalPublic n) = omega arith

-- and of all
three_among : (ds : List Decl) → elements_among is_secret_class ds + elements_among is_public_class ds + elements_among is_output_class ds ≤ elements_among (λ class. true) ds
three_among [] = omega arith
three_among (d ∷ ds) =
    let a = sum_cons (λ (c : Decl). elements_in is_secret_class c.what) d ds in
    let b = sum_cons (λ (c : Decl). elements_in is_public_class c.what) d ds in
    let o = sum_cons (λ (c : Decl). elements_in is_output_class c.what) d ds in
    let all = sum_cons (λ (c : Decl). elements_in (λ class. true) c.what) d ds in
    omega (arith, a, b, o, all, three_in d.what, three_among ds)

-- what an accepted program is unrolled to has its meaning
pub is_meant : (p : Program) (r : Result Values SourceRefusal) → IsRegular p → IsWellTyped p → IfOk r (λ s. s ≡ unrolled p) → OnOk r (Ends p) → IfOk r (λ s. HasMeaning p s)
is_meant p (Err e) regular typed is ended = tt
is_meant p (Ok s) regular typed is ended =
    subst (HasMeaning p) (sym is) (λ publics secrets ps ss pe se. unrolled_result p publics secrets regular typed ended ps ss pe se)

-- and few values
pub has_few : (p : Program) (order : ℕ) (r : Result Values SourceRefusal) → IsRegular p → IsWellTyped p → IfOk r (λ s. s ≡ unrolled p)
    → OnOk r (HasFewElements p) → OnOk r (Ends p) → OnOk r (IsSmall p order) → IfOk r (λ s. HasFewValues s order)
has_few p order (Err e) regular typed is few ended small = tt
has_few p order (Ok s) regular typed is few ended small =
    let outs = unrolled_outs_count p regular typed ended in
    let three = three_among p.decls in
    subst (λ (v : Values). HasFewValues v order) (sym is) (record {
      ends = omega (arith, outs, three, few);
      lifted = unrolled_lifts_at_most p ended;
      operators = unrolled_made_at_most p ended;
      size = subst (λ (n : ℕ). n * ((order + 1) * (order + 1)) ≤ 1000000) (sym (unrolled_made p ended)) small;
    })
