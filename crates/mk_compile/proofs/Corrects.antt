-- Code that is made of a certificate that stands for what a program is unrolled to is correct.
use Rattle.std.proofs.Common.{◌≡◌, ℕ, zero, suc, ◌+◌, ◌*◌, ◌<◌, List, [], Some, length, map, take, drop, slice_index_or, sym, ◌∙◌, ap, refl, subst}
use Rattle.std.specs.List.{AllByRecursion}
use Rattle.std.proofs.lemmas.List.Elements.{All-from_recursion, recursion_from_All}
use Rattle.mk_field.specs.declared.field.FieldId.{FieldId}
use Rattle.mk_field.specs.Field.{bits, size}
use Rattle.mk_field.specs.Sharing.{decoded}
use Rattle.mk_code.specs.Listing.{Listing}
use Rattle.mk_code.specs.Trace.{trace, randoms}
use Rattle.mk_code.specs.Counting.{AllBelow, Elements}
use Rattle.mk_code.specs.Private.{observation}
use Rattle.mk_code.proofs.Totals.{AllBelow-drop, AllBelow-take}
use Rattle.mk_code.proofs.Steps.{All-below}
use Rattle.mk_code.proofs.Encodings.{field_sum-below}
use Rattle.mk_ast.specs.declared.tree.Program.{Program}
use Rattle.mk_ast.specs.Regular.{IsRegular}
use Rattle.mk_ssa.specs.declared.Operand.{Operand}
use Rattle.mk_ssa.specs.Denoted.{denoted}
use Rattle.mk_types.specs.Elements.{secrets_of, publics_of, outputs_of}
use Rattle.mk_types.specs.Meaning.{result}
use Rattle.mk_types.specs.Offences.{IsWellTyped}
use Rattle.mk_unroll.specs.Causes.{Ends}
use Rattle.mk_unroll.specs.Unrolled.{unrolled}
use Rattle.mk_unroll.proofs.Unrolls.{unrolled_result}
use Rattle.mk_gadget.specs.Product.{product_gadget}
use Rattle.mk_gadget.specs.Refresh.{refresh_gadget}
use Rattle.mk_rules.specs.Shape.{shape_of}
use Rattle.mk_rules.specs.Claimed.{Claimed}
use Rattle.mk_rules.specs.Tiles.{value_number}
use Rattle.mk_rules.specs.Wired.{IsSharedThere}
use Rattle.mk_rules.proofs.Claims.{length-parted}
use Rattle.mk_rules.proofs.Laid.{bank-long}
use Rattle.mk_rules.proofs.BuiltIn.{built_in-given}
use Rattle.mk_compile.specs.RightValues.{built_banks, stands_for}
use Rattle.mk_compile.specs.Correct.{Correct}
use Rattle.mk_compile.specs.MadeFor.{IsMadeFor}
use Rattle.mk_compile.proofs.Whole.{claims-right}

-- what sharings decode to are elements
decoded-elements : (field : FieldId) (n k : ℕ) (shares : List ℕ) → AllBelow (size field) shares → AllByRecursion (λ a. a < size field) (decoded n k shares)
unfolding decoded
decoded-elements field n zero shares below = tt
decoded-elements field n (suc k) shares below =
    (field_sum-below (bits field) (take n shares) (AllBelow-take (size field) n shares below), decoded-elements field n k (drop n shares) (AllBelow-drop (size field) n shares below))

-- there is one for each
length-decoded : (n k : ℕ) (shares : List ℕ) → length (decoded n k shares) ≡ k
unfolding decoded
length-decoded n zero shares = refl
length-decoded n (suc k) shares = ap suc (length-decoded n k (drop n shares))

module _ (p : Program) (order : ℕ) (code : Listing) (cert : Claimed) (regular : IsRegular p) (typed : IsWellTyped p) (ends : Ends p)
    (made : IsMadeFor p order code cert) where
  -- the shares of the outputs have the result as sums
  values-correct : (publics shares tape : List ℕ) → Elements (size p.field) (publics_of p) publics
      → Elements (size p.field) (secrets_of p * (order + 1)) shares → Elements (size p.field) (randoms code.instrs) tape
      → result p publics (decoded (order + 1) (secrets_of p) shares)
      ≡ Some (decoded (order + 1) (outputs_of p) (observation code.outs (trace code publics shares tape)))
  values-correct publics shares tape publics_are shares_are tape_is =
      let secrets : List ℕ = decoded (order + 1) (secrets_of p) shares in
      let here : Elements (size code.field) code.publics publics =
      subst (λ (f : FieldId). Elements (size f) code.publics publics) (sym made.field)
      (subst (λ (k : ℕ). Elements (size p.field) k publics) (sym made.publics) publics_are) in
      let count : secrets_of p * (order + 1) ≡ code.secrets * (code.order + 1) =
      ap (λ (k : ℕ). k * (order + 1)) (sym made.secrets) ∙ ap (λ (t : ℕ). code.secrets * (t + 1)) (sym made.same_order) in
      let there : Elements (size code.field) (code.secrets * (code.order + 1)) shares =
      subst (λ (f : FieldId). Elements (size f) (code.secrets * (code.order + 1)) shares) (sym made.field)
      (subst (λ (k : ℕ). Elements (size p.field) k shares) count shares_are) in
      let random : Elements (size code.field) (randoms code.instrs) tape =
      subst (λ (f : FieldId). Elements (size f) (randoms code.instrs) tape) (sym made.field) tape_is in
      let same : decoded (code.order + 1) code.secrets shares ≡ secrets =
      ap (λ (t : ℕ). decoded (t + 1) code.secrets shares) made.same_order ∙ ap (λ (k : ℕ). decoded (order + 1) k shares) made.secrets in
      let outs : List ℕ = observation code.outs (trace code publics shares tape) in
      let right : decoded (code.order + 1) (length cert.claims) outs ≡ denoted (unrolled p) publics secrets =
      claims-right code cert.blocks made.images made.wired made.tiles cert.claims made.outputs publics shares tape here there random
      ∙ ap (λ (xs : List ℕ). map (stands_for (shape_of code) cert.blocks publics xs) cert.claims) same
      ∙ made.meaning publics secrets in
      unrolled_result p publics secrets regular typed ends publics_are.count (length-decoded (order + 1) (secrets_of p) shares)
      (All-below (size p.field) publics publics_are.below)
      (All-from_recursion (λ a. a < size p.field) secrets (decoded-elements p.field (order + 1) (secrets_of p) shares shares_are.below))
      ∙ ap (λ (xs : List ℕ). Some xs) (sym right
      ∙ ap (λ (t : ℕ). decoded (t + 1) (length cert.claims) outs) made.same_order
      ∙ ap (λ (k : ℕ). decoded (order + 1) k outs) made.count)

  -- the code is correct
  pub made-correct : Correct p order code
  made-correct =
      let n : ℕ = code.order + 1 in
      let bank : Operand → List ℕ = λ v. slice_index_or (built_banks (shape_of code) cert.blocks) (value_number (shape_of code) v) [] in
      record {
        field = made.field;
        same_order = made.same_order;
        secrets = made.secrets;
        publics = made.publics;
        outputs = ap length made.outputs.outs
            ∙ length-parted n bank (IsSharedThere (shape_of code) cert.blocks) cert.claims
            (recursion_from_All (IsSharedThere (shape_of code) cert.blocks) cert.claims made.outputs.there)
            (λ v there. bank-long (shape_of code) (product_gadget n) (refresh_gadget n) cert.blocks v made.wired (built_in-given (shape_of code)) there)
            ∙ ap (λ (k : ℕ). k * n) made.count ∙ ap (λ (t : ℕ). outputs_of p * (t + 1)) made.same_order;
        values = values-correct;
      }
