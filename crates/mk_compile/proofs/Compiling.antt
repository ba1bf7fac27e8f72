-- What is compiled is made for its program, and small.
use Rattle.std.proofs.Common.{◌≡◌, ℕ, ◌+◌, ◌≤◌, Bool, List, length, map, sym, ◌∙◌, ap, subst, arith}
use Rattle.std.proofs.lemmas.List.{length-map}
use Rattle.mk_base.specs.declared.TheConstants.{TOP_ORDER}
use Rattle.mk_field.specs.Field.{size}
use Rattle.mk_ast.specs.declared.tree.Program.{Program}
use Rattle.mk_ast.specs.Regular.{IsRegular}
use Rattle.mk_code.specs.Listing.{Listing, HasElementImages}
use Rattle.mk_ssa.specs.Operators.{Operator}
use Rattle.mk_ssa.specs.Values.{Values, IsValues}
use Rattle.mk_ssa.specs.Denoted.{denoted}
use Rattle.mk_types.specs.Offences.{IsWellTyped}
use Rattle.mk_unroll.specs.Causes.{Ends}
use Rattle.mk_unroll.specs.Meant.{HasFewValues}
use Rattle.mk_unroll.specs.Unrolled.{unrolled}
use Rattle.mk_unroll.proofs.Unrolls.{unrolled_outs_count}
use Rattle.mk_simplify.specs.Trees.{tree_of}
use Rattle.mk_simplify.specs.Simplified.{IsSimplified, count_operators, is_constant}
use Rattle.mk_rules.specs.Claimed.{Claimed}
use Rattle.mk_rules.specs.Wired.{Wired}
use Rattle.mk_rules.specs.Accepts.{IsAccepted}
use Rattle.mk_rules.specs.Shape.{shape_of}
use Rattle.mk_place.specs.Uses.{shape_of_values}
use Rattle.mk_place.specs.Layout.{renamed}
use Rattle.mk_place.specs.Placed.{Placed}
use Rattle.mk_compile.specs.Emitting.{shape_from, blocks_len, code_of}
use Rattle.mk_compile.specs.RightValues.{stands_for}
use Rattle.mk_compile.specs.Correct.{Correct}
use Rattle.mk_compile.proofs.Meanings.{laid-meaning}
use Rattle.mk_compile.proofs.Sizes.{AreFew, used-there, simplified-few, few-blocks, few-blocks_len}
use Rattle.mk_compile.proofs.Corrects.{made-correct}

-- what a program is unrolled to, simplified, with a placed certificate
module _ (p : Program) (order : ℕ) (u s : Values) (cert : Claimed) (is : u ≡ unrolled p) (simplified : IsSimplified u s) (placed : Placed s cert) where
  -- it is few values
  module _ (counts : HasFewValues u order) (operators : (test : Operator → Bool) → count_operators test s ≤ count_operators test u)
      (constants : count_operators is_constant s ≤ size s.field) where
    -- the simplified values are few
    few : AreFew s.values (order + 1)
    few = simplified-few u s order counts operators constants

    -- and few blocks
    pub blocks-few : length cert.blocks ≤ 131072
    blocks-few =
        omega (
          arith,
          few-blocks placed.marks s.values (order + 1) few (used-there s placed.marks placed.used),
          ap (λ (x : Claimed). length x.blocks) placed.laid,
        )

    -- of few instructions
    pub instrs-few : 1 ≤ order → order ≤ TOP_ORDER → blocks_len (order + 1) cert.blocks ≤ 8388608
    instrs-few least most =
        omega (
          arith,
          few-blocks_len placed.marks s.values (order + 1) (omega arith) (omega (arith, most)) few (used-there s placed.marks placed.used),
          ap (λ (x : Claimed). blocks_len (order + 1) x.blocks) placed.laid,
        )

  -- there is a claim for each output
  pub claims-count : length cert.claims ≡ length u.outs
  claims-count =
      ap (λ (x : Claimed). length x.claims) placed.laid ∙ length-map s.outs (renamed placed.marks)
      ∙ sym (length-map s.outs (tree_of s.values)) ∙ ap length simplified.outs ∙ length-map u.outs (tree_of u.values)

  -- the claims stand for what the outputs do
  module _ (fit : IsValues s) (wired : Wired (shape_of_values s) cert.blocks) (meaning : (publics secrets : List ℕ) → denoted s publics secrets ≡ denoted u publics secrets) where
    -- the claims stand for what the program is unrolled to
    cert-meaning : (publics secrets : List ℕ) → map (stands_for (shape_of_values s) cert.blocks publics secrets) cert.claims ≡ denoted (unrolled p) publics secrets
    cert-meaning publics secrets =
        ap (λ (x : Claimed). map (stands_for (shape_of_values s) x.blocks publics secrets) x.claims) placed.laid
        ∙ laid-meaning s fit placed.marks (subst (λ (x : Claimed). Wired (shape_of_values s) x.blocks) placed.laid wired) publics secrets
        ∙ meaning publics secrets
        ∙ ap (λ (v : Values). denoted v publics secrets) is

    -- so the code is correct
    pub code-correct : IsRegular p → IsWellTyped p → Ends p → (code : Listing) → code ≡ code_of (shape_from s.field order s.secrets s.publics s.maps) cert
        → HasElementImages code → IsAccepted code cert → Correct p order code
    code-correct regular typed ends code made images accepted =
        made-correct p order code cert regular typed ends (record {
          field = ap (λ (x : Listing). x.field) made ∙ simplified.field ∙ ap (λ (v : Values). v.field) is;
          same_order = ap (λ (x : Listing). x.order) made;
          secrets = ap (λ (x : Listing). x.secrets) made ∙ simplified.secrets ∙ ap (λ (v : Values). v.secrets) is;
          publics = ap (λ (x : Listing). x.publics) made ∙ simplified.publics ∙ ap (λ (v : Values). v.publics) is;
          images = images;
          wired = accepted.wired;
          tiles = accepted.tiles;
          outputs = accepted.outputs;
          count = claims-count ∙ ap (λ (v : Values). length v.outs) is ∙ unrolled_outs_count p regular typed ends;
          meaning = λ publics secrets.
              ap (λ (x : Listing). map (stands_for (shape_of x) cert.blocks publics secrets) cert.claims) made ∙ cert-meaning publics secrets;
        })
