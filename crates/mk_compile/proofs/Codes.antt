-- The code of placed blocks, with the outputs of claims, is whole.
use Rattle.std.proofs.Common.{◌≡◌, ℕ, ◌+◌, ◌*◌, ◌≤◌, List, [], ◌∷◌, All, length, map, slice_index_or, sym, ◌∙◌, ap, refl, subst}
use Rattle.std.specs.List.{flat_map, AllByRecursion}
use Rattle.std.proofs.lemmas.List.Elements.{All-from_recursion, recursion_from_All}
use Rattle.mk_base.specs.declared.TheConstants.{TOP_ORDER}
use Rattle.mk_simplify.proofs.Trees.{AllByRecursion-weaker}
use Rattle.mk_code.specs.declared.instr.Instr.{Instr}
use Rattle.mk_code.specs.Draft.{Draft, draft_len, IsWholeWith}
use Rattle.mk_code.specs.Counting.{AllBelow}
use Rattle.mk_code.proofs.Totals.{AllBelow-append}
use Rattle.mk_code.proofs.Steps.{All-below}
use Rattle.mk_ssa.specs.declared.Operand.{Operand}
use Rattle.mk_ssa.specs.declared.Op.{Op}
use Rattle.mk_ssa.specs.Kinds.{is_public}
use Rattle.mk_rules.specs.Shape.{Shape}
use Rattle.mk_rules.specs.Tiles.{value_number}
use Rattle.mk_rules.specs.Wired.{IsSharedThere, Wired}
use Rattle.mk_compile.specs.declared.positions.Position.{Position}
use Rattle.mk_compile.specs.Emitting.{outs_of}
use Rattle.mk_compile.specs.Positions.{is_public_at, bank_of, IsSharedAt, AreBefore, ArePlaced}
use Rattle.mk_compile.proofs.Banks.{shared-before}
use Rattle.mk_compile.proofs.Emitted.{shared-placed, shared-bank, banks-same, before-placed}

-- lists below an end, one after the other
joined-below : {X : Type 0} (q : ℕ) (f : X → List ℕ) (P : X → Type 0) (xs : List X) → ((x : X) → P x → AllBelow q (f x)) → AllByRecursion P xs
    → AllBelow q (flat_map f xs)
unfolding AllBelow
joined-below q f P [] below all = tt
joined-below q f P (x ∷ xs) below all = AllBelow-append q (f x) (flat_map f xs) (below x all.0) (joined-below q f P xs below all.1)

module _ {N : ℕ} (shape : Shape) (order : shape.order + 1 ≡ N) (blocks : List Op) (positions : List (Position N)) (claims : List Operand) where
  -- the claims are among the values that stand somewhere
  pub claims-placed : map is_public_at positions ≡ map is_public blocks → All (IsSharedThere shape blocks) claims → All (IsSharedAt shape.secrets positions) claims
  claims-placed kinds there =
      All-from_recursion (IsSharedAt shape.secrets positions) claims
      (AllByRecursion-weaker (IsSharedThere shape blocks) (IsSharedAt shape.secrets positions) claims (λ v here. shared-placed shape order blocks positions v kinds here)
      (recursion_from_All (IsSharedThere shape blocks) claims there))

  -- their positions are the outs
  pub claims-outs : (instrs : List Instr) → ArePlaced shape blocks instrs positions → All (IsSharedThere shape blocks) claims
      → flat_map (bank_of shape.secrets positions) claims ≡ outs_of shape blocks claims
  claims-outs instrs so there =
      banks-same shape order (IsSharedAt shape.secrets positions) positions claims (shared-bank shape order positions)
      (recursion_from_All (IsSharedAt shape.secrets positions) claims (claims-placed so.kinds there))
      ∙ ap (λ (banks : List (List ℕ)). flat_map (λ (v : Operand). slice_index_or banks (value_number shape v) []) claims) so.banks

  -- the code is whole
  pub claims-whole : (d : Draft) (outs : List ℕ) → d.order ≡ shape.order → d.secrets ≡ shape.secrets → d.publics ≡ shape.publics
      → (1 ≤ shape.order) × (shape.order ≤ TOP_ORDER) → Wired shape blocks → ArePlaced shape blocks d.instrs positions → All (IsSharedThere shape blocks) claims
      → length claims ≤ 65536 → outs ≡ flat_map (bank_of shape.secrets positions) claims → length outs ≡ length claims * N → IsWholeWith d outs
  claims-whole d outs same_order same_secrets same_publics range wired so there few positions_are count =
      let shares : d.order + 1 ≡ N = ap (λ (t : ℕ). t + 1) same_order ∙ order in
      let len : draft_len d ≡ shape.secrets * (shape.order + 1) + shape.publics + length d.instrs =
      ap (λ (t : ℕ). d.secrets * (t + 1) + d.publics + length d.instrs) same_order
      ∙ ap (λ (s : ℕ). s * (shape.order + 1) + d.publics + length d.instrs) same_secrets
      ∙ ap (λ (p : ℕ). shape.secrets * (shape.order + 1) + p + length d.instrs) same_publics in
      let before : AreBefore (draft_len d) positions =
      subst (λ (q : ℕ). AreBefore q positions) (sym len) (before-placed shape order blocks d.instrs positions wired so) in
      let all : AllByRecursion (IsSharedAt shape.secrets positions) claims = recursion_from_All (IsSharedAt shape.secrets positions) claims (claims-placed so.kinds there) in
      let below : AllBelow (draft_len d) (flat_map (bank_of shape.secrets positions) claims) =
      joined-below (draft_len d) (bank_of shape.secrets positions) (IsSharedAt shape.secrets positions) claims
      (λ v here. shared-before d shape.secrets shape.publics positions shares (sym same_secrets) (sym same_publics) before v (bank_of shape.secrets positions v) here refl) all in
      record {
        order = subst (λ (t : ℕ). (1 ≤ t) × (t ≤ TOP_ORDER)) (sym same_order) range;
        outs = All-below (draft_len d) outs (subst (AllBelow (draft_len d)) (sym positions_are) below);
        outputs = (length claims, few, count ∙ ap (λ (n : ℕ). length claims * n) (sym shares));
      }
