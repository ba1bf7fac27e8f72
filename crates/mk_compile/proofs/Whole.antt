-- The whole run of a code that is made of wired blocks.
use Rattle.std.proofs.Common.{◌≡◌, ℕ, suc, ◌+◌, ◌-◌, ◌*◌, ◌≤◌, List, [], ◌∷◌, ◌++◌, length, map, slice_index, slice_index_or, sym, ◌∙◌, ap, refl, subst, arith, inl, inr}
use Rattle.std.specs.List.{range_with_len, AllByRecursion}
use Rattle.std.proofs.lemmas.List.{get_or-append_right}
use Rattle.std.proofs.lemmas.List.Elements.{recursion_from_All}
use Rattle.std.proofs.Math.Nat.{mul-le-mul_right}
use Rattle.std.proofs.Math.Seq.{take-append_seam}
use Rattle.mk_field.specs.Field.{size}
use Rattle.mk_field.specs.Sharing.{field_sum, decoded}
use Rattle.mk_field.proofs.Sum.{sum-zero_right}
use Rattle.mk_code.specs.declared.instr.Instr.{Instr}
use Rattle.mk_code.specs.Listing.{Listing, HasElementImages}
use Rattle.mk_code.specs.Trace.{run, trace}
use Rattle.mk_code.specs.Private.{observation}
use Rattle.mk_code.proofs.Totals.{Elements-append}
use Rattle.mk_ssa.specs.declared.Op.{Op}
use Rattle.mk_ssa.specs.declared.Operand.{Operand}
use Rattle.mk_ssa.specs.declared.Operand.TheVariants as operand
use Rattle.mk_gadget.specs.Emitted.{shared_at}
use Rattle.mk_gadget.specs.Product.{product_gadget}
use Rattle.mk_gadget.specs.Refresh.{refresh_gadget}
use Rattle.mk_gadget.proofs.Ranges.{AllBelow-range}
use Rattle.mk_rules.specs.Shape.{Shape, shape_of}
use Rattle.mk_rules.specs.Claimed.{Claimed}
use Rattle.mk_rules.specs.Tiles.{Tiles, value_number, input_banks, first_position}
use Rattle.mk_rules.specs.Wired.{IsSharedThere, Wired}
use Rattle.mk_rules.specs.Accepts.{Outputs}
use Rattle.mk_rules.proofs.Standing.{AreBanks}
use Rattle.mk_rules.proofs.Front.{AreInputs, input-banks, secret-bank, public-bank}
use Rattle.mk_rules.proofs.Accepted.{known_of, known-secret, known-public}
use Rattle.mk_rules.proofs.Laid.{bank-long}
use Rattle.mk_rules.proofs.BuiltIn.{built_in-given}
use Rattle.mk_compile.specs.RightValues.{built_banks, stands_for, ComputesValues, ComputesClaims, RightValues}
use Rattle.mk_compile.proofs.Sharings.{observed-window, decoded-at, decoded-banks, observation-stays}
use Rattle.mk_compile.proofs.Right.{AreRight, right-all}

-- two maps that agree on each
map-each : {X Y : Type 0} (f g : X → Y) (P : X → Type 0) (xs : List X) → ((x : X) → P x → f x ≡ g x) → AllByRecursion P xs → map f xs ≡ map g xs
map-each f g P [] same all = refl
map-each f g P (x ∷ xs) same all = ap (λ (y : _). y ∷ map f xs) (same x all.0) ∙ ap (λ (ys : List _). g x ∷ ys) (map-each f g P xs same all.1)

-- the sum at one position is what stands there
one-entry : (bank entries : List ℕ) (position : ℕ) → bank ≡ position ∷ [] → shared_at bank entries ≡ slice_index entries position
unfolding field_sum
one-entry bank entries position is = ap (λ (ps : List ℕ). shared_at ps entries) is ∙ sum-zero_right (slice_index entries position)

module _ (shape : Shape) where
  -- the banks of the inputs of code that is made of these blocks
  pub inputs-banked : (blocks : List Op) → AreBanks (shape.order + 1) (known_of shape blocks) (shape.secrets + shape.publics + 0) (first_position shape) (input_banks shape)
  inputs-banked blocks =
      let product = product_gadget (shape.order + 1) in
      let refresh = refresh_gadget (shape.order + 1) in
      let given : AreInputs shape (known_of shape blocks) =
      record { secrets = known-secret shape product refresh blocks; publics = known-public shape product refresh blocks } in
      let none : shape.secrets + shape.publics ≡ shape.secrets + shape.publics + 0 = omega arith in
      subst (λ (v : ℕ). AreBanks (shape.order + 1) (known_of shape blocks) v (first_position shape) (input_banks shape)) none (input-banks shape (known_of shape blocks) given)

  -- the sums of the shares of the secrets are the secrets, and the publics stand for themselves
  inputs-right : (publics shares : List ℕ) → length shares ≡ shape.secrets * (shape.order + 1)
      → AreRight shape [] (input_banks shape) (shares ++ publics) publics (decoded (shape.order + 1) shape.secrets shares) []
  inputs-right publics shares long (operand.Secret k) (inl there) =
      let n : ℕ = shape.order + 1 in
      let step : suc k * n ≤ shape.secrets * n = mul-le-mul_right n there in
      let positions : List ℕ = range_with_len (k * n) n in
      ap (λ (ps : List ℕ). shared_at ps (shares ++ publics)) (secret-bank shape k there)
      ∙ ap field_sum (observation-stays shares (shares ++ publics) positions (take-append_seam shares publics) (AllBelow-range (length shares) (k * n) n (omega (arith, step, long))))
      ∙ ap field_sum (observed-window (k * n) n shares (omega (arith, step, long)))
      ∙ sym (decoded-at n shape.secrets shares k there)
  inputs-right publics shares long (operand.Secret k) (inr there) = absurd there
  inputs-right publics shares long (operand.Public k) (inl there) = absurd there
  inputs-right publics shares long (operand.Public k) (inr there) =
      let n : ℕ = shape.order + 1 in
      let end : ℕ = shape.secrets * n in
      let position : ℕ = end + (shape.secrets + k - shape.secrets) in
      let back : position - end ≡ k = omega arith in
      one-entry (slice_index_or (input_banks shape) (shape.secrets + k) []) (shares ++ publics) position (public-bank shape (shape.secrets + k) (omega arith) (omega (arith, there)))
      ∙ get_or-append_right shares publics end position 0 long (omega arith)
      ∙ ap (slice_index publics) back
  inputs-right publics shares long (operand.Block k) (inl there) = absurd there
  inputs-right publics shares long (operand.Block k) (inr there) = absurd there

module _ (code : Listing) (blocks : List Op) (images : HasElementImages code) (wired : Wired (shape_of code) blocks)
    (tiles : Tiles code (product_gadget (code.order + 1)) (refresh_gadget (code.order + 1)) blocks) where
  -- all values are right
  pub values-right : ComputesValues code blocks
  values-right publics shares tape publics_are shares_are tape_is v there =
      let secrets : List ℕ = decoded (code.order + 1) code.secrets shares in
      subst (λ (is : List Instr). shared_at (slice_index_or (built_banks (shape_of code) blocks) (value_number (shape_of code) v) []) (run code.field code.maps is tape (shares ++ publics))
      ≡ stands_for (shape_of code) blocks publics secrets v) (sym tiles)
      (right-all (shape_of code) publics secrets images [] blocks (first_position (shape_of code)) (input_banks (shape_of code)) tape (shares ++ publics) [] wired (inputs-banked (shape_of code) blocks)
      (Elements-append (size code.field) (code.secrets * (code.order + 1)) code.publics shares publics shares_are publics_are) tape_is.below refl
      (inputs-right (shape_of code) publics shares shares_are.count) v there)

  -- so are the outputs
  pub claims-right : (claims : List Operand) → Outputs code (product_gadget (code.order + 1)) (refresh_gadget (code.order + 1)) blocks claims
      → ComputesClaims code (record { blocks = blocks; claims = claims })
  claims-right claims outputs publics shares tape publics_are shares_are tape_is =
      let n : ℕ = code.order + 1 in
      let bank : Operand → List ℕ = λ v. slice_index_or (built_banks (shape_of code) blocks) (value_number (shape_of code) v) [] in
      let entries : List ℕ = trace code publics shares tape in
      let all : AllByRecursion (IsSharedThere (shape_of code) blocks) claims = recursion_from_All (IsSharedThere (shape_of code) blocks) claims outputs.there in
      ap (λ (outs : List ℕ). decoded n (length claims) (observation outs entries)) outputs.outs
      ∙ decoded-banks n bank (IsSharedThere (shape_of code) blocks) claims entries
      (λ v there. bank-long (shape_of code) (product_gadget n) (refresh_gadget n) blocks v wired (built_in-given (shape_of code)) there) all
      ∙ map-each (λ v. shared_at (bank v) entries) (stands_for (shape_of code) blocks publics (decoded n code.secrets shares)) (IsSharedThere (shape_of code) blocks) claims
      (λ v there. values-right publics shares tape publics_are shares_are tape_is v (inl there)) all

-- the law holds
pub right_values-hold : (code : Listing) (cert : Claimed) → RightValues code cert
right_values-hold code cert images wired tiles = (
  values-right code cert.blocks images wired tiles,
  λ outputs. claims-right code cert.blocks images wired tiles cert.claims outputs,
)
