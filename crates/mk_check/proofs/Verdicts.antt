-- What follows from the causes of refusals.
use Rattle.std.proofs.Common.{◌≡◌, ℕ, ◌+◌, Result, Ok, Err, OnOk, ◌∙◌, subst, ap, IfErr}
use Rattle.mk_code.specs.Listing.{Listing, HasElementImages}
use Rattle.mk_code.specs.Private.{Private}
use Rattle.mk_ssa.specs.declared.Op.{Op}
use Rattle.mk_ssa.specs.declared.Operand.{Operand as Value}
use Rattle.mk_gadget.specs.Gadget.{Gadget}
use Rattle.mk_gadget.specs.Product.{product_gadget}
use Rattle.mk_gadget.specs.Refresh.{refresh_gadget}
use Rattle.mk_rules.specs.Shape.{shape_of}
use Rattle.mk_rules.specs.Claimed.{Claimed}
use Rattle.mk_rules.specs.Accepts.{IsAccepted, Outputs, Accepts}
use Rattle.mk_rules.specs.Reaches.{Undoubled, links}
use Rattle.mk_rules.specs.Tiles.{Tiles, laid, input_banks, first_position, banks_of}
use Rattle.mk_rules.specs.Wired.{Wired}
use Rattle.mk_rules.specs.Faults.{FirstDoubled}
use Rattle.mk_rules.proofs.Operators.{IsGiven}
use Rattle.mk_rules.proofs.Faults.{FirstUnwired-not, FirstUnwired-only, FirstMismatch-not, FirstMismatch-only, FirstWrongOutput-only}
use Rattle.mk_rules.proofs.Claims.{FirstWrongOutput-not}
use Rattle.mk_rules.proofs.Doubled.{FirstDoubled-not, FirstDoubled-block, FirstDoubled-value}
use Rattle.mk_rules.proofs.BuiltIn.{built_in-given, accepted_built_in-private}
use Rattle.mk_check.specs.Passing.{IsDoubling}
use Rattle.mk_check.specs.Verdict.{Refuses, IsRefused}
use Rattle.mk_check.specs.declared.refusal.CheckRefusal.{CheckRefusal}
use Rattle.mk_check.specs.declared.refusal.CheckRefusal.TheVariants.{Operand, Tile, Output, Doubled, Memory}

-- where none is doubled either, the rule accepts
pub undoubled-accepted : (code : Listing) (product refresh : Gadget) (cert : Claimed) → Wired (shape_of code) cert.blocks → Tiles code product refresh cert.blocks
    → Outputs code product refresh cert.blocks cert.claims
    → (r : Result (Unit {0}) CheckRefusal) → OnOk r (Undoubled (code.secrets + code.publics) (links (shape_of code) cert.blocks)) → OnOk r (Accepts code product refresh cert)
undoubled-accepted code product refresh cert wired tiles outputs (Ok done) none = record { wired = wired; tiles = tiles; outputs = outputs; undoubled = none }
undoubled-accepted code product refresh cert wired tiles outputs (Err e) none = tt

-- and where one is, it refuses for that
pub doubled-refused : (code : Listing) (product refresh : Gadget) (cert : Claimed) → Wired (shape_of code) cert.blocks → Tiles code product refresh cert.blocks
    → Outputs code product refresh cert.blocks cert.claims
    → (r : Result (Unit {0}) CheckRefusal) → IfErr r (λ e. IsDoubling (shape_of code) cert.blocks e) → IfErr r (λ e. Refuses code product refresh cert e)
doubled-refused code product refresh cert wired tiles outputs (Ok done) first = tt
doubled-refused code product refresh cert wired tiles outputs (Err (Doubled value k)) first = (wired, tiles, outputs, first)
doubled-refused code product refresh cert wired tiles outputs (Err (Operand k)) first = absurd first
doubled-refused code product refresh cert wired tiles outputs (Err (Tile k)) first = absurd first
doubled-refused code product refresh cert wired tiles outputs (Err (Output k)) first = absurd first
doubled-refused code product refresh cert wired tiles outputs (Err Memory) first = absurd first

-- and with the product and the refresh that emitters append the code is private
pub ok-private : (code : Listing) (cert : Claimed) → HasElementImages code → (r : Result (Unit {0}) CheckRefusal) → OnOk r (IsAccepted code cert) → OnOk r (Private code)
ok-private code cert images (Ok done) accepted = accepted_built_in-private code cert images accepted
ok-private code cert images (Err e) accepted = tt

module _ (code : Listing) (product refresh : Gadget) (cert : Claimed) (given : (op : Op) → IsGiven (shape_of code) product refresh op) where
  -- no tile is off where the tiles hold
  off-not : (k : ℕ) → Refuses code product refresh cert (Tile k) → Tiles code product refresh cert.blocks → ⊥
  off-not k refused tiles = FirstMismatch-not code.instrs (laid (shape_of code) product refresh (input_banks (shape_of code)) (first_position (shape_of code)) cert.blocks) k refused.1 tiles

  -- no output is wrong where they hold
  output-not : (k : ℕ) → Refuses code product refresh cert (Output k) → Outputs code product refresh cert.blocks cert.claims → ⊥
  output-not k refused outputs =
      FirstWrongOutput-not code product refresh cert.blocks cert.claims given refused.0 k refused.2 outputs

  -- what is accepted has no cause to be refused
  accepts-not_refuses : (e : CheckRefusal) → Accepts code product refresh cert → Refuses code product refresh cert e → ⊥
  accepts-not_refuses (Operand k) accepted refused = FirstUnwired-not (shape_of code) cert.blocks k refused accepted.wired
  accepts-not_refuses (Tile k) accepted refused = off-not k refused accepted.tiles
  accepts-not_refuses (Output k) accepted refused = output-not k refused accepted.outputs
  accepts-not_refuses (Doubled value k) accepted refused = FirstDoubled-not (shape_of code) cert.blocks value k refused.3 accepted.undoubled
  accepts-not_refuses Memory accepted refused = refused

  -- there is one cause
  refuses-once : (e f : CheckRefusal) → Refuses code product refresh cert e → Refuses code product refresh cert f → e ≡ f
  refuses-once (Operand j) (Operand k) first second = ap (λ (i : ℕ). Operand i) (FirstUnwired-only (shape_of code) cert.blocks j k first second)
  refuses-once (Operand j) (Tile k) first second = absurd (FirstUnwired-not (shape_of code) cert.blocks j first second.0)
  refuses-once (Operand j) (Output k) first second = absurd (FirstUnwired-not (shape_of code) cert.blocks j first second.0)
  refuses-once (Operand j) (Doubled v k) first second = absurd (FirstUnwired-not (shape_of code) cert.blocks j first second.0)
  refuses-once (Tile j) (Operand k) first second = absurd (FirstUnwired-not (shape_of code) cert.blocks k second first.0)
  refuses-once (Tile j) (Tile k) first second = ap (λ (i : ℕ). Tile i) (FirstMismatch-only code.instrs (laid (shape_of code) product refresh (input_banks (shape_of code)) (first_position (shape_of code)) cert.blocks) j k first.1 second.1)
  refuses-once (Tile j) (Output k) first second = absurd (off-not j first second.1)
  refuses-once (Tile j) (Doubled v k) first second = absurd (off-not j first second.1)
  refuses-once (Output j) (Operand k) first second = absurd (FirstUnwired-not (shape_of code) cert.blocks k second first.0)
  refuses-once (Output j) (Tile k) first second = absurd (off-not k second first.1)
  refuses-once (Output j) (Output k) first second =
      ap (λ (i : ℕ). Output i)
      (FirstWrongOutput-only code (banks_of (shape_of code) product refresh cert.blocks) cert.blocks cert.claims j k first.2 second.2)
  refuses-once (Output j) (Doubled v k) first second = absurd (output-not j first second.2)
  refuses-once (Doubled u j) (Operand k) first second = absurd (FirstUnwired-not (shape_of code) cert.blocks k second first.0)
  refuses-once (Doubled u j) (Tile k) first second = absurd (off-not k second first.1)
  refuses-once (Doubled u j) (Output k) first second = absurd (output-not k second first.2)
  refuses-once (Doubled u j) (Doubled v k) first second =
      let same : j ≡ k = FirstDoubled-block (shape_of code) cert.blocks u v j k first.3 second.3 in
      let value : u ≡ v = FirstDoubled-value (shape_of code) cert.blocks u v k (subst (FirstDoubled (shape_of code) cert.blocks u) same first.3) second.3 in
      ap (λ (w : Value). Doubled w j) value ∙ ap (λ (i : ℕ). Doubled v i) same
  refuses-once Memory f first second = absurd first
  refuses-once (Operand j) Memory first second = absurd second
  refuses-once (Tile j) Memory first second = absurd second
  refuses-once (Output j) Memory first second = absurd second
  refuses-once (Doubled u j) Memory first second = absurd second

-- with the product and the refresh that emitters append what is accepted isn't refused
pub accepted-not_refused : (code : Listing) (cert : Claimed) (e : CheckRefusal) → IsAccepted code cert → IsRefused code cert e → ⊥
accepted-not_refused code cert =
    accepts-not_refuses code (product_gadget (code.order + 1)) (refresh_gadget (code.order + 1)) cert (built_in-given (shape_of code))

-- and it is refused for one cause
pub refused-once : (code : Listing) (cert : Claimed) (e f : CheckRefusal) → IsRefused code cert e → IsRefused code cert f → e ≡ f
refused-once code cert = refuses-once code (product_gadget (code.order + 1)) (refresh_gadget (code.order + 1)) cert (built_in-given (shape_of code))
