-- What the rule says of three small certificates.
use Rattle.std.proofs.Common.{◌≡◌, ℕ, zero, suc, List, [], ◌∷◌, Some, None, refl, arith}
use Rattle.std.proofs.lemmas.List.Elements.{All-from_recursion}
use Rattle.std.proofs.lemmas.Option.{same_Some}
use Rattle.mk_code.specs.Examples.{byte_sum, leaking_square}
use Rattle.mk_ssa.specs.Kinds.{Linear, Strong}
use Rattle.mk_gadget.specs.Gadget.{Gadget}
use Rattle.mk_rules.specs.Shape.{shape_of}
use Rattle.mk_rules.specs.Tiles.{laid, laid_banks}
use Rattle.mk_rules.specs.Wired.{IsSharedThere}
use Rattle.mk_rules.specs.Reaches.{links, IsPath, Reaches, Undoubled}
use Rattle.mk_rules.specs.Accepts.{Accepts}
use Rattle.mk_rules.specs.Examples.{sum_cert, plain_square, fresh_square}

-- a sum is not strong, so it doubles nothing
byte_sum-undoubled : Undoubled 2 (links (shape_of byte_sum) sum_cert.blocks)
byte_sum-undoubled v zero first second = let no : Linear ≡ Strong = first.strong.0 in absurd (cc)
byte_sum-undoubled v (suc s) first second = absurd first.strong

-- the rule accepts the sum of two bytes, whatever the gadgets are
pub byte_sum-accepted : (product refresh : Gadget) → Accepts byte_sum product refresh sum_cert
unfolding laid laid_banks
byte_sum-accepted product refresh = record {
  wired = ((omega arith, omega arith), tt);
  tiles = refl;
  outputs = record { there = All-from_recursion (IsSharedThere (shape_of byte_sum) sum_cert.blocks) sum_cert.claims (refl, tt); outs = refl };
  undoubled = byte_sum-undoubled;
}

-- the secret reaches both places of its product with itself
pub plain_square-first : Reaches 1 (links (shape_of leaking_square) plain_square) 0 0 0
unfolding IsPath
plain_square-first = record { path = []; operand = 0; leads = refl; strong = (refl, refl) }

-- so it does at the second place
pub plain_square-second : Reaches 1 (links (shape_of leaking_square) plain_square) 0 0 1
unfolding IsPath
plain_square-second = record { path = []; operand = 0; leads = refl; strong = (refl, refl) }

-- so it is doubled
pub plain_square-doubled : Undoubled 1 (links (shape_of leaking_square) plain_square) → ⊥
plain_square-doubled undoubled = undoubled 0 0 plain_square-first plain_square-second

-- behind a refresh and a product no path goes on
fresh_square-path : (v : ℕ) (path : List ℕ) (w : ℕ) → IsPath 1 (links (shape_of leaking_square) fresh_square) v path w → v ≡ w
unfolding IsPath
fresh_square-path v [] w leads = leads
fresh_square-path v (zero ∷ path) w leads = let e : Strong ≡ Linear = leads.0.0 in absurd (cc)
fresh_square-path v (suc zero ∷ path) w leads = let e : Strong ≡ Linear = leads.0.0 in absurd (cc)
fresh_square-path v (suc (suc b) ∷ path) w leads = absurd leads.0

-- with one of the two shared afresh it isn't
pub fresh_square-undoubled : Undoubled 1 (links (shape_of leaking_square) fresh_square)
fresh_square-undoubled v zero first second = let no : None ≡ Some second.operand = second.strong.1 in absurd (cc)
fresh_square-undoubled v (suc zero) first second =
    let one : 1 ≡ first.operand = same_Some 1 first.operand first.strong.1 in
    let none : 0 ≡ second.operand = same_Some 0 second.operand second.strong.1 in
    let from_one : v ≡ first.operand = fresh_square-path v first.path first.operand first.leads in
    let from_none : v ≡ second.operand = fresh_square-path v second.path second.operand second.leads in
    absurd (omega (arith, one, none, from_one, from_none))
fresh_square-undoubled v (suc (suc s)) first second = absurd first.strong
