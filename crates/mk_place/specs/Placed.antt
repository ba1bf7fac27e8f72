-- Which uses get a refresh: those that need one, given the later uses that got none. It is this project's own rule.
use Rattle.std.specs.Prelude.{◌≡◌, ◌≢◌, ◌↔◌, ◌⊎◌, ℕ, ◌+◌, true, false, List, ◌∷◌, ◌++◌}
use Rattle.std.specs.List.{Contains}
use Rattle.mk_ssa.specs.Kinds.{Linear, Strong}
use Rattle.mk_ssa.specs.Values.{Values}
use Rattle.mk_rules.specs.Claimed.{Claimed}
use Rattle.mk_rules.specs.Reaches.{Link, Reaches, links}
use Rattle.mk_rules.specs.Uses.{Use}
use Rattle.mk_place.specs.Uses.{shape_of_values, uses}
use Rattle.mk_place.specs.Layout.{Marks, own_block, laid_out}

-- a use brings place k of the product m: it is that operand, or it is by a linear value whose block reaches
-- that place, among blocks with these links
abbrev pub Brings : ℕ → List Link → Marks → Use → ℕ → ℕ → Type 0
Brings inputs links marks u m k =
    ((u.kind ≡ Strong) × (m ≡ u.value) × (k ≡ u.place))
    ⊎ ((u.kind ≡ Linear) × Reaches inputs links (inputs + own_block marks u.value) (own_block marks m) k)

-- a use needs a refresh, given those behind it: it brings a place of a product of which a later use of the
-- same value, that goes through no refresh, brings another place
pub record NeedsRefresh (inputs : ℕ) (links : List Link) (marks : Marks) (u : Use) (behind : List Use) : Type 0 where
  pub later : Use
  pub comes : Contains behind later
  pub same : later.operand ≡ u.operand
  pub kept : marks later.value later.place ≡ false
  pub product : ℕ
  pub place : ℕ
  pub other : ℕ
  pub brings : Brings inputs links marks u product place
  pub brought : Brings inputs links marks later product other
  pub differ : place ≢ other

-- the certificate is that of the values with refreshes for some uses, which are exactly those that need one
pub record Placed (s : Values) (cert : Claimed) : Type 0 where
  pub marks : Marks
  pub laid : cert ≡ laid_out marks s
  pub used : (i k : ℕ) → marks i k ≡ true → (u : Use) × Contains (uses s) u × (u.value ≡ i) × (u.place ≡ k)
  pub needed : (front behind : List Use) (u : Use) → uses s ≡ front ++ u ∷ behind
      → (marks u.value u.place ≡ true)
      ↔ NeedsRefresh (s.secrets + s.publics) (links (shape_of_values s) cert.blocks) marks u behind
