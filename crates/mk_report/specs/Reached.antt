-- The places of products that a value reaches, in order.
use Rattle.std.specs.Prelude.{◌≡◌, ◌↔◌, ℕ, ◌+◌, Bool, true, ◌&&◌, ◌||◌, nat_lt, nat_eq, List, [], ◌∷◌, Contains, IsSomeAnd, slice_get}
use Rattle.mk_ssa.specs.declared.Op.{Op}
use Rattle.mk_ssa.specs.Operators.{Operator, operator}
use Rattle.mk_rules.specs.Shape.{Shape}
use Rattle.mk_rules.specs.Reaches.{Reaches, links}
use Rattle.mk_report.specs.declared.need.ProductPlace.{ProductPlace}

-- the block with this number is a product
abbrev pub IsProduct : List Op → ℕ → Type 0
IsProduct blocks b = IsSomeAnd (slice_get blocks b) (λ op. operator op ≡ Operator.Mul)

-- the value with this number reaches this place, which is one of a product
abbrev pub ReachesPlace : Shape → List Op → ℕ → ProductPlace → Type 0
ReachesPlace shape blocks v p =
    IsProduct blocks p.block × Reaches (shape.secrets + shape.publics) (links shape blocks) v p.block p.operand

-- whether a place comes before another one: by block, and then by operand
abbrev pub is_before : ProductPlace → ProductPlace → Bool
is_before p q = nat_lt p.block q.block || (nat_eq p.block q.block && nat_lt p.operand q.operand)

-- each of the places comes before those behind it
unfoldable pub AreAscending : List ProductPlace → Type 0
AreAscending [] = Unit {0}
AreAscending (p ∷ ps) = ((q : ProductPlace) → Contains ps q → is_before p q ≡ true) × AreAscending ps

-- these are the places of products that the value reaches, in order
pub record ArePlacesOf (shape : Shape) (blocks : List Op) (v : ℕ) (places : List ProductPlace) : Type 0 where
  pub reached : (p : ProductPlace) → Contains places p ↔ ReachesPlace shape blocks v p
  pub ascending : AreAscending places
