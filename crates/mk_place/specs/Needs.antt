-- Needs: for each value the places of products that it reaches, from the last use to the first. They serve the
-- pass alone, and what the calls of the crate promise needs none of them.
use Rattle.std.specs.Prelude.{ℕ, ◌+◌, Bool, false, ◌&&◌, not, nat_eq, List, [], ◌∷◌, ◌++◌, if◌then◌else◌}
use Rattle.std.specs.List.{list_any}
use Rattle.mk_ssa.specs.Kinds.{Kind, Public, Linear, Strong}
use Rattle.mk_rules.specs.declared.uses.OperandPlace.{OperandPlace}
use Rattle.mk_rules.specs.Uses.{Use}

-- the same place
abbrev pub is_same : OperandPlace → OperandPlace → Bool
is_same p q = nat_eq q.value p.value && nat_eq q.operand p.operand

-- another place of the same product
abbrev pub is_other : OperandPlace → OperandPlace → Bool
is_other p q = nat_eq q.value p.value && not (nat_eq q.operand p.operand)

-- whether there are two places of one product, one here and one there
abbrev pub clash : List OperandPlace → List OperandPlace → Bool
clash need brought = list_any (λ p. list_any (is_other p) need) brought

-- the places with this one, at the end if it isn't there yet
abbrev pub with_place : List OperandPlace → OperandPlace → List OperandPlace
with_place need p = if list_any (is_same p) need then need else need ++ p ∷ []

-- all places of both
unfoldable pub joined : List OperandPlace → List OperandPlace → List OperandPlace
joined need [] = need
joined need (p ∷ ps) = joined (with_place need p) ps

-- the need with what a use brings, unless they clash
abbrev pub added : List OperandPlace → List OperandPlace → List OperandPlace
added need brought = if clash need brought then need else joined need brought

-- what a use by a value of this kind brings: a strong one its own place, another one the value's need
abbrev pub brought_by : Kind → List OperandPlace → List OperandPlace → List OperandPlace
brought_by Public here own = own
brought_by Linear here own = own
brought_by Strong here own = here

-- what a use brings, before which the needs are these
abbrev pub brought : ℕ → (ℕ → List OperandPlace) → Use → List OperandPlace
brought inputs needs u = brought_by u.kind (record { value = u.value; operand = u.place } ∷ []) (needs (inputs + u.value))

-- the needs with one use more
abbrev pub with_use : ℕ → (ℕ → List OperandPlace) → Use → ℕ → List OperandPlace
with_use inputs needs u v = if nat_eq v u.operand then added (needs u.operand) (brought inputs needs u) else needs v

-- the needs by these uses, with the last one first
unfoldable pub needs_by : ℕ → List Use → ℕ → List OperandPlace
needs_by inputs [] = λ v. []
needs_by inputs (u ∷ us) = with_use inputs (needs_by inputs us) u

-- whether a use before these needs a refresh
abbrev pub mark_by : ℕ → List Use → Use → Bool
mark_by inputs us u = clash (needs_by inputs us u.operand) (brought inputs (needs_by inputs us) u)

-- which of the uses need a refresh, by value and place
unfoldable pub marks_by : ℕ → List Use → ℕ → ℕ → Bool
marks_by inputs [] = λ i k. false
marks_by inputs (u ∷ us) =
    λ i k. if nat_eq i u.value && nat_eq k u.place then mark_by inputs us u else marks_by inputs us i k
