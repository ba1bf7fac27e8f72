-- What a list holds.
use Rattle.std.proofs.Common.{◌≡◌, ℕ, zero, suc, ◌+◌, List, [], ◌∷◌, ◌⊎◌, inl, inr, map, refl, ap, arith}
use Rattle.std.specs.List.{Contains}

-- an element of a list is the first, or one behind it
pub Contains-cases : {X : Type 0} (y : X) (ys : List X) (x : X) → Contains (y ∷ ys) x → (y ≡ x) ⊎ Contains ys x
Contains-cases y ys x (zero, below, is) = inl is
Contains-cases y ys x (suc k, below, is) = inr (k, omega (arith, below), is)

-- a function's value at an element is among its values
pub Contains-map : {X Y : Type 0} (f : X → Y) (xs : List X) (x : X) → Contains xs x → Contains (map f xs) (f x)
Contains-map f [] x held = absurd (omega (arith, held.1))
Contains-map f (y ∷ ys) x (zero, inside, here) = (0, omega arith, ap f here)
Contains-map f (y ∷ ys) x (suc k, inside, here) =
    let rest : Contains (map f ys) (f x) = Contains-map f ys x (k, omega (arith, inside), here) in
    (suc rest.0, omega (arith, rest.1), rest.2)

-- what is among a function's values is its value at an element
pub Contains-from_map : {X Y : Type 0} (f : X → Y) (xs : List X) (y : Y) → Contains (map f xs) y → (x : X) × Contains xs x × (f x ≡ y)
Contains-from_map f [] y held = absurd (omega (arith, held.1))
Contains-from_map f (x ∷ xs) y held = elim (Contains-cases (f x) (map f xs) y held) [
  | inl own ↦ (x, (0, omega arith, refl), own)
  | inr rest ↦
      let found = Contains-from_map f xs y rest in
      (found.0, (suc found.1.0, omega (arith, found.1.1), found.1.2), found.2)
]
