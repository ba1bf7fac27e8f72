-- The uses of values: what each is, that there are no others, and in which order they stand.
use Rattle.std.proofs.Common.{ℕ, suc, ◌+◌, ◌<◌, ◌≤◌, List, [], ◌∷◌, ◌++◌, sym, ap, arith, inl, inr}
use Rattle.std.specs.List.{Contains}
use Rattle.std.proofs.lemmas.List.Elements.{Contains-append_right, Contains-append_cases}
use Rattle.mk_base.proofs.Lists.{Contains-cases}
use Rattle.mk_ssa.specs.Kinds.{Kind, kind}
use Rattle.mk_ssa.specs.Values.{Values, IsValues}
use Rattle.mk_rules.specs.Reaches.{Link, links}
use Rattle.mk_rules.proofs.Probes.{Contains-front, Contains-none}
use Rattle.mk_rules.specs.Uses.{Use, uses_by, uses_from}
use Rattle.mk_rules.proofs.Using.{IsBy, IsUse, by-from, from-is, use-is}
use Rattle.mk_place.specs.Uses.{shape_of_values, uses}
use Rattle.mk_place.specs.Marking.{inputs}
use Rattle.mk_place.proofs.Flow.{Ranked}
use Rattle.mk_place.proofs.Wiring.{operands-before}

module _ (inputs : ℕ) where
  -- the uses by one value stand one before the other
  ranked-by : (value : ℕ) (kind : Kind) (place : ℕ) (vs : List ℕ) (us : List Use) → ((x : Use) → Contains us x → value < x.value) → Ranked inputs us
      → Ranked inputs (uses_by value kind place vs ++ us)
  unfolding uses_by Ranked
  ranked-by value kind place [] us later ranked = ranked
  ranked-by value kind place (v ∷ vs) us later ranked = (
    λ x held. elim (Contains-append_cases (uses_by value kind (suc place) vs) us x held) [
      | inl own ↦
          let found : IsBy value kind (suc place) vs x = by-from value kind (suc place) vs x own in
          inr (sym found.own, omega (arith, found.at))
      | inr rest ↦ inl (later x rest)
    ],
    ranked-by value kind (suc place) vs us later ranked,
  )

  -- the uses by values too
  ranked-from : (from : ℕ) (ls : List Link) → Ranked inputs (uses_from from ls)
  unfolding uses_from Ranked
  ranked-from from [] = tt
  ranked-from from (l ∷ ls) =
      ranked-by from l.kind 0 l.shared (uses_from (suc from) ls)
      (λ x held. omega (arith, (from-is (suc from) ls x held).own)) (ranked-from (suc from) ls)

  -- the uses before one are by earlier values or by its own
  pub ranked-front : (front : List Use) (u : Use) (us : List Use) (x : Use) → Ranked inputs (front ++ u ∷ us) → Contains front x → x.value ≤ u.value
  unfolding Ranked
  ranked-front [] u us x ranked held = absurd (Contains-none x held)
  ranked-front (y ∷ front) u us x ranked held = elim (Contains-cases y front x held) [
    | inl own ↦ elim (ranked.0 u (Contains-append_right front (u ∷ us) u (Contains-front u us))) [
      | inl lower ↦ omega (arith, lower, ap (λ (z : Use). z.value) own)
      | inr level ↦ omega (arith, level.0, ap (λ (z : Use). z.value) own)
    ]
    | inr rest ↦ ranked-front front u us x ranked.1 rest
  ]

-- the uses stand in order
pub uses-ranked : (s : Values) → Ranked (inputs s) (uses s)
uses-ranked s = ranked-from (inputs s) 0 (links (shape_of_values s) s.values)

-- an operand comes before its value
pub use-before : (s : Values) → IsValues s → (u : Use) → Contains (uses s) u → u.operand < inputs s + u.value
use-before s is u held =
    let found : IsUse (shape_of_values s) s.values u = use-is (shape_of_values s) s.values u held in
    (operands-before s is u.value found.op found.there).below u.place u.operand found.operand
