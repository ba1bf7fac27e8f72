-- What is seen of an input, or of an output, around a run.
use Rattle.std.specs.Prelude.{ℕ, List, Option}

-- The bytes of an outside before and after, where it tells them, and its count of faults before and after. The
-- bytes of an input are those still to come, and those of an output the ones that it took.
pub record Seen : Type 0 where
  pub before : Option (List ℕ)
  pub after : Option (List ℕ)
  pub faults : ℕ
  pub faults_after : ℕ

-- an outside as it was and as it is, by what tells its bytes and what tells its faults
abbrev pub seen : {X : Type 0} → (X → Option (List ℕ)) → (X → ℕ) → X → X → Seen
seen bytes faults old new = record { before = bytes old; after = bytes new; faults = faults old; faults_after = faults new }
