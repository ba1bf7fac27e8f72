-- Sources and sinks over memory: what is left or taken, and when a call fails.
use Rattle.std.specs.Prelude.{ℕ, List}
use Rattle.mk_base.specs.Outside.{one_more}

-- a source over memory: the bytes left, how many one read gives at most, the numbers of the calls that
-- fail, how many calls there were and how many faults
pub record Fed : Type 0 where
  pub rest : List ℕ
  pub most : ℕ
  pub fail : List ℕ
  pub calls : ℕ
  pub faults : ℕ

-- a sink over memory: the bytes taken, how many there is room for in all, how many one write takes at
-- most, the numbers of the calls that fail, how many calls there were and how many faults
pub record Filled : Type 0 where
  pub bytes : List ℕ
  pub room : ℕ
  pub most : ℕ
  pub fail : List ℕ
  pub calls : ℕ
  pub faults : ℕ

-- the number of the next call, the first being 1; it stays at the last number of 64 bits
abbrev pub next_call : ℕ → ℕ
next_call calls = one_more calls
