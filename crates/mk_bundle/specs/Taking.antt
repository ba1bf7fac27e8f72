-- What a reader holds of a source: bytes that came and were not read yet.
use Rattle.std.specs.Prelude.{◌≡◌, ℕ, ◌+◌, ◌≤◌, ◌<◌, true, List, [], ◌∷◌, ◌++◌, length, Option, Some, None, IfSome, Result, Ok, Err}
use Rattle.std.specs.Borrow.{Bor}
use Rattle.mk_bundle.specs.declared.TheConstants.{MOST_HELD}
use Rattle.mk_code.specs.declared.instr.Instr.{Instr}
use Rattle.mk_lines.specs.Words.{is_line}
use Rattle.mk_lines.specs.Parsing.{instr_of, into_of}
use Rattle.mk_bundle.specs.declared.refusal.StreamRefusal.{StreamRefusal}
use Rattle.mk_bundle.specs.declared.refusal.StreamRefusal.TheVariants as refusals

-- the bytes that are held, how many came in all, and how many may come
pub record Held : Type 0 where
  pub pending : List ℕ
  pub count : ℕ
  pub limit : ℕ

-- these bytes were the next of those that were left, where the source tells them
abbrev pub Comes : List ℕ → Option (List ℕ) → Option (List ℕ) → Type 0
Comes came before after = IfSome before (λ rest. (behind : List ℕ) × (rest ≡ came ++ behind) × (after ≡ Some behind))

-- so many bytes came, and are held behind the others; where none came, none was left
pub record Fed (n : ℕ) (old new : Held) (before after : Option (List ℕ)) : Type 0 where
  pub came : List ℕ
  pub comes : Comes came before after
  pub number : length came ≡ n
  pub held : new ≡ record { pending = old.pending ++ came; count = old.count + n; limit = old.limit }
  pub within : old.count + n ≤ old.limit
  pub short : length new.pending ≤ MOST_HELD
  pub end : n ≡ 0 → IfSome before (λ rest. rest ≡ [])

-- more bytes came than may come
pub record Exceeds (old : Held) (before after : Option (List ℕ)) : Type 0 where
  pub came : List ℕ
  pub comes : Comes came before after
  pub many : old.limit < old.count + length came

-- no more bytes came than may come, before the source failed
pub record Fails (old : Held) (before after : Option (List ℕ)) : Type 0 where
  pub came : List ℕ
  pub comes : Comes came before after
  pub few : old.count + length came ≤ old.limit

-- what a piece more gives
abbrev pub Feeds : Result ℕ StreamRefusal → Held → Held → Option (List ℕ) → Option (List ℕ) → Type 0
Feeds (Ok n) old new before after = Fed n old new before after
Feeds (Err refusals.Fault) old new before after = Fails old before after
Feeds (Err refusals.TooLong) old new before after = Exceeds old before after
Feeds (Err (refusals.Form line)) old new before after = ⊥
Feeds (Err (refusals.Unset instr)) old new before after = ⊥
Feeds (Err (refusals.Register instr)) old new before after = ⊥
Feeds (Err refusals.Memory) old new before after = Unit {0}

-- all bytes that were left came
pub record Ends (old : Held) (before after : Option (List ℕ)) : Type 0 where
  pub came : List ℕ
  pub comes : Comes came before after
  pub few : old.count + length came ≤ old.limit
  pub end : IfSome before (λ rest. after ≡ Some [])

-- what reading to the end gives
abbrev pub Drains : Result (Unit {0}) StreamRefusal → Held → Option (List ℕ) → Option (List ℕ) → Type 0
Drains (Ok done) old before after = Ends old before after
Drains (Err refusals.Fault) old before after = Fails old before after
Drains (Err refusals.TooLong) old before after = Exceeds old before after
Drains (Err (refusals.Form line)) old before after = ⊥
Drains (Err (refusals.Unset instr)) old before after = ⊥
Drains (Err (refusals.Register instr)) old before after = ⊥
Drains (Err refusals.Memory) old before after = Unit {0}

-- the first line that is held, or none where no line feed is
abbrev pub Fronts : Option (Bor (List ℕ)) → List ℕ → Type 0
Fronts (Some l) pending = (is_line l.now ≡ true) × ((behind : List ℕ) × (pending ≡ l.now ++ 10 ∷ behind))
Fronts None pending = is_line pending ≡ true

-- the first line that is held is that of this instruction, and has n bytes before its line feed
pub record IsInstrLine (i : Instr) (n : ℕ) (pending : List ℕ) : Type 0 where
  pub line : List ℕ
  pub clean : is_line line ≡ true
  pub reads : instr_of line ≡ Some i
  pub len : length line ≡ n
  pub some : 1 ≤ n
  pub behind : List ℕ
  pub here : pending ≡ line ++ 10 ∷ behind

-- the same of an instruction over registers, which stands behind the register that it writes
pub record IsIntoLine (x : ℕ × Instr) (n : ℕ) (pending : List ℕ) : Type 0 where
  pub line : List ℕ
  pub clean : is_line line ≡ true
  pub reads : into_of line ≡ Some x
  pub len : length line ≡ n
  pub some : 1 ≤ n
  pub behind : List ℕ
  pub here : pending ≡ line ++ 10 ∷ behind
