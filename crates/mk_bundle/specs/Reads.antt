-- What a reader answered of the bytes that it took.
use Rattle.std.specs.Prelude.{◌≡◌, ℕ, ◌+◌, ◌-◌, ◌*◌, ◌≤◌, ◌<◌, List, [], ◌∷◌, ◌++◌, length, flat_map, Option, Some, None, IfSome, Result, Ok, Err}
use Rattle.mk_bundle.specs.declared.TheConstants.{MOST_HELD}
use Rattle.mk_code.specs.Listing.{Listing}
use Rattle.mk_rules.specs.Claimed.{Claimed}
use Rattle.mk_rules.specs.declared.cert.Bundle.{Bundle}
use Rattle.mk_lines.specs.Words.{line}
use Rattle.mk_lines.specs.Lines.{AreLines, NamesFirst}
use Rattle.mk_regs.specs.declared.refusal.RegRefusal.{RegRefusal}
use Rattle.mk_regs.specs.declared.refusal.RegRefusal.TheVariants as unnamed
use Rattle.mk_bundle.specs.Pairs.{IsBundleOf, IsBundleText, IsRefusedText}
use Rattle.mk_bundle.specs.declared.draft.Stage.TheVariants.{Ended}
use Rattle.mk_bundle.specs.declared.event.Event.{Event}
use Rattle.mk_bundle.specs.declared.event.Event.TheVariants as event
use Rattle.mk_bundle.specs.declared.refusal.StreamRefusal.{StreamRefusal}
use Rattle.mk_bundle.specs.declared.refusal.StreamRefusal.TheVariants as refusals
use Rattle.mk_bundle.specs.Events.{events_of, AreFirst}
use Rattle.mk_bundle.specs.Versions.{Partial, begin, partials_read, events_so_far, untold}
use Rattle.mk_bundle.specs.Noting.{Noted, noted, refusal_in}
use Rattle.mk_bundle.specs.Standing.{event_text, StandFor}
use Rattle.mk_bundle.specs.Taking.{Comes}

-- a reader: what it keeps of the lines that it read, the event that it answers next, how many lines it read, the
-- bytes that it holds behind them, how many bytes came, and how many may come
pub record Reader : Type 0 where
  pub noted : Noted
  pub waiting : Option Event
  pub lines : ℕ
  pub pending : List ℕ
  pub count : ℕ
  pub limit : ℕ

-- the last line was not read
abbrev pub IsGoing : Reader → Type 0
IsGoing reader = reader.noted.seen.stage ≡ Ended → ⊥

-- an event that may be there, as a list
abbrev pub listed : Option Event → List Event
listed (Some e) = e ∷ []
listed None = []

-- a number that falls with each event
abbrev pub to_come : Reader → ℕ
to_come reader = 2 * (reader.limit - reader.count) + length reader.pending + length (listed reader.waiting)

-- an event whose line is the same in both versions: a block, a claim or the line `code`
abbrev pub IsOfBoth : Event → Type 0
IsOfBoth (event.Block op) = Unit {0}
IsOfBoth (event.Claim value) = Unit {0}
IsOfBoth event.Code = Unit {0}
IsOfBoth (event.Head head) = ⊥
IsOfBoth (event.Instr instr) = ⊥
IsOfBoth (event.Out positions) = ⊥
IsOfBoth event.End = ⊥

-- a reader that took these bytes and answered these events: it read lines, which lead to a pair so far, it keeps what
-- that takes, and the events are those of the lines, but for the one that it answers next. Behind what can't be renamed
-- nothing is said of events
pub record Read (reader : Reader) (taken : List ℕ) (events : List Event) : Type 0 where
  pub lines : List (List ℕ)
  pub state : Partial
  pub clean : AreLines lines
  pub read : partials_read begin lines ≡ Some state
  pub parts : taken ≡ flat_map line lines ++ reader.pending
  pub number : reader.lines ≡ length lines
  pub noted : reader.noted ≡ noted state (untold state)
  pub told : IfSome (events_so_far state) (λ all. events ++ listed reader.waiting ≡ all)
  pub count : reader.count ≡ length taken
  pub within : reader.count ≤ reader.limit
  pub waits : IfSome reader.waiting (λ e. IsOfBoth e × (refusal_in reader.noted.form ≡ None))
  pub short : length (flat_map event_text (listed reader.waiting) ++ reader.pending) ≤ MOST_HELD

-- what holds of the bytes and the events so far: the events are the first ones of some pair, at most as many as bytes
-- may come, the bytes begin with the lines for which they stand in version 1 or in version 2, and behind these are at
-- most MOST_HELD
pub record Follows (limit : ℕ) (taken : List ℕ) (events : List Event) : Type 0 where
  pub first : AreFirst events
  pub few : length events ≤ limit
  pub front : List ℕ
  pub behind : List ℕ
  pub parts : taken ≡ front ++ behind
  pub stands : StandFor events front
  pub short : length behind ≤ MOST_HELD

-- the bytes are a text of the pair whose events these are, and the source was read to its end
pub record Completes (taken : List ℕ) (events : List Event) (before after : Option (List ℕ)) : Type 0 where
  pub code : Listing
  pub cert : Claimed
  pub gave : events ≡ events_of code cert
  pub text : IsBundleOf taken code cert
  pub end : IfSome before (λ rest. after ≡ Some [])

-- the last event comes only with the end of the source
abbrev pub EndsWith : Event → List ℕ → List Event → Option (List ℕ) → Option (List ℕ) → Type 0
EndsWith (event.Head head) taken events before after = Unit {0}
EndsWith (event.Block op) taken events before after = Unit {0}
EndsWith (event.Claim value) taken events before after = Unit {0}
EndsWith event.Code taken events before after = Unit {0}
EndsWith (event.Instr instr) taken events before after = Unit {0}
EndsWith (event.Out positions) taken events before after = Unit {0}
EndsWith event.End taken events before after = Completes taken events before after

-- an event was answered, some bytes having come
pub record Answers (e : Event) (new : Reader) (taken : List ℕ) (events : List Event) (before after : Option (List ℕ)) : Type 0 where
  pub came : List ℕ
  pub comes : Comes came before after
  pub read : Read new (taken ++ came) (events ++ e ∷ [])
  pub follows : Follows new.limit (taken ++ came) (events ++ e ∷ [])
  pub ends : EndsWith e (taken ++ came) (events ++ e ∷ []) before after

-- no bundle has the bytes as its text, and this is the first line behind which none goes on; the source was read to
-- its end
pub record Refuses (line limit : ℕ) (taken : List ℕ) (before after : Option (List ℕ)) : Type 0 where
  pub came : List ℕ
  pub comes : Comes came before after
  pub within : length (taken ++ came) ≤ limit
  pub end : IfSome before (λ rest. after ≡ Some [])
  pub only : IsBundleText (taken ++ came) → ⊥
  pub first : NamesFirst IsBundleText line (taken ++ came)

-- the bytes are the text of register code that can't be renamed, for this reason; the source was read to its end
pub record Misnames (refusal : RegRefusal) (limit : ℕ) (taken : List ℕ) (before after : Option (List ℕ)) : Type 0 where
  pub came : List ℕ
  pub comes : Comes came before after
  pub within : length (taken ++ came) ≤ limit
  pub end : IfSome before (λ rest. after ≡ Some [])
  pub text : IsRefusedText refusal (taken ++ came)

-- more bytes came than may come
pub record Overruns (limit : ℕ) (taken : List ℕ) (before after : Option (List ℕ)) : Type 0 where
  pub came : List ℕ
  pub comes : Comes came before after
  pub many : limit < length (taken ++ came)

-- the source failed before more bytes came than may come
pub record Faults (limit : ℕ) (taken : List ℕ) (before after : Option (List ℕ)) : Type 0 where
  pub came : List ℕ
  pub comes : Comes came before after
  pub few : length (taken ++ came) ≤ limit

-- why a reader that took these bytes answers a refusal
abbrev pub Denies : StreamRefusal → ℕ → List ℕ → Option (List ℕ) → Option (List ℕ) → Type 0
Denies refusals.Fault limit taken before after = Faults limit taken before after
Denies refusals.TooLong limit taken before after = Overruns limit taken before after
Denies (refusals.Form line) limit taken before after = Refuses line limit taken before after
Denies (refusals.Unset instr) limit taken before after = Misnames (unnamed.Unset instr) limit taken before after
Denies (refusals.Register instr) limit taken before after = Misnames (unnamed.Register instr) limit taken before after
Denies refusals.Memory limit taken before after = Unit {0}

-- a bundle was read a text of which these bytes are, and the source to its end
pub record Collected (bundle : Bundle) (limit : ℕ) (before after : Option (List ℕ)) : Type 0 where
  pub came : List ℕ
  pub comes : Comes came before after
  pub within : length came ≤ limit
  pub text : IsBundleOf came bundle.code bundle.cert
  pub end : IfSome before (λ rest. after ≡ Some [])

-- what the whole text of a source gives
abbrev pub Collects : Result Bundle StreamRefusal → ℕ → Option (List ℕ) → Option (List ℕ) → Type 0
Collects (Ok bundle) limit before after = Collected bundle limit before after
Collects (Err refusal) limit before after = Denies refusal limit [] before after

-- what a reader that took these bytes and answered these events answers next
abbrev pub Next : Result Event StreamRefusal → Reader → List ℕ → List Event → Option (List ℕ) → Option (List ℕ) → Type 0
Next (Ok e) new taken events before after = Answers e new taken events before after
Next (Err refusal) new taken events before after = Denies refusal new.limit taken before after
