-- How a reader steps from line to line: for the contracts inside the crate.
use Rattle.std.specs.Prelude.{◌≡◌, ℕ, ◌+◌, ◌≤◌, ◌<◌, Bool, true, false, List, [], ◌∷◌, ◌++◌, length, Option, Some, None, IfSome, Result, Ok, Err}
use Rattle.mk_lines.specs.declared.words.TheConstants.{MOST_LINE}
use Rattle.mk_bundle.specs.declared.TheConstants.{MOST_HELD}
use Rattle.mk_lines.specs.Words.{is_line}
use Rattle.mk_lines.specs.Lines.{NamesFirst}
use Rattle.mk_bundle.specs.Pairs.{IsBundleText}
use Rattle.mk_bundle.specs.declared.draft.Stage.TheVariants.{Ended}
use Rattle.mk_bundle.specs.declared.event.Head.{Head}
use Rattle.mk_bundle.specs.declared.event.Event.{Event}
use Rattle.mk_bundle.specs.declared.event.Event.TheVariants as event
use Rattle.mk_bundle.specs.declared.refusal.StreamRefusal.{StreamRefusal}
use Rattle.mk_bundle.specs.declared.refusal.StreamRefusal.TheVariants as refusals
use Rattle.mk_regs.specs.declared.refusal.RegRefusal.{RegRefusal}
use Rattle.mk_regs.specs.declared.refusal.RegRefusal.TheVariants as unnamed
use Rattle.mk_bundle.specs.declared.step.Step.{Step}
use Rattle.mk_bundle.specs.declared.step.Step.TheVariants as steps
use Rattle.mk_bundle.specs.Counting.{Seen}
use Rattle.mk_bundle.specs.Noting.{refusal_in}
use Rattle.mk_bundle.specs.Taking.{Comes}
use Rattle.mk_bundle.specs.Reads.{Reader, IsGoing, to_come, Read, Denies, Completes}

-- register code that can't be renamed, as a refusal of its text
abbrev pub stream_of : RegRefusal → StreamRefusal
stream_of (unnamed.Unset instr) = refusals.Unset instr
stream_of (unnamed.Register instr) = refusals.Register instr
stream_of unnamed.Memory = refusals.Memory

-- what comes at the end of a text: the last event, or that refusal
abbrev pub end_of : Option RegRefusal → Result Event StreamRefusal
end_of (Some refusal) = Err (stream_of refusal)
end_of None = Ok event.End

-- whatever comes behind these bytes, no bundle text goes on behind so many lines of them
abbrev pub GoesWrong : ℕ → List ℕ → Type 0
GoesWrong lines taken = (came : List ℕ) → (IsBundleText (taken ++ came) → ⊥) × NamesFirst IsBundleText (lines + 1) (taken ++ came)

-- an event was answered, and it is not the last one; nothing was refused
pub record Tells (e : Event) (old new : Reader) : Type 0 where
  pub going : IsGoing new
  pub renames : (taken : List ℕ) (events : List Event) → Read old taken events → refusal_in new.noted.form ≡ None
  pub other : e ≡ event.End → ⊥
  pub limit : new.limit ≡ old.limit
  pub fewer : to_come new < to_come old
  pub read : (taken : List ℕ) (events : List Event) → Read old taken events → Read new taken (events ++ e ∷ [])

-- a line was read that has no event of its own
pub record Passed (old new : Reader) : Type 0 where
  pub going : IsGoing new
  pub limit : new.limit ≡ old.limit
  pub waiting : new.waiting ≡ None
  pub fewer : to_come new < to_come old
  pub read : (taken : List ℕ) (events : List Event) → Read old taken events → Read new taken events

-- the last line was read
pub record Reached (old new : Reader) : Type 0 where
  pub limit : new.limit ≡ old.limit
  pub waiting : new.waiting ≡ None
  pub fewer : to_come new < to_come old
  pub ended : new.noted.seen.stage ≡ Ended
  pub read : (taken : List ℕ) (events : List Event) → Read old taken events → Read new taken (events ++ event.End ∷ [])

-- no whole line is held, and one may be still
pub record Starves (old new : Reader) : Type 0 where
  pub same : new ≡ old
  pub clean : is_line old.pending ≡ true
  pub short : length old.pending < MOST_LINE

-- no bundle text goes on
pub record Sticks (old new : Reader) : Type 0 where
  pub limit : new.limit ≡ old.limit
  pub lines : new.lines ≡ old.lines
  pub count : new.count ≡ old.count
  pub wrong : (taken : List ℕ) (events : List Event) → Read old taken events → GoesWrong old.lines taken

-- the head that is kept
abbrev pub kept_head : Seen → Head
kept_head seen = record { field = seen.field; order = seen.order; secrets = seen.secrets; publics = seen.publics; maps = seen.untold }

-- the event that is answered first where this one came: this one, or the head, and this one waits
abbrev pub Hands : Bool → Event → Event → Reader → Reader → Type 0
Hands true e first old new = (first ≡ e) × (new ≡ old)
Hands false e first old new = (first ≡ event.Head (kept_head old.noted.seen)) × (new ≡ record old { waiting = Some e; noted = record old.noted { seen = record old.noted.seen { untold = [] } } })

-- what a step does, where no event waits
abbrev pub Stepped : Step → Reader → Reader → Type 0
Stepped (steps.Told e) old new = Tells e old new
Stepped steps.Quiet old new = Passed old new
Stepped steps.Over old new = Reached old new
Stepped steps.Starved old new = Starves old new
Stepped steps.Wrong old new = Sticks old new
Stepped steps.Memory old new = new.limit ≡ old.limit

-- a reader whose bytes are no text's refuses them
abbrev pub Refused : Result Event StreamRefusal → Reader → Option (List ℕ) → Option (List ℕ) → Type 0
Refused (Ok e) old before after = ⊥
Refused (Err refusal) old before after = (taken : List ℕ) → GoesWrong old.lines taken → old.count ≡ length taken → Denies refusal old.limit taken before after

-- so many bytes came, and are held behind the others; where none came, none was left
pub record Grown (n : ℕ) (old new : Reader) (before after : Option (List ℕ)) : Type 0 where
  pub came : List ℕ
  pub comes : Comes came before after
  pub number : length came ≡ n
  pub held : new ≡ record old { pending = old.pending ++ came; count = old.count + n }
  pub within : old.count + n ≤ old.limit
  pub short : length new.pending ≤ MOST_HELD
  pub end : n ≡ 0 → IfSome before (λ rest. rest ≡ [])

-- what a piece more gives a reader
abbrev pub Grows : Result ℕ StreamRefusal → Reader → Reader → Option (List ℕ) → Option (List ℕ) → Type 0
Grows (Ok n) old new before after = Grown n old new before after
Grows (Err refusal) old new before after = (taken : List ℕ) → old.count ≡ length taken → Denies refusal old.limit taken before after

-- a reader that read the last line ends; with the last event where nothing was refused
abbrev pub Ending : Result Event StreamRefusal → Reader → List ℕ → List Event → Option (List ℕ) → Option (List ℕ) → Type 0
Ending (Ok e) new taken events before after =
    (e ≡ event.End) × Comes [] before after × Read new taken events × (refusal_in new.noted.form ≡ None) × Completes taken events before after
Ending (Err refusal) new taken events before after = Denies refusal new.limit taken before after

-- the same of any bytes and events
abbrev pub Finishes : Result Event StreamRefusal → Reader → Reader → Option (List ℕ) → Option (List ℕ) → Type 0
Finishes result old new before after = (taken : List ℕ) (events : List Event) → Read old taken events → Ending result new taken events before after
