-- A bundle that is being read, for the functions that check it meanwhile.
use Rattle.std.specs.Prelude.{◌≡◌, ℕ, ◌≤◌, List, [], ◌∷◌, ◌++◌, Option, IfSome, length}
use Rattle.std.specs.List.{AllByRecursion}
use Rattle.mk_base.specs.Streams.{ReadsAll}
use Rattle.mk_code.specs.Listing.{Listing}
use Rattle.mk_rules.specs.Claimed.{Claimed}
use Rattle.mk_bundle.specs.declared.TheConstants.{MOST_BYTES}
use Rattle.mk_bundle.specs.declared.event.Head.{Head}
use Rattle.mk_bundle.specs.declared.event.Event.{Event}
use Rattle.mk_bundle.specs.declared.event.Event.TheVariants as event
use Rattle.mk_bundle.specs.Pairs.{IsBundleOf}
use Rattle.mk_bundle.specs.Events.{events_of, AreFirst}
use Rattle.mk_bundle.specs.Taking.{Comes}
use Rattle.mk_bundle.specs.Reads.{Reader, Read}
use Rattle.mk_bundle.specs.Gathering.{Gathered, nothing, gather_all, cert_of}
use Rattle.mk_check.specs.Given.{Checking, Given}
use Rattle.mk_top.specs.Seen.{Seen}

-- a reader took the bytes that came of an input, which had these before and has those now, and answered these events
pub record Reading (before now : Option (List ℕ)) (reader : Reader) (events : List Event) : Type 0 where
  pub taken : List ℕ
  pub comes : Comes taken before now
  pub read : Read reader taken events
  pub limit : reader.limit ≡ MOST_BYTES

-- the input was read to its end, and gave a text of the pair of these events and the last one
pub record GivesBundle (before after : Option (List ℕ)) (events : List Event) : Type 0 where
  pub bytes : List ℕ
  pub code : Listing
  pub cert : Claimed
  pub text : IsBundleOf bytes code cert
  pub gave : events ++ event.End ∷ [] ≡ events_of code cert
  pub within : length bytes ≤ MOST_BYTES
  pub whole : IfSome before (λ rest. ReadsAll rest bytes after)

-- an input was seen around a whole reading that a part ended: this part found `faults` counted, at least as many as were at the
-- beginning, and left these bytes and so many faults, which are those that are seen in the end
pub record IsInput (input : Seen) (faults : ℕ) (left : Option (List ℕ)) (counted : ℕ) : Type 0 where
  pub fewer : input.faults ≤ faults
  pub after : input.after ≡ left
  pub counts : input.faults_after ≡ counted

-- an event of a block or a claim
abbrev pub IsUpper : Event → Type 0
IsUpper (event.Block op) = Unit {0}
IsUpper (event.Claim value) = Unit {0}
IsUpper e = ⊥

-- the events are this head, blocks and claims, and the line `code`, and what they give is this certificate
pub record GivesCertificate (before now : Option (List ℕ)) (reader : Reader) (head : Head) (cert : Claimed) : Type 0 where
  pub upper : List Event
  pub uppers : AllByRecursion IsUpper upper
  pub reading : Reading before now reader (event.Head head ∷ (upper ++ event.Code ∷ []))
  pub first : AreFirst (event.Head head ∷ (upper ++ event.Code ∷ []))
  pub gives : gather_all nothing (event.Head head ∷ (upper ++ event.Code ∷ [])) ≡ record { head = head; blocks = cert.blocks; claims = cert.claims; instrs = []; outs = [] }

-- a checker is over this head
pub record IsHeadOf (head : Head) (checker : Checking) : Type 0 where
  pub field : head.field ≡ checker.outline.field
  pub order : head.order ≡ checker.outline.order
  pub secrets : head.secrets ≡ checker.outline.secrets
  pub publics : head.publics ≡ checker.outline.publics
  pub maps : length head.maps ≡ checker.outline.maps

-- a checker over what the events up to the line `code` give was given the instructions and outs of those behind it
pub record IsBegun (before now : Option (List ℕ)) (reader : Reader) (checker : Checking) : Type 0 where
  pub head : Head
  pub upper : List Event
  pub lower : List Event
  pub uppers : AllByRecursion IsUpper upper
  pub reading : Reading before now reader (event.Head head ∷ ((upper ++ event.Code ∷ []) ++ lower))
  pub gathered : Gathered
  pub gives : gathered ≡ gather_all nothing (event.Head head ∷ ((upper ++ event.Code ∷ []) ++ lower))
  pub same : gathered.head ≡ head
  pub over : IsHeadOf head checker
  pub cert : checker.cert ≡ cert_of gathered
  pub given : Given checker gathered.instrs gathered.outs
