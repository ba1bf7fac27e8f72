-- The events that the text of a pair is read as.
use Rattle.std.specs.Prelude.{◌≡◌, ℕ, zero, suc, ◌+◌, ◌/◌, Bool, true, false, not, ◌&&◌, List, [], ◌∷◌, ◌++◌, length, take, drop, map, nat_lt, if◌then◌else◌}
use Rattle.mk_code.specs.Listing.{Listing}
use Rattle.mk_rules.specs.Claimed.{Claimed}
use Rattle.mk_rules.specs.Pairs.{IsPair}
use Rattle.mk_bundle.specs.declared.draft.Stage.{Stage}
use Rattle.mk_bundle.specs.declared.draft.Stage.TheVariants.{Version, Field, Order, Secrets, Publics, Upper, Lower, Ended}
use Rattle.mk_bundle.specs.declared.event.Head.{Head}
use Rattle.mk_bundle.specs.declared.event.Event.{Event}
use Rattle.mk_bundle.specs.declared.event.Event.TheVariants as event

-- the head of a code
abbrev pub head_of : Listing → Head
head_of code = record { field = code.field; order = code.order; secrets = code.secrets; publics = code.publics; maps = code.maps }

-- the positions of so many outputs, each of which has the next `shares`
unfoldable pub outs_of : ℕ → ℕ → List ℕ → List (List ℕ)
outs_of shares zero positions = []
outs_of shares (suc outputs) positions = take shares positions ∷ outs_of shares outputs (drop shares positions)

-- the positions of the outputs of a code, output by output
abbrev pub outputs_of : Listing → List (List ℕ)
outputs_of code = outs_of (code.order + 1) (length code.outs / (code.order + 1)) code.outs

-- the head, the blocks and the claims
abbrev pub upper_events : Listing → Claimed → List Event
upper_events code cert = event.Head (head_of code) ∷ (map event.Block cert.blocks ++ map event.Claim cert.claims)

-- the events before the last one
abbrev pub lower_events : Listing → Claimed → List Event
lower_events code cert = upper_events code cert ++ event.Code ∷ [] ++ map event.Instr code.instrs ++ map event.Out (outputs_of code)

-- the events of a pair: its head, blocks and claims, and then its instructions and outputs
abbrev pub events_of : Listing → Claimed → List Event
events_of code cert = lower_events code cert ++ event.End ∷ []

-- the events of some pair begin with these
abbrev pub AreFirst : List Event → Type 0
AreFirst events = (code : Listing) × (cert : Claimed) × (rest : List Event) × IsPair code cert × (events_of code cert ≡ events ++ rest)

-- the lines of the maps ended: at a stage, with so many blocks and claims
abbrev pub has_begun : Stage → ℕ → ℕ → Bool
has_begun Version blocks claims = false
has_begun Field blocks claims = false
has_begun Order blocks claims = false
has_begun Secrets blocks claims = false
has_begun Publics blocks claims = false
has_begun Upper blocks claims = not (nat_lt blocks 1 && nat_lt claims 1)
has_begun Lower blocks claims = true
has_begun Ended blocks claims = true

-- the events of the lines before a stage
abbrev pub events_at : Stage → Listing → Claimed → List Event
events_at Version code cert = []
events_at Field code cert = []
events_at Order code cert = []
events_at Secrets code cert = []
events_at Publics code cert = []
events_at Upper code cert = if has_begun Upper (length cert.blocks) (length cert.claims) then upper_events code cert else []
events_at Lower code cert = lower_events code cert
events_at Ended code cert = events_of code cert
