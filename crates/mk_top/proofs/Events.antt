-- The events of a pair, one after the other: the head, blocks and claims, the line `code`, instructions and outputs, and the end.
use Rattle.std.proofs.Common.{◌≡◌, ℕ, zero, suc, ◌+◌, ◌*◌, ◌/◌, ◌<◌, ◌≤◌, List, [], ◌∷◌, ◌++◌, length, drop, ◌⊎◌, inl, inr, refl, sym, ap, ◌∙◌, subst, arith, append_assoc}
use Rattle.std.specs.Prelude.{map}
use Rattle.std.specs.List.{AllByRecursion}
use Rattle.std.proofs.lemmas.Bool.{cases_lt}
use Rattle.std.proofs.lemmas.List.{append-nil, length-append, length-take-le, length-drop}
use Rattle.std.proofs.Math.Nat.{mul-div_cancel, mul-le-mul_right}
use Rattle.mk_ssa.specs.declared.Op.{Op}
use Rattle.mk_ssa.specs.declared.Operand.{Operand}
use Rattle.mk_base.specs.declared.TheConstants.{TOP_ORDER}
use Rattle.mk_code.specs.declared.TheConstants.{MOST_INSTRS, MOST_INPUTS, MOST_MAPS}
use Rattle.mk_code.specs.declared.instr.Instr.{Instr}
use Rattle.mk_code.specs.Listing.{Listing, IsListing}
use Rattle.mk_rules.specs.Claimed.{Claimed}
use Rattle.mk_bundle.specs.declared.event.Head.{Head}
use Rattle.mk_bundle.specs.declared.event.Event.{Event}
use Rattle.mk_bundle.specs.declared.event.Event.TheVariants as event
use Rattle.mk_bundle.specs.Events.{head_of, outs_of, outputs_of, events_of, AreFirst}
use Rattle.mk_bundle.specs.Gathering.{Gathered, nothing, gather, gather_all}
use Rattle.mk_lines.proofs.ByLines.{All-append}
use Rattle.mk_bundle.proofs.Gathering.{gather_append, gather_events, gather_more}
use Rattle.mk_top.specs.Reading.{IsUpper}

-- an event behind the line `code`, each output having so many positions
abbrev pub IsLower : ℕ → Event → Type 0
IsLower shares (event.Instr instr) = Unit {0}
IsLower shares (event.Out positions) = length positions ≡ shares
IsLower shares event.End = Unit {0}
IsLower shares (event.Head head) = ⊥
IsLower shares (event.Block op) = ⊥
IsLower shares (event.Claim value) = ⊥
IsLower shares event.Code = ⊥

-- the events between the head and the line `code`
abbrev uppers_of : Claimed → List Event
uppers_of cert = map event.Block cert.blocks ++ map event.Claim cert.claims

-- the events behind the line `code`
abbrev lowers_of : Listing → List Event
lowers_of code = map event.Instr code.instrs ++ (map event.Out (outputs_of code) ++ event.End ∷ [])

-- the events of a pair by these parts
apart : (code : Listing) (cert : Claimed) → events_of code cert ≡ event.Head (head_of code) ∷ (uppers_of cert ++ event.Code ∷ lowers_of code)
apart code cert =
    let upper : List Event = event.Head (head_of code) ∷ uppers_of cert in
    let instrs : List Event = map event.Instr code.instrs in
    let outs : List Event = map event.Out (outputs_of code) in
    append_assoc (upper ++ event.Code ∷ [] ++ instrs) outs (event.End ∷ [])
    ∙ append_assoc (upper ++ event.Code ∷ []) instrs (outs ++ event.End ∷ [])
    ∙ append_assoc upper (event.Code ∷ []) (lowers_of code)

-- blocks and claims are upper events
blocks-upper : (ops : List Op) → AllByRecursion IsUpper (map event.Block ops)
blocks-upper [] = tt
blocks-upper (o ∷ os) = (tt, blocks-upper os)

-- the events of claims stand in the upper part of a text
claims-upper : (vs : List Operand) → AllByRecursion IsUpper (map event.Claim vs)
claims-upper [] = tt
claims-upper (v ∷ vs) = (tt, claims-upper vs)

-- so are all of a certificate
uppers-upper : (cert : Claimed) → AllByRecursion IsUpper (uppers_of cert)
uppers-upper cert = All-append IsUpper (map event.Block cert.blocks) (map event.Claim cert.claims) (blocks-upper cert.blocks) (claims-upper cert.claims)

-- instructions are lower events
instrs-lower : (shares : ℕ) (is : List Instr) → AllByRecursion (IsLower shares) (map event.Instr is)
instrs-lower shares [] = tt
instrs-lower shares (i ∷ is) = (tt, instrs-lower shares is)

-- so are outputs, each of which has as many positions as there are shares
outs-lower : (shares outputs : ℕ) (positions : List ℕ) → length positions ≡ outputs * shares → AllByRecursion (IsLower shares) (map event.Out (outs_of shares outputs positions))
unfolding outs_of
outs-lower shares zero positions all = tt
outs-lower shares (suc outputs) positions all = (
  length-take-le shares positions (omega (arith, all)),
  outs-lower shares outputs (drop shares positions) (omega (arith, length-drop shares positions, all)),
)

-- so are all of a code
lowers-lower : (code : Listing) → IsListing code → AllByRecursion (IsLower (code.order + 1)) (lowers_of code)
lowers-lower code listing =
    let shares : ℕ = code.order + 1 in
    let all : length code.outs ≡ listing.outputs.0 * shares = listing.outputs.2 in
    let count : length code.outs / shares ≡ listing.outputs.0 = ap (λ (n : ℕ). n / shares) all ∙ mul-div_cancel listing.outputs.0 (omega arith) in
    All-append (IsLower shares) (map event.Instr code.instrs) (map event.Out (outputs_of code) ++ event.End ∷ []) (instrs-lower shares code.instrs)
    (All-append (IsLower shares) (map event.Out (outputs_of code)) (event.End ∷ [])
    (subst (λ (n : ℕ). AllByRecursion (IsLower shares) (map event.Out (outs_of shares n code.outs))) (sym count) (outs-lower shares listing.outputs.0 code.outs all))
    (tt, tt))

-- behind upper events comes another one or the line `code`
upper-next : (es ups lows rest : List Event) (e : Event) → AllByRecursion IsUpper es → AllByRecursion IsUpper ups
    → es ++ e ∷ rest ≡ ups ++ event.Code ∷ lows → IsUpper e ⊎ (e ≡ event.Code)
upper-next [] [] lows rest e all each same = let is : e ≡ event.Code = cc in inr is
upper-next [] (u ∷ us) lows rest e all each same = let is : e ≡ u = cc in inl (subst IsUpper (sym is) each.0)
upper-next (x ∷ xs) [] lows rest e all each same = let is : x ≡ event.Code = cc in absurd (subst IsUpper is all.0)
upper-next (x ∷ xs) (u ∷ us) lows rest e all each same =
    let tail : xs ++ e ∷ rest ≡ us ++ event.Code ∷ lows = cc in
    upper-next xs us lows rest e all.1 each.1 tail

-- what holds of all events holds of one in the middle
in-middle : (P : Event → Type 0) (fs rest : List Event) (e : Event) → AllByRecursion P (fs ++ e ∷ rest) → P e
in-middle P [] rest e all = all.0
in-middle P (f ∷ fs) rest e all = in-middle P fs rest e all.1

-- behind the line `code` come lower events
lower-next : (shares : ℕ) (es ups fs lows rest : List Event) (e : Event) → AllByRecursion IsUpper es → AllByRecursion IsUpper ups → AllByRecursion (IsLower shares) lows
    → es ++ event.Code ∷ (fs ++ e ∷ rest) ≡ ups ++ event.Code ∷ lows → IsLower shares e
lower-next shares [] [] fs lows rest e all each low same =
    let is : fs ++ e ∷ rest ≡ lows = cc in
    in-middle (IsLower shares) fs rest e (subst (AllByRecursion (IsLower shares)) (sym is) low)
lower-next shares [] (u ∷ us) fs lows rest e all each low same = let is : event.Code ≡ u = cc in absurd (subst IsUpper (sym is) each.0)
lower-next shares (x ∷ xs) [] fs lows rest e all each low same = let is : x ≡ event.Code = cc in absurd (subst IsUpper is all.0)
lower-next shares (x ∷ xs) (u ∷ us) fs lows rest e all each low same =
    let tail : xs ++ event.Code ∷ (fs ++ e ∷ rest) ≡ us ++ event.Code ∷ lows = cc in
    lower-next shares xs us fs lows rest e all.1 each.1 low tail

-- the first event of a pair is its head
pub first-head : (e : Event) → AreFirst (e ∷ []) → (head : Head) × (e ≡ event.Head head)
first-head e (code, cert, rest, pair, same) =
    let both : e ∷ rest ≡ event.Head (head_of code) ∷ (uppers_of cert ++ event.Code ∷ lowers_of code) = sym same ∙ apart code cert in
    (head_of code, cc)

-- a pair whose events begin with this head has it
pub its-head : (head : Head) (es : List Event) (first : AreFirst (event.Head head ∷ es)) → head ≡ head_of first.0
its-head head es (code, cert, rest, pair, same) =
    let both : event.Head head ∷ (es ++ rest) ≡ event.Head (head_of code) ∷ (uppers_of cert ++ event.Code ∷ lowers_of code) = sym same ∙ apart code cert in
    cc

-- behind the head, blocks and claims comes a block or a claim, or the line `code`
pub begun-next : (head : Head) (upper : List Event) (e : Event) → AllByRecursion IsUpper upper → AreFirst (event.Head head ∷ (upper ++ e ∷ []))
    → IsUpper e ⊎ (e ≡ event.Code)
begun-next head upper e all (code, cert, rest, pair, same) =
    let both : event.Head head ∷ ((upper ++ e ∷ []) ++ rest) ≡ event.Head (head_of code) ∷ (uppers_of cert ++ event.Code ∷ lowers_of code) = sym same ∙ apart code cert in
    let tail : (upper ++ e ∷ []) ++ rest ≡ uppers_of cert ++ event.Code ∷ lowers_of code = cc in
    upper-next upper (uppers_of cert) (lowers_of code) rest e all (uppers-upper cert) (sym (append_assoc upper (e ∷ []) rest) ∙ tail)

-- behind the line `code` comes an instruction, an output with as many positions as there are shares, or the end
pub coded-next : (head : Head) (upper lower : List Event) (e : Event) → AllByRecursion IsUpper upper
    → AreFirst (event.Head head ∷ (((upper ++ event.Code ∷ []) ++ lower) ++ e ∷ [])) → IsLower (head.order + 1) e
coded-next head upper lower e all first =
    let code = first.0 in
    let cert = first.1 in
    let rest = first.2 in
    let order : head.order ≡ code.order = ap (λ (h : Head). h.order) (its-head head (((upper ++ event.Code ∷ []) ++ lower) ++ e ∷ []) first) in
    let both : event.Head head ∷ ((((upper ++ event.Code ∷ []) ++ lower) ++ e ∷ []) ++ rest) ≡ event.Head (head_of code) ∷ (uppers_of cert ++ event.Code ∷ lowers_of code) =
    sym first.4 ∙ apart code cert in
    let tail : (((upper ++ event.Code ∷ []) ++ lower) ++ e ∷ []) ++ rest ≡ uppers_of cert ++ event.Code ∷ lowers_of code = cc in
    let flat : upper ++ event.Code ∷ (lower ++ e ∷ rest) ≡ (((upper ++ event.Code ∷ []) ++ lower) ++ e ∷ []) ++ rest =
    sym (append_assoc upper (event.Code ∷ []) (lower ++ e ∷ rest)) ∙ sym (append_assoc (upper ++ event.Code ∷ []) lower (e ∷ rest))
    ∙ sym (append_assoc ((upper ++ event.Code ∷ []) ++ lower) (e ∷ []) rest) in
    subst (λ (n : ℕ). IsLower (n + 1) e) (sym order)
    (lower-next (code.order + 1) upper (uppers_of cert) lower (lowers_of code) rest e all (uppers-upper cert) (lowers-lower code first.3.listing) (flat ∙ tail))

-- instructions and positions are gathered one behind the other
gathers-instrs : (g : Gathered) (es : List Event) → (more : List Instr) × ((gather_all g es).instrs ≡ g.instrs ++ more)
unfolding gather_all
gathers-instrs g [] = ([], sym (append-nil g.instrs))
gathers-instrs g (event.Head head ∷ es) = gathers-instrs (gather g (event.Head head)) es
gathers-instrs g (event.Block op ∷ es) = gathers-instrs (gather g (event.Block op)) es
gathers-instrs g (event.Claim value ∷ es) = gathers-instrs (gather g (event.Claim value)) es
gathers-instrs g (event.Code ∷ es) = gathers-instrs g es
gathers-instrs g (event.Instr i ∷ es) =
    let rest = gathers-instrs (gather g (event.Instr i)) es in
    (i ∷ rest.0, rest.1 ∙ append_assoc g.instrs (i ∷ []) rest.0)
gathers-instrs g (event.Out positions ∷ es) = gathers-instrs (gather g (event.Out positions)) es
gathers-instrs g (event.End ∷ es) = gathers-instrs g es

-- the positions of outs that come are put behind those so far
gathers-outs : (g : Gathered) (es : List Event) → (more : List ℕ) × ((gather_all g es).outs ≡ g.outs ++ more)
unfolding gather_all
gathers-outs g [] = ([], sym (append-nil g.outs))
gathers-outs g (event.Head head ∷ es) = gathers-outs (gather g (event.Head head)) es
gathers-outs g (event.Block op ∷ es) = gathers-outs (gather g (event.Block op)) es
gathers-outs g (event.Claim value ∷ es) = gathers-outs (gather g (event.Claim value)) es
gathers-outs g (event.Code ∷ es) = gathers-outs g es
gathers-outs g (event.Instr i ∷ es) = gathers-outs (gather g (event.Instr i)) es
gathers-outs g (event.Out positions ∷ es) =
    let rest = gathers-outs (gather g (event.Out positions)) es in
    (positions ++ rest.0, rest.1 ∙ append_assoc g.outs positions rest.0)
gathers-outs g (event.End ∷ es) = gathers-outs g es

-- there are no more instructions and positions than a code may have
pub gathered-few : (head : Head) (es : List Event) → AreFirst (event.Head head ∷ es)
    → (length (gather_all nothing (event.Head head ∷ es)).instrs ≤ MOST_INSTRS)
    × (length (gather_all nothing (event.Head head ∷ es)).outs ≤ MOST_INPUTS * (head.order + 1))
gathered-few head es first =
    let code = first.0 in
    let cert = first.1 in
    let rest = first.2 in
    let listing = first.3.listing in
    let g : Gathered = gather_all nothing (event.Head head ∷ es) in
    let all : gather_all g rest ≡ record { head = head_of code; blocks = cert.blocks; claims = cert.claims; instrs = code.instrs; outs = code.outs } =
    sym (gather_append nothing (event.Head head ∷ es) rest) ∙ sym (ap (gather_all nothing) first.4) ∙ gather_events code cert listing in
    let instrs = gathers-instrs g rest in
    let outs = gathers-outs g rest in
    let order : head.order ≡ code.order = ap (λ (h : Head). h.order) (its-head head es first) in
    let whole_instrs : length code.instrs ≡ length g.instrs + length instrs.0 =
    ap length (sym (ap (λ (x : Gathered). x.instrs) all) ∙ instrs.1) ∙ length-append g.instrs instrs.0 in
    let whole_outs : length code.outs ≡ length g.outs + length outs.0 = ap length (sym (ap (λ (x : Gathered). x.outs) all) ∙ outs.1) ∙ length-append g.outs outs.0 in
    let few : listing.outputs.0 * (code.order + 1) ≤ MOST_INPUTS * (code.order + 1) = mul-le-mul_right (code.order + 1) listing.outputs.1 in
    let bound : length g.outs ≤ MOST_INPUTS * (code.order + 1) = omega (arith, whole_outs, listing.outputs.2, few) in
    (omega (arith, whole_instrs, listing.few), subst (λ (n : ℕ). length g.outs ≤ MOST_INPUTS * (n + 1)) (sym order) bound)

-- fewer outs than there may be were given, where so many positions more are within the limit
pub outs-few : (outs shares positions : ℕ) → positions ≡ outs * shares → 1 ≤ shares → positions + shares ≤ MOST_INPUTS * shares → outs < MOST_INPUTS
outs-few outs shares positions is some within = elim (cases_lt outs MOST_INPUTS) [
  | inl few ↦ few
  | inr many ↦ let more : MOST_INPUTS * shares ≤ outs * shares = mul-le-mul_right shares many in absurd (omega (arith, is, some, within, more))
]

-- what is neither a block nor a claim there is the line `code`
pub is-code : (e : Event) → IsUpper e ⊎ (e ≡ event.Code) → ((op : Op) → e ≡ event.Block op → ⊥) → ((value : Operand) → e ≡ event.Claim value → ⊥) → e ≡ event.Code
is-code e (inr is) no_block no_claim = is
is-code (event.Block op) (inl upper) no_block no_claim = absurd (no_block op refl)
is-code (event.Claim value) (inl upper) no_block no_claim = absurd (no_claim value refl)
is-code (event.Head head) (inl upper) no_block no_claim = absurd upper
is-code event.Code (inl upper) no_block no_claim = absurd upper
is-code (event.Instr instr) (inl upper) no_block no_claim = absurd upper
is-code (event.Out positions) (inl upper) no_block no_claim = absurd upper
is-code event.End (inl upper) no_block no_claim = absurd upper

-- what is neither an instruction nor an output behind it is the end
pub is-end : (shares : ℕ) (e : Event) → IsLower shares e → ((instr : Instr) → e ≡ event.Instr instr → ⊥) → ((positions : List ℕ) → e ≡ event.Out positions → ⊥) → e ≡ event.End
is-end shares event.End lower no_instr no_out = refl
is-end shares (event.Instr instr) lower no_instr no_out = absurd (no_instr instr refl)
is-end shares (event.Out positions) lower no_instr no_out = absurd (no_out positions refl)
is-end shares (event.Head head) lower no_instr no_out = absurd lower
is-end shares (event.Block op) lower no_instr no_out = absurd lower
is-end shares (event.Claim value) lower no_instr no_out = absurd lower
is-end shares event.Code lower no_instr no_out = absurd lower

-- what the head, blocks and claims give
abbrev pub upper_gathered : Head → Claimed → Gathered
upper_gathered head cert = record { head = head; blocks = cert.blocks; claims = cert.claims; instrs = []; outs = [] }

-- nothing but the head
pub gives-none : (head : Head) (cert : Claimed) → cert ≡ record { blocks = []; claims = [] } → gather_all nothing (event.Head head ∷ []) ≡ upper_gathered head cert
unfolding gather_all
gives-none head cert is = ap (upper_gathered head) (sym is)

-- one event more of them
pub gives-more : (head : Head) (upper : List Event) (cert next : Claimed) (e : Event) → gather_all nothing (event.Head head ∷ upper) ≡ upper_gathered head cert
    → gather (upper_gathered head cert) e ≡ upper_gathered head next → gather_all nothing (event.Head head ∷ (upper ++ e ∷ [])) ≡ upper_gathered head next
gives-more head upper cert next e gives step = gather_more nothing (event.Head head ∷ upper) e ∙ ap (λ (g : Gathered). gather g e) gives ∙ step

-- one upper event more
pub uppers-more : (upper : List Event) (e : Event) → AllByRecursion IsUpper upper → IsUpper e → AllByRecursion IsUpper (upper ++ e ∷ [])
uppers-more upper e uppers own = All-append IsUpper upper (e ∷ []) uppers (own, tt)

-- the head of a pair has an order within the range, and few maps
pub head-fits : (head : Head) (es : List Event) → AreFirst (event.Head head ∷ es) → ((1 ≤ head.order) × (head.order ≤ TOP_ORDER)) × (length head.maps ≤ MOST_MAPS)
head-fits head es first =
    subst (λ (h : Head). ((1 ≤ h.order) × (h.order ≤ TOP_ORDER)) × (length h.maps ≤ MOST_MAPS)) (sym (its-head head es first))
    (first.3.listing.order, first.3.listing.maps)
