-- What is gathered of the events of a pair is the pair.
use Rattle.std.proofs.Common.{◌≡◌, ℕ, zero, suc, ◌+◌, ◌*◌, ◌/◌, List, [], ◌∷◌, ◌++◌, length, take, drop, refl, sym, ap, ◌∙◌, arith, append_assoc}
use Rattle.std.specs.Prelude.{map}
use Rattle.std.proofs.lemmas.List.{append-nil, nil_from_length, take-append-drop, length-drop}
use Rattle.std.proofs.Math.Nat.{mul-div_cancel}
use Rattle.mk_ssa.specs.declared.Op.{Op}
use Rattle.mk_ssa.specs.declared.Operand.{Operand}
use Rattle.mk_code.specs.declared.instr.Instr.{Instr}
use Rattle.mk_code.specs.Listing.{Listing, IsListing}
use Rattle.mk_rules.specs.Claimed.{Claimed}
use Rattle.mk_bundle.specs.declared.event.Event.{Event}
use Rattle.mk_bundle.specs.declared.event.Event.TheVariants as event
use Rattle.mk_bundle.specs.Events.{head_of, outs_of, outputs_of, upper_events, lower_events, events_of}
use Rattle.mk_bundle.specs.Gathering.{Gathered, nothing, gather, gather_all, code_of, cert_of}

-- no event more
pub gather_none : (g : Gathered) → gather_all g [] ≡ g
unfolding gather_all
gather_none g = refl

-- events and then more events
pub gather_append : (g : Gathered) (xs ys : List Event) → gather_all g (xs ++ ys) ≡ gather_all (gather_all g xs) ys
unfolding gather_all
gather_append g [] ys = refl
gather_append g (x ∷ xs) ys = gather_append (gather g x) xs ys

-- one event more
pub gather_more : (g : Gathered) (xs : List Event) (e : Event) → gather_all g (xs ++ e ∷ []) ≡ gather (gather_all g xs) e
unfolding gather_all
gather_more g xs e = gather_append g xs (e ∷ [])

-- blocks
gather_blocks : (g : Gathered) (ops : List Op) → gather_all g (map event.Block ops) ≡ record g { blocks = g.blocks ++ ops }
unfolding gather_all
gather_blocks g [] = ap (λ (l : List Op). record g { blocks = l }) (sym (append-nil g.blocks))
gather_blocks g (o ∷ os) = gather_blocks (record g { blocks = g.blocks ++ o ∷ [] }) os ∙ ap (λ (l : List Op). record g { blocks = l }) (append_assoc g.blocks (o ∷ []) os)

-- claims
gather_claims : (g : Gathered) (vs : List Operand) → gather_all g (map event.Claim vs) ≡ record g { claims = g.claims ++ vs }
unfolding gather_all
gather_claims g [] = ap (λ (l : List Operand). record g { claims = l }) (sym (append-nil g.claims))
gather_claims g (v ∷ vs) = gather_claims (record g { claims = g.claims ++ v ∷ [] }) vs ∙ ap (λ (l : List Operand). record g { claims = l }) (append_assoc g.claims (v ∷ []) vs)

-- instructions
gather_instrs : (g : Gathered) (is : List Instr) → gather_all g (map event.Instr is) ≡ record g { instrs = g.instrs ++ is }
unfolding gather_all
gather_instrs g [] = ap (λ (l : List Instr). record g { instrs = l }) (sym (append-nil g.instrs))
gather_instrs g (i ∷ is) = gather_instrs (record g { instrs = g.instrs ++ i ∷ [] }) is ∙ ap (λ (l : List Instr). record g { instrs = l }) (append_assoc g.instrs (i ∷ []) is)

-- outputs
gather_outs : (g : Gathered) (shares outputs : ℕ) (positions : List ℕ) → length positions ≡ outputs * shares → gather_all g (map event.Out (outs_of shares outputs positions)) ≡ record g { outs = g.outs ++ positions }
unfolding gather_all outs_of
gather_outs g shares zero positions all =
    let none : positions ≡ [] = nil_from_length positions (omega (arith, all)) in
    ap (λ (l : List ℕ). record g { outs = l }) (sym (append-nil g.outs) ∙ ap (λ (l : List ℕ). g.outs ++ l) (sym none))
gather_outs g shares (suc outputs) positions all =
    let rest : length (drop shares positions) ≡ outputs * shares = omega (arith, length-drop shares positions, all) in
    gather_outs (record g { outs = g.outs ++ take shares positions }) shares outputs (drop shares positions) rest
    ∙ ap (λ (l : List ℕ). record g { outs = l }) (append_assoc g.outs (take shares positions) (drop shares positions) ∙ ap (λ (l : List ℕ). g.outs ++ l) (take-append-drop shares positions))

-- the head, the blocks and the claims
gather_upper : (code : Listing) (cert : Claimed) → gather_all nothing (upper_events code cert) ≡ record { head = head_of code; blocks = cert.blocks; claims = cert.claims; instrs = []; outs = [] }
unfolding gather_all
gather_upper code cert =
    let begun : Gathered = record nothing { head = head_of code } in
    gather_append begun (map event.Block cert.blocks) (map event.Claim cert.claims)
    ∙ ap (λ (g : Gathered). gather_all g (map event.Claim cert.claims)) (gather_blocks begun cert.blocks)
    ∙ gather_claims (record begun { blocks = cert.blocks }) cert.claims

-- what is gathered of the events of a pair
pub gather_events : (code : Listing) (cert : Claimed) → IsListing code → gather_all nothing (events_of code cert) ≡ record { head = head_of code; blocks = cert.blocks; claims = cert.claims; instrs = code.instrs; outs = code.outs }
unfolding gather_all
gather_events code cert listing =
    let upper : List Event = upper_events code cert in
    let instrs : List Event = map event.Instr code.instrs in
    let outs : List Event = map event.Out (outputs_of code) in
    let first : Gathered = record { head = head_of code; blocks = cert.blocks; claims = cert.claims; instrs = []; outs = [] } in
    let second : Gathered = record { head = head_of code; blocks = cert.blocks; claims = cert.claims; instrs = code.instrs; outs = [] } in
    let shares : ℕ = code.order + 1 in
    let all : length code.outs ≡ listing.outputs.0 * shares = listing.outputs.2 in
    let count : length code.outs / shares ≡ listing.outputs.0 = ap (λ (n : ℕ). n / shares) all ∙ mul-div_cancel listing.outputs.0 (omega arith) in
    gather_more nothing (lower_events code cert) event.End
    ∙ gather_append nothing (upper ++ event.Code ∷ [] ++ instrs) outs
    ∙ ap (λ (g : Gathered). gather_all g outs) (gather_append nothing (upper ++ event.Code ∷ []) instrs ∙ ap (λ (g : Gathered). gather_all g instrs) (gather_more nothing upper event.Code ∙ gather_upper code cert) ∙ gather_instrs first code.instrs)
    ∙ ap (λ (n : ℕ). gather_all second (map event.Out (outs_of shares n code.outs))) count
    ∙ gather_outs second shares listing.outputs.0 code.outs all

-- the pair of the events
pub gather_pair : (code : Listing) (cert : Claimed) (events : List Event) (g : Gathered) → IsListing code → events ++ event.End ∷ [] ≡ events_of code cert → g ≡ gather_all nothing events → (code_of g ≡ code) × (cert_of g ≡ cert)
gather_pair code cert events g listing gave is =
    let all : g ≡ record { head = head_of code; blocks = cert.blocks; claims = cert.claims; instrs = code.instrs; outs = code.outs } =
    is ∙ sym (gather_more nothing events event.End) ∙ ap (gather_all nothing) gave ∙ gather_events code cert listing in
    (ap code_of all, ap cert_of all)
