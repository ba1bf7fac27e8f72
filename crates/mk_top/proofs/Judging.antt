-- A checker that is given the instructions and outs of a bundle that is being read.
use Rattle.std.proofs.Common.{◌≡◌, ℕ, ◌+◌, ◌*◌, ◌<◌, ◌≤◌, List, [], ◌∷◌, ◌++◌, length, Option, refl, sym, ap, ◌∙◌, subst, arith, append_assoc}
use Rattle.std.proofs.lemmas.List.{length-append, append-nil}
use Rattle.mk_code.specs.declared.TheConstants.{MOST_INSTRS, MOST_INPUTS}
use Rattle.mk_code.specs.declared.instr.Instr.{Instr}
use Rattle.mk_code.specs.Listing.{Listing}
use Rattle.mk_rules.specs.Claimed.{Claimed}
use Rattle.mk_bundle.specs.declared.event.Head.{Head}
use Rattle.mk_bundle.specs.declared.event.Event.{Event}
use Rattle.mk_bundle.specs.declared.event.Event.TheVariants as event
use Rattle.mk_bundle.specs.Events.{AreFirst}
use Rattle.mk_bundle.specs.Reads.{Reader}
use Rattle.mk_bundle.specs.Gathering.{Gathered, nothing, gather, gather_all, code_of, cert_of}
use Rattle.mk_bundle.proofs.Gathering.{gather_more, gather_pair}
use Rattle.mk_check.specs.Given.{Checking, Given}
use Rattle.mk_check.specs.Outlines.{IsOver}
use Rattle.mk_top.specs.Reading.{Reading, GivesBundle, GivesCertificate, IsHeadOf, IsBegun}
use Rattle.mk_top.proofs.Renamed.{bundle-pair}
use Rattle.mk_top.proofs.Events.{IsLower, coded-next, gathered-few, outs-few}

-- the events so far
pub so_far : {before now : Option (List ℕ)} {reader : Reader} {checker : Checking} → IsBegun before now reader checker → List Event
so_far b = event.Head b.head ∷ ((b.upper ++ event.Code ∷ []) ++ b.lower)

module _ (before now : Option (List ℕ)) (reader : Reader) (checker : Checking) (b : IsBegun before now reader checker) (e : Event)
    (first : AreFirst (event.Head b.head ∷ (((b.upper ++ event.Code ∷ []) ++ b.lower) ++ e ∷ []))) where
  -- what comes is an instruction, an output of as many positions as there are shares, or the end
  pub next-lower : IsLower (checker.outline.order + 1) e
  next-lower = subst (λ (n : ℕ). IsLower (n + 1) e) b.over.order (coded-next b.head b.upper b.lower e b.uppers first)

  -- what it gives too
  gathered-next : gather_all nothing (event.Head b.head ∷ (((b.upper ++ event.Code ∷ []) ++ b.lower) ++ e ∷ [])) ≡ gather b.gathered e
  gathered-next =
      gather_more nothing (event.Head b.head ∷ ((b.upper ++ event.Code ∷ []) ++ b.lower)) e ∙ ap (λ (g : Gathered). gather g e) (sym b.gives)

  -- there is room for it
  pub room-instrs : length (gather b.gathered e).instrs ≤ MOST_INSTRS
  room-instrs =
      subst (λ (g : Gathered). length g.instrs ≤ MOST_INSTRS) gathered-next (gathered-few b.head (((b.upper ++ event.Code ∷ []) ++ b.lower) ++ e ∷ []) first).0

  -- and for the positions of outs
  pub room-outs : length (gather b.gathered e).outs ≤ MOST_INPUTS * (checker.outline.order + 1)
  room-outs =
      subst (λ (n : ℕ). length (gather b.gathered e).outs ≤ MOST_INPUTS * (n + 1)) b.over.order
      (subst (λ (g : Gathered). length g.outs ≤ MOST_INPUTS * (b.head.order + 1)) gathered-next
      (gathered-few b.head (((b.upper ++ event.Code ∷ []) ++ b.lower) ++ e ∷ []) first).1)

  -- the checker was given what it gives
  pub begun-next : (after : Option (List ℕ)) (other : Reader) (next : Checking)
      → Reading before after other (event.Head b.head ∷ (((b.upper ++ event.Code ∷ []) ++ b.lower) ++ e ∷ []))
      → (gather b.gathered e).head ≡ b.gathered.head → cert_of (gather b.gathered e) ≡ cert_of b.gathered
      → next.outline ≡ checker.outline → next.cert ≡ checker.cert → Given next (gather b.gathered e).instrs (gather b.gathered e).outs
      → IsBegun before after other next
  begun-next after other next reading head cert outline same given =
      let flat : ((b.upper ++ event.Code ∷ []) ++ b.lower) ++ e ∷ [] ≡ (b.upper ++ event.Code ∷ []) ++ (b.lower ++ e ∷ []) = append_assoc (b.upper ++ event.Code ∷ []) b.lower (e ∷ []) in
      record {
        head = b.head;
        upper = b.upper;
        lower = b.lower ++ e ∷ [];
        uppers = b.uppers;
        reading = subst (λ (es : List Event). Reading before after other (event.Head b.head ∷ es)) flat reading;
        gathered = gather b.gathered e;
        gives = sym gathered-next ∙ ap (λ (es : List Event). gather_all nothing (event.Head b.head ∷ es)) flat;
        same = head ∙ b.same;
        over = record {
          field = b.over.field ∙ sym (ap (λ o. o.field) outline);
          order = b.over.order ∙ sym (ap (λ o. o.order) outline);
          secrets = b.over.secrets ∙ sym (ap (λ o. o.secrets) outline);
          publics = b.over.publics ∙ sym (ap (λ o. o.publics) outline);
          maps = b.over.maps ∙ sym (ap (λ o. o.maps) outline);
        };
        cert = same ∙ b.cert ∙ sym cert;
        given = given;
      }

-- fewer instructions than there may be were given, where one more comes
pub instrs-few : (before now : Option (List ℕ)) (reader : Reader) (checker : Checking) (b : IsBegun before now reader checker) (i : Instr)
    → AreFirst (event.Head b.head ∷ (((b.upper ++ event.Code ∷ []) ++ b.lower) ++ event.Instr i ∷ [])) → checker.instrs < MOST_INSTRS
instrs-few before now reader checker b i first =
    omega (arith, b.given.count, length-append b.gathered.instrs (i ∷ []), room-instrs before now reader checker b (event.Instr i) first)

-- and fewer outs, where one more comes, which has as many positions as there are shares
pub outs-room : (before now : Option (List ℕ)) (reader : Reader) (checker : Checking) (b : IsBegun before now reader checker) (at : List ℕ)
    → AreFirst (event.Head b.head ∷ (((b.upper ++ event.Code ∷ []) ++ b.lower) ++ event.Out at ∷ []))
    → (length at ≡ checker.outline.order + 1) × (checker.outs < MOST_INPUTS)
outs-room before now reader checker b at first =
    let shares : length at ≡ checker.outline.order + 1 = next-lower before now reader checker b (event.Out at) first in
    let room = room-outs before now reader checker b (event.Out at) first in (
      shares,
      outs-few checker.outs (checker.outline.order + 1) (length b.gathered.outs) b.given.outputs (omega arith)
          (omega (arith, length-append b.gathered.outs at, shares, room)),
    )

-- at the end, the code whose text was read is over what the checker is over, and was given to it, with its certificate
pub judged-code : (before now after : Option (List ℕ)) (reader : Reader) (checker : Checking) (b : IsBegun before now reader checker)
    → (w : GivesBundle before after (event.Head b.head ∷ ((b.upper ++ event.Code ∷ []) ++ b.lower)))
    → IsOver w.code checker.outline × Given checker w.code.instrs w.code.outs × (checker.cert ≡ w.cert)
judged-code before now after reader checker b w =
    let pair = gather_pair w.code w.cert (event.Head b.head ∷ ((b.upper ++ event.Code ∷ []) ++ b.lower)) b.gathered (bundle-pair w.bytes w.code w.cert w.text).listing w.gave b.gives in
    let code : code_of b.gathered ≡ w.code = pair.0 in (
      record {
        field = sym (ap (λ (c : Listing). c.field) code) ∙ ap (λ h. h.field) b.same ∙ b.over.field;
        order = sym (ap (λ (c : Listing). c.order) code) ∙ ap (λ h. h.order) b.same ∙ b.over.order;
        secrets = sym (ap (λ (c : Listing). c.secrets) code) ∙ ap (λ h. h.secrets) b.same ∙ b.over.secrets;
        publics = sym (ap (λ (c : Listing). c.publics) code) ∙ ap (λ h. h.publics) b.same ∙ b.over.publics;
        maps = sym (ap (λ (c : Listing). length c.maps) code) ∙ ap (λ h. length h.maps) b.same ∙ b.over.maps;
      },
      subst (λ (c : Listing). Given checker c.instrs c.outs) code b.given,
      b.cert ∙ pair.1,
    )

-- a checker over the head and the certificate that the events up to the line `code` give
pub begun-first : (before now : Option (List ℕ)) (reader : Reader) (head : Head) (cert : Claimed) (checker : Checking) → GivesCertificate before now reader head cert
    → IsHeadOf head checker → checker.cert ≡ cert → Given checker [] [] → IsBegun before now reader checker
begun-first before now reader head cert checker front over same given =
    let whole : (front.upper ++ event.Code ∷ []) ++ [] ≡ front.upper ++ event.Code ∷ [] = append-nil (front.upper ++ event.Code ∷ []) in
    record {
      head = head;
      upper = front.upper;
      lower = [];
      uppers = front.uppers;
      reading = subst (λ (es : List Event). Reading before now reader (event.Head head ∷ es)) (sym whole) front.reading;
      gathered = record { head = head; blocks = cert.blocks; claims = cert.claims; instrs = []; outs = [] };
      gives = sym (ap (λ (es : List Event). gather_all nothing (event.Head head ∷ es)) whole ∙ front.gives);
      same = refl;
      over = over;
      cert = same;
      given = given;
    }
