-- One event more of a bundle that is being read.
use Rattle.std.proofs.Common.{◌≡◌, ℕ, ◌≤◌, ◌<◌, List, [], ◌∷◌, ◌++◌, Option, Err, sym, ◌∙◌, subst, arith}
use Rattle.std.specs.Prelude.{All, codes}
use Rattle.std.specs.List.{AllByRecursion}
use Rattle.std.proofs.lemmas.List.Elements.{All-from_recursion, All-nil}
use Rattle.mk_base.specs.Outside.{Rose}
use Rattle.mk_field.specs.declared.field.FieldId.{FieldId}
use Rattle.mk_field.specs.declared.field.FieldId.TheVariants.{Gf2, Gf256}
use Rattle.mk_field.specs.declared.map.AddMap.{AddMap}
use Rattle.mk_field.specs.Field.{size, HasMapsOnlyInBytes}
use Rattle.mk_field.specs.Maps.{MapFits}
use Rattle.mk_code.specs.Listing.{AreElementMaps}
use Rattle.mk_rules.proofs.BuiltIn.{accepted_built_in-private}
use Rattle.mk_check.specs.declared.refusal.CheckRefusal.{CheckRefusal}
use Rattle.mk_check.specs.declared.refusal.CheckRefusal.TheVariants as refused
use Rattle.mk_check.specs.Verdict.{IsRefused}
use Rattle.mk_rules.specs.Accepts.{IsAccepted}
use Rattle.mk_bundle.specs.declared.TheConstants.{MOST_BYTES}
use Rattle.mk_bundle.specs.declared.event.Event.{Event}
use Rattle.mk_bundle.specs.declared.event.Event.TheVariants as event
use Rattle.mk_bundle.specs.declared.refusal.StreamRefusal.{StreamRefusal}
use Rattle.mk_bundle.specs.declared.refusal.StreamRefusal.TheVariants as refusals
use Rattle.mk_bundle.specs.Reads.{Reader, Read, Answers, Denies}
use Rattle.mk_bundle.proofs.Coming.{comes_kept, comes_more, end_from}
use Rattle.mk_bundle.proofs.Ending.{denies_later, last_completes}
use Rattle.mk_words.specs.Words.{Check}
use Rattle.mk_top.specs.Faults.{fault_of_bundle, fault_of_check}
use Rattle.mk_top.specs.Seen.{Seen}
use Rattle.mk_top.specs.Reading.{Reading, GivesBundle, IsInput}
use Rattle.mk_top.specs.Running.{NoBundle, NotMade, NoText, Made, Checked}
use Rattle.mk_top.proofs.Renamed.{bundle-pair}
use Rattle.mk_top.proofs.Allocated.{checks-made}
use Rattle.mk_top.proofs.Given.{no_bundle, came-whole, no_text-given, read-given, checks-given}

-- a new reader took nothing
pub reading-new : (left : Option (List ℕ)) (reader : Reader) → Read reader [] [] → reader.limit ≡ MOST_BYTES → Reading left left reader []
reading-new left reader read limit = record { taken = []; comes = comes_kept left; read = read; limit = limit }

-- an event more was answered
pub reading-next : (before now after : Option (List ℕ)) (old new : Reader) (e : Event) (events : List Event) (r : Reading before now old events)
    → new.limit ≡ old.limit → Answers e new r.taken events now after → Reading before after new (events ++ e ∷ [])
reading-next before now after old new e events r same h = record {
  taken = r.taken ++ h.came;
  comes = comes_more before now after r.taken h.came r.comes h.comes;
  read = h.read;
  limit = same ∙ r.limit;
}

-- the last event was answered
pub reading-whole : (before now after : Option (List ℕ)) (old new : Reader) (e : Event) (events : List Event) (r : Reading before now old events)
    → new.limit ≡ old.limit → Answers e new r.taken events now after → e ≡ event.End → GivesBundle before after events
reading-whole before now after old new e events r same h is =
    let done = last_completes e new r.taken events now after is h in
    let comes = comes_more before now after r.taken h.came r.comes h.comes in
    record {
      bytes = r.taken ++ h.came;
      code = done.code;
      cert = done.cert;
      text = done.text;
      gave = done.gave;
      within = omega (arith, h.read.count, h.read.within, same ∙ r.limit);
      whole = came-whole before after (r.taken ++ h.came) comes (end_from before now after r.taken r.comes done.end);
    }

-- a fault that was counted in a part was counted in the whole
pub rose-earlier : (input : Seen) (faults faults_after : ℕ) (after : Option (List ℕ)) → IsInput input faults after faults_after → Rose faults faults_after
    → Rose input.faults input.faults_after
rose-earlier input faults faults_after after is rose = omega (arith, is.fewer, is.counts, rose)

-- the text was refused
pub reading-denied : (input : Seen) (now : Option (List ℕ)) (old new : Reader) (events : List Event) (why : StreamRefusal)
    → (r : Reading input.before now old events) → new.limit ≡ old.limit → Denies why new.limit r.taken now input.after
    → (why ≡ refusals.Fault → Rose input.faults input.faults_after) → NoBundle input (fault_of_bundle why)
reading-denied input now old new events why r same denies rose =
    no_bundle input why rose
    (denies_later why MOST_BYTES [] r.taken input.before now input.after r.comes
    (subst (λ (n : ℕ). Denies why n r.taken now input.after) (same ∙ r.limit) denies))

-- a bundle that the rule refuses has no text
pub refused-text : (input : Seen) (events : List Event) (w : GivesBundle input.before input.after events) (e : CheckRefusal) → IsRefused w.code w.cert e
    → NoText Check input (fault_of_check e)
refused-text input events w e is = no_text-given {X = List ℕ} Check input w.bytes (Err (fault_of_check e)) w.within w.whole (by e is)
  where
    by : (x : CheckRefusal) → IsRefused w.code w.cert x → NotMade Check w.bytes (fault_of_check x)
    by (refused.Operand block) h = (w.code, w.cert, w.text, h)
    by (refused.Tile instr) h = (w.code, w.cert, w.text, h)
    by (refused.Output index) h = (w.code, w.cert, w.text, h)
    by (refused.Doubled value block) h = (w.code, w.cert, w.text, h)
    by refused.Memory h = tt

-- a bundle that the rule accepts was checked
pub accepted-text : (before after : Option (List ℕ)) (events : List Event) (w : GivesBundle before after events) → IsAccepted w.code w.cert → Checked before after
accepted-text before after events w is = record {
  bytes = w.bytes;
  code = w.code;
  cert = w.cert;
  text = w.text;
  accepted = is;
  within = w.within;
  whole = w.whole;
}

-- the same input, seen behind a later part
pub input-later : (input : Seen) (faults later counted : ℕ) (left : Option (List ℕ)) → IsInput input faults left counted → faults ≤ later → IsInput input later left counted
input-later input faults later counted left is more = record { fewer = omega (arith, is.fewer, more); after = is.after; counts = is.counts }

-- the images under the maps of a text are elements
element-maps : (field : FieldId) (maps : List AddMap) → HasMapsOnlyInBytes field maps → AllByRecursion MapFits maps → AreElementMaps field maps
element-maps Gf2 maps none fit = subst (AreElementMaps Gf2) (sym none) (All-nil (λ (m : AddMap). All (λ image. image < size Gf2) m.images))
element-maps Gf256 maps only fit = All-from_recursion (λ (m : AddMap). All (λ image. image < size Gf256) m.images) maps (bytes maps fit)
  where
    bytes : (ms : List AddMap) → AllByRecursion MapFits ms → AllByRecursion (λ (m : AddMap). All (λ image. image < size Gf256) m.images) ms
    bytes [] fits = tt
    bytes (m ∷ ms) fits = (All-from_recursion (λ b. b < 256) m.images fits.0.1, bytes ms fits.1)

-- a bundle that was checked makes the line that tells so
pub checked-made : (input : Seen) (line : List ℕ) → Checked input.before input.after → line ≡ codes "accepted\n" → Made Check input line
checked-made input line c is =
    let kept = bundle-pair c.bytes c.code c.cert c.text in
    let private = accepted_built_in-private c.code c.cert (element-maps c.code.field c.code.maps kept.listing.bytes kept.maps) c.accepted in
    record {
      read = read-given input.before input.after c.bytes MOST_BYTES c.within c.whole;
      makes = (checks-given input.before input.after c.bytes c.whole (checks-made c.bytes c.code c.cert c.text c.accepted private), is);
    }
