-- The first line is read, or no bundle text goes on.
use Rattle.std.proofs.Common.{◌≡◌, ℕ, ◌+◌, true, List, length, Option, Some, None, refl, sym, ap, subst, ◌∙◌, arith}
use Rattle.mk_lines.specs.Words.{is_line}
use Rattle.mk_bundle.specs.declared.draft.Stage.TheVariants.{Ended}
use Rattle.mk_bundle.specs.declared.event.Event.{Event}
use Rattle.mk_bundle.specs.Noting.{Noted, noted_of, line_noted}
use Rattle.mk_bundle.specs.Taking.{Held}
use Rattle.mk_bundle.specs.Reads.{Reader, IsGoing}
use Rattle.mk_bundle.specs.Stepping.{Passed, Reached, Tells}
use Rattle.mk_lines.proofs.Steps.{no_bytes, some_bytes}
use Rattle.mk_bundle.proofs.Stepping.{wrong_line, wrong_empty, wrong_long, stepped_quiet, stepped_last, stepped_told, behind_line}
use Rattle.mk_bundle.proofs.reader.BundleReader.step_any.Goals as goal

pub returns-then-len-ge-MOST_LINE : goal.returns-then-len-ge-MOST_LINE
returns-then-len-ge-MOST_LINE c =
    let held : c.self.inside.input.pending ≡ c.args.self.now.pending = ap (λ (r : Reader). r.pending) c.self.view_is in
    let clean : is_line c.args.self.now.pending ≡ true = sym (ap is_line held) ∙ c.in_default.ensures in record {
      limit = refl;
      lines = refl;
      count = refl;
      wrong = wrong_long c.args.self.now clean (omega (arith, ap length held, c.len.ensures.value, c.if-len-ge-MOST_LINE.true)) c.requires.going;
    }

pub returns-then-is_empty : goal.returns-then-is_empty
returns-then-is_empty c =
    let held : c.self.inside.input.pending ≡ c.args.self.now.pending = ap (λ (r : Reader). r.pending) c.self.view_is in
    let line = c.in-Some.line.now in record {
      limit = refl;
      lines = refl;
      count = refl;
      wrong = wrong_empty c.args.self.now line c.in-Some.ensures.1.0 c.in-Some.ensures.0 (sym held ∙ c.in-Some.ensures.1.1) c.requires.going (no_bytes line c.is_empty.result c.is_empty.ensures c.if-is_empty.true);
    }

pub returns-in-Err-Form : goal.returns-in-Err-Form
returns-in-Err-Form c =
    let held : c.self.inside.input.pending ≡ c.args.self.now.pending = ap (λ (r : Reader). r.pending) c.self.view_is in
    let seen : noted_of c.self.inside.notes ≡ c.args.self.now.noted = ap (λ (r : Reader). r.noted) c.self.view_is in
    let line = c.in-Some.line.now in
    let none : line_noted (noted_of c.self.inside.notes) line ≡ None = rw c.in-Err-Form.field-0-is at c.in-Err-Form.ensures.steps in record {
      limit = ap (λ (r : Reader). r.limit) c.self.view_is;
      lines = ap (λ (r : Reader). r.lines) c.self.view_is;
      count = ap (λ (r : Reader). r.count) c.self.view_is;
      wrong = wrong_line c.args.self.now line c.in-Some.ensures.1.0 c.in-Some.ensures.0 (sym held ∙ c.in-Some.ensures.1.1) c.requires.going (sym (ap (λ (n : Noted). line_noted n line) seen) ∙ none);
    }

pub returns-in_default-told : goal.returns-in_default-told
returns-in_default-told c =
    let line = c.in-Some.line.now in
    let behind = c.in-Some.ensures.1.0 in
    let was : Reader = record { noted = noted_of c.self.inside.notes; waiting = c.self.inside.waiting; lines = c.self.inside.lines; pending = c.self.inside.input.pending; count = c.self.inside.input.count; limit = c.self.inside.input.limit } in
    let left : Noted = noted_of c.read_noted.new.notes in
    let mid : Reader = record { noted = left; waiting = c.self.inside.waiting; lines = c.self.inside.lines + 1; pending = c.pass.new.self.pending; count = c.pass.new.self.count; limit = c.pass.new.self.limit } in
    let held : c.pass.new.self ≡ record c.self.inside.input { pending = behind } = c.pass.ensures ∙ ap (λ (p : List ℕ). record c.self.inside.input { pending = p }) (behind_line c.self.inside.input.pending line behind c.in-Some.ensures.1.1) in
    let is : mid ≡ record was { noted = left; lines = was.lines + 1; pending = behind } =
    ap (λ (h : Held). record was { noted = left; lines = was.lines + 1; pending = h.pending; count = h.count; limit = h.limit }) held in
    let free : was.waiting ≡ None = ap (λ (r : Reader). r.waiting) c.self.view_is ∙ c.requires.waiting in
    let going : IsGoing was = λ ended. c.requires.going (sym (ap (λ (r : Reader). r.noted.seen.stage) c.self.view_is) ∙ ended) in
    let some = some_bytes line c.is_empty.result c.is_empty.ensures c.if-is_empty.false in
    let counted : line_noted was.noted line ≡ Some (left, None) = subst (λ (t : Option Event). line_noted was.noted line ≡ Some (left, t)) c.in_default-told.is c.in-Ok.ensures.steps in
    subst (λ (o : Reader). Passed o mid) c.self.view_is (stepped_quiet was mid left line behind free going c.in-Some.ensures.0 c.in-Some.ensures.1.1 some counted is)

pub returns-then-is_ended : goal.returns-then-is_ended
returns-then-is_ended c =
    let line = c.in-Some.line.now in
    let behind = c.in-Some.ensures.1.0 in
    let was : Reader = record { noted = noted_of c.self.inside.notes; waiting = c.self.inside.waiting; lines = c.self.inside.lines; pending = c.self.inside.input.pending; count = c.self.inside.input.count; limit = c.self.inside.input.limit } in
    let left : Noted = noted_of c.read_noted.new.notes in
    let mid : Reader = record { noted = left; waiting = c.self.inside.waiting; lines = c.self.inside.lines + 1; pending = c.pass.new.self.pending; count = c.pass.new.self.count; limit = c.pass.new.self.limit } in
    let held : c.pass.new.self ≡ record c.self.inside.input { pending = behind } = c.pass.ensures ∙ ap (λ (p : List ℕ). record c.self.inside.input { pending = p }) (behind_line c.self.inside.input.pending line behind c.in-Some.ensures.1.1) in
    let is : mid ≡ record was { noted = left; lines = was.lines + 1; pending = behind } =
    ap (λ (h : Held). record was { noted = left; lines = was.lines + 1; pending = h.pending; count = h.count; limit = h.limit }) held in
    let free : was.waiting ≡ None = ap (λ (r : Reader). r.waiting) c.self.view_is ∙ c.requires.waiting in
    let going : IsGoing was = λ ended. c.requires.going (sym (ap (λ (r : Reader). r.noted.seen.stage) c.self.view_is) ∙ ended) in
    let some = some_bytes line c.is_empty.result c.is_empty.ensures c.if-is_empty.false in
    let e = c.in-Some-told.event in
    let counted : line_noted was.noted line ≡ Some (left, Some e) = subst (λ (t : Option Event). line_noted was.noted line ≡ Some (left, t)) c.in-Some-told.is c.in-Ok.ensures.steps in
    subst (λ (o : Reader). Reached o mid) c.self.view_is (stepped_last was mid left e line behind free going c.in-Some.ensures.0 c.in-Some.ensures.1.1 some counted (c.is_ended.ensures.0 c.if-is_ended.true) is)

pub returns-else-is_ended : goal.returns-else-is_ended
returns-else-is_ended c =
    let line = c.in-Some.line.now in
    let behind = c.in-Some.ensures.1.0 in
    let was : Reader = record { noted = noted_of c.self.inside.notes; waiting = c.self.inside.waiting; lines = c.self.inside.lines; pending = c.self.inside.input.pending; count = c.self.inside.input.count; limit = c.self.inside.input.limit } in
    let left : Noted = noted_of c.read_noted.new.notes in
    let mid : Reader = record { noted = left; waiting = c.self.inside.waiting; lines = c.self.inside.lines + 1; pending = c.pass.new.self.pending; count = c.pass.new.self.count; limit = c.pass.new.self.limit } in
    let held : c.pass.new.self ≡ record c.self.inside.input { pending = behind } = c.pass.ensures ∙ ap (λ (p : List ℕ). record c.self.inside.input { pending = p }) (behind_line c.self.inside.input.pending line behind c.in-Some.ensures.1.1) in
    let is : mid ≡ record was { noted = left; lines = was.lines + 1; pending = behind } =
    ap (λ (h : Held). record was { noted = left; lines = was.lines + 1; pending = h.pending; count = h.count; limit = h.limit }) held in
    let free : was.waiting ≡ None = ap (λ (r : Reader). r.waiting) c.self.view_is ∙ c.requires.waiting in
    let going : IsGoing was = λ ended. c.requires.going (sym (ap (λ (r : Reader). r.noted.seen.stage) c.self.view_is) ∙ ended) in
    let some = some_bytes line c.is_empty.result c.is_empty.ensures c.if-is_empty.false in
    let e = c.in-Some-told.event in
    let counted : line_noted was.noted line ≡ Some (left, Some e) = subst (λ (t : Option Event). line_noted was.noted line ≡ Some (left, t)) c.in-Some-told.is c.in-Ok.ensures.steps in
    let other : left.seen.stage ≡ Ended → ⊥ = λ ended. (let yes : c.is_ended.result ≡ true = c.is_ended.ensures.1 ended in absurd (cc (yes, c.if-is_ended.false))) in
    subst (λ (o : Reader). Tells c.told.result o c.told.new.self) c.self.view_is
    (stepped_told was mid c.told.new.self left e c.told.result c.has_begun-begun.result line behind free going c.in-Some.ensures.0 c.in-Some.ensures.1.1 some counted other is (sym c.has_begun-begun.ensures) c.told.ensures)
