-- The line of an instruction is counted, and its event is answered.
use Rattle.std.proofs.Common.{◌≡◌, ℕ, ◌+◌, true, List, drop, None, sym, ap, subst, ◌∙◌}
use Rattle.mk_bundle.specs.declared.draft.Stage.TheVariants.{Lower}
use Rattle.mk_bundle.specs.declared.event.Event.TheVariants as event
use Rattle.mk_bundle.specs.declared.notes.Form.TheVariants as form
use Rattle.mk_bundle.specs.Counting.{Seen, seen_of, instr_counts}
use Rattle.mk_bundle.specs.Noting.{Noted, noted_of}
use Rattle.mk_bundle.specs.Taking.{Held, IsInstrLine}
use Rattle.mk_bundle.specs.Reads.{Reader}
use Rattle.mk_bundle.specs.Stepping.{Tells}
use Rattle.mk_bundle.proofs.Stepping.{behind_line}
use Rattle.mk_bundle.proofs.Instrs.{instr_told}
use Rattle.mk_bundle.proofs.reader.BundleReader.quick_instr.Goals as goal

pub returns-clause-some : goal.returns-clause-some
returns-clause-some c =
    let i = c.in_ok-instr.instr in
    let len = c.in_ok-instr.len in
    let was : Reader = record { noted = noted_of c.self.inside.notes; waiting = c.self.inside.waiting; lines = c.self.inside.lines; pending = c.self.inside.input.pending; count = c.self.inside.input.count; limit = c.self.inside.input.limit } in
    let h : IsInstrLine i len was.pending = c.in_ok-instr.ensures.some in
    let left : Noted = record was.noted { seen = record was.noted.seen { instrs = was.noted.seen.instrs + 1 } } in
    let mid : Reader = record { noted = record was.noted { seen = seen_of c.count_instr.new.draft }; waiting = c.self.inside.waiting; lines = c.self.inside.lines + 1; pending = c.pass.new.self.pending; count = c.pass.new.self.count; limit = c.pass.new.self.limit } in
    let behind : drop (len + 1) was.pending ≡ h.behind = ap (λ (n : ℕ). drop (n + 1) was.pending) (sym h.len) ∙ behind_line was.pending h.line h.behind h.here in
    let held : c.pass.new.self ≡ record c.self.inside.input { pending = h.behind } = c.pass.ensures ∙ ap (λ (p : List ℕ). record c.self.inside.input { pending = p }) behind in
    let is : mid ≡ record was { noted = left; lines = was.lines + 1; pending = h.behind } =
    ap (λ (s : Seen). record was { noted = record was.noted { seen = s }; lines = was.lines + 1; pending = c.pass.new.self.pending; count = c.pass.new.self.count; limit = c.pass.new.self.limit }) c.count_instr.ensures
    ∙ ap (λ (n : Held). record was { noted = left; lines = was.lines + 1; pending = n.pending; count = n.count; limit = n.limit }) held in
    let free : was.waiting ≡ None = ap (λ (r : Reader). r.waiting) c.self.view_is ∙ c.requires.waiting in
    let over : was.noted.form ≡ form.Positions = ap (λ (r : Reader). r.noted.form) c.self.view_is ∙ c.requires.form in
    let lower : was.noted.seen.stage ≡ Lower = ap (λ (r : Reader). r.noted.seen.stage) c.self.view_is ∙ c.requires.stage in
    let counts : instr_counts was.noted.seen i ≡ true = sym c.may_instr.ensures.counts ∙ c.if-not-may_instr.false in
    subst (λ (o : Reader). Tells (event.Instr i) o mid) c.self.view_is (instr_told was mid i len h free over lower counts is)
