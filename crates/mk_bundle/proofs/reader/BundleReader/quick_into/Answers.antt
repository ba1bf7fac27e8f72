-- The line of an instruction over registers is noted, and its event is answered, if it has one.
use Rattle.std.proofs.Common.{◌≡◌, ℕ, ◌+◌, true, List, drop, Option, None, sym, ap, subst, ◌∙◌}
use Rattle.std.specs.Prelude.{IfSome}
use Rattle.mk_code.specs.declared.instr.Instr.{Instr}
use Rattle.mk_regs.specs.declared.instr.RegInstr.{RegInstr}
use Rattle.mk_regs.specs.Form.{into_register}
use Rattle.mk_bundle.specs.declared.draft.Stage.TheVariants.{Lower}
use Rattle.mk_bundle.specs.declared.notes.Form.TheVariants as form
use Rattle.mk_bundle.specs.declared.step.Step.{Step}
use Rattle.mk_bundle.specs.Counting.{Seen}
use Rattle.mk_bundle.specs.Noting.{Noted, noted_of, register_counts, form_behind, instr_event}
use Rattle.mk_bundle.specs.Taking.{Held, IsIntoLine}
use Rattle.mk_bundle.specs.Reads.{Reader}
use Rattle.mk_bundle.specs.Stepping.{Stepped}
use Rattle.mk_bundle.proofs.Stepping.{behind_line}
use Rattle.mk_bundle.proofs.Intos.{kept_behind, into_told, into_quiet}
use Rattle.mk_bundle.proofs.reader.BundleReader.quick_into.Goals.{in-Some, in-None}
use Rattle.mk_bundle.proofs.reader.BundleReader.quick_into.Goals as goal

pub returns-clause-some : goal.returns-clause-some
returns-clause-some c =
    let x : ℕ × Instr = (c.in_ok-to.to, c.in_ok-to.operation) in
    let len = c.in_ok-to.len in
    let was : Reader = record { noted = noted_of c.self.inside.notes; waiting = c.self.inside.waiting; lines = c.self.inside.lines; pending = c.self.inside.input.pending; count = c.self.inside.input.count; limit = c.self.inside.input.limit } in
    let h : IsIntoLine x len was.pending = c.in_ok-to.ensures.some in
    let left : Noted = kept_behind was.noted x in
    let mid : Reader = record { noted = noted_of c.note_instr-told.new.notes; waiting = c.self.inside.waiting; lines = c.self.inside.lines + 1; pending = c.pass.new.self.pending; count = c.pass.new.self.count; limit = c.pass.new.self.limit } in
    let behind : drop (len + 1) was.pending ≡ h.behind = ap (λ (n : ℕ). drop (n + 1) was.pending) (sym h.len) ∙ behind_line was.pending h.line h.behind h.here in
    let held : c.pass.new.self ≡ record c.self.inside.input { pending = h.behind } = c.pass.ensures ∙ ap (λ (p : List ℕ). record c.self.inside.input { pending = p }) behind in
    let seen : Seen = record was.noted.seen { instrs = was.noted.seen.instrs + 1 } in
    let noted : noted_of c.note_instr-told.new.notes ≡ left =
    c.note_instr-told.ensures.noted ∙ ap {B = Noted} (λ (i : RegInstr). record { seen = seen; form = form_behind was.noted.form i }) c.new.ensures in
    let is : mid ≡ record was { noted = left; lines = was.lines + 1; pending = h.behind } =
    ap (λ (n : Noted). record was { noted = n; lines = was.lines + 1; pending = c.pass.new.self.pending; count = c.pass.new.self.count; limit = c.pass.new.self.limit }) noted
    ∙ ap (λ (n : Held). record was { noted = left; lines = was.lines + 1; pending = n.pending; count = n.count; limit = n.limit }) held in
    let free : was.waiting ≡ None = ap (λ (r : Reader). r.waiting) c.self.view_is ∙ c.requires.waiting in
    let over : was.noted.form ≡ form.Positions → ⊥ = λ e. c.requires.form (sym (ap (λ (r : Reader). r.noted.form) c.self.view_is) ∙ e) in
    let lower : was.noted.seen.stage ≡ Lower = ap (λ (r : Reader). r.noted.seen.stage) c.self.view_is ∙ c.requires.stage in
    let counts : register_counts was.noted.seen x.1 ≡ true = sym c.may_register_instr.ensures.counts ∙ c.if-not-may_register_instr.false in
    let tells : instr_event was.noted.form (into_register x.0 x.1) ≡ c.note_instr-told.result = ap (instr_event was.noted.form) (sym c.new.ensures) ∙ sym c.note_instr-told.ensures.event in
    subst (λ (o : Reader). IfSome c.match-told.result (λ s. Stepped s o mid)) c.self.view_is (elim c.match-told.branch [
      | in-Some w ↦ subst (λ (r : Option Step). IfSome r (λ s. Stepped s was mid)) (sym w.result-is) (into_told was mid x len w.in-Some.event h free over lower counts is (tells ∙ w.in-Some.is))
      | in-None w ↦ subst (λ (r : Option Step). IfSome r (λ s. Stepped s was mid)) (sym w.result-is) (into_quiet was mid x len h free over lower counts is (tells ∙ w.in-None.is))
    ])
