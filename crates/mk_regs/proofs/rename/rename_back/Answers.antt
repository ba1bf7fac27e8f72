-- The renamed code fits together.
use Rattle.std.proofs.Common.{◌≡◌, ℕ, ◌+◌, List, Option, None, map, sym, ◌∙◌, ap, arith}
use Rattle.mk_regs.specs.declared.instr.RegInstr.{RegInstr}
use Rattle.mk_regs.specs.Form.{entries_len}
use Rattle.mk_regs.specs.Renaming.{position_in, held_on_entry, held_behind, held_at_end, renamed_instrs, renamed, first_refusal, refusal_of}
use Rattle.mk_regs.specs.Renamer.{Renaming}
use Rattle.mk_regs.proofs.Renames.{renamed-fits}
use Rattle.mk_regs.proofs.rename.rename_back.Goals as goal

pub new-requires-2 : goal.new-requires-2
new-requires-2 c =
    let r = c.args.r.now in
    let start : Renaming = record { held = held_on_entry (entries_len r) r.registers; entries = entries_len r; accepted = 0 } in
    let begun : c.in_ok-renamer.renamer ≡ start = rw (c.entries.ensures.value, c.registers.ensures) at c.in_ok-renamer.ensures in
    let own : c.as_slice.result.now ≡ r.instrs = c.as_slice.ensures.items ∙ c.instrs.ensures in
    let ends : c.as_slice-2.result.now ≡ r.outs = c.as_slice-2.ensures.items ∙ c.outs.ensures in
    let zero : entries_len r + 0 ≡ entries_len r = omega arith in
    let maps : c.in_ok-maps.maps ≡ r.maps = c.in_ok-maps.ensures ∙ c.maps.ensures in
    let instrs : c.in_ok-instrs.instrs ≡ (renamed r).instrs =
    c.in_ok-instrs.ensures.renamed
    ∙ ap (λ (s : Renaming). renamed_instrs s.held (s.entries + s.accepted) c.as_slice.result.now) begun
    ∙ ap (λ (is : List RegInstr). renamed_instrs start.held (entries_len r + 0) is) own
    ∙ ap (λ (n : ℕ). renamed_instrs start.held n r.instrs) zero in
    let held : c.rename_instrs.new.renamer.held ≡ held_at_end r =
    c.in_ok-instrs.ensures.held
    ∙ ap (λ (s : Renaming). held_behind s.held (s.entries + s.accepted) c.as_slice.result.now) begun
    ∙ ap (λ (is : List RegInstr). held_behind start.held (entries_len r + 0) is) own
    ∙ ap (λ (n : ℕ). held_behind start.held n r.instrs) zero in
    let outs : c.in_ok-outs.outs ≡ (renamed r).outs =
    c.in_ok-outs.ensures.renamed
    ∙ ap (λ (h : List (Option ℕ)). map (position_in h) c.as_slice-2.result.now) held
    ∙ ap (map (position_in (held_at_end r))) ends in
    let none : refusal_of r ≡ None =
    ap (λ (qs : List ℕ). first_refusal (entries_len r) 0 start.held r.instrs qs) (sym ends)
    ∙ ap (λ (is : List RegInstr). first_refusal (entries_len r) 0 start.held is c.as_slice-2.result.now) (sym own)
    ∙ ap (λ (s : Renaming). first_refusal s.entries s.accepted s.held c.as_slice.result.now c.as_slice-2.result.now) (sym begun)
    ∙ c.in_ok-instrs.ensures.accepted c.as_slice-2.result.now
    ∙ c.in_ok-outs.ensures.accepted in
    rw (c.field.ensures, c.order.ensures, c.secrets.ensures, c.publics.ensures, maps, instrs, outs) (renamed-fits r c.law.ensures none)
