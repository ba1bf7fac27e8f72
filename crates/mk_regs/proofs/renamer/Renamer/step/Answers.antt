-- The register that is written holds the position of the new entry.
use Rattle.std.proofs.Common.{◌≡◌, ℕ, ◌+◌, ◌<◌, List, Option, Some, map, set, ◌∙◌, ap, arith}
use Rattle.std.proofs.lemmas.List.{map-set}
use Rattle.mk_regs.specs.declared.renamer.TheConstants.{NOTHING}
use Rattle.mk_regs.specs.Form.{target}
use Rattle.mk_regs.specs.Renamer.{Renaming, behind, held_by}
use Rattle.mk_regs.proofs.Held.{held_by-number}
use Rattle.mk_regs.proofs.renamer.Renamer.step.Goals as goal

pub returns-clause-behind : goal.returns-clause-behind
returns-clause-behind c =
    let before = c.self.inside in
    let n : ℕ = before.entries + before.accepted in
    let below : n < NOTHING = omega (arith, c.self.invariant.entries, c.self.invariant.registers, c.self.invariant.few) in
    let table : map held_by (set before.held.items c.target-target.result n) ≡ set (map held_by before.held.items) (target c.args.i.now) (Some n) =
    map-set held_by before.held.items c.target-target.result n
    ∙ ap (λ (o : Option ℕ). set (map held_by before.held.items) c.target-target.result o) (held_by-number n below)
    ∙ ap (λ (r : ℕ). set (map held_by before.held.items) r (Some n)) c.target-target.ensures in
    ap (λ (held : List (Option ℕ)). record { held = held; entries = before.entries; accepted = before.accepted + 1 }) table
    ∙ ap (λ (s : Renaming). behind s c.args.i.now) c.self.view_is
