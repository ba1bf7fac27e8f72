-- One register more, and all registers at the end.
use Rattle.std.proofs.Common.{◌≡◌, ◌++◌, [], ◌∷◌, ℕ, List, Option, Some, None, Bool, if◌then◌else◌, length, map, sym, ◌∙◌, ap, arith}
use Rattle.std.proofs.lemmas.Bool.{lt-ltb, le-ltb}
use Rattle.std.proofs.lemmas.List.{map-append}
use Rattle.std.proofs.lemmas.List.FromFn.{map-range_with_len_more}
use Rattle.mk_regs.specs.Renamer.{held_by}
use Rattle.mk_regs.proofs.Held.{on_entry, held-length, held_by-number, held_by-nothing}
use Rattle.mk_regs.proofs.renamer.Renamer.new.Goals as goal
use Rattle.mk_regs.proofs.renamer.Renamer.new.Goals.{then-register-entries, else-register-entries}

pub loop-register-preserved : goal.loop-register-preserved
loop-register-preserved c =
    let n = c.args.entries in
    let r = c.loop-register.register in
    let new : ℕ = c.if-register-entries.push in
    let here : held_by new ≡ on_entry n r = elim c.if-register-entries.branch [
      | then-register-entries w ↦ ap held_by w.push-is ∙ held_by-number r (omega arith)
          ∙ sym (ap (λ (b : Bool). if b then Some r else None) (lt-ltb r n w.if-register-entries.true))
      | else-register-entries w ↦ ap held_by w.push-is ∙ held_by-nothing
          ∙ sym (ap (λ (b : Bool). if b then Some r else None) (le-ltb r n w.if-register-entries.false))
    ] in
    ap (map held_by) c.in_ok-push.ensures.items
    ∙ map-append held_by c.loop-register.held.items (new ∷ [])
    ∙ ap (λ (o : Option ℕ). map held_by c.loop-register.held.items ++ o ∷ []) here
    ∙ ap (λ (held : List (Option ℕ)). held ++ on_entry n r ∷ []) c.loop-register.invariant
    ∙ sym (map-range_with_len_more (on_entry n) 0 r r (omega arith))

pub invariant_of-result : goal.invariant_of-result
invariant_of-result c =
    let all : length (map held_by c.loop-register.held.items) ≡ c.args.registers =
    ap length c.loop-register.invariant ∙ held-length c.args.entries c.loop-register.register ∙ omega arith in
    record { entries = omega (arith, all); registers = omega (arith, all); few = omega arith }
