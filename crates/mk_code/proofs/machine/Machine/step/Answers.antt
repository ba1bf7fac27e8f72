-- The next entry, and what is left to do behind it.
use Rattle.std.proofs.Common.{arith, ◌≡◌, ◌<◌, ℕ, ◌++◌, ◌∷◌, [], length, slice_index_or, ◌∙◌, ap}
use Rattle.mk_field.specs.Field.{size}
use Rattle.mk_code.specs.declared.instr.Instr.TheVariants.{Rnd}
use Rattle.mk_code.specs.Listing.{FitsAt}
use Rattle.mk_code.specs.Trace.{takes, entry}
use Rattle.mk_code.specs.Machine.{Progress, next}
use Rattle.mk_code.specs.Used.{words}
use Rattle.mk_code.proofs.Steps.{IsProgress-step, next-fits, outcome-step, needed-step}
use Rattle.mk_code.proofs.machine.Machine.step.Goals as goal

pub invariant_of-self : goal.invariant_of-self
invariant_of-self c =
    let m = c.self.inside in
    let p : Progress = record { code = m.code.now; at = m.at; entries = m.entries.items } in
    let left : m.at < length m.code.now.instrs = rw (← c.self.view_is) at c.requires.left in
    let element : c.value-value.result < size m.code.now.field = rw (← c.self.view_is) at c.value-value.ensures.element in (
      rw c.push_reserved.ensures.items (IsProgress-step p c.value-value.result c.self.invariant.0 left element),
      c.self.invariant.1,
      omega (arith, c.push_reserved.ensures.capacity, c.self.invariant.2),
    )

pub value-value-requires-clause-fits : goal.value-value-requires-clause-fits
value-value-requires-clause-fits c =
    let m = c.self.inside in
    let p : Progress = record { code = m.code.now; at = m.at; entries = m.entries.items } in
    let left : m.at < length m.code.now.instrs = rw (← c.self.view_is) at c.requires.left in
    let fits : FitsAt p.code.field (length p.code.maps) (length p.entries) (next p) = next-fits p c.self.invariant.1 c.self.invariant.0 left in
    let same : c.as_slice.result.now ≡ m.code.now.instrs = c.as_slice.ensures.items ∙ c.instrs.ensures in
    rw (← c.self.view_is) (rw same fits)

pub returns-clause-needed : goal.returns-clause-needed
returns-clause-needed c =
    let m = c.self.inside in
    let p : Progress = record { code = m.code.now; at = m.at; entries = m.entries.items } in
    let left : m.at < length m.code.now.instrs = rw (← c.self.view_is) at c.requires.left in
    let same : c.as_slice.result.now ≡ m.code.now.instrs = c.as_slice.ensures.items ∙ c.instrs.ensures in
    let took : words c.used_by.result ≡ takes (next p) = rw same at c.used_by.ensures in
    rw (← c.self.view_is) (needed-step p c.used_by.result c.args.word left took)

pub returns-clause-outcome : goal.returns-clause-outcome
returns-clause-outcome c = λ tape agrees.
    let m = c.self.inside in
    let p : Progress = record { code = m.code.now; at = m.at; entries = m.entries.items } in
    let left : m.at < length m.code.now.instrs = rw (← c.self.view_is) at c.requires.left in
    let same : c.as_slice.result.now ≡ m.code.now.instrs = c.as_slice.ensures.items ∙ c.instrs.ensures in
    let took : words c.used_by.result ≡ takes (next p) = rw same at c.used_by.ensures in
    let here : c.value-value.result ≡ entry p.code.field p.code.maps (slice_index_or c.as_slice.result.now m.at Rnd) c.args.word p.entries =
    rw (← c.self.view_is) at c.value-value.ensures.value in
    let entries : c.push_reserved.new.self.items ≡ p.entries ++ entry p.code.field p.code.maps (next p) c.args.word p.entries ∷ [] =
    c.push_reserved.ensures.items ∙ ap (λ (a : ℕ). p.entries ++ a ∷ []) (rw same at here) in
    rw (← c.self.view_is) (rw entries (outcome-step p c.used_by.result c.args.word tape left took agrees))
