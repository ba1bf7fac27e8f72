-- One word after the other.
use Rattle.std.proofs.Common.{◌≡◌, ◌%◌, ◌^◌, ℕ, ◌+◌, List, [], ◌∷◌, ◌++◌, sym, ap, ◌∙◌, subst, arith, add-one}
use Rattle.std.proofs.Math.Nat.{mod-eq_of_lt}
use Rattle.rand_chacha.specs.ChaCha.{ChaCha, key_of, word_at, next_word}
use Rattle.mk_field.specs.Field.{size}
use Rattle.mk_code.specs.Counting.{Elements}
use Rattle.mk_code.proofs.Totals.{Elements-nil}
use Rattle.mk_code.proofs.Steps.{Elements-push}
use Rattle.mk_run.specs.Seed.{seed_tape, seed_element}
use Rattle.mk_run.proofs.seed.tape_from_seed.Goals as goal

pub loop-init : goal.loop-init
unfolding seed_tape
loop-init c =
    (c.from_seed-words.ensures, c.in_ok-tape.ensures.items, subst (Elements (size c.args.field) 0) (sym c.in_ok-tape.ensures.items) (Elements-nil (size c.args.field)), c.in_ok-tape.ensures.capacity)

pub loop-preserved : goal.loop-preserved
unfolding seed_tape
loop-preserved c =
    let l = c.loop in
    let field = c.args.field in
    let seed = c.args.seed.now in
    let at : ChaCha = record { key = key_of seed; stream = 0; word_pos = l.counter } in
    let step : (c.next_word.result, c.next_word.new.self) ≡ next_word 10 at = c.next_word.ensures ∙ ap (next_word 10) l.invariant.0 in
    let word : c.next_word.result ≡ word_at 10 (key_of seed) 0 l.counter = ap (λ (p : ℕ × ChaCha). p.0) step in
    let element : c.element_of.result ≡ seed_element field seed l.counter = c.element_of.ensures.value ∙ ap (λ (w : ℕ). w % size field) word in
    let place : (l.counter + 1) % 2 ^ 68 ≡ l.counter + 1 = mod-eq_of_lt (omega (arith, c.loop-test.true, c.ranges.len.fits)) in
    let items : c.push_reserved.new.self.items ≡ seed_tape field seed l.counter ++ seed_element field seed l.counter ∷ [] =
    c.push_reserved.ensures.items ∙ ap (λ (xs : List ℕ). xs ++ c.element_of.result ∷ []) l.invariant.1 ∙ ap (λ (a : ℕ). seed_tape field seed l.counter ++ a ∷ []) element in (
      ap (λ (p : ℕ × ChaCha). p.1) step ∙ ap (λ (n : ℕ). record { key = key_of seed; stream = 0; word_pos = n }) place,
      items ∙ sym (ap (seed_tape field seed) (add-one l.counter)),
      subst (Elements (size field) (l.counter + 1)) (sym c.push_reserved.ensures.items) (Elements-push (size field) l.counter c.element_of.result l.tape.items l.invariant.2 c.element_of.ensures.element),
      omega (arith, l.invariant.3, c.push_reserved.ensures.capacity),
    )
