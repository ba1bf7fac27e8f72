-- Each bit that is set shows its place, until there are eight.
use Rattle.std.proofs.Common.{◌≡◌, ◌+◌, ◌*◌, ◌∷◌, ◌++◌, ℕ, List, [], map, take, ◌∙◌, ap, subst, arith}
use Rattle.mk_report.specs.declared.need.ProductPlace.{ProductPlace}
use Rattle.mk_report.specs.Rows.{bits_between, place_for}
use Rattle.mk_report.proofs.Bits.{has-off, has-on, show-full, show-more, show-still}
use Rattle.mk_report.proofs.need.show_word.Goals as goal
use Rattle.mk_report.proofs.need.show_word.Goals.{then-len-lt-SHOWN+then-has_bit+in_ok-push, else-len-lt-SHOWN, else-len-lt-SHOWN-via-then-len-lt-SHOWN+else-has_bit, else-len-lt-SHOWN-via-else-len-lt-SHOWN}

pub loop-at-preserved : goal.loop-at-preserved
loop-at-preserved c =
    let row : List ℕ = c.args.row.now in
    let f : ℕ → ProductPlace = place_for c.args.products.now in
    let a : ℕ = 64 * c.args.word in
    let n : ℕ = c.loop-at.at in
    elim c.if-len-lt-SHOWN.branch [
      | then-len-lt-SHOWN+then-has_bit+in_ok-push w ↦
          w.shown-is ∙ w.in_ok-push.ensures.ok ∙ ap (λ (p : ProductPlace). c.loop-at.shown ++ p ∷ []) w.place_of.ensures
          ∙ show-more row f c.args.shown.now c.loop-at.shown a n c.loop-at.invariant (has-on row (a + n) (w.has_bit.ensures.0 w.if-has_bit.true))
          (omega (arith, c.len.ensures.count, w.if-len-lt-SHOWN.true))
      | else-len-lt-SHOWN w ↦ elim w.else-len-lt-SHOWN.branch [
        | else-len-lt-SHOWN-via-then-len-lt-SHOWN+else-has_bit w' ↦
            w.shown-is
            ∙ show-still row f c.args.shown.now c.loop-at.shown a n c.loop-at.invariant
            (has-off row (a + n) (λ set. absurd (cc (w'.has_bit.ensures.1 set, w'.if-has_bit.false))))
        | else-len-lt-SHOWN-via-else-len-lt-SHOWN w' ↦
            w.shown-is
            ∙ show-full row f c.args.shown.now c.loop-at.shown a n c.loop-at.invariant (omega (arith, c.len.ensures.count, w'.if-len-lt-SHOWN.false))
      ]
    ]

pub returns : goal.returns
returns c =
    let all : c.loop-at.at ≡ 64 = omega (arith, c.loop-at-test.false, c.loop-at.auto.at-end) in
    subst (λ (n : ℕ). c.loop-at.shown ≡ take 8 (c.args.shown.now ++ map (place_for c.args.products.now) (bits_between c.args.row.now (64 * c.args.word) n))) all
    c.loop-at.invariant
