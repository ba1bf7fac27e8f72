use Rattle.std.proofs.Common.{ℕ, sym, ◌∙◌, List, ◌∷◌, subst, codes}
use Rattle.mk_parse.specs.Readers.{makes, every, past, says}
use Rattle.mk_parse.specs.Reading.{image_by, images_by}
use Rattle.mk_parse.proofs.Loops.{Going, passed, going_turn, going_end, going_stuck, parted_is}
use Rattle.mk_parse.proofs.StatementPhrases.{image_shorter}
use Rattle.mk_parse.proofs.cursor.Cursor.images.Goals as goal

pub returns-in_err-next_image : goal.returns-in_err-next_image
returns-in_err-next_image c =
    let reader = past (codes ",") image_by in
    let some = sym c.next_is.ensures ∙ c.loop-images-test.true in
    passed _ c.from_residual-in_err-next_image.result c.next_image.new.self (reader c.loop-images.self) (images_by c.args.self.now) c.from_residual-in_err-next_image.ensures.1
    (λ bad e. parted_is (codes ",") image_by c.args.self.now c.in_ok-first.first c.image.new.self c.in_ok-first.ensures
    ∙ going_stuck (says (codes ",")) reader c.loop-images.images c.loop-images.self bad _ c.loop-images.invariant some e) c.in_err-next_image.ensures

pub loop-images-preserved : goal.loop-images-preserved
loop-images-preserved c =
    let reader = past (codes ",") image_by in
    let some = sym c.next_is.ensures ∙ c.loop-images-test.true in
    let total = makes (λ (images : List ℕ). c.in_ok-first.first ∷ images) (every (says (codes ",")) reader) c.image.new.self in
    subst (λ (front : List ℕ). Going (says (codes ",")) reader front c.next_image.new.self total) (sym (c.in_ok-push-2.ensures).ok)
    (going_turn (says (codes ",")) reader c.loop-images.images c.loop-images.self c.in_ok-next_image.field-0 c.next_image.new.self total c.loop-images.invariant some c.in_ok-next_image.ensures
    (image_shorter c.loop-images.self c.in_ok-next_image.field-0 c.next_image.new.self c.in_ok-next_image.ensures))

pub returns : goal.returns
returns c =
    parted_is (codes ",") image_by c.args.self.now c.in_ok-first.first c.image.new.self c.in_ok-first.ensures
    ∙ going_end (says (codes ",")) (past (codes ",") image_by) c.loop-images.images c.loop-images.self _ c.loop-images.invariant (sym c.next_is.ensures ∙ c.loop-images-test.false)
