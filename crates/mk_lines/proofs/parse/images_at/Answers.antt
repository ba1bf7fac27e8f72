-- Image after image.
use Rattle.std.proofs.Common.{◌≡◌, ◌+◌, ◌-◌, ◌<◌, ◌++◌, ℕ, suc, List, [], ◌∷◌, length, take, Some, arith, ◌∙◌, ap, add-one, length-set}
use Rattle.std.proofs.Math.ListN.{set}
use Rattle.std.proofs.Math.Seq.{take-suc-set, take-length}
use Rattle.mk_lines.specs.Parsing.{◌>>=◌, images_at}
use Rattle.mk_lines.proofs.Loops.{image_more, image_stops, images_done, Images, fronted}
use Rattle.mk_lines.proofs.parse.images_at.Goals as goal

pub returns-in_err-image : goal.returns-in_err-image
returns-in_err-image c =
    let more : 8 - c.loop-index.index ≡ suc (7 - c.loop-index.index) = omega arith in
    let none = image_stops (take c.loop-index.index c.loop-index.images) _ _ c.loop-index.rest.now (images_at 8 c.args.bytes.now) more c.in_err-image.ensures c.loop-index.invariant.same in
    rw (c.from_residual.ensures) none

pub loop-index-preserved : goal.loop-index-preserved
loop-index-preserved c =
    let i = c.loop-index.index in
    let images = c.loop-index.images in
    let image = c.in_ok-image.image in
    let more : 8 - i ≡ suc (8 - (i + 1)) = omega arith in
    let eight : length images ≡ 8 = c.loop-index.invariant.eight in
    let low : i < length images = omega arith in
    let front : take (i + 1) (set images i image) ≡ take i images ++ image ∷ [] = rw add-one (take-suc-set images i image low) in
    let before = image_more (take i images) _ _ c.loop-index.rest.now c.in_ok-image.behind.now image (images_at 8 c.args.bytes.now) more c.in_ok-image.ensures c.loop-index.invariant.same in
    record {
      same = ap (λ (f : List ℕ). images_at (8 - (i + 1)) c.in_ok-image.behind.now >>= fronted f) front ∙ before;
      eight = length-set images i image ∙ eight;
    }

pub returns : goal.returns
returns c =
    let images = c.loop-index.images in
    let done : 8 - c.loop-index.index ≡ 0 = omega arith in
    let eight : length images ≡ 8 = c.loop-index.invariant.eight in
    let all : c.loop-index.index ≡ length images = omega arith in
    let whole : take c.loop-index.index images ≡ images = ap (λ (n : ℕ). take n images) all ∙ take-length images in
    images_done (take c.loop-index.index images) _ c.loop-index.rest.now (images_at 8 c.args.bytes.now) done c.loop-index.invariant.same
    ∙ ap (λ (f : List ℕ). let read : List ℕ × List ℕ = (f, c.loop-index.rest.now) in let found : Images = Some read in found) whole
