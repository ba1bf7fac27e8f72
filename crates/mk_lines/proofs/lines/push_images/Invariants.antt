-- What is appended for the images so far, which are bytes.
use Rattle.std.proofs.Common.{◌≡◌, ◌<◌, ◌+◌, ◌*◌, ◌++◌, take, flat_map}
use Rattle.std.specs.List.{AllByRecursion}
use Rattle.arrayvec.specs.ArrayString.{array_string_len}
use Rattle.mk_field.specs.Digits.{hex_byte}
use Rattle.mk_lines.proofs.lines.push_images.Given as goal

abbrev pub invariant-loop-image : goal.invariant-loop-image
invariant-loop-image l = record {
  text : l.line.bytes ≡ l.initial.line.bytes ++ flat_map hex_byte (take l.image-index l.images);
  fits : AllByRecursion (λ b. b < 256) (take l.image-index l.images);
  len : array_string_len l.line ≡ array_string_len l.initial.line + 2 * l.image-index;
}
