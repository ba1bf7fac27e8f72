-- What `run` takes and writes: its whole tape, and the lines of the outputs.
use Rattle.std.specs.Prelude.{◌≡◌, ℕ, zero, suc, ◌+◌, ◌/◌, List, [], ◌∷◌, ◌++◌, Option, None, length, take, drop, codes, decimal, refl}
use Rattle.std.specs.Fmt.{digits}
use Rattle.hex.specs.Hex.{encode_with}
use Rattle.mk_field.specs.Sharing.{field_sum}
use Rattle.mk_code.specs.Listing.{Listing}
use Rattle.mk_code.specs.Private.{observation, masked_trace}
use Rattle.mk_rules.specs.Claimed.{Claimed}
use Rattle.mk_run.specs.Refusals.{tape_len, whole_refusal}
use Rattle.mk_run.specs.Seed.{seed_tape}
use Rattle.mk_top.specs.Bundles.{GivesText}
use Rattle.mk_words.specs.Words.{GivenTape, Seed, Tape, elements_word}

-- the whole tape of a run: the elements that are given, or as many of the seed's as the encodings of the secrets
-- and the code take
abbrev pub tape_of : Listing → GivenTape → List ℕ
tape_of code (Seed seed) = seed_tape code.field seed (tape_len code)
tape_of code (Tape elements) = elements

-- the line of an output: its number, the word of its shares, and the word of their sum
abbrev pub output_line : ℕ → List ℕ → List ℕ
output_line number shares = decimal number ++ codes " " ++ elements_word shares ++ codes " " ++ elements_word (field_sum shares ∷ []) ++ 10 ∷ []

-- the lines of so many outputs, numbered from here on, each of which has the next n of the shares
unfoldable pub output_lines : ℕ → ℕ → ℕ → List ℕ → List ℕ
output_lines n number zero shares = []
output_lines n number (suc outputs) shares = output_line number (take n shares) ++ output_lines n (number + 1) outputs (drop n shares)

-- the lines of a code's outputs, whose shares are entries of this trace
abbrev pub run_text : Listing → List ℕ → List ℕ
run_text code entries = output_lines (code.order + 1) 0 (length code.outs / (code.order + 1)) (observation code.outs entries)

-- two outputs of two shares: 02 and d6 are shares of d4
pub output_lines-two : output_lines 2 0 2 (0x02 ∷ 0xd6 ∷ 0x01 ∷ 0x00 ∷ []) ≡ codes "0 02d6 d4\n1 0100 01\n"
unfolding digits output_lines field_sum encode_with
output_lines-two = refl

-- A bundle, given where the input tells its bytes, was run on these inputs and this tape to this text: the bytes
-- are a text of a code and a certificate, whoever wrote them, and the text is the lines of the code's outputs.
-- The first elements of the whole tape encode the secrets, and the code takes its random elements from the rest.
pub record Runs (publics secrets : List ℕ) (tape : GivenTape) (given : Option (List ℕ)) (written : List ℕ) : Type 0 where
  pub code : Listing
  pub cert : Claimed
  pub bundle : GivesText given code cert
  pub taken : whole_refusal code publics secrets (tape_of code tape) ≡ None
  pub bytes : written ≡ run_text code (masked_trace code publics secrets (tape_of code tape))
