-- The tape of a seed, by ChaCha20 (RFC 8439). That each element is taken of the low bits of one word is this
-- project's own choice.
use Rattle.std.specs.Prelude.{◌≡◌, ℕ, zero, suc, ◌%◌, List, [], ◌∷◌, ◌++◌, replicate, refl}
use Rattle.rand_core.specs.Steps.{u32_at}
use Rattle.rand_chacha.specs.Block.{quarter_round, column_round, diagonal_round, double_rounds, block_word}
use Rattle.rand_chacha.specs.ChaCha.{key_of, word_at}
use Rattle.mk_field.specs.declared.field.FieldId.{FieldId}
use Rattle.mk_field.specs.declared.field.FieldId.TheVariants.{Gf2, Gf256}
use Rattle.mk_field.specs.Field.{size}

-- element k: the low byte, of a bit the low bit, of word k of the key stream under the seed, of stream 0
abbrev pub seed_element : FieldId → List ℕ → ℕ → ℕ
seed_element field seed k = word_at 10 (key_of seed) 0 k % size field

-- the first n elements
unfoldable pub seed_tape : FieldId → List ℕ → ℕ → List ℕ
seed_tape field seed zero = []
seed_tape field seed (suc n) = seed_tape field seed n ++ seed_element field seed n ∷ []

-- the words 0 and 1 of the first vector of RFC 8439, appendix A.1, are ade0b876 and 903df1a0
pub zero_seed-bytes : seed_tape Gf256 (replicate 32 0) 2 ≡ 0x76 ∷ 0xa0 ∷ []
unfolding seed_tape u32_at quarter_round column_round diagonal_round double_rounds block_word
zero_seed-bytes = refl

-- their low bits are 0
pub zero_seed-bits : seed_tape Gf2 (replicate 32 0) 2 ≡ 0 ∷ 0 ∷ []
unfolding seed_tape u32_at quarter_round column_round diagonal_round double_rounds block_word
zero_seed-bits = refl
