-- Three small codes, and what they show.
use Rattle.std.specs.Prelude.{◌≡◌, [], ◌∷◌, refl}
use Rattle.mk_field.specs.declared.field.FieldId.TheVariants.{Gf2, Gf256}
use Rattle.mk_field.specs.Field.{sum_bits}
use Rattle.mk_field.specs.Sharing.{field_sum, encodings}
use Rattle.mk_code.specs.declared.instr.Instr.TheVariants.{Rnd, Const, Copy, Add, Mul, Sq, Map}
use Rattle.mk_code.specs.Listing.{Listing}
use Rattle.mk_code.specs.Trace.{randoms, run, trace}
use Rattle.mk_code.specs.Counting.{sum_below, total, one_if_equal}
use Rattle.mk_code.specs.Private.{ways}

-- a square at order 1 that multiplies the shares of its one operand with one another
abbrev pub leaking_square : Listing
leaking_square = record {
  field = Gf2;
  order = 1;
  secrets = 1;
  publics = 0;
  maps = [];
  instrs = Rnd ∷ Mul 0 1 ∷ Add 2 3 ∷ Mul 1 0 ∷ Add 4 5 ∷ Mul 0 0 ∷ Add 7 2 ∷ Mul 1 1 ∷ Add 9 6 ∷ [];
  outs = 8 ∷ 10 ∷ [];
}

-- the product of the two shares of 0 is 0 for two of the four tapes
pub leaking_square-0-0 : ways leaking_square [] (0 ∷ []) (3 ∷ []) (0 ∷ []) ≡ 2
unfolding sum_bits field_sum encodings randoms run sum_below total one_if_equal
leaking_square-0-0 = refl

-- the product of the two shares of 1 is 0 for each of the four tapes
pub leaking_square-1-0 : ways leaking_square [] (1 ∷ []) (3 ∷ []) (0 ∷ []) ≡ 4
unfolding sum_bits field_sum encodings randoms run sum_below total one_if_equal
leaking_square-1-0 = refl

-- the product of the two shares of 0 is 1 for the other two tapes
pub leaking_square-0-1 : ways leaking_square [] (0 ∷ []) (3 ∷ []) (1 ∷ []) ≡ 2
unfolding sum_bits field_sum encodings randoms run sum_below total one_if_equal
leaking_square-0-1 = refl

-- the product of the two shares of 1 is 1 for no tape
pub leaking_square-1-1 : ways leaking_square [] (1 ∷ []) (3 ∷ []) (1 ∷ []) ≡ 0
unfolding sum_bits field_sum encodings randoms run sum_below total one_if_equal
leaking_square-1-1 = refl

-- the sum of two bytes at order 1, share by share
abbrev pub byte_sum : Listing
byte_sum = record {
  field = Gf256;
  order = 1;
  secrets = 2;
  publics = 0;
  maps = [];
  instrs = Add 0 2 ∷ Add 1 3 ∷ [];
  outs = 4 ∷ 5 ∷ [];
}

-- shares of 57 and of 83 give shares of d4
pub byte_sum-57-83 : trace byte_sum [] (0x02 ∷ 0x55 ∷ 0xd6 ∷ 0x55 ∷ []) [] ≡ 0x02 ∷ 0x55 ∷ 0xd6 ∷ 0x55 ∷ 0xd4 ∷ 0x00 ∷ []
unfolding run
byte_sum-57-83 = refl

-- at order 1 a secret byte plus a public one, times it, squared, and its image under a map that doubles: a
-- lifted value, and instructions of every kind that works share by share
abbrev pub linear_bytes : Listing
linear_bytes = record {
  field = Gf256;
  order = 1;
  secrets = 1;
  publics = 1;
  maps = record { images = 0x02 ∷ 0x04 ∷ 0x08 ∷ 0x10 ∷ 0x20 ∷ 0x40 ∷ 0x80 ∷ 0x1b ∷ [] } ∷ [];
  instrs = Copy 2 ∷ Const 0 ∷ Add 0 3 ∷ Add 1 4 ∷ Mul 5 2 ∷ Mul 6 2 ∷ Sq 7 ∷ Sq 8 ∷ Map 0 9 ∷ Map 0 10 ∷ [];
  outs = 11 ∷ 12 ∷ [];
}
