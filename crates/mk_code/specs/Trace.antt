-- What code computes.
use Rattle.std.specs.Prelude.{ℕ, ◌+◌, List, [], ◌∷◌, ◌++◌, drop, bit_xor, slice_index}
use Rattle.mk_field.specs.declared.field.FieldId.{FieldId}
use Rattle.mk_field.specs.declared.map.AddMap.{AddMap}
use Rattle.mk_field.specs.Field.{product, square, image_by}
use Rattle.mk_code.specs.declared.instr.Instr.{Instr}
use Rattle.mk_code.specs.declared.instr.Instr.TheVariants.{Rnd, Const, Copy, Add, Mul, Sq, Map}
use Rattle.mk_code.specs.Listing.{Listing}

-- the value of an instruction behind these entries of the trace, the next element of the tape being `word`
abbrev pub entry : FieldId → List AddMap → Instr → ℕ → List ℕ → ℕ
entry field maps Rnd word entries = word
entry field maps (Const value) word entries = value
entry field maps (Copy from) word entries = slice_index entries from
entry field maps (Add left right) word entries = bit_xor (slice_index entries left) (slice_index entries right)
entry field maps (Mul left right) word entries = product field (slice_index entries left) (slice_index entries right)
entry field maps (Sq from) word entries = square field (slice_index entries from)
entry field maps (Map map from) word entries = image_by maps map (slice_index entries from)

-- how many elements of the tape an instruction takes
abbrev pub takes : Instr → ℕ
takes Rnd = 1
takes (Const value) = 0
takes (Copy from) = 0
takes (Add left right) = 0
takes (Mul left right) = 0
takes (Sq from) = 0
takes (Map map from) = 0

-- how many random elements the instructions take
unfoldable pub randoms : List Instr → ℕ
randoms [] = 0
randoms (i ∷ is) = takes i + randoms is

-- the entries, and behind them those of the instructions, over the elements of the tape in order
unfoldable pub run : FieldId → List AddMap → List Instr → List ℕ → List ℕ → List ℕ
run field maps [] tape entries = entries
run field maps (i ∷ is) tape entries =
    run field maps is (drop (takes i) tape) (entries ++ entry field maps i (slice_index tape 0) entries ∷ [])

-- the trace: the shares, secret by secret, the publics, and one value for each instruction
abbrev pub trace : Listing → List ℕ → List ℕ → List ℕ → List ℕ
trace code publics shares tape = run code.field code.maps code.instrs tape (shares ++ publics)
