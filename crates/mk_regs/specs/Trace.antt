-- What register code computes, and what an observer sees of it. Only register code that names registers that there
-- are and reads ones that hold an entry has a trace.
use Rattle.std.specs.Prelude.{◌≡◌, ℕ, ◌+◌, ◌-◌, ◌*◌, ◌≤◌, List, [], ◌∷◌, ◌++◌, length, take, drop, map, replicate, slice_index, slice_set}
use Rattle.mk_field.specs.declared.field.FieldId.{FieldId}
use Rattle.mk_field.specs.declared.map.AddMap.{AddMap}
use Rattle.mk_field.specs.Field.{size}
use Rattle.mk_field.specs.Sharing.{encodings}
use Rattle.mk_code.specs.Trace.{entry, takes, randoms}
use Rattle.mk_code.specs.Counting.{total, one_if_equal, AllBelow, Elements}
use Rattle.mk_code.specs.Private.{observation}
use Rattle.mk_regs.specs.declared.instr.RegInstr.{RegInstr}
use Rattle.mk_regs.specs.Form.{RegListing, target, operation, entries_len, register_trace_len}

-- the values of the instructions, one after the other, over registers with these contents: each instruction reads
-- registers, and its value is then what its register contains
unfoldable pub register_run : FieldId → List AddMap → List RegInstr → List ℕ → List ℕ → List ℕ
register_run field maps [] tape contents = []
register_run field maps (i ∷ is) tape contents =
    let a = entry field maps (operation i) (slice_index tape 0) contents in
    a ∷ register_run field maps is (drop (takes (operation i)) tape) (slice_set contents (target i) a)

-- the contents of the registers on entry: register i contains entry i, and those behind the entries nothing, which
-- is written as 0
abbrev pub contents_on_entry : RegListing → List ℕ → List ℕ
contents_on_entry r entries = entries ++ replicate (r.registers - entries_len r) 0

-- the trace: the shares, secret by secret, the publics, and one value for each instruction
abbrev pub register_trace : RegListing → List ℕ → List ℕ → List ℕ → List ℕ
register_trace r publics shares tape =
    (shares ++ publics) ++ register_run r.field r.maps r.instrs tape (contents_on_entry r (shares ++ publics))

-- how many random elements the instructions take
abbrev pub register_randoms : List RegInstr → ℕ
register_randoms is = randoms (map operation is)

-- the trace of a run whose secrets are encoded by the first elements of the tape, and which takes its random
-- elements from the rest
abbrev pub masked_register_trace : RegListing → List ℕ → List ℕ → List ℕ → List ℕ
masked_register_trace r publics secrets tape =
    register_trace r publics (encodings r.order secrets (take (r.order * r.secrets) tape)) (drop (r.order * r.secrets) tape)

-- the number of tapes for which an observer of these positions of the trace sees `seen`
abbrev pub register_ways : RegListing → List ℕ → List ℕ → List ℕ → List ℕ → ℕ
register_ways r publics secrets probes seen =
    total (size r.field) (r.order * r.secrets + register_randoms r.instrs)
    (λ tape. one_if_equal (observation probes (masked_register_trace r publics secrets tape)) seen)

-- for the same public inputs and any two lists of secrets, at most `order` positions of the trace show each list of
-- values in equally many ways
abbrev pub IsPrivateOverRegisters : RegListing → Type 0
IsPrivateOverRegisters r =
    (publics first second probes seen : List ℕ)
    → Elements (size r.field) r.publics publics
    → Elements (size r.field) r.secrets first
    → Elements (size r.field) r.secrets second
    → length probes ≤ r.order → AllBelow (register_trace_len r) probes
    → register_ways r publics first probes seen ≡ register_ways r publics second probes seen
