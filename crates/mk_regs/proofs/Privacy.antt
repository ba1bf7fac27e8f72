-- Register code and what it is renamed to show the same.
use Rattle.std.proofs.Common.{◌≡◌, ◌↔◌, ℕ, ◌+◌, ◌*◌, ◌≤◌, List, [], ◌∷◌, Option, length, take, drop, refl, sym, ◌∙◌, ap, arith, subst}
use Rattle.mk_field.specs.Field.{size, bits}
use Rattle.mk_field.specs.Sharing.{encodings}
use Rattle.mk_code.specs.Listing.{Listing, trace_len}
use Rattle.mk_code.specs.Trace.{takes, randoms}
use Rattle.mk_code.specs.Counting.{total, one_if_equal, AllBelow, Elements}
use Rattle.mk_code.specs.Private.{observation, masked_trace, ways, Private}
use Rattle.mk_code.proofs.Totals.{total-same, Elements-take}
use Rattle.mk_code.proofs.Encodings.{Elements-encodings}
use Rattle.mk_regs.specs.declared.instr.RegInstr.{RegInstr}
use Rattle.mk_regs.specs.Form.{RegListing, operation, entries_len, register_trace_len}
use Rattle.mk_regs.specs.Renaming.{position_in, held_on_entry, stepped, renamed_instrs, renamed, IsRenamed}
use Rattle.mk_regs.specs.Trace.{register_randoms, masked_register_trace, register_ways, IsPrivateOverRegisters}
use Rattle.mk_regs.specs.Laws.{RenamingLaws}
use Rattle.mk_regs.proofs.Parts.{takes-with}
use Rattle.mk_regs.proofs.Traces.{traces-same}

-- the renamed instructions take as many random elements
randoms-renamed : (held : List (Option ℕ)) (position : ℕ) (is : List RegInstr) → randoms (renamed_instrs held position is) ≡ register_randoms is
unfolding randoms renamed_instrs
randoms-renamed held position [] = refl
randoms-renamed held position (i ∷ is) =
    ap (λ (n : ℕ). n + randoms (renamed_instrs (stepped held position i) (position + 1) is)) (takes-with (position_in held) (operation i))
    ∙ ap (λ (n : ℕ). takes (operation i) + n) (randoms-renamed (stepped held position i) (position + 1) is)

-- and are as many
pub length-renamed : (held : List (Option ℕ)) (position : ℕ) (is : List RegInstr) → length (renamed_instrs held position is) ≡ length is
unfolding renamed_instrs
length-renamed held position [] = refl
length-renamed held position (i ∷ is) = omega (arith, length-renamed (stepped held position i) (position + 1) is)

-- the numbers of tapes are equal
ways-renamed : (r : RegListing) → entries_len r ≤ r.registers → IsRenamed r (renamed r)
    → (publics secrets probes seen : List ℕ) → Elements (size r.field) r.publics publics → Elements (size r.field) r.secrets secrets
    → register_ways r publics secrets probes seen ≡ ways (renamed r) publics secrets probes seen
ways-renamed r room is publics secrets probes seen public secret =
    let q : ℕ = size r.field in
    let m : ℕ = r.order * r.secrets in
    let n : ℕ = register_randoms r.instrs in
    let f : List ℕ → ℕ = λ tape. one_if_equal (observation probes (masked_register_trace r publics secrets tape)) seen in
    let g : List ℕ → ℕ = λ tape. one_if_equal (observation probes (masked_trace (renamed r) publics secrets tape)) seen in
    total-same q (m + n) f g
    (λ tape here.
    let shared : Elements q (r.secrets * (r.order + 1)) (encodings r.order secrets (take m tape)) =
    Elements-encodings (bits r.field) r.order r.secrets secrets (take m tape) secret (Elements-take q m n tape here) in
    ap (λ (entries : List ℕ). one_if_equal (observation probes entries) seen)
    (traces-same r (renamed r) room is publics (encodings r.order secrets (take m tape)) (drop m tape) public.count shared.count))
    ∙ ap (λ (k : ℕ). total q (m + k) g) (sym (randoms-renamed (held_on_entry (entries_len r) r.registers) (entries_len r) r.instrs))

-- the same of the code that it is renamed to
pub ways-same : (r : RegListing) (code : Listing) → entries_len r ≤ r.registers → IsRenamed r code
    → (publics secrets probes seen : List ℕ) → Elements (size r.field) r.publics publics → Elements (size r.field) r.secrets secrets
    → register_ways r publics secrets probes seen ≡ ways code publics secrets probes seen
ways-same r code room is publics secrets probes seen public secret =
    ways-renamed r room (record { runs = is.runs; same = refl }) publics secrets probes seen public secret
    ∙ ap (λ (c : Listing). ways c publics secrets probes seen) is.same

-- the traces are as long
pub length-same : (r : RegListing) → trace_len (renamed r) ≡ register_trace_len r
length-same r = ap (λ (n : ℕ). entries_len r + n) (length-renamed (held_on_entry (entries_len r) r.registers) (entries_len r) r.instrs)

-- they are private together
private-renamed : (r : RegListing) → entries_len r ≤ r.registers → IsRenamed r (renamed r) → IsPrivateOverRegisters r ↔ Private (renamed r)
private-renamed r room is = (
  (λ private publics first second probes seen public left right few below.
      sym (ways-renamed r room is publics first probes seen public left)
      ∙ private publics first second probes seen public left right few (subst (λ (n : ℕ). AllBelow n probes) (length-same r) below)
      ∙ ways-renamed r room is publics second probes seen public right),
  (λ private publics first second probes seen public left right few below.
      ways-renamed r room is publics first probes seen public left
      ∙ private publics first second probes seen public left right few (subst (λ (n : ℕ). AllBelow n probes) (sym (length-same r)) below)
      ∙ sym (ways-renamed r room is publics second probes seen public right)),
)

-- the laws of renaming hold
pub renaming-laws : (r : RegListing) (code : Listing) → entries_len r ≤ r.registers → IsRenamed r code → RenamingLaws r code
renaming-laws r code room is = record {
  traces = traces-same r code room is;
  ways = ways-same r code room is;
  private = subst (λ (c : Listing). IsPrivateOverRegisters r ↔ Private c) is.same (private-renamed r room (record { runs = is.runs; same = refl }));
}
