-- The first letter chooses the kind of an instruction that writes a register.
use Rattle.std.proofs.Common.{◌≡◌, ◌≢◌, ℕ, ◌<◌, List, [], ◌∷◌, length, get_or, Option, None, arith}
use Rattle.std.proofs.lemmas.List.{nil_from_length}
use Rattle.mk_code.specs.declared.instr.Instr.{Instr}
use Rattle.mk_lines.specs.Parsing.{add_into, mul_or_map_into, rnd_into, const_or_copy_into, sq_into, into_at}
use Rattle.mk_lines.proofs.Variants.{into_none, into_a, into_m, into_r, into_c, into_s, into_other}
use Rattle.mk_lines.proofs.parse.into_at.Goals as goal

-- bytes of which the first has this letter are read as one kind
by_letter : (bytes : List ℕ) (k : ℕ) (kind : List ℕ → Option ((ℕ × Instr) × List ℕ)) → 0 < length bytes → get_or bytes 0 0 ≡ k → ((bs : List ℕ) → into_at (k ∷ bs) ≡ kind (k ∷ bs)) → into_at bytes ≡ kind bytes
by_letter [] k kind some is h = absurd (omega (arith, some))
by_letter (b ∷ bs) k kind some is h = rw is (h bs)

-- bytes of which the first has no kind's letter are read as none
by_no_letter : (bytes : List ℕ) → 0 < length bytes → get_or bytes 0 0 ≢ 97 → get_or bytes 0 0 ≢ 109 → get_or bytes 0 0 ≢ 114 → get_or bytes 0 0 ≢ 99 → get_or bytes 0 0 ≢ 115 → into_at bytes ≡ None
by_no_letter [] some a m r c s = absurd (omega (arith, some))
by_no_letter (b ∷ bs) some a m r c s = into_other b bs a m r c s

pub returns-in_default : goal.returns-in_default
returns-in_default c = into_none c.args.bytes.now (nil_from_length c.args.bytes.now (omega (arith, c.in_default.len_below)))

pub returns-then-kind-eq97 : goal.returns-then-kind-eq97
returns-then-kind-eq97 c = rw (by_letter c.args.bytes.now 97 add_into (omega (arith, c.in-len1-up.len_at_least)) c.if-kind-eq97.true into_a) c.add_into.ensures

pub returns-then-kind-eq109 : goal.returns-then-kind-eq109
returns-then-kind-eq109 c = rw (by_letter c.args.bytes.now 109 mul_or_map_into (omega (arith, c.in-len1-up.len_at_least)) c.if-kind-eq109.true into_m) c.mul_or_map_into.ensures

pub returns-then-kind-eq114 : goal.returns-then-kind-eq114
returns-then-kind-eq114 c = rw (by_letter c.args.bytes.now 114 rnd_into (omega (arith, c.in-len1-up.len_at_least)) c.if-kind-eq114.true into_r) c.rnd_into.ensures

pub returns-then-kind-eq99 : goal.returns-then-kind-eq99
returns-then-kind-eq99 c = rw (by_letter c.args.bytes.now 99 const_or_copy_into (omega (arith, c.in-len1-up.len_at_least)) c.if-kind-eq99.true into_c) c.const_or_copy_into.ensures

pub returns-then-kind-eq115 : goal.returns-then-kind-eq115
returns-then-kind-eq115 c = rw (by_letter c.args.bytes.now 115 sq_into (omega (arith, c.in-len1-up.len_at_least)) c.if-kind-eq115.true into_s) c.sq_into.ensures

pub returns : goal.returns
returns c = by_no_letter c.args.bytes.now (omega (arith, c.in-len1-up.len_at_least)) c.if-kind-eq97.false c.if-kind-eq109.false c.if-kind-eq114.false c.if-kind-eq99.false c.if-kind-eq115.false
