-- The first letter chooses the kind.
use Rattle.std.proofs.Common.{◌≡◌, ◌≢◌, ℕ, ◌<◌, List, [], ◌∷◌, length, get_or, Option, None, arith}
use Rattle.std.proofs.lemmas.List.{nil_from_length}
use Rattle.mk_code.specs.declared.instr.Instr.{Instr}
use Rattle.mk_lines.specs.Parsing.{add_at, mul_or_map_at, rnd_at, const_or_copy_at, sq_at, instr_at}
use Rattle.mk_lines.proofs.Variants.{letter_none, letter_a, letter_m, letter_r, letter_c, letter_s, letter_other}
use Rattle.mk_lines.proofs.parse.instr_at.Goals as goal

-- bytes of which the first has this letter are read as one kind
by_letter : (bytes : List ℕ) (k : ℕ) (kind : List ℕ → Option (Instr × List ℕ)) → 0 < length bytes → get_or bytes 0 0 ≡ k → ((bs : List ℕ) → instr_at (k ∷ bs) ≡ kind (k ∷ bs)) → instr_at bytes ≡ kind bytes
by_letter [] k kind some is h = absurd (omega (arith, some))
by_letter (b ∷ bs) k kind some is h = rw is (h bs)

-- bytes of which the first has no kind's letter are read as none
by_no_letter : (bytes : List ℕ) → 0 < length bytes → get_or bytes 0 0 ≢ 97 → get_or bytes 0 0 ≢ 109 → get_or bytes 0 0 ≢ 114 → get_or bytes 0 0 ≢ 99 → get_or bytes 0 0 ≢ 115 → instr_at bytes ≡ None
by_no_letter [] some a m r c s = absurd (omega (arith, some))
by_no_letter (b ∷ bs) some a m r c s = letter_other b bs a m r c s

pub returns-in_default : goal.returns-in_default
returns-in_default c = letter_none c.args.bytes.now (nil_from_length c.args.bytes.now (omega (arith, c.in_default.len_below)))

pub returns-then-kind-eq97 : goal.returns-then-kind-eq97
returns-then-kind-eq97 c = rw (by_letter c.args.bytes.now 97 add_at (omega (arith, c.in-len1-up.len_at_least)) c.if-kind-eq97.true letter_a) c.add_at.ensures

pub returns-then-kind-eq109 : goal.returns-then-kind-eq109
returns-then-kind-eq109 c = rw (by_letter c.args.bytes.now 109 mul_or_map_at (omega (arith, c.in-len1-up.len_at_least)) c.if-kind-eq109.true letter_m) c.mul_or_map_at.ensures

pub returns-then-kind-eq114 : goal.returns-then-kind-eq114
returns-then-kind-eq114 c = rw (by_letter c.args.bytes.now 114 rnd_at (omega (arith, c.in-len1-up.len_at_least)) c.if-kind-eq114.true letter_r) c.rnd_at.ensures

pub returns-then-kind-eq99 : goal.returns-then-kind-eq99
returns-then-kind-eq99 c = rw (by_letter c.args.bytes.now 99 const_or_copy_at (omega (arith, c.in-len1-up.len_at_least)) c.if-kind-eq99.true letter_c) c.const_or_copy_at.ensures

pub returns-then-kind-eq115 : goal.returns-then-kind-eq115
returns-then-kind-eq115 c = rw (by_letter c.args.bytes.now 115 sq_at (omega (arith, c.in-len1-up.len_at_least)) c.if-kind-eq115.true letter_s) c.sq_at.ensures

pub returns : goal.returns
returns c = by_no_letter c.args.bytes.now (omega (arith, c.in-len1-up.len_at_least)) c.if-kind-eq97.false c.if-kind-eq109.false c.if-kind-eq114.false c.if-kind-eq99.false c.if-kind-eq115.false
