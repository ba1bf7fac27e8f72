-- The text of register code that is allocated for code, and of a certificate, is within the limit of a bundle.
use Rattle.std.proofs.Common.{◌≡◌, ℕ, zero, suc, ◌+◌, ◌*◌, ◌/◌, ◌^◌, ◌<◌, ◌≤◌, ◌||◌, Bool, nat_eq, if◌then◌else◌, List, [], ◌∷◌, ◌++◌, length, Option, Some, inl, inr, sym, ◌∙◌, ap, subst, arith}
use Rattle.std.specs.Prelude.{decimal, codes}
use Rattle.std.specs.List.{flat_map, AllByRecursion}
use Rattle.std.proofs.lemmas.Bool.{cases_Bool}
use Rattle.std.proofs.lemmas.Fmt.{length-decimal-le}
use Rattle.std.proofs.lemmas.List.{length-append, length-set}
use Rattle.std.proofs.lemmas.List.Elements.{All-from_recursion}
use Rattle.std.proofs.Math.Nat.{mul-le-mul_right, mul-le-mul_left, div-le_self}
use Rattle.mk_base.specs.declared.TheConstants.{TOP_ORDER}
use Rattle.mk_field.specs.declared.field.FieldId.{FieldId}
use Rattle.mk_field.specs.declared.field.FieldId.TheVariants.{Gf2, Gf256}
use Rattle.mk_field.specs.Field.{size}
use Rattle.mk_field.specs.Digits.{hex_byte}
use Rattle.mk_field.specs.Maps.{MapFits}
use Rattle.mk_ssa.specs.Widths.{OperandFits, OpFits}
use Rattle.mk_code.specs.declared.instr.Instr.{Instr}
use Rattle.mk_code.specs.declared.instr.Instr.TheVariants as op
use Rattle.mk_code.specs.Counting.{sum_below}
use Rattle.mk_code.specs.Listing.{Listing, inputs_len}
use Rattle.mk_rules.specs.Claimed.{Claimed}
use Rattle.mk_rules.specs.Pairs.{IsPair}
use Rattle.mk_lines.specs.Words.{line}
use Rattle.mk_lines.specs.CertLines.{op_line, claim_line}
use Rattle.mk_lines.specs.CodeLines.{field_line, map_line, out_lines, into_line, IntoFits}
use Rattle.mk_regs.specs.declared.instr.RegInstr.{RegInstr}
use Rattle.mk_regs.specs.Form.{RegListing, IsRegListing, target, operation, operands, entries_len, HasParts}
use Rattle.mk_regs.specs.Renaming.{held_on_entry, stepped, renamed, IsRenamed}
use Rattle.mk_regs.specs.Width.{count_below, is_read, most_live}
use Rattle.mk_regs.specs.Allocation.{IsAllocated}
use Rattle.mk_regs.proofs.Held.{held-length}
use Rattle.mk_regs.proofs.Privacy.{length-renamed}
use Rattle.mk_regs.proofs.Running.{Runs, runs-from_none, sets-there}
use Rattle.mk_bundle.specs.declared.TheConstants.{MOST_BYTES}
use Rattle.mk_bundle.specs.Pairs.{IsRegisterPair, RegisterFits}
use Rattle.mk_bundle.specs.Text.{register_text, register_line, number_line, first_lines}
use Rattle.mk_top.proofs.Texts.{short-lines, short-op, short-claim, short-map, short-outs, short-field, short-number, one-word, two-words}

-- ---- how many registers there are

-- 1 where a test passes
abbrev one_if : Bool → ℕ
one_if b = if b then 1 else 0

-- no more numbers below n pass a test than there are
count-le : (n : ℕ) (test : ℕ → Bool) → count_below n test ≤ n
unfolding sum_below
count-le zero test = omega arith
count-le (suc n) test = elim (cases_Bool (test n)) [
  | inl passes ↦ omega (arith, ap one_if passes, count-le n test)
  | inr fails ↦ omega (arith, ap one_if fails, count-le n test)
]

-- no more entries are live than there are
most-le : (position : ℕ) (is : List Instr) (outs : List ℕ) → most_live position is outs ≤ position + length is
unfolding most_live
most-le position [] outs = omega arith
most-le position (i ∷ is) outs =
    omega (arith, count-le (position + 1) (λ p. nat_eq p position || is_read is outs p), most-le (position + 1) is outs)

-- so allocated register code has at most as many registers as the trace has entries
few-registers : (code : Listing) (r : RegListing) → IsAllocated code r → IsRegListing r → r.registers ≤ entries_len r + length r.instrs
few-registers code r is listing =
    let same : renamed r ≡ code = is.renamed.same in
    let count : length code.instrs ≡ length r.instrs =
    sym (ap (λ (c : Listing). length c.instrs) same) ∙ length-renamed (held_on_entry (entries_len r) r.registers) (entries_len r) r.instrs in
    let entries : inputs_len code.order code.secrets code.publics ≡ entries_len r = sym (ap (λ (c : Listing). inputs_len c.order c.secrets c.publics) same) in
    omega (arith, is.registers, most-le (inputs_len code.order code.secrets code.publics) code.instrs code.outs, count, entries)

-- ---- which registers are named

-- an instruction names registers below n
abbrev pub NamesBelow : ℕ → RegInstr → Type 0
NamesBelow n i = (target i < n) × AllByRecursion (λ r. r < n) (operands (operation i))

-- register code that runs names registers that there are
names-below : (n : ℕ) (held : List (Option ℕ)) (position : ℕ) (is : List RegInstr) (outs : List ℕ) → length held ≡ n → Runs held position is outs
    → AllByRecursion (NamesBelow n) is × AllByRecursion (λ r. r < n) outs
unfolding Runs
names-below n held position [] outs long runs = (tt, subst (λ (k : ℕ). AllByRecursion (λ r. r < k) outs) long (sets-there held outs runs))
names-below n held position (i ∷ is) outs long runs =
    let rest = names-below n (stepped held position i) (position + 1) is outs (length-set held (target i) (Some position) ∙ long) runs.1 in (
      (
        (subst (λ (k : ℕ). target i < k) long runs.0.there, subst (λ (k : ℕ). AllByRecursion (λ r. r < k) (operands (operation i))) long (sets-there held (operands (operation i)) runs.0.reads)),
        rest.0,
      ),
      rest.1,
    )

-- the same of register code that can be renamed
renamed-names : (r : RegListing) (code : Listing) → IsRenamed r code → AllByRecursion (NamesBelow r.registers) r.instrs × AllByRecursion (λ k. k < r.registers) r.outs
renamed-names r code is =
    let held = held_on_entry (entries_len r) r.registers in
    names-below r.registers held (entries_len r + 0) r.instrs r.outs (held-length (entries_len r) r.registers) (runs-from_none (entries_len r) 0 held r.instrs r.outs is.runs)

-- ---- register code and the certificate of a bundle are a pair

-- an element is a byte
element-byte : (field : FieldId) (value : ℕ) → value < size field → value < 256
element-byte Gf2 value below = omega (arith, below)
element-byte Gf256 value below = below

-- numbers that name registers and maps that there are have 32 bits
names-fit : (field : FieldId) (maps n to : ℕ) (c : Instr) → n ≤ 2 ^ 32 → maps ≤ 2 ^ 32 → to < n → AllByRecursion (λ r. r < n) (operands c) → HasParts field maps c → IntoFits to c
names-fit field maps n to op.Rnd few less below reads parts = (omega (arith, below, few), tt)
names-fit field maps n to (op.Const value) few less below reads parts = (omega (arith, below, few), element-byte field value parts)
names-fit field maps n to (op.Copy from) few less below reads parts = (omega (arith, below, few), omega (arith, reads.0, few))
names-fit field maps n to (op.Add left right) few less below reads parts = (omega (arith, below, few), (omega (arith, reads.0, few), omega (arith, reads.1.0, few)))
names-fit field maps n to (op.Mul left right) few less below reads parts = (omega (arith, below, few), (omega (arith, reads.0, few), omega (arith, reads.1.0, few)))
names-fit field maps n to (op.Sq from) few less below reads parts = (omega (arith, below, few), omega (arith, reads.0, few))
names-fit field maps n to (op.Map map from) few less below reads parts = (omega (arith, below, few), (omega (arith, parts, less), omega (arith, reads.0, few)))

-- the same of several
all-fit : (field : FieldId) (maps n : ℕ) (is : List RegInstr) → n ≤ 2 ^ 32 → maps ≤ 2 ^ 32 → AllByRecursion (NamesBelow n) is
    → AllByRecursion (λ i. HasParts field maps (operation i)) is → AllByRecursion RegisterFits is
all-fit field maps n [] few less names parts = tt
all-fit field maps n (i ∷ is) few less names parts =
    (names-fit field maps n (target i) (operation i) few less names.0.0 names.0.1 parts.0, all-fit field maps n is few less names.1 parts.1)

-- numbers below n are below more
all-wider : (n m : ℕ) (ks : List ℕ) → n ≤ m → AllByRecursion (λ k. k < n) ks → AllByRecursion (λ k. k < m) ks
all-wider n m [] few all = tt
all-wider n m (k ∷ ks) few all = (omega (arith, all.0, few), all-wider n m ks few all.1)

-- so register code that is renamed to the code of a bundle is a pair with its certificate
pub register-pair : (r : RegListing) (code : Listing) (cert : Claimed) → IsRegListing r → IsRenamed r code → IsPair code cert → IsRegisterPair r cert
register-pair r code cert listing is pair =
    let names = renamed-names r code is in
    let few : r.registers ≤ 2 ^ 32 = omega (arith, listing.registers.1) in
    record {
      listing = listing;
      maps = subst (λ (c : Listing). AllByRecursion MapFits c.maps) (sym is.same) pair.maps;
      instrs = all-fit r.field (length r.maps) r.registers r.instrs few (omega (arith, listing.maps)) names.0 listing.parts;
      outs = all-wider r.registers (2 ^ 32) r.outs few names.1;
      blocks = pair.blocks;
      claims = pair.claims;
      few_blocks = pair.few_blocks;
      few_claims = pair.few_claims;
    }

-- ---- how long the text is

-- a number of a register is short
short-name : (n : ℕ) → n < 10 ^ 7 → length (decimal n) ≤ 7
short-name n fits = length-decimal-le 7 n (omega arith) (omega (arith, fits)) (omega (arith, fits))

-- three words with spaces between them and a line feed behind them
three-words : (xs ys zs : List ℕ) (m n k : ℕ) → length xs ≤ m → length ys ≤ n → length zs ≤ k
    → length (xs ++ 32 ∷ [] ++ ys ++ 32 ∷ [] ++ zs ++ 10 ∷ []) ≤ m + n + k + 3
three-words xs ys zs m n k first second third =
    omega (
      arith,
      first,
      second,
      third,
      length-append (xs ++ 32 ∷ [] ++ ys ++ 32 ∷ [] ++ zs) (10 ∷ []),
      length-append (xs ++ 32 ∷ [] ++ ys ++ 32 ∷ []) zs,
      length-append (xs ++ 32 ∷ [] ++ ys) (32 ∷ []),
      length-append (xs ++ 32 ∷ []) ys,
      length-append xs (32 ∷ []),
    )

-- the line of an instruction whose numbers are short
short-into : (field : FieldId) (maps n to : ℕ) (c : Instr) → n ≤ 10 ^ 7 → maps ≤ 10 ^ 7 → to < n → AllByRecursion (λ r. r < n) (operands c) → HasParts field maps c
    → length (into_line to c) ≤ 28
short-into field maps n to op.Rnd few less below reads parts = omega (arith, one-word (decimal to) 7 (short-name to (omega (arith, below, few))))
short-into field maps n to (op.Const value) few less below reads parts =
    omega (arith, two-words (decimal to) (hex_byte value) 7 2 (short-name to (omega (arith, below, few))) (omega arith))
short-into field maps n to (op.Copy from) few less below reads parts =
    omega (arith, two-words (decimal to) (decimal from) 7 7 (short-name to (omega (arith, below, few))) (short-name from (omega (arith, reads.0, few))))
short-into field maps n to (op.Add left right) few less below reads parts =
    omega (arith, three-words (decimal to) (decimal left) (decimal right) 7 7 7 (short-name to (omega (arith, below, few))) (short-name left (omega (arith, reads.0, few))) (short-name right (omega (arith, reads.1.0, few))))
short-into field maps n to (op.Mul left right) few less below reads parts =
    omega (arith, three-words (decimal to) (decimal left) (decimal right) 7 7 7 (short-name to (omega (arith, below, few))) (short-name left (omega (arith, reads.0, few))) (short-name right (omega (arith, reads.1.0, few))))
short-into field maps n to (op.Sq from) few less below reads parts =
    omega (arith, two-words (decimal to) (decimal from) 7 7 (short-name to (omega (arith, below, few))) (short-name from (omega (arith, reads.0, few))))
short-into field maps n to (op.Map map from) few less below reads parts =
    omega (arith, three-words (decimal to) (decimal map) (decimal from) 7 7 7 (short-name to (omega (arith, below, few))) (short-name map (omega (arith, parts, less))) (short-name from (omega (arith, reads.0, few))))

-- the lines of instructions
short-registers : (field : FieldId) (maps n : ℕ) (is : List RegInstr) → n ≤ 10 ^ 7 → maps ≤ 10 ^ 7 → AllByRecursion (NamesBelow n) is
    → AllByRecursion (λ i. HasParts field maps (operation i)) is → length (flat_map register_line is) ≤ 28 * length is
short-registers field maps n [] few less names parts = omega arith
short-registers field maps n (i ∷ is) few less names parts =
    omega (
      arith,
      length-append (register_line i) (flat_map register_line is),
      short-into field maps n (target i) (operation i) few less names.0.0 names.0.1 parts.0,
      short-registers field maps n is few less names.1 parts.1,
    )

-- the lines before the maps
short-first : (version : List ℕ) (field : FieldId) (order secrets publics : ℕ) → length version ≤ 6 → order < 2 ^ 32 → secrets < 2 ^ 32 → publics < 2 ^ 32
    → length (first_lines version field order secrets publics) ≤ 200
short-first version field order secrets publics name first second third =
    let a : List ℕ = line version in
    let b : List ℕ = field_line field in
    let c : List ℕ = number_line (codes "order") order in
    let d : List ℕ = number_line (codes "secrets") secrets in
    let e : List ℕ = number_line (codes "publics") publics in
    omega (
      arith,
      length-append version (10 ∷ []),
      length-append (a ++ b ++ c ++ d) e,
      length-append (a ++ b ++ c) d,
      length-append (a ++ b) c,
      length-append a b,
      name,
      short-field field,
      short-number (codes "order") order first,
      short-number (codes "secrets") secrets second,
      short-number (codes "publics") publics third,
    )

-- the text of allocated register code is within the limit
pub short-register_text : (code : Listing) (r : RegListing) (cert : Claimed) → IsAllocated code r → IsRegisterPair r cert → length (register_text r cert) ≤ MOST_BYTES
short-register_text code r cert is pair =
    let n : ℕ = r.order + 1 in
    let first : List ℕ = first_lines (codes "mask 2") r.field r.order r.secrets r.publics in
    let maps : List ℕ = flat_map map_line r.maps in
    let count : List ℕ = number_line (codes "registers") r.registers in
    let blocks : List ℕ = flat_map op_line cert.blocks in
    let claims : List ℕ = flat_map claim_line cert.claims in
    let middle : List ℕ = line (codes "code") in
    let instrs : List ℕ = flat_map register_line r.instrs in
    let outs : List ℕ = out_lines n (length r.outs / n) r.outs in
    let end : List ℕ = line (codes "end") in
    let front : List ℕ = first ++ maps ++ count in
    let listing : IsRegListing r = pair.listing in
    let order : r.order ≤ TOP_ORDER = omega (arith, listing.order.1) in
    let inputs : r.secrets * n ≤ 65536 * (TOP_ORDER + 1) = omega (arith, mul-le-mul_right n listing.secrets, mul-le-mul_left 65536 order) in
    let outputs : length r.outs ≤ 65536 * (TOP_ORDER + 1) = omega (arith, listing.outputs.2, mul-le-mul_right n listing.outputs.1, mul-le-mul_left 65536 order) in
    let few : r.registers ≤ 10 ^ 7 = omega (arith, few-registers code r is listing, inputs, listing.publics, listing.few) in
    let names = renamed-names r code is.renamed in
    let f : length first ≤ 200 =
    short-first (codes "mask 2") r.field r.order r.secrets r.publics (omega arith) (omega (arith, order)) (omega (arith, listing.secrets)) (omega (arith, listing.publics)) in
    let m : length maps ≤ length r.maps * 40 = short-lines map_line MapFits 40 short-map r.maps pair.maps in
    let k : length count ≤ 30 = omega (arith, short-number (codes "registers") r.registers (omega (arith, few))) in
    let b : length blocks ≤ length cert.blocks * 40 = short-lines op_line OpFits 40 short-op cert.blocks pair.blocks in
    let c : length claims ≤ length cert.claims * 40 = short-lines claim_line OperandFits 40 short-claim cert.claims pair.claims in
    let i : length instrs ≤ 28 * length r.instrs = short-registers r.field (length r.maps) r.registers r.instrs few (omega (arith, listing.maps)) names.0 listing.parts in
    let o : length outs ≤ 4 * (length r.outs / n) + 11 * length r.outs =
    short-outs n (length r.outs / n) r.outs (All-from_recursion (λ p. p < 2 ^ 32) r.outs pair.outs) in
    omega (
      arith,
      length-append (front ++ blocks ++ claims ++ middle ++ instrs ++ outs) end,
      length-append (front ++ blocks ++ claims ++ middle ++ instrs) outs,
      length-append (front ++ blocks ++ claims ++ middle) instrs,
      length-append (front ++ blocks ++ claims) middle,
      length-append (front ++ blocks) claims,
      length-append front blocks,
      length-append (first ++ maps) count,
      length-append first maps,
      f,
      m,
      k,
      b,
      c,
      i,
      o,
      outputs,
      div-le_self (length r.outs) n,
      listing.maps,
      listing.few,
      pair.few_blocks,
      pair.few_claims,
    )
