-- The operators as blocks: their templates fit, their operands are of their kind, and what is seen of them
-- depends on what they ask for.
use Rattle.std.proofs.Common.{◌≡◌, ℕ, zero, suc, ◌+◌, ◌-◌, ◌*◌, ◌<◌, ◌≤◌, List, [], ◌∷◌, length, map, replicate, nat_eq, if◌then◌else◌, sym, refl, subst, arith, inl, inr}
use Rattle.std.specs.List.{range_with_len, Contains, AllByRecursion}
use Rattle.std.proofs.lemmas.List.{length-replicate}
use Rattle.std.proofs.lemmas.List.FromFn.{length-range_with_len, length-map-range_with_len}
use Rattle.std.proofs.Math.Dec.{eqb-suc-zero}
use Rattle.mk_base.proofs.Lists.{Contains-cases}
use Rattle.mk_field.specs.declared.field.FieldId.{FieldId}
use Rattle.mk_field.specs.declared.map.AddMap.{AddMap}
use Rattle.mk_code.specs.declared.instr.Instr.{Instr}
use Rattle.mk_code.specs.declared.instr.Instr.TheVariants as instr
use Rattle.mk_code.specs.Listing.{FitsAt, AllFit}
use Rattle.mk_code.specs.Counting.{AllBelow}
use Rattle.mk_field.proofs.Sum.{zero-element}
use Rattle.mk_ssa.specs.declared.Operand.{Operand}
use Rattle.mk_ssa.specs.declared.Op.{Op}
use Rattle.mk_ssa.specs.declared.Op.TheVariants.{Const, PubAdd, PubMul, PubSq, PubMap, Lift, Add, AddPub, Scale, Sq, Map, Mul, Refresh}
use Rattle.mk_ssa.specs.Kinds.{Public, Strong, kind, is_public, shared_operands, public_operands}
use Rattle.mk_gadget.specs.Gadget.{Gadget}
use Rattle.mk_gadget.specs.Template.{single, rows, lift, template}
use Rattle.mk_gadget.proofs.Ranges.{AllBelow-range}
use Rattle.mk_rules.specs.Shape.{Shape}
use Rattle.mk_rules.specs.Tiles.{value_number}
use Rattle.mk_rules.specs.Wired.{IsSharedThere, IsPublicThere, IsWired}
use Rattle.mk_rules.specs.Privacy.{IsTemplate}
use Rattle.mk_rules.proofs.Probes.{Contains-none}
use Rattle.mk_rules.proofs.Standing.{bank_length, is_known}

-- a gadget behind some places of operands: its instructions fit there, and its out bank has this many places,
-- each of them there
pub record FitsBehind (field : FieldId) (maps : List AddMap) (places outs : ℕ) (gadget : Gadget) : Type 0 where
  pub fit : AllFit field (length maps) places gadget.instrs
  pub within : AllBelow (places + length gadget.instrs) gadget.outs
  pub count : length gadget.outs ≡ outs

-- what fits behind some entries fits behind more
FitsAt-more : (field : FieldId) (count len more : ℕ) (i : Instr) → len ≤ more → FitsAt field count len i → FitsAt field count more i
FitsAt-more field count len more instr.Rnd up fits = tt
FitsAt-more field count len more (instr.Const value) up fits = fits
FitsAt-more field count len more (instr.Copy from) up fits = omega (arith, fits, up)
FitsAt-more field count len more (instr.Add left right) up fits = (omega (arith, fits.0, up), omega (arith, fits.1, up))
FitsAt-more field count len more (instr.Mul left right) up fits = (omega (arith, fits.0, up), omega (arith, fits.1, up))
FitsAt-more field count len more (instr.Sq from) up fits = omega (arith, fits, up)
FitsAt-more field count len more (instr.Map k from) up fits = (fits.0, omega (arith, fits.1, up))

-- rows that fit behind the operands fit one behind the other
rows-fit-from : (field : FieldId) (count base len a n : ℕ) (row : ℕ → Instr) → base ≤ len
    → ((i : ℕ) → a ≤ i → i < a + n → FitsAt field count base (row i)) → AllFit field count len (map row (range_with_len a n))
rows-fit-from field count base len a zero row up fits = tt
rows-fit-from field count base len a (suc n) row up fits = (
  FitsAt-more field count base len (row a) up (fits a (omega arith) (omega arith)),
  rows-fit-from field count base (len + 1) (a + 1) n row (omega (arith, up)) (λ i low high. fits i (omega arith) (omega arith)),
)

-- a gadget of rows
rows-behind : (field : FieldId) (maps : List AddMap) (n base places : ℕ) (row : ℕ → Instr) → places ≡ base
    → ((i : ℕ) → i < n → FitsAt field (length maps) base (row i)) → FitsBehind field maps places n (rows n base row)
rows-behind field maps n base places row at fits =
    let long : length (map row (range_with_len 0 n)) ≡ n = length-map-range_with_len row 0 n in
    record {
      fit = rows-fit-from field (length maps) base places 0 n row (omega (arith, at)) (λ i low high. fits i (omega (arith, high)));
      within = AllBelow-range (places + length (map row (range_with_len 0 n))) base n (omega (arith, at, long));
      count = length-range_with_len base n;
    }

-- a gadget of one instruction
single-behind : (field : FieldId) (maps : List AddMap) (base places : ℕ) (i : Instr) → places ≡ base → FitsAt field (length maps) base i
    → FitsBehind field maps places 1 (single base i)
unfolding AllBelow
single-behind field maps base places i at fits = record {
  fit = (FitsAt-more field (length maps) base places i (omega (arith, at)) fits, tt);
  within = (omega (arith, at), tt);
  count = refl;
}

-- zeros fit anywhere
zeros-fit : (field : FieldId) (count len n : ℕ) → AllFit field count len (replicate n (instr.Const 0))
zeros-fit field count len zero = tt
zeros-fit field count len (suc n) = (zero-element field, zeros-fit field count (len + 1) n)

-- the gadget that lifts
lift-behind : (field : FieldId) (maps : List AddMap) (n places : ℕ) → 1 ≤ n → places ≡ 1 → FitsBehind field maps places n (lift n)
lift-behind field maps n places some at =
    let long : length (replicate (n - 1) (instr.Const 0)) ≡ n - 1 = length-replicate (n - 1) (instr.Const 0) in
    record {
      fit = (omega (arith, at), zeros-fit field (length maps) (places + 1) (n - 1));
      within = AllBelow-range (places + suc (length (replicate (n - 1) (instr.Const 0)))) 1 n (omega (arith, at, long, some));
      count = length-range_with_len 1 n;
    }

-- the rows of a sum with a public value
public_addition-row : (field : FieldId) (count n i : ℕ) → i < n → FitsAt field count (n + 1) (if nat_eq i 0 then instr.Add 0 n else instr.Copy i)
public_addition-row field count n zero below = (omega arith, omega arith)
public_addition-row field count n (suc i) below = rw (eqb-suc-zero i) (omega (arith, below))

-- a given gadget
given-behind : (field : FieldId) (maps : List AddMap) (n m places : ℕ) (gadget : Gadget) → places ≡ n * m → IsTemplate field maps n m gadget
    → FitsBehind field maps places n gadget
given-behind field maps n m places gadget at given = record {
  fit = subst (λ (p : ℕ). AllFit field (length maps) p gadget.instrs) (sym at) given.fit;
  within = subst (λ (p : ℕ). AllBelow (p + length gadget.instrs) gadget.outs) (sym at) given.within;
  count = given.count;
}

-- how many places the operands of an operator have
abbrev pub reads_length : ℕ → Op → ℕ
reads_length n op = n * length (shared_operands op) + length (public_operands op)

-- an operator that is strong has a gadget that may stand for it
abbrev pub IsGiven : Shape → Gadget → Gadget → Op → Type 0
IsGiven shape product refresh op =
    kind op ≡ Strong → IsTemplate shape.field shape.maps (shape.order + 1) (length (shared_operands op)) (template (shape.order + 1) product refresh op)

module _ (shape : Shape) (product refresh : Gadget) where
  -- the template of a wired operator fits behind its operands
  pub template-behind : (before : List Op) (op : Op) → IsWired shape before op → IsGiven shape product refresh op
      → FitsBehind shape.field shape.maps (reads_length (shape.order + 1) op) (bank_length (shape.order + 1) (is_known (kind op))) (template (shape.order + 1) product refresh op)
  template-behind before (Const value) wired given =
      single-behind shape.field shape.maps 0 (reads_length (shape.order + 1) (Const value)) (instr.Const value) (omega arith) wired
  template-behind before (PubAdd left right) wired given =
      single-behind shape.field shape.maps 2 (reads_length (shape.order + 1) (PubAdd left right)) (instr.Add 0 1) (omega arith) (omega arith, omega arith)
  template-behind before (PubMul left right) wired given =
      single-behind shape.field shape.maps 2 (reads_length (shape.order + 1) (PubMul left right)) (instr.Mul 0 1) (omega arith) (omega arith, omega arith)
  template-behind before (PubSq arg) wired given =
      single-behind shape.field shape.maps 1 (reads_length (shape.order + 1) (PubSq arg)) (instr.Sq 0) (omega arith) (omega arith)
  template-behind before (PubMap k arg) wired given =
      single-behind shape.field shape.maps 1 (reads_length (shape.order + 1) (PubMap k arg)) (instr.Map k 0) (omega arith) (wired.0, omega arith)
  template-behind before (Lift arg) wired given =
      lift-behind shape.field shape.maps (shape.order + 1) (reads_length (shape.order + 1) (Lift arg)) (omega arith) (omega arith)
  template-behind before (Add left right) wired given =
      let n : ℕ = shape.order + 1 in
      rows-behind shape.field shape.maps n (2 * n) (reads_length n (Add left right)) (λ i. instr.Add i (n + i)) (omega arith)
      (λ i below. (omega (arith, below), omega (arith, below)))
  template-behind before (AddPub left right) wired given =
      let n : ℕ = shape.order + 1 in
      rows-behind shape.field shape.maps n (n + 1) (reads_length n (AddPub left right)) (λ i. if nat_eq i 0 then instr.Add 0 n else instr.Copy i) (omega arith)
      (λ i below. public_addition-row shape.field (length shape.maps) n i below)
  template-behind before (Scale left right) wired given =
      let n : ℕ = shape.order + 1 in
      rows-behind shape.field shape.maps n (n + 1) (reads_length n (Scale left right)) (λ i. instr.Mul i n) (omega arith)
      (λ i below. (omega (arith, below), omega arith))
  template-behind before (Sq arg) wired given =
      let n : ℕ = shape.order + 1 in
      rows-behind shape.field shape.maps n n (reads_length n (Sq arg)) (λ i. instr.Sq i) (omega arith) (λ i below. below)
  template-behind before (Map k arg) wired given =
      let n : ℕ = shape.order + 1 in
      rows-behind shape.field shape.maps n n (reads_length n (Map k arg)) (λ i. instr.Map k i) (omega arith) (λ i below. (wired.0, below))
  template-behind before (Mul left right) wired given =
      given-behind shape.field shape.maps (shape.order + 1) 2 (reads_length (shape.order + 1) (Mul left right)) product (omega arith) (given refl)
  template-behind before (Refresh arg) wired given =
      given-behind shape.field shape.maps (shape.order + 1) 1 (reads_length (shape.order + 1) (Refresh arg)) refresh (omega arith) (given refl)

-- of strong operators none has a public operand
pub strong-publics : (op : Op) → kind op ≡ Strong → public_operands op ≡ []
strong-publics (Mul left right) strong = refl
strong-publics (Refresh arg) strong = refl
strong-publics _ strong = absurd (cc)

-- none has more than two shared ones
pub strong-two : (op : Op) → kind op ≡ Strong → length (shared_operands op) ≤ 2
strong-two (Mul left right) strong = omega arith
strong-two (Refresh arg) strong = omega arith
strong-two _ strong = omega arith

-- a public operator has no shared operand
pub public-unshared : (op : Op) → kind op ≡ Public → length (shared_operands op) ≡ 0
public-unshared (Const value) public = refl
public-unshared (PubAdd left right) public = refl
public-unshared (PubMul left right) public = refl
public-unshared (PubSq arg) public = refl
public-unshared (PubMap k arg) public = refl
public-unshared (Lift arg) public = refl
public-unshared _ public = absurd (cc)

-- an operator is public exactly where it is of the public kind
pub public-known : (op : Op) → is_public op ≡ is_known (kind op)
public-known (Const value) = refl
public-known _ = refl

-- the operands of a wired operator are there
pub wired-operands : (shape : Shape) (before : List Op) (op : Op) → IsWired shape before op
    → AllByRecursion (IsSharedThere shape before) (shared_operands op) × AllByRecursion (IsPublicThere shape before) (public_operands op)
wired-operands shape before (Const value) wired = (tt, tt)
wired-operands shape before (PubAdd left right) wired = (tt, (wired.0, (wired.1, tt)))
wired-operands shape before (PubMul left right) wired = (tt, (wired.0, (wired.1, tt)))
wired-operands shape before (PubSq arg) wired = (tt, (wired, tt))
wired-operands shape before (PubMap k arg) wired = (tt, (wired.1, tt))
wired-operands shape before (Lift arg) wired = (tt, (wired, tt))
wired-operands shape before (Add left right) wired = ((wired.0, (wired.1, tt)), tt)
wired-operands shape before (AddPub left right) wired = ((wired.0, tt), (wired.1, tt))
wired-operands shape before (Scale left right) wired = ((wired.0, tt), (wired.1, tt))
wired-operands shape before (Sq arg) wired = ((wired, tt), tt)
wired-operands shape before (Map k arg) wired = ((wired.1, tt), tt)
wired-operands shape before (Mul left right) wired = ((wired.0, (wired.1, tt)), tt)
wired-operands shape before (Refresh arg) wired = ((wired, tt), tt)

-- what holds of the numbers of some operands
pub numbers-there : (shape : Shape) (P : Operand → Type 0) (Q : ℕ → Type 0) (vs : List Operand) (x : ℕ)
    → ((v : Operand) → P v → Q (value_number shape v)) → AllByRecursion P vs → Contains (map (value_number shape) vs) x → Q x
numbers-there shape P Q [] x holds each held = absurd (Contains-none x held)
numbers-there shape P Q (v ∷ vs) x holds each held = elim (Contains-cases (value_number shape v) (map (value_number shape) vs) x held) [
  | inl same ↦ subst Q same (holds v each.0)
  | inr more ↦ numbers-there shape P Q vs x holds each.1 more
]
