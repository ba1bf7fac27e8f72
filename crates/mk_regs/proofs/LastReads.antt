-- The table that tells up to where each entry is read.
use Rattle.std.proofs.Common.{◌≡◌, ◌≢◌, ◌⊎◌, ℕ, ◌+◌, ◌<◌, ◌≤◌, Bool, true, false, nat_eq, nat_lt, ◌||◌, if◌then◌else◌, List, [], ◌∷◌, length, drop, set, get_or, slice_index, inl, inr, refl, sym, ◌∙◌, ap, arith, subst, get_or-set_same, get_or-set_other}
use Rattle.std.specs.List.{AllByRecursion, fold}
use Rattle.std.proofs.lemmas.Bool.{cases_Bool, cases_eq, eq-eqb, ne_eqb, lt-ltb, le-ltb}
use Rattle.std.proofs.lemmas.List.{length-set, drop_more, drop_all}
use Rattle.mk_code.specs.declared.instr.Instr.{Instr}
use Rattle.mk_code.specs.declared.instr.Instr.TheVariants as op
use Rattle.mk_code.specs.Listing.{Listing, IsListing, trace_len, inputs_len}
use Rattle.mk_code.proofs.Steps.{AllFit-at}
use Rattle.mk_regs.specs.Form.{operands}
use Rattle.mk_regs.specs.Width.{is_among, is_read}
use Rattle.mk_regs.specs.Tables.{marked, TellsReads}
use Rattle.mk_regs.proofs.Parts.{operands-fit}

-- the table tells the reads from instruction k on, and no reader before
pub record IsMarked (code : Listing) (k : ℕ) (last : List ℕ) : Type 0 where
  pub count : length last ≡ trace_len code
  pub later : (p : ℕ) → p < trace_len code → (slice_index last p ≡ 0) ⊎ (k < slice_index last p)
  pub reads : (p j : ℕ) → p < trace_len code → k ≤ j → j ≤ length code.instrs
      → is_read (drop j code.instrs) code.outs p ≡ nat_lt j (slice_index last p)

-- an equation of tests from both directions
same-tests : (a b : Bool) → (a ≡ true → b ≡ true) → (b ≡ true → a ≡ true) → a ≡ b
same-tests true true to from = refl
same-tests true false to from = sym (to refl)
same-tests false true to from = from refl
same-tests false false to from = refl

-- behind the instructions the outs are read
pub marked-outs : (code : Listing) (last : List ℕ) → length last ≡ trace_len code
    → ((p : ℕ) → p < trace_len code → slice_index last p ≡ (if is_among p code.outs then length code.instrs + 1 else 0))
    → IsMarked code (length code.instrs) last
unfolding is_read
marked-outs code last count outs = record {
  count = count;
  later = λ p below. elim (cases_Bool (is_among p code.outs)) [
    | inl among ↦ inr (omega (arith, outs p below ∙ ap (λ (b : Bool). if b then length code.instrs + 1 else 0) among))
    | inr other ↦ inl (outs p below ∙ ap (λ (b : Bool). if b then length code.instrs + 1 else 0) other)
  ];
  reads = λ p j below from to.
      ap (λ (is : List Instr). is_read is code.outs p) (drop_all j code.instrs from)
      ∙ elim (cases_Bool (is_among p code.outs)) [
        | inl among ↦ among ∙ sym (lt-ltb j (slice_index last p) (omega (arith, outs p below ∙ ap (λ (b : Bool). if b then length code.instrs + 1 else 0) among)))
        | inr other ↦ other ∙ sym (le-ltb j (slice_index last p) (omega (arith, outs p below ∙ ap (λ (b : Bool). if b then length code.instrs + 1 else 0) other)))
      ];
}

-- a mark
pub mark-length : (reader : ℕ) (last : List ℕ) (q : ℕ) → length (marked reader last q) ≡ length last
mark-length reader last q = elim (cases_Bool (nat_eq (slice_index last q) 0)) [
  | inl none ↦ ap (λ (b : Bool). length (if b then set last q reader else last)) none ∙ length-set last q reader
  | inr some ↦ ap (λ (b : Bool). length (if b then set last q reader else last)) some
]

-- nor do marks of several entries change the number of entries
pub marks-length : (reader : ℕ) (last qs : List ℕ) → length (fold (marked reader) last qs) ≡ length last
marks-length reader last [] = refl
marks-length reader last (q ∷ qs) = marks-length reader (marked reader last q) qs ∙ mark-length reader last q

-- what an entry has after a mark
mark-at : (reader : ℕ) (last : List ℕ) (q p : ℕ) → q < length last
    → slice_index (marked reader last q) p ≡ (if nat_eq q p then (if nat_eq (slice_index last p) 0 then reader else slice_index last p) else slice_index last p)
mark-at reader last q p there = elim (cases_eq q p) [
  | inl same ↦
      here q p there same ∙ sym (ap (λ (b : Bool). if b then (if nat_eq (slice_index last p) 0 then reader else slice_index last p) else slice_index last p) (eq-eqb q p same))
  | inr other ↦
      apart q p other ∙ sym (ap (λ (b : Bool). if b then (if nat_eq (slice_index last p) 0 then reader else slice_index last p) else slice_index last p) (ne_eqb q p other))
] where
  here : (q p : ℕ) → q < length last → q ≡ p → slice_index (marked reader last q) p ≡ (if nat_eq (slice_index last p) 0 then reader else slice_index last p)
  here q p there same = ap (slice_index (marked reader last q)) (sym same) ∙ elim (cases_Bool (nat_eq (slice_index last q) 0)) [
    | inl none ↦ ap (λ (b : Bool). slice_index (if b then set last q reader else last) q) none ∙ get_or-set_same last q reader 0 there
        ∙ sym (ap (λ (b : Bool). if b then reader else slice_index last q) none)
    | inr some ↦ ap (λ (b : Bool). slice_index (if b then set last q reader else last) q) some
        ∙ sym (ap (λ (b : Bool). if b then reader else slice_index last q) some)
  ] ∙ ap (λ (n : ℕ). if nat_eq (slice_index last n) 0 then reader else slice_index last n) same

  apart : (q p : ℕ) → q ≢ p → slice_index (marked reader last q) p ≡ slice_index last p
  apart q p other = elim (cases_Bool (nat_eq (slice_index last q) 0)) [
    | inl none ↦ ap (λ (b : Bool). slice_index (if b then set last q reader else last) p) none ∙ get_or-set_other last q p reader 0 (λ e. other (sym e))
    | inr some ↦ ap (λ (b : Bool). slice_index (if b then set last q reader else last) p) some
  ]

-- what it has after several: an entry that is read and had no reader has this one
marks-at : (reader : ℕ) (last qs : List ℕ) (p : ℕ) → 0 < reader → AllByRecursion (λ q. q < length last) qs
    → slice_index (fold (marked reader) last qs) p ≡ (if is_among p qs then (if nat_eq (slice_index last p) 0 then reader else slice_index last p) else slice_index last p)
marks-at reader last [] p positive there = refl
marks-at reader last (q ∷ qs) p positive there =
    let next = marked reader last q in
    let rest : AllByRecursion (λ r. r < length next) qs = subst (λ (n : ℕ). AllByRecursion (λ r. r < n) qs) (sym (mark-length reader last q)) there.1 in
    marks-at reader next qs p positive rest
    ∙ ap (λ (v : ℕ). if is_among p qs then (if nat_eq v 0 then reader else v) else v) (mark-at reader last q p there.0)
    ∙ joined (nat_eq q p) (is_among p qs) (slice_index last p) where
      -- a second mark by the same reader changes nothing
      twice : (v : ℕ) → (if nat_eq (if nat_eq v 0 then reader else v) 0 then reader else (if nat_eq v 0 then reader else v)) ≡ (if nat_eq v 0 then reader else v)
      twice v = elim (cases_Bool (nat_eq v 0)) [
        | inl none ↦ ap (λ (b : Bool). if nat_eq (if b then reader else v) 0 then reader else (if b then reader else v)) none
            ∙ ap (λ (b : Bool). if b then reader else reader) (ne_eqb reader 0 (omega arith)) ∙ sym (ap (λ (b : Bool). if b then reader else v) none)
        | inr some ↦ ap (λ (b : Bool). if nat_eq (if b then reader else v) 0 then reader else (if b then reader else v)) some
            ∙ ap (λ (b : Bool). if b then reader else v) some ∙ sym (ap (λ (b : Bool). if b then reader else v) some)
      ]

      -- a mark of the first entry and then of the others is a mark of those among all
      joined : (a b : Bool) (v : ℕ)
          → (if b then (if nat_eq (if a then (if nat_eq v 0 then reader else v) else v) 0 then reader else (if a then (if nat_eq v 0 then reader else v) else v)) else (if a then (if nat_eq v 0 then reader else v) else v))
          ≡ (if a || b then (if nat_eq v 0 then reader else v) else v)
      joined true true v = twice v
      joined true false v = refl
      joined false true v = refl
      joined false false v = refl

-- operands of an instruction of the code are in the trace
pub operands-there : (code : Listing) (k : ℕ) → IsListing code → k < length code.instrs
    → AllByRecursion (λ q. q < inputs_len code.order code.secrets code.publics + k) (operands (get_or code.instrs k op.Rnd))
operands-there code k listing below =
    let entries = inputs_len code.order code.secrets code.publics in
    operands-fit code.field (length code.maps) (entries + k) (get_or code.instrs k op.Rnd)
    (AllFit-at code.field (length code.maps) entries code.instrs k below listing.fit)

-- numbers below m are below a greater one
pub all-wider : (m n : ℕ) (qs : List ℕ) → m ≤ n → AllByRecursion (λ q. q < m) qs → AllByRecursion (λ q. q < n) qs
all-wider m n [] wide all = tt
all-wider m n (q ∷ qs) wide all = (omega (arith, all.0), all-wider m n qs wide all.1)

-- what an entry has after the operands of instruction k were marked, where it is one of them or not
after-marks : (k : ℕ) (last qs : List ℕ) (p : ℕ) → AllByRecursion (λ q. q < length last) qs → ((slice_index last p ≡ 0) ⊎ (k + 1 < slice_index last p))
    → (((is_among p qs ≡ true) × (k < slice_index (fold (marked (k + 1)) last qs) p) × ((j : ℕ) → k + 1 ≤ j → nat_lt j (slice_index last p) ≡ nat_lt j (slice_index (fold (marked (k + 1)) last qs) p)))
    ⊎ ((is_among p qs ≡ false) × (slice_index (fold (marked (k + 1)) last qs) p ≡ slice_index last p)))
after-marks k last qs p there before = elim (cases_Bool (is_among p qs)) [
  | inl among ↦
      let at : slice_index (fold (marked (k + 1)) last qs) p ≡ (if nat_eq (slice_index last p) 0 then k + 1 else slice_index last p) =
      marks-at (k + 1) last qs p (omega arith) there ∙ ap (λ (b : Bool). if b then (if nat_eq (slice_index last p) 0 then k + 1 else slice_index last p) else slice_index last p) among in
      let both = filled (slice_index last p) (slice_index (fold (marked (k + 1)) last qs) p) before at in
      inl (among, both.0, both.1)
  | inr other ↦
      inr (other, marks-at (k + 1) last qs p (omega arith) there ∙ ap (λ (b : Bool). if b then (if nat_eq (slice_index last p) 0 then k + 1 else slice_index last p) else slice_index last p) other)
] where
  filled : (v w : ℕ) → (v ≡ 0) ⊎ (k + 1 < v) → w ≡ (if nat_eq v 0 then k + 1 else v) → (k < w) × ((j : ℕ) → k + 1 ≤ j → nat_lt j v ≡ nat_lt j w)
  filled v w (inl none) at =
      let is : w ≡ k + 1 = at ∙ ap (λ (b : Bool). if b then k + 1 else v) (eq-eqb v 0 none) in
      (omega (arith, is), λ j from. le-ltb j v (omega (arith, none)) ∙ sym (le-ltb j w (omega (arith, is))))
  filled v w (inr some) at =
      let is : w ≡ v = at ∙ ap (λ (b : Bool). if b then k + 1 else v) (ne_eqb v 0 (omega arith)) in
      (omega (arith, is), λ j from. ap (nat_lt j) (sym is))

-- the reads from the instruction on, its operands being marked: of one entry
reads-step : (c : Instr) (later : List Instr) (outs : List ℕ) (k v w p : ℕ)
    → is_read later outs p ≡ nat_lt (k + 1) v → (v ≡ 0) ⊎ (k + 1 < v)
    → (((is_among p (operands c) ≡ true) × (k < w) × ((j : ℕ) → k + 1 ≤ j → nat_lt j v ≡ nat_lt j w)) ⊎ ((is_among p (operands c) ≡ false) × (w ≡ v)))
    → is_read (c ∷ later) outs p ≡ nat_lt k w
unfolding is_read
reads-step c later outs k v w p behind before (inl here) =
    ap (λ (b : Bool). b || is_read later outs p) here.0 ∙ sym (lt-ltb k w here.1)
reads-step c later outs k v w p behind before (inr other) =
    ap (λ (b : Bool). b || is_read later outs p) other.0 ∙ behind ∙ shifted v before ∙ ap (nat_lt k) (sym other.1) where
      -- a number that isn't the next reader's tells the same of this instruction and of the next
      shifted : (v : ℕ) → (v ≡ 0) ⊎ (k + 1 < v) → nat_lt (k + 1) v ≡ nat_lt k v
      shifted v (inl none) = le-ltb (k + 1) v (omega (arith, none)) ∙ sym (le-ltb k v (omega (arith, none)))
      shifted v (inr some) = lt-ltb (k + 1) v some ∙ sym (lt-ltb k v (omega (arith, some)))

-- the operands of an instruction marked, when all behind it are
pub marked-step : (code : Listing) (k : ℕ) (last : List ℕ) → IsListing code → k < length code.instrs → IsMarked code (k + 1) last
    → IsMarked code k (fold (marked (k + 1)) last (operands (get_or code.instrs k op.Rnd)))
marked-step code k last listing below is =
    let c = get_or code.instrs k op.Rnd in
    let new = fold (marked (k + 1)) last (operands c) in
    let wide : inputs_len code.order code.secrets code.publics + k ≤ length last = omega (arith, is.count) in
    let there : AllByRecursion (λ q. q < length last) (operands c) =
    all-wider (inputs_len code.order code.secrets code.publics + k) (length last) (operands c) wide (operands-there code k listing below) in
    record {
      count = marks-length (k + 1) last (operands c) ∙ is.count;
      later = λ p within. elim (after-marks k last (operands c) p there (is.later p within)) [
        | inl here ↦ inr here.1
        | inr other ↦ elim (is.later p within) [
          | inl none ↦ inl (other.1 ∙ none)
          | inr some ↦ inr (omega (arith, other.1))
        ]
      ];
      reads = λ p j within from to. elim (cases_eq j k) [
        | inl same ↦
            ap (λ (n : ℕ). is_read (drop n code.instrs) code.outs p) same
            ∙ ap (λ (cs : List Instr). is_read cs code.outs p) (drop_more code.instrs k op.Rnd below)
            ∙ reads-step c (drop (k + 1) code.instrs) code.outs k (slice_index last p) (slice_index new p) p
            (is.reads p (k + 1) within (omega arith) (omega arith)) (is.later p within) (after-marks k last (operands c) p there (is.later p within))
            ∙ ap (λ (n : ℕ). nat_lt n (slice_index new p)) (sym same)
        | inr other ↦
            is.reads p j within (omega arith) to ∙ elim (after-marks k last (operands c) p there (is.later p within)) [
              | inl here ↦ here.2 j (omega arith)
              | inr apart ↦ ap (nat_lt j) (sym apart.1)
            ]
      ];
    }

-- all marked
pub tells-reads : (code : Listing) (last : List ℕ) → IsMarked code 0 last → TellsReads code last
tells-reads code last is = record { count = is.count; reads = λ p k within to. is.reads p k within (omega arith) to }
