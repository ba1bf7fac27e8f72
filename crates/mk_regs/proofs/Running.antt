-- Register code that isn't refused.
use Rattle.std.proofs.Common.{◌≡◌, ℕ, ◌+◌, ◌<◌, List, [], ◌∷◌, Option, Some, None, length, nat_lt, is_some, Bool, true, ◌&&◌, if◌then◌else◌, inl, inr, refl, sym, ◌∙◌, ap, arith, subst}
use Rattle.std.specs.Option.{option_or}
use Rattle.std.specs.List.{AllByRecursion, list_all}
use Rattle.std.proofs.lemmas.Bool.{cases_Bool, false≢true, ltb-true, lt-ltb}
use Rattle.std.proofs.lemmas.Option.{none-some}
use Rattle.mk_regs.specs.declared.instr.RegInstr.{RegInstr}
use Rattle.mk_regs.specs.declared.refusal.RegRefusal.{RegRefusal}
use Rattle.mk_regs.specs.declared.refusal.RegRefusal.TheVariants.{Unset, Register}
use Rattle.mk_regs.specs.Form.{target, operation, operands}
use Rattle.mk_regs.proofs.Held.{holds-within}
use Rattle.mk_regs.specs.Renaming.{holding, stepped, refusal_at, instr_refusal, out_refusal, outs_refusal, first_refusal}

-- a register holds an entry
abbrev pub IsSet : List (Option ℕ) → ℕ → Type 0
IsSet held r = (p : ℕ) × (holding held r ≡ Some p)

-- these registers are there
abbrev pub AreThere : List (Option ℕ) → List ℕ → Type 0
AreThere held named = AllByRecursion (λ r. r < length held) named

-- these registers hold entries
abbrev pub AreSet : List (Option ℕ) → List ℕ → Type 0
AreSet held read = AllByRecursion (IsSet held) read

-- tests of all elements
all-true : (test : ℕ → Bool) (P : ℕ → Type 0) → ((r : ℕ) → test r ≡ true → P r) → (rs : List ℕ) → list_all test rs ≡ true → AllByRecursion P rs
all-true test P holds [] all = tt
all-true test P holds (r ∷ rs) all = elim (cases_Bool (test r)) [
  | inl here ↦ (holds r here, all-true test P holds rs (sym (ap (λ (b : Bool). b && list_all test rs) here) ∙ all))
  | inr not_here ↦ absurd (false≢true (sym (ap (λ (b : Bool). b && list_all test rs) not_here) ∙ all))
]

-- the other way: a test passes for each where it passes for all that has the property
true-all : (test : ℕ → Bool) (P : ℕ → Type 0) → ((r : ℕ) → P r → test r ≡ true) → (rs : List ℕ) → AllByRecursion P rs → list_all test rs ≡ true
true-all test P holds [] all = refl
true-all test P holds (r ∷ rs) all =
    ap (λ (b : Bool). b && list_all test rs) (holds r all.0) ∙ true-all test P holds rs all.1

-- a register whose content is there holds an entry
some-set : (o : Option ℕ) → is_some o ≡ true → (p : ℕ) × (o ≡ Some p)
some-set None none = absurd (false≢true none)
some-set (Some p) one = (p, refl)

-- no refusal means that the registers named are there and those read hold entries
pub refusal-none : (held : List (Option ℕ)) (k : ℕ) (named read : List ℕ) → refusal_at held k named read ≡ None
    → AreThere held named × AreSet held read
refusal-none held k named read none =
    let there : Bool = list_all (λ r. nat_lt r (length held)) named in
    let full : Bool = list_all (λ r. is_some (holding held r)) read in
    elim (cases_Bool there) [
      | inl all ↦ elim (cases_Bool full) [
        | inl sets ↦ (
          all-true (λ r. nat_lt r (length held)) (λ r. r < length held) (λ r e. ltb-true r (length held) e) named all,
          all-true (λ r. is_some (holding held r)) (IsSet held) (λ r e. some-set (holding held r) e) read sets,
        )
        | inr unset ↦ absurd (none-some (Unset k) (sym none
            ∙ ap (λ (b : Bool). if b then (if full then None else Some (Unset k)) else Some (Register k)) all
            ∙ ap (λ (b : Bool). if b then None else Some (Unset k)) unset))
      ]
      | inr missing ↦ absurd (none-some (Register k) (sym none
          ∙ ap (λ (b : Bool). if b then (if full then None else Some (Unset k)) else Some (Register k)) missing))
    ]

-- the other way: registers that are there, of which those read hold entries, are not refused
pub none-refusal : (held : List (Option ℕ)) (k : ℕ) (named read : List ℕ) → AreThere held named → AreSet held read
    → refusal_at held k named read ≡ None
none-refusal held k named read there sets =
    let full : Bool = list_all (λ r. is_some (holding held r)) read in
    ap (λ (b : Bool). if b then (if full then None else Some (Unset k)) else Some (Register k))
    (true-all (λ r. nat_lt r (length held)) (λ r. r < length held) (λ r e. lt-ltb r (length held) e) named there)
    ∙ ap (λ (b : Bool). if b then None else Some (Unset k))
    (true-all (λ r. is_some (holding held r)) (IsSet held) (λ r e. ap is_some e.1) read sets)

-- an instruction can be carried out
pub record IsCarried (held : List (Option ℕ)) (i : RegInstr) : Type 0 where
  pub there : target i < length held
  pub reads : AreSet held (operands (operation i))

-- the instructions can be carried out one after the other, and then the outs be read
unfoldable pub Runs : List (Option ℕ) → ℕ → List RegInstr → List ℕ → Type 0
Runs held position [] outs = AreSet held outs
Runs held position (i ∷ is) outs = IsCarried held i × Runs (stepped held position i) (position + 1) is outs

-- where the first of two refusals is none, neither is there
none-both : (a b : Option RegRefusal) → option_or a b ≡ None → (a ≡ None) × (b ≡ None)
none-both None b none = (refl, none)
none-both (Some e) b none = absurd (none-some e (sym none))

-- where neither is there, the first is none
both-none : (a b : Option RegRefusal) → a ≡ None → b ≡ None → option_or a b ≡ None
both-none a b left right = ap (λ (o : Option RegRefusal). option_or o b) left ∙ right

-- outs that aren't refused hold entries
pub outs-none : (held : List (Option ℕ)) (k : ℕ) (outs : List ℕ) → outs_refusal held k outs ≡ None → AreSet held outs
unfolding outs_refusal
outs-none held k [] none = tt
outs-none held k (r ∷ rs) none =
    let both = none-both (out_refusal held k r) (outs_refusal held k rs) none in
    ((refusal-none held k (r ∷ []) (r ∷ []) both.0).1.0, outs-none held k rs both.1)

-- a register that holds an entry is there
set-there : (held : List (Option ℕ)) (r : ℕ) → IsSet held r → r < length held
set-there held r here = holds-within held r here.0 here.1

-- so are several
pub sets-there : (held : List (Option ℕ)) (rs : List ℕ) → AreSet held rs → AreThere held rs
sets-there held [] sets = tt
sets-there held (r ∷ rs) sets = (set-there held r sets.0, sets-there held rs sets.1)

-- the other way: outs that hold entries are not refused
pub none-outs : (held : List (Option ℕ)) (k : ℕ) (outs : List ℕ) → AreSet held outs → outs_refusal held k outs ≡ None
unfolding outs_refusal
none-outs held k [] sets = refl
none-outs held k (r ∷ rs) sets =
    both-none (out_refusal held k r) (outs_refusal held k rs)
    (none-refusal held k (r ∷ []) (r ∷ []) (set-there held r sets.0, tt) (sets.0, tt)) (none-outs held k rs sets.1)

-- an instruction that isn't refused can be carried out
pub instr-none : (held : List (Option ℕ)) (k : ℕ) (i : RegInstr) → instr_refusal held k i ≡ None → IsCarried held i
instr-none held k i none =
    let both = refusal-none held k (target i ∷ operands (operation i)) (operands (operation i)) none in
    record { there = both.0.0; reads = both.1 }

-- the other way: an instruction that can be carried out is not refused
pub none-instr : (held : List (Option ℕ)) (k : ℕ) (i : RegInstr) → IsCarried held i → instr_refusal held k i ≡ None
none-instr held k i carried =
    none-refusal held k (target i ∷ operands (operation i)) (operands (operation i))
    (carried.there, sets-there held (operands (operation i)) carried.reads) carried.reads

-- register code that isn't refused runs
pub runs-from_none : (entries k : ℕ) (held : List (Option ℕ)) (is : List RegInstr) (outs : List ℕ)
    → first_refusal entries k held is outs ≡ None → Runs held (entries + k) is outs
unfolding first_refusal Runs
runs-from_none entries k held [] outs none = outs-none held k outs none
runs-from_none entries k held (i ∷ is) outs none =
    let both = none-both (instr_refusal held k i) (first_refusal entries (k + 1) (stepped held (entries + k) i) is outs) none in
    let e : entries + (k + 1) ≡ entries + k + 1 = omega arith in (
      instr-none held k i both.0,
      subst (λ (n : ℕ). Runs (stepped held (entries + k) i) n is outs) e (runs-from_none entries (k + 1) (stepped held (entries + k) i) is outs both.1),
    )

-- the other way: register code that runs is not refused
pub none-from_runs : (entries k : ℕ) (held : List (Option ℕ)) (is : List RegInstr) (outs : List ℕ)
    → Runs held (entries + k) is outs → first_refusal entries k held is outs ≡ None
unfolding first_refusal Runs
none-from_runs entries k held [] outs runs = none-outs held k outs runs
none-from_runs entries k held (i ∷ is) outs runs =
    let e : entries + k + 1 ≡ entries + (k + 1) = omega arith in
    both-none (instr_refusal held k i) (first_refusal entries (k + 1) (stepped held (entries + k) i) is outs)
    (none-instr held k i runs.0)
    (none-from_runs entries (k + 1) (stepped held (entries + k) i) is outs (subst (λ (n : ℕ). Runs (stepped held (entries + k) i) n is outs) e runs.1))
