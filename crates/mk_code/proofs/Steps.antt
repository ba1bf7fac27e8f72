-- One step of a run, and what is left to do behind it.
use Rattle.std.proofs.Common.{◌≡◌, ℕ, zero, suc, ◌+◌, ◌*◌, ◌≤◌, ◌<◌, List, [], ◌∷◌, ◌++◌, length, drop, slice_index, slice_index_or, All, refl, sym, ◌∙◌, ap, subst, arith, add-one, drop-cons}
use Rattle.mk_field.specs.declared.field.FieldId.{FieldId}
use Rattle.std.proofs.lemmas.List.{drop_all}
use Rattle.std.proofs.lemmas.List.Elements.{All-from_get_or}
use Rattle.mk_field.specs.declared.map.AddMap.{AddMap}
use Rattle.mk_field.specs.Field.{size}
use Rattle.mk_code.specs.declared.instr.Instr.{Instr}
use Rattle.mk_code.specs.declared.instr.Instr.TheVariants.{Rnd, Const, Copy, Add, Mul, Sq, Map}
use Rattle.mk_code.specs.declared.machine.Used.{Used}
use Rattle.mk_code.specs.Listing.{Listing, IsListing, FitsAt, AllFit, inputs_len}
use Rattle.mk_code.specs.Trace.{entry, takes, randoms, run}
use Rattle.mk_code.specs.Counting.{AllBelow, Elements}
use Rattle.mk_code.specs.Machine.{Progress, IsProgress, next, stepped, needed, outcome}
use Rattle.mk_code.specs.Used.{words}
use Rattle.mk_code.proofs.Totals.{Elements-append, Elements-cons, Elements-nil}

-- an instruction looks at the word only where it takes one
pub entry-word : (field : FieldId) (maps : List AddMap) (i : Instr) (v w : ℕ) (entries : List ℕ)
    → (takes i ≡ 1 → v ≡ w) → entry field maps i v entries ≡ entry field maps i w entries
entry-word field maps Rnd v w entries same = same refl
entry-word field maps (Const value) v w entries same = refl
entry-word field maps (Copy from) v w entries same = refl
entry-word field maps (Add left right) v w entries same = refl
entry-word field maps (Mul left right) v w entries same = refl
entry-word field maps (Sq from) v w entries same = refl
entry-word field maps (Map map from) v w entries same = refl

-- the instructions from the k-th on: it, and the ones behind it
pub drop-next : (is : List Instr) (k : ℕ) → k < length is → drop k is ≡ slice_index_or is k Rnd ∷ drop (k + 1) is
drop-next is k below = rw (add-one, drop-cons is k Rnd)

-- what the instructions from the k-th on take
pub randoms-drop : (is : List Instr) (k : ℕ) → k < length is
    → randoms (drop k is) ≡ takes (slice_index_or is k Rnd) + randoms (drop (k + 1) is)
unfolding randoms
randoms-drop is k below = ap randoms (drop-next is k below)

-- the k-th instruction carried out, and then the ones behind it
pub run-drop : (field : FieldId) (maps : List AddMap) (is : List Instr) (k : ℕ) (tape entries : List ℕ) → k < length is
    → run field maps (drop k is) tape entries
    ≡ run field maps (drop (k + 1) is) (drop (takes (slice_index_or is k Rnd)) tape)
    (entries ++ entry field maps (slice_index_or is k Rnd) (slice_index tape 0) entries ∷ [])
unfolding run
run-drop field maps is k tape entries below = ap (λ (js : List Instr). run field maps js tape entries) (drop-next is k below)

-- the same, where the word is known only where it is taken
pub run-drop-word : (field : FieldId) (maps : List AddMap) (is : List Instr) (k word : ℕ) (tape entries : List ℕ) → k < length is
    → (takes (slice_index_or is k Rnd) ≡ 1 → slice_index tape 0 ≡ word)
    → run field maps (drop (k + 1) is) (drop (takes (slice_index_or is k Rnd)) tape)
    (entries ++ entry field maps (slice_index_or is k Rnd) word entries ∷ [])
    ≡ run field maps (drop k is) tape entries
run-drop-word field maps is k word tape entries below same =
    let i = slice_index_or is k Rnd in
    let e : entry field maps i word entries ≡ entry field maps i (slice_index tape 0) entries =
    entry-word field maps i word (slice_index tape 0) entries (λ one. sym (same one)) in
    ap (λ (a : ℕ). run field maps (drop (k + 1) is) (drop (takes i) tape) (entries ++ a ∷ [])) e
    ∙ sym (run-drop field maps is k tape entries below)

-- each of the instructions fits behind those before it
pub AllFit-at : (field : FieldId) (maps len : ℕ) (is : List Instr) (k : ℕ) → k < length is
    → AllFit field maps len is → FitsAt field maps (len + k) (slice_index_or is k Rnd)
AllFit-at field maps len [] k below fit = absurd (omega arith)
AllFit-at field maps len (i ∷ is) zero below fit =
    let e : len ≡ len + 0 = omega arith in
    subst (λ (n : ℕ). FitsAt field maps n i) e fit.0
AllFit-at field maps len (i ∷ is) (suc k) below fit =
    let e : len + 1 + k ≡ len + suc k = omega arith in
    subst (λ (n : ℕ). FitsAt field maps n (slice_index_or is k Rnd)) e (AllFit-at field maps (len + 1) is k (omega arith) fit.1)

-- an element of a list of elements
pub AllBelow-at : (q : ℕ) (xs : List ℕ) (k : ℕ) → AllBelow q xs → k < length xs → slice_index xs k < q
unfolding AllBelow
AllBelow-at q [] k all below = absurd (omega arith)
AllBelow-at q (x ∷ xs) zero all below = all.0
AllBelow-at q (x ∷ xs) (suc k) all below = AllBelow-at q xs k all.1 (omega arith)

-- behind the last instruction the trace is whole
pub outcome-done : (p : Progress) (tape : List ℕ) → length p.code.instrs ≤ p.at → outcome p tape ≡ p.entries
unfolding run
outcome-done p tape all = ap (λ (js : List Instr). run p.code.field p.code.maps js tape p.entries) (drop_all p.at p.code.instrs all)

-- behind the last instruction no element of the tape is needed
pub needed-done : (p : Progress) → length p.code.instrs ≤ p.at → needed p ≡ 0
unfolding randoms
needed-done p all = ap randoms (drop_all p.at p.code.instrs all)

-- a step of an instruction that says how many words it took leaves the whole trace as it is
pub outcome-step : (p : Progress) (used : Used) (word : ℕ) (tape : List ℕ) → p.at < length p.code.instrs
    → words used ≡ takes (next p) → (words used ≡ 1 → slice_index tape 0 ≡ word)
    → outcome (stepped p word) (drop (words used) tape) ≡ outcome p tape
outcome-step p used word tape left took same =
    ap (λ (n : ℕ). outcome (stepped p word) (drop n tape)) took
    ∙ run-drop-word p.code.field p.code.maps p.code.instrs p.at word tape p.entries left (λ one. same (took ∙ one))

-- and takes what it took from what is needed
pub needed-step : (p : Progress) (used : Used) (word : ℕ) → p.at < length p.code.instrs
    → words used ≡ takes (next p) → needed p ≡ words used + needed (stepped p word)
needed-step p used word left took =
    randoms-drop p.code.instrs p.at left ∙ ap (λ (n : ℕ). n + randoms (drop (p.at + 1) p.code.instrs)) (sym took)

-- the next instruction fits behind the entries
pub next-fits : (p : Progress) → IsListing p.code → IsProgress p → p.at < length p.code.instrs
    → FitsAt p.code.field (length p.code.maps) (length p.entries) (next p)
next-fits p listing progress left =
    subst (λ (n : ℕ). FitsAt p.code.field (length p.code.maps) n (next p)) (sym progress.elements.count)
    (AllFit-at p.code.field (length p.code.maps) (inputs_len p.code.order p.code.secrets p.code.publics) p.code.instrs p.at left listing.fit)

-- one more element behind the others
pub Elements-push : (q n a : ℕ) (xs : List ℕ) → Elements q n xs → a < q → Elements q (n + 1) (xs ++ a ∷ [])
Elements-push q n a xs front below = Elements-append q n 1 xs (a ∷ []) front (Elements-cons q 0 a [] below (Elements-nil q))

-- a run after one more instruction, whose value is an element
pub IsProgress-step : (p : Progress) (a : ℕ) → IsProgress p → p.at < length p.code.instrs → a < size p.code.field
    → IsProgress (record { code = p.code; at = p.at + 1; entries = p.entries ++ a ∷ [] })
IsProgress-step p a progress left below = record {
  within = omega arith;
  elements = subst (λ (n : ℕ). Elements (size p.code.field) n (p.entries ++ a ∷ []))
      (omega arith) (Elements-push (size p.code.field) (inputs_len p.code.order p.code.secrets p.code.publics + p.at) a p.entries progress.elements below);
}

-- the inputs are the first entries
pub IsProgress-new : (code : Listing) (publics shares : List ℕ)
    → Elements (size code.field) code.publics publics → Elements (size code.field) (code.secrets * (code.order + 1)) shares
    → IsProgress (record { code = code; at = 0; entries = shares ++ publics })
IsProgress-new code publics shares first second = record {
  within = omega arith;
  elements = subst (λ (n : ℕ). Elements (size code.field) n (shares ++ publics)) (omega arith)
      (Elements-append (size code.field) (code.secrets * (code.order + 1)) code.publics shares publics second first);
}

-- numbers below q, said of each element
pub All-below : (q : ℕ) (xs : List ℕ) → AllBelow q xs → All (λ a. a < q) xs
All-below q xs below = All-from_get_or (λ (a : ℕ). a < q) xs 0 (λ k lt. AllBelow-at q xs k below lt)

-- and back
pub AllBelow-all : (q : ℕ) (xs : List ℕ) → All (λ a. a < q) xs → AllBelow q xs
unfolding AllBelow
AllBelow-all q [] all = tt
AllBelow-all q (x ∷ xs) all = (all 0 0 (omega arith), AllBelow-all q xs (λ k d lt. all (suc k) d (omega arith)))
