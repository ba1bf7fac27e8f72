-- Runs are made of runs of parts.
use Rattle.std.proofs.Common.{◌≡◌, ℕ, ◌+◌, ◌≤◌, List, [], ◌∷◌, ◌++◌, length, take, drop, slice_index, refl, sym, ◌∙◌, ap, arith, append_assoc, append-nil, length-append}
use Rattle.std.proofs.lemmas.List.{get_or-drop, drop-drop, drop_at}
use Rattle.std.proofs.Math.Seq.{take-append_seam}
use Rattle.mk_field.specs.declared.field.FieldId.{FieldId}
use Rattle.mk_field.specs.declared.map.AddMap.{AddMap}
use Rattle.mk_field.specs.Field.{size}
use Rattle.mk_code.specs.declared.instr.Instr.{Instr}
use Rattle.mk_code.specs.declared.instr.Instr.TheVariants.{Rnd, Const, Copy, Add, Mul, Sq, Map}
use Rattle.mk_code.specs.Trace.{entry, takes, randoms, run}
use Rattle.mk_code.specs.Counting.{total}
use Rattle.mk_code.specs.RunLaws.{RunLaws}
use Rattle.mk_code.proofs.Totals.{total-same, total-split}

-- the first of what is left
pub index-drop : (n : ℕ) (xs : List ℕ) → slice_index (drop n xs) 0 ≡ slice_index xs n
index-drop n xs = get_or-drop n xs 0 0 ∙ ap (slice_index xs) (omega arith)

-- some instructions, and then others
pub run-append : (field : FieldId) (maps : List AddMap) (first second : List Instr) (tape entries : List ℕ)
    → run field maps (first ++ second) tape entries ≡ run field maps second (drop (randoms first) tape) (run field maps first tape entries)
unfolding run randoms
run-append field maps [] second tape entries = refl
run-append field maps (i ∷ is) second tape entries =
    let more = entries ++ entry field maps i (slice_index tape 0) entries ∷ [] in
    run-append field maps is second (drop (takes i) tape) more
    ∙ ap (λ (rest : List ℕ). run field maps second rest (run field maps is (drop (takes i) tape) more)) (drop-drop (randoms is) (takes i) tape)

-- one more instruction
pub run-push : (field : FieldId) (maps : List AddMap) (is : List Instr) (i : Instr) (tape entries : List ℕ)
    → run field maps (is ++ i ∷ []) tape entries
    ≡ run field maps is tape entries ++ entry field maps i (slice_index tape (randoms is)) (run field maps is tape entries) ∷ []
unfolding run
run-push field maps is i tape entries =
    let before = run field maps is tape entries in
    run-append field maps is (i ∷ []) tape entries
    ∙ ap (λ (word : ℕ). before ++ entry field maps i word before ∷ []) (index-drop (randoms is) tape)

-- one entry for each instruction
pub length-run : (field : FieldId) (maps : List AddMap) (is : List Instr) (tape entries : List ℕ)
    → length (run field maps is tape entries) ≡ length entries + length is
unfolding run
length-run field maps [] tape entries = omega arith
length-run field maps (i ∷ is) tape entries =
    let more = entries ++ entry field maps i (slice_index tape 0) entries ∷ [] in
    omega (arith, length-run field maps is (drop (takes i) tape) more, length-append entries (entry field maps i (slice_index tape 0) entries ∷ []))

-- the entries before stay, and others come behind them
pub run-behind : (field : FieldId) (maps : List AddMap) (is : List Instr) (tape entries : List ℕ)
    → (more : List ℕ) × (run field maps is tape entries ≡ entries ++ more)
unfolding run
run-behind field maps [] tape entries = ([], sym (append-nil entries))
run-behind field maps (i ∷ is) tape entries =
    let a = entry field maps i (slice_index tape 0) entries in
    let rest = run-behind field maps is (drop (takes i) tape) (entries ++ a ∷ []) in
    (a ∷ rest.0, rest.1 ∙ append_assoc entries (a ∷ []) rest.0)

-- the entries before stay
pub take-run : (field : FieldId) (maps : List AddMap) (is : List Instr) (tape entries : List ℕ)
    → take (length entries) (run field maps is tape entries) ≡ entries
take-run field maps is tape entries =
    let rest = run-behind field maps is tape entries in
    ap (take (length entries)) rest.1 ∙ take-append_seam entries rest.0

-- how many random elements some instructions and then others take
pub randoms-append : (first second : List Instr) → randoms (first ++ second) ≡ randoms first + randoms second
unfolding randoms
randoms-append [] second = omega arith
randoms-append (i ∷ is) second = omega (arith, randoms-append is second)

-- what is behind the elements that a run takes doesn't matter
pub run-enough : (field : FieldId) (maps : List AddMap) (is : List Instr) (tape more entries : List ℕ) → randoms is ≤ length tape
    → run field maps is (tape ++ more) entries ≡ run field maps is tape entries
unfolding run randoms
run-enough field maps [] tape more entries enough = refl
run-enough field maps (Rnd ∷ is) [] more entries enough = absurd (omega (arith, enough))
run-enough field maps (Rnd ∷ is) (a ∷ tape) more entries enough = run-enough field maps is tape more (entries ++ a ∷ []) (omega (arith, enough))
run-enough field maps (Const value ∷ is) tape more entries enough = run-enough field maps is tape more (entries ++ value ∷ []) (omega (arith, enough))
run-enough field maps (Copy from ∷ is) tape more entries enough =
    run-enough field maps is tape more (entries ++ entry field maps (Copy from) 0 entries ∷ []) (omega (arith, enough))
run-enough field maps (Add left right ∷ is) tape more entries enough =
    run-enough field maps is tape more (entries ++ entry field maps (Add left right) 0 entries ∷ []) (omega (arith, enough))
run-enough field maps (Mul left right ∷ is) tape more entries enough =
    run-enough field maps is tape more (entries ++ entry field maps (Mul left right) 0 entries ∷ []) (omega (arith, enough))
run-enough field maps (Sq from ∷ is) tape more entries enough =
    run-enough field maps is tape more (entries ++ entry field maps (Sq from) 0 entries ∷ []) (omega (arith, enough))
run-enough field maps (Map map from ∷ is) tape more entries enough =
    run-enough field maps is tape more (entries ++ entry field maps (Map map from) 0 entries ∷ []) (omega (arith, enough))

-- the first part of a tape serves the first instructions, and the rest the others
run-parts : (field : FieldId) (maps : List AddMap) (first second : List Instr) (s t entries : List ℕ) → length s ≡ randoms first
    → run field maps (first ++ second) (s ++ t) entries ≡ run field maps second t (run field maps first s entries)
run-parts field maps first second s t entries long =
    run-append field maps first second (s ++ t) entries
    ∙ ap (λ (rest : List ℕ). run field maps second rest (run field maps first (s ++ t) entries)) (drop_at s t (randoms first) long)
    ∙ ap (run field maps second t) (run-enough field maps first s t entries (omega (arith, long)))

-- a count over some instructions and then others
pub run-counted : (field : FieldId) (maps : List AddMap) (first second : List Instr) (h : List ℕ → ℕ) (entries : List ℕ)
    → total (size field) (randoms (first ++ second)) (λ tape. h (run field maps (first ++ second) tape entries))
    ≡ total (size field) (randoms first) (λ s. total (size field) (randoms second) (λ t. h (run field maps second t (run field maps first s entries))))
run-counted field maps first second h entries =
    let q : ℕ = size field in
    let m : ℕ = randoms first in
    let n : ℕ = randoms second in
    let g : List ℕ → ℕ = λ tape. h (run field maps (first ++ second) tape entries) in
    ap (λ (k : ℕ). total q k g) (randoms-append first second)
    ∙ total-split q m n g
    ∙ total-same q m (λ s. total q n (λ t. g (s ++ t))) (λ s. total q n (λ t. h (run field maps second t (run field maps first s entries))))
    (λ s here. total-same q n (λ t. g (s ++ t)) (λ t. h (run field maps second t (run field maps first s entries)))
    (λ t there. ap h (run-parts field maps first second s t entries here.count)))

-- the laws hold
pub run_laws-hold : (field : FieldId) (maps : List AddMap) → RunLaws field maps
run_laws-hold field maps = record {
  split = run-append field maps;
  one_more = run-push field maps;
  count = length-run field maps;
  front = take-run field maps;
  random = randoms-append;
  enough = run-enough field maps;
  counted = run-counted field maps;
}
