-- A placed gadget computes what it computes alone, entry by entry.
use Rattle.std.proofs.Common.{arith, ◌≡◌, ℕ, ◌+◌, ◌<◌, ◌≤◌, List, [], ◌∷◌, ◌++◌, length, map, drop, slice_index, bit_xor, inl, inr, refl, sym, ◌∙◌, ap, subst}
use Rattle.std.proofs.lemmas.Bool.{cases_lt, lt-ltb}
use Rattle.std.proofs.lemmas.List.{length-append, length-map, get_or_append_left, get_or_push}
use Rattle.mk_field.specs.declared.field.FieldId.{FieldId}
use Rattle.mk_field.specs.declared.map.AddMap.{AddMap}
use Rattle.mk_field.specs.Field.{size, product, square, image_by}
use Rattle.mk_code.specs.declared.instr.Instr.{Instr}
use Rattle.mk_code.specs.declared.instr.Instr.TheVariants.{Rnd, Const, Copy, Add, Mul, Sq, Map}
use Rattle.mk_code.specs.Listing.{FitsAt, AllFit}
use Rattle.mk_code.specs.Trace.{run, randoms, takes, entry}
use Rattle.mk_code.specs.Counting.{total, one_if_equal, AllBelow}
use Rattle.mk_code.specs.Private.{observation}
use Rattle.mk_code.proofs.Totals.{total-same}
use Rattle.mk_code.proofs.Runs.{length-run}
use Rattle.mk_code.proofs.Observations.{length-observation, observation-at}
use Rattle.mk_gadget.specs.Gadget.{Gadget, placement, moved, placed, placed_outs}
use Rattle.mk_gadget.specs.Steady.{block_view, block_ways}
use Rattle.mk_gadget.specs.PlacedLaw.{placed_view, PlacedLaw}
use Rattle.mk_gadget.proofs.Ranges.{placement-own}
use Rattle.mk_code.proofs.Steps.{AllBelow-at}

-- a moved instruction takes as many random elements
takes-moved : (to : ℕ → ℕ) (i : Instr) → takes (moved to i) ≡ takes i
takes-moved to Rnd = refl
takes-moved to (Const value) = refl
takes-moved to (Copy from) = refl
takes-moved to (Add left right) = refl
takes-moved to (Mul left right) = refl
takes-moved to (Sq from) = refl
takes-moved to (Map map from) = refl

-- moved instructions take as many random elements
randoms-moved : (to : ℕ → ℕ) (is : List Instr) → randoms (map (moved to) is) ≡ randoms is
unfolding randoms
randoms-moved to [] = refl
randoms-moved to (i ∷ is) = omega (arith, takes-moved to i, randoms-moved to is)

-- a moved instruction has the same value where its operands stand
entry-moved : (field : FieldId) (maps : List AddMap) (count : ℕ) (to : ℕ → ℕ) (i : Instr) (word : ℕ) (u v : List ℕ)
    → FitsAt field count (length u) i → ((q : ℕ) → q < length u → slice_index v (to q) ≡ slice_index u q)
    → entry field maps (moved to i) word v ≡ entry field maps i word u
entry-moved field maps count to Rnd word u v fits at = refl
entry-moved field maps count to (Const value) word u v fits at = refl
entry-moved field maps count to (Copy from) word u v fits at = at from fits
entry-moved field maps count to (Add left right) word u v fits at =
    let a : slice_index v (to left) ≡ slice_index u left = at left fits.0 in
    let b : slice_index v (to right) ≡ slice_index u right = at right fits.1 in
    ap (λ (x : ℕ). bit_xor x (slice_index v (to right))) a ∙ ap (bit_xor (slice_index u left)) b
entry-moved field maps count to (Mul left right) word u v fits at =
    ap (λ (x : ℕ). product field x (slice_index v (to right))) (at left fits.0) ∙ ap (product field (slice_index u left)) (at right fits.1)
entry-moved field maps count to (Sq from) word u v fits at = ap (square field) (at from fits)
entry-moved field maps count to (Map map from) word u v fits at = ap (image_by maps map) (at from fits.1)

-- v has at the placed positions what u has at the gadget's
record Follows (reads : List ℕ) (base : ℕ) (u v : List ℕ) : Type 0 where
  long : length reads ≤ length u
  count : length v + length reads ≡ base + length u
  at : (q : ℕ) → q < length u → slice_index v (placement reads base q) ≡ slice_index u q

-- the gadget's positions stand among the entries so far
placement-inside : (reads : List ℕ) (base q : ℕ) (u v : List ℕ) → AllBelow base reads → Follows reads base u v → q < length u
    → placement reads base q < length v
placement-inside reads base q u v below so inside = elim (cases_lt q (length reads)) [
  | inl operand ↦
      let at : placement reads base q ≡ slice_index reads q = rw (lt-ltb q (length reads) operand) refl in
      omega (arith, at, AllBelow-at base reads q below operand, so.count, so.long)
  | inr own ↦ omega (arith, placement-own reads base q own, so.count, inside)
]

-- one more entry of both
Follows-push : (reads : List ℕ) (base a b : ℕ) (u v : List ℕ) → AllBelow base reads → Follows reads base u v → b ≡ a
    → Follows reads base (u ++ a ∷ []) (v ++ b ∷ [])
Follows-push reads base a b u v below so same =
    let left : length (u ++ a ∷ []) ≡ length u + 1 = length-append u (a ∷ []) in
    let right : length (v ++ b ∷ []) ≡ length v + 1 = length-append v (b ∷ []) in
    record {
      long = omega (arith, so.long, left);
      count = omega (arith, so.count, left, right);
      at = λ q inside. elim (cases_lt q (length u)) [
        | inl before ↦
            get_or_append_left v (b ∷ []) 0 (placement reads base q) (placement-inside reads base q u v below so before)
            ∙ so.at q before
            ∙ sym (get_or_append_left u (a ∷ []) 0 q before)
        | inr last ↦
            let end : q ≡ length u = omega (arith, inside, left, last) in
            let position : placement reads base q ≡ length v = omega (arith, placement-own reads base q (omega (arith, so.long, last)), so.count, so.long, end) in
            get_or_push v b 0 (placement reads base q) (sym position) ∙ same ∙ sym (get_or_push u a 0 q (sym end))
      ];
    }

-- run alone and placed, each instruction has the same value
run-follows : (field : FieldId) (maps : List AddMap) (count : ℕ) (reads : List ℕ) (base : ℕ) (is : List Instr) (tape u v : List ℕ)
    → AllBelow base reads → AllFit field count (length u) is → Follows reads base u v
    → Follows reads base (run field maps is tape u) (run field maps (map (moved (placement reads base)) is) tape v)
unfolding run
run-follows field maps count reads base [] tape u v below fit so = so
run-follows field maps count reads base (i ∷ is) tape u v below fit so =
    let to : ℕ → ℕ = placement reads base in
    let a : ℕ = entry field maps i (slice_index tape 0) u in
    let b : ℕ = entry field maps (moved to i) (slice_index tape 0) v in
    let same : b ≡ a = entry-moved field maps count to i (slice_index tape 0) u v fit.0 so.at in
    let left : length u + 1 ≡ length (u ++ a ∷ []) = sym (length-append u (a ∷ [])) in
    subst (λ (n : ℕ). Follows reads base (run field maps is (drop (takes i) tape) (u ++ a ∷ [])) (run field maps (map (moved to) is) (drop n tape) (v ++ b ∷ [])))
    (sym (takes-moved to i))
    (run-follows field maps count reads base is (drop (takes i) tape) (u ++ a ∷ []) (v ++ b ∷ []) below
    (subst (λ (n : ℕ). AllFit field count n is) left fit.1) (Follows-push reads base a b u v below so same))

-- the state holds the operands
Follows-start : (reads entries : List ℕ) → Follows reads (length entries) (observation reads entries) entries
Follows-start reads entries =
    let same : length (observation reads entries) ≡ length reads = length-observation reads entries in
    record {
      long = omega (arith, same);
      count = omega (arith, same);
      at = λ q inside.
          let operand : q < length reads = omega (arith, inside, same) in
          let position : placement reads (length entries) q ≡ slice_index reads q = rw (lt-ltb q (length reads) operand) refl in
          ap (slice_index entries) position ∙ sym (observation-at reads entries q operand);
    }

-- the entry at a placed position is that of the gadget alone
placed-entry : (field : FieldId) (maps : List AddMap) (gadget : Gadget) (count position : ℕ) (reads tape entries : List ℕ)
    → AllBelow (length entries) reads → AllFit field count (length reads) gadget.instrs → position < length reads + length gadget.instrs
    → slice_index (run field maps (placed reads (length entries) gadget) tape entries) (placement reads (length entries) position)
    ≡ slice_index (run field maps gadget.instrs tape (observation reads entries)) position
placed-entry field maps gadget count position reads tape entries below fit inside =
    let state : List ℕ = observation reads entries in
    let same : length state ≡ length reads = length-observation reads entries in
    let so : Follows reads (length entries) (run field maps gadget.instrs tape state) (run field maps (placed reads (length entries) gadget) tape entries) =
    run-follows field maps count reads (length entries) gadget.instrs tape state entries below
    (subst (λ (n : ℕ). AllFit field count n gadget.instrs) (sym same) fit) (Follows-start reads entries) in
    so.at position (omega (arith, inside, same, length-run field maps gadget.instrs tape state))

-- what is seen of probed instructions
probes-placed : (reads : List ℕ) (base len : ℕ) (after alone probes : List ℕ) → AllBelow len probes
    → ((position : ℕ) → position < length reads + len → slice_index after (placement reads base position) ≡ slice_index alone position)
    → observation (map (λ k. base + k) probes) after ≡ observation (map (λ k. length reads + k) probes) alone
unfolding AllBelow
probes-placed reads base len after alone [] below at = refl
probes-placed reads base len after alone (k ∷ ks) below at =
    let position : placement reads base (length reads + k) ≡ base + k =
    placement-own reads base (length reads + k) (omega arith) ∙ ap (λ (n : ℕ). base + n) (omega arith) in
    let here : slice_index after (base + k) ≡ slice_index alone (length reads + k) =
    ap (slice_index after) (sym position) ∙ at (length reads + k) (omega (arith, below.0)) in
    let rest : observation (map (λ k. base + k) ks) after ≡ observation (map (λ k. length reads + k) ks) alone =
    probes-placed reads base len after alone ks below.1 at in
    cc

-- what is seen of the out bank
outs-placed : (to : ℕ → ℕ) (len : ℕ) (after alone positions : List ℕ) → AllBelow len positions
    → ((position : ℕ) → position < len → slice_index after (to position) ≡ slice_index alone position)
    → observation (map to positions) after ≡ observation positions alone
unfolding AllBelow
outs-placed to len after alone [] below at = refl
outs-placed to len after alone (p ∷ ps) below at =
    let here : slice_index after (to p) ≡ slice_index alone p = at p below.0 in
    let rest : observation (map to ps) after ≡ observation ps alone = outs-placed to len after alone ps below.1 at in
    cc

-- an observer sees of a placed gadget what is seen of it alone
placed-seen : (field : FieldId) (maps : List AddMap) (gadget : Gadget) (count : ℕ) (reads tape entries probes outs : List ℕ)
    → AllBelow (length entries) reads → AllFit field count (length reads) gadget.instrs
    → AllBelow (length gadget.instrs) probes → AllBelow (length reads + length gadget.instrs) gadget.outs
    → placed_view reads (length entries) gadget probes outs (run field maps (placed reads (length entries) gadget) tape entries)
    ≡ block_view (length reads) gadget probes outs (run field maps gadget.instrs tape (observation reads entries))
placed-seen field maps gadget count reads tape entries probes outs below fit within bank =
    let after : List ℕ = run field maps (placed reads (length entries) gadget) tape entries in
    let alone : List ℕ = run field maps gadget.instrs tape (observation reads entries) in
    let at : (position : ℕ) → position < length reads + length gadget.instrs → slice_index after (placement reads (length entries) position) ≡ slice_index alone position =
    λ position inside. placed-entry field maps gadget count position reads tape entries below fit inside in
    ap (λ (seen : List ℕ). seen ++ observation outs (observation (placed_outs reads (length entries) gadget) after))
    (probes-placed reads (length entries) (length gadget.instrs) after alone probes within at)
    ∙ ap (λ (shares : List ℕ). observation (map (λ k. length reads + k) probes) alone ++ observation outs shares)
    (outs-placed (placement reads (length entries)) (length reads + length gadget.instrs) after alone gadget.outs bank at)

-- in as many ways
placed-ways : (field : FieldId) (maps : List AddMap) (gadget : Gadget) (count : ℕ) (reads entries probes outs seen : List ℕ)
    → AllBelow (length entries) reads → AllFit field count (length reads) gadget.instrs
    → AllBelow (length gadget.instrs) probes → AllBelow (length reads + length gadget.instrs) gadget.outs
    → total (size field) (randoms (placed reads (length entries) gadget))
    (λ tape. one_if_equal (placed_view reads (length entries) gadget probes outs (run field maps (placed reads (length entries) gadget) tape entries)) seen)
    ≡ block_ways field maps gadget (observation reads entries) probes outs seen
placed-ways field maps gadget count reads entries probes outs seen below fit within bank =
    let state : List ℕ = observation reads entries in
    let alone : List ℕ → ℕ → List ℕ = λ tape base. block_view base gadget probes outs (run field maps gadget.instrs tape state) in
    let shown : List ℕ → ℕ =
    λ tape. one_if_equal (placed_view reads (length entries) gadget probes outs (run field maps (placed reads (length entries) gadget) tape entries)) seen in
    ap (λ (n : ℕ). total (size field) n shown) (randoms-moved (placement reads (length entries)) gadget.instrs)
    ∙ total-same (size field) (randoms gadget.instrs) shown (λ tape. one_if_equal (alone tape (length state)) seen)
    (λ tape here. ap (λ (view : List ℕ). one_if_equal view seen)
    (placed-seen field maps gadget count reads tape entries probes outs below fit within bank ∙ ap (alone tape) (sym (length-observation reads entries))))

-- the law holds
pub PlacedLaw-holds : (field : FieldId) (maps : List AddMap) → PlacedLaw field maps
PlacedLaw-holds field maps = record {
  entry = placed-entry field maps;
  view = placed-seen field maps;
  ways = placed-ways field maps;
  count = λ gadget reads base. length-map gadget.instrs (moved (placement reads base));
  random = λ gadget reads base. randoms-moved (placement reads base) gadget.instrs;
}
