-- How runs are made of runs of parts.
use Rattle.std.specs.Prelude.{◌≡◌, ℕ, ◌+◌, ◌≤◌, List, [], ◌∷◌, ◌++◌, length, take, drop, slice_index}
use Rattle.mk_field.specs.declared.field.FieldId.{FieldId}
use Rattle.mk_field.specs.declared.map.AddMap.{AddMap}
use Rattle.mk_field.specs.Field.{size}
use Rattle.mk_code.specs.declared.instr.Instr.{Instr}
use Rattle.mk_code.specs.Trace.{entry, randoms, run}
use Rattle.mk_code.specs.Counting.{total}

-- a run of some instructions and then others is a run of the others behind a run of the first; a
-- run of one more has one more entry; each instruction has one entry, and those before it stay.
-- `enough`: what is behind the elements that a run takes doesn't matter. `counted`: a count over the tapes of
-- some instructions and then others is the sum, over what the first leave, of the counts over the others
pub record RunLaws (field : FieldId) (maps : List AddMap) : Type 0 where
  pub split : (first second : List Instr) (tape entries : List ℕ)
      → run field maps (first ++ second) tape entries ≡ run field maps second (drop (randoms first) tape) (run field maps first tape entries)
  pub one_more : (is : List Instr) (i : Instr) (tape entries : List ℕ)
      → run field maps (is ++ i ∷ []) tape entries
      ≡ run field maps is tape entries ++ entry field maps i (slice_index tape (randoms is)) (run field maps is tape entries) ∷ []
  pub count : (is : List Instr) (tape entries : List ℕ) → length (run field maps is tape entries) ≡ length entries + length is
  pub front : (is : List Instr) (tape entries : List ℕ) → take (length entries) (run field maps is tape entries) ≡ entries
  pub random : (first second : List Instr) → randoms (first ++ second) ≡ randoms first + randoms second
  pub enough : (is : List Instr) (tape more entries : List ℕ) → randoms is ≤ length tape
      → run field maps is (tape ++ more) entries ≡ run field maps is tape entries
  pub counted : (first second : List Instr) (h : List ℕ → ℕ) (entries : List ℕ)
      → total (size field) (randoms (first ++ second)) (λ tape. h (run field maps (first ++ second) tape entries))
      ≡ total (size field) (randoms first) (λ s. total (size field) (randoms second) (λ t. h (run field maps second t (run field maps first s entries))))
