-- Probing security, after Ishai, Sahai and Wagner (CRYPTO 2003): whoever observes at most `order` values
-- of a run learns nothing of the secrets, since each tuple of values comes from equally many random
-- tapes, whatever the secrets are.
use Rattle.std.specs.Prelude.{◌≡◌, ℕ, ◌+◌, ◌*◌, ◌≤◌, List, length, take, drop, map, slice_index}
use Rattle.mk_field.specs.Field.{size}
use Rattle.mk_field.specs.Sharing.{encodings}
use Rattle.mk_code.specs.Listing.{Listing, trace_len}
use Rattle.mk_code.specs.Trace.{randoms, trace}
use Rattle.mk_code.specs.Counting.{total, one_if_equal, AllBelow, Elements}

-- what an observer of these positions of the trace sees, in the order of the positions
abbrev pub observation : List ℕ → List ℕ → List ℕ
observation probes entries = map (λ p. slice_index entries p) probes

-- how many elements of a tape the encodings of the secrets take
abbrev pub spent : Listing → ℕ
spent code = code.order * code.secrets

-- the trace of a run whose secrets are encoded by the first elements of the tape, the first `order` of
-- them for the first secret and so on, and which takes its random elements from the rest
abbrev pub masked_trace : Listing → List ℕ → List ℕ → List ℕ → List ℕ
masked_trace code publics secrets tape =
    trace code publics (encodings code.order secrets (take (spent code) tape)) (drop (spent code) tape)

-- the number of tapes for which an observer of these positions sees `seen`
abbrev pub ways : Listing → List ℕ → List ℕ → List ℕ → List ℕ → ℕ
ways code publics secrets probes seen =
    total (size code.field) (spent code + randoms code.instrs)
    (λ tape. one_if_equal (observation probes (masked_trace code publics secrets tape)) seen)

-- for the same public inputs and any two lists of secrets, at most `order` positions of the trace show each
-- list of values in equally many ways
abbrev pub Private : Listing → Type 0
Private code =
    (publics first second probes seen : List ℕ)
    → Elements (size code.field) code.publics publics
    → Elements (size code.field) code.secrets first
    → Elements (size code.field) code.secrets second
    → length probes ≤ code.order → AllBelow (trace_len code) probes
    → ways code publics first probes seen ≡ ways code publics second probes seen
