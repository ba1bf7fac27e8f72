-- What encodings show: with one share of each secret hidden, the same whatever the secrets are.
use Rattle.std.specs.Prelude.{◌≡◌, ◌≢◌, ℕ, ◌+◌, ◌*◌, ◌≤◌, ◌<◌, List, length, slice_index}
use Rattle.mk_field.specs.declared.field.FieldId.{FieldId}
use Rattle.mk_field.specs.Field.{size}
use Rattle.mk_field.specs.Sharing.{encoding, encodings}
use Rattle.mk_code.specs.Counting.{total, one_if_equal, Elements}
use Rattle.mk_code.specs.Private.{observation}

-- two lists of the shares of `count` values, order + 1 shares for each, are equal but for one hidden
-- share of each value
pub record AgreeBut (order count : ℕ) (hidden : ℕ → ℕ) (u v : List ℕ) : Type 0 where
  pub shares : (i j : ℕ) → i < count → j ≤ order → j ≢ hidden i
      → slice_index u (i * (order + 1) + j) ≡ slice_index v (i * (order + 1) + j)

-- h gives the same at any two lists of shares that are equal but for the hidden ones
pub record LooksPast (q order count : ℕ) (hidden : ℕ → ℕ) (h : List ℕ → ℕ) : Type 0 where
  pub same : (u v : List ℕ) → Elements q (count * (order + 1)) u → Elements q (count * (order + 1)) v
      → AgreeBut order count hidden u v → h u ≡ h v

-- at most `order` shares of an encoding are each list of values in equally many ways, whatever the
-- secret
abbrev pub EncodingLaw : FieldId → Type 0
EncodingLaw field =
    (order first second : ℕ) (indexes seen : List ℕ)
    → first < size field → second < size field → length indexes ≤ order
    → total (size field) order (λ tape. one_if_equal (observation indexes (encoding first tape)) seen)
    ≡ total (size field) order (λ tape. one_if_equal (observation indexes (encoding second tape)) seen)

-- what looks past one share of each secret has the same total over all encodings, whatever the
-- secrets
abbrev pub EncodingsLaw : FieldId → Type 0
EncodingsLaw field =
    (order count : ℕ) (hidden : ℕ → ℕ) (h : List ℕ → ℕ) (first second : List ℕ)
    → ((i : ℕ) → hidden i ≤ order)
    → LooksPast (size field) order count hidden h
    → Elements (size field) count first → Elements (size field) count second
    → total (size field) (order * count) (λ tape. h (encodings order first tape))
    ≡ total (size field) (order * count) (λ tape. h (encodings order second tape))
