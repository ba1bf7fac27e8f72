-- The polynomials of a gadget's positions. The variables are the shares, in the order of their positions, and then
-- the random elements, in the order in which the instructions take them.
use Rattle.std.specs.Prelude.{◌≡◌, ◌≤◌, ◌<◌, ℕ, ◌+◌, ◌*◌, List, [], ◌∷◌, ◌++◌, length, All, map, replicate, nat_eq, if◌then◌else◌, slice_index, slice_index_or, slice_set}
use Rattle.std.specs.List.{range_with_len}
use Rattle.mk_field.specs.declared.field.FieldId.{FieldId}
use Rattle.mk_code.specs.declared.instr.Instr.{Instr}
use Rattle.mk_code.specs.declared.instr.Instr.TheVariants.{Rnd, Const, Copy, Add, Mul, Sq, Map}
use Rattle.mk_code.specs.Trace.{takes, randoms}
use Rattle.mk_pad.specs.declared.term.Term.{Term}
use Rattle.mk_pad.specs.declared.refusal.PadRefusal.{PadRefusal}
use Rattle.mk_pad.specs.declared.refusal.PadRefusal.TheVariants.{TooManySets, TooManyTerms, Memory}
use Rattle.mk_pad.specs.declared.TheConstants.{MOST_TERMS}
use Rattle.mk_pad.specs.Form.{GadgetForm, share_count}
use Rattle.mk_pad.specs.Polynomial.{plus, times, squared}

-- how many variables there are
abbrev pub variable_count : GadgetForm → ℕ
variable_count g = share_count g + randoms g.instrs

-- a variable, of n
abbrev pub variable : ℕ → ℕ → List Term
variable n v = record { exponents = slice_set (replicate n 0) v 1; coefficient = 1 } ∷ []

-- a constant, in n variables
abbrev pub constant : ℕ → ℕ → List Term
constant n c = if nat_eq c 0 then [] else record { exponents = replicate n 0; coefficient = c } ∷ []

-- the polynomial of a position
abbrev pub polynomial_at : List (List Term) → ℕ → List Term
polynomial_at positions p = slice_index_or positions p []

-- the polynomial of an instruction behind positions with these polynomials, in n variables, where the next random
-- element is the variable `next`; a gadget has no additive maps
abbrev pub next_polynomial : FieldId → ℕ → Instr → ℕ → List (List Term) → List Term
next_polynomial field n Rnd next positions = variable n next
next_polynomial field n (Const value) next positions = constant n value
next_polynomial field n (Copy from) next positions = polynomial_at positions from
next_polynomial field n (Add left right) next positions = plus (polynomial_at positions left) (polynomial_at positions right)
next_polynomial field n (Mul left right) next positions = times field (polynomial_at positions left) (polynomial_at positions right)
next_polynomial field n (Sq from) next positions = squared field (polynomial_at positions from)
next_polynomial field n (Map map from) next positions = []

-- the polynomials of the positions, and behind them those of the instructions
unfoldable pub polynomials_from : FieldId → ℕ → List Instr → ℕ → List (List Term) → List (List Term)
polynomials_from field n [] next positions = positions
polynomials_from field n (i ∷ is) next positions =
    polynomials_from field n is (next + takes i) (positions ++ next_polynomial field n i next positions ∷ [])

-- the first variables, of n
abbrev pub variables : ℕ → ℕ → List (List Term)
variables n count = map (variable n) (range_with_len 0 count)

-- the polynomials of all positions of instructions that stand behind so many shares, in n variables
abbrev pub polynomials_of : FieldId → ℕ → ℕ → List Instr → List (List Term)
polynomials_of field n shares is = polynomials_from field n is shares (variables n shares)

-- those of a gadget
abbrev pub polynomials : GadgetForm → List (List Term)
polynomials g = polynomials_of g.field (variable_count g) (share_count g) g.instrs

-- how many terms an instruction counts behind positions with these polynomials, before terms are combined
abbrev pub term_count : Instr → List (List Term) → ℕ
term_count Rnd positions = 1
term_count (Const value) positions = 1
term_count (Copy from) positions = length (polynomial_at positions from)
term_count (Add left right) positions = length (polynomial_at positions left) + length (polynomial_at positions right)
term_count (Mul left right) positions = length (polynomial_at positions left) * length (polynomial_at positions right)
term_count (Sq from) positions = length (polynomial_at positions from)
term_count (Map map from) positions = 0

-- how many each of the instructions counts
unfoldable pub counts_from : FieldId → ℕ → List Instr → ℕ → List (List Term) → List ℕ
counts_from field n [] next positions = []
counts_from field n (i ∷ is) next positions =
    term_count i positions ∷ counts_from field n is (next + takes i) (positions ++ next_polynomial field n i next positions ∷ [])

-- how many each counts that stands behind so many shares, in n variables
abbrev pub counts_of : FieldId → ℕ → ℕ → List Instr → List ℕ
counts_of field n shares is = counts_from field n is shares (variables n shares)

-- how many each instruction of a gadget counts
abbrev pub counts : GadgetForm → List ℕ
counts g = counts_of g.field (variable_count g) (share_count g) g.instrs

-- none of these counts is too great
abbrev pub AreFew : List ℕ → Type 0
AreFew counts = All (λ count. count ≤ MOST_TERMS) counts

-- the first of these counts that is too great is this one
abbrev pub IsFirstAbove : List ℕ → ℕ → Type 0
IsFirstAbove counts terms =
    (i : ℕ) × (i < length counts) × (slice_index counts i ≡ terms) × (MOST_TERMS < terms)
    × ((j : ℕ) → j < i → slice_index counts j ≤ MOST_TERMS)

-- so this is refused
abbrev pub IsRefused : List ℕ → PadRefusal → Type 0
IsRefused counts (TooManySets sets) = ⊥
IsRefused counts (TooManyTerms terms) = IsFirstAbove counts terms
IsRefused counts Memory = ⊥
