-- A test for written-out code that works share by share: it finds the columns itself.
use Rattle.std.proofs.Common.{◌≡◌, ℕ, zero, suc, ◌+◌, ◌*◌, ◌<◌, ◌≤◌, Bool, true, false, ◌&&◌, nat_eq, List, [], ◌∷◌, ◌++◌, length, replicate, slice_index_or, Option, Some, None, refl, ◌∙◌, ap, arith, inl, inr, eq-or-lt_of_le, le_of_suc-le-suc, eqb-true, zero-mul, suc-mul, length-append, get_or-append-add}
use Rattle.std.proofs.lemmas.Bool.{and_parts}
use Rattle.std.proofs.lemmas.List.{get_or_append_left, get_or-replicate, length-replicate}
use Rattle.mk_code.specs.declared.instr.Instr.{Instr}
use Rattle.mk_code.specs.declared.instr.Instr.TheVariants.{Rnd, Const, Copy, Add, Mul, Sq, Map}
use Rattle.mk_code.specs.Listing.{Listing, inputs_len}
use Rattle.mk_code.specs.Private.{Private}
use Rattle.mk_code.specs.Columns.{MayRead, StaysIn, AllStayIn, AreColumns}
use Rattle.mk_code.proofs.Columns.{columns-private}

-- whether an entry of the first column may be read for a value of the second
abbrev pub may_read : Option ℕ → Option ℕ → Bool
may_read None own = true
may_read (Some j) None = false
may_read (Some j) (Some k) = nat_eq k j

-- whether the instruction stays in the column
abbrev pub stays_in : (ℕ → Option ℕ) → Option ℕ → Instr → Bool
stays_in column own Rnd = false
stays_in column own (Const value) = true
stays_in column own (Copy from) = may_read (column from) own
stays_in column own (Add left right) = may_read (column left) own && may_read (column right) own
stays_in column own (Mul left right) = may_read (column left) own && may_read (column right) own
stays_in column own (Sq from) = may_read (column from) own
stays_in column own (Map map from) = may_read (column from) own

-- whether each of the instructions behind `len` entries stays in the column of its position
abbrev pub all_stay_in : (ℕ → Option ℕ) → ℕ → List Instr → Bool
all_stay_in column len [] = true
all_stay_in column len (i ∷ is) = stays_in column (column len) i && all_stay_in column (len + 1) is

-- the column of a value made of entries of these two columns, which stay in one
abbrev pub joint : Option ℕ → Option ℕ → Option ℕ
joint None b = b
joint (Some j) b = Some j

-- the column of an instruction's value
abbrev pub made_of : (ℕ → Option ℕ) → Instr → Option ℕ
made_of column Rnd = None
made_of column (Const value) = None
made_of column (Copy from) = column from
made_of column (Add left right) = joint (column left) (column right)
made_of column (Mul left right) = joint (column left) (column right)
made_of column (Sq from) = column from
made_of column (Map map from) = column from

-- the column at a position of the list, none past its end
abbrev pub listed : List (Option ℕ) → ℕ → Option ℕ
listed columns p = slice_index_or columns p None

-- the columns, and behind them those of the instructions
abbrev pub with_instrs : List (Option ℕ) → List Instr → List (Option ℕ)
with_instrs columns [] = columns
with_instrs columns (i ∷ is) = with_instrs (columns ++ made_of (listed columns) i ∷ []) is

-- the columns of n shares from share k on
abbrev pub share_columns : ℕ → ℕ → List (Option ℕ)
share_columns zero k = []
share_columns (suc n) k = Some k ∷ share_columns n (suc k)

-- the columns of the shares and publics
abbrev pub input_columns : ℕ → ℕ → ℕ → List (Option ℕ)
input_columns order zero publics = replicate publics None
input_columns order (suc n) publics = share_columns (suc order) 0 ++ input_columns order n publics

-- the columns of the positions of the code's trace
abbrev pub columns_of : Listing → ℕ → Option ℕ
columns_of code = listed (with_instrs (input_columns code.order code.secrets code.publics) code.instrs)

-- whether the code works share by share
abbrev pub works_by_share : Listing → Bool
works_by_share code = all_stay_in (columns_of code) (inputs_len code.order code.secrets code.publics) code.instrs

-- the test of what may be read
MayRead-from : (read own : Option ℕ) → may_read read own ≡ true → MayRead read own
MayRead-from None own passes = tt
MayRead-from (Some j) None passes = absurd (cc)
MayRead-from (Some j) (Some k) passes = ap Some (eqb-true k j passes)

-- the test of two reads
both-from : (left right own : Option ℕ) → (may_read left own && may_read right own) ≡ true → MayRead left own × MayRead right own
both-from left right own passes =
    let parts = and_parts (may_read left own) (may_read right own) passes in
    (MayRead-from left own parts.0, MayRead-from right own parts.1)

-- the test of an instruction
StaysIn-from : (column : ℕ → Option ℕ) (own : Option ℕ) (i : Instr) → stays_in column own i ≡ true → StaysIn column own i
StaysIn-from column own Rnd passes = absurd (cc)
StaysIn-from column own (Const value) passes = tt
StaysIn-from column own (Copy from) passes = MayRead-from (column from) own passes
StaysIn-from column own (Add left right) passes = both-from (column left) (column right) own passes
StaysIn-from column own (Mul left right) passes = both-from (column left) (column right) own passes
StaysIn-from column own (Sq from) passes = MayRead-from (column from) own passes
StaysIn-from column own (Map map from) passes = MayRead-from (column from) own passes

-- the test of all instructions
AllStayIn-from : (column : ℕ → Option ℕ) (len : ℕ) (is : List Instr) → all_stay_in column len is ≡ true → AllStayIn column len is
AllStayIn-from column len [] passes = tt
AllStayIn-from column len (i ∷ is) passes =
    let parts = and_parts (stays_in column (column len) i) (all_stay_in column (len + 1) is) passes in
    (StaysIn-from column (column len) i parts.0, AllStayIn-from column (len + 1) is parts.1)

-- how many shares these are
length-share_columns : (n k : ℕ) → length (share_columns n k) ≡ n
length-share_columns zero k = refl
length-share_columns (suc n) k = ap suc (length-share_columns n (suc k))

-- the column of a share
listed-share_columns : (n k j : ℕ) → j < n → listed (share_columns n k) j ≡ Some (k + j)
listed-share_columns zero k j below = absurd (omega arith)
listed-share_columns (suc n) k zero below = let e : k ≡ k + 0 = omega arith in ap Some e
listed-share_columns (suc n) k (suc j) below =
    let e : suc k + j ≡ k + suc j = omega arith in
    listed-share_columns n (suc k) j (omega arith) ∙ ap Some e

-- the columns in front stay behind those of instructions
listed-with_instrs : (columns : List (Option ℕ)) (is : List Instr) (p : ℕ) → p < length columns
    → listed (with_instrs columns is) p ≡ listed columns p
listed-with_instrs columns [] p below = refl
listed-with_instrs columns (i ∷ is) p below =
    let own : Option ℕ = made_of (listed columns) i in
    listed-with_instrs (columns ++ own ∷ []) is p (omega (arith, length-append columns (own ∷ [])))
    ∙ get_or_append_left columns (own ∷ []) None p below

-- how many shares and publics these are
length-input_columns : (order n publics : ℕ) → length (input_columns order n publics) ≡ n * (order + 1) + publics
length-input_columns order zero publics = omega (arith, length-replicate {A = Option ℕ} publics None, zero-mul (order + 1))
length-input_columns order (suc n) publics =
    omega (arith, length-append (share_columns (suc order) 0) (input_columns order n publics), length-share_columns (suc order) 0, length-input_columns order n publics, suc-mul n (order + 1))

-- a share has the column of its index
listed-share : (order n publics i j : ℕ) → i < n → j ≤ order → listed (input_columns order n publics) (i * (order + 1) + j) ≡ Some j
listed-share order zero publics i j first fits = absurd (omega arith)
listed-share order (suc n) publics zero j first fits =
    let position : 0 * (order + 1) + j ≡ j = omega (arith, zero-mul (order + 1)) in
    let e : 0 + j ≡ j = omega arith in
    ap (listed (input_columns order (suc n) publics)) position
    ∙ get_or_append_left (share_columns (suc order) 0) (input_columns order n publics) None j (omega (arith, length-share_columns (suc order) 0))
    ∙ listed-share_columns (suc order) 0 j (omega arith) ∙ ap Some e
listed-share order (suc n) publics (suc i) j first fits =
    let position : suc i * (order + 1) + j ≡ length (share_columns (suc order) 0) + (i * (order + 1) + j) = omega (arith, suc-mul i (order + 1), length-share_columns (suc order) 0) in
    ap (listed (input_columns order (suc n) publics)) position
    ∙ get_or-append-add (share_columns (suc order) 0) (input_columns order n publics) (i * (order + 1) + j) None
    ∙ listed-share order n publics i j (omega arith) fits

-- a public input has no column
listed-public : (order n publics k : ℕ) → k < publics → listed (input_columns order n publics) (n * (order + 1) + k) ≡ None
listed-public order zero publics k below =
    let position : 0 * (order + 1) + k ≡ k = omega (arith, zero-mul (order + 1)) in
    ap (listed (input_columns order 0 publics)) position ∙ get_or-replicate publics k None None below
listed-public order (suc n) publics k below =
    let position : suc n * (order + 1) + k ≡ length (share_columns (suc order) 0) + (n * (order + 1) + k) = omega (arith, suc-mul n (order + 1), length-share_columns (suc order) 0) in
    ap (listed (input_columns order (suc n) publics)) position
    ∙ get_or-append-add (share_columns (suc order) 0) (input_columns order n publics) (n * (order + 1) + k) None
    ∙ listed-public order n publics k below

-- a share stands before the publics
share-below : (order n i j : ℕ) → i < n → j ≤ order → i * (order + 1) + j < n * (order + 1)
share-below order zero i j first fits = absurd (omega arith)
share-below order (suc n) i j first fits = elim (eq-or-lt_of_le (le_of_suc-le-suc first)) [
  | inl last ↦
      let e : i * (order + 1) ≡ n * (order + 1) = ap (λ (m : ℕ). m * (order + 1)) last in
      omega (arith, e, suc-mul n (order + 1))
  | inr before ↦ omega (arith, share-below order n i j before fits, suc-mul n (order + 1))
]

-- code that passes the test has columns
pub works_by_share-columns : (code : Listing) → works_by_share code ≡ true → AreColumns code (columns_of code)
works_by_share-columns code passes =
    let inputs : List (Option ℕ) = input_columns code.order code.secrets code.publics in
    let long : length inputs ≡ code.secrets * (code.order + 1) + code.publics = length-input_columns code.order code.secrets code.publics in
    record {
      shares = λ i j first fits.
          listed-with_instrs inputs code.instrs (i * (code.order + 1) + j) (omega (arith, long, share-below code.order code.secrets i j first fits))
          ∙ listed-share code.order code.secrets code.publics i j first fits;
      publics = λ k below.
          listed-with_instrs inputs code.instrs (code.secrets * (code.order + 1) + k) (omega (arith, long))
          ∙ listed-public code.order code.secrets code.publics k below;
      instrs = AllStayIn-from (columns_of code) (inputs_len code.order code.secrets code.publics) code.instrs passes;
    }

-- code that passes the test is private
pub works_by_share-private : (code : Listing) → works_by_share code ≡ true → Private code
works_by_share-private code passes = columns-private code (columns_of code) (works_by_share-columns code passes)
