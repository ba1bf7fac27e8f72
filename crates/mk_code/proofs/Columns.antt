-- Code that works share by share: each entry depends on the shares of its column alone, and so the code is
-- private, since an observer of at most `order` positions sees nothing of some column.
use Rattle.std.proofs.Common.{◌≡◌, ◌≢◌, ℕ, zero, suc, ◌+◌, ◌-◌, ◌*◌, ◌<◌, ◌≤◌, List, [], ◌∷◌, ◌++◌, length, take, drop, map, slice_index, Option, Some, None, IfSome, subst, refl, sym, ◌∙◌, ap, arith, inl, inr, length-append, suc-mul, zero-mul}
use Rattle.std.proofs.lemmas.List.{length-map, get_or-append_right, take_all, get_or_append_left, get_or_push, get_or_past}
use Rattle.std.proofs.lemmas.Bool.{cases_order, cases_lt}
use Rattle.mk_field.specs.declared.field.FieldId.{FieldId}
use Rattle.mk_field.specs.declared.map.AddMap.{AddMap}
use Rattle.mk_field.specs.Field.{bits, size, product, square, image_by}
use Rattle.mk_field.specs.Sharing.{encodings}
use Rattle.mk_code.specs.declared.instr.Instr.{Instr}
use Rattle.mk_code.specs.declared.instr.Instr.TheVariants.{Rnd, Const, Copy, Add, Mul, Sq, Map}
use Rattle.mk_code.specs.Listing.{Listing, inputs_len}
use Rattle.mk_code.specs.Trace.{entry, takes, randoms, run, trace}
use Rattle.mk_code.specs.Counting.{total, one_if_equal}
use Rattle.mk_code.specs.Private.{observation, spent, masked_trace, ways, Private}
use Rattle.mk_code.specs.Shares.{LooksPast}
use Rattle.mk_code.specs.Columns.{MayRead, StaysIn, AllStayIn, AreColumns, HasColumns, AgreeAt, DependOnColumns}
use Rattle.mk_code.proofs.Totals.{total-same}
use Rattle.mk_code.proofs.LeftOut.{IsLeftOut, left_out}
use Rattle.mk_code.proofs.Encodings.{encodings-law}

-- two traces are equal at each position whose column is one of `In`
record AgreeOn (column : ℕ → Option ℕ) (In : Option ℕ → Type 0) (u v : List ℕ) : Type 0 where
  at : (p : ℕ) → In (column p) → slice_index u p ≡ slice_index v p

-- what may be read for a value of these columns has one of them
record IsClosed (In : Option ℕ → Type 0) : Type 0 where
  read : (read own : Option ℕ) → MayRead read own → In own → In read

-- an instruction of these columns has the same value behind both traces
entry-on : (field : FieldId) (maps : List AddMap) (column : ℕ → Option ℕ) (In : Option ℕ → Type 0) (len : ℕ) (i : Instr) (w x : ℕ) (u v : List ℕ)
    → IsClosed In → StaysIn column (column len) i → AgreeOn column In u v → In (column len)
    → entry field maps i w u ≡ entry field maps i x v
entry-on field maps column In len Rnd w x u v closed stays agree here = absurd stays
entry-on field maps column In len (Const value) w x u v closed stays agree here = refl
entry-on field maps column In len (Copy from) w x u v closed stays agree here = agree.at from (closed.read (column from) (column len) stays here)
entry-on field maps column In len (Add left right) w x u v closed stays agree here =
    let a : slice_index u left ≡ slice_index v left = agree.at left (closed.read (column left) (column len) stays.0 here) in
    let b : slice_index u right ≡ slice_index v right = agree.at right (closed.read (column right) (column len) stays.1 here) in
    cc
entry-on field maps column In len (Mul left right) w x u v closed stays agree here =
    let a : slice_index u left ≡ slice_index v left = agree.at left (closed.read (column left) (column len) stays.0 here) in
    let b : slice_index u right ≡ slice_index v right = agree.at right (closed.read (column right) (column len) stays.1 here) in
    ap (λ (n : ℕ). product field n (slice_index u right)) a ∙ ap (product field (slice_index v left)) b
entry-on field maps column In len (Sq from) w x u v closed stays agree here =
    ap (square field) (agree.at from (closed.read (column from) (column len) stays here))
entry-on field maps column In len (Map map from) w x u v closed stays agree here =
    ap (image_by maps map) (agree.at from (closed.read (column from) (column len) stays here))

-- one more entry
agree-push : (column : ℕ → Option ℕ) (In : Option ℕ → Type 0) (len : ℕ) (u v : List ℕ) (a b : ℕ) → length u ≡ len → length v ≡ len
    → AgreeOn column In u v → (In (column len) → a ≡ b) → AgreeOn column In (u ++ a ∷ []) (v ++ b ∷ [])
agree-push column In len u v a b left right agree here = record {
  at = λ p inside. elim (cases_order p len) [
    | inl same ↦
        get_or_push u a 0 p (omega (arith, left, same)) ∙ here (subst (λ q. In (column q)) same inside) ∙ sym (get_or_push v b 0 p (omega (arith, right, same)))
    | inr other ↦ elim other [
      | inl before ↦
          get_or_append_left u (a ∷ []) 0 p (omega arith) ∙ agree.at p inside ∙ sym (get_or_append_left v (b ∷ []) 0 p (omega arith))
      | inr behind ↦
          get_or_past (u ++ a ∷ []) p 0 (omega (arith, length-append u (a ∷ []))) ∙ sym (get_or_past (v ++ b ∷ []) p 0 (omega (arith, length-append v (b ∷ []))))
    ]
  ];
}

-- the entries of instructions that stay in their columns
run-on : (field : FieldId) (maps : List AddMap) (column : ℕ → Option ℕ) (In : Option ℕ → Type 0) (len : ℕ) (is : List Instr) (s t u v : List ℕ)
    → IsClosed In → length u ≡ len → length v ≡ len → AllStayIn column len is → AgreeOn column In u v
    → AgreeOn column In (run field maps is s u) (run field maps is t v)
unfolding run
run-on field maps column In len [] s t u v closed left right stay agree = agree
run-on field maps column In len (i ∷ is) s t u v closed left right stay agree =
    let a : ℕ = entry field maps i (slice_index s 0) u in
    let b : ℕ = entry field maps i (slice_index t 0) v in
    run-on field maps column In (len + 1) is (drop (takes i) s) (drop (takes i) t) (u ++ a ∷ []) (v ++ b ∷ []) closed
    (omega (arith, length-append u (a ∷ []), left)) (omega (arith, length-append v (b ∷ []), right)) stay.1
    (agree-push column In len u v a b left right agree
    (λ here. entry-on field maps column In len i (slice_index s 0) (slice_index t 0) u v closed stay.0 agree here))

-- instructions that stay in their columns take no random element
randoms-none : (column : ℕ → Option ℕ) (len : ℕ) (is : List Instr) → AllStayIn column len is → randoms is ≡ 0
unfolding randoms
randoms-none column len [] stay = refl
randoms-none column len (Rnd ∷ is) stay = absurd stay.0
randoms-none column len (Const value ∷ is) stay = omega (arith, randoms-none column (len + 1) is stay.1)
randoms-none column len (Copy from ∷ is) stay = omega (arith, randoms-none column (len + 1) is stay.1)
randoms-none column len (Add left right ∷ is) stay = omega (arith, randoms-none column (len + 1) is stay.1)
randoms-none column len (Mul left right ∷ is) stay = omega (arith, randoms-none column (len + 1) is stay.1)
randoms-none column len (Sq from ∷ is) stay = omega (arith, randoms-none column (len + 1) is stay.1)
randoms-none column len (Map map from ∷ is) stay = omega (arith, randoms-none column (len + 1) is stay.1)

-- they make the same of any tape
run-any_tape : (field : FieldId) (maps : List AddMap) (column : ℕ → Option ℕ) (len : ℕ) (is : List Instr) (s t u : List ℕ)
    → AllStayIn column len is → run field maps is s u ≡ run field maps is t u
unfolding run
run-any_tape field maps column len [] s t u stay = refl
run-any_tape field maps column len (Rnd ∷ is) s t u stay = absurd stay.0
run-any_tape field maps column len (Const value ∷ is) s t u stay = run-any_tape field maps column (len + 1) is s t (u ++ value ∷ []) stay.1
run-any_tape field maps column len (Copy from ∷ is) s t u stay =
    run-any_tape field maps column (len + 1) is s t (u ++ entry field maps (Copy from) 0 u ∷ []) stay.1
run-any_tape field maps column len (Add left right ∷ is) s t u stay =
    run-any_tape field maps column (len + 1) is s t (u ++ entry field maps (Add left right) 0 u ∷ []) stay.1
run-any_tape field maps column len (Mul left right ∷ is) s t u stay =
    run-any_tape field maps column (len + 1) is s t (u ++ entry field maps (Mul left right) 0 u ∷ []) stay.1
run-any_tape field maps column len (Sq from ∷ is) s t u stay =
    run-any_tape field maps column (len + 1) is s t (u ++ entry field maps (Sq from) 0 u ∷ []) stay.1
run-any_tape field maps column len (Map map from ∷ is) s t u stay =
    run-any_tape field maps column (len + 1) is s t (u ++ entry field maps (Map map from) 0 u ∷ []) stay.1

-- a position among the shares of n values is that of some share of one of them
share-at : (order n p : ℕ) → p < n * (order + 1) → (i : ℕ) × (j : ℕ) × (i < n) × (j ≤ order) × (p ≡ i * (order + 1) + j)
share-at order zero p below = absurd (omega (arith, zero-mul (order + 1)))
share-at order (suc n) p below = elim (cases_order p (n * (order + 1))) [
  | inl same ↦ (n, 0, omega arith, omega arith, omega arith)
  | inr other ↦ elim other [
    | inl before ↦
        let found : (i : ℕ) × (j : ℕ) × (i < n) × (j ≤ order) × (p ≡ i * (order + 1) + j) = share-at order n p before in
        (found.0, found.1, omega (arith, found.2), found.3, found.4)
    | inr behind ↦
        (n, p - n * (order + 1), omega arith, omega (arith, suc-mul n (order + 1)), omega (arith, suc-mul n (order + 1)))
  ]
]

-- shares of these columns that are equal, and the same publics
inputs-on : (code : Listing) (column : ℕ → Option ℕ) (In : Option ℕ → Type 0) (publics u v : List ℕ) → AreColumns code column
    → length u ≡ code.secrets * (code.order + 1) → length v ≡ code.secrets * (code.order + 1)
    → ((i j : ℕ) → i < code.secrets → j ≤ code.order → In (Some j) → slice_index u (i * (code.order + 1) + j) ≡ slice_index v (i * (code.order + 1) + j))
    → AgreeOn column In (u ++ publics) (v ++ publics)
inputs-on code column In publics u v columns left right equal = record {
  at = λ p inside. elim (cases_lt p (code.secrets * (code.order + 1))) [
    | inl before ↦
        let found : (i : ℕ) × (j : ℕ) × (i < code.secrets) × (j ≤ code.order) × (p ≡ i * (code.order + 1) + j) = share-at code.order code.secrets p before in
        let own : column p ≡ Some found.1 = ap column found.4 ∙ columns.shares found.0 found.1 found.2 found.3 in
        let same : slice_index u p ≡ slice_index v p =
        ap (slice_index u) found.4
        ∙ equal found.0 found.1 found.2 found.3 (subst In own inside)
        ∙ ap (slice_index v) (sym found.4) in
        get_or_append_left u publics 0 p (omega (arith, left)) ∙ same ∙ sym (get_or_append_left v publics 0 p (omega (arith, right)))
    | inr behind ↦
        get_or-append_right u publics (code.secrets * (code.order + 1)) p 0 left behind
        ∙ sym (get_or-append_right v publics (code.secrets * (code.order + 1)) p 0 right behind)
  ];
}

-- the traces of two runs over the same publics and equal shares of these columns
trace-on : (code : Listing) (column : ℕ → Option ℕ) (In : Option ℕ → Type 0) (publics u v s t : List ℕ) → AreColumns code column → IsClosed In
    → length publics ≡ code.publics → length u ≡ code.secrets * (code.order + 1) → length v ≡ code.secrets * (code.order + 1)
    → ((i j : ℕ) → i < code.secrets → j ≤ code.order → In (Some j) → slice_index u (i * (code.order + 1) + j) ≡ slice_index v (i * (code.order + 1) + j))
    → AgreeOn column In (trace code publics u s) (trace code publics v t)
trace-on code column In publics u v s t columns closed given left right equal =
    run-on code.field code.maps column In (inputs_len code.order code.secrets code.publics) code.instrs s t (u ++ publics) (v ++ publics) closed
    (omega (arith, length-append u publics, left, given)) (omega (arith, length-append v publics, right, given))
    columns.instrs (inputs-on code column In publics u v columns left right equal)

-- an entry that may be read for a value outside column f is outside it
read-off : (f : ℕ) (read own : Option ℕ) → MayRead read own → own ≢ Some f → read ≢ Some f
read-off f None own may off = λ e. absurd (cc)
read-off f (Some j) own may off = λ e. off (may ∙ e)

-- the columns other than f
IsClosed-off : (f : ℕ) → IsClosed (λ c. c ≢ Some f)
IsClosed-off f = record { read = read-off f }

-- an entry that may be read for what may be read for a value may be read for it
read-read : (value read own : Option ℕ) → MayRead read own → MayRead own value → MayRead read value
read-read value None own may then = tt
read-read value (Some j) own may then = subst (λ c. MayRead c value) may then

-- the columns that may be read for a value
IsClosed-read : (value : Option ℕ) → IsClosed (λ c. MayRead c value)
IsClosed-read value = record { read = read-read value }

-- a value may be read for another of its own column
MayRead-own : (own : Option ℕ) → MayRead own own
MayRead-own None = tt
MayRead-own (Some j) = refl

-- the column's shares are equal
shares-own : (order count i j : ℕ) (own : Option ℕ) (u v : List ℕ) → IfSome own (λ j. AgreeAt order count j u v) → own ≡ Some j → i < count
    → slice_index u (i * (order + 1) + j) ≡ slice_index v (i * (order + 1) + j)
shares-own order count i j own u v same e below =
    let here : AgreeAt order count j u v = subst (λ c. IfSome c (λ j. AgreeAt order count j u v)) e same in
    here i below

-- the entries of a column depend on its shares alone
pub columns-depend : (code : Listing) (column : ℕ → Option ℕ) → AreColumns code column → DependOnColumns code column
columns-depend code column columns publics u v s t p given left right same =
    let agree : AgreeOn column (λ c. MayRead c (column p)) (trace code publics u s) (trace code publics v t) =
    trace-on code column (λ c. MayRead c (column p)) publics u v s t columns (IsClosed-read (column p)) given left right
    (λ i j first fits own. shares-own code.order code.secrets i j (column p) u v same own first) in
    agree.at p (MayRead-own (column p))

-- the number of a column, 0 where there is none
number : Option ℕ → ℕ
number None = 0
number (Some j) = j

-- positions outside a column show the same of traces that are equal outside it
observation-off : (column : ℕ → Option ℕ) (f : ℕ) (probes u v : List ℕ) → IsLeftOut f (map (λ p. number (column p)) probes)
    → AgreeOn column (λ c. c ≢ Some f) u v → observation probes u ≡ observation probes v
unfolding IsLeftOut number
observation-off column f [] u v out agree = refl
observation-off column f (p ∷ ps) u v out agree =
    let here : slice_index u p ≡ slice_index v p = agree.at p (λ e. out.0 (ap number e)) in
    let rest : observation ps u ≡ observation ps v = observation-off column f ps u v out.1 agree in
    cc

-- the ways are a total over the encodings alone
ways-encodings : (code : Listing) (column : ℕ → Option ℕ) (publics secrets probes seen : List ℕ) → AreColumns code column
    → ways code publics secrets probes seen
    ≡ total (size code.field) (code.order * code.secrets) (λ s. one_if_equal (observation probes (trace code publics (encodings code.order secrets s) [])) seen)
ways-encodings code column publics secrets probes seen columns =
    let none : randoms code.instrs ≡ 0 = randoms-none column (inputs_len code.order code.secrets code.publics) code.instrs columns.instrs in
    let count : code.order * code.secrets + randoms code.instrs ≡ code.order * code.secrets = omega (arith, none) in
    ap (λ (m : ℕ). total (size code.field) m (λ tape. one_if_equal (observation probes (masked_trace code publics secrets tape)) seen)) count
    ∙ total-same (size code.field) (code.order * code.secrets)
    (λ tape. one_if_equal (observation probes (masked_trace code publics secrets tape)) seen)
    (λ s. one_if_equal (observation probes (trace code publics (encodings code.order secrets s) [])) seen)
    (λ s here.
    ap (λ (l : List ℕ). one_if_equal (observation probes l) seen)
    (run-any_tape code.field code.maps column (inputs_len code.order code.secrets code.publics) code.instrs (drop (spent code) s) []
    (encodings code.order secrets (take (spent code) s) ++ publics) columns.instrs
    ∙ ap (λ (l : List ℕ). trace code publics (encodings code.order secrets l) []) (take_all (spent code) s (omega (arith, here.count)))))

-- code that works share by share is private
pub columns-private : (code : Listing) (column : ℕ → Option ℕ) → AreColumns code column → Private code
columns-private code column columns publics first second probes seen given left right few within =
    let touched : List ℕ = map (λ p. number (column p)) probes in
    let short : length touched < suc code.order = omega (arith, length-map probes (λ p. number (column p))) in
    let found : (f : ℕ) × (f < suc code.order) × IsLeftOut f touched = left_out (suc code.order) touched short in
    let h : List ℕ → ℕ = λ u. one_if_equal (observation probes (trace code publics u [])) seen in
    let looks : LooksPast (size code.field) code.order code.secrets (λ i. found.0) h = record {
      same = λ u v here there agree.
          ap (λ (l : List ℕ). one_if_equal l seen)
          (observation-off column found.0 probes (trace code publics u []) (trace code publics v []) found.2
          (trace-on code column (λ c. c ≢ Some found.0) publics u v [] [] columns (IsClosed-off found.0) given.count here.count there.count
          (λ i j first fits off. agree.shares i j first fits (λ e. off (ap Some e)))));
    } in
    ways-encodings code column publics first probes seen columns
    ∙ encodings-law (bits code.field) code.order code.secrets (λ i. found.0) h first second (λ i. omega (arith, found.1)) looks left right
    ∙ sym (ways-encodings code column publics second probes seen columns)

-- code that has columns is private
pub HasColumns-private : (code : Listing) → HasColumns code → Private code
HasColumns-private code columns = columns-private code columns.0 columns.1
