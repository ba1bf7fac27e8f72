-- What was wrong first of the instructions and outs that were given, with one more.
use Rattle.std.proofs.Common.{◌≡◌, ℕ, ◌+◌, ◌*◌, ◌<◌, ◌≤◌, List, [], ◌∷◌, ◌++◌, length, take, drop, slice_get, slice_index_or, Option, Some, None, MatchOption, IsSomeAnd, true, false, inl, inr, refl, sym, ◌∙◌, ap, subst, arith, length-drop}
use Rattle.std.specs.Option.{is_some}
use Rattle.std.proofs.lemmas.Bool.{cases_lt, false≢true}
use Rattle.std.proofs.lemmas.List.{length-append, take-append-le, drop-append-le, take_all}
use Rattle.std.proofs.lemmas.Option.{slice_get_past}
use Rattle.std.proofs.Math.Seq.{drop-append_seam}
use Rattle.std.proofs.Math.Nat.{mul-le-mul_right}
use Rattle.mk_code.specs.declared.instr.Instr.{Instr}
use Rattle.mk_ssa.specs.declared.Op.{Op}
use Rattle.mk_ssa.specs.declared.Operand.{Operand}
use Rattle.mk_ssa.proofs.Lists.{slice_get-last}
use Rattle.mk_rules.specs.Shape.{Shape}
use Rattle.mk_rules.specs.Accepts.{AreOutputs}
use Rattle.mk_rules.specs.Tiles.{value_number}
use Rattle.mk_rules.specs.Wired.{IsSharedThere, Wired}
use Rattle.mk_rules.specs.Faults.{FirstUnwired, FirstMismatch, FirstWrongOutput, IsClaimed}
use Rattle.mk_rules.proofs.Claims.{Outputs-from}
use Rattle.mk_rules.proofs.Faults.{FirstUnwired-not}
use Rattle.mk_check.specs.Gadgets.{built_in_gadgets}
use Rattle.mk_check.specs.Laying.{all_laid, all_banks}
use Rattle.mk_check.specs.Outlines.{outlined, code_over}
use Rattle.mk_check.specs.Given.{IsFirstOff, IsFirstWrong}
use Rattle.mk_check.specs.declared.outline.Outline.{Outline}
use Rattle.mk_check.proofs.Lists.{agree-more}
use Rattle.mk_check.proofs.Reading.{front-at}
use Rattle.mk_check.proofs.Claimed.{IsClaimed-none}

-- where a first block isn't wired, the blocks aren't
pub unwired-not : (shape : Shape) (blocks : List Op) (unwired : Option ℕ) → MatchOption unwired (Wired shape blocks) (λ k. FirstUnwired shape blocks k)
    → is_some unwired ≡ true → Wired shape blocks → ⊥
unwired-not shape blocks None first is wired = false≢true is
unwired-not shape blocks (Some k) first is wired = FirstUnwired-not shape blocks k first wired

-- a first difference stays where the list goes on
mismatch-stays : {X : Type 0} (xs ys more : List X) (k : ℕ) → k < length xs → FirstMismatch xs ys k → FirstMismatch (xs ++ more) ys k
mismatch-stays xs ys more k below first = record {
  before = take-append-le k xs more (omega (arith, below)) ∙ first.before;
  differ = λ e. first.differ (sym (front-at xs more k below) ∙ e);
}

-- a front of a list with its next element
pub agree-next : {X : Type 0} (xs ys : List X) (x : X) → take (length xs) xs ≡ take (length xs) ys → slice_get ys (length xs) ≡ Some x
    → take (length (xs ++ x ∷ [])) (xs ++ x ∷ []) ≡ take (length (xs ++ x ∷ [])) ys
agree-next xs ys x same next =
    let one : length xs + 1 ≡ length (xs ++ x ∷ []) = omega (arith, length-append xs (x ∷ [])) in
    subst (λ (n : ℕ). take n (xs ++ x ∷ []) ≡ take n ys) one
    (agree-more (xs ++ x ∷ []) ys (length xs) x x (take-append-le (length xs) xs (x ∷ []) (omega arith) ∙ same) (slice_get-last xs x) next refl)

-- or with another one
pub differ-next : {X : Type 0} (xs ys : List X) (x : X) (n : ℕ) → n ≡ length xs → take (length xs) xs ≡ take (length xs) ys → (slice_get ys n ≡ Some x → ⊥)
    → (n < length (xs ++ x ∷ [])) × FirstMismatch (xs ++ x ∷ []) ys n
differ-next xs ys x n count same other = (
  omega (arith, count, length-append xs (x ∷ [])),
  subst (λ (m : ℕ). FirstMismatch (xs ++ x ∷ []) ys m) (sym count) (record {
    before = take-append-le (length xs) xs (x ∷ []) (omega arith) ∙ same;
    differ = λ e. other (ap (slice_get ys) count ∙ sym e ∙ slice_get-last xs x);
  }),
)

module _ (outline : Outline) (blocks : List Op) where
  -- the first instruction that is off stays
  pub off-stays : (instrs : List Instr) (outs : List ℕ) (i : Instr) (off : Option ℕ) → is_some off ≡ true → IsFirstOff (code_over outline instrs outs) blocks off
      → IsFirstOff (code_over outline (instrs ++ i ∷ []) outs) blocks off
  off-stays instrs outs i None is first = absurd (false≢true is)
  off-stays instrs outs i (Some k) is first =
      let gadgets = built_in_gadgets (outline.order + 1) in (
        omega (arith, first.0, length-append instrs (i ∷ [])),
        mismatch-stays instrs (all_laid (outlined outline) gadgets blocks) (i ∷ []) k first.0 first.1,
      )

  -- so far none is off
  pub off-none : (instrs : List Instr) (outs : List ℕ) (off : Option ℕ) → is_some off ≡ false → IsFirstOff (code_over outline instrs outs) blocks off
      → take (length instrs) instrs ≡ take (length instrs) (all_laid (outlined outline) (built_in_gadgets (outline.order + 1)) blocks)
  off-none instrs outs None is first = first
  off-none instrs outs (Some k) is first = absurd (false≢true (sym is))

-- a front's piece, where the list goes on
piece-stays : (xs ys : List ℕ) (a n : ℕ) → a + n ≤ length xs → take n (drop a (xs ++ ys)) ≡ take n (drop a xs)
piece-stays xs ys a n within =
    ap (take n) (drop-append-le a xs ys (omega (arith, within))) ∙ take-append-le n (drop a xs) ys (omega (arith, within, length-drop a xs))

-- the piece behind it
piece-next : (xs ys : List ℕ) (a n : ℕ) → length xs ≡ a → length ys ≡ n → take n (drop a (xs ++ ys)) ≡ ys
piece-next xs ys a n before count =
    ap (λ (m : ℕ). take n (drop m (xs ++ ys))) (sym before) ∙ ap (take n) (drop-append_seam xs ys) ∙ take_all n ys (omega (arith, count))

-- a part of an option that is there
pub some-mapped : {X : Type 0} (o : Option X) (P Q : X → Type 0) → ((x : X) → P x → Q x) → IsSomeAnd o P → IsSomeAnd o Q
some-mapped None P Q f held = absurd held
some-mapped (Some x) P Q f held = f x held

module _ (outline : Outline) (blocks : List Op) (claims : List Operand) (banks : List (List ℕ)) where
  -- an output that is claimed stays where more outs follow, whatever the instructions
  claimed-stays : (instrs other : List Instr) (outs more : List ℕ) (count j : ℕ) → length outs ≡ count * (outline.order + 1) → j < count
      → IsClaimed (code_over outline instrs outs) banks blocks claims j → IsClaimed (code_over outline other (outs ++ more)) banks blocks claims j
  claimed-stays instrs other outs more count j long below claimed =
      let n : ℕ = outline.order + 1 in
      let whole : j * n + n ≤ length outs = omega (arith, long, mul-le-mul_right n below) in
      record {
        output = omega (arith, claimed.output, length-append outs more);
        claim =
            subst (λ (ps : List ℕ). IsSomeAnd (slice_get claims j) (λ v. IsSharedThere (outlined outline) blocks v × (slice_index_or banks (value_number (outlined outline) v) [] ≡ ps)))
            (sym (piece-stays outs more (j * n) n whole)) claimed.claim;
      }

  -- and was claimed before
  claimed-back : (instrs other : List Instr) (outs more : List ℕ) (count j : ℕ) → length outs ≡ count * (outline.order + 1) → j < count
      → IsClaimed (code_over outline other (outs ++ more)) banks blocks claims j → IsClaimed (code_over outline instrs outs) banks blocks claims j
  claimed-back instrs other outs more count j long below claimed =
      let n : ℕ = outline.order + 1 in
      let whole : j * n + n ≤ length outs = omega (arith, long, mul-le-mul_right n below) in
      record {
        output = omega (arith, whole);
        claim =
            subst (λ (ps : List ℕ). IsSomeAnd (slice_get claims j) (λ v. IsSharedThere (outlined outline) blocks v × (slice_index_or banks (value_number (outlined outline) v) [] ≡ ps)))
            (piece-stays outs more (j * n) n whole) claimed.claim;
      }

  -- the first one that is wrong stays
  wrong-stays : (instrs other : List Instr) (outs more : List ℕ) (count k : ℕ) → length outs ≡ count * (outline.order + 1) → k < count
      → FirstWrongOutput (code_over outline instrs outs) banks blocks claims k → FirstWrongOutput (code_over outline other (outs ++ more)) banks blocks claims k
  wrong-stays instrs other outs more count k long below first =
      let n : ℕ = outline.order + 1 in
      record {
        before = λ j less. claimed-stays instrs other outs more count j long (omega (arith, less, below)) (first.before j less);
        more = inr (omega (arith, long, mul-le-mul_right n below, length-append outs more));
        fails = λ claimed. first.fails (claimed-back instrs other outs more count k long below claimed);
      }

  -- the next output is claimed where its positions are those of its claim
  pub claimed-next : (instrs : List Instr) (outs positions : List ℕ) (count : ℕ) → length outs ≡ count * (outline.order + 1) → length positions ≡ outline.order + 1
      → IsSomeAnd (slice_get claims count) (λ v. IsSharedThere (outlined outline) blocks v × (slice_index_or banks (value_number (outlined outline) v) [] ≡ positions))
      → IsClaimed (code_over outline instrs (outs ++ positions)) banks blocks claims count
  claimed-next instrs outs positions count long whole claim =
      let n : ℕ = outline.order + 1 in
      record {
        output = omega (arith, long, whole, length-append outs positions);
        claim =
            subst (λ (ps : List ℕ). IsSomeAnd (slice_get claims count) (λ v. IsSharedThere (outlined outline) blocks v × (slice_index_or banks (value_number (outlined outline) v) [] ≡ ps)))
            (sym (piece-next outs positions (count * n) n long whole)) claim;
      }

  -- and only there
  pub next-claimed : (instrs : List Instr) (outs positions : List ℕ) (count : ℕ) → length outs ≡ count * (outline.order + 1) → length positions ≡ outline.order + 1
      → IsClaimed (code_over outline instrs (outs ++ positions)) banks blocks claims count
      → IsSomeAnd (slice_get claims count) (λ v. IsSharedThere (outlined outline) blocks v × (slice_index_or banks (value_number (outlined outline) v) [] ≡ positions))
  next-claimed instrs outs positions count long whole claimed =
      let n : ℕ = outline.order + 1 in
      subst (λ (ps : List ℕ). IsSomeAnd (slice_get claims count) (λ v. IsSharedThere (outlined outline) blocks v × (slice_index_or banks (value_number (outlined outline) v) [] ≡ ps)))
      (piece-next outs positions (count * n) n long whole) claimed.claim

module _ (outline : Outline) (blocks : List Op) (claims : List Operand) where
  -- the banks by which outs are judged
  abbrev judged : List (List ℕ)
  judged = all_banks (outlined outline) (built_in_gadgets (outline.order + 1)) blocks

  -- the first out that is wrong stays, whatever comes behind it
  pub first_wrong-stays : (instrs other : List Instr) (outs more : List ℕ) (count after : ℕ) (wrong : Option ℕ) → length outs ≡ count * (outline.order + 1) → count ≤ after
      → is_some wrong ≡ true → IsFirstWrong (code_over outline instrs outs) blocks claims count wrong
      → IsFirstWrong (code_over outline other (outs ++ more)) blocks claims after wrong
  first_wrong-stays instrs other outs more count after None long up is first = absurd (false≢true is)
  first_wrong-stays instrs other outs more count after (Some k) long up is first =
      (omega (arith, first.0, up), wrong-stays outline blocks claims judged instrs other outs more count k long first.0 first.1)

  -- so far none is wrong
  wrong-none : (instrs : List Instr) (outs : List ℕ) (count : ℕ) (wrong : Option ℕ) → is_some wrong ≡ false
      → IsFirstWrong (code_over outline instrs outs) blocks claims count wrong → (j : ℕ) → j < count → IsClaimed (code_over outline instrs outs) judged blocks claims j
  wrong-none instrs outs count None is first = first
  wrong-none instrs outs count (Some k) is first = absurd (false≢true (sym is))

  -- nor with one more that is claimed
  pub none_wrong-next : (instrs : List Instr) (outs positions : List ℕ) (count : ℕ) (wrong : Option ℕ) → length outs ≡ count * (outline.order + 1) → length positions ≡ outline.order + 1
      → is_some wrong ≡ false → IsFirstWrong (code_over outline instrs outs) blocks claims count wrong
      → IsSomeAnd (slice_get claims count) (λ v. IsSharedThere (outlined outline) blocks v × (slice_index_or judged (value_number (outlined outline) v) [] ≡ positions))
      → (j : ℕ) → j < count + 1 → IsClaimed (code_over outline instrs (outs ++ positions)) judged blocks claims j
  none_wrong-next instrs outs positions count wrong long whole is first claim j below = elim (cases_lt j count) [
    | inl before ↦ claimed-stays outline blocks claims judged instrs instrs outs positions count j long before (wrong-none instrs outs count wrong is first j before)
    | inr late ↦
        let last : count ≡ j = omega (arith, late, below) in
        subst (λ (k : ℕ). IsClaimed (code_over outline instrs (outs ++ positions)) judged blocks claims k) last
        (claimed-next outline blocks claims judged instrs outs positions count long whole claim)
  ]

  -- the next one is the first that is wrong where it isn't claimed
  pub first_wrong-next : (instrs : List Instr) (outs positions : List ℕ) (count : ℕ) (wrong : Option ℕ) → length outs ≡ count * (outline.order + 1) → length positions ≡ outline.order + 1
      → is_some wrong ≡ false → IsFirstWrong (code_over outline instrs outs) blocks claims count wrong
      → (IsSomeAnd (slice_get claims count) (λ v. IsSharedThere (outlined outline) blocks v × (slice_index_or judged (value_number (outlined outline) v) [] ≡ positions)) → ⊥)
      → (count < count + 1) × FirstWrongOutput (code_over outline instrs (outs ++ positions)) judged blocks claims count
  first_wrong-next instrs outs positions count wrong long whole is first other = (
    omega arith,
    record {
      before = λ j before. claimed-stays outline blocks claims judged instrs instrs outs positions count j long before (wrong-none instrs outs count wrong is first j before);
      more = inr (omega (arith, long, whole, length-append outs positions));
      fails = λ claimed. other (next-claimed outline blocks claims judged instrs outs positions count long whole claimed);
    },
  )

  -- the whole of the outs are those of the claims, where no claim is left
  pub outputs-whole : (instrs : List Instr) (outs : List ℕ) (count : ℕ) → length outs ≡ count * (outline.order + 1)
      → ((j : ℕ) → j < count → IsClaimed (code_over outline instrs outs) judged blocks claims j) → length claims ≤ count
      → AreOutputs (code_over outline instrs outs) judged blocks claims
  outputs-whole instrs outs count long claimed ended =
      let n : ℕ = outline.order + 1 in
      let few : count ≤ length claims = elim (cases_lt (length claims) count) [
        | inl below ↦ absurd (IsClaimed-none (code_over outline instrs outs) judged blocks claims (length claims) (slice_get_past claims (length claims) (omega arith)) (claimed (length claims) below))
        | inr within ↦ within
      ] in
      Outputs-from (code_over outline instrs outs) judged blocks claims (omega (arith, long, mul-le-mul_right n few)) (λ k below. claimed k (omega (arith, below, ended)))

  -- one is wrong, or none is and claims are left, or none is left
  pub wrong-last : (instrs : List Instr) (outs : List ℕ) (count : ℕ) (wrong : Option ℕ) → length outs ≡ count * (outline.order + 1)
      → IsFirstWrong (code_over outline instrs outs) blocks claims count wrong → (is_some wrong ≡ false → length claims ≤ count)
      → MatchOption wrong (AreOutputs (code_over outline instrs outs) judged blocks claims) (λ k. FirstWrongOutput (code_over outline instrs outs) judged blocks claims k)
  wrong-last instrs outs count None long first ended = outputs-whole instrs outs count long first (ended refl)
  wrong-last instrs outs count (Some k) long first ended = first.1
