-- The loops of the parser: what is still to be read, behind what was read.
use Rattle.std.proofs.Common.{◌≡◌, ℕ, zero, suc, ◌≤◌, ◌<◌, Bool, true, false, List, [], ◌∷◌, ◌++◌, length, Result, Ok, Err, refl, sym, ap, subst, ◌∙◌, arith, cond, append_assoc, length-append}
use Rattle.std.specs.Result.{IsErrAnd}
use Rattle.std.proofs.lemmas.List.{append-nil}
use Rattle.mk_ast.specs.Tokens.{Token}
use Rattle.mk_ast.specs.Phrases.{Phrase, several}
use Rattle.mk_parse.specs.Readers.{Reading, Reader, ◌>>=◌, starts, says, makes, past, chosen, every, repeats, parted}
use Rattle.mk_parse.specs.declared.cursor.Stop.{Stop}
use Rattle.mk_parse.specs.declared.cursor.Stop.TheVariants.{Here, Memory}
use Rattle.mk_parse.specs.Answers.{Answers}
use Rattle.mk_parse.proofs.ReaderLaws.{Reads, BeginsBy, read, bind_ok, ok_same}

-- what a reader leaves is shorter than what it had, where the phrase has at least one token
pub shorter : {A : Type 0} (test : Token → Bool) {reader : Reader A} {phrase : Phrase A} {goes_on : Token → Bool} → Reads reader phrase goes_on → BeginsBy test phrase
    → (ts : List Token) (a : A) (rest : List Token) → reader ts ≡ Ok (a, rest) → length rest < length ts
shorter test reads begins ts a rest e =
    let found = reads.found ts a rest e in
    let b = begins found.taken a found.spelled in
    omega (arith, ap length found.parts, length-append found.taken rest, ap length b.2)

-- what was read, before what is read
abbrev pub behind : {A : Type 0} → List A → Reading (List A) → Reading (List A)
behind front r = r >>= (λ y. Ok (front ++ y.0, y.1))

-- a loop that reads one item after the other: the items so far, the tokens left, and what is read in all
pub record Going {A : Type 0} (test : Token → Bool) (reader : Reader A) (front : List A) (ts : List Token) (total : Reading (List A)) : Type 0 where
  pub fuel : ℕ
  pub enough : length ts ≤ fuel
  pub rest : behind front (repeats test reader fuel ts) ≡ total

module _ {A : Type 0} (test : Token → Bool) (reader : Reader A) where
  -- one item more before the others is one item more behind those so far
  one_more : (front : List A) (a : A) (r : Reading (List A)) → behind front (r >>= (λ y. read (List A) (a ∷ y.0, y.1))) ≡ behind (front ++ a ∷ []) r
  one_more front a (Ok x) = ap (λ (l : List A). read (List A) (l, x.1)) (sym (append_assoc front (a ∷ []) x.0))
  one_more front a (Err bad) = refl

  -- where the test passes, one turn is one item and then the others
  turn_is : (n : ℕ) (ts : List Token) → starts test ts ≡ true → repeats test reader (suc n) ts ≡ (reader ts >>= (λ x. repeats test reader n x.1 >>= (λ y. read (List A) (x.0 ∷ y.0, y.1))))
  unfolding repeats
  turn_is n ts e = ap (λ (b : Bool). cond b (reader ts >>= (λ x. repeats test reader n x.1 >>= (λ y. read (List A) (x.0 ∷ y.0, y.1)))) (Ok ([], ts))) e

  -- where it fails, the loop ends with no item
  stop_is : (n : ℕ) (ts : List Token) → starts test ts ≡ false → repeats test reader n ts ≡ Ok ([], ts)
  unfolding repeats
  stop_is zero ts e = refl
  stop_is (suc n) ts e = ap (λ (b : Bool). cond b (reader ts >>= (λ x. repeats test reader n x.1 >>= (λ y. read (List A) (x.0 ∷ y.0, y.1)))) (Ok ([], ts))) e

  -- one turn, by how many are left
  turn_by : (n : ℕ) (front : List A) (ts : List Token) (a : A) (mid : List Token) (total : Reading (List A)) → length ts ≤ n → behind front (repeats test reader n ts) ≡ total
      → starts test ts ≡ true → reader ts ≡ Ok (a, mid) → length mid < length ts → Going test reader (front ++ a ∷ []) mid total
  turn_by zero front [] a mid total le e some is short = absurd (omega (arith, short))
  turn_by zero (front) (t ∷ ts) a mid total le e some is short = absurd (omega (arith, le))
  turn_by (suc n) front ts a mid total le e some is short = record {
    fuel = n;
    enough = omega (arith, le, short);
    rest =
        sym (one_more front a (repeats test reader n mid))
        ∙ sym (ap (behind front) (turn_is n ts some ∙ ap (λ (r : Reading A). r >>= (λ x. repeats test reader n x.1 >>= (λ y. read (List A) (x.0 ∷ y.0, y.1)))) is))
        ∙ e;
  }

  -- one turn more
  pub going_turn : (front : List A) (ts : List Token) (a : A) (mid : List Token) (total : Reading (List A)) → Going test reader front ts total
      → starts test ts ≡ true → reader ts ≡ Ok (a, mid) → length mid < length ts → Going test reader (front ++ a ∷ []) mid total
  going_turn front ts a mid total going some is short = turn_by going.fuel front ts a mid total going.enough going.rest some is short

  -- the last turn has been read
  pub going_end : (front : List A) (ts : List Token) (total : Reading (List A)) → Going test reader front ts total → starts test ts ≡ false → total ≡ Ok (front, ts)
  going_end front ts total going none =
      sym going.rest ∙ ap (behind front) (stop_is going.fuel ts none) ∙ ap (λ (l : List A). read (List A) (l, ts)) (append-nil front)

  -- a turn that stands still, by how many are left
  stuck_by : (n : ℕ) (front : List A) (ts bad : List Token) (total : Reading (List A)) → length ts ≤ n → behind front (repeats test reader n ts) ≡ total
      → starts test ts ≡ true → reader ts ≡ Err bad → total ≡ Err bad
  stuck_by zero front [] bad total le e some is = absurd (let wrong = some in cc)
  stuck_by zero front (t ∷ ts) bad total le e some is = absurd (omega (arith, le))
  stuck_by (suc n) front ts bad total le e some is =
      sym e ∙ ap (behind front) (turn_is n ts some ∙ ap (λ (r : Reading A). r >>= (λ x. repeats test reader n x.1 >>= (λ y. read (List A) (x.0 ∷ y.0, y.1)))) is)

  -- a turn that can't be read stops the list there
  pub going_stuck : (front : List A) (ts bad : List Token) (total : Reading (List A)) → Going test reader front ts total
      → starts test ts ≡ true → reader ts ≡ Err bad → total ≡ Err bad
  going_stuck front ts bad total going some is = stuck_by going.fuel front ts bad total going.enough going.rest some is

-- an error that was passed on
pub passed_on : {A B : Type 0} (stop : Stop) (new : List Token) (first : Reading A) (total : Reading B) → ((bad : List Token) → first ≡ Err bad → total ≡ Err bad)
    → Answers (Err stop) new first → Answers (Err stop) new total
passed_on Here new first total stuck h = stuck new h
passed_on Memory new first total stuck h = tt

-- ---- the first value, and the others

module _ {A : Type 0} (symbol : List ℕ) (reader : Reader A) where
  -- the first value and the others by two steps or by one
  read_on : (a : A) (r : Reading (List A)) → ((r >>= (λ y. read (A × List A) ((a, y.0), y.1))) >>= (λ z. read (List A) (z.0.0 ∷ z.0.1, z.1))) ≡ (r >>= (λ y. read (List A) (a ∷ y.0, y.1)))
  read_on a (Ok x) = refl
  read_on a (Err bad) = refl

  -- the others behind the first
  pub parted_is : (ts : List Token) (a : A) (mid : List Token) → reader ts ≡ Ok (a, mid)
      → parted symbol reader ts ≡ makes (λ xs. a ∷ xs) (every (says symbol) (past symbol reader)) mid
  parted_is ts a mid e =
      ap (λ (r : Reading A). (r >>= (λ x. every (says symbol) (past symbol reader) x.1 >>= (λ y. read (A × List A) ((x.0, y.0), y.1)))) >>= (λ z. read (List A) (z.0.0 ∷ z.0.1, z.1))) e
      ∙ read_on a (every (says symbol) (past symbol reader) mid)

-- ---- sums and products: one value as it is, or several

module _ {A : Type 0} (f : List A → A) (symbol : List ℕ) (reader : Reader A) where
  -- what is read of the whole list
  abbrev whole : A × List Token → Reading A
  whole x = (every (says symbol) (past symbol reader) x.1 >>= (λ y. read (A × List A) ((x.0, y.0), y.1))) >>= (λ z. read (List A) (z.0.0 ∷ z.0.1, z.1)) >>= (λ w. read A (several f w.0, w.1))

  -- what is made of a list that was read or not
  several_by : (r : Reading A)
      → (((r >>= (λ x. every (says symbol) (past symbol reader) x.1 >>= (λ y. read (A × List A) ((x.0, y.0), y.1)))) >>= (λ z. read (List A) (z.0.0 ∷ z.0.1, z.1))) >>= (λ w. read A (several f w.0, w.1)))
      ≡ (r >>= whole)
  several_by (Ok x) = refl
  several_by (Err bad) = refl

  -- a list whose first part can't be read stops there
  pub several_stuck : (ts bad : List Token) → reader ts ≡ Err bad → makes (several f) (parted symbol reader) ts ≡ Err bad
  several_stuck ts bad e = several_by (reader ts) ∙ ap (λ (r : Reading A). r >>= whole) e

  -- a first part that was read, and what the others make of it
  several_is : (ts : List Token) (a : A) (mid : List Token) → reader ts ≡ Ok (a, mid)
      → makes (several f) (parted symbol reader) ts ≡ (makes (λ xs. a ∷ xs) (every (says symbol) (past symbol reader)) mid >>= (λ w. read A (several f w.0, w.1)))
  several_is ts a mid e =
      several_by (reader ts) ∙ ap (λ (r : Reading A). r >>= whole) e
      ∙ ap (λ (r : Reading (List A)). r >>= (λ w. read A (several f w.0, w.1))) (read_on symbol reader a (every (says symbol) (past symbol reader) mid))

  -- one that stops at a later part stops there
  pub several_later : (ts : List Token) (a : A) (mid bad : List Token) → reader ts ≡ Ok (a, mid)
      → makes (λ xs. a ∷ xs) (every (says symbol) (past symbol reader)) mid ≡ Err bad → makes (several f) (parted symbol reader) ts ≡ Err bad
  several_later ts a mid bad e stuck = several_is ts a mid e ∙ ap (λ (r : Reading (List A)). r >>= (λ w. read A (several f w.0, w.1))) stuck

  -- a list of one part is that part
  pub several_one : (ts : List Token) (a : A) (mid : List Token) → reader ts ≡ Ok (a, mid) → starts (says symbol) mid ≡ false → makes (several f) (parted symbol reader) ts ≡ Ok (a, mid)
  several_one ts a mid e none =
      several_is ts a mid e
      ∙ ap (λ (r : Reading (List A)). (r >>= (λ y. read (List A) (a ∷ y.0, y.1))) >>= (λ w. read A (several f w.0, w.1))) (stop_is (says symbol) (past symbol reader) (length mid) mid none)

  -- where a symbol follows, there is at least one part more
  some_by : (n : ℕ) (mid : List Token) (xs : List A) (rest : List Token) → length mid ≤ n → starts (says symbol) mid ≡ true → repeats (says symbol) (past symbol reader) n mid ≡ Ok (xs, rest)
      → (b : A) × (ys : List A) × (xs ≡ b ∷ ys)
  some_by zero [] xs rest le some e = absurd (let wrong = some in cc)
  some_by zero (t ∷ ts) xs rest le some e = absurd (omega (arith, le))
  some_by (suc n) mid xs rest le some e =
      let x = bind_ok (past symbol reader mid) (λ x. repeats (says symbol) (past symbol reader) n x.1 >>= (λ y. read (List A) (x.0 ∷ y.0, y.1))) (xs, rest)
      (sym (turn_is (says symbol) (past symbol reader) n mid some) ∙ e) in
      let y = bind_ok (repeats (says symbol) (past symbol reader) n x.0.1) (λ y. read (List A) (x.0.0 ∷ y.0, y.1)) (xs, rest) x.2 in
      (x.0.0, y.0.0, sym (ap (λ (z : List A × List Token). z.0) (ok_same (List A) (x.0.0 ∷ y.0.0, y.0.1) (xs, rest) y.2)))

  -- a list of more parts has them all
  pub several_more : (ts : List Token) (a : A) (mid : List Token) (parts : List A) (rest : List Token) → reader ts ≡ Ok (a, mid) → starts (says symbol) mid ≡ true
      → makes (λ xs. a ∷ xs) (every (says symbol) (past symbol reader)) mid ≡ Ok (parts, rest) → makes (several f) (parted symbol reader) ts ≡ Ok (f parts, rest)
  several_more ts a mid parts rest e some all =
      let y = bind_ok (every (says symbol) (past symbol reader) mid) (λ y. read (List A) (a ∷ y.0, y.1)) (parts, rest) all in
      let same : a ∷ y.0.0 ≡ parts = ap (λ (z : List A × List Token). z.0) (ok_same (List A) (a ∷ y.0.0, y.0.1) (parts, rest) y.2) in
      let others = some_by (length mid) mid y.0.0 y.0.1 (omega arith) some y.1 in
      let shape : parts ≡ a ∷ others.0 ∷ others.1 = sym same ∙ ap (λ (l : List A). a ∷ l) others.2 in
      several_is ts a mid e ∙ ap (λ (r : Reading (List A)). r >>= (λ w. read A (several f w.0, w.1))) all
      ∙ ap (λ (v : A). read A (v, rest)) (ap (several f) shape ∙ ap f (sym shape))

-- ---- what the loops and the sums of the code answer

-- an error that `?` passed on, where the reader is stuck where the part is
pub passed : {A B : Type 0} (stop : Stop) (r : Result B Stop) (new : List Token) (first : Reading A) (total : Reading B) → IsErrAnd r (λ y. y ≡ stop)
    → ((bad : List Token) → first ≡ Err bad → total ≡ Err bad) → Answers {A = A} (Err stop) new first → Answers r new total
passed stop (Ok b) new first total is stuck h = absurd is
passed stop (Err y) new first total is stuck h =
    subst (λ (s : Stop). Answers (Err s) new total) (sym is) (passed_on stop new first total stuck h)

-- the reader that a test chose
pub chosen_first : {A : Type 0} (test : Token → Bool) (first second : Reader A) (ts : List Token) (b : Bool) → b ≡ starts test ts → b ≡ true → chosen test first second ts ≡ first ts
chosen_first test first second ts b is e = ap (λ (c : Bool). cond c (first ts) (second ts)) (sym is ∙ e)

-- and where the test failed, the second reader
pub chosen_second : {A : Type 0} (test : Token → Bool) (first second : Reader A) (ts : List Token) (b : Bool) → b ≡ starts test ts → b ≡ false → chosen test first second ts ≡ second ts
chosen_second test first second ts b is e = ap (λ (c : Bool). cond c (first ts) (second ts)) (sym is ∙ e)
