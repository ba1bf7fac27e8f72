-- The words ask for one command.
use Rattle.std.proofs.Common.{◌≡◌, ℕ, ◌+◌, ◌*◌, List, [], ◌∷◌, length, get_or, inl, inr, refl, sym, ◌∙◌, ap, subst, arith, Ok, Err}
use Rattle.std.specs.Prelude.{codes}
use Rattle.hex.specs.Hex.{decode_of}
use Rattle.hex.specs.declared.error.FromHexError.TheVariants.{OddLength}
use Rattle.hex.proofs.HexLemmas.{decode_of-same}
use Rattle.mk_words.specs.Words.{Command, Compile, Check, Eval, Run, Count, Report, Gen, Trial, Table, Gadget, Regs, GivenTape, Seed, Tape, IsOrder, IsTurns, SaysElements, SaysTape, SaysProbes, Asks}
use Rattle.mk_words.proofs.Commands.{seed-not-tape}
use Rattle.mk_words.proofs.Decimals.{says-probes-one, turns-one, order-one}

-- `-` is no text of hexadecimal digits
dash : (word xs : List ℕ) → word ≡ codes "-" → decode_of word ≡ Ok xs → ⊥
dash word xs e ok = let odd : Ok xs ≡ Err OddLength = sym ok ∙ ap decode_of e in absurd cc

-- a word says one list of elements
says-one : (word xs ys : List ℕ) → SaysElements word xs → SaysElements word ys → xs ≡ ys
says-one word xs ys (inl a) (inl b) = a.1 ∙ sym b.1
says-one word xs ys (inl a) (inr b) = absurd (dash word ys a.0 b.1)
says-one word xs ys (inr a) (inl b) = absurd (dash word xs b.0 a.1)
says-one word xs ys (inr a) (inr b) = decode_of-same word xs ys a.1 b.1

-- two words say one tape
says-tape-one : (kind word : List ℕ) (a b : GivenTape) → SaysTape kind word a → SaysTape kind word b → a ≡ b
says-tape-one kind word (Seed xs) (Seed ys) first second = ap Seed (decode_of-same word xs ys first.1.1 second.1.1)
says-tape-one kind word (Seed xs) (Tape ys) first second = absurd (seed-not-tape (sym first.0 ∙ second.0))
says-tape-one kind word (Tape xs) (Seed ys) first second = absurd (seed-not-tape (sym second.0 ∙ first.0))
says-tape-one kind word (Tape xs) (Tape ys) first second = ap Tape (says-one word xs ys first.1 second.1)

-- what tells the words of commands apart: how many they are, and the third letter
abbrev mark_of : List (List ℕ) → ℕ
mark_of words = 1000 * length words + get_or (get_or words 0 []) 2 0

-- the same of a command
abbrev mark : Command → ℕ
mark (Compile order) = 2109
mark Check = 1101
mark (Eval publics secrets) = 3097
mark (Run publics secrets tape) = 5110
mark (Count publics first second probes) = 5117
mark Report = 1112
mark (Gen turns) = 2110
mark (Trial turns order) = 3105
mark Table = 1098
mark Gadget = 1100
mark Regs = 1103

-- words that ask for a command have its mark
asks-marked : (words : List (List ℕ)) (command : Command) → Asks words command → mark_of words ≡ mark command
asks-marked words (Compile order) asks = ap mark_of asks.1
asks-marked words Check asks = ap mark_of asks
asks-marked words (Eval publics secrets) asks = ap mark_of asks.2
asks-marked words (Run publics secrets tape) asks = ap mark_of asks.4
asks-marked words (Count publics first second probes) asks = ap mark_of asks.4
asks-marked words Report asks = ap mark_of asks
asks-marked words (Gen turns) asks = ap mark_of asks.1
asks-marked words (Trial turns order) asks = ap mark_of asks.2
asks-marked words Table asks = ap mark_of asks
asks-marked words Gadget asks = ap mark_of asks
asks-marked words Regs asks = ap mark_of asks

-- the words ask for one command
pub asks-one : (words : List (List ℕ)) (a b : Command) → Asks words a → Asks words b → a ≡ b
asks-one words (Compile m) (Compile n) first second =
    let same : first.0 ≡ second.0 = let e = first.1 in let f = second.1 in cc in
    ap Compile (order-one second.0 m n (subst (λ (w : List ℕ). IsOrder w m) same first.2) second.2)
asks-one words Check Check first second = refl
asks-one words (Eval ps ss) (Eval qs ts) first second =
    let one : first.0 ≡ second.0 = let e = first.2 in let f = second.2 in cc in
    let two : first.1 ≡ second.1 = let e = first.2 in let f = second.2 in cc in
    ap (λ (xs : List ℕ). Eval xs ss) (says-one second.0 ps qs (subst (λ (w : List ℕ). SaysElements w ps) one first.3) second.3)
    ∙ ap (Eval qs) (says-one second.1 ss ts (subst (λ (w : List ℕ). SaysElements w ss) two first.4) second.4)
asks-one words (Run ps ss s) (Run qs ts t) first second =
    let one : first.0 ≡ second.0 = let e = first.4 in let f = second.4 in cc in
    let two : first.1 ≡ second.1 = let e = first.4 in let f = second.4 in cc in
    let three : first.2 ≡ second.2 = let e = first.4 in let f = second.4 in cc in
    let four : first.3 ≡ second.3 = let e = first.4 in let f = second.4 in cc in
    ap (λ (xs : List ℕ). Run xs ss s) (says-one second.0 ps qs (subst (λ (w : List ℕ). SaysElements w ps) one first.5) second.5)
    ∙ ap (λ (xs : List ℕ). Run qs xs s) (says-one second.1 ss ts (subst (λ (w : List ℕ). SaysElements w ss) two first.6) second.6)
    ∙ ap (Run qs ts) (says-tape-one second.2 second.3 s t (subst (λ (k : List ℕ). SaysTape k second.3 s) three (subst (λ (w : List ℕ). SaysTape first.2 w s) four first.7)) second.7)
asks-one words (Count ps us xs ks) (Count qs bs ys ls) first second =
    let one : first.0 ≡ second.0 = let e = first.4 in let f = second.4 in cc in
    let two : first.1 ≡ second.1 = let e = first.4 in let f = second.4 in cc in
    let three : first.2 ≡ second.2 = let e = first.4 in let f = second.4 in cc in
    let four : first.3 ≡ second.3 = let e = first.4 in let f = second.4 in cc in
    ap (λ (zs : List ℕ). Count zs us xs ks) (says-one second.0 ps qs (subst (λ (w : List ℕ). SaysElements w ps) one first.5) second.5)
    ∙ ap (λ (zs : List ℕ). Count qs zs xs ks) (says-one second.1 us bs (subst (λ (w : List ℕ). SaysElements w us) two first.6) second.6)
    ∙ ap (λ (zs : List ℕ). Count qs bs zs ks) (says-one second.2 xs ys (subst (λ (w : List ℕ). SaysElements w xs) three first.7) second.7)
    ∙ ap (Count qs bs ys) (says-probes-one second.3 ks ls (subst (λ (w : List ℕ). SaysProbes w ks) four first.8) second.8)
asks-one words Report Report first second = refl
asks-one words (Gen m) (Gen n) first second =
    let same : first.0 ≡ second.0 = let e = first.1 in let f = second.1 in cc in
    ap Gen (turns-one second.0 m n (subst (λ (w : List ℕ). IsTurns w m) same first.2) second.2)
asks-one words (Trial m j) (Trial n k) first second =
    let one : first.0 ≡ second.0 = let e = first.2 in let f = second.2 in cc in
    let two : first.1 ≡ second.1 = let e = first.2 in let f = second.2 in cc in
    ap (λ (t : ℕ). Trial t j) (turns-one second.0 m n (subst (λ (w : List ℕ). IsTurns w m) one first.3) second.3)
    ∙ ap (Trial n) (order-one second.1 j k (subst (λ (w : List ℕ). IsOrder w j) two first.4) second.4)
asks-one words Table Table first second = refl
asks-one words Gadget Gadget first second = refl
asks-one words Regs Regs first second = refl
asks-one words a b first second = absurd (omega (arith, sym (asks-marked words a first) ∙ asks-marked words b second))
