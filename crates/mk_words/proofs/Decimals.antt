-- A word says one number, one list of probes and one number of turns.
use Rattle.std.proofs.Common.{◌≡◌, ◌≢◌, ℕ, ◌+◌, ◌<◌, ◌^◌, List, [], ◌∷◌, ◌++◌, length, map, get_or, drop, take, Bool, true, false, true≢false, Result, Ok, refl, sym, ap, ap₂, subst, ◌∙◌, arith}
use Rattle.std.specs.Prelude.{All, MatchBool, IsTrue, ◌↔◌, codes, decimal, ◌==◌}
use Rattle.std.specs.List.{AllWithin, HoldsAt, slice_split, join_with_byte}
use Rattle.std.specs.Str.Parse.{AllDigits, ParsesUnsigned}
use Rattle.std.specs.Char.{digit_value}
use Rattle.std.proofs.lemmas.Bool.{ne_eqb}
use Rattle.std.proofs.lemmas.Fmt.{decimal_is_IsNumeral, decimal_injective, parse-decimal, IsAscii-decimal}
use Rattle.std.proofs.lemmas.List.{append-nil, get_or-map, take_more, take_all, length-map}
use Rattle.std.proofs.lemmas.Str.{IsUtf8-from_ascii}
use Rattle.std.specs.Str.{IsUtf8}
use Rattle.std.proofs.lemmas.List.Elements.{All-nil, All-cons, All-head, All-tail, All-map, All-weaker, All-get_or, All-from_all_within}
use Rattle.std.proofs.lemmas.List.Splits.{slice_split_none, slice_split_at, length-slice_split, join_with_byte-slice_split}
use Rattle.mk_words.specs.Words.{probes_word, SaysProbes, IsOrder, IsTurns}
use Rattle.mk_words.specs.Forms.{AreProbes}
use Rattle.mk_words.specs.Numbers.{IsNumber}

-- the parts of a word between its commas
abbrev pub parts : List ℕ → List (List ℕ)
parts word = slice_split (λ b. b == 44) word

-- ---- decimals

-- digits have no comma
no-comma : (ds : List ℕ) → AllDigits 10 ds → All (λ b. (b == 44) ≡ false) ds
no-comma [] digits = All-nil (λ b. (b == 44) ≡ false)
no-comma (d ∷ ds) digits = All-cons (λ b. (b == 44) ≡ false) d ds (ne_eqb d 44 (λ e. not-44 d e (digits.0, tt))) (no-comma ds digits.1)
  where
    not-44 : (c : ℕ) → c ≡ 44 → AllDigits 10 (c ∷ []) → ⊥
    not-44 c e digit = omega (arith, subst (λ (n : ℕ). digit_value n < 10) e digit.0)

-- a decimal is no `-`
no-dash : (n : ℕ) → n < 2 ^ 32 → codes "-" ≡ decimal n → ⊥
no-dash n small e =
    let digits : AllDigits 10 (codes "-") = subst (AllDigits 10) (sym e) (decimal_is_IsNumeral n (omega (arith, small))).0.1 in
    omega (arith, digits.0)

-- decimals of numbers below 2^32 are those of one list
decimals-one : (ps qs : List ℕ) → All (λ p. p < 2 ^ 32) ps → All (λ q. q < 2 ^ 32) qs → map decimal ps ≡ map decimal qs → ps ≡ qs
decimals-one [] [] few small same = refl
decimals-one [] (q ∷ qs) few small same = absurd cc
decimals-one (p ∷ ps) [] few small same = absurd cc
decimals-one (p ∷ ps) (q ∷ qs) few small same =
    let below : p < 2 ^ 32 = All-head (λ (n : ℕ). n < 2 ^ 32) p ps few in
    let other : q < 2 ^ 32 = All-head (λ (n : ℕ). n < 2 ^ 32) q qs small in
    let first : decimal p ≡ decimal q = ap (λ (ws : List (List ℕ)). get_or ws 0 []) same in
    let rest : map decimal ps ≡ map decimal qs = ap (λ (ws : List (List ℕ)). drop 1 ws) same in
    ap₂ ◌∷◌ (decimal_injective p q (omega (arith, below)) (omega (arith, other)) first)
    (decimals-one ps qs (All-tail (λ (n : ℕ). n < 2 ^ 32) p ps few) (All-tail (λ (n : ℕ). n < 2 ^ 32) q qs small) rest)

-- a decimal is text
pub decimal-text : (word : List ℕ) (n : ℕ) → n < 2 ^ 32 → word ≡ decimal n → IsUtf8 word
decimal-text word n small is = subst IsUtf8 (sym is) (IsUtf8-from_ascii (decimal n) (IsAscii-decimal n (omega (arith, small))))

-- whose reading gives the number
pub decimal-reads : {E : Type 0} (word text : List ℕ) (n : ℕ) (r : Result ℕ E) → n < 2 ^ 32 → word ≡ decimal n → text ≡ word → ParsesUnsigned 32 10 text r → r ≡ Ok n
decimal-reads word text n r small is same reads = parse-decimal 32 n text r small (omega (arith, small)) (same ∙ is) reads

-- one reading gives one number
pub read-one : {E : Type 0} (r : Result ℕ E) (m n : ℕ) → r ≡ Ok m → r ≡ Ok n → m ≡ n
read-one r m n is again = cc

-- ---- probes

-- the parts of the word of probes are their decimals
parts-of : (p : ℕ) (ps : List ℕ) → All (λ q. q < 2 ^ 32) (p ∷ ps) → parts (probes_word (p ∷ ps)) ≡ map decimal (p ∷ ps)
parts-of p [] small =
    let below : p < 2 ^ 32 = All-head (λ (n : ℕ). n < 2 ^ 32) p [] small in
    ap parts (append-nil (decimal p)) ∙ slice_split_none (λ b. b == 44) (decimal p) (no-comma (decimal p) (decimal_is_IsNumeral p (omega (arith, below))).0.1)
parts-of p (q ∷ qs) small =
    let below : p < 2 ^ 32 = All-head (λ (n : ℕ). n < 2 ^ 32) p (q ∷ qs) small in
    slice_split_at (λ b. b == 44) (decimal p) 44 (probes_word (q ∷ qs)) (no-comma (decimal p) (decimal_is_IsNumeral p (omega (arith, below))).0.1) refl
    ∙ ap (λ (ws : List (List ℕ)). decimal p ∷ ws) (parts-of q qs (All-tail (λ (n : ℕ). n < 2 ^ 32) p (q ∷ qs) small))

-- and the decimals with commas between are the word
joined : (p : ℕ) (ps : List ℕ) → join_with_byte 44 (map decimal (p ∷ ps)) ≡ probes_word (p ∷ ps)
joined p [] = sym (append-nil (decimal p))
joined p (q ∷ qs) = ap (λ (w : List ℕ). decimal p ++ (44 ∷ w)) (joined q qs)

-- the parts of a word that says probes and is not `-` are their decimals
pub said-parts : (word ps : List ℕ) → word ≢ codes "-" → SaysProbes word ps → parts word ≡ map decimal ps
said-parts word [] other says = absurd (other says.0)
said-parts word (p ∷ ps) other says = ap parts says.0 ∙ parts-of p ps says.1

-- the word of some probes is no `-`
dash-not : (p : ℕ) (ps : List ℕ) → All (λ q. q < 2 ^ 32) (p ∷ ps) → codes "-" ≡ probes_word (p ∷ ps) → ⊥
dash-not p ps small e =
    let first : codes "-" ≡ decimal p = ap (λ (w : List ℕ). get_or (parts w) 0 []) e ∙ ap (λ (ws : List (List ℕ)). get_or ws 0 []) (parts-of p ps small) in
    no-dash p (All-head (λ (n : ℕ). n < 2 ^ 32) p ps small) first

-- a word says one list of probes
pub says-probes-one : (word ps qs : List ℕ) → SaysProbes word ps → SaysProbes word qs → ps ≡ qs
says-probes-one word [] [] says again = refl
says-probes-one word [] (q ∷ qs) says again = absurd (dash-not q qs again.1 (sym says.0 ∙ again.0))
says-probes-one word (p ∷ ps) [] says again = absurd (dash-not p ps says.1 (sym again.0 ∙ says.0))
says-probes-one word (p ∷ ps) (q ∷ qs) says again =
    decimals-one (p ∷ ps) (q ∷ qs) says.1 again.1 (sym (parts-of p ps says.1) ∙ ap parts (sym says.0 ∙ again.0) ∙ parts-of q qs again.1)

-- the parts of such a word are numbers
pub parts-are : (word : List ℕ) → word ≢ codes "-" → AreProbes word → All IsNumber (parts word)
parts-are word other (ps, says) =
    subst (All IsNumber) (sym (said-parts word ps other says)) (All-map IsNumber decimal ps (All-weaker (λ (n : ℕ). n < 2 ^ 32) (λ (n : ℕ). IsNumber (decimal n)) (λ n small. (n, refl, small)) ps says.1))

-- and a word whose parts are numbers says probes
pub are-by-parts : (word : List ℕ) → All IsNumber (parts word) → AreProbes word
are-by-parts word numbers = by (numbers-of (parts word) numbers)
  where
    numbers-of : (ws : List (List ℕ)) → All IsNumber ws → (ps : List ℕ) × (ws ≡ map decimal ps) × All (λ p. p < 2 ^ 32) ps
    numbers-of [] all = ([], refl, All-nil (λ (n : ℕ). n < 2 ^ 32))
    numbers-of (w ∷ ws) all =
        let first = All-head IsNumber w ws all in
        let rest = numbers-of ws (All-tail IsNumber w ws all) in
        (first.0 ∷ rest.0, ap₂ ◌∷◌ first.1 rest.1, All-cons (λ (n : ℕ). n < 2 ^ 32) first.0 rest.0 first.2 rest.2)

    by : (ps : List ℕ) × (parts word ≡ map decimal ps) × All (λ p. p < 2 ^ 32) ps → AreProbes word
    by ([], e, small) = let none = ap length e in let some = length-slice_split (λ b. b == 44) word in absurd (omega (arith, none, some))
    by (p ∷ ps, e, small) = (p ∷ ps, (sym (join_with_byte-slice_split 44 word) ∙ ap (join_with_byte 44) e ∙ joined p ps, small))

-- of whose parts all are numbers or one is none
pub are-or-not : (word : List ℕ) (r : Bool) → word ≢ codes "-"
    → MatchBool r (AllWithin IsNumber (parts word) 0 (length (parts word))) ((k : ℕ) × (k < length (parts word)) × HoldsAt (λ w. IsNumber w → ⊥) (parts word) k)
    → IsTrue r ↔ AreProbes word
are-or-not word true other all = (λ t. are-by-parts word (All-from_all_within IsNumber (parts word) all), λ says. refl)
are-or-not word false other (k, within, never) =
    (λ t. absurd (true≢false (sym t)), λ says. absurd (never [] (All-get_or IsNumber (parts word) k [] within (parts-are word other says))))

-- the part at a place is the decimal of the probe there
pub part-is : (word ps : List ℕ) (i : ℕ) (part : List ℕ) → word ≢ codes "-" → SaysProbes word ps → i < length (parts word) → part ≡ get_or (parts word) i part
    → (i < length ps) × (part ≡ decimal (get_or ps i 0)) × (get_or ps i 0 < 2 ^ 32)
part-is word ps i part other says within here =
    let are = said-parts word ps other says in
    let long : length (parts word) ≡ length ps = ap length are ∙ length-map ps decimal in
    let lt : i < length ps = omega (arith, within, long) in
    (lt, here ∙ ap (λ (ws : List (List ℕ)). get_or ws i part) are ∙ get_or-map decimal ps i 0 part lt, All-get_or (λ (n : ℕ). n < 2 ^ 32) ps i 0 lt says.1)

-- with it one probe more is read
pub one-more : (word ps seen : List ℕ) (i probe : ℕ) (part : List ℕ) → word ≢ codes "-" → SaysProbes word ps → i < length (parts word) → part ≡ get_or (parts word) i part
    → part ≡ decimal probe → probe < 2 ^ 32 → seen ≡ take i ps → seen ++ probe ∷ [] ≡ take (i + 1) ps
one-more word ps seen i probe part other says within here is small before =
    let there = part-is word ps i part other says within here in
    let same : probe ≡ get_or ps i 0 = decimal_injective probe (get_or ps i 0) (omega (arith, small)) (omega (arith, there.2)) (sym is ∙ there.1) in
    ap₂ (λ (xs : List ℕ) (x : ℕ). xs ++ x ∷ []) before same ∙ sym (take_more ps i 0 there.0)

-- and in the end all are read
pub all-read : (word ps seen : List ℕ) (i : ℕ) → word ≢ codes "-" → SaysProbes word ps → i ≡ length (parts word) → seen ≡ take i ps → SaysProbes word seen
all-read word ps seen i other says end before =
    let long : length (parts word) ≡ length ps = ap length (said-parts word ps other says) ∙ length-map ps decimal in
    subst (SaysProbes word) (sym (before ∙ take_all i ps (omega (arith, end, long)))) says

-- ---- turns

-- a word is one number of turns
pub turns-one : (word : List ℕ) (m n : ℕ) → IsTurns word m → IsTurns word n → m ≡ n
turns-one word m n is again = decimal_injective m n (omega (arith, is.2)) (omega (arith, again.2)) (sym is.0 ∙ again.0)

-- a word says one order
pub order-one : (word : List ℕ) (m n : ℕ) → IsOrder word m → IsOrder word n → m ≡ n
order-one word m n is again = decimal_injective m n (omega (arith, is.2)) (omega (arith, again.2)) (sym is.0 ∙ again.0)
