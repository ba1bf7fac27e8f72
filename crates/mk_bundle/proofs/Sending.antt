-- Texts that are passed on one after the other.
use Rattle.std.proofs.Common.{◌≡◌, ℕ, ◌+◌, ◌/◌, ◌<◌, List, [], ◌∷◌, ◌++◌, length, take, drop, get_or, Option, Some, None, IfSome, Result, Ok, Err, OnErr, codes, flat_map, refl, sym, ◌∙◌, ap, subst, arith, append_assoc, length-append}
use Rattle.std.specs.List.{AllByRecursion}
use Rattle.std.proofs.lemmas.List.{append-nil, take-append-le, take-append-drop}
use Rattle.std.proofs.lemmas.Grind.{flat_map-append, take_at_read}
use Rattle.std.proofs.Math.Seq.{take-append-add}
use Rattle.mk_base.specs.Streams.{TakesPrefix}
use Rattle.mk_rules.specs.Claimed.{Claimed}
use Rattle.mk_lines.specs.Words.{line}
use Rattle.mk_lines.specs.CodeLines.{out_lines}
use Rattle.mk_bundle.specs.Text.{outputs_with, claimed_text, text_with}
use Rattle.mk_bundle.proofs.Sound.{AllByRecursion-push}
use Rattle.mk_bundle.specs.Passing.{Passes, Sends, Breaks, rest_with}

-- no text is passed on by nothing
pub sends_none : (told : Option (List ℕ)) (held : List ℕ) → Sends told held [] told held
sends_none None held = tt
sends_none (Some before) held = record { sent = []; parts = append-nil held; taken = ap Some (sym (append-nil before)) }

-- a text that is held back in whole
pub sends_held : (told : Option (List ℕ)) (held text : List ℕ) → Sends told held text told (held ++ text)
sends_held None held text = tt
sends_held (Some before) held text = record { sent = []; parts = refl; taken = ap Some (sym (append-nil before)) }

-- what was held back is written, and the text is held back
pub sends_written : (told after : Option (List ℕ)) (held text : List ℕ) → IfSome told (λ before. after ≡ Some (before ++ held)) → Sends told held text after text
sends_written None after held text written = tt
sends_written (Some before) after held text written = record { sent = held; parts = refl; taken = written }

-- two texts, one after the other
pub sends_more : (told mid after : Option (List ℕ)) (held between kept first second : List ℕ)
    → Sends told held first mid between → Sends mid between second after kept → Sends told held (first ++ second) after kept
sends_more None mid after held between kept first second begun next = tt
sends_more (Some before) mid after held between kept first second begun next =
    let step : Passes (before ++ begun.sent) between second after kept = subst (λ (m : Option (List ℕ)). IfSome m (λ taken. Passes taken between second after kept)) begun.taken next in record {
      sent = begun.sent ++ step.sent;
      parts = sym (append_assoc held first second) ∙ ap (λ (l : List ℕ). l ++ second) begun.parts ∙ append_assoc begun.sent between second ∙ ap (λ (l : List ℕ). begun.sent ++ l) step.parts
          ∙ sym (append_assoc begun.sent step.sent kept);
      taken = step.taken ∙ ap Some (append_assoc before begun.sent step.sent);
    }

-- a prefix of a front is one of the whole
pub breaks_sooner : (told after : Option (List ℕ)) (held first second : List ℕ) → Breaks told held first after → Breaks told held (first ++ second) after
breaks_sooner None after held first second broken = tt
breaks_sooner (Some before) after held first second broken =
    let whole : held ++ (first ++ second) ≡ (held ++ first) ++ second = sym (append_assoc held first second) in record {
      count = broken.count;
      within = omega (arith, ap length whole, length-append (held ++ first) second, broken.within);
      taken = broken.taken ∙ ap (λ (l : List ℕ). Some (before ++ l)) (sym (ap (take broken.count) whole ∙ take-append-le broken.count (held ++ first) second broken.within));
    }

-- a prefix of what comes behind a text that was passed on is one of both
pub breaks_later : (told mid after : Option (List ℕ)) (held between first second : List ℕ)
    → Sends told held first mid between → Breaks mid between second after → Breaks told held (first ++ second) after
breaks_later None mid after held between first second begun broken = tt
breaks_later (Some before) mid after held between first second begun broken =
    let step : TakesPrefix (before ++ begun.sent) (between ++ second) after = subst (λ (m : Option (List ℕ)). IfSome m (λ taken. TakesPrefix taken (between ++ second) after)) begun.taken broken in
    let whole : held ++ (first ++ second) ≡ begun.sent ++ (between ++ second) =
    sym (append_assoc held first second) ∙ ap (λ (l : List ℕ). l ++ second) begun.parts ∙ append_assoc begun.sent between second in record {
      count = length begun.sent + step.count;
      within = omega (arith, ap length whole, length-append begun.sent (between ++ second), step.within);
      taken = step.taken ∙ ap Some (append_assoc before begun.sent (take step.count (between ++ second)))
          ∙ ap (λ (l : List ℕ). Some (before ++ l)) (sym (ap (take (length begun.sent + step.count)) whole ∙ take-append-add begun.sent (between ++ second) step.count));
    }

-- what is held back is written at the end
pub sends_all : (told mid after : Option (List ℕ)) (text kept : List ℕ) → Sends told [] text mid kept → IfSome mid (λ before. after ≡ Some (before ++ kept)) → IfSome told (λ before. after ≡ Some (before ++ text))
sends_all None mid after text kept begun written = tt
sends_all (Some before) mid after text kept begun written =
    let step : after ≡ Some (before ++ begun.sent ++ kept) = subst (λ (m : Option (List ℕ)). IfSome m (λ taken. after ≡ Some (taken ++ kept))) begun.taken written in
    step ∙ ap Some (append_assoc before begun.sent kept) ∙ ap (λ (l : List ℕ). Some (before ++ l)) (sym begun.parts)

-- the sink failed where what is held back was written
pub breaks_end : (told mid after : Option (List ℕ)) (text kept : List ℕ) → Sends told [] text mid kept → IfSome mid (λ before. TakesPrefix before kept after) → IfSome told (λ before. TakesPrefix before text after)
breaks_end None mid after text kept begun broken = tt
breaks_end (Some before) mid after text kept begun broken =
    let step : TakesPrefix (before ++ begun.sent) kept after = subst (λ (m : Option (List ℕ)). IfSome m (λ taken. TakesPrefix taken kept after)) begun.taken broken in record {
      count = length begun.sent + step.count;
      within = omega (arith, ap length begun.parts, length-append begun.sent kept, step.within);
      taken = step.taken ∙ ap Some (append_assoc before begun.sent (take step.count kept))
          ∙ ap (λ (l : List ℕ). Some (before ++ l)) (sym (ap (take (length begun.sent + step.count)) begun.parts ∙ take-append-add begun.sent kept step.count));
    }

-- four texts behind another
four_behind : (whole a b c d : List ℕ) → whole ++ a ++ b ++ c ++ d ≡ whole ++ (a ++ b ++ c ++ d)
four_behind whole a b c d = simp (append_assoc) refl

-- a text, cut before the line of the code
pub text_cut : (front : List ℕ) (cert : Claimed) (instrs outs : List ℕ) → text_with front cert instrs outs ≡ claimed_text front cert ++ rest_with instrs outs
text_cut front cert instrs outs = four_behind (claimed_text front cert) (line (codes "code")) instrs outs (line (codes "end"))

-- the line of the code and those behind it, of equal instructions and outputs
pub same_rest : {A : Type 0} (spell : A → List ℕ) (instrs other : List A) (shares order : ℕ) (outs others : List ℕ) → instrs ≡ other → shares ≡ order + 1 → outs ≡ others
    → rest_with (flat_map spell instrs) (out_lines shares (length outs / shares) outs) ≡ rest_with (flat_map spell other) (outputs_with order others)
same_rest spell instrs other shares order outs others e f g = rw (e, f, g) refl

-- ---- three texts in a row

-- all are passed on
pub three_sent : (t0 t1 t2 t3 : Option (List ℕ)) (h0 h1 h2 h3 a b c : List ℕ) → Sends t0 h0 a t1 h1 → Sends t1 h1 b t2 h2 → Sends t2 h2 c t3 h3 → Sends t0 h0 (a ++ b ++ c) t3 h3
three_sent t0 t1 t2 t3 h0 h1 h2 h3 a b c p q r = sends_more t0 t2 t3 h0 h2 h3 (a ++ b) c (sends_more t0 t1 t2 h0 h1 h2 a b p q) r

-- the sink failed in the first
pub first_of_three_broken : (t0 t3 : Option (List ℕ)) (h0 a b c : List ℕ) → Breaks t0 h0 a t3 → Breaks t0 h0 (a ++ b ++ c) t3
first_of_three_broken t0 t3 h0 a b c p = breaks_sooner t0 t3 h0 (a ++ b) c (breaks_sooner t0 t3 h0 a b p)

-- the sink failed in the second
pub second_of_three_broken : (t0 t1 t3 : Option (List ℕ)) (h0 h1 a b c : List ℕ) → Sends t0 h0 a t1 h1 → Breaks t1 h1 b t3 → Breaks t0 h0 (a ++ b ++ c) t3
second_of_three_broken t0 t1 t3 h0 h1 a b c p q = breaks_sooner t0 t3 h0 (a ++ b) c (breaks_later t0 t1 t3 h0 h1 a b p q)

-- the sink failed in the third
pub third_of_three_broken : (t0 t1 t2 t3 : Option (List ℕ)) (h0 h1 h2 a b c : List ℕ) → Sends t0 h0 a t1 h1 → Sends t1 h1 b t2 h2 → Breaks t2 h2 c t3 → Breaks t0 h0 (a ++ b ++ c) t3
third_of_three_broken t0 t1 t2 t3 h0 h1 h2 a b c p q r = breaks_later t0 t2 t3 h0 h2 (a ++ b) c (sends_more t0 t1 t2 h0 h1 h2 a b p q) r

-- ---- four texts in a row

-- all are passed on
pub four_sent : (t0 t1 t2 t3 t4 : Option (List ℕ)) (h0 h1 h2 h3 h4 a b c d : List ℕ)
    → Sends t0 h0 a t1 h1 → Sends t1 h1 b t2 h2 → Sends t2 h2 c t3 h3 → Sends t3 h3 d t4 h4 → Sends t0 h0 (a ++ b ++ c ++ d) t4 h4
four_sent t0 t1 t2 t3 t4 h0 h1 h2 h3 h4 a b c d p q r s =
    sends_more t0 t3 t4 h0 h3 h4 (a ++ b ++ c) d (sends_more t0 t2 t3 h0 h2 h3 (a ++ b) c (sends_more t0 t1 t2 h0 h1 h2 a b p q) r) s

-- the sink failed in the first
pub first_broken : (t0 t4 : Option (List ℕ)) (h0 a b c d : List ℕ) → Breaks t0 h0 a t4 → Breaks t0 h0 (a ++ b ++ c ++ d) t4
first_broken t0 t4 h0 a b c d p = breaks_sooner t0 t4 h0 (a ++ b ++ c) d (breaks_sooner t0 t4 h0 (a ++ b) c (breaks_sooner t0 t4 h0 a b p))

-- the sink failed in the second
pub second_broken : (t0 t1 t4 : Option (List ℕ)) (h0 h1 a b c d : List ℕ) → Sends t0 h0 a t1 h1 → Breaks t1 h1 b t4 → Breaks t0 h0 (a ++ b ++ c ++ d) t4
second_broken t0 t1 t4 h0 h1 a b c d p q = breaks_sooner t0 t4 h0 (a ++ b ++ c) d (breaks_sooner t0 t4 h0 (a ++ b) c (breaks_later t0 t1 t4 h0 h1 a b p q))

-- the sink failed in the third
pub third_broken : (t0 t1 t2 t4 : Option (List ℕ)) (h0 h1 h2 a b c d : List ℕ) → Sends t0 h0 a t1 h1 → Sends t1 h1 b t2 h2 → Breaks t2 h2 c t4 → Breaks t0 h0 (a ++ b ++ c ++ d) t4
third_broken t0 t1 t2 t4 h0 h1 h2 a b c d p q r =
    breaks_sooner t0 t4 h0 (a ++ b ++ c) d (breaks_later t0 t2 t4 h0 h2 (a ++ b) c (sends_more t0 t1 t2 h0 h1 h2 a b p q) r)

-- the sink failed in the last
pub last_broken : (t0 t1 t2 t3 t4 : Option (List ℕ)) (h0 h1 h2 h3 a b c d : List ℕ)
    → Sends t0 h0 a t1 h1 → Sends t1 h1 b t2 h2 → Sends t2 h2 c t3 h3 → Breaks t3 h3 d t4 → Breaks t0 h0 (a ++ b ++ c ++ d) t4
last_broken t0 t1 t2 t3 t4 h0 h1 h2 h3 a b c d p q r s =
    breaks_later t0 t3 t4 h0 h3 (a ++ b ++ c) d (sends_more t0 t2 t3 h0 h2 h3 (a ++ b) c (sends_more t0 t1 t2 h0 h1 h2 a b p q) r) s

-- what holds holds of an error
pub on_err : {A E P : Type 0} (r : Result A E) → P → OnErr r P
on_err (Ok x) p = tt
on_err (Err e) p = p

-- a prefix of a text is one of an equal text
pub broken_prefix : (told after : Option (List ℕ)) (text parts : List ℕ) → parts ≡ text → Breaks told [] parts after → IfSome told (λ before. TakesPrefix before text after)
broken_prefix told after text parts same broken = subst (λ (w : List ℕ). IfSome told (λ before. TakesPrefix before w after)) same broken

-- ---- lists

-- one thing more
pub take-next : {A : Type 0} (xs : List A) (i : ℕ) (x : A) → i < length xs → x ≡ get_or xs i x → take (i + 1) xs ≡ take i xs ++ x ∷ []
take-next xs i x below is = (take_at_read xs i x below).1 ∙ ap (λ y. take i xs ++ y ∷ []) (sym is)

-- what is spelled of one thing more
pub flat_map-next : {A : Type 0} (f : A → List ℕ) (xs : List A) (i : ℕ) (x : A) → i < length xs → x ≡ get_or xs i x → flat_map f (take (i + 1) xs) ≡ flat_map f (take i xs) ++ f x
flat_map-next f xs i x below is = ap (flat_map f) (take-next xs i x below is) ∙ flat_map-append f (take i xs) (x ∷ []) ∙ ap (λ (l : List ℕ). flat_map f (take i xs) ++ l) (append-nil (f x))

-- what is spelled of all: of those before, of one and of those behind
pub flat_map-parts : {A : Type 0} (f : A → List ℕ) (xs : List A) (i : ℕ) (x : A) → i < length xs → x ≡ get_or xs i x
    → flat_map f xs ≡ flat_map f (take i xs) ++ f x ++ flat_map f (drop (i + 1) xs)
flat_map-parts f xs i x below is =
    ap (flat_map f) (sym (take-append-drop (i + 1) xs)) ∙ flat_map-append f (take (i + 1) xs) (drop (i + 1) xs) ∙ ap (λ (l : List ℕ). l ++ flat_map f (drop (i + 1) xs)) (flat_map-next f xs i x below is)

-- what holds of those before and of one more
pub all-next : {A : Type 0} (P : A → Type 0) (xs : List A) (i : ℕ) (x : A) → i < length xs → x ≡ get_or xs i x → AllByRecursion P (take i xs) → P x → AllByRecursion P (take (i + 1) xs)
all-next P xs i x below is all here = subst (AllByRecursion P) (sym (take-next xs i x below is)) (AllByRecursion-push P (take i xs) x all here)
