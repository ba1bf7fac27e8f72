-- Tokens one after the other.
use Rattle.std.proofs.Common.{◌≡◌, ℕ, ◌+◌, ◌-◌, ◌<◌, ◌≤◌, Bool, true, false, ◌⊎◌, List, [], ◌∷◌, ◌++◌, length, take, drop, refl, sym, ap, subst, ◌∙◌, inl, inr, arith, length-append, length-drop, length-take}
use Rattle.std.specs.Prelude.{map, All, ◌==◌}
use Rattle.std.proofs.lemmas.List.{drop-drop, drop_all, take_at, take-append-drop, map_push, append-nil}
use Rattle.std.proofs.lemmas.Bool.{eqb-true, eq-eqb, both_ways}
use Rattle.std.proofs.lemmas.List.Elements.{All-push}
use Rattle.std.proofs.Math.Seq.{take-add}
use Rattle.mk_base.specs.declared.Place.{Place}
use Rattle.mk_ast.specs.Tokens.{Token as Spelled, reserved, IsToken, IsGap, IsLastGap, Next, BeginsWith, AreTokens, place_behind, place_of}
use Rattle.mk_ast.specs.Spells.{NoGapBegins}
use Rattle.mk_parse.specs.Lexing.{seen, kind_by, IsOfKind, IsWithin, IsPlaced, IsGapBetween, IsTokenBetween, NoTokenBegins, AreSpans, IsLexed, IsFirstBad, AreAllTokens}
use Rattle.mk_parse.specs.declared.token.Token.{Token}
use Rattle.mk_parse.specs.declared.token.Written.{Written}
use Rattle.mk_parse.specs.declared.token.Written.TheVariants.{Name, Reserved, Number, Element, Symbol}
use Rattle.mk_parse.specs.Reading.{is_among}
use Rattle.mk_parse.proofs.Terminals.{among_sound, among_complete}
use Rattle.mk_parse.proofs.Gaps.{gap_append, gap_unique, last_gap_alone}
use Rattle.mk_parse.proofs.Munching.{token_begins, token_unique}
use Rattle.mk_parse.proofs.Placing.{place_small, place_of_drop}

-- a place is small where the text is
pub placed_small : (text : List ℕ) (index : ℕ) (at : Place) → IsPlaced text index at → (at.line ≤ index + 1) × (at.column ≤ index + 1)
placed_small text index at h =
    let small = place_small (take index text) in
    let long : length (take index text) ≤ index = omega (arith, length-take index text) in
    (omega (arith, small.0, ap (λ (p : Place). p.line) h.1), omega (arith, small.1, ap (λ (p : Place). p.column) h.1))

-- the front of a text, and what stands behind its first bytes
pub take_on : (text : List ℕ) (i n : ℕ) → take (i + n) text ≡ take i text ++ take (i + n - i) (drop i text)
take_on text i n = let count : i + n - i ≡ n = omega arith in take-add i n text ∙ ap (λ (m : ℕ). take i text ++ take m (drop i text)) (sym count)

-- the place so many bytes on
pub forward_placed : (text : List ℕ) (i n : ℕ) (at after : Place) → IsPlaced text i at → i + n ≤ length text
    → ((front : List ℕ) → at ≡ place_behind front → after ≡ place_behind (front ++ take (i + n - i) (drop i text))) → IsPlaced text (i + n) after
forward_placed text i n at after placed short h = (short, h (take i text) placed.1 ∙ ap place_behind (sym (take_on text i n)))

-- a token has a kind
kind_of_token : (word rest : List ℕ) → IsToken word rest → (kind : Written) × IsOfKind kind word
kind_of_token word rest (inl symbol) = (Symbol, symbol)
kind_of_token word rest (inr (inl h, none)) = by (is_among reserved word) refl
  where
    by : (b : Bool) → is_among reserved word ≡ b → (kind : Written) × IsOfKind kind word
    by true e = (Reserved, (h, among_sound reserved word e))
    by false e = (Name, (h, λ among. both_ways (is_among reserved word) e (among_complete reserved word among)))
kind_of_token word rest (inr (inr (inl h), none)) = (Number h.0, h.1)
kind_of_token word rest (inr (inr (inr h), none)) = (Element h.0, h.1)

-- no token begins where the bytes of the only length have no kind
pub no_token : (here : List ℕ) (n : ℕ) → ((word rest : List ℕ) → here ≡ word ++ rest → IsToken word rest → length word ≡ n) → ((kind : Written) → IsOfKind kind (take n here) → ⊥) → NoTokenBegins here
no_token here n alone none word rest e p =
    let found = kind_of_token word rest p in
    let same : take n here ≡ word = ap (take n) e ∙ take_at word rest n (alone word rest e p) in
    none found.0 (subst (λ (w : List ℕ). IsOfKind found.0 w) (sym same) found.1)

-- bytes of a kind that are a token
pub token_between : (text here : List ℕ) (i n : ℕ) (kind : Written) → here ≡ drop i text → IsOfKind kind (take n here) → IsToken (take n here) (drop n here) → IsTokenBetween text i kind (i + n)
token_between text here i n kind is fits token =
    let some : 0 < length (take n here) = (token_begins (take n here) (drop n here) token).0 in
    let count : i + n - i ≡ n = omega arith in
    let bytes : take n here ≡ take (i + n - i) (drop i text) = ap (take n) is ∙ ap (λ (m : ℕ). take m (drop i text)) (sym count) in
    let rest : drop n here ≡ drop (i + n) text = ap (drop n) is ∙ drop-drop n i text in
    (omega (arith, length-take n here), subst (λ (w : List ℕ). IsOfKind kind w) bytes fits, subst (λ (w : List ℕ). IsToken w (drop (i + n) text)) bytes (subst (λ (r : List ℕ). IsToken (take n here) r) rest token))

-- from here to there and on
pub parts_between : (text : List ℕ) (i j : ℕ) → i ≤ j → take (j - i) (drop i text) ++ drop j text ≡ drop i text
parts_between text i j h =
    let sum : i + (j - i) ≡ j = omega arith in
    ap (λ (r : List ℕ). take (j - i) (drop i text) ++ r) (ap (λ (m : ℕ). drop m text) (sym sum) ∙ sym (drop-drop (j - i) i text)) ∙ take-append-drop (j - i) (drop i text)

-- one more token
pub begins_push : (text left : List ℕ) (tokens : List Spelled) (mid : List ℕ) (token : Spelled) (behind : List ℕ) → BeginsWith text left tokens mid → Next text mid token behind → BeginsWith text left (tokens ++ token ∷ []) behind
begins_push text left [] mid token behind is next = (behind, subst (λ (l : List ℕ). Next text l token behind) (sym is) next, refl)
begins_push text left (t ∷ ts) mid token behind h next = (h.0, h.1, begins_push text h.0 ts mid token behind h.2 next)

-- where the last of the tokens ends
abbrev pub ended : ℕ → List Token → ℕ
ended start [] = start
ended start (token ∷ tokens) = ended token.to tokens

-- behind one more token the tokens end where it does
ended_push : (start : ℕ) (tokens : List Token) (token : Token) → ended start (tokens ++ token ∷ []) ≡ token.to
ended_push start [] token = refl
ended_push start (t ∷ ts) token = ended_push t.to ts token

-- one more span
spans_push : (text : List ℕ) (start : ℕ) (tokens : List Token) (token : Token) → AreSpans text start tokens → ended start tokens ≤ token.from
    → IsGap (take (token.from - ended start tokens) (drop (ended start tokens) text)) → AreSpans text start (tokens ++ token ∷ [])
spans_push text start [] token h le gap = (le, gap, tt)
spans_push text start (t ∷ ts) token h le gap = (h.0, h.1, spans_push text t.to ts token h.2 le gap)

-- tokens up to a gap, behind which stands this place
pub record Reached (text : List ℕ) (tokens : List Token) (index : ℕ) (at : Place) : Type 0 where
  pub placed : IsPlaced text index at
  pub before : BeginsWith text text (map (seen text) tokens) (drop (ended 0 tokens) text)
  pub gap : IsGapBetween text (ended 0 tokens) index
  pub begins : NoGapBegins (drop index text)
  pub within : All (IsWithin text) tokens
  pub spans : AreSpans text 0 tokens

-- a gap before a token is no last one
gap_before : (text : List ℕ) (e i : ℕ) (kind : Written) (j : ℕ) → IsGapBetween text e i → IsTokenBetween text i kind j → IsGap (take (i - e) (drop e text))
gap_before text e i kind j (le, inl gap) token = gap
gap_before text e i kind j (le, inr last) token =
    let some = (token_begins (take (j - i) (drop i text)) (drop j text) token.2).0 in
    absurd (omega (arith, some, length-take (j - i) (drop i text), ap length last.1))

-- a token and the gap behind it
pub reached_more : (text : List ℕ) (tokens : List Token) (token : Token) (index : ℕ) (at after : Place) → Reached text tokens token.from token.at
    → IsTokenBetween text token.from token.written token.to → token.kind ≡ kind_by token.written → IsPlaced text token.to after → IsPlaced text index at → IsGapBetween text token.to index → NoGapBegins (drop index text) → Reached text (tokens ++ token ∷ []) index at
reached_more text tokens token index at after r between kind behind placed gap begins =
    let e = ended 0 tokens in
    let word = take (token.to - token.from) (drop token.from text) in
    let last = ended_push 0 tokens token in
    let space = gap_before text e token.from token.written token.to r.gap between in
    let bytes : word ++ drop token.to text ≡ drop token.from text = parts_between text token.from token.to (omega arith) in
    let next : Next text (drop e text) (seen text token) (drop token.to text) = record {
      gap = take (token.from - e) (drop e text);
      is_gap = space;
      parts = sym (ap (λ (r : List ℕ). take (token.from - e) (drop e text) ++ r) bytes ∙ parts_between text e token.from r.gap.0);
      is_token = between.2;
      place = r.placed.1 ∙ sym (place_of_drop text token.from r.placed.0) ∙ ap (place_of text) (sym bytes);
    } in
    record {
      placed = placed;
      before = subst (λ (n : ℕ). BeginsWith text text (map (seen text) (tokens ++ token ∷ [])) (drop n text)) (sym last)
          (subst (λ (ts : List Spelled). BeginsWith text text ts (drop token.to text)) (sym (map_push (seen text) tokens token)) (begins_push text text (map (seen text) tokens) (drop e text) (seen text token) (drop token.to text) r.before next));
      gap = subst (λ (n : ℕ). IsGapBetween text n index) (sym last) gap;
      begins = begins;
      within = All-push (IsWithin text) tokens token r.within (omega arith, behind.0, between.1, kind);
      spans = spans_push text 0 tokens token r.spans r.gap.0 space;
    }

-- the last token
pub reached_end : (text : List ℕ) (tokens : List Token) (index : ℕ) (at : Place) (whole : Bool) → Reached text tokens index at → NoTokenBegins (drop index text) → whole ≡ (index == length text) → IsLexed text tokens at whole
reached_end text tokens index at whole r stuck is =
    let e = ended 0 tokens in
    record {
      gap = take (index - e) (drop e text);
      here = drop index text;
      before = subst (λ (rest : List ℕ). BeginsWith text text (map (seen text) tokens) rest) (sym (parts_between text e index r.gap.0)) r.before;
      is_gap = r.gap.1;
      begins = r.begins;
      place = r.placed.1 ∙ sym (place_of_drop text index r.placed.0);
      ended = (
        λ t. drop_all index text (omega (arith, eqb-true index (length text) (sym is ∙ t))),
        λ none. is ∙ eq-eqb index (length text) (omega (arith, ap length none, length-drop index text, r.placed.0)),
      );
      stuck = stuck;
      within = r.within;
      spans = r.spans;
    }

-- tokens of the same bytes at the same place are the same
same_token : (a b : List ℕ) (p q : Place) → a ≡ b → p ≡ q → ◌≡◌ {A = Spelled} (record { text = a; at = p }) (record { text = b; at = q })
same_token a b p q e f = cc

-- the next token is one only
pub next_unique : (text left : List ℕ) (t u : Spelled) (x y : List ℕ) → Next text left t x → Next text left u y → (t ≡ u) × (x ≡ y)
next_unique text left t u x y p q =
    let rests = (gap_unique p.gap q.gap (t.text ++ x) (u.text ++ y) p.is_gap q.is_gap (sym p.parts ∙ q.parts) (token_begins t.text x p.is_token).1 (token_begins u.text y q.is_token).1).1 in
    let same = token_unique t.text u.text x y p.is_token q.is_token rests in
    (same_token t.text u.text t.at u.at same.0 (p.place ∙ ap (place_of text) rests ∙ sym q.place), same.1)

-- no token comes in a last gap
pub no_more : (text left : List ℕ) (t : Spelled) (x : List ℕ) → IsLastGap left → Next text left t x → ⊥
no_more text left t x last next =
    let begins = token_begins t.text x next.is_token in
    by t.text begins.0 begins.1 (subst IsLastGap next.parts last)
  where
    by : (w : List ℕ) → 0 < length w → NoGapBegins (w ++ x) → IsLastGap (next.gap ++ (w ++ x)) → ⊥
    by [] some begins last = omega arith
    by (b ∷ bs) some begins last = last_gap_alone next.gap b (bs ++ x) next.is_gap begins last

-- a text that ends with a last gap ends where no gap begins
pub end_here : (gap here : List ℕ) → IsGap gap ⊎ (IsLastGap gap × (here ≡ [])) → NoGapBegins here → IsLastGap (gap ++ here) → here ≡ []
end_here gap [] h begins last = refl
end_here gap (b ∷ bs) (inl is_gap) begins last = absurd (last_gap_alone gap b bs is_gap begins last)
end_here gap (b ∷ bs) (inr h) begins last = h.1

-- tokens up to where none begins are all that the text can have
pub all_tokens : (text left : List ℕ) (ts us : List Spelled) (gap here rest : List ℕ) → BeginsWith text left ts (gap ++ here) → IsGap gap ⊎ (IsLastGap gap × (here ≡ [])) → NoGapBegins here → NoTokenBegins here
    → BeginsWith text left us rest → IsLastGap rest → (us ≡ ts) × (here ≡ [])
all_tokens text left [] [] gap here rest p is_gap begins stuck q last = (refl, end_here gap here is_gap begins (subst IsLastGap (sym q ∙ p) last))
all_tokens text left [] (u ∷ us) gap here rest p (inl is_gap) begins stuck q last =
    let next = q.1 in
    let same = gap_unique gap next.gap here (u.text ++ q.0) is_gap next.is_gap (sym p ∙ next.parts) begins (token_begins u.text q.0 next.is_token).1 in
    absurd (stuck u.text q.0 same.1 next.is_token)
all_tokens text left [] (u ∷ us) gap here rest p (inr h) begins stuck q last =
    let ends : left ≡ gap = p ∙ ap (λ (r : List ℕ). gap ++ r) h.1 ∙ append-nil gap in
    absurd (no_more text left u q.0 (subst IsLastGap (sym ends) h.0) q.1)
all_tokens text left (t ∷ ts) [] gap here rest p is_gap begins stuck q last = absurd (no_more text left t p.0 (subst IsLastGap (sym q) last) p.1)
all_tokens text left (t ∷ ts) (u ∷ us) gap here rest p is_gap begins stuck q last =
    let same = next_unique text left t u p.0 q.0 p.1 q.1 in
    let others = all_tokens text p.0 ts us gap here rest p.2 is_gap begins stuck (subst (λ (l : List ℕ). BeginsWith text l us rest) (sym same.1) q.2) last in
    (same_tokens t u ts us same.0 others.0, others.1)
  where
    same_tokens : (t u : Spelled) (ts us : List Spelled) → t ≡ u → us ≡ ts → u ∷ us ≡ t ∷ ts
    same_tokens t u ts us e f = cc

-- no token begins where the text ends
pub none_at_end : NoTokenBegins []
none_at_end word rest e p = omega (arith, ap length e, length-append word rest, (token_begins word rest p).0)

-- a text has its tokens in one way only
pub tokens_unique : (text : List ℕ) (ts us : List Spelled) → AreTokens text ts → AreTokens text us → us ≡ ts
tokens_unique text ts us p q =
    (all_tokens text text ts us p.0 [] q.0 (subst (λ (rest : List ℕ). BeginsWith text text ts rest) (sym (append-nil p.0)) p.1) (inr (p.2, refl)) tt none_at_end q.1 q.2).0

-- the tokens of a text are those that were found, and then all of it was read
pub lexed_all : (text : List ℕ) (tokens : List Token) (at : Place) (whole : Bool) → IsLexed text tokens at whole → (others : List Spelled) → AreTokens text others → (others ≡ map (seen text) tokens) × (whole ≡ true)
lexed_all text tokens at whole l others h =
    let same = all_tokens text text (map (seen text) tokens) others l.gap l.here h.0 l.before l.is_gap l.begins l.stuck h.1 h.2 in
    (same.0, l.ended.1 same.1)

-- where not all was read, the text has no tokens, and that place is the first bad one
pub lexed_bad : (text : List ℕ) (tokens : List Token) (at : Place) (whole : Bool) → IsLexed text tokens at whole → whole ≡ false → IsFirstBad text at × ((others : List Spelled) → AreTokens text others → ⊥)
lexed_bad text tokens at whole l isnt =
    let rest : l.here ≡ [] → ⊥ = λ none. both_ways whole isnt (l.ended.1 none) in (
      record {
        tokens = map (seen text) tokens;
        gap = l.gap;
        here = l.here;
        before = l.before;
        is_gap = elim l.is_gap [ inl gap ↦ gap | inr h ↦ absurd (rest h.1) ];
        begins = l.begins;
        rest = rest;
        stuck = l.stuck;
        place = l.place;
      },
      λ others h. both_ways whole isnt (lexed_all text tokens at whole l others h).1,
    )

-- where all was read, these are the tokens
pub lexed_whole : (text : List ℕ) (tokens : List Token) (at : Place) (whole : Bool) → IsLexed text tokens at whole → whole ≡ true → AreAllTokens text tokens
lexed_whole text tokens at whole l is = record {
  all = (l.gap ++ l.here, l.before, subst IsLastGap (sym (ap (λ (r : List ℕ). l.gap ++ r) (l.ended.0 is) ∙ append-nil l.gap)) (last l.is_gap));
  alone = λ others h. (lexed_all text tokens at whole l others h).0;
  within = l.within;
  spans = l.spans;
}
  where
    last : IsGap l.gap ⊎ (IsLastGap l.gap × (l.here ≡ [])) → IsLastGap l.gap
    last (inl gap) = gap_append l.gap (10 ∷ []) gap (inl (refl, tt))
    last (inr h) = h.0

-- tokens that come after others
pub begins_split : (text left : List ℕ) (ts us : List Spelled) (rest : List ℕ) → BeginsWith text left (ts ++ us) rest → (mid : List ℕ) × BeginsWith text left ts mid × BeginsWith text mid us rest
begins_split text left [] us rest h = (left, refl, h)
begins_split text left (t ∷ ts) us rest h = let after = begins_split text h.0 ts us rest h.2 in (after.0, (h.0, h.1, after.1), after.2)

-- What stands before a token that comes behind others: a gap, and then, at its place, its bytes.
pub record StandsAfter (text : List ℕ) (tokens : List Spelled) (token : Spelled) : Type 0 where
  pub gap : List ℕ
  pub behind : List ℕ
  pub before : BeginsWith text text tokens (gap ++ (token.text ++ behind))
  pub is_gap : IsGap gap
  pub begins : NoGapBegins (token.text ++ behind)
  pub is_token : IsToken token.text behind
  pub place : token.at ≡ place_of text (token.text ++ behind)

-- each token of a text stands so
pub stands_after : (text : List ℕ) (ts : List Spelled) (t : Spelled) (us : List Spelled) (rest : List ℕ) → BeginsWith text text (ts ++ t ∷ us) rest → StandsAfter text ts t
stands_after text ts t us rest h =
    let parts = begins_split text text ts (t ∷ us) rest h in
    let next = parts.2.1 in
    record {
      gap = next.gap;
      behind = parts.2.0;
      before = subst (λ (mid : List ℕ). BeginsWith text text ts mid) next.parts parts.1;
      is_gap = next.is_gap;
      begins = (token_begins t.text parts.2.0 next.is_token).1;
      is_token = next.is_token;
      place = next.place;
    }
