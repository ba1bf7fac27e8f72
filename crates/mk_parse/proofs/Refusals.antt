-- What the reading of all tokens says of the text: the one program that it spells, or the place where
-- it is refused.
use Rattle.std.proofs.Common.{◌≡◌, ℕ, Bool, true, false, ◌⊎◌, inl, inr, List, [], ◌∷◌, ◌++◌, length, map, Result, Ok, Err, refl, sym, ap, subst, ◌∙◌, arith, append_assoc, length-append}
use Rattle.std.proofs.lemmas.Bool.{false≢true}
use Rattle.std.proofs.lemmas.List.{append-nil}
use Rattle.mk_base.specs.declared.Place.{Place}
use Rattle.mk_ast.specs.declared.tree.Program.{Program}
use Rattle.mk_ast.specs.Tokens.{Token as Spelled, IsGap, IsLastGap, IsToken, Next, BeginsWith, AreTokens, place_of}
use Rattle.mk_ast.specs.Grammar.{program}
use Rattle.mk_ast.specs.Spells.{Spells, CanGoOn, NoGapBegins, NothingFits, IsRefusedAt}
use Rattle.mk_parse.specs.declared.token.Token.{Token}
use Rattle.mk_parse.specs.Lexing.{seen, NoTokenBegins, IsLexed}
use Rattle.mk_parse.specs.Readers.{finished}
use Rattle.mk_parse.specs.Reading.{program_by}
use Rattle.mk_parse.specs.Answers.{place_at}
use Rattle.mk_parse.specs.Parsed.{IsOnlyProgram}
use Rattle.mk_parse.proofs.Gaps.{gap_unique}
use Rattle.mk_parse.proofs.Lexed.{lexed_all, lexed_whole, stands_after, tokens_unique, next_unique, no_more, end_here}
use Rattle.mk_parse.proofs.Munching.{token_unique, token_begins}
use Rattle.mk_parse.proofs.Many.{all_only, all_found, all_stuck, IsDead}
use Rattle.mk_parse.proofs.StatementPhrases.{reads_program}

-- the answer that has this program
abbrev spells_so : Program → Result Program (List Spelled)
spells_so p = Ok p

-- such answers are the same only of the same program
ok_program : (p q : Program) → spells_so p ≡ spells_so q → p ≡ q
ok_program p q e = cc

-- tokens of the same bytes at the same place are the same
same_token : (t u : Spelled) → u.text ≡ t.text → u.at ≡ t.at → u ≡ t
same_token t u p q = ap (λ (text : List ℕ). token_by text u.at) p ∙ ap (λ (at : Place). token_by t.text at) q
  where
    token_by : List ℕ → Place → Spelled
    token_by text at = record { text = text; at = at }

-- a token that stands there is this one, and no program goes on with it
nothing_fits : (taken : List Spelled) (t : Spelled) (behind here : List ℕ) → here ≡ t.text ++ behind → IsToken t.text behind
    → ((more : List Spelled) (p : Program) → program ((taken ++ t ∷ []) ++ more) p → ⊥) → NothingFits t.at taken here
nothing_fits taken t behind [] is is_token dead =
    absurd (omega (arith, ap length is, length-append t.text behind, (token_begins t.text behind is_token).0))
nothing_fits taken t behind (b ∷ bs) is is_token dead = λ u rest parts also at goes_on.
    let same = token_unique u.text t.text rest behind also is_token (sym parts ∙ is) in
    let whole = same_token t u same.0 at in
    dead goes_on.0 goes_on.1 (subst (λ (x : Spelled). program ((taken ++ x ∷ []) ++ goes_on.0) goes_on.1) whole goes_on.2)

module _ (text : List ℕ) (tokens : List Token) (end : Place) (whole : Bool) (lexed : IsLexed text tokens end whole) where
  -- the tokens of the text are these, and then the text ends behind them
  pub one_list : (others : List Spelled) → AreTokens text others → (others ≡ map (seen text) tokens) × (whole ≡ true)
  one_list others h = lexed_all text tokens end whole lexed others h

  -- a text whose tokens are a program is spelled by that one alone
  pub only_program : (p : Program) → whole ≡ true → finished (program_by (map (seen text) tokens)) ≡ Ok p → IsOnlyProgram text p
  only_program p is e = record {
    spelled = (map (seen text) tokens, (lexed_whole text tokens end whole lexed is).all, all_found reads_program (map (seen text) tokens) p e);
    alone = λ q h.
        let same = (one_list h.0 h.1).0 in
        ok_program q p (sym (all_only reads_program (map (seen text) tokens) q (subst (λ (ts : List Spelled). program ts q) same h.2)) ∙ e);
  }

  -- nothing stands where no token begins
  no_fit : (at : Place) (taken : List Spelled) (here : List ℕ) → NoTokenBegins here → (here ≡ [] → (p : Program) → program taken p → ⊥) → NothingFits at taken here
  no_fit at taken [] stuck dead = dead refl
  no_fit at taken (b ∷ bs) stuck dead = λ t rest parts is_token same goes_on. stuck t.text rest parts is_token

  -- a text with a byte that begins no token is refused there
  pub not_whole : (p : Program) → whole ≡ false → finished (program_by (map (seen text) tokens)) ≡ Ok p → IsRefusedAt text end × ((q : Program) → Spells q text → ⊥)
  not_whole p isnt e = (
    record {
      tokens = map (seen text) tokens;
      gap = lexed.gap;
      here = lexed.here;
      before = lexed.before;
      is_gap = lexed.is_gap;
      begins = lexed.begins;
      place = lexed.place;
      goes_on = ([], p, subst (λ (ts : List Spelled). program ts p) (sym (append-nil (map (seen text) tokens))) (all_found reads_program (map (seen text) tokens) p e));
      stuck = no_fit end (map (seen text) tokens) lexed.here lexed.stuck (λ none. absurd (false≢true (sym isnt ∙ lexed.ended.1 none)));
    },
    λ q h. false≢true (sym isnt ∙ (one_list h.0 h.1).1),
  )

  -- the place of the first token that doesn't fit, or of the end
  refused_by : (taken bad : List Spelled) (more : List Spelled) (value : Program) → map (seen text) tokens ≡ taken ++ bad → program (taken ++ more) value → IsDead reads_program taken bad
      → IsRefusedAt text (place_at end bad)
  refused_by taken [] more value parts completed dead =
      let same : map (seen text) tokens ≡ taken = parts ∙ append-nil taken in
      record {
        tokens = taken;
        gap = lexed.gap;
        here = lexed.here;
        before = subst (λ (ts : List Spelled). BeginsWith text text ts (lexed.gap ++ lexed.here)) same lexed.before;
        is_gap = lexed.is_gap;
        begins = lexed.begins;
        place = lexed.place;
        goes_on = (more, value, completed);
        stuck = no_fit end taken lexed.here lexed.stuck (λ none. dead);
      }
  refused_by taken (t ∷ ts) more value parts completed dead =
      let stands = stands_after text taken t ts (lexed.gap ++ lexed.here) (subst (λ (us : List Spelled). BeginsWith text text us (lexed.gap ++ lexed.here)) parts lexed.before) in
      record {
        tokens = taken;
        gap = stands.gap;
        here = t.text ++ stands.behind;
        before = stands.before;
        is_gap = inl stands.is_gap;
        begins = stands.begins;
        place = stands.place;
        goes_on = (more, value, completed);
        stuck = nothing_fits taken t stands.behind (t.text ++ stands.behind) refl stands.is_token dead;
      }

  -- no program is spelled by tokens behind which none goes on
  no_program : (taken bad : List Spelled) → map (seen text) tokens ≡ taken ++ bad → IsDead reads_program taken bad → (q : Program) → program (map (seen text) tokens) q → ⊥
  no_program taken [] parts dead = λ q h. dead q (subst (λ (ts : List Spelled). program ts q) (parts ∙ append-nil taken) h)
  no_program taken (t ∷ ts) parts dead = λ q h. dead ts q (subst (λ (us : List Spelled). program us q) (parts ∙ sym (append_assoc taken (t ∷ []) ts)) h)

  -- tokens that are no program are refused where none goes on
  pub refused_at : (bad : List Spelled) → finished (program_by (map (seen text) tokens)) ≡ Err bad → IsRefusedAt text (place_at end bad) × ((q : Program) → Spells q text → ⊥)
  refused_at bad e =
      let stuck = all_stuck reads_program (map (seen text) tokens) bad e in (
        refused_by stuck.taken bad stuck.more stuck.value stuck.parts stuck.completed stuck.dead,
        λ q h. no_program stuck.taken bad stuck.parts stuck.dead q (subst (λ (ts : List Spelled). program ts q) (one_list h.0 h.1).0 h.2),
      )

-- a text spells at most one program
pub one_program : (p q : Program) (text : List ℕ) → Spells p text → Spells q text → p ≡ q
one_program p q text h k =
    let same = tokens_unique text k.0 h.0 k.1 h.1 in
    ok_program p q (sym (all_only reads_program k.0 p (subst (λ (ts : List Spelled). program ts p) same h.2)) ∙ all_only reads_program k.0 q k.2)

-- ---- the place where a text is refused is one

-- programs can go on with fewer tokens
fewer_tokens : (tokens more : List Spelled) → CanGoOn (tokens ++ more) → CanGoOn tokens
fewer_tokens tokens more h = (more ++ h.0, h.1, subst (λ (ts : List Spelled). program ts h.1) (append_assoc tokens more h.0) h.2)

-- a token that stands there, and with which programs can go on, fits
token_fits : (at : Place) (taken : List Spelled) (t : Spelled) (behind here : List ℕ) → here ≡ t.text ++ behind → IsToken t.text behind → t.at ≡ at
    → CanGoOn (taken ++ t ∷ []) → NothingFits at taken here → ⊥
token_fits at taken t behind [] is is_token same goes_on stuck =
    omega (arith, ap length is, length-append t.text behind, (token_begins t.text behind is_token).0)
token_fits at taken t behind (b ∷ bs) is is_token same goes_on stuck = stuck t behind is is_token same goes_on

-- where nothing fits, the text has no further token with which programs can go on
none_further : (text left : List ℕ) (at : Place) (taken : List Spelled) (gap here : List ℕ) (t : Spelled) (ts : List Spelled) (behind : List ℕ) → left ≡ gap ++ here
    → IsGap gap ⊎ (IsLastGap gap × (here ≡ [])) → NoGapBegins here → at ≡ place_of text here → NothingFits at taken here
    → Next text left t behind → CanGoOn (taken ++ t ∷ ts) → ⊥
none_further text left at taken gap here t ts behind parts (inl is_gap) begins place stuck next goes_on =
    let same = (gap_unique gap next.gap here (t.text ++ behind) is_gap next.is_gap (sym parts ∙ next.parts) begins (token_begins t.text behind next.is_token).1).1 in
    let goes_so : CanGoOn (taken ++ t ∷ []) = fewer_tokens (taken ++ t ∷ []) ts (subst CanGoOn (sym (append_assoc taken (t ∷ []) ts)) goes_on) in
    token_fits at taken t behind here same next.is_token (next.place ∙ ap (place_of text) (sym same) ∙ sym place) goes_so stuck
none_further text left at taken gap here t ts behind parts (inr last) begins place stuck next goes_on =
    let ends : left ≡ gap = parts ∙ ap (λ (rest : List ℕ). gap ++ rest) last.1 ∙ append-nil gap in
    no_more text left t behind (subst IsLastGap (sym ends) last.0) next

-- behind the same tokens one gap comes
same_rest : (g h x y : List ℕ) → g ++ x ≡ h ++ y → IsGap g ⊎ (IsLastGap g × (x ≡ [])) → IsGap h ⊎ (IsLastGap h × (y ≡ []))
    → NoGapBegins x → NoGapBegins y → x ≡ y
same_rest g h x y e (inl p) (inl q) nx ny = (gap_unique g h x y p q e nx ny).1
same_rest g h x y e p (inr q) nx ny =
    let ends : g ++ x ≡ h = e ∙ ap (λ (rest : List ℕ). h ++ rest) q.1 ∙ append-nil h in
    end_here g x p nx (subst IsLastGap (sym ends) q.0) ∙ sym q.1
same_rest g h x y e (inr p) q nx ny =
    let ends : h ++ y ≡ g = sym e ∙ ap (λ (rest : List ℕ). g ++ rest) p.1 ∙ append-nil g in
    p.1 ∙ sym (end_here h y q ny (subst IsLastGap (sym ends) p.0))

-- two lists of tokens at the front of a text, with which programs can go on and behind which nothing
-- fits, end at one place
one_rest : (text left : List ℕ) (a b : Place) (taken ts us : List Spelled) (g h x y : List ℕ) → BeginsWith text left ts (g ++ x) → BeginsWith text left us (h ++ y)
    → IsGap g ⊎ (IsLastGap g × (x ≡ [])) → IsGap h ⊎ (IsLastGap h × (y ≡ [])) → NoGapBegins x → NoGapBegins y
    → a ≡ place_of text x → b ≡ place_of text y → CanGoOn (taken ++ ts) → CanGoOn (taken ++ us)
    → NothingFits a (taken ++ ts) x → NothingFits b (taken ++ us) y → x ≡ y
one_rest text left a b taken [] [] g h x y p q gx gy nx ny at bt cx cy sx sy = same_rest g h x y (sym p ∙ q) gx gy nx ny
one_rest text left a b taken [] (u ∷ us) g h x y p q gx gy nx ny at bt cx cy sx sy =
    absurd (none_further text left a taken g x u us q.0 p gx nx at (subst (λ (ts : List Spelled). NothingFits a ts x) (append-nil taken) sx) q.1 cy)
one_rest text left a b taken (t ∷ ts) [] g h x y p q gx gy nx ny at bt cx cy sx sy =
    absurd (none_further text left b taken h y t ts p.0 q gy ny bt (subst (λ (us : List Spelled). NothingFits b us y) (append-nil taken) sy) p.1 cx)
one_rest text left a b taken (t ∷ ts) (u ∷ us) g h x y p q gx gy nx ny at bt cx cy sx sy =
    let same = next_unique text left t u p.0 q.0 p.1 q.1 in
    let on : (vs : List Spelled) → taken ++ t ∷ vs ≡ (taken ++ t ∷ []) ++ vs = λ vs. sym (append_assoc taken (t ∷ []) vs) in
    let over : taken ++ u ∷ us ≡ (taken ++ t ∷ []) ++ us = ap (λ (v : Spelled). taken ++ v ∷ us) (sym same.0) ∙ on us in
    one_rest text p.0 a b (taken ++ t ∷ []) ts us g h x y p.2 (subst (λ (l : List ℕ). BeginsWith text l us (h ++ y)) (sym same.1) q.2) gx gy nx ny at bt
    (subst CanGoOn (on ts) cx) (subst CanGoOn over cy)
    (subst (λ (vs : List Spelled). NothingFits a vs x) (on ts) sx) (subst (λ (vs : List Spelled). NothingFits b vs y) over sy)

-- a text is refused at one place at most
pub one_place : (a b : Place) (text : List ℕ) → IsRefusedAt text a → IsRefusedAt text b → a ≡ b
one_place a b text p q =
    let same = one_rest text text a b [] p.tokens q.tokens p.gap q.gap p.here q.here p.before q.before p.is_gap q.is_gap p.begins q.begins p.place q.place p.goes_on q.goes_on p.stuck q.stuck in
    p.place ∙ ap (place_of text) same ∙ sym q.place
