-- Which programs texts spell, and where a text is refused.
use Rattle.std.specs.Prelude.{◌≡◌, ℕ, false, ◌||◌, ◌==◌, ◌⊎◌, List, [], ◌∷◌, ◌++◌}
use Rattle.mk_base.specs.declared.Place.{Place}
use Rattle.mk_ast.specs.declared.tree.Program.{Program}
use Rattle.mk_ast.specs.Tokens.{Token, is_blank, IsGap, IsLastGap, IsToken, place_of, BeginsWith, AreTokens}
use Rattle.mk_ast.specs.Grammar.{program}

-- the text spells the program: its tokens do
abbrev pub Spells : Program → List ℕ → Type 0
Spells p text = (tokens : List Token) × AreTokens text tokens × program tokens p

-- some program's tokens begin with these
abbrev pub CanGoOn : List Token → Type 0
CanGoOn tokens = (more : List Token) × (p : Program) × program (tokens ++ more) p

-- no blank and no comment stands here
abbrev pub NoGapBegins : List ℕ → Type 0
NoGapBegins [] = Unit {0}
NoGapBegins (b ∷ bs) = (is_blank b || b == 35) ≡ false

-- no program goes on with what stands at this place, behind these tokens: at the end of the text these
-- are no program, and else no token stands there, or none that a program goes on with
abbrev pub NothingFits : Place → List Token → List ℕ → Type 0
NothingFits at tokens [] = (p : Program) → program tokens p → ⊥
NothingFits at tokens (b ∷ bs) =
    (t : Token) (rest : List ℕ) → b ∷ bs ≡ t.text ++ rest → IsToken t.text rest → t.at ≡ at → CanGoOn (tokens ++ t ∷ []) → ⊥

-- The first place in the text where no program can go on: programs can go on with the tokens before
-- it, and not with what stands there.
pub record IsRefusedAt (text : List ℕ) (at : Place) : Type 0 where
  pub tokens : List Token
  pub gap : List ℕ
  pub here : List ℕ
  pub before : BeginsWith text text tokens (gap ++ here)
  pub is_gap : IsGap gap ⊎ (IsLastGap gap × (here ≡ []))
  pub begins : NoGapBegins here
  pub place : at ≡ place_of text here
  pub goes_on : CanGoOn tokens
  pub stuck : NothingFits at tokens here
