-- An index that tokens spell is regular.
use Rattle.std.proofs.Common.{◌≡◌, ◌≢◌, ℕ, zero, suc, ◌≤◌, Bool, true, false, ◌||◌, inl, inr, List, [], ◌∷◌, length, sym, ap, subst, codes, arith}
use Rattle.std.specs.List.{AllByRecursion}
use Rattle.mk_ast.specs.declared.tree.Index.{Index}
use Rattle.mk_ast.specs.declared.tree.Index.TheVariants as index
use Rattle.mk_ast.specs.declared.tree.Index.TheOpen.{Index-F, Link-F}
use Rattle.mk_ast.specs.declared.tree.Index.TheViews as index_views
use Rattle.mk_ast.specs.declared.tree.Link.{Link}
use Rattle.mk_ast.specs.Tokens.{Token, IsName}
use Rattle.mk_ast.specs.Phrases.{Phrase, after, many, separated, several}
use Rattle.mk_ast.specs.Grammar.{index_factor, index_link, chained, index_product, index_sum_with, index_sum}
use Rattle.mk_ast.specs.Canonical.{is_index_sum, is_chain}
use Rattle.mk_ast.specs.Regular.{Within, Wrapped, IsRegularIndexLayer, IsRegularLinkLayer, IsRegularIndex}
use Rattle.mk_ast.proofs.IndexReading.{inner_index}
use Rattle.mk_ast.proofs.Induction.{index_induction}
use Rattle.mk_ast.proofs.RegularLayers.{IsRegularLink, regular_index, regular_index_made, regular_link, regular_link_made}

-- ---- lists

-- what holds of each thing that a phrase spells holds of each of a list
pub many_all : {A : Type 0} (phrase : Phrase A) (Q : A → Type 0) → ((tokens : List Token) (a : A) → phrase tokens a → Q a) →
    (values : List A) (tokens : List Token) → many phrase tokens values → AllByRecursion Q values
many_all phrase Q each [] tokens spells = tt
many_all phrase Q each (a ∷ values) tokens spells = (each spells.0 a spells.3, many_all phrase Q each values spells.1 spells.4)

-- the same of a list with a symbol between, which has something
pub separated_all : {A : Type 0} (symbol : List ℕ) (phrase : Phrase A) (Q : A → Type 0) → ((tokens : List Token) (a : A) → phrase tokens a → Q a) →
    (values : List A) (tokens : List Token) → separated symbol phrase tokens values → AllByRecursion Q values × (1 ≤ length values)
separated_all symbol phrase Q each values tokens spells =
    subst (λ xs. AllByRecursion Q xs × (1 ≤ length xs)) (sym spells.2)
    ((each spells.1.0 spells.0.0 spells.1.3, many_all (after symbol phrase) Q (λ ts a h. each h.1 a h.4) spells.0.1 spells.1.1 spells.1.4), omega arith)

-- each of a list by an implication
pub all_more : {A : Type 0} (P Q : A → Type 0) → ((a : A) → P a → Q a) → (xs : List A) → AllByRecursion P xs → AllByRecursion Q xs
all_more P Q f [] p = tt
all_more P Q f (x ∷ xs) p = (f x p.0, all_more P Q f xs p.1)

-- ---- brackets

-- what holds with fewer brackets holds with one more
abbrev pub Grows : (ℕ → Type 0) → Type 0
Grows P = (brackets : ℕ) → P brackets → P (suc brackets)

-- and so within brackets, and within parentheses where they are needed
pub within_more : (P : ℕ → Type 0) → Grows P → Grows (Within P)
within_more P more zero h = absurd h
within_more P more (suc brackets) h = more brackets h

-- what grows does so within parentheses that may be needed
pub wrapped_more : (needed : Bool) (P : ℕ → Type 0) → Grows P → Grows (Wrapped needed P)
wrapped_more true P more = within_more P more
wrapped_more false P more = more

-- what holds within parentheses holds without them
pub unwrapped : (needed : Bool) (P : ℕ → Type 0) → Grows P → (brackets : ℕ) → Wrapped needed P brackets → P brackets
unwrapped true P more zero h = absurd h
unwrapped true P more (suc brackets) h = more brackets h
unwrapped false P more brackets h = h

-- what holds within parentheses holds where they may be needed
pub within_wrapped : (needed : Bool) (P : ℕ → Type 0) → Grows P → (brackets : ℕ) → Within P brackets → Wrapped needed P brackets
within_wrapped true P more brackets h = h
within_wrapped false P more brackets h = unwrapped true P more brackets h

-- parentheses that are needed in one place and not in another
pub less_wrapped : (s p : Bool) (P : ℕ → Type 0) → Grows P → (brackets : ℕ) → Wrapped (s || p) P brackets → Wrapped s P brackets
less_wrapped true p P more brackets h = h
less_wrapped false p P more brackets h = unwrapped p P more brackets h

-- ---- indexes

-- what a regular index has, by its layer, and back
layer_of : (i : Index) (d : Index-F Index Link) → index_views.roll-Index d ≡ i → (brackets : ℕ) → IsRegularIndex i brackets →
    IsRegularIndexLayer Index Link (λ y. y) IsRegularIndex IsRegularLink d brackets
layer_of i d is brackets h = regular_index d brackets (subst (λ x. IsRegularIndex x brackets) (sym is) h)

-- an index whose layer is regular is regular
of_layer : (i : Index) (d : Index-F Index Link) → index_views.roll-Index d ≡ i → (brackets : ℕ) →
    IsRegularIndexLayer Index Link (λ y. y) IsRegularIndex IsRegularLink d brackets → IsRegularIndex i brackets
of_layer i d is brackets h = subst (λ x. IsRegularIndex x brackets) is (regular_index_made d brackets h)

-- the same of a link
link_layer_of : (l : Link) (d : Link-F Index Link) → index_views.roll-Link d ≡ l → (brackets : ℕ) → IsRegularLink l brackets →
    IsRegularLinkLayer Index Link (λ y. y) IsRegularIndex IsRegularLink d brackets
link_layer_of l d is brackets h = regular_link d brackets (subst (λ x. IsRegularLink x brackets) (sym is) h)

-- a link whose layer is regular is regular
of_link_layer : (l : Link) (d : Link-F Index Link) → index_views.roll-Link d ≡ l → (brackets : ℕ) →
    IsRegularLinkLayer Index Link (λ y. y) IsRegularIndex IsRegularLink d brackets → IsRegularLink l brackets
of_link_layer l d is brackets h = subst (λ x. IsRegularLink x brackets) is (regular_link_made d brackets h)

-- what is claimed of indexes and of links
abbrev IndexGrows : Index → Type 0
IndexGrows i = Grows (IsRegularIndex i)

-- a regular link is regular with one more bracket
abbrev LinkGrows : Link → Type 0
LinkGrows l = Grows (IsRegularLink l)

-- each of a list with one more bracket
pub grow_all : {A : Type 0} (R : A → ℕ → Type 0) (xs : List A) → AllByRecursion (λ x. Grows (R x)) xs → (brackets : ℕ) →
    AllByRecursion (λ x. R x brackets) xs → AllByRecursion (λ x. R x (suc brackets)) xs
grow_all R [] more brackets h = tt
grow_all R (x ∷ xs) more brackets h = (more.0 brackets h.0, grow_all R xs more.1 brackets h.1)

-- a regular index is regular with one more bracket
pub index_grows : (i : Index) → Grows (IsRegularIndex i)
index_grows =
    index_induction IndexGrows LinkGrows
    (λ n brackets h. of_layer _ (Index-F.Num n) (index_views.rolls-Num n) (suc brackets) (layer_of _ (Index-F.Num n) (index_views.rolls-Num n) brackets h))
    (λ n at brackets h. of_layer _ (Index-F.Var n at) (index_views.rolls-Var n at) (suc brackets) (layer_of _ (Index-F.Var n at) (index_views.rolls-Var n at) brackets h))
    (λ parts all brackets h.
    let layer = layer_of _ (Index-F.Sum parts) (index_views.rolls-Sum parts) brackets h in
    of_layer _ (Index-F.Sum parts) (index_views.rolls-Sum parts) (suc brackets) (
      layer.0,
      grow_all (λ i. Wrapped (is_index_sum i) (IsRegularIndex i)) parts
          (all_more IndexGrows _ (λ i more. wrapped_more (is_index_sum i) (IsRegularIndex i) more) parts all) brackets layer.1,
    ))
    (λ first links more all brackets h.
    let layer = layer_of _ (Index-F.Chain first links) (index_views.rolls-Chain first links) brackets h in
    of_layer _ (Index-F.Chain first links) (index_views.rolls-Chain first links) (suc brackets)
    (wrapped_more (is_index_sum first || is_chain first) (IsRegularIndex first) more brackets layer.0, layer.1, grow_all IsRegularLink links all brackets layer.2))
    (λ by more brackets h.
    of_link_layer _ (Link-F.Times by) (index_views.rolls-Times by) (suc brackets)
    (wrapped_more (is_index_sum by || is_chain by) (IsRegularIndex by) more brackets (link_layer_of _ (Link-F.Times by) (index_views.rolls-Times by) brackets h)))
    (λ n brackets h. of_link_layer _ (Link-F.Mod n) (index_views.rolls-Mod n) (suc brackets) (link_layer_of _ (Link-F.Mod n) (index_views.rolls-Mod n) brackets h))

module _ (brackets : ℕ) (inner : (tokens : List Token) (i : Index) → inner_index brackets tokens i → Within (IsRegularIndex i) brackets) where
  -- a factor that tokens spell is regular, in parentheses where these are needed
  factor_regular : (tokens : List Token) (i : Index) → index_factor (inner_index brackets) tokens i → Wrapped (is_index_sum i || is_chain i) (IsRegularIndex i) brackets
  factor_regular tokens i (inl x) =
      subst (λ j. Wrapped (is_index_sum j || is_chain j) (IsRegularIndex j) brackets) (sym x.2)
      (of_layer _ (Index-F.Num x.0) (index_views.rolls-Num x.0) brackets x.1.2.1)
  factor_regular tokens i (inr (inl x)) =
      subst (λ j. Wrapped (is_index_sum j || is_chain j) (IsRegularIndex j) brackets) (sym x.2)
      (of_layer _ (Index-F.Var x.0.0 x.0.1) (index_views.rolls-Var x.0.0 x.0.1) brackets (subst IsName (sym (ap (λ y. y.0) x.1.2.1)) x.1.2.0))
  factor_regular tokens i (inr (inr x)) = within_wrapped (is_index_sum i || is_chain i) (IsRegularIndex i) (index_grows i) brackets (inner tokens i x)

  -- a link that tokens spell is regular
  link_regular : (tokens : List Token) (l : Link) → index_link (inner_index brackets) tokens l → IsRegularLink l brackets
  link_regular tokens l (inl x) =
      subst (λ k. IsRegularLink k brackets) (sym x.2)
      (of_link_layer _ (Link-F.Times x.0) (index_views.rolls-Times x.0) brackets (factor_regular x.1.1 x.0 x.1.4))
  link_regular tokens l (inr x) =
      subst (λ k. IsRegularLink k brackets) (sym x.2)
      (of_link_layer _ (Link-F.Mod x.0) (index_views.rolls-Mod x.0) brackets
      ((let some : x.0 ≢ 0 = x.1.4.2.1 in omega arith), x.1.4.2.0.1))

  -- a product that tokens spell is regular, in parentheses where these are needed
  product_regular : (tokens : List Token) (i : Index) → index_product (inner_index brackets) tokens i → Wrapped (is_index_sum i) (IsRegularIndex i) brackets
  product_regular tokens i x =
      subst (λ j. Wrapped (is_index_sum j) (IsRegularIndex j) brackets) (sym x.2)
      (by x.0.0 x.0.1 (factor_regular x.1.0 x.0.0 x.1.3) (many_all (index_link (inner_index brackets)) (λ l. IsRegularLink l brackets) link_regular x.0.1 x.1.1 x.1.4))
    where
      by : (first : Index) (links : List Link) → Wrapped (is_index_sum first || is_chain first) (IsRegularIndex first) brackets →
          AllByRecursion (λ l. IsRegularLink l brackets) links → Wrapped (is_index_sum (chained first links)) (IsRegularIndex (chained first links)) brackets
      by first [] h all = less_wrapped (is_index_sum first) (is_chain first) (IsRegularIndex first) (index_grows first) brackets h
      by first (l ∷ links) h all =
          of_layer _ (Index-F.Chain first (l ∷ links)) (index_views.rolls-Chain first (l ∷ links)) brackets (h, omega arith, all)

  -- a sum that tokens spell is regular
  sum_regular : (tokens : List Token) (i : Index) → index_sum_with (inner_index brackets) tokens i → IsRegularIndex i brackets
  sum_regular tokens i x =
      subst (λ j. IsRegularIndex j brackets) (sym x.2)
      (by x.0 (separated_all (codes "+") (index_product (inner_index brackets)) (λ j. Wrapped (is_index_sum j) (IsRegularIndex j) brackets) product_regular x.0 tokens x.1))
    where
      by : (parts : List Index) → AllByRecursion (λ j. Wrapped (is_index_sum j) (IsRegularIndex j) brackets) parts × (1 ≤ length parts) →
          IsRegularIndex (several index.Sum parts) brackets
      by [] h = absurd (omega (arith, h.1))
      by (a ∷ []) h = unwrapped (is_index_sum a) (IsRegularIndex a) (index_grows a) brackets h.0.0
      by (a ∷ b ∷ parts) h = of_layer _ (Index-F.Sum (a ∷ b ∷ parts)) (index_views.rolls-Sum (a ∷ b ∷ parts)) brackets (omega arith, h.0)

-- an index that tokens spell is regular
pub index_regular : (brackets : ℕ) (tokens : List Token) (i : Index) → index_sum brackets tokens i → IsRegularIndex i brackets
unfolding index_sum
index_regular zero tokens i spells = sum_regular zero (λ ts j h. absurd h) tokens i spells
index_regular (suc brackets) tokens i spells =
    sum_regular (suc brackets) (λ ts j h. index_regular brackets h.4.0 j h.4.4) tokens i spells
