-- The canonical text of a regular index spells it, apart from places.
use Rattle.std.proofs.Common.{◌≡◌, ℕ, zero, suc, ◌≤◌, Bool, true, false, ◌||◌, inl, List, [], ◌∷◌, ◌++◌, map, flat_map, length, refl, sym, ap, ◌∙◌, subst, codes, decimal, arith, true≢false, append_assoc}
use Rattle.std.proofs.lemmas.List.{append-nil}
use Rattle.std.specs.List.{AllByRecursion}
use Rattle.mk_base.specs.declared.Place.{Place}
use Rattle.mk_ast.specs.declared.tree.Index.{Index}
use Rattle.mk_ast.specs.declared.tree.Index.TheVariants as index
use Rattle.mk_ast.specs.declared.tree.Index.TheOpen.{Index-F, Link-F}
use Rattle.mk_ast.specs.declared.tree.Index.TheViews as index_views
use Rattle.mk_ast.specs.declared.tree.Link.{Link}
use Rattle.mk_ast.specs.declared.tree.Link.TheVariants as link
use Rattle.mk_ast.specs.Tokens.{NothingGoesOn}
use Rattle.mk_ast.specs.Phrases.{Phrase, nothing, after, until}
use Rattle.mk_ast.specs.Grammar.{index_factor, index_link, chained, index_product, index_sum_with, index_sum}
use Rattle.mk_ast.specs.Canonical.{joined, parenthesized, wrapped, is_index_sum, is_chain, index_summand_text, index_factor_text, index_text, link_text}
use Rattle.mk_ast.specs.Regular.{Wrapped, IsRegularIndexLayer, IsRegularIndex}
use Rattle.mk_ast.specs.Places.{nowhere, placeless_index}
use Rattle.mk_ast.proofs.Induction.{all_both, index_induction}
use Rattle.mk_ast.proofs.Layers.{index_text-Num, index_text-Var, index_text-Sum, index_text-Chain, link_text-Times, link_text-Mod, placeless_link, placeless_index-Var, placeless_index-Sum, placeless_index-Chain, placeless_link-Times}
use Rattle.mk_ast.proofs.Reading.{Reading, reads_gap, reads_before, reads_as, reads_after, reads_until, reads_and, reads_made, reads_first, reads_second, reads_many, reads_separated, reads_alone, reads_several}
use Rattle.mk_ast.proofs.RegularLayers.{IsRegularLink, regular_index, regular_link}
use Rattle.mk_ast.proofs.TokenTexts.{is_plus, is_times, is_percent, is_opening, is_closing, reads_name, reads_number, reads_size, space_gap}

-- what may stand within parentheses
abbrev pub inner_index : ℕ → Phrase Index
inner_index zero = nothing
inner_index (suc brackets) = after (codes "(") (until (codes ")") (index_sum brackets))

-- the text is read as an index like this one
abbrev pub ReadsIndex : Phrase Index → Index → List ℕ → Type 0
ReadsIndex phrase i t = Reading NothingGoesOn phrase (λ a. placeless_index a ≡ placeless_index i) t

-- the text is read as a link like this one
abbrev pub ReadsLink : Phrase Link → Link → List ℕ → Type 0
ReadsLink phrase l t = Reading NothingGoesOn phrase (λ a. placeless_link a ≡ placeless_link l) t

-- how the text of an index is read, with so many brackets left
pub record IndexReading (i : Index) (brackets : ℕ) : Type 0 where
  pub sum : ReadsIndex (index_sum brackets) i (index_text i)
  pub product : is_index_sum i ≡ false → ReadsIndex (index_product (inner_index brackets)) i (index_text i)
  pub factor : is_index_sum i ≡ false → is_chain i ≡ false → ReadsIndex (index_factor (inner_index brackets)) i (index_text i)

-- the text of the index is read, where it is regular
abbrev IndexReads : Index → Type 0
IndexReads i = (brackets : ℕ) → IsRegularIndex i brackets → IndexReading i brackets

-- the text of the link is read, where it is regular
abbrev LinkReads : Link → Type 0
LinkReads l = (brackets : ℕ) → IsRegularLink l brackets → ReadsLink (index_link (inner_index brackets)) l (link_text l)

-- a sum, by the brackets that are left
as_sum : (brackets : ℕ) (i : Index) (t : List ℕ) → ReadsIndex (index_sum_with (inner_index brackets)) i t → ReadsIndex (index_sum brackets) i t
unfolding index_sum
as_sum zero i t reading = reading
as_sum (suc brackets) i t reading = reading

-- a factor alone is a product
product_alone : (inner : Phrase Index) (i : Index) (t : List ℕ) → ReadsIndex (index_factor inner) i t → ReadsIndex (index_product inner) i t
product_alone inner i t =
    reads_as (index_product inner) (λ a. placeless_index a ≡ placeless_index i) t (λ a. a)
    (λ tokens a spells like. (((a, []), (tokens, [], sym (append-nil tokens), spells, refl), refl), like))

-- a product alone is a sum
sum_alone : (brackets : ℕ) (i : Index) (t : List ℕ) → ReadsIndex (index_product (inner_index brackets)) i t → ReadsIndex (index_sum brackets) i t
sum_alone brackets i t reading =
    as_sum brackets i t (reads_alone (index_product (inner_index brackets)) placeless_index (codes "+") index.Sum i t reading)

-- a sum in parentheses is a factor
in_parentheses : (brackets : ℕ) (i : Index) (t : List ℕ) → ReadsIndex (index_sum brackets) i t →
    ReadsIndex (index_factor (inner_index (suc brackets))) i (parenthesized t)
in_parentheses brackets i t reading =
    reads_second _ _ (parenthesized t)
    (reads_second _ _ (parenthesized t)
    (reads_before NothingGoesOn (parenthesized t) (λ rest r. tt)
    (reads_after (codes "(") (t ++ codes ")") (λ rest r. inl is_opening)
    (reads_until (codes ")") t is_closing (λ rest. refl) reading))))

-- an index as a part of a sum
sum_part : (i : Index) (brackets : ℕ) → IndexReads i → Wrapped (is_index_sum i) (IsRegularIndex i) brackets →
    ReadsIndex (index_product (inner_index brackets)) i (index_summand_text i (index_text i))
sum_part i brackets reads = by (is_index_sum i) refl brackets
  where
    by : (s : Bool) → is_index_sum i ≡ s → (b : ℕ) → Wrapped s (IsRegularIndex i) b → ReadsIndex (index_product (inner_index b)) i (wrapped s (index_text i))
    by true e zero never = absurd never
    by true e (suc b) h = product_alone (inner_index (suc b)) i _ (in_parentheses b i (index_text i) (reads b h).sum)
    by false e b h = (reads b h).product e

-- an index as a factor
pub factor_part : (i : Index) (brackets : ℕ) → IndexReads i → Wrapped (is_index_sum i || is_chain i) (IsRegularIndex i) brackets →
    ReadsIndex (index_factor (inner_index brackets)) i (index_factor_text i (index_text i))
factor_part i brackets reads = by (is_index_sum i) (is_chain i) refl refl brackets
  where
    by : (s c : Bool) → is_index_sum i ≡ s → is_chain i ≡ c → (b : ℕ) → Wrapped (s || c) (IsRegularIndex i) b →
        ReadsIndex (index_factor (inner_index b)) i (wrapped (s || c) (index_text i))
    by true c e e' zero never = absurd never
    by true c e e' (suc b) h = in_parentheses b i (index_text i) (reads b h).sum
    by false true e e' zero never = absurd never
    by false true e e' (suc b) h = in_parentheses b i (index_text i) (reads b h).sum
    by false false e e' b h = (reads b h).factor e e'

-- what is read as a factor is read wherever an index stands
of_factor : (i : Index) (brackets : ℕ) → ReadsIndex (index_factor (inner_index brackets)) i (index_text i) → IndexReading i brackets
of_factor i brackets reading = record {
  sum = sum_alone brackets i _ (product_alone (inner_index brackets) i _ reading);
  product = λ e. product_alone (inner_index brackets) i _ reading;
  factor = λ e e'. reading;
}

-- what a regular index has, by its layer
regular : (i : Index) (d : Index-F Index Link) (brackets : ℕ) → index_views.roll-Index d ≡ i → IsRegularIndex i brackets →
    IsRegularIndexLayer Index Link (λ y. y) IsRegularIndex IsRegularLink d brackets
regular i d brackets e h = regular_index d brackets (subst (λ x. IsRegularIndex x brackets) (sym e) h)

-- a number
num_reads : (n : ℕ) → IndexReads (index.Num n)
num_reads n brackets h =
    of_factor (index.Num n) brackets
    (subst (ReadsIndex (index_factor (inner_index brackets)) (index.Num n)) (sym (index_text-Num n))
    (reads_first _ _ (decimal n)
    (reads_made (λ a. placeless_index a ≡ placeless_index (index.Num n)) index.Num (decimal n) (λ m e. ap (λ k. placeless_index (index.Num k)) e)
    (reads_number n (regular (index.Num n) (Index-F.Num n) brackets (index_views.rolls-Num n) h)))))

-- the name of a loop
var_reads : (n : List ℕ) (at : Place) → IndexReads (index.Var n at)
var_reads n at brackets h =
    of_factor (index.Var n at) brackets
    (subst (ReadsIndex (index_factor (inner_index brackets)) (index.Var n at)) (sym (index_text-Var n at))
    (reads_second _ _ n (reads_first _ _ n
    (reads_made (λ a. placeless_index a ≡ placeless_index (index.Var n at)) (λ x. index.Var x.0 x.1) n
    (λ x e. placeless_index-Var x.0 x.1 ∙ ap (λ k. index.Var k nowhere) e ∙ sym (placeless_index-Var n at))
    (reads_name n (regular (index.Var n at) (Index-F.Var n at) brackets (index_views.rolls-Var n at) h))))))

-- a sum of several parts
sum_reads : (parts : List Index) → AllByRecursion IndexReads parts → IndexReads (index.Sum parts)
sum_reads parts all brackets h =
    let layer = regular (index.Sum parts) (Index-F.Sum parts) brackets (index_views.rolls-Sum parts) h in
    record {
      sum = subst (ReadsIndex (index_sum brackets) (index.Sum parts)) (sym (index_text-Sum parts))
          (as_sum brackets (index.Sum parts) _ (by parts layer.0
          (all_both IndexReads (λ i. Wrapped (is_index_sum i) (IsRegularIndex i) brackets) _ parts (λ i reads r. sum_part i brackets reads r) all layer.1)));
      product = λ e. absurd (true≢false e);
      factor = λ e e'. absurd (true≢false e);
    }
  where
    by : (xs : List Index) → 2 ≤ length xs → AllByRecursion (λ i. ReadsIndex (index_product (inner_index brackets)) i (index_summand_text i (index_text i))) xs →
        ReadsIndex (index_sum_with (inner_index brackets)) (index.Sum xs) (joined (codes " + ") (map (λ i. index_summand_text i (index_text i)) xs))
    by [] two p = absurd (omega arith)
    by (x ∷ []) two p = absurd (omega arith)
    by (x ∷ y ∷ zs) two p =
        reads_several (index_product (inner_index brackets)) placeless_index (codes "+") index.Sum index.Sum placeless_index-Sum x y zs _
        (reads_separated (index_product (inner_index brackets)) placeless_index (λ i. index_summand_text i (index_text i)) (codes " ") (codes "+") (codes " ")
        space_gap space_gap is_plus (λ rest. refl) x (y ∷ zs) p)

-- a link begins with a space
link_stops : (l : Link) (rest : List ℕ) → NothingGoesOn (link_text l ++ rest)
link_stops (link.Times by) rest = subst (λ t. NothingGoesOn (t ++ rest)) (sym (link_text-Times by)) refl
link_stops (link.Mod n) rest = subst (λ t. NothingGoesOn (t ++ rest)) (sym (link_text-Mod n)) refl

-- an index with its links
chain_reads : (first : Index) (links : List Link) → IndexReads first → AllByRecursion LinkReads links → IndexReads (index.Chain first links)
chain_reads first links first_reads all brackets h =
    let layer = regular (index.Chain first links) (Index-F.Chain first links) brackets (index_views.rolls-Chain first links) h in
    let product = subst (ReadsIndex (index_product (inner_index brackets)) (index.Chain first links)) (sym (index_text-Chain first links))
    (reads_made (λ a. placeless_index a ≡ placeless_index (index.Chain first links)) (λ x. chained x.0 x.1) _
    (λ x like. likes links layer.1 x.0 x.1 like.0 like.1)
    (reads_and _ _ (λ rest r. goes links rest r) (factor_part first brackets first_reads layer.0)
    (reads_many (index_link (inner_index brackets)) placeless_link link_text links (λ l rest r. link_stops l rest)
    (all_both LinkReads (λ l. IsRegularLink l brackets) _ links (λ l reads r. reads brackets r) all layer.2)))) in
    record {
      sum = sum_alone brackets (index.Chain first links) _ product;
      product = λ e. product;
      factor = λ e e'. absurd (true≢false e');
    }
  where
    goes : (ls : List Link) (rest : List ℕ) → NothingGoesOn rest → NothingGoesOn (flat_map link_text ls ++ rest)
    goes [] rest r = r
    goes (l ∷ ls) rest r = subst NothingGoesOn (sym (append_assoc (link_text l) _ rest)) (link_stops l _)

    likes : (ls : List Link) → 1 ≤ length ls → (a : Index) (ms : List Link) → placeless_index a ≡ placeless_index first → map placeless_link ms ≡ map placeless_link ls →
        placeless_index (chained a ms) ≡ placeless_index (index.Chain first ls)
    likes [] one a ms e e' = absurd (omega arith)
    likes (l ∷ ls) one a [] e e' = absurd cc
    likes (l ∷ ls) one a (m ∷ ms) e e' =
        placeless_index-Chain a (m ∷ ms) ∙ (λ i. index.Chain (e i) (e' i)) ∙ sym (placeless_index-Chain first (l ∷ ls))

-- a link with a factor
times_reads : (by : Index) → IndexReads by → LinkReads (link.Times by)
times_reads by reads brackets h =
    let layer = regular_link (Link-F.Times by) brackets (subst (λ x. IsRegularLink x brackets) (sym (index_views.rolls-Times by)) h) in
    subst (ReadsLink (index_link (inner_index brackets)) (link.Times by)) (sym (link_text-Times by))
    (reads_first _ _ _
    (reads_made (λ a. placeless_link a ≡ placeless_link (link.Times by)) link.Times _
    (λ a e. placeless_link-Times a ∙ ap link.Times e ∙ sym (placeless_link-Times by))
    (reads_gap (codes " ") _ space_gap (reads_after (codes "*") _ (λ rest r. inl is_times)
    (reads_gap (codes " ") _ space_gap (factor_part by brackets reads layer))))))

-- a link with a remainder
rest_reads : (n : ℕ) → LinkReads (link.Mod n)
rest_reads n brackets h =
    let layer = regular_link (Link-F.Mod n) brackets (subst (λ x. IsRegularLink x brackets) (sym (index_views.rolls-Mod n)) h) in
    subst (ReadsLink (index_link (inner_index brackets)) (link.Mod n)) (sym (link_text-Mod n))
    (reads_second _ _ _
    (reads_made (λ a. placeless_link a ≡ placeless_link (link.Mod n)) link.Mod _ (λ m e. ap (λ k. placeless_link (link.Mod k)) e)
    (reads_gap (codes " ") _ space_gap (reads_after (codes "%") _ (λ rest r. inl is_percent)
    (reads_gap (codes " ") _ space_gap (reads_size n layer.0 layer.1))))))

-- the text of a regular index is read as the index
pub index_reads : (i : Index) (brackets : ℕ) → IsRegularIndex i brackets → IndexReading i brackets
index_reads = index_induction IndexReads LinkReads num_reads var_reads sum_reads chain_reads times_reads rest_reads
