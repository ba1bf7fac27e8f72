-- Lines that lead from one state to another, for any way of reading lines.
use Rattle.std.proofs.Common.{◌≡◌, ℕ, true, List, [], ◌∷◌, ◌++◌, Option, Some, None, refl, sym, ap, subst, ◌∙◌, append_assoc}
use Rattle.std.specs.Prelude.{flat_map}
use Rattle.std.proofs.lemmas.List.{append-nil}
use Rattle.std.proofs.lemmas.Grind.{flat_map-append}
use Rattle.mk_lines.specs.Words.{line, is_line}
use Rattle.mk_lines.specs.Lines.{AreLines}
use Rattle.mk_lines.specs.Parsing.{◌>>=◌}
use Rattle.mk_lines.proofs.Steps.{same_some}
use Rattle.mk_lines.proofs.ByLines.{All-append, prefix_lines}
use Rattle.mk_bundle.proofs.Complete.{bind_same, bind_assoc}

-- these lines, one after the other
abbrev pub all_read : {S : Type 0} → (S → List ℕ → Option S) → S → List (List ℕ) → Option S
all_read step st [] = Some st
all_read step st (l ∷ lines) = step st l >>= λ next. all_read step next lines

-- lines and then more lines are read as all of them are
all_read-append : {S : Type 0} (step : S → List ℕ → Option S) (st : S) (xs ys : List (List ℕ)) → all_read step st (xs ++ ys) ≡ (all_read step st xs >>= λ next. all_read step next ys)
all_read-append step st [] ys = refl
all_read-append {S} step st (x ∷ xs) ys =
    bind_same (step st x) (λ (next : S). all_read step next (xs ++ ys)) (λ (next : S). all_read step next xs >>= λ last. all_read step last ys) (λ next. all_read-append step next xs ys)
    ∙ sym (bind_assoc (step st x) (λ (next : S). all_read step next xs) (λ (last : S). all_read step last ys))

-- the bytes are lines that lead from one state to the other
pub record Leads (S : Type 0) (step : S → List ℕ → Option S) (from : S) (bytes : List ℕ) (to : S) : Type 0 where
  pub lines : List (List ℕ)
  pub clean : AreLines lines
  pub spelled : bytes ≡ flat_map line lines
  pub read : all_read step from lines ≡ Some to

-- no line leads from a state to itself
pub none_leads : {S : Type 0} (step : S → List ℕ → Option S) (st : S) → Leads S step st [] st
none_leads step st = record { lines = []; clean = tt; spelled = refl; read = refl }

-- a line that is read leads from one state to the next
pub one_leads : {S : Type 0} (step : S → List ℕ → Option S) (from to : S) (l : List ℕ) → is_line l ≡ true → step from l ≡ Some to → Leads S step from (line l) to
one_leads {S} step from to l clean e = record { lines = l ∷ []; clean = (clean, tt); spelled = sym (append-nil (line l)); read = ap (λ (o : Option S). o >>= λ next. Some next) e }

-- lines from one state to a second and others from there to a third lead from the first to the third
pub both_lead : {S : Type 0} (step : S → List ℕ → Option S) (a b c : S) (xs ys : List ℕ) → Leads S step a xs b → Leads S step b ys c → Leads S step a (xs ++ ys) c
both_lead {S} step a b c xs ys first second = record {
  lines = first.lines ++ second.lines;
  clean = All-append (λ l. is_line l ≡ true) first.lines second.lines first.clean second.clean;
  spelled = ap (λ (r : List ℕ). r ++ ys) first.spelled ∙ ap (λ (r : List ℕ). flat_map line first.lines ++ r) second.spelled ∙ sym (flat_map-append line first.lines second.lines);
  read = all_read-append step a first.lines second.lines ∙ ap (λ (o : Option S). o >>= λ next. all_read step next second.lines) first.read ∙ second.read;
}

-- things of one kind, line by line
pub many_lead : {S A : Type 0} (step : S → List ℕ → Option S) (spell : A → List ℕ) (state : List A → S) (all : List A)
    → ((done : List A) (x : A) (left : List A) → done ++ x ∷ left ≡ all → Leads S step (state done) (spell x) (state (done ++ x ∷ [])))
    → (todo done : List A) → done ++ todo ≡ all → Leads S step (state done) (flat_map spell todo) (state all)
many_lead {S} step spell state all one [] done e = subst (λ xs. Leads S step (state done) [] (state xs)) (sym (append-nil done) ∙ e) (none_leads step (state done))
many_lead {S} step spell state all one (x ∷ todo) done e =
    both_lead step (state done) (state (done ++ x ∷ [])) (state all) (spell x) (flat_map spell todo) (one done x todo e) (many_lead step spell state all one todo (done ++ x ∷ []) (append_assoc done (x ∷ []) todo ∙ e))

-- where one text begins with another, and no line is read where the shorter one ends, both end there
pub same_end : {S : Type 0} (step : S → List ℕ → Option S) (start whole front : S) (bytes rest : List ℕ) → Leads S step start (bytes ++ rest) whole → Leads S step start bytes front
    → ((l : List ℕ) → step front l ≡ None) → (front ≡ whole) × (rest ≡ [])
same_end {S} step start whole front bytes rest longer shorter ends =
    let h = prefix_lines shorter.lines longer.lines rest shorter.clean longer.clean (sym longer.spelled ∙ ap (λ (r : List ℕ). r ++ rest) shorter.spelled) in
    let left : all_read step front h.0 ≡ Some whole =
    ap (λ (o : Option S). o >>= λ next. all_read step next h.0) (sym shorter.read) ∙ sym (all_read-append step start shorter.lines h.0) ∙ ap (all_read step start) (sym h.1) ∙ longer.read in
    by h.0 left h.2
  where
    by : (more : List (List ℕ)) → all_read step front more ≡ Some whole → rest ≡ flat_map line more → (front ≡ whole) × (rest ≡ [])
    by [] left is = (same_some front whole left, is)
    by (l ∷ more) left is = let never : ◌≡◌ {A = Option S} None (Some whole) = sym (ap (λ (o : Option S). o >>= λ next. all_read step next more) (ends l)) ∙ left in absurd cc
