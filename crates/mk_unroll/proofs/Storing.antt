-- Variables, each told by the list of what it holds.
use Rattle.std.proofs.Common.{◌≡◌, ℕ, ◌<◌, List, [], length, map, get_or, set, sym, ap, ◌∙◌}
use Rattle.std.proofs.lemmas.List.{map-set, get_or-map}
use Rattle.mk_types.specs.Environment.{Environment, stored}

-- one of them is changed
pub written : {V A : Type 0} (f : V → List A) (vs : List V) (n i : ℕ) (x : A) (new now : V) → n < length vs → now ≡ get_or vs n now →
    f new ≡ set (f now) i x → (env : Environment A) → map f vs ≡ env → map f (set vs n new) ≡ stored env n i x
written f vs n i x new now within item put env is =
    map-set f vs n new
    ∙ ap (set (map f vs) n) (put ∙ ap (λ ys. set ys i x) (ap f item ∙ sym (get_or-map f vs n now [] within)))
    ∙ ap (λ e. stored e n i x) is
