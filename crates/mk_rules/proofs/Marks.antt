-- Marks follow paths: where no value reaches both places of a strong block, the marks that start at a value
-- come to one place of it at most.
use Rattle.std.proofs.Common.{◌≡◌, ℕ, zero, suc, ◌+◌, ◌<◌, Bool, true, List, [], ◌∷◌, ◌++◌, map, slice_get, Option, Some, IsSomeAnd, sym, ◌∙◌, ap, refl, subst, arith, inl, inr}
use Rattle.std.specs.List.{Contains}
use Rattle.std.proofs.lemmas.Bool.{cases_eq, eqb-true}
use Rattle.std.proofs.lemmas.Option.{slice_get_within}
use Rattle.mk_field.specs.declared.field.FieldId.{FieldId}
use Rattle.mk_field.specs.declared.map.AddMap.{AddMap}
use Rattle.mk_ssa.specs.Kinds.{Linear, Strong}
use Rattle.mk_rules.specs.Reaches.{Link, IsPath, Reaches, Undoubled}
use Rattle.mk_rules.proofs.Blocks.{Block, IsHit, any_marked, carries, marked, only, IsSingle, any_marked-from}
use Rattle.mk_rules.proofs.Needs.{carries-from, marked-own, marked-other}
use Rattle.mk_rules.proofs.Views.{Contains-at}
use Rattle.mk_rules.proofs.Standing.{AllBlocks, AllSingle}

-- what a path sees of a block
abbrev pub link_of : Block → Link
link_of b = record { kind = b.kind; shared = b.shared }

-- a path leads from x to each marked value
record IsTraced (inputs : ℕ) (links : List Link) (x : ℕ) (marks : ℕ → Bool) : Type 0 where
  path : (w : ℕ) → marks w ≡ true → (path : List ℕ) × IsPath inputs links x path w

-- a path, and one linear block more
path-more : (inputs : ℕ) (links : List Link) (x : ℕ) (path : List ℕ) (y d : ℕ) → IsPath inputs links x path y
    → IsSomeAnd (slice_get links d) (λ link. (link.kind ≡ Linear) × Contains link.shared y)
    → IsPath inputs links x (path ++ d ∷ []) (inputs + d)
unfolding IsPath
path-more inputs links x [] y d leads last =
    (subst (λ (z : ℕ). IsSomeAnd (slice_get links d) (λ link. (link.kind ≡ Linear) × Contains link.shared z)) (sym leads) last, refl)
path-more inputs links x (c ∷ path) y d leads last = (leads.0, path-more inputs links (inputs + c) path y d leads.1 last)

-- what holds of a link holds where it stands
at-link : (links : List Link) (d : ℕ) (link : Link) (P : Link → Type 0) → slice_get links d ≡ Some link → P link → IsSomeAnd (slice_get links d) P
at-link links d link P there holds = subst (λ (o : Option Link). IsSomeAnd o P) (sym there) holds

-- one of two places, and not both of them
one-of_two : (hit : ℕ → Type 0) → (hit 0 → hit 1 → ⊥) → (j k : ℕ) → hit j → hit k → j < 2 → k < 2 → j ≡ k
one-of_two hit apart zero zero first second low small = refl
one-of_two hit apart zero (suc zero) first second low small = absurd (apart first second)
one-of_two hit apart (suc zero) zero first second low small = absurd (apart second first)
one-of_two hit apart (suc zero) (suc zero) first second low small = refl
one-of_two hit apart zero (suc (suc k)) first second low small = absurd (omega arith)
one-of_two hit apart (suc zero) (suc (suc k)) first second low small = absurd (omega arith)
one-of_two hit apart (suc (suc j)) k first second low small = absurd (omega arith)

module _ (inputs : ℕ) (links : List Link) (undoubled : Undoubled inputs links) where
  -- a marked value at a place of a strong block is reached from the first value
  reaches-hit : (x d k : ℕ) (marks : ℕ → Bool) (b : Block) → slice_get links d ≡ Some (link_of b) → b.kind ≡ Strong → IsTraced inputs links x marks
      → IsHit marks b.shared k → Reaches inputs links x d k
  reaches-hit x d k marks b there strong traced hit =
      let led : (path : List ℕ) × IsPath inputs links x path hit.value = traced.path hit.value hit.is in
      record {
        path = led.0;
        operand = hit.value;
        leads = led.1;
        strong = at-link links d (link_of b) (λ link. (link.kind ≡ Strong) × (slice_get link.shared k ≡ Some hit.value)) there (strong, hit.there);
      }

  -- the marks that a block passes on are traced too
  traced-next : (x d v : ℕ) (marks : ℕ → Bool) (b : Block) → v ≡ inputs + d → slice_get links d ≡ Some (link_of b) → IsTraced inputs links x marks
      → IsTraced inputs links x (marked marks v (carries marks b))
  traced-next x d v marks b at there traced = record {
    path = λ w on. elim (cases_eq w v) [
      | inl same ↦
          let passes : carries marks b ≡ true = sym (marked-own marks v w (carries marks b) same) ∙ on in
          let from : (b.kind ≡ Linear) × (any_marked marks b.shared ≡ true) = carries-from b.kind (any_marked marks b.shared) passes in
          let found : (k : ℕ) × IsHit marks b.shared k = any_marked-from marks b.shared from.1 in
          let hit : IsHit marks b.shared found.0 = found.1 in
          let led : (path : List ℕ) × IsPath inputs links x path hit.value = traced.path hit.value hit.is in
          let last : IsSomeAnd (slice_get links d) (λ link. (link.kind ≡ Linear) × Contains link.shared hit.value) =
          at-link links d (link_of b) (λ link. (link.kind ≡ Linear) × Contains link.shared hit.value) there
          (from.0, Contains-at b.shared found.0 hit.value hit.there) in
          let here : inputs + d ≡ w = sym at ∙ sym same in
          (led.0 ++ d ∷ [], subst (IsPath inputs links x (led.0 ++ d ∷ [])) here (path-more inputs links x led.0 hit.value d led.1 last))
      | inr differ ↦ traced.path w (sym (marked-other marks v w (carries marks b) differ) ∙ on)
    ];
  }

  -- traced marks come to one place of a strong block at most
  single-from : (field : FieldId) (maps : List AddMap) (n : ℕ) (known : ℕ → Bool) (x d v : ℕ) (marks : ℕ → Bool) (bs : List Block) → v ≡ inputs + d
      → ((i : ℕ) → slice_get links (d + i) ≡ slice_get (map link_of bs) i)
      → AllBlocks field maps n known v bs → IsTraced inputs links x marks → IsSingle marks v bs
  unfolding IsSingle AllBlocks
  single-from field maps n known x d v marks [] at links_at all traced = tt
  single-from field maps n known x d v marks (b ∷ bs) at links_at all traced =
      let zero_more : d + 0 ≡ d = omega arith in
      let there : slice_get links d ≡ Some (link_of b) = ap (slice_get links) (sym zero_more) ∙ links_at 0 in (
        λ strong j k first second.
            one-of_two (IsHit marks b.shared)
            (λ at_0 at_1. undoubled x d (reaches-hit x d 0 marks b there strong traced at_0) (reaches-hit x d 1 marks b there strong traced at_1))
            j k first second
            (omega (arith, slice_get_within b.shared j first.value first.there, all.0.two strong))
            (omega (arith, slice_get_within b.shared k second.value second.there, all.0.two strong)),
        single-from field maps n known x (d + 1) (v + 1) (marked marks v (carries marks b)) bs (omega arith)
            (λ i. let e : d + 1 + i ≡ d + suc i = omega arith in ap (slice_get links) e ∙ links_at (suc i)) all.1
            (traced-next x d v marks b at there traced),
      )

  -- the mark of a value alone is traced
  traced-only : (x : ℕ) → IsTraced inputs links x (only x)
  unfolding IsPath
  traced-only x = record { path = λ w on. ([], sym (eqb-true w x on)) }

  -- so the marks from each value are single
  pub undoubled-single : (field : FieldId) (maps : List AddMap) (n : ℕ) (known : ℕ → Bool) (d v : ℕ) (bs : List Block) → v ≡ inputs + d
      → ((i : ℕ) → slice_get links (d + i) ≡ slice_get (map link_of bs) i)
      → AllBlocks field maps n known v bs → AllSingle v bs
  unfolding AllSingle AllBlocks
  undoubled-single field maps n known d v [] at links_at all = tt
  undoubled-single field maps n known d v (b ∷ bs) at links_at all = (
    λ x below. single-from field maps n known x d v (only x) (b ∷ bs) at links_at all (traced-only x),
    undoubled-single field maps n known (d + 1) (v + 1) bs (omega arith)
        (λ i. let e : d + 1 + i ≡ d + suc i = omega arith in ap (slice_get links) e ∙ links_at (suc i)) all.1,
  )
