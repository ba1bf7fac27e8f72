-- The layout of values by the marks of the pass.
use Rattle.std.proofs.Common.{◌≡◌, ℕ, zero, suc, ◌+◌, ◌-◌, ◌<◌, ◌≤◌, true, false, Some, IsSome, List, [], ◌∷◌, ◌++◌, length, take, drop, map, slice_get, get_or, refl, sym, ◌∙◌, ap, ap₂, subst, arith, inl, inr}
use Rattle.std.specs.List.{All, Contains}
use Rattle.std.proofs.lemmas.List.Elements.{All-contains}
use Rattle.std.proofs.lemmas.Bool.{cases_eq, false≢true}
use Rattle.std.proofs.lemmas.Option.{slice_get_within}
use Rattle.std.proofs.lemmas.List.{length-take-le, take_all}
use Rattle.mk_ssa.specs.declared.Op.{Op}
use Rattle.mk_ssa.specs.declared.Op.TheVariants.{Const, PubAdd, PubMul, PubSq, PubMap, Lift, Add, AddPub, Scale, Sq, Map, Mul, Refresh}
use Rattle.mk_ssa.specs.declared.Operand.{Operand}
use Rattle.mk_ssa.specs.declared.Operand.TheVariants.{Secret, Public, Block}
use Rattle.mk_ssa.specs.Kinds.{Kind, kind, is_public, shared_operands}
use Rattle.mk_ssa.specs.Values.{Values, Draft, draft, front, IsValues, IsSharedThere, IsPublicThere, Fits}
use Rattle.mk_ssa.proofs.Lists.{IsSomeAnd-value}
use Rattle.mk_rules.specs.Tiles.{value_number}
use Rattle.mk_rules.specs.Reaches.{Link, links}
use Rattle.mk_rules.proofs.Probes.{Contains-more, Contains-front}
use Rattle.mk_rules.proofs.Noting.{use_of, uses-next}
use Rattle.mk_rules.specs.Uses.{Use, uses_by, uses_from, uses_behind, shared_numbers}
use Rattle.mk_place.specs.declared.marking.Fresh.{Fresh}
use Rattle.mk_place.specs.Uses.{shape_of_values}
use Rattle.mk_place.specs.Layout.{renamed, laid_out, blocks_before, blocks_from}
use Rattle.mk_rules.specs.Claimed.{Claimed}
use Rattle.mk_place.specs.Needs.{marks_by}
use Rattle.mk_place.specs.Marking.{AreMarks, all_marks, inputs}
use Rattle.mk_place.specs.Laying.{named, HasName, HasNames, IsLaid, with_refreshes, own_of}
use Rattle.mk_place.proofs.Taking.{marks-past, marks-none, marks-place}
use Rattle.mk_place.proofs.Naming.{laid-step, named-is}

-- a value's marks
abbrev marks_of : Values → ℕ → Fresh
marks_of s i = record { first = all_marks s i 0; second = all_marks s i 1 }

-- a certificate by its parts
abbrev pub cert_of : List Op → List Operand → Claimed
cert_of blocks claims = record { blocks = blocks; claims = claims }

-- the marks of a value are those by the uses from it on
marks-later : (inputs from : ℕ) (ls : List Link) (d j k : ℕ) → j ≡ from + d
    → marks_by inputs (uses_from from ls) j k ≡ marks_by inputs (uses_from j (drop d ls)) j k
unfolding uses_from
marks-later inputs from ls zero j k at =
    let e : from ≡ j = omega (arith, at) in
    ap (λ (n : ℕ). marks_by inputs (uses_from n ls) j k) e
marks-later inputs from [] (suc d) j k at = refl
marks-later inputs from (l ∷ ls) (suc d) j k at =
    marks-past inputs from l.kind 0 l.shared (uses_from (suc from) ls) j k (λ e. omega (arith, e, at))
    ∙ marks-later inputs (suc from) ls d j k (omega (arith, at))

-- so those by all uses are those by the uses from the value on
marks-all : (s : Values) (i k : ℕ) → all_marks s i k ≡ marks_by (inputs s) (uses_behind (shape_of_values s) s.values i) i k
marks-all s i k = marks-later (inputs s) 0 (links (shape_of_values s) s.values) i i k (omega arith)

-- where there is an element behind the first ones
some-at : {X : Type 0} (xs : List X) (i j : ℕ) → i ≡ j → IsSome (slice_get xs i) → IsSome (slice_get xs j)
some-at xs i j same there = subst (λ (k : ℕ). IsSome (slice_get xs k)) same there

-- what is marked is there
marks-there : (inputs i : ℕ) (kind : Kind) (place : ℕ) (vs : List ℕ) (us : List Use) (k : ℕ) → ((k : ℕ) → marks_by inputs us i k ≡ false)
    → marks_by inputs (uses_by i kind place vs ++ us) i k ≡ true → (place ≤ k) × IsSome (slice_get vs (k - place))
unfolding uses_by
marks-there inputs i kind place [] us k none is = absurd (false≢true (sym (none k) ∙ is))
marks-there inputs i kind place (v ∷ vs) us k none is = elim (cases_eq k place) [
  | inl same ↦ (omega (arith, same), some-at (v ∷ vs) 0 (k - place) (omega (arith, same)) refl)
  | inr differ ↦
      let rest : (suc place ≤ k) × IsSome (slice_get vs (k - suc place)) =
      marks-there inputs i kind (suc place) vs us k none
      (sym (marks-place inputs (use_of i kind place v) (uses_by i kind (suc place) vs ++ us) i k differ) ∙ is) in
      (omega (arith, rest.0), some-at (v ∷ vs) (suc (k - suc place)) (k - place) (omega (arith, rest.0)) rest.1)
]

-- an image is there where its element is
some-map : {X Y : Type 0} (f : X → Y) (xs : List X) (k : ℕ) → IsSome (slice_get (map f xs) k) → IsSome (slice_get xs k)
some-map f [] k there = there
some-map f (x ∷ xs) zero there = refl
some-map f (x ∷ xs) (suc k) there = some-map f xs k there

-- an operand that is there has a name
shared-has : (d : Draft) (n : ℕ) (names : List ℕ) (v : Operand) → n ≤ length d.values → length names ≡ n → IsSharedThere (front d n) v → HasName names v
shared-has d n names (Secret k) within long there = tt
shared-has d n names (Public k) within long there = absurd there
shared-has d n names (Block k) within long there =
    let at : (op : Op) × (slice_get (take n d.values) k ≡ Some op) × (is_public op ≡ false) =
    IsSomeAnd-value (slice_get (take n d.values) k) (λ op. is_public op ≡ false) there in
    omega (arith, slice_get_within (take n d.values) k at.0 at.1, length-take-le n d.values within, long)

-- a public one too
public-has : (d : Draft) (n : ℕ) (names : List ℕ) (v : Operand) → n ≤ length d.values → length names ≡ n → IsPublicThere (front d n) v → HasName names v
public-has d n names (Secret k) within long there = absurd there
public-has d n names (Public k) within long there = tt
public-has d n names (Block k) within long there =
    let at : (op : Op) × (slice_get (take n d.values) k ≡ Some op) × (is_public op ≡ true) =
    IsSomeAnd-value (slice_get (take n d.values) k) (λ op. is_public op ≡ true) there in
    omega (arith, slice_get_within (take n d.values) k at.0 at.1, length-take-le n d.values within, long)

-- each operand of a value that fits has a name
fits-has : (d : Draft) (n : ℕ) (names : List ℕ) (op : Op) → n ≤ length d.values → length names ≡ n → Fits (front d n) op → HasNames names op
fits-has d n names (Const value) w l fits = tt
fits-has d n names (PubAdd left right) w l fits = (public-has d n names left w l fits.0, (public-has d n names right w l fits.1, tt))
fits-has d n names (PubMul left right) w l fits = (public-has d n names left w l fits.0, (public-has d n names right w l fits.1, tt))
fits-has d n names (PubSq arg) w l fits = (public-has d n names arg w l fits, tt)
fits-has d n names (PubMap k arg) w l fits = (public-has d n names arg w l fits.1, tt)
fits-has d n names (Lift arg) w l fits = (public-has d n names arg w l fits, tt)
fits-has d n names (Add left right) w l fits = (shared-has d n names left w l fits.0, (shared-has d n names right w l fits.1, tt))
fits-has d n names (AddPub left right) w l fits = (shared-has d n names left w l fits.0, (public-has d n names right w l fits.1, tt))
fits-has d n names (Scale left right) w l fits = (shared-has d n names left w l fits.0, (public-has d n names right w l fits.1, tt))
fits-has d n names (Sq arg) w l fits = (shared-has d n names arg w l fits, tt)
fits-has d n names (Map k arg) w l fits = (shared-has d n names arg w l fits.1, tt)
fits-has d n names (Mul left right) w l fits = (shared-has d n names left w l fits.0, (shared-has d n names right w l fits.1, tt))
fits-has d n names (Refresh arg) w l fits = absurd fits

-- no block is laid yet
pub laid-none : (s : Values) → IsLaid (all_marks s) s.values 0 [] []
unfolding blocks_before blocks_from
laid-none s = record { same = refl; count = refl; long = refl; each = λ k below. absurd (omega (arith, below)) }

-- what is marked of a value is there
pub marked-there : (s : Values) (i k : ℕ) (op : Op) → slice_get s.values i ≡ Some op → all_marks s i k ≡ true → IsSome (slice_get (shared_operands op) k)
marked-there s i k op there on =
    let e : marks_by (inputs s) (uses_by i (kind op) 0 (shared_numbers (shape_of_values s) op) ++ uses_behind (shape_of_values s) s.values (suc i)) i k ≡ true =
    ap (λ (us : List Use). marks_by (inputs s) us i k) (sym (uses-next (shape_of_values s) s.values i op there)) ∙ sym (marks-all s i k) ∙ on in
    some-map (value_number (shape_of_values s)) (shared_operands op) k
    (some-at (shared_numbers (shape_of_values s) op) (k - 0) k (omega arith) (marks-there (inputs s) i (kind op) 0 (shared_numbers (shape_of_values s) op) (uses_behind (shape_of_values s) s.values (suc i)) k
    (λ j. marks-none (inputs s) (suc i) (drop (suc i) (links (shape_of_values s) s.values)) i j (omega arith)) e).1)

module _ (s : Values) (is : IsValues s) (i : ℕ) (op : Op) (there : slice_get s.values i ≡ Some op) (blocks : List Op) (names : List ℕ)
    (laid : IsLaid (all_marks s) s.values i blocks names) where
  -- there is a name for each operand of the next value
  pub next-named : HasNames names op
  next-named =
      let within : i < length s.values = slice_get_within s.values i op there in
      fits-has (draft s) i names op (omega (arith, within)) laid.long (is.made.fit i op there)

  -- the next value is laid
  pub laid-next : (fresh : List Fresh) (x : Fresh) → AreMarks s fresh → slice_get fresh i ≡ Some x
      → IsLaid (all_marks s) s.values (suc i) (with_refreshes names blocks op x ++ own_of names blocks op x ∷ [])
      (names ++ length (with_refreshes names blocks op x) ∷ [])
  laid-next fresh x are at =
      let within : i < length s.values = slice_get_within s.values i op there in
      let same : Some x ≡ Some (marks_of s i) = sym at ∙ are.each i within in
      let x_is : x ≡ marks_of s i = cc in
      laid-step (all_marks s) s.values i op blocks names x laid there next-named
      (ap (λ (y : Fresh). y.first) x_is) (ap (λ (y : Fresh). y.second) x_is) (λ k on. marked-there s i k op there on)

-- an output has a name, when all values are laid
draft-has : (s : Values) (names : List ℕ) (v : Operand) → length names ≡ length s.values → IsSharedThere (draft s) v → HasName names v
draft-has s names (Secret k) long there = tt
draft-has s names (Public k) long there = absurd there
draft-has s names (Block k) long there =
    let at : (op : Op) × (slice_get s.values k ≡ Some op) × (is_public op ≡ false) =
    IsSomeAnd-value (slice_get s.values k) (λ op. is_public op ≡ false) there in
    omega (arith, slice_get_within s.values k at.0 at.1, long)

-- all outputs have
pub outs-named : (s : Values) (names : List ℕ) → IsValues s → length names ≡ length s.values → All (HasName names) s.outs
outs-named s names is long = λ k d below. draft-has s names (get_or s.outs k d) long (is.outs k d below)

-- equal images make equal lists
map-same : {X Y : Type 0} (f g : X → Y) (xs : List X) → ((x : X) → Contains xs x → f x ≡ g x) → map f xs ≡ map g xs
map-same f g [] same = refl
map-same f g (x ∷ xs) same =
    ap₂ (λ y ys. y ∷ ys) (same x (Contains-front x xs)) (map-same f g xs (λ y held. same y (Contains-more x xs y held)))

-- the certificate in the end
pub laid-all : (s : Values) (is : IsValues s) (cert : Claimed) (blocks : List Op) (names : List ℕ) → IsLaid (all_marks s) s.values (length s.values) blocks names
    → cert.blocks ≡ blocks → cert.claims ≡ map (named names) s.outs → cert ≡ laid_out (all_marks s) s
laid-all s is cert blocks names laid same claims =
    let own : blocks ≡ blocks_from (all_marks s) 0 s.values =
    laid.same ∙ ap (blocks_from (all_marks s) 0) (take_all (length s.values) s.values (omega arith)) in
    let named_all : map (named names) s.outs ≡ map (renamed (all_marks s)) s.outs =
    map-same (named names) (renamed (all_marks s)) s.outs
    (λ v held. named-is (all_marks s) 0 names laid.each v (All-contains (HasName names) s.outs v (outs-named s names is laid.long) held)) in
    ap (λ (bs : List Op). cert_of bs cert.claims) (same ∙ own) ∙ ap (cert_of (blocks_from (all_marks s) 0 s.values)) (claims ∙ named_all)
