-- Code made of blocks is private: in front of the blocks no more shares of a secret than the order are probed
-- or needed, and so many shares of an encoding don't depend on the secret.
use Rattle.std.proofs.Common.{◌≡◌, ◌≢◌, ℕ, suc, ◌+◌, ◌-◌, ◌*◌, ◌/◌, ◌%◌, ◌<◌, ◌≤◌, Bool, true, false, List, [], ◌∷◌, ◌++◌, length, map, drop, slice_index, sym, ◌∙◌, ap, subst, arith, inl, inr}
use Rattle.std.specs.List.{Contains, range_with_len}
use Rattle.std.proofs.lemmas.Bool.{cases_lt, both_ways}
use Rattle.std.proofs.lemmas.List.{length-append, take_at, drop_at, get_or_append_left, get_or-append_right}
use Rattle.std.proofs.lemmas.List.Elements.{Contains-append_left, Contains-append_right}
use Rattle.std.proofs.lemmas.List.FromFn.{length-range_with_len, get_or-range_with_len, length-map-range_with_len, get_or-map-range_with_len}
use Rattle.std.proofs.Math.Nat.{mul-le-mul_right}
use Rattle.mk_base.proofs.Lists.{Contains-cases}
use Rattle.mk_field.specs.Field.{size}
use Rattle.mk_field.specs.Sharing.{encodings}
use Rattle.mk_code.specs.declared.instr.Instr.{Instr}
use Rattle.mk_code.specs.Listing.{Listing, AreElementMaps}
use Rattle.mk_code.specs.Trace.{run, randoms, trace}
use Rattle.mk_code.specs.Counting.{total, one_if_equal, AllBelow, Elements}
use Rattle.mk_code.specs.Private.{observation, spent, masked_trace, ways, Private}
use Rattle.mk_code.specs.Shares.{AgreeBut, LooksPast}
use Rattle.mk_code.proofs.Totals.{total-same, total-split, Elements-append}
use Rattle.mk_code.proofs.Encodings.{EncodingsLaw-holds}
use Rattle.mk_code.proofs.LeftOut.{IsLeftOut, left_out}
use Rattle.mk_gadget.proofs.Ranges.{AllBelow-range}
use Rattle.mk_rules.specs.Shape.{Shape, shape_of}
use Rattle.mk_rules.specs.Tiles.{input_banks, first_position}
use Rattle.mk_rules.proofs.Probes.{Contains-none, inside, inside-held, inside-behind, behind-few}
use Rattle.mk_rules.proofs.Blocks.{Block, only, need, AllAskFew}
use Rattle.mk_rules.proofs.Needs.{need-few, need-below}
use Rattle.mk_rules.proofs.Standing.{bank, blocks_laid, bank_length, AllBlocks, AllBlocks-few, AllSingle, AreBanks}
use Rattle.mk_rules.proofs.Agreeing.{Agree}
use Rattle.mk_rules.proofs.Suffix.{blocks-even}

-- the secrets are shared, the public inputs public
pub record AreInputs (shape : Shape) (known : ℕ → Bool) : Type 0 where
  pub secrets : (x : ℕ) → x < shape.secrets → known x ≡ false
  pub publics : (x : ℕ) → shape.secrets ≤ x → x < shape.secrets + shape.publics → known x ≡ true

-- a number that a list leaves out is none of its numbers
left_out-held : (f : ℕ) (xs : List ℕ) (y : ℕ) → IsLeftOut f xs → Contains xs y → y ≢ f
unfolding IsLeftOut
left_out-held f [] y out held = absurd (Contains-none y held)
left_out-held f (x ∷ xs) y out held = elim (Contains-cases x xs y held) [
  | inl same ↦ λ e. out.0 (same ∙ e)
  | inr more ↦ left_out-held f xs y out.1 more
]

-- the bank of a secret
pub secret-bank : (shape : Shape) (x : ℕ) → x < shape.secrets → bank (input_banks shape) x ≡ range_with_len (x * (shape.order + 1)) (shape.order + 1)
secret-bank shape x below =
    let n : ℕ = shape.order + 1 in
    let fronts : List (List ℕ) = map (λ k. range_with_len (k * n) n) (range_with_len 0 shape.secrets) in
    let backs : List (List ℕ) = map (λ k. (shape.secrets * n + k) ∷ []) (range_with_len 0 shape.publics) in
    let count : length fronts ≡ shape.secrets = length-map-range_with_len (λ k. range_with_len (k * n) n) 0 shape.secrets in
    get_or_append_left fronts backs [] x (omega (arith, count, below))
    ∙ get_or-map-range_with_len (λ k. range_with_len (k * n) n) 0 shape.secrets x x [] below (omega arith)

-- the bank of a public input
pub public-bank : (shape : Shape) (x : ℕ) → shape.secrets ≤ x → x < shape.secrets + shape.publics
    → bank (input_banks shape) x ≡ (shape.secrets * (shape.order + 1) + (x - shape.secrets)) ∷ []
public-bank shape x late below =
    let n : ℕ = shape.order + 1 in
    let fronts : List (List ℕ) = map (λ k. range_with_len (k * n) n) (range_with_len 0 shape.secrets) in
    let backs : List (List ℕ) = map (λ k. (shape.secrets * n + k) ∷ []) (range_with_len 0 shape.publics) in
    let count : length fronts ≡ shape.secrets = length-map-range_with_len (λ k. range_with_len (k * n) n) 0 shape.secrets in
    get_or-append_right fronts backs shape.secrets x [] count late
    ∙ get_or-map-range_with_len (λ k. (shape.secrets * n + k) ∷ []) 0 shape.publics (x - shape.secrets) (x - shape.secrets) [] (omega arith) (omega arith)

-- the shares of a secret stand before the end of the secrets' shares
secret-end : (shape : Shape) (x : ℕ) → x < shape.secrets → x * (shape.order + 1) + (shape.order + 1) ≤ shape.secrets * (shape.order + 1)
secret-end shape x below =
    let step : suc x * (shape.order + 1) ≤ shape.secrets * (shape.order + 1) = mul-le-mul_right (shape.order + 1) below in
    omega (arith, step)

-- the banks of the inputs
pub input-banks : (shape : Shape) (known : ℕ → Bool) → AreInputs shape known
    → AreBanks (shape.order + 1) known (shape.secrets + shape.publics) (first_position shape) (input_banks shape)
unfolding AllBelow
input-banks shape known inputs =
    let n : ℕ = shape.order + 1 in
    let fronts : List (List ℕ) = map (λ k. range_with_len (k * n) n) (range_with_len 0 shape.secrets) in
    let backs : List (List ℕ) = map (λ k. (shape.secrets * n + k) ∷ []) (range_with_len 0 shape.publics) in
    record {
      count = omega (
        arith,
        length-append fronts backs,
        length-map-range_with_len (λ k. range_with_len (k * n) n) 0 shape.secrets,
        length-map-range_with_len (λ k. (shape.secrets * n + k) ∷ []) 0 shape.publics,
      );
      long = λ x below. elim (cases_lt x shape.secrets) [
        | inl secret ↦
            ap length (secret-bank shape x secret) ∙ length-range_with_len (x * n) n ∙ ap (bank_length n) (sym (inputs.secrets x secret))
        | inr late ↦ ap length (public-bank shape x late below) ∙ ap (bank_length n) (sym (inputs.publics x late below))
      ];
      below = λ x below. elim (cases_lt x shape.secrets) [
        | inl secret ↦
            subst (AllBelow (first_position shape)) (sym (secret-bank shape x secret))
            (AllBelow-range (first_position shape) (x * n) n (omega (arith, secret-end shape x secret)))
        | inr late ↦
            subst (AllBelow (first_position shape)) (sym (public-bank shape x late below)) (omega arith, tt)
      ];
    }

-- the ways are a total over the encodings, and for each of them over the tapes of the instructions
ways-parts : (code : Listing) (publics secrets probes seen : List ℕ)
    → ways code publics secrets probes seen
    ≡ total (size code.field) (spent code) (λ a. total (size code.field) (randoms code.instrs)
    (λ t. one_if_equal (observation probes (trace code publics (encodings code.order secrets a) t)) seen))
ways-parts code publics secrets probes seen =
    let q : ℕ = size code.field in
    let g : List ℕ → ℕ = λ tape. one_if_equal (observation probes (masked_trace code publics secrets tape)) seen in
    let f : List ℕ → List ℕ → ℕ = λ a t. one_if_equal (observation probes (trace code publics (encodings code.order secrets a) t)) seen in
    total-split q (spent code) (randoms code.instrs) g
    ∙ total-same q (spent code) (λ a. total q (randoms code.instrs) (λ t. g (a ++ t))) (λ a. total q (randoms code.instrs) (f a))
    (λ a here. total-same q (randoms code.instrs) (λ t. g (a ++ t)) (f a)
    (λ t there.
    ap (λ (l : List ℕ). f l (drop (spent code) (a ++ t))) (take_at a t (spent code) here.count)
    ∙ ap (f a) (drop_at a t (spent code) here.count)))

module _ (code : Listing) (known : ℕ → Bool) (bs : List Block) (publics probes seen : List ℕ)
    (images : AreElementMaps code.field code.maps) (inputs : AreInputs (shape_of code) known)
    (made : code.instrs ≡ blocks_laid (input_banks (shape_of code)) (first_position (shape_of code)) bs)
    (all : AllBlocks code.field code.maps (code.order + 1) known (code.secrets + code.publics) bs)
    (single : AllSingle (code.secrets + code.publics) bs)
    (given : Elements (size code.field) code.publics publics) (few : length probes ≤ code.order) where
  -- the shares of a secret that are probed or needed
  abbrev touched : ℕ → List ℕ
  touched x =
      inside (x * (code.order + 1)) (code.order + 1) probes
      ++ need probes (only x) (first_position (shape_of code)) (code.secrets + code.publics) bs

  -- the blocks ask for few shares
  asking : AllAskFew (code.order + 1) bs
  asking = AllBlocks-few code.field code.maps (code.order + 1) known (code.secrets + code.publics) bs all

  -- they are at most as many as the order
  touched-few : (x : ℕ) → x < code.secrets → length (touched x) < suc code.order
  touched-few x below =
      let n : ℕ = code.order + 1 in
      let wanted : List ℕ = need probes (only x) (first_position (shape_of code)) (code.secrets + code.publics) bs in
      omega (
        arith,
        length-append (inside (x * n) n probes) wanted,
        need-few n probes (only x) (first_position (shape_of code)) (code.secrets + code.publics) bs asking,
        inside-behind (x * n) n (first_position (shape_of code)) probes (omega (arith, secret-end (shape_of code) x below)),
        behind-few (x * n) probes,
      )

  -- so of each secret a share is neither
  hidden : (x : ℕ) → (f : ℕ) × (f ≤ code.order) × (x < code.secrets → IsLeftOut f (touched x))
  hidden x = elim (cases_lt x code.secrets) [
    | inl below ↦
        let found : (f : ℕ) × (f < suc code.order) × IsLeftOut f (touched x) = left_out (suc code.order) (touched x) (touched-few x below) in
        (found.0, omega (arith, found.1), λ again. found.2)
    | inr past ↦ (0, omega arith, λ below. absurd (omega arith))
  ]

  -- shares that are equal but for the hidden ones, behind the same publics, agree in front of the blocks
  agree-front : (u w : List ℕ) → length u ≡ code.secrets * (code.order + 1) → length w ≡ code.secrets * (code.order + 1)
      → AgreeBut code.order code.secrets (λ x. (hidden x).0) u w
      → Agree known probes (code.secrets + code.publics) (first_position (shape_of code)) (input_banks (shape_of code)) bs (u ++ publics) (w ++ publics)
  agree-front u w left right but =
      let n : ℕ = code.order + 1 in
      let end : ℕ = code.secrets * n in
      let wanted : ℕ → List ℕ = λ x. need probes (only x) (first_position (shape_of code)) (code.secrets + code.publics) bs in
      let share : (x j : ℕ) → x < code.secrets → j < n → Contains (touched x) j
      → slice_index (u ++ publics) (x * n + j) ≡ slice_index (w ++ publics) (x * n + j) =
      λ x j below small held.
      let place : x * n + j < end = omega (arith, secret-end (shape_of code) x below) in
      get_or_append_left u publics 0 (x * n + j) (omega (arith, place, left))
      ∙ but.shares x j below (omega arith) (left_out-held (hidden x).0 (touched x) j ((hidden x).2 below) held)
      ∙ sym (get_or_append_left w publics 0 (x * n + j) (omega (arith, place, right))) in
      let behind_shares : (p : ℕ) → end ≤ p → slice_index (u ++ publics) p ≡ slice_index (w ++ publics) p =
      λ p late. get_or-append_right u publics end p 0 left late ∙ sym (get_or-append_right w publics end p 0 right late) in
      record {
        probed = λ p held below. elim (cases_lt p end) [
          | inl before ↦
              let x : ℕ = p / n in
              let j : ℕ = p % n in
              let parts : x * n + j ≡ p = omega arith in
              let secret : x < code.secrets = elim (cases_lt x code.secrets) [
                | inl early ↦ early
                | inr past ↦ absurd (omega (arith, mul-le-mul_right n past, parts))
              ] in
              let at : p - x * n ≡ j = omega (arith, parts) in
              let mine : Contains (inside (x * n) n probes) j =
              subst (Contains (inside (x * n) n probes)) at (inside-held (x * n) n probes p held (omega (arith, parts)) (omega (arith, parts))) in
              subst (λ (r : ℕ). slice_index (u ++ publics) r ≡ slice_index (w ++ publics) r) parts
              (share x j secret (omega arith) (Contains-append_left (inside (x * n) n probes) (wanted x) j mine))
          | inr late ↦ behind_shares p late
        ];
        publics = λ x below public. elim (cases_lt x code.secrets) [
          | inl secret ↦ absurd (both_ways (known x) (inputs.secrets x secret) public)
          | inr late ↦
              let at : slice_index (bank (input_banks (shape_of code)) x) 0 ≡ end + (x - code.secrets) = ap (λ (l : List ℕ). slice_index l 0) (public-bank (shape_of code) x late below) in
              behind_shares (slice_index (bank (input_banks (shape_of code)) x) 0) (omega (arith, at))
        ];
        needed = λ x i below shared held. elim (cases_lt x code.secrets) [
          | inl secret ↦
              let small : i < n = need-below n probes (only x) (first_position (shape_of code)) (code.secrets + code.publics) bs i asking held in
              let at : slice_index (bank (input_banks (shape_of code)) x) i ≡ x * n + i =
              ap (λ (l : List ℕ). slice_index l i) (secret-bank (shape_of code) x secret) ∙ get_or-range_with_len (x * n) n i 0 small in
              subst (λ (r : ℕ). slice_index (u ++ publics) r ≡ slice_index (w ++ publics) r) (sym at)
              (share x i secret small (Contains-append_right (inside (x * n) n probes) (wanted x) i held))
          | inr late ↦ absurd (both_ways (known x) shared (inputs.publics x late below))
        ];
      }

  -- how often the probes show the values, over the tapes of the instructions, looks past the hidden shares
  looks : LooksPast (size code.field) code.order code.secrets (λ x. (hidden x).0)
      (λ u. total (size code.field) (randoms code.instrs) (λ t. one_if_equal (observation probes (trace code publics u t)) seen))
  looks = record {
    same = λ u w here there but.
        let n : ℕ = code.order + 1 in
        let q : ℕ = size code.field in
        subst (λ (is : List Instr). total q (randoms is) (λ t. one_if_equal (observation probes (run code.field code.maps is t (u ++ publics))) seen)
        ≡ total q (randoms is) (λ t. one_if_equal (observation probes (run code.field code.maps is t (w ++ publics))) seen)) (sym made)
        (blocks-even code.field code.maps n known probes (λ o. one_if_equal o seen) (code.secrets + code.publics) (first_position (shape_of code)) (input_banks (shape_of code)) bs
        (u ++ publics) (w ++ publics) images (input-banks (shape_of code) known inputs) all single
        (Elements-append q (code.secrets * n) code.publics u publics here given) (Elements-append q (code.secrets * n) code.publics w publics there given)
        (omega (arith, few, behind-few (first_position (shape_of code)) probes))
        (agree-front u w here.count there.count but));
  }

  -- so it doesn't depend on the secrets
  pub ways-same : (first second : List ℕ) → Elements (size code.field) code.secrets first → Elements (size code.field) code.secrets second
      → ways code publics first probes seen ≡ ways code publics second probes seen
  ways-same first second left right =
      ways-parts code publics first probes seen
      ∙ EncodingsLaw-holds code.field code.order code.secrets (λ x. (hidden x).0)
      (λ u. total (size code.field) (randoms code.instrs) (λ t. one_if_equal (observation probes (trace code publics u t)) seen))
      first second (λ x. (hidden x).1) looks left right
      ∙ sym (ways-parts code publics second probes seen)

-- code that is made of such blocks is private
pub blocks-private : (code : Listing) (known : ℕ → Bool) (bs : List Block)
    → AreElementMaps code.field code.maps → AreInputs (shape_of code) known
    → code.instrs ≡ blocks_laid (input_banks (shape_of code)) (first_position (shape_of code)) bs
    → AllBlocks code.field code.maps (code.order + 1) known (code.secrets + code.publics) bs
    → AllSingle (code.secrets + code.publics) bs
    → Private code
blocks-private code known bs images inputs made all single publics first second probes seen given left right few within =
    ways-same code known bs publics probes seen images inputs made all single given few first second left right
