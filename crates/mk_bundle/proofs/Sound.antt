-- What was read so far is the front of the text of the pair so far, and the pair is within the limits.
use Rattle.std.proofs.Common.{◌≡◌, ℕ, zero, suc, ◌+◌, ◌*◌, ◌/◌, ◌<◌, ◌≤◌, true, List, [], ◌∷◌, ◌++◌, length, take, drop, Some, None, nat_lt, refl, sym, ap, subst, ◌∙◌, inl, inr, arith, append_assoc, length-append, add-one}
use Rattle.std.specs.Prelude.{cond, codes, decimal, flat_map, bytes_eq, ◌&&◌, slice_index_or}
use Rattle.std.specs.List.{AllByRecursion}
use Rattle.std.proofs.lemmas.Bool.{ltb-true, ltb-false, and_parts}
use Rattle.std.proofs.lemmas.List.{append-nil, nil_from_length, take-append-le, drop-append-le, length-drop}
use Rattle.std.proofs.Math.Seq.{take-length}
use Rattle.std.proofs.lemmas.List.Elements.{All-append}
use Rattle.std.proofs.lemmas.Grind.{flat_map-append}
use Rattle.std.proofs.Math.Nat.{zero-div, mul-div_cancel, lt_of_mul-lt-mul_right}
use Rattle.mk_base.specs.declared.TheConstants.{TOP_ORDER}
use Rattle.mk_field.specs.declared.field.FieldId.{FieldId}
use Rattle.mk_field.specs.declared.field.FieldId.TheVariants.{Gf2, Gf256}
use Rattle.mk_field.specs.declared.map.AddMap.{AddMap}
use Rattle.mk_field.specs.Field.{size, HasMapsOnlyInBytes, has_maps}
use Rattle.mk_ssa.specs.declared.Operand.{Operand}
use Rattle.mk_ssa.specs.declared.Op.{Op}
use Rattle.mk_code.specs.declared.instr.Instr.{Instr}
use Rattle.mk_code.specs.declared.instr.Instr.TheVariants as instr
use Rattle.mk_code.specs.Listing.{Listing, IsListing, AllFit, FitsAt, inputs_len, trace_len}
use Rattle.mk_code.proofs.Instrs.{AllFit-push}
use Rattle.mk_rules.specs.Claimed.{Claimed}
use Rattle.mk_lines.specs.Words.{line}
use Rattle.mk_ssa.specs.Widths.{OperandFits, OpFits}
use Rattle.mk_lines.specs.CertLines.{op_line, claim_line}
use Rattle.mk_lines.specs.CodeLines.{field_line, map_line, instr_line, out_line, out_lines}
use Rattle.mk_field.specs.Maps.{MapFits}
use Rattle.mk_bundle.specs.Text.{number_line, head_lines, upper_text, lower_text, text}
use Rattle.mk_rules.specs.Pairs.{IsPair}
use Rattle.mk_bundle.specs.declared.TheConstants.{TEXT_TOP_ORDER}
use Rattle.mk_bundle.specs.declared.draft.Stage.{Stage}
use Rattle.mk_bundle.specs.declared.draft.Stage.TheVariants.{Version, Field, Order, Secrets, Publics, Upper, Lower, Ended}
use Rattle.mk_lines.specs.Parsing.{field_of, ◌>>=◌, after, number_of, map_of, operand_of, op_of, instr_of, positions_of}
use Rattle.mk_bundle.specs.Reading.{State, version_line, field_read, headed, order_read, secrets_read, publics_read, may_map, map_read, may_block, block_read, claim_read, code_read, upper_read, fits_at, may_instr, instr_read, out_read, lower_read, read_at}
use Rattle.mk_bundle.proofs.Appended.{out_lines-none}
use Rattle.mk_lines.proofs.Steps.{bind_some, same_some, chosen, passed, not_passed, after_found, behind_found, is_word}
use Rattle.mk_lines.proofs.Fields.{field_found}
use Rattle.mk_lines.proofs.Numbers.{number_of_found}
use Rattle.mk_lines.proofs.Spelled.{map_found, operand_of_found, positions_found}
use Rattle.mk_lines.proofs.Variants.{op_line-words, op_found, instr_line-words, instr_found}

-- a state of these parts
abbrev pub at : Stage → Listing → Claimed → State
at stage code cert = record { stage = stage; code = code; cert = cert }

-- the text before the line of this stage
abbrev pub text_at : Stage → Listing → Claimed → List ℕ
text_at Version code cert = []
text_at Field code cert = line (codes "mask 1")
text_at Order code cert = line (codes "mask 1") ++ field_line code.field
text_at Secrets code cert = line (codes "mask 1") ++ field_line code.field ++ number_line (codes "order") code.order
text_at Publics code cert = line (codes "mask 1") ++ field_line code.field ++ number_line (codes "order") code.order ++ number_line (codes "secrets") code.secrets
text_at Upper code cert = upper_text code cert
text_at Lower code cert = lower_text code cert
text_at Ended code cert = text code cert

-- what has not come yet is empty
pub record IsFresh (code : Listing) (cert : Claimed) : Type 0 where
  pub maps : code.maps ≡ []
  pub instrs : code.instrs ≡ []
  pub outs : code.outs ≡ []
  pub blocks : cert.blocks ≡ []
  pub claims : cert.claims ≡ []

-- no instruction and no output has come yet
pub record HasNoCode (code : Listing) : Type 0 where
  pub instrs : code.instrs ≡ []
  pub outs : code.outs ≡ []

-- what comes behind this stage is empty yet
abbrev pub IsBlank : Stage → Listing → Claimed → Type 0
IsBlank Version code cert = IsFresh code cert
IsBlank Field code cert = IsFresh code cert
IsBlank Order code cert = IsFresh code cert
IsBlank Secrets code cert = IsFresh code cert
IsBlank Publics code cert = IsFresh code cert
IsBlank Upper code cert = HasNoCode code
IsBlank Lower code cert = Unit {0}
IsBlank Ended code cert = Unit {0}

-- the pair so far is within the limits, of an order of version 1, and what comes behind the stage is empty yet
pub record Good (stage : Stage) (code : Listing) (cert : Claimed) : Type 0 where
  pub pair : IsPair code cert
  pub order : code.order ≤ TEXT_TOP_ORDER
  pub blank : IsBlank stage code cert

-- the line goes on with what was read
pub record Goes (stage : Stage) (code : Listing) (cert : Claimed) (l : List ℕ) (next : State) : Type 0 where
  pub good : Good next.stage next.code next.cert
  pub more : text_at next.stage next.code next.cert ≡ text_at stage code cert ++ line l

-- ---- lists

-- what holds of all of a list and of one thing more holds of all of them together
pub AllByRecursion-push : {A : Type 0} (P : A → Type 0) (xs : List A) (x : A) → AllByRecursion P xs → P x → AllByRecursion P (xs ++ x ∷ [])
AllByRecursion-push P [] x all here = (here, tt)
AllByRecursion-push P (y ∷ xs) x all here = (all.0, AllByRecursion-push P xs x all.1 here)

-- the spelling of a list with one thing more is that of the list and then that of the thing
pub flat_map-push : {A : Type 0} (f : A → List ℕ) (xs : List A) (x : A) → flat_map f (xs ++ x ∷ []) ≡ flat_map f xs ++ f x
flat_map-push f xs x = flat_map-append f xs (x ∷ []) ∙ ap (λ (r : List ℕ). flat_map f xs ++ r) (append-nil (f x))

-- a list with one thing more is longer by one
length-push : {A : Type 0} (xs : List A) (x : A) → length (xs ++ x ∷ []) ≡ length xs + 1
length-push xs x = length-append xs (x ∷ [])

-- ---- codes

-- a code with no instruction yet
pub empty_listing : (code : Listing) → (1 ≤ code.order) × (code.order ≤ TOP_ORDER) → code.secrets ≤ 65536 → code.publics ≤ 65536 → length code.maps ≤ 32768 → HasMapsOnlyInBytes code.field code.maps → HasNoCode code → IsListing code
empty_listing code order secrets publics maps bytes none = record {
  order = order;
  secrets = secrets;
  publics = publics;
  maps = maps;
  bytes = bytes;
  few = let e : length code.instrs ≡ 0 = ap length none.instrs in omega (arith, e);
  fit = subst (AllFit code.field (length code.maps) (inputs_len code.order code.secrets code.publics)) (sym none.instrs) tt;
  outs = λ k d below. (let e : length code.outs ≡ 0 = ap length none.outs in absurd (omega (arith, e, below)));
  outputs = (0, omega arith, (let e : length code.outs ≡ 0 = ap length none.outs in omega (arith, e)));
}

-- where there is no map, there are maps in bytes only
pub no_maps : (field : FieldId) (maps : List AddMap) → maps ≡ [] → HasMapsOnlyInBytes field maps
no_maps Gf2 maps none = none
no_maps Gf256 maps none = tt

-- in a field that has maps, there may be any
pub some_maps : (field : FieldId) (maps : List AddMap) → has_maps field ≡ true → HasMapsOnlyInBytes field maps
some_maps Gf2 maps e = absurd cc
some_maps Gf256 maps e = tt

-- where nothing has come behind the head, no code has come
no_code : (code : Listing) (cert : Claimed) → IsFresh code cert → HasNoCode code
no_code code cert fresh = record { instrs = fresh.instrs; outs = fresh.outs }

-- the head's numbers in a pair that has nothing else
pub fresh_pair : (code : Listing) (cert : Claimed) → IsFresh code cert → (1 ≤ code.order) × (code.order ≤ TOP_ORDER) → code.secrets ≤ 65536 → code.publics ≤ 65536 → IsPair code cert
fresh_pair code cert fresh order secrets publics = record {
  listing = empty_listing code order secrets publics (let e : length code.maps ≡ 0 = ap length fresh.maps in omega (arith, e)) (no_maps code.field code.maps fresh.maps) (no_code code cert fresh);
  maps = subst (AllByRecursion MapFits) (sym fresh.maps) tt;
  blocks = subst (AllByRecursion OpFits) (sym fresh.blocks) tt;
  claims = subst (AllByRecursion OperandFits) (sym fresh.claims) tt;
  few_blocks = let e : length cert.blocks ≡ 0 = ap length fresh.blocks in omega (arith, e);
  few_claims = let e : length cert.claims ≡ 0 = ap length fresh.claims in omega (arith, e);
}

-- the same with another code that has as little
refreshed : (code other : Listing) (cert : Claimed) → IsFresh code cert → other.maps ≡ code.maps → other.instrs ≡ code.instrs → other.outs ≡ code.outs → IsFresh other cert
refreshed code other cert fresh maps instrs outs = record { maps = maps ∙ fresh.maps; instrs = instrs ∙ fresh.instrs; outs = outs ∙ fresh.outs; blocks = fresh.blocks; claims = fresh.claims }

-- ---- the head

-- the version's line, if it is read, goes on with the text so far
version_goes : (code : Listing) (cert : Claimed) (l : List ℕ) (next : State) → Good Version code cert → version_line (at Version code cert) l ≡ Some next → Goes Version code cert l next
unfolding version_line
version_goes code cert l next good e =
    let h = passed (bytes_eq l (codes "mask 1")) (Some (at Field code cert)) next e in
    let is : l ≡ codes "mask 1" = is_word l (codes "mask 1") h.0 in
    subst (Goes Version code cert l) (same_some (at Field code cert) next h.1) (record { good = record { pair = good.pair; order = good.order; blank = good.blank }; more = ap line (sym is) })

-- the field's line, if it is read, goes on with the text so far
field_goes : (code : Listing) (cert : Claimed) (l : List ℕ) (next : State) → Good Field code cert → field_read (at Field code cert) l ≡ Some next → Goes Field code cert l next
unfolding field_read
field_goes code cert l next good e =
    let h = bind_some (field_of l) (λ (field : FieldId). Some (at Order (record code { field = field }) cert)) next e in
    let made : Listing = record code { field = h.0 } in
    let fresh = refreshed code made cert good.blank refl refl refl in
    let listing = good.pair.listing in
    subst (Goes Field code cert l) (same_some (at Order made cert) next h.2) (record {
      good = record { pair = fresh_pair made cert fresh listing.order listing.secrets listing.publics; order = good.order; blank = fresh };
      more = ap (λ (r : List ℕ). line (codes "mask 1") ++ r) (field_found l h.0 h.1);
    })

-- a line from which a number is read is the name and that number, which is within the limit
pub headed_found : (name : List ℕ) (most : ℕ) (l : List ℕ) (n : ℕ) → headed name most l ≡ Some n → (l ≡ name ++ decimal n) × (n ≤ most)
unfolding headed
headed_found name most l n e =
    let a = bind_some (after name l) (λ (rest : List ℕ). number_of rest >>= λ m. cond (nat_lt most m) None (Some m)) n e in
    let b = bind_some (number_of a.0) (λ (m : ℕ). cond (nat_lt most m) None (Some m)) n a.2 in
    let h = not_passed (nat_lt most b.0) (Some b.0) n b.2 in
    let is : b.0 ≡ n = same_some b.0 n h.1 in
    (after_found name l a.0 a.1 ∙ ap (λ (r : List ℕ). name ++ r) ((number_of_found a.0 b.0 b.1).0 ∙ ap decimal is), omega (arith, is, ltb-false most b.0 h.0))

-- the order's line, if it is read, goes on with the text so far
order_goes : (code : Listing) (cert : Claimed) (l : List ℕ) (next : State) → Good Order code cert → order_read TEXT_TOP_ORDER (at Order code cert) l ≡ Some next → Goes Order code cert l next
unfolding order_read
order_goes code cert l next good e =
    let a = bind_some (headed (codes "order ") TEXT_TOP_ORDER l) (λ (n : ℕ). cond (nat_lt n 1) None (Some (at Secrets (record code { order = n }) cert))) next e in
    let made : Listing = record code { order = a.0 } in
    let h = not_passed (nat_lt a.0 1) (Some (at Secrets made cert)) next a.2 in
    let found = headed_found (codes "order ") TEXT_TOP_ORDER l a.0 a.1 in
    let low : 1 ≤ a.0 = ltb-false a.0 1 h.0 in
    let most : a.0 ≤ TEXT_TOP_ORDER = found.1 in
    let any : a.0 ≤ TOP_ORDER = omega (arith, most) in
    let fresh = refreshed code made cert good.blank refl refl refl in
    let listing = good.pair.listing in
    subst (Goes Order code cert l) (same_some (at Secrets made cert) next h.1) (record {
      good = record { pair = fresh_pair made cert fresh (low, any) listing.secrets listing.publics; order = most; blank = fresh };
      more = ap (λ (r : List ℕ). line (codes "mask 1") ++ field_line code.field ++ line r) (sym found.0);
    })

-- the same for the line of the number of secrets
secrets_goes : (code : Listing) (cert : Claimed) (l : List ℕ) (next : State) → Good Secrets code cert → secrets_read (at Secrets code cert) l ≡ Some next → Goes Secrets code cert l next
unfolding secrets_read
secrets_goes code cert l next good e =
    let a = bind_some (headed (codes "secrets ") 65536 l) (λ (n : ℕ). Some (at Publics (record code { secrets = n }) cert)) next e in
    let made : Listing = record code { secrets = a.0 } in
    let found = headed_found (codes "secrets ") 65536 l a.0 a.1 in
    let fresh = refreshed code made cert good.blank refl refl refl in
    let listing = good.pair.listing in
    subst (Goes Secrets code cert l) (same_some (at Publics made cert) next a.2) (record {
      good = record { pair = fresh_pair made cert fresh listing.order found.1 listing.publics; order = good.order; blank = fresh };
      more = ap (λ (r : List ℕ). line (codes "mask 1") ++ field_line code.field ++ number_line (codes "order") code.order ++ line r) (sym found.0);
    })

-- nothing stands behind the head yet
head_alone : (code : Listing) (cert : Claimed) → IsFresh code cert → upper_text code cert ≡ head_lines code
head_alone code cert fresh = rw (fresh.maps, fresh.blocks, fresh.claims) (append-nil (head_lines code ++ [] ++ []) ∙ append-nil (head_lines code ++ []) ∙ append-nil (head_lines code))

-- the same for the line of the number of publics
publics_goes : (code : Listing) (cert : Claimed) (l : List ℕ) (next : State) → Good Publics code cert → publics_read (at Publics code cert) l ≡ Some next → Goes Publics code cert l next
unfolding publics_read
publics_goes code cert l next good e =
    let a = bind_some (headed (codes "publics ") 65536 l) (λ (n : ℕ). Some (at Upper (record code { publics = n }) cert)) next e in
    let made : Listing = record code { publics = a.0 } in
    let found = headed_found (codes "publics ") 65536 l a.0 a.1 in
    let fresh = refreshed code made cert good.blank refl refl refl in
    let listing = good.pair.listing in
    subst (Goes Publics code cert l) (same_some (at Upper made cert) next a.2) (record {
      good = record { pair = fresh_pair made cert fresh listing.order listing.secrets found.1; order = good.order; blank = no_code made cert fresh };
      more = head_alone made cert fresh ∙ ap (λ (r : List ℕ). line (codes "mask 1") ++ field_line code.field ++ number_line (codes "order") code.order ++ number_line (codes "secrets") code.secrets ++ line r) (sym found.0);
    })

-- ---- maps, blocks and claims

-- a list shorter than a limit is within it with one thing more
pub few_of : {A : Type 0} (xs : List A) (x : A) (most : ℕ) → nat_lt (length xs) most ≡ true → length (xs ++ x ∷ []) ≤ most
few_of xs x most e = omega (arith, length-push xs x, ltb-true (length xs) most e)

-- a list shorter than 1 is empty
pub none_of : {A : Type 0} (xs : List A) → nat_lt (length xs) 1 ≡ true → xs ≡ []
none_of xs e = nil_from_length xs (omega (arith, ltb-true (length xs) 1 e))

-- a map's line, if it is read, goes on with the text so far
map_goes : (code : Listing) (cert : Claimed) (l words : List ℕ) (next : State) → Good Upper code cert → l ≡ codes "map " ++ words → map_read (at Upper code cert) words ≡ Some next → Goes Upper code cert l next
unfolding map_read may_map
map_goes code cert l words next good here e =
    let a = bind_some (map_of words) (λ (map : AddMap). cond (may_map (at Upper code cert)) (Some (at Upper (record code { maps = code.maps ++ map ∷ [] }) cert)) None) next e in
    let map = a.0 in
    let made : Listing = record code { maps = code.maps ++ map ∷ [] } in
    let h = passed (may_map (at Upper code cert)) (Some (at Upper made cert)) next a.2 in
    let p = and_parts (has_maps code.field && nat_lt (length cert.blocks) 1 && nat_lt (length cert.claims) 1) (nat_lt (length code.maps) 32768) h.0 in
    let q = and_parts (has_maps code.field && nat_lt (length cert.blocks) 1) (nat_lt (length cert.claims) 1) p.0 in
    let r = and_parts (has_maps code.field) (nat_lt (length cert.blocks) 1) q.0 in
    let found = map_found words map a.1 in
    let listing = good.pair.listing in
    let none : HasNoCode made = record { instrs = good.blank.instrs; outs = good.blank.outs } in
    let spelled : map_line map ≡ line l = ap (λ (w : List ℕ). line (codes "map " ++ w)) (sym found.0) ∙ ap line (sym here) in
    subst (Goes Upper code cert l) (same_some (at Upper made cert) next h.1) (record {
      good = record {
        pair = record {
          listing = empty_listing made listing.order listing.secrets listing.publics (few_of code.maps map 32768 p.1) (some_maps code.field (code.maps ++ map ∷ []) r.0) none;
          maps = AllByRecursion-push MapFits code.maps map good.pair.maps found.1;
          blocks = good.pair.blocks;
          claims = good.pair.claims;
          few_blocks = good.pair.few_blocks;
          few_claims = good.pair.few_claims;
        };
        order = good.order;
        blank = none;
      };
      more = last_map (head_lines code) code.maps map (none_of cert.blocks r.1) (none_of cert.claims q.1) spelled;
    })
  where
    last_map : (head : List ℕ) (maps : List AddMap) (map : AddMap) → cert.blocks ≡ [] → cert.claims ≡ [] → map_line map ≡ line l
        → head ++ flat_map map_line (maps ++ map ∷ []) ++ flat_map op_line cert.blocks ++ flat_map claim_line cert.claims
        ≡ (head ++ flat_map map_line maps ++ flat_map op_line cert.blocks ++ flat_map claim_line cert.claims) ++ line l
    last_map head maps map no_blocks no_claims spelled = simp (no_blocks, no_claims, append-nil, flat_map-push map_line maps map, spelled, append_assoc)

-- the same for a block's line
block_goes : (code : Listing) (cert : Claimed) (l words : List ℕ) (next : State) → Good Upper code cert → l ≡ codes "block " ++ words → block_read (at Upper code cert) words ≡ Some next → Goes Upper code cert l next
unfolding block_read may_block
block_goes code cert l words next good here e =
    let a = bind_some (op_of words) (λ (op : Op). cond (may_block (at Upper code cert)) (Some (at Upper code (record cert { blocks = cert.blocks ++ op ∷ [] }))) None) next e in
    let op = a.0 in
    let made : Claimed = record cert { blocks = cert.blocks ++ op ∷ [] } in
    let h = passed (may_block (at Upper code cert)) (Some (at Upper code made)) next a.2 in
    let p = and_parts (nat_lt (length cert.claims) 1) (nat_lt (length cert.blocks) 131072) h.0 in
    let found = op_found words op a.1 in
    let spelled : op_line op ≡ line l = op_line-words op ∙ ap (λ (w : List ℕ). line (codes "block " ++ w)) (sym found.0) ∙ ap line (sym here) in
    subst (Goes Upper code cert l) (same_some (at Upper code made) next h.1) (record {
      good = record {
        pair = record {
          listing = good.pair.listing;
          maps = good.pair.maps;
          blocks = AllByRecursion-push OpFits cert.blocks op good.pair.blocks found.1;
          claims = good.pair.claims;
          few_blocks = few_of cert.blocks op 131072 p.1;
          few_claims = good.pair.few_claims;
        };
        order = good.order;
        blank = good.blank;
      };
      more = last_block (head_lines code ++ flat_map map_line code.maps) cert.blocks op (none_of cert.claims p.0) spelled;
    })
  where
    last_block : (head : List ℕ) (blocks : List Op) (op : Op) → cert.claims ≡ [] → op_line op ≡ line l
        → head ++ flat_map op_line (blocks ++ op ∷ []) ++ flat_map claim_line cert.claims ≡ (head ++ flat_map op_line blocks ++ flat_map claim_line cert.claims) ++ line l
    last_block head blocks op no_claims spelled = simp (no_claims, append-nil, flat_map-push op_line blocks op, spelled, append_assoc)

-- the same for a claim's line
claim_goes : (code : Listing) (cert : Claimed) (l words : List ℕ) (next : State) → Good Upper code cert → l ≡ codes "claim " ++ words → claim_read (at Upper code cert) words ≡ Some next → Goes Upper code cert l next
unfolding claim_read
claim_goes code cert l words next good here e =
    let a = bind_some (operand_of words) (λ (value : Operand). cond (nat_lt (length cert.claims) 65536) (Some (at Upper code (record cert { claims = cert.claims ++ value ∷ [] }))) None) next e in
    let value = a.0 in
    let made : Claimed = record cert { claims = cert.claims ++ value ∷ [] } in
    let h = passed (nat_lt (length cert.claims) 65536) (Some (at Upper code made)) next a.2 in
    let found = operand_of_found words value a.1 in
    let spelled : claim_line value ≡ line l = ap (λ (w : List ℕ). line (codes "claim " ++ w)) (sym found.0) ∙ ap line (sym here) in
    subst (Goes Upper code cert l) (same_some (at Upper code made) next h.1) (record {
      good = record {
        pair = record {
          listing = good.pair.listing;
          maps = good.pair.maps;
          blocks = good.pair.blocks;
          claims = AllByRecursion-push OperandFits cert.claims value good.pair.claims found.1;
          few_blocks = good.pair.few_blocks;
          few_claims = few_of cert.claims value 65536 h.0;
        };
        order = good.order;
        blank = good.blank;
      };
      more = last_claim (head_lines code ++ flat_map map_line code.maps ++ flat_map op_line cert.blocks) cert.claims value spelled;
    })
  where
    last_claim : (head : List ℕ) (claims : List Operand) (value : Operand) → claim_line value ≡ line l
        → head ++ flat_map claim_line (claims ++ value ∷ []) ≡ (head ++ flat_map claim_line claims) ++ line l
    last_claim head claims value spelled = simp (flat_map-push claim_line claims value, spelled, append_assoc)

-- nothing of the code stands there yet
pub no_outs : (shares : ℕ) (outs : List ℕ) → outs ≡ [] → out_lines shares (length outs / shares) outs ≡ []
no_outs shares outs none = out_lines-none shares (length outs / shares) outs (ap (λ (xs : List ℕ). length xs / shares) none ∙ zero-div shares)

-- the same for the line that the code follows
code_goes : (code : Listing) (cert : Claimed) (l : List ℕ) (next : State) → Good Upper code cert → code_read (at Upper code cert) l ≡ Some next → Goes Upper code cert l next
unfolding code_read
code_goes code cert l next good e =
    let h = passed (bytes_eq l (codes "code")) (Some (at Lower code cert)) next e in
    let is : l ≡ codes "code" = is_word l (codes "code") h.0 in
    subst (Goes Upper code cert l) (same_some (at Lower code cert) next h.1) (record {
      good = record { pair = good.pair; order = good.order; blank = tt };
      more = no_more (upper_text code cert) code.instrs (out_lines (code.order + 1) (length code.outs / (code.order + 1)) code.outs) good.blank.instrs (no_outs (code.order + 1) code.outs good.blank.outs) is;
    })
  where
    no_more : (upper : List ℕ) (instrs : List Instr) (outs : List ℕ) → instrs ≡ [] → outs ≡ [] → l ≡ codes "code" → upper ++ line (codes "code") ++ flat_map instr_line instrs ++ outs ≡ upper ++ line l
    no_more upper instrs outs none_i none_o is = rw (none_i, none_o, is) (append-nil (upper ++ line (codes "code") ++ []) ∙ append-nil (upper ++ line (codes "code")))

-- any line between the head and the code, if it is read, goes on with the text so far
upper_goes : (code : Listing) (cert : Claimed) (l : List ℕ) (next : State) → Good Upper code cert → upper_read (at Upper code cert) l ≡ Some next → Goes Upper code cert l next
unfolding upper_read
upper_goes code cert l next good e = elim (behind_found (codes "map ") l _ _ next e) [
  | inl h ↦ map_goes code cert l h.0 next good h.1 h.2
  | inr e ↦ elim (behind_found (codes "block ") l _ _ next e) [
    | inl h ↦ block_goes code cert l h.0 next good h.1 h.2
    | inr e ↦ elim (behind_found (codes "claim ") l _ _ next e) [
      | inl h ↦ claim_goes code cert l h.0 next good h.1 h.2
      | inr e ↦ code_goes code cert l next good e
    ]
  ]
]

-- ---- instructions and outputs

-- an instruction that passes the test fits behind so many entries
pub fits_found : (field : FieldId) (maps len : ℕ) (i : Instr) → fits_at field maps len i ≡ true → FitsAt field maps len i
unfolding fits_at
fits_found field maps len instr.Rnd e = tt
fits_found field maps len (instr.Const value) e = ltb-true value (size field) e
fits_found field maps len (instr.Copy from) e = ltb-true from len e
fits_found field maps len (instr.Add left right) e = let h = and_parts (nat_lt left len) (nat_lt right len) e in (ltb-true left len h.0, ltb-true right len h.1)
fits_found field maps len (instr.Mul left right) e = let h = and_parts (nat_lt left len) (nat_lt right len) e in (ltb-true left len h.0, ltb-true right len h.1)
fits_found field maps len (instr.Sq from) e = ltb-true from len e
fits_found field maps len (instr.Map map from) e = let h = and_parts (nat_lt map maps) (nat_lt from len) e in (ltb-true map maps h.0, ltb-true from len h.1)

-- an instruction's line, if it is read, goes on with the text so far
instr_goes : (code : Listing) (cert : Claimed) (l : List ℕ) (next : State) → Good Lower code cert → instr_read (at Lower code cert) l ≡ Some next → Goes Lower code cert l next
unfolding instr_read may_instr
instr_goes code cert l next good e =
    let a = bind_some (instr_of l) (λ (i : Instr). cond (may_instr (at Lower code cert) i) (Some (at Lower (record code { instrs = code.instrs ++ i ∷ [] }) cert)) None) next e in
    let i = a.0 in
    let made : Listing = record code { instrs = code.instrs ++ i ∷ [] } in
    let h = passed (may_instr (at Lower code cert) i) (Some (at Lower made cert)) next a.2 in
    let p = and_parts (nat_lt (length code.outs) 1 && nat_lt (length code.instrs) 8388608) (fits_at code.field (length code.maps) (trace_len code) i) h.0 in
    let q = and_parts (nat_lt (length code.outs) 1) (nat_lt (length code.instrs) 8388608) p.0 in
    let none : code.outs ≡ [] = none_of code.outs q.0 in
    let listing = good.pair.listing in
    let spelled : instr_line i ≡ line l = instr_line-words i ∙ ap line (sym (instr_found l i a.1)) in
    subst (Goes Lower code cert l) (same_some (at Lower made cert) next h.1) (record {
      good = record {
        pair = record {
          listing = record {
            order = listing.order;
            secrets = listing.secrets;
            publics = listing.publics;
            maps = listing.maps;
            bytes = listing.bytes;
            few = few_of code.instrs i 8388608 q.1;
            fit = AllFit-push code.field (length code.maps) (inputs_len code.order code.secrets code.publics) code.instrs i listing.fit (fits_found code.field (length code.maps) (trace_len code) i p.1);
            outs = λ k d below. (let e : length code.outs ≡ 0 = ap length none in absurd (omega (arith, e, below)));
            outputs = listing.outputs;
          };
          maps = good.pair.maps;
          blocks = good.pair.blocks;
          claims = good.pair.claims;
          few_blocks = good.pair.few_blocks;
          few_claims = good.pair.few_claims;
        };
        order = good.order;
        blank = tt;
      };
      more = last_instr (upper_text code cert ++ line (codes "code")) code.instrs i (out_lines (code.order + 1) (length code.outs / (code.order + 1)) code.outs) (no_outs (code.order + 1) code.outs none) spelled;
    })
  where
    last_instr : (head : List ℕ) (instrs : List Instr) (i : Instr) (outs : List ℕ) → outs ≡ [] → instr_line i ≡ line l
        → head ++ flat_map instr_line (instrs ++ i ∷ []) ++ outs ≡ (head ++ flat_map instr_line instrs ++ outs) ++ line l
    last_instr head instrs i outs none spelled = simp (none, append-nil, flat_map-push instr_line instrs i, spelled, append_assoc)

-- one more output
pub out_lines-push : (shares outputs : ℕ) (outs positions : List ℕ) → length outs ≡ outputs * shares → length positions ≡ shares
    → out_lines shares (suc outputs) (outs ++ positions) ≡ out_lines shares outputs outs ++ out_line positions
unfolding out_lines
out_lines-push shares zero outs positions all one =
    let none : outs ≡ [] = nil_from_length outs (omega (arith, all)) in
    let is : take shares (outs ++ positions) ≡ positions = ap (λ (xs : List ℕ). take shares (xs ++ positions)) none ∙ ap (λ (n : ℕ). take n positions) (sym one) ∙ take-length positions in
    append-nil (out_line (take shares (outs ++ positions))) ∙ ap out_line is
out_lines-push shares (suc outputs) outs positions all one =
    let long : shares ≤ length outs = omega (arith, all) in
    let first : take shares (outs ++ positions) ≡ take shares outs = take-append-le shares outs positions long in
    let left : drop shares (outs ++ positions) ≡ drop shares outs ++ positions = drop-append-le shares outs positions long in
    let rest = out_lines-push shares outputs (drop shares outs) positions (omega (arith, length-drop shares outs, all)) one in
    ap (λ (p : List ℕ). out_line p ++ out_lines shares (suc outputs) (drop shares (outs ++ positions))) first
    ∙ ap (λ (p : List ℕ). out_line (take shares outs) ++ out_lines shares (suc outputs) p) left
    ∙ ap (λ (p : List ℕ). out_line (take shares outs) ++ p) rest
    ∙ sym (append_assoc (out_line (take shares outs)) (out_lines shares outputs (drop shares outs)) (out_line positions))

-- where all positions are below a length, each of them is
all_below : (len : ℕ) (positions : List ℕ) → AllByRecursion (λ p. p < len) positions → (k d : ℕ) → k < length positions → slice_index_or positions k d < len
all_below len [] all k d below = absurd (omega (arith, below))
all_below len (p ∷ ps) all zero d below = all.0
all_below len (p ∷ ps) all (suc k) d below = all_below len ps all.1 k d (omega (arith, below))

-- an output's line, if it is read, goes on with the text so far
out_goes : (code : Listing) (cert : Claimed) (l words : List ℕ) (next : State) → Good Lower code cert → l ≡ codes "out" ++ words → out_read (at Lower code cert) words ≡ Some next → Goes Lower code cert l next
unfolding out_read
out_goes code cert l words next good here e =
    let shares : ℕ = code.order + 1 in
    let h = passed (nat_lt (length code.outs) (65536 * shares)) (positions_of shares (trace_len code) words >>= λ positions. Some (at Lower (record code { outs = code.outs ++ positions }) cert)) next e in
    let a = bind_some (positions_of shares (trace_len code) words) (λ (positions : List ℕ). Some (at Lower (record code { outs = code.outs ++ positions }) cert)) next h.1 in
    let positions = a.0 in
    let made : Listing = record code { outs = code.outs ++ positions } in
    let found = positions_found shares (trace_len code) words positions a.1 in
    let listing = good.pair.listing in
    let k : ℕ = listing.outputs.0 in
    let all : length code.outs ≡ k * shares = listing.outputs.2 in
    let room : length code.outs < 65536 * shares = ltb-true (length code.outs) (65536 * shares) h.0 in
    let few : k + 1 ≤ 65536 = fewer k shares (length code.outs) all room in
    let longer : length (code.outs ++ positions) ≡ (k + 1) * shares = length-append code.outs positions ∙ (omega (arith, all, found.1)) in
    let spelled : out_line positions ≡ line l = ap (λ (w : List ℕ). line (codes "out" ++ w)) (sym found.0) ∙ ap line (sym here) in
    let before : length code.outs / shares ≡ k = ap (λ (n : ℕ). n / shares) all ∙ mul-div_cancel k (omega arith) in
    let behind : length (code.outs ++ positions) / shares ≡ suc k = ap (λ (n : ℕ). n / shares) longer ∙ mul-div_cancel (k + 1) (omega arith) ∙ add-one k in
    subst (Goes Lower code cert l) (same_some (at Lower made cert) next a.2) (record {
      good = record {
        pair = record {
          listing = record {
            order = listing.order;
            secrets = listing.secrets;
            publics = listing.publics;
            maps = listing.maps;
            bytes = listing.bytes;
            few = listing.few;
            fit = listing.fit;
            outs = All-append (λ p. p < trace_len code) code.outs positions listing.outs (all_below (trace_len code) positions found.2);
            outputs = (k + 1, few, longer);
          };
          maps = good.pair.maps;
          blocks = good.pair.blocks;
          claims = good.pair.claims;
          few_blocks = good.pair.few_blocks;
          few_claims = good.pair.few_claims;
        };
        order = good.order;
        blank = tt;
      };
      more = last_out (upper_text code cert ++ line (codes "code") ++ flat_map instr_line code.instrs) shares (length (code.outs ++ positions) / shares) (length code.outs / shares) k code.outs positions behind before all found.1 spelled;
    })
  where
    fewer : (k shares len : ℕ) → len ≡ k * shares → len < 65536 * shares → k + 1 ≤ 65536
    fewer k shares len is below = let h : k * shares < 65536 * shares = rw is at below in omega (arith, lt_of_mul-lt-mul_right shares h)

    last_out : (head : List ℕ) (shares m n k : ℕ) (outs positions : List ℕ) → m ≡ suc k → n ≡ k → length outs ≡ k * shares → length positions ≡ shares → out_line positions ≡ line l
        → head ++ out_lines shares m (outs ++ positions) ≡ (head ++ out_lines shares n outs) ++ line l
    last_out head shares m n k outs positions more same all one spelled =
        rw (more, same) (ap (λ (r : List ℕ). head ++ r) (out_lines-push shares k outs positions all one ∙ ap (λ (r : List ℕ). out_lines shares k outs ++ r) spelled) ∙ sym (append_assoc head (out_lines shares k outs) (line l)))

-- the last line, if it is read, goes on with the text so far
end_goes : (code : Listing) (cert : Claimed) (l : List ℕ) (next : State) → Good Lower code cert → l ≡ codes "end" → at Ended code cert ≡ next → Goes Lower code cert l next
end_goes code cert l next good is made = subst (Goes Lower code cert l) made (record { good = record { pair = good.pair; order = good.order; blank = tt }; more = ap (λ (w : List ℕ). lower_text code cert ++ line w) (sym is) })

-- any line of the code, if it is read, goes on with the text so far
lower_goes : (code : Listing) (cert : Claimed) (l : List ℕ) (next : State) → Good Lower code cert → lower_read (at Lower code cert) l ≡ Some next → Goes Lower code cert l next
unfolding lower_read
lower_goes code cert l next good e = elim (behind_found (codes "out") l _ _ next e) [
  | inl h ↦ out_goes code cert l h.0 next good h.1 h.2
  | inr e ↦ elim (chosen (bytes_eq l (codes "end")) (Some (at Ended code cert)) (instr_read (at Lower code cert) l) (Some next) e) [
    | inl h ↦ end_goes code cert l next good (is_word l (codes "end") h.0) (same_some (at Ended code cert) next h.1)
    | inr h ↦ instr_goes code cert l next good h.1
  ]
]

-- ---- any line

-- a line of any stage, if it is read, goes on with the text so far
pub line_goes : (stage : Stage) (code : Listing) (cert : Claimed) (l : List ℕ) (next : State) → Good stage code cert → read_at stage (at stage code cert) l ≡ Some next → Goes stage code cert l next
unfolding read_at
line_goes Version code cert l next good e = version_goes code cert l next good e
line_goes Field code cert l next good e = field_goes code cert l next good e
line_goes Order code cert l next good e = order_goes code cert l next good e
line_goes Secrets code cert l next good e = secrets_goes code cert l next good e
line_goes Publics code cert l next good e = publics_goes code cert l next good e
line_goes Upper code cert l next good e = upper_goes code cert l next good e
line_goes Lower code cert l next good e = lower_goes code cert l next good e
line_goes Ended code cert l next good e = absurd cc
