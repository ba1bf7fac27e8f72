-- What was read so far of a text of version 2 is the front of the text of the pair so far, and the pair is within the limits.
use Rattle.std.proofs.Common.{◌≡◌, ℕ, suc, ◌+◌, ◌*◌, ◌/◌, ◌^◌, ◌<◌, ◌≤◌, true, List, [], ◌∷◌, ◌++◌, length, Option, Some, None, nat_lt, refl, sym, ap, ap₂, subst, ◌∙◌, inl, inr, arith, append_assoc, length-append, add-one}
use Rattle.std.specs.Prelude.{cond, codes, decimal, flat_map, bytes_eq, ◌&&◌, unwrap_or}
use Rattle.std.specs.List.{AllByRecursion}
use Rattle.std.specs.Option.{IsSome}
use Rattle.std.proofs.lemmas.Bool.{ltb-true, ltb-false, and_parts}
use Rattle.std.proofs.lemmas.List.{append-nil}
use Rattle.std.proofs.Math.Nat.{mul-div_cancel, mul-le-mul, lt_of_mul-lt-mul_right}
use Rattle.mk_base.specs.declared.TheConstants.{TOP_ORDER}
use Rattle.mk_field.specs.declared.field.FieldId.{FieldId}
use Rattle.mk_field.specs.declared.map.AddMap.{AddMap}
use Rattle.mk_field.specs.Field.{size, has_maps}
use Rattle.mk_field.specs.Maps.{MapFits}
use Rattle.mk_ssa.specs.declared.Operand.{Operand}
use Rattle.mk_ssa.specs.declared.Op.{Op}
use Rattle.mk_ssa.specs.Widths.{OperandFits, OpFits}
use Rattle.mk_code.specs.declared.instr.Instr.{Instr}
use Rattle.mk_code.specs.declared.instr.Instr.TheVariants as instr
use Rattle.mk_code.specs.declared.TheConstants.{MOST_INPUTS, MOST_MAPS, MOST_INSTRS}
use Rattle.mk_code.specs.Listing.{Listing, inputs_len}
use Rattle.mk_regs.specs.declared.TheConstants.{MOST_REGISTERS}
use Rattle.mk_regs.specs.declared.instr.RegInstr.{RegInstr}
use Rattle.mk_regs.specs.Form.{RegListing, HasParts, target, operation, into_register}
use Rattle.mk_rules.specs.declared.TheConstants.{MOST_BLOCKS, MOST_CLAIMS}
use Rattle.mk_rules.specs.Claimed.{Claimed}
use Rattle.mk_lines.specs.Words.{line}
use Rattle.mk_lines.specs.CertLines.{op_line, claim_line}
use Rattle.mk_lines.specs.CodeLines.{field_line, map_line, into_line, out_line, out_lines, IntoFits}
use Rattle.mk_lines.specs.Parsing.{field_of, ◌>>=◌, map_of, operand_of, op_of, into_of, positions_of}
use Rattle.mk_lines.proofs.ByLines.{All-append, Front, front_more, front_same}
use Rattle.mk_lines.proofs.Steps.{bind_some, same_some, chosen, passed, not_passed, behind_found, is_word}
use Rattle.mk_lines.proofs.Fields.{field_found}
use Rattle.mk_lines.proofs.Spelled.{map_found, operand_of_found, positions_found}
use Rattle.mk_lines.proofs.Variants.{op_line-words, op_found, into_line-words, into_found}
use Rattle.mk_bundle.specs.Text.{number_line, first_lines, outputs_with, claimed_text, text_with, register_line, register_front, register_text}
use Rattle.mk_bundle.specs.Pairs.{IsRegisterPair, RegisterFits}
use Rattle.mk_bundle.specs.declared.draft.Stage.{Stage}
use Rattle.mk_bundle.specs.declared.draft.Stage.TheVariants.{Version, Field, Order, Secrets, Publics, Upper, Lower, Ended}
use Rattle.mk_bundle.specs.Reading.{State, headed, field_read, order_read, secrets_read, publics_read, may_map, map_read, may_block, block_read, claim_read, code_read}
use Rattle.mk_bundle.specs.RegisterReading.{RegisterState, share, register_version_line, registers_read, register_upper_read, has_parts, may_register_instr, register_instr_read, register_out_read, register_lower_read, register_read_at, register_line_read}
use Rattle.mk_bundle.specs.Versions.{register_opened, register_code}
use Rattle.mk_bundle.proofs.Sound.{at, AllByRecursion-push, flat_map-push, no_maps, some_maps, headed_found, few_of, none_of, no_outs, out_lines-push}

-- the lines before that of the code so far, by whether the number of registers came
abbrev pub upper_at : Option ℕ → RegListing → Claimed → List ℕ
upper_at None r cert = first_lines (codes "mask 2") r.field r.order r.secrets r.publics ++ flat_map map_line r.maps
upper_at (Some n) r cert = claimed_text (register_front r) cert

-- the text before the line of this stage
abbrev pub register_text_at : Stage → Option ℕ → RegListing → Claimed → List ℕ
register_text_at Version registers r cert = []
register_text_at Field registers r cert = line (codes "mask 2")
register_text_at Order registers r cert = line (codes "mask 2") ++ field_line r.field
register_text_at Secrets registers r cert = line (codes "mask 2") ++ field_line r.field ++ number_line (codes "order") r.order
register_text_at Publics registers r cert = line (codes "mask 2") ++ field_line r.field ++ number_line (codes "order") r.order ++ number_line (codes "secrets") r.secrets
register_text_at Upper registers r cert = upper_at registers r cert
register_text_at Lower registers r cert = claimed_text (register_front r) cert ++ line (codes "code") ++ flat_map register_line r.instrs ++ outputs_with r.order r.outs
register_text_at Ended registers r cert = register_text r cert

-- the text before the next line
abbrev pub register_so_far : RegisterState → List ℕ
register_so_far st = register_text_at st.shared.stage st.registers (register_code st) st.shared.cert

-- nothing behind the first lines has come yet
pub record HasFirst (registers : Option ℕ) (r : RegListing) (cert : Claimed) : Type 0 where
  pub maps : r.maps ≡ []
  pub number : registers ≡ None
  pub blocks : cert.blocks ≡ []
  pub claims : cert.claims ≡ []
  pub instrs : r.instrs ≡ []
  pub outs : r.outs ≡ []

-- nothing is claimed before the number of registers came
abbrev pub IsUnclaimed : Option ℕ → Claimed → Type 0
IsUnclaimed None cert = (cert.blocks ≡ []) × (cert.claims ≡ [])
IsUnclaimed (Some n) cert = Unit {0}

-- no instruction and no output has come yet, and before the number of registers no block and no claim
pub record HasUpper (registers : Option ℕ) (r : RegListing) (cert : Claimed) : Type 0 where
  pub unclaimed : IsUnclaimed registers cert
  pub instrs : r.instrs ≡ []
  pub outs : r.outs ≡ []

-- what comes behind this stage is empty yet, and behind the line of the code the number of registers is there
abbrev pub IsBlankAt : Stage → Option ℕ → RegListing → Claimed → Type 0
IsBlankAt Version registers r cert = HasFirst registers r cert
IsBlankAt Field registers r cert = HasFirst registers r cert
IsBlankAt Order registers r cert = HasFirst registers r cert
IsBlankAt Secrets registers r cert = HasFirst registers r cert
IsBlankAt Publics registers r cert = HasFirst registers r cert
IsBlankAt Upper registers r cert = HasUpper registers r cert
IsBlankAt Lower registers r cert = IsSome registers
IsBlankAt Ended registers r cert = IsSome registers

-- what was read so far is within the limits, and what comes behind its stage is empty yet
pub record GoodRegisters (st : RegisterState) : Type 0 where
  pub pair : IsRegisterPair (register_code st) st.shared.cert
  pub blank : IsBlankAt st.shared.stage st.registers (register_code st) st.shared.cert

-- nothing behind the first lines has come yet in this state
abbrev IsFirst : RegisterState → Type 0
IsFirst st = HasFirst st.registers (register_code st) st.shared.cert

-- the line goes on with what was read
abbrev pub GoesOn : RegisterState → List ℕ → RegisterState → Type 0
GoesOn st l next = GoodRegisters next × (register_so_far next ≡ register_so_far st ++ line l)

-- the state at this stage
abbrev on : Stage → RegisterState → RegisterState
on stage st = record st { shared = at stage st.shared.code st.shared.cert }

-- the state at this stage, with this code
abbrev with_code : Stage → RegisterState → Listing → RegisterState
with_code stage st code = record st { shared = at stage code st.shared.cert }

-- the state between the first lines and the code, where this number of registers came
abbrev upper : Option ℕ → RegisterState → RegisterState
upper registers st = record st { shared = at Upper st.shared.code st.shared.cert; registers = registers }

-- what both versions have was read one line further
share_found : (st : RegisterState) (read : Option State) (next : RegisterState) → share st read ≡ Some next → (shared : State) × (read ≡ Some shared) × (record st { shared = shared } ≡ next)
share_found st read next e =
    let a = bind_some read (λ (shared : State). Some (record st { shared = shared })) next e in
    (a.0, a.1, same_some (record st { shared = a.0 }) next a.2)

-- where this is what was read of what both versions have, the next state has it
share_made : (st : RegisterState) (made shared : State) (next : RegisterState) → ◌≡◌ {A = Option State} (Some made) (Some shared) → record st { shared = shared } ≡ next → record st { shared = made } ≡ next
share_made st made shared next read is = ap (λ (shared : State). record st { shared = shared }) (same_some made shared read) ∙ is

-- ---- the first lines

-- there are not more shares and publics than there may be registers
few_entries : (order secrets publics : ℕ) → order ≤ TOP_ORDER → secrets ≤ MOST_INPUTS → publics ≤ MOST_INPUTS → inputs_len order secrets publics ≤ MOST_REGISTERS
few_entries order secrets publics low few_secrets few_publics =
    let shares : order + 1 ≤ TOP_ORDER + 1 = omega (arith, low) in
    let most : secrets * (order + 1) ≤ MOST_INPUTS * (TOP_ORDER + 1) = mul-le-mul few_secrets shares in
    omega (arith, most, few_publics)

-- the numbers of the first lines in a pair that has nothing else
first_pair : (st : RegisterState) → IsFirst st → (1 ≤ st.shared.code.order) × (st.shared.code.order ≤ TOP_ORDER) → st.shared.code.secrets ≤ MOST_INPUTS → st.shared.code.publics ≤ MOST_INPUTS
    → IsRegisterPair (register_code st) st.shared.cert
first_pair st first order secrets publics =
    let entries : ℕ = inputs_len st.shared.code.order st.shared.code.secrets st.shared.code.publics in
    let same : entries ≤ entries = omega arith in
    record {
      listing = record {
        order = order;
        secrets = secrets;
        publics = publics;
        registers = subst (λ (n : Option ℕ). (entries ≤ unwrap_or n entries) × (unwrap_or n entries ≤ MOST_REGISTERS)) (sym first.number) (same, few_entries st.shared.code.order st.shared.code.secrets st.shared.code.publics order.1 secrets publics);
        maps = let e : length st.shared.code.maps ≡ 0 = ap length first.maps in omega (arith, e);
        bytes = no_maps st.shared.code.field st.shared.code.maps first.maps;
        few = let e : length st.instrs ≡ 0 = ap length first.instrs in omega (arith, e);
        parts = subst (AllByRecursion (λ i. HasParts st.shared.code.field (length st.shared.code.maps) (operation i))) (sym first.instrs) tt;
        outputs = (0, omega arith, (let e : length st.outs ≡ 0 = ap length first.outs in omega (arith, e)));
      };
      maps = subst (AllByRecursion MapFits) (sym first.maps) tt;
      instrs = subst (AllByRecursion RegisterFits) (sym first.instrs) tt;
      outs = subst (AllByRecursion (λ register. register < 2 ^ 32)) (sym first.outs) tt;
      blocks = subst (AllByRecursion OpFits) (sym first.blocks) tt;
      claims = subst (AllByRecursion OperandFits) (sym first.claims) tt;
      few_blocks = let e : length st.shared.cert.blocks ≡ 0 = ap length first.blocks in omega (arith, e);
      few_claims = let e : length st.shared.cert.claims ≡ 0 = ap length first.claims in omega (arith, e);
    }

-- the same with other code that has no map either
first_again : (stage : Stage) (st : RegisterState) (code : Listing) → IsFirst st → code.maps ≡ st.shared.code.maps → IsFirst (with_code stage st code)
first_again stage st code first maps = record { maps = maps ∙ first.maps; number = first.number; blocks = first.blocks; claims = first.claims; instrs = first.instrs; outs = first.outs }

-- the version's line, if it is read, goes on with the text so far
version_goes : (st : RegisterState) (l : List ℕ) (next : RegisterState) → GoodRegisters (on Version st) → register_version_line (on Version st) l ≡ Some next → GoesOn (on Version st) l next
unfolding register_version_line
version_goes st l next good e =
    let h = passed (bytes_eq l (codes "mask 2")) (Some (on Field st)) next e in
    let is : l ≡ codes "mask 2" = is_word l (codes "mask 2") h.0 in
    subst (GoesOn (on Version st) l) (same_some (on Field st) next h.1) (record { pair = good.pair; blank = good.blank }, ap line (sym is))

-- the field's line, if it is read, goes on with the text so far
field_goes : (st : RegisterState) (l : List ℕ) (next : RegisterState) → GoodRegisters (on Field st) → share (on Field st) (field_read (on Field st).shared l) ≡ Some next → GoesOn (on Field st) l next
unfolding field_read
field_goes st l next good e =
    let code : Listing = st.shared.code in
    let s = share_found (on Field st) (field_read (on Field st).shared l) next e in
    let a = bind_some (field_of l) (λ (field : FieldId). Some (at Order (record code { field = field }) st.shared.cert)) s.0 s.1 in
    let made : Listing = record code { field = a.0 } in
    let first = first_again Order st made good.blank refl in
    let listing = good.pair.listing in
    let is : with_code Order st made ≡ next = share_made st (at Order made st.shared.cert) s.0 next a.2 s.2 in
    subst (GoesOn (on Field st) l) is (record { pair = first_pair (with_code Order st made) first listing.order listing.secrets listing.publics; blank = first }, ap (λ (r : List ℕ). line (codes "mask 2") ++ r) (field_found l a.0 a.1))

-- the order's line, if it is read, goes on with the text so far
order_goes : (st : RegisterState) (l : List ℕ) (next : RegisterState) → GoodRegisters (on Order st) → share (on Order st) (order_read TOP_ORDER (on Order st).shared l) ≡ Some next → GoesOn (on Order st) l next
unfolding order_read
order_goes st l next good e =
    let code : Listing = st.shared.code in
    let s = share_found (on Order st) (order_read TOP_ORDER (on Order st).shared l) next e in
    let a = bind_some (headed (codes "order ") TOP_ORDER l) (λ (n : ℕ). cond (nat_lt n 1) None (Some (at Secrets (record code { order = n }) st.shared.cert))) s.0 s.1 in
    let made : Listing = record code { order = a.0 } in
    let h = not_passed (nat_lt a.0 1) (Some (at Secrets made st.shared.cert)) s.0 a.2 in
    let found = headed_found (codes "order ") TOP_ORDER l a.0 a.1 in
    let low : 1 ≤ a.0 = ltb-false a.0 1 h.0 in
    let first = first_again Secrets st made good.blank refl in
    let listing = good.pair.listing in
    let is : with_code Secrets st made ≡ next = share_made st (at Secrets made st.shared.cert) s.0 next h.1 s.2 in
    subst (GoesOn (on Order st) l) is (
      record { pair = first_pair (with_code Secrets st made) first (low, found.1) listing.secrets listing.publics; blank = first },
      ap (λ (r : List ℕ). line (codes "mask 2") ++ field_line code.field ++ line r) (sym found.0),
    )

-- the same for the line of the number of secrets
secrets_goes : (st : RegisterState) (l : List ℕ) (next : RegisterState) → GoodRegisters (on Secrets st) → share (on Secrets st) (secrets_read (on Secrets st).shared l) ≡ Some next → GoesOn (on Secrets st) l next
unfolding secrets_read
secrets_goes st l next good e =
    let code : Listing = st.shared.code in
    let s = share_found (on Secrets st) (secrets_read (on Secrets st).shared l) next e in
    let a = bind_some (headed (codes "secrets ") MOST_INPUTS l) (λ (n : ℕ). Some (at Publics (record code { secrets = n }) st.shared.cert)) s.0 s.1 in
    let made : Listing = record code { secrets = a.0 } in
    let found = headed_found (codes "secrets ") MOST_INPUTS l a.0 a.1 in
    let first = first_again Publics st made good.blank refl in
    let listing = good.pair.listing in
    let is : with_code Publics st made ≡ next = share_made st (at Publics made st.shared.cert) s.0 next a.2 s.2 in
    subst (GoesOn (on Secrets st) l) is (
      record { pair = first_pair (with_code Publics st made) first listing.order found.1 listing.publics; blank = first },
      ap (λ (r : List ℕ). line (codes "mask 2") ++ field_line code.field ++ number_line (codes "order") code.order ++ line r) (sym found.0),
    )

-- where nothing is behind the first lines, they stand alone
first_alone : (registers : Option ℕ) (r : RegListing) (cert : Claimed) → HasFirst registers r cert → upper_at registers r cert ≡ first_lines (codes "mask 2") r.field r.order r.secrets r.publics
first_alone registers r cert first = rw (first.number, first.maps) (append-nil (first_lines (codes "mask 2") r.field r.order r.secrets r.publics))

-- what has nothing behind the first lines has no code, and nothing is claimed
first_upper : (registers : Option ℕ) (r : RegListing) (cert : Claimed) → HasFirst registers r cert → HasUpper registers r cert
first_upper registers r cert first = record { unclaimed = subst (λ (n : Option ℕ). IsUnclaimed n cert) (sym first.number) (first.blocks, first.claims); instrs = first.instrs; outs = first.outs }

-- the same for the line of the number of publics
publics_goes : (st : RegisterState) (l : List ℕ) (next : RegisterState) → GoodRegisters (on Publics st) → share (on Publics st) (publics_read (on Publics st).shared l) ≡ Some next → GoesOn (on Publics st) l next
unfolding publics_read
publics_goes st l next good e =
    let code : Listing = st.shared.code in
    let s = share_found (on Publics st) (publics_read (on Publics st).shared l) next e in
    let a = bind_some (headed (codes "publics ") MOST_INPUTS l) (λ (n : ℕ). Some (at Upper (record code { publics = n }) st.shared.cert)) s.0 s.1 in
    let made : Listing = record code { publics = a.0 } in
    let found = headed_found (codes "publics ") MOST_INPUTS l a.0 a.1 in
    let first = first_again Upper st made good.blank refl in
    let listing = good.pair.listing in
    let is : with_code Upper st made ≡ next = share_made st (at Upper made st.shared.cert) s.0 next a.2 s.2 in
    subst (GoesOn (on Publics st) l) is (
      record { pair = first_pair (with_code Upper st made) first listing.order listing.secrets found.1; blank = first_upper st.registers (register_code (with_code Upper st made)) st.shared.cert first },
      first_alone st.registers (register_code (with_code Upper st made)) st.shared.cert first
          ∙ ap (λ (r : List ℕ). line (codes "mask 2") ++ field_line code.field ++ number_line (codes "order") code.order ++ number_line (codes "secrets") code.secrets ++ line r) (sym found.0),
    )

-- ---- maps, the number of registers, blocks and claims

-- one thing more, which is spelled as this line, at the end of a text
pushed : {A : Type 0} (spell : A → List ℕ) (head : List ℕ) (xs : List A) (x : A) (l : List ℕ) → spell x ≡ line l → head ++ flat_map spell (xs ++ x ∷ []) ≡ (head ++ flat_map spell xs) ++ line l
pushed spell head xs x l spelled = simp (flat_map-push spell xs x, spelled, append_assoc)

-- the same before what is empty
pushed_before : {A : Type 0} (spell : A → List ℕ) (head : List ℕ) (xs : List A) (x : A) (l tail : List ℕ) → tail ≡ [] → spell x ≡ line l → head ++ flat_map spell (xs ++ x ∷ []) ++ tail ≡ (head ++ flat_map spell xs ++ tail) ++ line l
pushed_before spell head xs x l tail none spelled = simp (none, append-nil, flat_map-push spell xs x, spelled, append_assoc)

-- a map's line, if it is read, goes on with the text so far
map_goes : (st : RegisterState) (l words : List ℕ) (next : RegisterState) → GoodRegisters (upper None st) → l ≡ codes "map " ++ words → share (upper None st) (map_read (upper None st).shared words) ≡ Some next → GoesOn (upper None st) l next
unfolding map_read may_map
map_goes st l words next good here e =
    let code : Listing = st.shared.code in
    let cert : Claimed = st.shared.cert in
    let s = share_found (upper None st) (map_read (upper None st).shared words) next e in
    let a = bind_some (map_of words) (λ (map : AddMap). cond (may_map (at Upper code cert)) (Some (at Upper (record code { maps = code.maps ++ map ∷ [] }) cert)) None) s.0 s.1 in
    let map = a.0 in
    let made : Listing = record code { maps = code.maps ++ map ∷ [] } in
    let h = passed (may_map (at Upper code cert)) (Some (at Upper made cert)) s.0 a.2 in
    let p = and_parts (has_maps code.field && nat_lt (length cert.blocks) 1 && nat_lt (length cert.claims) 1) (nat_lt (length code.maps) MOST_MAPS) h.0 in
    let q = and_parts (has_maps code.field && nat_lt (length cert.blocks) 1) (nat_lt (length cert.claims) 1) p.0 in
    let r = and_parts (has_maps code.field) (nat_lt (length cert.blocks) 1) q.0 in
    let found = map_found words map a.1 in
    let pair = good.pair in
    let listing = pair.listing in
    let spelled : map_line map ≡ line l = ap (λ (w : List ℕ). line (codes "map " ++ w)) (sym found.0) ∙ ap line (sym here) in
    let is : with_code Upper (upper None st) made ≡ next = share_made (upper None st) (at Upper made cert) s.0 next h.1 s.2 in
    subst (GoesOn (upper None st) l) is (
      record {
        pair = record {
          listing = record {
            order = listing.order;
            secrets = listing.secrets;
            publics = listing.publics;
            registers = listing.registers;
            maps = few_of code.maps map MOST_MAPS p.1;
            bytes = some_maps code.field (code.maps ++ map ∷ []) r.0;
            few = listing.few;
            parts = subst (AllByRecursion (λ i. HasParts code.field (length (code.maps ++ map ∷ [])) (operation i))) (sym good.blank.instrs) tt;
            outputs = listing.outputs;
          };
          maps = AllByRecursion-push MapFits code.maps map pair.maps found.1;
          instrs = pair.instrs;
          outs = pair.outs;
          blocks = pair.blocks;
          claims = pair.claims;
          few_blocks = pair.few_blocks;
          few_claims = pair.few_claims;
        };
        blank = record { unclaimed = good.blank.unclaimed; instrs = good.blank.instrs; outs = good.blank.outs };
      },
      pushed map_line (first_lines (codes "mask 2") code.field code.order code.secrets code.publics) code.maps map l spelled,
    )

-- the line of the number of registers, if it is read, goes on with the text so far
registers_goes : (st : RegisterState) (l : List ℕ) (next : RegisterState) → GoodRegisters (upper None st) → registers_read (upper None st) l ≡ Some next → GoesOn (upper None st) l next
unfolding registers_read
registers_goes st l next good e =
    let code : Listing = st.shared.code in
    let entries : ℕ = inputs_len code.order code.secrets code.publics in
    let a = bind_some (headed (codes "registers ") MOST_REGISTERS l) (λ (n : ℕ). cond (nat_lt n entries) None (Some (upper (Some n) st))) next e in
    let h = not_passed (nat_lt a.0 entries) (Some (upper (Some a.0) st)) next a.2 in
    let found = headed_found (codes "registers ") MOST_REGISTERS l a.0 a.1 in
    let pair = good.pair in
    let listing = pair.listing in
    subst (GoesOn (upper None st) l) (same_some (upper (Some a.0) st) next h.1) (
      record {
        pair = record {
          listing = record {
            order = listing.order;
            secrets = listing.secrets;
            publics = listing.publics;
            registers = (ltb-false a.0 entries h.0, found.1);
            maps = listing.maps;
            bytes = listing.bytes;
            few = listing.few;
            parts = listing.parts;
            outputs = listing.outputs;
          };
          maps = pair.maps;
          instrs = pair.instrs;
          outs = pair.outs;
          blocks = pair.blocks;
          claims = pair.claims;
          few_blocks = pair.few_blocks;
          few_claims = pair.few_claims;
        };
        blank = record { unclaimed = tt; instrs = good.blank.instrs; outs = good.blank.outs };
      },
      alone (first_lines (codes "mask 2") code.field code.order code.secrets code.publics ++ flat_map map_line code.maps) a.0 st.shared.cert good.blank.unclaimed found.0,
    )
  where
    alone : (head : List ℕ) (n : ℕ) (cert : Claimed) → (cert.blocks ≡ []) × (cert.claims ≡ []) → l ≡ codes "registers " ++ decimal n → claimed_text (head ++ number_line (codes "registers") n) cert ≡ head ++ line l
    alone head n cert none is =
        rw (none.0, none.1) (append-nil (head ++ number_line (codes "registers") n ++ []) ∙ append-nil (head ++ number_line (codes "registers") n) ∙ ap (λ (w : List ℕ). head ++ line w) (sym is))

-- a block's line, if it is read, goes on with the text so far
block_goes : (n : ℕ) (st : RegisterState) (l words : List ℕ) (next : RegisterState) → GoodRegisters (upper (Some n) st) → l ≡ codes "block " ++ words → share (upper (Some n) st) (block_read (upper (Some n) st).shared words) ≡ Some next → GoesOn (upper (Some n) st) l next
unfolding block_read may_block
block_goes n st l words next good here e =
    let code : Listing = st.shared.code in
    let cert : Claimed = st.shared.cert in
    let s = share_found (upper (Some n) st) (block_read (upper (Some n) st).shared words) next e in
    let a = bind_some (op_of words) (λ (op : Op). cond (may_block (at Upper code cert)) (Some (at Upper code (record cert { blocks = cert.blocks ++ op ∷ [] }))) None) s.0 s.1 in
    let op = a.0 in
    let made : Claimed = record cert { blocks = cert.blocks ++ op ∷ [] } in
    let h = passed (may_block (at Upper code cert)) (Some (at Upper code made)) s.0 a.2 in
    let p = and_parts (nat_lt (length cert.claims) 1) (nat_lt (length cert.blocks) MOST_BLOCKS) h.0 in
    let found = op_found words op a.1 in
    let pair = good.pair in
    let spelled : op_line op ≡ line l = op_line-words op ∙ ap (λ (w : List ℕ). line (codes "block " ++ w)) (sym found.0) ∙ ap line (sym here) in
    let unclaimed : flat_map claim_line cert.claims ≡ [] = ap (flat_map claim_line) (none_of cert.claims p.0) in
    let is : record (upper (Some n) st) { shared = at Upper code made } ≡ next = share_made (upper (Some n) st) (at Upper code made) s.0 next h.1 s.2 in
    subst (GoesOn (upper (Some n) st) l) is (
      record {
        pair = record {
          listing = pair.listing;
          maps = pair.maps;
          instrs = pair.instrs;
          outs = pair.outs;
          blocks = AllByRecursion-push OpFits cert.blocks op pair.blocks found.1;
          claims = pair.claims;
          few_blocks = few_of cert.blocks op MOST_BLOCKS p.1;
          few_claims = pair.few_claims;
        };
        blank = record { unclaimed = tt; instrs = good.blank.instrs; outs = good.blank.outs };
      },
      pushed_before op_line (register_front (register_code (upper (Some n) st))) cert.blocks op l (flat_map claim_line cert.claims) unclaimed spelled,
    )

-- the same for a claim's line
claim_goes : (n : ℕ) (st : RegisterState) (l words : List ℕ) (next : RegisterState) → GoodRegisters (upper (Some n) st) → l ≡ codes "claim " ++ words → share (upper (Some n) st) (claim_read (upper (Some n) st).shared words) ≡ Some next → GoesOn (upper (Some n) st) l next
unfolding claim_read
claim_goes n st l words next good here e =
    let code : Listing = st.shared.code in
    let cert : Claimed = st.shared.cert in
    let s = share_found (upper (Some n) st) (claim_read (upper (Some n) st).shared words) next e in
    let a = bind_some (operand_of words) (λ (value : Operand). cond (nat_lt (length cert.claims) MOST_CLAIMS) (Some (at Upper code (record cert { claims = cert.claims ++ value ∷ [] }))) None) s.0 s.1 in
    let value = a.0 in
    let made : Claimed = record cert { claims = cert.claims ++ value ∷ [] } in
    let h = passed (nat_lt (length cert.claims) MOST_CLAIMS) (Some (at Upper code made)) s.0 a.2 in
    let found = operand_of_found words value a.1 in
    let pair = good.pair in
    let spelled : claim_line value ≡ line l = ap (λ (w : List ℕ). line (codes "claim " ++ w)) (sym found.0) ∙ ap line (sym here) in
    let is : record (upper (Some n) st) { shared = at Upper code made } ≡ next = share_made (upper (Some n) st) (at Upper code made) s.0 next h.1 s.2 in
    subst (GoesOn (upper (Some n) st) l) is (
      record {
        pair = record {
          listing = pair.listing;
          maps = pair.maps;
          instrs = pair.instrs;
          outs = pair.outs;
          blocks = pair.blocks;
          claims = AllByRecursion-push OperandFits cert.claims value pair.claims found.1;
          few_blocks = pair.few_blocks;
          few_claims = few_of cert.claims value MOST_CLAIMS h.0;
        };
        blank = record { unclaimed = tt; instrs = good.blank.instrs; outs = good.blank.outs };
      },
      pushed claim_line (register_front (register_code (upper (Some n) st)) ++ flat_map op_line cert.blocks) cert.claims value l spelled,
    )

-- the line that the code follows, if it is read, goes on with the text so far
code_goes : (n : ℕ) (st : RegisterState) (l : List ℕ) (next : RegisterState) → GoodRegisters (upper (Some n) st) → share (upper (Some n) st) (code_read (upper (Some n) st).shared l) ≡ Some next → GoesOn (upper (Some n) st) l next
unfolding code_read
code_goes n st l next good e =
    let code : Listing = st.shared.code in
    let cert : Claimed = st.shared.cert in
    let s = share_found (upper (Some n) st) (code_read (upper (Some n) st).shared l) next e in
    let h = passed (bytes_eq l (codes "code")) (Some (at Lower code cert)) s.0 s.1 in
    let is_code : l ≡ codes "code" = is_word l (codes "code") h.0 in
    let is : on Lower (upper (Some n) st) ≡ next = share_made (upper (Some n) st) (at Lower code cert) s.0 next h.1 s.2 in
    subst (GoesOn (upper (Some n) st) l) is (
      record { pair = good.pair; blank = refl },
      no_more (claimed_text (register_front (register_code (upper (Some n) st))) cert) st.instrs (outputs_with code.order st.outs) good.blank.instrs (no_outs (code.order + 1) st.outs good.blank.outs) is_code,
    )
  where
    no_more : (head : List ℕ) (instrs : List RegInstr) (outs : List ℕ) → instrs ≡ [] → outs ≡ [] → l ≡ codes "code" → head ++ line (codes "code") ++ flat_map register_line instrs ++ outs ≡ head ++ line l
    no_more head instrs outs none_i none_o is = rw (none_i, none_o, is) (append-nil (head ++ line (codes "code") ++ []) ∙ append-nil (head ++ line (codes "code")))

-- any line between the head and the code, if it is read, goes on with the text so far
upper_goes : (registers : Option ℕ) (st : RegisterState) (l : List ℕ) (next : RegisterState) → GoodRegisters (upper registers st) → register_upper_read registers (upper registers st) l ≡ Some next → GoesOn (upper registers st) l next
unfolding register_upper_read
upper_goes None st l next good e = elim (behind_found (codes "map ") l _ _ next e) [ inl h ↦ map_goes st l h.0 next good h.1 h.2 | inr e ↦ registers_goes st l next good e ]
upper_goes (Some n) st l next good e = elim (behind_found (codes "block ") l _ _ next e) [
  | inl h ↦ block_goes n st l h.0 next good h.1 h.2
  | inr e ↦ elim (behind_found (codes "claim ") l _ _ next e) [ inl h ↦ claim_goes n st l h.0 next good h.1 h.2 | inr e ↦ code_goes n st l next good e ]
]

-- ---- instructions and outputs

-- an instruction that passes the test has its parts
parts_found : (field : FieldId) (maps : ℕ) (i : Instr) → has_parts field maps i ≡ true → HasParts field maps i
unfolding has_parts
parts_found field maps instr.Rnd e = tt
parts_found field maps (instr.Const value) e = ltb-true value (size field) e
parts_found field maps (instr.Copy from) e = tt
parts_found field maps (instr.Add left right) e = tt
parts_found field maps (instr.Mul left right) e = tt
parts_found field maps (instr.Sq from) e = tt
parts_found field maps (instr.Map map from) e = ltb-true map maps e

-- the instruction that does this and writes that register does this
same_operation : (to : ℕ) (i : Instr) → operation (into_register to i) ≡ i
same_operation to instr.Rnd = refl
same_operation to (instr.Const value) = refl
same_operation to (instr.Copy from) = refl
same_operation to (instr.Add left right) = refl
same_operation to (instr.Mul left right) = refl
same_operation to (instr.Sq from) = refl
same_operation to (instr.Map map from) = refl

-- the instruction that does this and writes that register writes that register
same_target : (to : ℕ) (i : Instr) → target (into_register to i) ≡ to
same_target to instr.Rnd = refl
same_target to (instr.Const value) = refl
same_target to (instr.Copy from) = refl
same_target to (instr.Add left right) = refl
same_target to (instr.Mul left right) = refl
same_target to (instr.Sq from) = refl
same_target to (instr.Map map from) = refl

-- an instruction's line, if it is read, goes on with the text so far
instr_goes : (st : RegisterState) (l : List ℕ) (next : RegisterState) → GoodRegisters (on Lower st) → register_instr_read (on Lower st) l ≡ Some next → GoesOn (on Lower st) l next
unfolding register_instr_read may_register_instr
instr_goes st l next good e =
    let code : Listing = st.shared.code in
    let a = bind_some (into_of l) (λ (x : ℕ × Instr). cond (may_register_instr (on Lower st) x.1) (Some (record (on Lower st) { instrs = st.instrs ++ into_register x.0 x.1 ∷ [] })) None) next e in
    let to : ℕ = a.0.0 in
    let does : Instr = a.0.1 in
    let i : RegInstr = into_register to does in
    let made : RegisterState = record (on Lower st) { instrs = st.instrs ++ i ∷ [] } in
    let h = passed (may_register_instr (on Lower st) does) (Some made) next a.2 in
    let p = and_parts (nat_lt (length st.outs) 1 && nat_lt (length st.instrs) MOST_INSTRS) (has_parts code.field (length code.maps) does) h.0 in
    let q = and_parts (nat_lt (length st.outs) 1) (nat_lt (length st.instrs) MOST_INSTRS) p.0 in
    let none : st.outs ≡ [] = none_of st.outs q.0 in
    let found = into_found l a.0 a.1 in
    let fits : RegisterFits i = subst (λ (n : ℕ). IntoFits n (operation i)) (sym (same_target to does)) (subst (IntoFits to) (sym (same_operation to does)) found.1) in
    let parts : HasParts code.field (length code.maps) (operation i) = subst (HasParts code.field (length code.maps)) (sym (same_operation to does)) (parts_found code.field (length code.maps) does p.1) in
    let spelled : register_line i ≡ line l = ap₂ into_line (same_target to does) (same_operation to does) ∙ into_line-words to does ∙ ap line (sym found.0) in
    let pair = good.pair in
    let listing = pair.listing in
    subst (GoesOn (on Lower st) l) (same_some made next h.1) (
      record {
        pair = record {
          listing = record {
            order = listing.order;
            secrets = listing.secrets;
            publics = listing.publics;
            registers = listing.registers;
            maps = listing.maps;
            bytes = listing.bytes;
            few = few_of st.instrs i MOST_INSTRS q.1;
            parts = AllByRecursion-push (λ i. HasParts code.field (length code.maps) (operation i)) st.instrs i listing.parts parts;
            outputs = listing.outputs;
          };
          maps = pair.maps;
          instrs = AllByRecursion-push RegisterFits st.instrs i pair.instrs fits;
          outs = pair.outs;
          blocks = pair.blocks;
          claims = pair.claims;
          few_blocks = pair.few_blocks;
          few_claims = pair.few_claims;
        };
        blank = good.blank;
      },
      pushed_before register_line (claimed_text (register_front (register_code (on Lower st))) st.shared.cert ++ line (codes "code")) st.instrs i l (outputs_with code.order st.outs) (no_outs (code.order + 1) st.outs none) spelled,
    )

-- an output's line, if it is read, goes on with the text so far
out_goes : (st : RegisterState) (l words : List ℕ) (next : RegisterState) → GoodRegisters (on Lower st) → l ≡ codes "out" ++ words → register_out_read (on Lower st) words ≡ Some next → GoesOn (on Lower st) l next
unfolding register_out_read
out_goes st l words next good here e =
    let shares : ℕ = st.shared.code.order + 1 in
    let h = passed (nat_lt (length st.outs) (MOST_INPUTS * shares)) (positions_of shares (2 ^ 32) words >>= λ registers. Some (record (on Lower st) { outs = st.outs ++ registers })) next e in
    let a = bind_some (positions_of shares (2 ^ 32) words) (λ (registers : List ℕ). Some (record (on Lower st) { outs = st.outs ++ registers })) next h.1 in
    let registers : List ℕ = a.0 in
    let made : RegisterState = record (on Lower st) { outs = st.outs ++ registers } in
    let found = positions_found shares (2 ^ 32) words registers a.1 in
    let pair = good.pair in
    let listing = pair.listing in
    let k : ℕ = listing.outputs.0 in
    let all : length st.outs ≡ k * shares = listing.outputs.2 in
    let room : length st.outs < MOST_INPUTS * shares = ltb-true (length st.outs) (MOST_INPUTS * shares) h.0 in
    let few : k + 1 ≤ MOST_INPUTS = fewer k shares (length st.outs) all room in
    let longer : length (st.outs ++ registers) ≡ (k + 1) * shares = length-append st.outs registers ∙ (omega (arith, all, found.1)) in
    let spelled : out_line registers ≡ line l = ap (λ (w : List ℕ). line (codes "out" ++ w)) (sym found.0) ∙ ap line (sym here) in
    let before : length st.outs / shares ≡ k = ap (λ (n : ℕ). n / shares) all ∙ mul-div_cancel k (omega arith) in
    let behind : length (st.outs ++ registers) / shares ≡ suc k = ap (λ (n : ℕ). n / shares) longer ∙ mul-div_cancel (k + 1) (omega arith) ∙ add-one k in
    subst (GoesOn (on Lower st) l) (same_some made next a.2) (
      record {
        pair = record {
          listing = record {
            order = listing.order;
            secrets = listing.secrets;
            publics = listing.publics;
            registers = listing.registers;
            maps = listing.maps;
            bytes = listing.bytes;
            few = listing.few;
            parts = listing.parts;
            outputs = (k + 1, few, longer);
          };
          maps = pair.maps;
          instrs = pair.instrs;
          outs = All-append (λ register. register < 2 ^ 32) st.outs registers pair.outs found.2;
          blocks = pair.blocks;
          claims = pair.claims;
          few_blocks = pair.few_blocks;
          few_claims = pair.few_claims;
        };
        blank = good.blank;
      },
      last_out (claimed_text (register_front (register_code (on Lower st))) st.shared.cert ++ line (codes "code") ++ flat_map register_line st.instrs) shares (length (st.outs ++ registers) / shares) (length st.outs / shares) k st.outs registers behind before all found.1 spelled,
    )
  where
    fewer : (k shares len : ℕ) → len ≡ k * shares → len < MOST_INPUTS * shares → k + 1 ≤ MOST_INPUTS
    fewer k shares len is below = let h : k * shares < MOST_INPUTS * shares = rw is at below in omega (arith, lt_of_mul-lt-mul_right shares h)

    last_out : (head : List ℕ) (shares m n k : ℕ) (outs registers : List ℕ) → m ≡ suc k → n ≡ k → length outs ≡ k * shares → length registers ≡ shares → out_line registers ≡ line l
        → head ++ out_lines shares m (outs ++ registers) ≡ (head ++ out_lines shares n outs) ++ line l
    last_out head shares m n k outs registers more same all one spelled =
        rw (more, same) (ap (λ (r : List ℕ). head ++ r) (out_lines-push shares k outs registers all one ∙ ap (λ (r : List ℕ). out_lines shares k outs ++ r) spelled) ∙ sym (append_assoc head (out_lines shares k outs) (line l)))

-- the last line, if it is read, goes on with the text so far
end_goes : (st : RegisterState) (l : List ℕ) (next : RegisterState) → GoodRegisters (on Lower st) → l ≡ codes "end" → on Ended st ≡ next → GoesOn (on Lower st) l next
end_goes st l next good is made = subst (GoesOn (on Lower st) l) made (record { pair = good.pair; blank = good.blank }, ap (λ (w : List ℕ). register_so_far (on Lower st) ++ line w) (sym is))

-- any line of the code, if it is read, goes on with the text so far
lower_goes : (st : RegisterState) (l : List ℕ) (next : RegisterState) → GoodRegisters (on Lower st) → register_lower_read (on Lower st) l ≡ Some next → GoesOn (on Lower st) l next
unfolding register_lower_read
lower_goes st l next good e = elim (behind_found (codes "out") l _ _ next e) [
  | inl h ↦ out_goes st l h.0 next good h.1 h.2
  | inr e ↦ elim (chosen (bytes_eq l (codes "end")) (Some (on Ended st)) (register_instr_read (on Lower st) l) (Some next) e) [
    | inl h ↦ end_goes st l next good (is_word l (codes "end") h.0) (same_some (on Ended st) next h.1)
    | inr h ↦ instr_goes st l next good h.1
  ]
]

-- ---- any line

-- what a first line opens is good
pub opened_good : GoodRegisters register_opened
opened_good =
    let first : IsFirst register_opened = record { maps = refl; number = refl; blocks = refl; claims = refl; instrs = refl; outs = refl } in
    record { pair = first_pair register_opened first (omega arith, omega arith) (omega arith) (omega arith); blank = first }

-- the text so far is the first line
pub opened_text : register_so_far register_opened ≡ line (codes "mask 2")
opened_text = refl

-- a line of any stage, if it is read, goes on with the text so far
stage_goes : (stage : Stage) (st : RegisterState) (l : List ℕ) (next : RegisterState) → GoodRegisters (on stage st) → register_read_at stage (on stage st) l ≡ Some next → GoesOn (on stage st) l next
unfolding register_read_at
stage_goes Version st l next good e = version_goes st l next good e
stage_goes Field st l next good e = field_goes st l next good e
stage_goes Order st l next good e = order_goes st l next good e
stage_goes Secrets st l next good e = secrets_goes st l next good e
stage_goes Publics st l next good e = publics_goes st l next good e
stage_goes Upper st l next good e = upper_goes st.registers st l next good e
stage_goes Lower st l next good e = lower_goes st l next good e
stage_goes Ended st l next good e = absurd cc

-- a line that is read goes on with the text so far
pub register_line_goes : (st next : RegisterState) (l : List ℕ) → GoodRegisters st → register_line_read st l ≡ Some next → GoodRegisters next × (register_so_far next ≡ register_so_far st ++ line l)
register_line_goes st next l good e = stage_goes st.shared.stage st l next good e

-- ---- the text of the pair goes on with what was read

-- a text begins with what its lines before that of the code begin with
from_claimed : (xs front : List ℕ) (cert : Claimed) (instrs outs : List ℕ) → Front xs (claimed_text front cert) → Front xs (text_with front cert instrs outs)
from_claimed xs front cert instrs outs h =
    let begun : List ℕ = claimed_text front cert ++ line (codes "code") in
    front_more xs (begun ++ instrs ++ outs) (line (codes "end")) (front_more xs (begun ++ instrs) outs (front_more xs begun instrs (front_more xs (claimed_text front cert) (line (codes "code")) h)))

-- the text of a pair begins with what the lines before the number of registers begin with
from_maps : (xs : List ℕ) (r : RegListing) (cert : Claimed) → Front xs (upper_at None r cert) → Front xs (register_text r cert)
from_maps xs r cert h =
    let front : List ℕ = register_front r in
    from_claimed xs front cert (flat_map register_line r.instrs) (outputs_with r.order r.outs) (front_more xs (front ++ flat_map op_line cert.blocks) (flat_map claim_line cert.claims) (front_more xs front (flat_map op_line cert.blocks) (front_more xs (upper_at None r cert) (number_line (codes "registers") r.registers) h)))

-- the same for the lines before the number of publics
from_publics : (xs : List ℕ) (registers : Option ℕ) (r : RegListing) (cert : Claimed) → Front xs (register_text_at Publics registers r cert) → Front xs (register_text r cert)
from_publics xs registers r cert h =
    from_maps xs r cert (front_more xs (first_lines (codes "mask 2") r.field r.order r.secrets r.publics) (flat_map map_line r.maps) (front_more xs (register_text_at Publics registers r cert) (number_line (codes "publics") r.publics) h))

-- the same for the lines before the number of secrets
from_secrets : (xs : List ℕ) (registers : Option ℕ) (r : RegListing) (cert : Claimed) → Front xs (register_text_at Secrets registers r cert) → Front xs (register_text r cert)
from_secrets xs registers r cert h = from_publics xs registers r cert (front_more xs (register_text_at Secrets registers r cert) (number_line (codes "secrets") r.secrets) h)

-- the same for the lines before the order
from_order : (xs : List ℕ) (registers : Option ℕ) (r : RegListing) (cert : Claimed) → Front xs (register_text_at Order registers r cert) → Front xs (register_text r cert)
from_order xs registers r cert h = from_secrets xs registers r cert (front_more xs (register_text_at Order registers r cert) (number_line (codes "order") r.order) h)

-- the text of a pair begins with what stands before any stage of it
stage_completes : (stage : Stage) (registers : Option ℕ) (r : RegListing) (cert : Claimed) → Front (register_text_at stage registers r cert) (register_text r cert)
stage_completes Version registers r cert = (register_text r cert, refl)
stage_completes Field registers r cert = from_order (line (codes "mask 2")) registers r cert (front_more (line (codes "mask 2")) (line (codes "mask 2")) (field_line r.field) (front_same (line (codes "mask 2"))))
stage_completes Order registers r cert = from_order (register_text_at Order registers r cert) registers r cert (front_same (register_text_at Order registers r cert))
stage_completes Secrets registers r cert = from_secrets (register_text_at Secrets registers r cert) registers r cert (front_same (register_text_at Secrets registers r cert))
stage_completes Publics registers r cert = from_publics (register_text_at Publics registers r cert) registers r cert (front_same (register_text_at Publics registers r cert))
stage_completes Upper None r cert = from_maps (upper_at None r cert) r cert (front_same (upper_at None r cert))
stage_completes Upper (Some n) r cert =
    let claimed : List ℕ = claimed_text (register_front r) cert in
    from_claimed claimed (register_front r) cert (flat_map register_line r.instrs) (outputs_with r.order r.outs) (front_same claimed)
stage_completes Lower registers r cert =
    let lower : List ℕ = register_text_at Lower registers r cert in
    front_more lower lower (line (codes "end")) (front_same lower)
stage_completes Ended registers r cert = front_same (register_text r cert)

-- the text of the pair goes on with what was read of it
pub register_completes : (st : RegisterState) → GoodRegisters st → Front (register_so_far st) (register_text (register_code st) st.shared.cert)
register_completes st good = stage_completes st.shared.stage st.registers (register_code st) st.shared.cert

-- behind the last line all of the text was read
pub register_ended : (st : RegisterState) → st.shared.stage ≡ Ended → register_so_far st ≡ register_text (register_code st) st.shared.cert
register_ended st ended = ap (λ (stage : Stage). register_text_at stage st.registers (register_code st) st.shared.cert) ended
