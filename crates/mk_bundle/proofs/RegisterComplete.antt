-- The lines of the text of register code and its certificate are read, one after the other, up to both.
use Rattle.std.proofs.Common.{◌≡◌, ℕ, zero, suc, ◌+◌, ◌*◌, ◌/◌, ◌^◌, ◌<◌, ◌≤◌, true, List, [], ◌∷◌, ◌++◌, length, take, drop, Some, None, nat_lt, refl, sym, ap, subst, ◌∙◌, arith, append_assoc, length-append}
use Rattle.std.specs.Prelude.{codes, decimal, flat_map}
use Rattle.std.specs.List.{AllByRecursion}
use Rattle.std.proofs.lemmas.Bool.{lt-ltb, le-ltb}
use Rattle.std.proofs.lemmas.List.{append-nil, nil_from_length, take-append-drop, length-take-le, length-drop}
use Rattle.std.proofs.Math.Nat.{mul-div_cancel, mul-le-mul}
use Rattle.mk_base.specs.declared.TheConstants.{TOP_ORDER}
use Rattle.mk_field.specs.declared.field.FieldId.{FieldId}
use Rattle.mk_field.specs.declared.field.FieldId.TheVariants.{Gf2, Gf256}
use Rattle.mk_field.specs.declared.map.AddMap.{AddMap}
use Rattle.mk_field.specs.Field.{size, has_maps}
use Rattle.mk_field.specs.Maps.{MapFits}
use Rattle.mk_field.specs.Digits.{hex_byte}
use Rattle.mk_ssa.specs.declared.Operand.{Operand}
use Rattle.mk_ssa.specs.declared.Op.{Op}
use Rattle.mk_ssa.specs.Widths.{OperandFits, OpFits}
use Rattle.mk_code.specs.declared.instr.Instr.{Instr}
use Rattle.mk_code.specs.declared.instr.Instr.TheVariants as instr
use Rattle.mk_code.specs.Listing.{Listing}
use Rattle.mk_regs.specs.declared.instr.RegInstr.{RegInstr}
use Rattle.mk_regs.specs.declared.instr.RegInstr.TheVariants as reg
use Rattle.mk_regs.specs.Form.{RegListing, IsRegListing, HasParts, target, operation, into_register, entries_len}
use Rattle.mk_rules.specs.Claimed.{Claimed}
use Rattle.mk_lines.specs.Words.{line, operand_word}
use Rattle.mk_lines.specs.CertLines.{op_line, claim_line}
use Rattle.mk_lines.specs.CodeLines.{field_line, map_line, position_word, out_line, out_lines}
use Rattle.mk_lines.specs.Parsing.{field_of, after, positions_of}
use Rattle.mk_lines.proofs.ByLines.{All-front, All-back}
use Rattle.mk_lines.proofs.Spelled.{map_again, operand_of_again, positions_again}
use Rattle.mk_lines.proofs.Variants.{op_words, op_line-words, op_again, into_words, into_line-words, into_again}
use Rattle.mk_lines.proofs.Feeds.{is_line-decimal, is_line-images, is_line-positions, is_line-operand, is_line-op, is_line-into}
use Rattle.mk_bundle.specs.Text.{number_line, first_lines, register_line, register_front, register_text}
use Rattle.mk_bundle.specs.Pairs.{IsRegisterPair, RegisterFits}
use Rattle.mk_bundle.specs.declared.draft.Stage.{Stage}
use Rattle.mk_bundle.specs.declared.draft.Stage.TheVariants.{Field, Order, Secrets, Publics, Upper, Lower, Ended}
use Rattle.mk_bundle.specs.Reading.{field_read, order_read, secrets_read, publics_read, may_map, map_read, may_block, block_read, claim_read, code_read}
use Rattle.mk_bundle.specs.RegisterReading.{RegisterState, register_start, register_version_line, registers_read, register_upper_read, has_parts, may_register_instr, register_instr_read, register_out_read, register_lower_read, register_read_at, register_line_read}
use Rattle.mk_bundle.proofs.Sound.{at}
use Rattle.mk_bundle.proofs.Complete.{no_cert, head_only, headed_again, field_has_maps, All-at, fewer_done}
use Rattle.mk_bundle.proofs.Leading.{Leads, none_leads, one_leads, both_lead, many_lead}

-- lines of version 2 lead from one state to the other
abbrev pub Goes : RegisterState → List ℕ → RegisterState → Type 0
Goes from bytes to = Leads RegisterState register_line_read from bytes to

-- ---- the head

-- the state at a stage of the head
abbrev head_at : Stage → FieldId → ℕ → ℕ → ℕ → RegisterState
head_at stage field order secrets publics = record { shared = at stage (head_only field order secrets publics) no_cert; registers = None; instrs = []; outs = [] }

-- the version's line leads from the start to the line of the field
version_goes : Goes register_start (line (codes "mask 2")) (head_at Field Gf2 1 0 0)
unfolding register_version_line register_read_at
version_goes = one_leads register_line_read register_start (head_at Field Gf2 1 0 0) (codes "mask 2") refl refl

-- the field's line leads on to that of the order
field_goes : (field : FieldId) → Goes (head_at Field Gf2 1 0 0) (field_line field) (head_at Order field 1 0 0)
unfolding field_read field_of register_read_at
field_goes Gf2 = one_leads register_line_read (head_at Field Gf2 1 0 0) (head_at Order Gf2 1 0 0) (codes "field gf2") refl refl
field_goes Gf256 = one_leads register_line_read (head_at Field Gf2 1 0 0) (head_at Order Gf256 1 0 0) (codes "field gf256") refl refl

-- the order's line leads on to that of the number of secrets
order_goes : (field : FieldId) (n : ℕ) → 1 ≤ n → n ≤ TOP_ORDER → Goes (head_at Order field 1 0 0) (number_line (codes "order") n) (head_at Secrets field n 0 0)
unfolding order_read register_read_at
order_goes field n low few =
    one_leads register_line_read (head_at Order field 1 0 0) (head_at Secrets field n 0 0) (codes "order " ++ decimal n) (is_line-decimal n (omega arith))
    (rw (headed_again (codes "order ") TOP_ORDER n few (omega arith), le-ltb n 1 low) refl)

-- the line of the number of secrets leads on to that of the number of publics
secrets_go : (field : FieldId) (order n : ℕ) → n ≤ 65536 → Goes (head_at Secrets field order 0 0) (number_line (codes "secrets") n) (head_at Publics field order n 0)
unfolding secrets_read register_read_at
secrets_go field order n few =
    one_leads register_line_read (head_at Secrets field order 0 0) (head_at Publics field order n 0) (codes "secrets " ++ decimal n) (is_line-decimal n (omega arith))
    (rw (headed_again (codes "secrets ") 65536 n few (omega arith)) refl)

-- the line of the number of publics leads on to the maps
publics_go : (field : FieldId) (order secrets n : ℕ) → n ≤ 65536 → Goes (head_at Publics field order secrets 0) (number_line (codes "publics") n) (head_at Upper field order secrets n)
unfolding publics_read register_read_at
publics_go field order secrets n few =
    one_leads register_line_read (head_at Publics field order secrets 0) (head_at Upper field order secrets n) (codes "publics " ++ decimal n) (is_line-decimal n (omega arith))
    (rw (headed_again (codes "publics ") 65536 n few (omega arith)) refl)

-- the first lines lead from the start to the maps
head_goes : (r : RegListing) → IsRegListing r → Goes register_start (first_lines (codes "mask 2") r.field r.order r.secrets r.publics) (head_at Upper r.field r.order r.secrets r.publics)
head_goes r listing =
    both_lead _ _ _ _ _ _ (both_lead _ _ _ _ _ _ (both_lead _ _ _ _ _ _ (both_lead _ _ _ _ _ _ version_goes (field_goes r.field)) (order_goes r.field r.order listing.order.0 listing.order.1))
    (secrets_go r.field r.order r.secrets listing.secrets)) (publics_go r.field r.order r.secrets r.publics listing.publics)

-- ---- maps, the number of registers, blocks and claims

-- the code that has what both versions have
abbrev shared_code : RegListing → List AddMap → Listing
shared_code r maps = record { field = r.field; order = r.order; secrets = r.secrets; publics = r.publics; maps = maps; instrs = []; outs = [] }

-- the state behind the head and these maps
abbrev with_maps : RegListing → List AddMap → RegisterState
with_maps r maps = record { shared = at Upper (shared_code r maps) no_cert; registers = None; instrs = []; outs = [] }

-- the state behind the number of registers, these blocks and these claims
abbrev with_cert : RegListing → List Op → List Operand → RegisterState
with_cert r blocks claims = record { shared = at Upper (shared_code r r.maps) (record { blocks = blocks; claims = claims }); registers = Some r.registers; instrs = []; outs = [] }

-- the line of a map leads from the maps before it to these with it
map_goes : (r : RegListing) → IsRegListing r → AllByRecursion MapFits r.maps → (done : List AddMap) (map : AddMap) (left : List AddMap) → done ++ map ∷ left ≡ r.maps
    → Goes (with_maps r done) (map_line map) (with_maps r (done ++ map ∷ []))
unfolding register_read_at register_upper_read after map_read may_map
map_goes r listing fits done map left e =
    let few : nat_lt (length done) 32768 ≡ true = lt-ltb (length done) 32768 (omega (arith, fewer_done done map left r.maps e, listing.maps)) in
    let may : has_maps r.field ≡ true = field_has_maps r.field done left map r.maps e listing.bytes in
    one_leads register_line_read (with_maps r done) (with_maps r (done ++ map ∷ [])) (codes "map " ++ flat_map hex_byte map.images) (is_line-images map.images)
    (rw (map_again map (All-at MapFits done map left r.maps e fits), may, few) refl)

-- the line of the number of registers leads from all maps to the certificate
registers_go : (r : RegListing) → IsRegListing r → Goes (with_maps r r.maps) (number_line (codes "registers") r.registers) (with_cert r [] [])
unfolding register_read_at register_upper_read registers_read after
registers_go r listing =
    one_leads register_line_read (with_maps r r.maps) (with_cert r [] []) (codes "registers " ++ decimal r.registers) (is_line-decimal r.registers (omega (arith, listing.registers.1)))
    (rw (headed_again (codes "registers ") 16777216 r.registers listing.registers.1 (omega (arith, listing.registers.1)), le-ltb r.registers (entries_len r) listing.registers.0) refl)

-- the line of a block leads from the blocks before it to these with it
block_goes : (r : RegListing) (blocks : List Op) → AllByRecursion OpFits blocks → length blocks ≤ 131072 → (done : List Op) (op : Op) (left : List Op) → done ++ op ∷ left ≡ blocks
    → Goes (with_cert r done []) (op_line op) (with_cert r (done ++ op ∷ []) [])
unfolding register_read_at register_upper_read after block_read may_block
block_goes r blocks fits most done op left e =
    let few : nat_lt (length done) 131072 ≡ true = lt-ltb (length done) 131072 (omega (arith, fewer_done done op left blocks e)) in
    let fit : OpFits op = All-at OpFits done op left blocks e fits in
    subst (λ (bytes : List ℕ). Goes (with_cert r done []) bytes (with_cert r (done ++ op ∷ []) [])) (sym (op_line-words op))
    (one_leads register_line_read (with_cert r done []) (with_cert r (done ++ op ∷ []) []) (codes "block " ++ op_words op) (is_line-op op fit) (rw (op_again op fit, few) refl))

-- the line of a claim leads from the claims before it to these with it
claim_goes : (r : RegListing) (blocks : List Op) (claims : List Operand) → AllByRecursion OperandFits claims → length claims ≤ 65536 → (done : List Operand) (value : Operand) (left : List Operand) → done ++ value ∷ left ≡ claims
    → Goes (with_cert r blocks done) (claim_line value) (with_cert r blocks (done ++ value ∷ []))
unfolding register_read_at register_upper_read after claim_read
claim_goes r blocks claims fits most done value left e =
    let few : nat_lt (length done) 65536 ≡ true = lt-ltb (length done) 65536 (omega (arith, fewer_done done value left claims e)) in
    let fit : OperandFits value = All-at OperandFits done value left claims e fits in
    one_leads register_line_read (with_cert r blocks done) (with_cert r blocks (done ++ value ∷ [])) (codes "claim " ++ operand_word value) (is_line-operand value fit) (rw (operand_of_again value fit, few) refl)

-- ---- instructions and outputs

-- the state at a stage behind the certificate, these instructions and these outputs
abbrev pub behind_cert : Stage → RegListing → Claimed → List RegInstr → List ℕ → RegisterState
behind_cert stage r cert instrs outs = record { shared = at stage (shared_code r r.maps) cert; registers = Some r.registers; instrs = instrs; outs = outs }

-- the line that the code follows leads from the whole certificate to a code with no instruction
code_goes : (r : RegListing) (cert : Claimed) → Goes (with_cert r cert.blocks cert.claims) (line (codes "code")) (behind_cert Lower r cert [] [])
unfolding register_read_at register_upper_read after code_read
code_goes r cert = one_leads register_line_read (with_cert r cert.blocks cert.claims) (behind_cert Lower r cert [] []) (codes "code") refl refl

-- an instruction whose parts are there passes the test
parts_again : (field : FieldId) (maps : ℕ) (i : Instr) → HasParts field maps i → has_parts field maps i ≡ true
unfolding has_parts
parts_again field maps instr.Rnd parts = refl
parts_again field maps (instr.Const value) parts = lt-ltb value (size field) parts
parts_again field maps (instr.Copy from) parts = refl
parts_again field maps (instr.Add left right) parts = refl
parts_again field maps (instr.Mul left right) parts = refl
parts_again field maps (instr.Sq from) parts = refl
parts_again field maps (instr.Map map from) parts = lt-ltb map maps parts

-- an instruction is the one that does what it does and writes what it writes
same_instr : (i : RegInstr) → into_register (target i) (operation i) ≡ i
same_instr (reg.Rnd to) = refl
same_instr (reg.Const to value) = refl
same_instr (reg.Copy to from) = refl
same_instr (reg.Add to left right) = refl
same_instr (reg.Mul to left right) = refl
same_instr (reg.Sq to from) = refl
same_instr (reg.Map to map from) = refl

-- the words of an instruction are neither an output nor the end
instr_next : (st : RegisterState) (to : ℕ) (i : Instr) → register_lower_read st (into_words to i) ≡ register_instr_read st (into_words to i)
unfolding register_lower_read after
instr_next st to instr.Rnd = refl
instr_next st to (instr.Const value) = refl
instr_next st to (instr.Copy from) = refl
instr_next st to (instr.Add left right) = refl
instr_next st to (instr.Mul left right) = refl
instr_next st to (instr.Sq from) = refl
instr_next st to (instr.Map map from) = refl

-- the line of an instruction leads from the instructions before it to these with it
instr_goes : (r : RegListing) (cert : Claimed) → IsRegisterPair r cert → (done : List RegInstr) (i : RegInstr) (left : List RegInstr) → done ++ i ∷ left ≡ r.instrs
    → Goes (behind_cert Lower r cert done []) (register_line i) (behind_cert Lower r cert (done ++ i ∷ []) [])
unfolding register_read_at register_instr_read may_register_instr
instr_goes r cert pair done i left e =
    let few : nat_lt (length done) 8388608 ≡ true = lt-ltb (length done) 8388608 (omega (arith, fewer_done done i left r.instrs e, pair.listing.few)) in
    let fit : RegisterFits i = All-at RegisterFits done i left r.instrs e pair.instrs in
    let parts = parts_again r.field (length r.maps) (operation i) (All-at (λ i. HasParts r.field (length r.maps) (operation i)) done i left r.instrs e pair.listing.parts) in
    subst (λ (bytes : List ℕ). Goes (behind_cert Lower r cert done []) bytes (behind_cert Lower r cert (done ++ i ∷ []) [])) (sym (into_line-words (target i) (operation i)))
    (one_leads register_line_read (behind_cert Lower r cert done []) (behind_cert Lower r cert (done ++ i ∷ []) []) (into_words (target i) (operation i)) (is_line-into (target i) (operation i) fit)
    (instr_next (behind_cert Lower r cert done []) (target i) (operation i) ∙ rw (into_again (target i) (operation i) fit, few, parts, same_instr i) refl))

-- the line of an output leads from the outputs before it to these with it
out_goes : (r : RegListing) (cert : Claimed) (done registers : List ℕ) → length registers ≡ r.order + 1 → length done < 65536 * (r.order + 1) → AllByRecursion (λ n. n < 2 ^ 32) registers
    → Goes (behind_cert Lower r cert r.instrs done) (out_line registers) (behind_cert Lower r cert r.instrs (done ++ registers))
unfolding register_read_at register_lower_read after register_out_read
out_goes r cert done registers one room all =
    let found : positions_of (r.order + 1) (2 ^ 32) (flat_map position_word registers) ≡ Some registers =
    ap (λ (n : ℕ). positions_of n (2 ^ 32) (flat_map position_word registers)) (sym one) ∙ positions_again (2 ^ 32) registers (omega arith) all in
    one_leads register_line_read (behind_cert Lower r cert r.instrs done) (behind_cert Lower r cert r.instrs (done ++ registers)) (codes "out" ++ flat_map position_word registers) (is_line-positions registers all)
    (rw (lt-ltb (length done) (65536 * (r.order + 1)) room, found) refl)

-- the lines of the outputs that are left lead from those before them to all
outs_go : (r : RegListing) (cert : Claimed) → AllByRecursion (λ n. n < 2 ^ 32) r.outs → length r.outs ≤ 65536 * (r.order + 1)
    → (outputs : ℕ) (registers done : List ℕ) → length registers ≡ outputs * (r.order + 1) → done ++ registers ≡ r.outs
    → Goes (behind_cert Lower r cert r.instrs done) (out_lines (r.order + 1) outputs registers) (behind_cert Lower r cert r.instrs r.outs)
unfolding out_lines
outs_go r cert all most zero registers done len e =
    let none : registers ≡ [] = nil_from_length registers (omega (arith, len)) in
    let same : done ≡ r.outs = sym (append-nil done) ∙ ap (λ (l : List ℕ). done ++ l) (sym none) ∙ e in
    subst (λ (outs : List ℕ). Goes (behind_cert Lower r cert r.instrs done) [] (behind_cert Lower r cert r.instrs outs)) same (none_leads register_line_read (behind_cert Lower r cert r.instrs done))
outs_go r cert all most (suc outputs) registers done len e =
    let shares : ℕ = r.order + 1 in
    let long : shares ≤ length registers = omega (arith, len) in
    let first : length (take shares registers) ≡ shares = length-take-le shares registers long in
    let parts : take shares registers ++ drop shares registers ≡ registers = take-append-drop shares registers in
    let left : length (drop shares registers) ≡ outputs * shares = omega (arith, len, length-drop shares registers) in
    let regrouped : (done ++ take shares registers) ++ drop shares registers ≡ r.outs = append_assoc done (take shares registers) (drop shares registers) ∙ ap (λ (l : List ℕ). done ++ l) parts ∙ e in
    let below : AllByRecursion (λ n. n < 2 ^ 32) registers = All-back (λ n. n < 2 ^ 32) done registers (subst (AllByRecursion (λ n. n < 2 ^ 32)) (sym e) all) in
    let here : AllByRecursion (λ n. n < 2 ^ 32) (take shares registers) = All-front (λ n. n < 2 ^ 32) (take shares registers) (drop shares registers) (subst (AllByRecursion (λ n. n < 2 ^ 32)) (sym parts) below) in
    both_lead register_line_read (behind_cert Lower r cert r.instrs done) (behind_cert Lower r cert r.instrs (done ++ take shares registers)) (behind_cert Lower r cert r.instrs r.outs) (out_line (take shares registers)) (out_lines shares outputs (drop shares registers))
    (out_goes r cert done (take shares registers) first (omega (arith, most, long, ap length e, length-append done registers)) here)
    (outs_go r cert all most outputs (drop shares registers) (done ++ take shares registers) left regrouped)

-- the lines of all outputs lead from none of them to all
all_outs_go : (r : RegListing) (cert : Claimed) → IsRegisterPair r cert → Goes (behind_cert Lower r cert r.instrs []) (out_lines (r.order + 1) (length r.outs / (r.order + 1)) r.outs) (behind_cert Lower r cert r.instrs r.outs)
all_outs_go r cert pair =
    let shares : ℕ = r.order + 1 in
    let outputs : ℕ = pair.listing.outputs.0 in
    let all : length r.outs ≡ outputs * shares = pair.listing.outputs.2 in
    let count : length r.outs / shares ≡ outputs = ap (λ (n : ℕ). n / shares) all ∙ mul-div_cancel outputs (omega arith) in
    let same : shares ≤ shares = omega arith in
    let most : outputs * shares ≤ 65536 * shares = mul-le-mul pair.listing.outputs.1 same in
    subst (λ (n : ℕ). Goes (behind_cert Lower r cert r.instrs []) (out_lines shares n r.outs) (behind_cert Lower r cert r.instrs r.outs)) (sym count)
    (outs_go r cert pair.outs (omega (arith, all, most)) outputs r.outs [] all refl)

-- the last line leads from all outputs to the end
end_goes : (r : RegListing) (cert : Claimed) → Goes (behind_cert Lower r cert r.instrs r.outs) (line (codes "end")) (behind_cert Ended r cert r.instrs r.outs)
unfolding register_read_at register_lower_read after
end_goes r cert = one_leads register_line_read (behind_cert Lower r cert r.instrs r.outs) (behind_cert Ended r cert r.instrs r.outs) (codes "end") refl refl

-- the lines of the text lead from the start to the register code and the certificate
pub register_text_goes : (r : RegListing) (cert : Claimed) → IsRegisterPair r cert → Goes register_start (register_text r cert) (behind_cert Ended r cert r.instrs r.outs)
register_text_goes r cert pair =
    let step = register_line_read in
    let maps = many_lead step map_line (with_maps r) r.maps (map_goes r pair.listing pair.maps) r.maps [] refl in
    let blocks = many_lead step op_line (λ (bs : List Op). with_cert r bs []) cert.blocks (block_goes r cert.blocks pair.blocks pair.few_blocks) cert.blocks [] refl in
    let claims = many_lead step claim_line (λ (vs : List Operand). with_cert r cert.blocks vs) cert.claims (claim_goes r cert.blocks cert.claims pair.claims pair.few_claims) cert.claims [] refl in
    let instrs = many_lead step register_line (λ (is : List RegInstr). behind_cert Lower r cert is []) r.instrs (instr_goes r cert pair) r.instrs [] refl in
    let front : Goes register_start (register_front r) (with_cert r [] []) = both_lead _ _ _ _ _ _ (both_lead _ _ _ _ _ _ (head_goes r pair.listing) maps) (registers_go r pair.listing) in
    both_lead _ _ _ _ _ _ (both_lead _ _ _ _ _ _ (both_lead _ _ _ _ _ _ (both_lead _ _ _ _ _ _ (both_lead _ _ _ _ _ _ (both_lead _ _ _ _ _ _ front blocks) claims) (code_goes r cert)) instrs) (all_outs_go r cert pair)) (end_goes r cert)
