-- The lines of the text of a pair are read, one after the other, up to the pair.
use Rattle.std.proofs.Common.{◌≡◌, ℕ, zero, suc, ◌+◌, ◌*◌, ◌/◌, ◌^◌, ◌<◌, ◌≤◌, true, List, [], ◌∷◌, ◌++◌, length, take, drop, Option, Some, None, nat_lt, refl, sym, ap, subst, ◌∙◌, arith, append_assoc, length-append}
use Rattle.std.specs.Prelude.{codes, decimal, flat_map, slice_index_or}
use Rattle.std.specs.List.{AllByRecursion}
use Rattle.std.proofs.lemmas.Bool.{lt-ltb, le-ltb, and_from}
use Rattle.std.proofs.lemmas.List.{append-nil, nil_from_length, take-append-drop, length-take-le, length-drop}
use Rattle.std.proofs.lemmas.Grind.{flat_map-append}
use Rattle.std.proofs.Math.Nat.{mul-div_cancel, mul-le-mul}
use Rattle.mk_base.specs.declared.TheConstants.{TOP_ORDER}
use Rattle.mk_field.specs.declared.field.FieldId.{FieldId}
use Rattle.mk_field.specs.declared.field.FieldId.TheVariants.{Gf2, Gf256}
use Rattle.mk_field.specs.declared.map.AddMap.{AddMap}
use Rattle.mk_field.specs.Field.{size, HasMapsOnlyInBytes, has_maps}
use Rattle.mk_ssa.specs.declared.Operand.{Operand}
use Rattle.mk_ssa.specs.declared.Op.{Op}
use Rattle.mk_code.specs.declared.instr.Instr.{Instr}
use Rattle.mk_code.specs.declared.instr.Instr.TheVariants as instr
use Rattle.mk_code.specs.Listing.{Listing, IsListing, AllFit, FitsAt, inputs_len, trace_len}
use Rattle.mk_rules.specs.Claimed.{Claimed}
use Rattle.mk_lines.specs.Words.{line, operand_word, is_line}
use Rattle.mk_field.specs.Digits.{hex_byte}
use Rattle.mk_lines.specs.CertLines.{op_line, claim_line}
use Rattle.mk_lines.specs.CodeLines.{field_line, map_line, instr_line, position_word, out_line, out_lines, InstrFits}
use Rattle.mk_ssa.specs.Widths.{OperandFits, OpFits}
use Rattle.mk_field.specs.Maps.{MapFits}
use Rattle.mk_field.proofs.Raised.{element-byte}
use Rattle.mk_bundle.specs.Text.{number_line, head_lines, text}
use Rattle.mk_lines.specs.Lines.{AreLines}
use Rattle.mk_bundle.specs.Pairs.{IsTextPair}
use Rattle.mk_bundle.specs.declared.TheConstants.{TEXT_TOP_ORDER}
use Rattle.mk_bundle.specs.declared.draft.Stage.TheVariants.{Field, Order, Secrets, Publics, Upper, Lower, Ended}
use Rattle.mk_lines.specs.Parsing.{field_of, ◌>>=◌, after, positions_of}
use Rattle.mk_bundle.specs.Reading.{State, start, version_line, field_read, headed, order_read, secrets_read, publics_read, may_map, map_read, may_block, block_read, claim_read, code_read, upper_read, fits_at, may_instr, instr_read, out_read, lower_read, read_at, line_read, lines_read}
use Rattle.mk_lines.proofs.ByLines.{All-append, All-front, All-back}
use Rattle.mk_lines.proofs.Steps.{after_again}
use Rattle.mk_lines.proofs.Numbers.{number_of_again}
use Rattle.mk_lines.proofs.Spelled.{map_again, operand_of_again, positions_again}
use Rattle.mk_lines.proofs.Variants.{op_words, op_line-words, op_again, instr_words, instr_line-words, instr_again}
use Rattle.mk_lines.proofs.Feeds.{is_line-decimal, is_line-images, is_line-positions, is_line-operand, is_line-op, is_line-instr}
use Rattle.mk_bundle.proofs.Sound.{at}

-- ---- runs over lines

-- functions that agree give the same on what was read
pub bind_same : {A B : Type 0} (o : Option A) (f g : A → Option B) → ((x : A) → f x ≡ g x) → (o >>= f) ≡ (o >>= g)
bind_same (Some x) f g e = e x
bind_same None f g e = refl

-- what is read on in two steps is read on in one step made of both
pub bind_assoc : {A B C : Type 0} (o : Option A) (f : A → Option B) (g : B → Option C) → ((o >>= f) >>= g) ≡ (o >>= λ x. f x >>= g)
bind_assoc (Some x) f g = refl
bind_assoc None f g = refl

-- lines and then more lines are read as all of them are
pub lines_read-append : (st : State) (xs ys : List (List ℕ)) → lines_read st (xs ++ ys) ≡ (lines_read st xs >>= λ next. lines_read next ys)
unfolding lines_read
lines_read-append st [] ys = refl
lines_read-append st (x ∷ xs) ys =
    bind_same (line_read st x) (λ (next : State). lines_read next (xs ++ ys)) (λ (next : State). lines_read next xs >>= λ last. lines_read last ys) (λ next. lines_read-append next xs ys)
    ∙ sym (bind_assoc (line_read st x) (λ (next : State). lines_read next xs) (λ (last : State). lines_read last ys))

-- the bytes are lines that lead from one state to the other
pub record Runs (from : State) (bytes : List ℕ) (to : State) : Type 0 where
  pub lines : List (List ℕ)
  pub clean : AreLines lines
  pub spelled : bytes ≡ flat_map line lines
  pub read : lines_read from lines ≡ Some to

-- no line leads from a state to itself
none_runs : (st : State) → Runs st [] st
unfolding lines_read
none_runs st = record { lines = []; clean = tt; spelled = refl; read = refl }

-- a line that is read leads from one state to the next
one_runs : (from to : State) (l : List ℕ) → is_line l ≡ true → line_read from l ≡ Some to → Runs from (line l) to
unfolding lines_read
one_runs from to l clean e = record { lines = l ∷ []; clean = (clean, tt); spelled = sym (append-nil (line l)); read = ap (λ (o : Option State). o >>= λ next. Some next) e }

-- lines from one state to a second and others from there to a third lead from the first to the third
both_run : (a b c : State) (xs ys : List ℕ) → Runs a xs b → Runs b ys c → Runs a (xs ++ ys) c
both_run a b c xs ys first second = record {
  lines = first.lines ++ second.lines;
  clean = All-append (λ l. is_line l ≡ true) first.lines second.lines first.clean second.clean;
  spelled = ap (λ (r : List ℕ). r ++ ys) first.spelled ∙ ap (λ (r : List ℕ). flat_map line first.lines ++ r) second.spelled ∙ sym (flat_map-append line first.lines second.lines);
  read = lines_read-append a first.lines second.lines ∙ ap (λ (o : Option State). o >>= λ next. lines_read next second.lines) first.read ∙ second.read;
}

-- things of one kind, line by line
many_run : {A : Type 0} (spell : A → List ℕ) (state : List A → State) (all : List A) → ((done : List A) (x : A) (left : List A) → done ++ x ∷ left ≡ all → Runs (state done) (spell x) (state (done ++ x ∷ [])))
    → (todo done : List A) → done ++ todo ≡ all → Runs (state done) (flat_map spell todo) (state all)
many_run spell state all one [] done e = subst (λ xs. Runs (state done) [] (state xs)) (sym (append-nil done) ∙ e) (none_runs (state done))
many_run spell state all one (x ∷ todo) done e =
    both_run (state done) (state (done ++ x ∷ [])) (state all) (spell x) (flat_map spell todo) (one done x todo e) (many_run spell state all one todo (done ++ x ∷ []) (append_assoc done (x ∷ []) todo ∙ e))

-- what holds of all holds of one
pub All-at : {A : Type 0} (P : A → Type 0) (done : List A) (x : A) (left all : List A) → done ++ x ∷ left ≡ all → AllByRecursion P all → P x
All-at P done x left all e h = (All-back P done (x ∷ left) (subst (AllByRecursion P) (sym e) h)).0

-- what stands before one of a list is shorter than the list
pub fewer_done : {A : Type 0} (done : List A) (x : A) (left all : List A) → done ++ x ∷ left ≡ all → length done < length all
fewer_done done x left all e = omega (arith, ap length e, length-append done (x ∷ left))

-- ---- the head

-- a certificate of no block and no claim
abbrev pub no_cert : Claimed
no_cert = record { blocks = []; claims = [] }

-- a code of which only the head has come
abbrev pub head_only : FieldId → ℕ → ℕ → ℕ → Listing
head_only field order secrets publics = record { field = field; order = order; secrets = secrets; publics = publics; maps = []; instrs = []; outs = [] }

-- the version's line leads from the start to the line of the field
version_runs : Runs start (line (codes "mask 1")) (at Field (head_only Gf2 1 0 0) no_cert)
unfolding version_line read_at
version_runs = one_runs start (at Field (head_only Gf2 1 0 0) no_cert) (codes "mask 1") refl refl

-- the field's line leads on to that of the order
field_runs : (field : FieldId) → Runs (at Field (head_only Gf2 1 0 0) no_cert) (field_line field) (at Order (head_only field 1 0 0) no_cert)
unfolding field_read field_of read_at
field_runs Gf2 = one_runs (at Field (head_only Gf2 1 0 0) no_cert) (at Order (head_only Gf2 1 0 0) no_cert) (codes "field gf2") refl refl
field_runs Gf256 = one_runs (at Field (head_only Gf2 1 0 0) no_cert) (at Order (head_only Gf256 1 0 0) no_cert) (codes "field gf256") refl refl

-- from a name and a number within the limit that number is read
pub headed_again : (name : List ℕ) (most n : ℕ) → n ≤ most → n < 2 ^ 32 → headed name most (name ++ decimal n) ≡ Some n
unfolding headed
headed_again name most n few small = rw (after_again name (decimal n), number_of_again n small, le-ltb most n few) refl

-- the order's line leads on to that of the number of secrets
order_runs : (field : FieldId) (n : ℕ) → 1 ≤ n → n ≤ TEXT_TOP_ORDER → Runs (at Order (head_only field 1 0 0) no_cert) (number_line (codes "order") n) (at Secrets (head_only field n 0 0) no_cert)
unfolding order_read read_at
order_runs field n low few =
    one_runs (at Order (head_only field 1 0 0) no_cert) (at Secrets (head_only field n 0 0) no_cert) (codes "order " ++ decimal n) (is_line-decimal n (omega arith))
    (rw (headed_again (codes "order ") TEXT_TOP_ORDER n few (omega arith), le-ltb n 1 low) refl)

-- the line of the number of secrets leads on to that of the number of publics
secrets_run : (field : FieldId) (order n : ℕ) → n ≤ 65536 → Runs (at Secrets (head_only field order 0 0) no_cert) (number_line (codes "secrets") n) (at Publics (head_only field order n 0) no_cert)
unfolding secrets_read read_at
secrets_run field order n few =
    one_runs (at Secrets (head_only field order 0 0) no_cert) (at Publics (head_only field order n 0) no_cert) (codes "secrets " ++ decimal n) (is_line-decimal n (omega arith))
    (rw (headed_again (codes "secrets ") 65536 n few (omega arith)) refl)

-- the line of the number of publics leads on to what stands between the head and the code
publics_run : (field : FieldId) (order secrets n : ℕ) → n ≤ 65536 → Runs (at Publics (head_only field order secrets 0) no_cert) (number_line (codes "publics") n) (at Upper (head_only field order secrets n) no_cert)
unfolding publics_read read_at
publics_run field order secrets n few =
    one_runs (at Publics (head_only field order secrets 0) no_cert) (at Upper (head_only field order secrets n) no_cert) (codes "publics " ++ decimal n) (is_line-decimal n (omega arith))
    (rw (headed_again (codes "publics ") 65536 n few (omega arith)) refl)

-- the lines of the head lead from the start to what stands between the head and the code
head_runs : (code : Listing) → IsListing code → code.order ≤ TEXT_TOP_ORDER → Runs start (head_lines code) (at Upper (head_only code.field code.order code.secrets code.publics) no_cert)
head_runs code listing most =
    both_run _ _ _ _ _ (both_run _ _ _ _ _ (both_run _ _ _ _ _ (both_run _ _ _ _ _ version_runs (field_runs code.field)) (order_runs code.field code.order listing.order.0 most))
    (secrets_run code.field code.order code.secrets listing.secrets)) (publics_run code.field code.order code.secrets code.publics listing.publics)

-- ---- maps, blocks and claims

-- the state behind the head and these maps
abbrev with_maps : Listing → List AddMap → State
with_maps code maps = at Upper (record { field = code.field; order = code.order; secrets = code.secrets; publics = code.publics; maps = maps; instrs = []; outs = [] }) no_cert

-- the state behind all maps, these blocks and these claims
abbrev with_cert : Listing → List Op → List Operand → State
with_cert code blocks claims = at Upper (record { field = code.field; order = code.order; secrets = code.secrets; publics = code.publics; maps = code.maps; instrs = []; outs = [] }) (record { blocks = blocks; claims = claims })

-- a field that has a map is one of bytes
pub field_has_maps : (field : FieldId) (done left : List AddMap) (map : AddMap) (all : List AddMap) → done ++ map ∷ left ≡ all → HasMapsOnlyInBytes field all → has_maps field ≡ true
field_has_maps Gf2 done left map all e none = absurd (omega (arith, fewer_done done map left all e, ap length none))
field_has_maps Gf256 done left map all e bytes = refl

-- the line of a map leads from the maps before it to these with it
map_runs : (code : Listing) → IsListing code → AllByRecursion MapFits code.maps → (done : List AddMap) (map : AddMap) (left : List AddMap) → done ++ map ∷ left ≡ code.maps
    → Runs (with_maps code done) (map_line map) (with_maps code (done ++ map ∷ []))
unfolding read_at upper_read after map_read may_map
map_runs code listing fits done map left e =
    let few : nat_lt (length done) 32768 ≡ true = lt-ltb (length done) 32768 (omega (arith, fewer_done done map left code.maps e, listing.maps)) in
    let may : has_maps code.field ≡ true = field_has_maps code.field done left map code.maps e listing.bytes in
    one_runs (with_maps code done) (with_maps code (done ++ map ∷ [])) (codes "map " ++ flat_map hex_byte map.images) (is_line-images map.images)
    (rw (map_again map (All-at MapFits done map left code.maps e fits), may, few) refl)

-- the line of a block leads from the blocks before it to these with it
block_runs : (code : Listing) (blocks : List Op) → AllByRecursion OpFits blocks → length blocks ≤ 131072 → (done : List Op) (op : Op) (left : List Op) → done ++ op ∷ left ≡ blocks
    → Runs (with_cert code done []) (op_line op) (with_cert code (done ++ op ∷ []) [])
unfolding read_at upper_read after block_read may_block
block_runs code blocks fits most done op left e =
    let few : nat_lt (length done) 131072 ≡ true = lt-ltb (length done) 131072 (omega (arith, fewer_done done op left blocks e)) in
    let fit : OpFits op = All-at OpFits done op left blocks e fits in
    subst (λ (bytes : List ℕ). Runs (with_cert code done []) bytes (with_cert code (done ++ op ∷ []) [])) (sym (op_line-words op))
    (one_runs (with_cert code done []) (with_cert code (done ++ op ∷ []) []) (codes "block " ++ op_words op) (is_line-op op fit) (rw (op_again op fit, few) refl))

-- the line of a claim leads from the claims before it to these with it
claim_runs : (code : Listing) (blocks : List Op) (claims : List Operand) → AllByRecursion OperandFits claims → length claims ≤ 65536 → (done : List Operand) (value : Operand) (left : List Operand) → done ++ value ∷ left ≡ claims
    → Runs (with_cert code blocks done) (claim_line value) (with_cert code blocks (done ++ value ∷ []))
unfolding read_at upper_read after claim_read
claim_runs code blocks claims fits most done value left e =
    let few : nat_lt (length done) 65536 ≡ true = lt-ltb (length done) 65536 (omega (arith, fewer_done done value left claims e)) in
    let fit : OperandFits value = All-at OperandFits done value left claims e fits in
    one_runs (with_cert code blocks done) (with_cert code blocks (done ++ value ∷ [])) (codes "claim " ++ operand_word value) (is_line-operand value fit) (rw (operand_of_again value fit, few) refl)

-- ---- instructions and outputs

-- the state behind the certificate and these instructions
abbrev with_instrs : Listing → Claimed → List Instr → State
with_instrs code cert instrs = at Lower (record { field = code.field; order = code.order; secrets = code.secrets; publics = code.publics; maps = code.maps; instrs = instrs; outs = [] }) cert

-- the state behind all instructions and these outputs
abbrev with_outs : Listing → Claimed → List ℕ → State
with_outs code cert outs = at Lower (record code { outs = outs }) cert

-- the line that the code follows leads from the whole certificate to a code with no instruction
code_runs : (code : Listing) (cert : Claimed) → Runs (with_cert code cert.blocks cert.claims) (line (codes "code")) (with_instrs code cert [])
unfolding read_at upper_read after code_read
code_runs code cert = one_runs (with_cert code cert.blocks cert.claims) (with_instrs code cert []) (codes "code") refl refl

-- an instruction that fits behind so many entries passes the test
fits_again : (field : FieldId) (maps len : ℕ) (i : Instr) → FitsAt field maps len i → fits_at field maps len i ≡ true
unfolding fits_at
fits_again field maps len instr.Rnd fits = refl
fits_again field maps len (instr.Const value) fits = lt-ltb value (size field) fits
fits_again field maps len (instr.Copy from) fits = lt-ltb from len fits
fits_again field maps len (instr.Add left right) fits = and_from (nat_lt left len) (nat_lt right len) (lt-ltb left len fits.0) (lt-ltb right len fits.1)
fits_again field maps len (instr.Mul left right) fits = and_from (nat_lt left len) (nat_lt right len) (lt-ltb left len fits.0) (lt-ltb right len fits.1)
fits_again field maps len (instr.Sq from) fits = lt-ltb from len fits
fits_again field maps len (instr.Map map from) fits = and_from (nat_lt map maps) (nat_lt from len) (lt-ltb map maps fits.0) (lt-ltb from len fits.1)

-- in a trace of less than 2^32 entries the numbers of an instruction that fits have 32 bits
pub instr_fits : (field : FieldId) (maps len : ℕ) (i : Instr) → maps ≤ 32768 → len < 2 ^ 32 → FitsAt field maps len i → InstrFits i
instr_fits field maps len instr.Rnd few short fits = tt
instr_fits field maps len (instr.Const value) few short fits = element-byte field value fits
instr_fits field maps len (instr.Copy from) few short fits = omega (arith, fits)
instr_fits field maps len (instr.Add left right) few short fits = (omega (arith, fits.0), omega (arith, fits.1))
instr_fits field maps len (instr.Mul left right) few short fits = (omega (arith, fits.0), omega (arith, fits.1))
instr_fits field maps len (instr.Sq from) few short fits = omega (arith, fits)
instr_fits field maps len (instr.Map map from) few short fits = (omega (arith, fits.0), omega (arith, fits.1))

-- within the limits the inputs and the instructions are less than 2^32 entries
pub short_trace : (order secrets publics n : ℕ) → order ≤ TOP_ORDER → secrets ≤ 65536 → publics ≤ 65536 → n ≤ 8388608 → inputs_len order secrets publics + n < 2 ^ 32
short_trace order secrets publics n low few_secrets few_publics few =
    let more : order + 1 ≤ TOP_ORDER + 1 = omega (arith, low) in
    let product : secrets * (order + 1) ≤ 65536 * (TOP_ORDER + 1) = mul-le-mul few_secrets more in
    omega (arith, product)

-- where all instructions fit, each fits behind those before it
fits_done : (field : FieldId) (maps len : ℕ) (done : List Instr) (i : Instr) (left : List Instr) → AllFit field maps len (done ++ i ∷ left) → FitsAt field maps (len + length done) i
fits_done field maps len [] i left fits = let same : len ≡ len + 0 = omega arith in subst (λ (n : ℕ). FitsAt field maps n i) same fits.0
fits_done field maps len (j ∷ done) i left fits =
    let same : len + 1 + length done ≡ len + suc (length done) = omega arith in
    subst (λ (n : ℕ). FitsAt field maps n i) same (fits_done field maps (len + 1) done i left fits.1)

-- the words of an instruction are neither an output nor the end
instr_next : (st : State) (i : Instr) → lower_read st (instr_words i) ≡ instr_read st (instr_words i)
unfolding lower_read after
instr_next st instr.Rnd = refl
instr_next st (instr.Const value) = refl
instr_next st (instr.Copy from) = refl
instr_next st (instr.Add left right) = refl
instr_next st (instr.Mul left right) = refl
instr_next st (instr.Sq from) = refl
instr_next st (instr.Map map from) = refl

-- the line of an instruction leads from the instructions before it to these with it
instr_runs : (code : Listing) (cert : Claimed) → IsListing code → (done : List Instr) (i : Instr) (left : List Instr) → done ++ i ∷ left ≡ code.instrs
    → Runs (with_instrs code cert done) (instr_line i) (with_instrs code cert (done ++ i ∷ []))
unfolding read_at instr_read may_instr
instr_runs code cert listing done i left e =
    let below = fewer_done done i left code.instrs e in
    let few : nat_lt (length done) 8388608 ≡ true = lt-ltb (length done) 8388608 (omega (arith, below, listing.few)) in
    let here : FitsAt code.field (length code.maps) (inputs_len code.order code.secrets code.publics + length done) i =
    fits_done code.field (length code.maps) (inputs_len code.order code.secrets code.publics) done i left (subst (AllFit code.field (length code.maps) (inputs_len code.order code.secrets code.publics)) (sym e) listing.fit) in
    let short = short_trace code.order code.secrets code.publics (length done) listing.order.1 listing.secrets listing.publics (omega (arith, below, listing.few)) in
    let fit : InstrFits i = instr_fits code.field (length code.maps) (inputs_len code.order code.secrets code.publics + length done) i listing.maps short here in
    let fits = fits_again code.field (length code.maps) (inputs_len code.order code.secrets code.publics + length done) i here in
    subst (λ (bytes : List ℕ). Runs (with_instrs code cert done) bytes (with_instrs code cert (done ++ i ∷ []))) (sym (instr_line-words i))
    (one_runs (with_instrs code cert done) (with_instrs code cert (done ++ i ∷ [])) (instr_words i) (is_line-instr i fit) (instr_next (with_instrs code cert done) i ∙ rw (instr_again i fit, few, fits) refl))

-- where each position is below a length, all of them are
all_by : (len : ℕ) (xs : List ℕ) → ((k d : ℕ) → k < length xs → slice_index_or xs k d < len) → AllByRecursion (λ p. p < len) xs
all_by len [] all = tt
all_by len (x ∷ xs) all = (all 0 0 (omega arith), all_by len xs (λ k d below. all (suc k) d (omega (arith, below))))

-- positions below a length are below any greater one
all_small : (len most : ℕ) (xs : List ℕ) → len ≤ most → AllByRecursion (λ p. p < len) xs → AllByRecursion (λ p. p < most) xs
all_small len most [] le all = tt
all_small len most (x ∷ xs) le all = (let low : x < len = all.0 in omega arith, all_small len most xs le all.1)

-- the line of an output leads from the outputs before it to these with it
out_runs : (code : Listing) (cert : Claimed) (done positions : List ℕ) → length positions ≡ code.order + 1 → length done < 65536 * (code.order + 1) → trace_len code < 2 ^ 32 → AllByRecursion (λ p. p < trace_len code) positions
    → Runs (with_outs code cert done) (out_line positions) (with_outs code cert (done ++ positions))
unfolding read_at lower_read after out_read
out_runs code cert done positions one room short all =
    let found : positions_of (code.order + 1) (trace_len code) (flat_map position_word positions) ≡ Some positions =
    ap (λ (n : ℕ). positions_of n (trace_len code) (flat_map position_word positions)) (sym one) ∙ positions_again (trace_len code) positions (omega (arith, short)) all in
    one_runs (with_outs code cert done) (with_outs code cert (done ++ positions)) (codes "out" ++ flat_map position_word positions)
    (is_line-positions positions (all_small (trace_len code) (2 ^ 32) positions (omega arith) all))
    (rw (lt-ltb (length done) (65536 * (code.order + 1)) room, found) refl)

-- the lines of the outputs that are left lead from those before them to all
outs_run : (code : Listing) (cert : Claimed) → trace_len code < 2 ^ 32 → AllByRecursion (λ p. p < trace_len code) code.outs → length code.outs ≤ 65536 * (code.order + 1)
    → (outputs : ℕ) (positions done : List ℕ) → length positions ≡ outputs * (code.order + 1) → done ++ positions ≡ code.outs
    → Runs (with_outs code cert done) (out_lines (code.order + 1) outputs positions) (with_outs code cert code.outs)
unfolding out_lines
outs_run code cert short all most zero positions done len e =
    let none : positions ≡ [] = nil_from_length positions (omega (arith, len)) in
    let same : done ≡ code.outs = sym (append-nil done) ∙ ap (λ (r : List ℕ). done ++ r) (sym none) ∙ e in
    subst (λ (outs : List ℕ). Runs (with_outs code cert done) [] (with_outs code cert outs)) same (none_runs (with_outs code cert done))
outs_run code cert short all most (suc outputs) positions done len e =
    let shares : ℕ = code.order + 1 in
    let long : shares ≤ length positions = omega (arith, len) in
    let first : length (take shares positions) ≡ shares = length-take-le shares positions long in
    let parts : take shares positions ++ drop shares positions ≡ positions = take-append-drop shares positions in
    let left : length (drop shares positions) ≡ outputs * shares = omega (arith, len, length-drop shares positions) in
    let regrouped : (done ++ take shares positions) ++ drop shares positions ≡ code.outs = append_assoc done (take shares positions) (drop shares positions) ∙ ap (λ (r : List ℕ). done ++ r) parts ∙ e in
    let below : AllByRecursion (λ p. p < trace_len code) positions = All-back (λ p. p < trace_len code) done positions (subst (AllByRecursion (λ p. p < trace_len code)) (sym e) all) in
    let here : AllByRecursion (λ p. p < trace_len code) (take shares positions) = All-front (λ p. p < trace_len code) (take shares positions) (drop shares positions) (subst (AllByRecursion (λ p. p < trace_len code)) (sym parts) below) in
    both_run (with_outs code cert done) (with_outs code cert (done ++ take shares positions)) (with_outs code cert code.outs) (out_line (take shares positions)) (out_lines shares outputs (drop shares positions))
    (out_runs code cert done (take shares positions) first (omega (arith, most, long, ap length e, length-append done positions)) short here)
    (outs_run code cert short all most outputs (drop shares positions) (done ++ take shares positions) left regrouped)

-- the last line leads from all outputs to the end
end_runs : (code : Listing) (cert : Claimed) → Runs (with_outs code cert code.outs) (line (codes "end")) (at Ended code cert)
unfolding read_at lower_read after
end_runs code cert = one_runs (with_outs code cert code.outs) (at Ended code cert) (codes "end") refl refl

-- ---- the whole text

-- the lines of all outputs lead from none of them to all
all_outs_run : (code : Listing) (cert : Claimed) → IsListing code → Runs (with_outs code cert []) (out_lines (code.order + 1) (length code.outs / (code.order + 1)) code.outs) (with_outs code cert code.outs)
all_outs_run code cert listing =
    let shares : ℕ = code.order + 1 in
    let outputs : ℕ = listing.outputs.0 in
    let all : length code.outs ≡ outputs * shares = listing.outputs.2 in
    let count : length code.outs / shares ≡ outputs = ap (λ (n : ℕ). n / shares) all ∙ mul-div_cancel outputs (omega arith) in
    let short : trace_len code < 2 ^ 32 = short_trace code.order code.secrets code.publics (length code.instrs) listing.order.1 listing.secrets listing.publics listing.few in
    let same : shares ≤ shares = omega arith in
    let most : outputs * shares ≤ 65536 * shares = mul-le-mul listing.outputs.1 same in
    subst (λ (n : ℕ). Runs (with_outs code cert []) (out_lines shares n code.outs) (with_outs code cert code.outs)) (sym count)
    (outs_run code cert short (all_by (trace_len code) code.outs listing.outs) (omega (arith, all, most)) outputs code.outs [] all refl)

-- the lines of the text of a pair lead from the start to the pair
pub text_runs : (code : Listing) (cert : Claimed) → IsTextPair code cert → Runs start (text code cert) (at Ended code cert)
text_runs code cert has =
    let pair = has.pair in
    let listing = pair.listing in
    let maps = many_run map_line (with_maps code) code.maps (map_runs code listing pair.maps) code.maps [] refl in
    let blocks = many_run op_line (λ (bs : List Op). with_cert code bs []) cert.blocks (block_runs code cert.blocks pair.blocks pair.few_blocks) cert.blocks [] refl in
    let claims = many_run claim_line (λ (vs : List Operand). with_cert code cert.blocks vs) cert.claims (claim_runs code cert.blocks cert.claims pair.claims pair.few_claims) cert.claims [] refl in
    let instrs = many_run instr_line (with_instrs code cert) code.instrs (instr_runs code cert listing) code.instrs [] refl in
    both_run _ _ _ _ _ (both_run _ _ _ _ _ (both_run _ _ _ _ _ (both_run _ _ _ _ _ (both_run _ _ _ _ _ (both_run _ _ _ _ _ (both_run _ _ _ _ _ (head_runs code listing has.order) maps) blocks) claims) (code_runs code cert)) instrs) (all_outs_run code cert listing)) (end_runs code cert)
