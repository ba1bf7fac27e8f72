-- The rule asks of maps only whether they are there, so it says the same of codes with equally many.
use Rattle.std.proofs.Common.{◌≡◌, ℕ, ◌+◌, ◌*◌, List, [], ◌∷◌, ◌++◌, length, take, drop, slice_get, slice_index_or, Result, Ok, Err, OnOk, IfErr, refl, sym, ◌∙◌, ap, subst, arith}
use Rattle.std.specs.List.{flat_map, AllByRecursion}
use Rattle.std.proofs.lemmas.List.{length-replicate}
use Rattle.std.proofs.lemmas.List.Elements.{recursion_from_All, All-from_recursion}
use Rattle.mk_field.specs.declared.field.FieldId.{FieldId}
use Rattle.mk_field.specs.declared.map.AddMap.{AddMap}
use Rattle.mk_code.specs.declared.instr.Instr.{Instr}
use Rattle.mk_code.specs.Listing.{Listing}
use Rattle.mk_ssa.specs.declared.Op.{Op}
use Rattle.mk_ssa.specs.declared.Op.TheVariants.{Const, PubAdd, PubMul, PubSq, PubMap, Lift, Add, AddPub, Scale, Sq, Map, Mul, Refresh}
use Rattle.mk_ssa.specs.declared.Operand.{Operand}
use Rattle.mk_ssa.specs.declared.Operand.TheVariants as operand
use Rattle.mk_gadget.specs.Gadget.{Gadget, placed, placed_outs}
use Rattle.mk_gadget.specs.Product.{product_gadget}
use Rattle.mk_gadget.specs.Refresh.{refresh_gadget}
use Rattle.mk_gadget.specs.Template.{template}
use Rattle.mk_rules.specs.Shape.{Shape}
use Rattle.mk_rules.specs.Claimed.{Claimed}
use Rattle.mk_rules.specs.Tiles.{value_number, input_banks, reads, laid, laid_banks, first_position}
use Rattle.mk_rules.specs.Wired.{IsSharedThere, IsPublicThere, IsWired, AllWired}
use Rattle.mk_rules.specs.Accepts.{Accepts, IsAccepted}
use Rattle.mk_rules.specs.Faults.{FirstMismatch, FirstWrongOutput, IsClaimed}
use Rattle.mk_check.specs.Outlines.{IsOver, any_maps, code_over}
use Rattle.mk_check.specs.Verdict.{Refuses, IsRefused}
use Rattle.mk_check.specs.declared.outline.Outline.{Outline}
use Rattle.mk_check.specs.declared.refusal.CheckRefusal.{CheckRefusal}
use Rattle.mk_check.specs.declared.refusal.CheckRefusal.TheVariants as refusal
use Rattle.mk_check.proofs.Stepping.{some-mapped}

module _ (field : FieldId) (order secrets publics : ℕ) (ms ns : List AddMap) (same : length ms ≡ length ns) where
  -- a shape with the one maps
  abbrev first : Shape
  first = record { field = field; order = order; secrets = secrets; publics = publics; maps = ms }

  -- and with the others
  abbrev second : Shape
  second = record { field = field; order = order; secrets = secrets; publics = publics; maps = ns }

  -- the same shared operands are there
  shared-same : (before : List Op) (v : Operand) → IsSharedThere first before v → IsSharedThere second before v
  shared-same before (operand.Secret k) there = there
  shared-same before (operand.Public k) there = there
  shared-same before (operand.Block k) there = there

  -- and public ones
  public-same : (before : List Op) (v : Operand) → IsPublicThere first before v → IsPublicThere second before v
  public-same before (operand.Secret k) there = there
  public-same before (operand.Public k) there = there
  public-same before (operand.Block k) there = there

  -- what is wired stays
  wired-same : (before : List Op) (op : Op) → IsWired first before op → IsWired second before op
  wired-same before (Const value) wired = wired
  wired-same before (PubAdd left right) wired = (public-same before left wired.0, public-same before right wired.1)
  wired-same before (PubMul left right) wired = (public-same before left wired.0, public-same before right wired.1)
  wired-same before (PubSq arg) wired = public-same before arg wired
  wired-same before (PubMap m arg) wired = (omega (arith, wired.0, same), public-same before arg wired.1)
  wired-same before (Lift arg) wired = public-same before arg wired
  wired-same before (Add left right) wired = (shared-same before left wired.0, shared-same before right wired.1)
  wired-same before (AddPub left right) wired = (shared-same before left wired.0, public-same before right wired.1)
  wired-same before (Scale left right) wired = (shared-same before left wired.0, public-same before right wired.1)
  wired-same before (Sq arg) wired = shared-same before arg wired
  wired-same before (Map m arg) wired = (omega (arith, wired.0, same), shared-same before arg wired.1)
  wired-same before (Mul left right) wired = (shared-same before left wired.0, shared-same before right wired.1)
  wired-same before (Refresh arg) wired = shared-same before arg wired

  -- of all blocks
  all_wired-same : (before ops : List Op) → AllWired first before ops → AllWired second before ops
  all_wired-same before [] wired = tt
  all_wired-same before (op ∷ ops) wired = (wired-same before op wired.0, all_wired-same (before ++ op ∷ []) ops wired.1)

  -- the same instructions are laid
  laid-same : (product refresh : Gadget) (banks : List (List ℕ)) (base : ℕ) (ops : List Op)
      → laid first product refresh banks base ops ≡ laid second product refresh banks base ops
  unfolding laid
  laid-same product refresh banks base [] = refl
  laid-same product refresh banks base (op ∷ ops) =
      let gadget : Gadget = template (order + 1) product refresh op in
      let at : List ℕ = reads second banks op in
      ap (λ (is : List Instr). placed at base gadget ++ is) (laid-same product refresh (banks ++ placed_outs at base gadget ∷ []) (base + length gadget.instrs) ops)

  -- with the same banks
  banks-same : (product refresh : Gadget) (banks : List (List ℕ)) (base : ℕ) (ops : List Op)
      → laid_banks first product refresh banks base ops ≡ laid_banks second product refresh banks base ops
  unfolding laid_banks
  banks-same product refresh banks base [] = refl
  banks-same product refresh banks base (op ∷ ops) =
      let gadget : Gadget = template (order + 1) product refresh op in
      banks-same product refresh (banks ++ placed_outs (reads second banks op) base gadget ∷ []) (base + length gadget.instrs) ops

  -- the same operands of a list are there
  all_shared-same : (blocks : List Op) (vs : List Operand) → AllByRecursion (IsSharedThere first blocks) vs → AllByRecursion (IsSharedThere second blocks) vs
  all_shared-same blocks [] all = tt
  all_shared-same blocks (v ∷ vs) all = (shared-same blocks v all.0, all_shared-same blocks vs all.1)

  module _ (instrs : List Instr) (outs : List ℕ) where
    -- a code with the one maps
    abbrev first_code : Listing
    first_code = record { field = field; order = order; secrets = secrets; publics = publics; maps = ms; instrs = instrs; outs = outs }

    -- and with the others
    abbrev second_code : Listing
    second_code = record { field = field; order = order; secrets = secrets; publics = publics; maps = ns; instrs = instrs; outs = outs }

    -- the same outs are claimed
    claimed-same : (banks : List (List ℕ)) (blocks : List Op) (claims : List Operand) (k : ℕ) → IsClaimed first_code banks blocks claims k → IsClaimed second_code banks blocks claims k
    claimed-same banks blocks claims k claimed = record {
      output = claimed.output;
      claim =
          some-mapped (slice_get claims k) (λ v. IsSharedThere first blocks v × (slice_index_or banks (value_number first v) [] ≡ take (order + 1) (drop (k * (order + 1)) outs)))
          (λ v. IsSharedThere second blocks v × (slice_index_or banks (value_number second v) [] ≡ take (order + 1) (drop (k * (order + 1)) outs)))
          (λ v held. (shared-same blocks v held.0, held.1)) claimed.claim;
    }

    -- the same is accepted
    accepts-same : (product refresh : Gadget) (cert : Claimed) → Accepts first_code product refresh cert → Accepts second_code product refresh cert
    accepts-same product refresh cert accepts = record {
      wired = all_wired-same [] cert.blocks accepts.wired;
      tiles = accepts.tiles ∙ laid-same product refresh (input_banks first) (first_position first) cert.blocks;
      outputs = record {
        there =
            All-from_recursion (IsSharedThere second cert.blocks) cert.claims
            (all_shared-same cert.blocks cert.claims (recursion_from_All (IsSharedThere first cert.blocks) cert.claims accepts.outputs.there));
        outs = accepts.outputs.outs
            ∙ ap (λ (banks : List (List ℕ)). flat_map (λ v. slice_index_or banks (value_number first v) []) cert.claims)
            (banks-same product refresh (input_banks first) (first_position first) cert.blocks);
      };
      undoubled = accepts.undoubled;
    }

module _ (field : FieldId) (order secrets publics : ℕ) (ms ns : List AddMap) (same : length ms ≡ length ns) (instrs : List Instr) (outs : List ℕ) where
  -- the same is refused
  refuses-same : (product refresh : Gadget) (cert : Claimed) (e : CheckRefusal) → Refuses (first_code field order secrets publics ms ns same instrs outs) product refresh cert e
      → Refuses (second_code field order secrets publics ms ns same instrs outs) product refresh cert e
  refuses-same product refresh cert (refusal.Operand k) refused = record {
    before = all_wired-same field order secrets publics ms ns same [] (take k cert.blocks) refused.before;
    fails =
        some-mapped (slice_get cert.blocks k) (λ op. IsWired (first field order secrets publics ms ns same) (take k cert.blocks) op → ⊥)
        (λ op. IsWired (second field order secrets publics ms ns same) (take k cert.blocks) op → ⊥)
        (λ op no wired. no (wired-same field order secrets publics ns ms (sym same) (take k cert.blocks) op wired)) refused.fails;
  }
  refuses-same product refresh cert (refusal.Tile k) refused = (
    all_wired-same field order secrets publics ms ns same [] cert.blocks refused.0,
    subst (λ (is : List Instr). FirstMismatch instrs is k)
        (laid-same field order secrets publics ms ns same product refresh (input_banks (first field order secrets publics ms ns same)) (first_position (first field order secrets publics ms ns same)) cert.blocks) refused.1,
  )
  refuses-same product refresh cert (refusal.Output k) refused = (
    all_wired-same field order secrets publics ms ns same [] cert.blocks refused.0,
    refused.1 ∙ laid-same field order secrets publics ms ns same product refresh (input_banks (first field order secrets publics ms ns same)) (first_position (first field order secrets publics ms ns same)) cert.blocks,
    subst (λ (banks : List (List ℕ)). FirstWrongOutput (second_code field order secrets publics ms ns same instrs outs) banks cert.blocks cert.claims k)
        (banks-same field order secrets publics ms ns same product refresh (input_banks (first field order secrets publics ms ns same)) (first_position (first field order secrets publics ms ns same)) cert.blocks)
        (record {
          before = λ j below. claimed-same field order secrets publics ms ns same instrs outs _ cert.blocks cert.claims j (refused.2.before j below);
          more = refused.2.more;
          fails = λ claimed. refused.2.fails (claimed-same field order secrets publics ns ms (sym same) instrs outs _ cert.blocks cert.claims k claimed);
        }),
  )
  refuses-same product refresh cert (refusal.Doubled value k) refused = (
    all_wired-same field order secrets publics ms ns same [] cert.blocks refused.0,
    refused.1 ∙ laid-same field order secrets publics ms ns same product refresh (input_banks (first field order secrets publics ms ns same)) (first_position (first field order secrets publics ms ns same)) cert.blocks,
    record {
      there =
          All-from_recursion (IsSharedThere (second field order secrets publics ms ns same) cert.blocks) cert.claims
          (all_shared-same field order secrets publics ms ns same cert.blocks cert.claims
          (recursion_from_All (IsSharedThere (first field order secrets publics ms ns same) cert.blocks) cert.claims refused.2.there));
      outs = refused.2.outs
          ∙ ap (λ (banks : List (List ℕ)). flat_map (λ v. slice_index_or banks (value_number (first field order secrets publics ms ns same) v) []) cert.claims)
          (banks-same field order secrets publics ms ns same product refresh (input_banks (first field order secrets publics ms ns same)) (first_position (first field order secrets publics ms ns same)) cert.blocks);
    },
    record {
      there = shared-same field order secrets publics ms ns same cert.blocks value refused.3.there;
      doubled = refused.3.doubled;
      least = refused.3.least;
      before = refused.3.before;
    },
  )
  refuses-same product refresh cert refusal.Memory refused = refused

-- what a code is over
over-is : (code : Listing) (outline : Outline) → IsOver code outline
    → outline ≡ record { field = code.field; order = code.order; secrets = code.secrets; publics = code.publics; maps = length code.maps }
over-is code outline over =
    let parts : Outline = outline in
    ap (λ (f : FieldId). record { field = f; order = parts.order; secrets = parts.secrets; publics = parts.publics; maps = parts.maps }) (sym over.field)
    ∙ ap (λ (n : ℕ). record { field = code.field; order = n; secrets = parts.secrets; publics = parts.publics; maps = parts.maps }) (sym over.order)
    ∙ ap (λ (n : ℕ). record { field = code.field; order = code.order; secrets = n; publics = parts.publics; maps = parts.maps }) (sym over.secrets)
    ∙ ap (λ (n : ℕ). record { field = code.field; order = code.order; secrets = code.secrets; publics = n; maps = parts.maps }) (sym over.publics)
    ∙ ap (λ (n : ℕ). record { field = code.field; order = code.order; secrets = code.secrets; publics = code.publics; maps = n }) (sym over.maps)

-- what is accepted but for the maps
pub accepts-over : (code : Listing) (outline : Outline) (cert : Claimed) → IsOver code outline
    → Accepts (code_over outline code.instrs code.outs) (product_gadget (outline.order + 1)) (refresh_gadget (outline.order + 1)) cert → IsAccepted code cert
accepts-over code outline cert over accepts =
    accepts-same code.field code.order code.secrets code.publics (any_maps (length code.maps)) code.maps (length-replicate (length code.maps) (record { images = [] })) code.instrs code.outs
    (product_gadget (code.order + 1)) (refresh_gadget (code.order + 1)) cert
    (subst (λ (o : Outline). Accepts (code_over o code.instrs code.outs) (product_gadget (o.order + 1)) (refresh_gadget (o.order + 1)) cert) (over-is code outline over) accepts)

-- and what is refused
pub refuses-over : (code : Listing) (outline : Outline) (cert : Claimed) (e : CheckRefusal) → IsOver code outline
    → Refuses (code_over outline code.instrs code.outs) (product_gadget (outline.order + 1)) (refresh_gadget (outline.order + 1)) cert e → IsRefused code cert e
refuses-over code outline cert e over refused =
    refuses-same code.field code.order code.secrets code.publics (any_maps (length code.maps)) code.maps (length-replicate (length code.maps) (record { images = [] })) code.instrs code.outs
    (product_gadget (code.order + 1)) (refresh_gadget (code.order + 1)) cert e
    (subst (λ (o : Outline). Refuses (code_over o code.instrs code.outs) (product_gadget (o.order + 1)) (refresh_gadget (o.order + 1)) cert e) (over-is code outline over) refused)

-- an answer by which the code is accepted, but for its maps
pub ok-over : (code : Listing) (outline : Outline) (cert : Claimed) (r : Result (Unit {0}) CheckRefusal) → IsOver code outline
    → OnOk r (Accepts (code_over outline code.instrs code.outs) (product_gadget (outline.order + 1)) (refresh_gadget (outline.order + 1)) cert) → OnOk r (IsAccepted code cert)
ok-over code outline cert (Ok done) over accepts = accepts-over code outline cert over accepts
ok-over code outline cert (Err e) over accepts = tt

-- or by which it is refused
pub err-over : (code : Listing) (outline : Outline) (cert : Claimed) (r : Result (Unit {0}) CheckRefusal) → IsOver code outline
    → IfErr r (λ e. Refuses (code_over outline code.instrs code.outs) (product_gadget (outline.order + 1)) (refresh_gadget (outline.order + 1)) cert e) → IfErr r (λ e. IsRefused code cert e)
err-over code outline cert (Ok done) over refused = tt
err-over code outline cert (Err e) over refused = refuses-over code outline cert e over refused
