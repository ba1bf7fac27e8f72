-- What holds of a plan of wired blocks.
use Rattle.std.proofs.Common.{◌≡◌, ℕ, ◌+◌, ◌-◌, ◌*◌, ◌<◌, ◌≤◌, List, [], ◌∷◌, ◌++◌, length, take, slice_get, slice_index_or, Option, Some, None, sym, ◌∙◌, ap, subst, arith}
use Rattle.std.specs.List.{range_with_len, flat_map}
use Rattle.std.proofs.lemmas.Bool.{lt-ltb}
use Rattle.std.proofs.lemmas.List.FromFn.{length-range_with_len}
use Rattle.std.proofs.lemmas.Option.{slice_get_past, slice_get_within, get_or_from_slice_get}
use Rattle.std.proofs.Math.Nat.{pos_of_ne-zero}
use Rattle.mk_code.specs.declared.instr.Instr.{Instr}
use Rattle.mk_ssa.specs.declared.Op.{Op}
use Rattle.mk_ssa.specs.declared.Operand.{Operand}
use Rattle.mk_ssa.specs.Kinds.{shared_operands, public_operands}
use Rattle.mk_gadget.specs.Gadget.{Gadget, placement, moved}
use Rattle.mk_gadget.specs.Template.{template}
use Rattle.mk_gadget.proofs.Ranges.{placement-own}
use Rattle.mk_rules.specs.Tiles.{value_number, reads, first_position}
use Rattle.mk_rules.specs.Wired.{Wired}
use Rattle.mk_rules.proofs.Operators.{IsGiven, reads_length}
use Rattle.mk_rules.proofs.BuiltIn.{built_in-given}
use Rattle.mk_check.specs.Gadgets.{Gadgets, template_of}
use Rattle.mk_check.specs.Laying.{all_laid, all_banks}
use Rattle.mk_check.specs.Outlines.{outlined}
use Rattle.mk_check.specs.Plans.{front_len, laid_len, IsPlan, IsIn}
use Rattle.mk_check.specs.declared.plan.Plan.{Plan}
use Rattle.mk_check.proofs.Banks.{laid-next, reads-long, reads-there, share-at, share-none, bank-none, bank-secret, bank-public}
use Rattle.mk_check.proofs.Block.{laid-instr, laid-behind}
use Rattle.mk_check.proofs.Outs.{own-out}
use Rattle.mk_check.proofs.Reading.{IsFront, first-at, second-at, no-second, front-of}
use Rattle.mk_check.proofs.Rows.{range-at}
use Rattle.mk_check.proofs.Lists.{slice_get_none-past}

module _ (plan : Plan) (is : IsPlan plan) where
  -- its templates are for as many shares
  pub plan-shares : plan.templates.shares ≡ plan.outline.order + 1
  plan-shares = ap (λ (g : Gadgets). g.shares) is.templates

  -- and may stand for the operators
  pub plan-given : (op : Op) → IsGiven (outlined plan.outline) plan.templates.product plan.templates.refresh op
  plan-given op = subst (λ (g : Gadgets). IsGiven (outlined plan.outline) g.product g.refresh op) (sym is.templates) (built_in-given (outlined plan.outline) op)

  -- the template of an operator
  pub plan-template : (op : Op) → template_of plan.templates op ≡ template (plan.outline.order + 1) plan.templates.product plan.templates.refresh op
  plan-template op = ap (λ (n : ℕ). template n plan.templates.product plan.templates.refresh op) plan-shares

  -- its out bank is of its own positions
  pub plan-own : (op : Op) (k out : ℕ) → slice_get (template_of plan.templates op).outs k ≡ Some out → reads_length (plan.outline.order + 1) op ≤ out
  plan-own op k out there =
      own-out (plan.outline.order + 1) op k out (omega (arith, is.order.0))
      (subst (λ (g : Gadgets). slice_get (template_of g op).outs k ≡ Some out) is.templates there)

  -- one behind the blocks has no share
  pub no-block : (wired : Wired (outlined plan.outline) plan.cert.blocks) (block k : ℕ) → slice_get plan.cert.blocks block ≡ None
      → None ≡ slice_get (slice_index_or (all_banks (outlined plan.outline) plan.templates plan.cert.blocks) (plan.outline.secrets + plan.outline.publics + block) []) k
  no-block wired block k none =
      sym (ap (λ (ps : List ℕ). slice_get ps k)
      (bank-none (outlined plan.outline) plan.templates.product plan.templates.refresh plan.cert.blocks plan-given wired (plan.outline.secrets + plan.outline.publics + block)
      (omega (arith, slice_get_none-past plan.cert.blocks block none))))

  -- the shares of a block's value end with its template's
  pub no-share : (wired : Wired (outlined plan.outline) plan.cert.blocks) (block k : ℕ) (op : Op) → slice_get plan.cert.blocks block ≡ Some op → slice_get (template_of plan.templates op).outs k ≡ None
      → None ≡ slice_get (slice_index_or (all_banks (outlined plan.outline) plan.templates plan.cert.blocks) (plan.outline.secrets + plan.outline.publics + block) []) k
  no-share wired block k op there none =
      sym (share-none (outlined plan.outline) plan.templates.product plan.templates.refresh plan.cert.blocks plan-given wired block k op there
      (ap (λ (g : Gadget). slice_get g.outs k) (sym (plan-template op)) ∙ none))

  -- where a share of a block's value is
  pub block-share : (wired : Wired (outlined plan.outline) plan.cert.blocks) (block k out base own : ℕ) (op : Op) → slice_get plan.cert.blocks block ≡ Some op
      → slice_get (template_of plan.templates op).outs k ≡ Some out → base ≡ first_position (outlined plan.outline) + laid_len (outlined plan.outline) plan.templates plan.cert.blocks block
      → own ≡ out - reads_length (plan.outline.order + 1) op
      → Some (base + own) ≡ slice_get (slice_index_or (all_banks (outlined plan.outline) plan.templates plan.cert.blocks) (plan.outline.secrets + plan.outline.publics + block) []) k
  block-share wired block k out base own op there at begins behind =
      ap (λ (b : ℕ). Some (b + own)) begins
      ∙ ap (λ (o : ℕ). Some (first_position (outlined plan.outline) + laid_len (outlined plan.outline) plan.templates plan.cert.blocks block + o)) behind
      ∙ sym (share-at (outlined plan.outline) plan.templates.product plan.templates.refresh plan.cert.blocks plan-given wired block k out op there
      (ap (λ (g : Gadget). slice_get g.outs k) (sym (plan-template op)) ∙ at) (plan-own op k out at))

  -- where that of a secret is
  pub secret-share : (wired : Wired (outlined plan.outline) plan.cert.blocks) (number k : ℕ) → number < plan.outline.secrets → k < plan.outline.order + 1
      → Some (number * (plan.outline.order + 1) + k) ≡ slice_get (slice_index_or (all_banks (outlined plan.outline) plan.templates plan.cert.blocks) number []) k
  secret-share wired number k below inside =
      let n : ℕ = plan.outline.order + 1 in
      sym (ap (λ (ps : List ℕ). slice_get ps k) (bank-secret (outlined plan.outline) plan.templates.product plan.templates.refresh plan.cert.blocks plan-given wired number below)
      ∙ range-at (number * n) n k (omega (arith, inside, length-range_with_len (number * n) n)))

  -- it has no more
  pub secret-none : (wired : Wired (outlined plan.outline) plan.cert.blocks) (number k : ℕ) → number < plan.outline.secrets → plan.outline.order + 1 ≤ k
      → None ≡ slice_get (slice_index_or (all_banks (outlined plan.outline) plan.templates plan.cert.blocks) number []) k
  secret-none wired number k below past =
      let n : ℕ = plan.outline.order + 1 in
      sym (ap (λ (ps : List ℕ). slice_get ps k) (bank-secret (outlined plan.outline) plan.templates.product plan.templates.refresh plan.cert.blocks plan-given wired number below)
      ∙ slice_get_past (range_with_len (number * n) n) k (omega (arith, past, length-range_with_len (number * n) n)))

  -- where a public is
  pub public-share : (wired : Wired (outlined plan.outline) plan.cert.blocks) (number : ℕ) → plan.outline.secrets ≤ number → number < plan.outline.secrets + plan.outline.publics
      → Some (plan.outline.secrets * (plan.outline.order + 1) + (number - plan.outline.secrets)) ≡ slice_get (slice_index_or (all_banks (outlined plan.outline) plan.templates plan.cert.blocks) number []) 0
  public-share wired number late below =
      sym (ap (λ (ps : List ℕ). slice_get ps 0) (bank-public (outlined plan.outline) plan.templates.product plan.templates.refresh plan.cert.blocks plan-given wired number late below))

  -- it has one position
  pub public-none : (wired : Wired (outlined plan.outline) plan.cert.blocks) (number k : ℕ) → plan.outline.secrets ≤ number → number < plan.outline.secrets + plan.outline.publics → (k ≡ 0 → ⊥)
      → None ≡ slice_get (slice_index_or (all_banks (outlined plan.outline) plan.templates plan.cert.blocks) number []) k
  public-none wired number k late below more =
      let one : ℕ = plan.outline.secrets * (plan.outline.order + 1) + (number - plan.outline.secrets) in
      sym (ap (λ (ps : List ℕ). slice_get ps k) (bank-public (outlined plan.outline) plan.templates.product plan.templates.refresh plan.cert.blocks plan-given wired number late below)
      ∙ slice_get_past (one ∷ []) k (omega (arith, pos_of_ne-zero more)))

  -- a position that a block reads stands where that operand is
  pub placed-read : (reads : List ℕ) (base position at : ℕ) → Some at ≡ slice_get reads position → placement reads base position ≡ at
  placed-read reads base position at read =
      let below : position < length reads = slice_get_within reads position at (sym read) in
      rw (lt-ltb position (length reads) below) (get_or_from_slice_get reads position at 0 (sym read))

  -- a position behind those that a block reads is one of its own, behind its beginning
  pub placed-past : (wired : Wired (outlined plan.outline) plan.cert.blocks) (block base position own begins : ℕ) (op : Op) → slice_get plan.cert.blocks block ≡ Some op
      → reads_length (plan.outline.order + 1) op ≤ position → own ≡ position - reads_length (plan.outline.order + 1) op → begins ≡ base
      → placement (reads (outlined plan.outline) (all_banks (outlined plan.outline) plan.templates (take block plan.cert.blocks)) op) base position ≡ begins + own
  placed-past wired block base position own begins op there late is begin =
      let at : List ℕ = reads (outlined plan.outline) (all_banks (outlined plan.outline) plan.templates (take block plan.cert.blocks)) op in
      let long : length at ≡ reads_length (plan.outline.order + 1) op =
      reads-long (outlined plan.outline) plan.templates.product plan.templates.refresh plan.cert.blocks plan-given wired block op there in
      placement-own at base position (omega (arith, long, late)) ∙ omega (arith, is, begin, long)

  -- a position that a block reads is there
  pub placed-there : (wired : Wired (outlined plan.outline) plan.cert.blocks) (block position : ℕ) (op : Op) → slice_get plan.cert.blocks block ≡ Some op
      → None ≡ slice_get (reads (outlined plan.outline) (all_banks (outlined plan.outline) plan.templates (take block plan.cert.blocks)) op) position
      → reads_length (plan.outline.order + 1) op ≤ position
  placed-there wired block position op there none =
      let at : List ℕ = reads (outlined plan.outline) (all_banks (outlined plan.outline) plan.templates (take block plan.cert.blocks)) op in
      let long : length at ≡ reads_length (plan.outline.order + 1) op =
      reads-long (outlined plan.outline) plan.templates.product plan.templates.refresh plan.cert.blocks plan-given wired block op there in
      omega (arith, long, slice_get_none-past at position (sym none))

  -- the banks of a block's operands, one after the other
  plan-front : (wired : Wired (outlined plan.outline) plan.cert.blocks) (block : ℕ) (op : Op) → slice_get plan.cert.blocks block ≡ Some op
      → IsFront (λ v. slice_index_or (all_banks (outlined plan.outline) plan.templates plan.cert.blocks) (value_number (outlined plan.outline) v) []) (shared_operands op ++ public_operands op) (front_len (plan.outline.order + 1) op)
      × (flat_map (λ v. slice_index_or (all_banks (outlined plan.outline) plan.templates plan.cert.blocks) (value_number (outlined plan.outline) v) []) (shared_operands op ++ public_operands op)
      ≡ reads (outlined plan.outline) (all_banks (outlined plan.outline) plan.templates (take block plan.cert.blocks)) op)
  plan-front wired block op there =
      let parts = reads-there (outlined plan.outline) plan.templates.product plan.templates.refresh plan.cert.blocks plan-given wired block op there in (
        front-of (λ v. slice_index_or (all_banks (outlined plan.outline) plan.templates plan.cert.blocks) (value_number (outlined plan.outline) v) []) (plan.outline.order + 1) op (omega arith) parts.0 parts.1,
        parts.2,
      )

  -- a position of the first operand
  pub read-first : (wired : Wired (outlined plan.outline) plan.cert.blocks) (block k len number : ℕ) (op : Op) (value : Operand) (read : Option ℕ) → slice_get plan.cert.blocks block ≡ Some op
      → k < len → len ≡ front_len (plan.outline.order + 1) op → slice_get (shared_operands op ++ public_operands op) 0 ≡ Some value → number ≡ value_number (outlined plan.outline) value
      → read ≡ slice_get (slice_index_or (all_banks (outlined plan.outline) plan.templates plan.cert.blocks) number []) k
      → read ≡ slice_get (reads (outlined plan.outline) (all_banks (outlined plan.outline) plan.templates (take block plan.cert.blocks)) op) k
  read-first wired block k len number op value read there below long first same is =
      let f : Operand → List ℕ = λ v. slice_index_or (all_banks (outlined plan.outline) plan.templates plan.cert.blocks) (value_number (outlined plan.outline) v) [] in
      let front = plan-front wired block op there in
      is ∙ ap (λ (m : ℕ). slice_get (slice_index_or (all_banks (outlined plan.outline) plan.templates plan.cert.blocks) m []) k) same
      ∙ sym (first-at f (shared_operands op ++ public_operands op) (front_len (plan.outline.order + 1) op) k value front.0 (omega (arith, below, long)) first)
      ∙ ap (λ (ps : List ℕ). slice_get ps k) front.1

  -- a position of the second
  pub read-second : (wired : Wired (outlined plan.outline) plan.cert.blocks) (block k len number : ℕ) (op : Op) (value : Operand) (read : Option ℕ) → slice_get plan.cert.blocks block ≡ Some op
      → len ≤ k → len ≡ front_len (plan.outline.order + 1) op → slice_get (shared_operands op ++ public_operands op) 1 ≡ Some value → number ≡ value_number (outlined plan.outline) value
      → read ≡ slice_get (slice_index_or (all_banks (outlined plan.outline) plan.templates plan.cert.blocks) number []) (k - len)
      → read ≡ slice_get (reads (outlined plan.outline) (all_banks (outlined plan.outline) plan.templates (take block plan.cert.blocks)) op) k
  read-second wired block k len number op value read there past long second same is =
      let f : Operand → List ℕ = λ v. slice_index_or (all_banks (outlined plan.outline) plan.templates plan.cert.blocks) (value_number (outlined plan.outline) v) [] in
      let front = plan-front wired block op there in
      is ∙ ap (λ (m : ℕ). slice_get (slice_index_or (all_banks (outlined plan.outline) plan.templates plan.cert.blocks) m []) (k - len)) same
      ∙ ap (λ (m : ℕ). slice_get (f value) (k - m)) long
      ∙ sym (second-at f (shared_operands op ++ public_operands op) (front_len (plan.outline.order + 1) op) k value front.0 (omega (arith, past, long)) second)
      ∙ ap (λ (ps : List ℕ). slice_get ps k) front.1

  -- none without one
  pub read-none : (wired : Wired (outlined plan.outline) plan.cert.blocks) (block k len : ℕ) (op : Op) → slice_get plan.cert.blocks block ≡ Some op
      → len ≤ k → len ≡ front_len (plan.outline.order + 1) op → slice_get (shared_operands op ++ public_operands op) 1 ≡ None
      → None ≡ slice_get (reads (outlined plan.outline) (all_banks (outlined plan.outline) plan.templates (take block plan.cert.blocks)) op) k
  read-none wired block k len op there past long none =
      let f : Operand → List ℕ = λ v. slice_index_or (all_banks (outlined plan.outline) plan.templates plan.cert.blocks) (value_number (outlined plan.outline) v) [] in
      let front = plan-front wired block op there in
      sym (no-second f (shared_operands op ++ public_operands op) (front_len (plan.outline.order + 1) op) k front.0 (omega (arith, past, long)) none)
      ∙ ap (λ (ps : List ℕ). slice_get ps k) front.1

  -- an instruction of the block in which it falls
  pub next-is : (block count next : ℕ) (op : Op) (instr : Instr) → slice_get plan.cert.blocks block ≡ Some op → IsIn plan block count
      → next ≡ count - laid_len (outlined plan.outline) plan.templates plan.cert.blocks block → slice_get (template_of plan.templates op).instrs next ≡ Some instr
      → slice_get (all_laid (outlined plan.outline) plan.templates plan.cert.blocks) count
      ≡ Some (moved (placement (reads (outlined plan.outline) (all_banks (outlined plan.outline) plan.templates (take block plan.cert.blocks)) op)
      (first_position (outlined plan.outline) + laid_len (outlined plan.outline) plan.templates plan.cert.blocks block)) instr)
  next-is block count next op instr there within at instr_at =
      let e : count ≡ laid_len (outlined plan.outline) plan.templates plan.cert.blocks block + next = omega (arith, at, within.from) in
      ap (slice_get (all_laid (outlined plan.outline) plan.templates plan.cert.blocks)) e
      ∙ laid-instr (outlined plan.outline) plan.templates plan.cert.blocks block next op instr there
      (ap (λ (g : Gadget). slice_get g.instrs next) (sym (plan-template op)) ∙ instr_at)

  -- there is one
  pub next-there : (block count next : ℕ) (op : Op) → slice_get plan.cert.blocks block ≡ Some op → IsIn plan block count
      → next ≡ count - laid_len (outlined plan.outline) plan.templates plan.cert.blocks block → slice_get (template_of plan.templates op).instrs next ≡ None → ⊥
  next-there block count next op there within at none =
      absurd (omega (
        arith,
        at,
        within.from,
        within.before (slice_get_within plan.cert.blocks block op there),
        laid-next (outlined plan.outline) plan.templates.product plan.templates.refresh plan.cert.blocks block op there,
        ap (λ (g : Gadget). length g.instrs) (plan-template op),
        slice_get_none-past (template_of plan.templates op).instrs next none,
      ))

  -- behind the blocks there is none
  pub next-none : (block count : ℕ) → slice_get plan.cert.blocks block ≡ None → IsIn plan block count
      → slice_get (all_laid (outlined plan.outline) plan.templates plan.cert.blocks) count ≡ None
  next-none block count none within =
      laid-behind (outlined plan.outline) plan.templates plan.cert.blocks block count (slice_get_none-past plan.cert.blocks block none) within.from
