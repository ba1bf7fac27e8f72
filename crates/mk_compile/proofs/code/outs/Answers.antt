-- One claim more.
use Rattle.std.proofs.Common.{◌+◌, arith, ℕ, List, ◌≡◌, ◌≤◌, ◌*◌, ◌++◌, ◌∷◌, [], length, take, slice_index_or, sym, ap, ◌∙◌, append-nil}
use Rattle.std.specs.List.{flat_map}
use Rattle.std.proofs.lemmas.List.{length-append, take_more, take_all}
use Rattle.std.proofs.lemmas.List.Concat.{flat_map-append}
use Rattle.std.proofs.lemmas.Nat.{mul-le}
use Rattle.mk_base.specs.declared.TheConstants.{TOP_ORDER}
use Rattle.mk_ssa.specs.declared.Operand.{Operand}
use Rattle.mk_ssa.specs.declared.Operand.TheVariants.{Secret}
use Rattle.mk_compile.specs.Positions.{bank_of}
use Rattle.mk_compile.proofs.code.outs.Goals as goal

pub loop-claim-init : goal.loop-claim-init
loop-claim-init g c = record { items = c.new-outs.ensures.items; count = omega (arith, ap length c.new-outs.ensures.items) }

pub loop-claim-preserved : goal.loop-claim-preserved
loop-claim-preserved g c =
    let k : ℕ = c.loop-claim.claim-index in
    let claims : List Operand = c.args.claims.now in
    let of : Operand → List ℕ = bank_of c.args.inputs.secrets c.args.blocks.now in
    let v : Operand = slice_index_or claims k (Secret 0) in
    let before : List ℕ = c.loop-claim.outs.items in
    let more : c.extend_from_slice.new.self.items ≡ before ++ c.shared_bank.result.regs = c.in_ok-extend_from_slice.ensures.items in
    record {
      items = more
          ∙ ap (λ (xs : List ℕ). before ++ xs) (c.shared_bank.ensures.bank ∙ sym (append-nil (of v)))
          ∙ ap (λ (xs : List ℕ). xs ++ flat_map of (v ∷ [])) c.loop-claim.invariant.items
          ∙ sym (flat_map-append of (take k claims) (v ∷ []))
          ∙ ap (flat_map of) (sym (take_more claims k (Secret 0) c.loop-claim-test.true));
      count = omega (arith, ap length more, length-append before c.shared_bank.result.regs, c.shared_bank.ensures.count, c.loop-claim.invariant.count);
    }

pub from_vec-requires : goal.from_vec-requires
from_vec-requires g c =
    let few : c.loop-claim.claim-index * g.row.N ≤ 65536 * (TOP_ORDER + 1) =
    mul-le c.loop-claim.claim-index g.row.N 65536 (TOP_ORDER + 1) (omega (arith, c.loop-claim.auto.claim-index-end, c.requires.few_claims)) c.requires.shares in
    omega (arith, few, c.loop-claim.invariant.count)

pub returns-clause-positions : goal.returns-clause-positions
returns-clause-positions g c =
    c.from_vec.ensures ∙ c.loop-claim.invariant.items
    ∙ ap (flat_map (bank_of c.args.inputs.secrets c.args.blocks.now)) (take_all c.loop-claim.claim-index c.args.claims.now c.loop-claim-test.false)

pub returns-clause-count : goal.returns-clause-count
returns-clause-count g c =
    let last : c.loop-claim.claim-index ≡ length c.args.claims.now = omega (arith, c.loop-claim.auto.claim-index-end, c.loop-claim-test.false) in
    ap length c.from_vec.ensures ∙ c.loop-claim.invariant.count ∙ ap (λ (k : ℕ). k * g.row.N) last
