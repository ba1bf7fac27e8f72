-- Register code that is renamed to code.
use Rattle.std.proofs.Common.{Option, ◌≡◌, ℕ, ◌+◌, ◌*◌, ◌≤◌, List, [], ◌∷◌, Some, length, inl, inr, refl, sym, ◌∙◌, ap, subst, append-nil}
use Rattle.std.proofs.lemmas.List.{length-map}
use Rattle.mk_field.specs.Field.{size}
use Rattle.mk_field.specs.Sharing.{decoded}
use Rattle.mk_code.specs.Listing.{Listing}
use Rattle.mk_code.specs.Trace.{trace, randoms, takes}
use Rattle.mk_code.specs.Counting.{Elements}
use Rattle.mk_code.specs.Private.{observation, Private}
use Rattle.mk_rules.specs.Claimed.{Claimed}
use Rattle.mk_rules.specs.Pairs.{IsPair}
use Rattle.mk_regs.specs.declared.instr.RegInstr.{RegInstr}
use Rattle.mk_regs.specs.Form.{RegListing, IsRegListing, operation, entries_len}
use Rattle.mk_regs.specs.Renaming.{position_in, held_on_entry, stepped, renamed_instrs, renamed, IsRenamed}
use Rattle.mk_regs.specs.Trace.{register_trace, register_randoms}
use Rattle.mk_regs.proofs.Parts.{takes-with}
use Rattle.mk_regs.proofs.Traces.{traces-same}
use Rattle.mk_regs.proofs.Privacy.{renaming-laws}
use Rattle.mk_regs.proofs.Writes.{writes-private}
use Rattle.mk_regs.proofs.Renames.{renamed-fits}
use Rattle.mk_bundle.specs.Pairs.{IsTextOf, IsBundleOf, IsRegisterTextOf}
use Rattle.mk_bundle.proofs.Versions.{registers_differ, versions_differ}
use Rattle.mk_ast.specs.declared.tree.Program.{Program as Tree}
use Rattle.mk_types.specs.Elements.{secrets_of, publics_of, outputs_of}
use Rattle.mk_types.specs.Meaning.{result}
use Rattle.mk_compile.specs.Correct.{Correct}
use Rattle.mk_top.specs.Bundles.{IsPrivateInRegisters, AreRegistersPrivate}
use Rattle.mk_top.specs.Registers.{CorrectnessLaw}

-- the renamed instructions take as many random elements
randoms-renamed : (held : List (Option ℕ)) (position : ℕ) (is : List RegInstr) → randoms (renamed_instrs held position is) ≡ register_randoms is
unfolding randoms renamed_instrs
randoms-renamed held position [] = refl
randoms-renamed held position (i ∷ is) =
    ap (λ (n : ℕ). n + randoms (renamed_instrs (stepped held position i) (position + 1) is)) (takes-with (position_in held) (operation i))
    ∙ ap (λ (n : ℕ). takes (operation i) + n) (randoms-renamed (stepped held position i) (position + 1) is)

-- what is computed over registers is what is computed over positions
values-renamed : (p : Tree) (order : ℕ) (r : RegListing) (code : Listing) → entries_len r ≤ r.registers → IsRenamed r code → Correct p order code
    → (publics shares tape : List ℕ) → Elements (size p.field) (publics_of p) publics → Elements (size p.field) (secrets_of p * (order + 1)) shares
    → Elements (size p.field) (register_randoms r.instrs) tape
    → result p publics (decoded (order + 1) (secrets_of p) shares)
    ≡ Some (decoded (order + 1) (outputs_of p) (observation (renamed r).outs (register_trace r publics shares tape)))
values-renamed p order r code room is correct publics shares tape public shared random =
    let same : renamed r ≡ code = is.same in
    let fewer : register_randoms r.instrs ≡ randoms code.instrs =
    sym (randoms-renamed (held_on_entry (entries_len r) r.registers) (entries_len r) r.instrs) ∙ ap (λ (c : Listing). randoms c.instrs) same in
    let own : r.secrets * (r.order + 1) ≡ secrets_of p * (order + 1) =
    ap (λ (c : Listing). c.secrets * (c.order + 1)) same ∙ ap (λ (n : ℕ). n * (code.order + 1)) correct.secrets ∙ ap (λ (n : ℕ). secrets_of p * (n + 1)) correct.same_order in
    let traces : register_trace r publics shares tape ≡ trace code publics shares tape =
    traces-same r code room is publics shares tape (public.count ∙ sym (ap (λ (c : Listing). c.publics) same ∙ correct.publics)) (shared.count ∙ sym own) in
    correct.values publics shares tape public shared (subst (λ (n : ℕ). Elements (size p.field) n tape) fewer random)
    ∙ ap (λ (xs : List ℕ). Some (decoded (order + 1) (outputs_of p) (observation code.outs xs))) (sym traces)
    ∙ ap (λ (c : Listing). Some (decoded (order + 1) (outputs_of p) (observation c.outs (register_trace r publics shares tape)))) (sym same)

-- so register code that is renamed to correct code is correct
pub correct-renamed : CorrectnessLaw
correct-renamed p order r code listing is correct = record {
  runs = is.runs;
  field = ap (λ (c : Listing). c.field) is.same ∙ correct.field;
  same_order = ap (λ (c : Listing). c.order) is.same ∙ correct.same_order;
  secrets = ap (λ (c : Listing). c.secrets) is.same ∙ correct.secrets;
  publics = ap (λ (c : Listing). c.publics) is.same ∙ correct.publics;
  outputs = sym (length-map r.outs _) ∙ ap (λ (c : Listing). length c.outs) is.same ∙ correct.outputs;
  values = values-renamed p order r code listing.registers.0 is correct;
}

-- register code that is renamed to private code is private
pub private-renamed : (r : RegListing) (code : Listing) → IsRegListing r → IsRenamed r code → Private code → IsPrivateInRegisters r
private-renamed r code listing is private =
    let over = (renaming-laws r code listing.registers.0 is).private.1 private in
    (is.runs, over, writes-private r over)

-- where the bytes of a bundle are the text of register code, this is renamed to the code of the bundle
text-renamed : (bytes : List ℕ) (r : RegListing) (code : Listing) (cert claimed : Claimed) → IsBundleOf bytes code cert → IsRegisterTextOf bytes r claimed → IsRenamed r code
text-renamed bytes r code cert claimed (inl is) has =
    absurd ((versions_differ bytes [] code r cert claimed).0 (subst (λ (bs : List ℕ). IsTextOf bs code cert) (sym (append-nil bytes)) is) has)
text-renamed bytes r code cert claimed (inr is) has =
    let same = registers_differ bytes [] r is.0 claimed cert (subst (λ (bs : List ℕ). IsRegisterTextOf bs r claimed) (sym (append-nil bytes)) has) is.1 in
    subst (λ (s : RegListing). IsRenamed s code) (sym same.0) is.2

-- so it is private where the code of the bundle is
pub text-private : (bytes : List ℕ) (code : Listing) (cert : Claimed) → IsBundleOf bytes code cert → Private code → AreRegistersPrivate bytes
text-private bytes code cert is private = λ r claimed has. private-renamed r code has.0.listing (text-renamed bytes r code cert claimed is has) private

-- a bundle has a text of a pair
pub bundle-pair : (bytes : List ℕ) (code : Listing) (cert : Claimed) → IsBundleOf bytes code cert → IsPair code cert
bundle-pair bytes code cert (inl is) = is.0.pair
bundle-pair bytes code cert (inr (r, is, renames)) = subst (λ (c : Listing). IsPair c cert) renames.same (
    record {
      listing = renamed-fits r is.0.listing renames.runs;
      maps = is.0.maps;
      blocks = is.0.blocks;
      claims = is.0.claims;
      few_blocks = is.0.few_blocks;
      few_claims = is.0.few_claims;
    }
    )
