-- The values that a program is unrolled to denote its outputs, where its execution comes to its end.
use Rattle.std.proofs.Common.{◌≡◌, ℕ, ◌<◌, true, List, [], All, Some, None, flat_map, length, replicate, pow_pos, sym, ap, subst, arith}
use Rattle.std.proofs.lemmas.List.{length-replicate, get_or-replicate}
use Rattle.mk_field.specs.Field.{bits, size}
use Rattle.mk_ast.specs.declared.tree.Program.{Program}
use Rattle.mk_ast.specs.Grammar.{most_brackets}
use Rattle.mk_ast.specs.Regular.{IsRegular}
use Rattle.mk_ssa.specs.Denoted.{denoted}
use Rattle.mk_types.specs.Elements.{secrets_of, publics_of, outputs_of}
use Rattle.mk_types.specs.Units.{units}
use Rattle.mk_types.specs.Stops.{stop}
use Rattle.mk_types.specs.Meaning.{first_values, last_values, outputs, result}
use Rattle.mk_types.specs.Offences.{decls_offences, stmt_offences, scope_of, IsWellTyped}
use Rattle.mk_types.proofs.Faults.{units_without_faults}
use Rattle.mk_types.proofs.Accepted.{no_offences}
use Rattle.mk_types.proofs.RegularParts.{all_somewhere}
use Rattle.mk_unroll.specs.Unrolled.{first_unrolling, last_unrolling, unrolled_outs, unrolled}
use Rattle.mk_unroll.proofs.Stands.{Setting}
use Rattle.mk_unroll.proofs.Environments.{EachStands}
use Rattle.mk_unroll.proofs.ExpressionsStand.{Declares}
use Rattle.mk_unroll.proofs.StatementsStand.{Holds, stmts_hold}
use Rattle.mk_unroll.proofs.Beginnings.{HasInputs, made_first, beginnings_stand}
use Rattle.mk_unroll.proofs.OutputsStand.{outputs_stand, outputs_count, each_value}

-- a program with its inputs
abbrev setting : Program → List ℕ → List ℕ → Setting
setting p publics secrets = record { field = p.field; decls = p.decls; publics = publics; secrets = secrets }

-- what the variables hold behind the last statement stands for what they hold there
unrolling_holds : (p : Program) (publics secrets : List ℕ) → IsRegular p → IsWellTyped p → stop (units p) ≡ None → HasInputs (setting p publics secrets) →
    Holds (setting p publics secrets) (last_unrolling p) (last_values p publics secrets)
unrolling_holds p publics secrets regular accepted ended inputs =
    let t = setting p publics secrets in
    let both = no_offences (decls_offences p.field [] p.decls) (flat_map (λ s. stmt_offences s (scope_of p)) p.body) accepted in
    let declares : Declares t = record { regular = regular.decls; accepted = both.0 } in
    stmts_hold t declares p.body (first_unrolling p) (first_values p publics secrets)
    (record {
      made = made_first t declares;
      env = beginnings_stand t declares inputs [] p.decls (omega (arith, inputs.secrets)) (omega (arith, inputs.publics));
    })
    (all_somewhere most_brackets p.body regular.body) both.1 (units_without_faults p ended)

-- so many zeros are inputs
zeros : (p : Program) → HasInputs (setting p (replicate (publics_of p) 0) (replicate (secrets_of p) 0))
zeros p = record {
  publics = length-replicate (publics_of p) 0;
  secrets = length-replicate (secrets_of p) 0;
  public_elements = all_zeros (publics_of p);
  secret_elements = all_zeros (secrets_of p);
}
  where
    all_zeros : (n : ℕ) → All (λ a. a < size p.field) (replicate n 0)
    all_zeros n k d below =
        subst (λ (a : ℕ). a < size p.field) (sym (get_or-replicate n k 0 d (omega (arith, below, length-replicate {A = ℕ} n 0)))) (pow_pos (bits p.field))

-- the values that a program is unrolled to have as many outputs as are declared
pub unrolled_outs_count : (p : Program) → IsRegular p → IsWellTyped p → stop (units p) ≡ None → length (unrolled p).outs ≡ outputs_of p
unrolled_outs_count p regular accepted ended =
    let publics = replicate (publics_of p) 0 in
    let secrets = replicate (secrets_of p) 0 in
    let holds = unrolling_holds p publics secrets regular accepted ended (zeros p) in
    outputs_count (setting p publics secrets) (last_unrolling p).values p.decls (last_unrolling p).env (last_values p publics secrets) holds.env

module _ (p : Program) (publics secrets : List ℕ) (regular : IsRegular p) (accepted : IsWellTyped p) (ended : stop (units p) ≡ None)
    (publics_len : length publics ≡ publics_of p) (secrets_len : length secrets ≡ secrets_of p)
    (public_elements : All (λ a. a < size p.field) publics) (secret_elements : All (λ a. a < size p.field) secrets) where
  -- the operands of the outputs stand for the outputs
  outs_stand : EachStands (setting p publics secrets) true (last_unrolling p).values (unrolled_outs p) (outputs p publics secrets)
  outs_stand =
      let inputs : HasInputs (setting p publics secrets) = record { publics = publics_len; secrets = secrets_len; public_elements = public_elements; secret_elements = secret_elements } in
      outputs_stand (setting p publics secrets) (last_unrolling p).values p.decls (last_unrolling p).env (last_values p publics secrets)
      (unrolling_holds p publics secrets regular accepted ended inputs).env

  -- what a program is unrolled to denotes its outputs
  pub unrolled_denotes : denoted (unrolled p) publics secrets ≡ outputs p publics secrets
  unrolled_denotes = each_value (setting p publics secrets) (last_unrolling p).values (unrolled_outs p) (outputs p publics secrets) outs_stand

  -- which are its result
  pub unrolled_result : result p publics secrets ≡ Some (denoted (unrolled p) publics secrets)
  unrolled_result = rw ended (ap (λ (xs : List ℕ). Some xs) (sym unrolled_denotes))
