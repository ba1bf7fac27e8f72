-- The tapes of two worlds, tallied one world after the other.
use Rattle.std.proofs.Common.{◌≡◌, ℕ, List, [], Vec, ap, ◌∙◌}
use Rattle.std.specs.BTreeMap.{BTreeMap}
use Rattle.mk_code.specs.Listing.{Listing}
use Rattle.mk_code.specs.Private.{ways}
use Rattle.mk_run.specs.declared.tally.Tally.{Tally}
use Rattle.mk_run.specs.declared.tally.World.TheVariants.{First, Second}
use Rattle.mk_run.specs.Tally.{more, tally_of}
use Rattle.mk_run.proofs.Tallying.{two-worlds}

-- the tallies have the numbers of ways
pub tallied : {Z : Type 0} (code code1 code2 : Listing) (publics publics1 publics2 first second probes : List ℕ) (t0 t1 t2 : BTreeMap (Vec ℕ Z) Tally)
    → code1 ≡ code → publics1 ≡ publics → code2 ≡ code → publics2 ≡ publics → t0.entries ≡ []
    → ((tuple : List ℕ) → tally_of t1 tuple ≡ more First (ways code1 publics1 first probes tuple) (tally_of t0 tuple))
    → ((tuple : List ℕ) → tally_of t2 tuple ≡ more Second (ways code2 publics2 second probes tuple) (tally_of t1 tuple))
    → (tuple : List ℕ) → (((tally_of t2 tuple).first ≡ ways code publics first probes tuple) × ((tally_of t2 tuple).second ≡ ways code publics second probes tuple))
tallied code code1 code2 publics publics1 publics2 first second probes t0 t1 t2 same1 alike1 same2 alike2 empty left right tuple =
    let both = two-worlds t0 t1 t2 (ways code1 publics1 first probes) (ways code2 publics2 second probes) empty left right tuple in (
      both.0 ∙ ap (λ (l : Listing). ways l publics1 first probes tuple) same1 ∙ ap (λ (p : List ℕ). ways code p first probes tuple) alike1,
      both.1 ∙ ap (λ (l : Listing). ways l publics2 second probes tuple) same2 ∙ ap (λ (p : List ℕ). ways code p second probes tuple) alike2,
    )
