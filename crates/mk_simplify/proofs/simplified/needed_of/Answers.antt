-- Marked and kept, the merged values are simplified.
use Rattle.std.proofs.Common.{◌≡◌, ℕ, List, Bool, All, map, length, sym, ◌∙◌, ap, subst}
use Rattle.mk_ssa.specs.declared.Op.{Op}
use Rattle.mk_ssa.specs.declared.Operand.{Operand}
use Rattle.mk_ssa.specs.Values.{Draft, IsValues, IsSharedThere, draft, finished}
use Rattle.mk_simplify.specs.Simplified.{IsSimplified}
use Rattle.mk_simplify.specs.Renumbering.{renumbered, IsBelow, AreEarlier, AreMarked, ArePlaced}
use Rattle.mk_simplify.proofs.Whole.{IsMade, steps-made, steps-builder, made-simplified, made-shared, outs-within, outs-merged}
use Rattle.mk_simplify.proofs.Carried.{made-earlier}
use Rattle.mk_simplify.proofs.simplified.needed_of.Goals as goal

pub all_renumbered-requires : goal.all_renumbered-requires
all_renumbered-requires c =
    let s = c.args.s.now in
    let ns = c.args.merged.now.numbers in
    let list : c.as_slice.result.now ≡ s.outs = c.as_slice.ensures.items ∙ c.outs.ensures in
    let long : length c.as_slice-2.result.now ≡ length s.values = ap length c.as_slice-2.ensures.items ∙ c.requires.count in
    subst (λ (l : List Operand). All (IsBelow (length c.as_slice-2.result.now)) l) (sym list)
    (subst (λ (n : ℕ). All (IsBelow n) s.outs) (sym long) (outs-within s c.law.ensures))

pub needs-requires-clause-earlier : goal.needs-requires-clause-earlier
needs-requires-clause-earlier c =
    let kept : c.as_slice-ops.result.now ≡ c.args.merged.now.ops.keys = c.as_slice-ops.ensures.keys in
    subst AreEarlier (sym kept) (made-earlier (record (draft c.args.s.now) { values = c.args.merged.now.ops.keys }) c.requires.made)

pub needs-requires-clause-outs : goal.needs-requires-clause-outs
needs-requires-clause-outs c =
    let s = c.args.s.now in
    let ks = c.args.merged.now.ops.keys in
    let ns = c.args.merged.now.numbers in
    let kept : c.as_slice-ops.result.now ≡ ks = c.as_slice-ops.ensures.keys in
    let outs : c.as_slice-3.result.now ≡ map (renumbered ns) s.outs =
    c.as_slice-3.ensures.items ∙ c.in_ok-outs.ensures ∙ ap (λ (l : List ℕ). map (renumbered l) c.as_slice.result.now) c.as_slice-2.ensures.items
    ∙ ap (map (renumbered ns)) (c.as_slice.ensures.items ∙ c.outs.ensures) in
    subst (λ (l : List Op). All (IsBelow (length l)) c.as_slice-3.result.now) (sym kept)
    (outs-merged s ks ns c.as_slice-3.result.now c.law.ensures c.requires outs)

pub all_renumbered-requires-2 : goal.all_renumbered-requires-2
all_renumbered-requires-2 c =
    let s = c.args.s.now in
    let ks = c.args.merged.now.ops.keys in
    let ns = c.args.merged.now.numbers in
    let outs = c.in_ok-outs.outs in
    let marks = c.in_ok-marks.marks.items in
    let values = c.keep.new.builder.values in
    let places = c.in_ok-places.places in
    let kept : c.as_slice-ops.result.now ≡ ks = c.as_slice-ops.ensures.keys in
    let outs_are : outs ≡ map (renumbered ns) s.outs =
    c.in_ok-outs.ensures ∙ ap (λ (l : List ℕ). map (renumbered l) c.as_slice.result.now) c.as_slice-2.ensures.items
    ∙ ap (map (renumbered ns)) (c.as_slice.ensures.items ∙ c.outs.ensures) in
    let long : length c.as_slice-6.result.now ≡ length ks =
    ap length c.as_slice-6.ensures.items ∙ c.in_ok-places.ensures.placed.count ∙ ap length kept in
    subst (λ (l : List Operand). All (IsBelow (length c.as_slice-6.result.now)) l) (sym c.as_slice-5.ensures.items)
    (subst (λ (n : ℕ). All (IsBelow n) outs) (sym long) (outs-merged s ks ns outs c.law.ensures c.requires outs_are))

pub finish-requires : goal.finish-requires
finish-requires c =
    let s = c.args.s.now in
    let ks = c.args.merged.now.ops.keys in
    let ns = c.args.merged.now.numbers in
    let outs = c.in_ok-outs.outs in
    let marks = c.in_ok-marks.marks.items in
    let values = c.keep.new.builder.values in
    let places = c.in_ok-places.places in
    let kept : c.as_slice-ops.result.now ≡ ks = c.as_slice-ops.ensures.keys in
    let outs_are : outs ≡ map (renumbered ns) s.outs =
    c.in_ok-outs.ensures ∙ ap (λ (l : List ℕ). map (renumbered l) c.as_slice.result.now) c.as_slice-2.ensures.items
    ∙ ap (map (renumbered ns)) (c.as_slice.ensures.items ∙ c.outs.ensures) in
    let made : IsMade s ks ns outs marks values places =
    steps-made s ks ns outs marks c.keep.new.builder places c.new-builder.result c.field.result c.secrets.result c.publics.result c.in_ok-maps.maps
    c.law.ensures c.requires outs_are
    (subst (λ (l : List Op). AreMarked l outs marks) kept
    (subst (λ (l : List Operand). AreMarked c.as_slice-ops.result.now l marks) c.as_slice-3.ensures.items c.in_ok-marks.ensures))
    (subst (λ (l : List Op). ArePlaced (length l) l marks values places) kept
    (subst (λ (l : List Bool). ArePlaced (length c.as_slice-ops.result.now) c.as_slice-ops.result.now l values places) c.as_slice-4.ensures.value
    c.in_ok-places.ensures.placed))
    c.in_ok-places.ensures.fit c.in_ok-places.ensures.same c.new-builder.ensures c.field.ensures c.secrets.ensures c.publics.ensures (c.in_ok-maps.ensures ∙ c.maps.ensures) in
    let builder : c.keep.new.builder ≡ record (draft s) { values = values } =
    steps-builder s c.keep.new.builder c.new-builder.result c.field.result c.secrets.result c.publics.result c.in_ok-maps.maps
    c.in_ok-places.ensures.same c.new-builder.ensures c.field.ensures c.secrets.ensures c.publics.ensures (c.in_ok-maps.ensures ∙ c.maps.ensures) in
    let outs_then : c.in_ok-outs-2.outs ≡ map (renumbered places) outs =
    c.in_ok-outs-2.ensures ∙ ap (λ (l : List ℕ). map (renumbered l) c.as_slice-5.result.now) c.as_slice-6.ensures.items
    ∙ ap (map (renumbered places)) c.as_slice-5.ensures.items in
    let shared : All (IsSharedThere c.keep.new.builder) c.in_ok-outs-2.outs =
    subst (λ (b : Draft). All (IsSharedThere b) c.in_ok-outs-2.outs) (sym builder)
    (subst (All (IsSharedThere (record (draft s) { values = values }))) (sym outs_then) (made-shared s ks ns outs marks values places made)) in
    shared

pub returns-clause-simplified : goal.returns-clause-simplified
returns-clause-simplified c =
    let s = c.args.s.now in
    let ks = c.args.merged.now.ops.keys in
    let ns = c.args.merged.now.numbers in
    let outs = c.in_ok-outs.outs in
    let marks = c.in_ok-marks.marks.items in
    let values = c.keep.new.builder.values in
    let places = c.in_ok-places.places in
    let kept : c.as_slice-ops.result.now ≡ ks = c.as_slice-ops.ensures.keys in
    let outs_are : outs ≡ map (renumbered ns) s.outs =
    c.in_ok-outs.ensures ∙ ap (λ (l : List ℕ). map (renumbered l) c.as_slice.result.now) c.as_slice-2.ensures.items
    ∙ ap (map (renumbered ns)) (c.as_slice.ensures.items ∙ c.outs.ensures) in
    let made : IsMade s ks ns outs marks values places =
    steps-made s ks ns outs marks c.keep.new.builder places c.new-builder.result c.field.result c.secrets.result c.publics.result c.in_ok-maps.maps
    c.law.ensures c.requires outs_are
    (subst (λ (l : List Op). AreMarked l outs marks) kept
    (subst (λ (l : List Operand). AreMarked c.as_slice-ops.result.now l marks) c.as_slice-3.ensures.items c.in_ok-marks.ensures))
    (subst (λ (l : List Op). ArePlaced (length l) l marks values places) kept
    (subst (λ (l : List Bool). ArePlaced (length c.as_slice-ops.result.now) c.as_slice-ops.result.now l values places) c.as_slice-4.ensures.value
    c.in_ok-places.ensures.placed))
    c.in_ok-places.ensures.fit c.in_ok-places.ensures.same c.new-builder.ensures c.field.ensures c.secrets.ensures c.publics.ensures (c.in_ok-maps.ensures ∙ c.maps.ensures) in
    let builder : c.keep.new.builder ≡ record (draft s) { values = values } =
    steps-builder s c.keep.new.builder c.new-builder.result c.field.result c.secrets.result c.publics.result c.in_ok-maps.maps
    c.in_ok-places.ensures.same c.new-builder.ensures c.field.ensures c.secrets.ensures c.publics.ensures (c.in_ok-maps.ensures ∙ c.maps.ensures) in
    let outs_then : c.in_ok-outs-2.outs ≡ map (renumbered places) outs =
    c.in_ok-outs-2.ensures ∙ ap (λ (l : List ℕ). map (renumbered l) c.as_slice-5.result.now) c.as_slice-6.ensures.items
    ∙ ap (map (renumbered places)) c.as_slice-5.ensures.items in
    let shared : All (IsSharedThere c.keep.new.builder) c.in_ok-outs-2.outs =
    subst (λ (b : Draft). All (IsSharedThere b) c.in_ok-outs-2.outs) (sym builder)
    (subst (All (IsSharedThere (record (draft s) { values = values }))) (sym outs_then) (made-shared s ks ns outs marks values places made)) in
    let result : c.finish.result ≡ finished (record (draft s) { values = values }) (map (renumbered places) outs) =
    c.finish.ensures ∙ ap (λ (b : Draft). finished b c.in_ok-outs-2.outs) builder ∙ ap (finished (record (draft s) { values = values })) outs_then in
    subst (IsSimplified s) (sym result) (made-simplified s ks ns outs marks values places made)

pub returns-clause-fits : goal.returns-clause-fits
returns-clause-fits c =
    let s = c.args.s.now in
    let ks = c.args.merged.now.ops.keys in
    let ns = c.args.merged.now.numbers in
    let outs = c.in_ok-outs.outs in
    let marks = c.in_ok-marks.marks.items in
    let values = c.keep.new.builder.values in
    let places = c.in_ok-places.places in
    let kept : c.as_slice-ops.result.now ≡ ks = c.as_slice-ops.ensures.keys in
    let outs_are : outs ≡ map (renumbered ns) s.outs =
    c.in_ok-outs.ensures ∙ ap (λ (l : List ℕ). map (renumbered l) c.as_slice.result.now) c.as_slice-2.ensures.items
    ∙ ap (map (renumbered ns)) (c.as_slice.ensures.items ∙ c.outs.ensures) in
    let made : IsMade s ks ns outs marks values places =
    steps-made s ks ns outs marks c.keep.new.builder places c.new-builder.result c.field.result c.secrets.result c.publics.result c.in_ok-maps.maps
    c.law.ensures c.requires outs_are
    (subst (λ (l : List Op). AreMarked l outs marks) kept
    (subst (λ (l : List Operand). AreMarked c.as_slice-ops.result.now l marks) c.as_slice-3.ensures.items c.in_ok-marks.ensures))
    (subst (λ (l : List Op). ArePlaced (length l) l marks values places) kept
    (subst (λ (l : List Bool). ArePlaced (length c.as_slice-ops.result.now) c.as_slice-ops.result.now l values places) c.as_slice-4.ensures.value
    c.in_ok-places.ensures.placed))
    c.in_ok-places.ensures.fit c.in_ok-places.ensures.same c.new-builder.ensures c.field.ensures c.secrets.ensures c.publics.ensures (c.in_ok-maps.ensures ∙ c.maps.ensures) in
    let builder : c.keep.new.builder ≡ record (draft s) { values = values } =
    steps-builder s c.keep.new.builder c.new-builder.result c.field.result c.secrets.result c.publics.result c.in_ok-maps.maps
    c.in_ok-places.ensures.same c.new-builder.ensures c.field.ensures c.secrets.ensures c.publics.ensures (c.in_ok-maps.ensures ∙ c.maps.ensures) in
    let outs_then : c.in_ok-outs-2.outs ≡ map (renumbered places) outs =
    c.in_ok-outs-2.ensures ∙ ap (λ (l : List ℕ). map (renumbered l) c.as_slice-5.result.now) c.as_slice-6.ensures.items
    ∙ ap (map (renumbered places)) c.as_slice-5.ensures.items in
    let shared : All (IsSharedThere c.keep.new.builder) c.in_ok-outs-2.outs =
    subst (λ (b : Draft). All (IsSharedThere b) c.in_ok-outs-2.outs) (sym builder)
    (subst (All (IsSharedThere (record (draft s) { values = values }))) (sym outs_then) (made-shared s ks ns outs marks values places made)) in
    subst IsValues (sym c.finish.ensures) (record { made = c.in_ok-places.ensures.fit; outs = shared })
