-- What a trial decides: the generator's text spells one program, which has so many operators.
use Rattle.std.proofs.Common.{◌≡◌, ℕ, ◌+◌, ◌*◌, ◌≤◌, ◌<◌, List, [], ◌∷◌, ◌++◌, Option, Some, None, length, refl, sym, ap, subst, ◌∙◌, arith, append_assoc, ◌⊎◌, inl, inr}
use Rattle.std.specs.Prelude.{codes, decimal, flat_map, count_by}
use Rattle.std.proofs.lemmas.Fmt.{length-decimal-le}
use Rattle.std.proofs.lemmas.List.{length-append}
use Rattle.mk_ast.specs.declared.tree.Program.{Program as Tree}
use Rattle.mk_ast.specs.declared.refusal.SourceRefusal.{SourceRefusal}
use Rattle.mk_ast.specs.declared.refusal.SourceRefusal.TheVariants as refused
use Rattle.mk_ast.specs.declared.refusal.Limit.TheVariants as limit_
use Rattle.mk_ast.specs.Canonical.{ended}
use Rattle.mk_ast.specs.Spells.{Spells}
use Rattle.mk_parse.proofs.Refusals.{one_program}
use Rattle.mk_types.specs.declared.offence.Offence.{Offence}
use Rattle.mk_types.specs.First.{IsFirst}
use Rattle.mk_types.specs.Offences.{offences}
use Rattle.mk_types.specs.Stops.{Event}
use Rattle.mk_types.proofs.Least.{none_first}
use Rattle.mk_unroll.specs.Causes.{Cause, Elements, Stops, Size}
use Rattle.mk_code.specs.Listing.{Listing}
use Rattle.mk_code.specs.Trace.{randoms}
use Rattle.mk_rules.specs.Claimed.{Claimed}
use Rattle.mk_gen.specs.Generated.{declaration_lines, generated, IsGenerated}
use Rattle.mk_gen.proofs.Spelled.{generated_program}
use Rattle.mk_top.specs.declared.fault.Fault.{Fault}
use Rattle.mk_top.specs.declared.fault.Fault.TheVariants as fault
use Rattle.mk_words.specs.declared.fault.SourceFault.TheVariants as source
use Rattle.mk_words.specs.Words.{Trial}
use Rattle.mk_top.specs.Decided.{TrialDecides}
use Rattle.mk_top.specs.Headline.{Tries, is_refresh, trial_line}
use Rattle.mk_top.specs.Sources.{IsSourceOf}
use Rattle.mk_top.specs.Faults.{fault_of_source}
use Rattle.mk_top.specs.Running.{NotMade, NotTyped}

-- what the text spells is the program that was generated
pub spelled-generated : (turns : ℕ) (tree : Tree) → turns ≤ 3276 → Spells tree (generated turns) → IsGenerated turns tree
spelled-generated turns tree few spelled =
    let p = generated_program turns few in
    subst (λ (t : Tree). IsGenerated turns t) (one_program p.0 tree (generated turns) p.1.spelled spelled) p.1

-- a trial decides one answer
pub trial-one : (turns order : ℕ) (a b : Option Fault) → TrialDecides turns order a → TrialDecides turns order b → a ≡ b
trial-one turns order None None first second = refl
trial-one turns order None (Some (fault.Source (source.Large limit_.Size))) first second = absurd (omega (arith, first, second))
trial-one turns order None (Some f) first second = absurd second
trial-one turns order (Some (fault.Source (source.Large limit_.Size))) None first second = absurd (omega (arith, first, second))
trial-one turns order (Some (fault.Source (source.Large limit_.Size))) (Some (fault.Source (source.Large limit_.Size))) first second = refl
trial-one turns order (Some (fault.Source (source.Large limit_.Size))) (Some f) first second = absurd second
trial-one turns order (Some f) b first second = absurd first

-- what was tried is within the limits
pub tries-decides : (turns order : ℕ) (written : List ℕ) → 1 ≤ turns → turns ≤ 3276 → Tries turns order written → TrialDecides turns order None
tries-decides turns order written some few tries =
    let is = spelled-generated turns tries.compiled.tree few tries.compiled.source.spelled.spelled in
    subst (λ (n : ℕ). n * ((order + 1) * (order + 1)) ≤ 1000000) is.operations tries.compiled.within.small

-- what stands before the number of turns
abbrev before_number : List ℕ
before_number = flat_map ended declaration_lines ++ codes "for i in 0.."

-- what stands behind its line
abbrev behind_head : List ℕ
behind_head = flat_map ended (codes "  a = x[i % 16] + y[5 * i % 16];" ∷ codes "  y[i % 16] = a * m(a) + sq(y[(i + 1) % 16]);" ∷ codes "}" ∷ [])

-- the text is within the limit of a source
pub generated-within : (turns : ℕ) → turns ≤ 3276 → length (generated turns) ≤ 1048576
generated-within turns few =
    let parts : generated turns ≡ before_number ++ (decimal turns ++ (codes " {" ++ (10 ∷ behind_head))) =
    ap (λ t. before_number ++ t) (append_assoc (decimal turns ++ codes " {") (10 ∷ []) behind_head ∙ append_assoc (decimal turns) (codes " {") (10 ∷ behind_head)) in
    let before : length before_number ≡ 125 = refl in
    let behind : length (codes " {" ++ (10 ∷ behind_head)) ≡ 84 = refl in
    let digits = length-decimal-le 4 turns (omega arith) (omega (arith, few)) (omega (arith, few)) in
    omega (
      arith,
      ap (λ t. length t) parts,
      length-append before_number (decimal turns ++ (codes " {" ++ (10 ∷ behind_head))),
      length-append (decimal turns) (codes " {" ++ (10 ∷ behind_head)),
      before,
      behind,
      digits,
    )

-- a generated program has no first offence
generated-first : (turns : ℕ) (tree : Tree) (x : Offence) → turns ≤ 3276 → Spells tree (generated turns) → IsFirst (offences tree) x → ⊥
generated-first turns tree x few spelled first =
    none_first x (subst (λ (xs : List Offence). IsFirst xs x) (spelled-generated turns tree few spelled).well_typed first)

-- the generator's text is typed, or memory was wanted
pub trial-typed : (turns order : ℕ) (f : Fault) → turns ≤ 3276 → NotTyped (generated turns) f → NotMade (Trial turns order) [] f
trial-typed turns order fault.Memory few why = tt
trial-typed turns order (fault.Source (source.Syntax at)) few why =
    let p = generated_program turns few in
    absurd (why.1 p.0 p.1.spelled)
trial-typed turns order (fault.Source (source.Unknown at)) few why = absurd (generated-first turns why.0 _ few why.1 why.2)
trial-typed turns order (fault.Source (source.Twice at)) few why = absurd (generated-first turns why.0 _ few why.1 why.2)
trial-typed turns order (fault.Source (source.Kind at)) few why = absurd (generated-first turns why.0 _ few why.1 why.2)
trial-typed turns order (fault.Source (source.AssignInput at)) few why = absurd (generated-first turns why.0 _ few why.1 why.2)
trial-typed turns order (fault.Source (source.MapForm at)) few why = absurd (generated-first turns why.0 _ few why.1 why.2)
trial-typed turns order (fault.Source w) few why = absurd why.3
trial-typed turns order f few why = absurd why

-- execution that stops doesn't come to its end
stops-not : (x : Event) (o : Option Event) → o ≡ Some x → o ≡ None → ⊥
stops-not x o some none = let e = sym some ∙ none in absurd cc

-- why a generated program is not compiled: it is too large, or memory was wanted
pub trial-compiled : (turns order : ℕ) (tree : Tree) (e : SourceRefusal) → turns ≤ 3276 → Spells tree (generated turns)
    → (e ≡ refused.Memory) ⊎ Cause tree order e → NotMade (Trial turns order) [] (fault_of_source e)
trial-compiled turns order tree e few spelled (inl wanted) = subst (λ (x : SourceRefusal). NotMade (Trial turns order) [] (fault_of_source x)) (sym wanted) tt
trial-compiled turns order tree e few spelled (inr (Elements over is)) = absurd (omega (arith, over, (spelled-generated turns tree few spelled).few_elements))
trial-compiled turns order tree e few spelled (inr (Stops event less stops is)) = absurd (stops-not event _ stops (spelled-generated turns tree few spelled).ends)
trial-compiled turns order tree e few spelled (inr (Size less ends over is)) =
    subst (λ (x : SourceRefusal). NotMade (Trial turns order) [] (fault_of_source x)) (sym is)
    (subst (λ (n : ℕ). 1000000 < n * ((order + 1) * (order + 1))) (spelled-generated turns tree few spelled).operations over)

-- nine lists one after the other, whichever are joined first
nine : (a b c d e f g h i : List ℕ) → a ++ b ++ c ++ d ++ e ++ f ++ g ++ h ++ i ≡ a ++ (b ++ (c ++ (d ++ (e ++ (f ++ (g ++ (h ++ i)))))))
nine a b c d e f g h i =
    append_assoc (a ++ b ++ c ++ d ++ e ++ f ++ g) h i
    ∙ append_assoc (a ++ b ++ c ++ d ++ e ++ f) g (h ++ i)
    ∙ append_assoc (a ++ b ++ c ++ d ++ e) f (g ++ (h ++ i))
    ∙ append_assoc (a ++ b ++ c ++ d) e (f ++ (g ++ (h ++ i)))
    ∙ append_assoc (a ++ b ++ c) d (e ++ (f ++ (g ++ (h ++ i))))
    ∙ append_assoc (a ++ b) c (d ++ (e ++ (f ++ (g ++ (h ++ i)))))
    ∙ append_assoc a b (c ++ (d ++ (e ++ (f ++ (g ++ (h ++ i))))))

-- the line of these numbers
abbrev numbers_line : ℕ → ℕ → ℕ → ℕ → List ℕ
numbers_line blocks refreshes instrs elements =
    codes "blocks " ++ decimal blocks ++ codes " refreshes " ++ decimal refreshes ++ codes " instructions " ++ decimal instrs ++ codes " randoms " ++ decimal elements
    ++ codes " accepted\n"

-- the same, as it is written
abbrev numbers_written : ℕ → ℕ → ℕ → ℕ → List ℕ
numbers_written blocks refreshes instrs elements =
    codes "blocks "
    ++ (decimal blocks
    ++ (codes " refreshes " ++ (decimal refreshes ++ (codes " instructions " ++ (decimal instrs ++ (codes " randoms " ++ (decimal elements ++ codes " accepted\n")))))))

-- it is the line of a trial, where they are the numbers of a code and certificate
pub trial_line-of : (code : Listing) (cert : Claimed) (before written : List ℕ) (blocks refreshes instrs elements : ℕ)
    → before ≡ [] → written ≡ before ++ numbers_written blocks refreshes instrs elements
    → blocks ≡ length cert.blocks → refreshes ≡ count_by is_refresh cert.blocks → instrs ≡ length code.instrs → elements ≡ randoms code.instrs
    → written ≡ trial_line code cert
trial_line-of code cert before written blocks refreshes instrs elements none is b r i n =
    is ∙ ap (λ (t : List ℕ). t ++ numbers_written blocks refreshes instrs elements) none
    ∙ sym (nine (codes "blocks ") (decimal blocks) (codes " refreshes ") (decimal refreshes) (codes " instructions ") (decimal instrs) (codes " randoms ") (decimal elements) (codes " accepted\n"))
    ∙ ap (λ (k : ℕ). numbers_line k refreshes instrs elements) b
    ∙ ap (λ (k : ℕ). numbers_line (length cert.blocks) k instrs elements) r
    ∙ ap (λ (k : ℕ). numbers_line (length cert.blocks) (count_by is_refresh cert.blocks) k elements) i
    ∙ ap (λ (k : ℕ). numbers_line (length cert.blocks) (count_by is_refresh cert.blocks) (length code.instrs) k) n
