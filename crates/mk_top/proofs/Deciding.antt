-- The bytes of a command's input decide one answer.
use Rattle.std.proofs.Common.{◌≡◌, ℕ, ◌<◌, ◌≤◌, List, [], ◌++◌, Option, Some, None, length, inl, inr, refl, sym, ◌∙◌, ap, subst, arith, ◌⊎◌}
use Rattle.std.proofs.lemmas.List.{append-nil}
use Rattle.mk_base.specs.declared.Place.{Place}
use Rattle.mk_code.specs.Listing.{Listing}
use Rattle.mk_rules.specs.Claimed.{Claimed}
use Rattle.mk_check.proofs.Verdicts.{accepted-not_refused, refused-once}
use Rattle.mk_lines.specs.Lines.{NamesFirst}
use Rattle.mk_regs.specs.declared.refusal.RegRefusal.{RegRefusal}
use Rattle.mk_regs.specs.declared.refusal.RegRefusal.TheVariants as unnamed
use Rattle.mk_bundle.specs.Pairs.{IsBundleOf, IsBundleText, IsRefusedText, TextsReadOnce}
use Rattle.mk_top.specs.declared.fault.Fault.{Fault}
use Rattle.mk_top.specs.declared.fault.Fault.TheVariants as fault
use Rattle.mk_words.specs.declared.fault.SourceFault.{SourceFault}
use Rattle.mk_words.specs.declared.fault.SourceFault.TheVariants as source
use Rattle.mk_words.specs.declared.fault.CheckFault.{CheckFault}
use Rattle.mk_words.specs.declared.fault.CheckFault.TheVariants as check
use Rattle.mk_words.specs.Words.{Command, Compile, Check, Eval, Run, Count, Report, Gen, Trial, Table, Gadget, Regs, GivenTape}
use Rattle.mk_parse.proofs.Refusals.{one_place, one_program}
use Rattle.mk_unroll.specs.Causes.{Cause}
use Rattle.mk_ast.specs.declared.tree.Program.{Program as Tree}
use Rattle.mk_ast.specs.Spells.{Spells, IsRefusedAt}
use Rattle.mk_types.specs.declared.offence.Offence.{Offence}
use Rattle.mk_types.specs.declared.offence.OffenceKind.{OffenceKind}
use Rattle.mk_types.specs.declared.offence.OffenceKind.TheVariants as kind_
use Rattle.mk_types.specs.First.{IsFirst}
use Rattle.mk_types.specs.Offences.{offences, IsWellTyped}
use Rattle.mk_types.proofs.Least.{first_one, none_first}
use Rattle.mk_ast.specs.declared.refusal.SourceRefusal.{SourceRefusal}
use Rattle.mk_ast.specs.declared.refusal.SourceRefusal.TheVariants as refusal_
use Rattle.mk_top.specs.Sources.{IsNoSource}
use Rattle.mk_top.specs.Faults.{fault_of_source}
use Rattle.mk_top.proofs.Tried.{trial-one}
use Rattle.mk_top.proofs.Tabled.{table-one}
use Rattle.mk_top.proofs.Judged.{gadget-one, names-one}
use Rattle.mk_top.proofs.Causes.{cause-once, cause-outside}
use Rattle.mk_top.specs.Decided.{refusal_of, PairDecides, BundleDecides, SourceDecides, CompileDecides, EvalDecides, RunDecides, CountDecides, TextDecides, Decides, limit_of}

-- a refusal tells of one fault
refusal-one : (a b : CheckFault) → refusal_of a ≡ refusal_of b → a ≡ b
refusal-one (check.Operand j) (check.Operand k) e = cc
refusal-one (check.Operand j) (check.Tile k) e = absurd cc
refusal-one (check.Operand j) (check.Output k) e = absurd cc
refusal-one (check.Operand j) (check.Doubled v k) e = absurd cc
refusal-one (check.Tile j) (check.Operand k) e = absurd cc
refusal-one (check.Tile j) (check.Tile k) e = cc
refusal-one (check.Tile j) (check.Output k) e = absurd cc
refusal-one (check.Tile j) (check.Doubled v k) e = absurd cc
refusal-one (check.Output j) (check.Operand k) e = absurd cc
refusal-one (check.Output j) (check.Tile k) e = absurd cc
refusal-one (check.Output j) (check.Output k) e = cc
refusal-one (check.Output j) (check.Doubled v k) e = absurd cc
refusal-one (check.Doubled u j) (check.Operand k) e = absurd cc
refusal-one (check.Doubled u j) (check.Tile k) e = absurd cc
refusal-one (check.Doubled u j) (check.Output k) e = absurd cc
refusal-one (check.Doubled u j) (check.Doubled v k) e = cc

-- a code and certificate decide one answer
pair-one : (code : Listing) (cert : Claimed) (a b : Option Fault) → PairDecides code cert a → PairDecides code cert b → a ≡ b
pair-one code cert None None first second = refl
pair-one code cert None (Some (fault.Check why)) first second = absurd (accepted-not_refused code cert (refusal_of why) first second)
pair-one code cert None (Some f) first second = absurd second
pair-one code cert (Some (fault.Check why)) None first second = absurd (accepted-not_refused code cert (refusal_of why) second first)
pair-one code cert (Some (fault.Check why)) (Some (fault.Check other)) first second = ap (λ (w : CheckFault). Some (fault.Check w)) (refusal-one why other (refused-once code cert (refusal_of why) (refusal_of other) first second))
pair-one code cert (Some (fault.Check why)) (Some f) first second = absurd second
pair-one code cert (Some f) b first second = absurd first

-- the fault of an offence
abbrev fault_of_offence : Offence → Fault
fault_of_offence x = fault.Source (by x.kind x.at)
  where
    by : OffenceKind → Place → SourceFault
    by kind_.Unknown at = source.Unknown at
    by kind_.Twice at = source.Twice at
    by kind_.Kind at = source.Kind at
    by kind_.AssignInput at = source.AssignInput at
    by kind_.MapForm at = source.MapForm at

-- a well typed tree has no first offence
typed-not : (tree : Tree) (x : Offence) → IsWellTyped tree → IsFirst (offences tree) x → ⊥
typed-not tree x typed first = none_first x (subst (λ (xs : List Offence). IsFirst xs x) typed first)

-- a source goes wrong at a place, or spells a tree with a first offence, or a well typed one that decides
data Sourced (decides : Tree → Option Fault → Type 0) (bytes : List ℕ) (answer : Option Fault) : Type 0 where
  refused : (at : Place) → answer ≡ Some (fault.Source (source.Syntax at)) → IsRefusedAt bytes at → IsNoSource bytes → Sourced decides bytes answer
  offends : (tree : Tree) (x : Offence) → Spells tree bytes → answer ≡ Some (fault_of_offence x) → IsFirst (offences tree) x → Sourced decides bytes answer
  typed : (tree : Tree) → Spells tree bytes → IsWellTyped tree → decides tree answer → Sourced decides bytes answer

module _ (decides : Tree → Option Fault → Type 0) (bytes : List ℕ) where
  -- what the bytes decide of a source is the answer that was given
  sourced : (answer : Option Fault) → SourceDecides decides bytes answer → Sourced decides bytes answer
  sourced (Some (fault.Source (source.Syntax at))) d = refused at refl d.0 d.1
  sourced (Some (fault.Source (source.Unknown at))) d = offends d.0 (record { at = at; kind = kind_.Unknown }) d.1 refl d.2
  sourced (Some (fault.Source (source.Twice at))) d = offends d.0 (record { at = at; kind = kind_.Twice }) d.1 refl d.2
  sourced (Some (fault.Source (source.Kind at))) d = offends d.0 (record { at = at; kind = kind_.Kind }) d.1 refl d.2
  sourced (Some (fault.Source (source.AssignInput at))) d = offends d.0 (record { at = at; kind = kind_.AssignInput }) d.1 refl d.2
  sourced (Some (fault.Source (source.MapForm at))) d = offends d.0 (record { at = at; kind = kind_.MapForm }) d.1 refl d.2
  sourced answer d = typed d.0 d.1 d.2 d.3

  -- a source decides one answer, where a well typed tree does
  source-one : ((tree : Tree) (a b : Option Fault) → decides tree a → decides tree b → a ≡ b)
      → (a b : Option Fault) → Sourced decides bytes a → Sourced decides bytes b → a ≡ b
  source-one one a b (refused at e first none) (refused place f second never) = e ∙ ap (λ (p : Place). Some (fault.Source (source.Syntax p))) (one_place at place bytes first second) ∙ sym f
  source-one one a b (refused at e first none) (offends tree x is f second) = absurd (none tree is)
  source-one one a b (refused at e first none) (typed tree is well d) = absurd (none tree is)
  source-one one a b (offends tree x is e first) (refused place f second never) = absurd (never tree is)
  source-one one a b (offends tree x is e first) (offends again y are f second) =
      e ∙ ap (λ (z : Offence). Some (fault_of_offence z))
      (first_one (offences again) x y (subst (λ (t : Tree). IsFirst (offences t) x) (one_program tree again bytes is are) first) second) ∙ sym f
  source-one one a b (offends tree x is e first) (typed again are well d) =
      absurd (typed-not again x well (subst (λ (t : Tree). IsFirst (offences t) x) (one_program tree again bytes is are) first))
  source-one one a b (typed tree is well d) (refused place f second never) = absurd (never tree is)
  source-one one a b (typed tree is well d) (offends again y are f second) =
      absurd (typed-not again y (subst IsWellTyped (one_program tree again bytes is are) well) second)
  source-one one a b (typed tree is well d) (typed again are good c) =
      one again a b (subst (λ (t : Tree). decides t a) (one_program tree again bytes is are) d) c

-- the fault of a refused program, and that it has a cause
record Caused (order : ℕ) (tree : Tree) (fault : Fault) : Type 0 where
  pub refusal : SourceRefusal
  pub cause : Cause tree order refusal
  pub told : fault ≡ fault_of_source refusal

-- a fault that a tree decides under `compile` has its cause
caused : (order : ℕ) (tree : Tree) (f : Fault) → CompileDecides order tree (Some f) → Caused order tree f
caused order tree (fault.Source (source.Index at)) d = record { refusal = refusal_.Index at; cause = d; told = refl }
caused order tree (fault.Source (source.Large limit)) d = record { refusal = refusal_.Large limit; cause = d; told = refl }
caused order tree f d = absurd d

-- a well typed tree decides one answer under `compile`
compile-one : (order : ℕ) (tree : Tree) (a b : Option Fault) → CompileDecides order tree a → CompileDecides order tree b → a ≡ b
compile-one order tree None None first second = refl
compile-one order tree None (Some f) first second = absurd (cause-outside tree order _ (caused order tree f second).cause first)
compile-one order tree (Some f) None first second = absurd (cause-outside tree order _ (caused order tree f first).cause second)
compile-one order tree (Some f) (Some g) first second =
    let one = caused order tree f first in
    let two = caused order tree g second in
    ap Some (one.told ∙ ap fault_of_source (cause-once tree order one.refusal two.refusal one.cause two.cause) ∙ sym two.told)

-- and under `eval`
eval-one : (publics secrets : List ℕ) (tree : Tree) (a b : Option Fault) → EvalDecides publics secrets tree a → EvalDecides publics secrets tree b → a ≡ b
eval-one publics secrets tree a b first second = first ∙ sym second

-- and a code and certificate decide one answer under `run`
run-one : (publics secrets : List ℕ) (tape : GivenTape) (code : Listing) (cert : Claimed) (a b : Option Fault)
    → RunDecides publics secrets tape code cert a → RunDecides publics secrets tape code cert b → a ≡ b
run-one publics secrets tape code cert a b first second = first ∙ sym second

-- and under `count`
count-one : (publics first second probes : List ℕ) (code : Listing) (cert : Claimed) (a b : Option Fault)
    → CountDecides publics first second probes code cert a → CountDecides publics first second probes code cert b → a ≡ b
count-one publics first second probes code cert a b one other = one ∙ sym other

-- what a bundle decides, by its code and certificate
record Pair (decides : Listing → Claimed → Option Fault → Type 0) (bytes : List ℕ) (answer : Option Fault) : Type 0 where
  pub code : Listing
  pub cert : Claimed
  pub spelled : IsBundleOf bytes code cert
  pub decided : decides code cert answer

-- the fault of register code that can't be renamed
abbrev fault_of_registers : RegRefusal → Fault
fault_of_registers (unnamed.Unset instr) = fault.Unset instr
fault_of_registers (unnamed.Register instr) = fault.Register instr
fault_of_registers unnamed.Memory = fault.Memory

-- a bundle text goes wrong at a line, or is that of register code that can't be renamed, or of a pair
data Bundled (decides : Listing → Claimed → Option Fault → Type 0) (bytes : List ℕ) (answer : Option Fault) : Type 0 where
  wrong : (line : ℕ) → answer ≡ Some (fault.Bundle line) → NamesFirst IsBundleText line bytes → (IsBundleText bytes → ⊥) → Bundled decides bytes answer
  stuck : (refusal : RegRefusal) → answer ≡ Some (fault_of_registers refusal) → IsRefusedText refusal bytes → Bundled decides bytes answer
  paired : Pair decides bytes answer → Bundled decides bytes answer

-- what a bundle decides is one of the three
bundled : (decides : Listing → Claimed → Option Fault → Type 0) (bytes : List ℕ) (answer : Option Fault) → BundleDecides decides bytes answer → Bundled decides bytes answer
bundled decides bytes (Some (fault.Bundle line)) d = wrong line refl d.0 d.1
bundled decides bytes (Some (fault.Unset instr)) d = stuck (unnamed.Unset instr) refl d
bundled decides bytes (Some (fault.Register instr)) d = stuck (unnamed.Register instr) refl d
bundled decides bytes answer d = paired (record { code = d.0; cert = d.1; spelled = d.2; decided = d.3 })

-- the bytes of a pair are a text
pair-text : (bytes : List ℕ) (code : Listing) (cert : Claimed) → IsBundleOf bytes code cert → IsBundleText bytes
pair-text bytes code cert (inl is) = inl (code, cert, is)
pair-text bytes code cert (inr is) = inr (is.0, cert, is.1)

-- so are those of register code that can't be renamed
refused-text : (bytes : List ℕ) (refusal : RegRefusal) → IsRefusedText refusal bytes → IsBundleText bytes
refused-text bytes refusal is = inr (is.0, is.1, is.2)

-- the input is too long, or its bytes within the limit decide
within-or-long : (command : Command) (bytes : List ℕ) (answer : Option Fault) → Decides command bytes answer
    → ((answer ≡ Some (fault.TooLong (limit_of command))) × (limit_of command < length bytes)) ⊎ ((length bytes ≤ limit_of command) × TextDecides command bytes answer)
within-or-long command bytes (Some (fault.TooLong limit)) d = inl (ap (λ (l : ℕ). Some (fault.TooLong l)) d.0, subst (λ (l : ℕ). l < length bytes) d.0 d.1)
within-or-long command bytes answer d = inr d

module _ (once : TextsReadOnce) where
  -- equal texts are those of equal pairs, which decide one answer
  pairs-one : (decides : Listing → Claimed → Option Fault → Type 0)
      → ((code : Listing) (cert : Claimed) (a b : Option Fault) → decides code cert a → decides code cert b → a ≡ b)
      → (bytes : List ℕ) (a b : Option Fault) → Pair decides bytes a → Pair decides bytes b → a ≡ b
  pairs-one decides one bytes a b first second =
      let whole : IsBundleOf (bytes ++ []) first.code first.cert =
      subst (λ (bs : List ℕ). IsBundleOf bs first.code first.cert) (sym (append-nil bytes)) first.spelled in
      let equal = once.pairs bytes [] first.code second.code first.cert second.cert whole second.spelled in
      one second.code second.cert a b
      (subst (λ (k : Claimed). decides second.code k a) equal.1 (subst (λ (k : Listing). decides k first.cert a) equal.0 first.decided))
      second.decided

  -- a bundle text decides one answer, where a code and certificate do
  bundle-one : (decides : Listing → Claimed → Option Fault → Type 0)
      → ((code : Listing) (cert : Claimed) (a b : Option Fault) → decides code cert a → decides code cert b → a ≡ b)
      → (bytes : List ℕ) (a b : Option Fault) → Bundled decides bytes a → Bundled decides bytes b → a ≡ b
  bundle-one decides one bytes a b (wrong m e names none) (wrong n f others never) = e ∙ ap (λ (l : ℕ). Some (fault.Bundle l)) (names-one IsBundleText bytes m n names others) ∙ sym f
  bundle-one decides one bytes a b (wrong m e names none) (stuck r f is) = absurd (none (refused-text bytes r is))
  bundle-one decides one bytes a b (wrong m e names none) (paired p) = absurd (none (pair-text bytes p.code p.cert p.spelled))
  bundle-one decides one bytes a b (stuck r e is) (wrong n f others never) = absurd (never (refused-text bytes r is))
  bundle-one decides one bytes a b (stuck r e is) (stuck s f are) = e ∙ ap (λ (x : RegRefusal). Some (fault_of_registers x)) (once.reasons bytes r s is are) ∙ sym f
  bundle-one decides one bytes a b (stuck r e is) (paired p) = absurd (once.refused bytes r p.code p.cert is p.spelled)
  bundle-one decides one bytes a b (paired p) (wrong n f others never) = absurd (never (pair-text bytes p.code p.cert p.spelled))
  bundle-one decides one bytes a b (paired p) (stuck s f are) = absurd (once.refused bytes s p.code p.cert are p.spelled)
  bundle-one decides one bytes a b (paired p) (paired q) = pairs-one decides one bytes a b p q

  -- the text that a command reads decides one answer
  text-one : (command : Command) (bytes : List ℕ) (a b : Option Fault) → TextDecides command bytes a → TextDecides command bytes b → a ≡ b
  text-one (Compile order) bytes a b first second =
      source-one (CompileDecides order) bytes (compile-one order) a b (sourced (CompileDecides order) bytes a first) (sourced (CompileDecides order) bytes b second)
  text-one Check bytes a b first second = bundle-one PairDecides pair-one bytes a b (bundled PairDecides bytes a first) (bundled PairDecides bytes b second)
  text-one (Eval ps ss) bytes a b first second =
      source-one (EvalDecides ps ss) bytes (eval-one ps ss) a b (sourced (EvalDecides ps ss) bytes a first) (sourced (EvalDecides ps ss) bytes b second)
  text-one (Run ps ss t) bytes a b first second =
      bundle-one (RunDecides ps ss t) (run-one ps ss t) bytes a b (bundled (RunDecides ps ss t) bytes a first) (bundled (RunDecides ps ss t) bytes b second)
  text-one (Count ps us xs ks) bytes a b first second =
      let decides = CountDecides ps us xs ks in
      bundle-one decides (count-one ps us xs ks) bytes a b (bundled decides bytes a first) (bundled decides bytes b second)
  text-one Report bytes a b first second = bundle-one PairDecides pair-one bytes a b (bundled PairDecides bytes a first) (bundled PairDecides bytes b second)
  text-one (Gen turns) bytes a b first second = first ∙ sym second
  text-one (Trial turns order) bytes a b first second = trial-one turns order a b first second
  text-one Table bytes a b first second = table-one bytes a b first second
  text-one Gadget bytes a b first second = gadget-one bytes a b first second
  text-one Regs bytes a b first second = bundle-one PairDecides pair-one bytes a b (bundled PairDecides bytes a first) (bundled PairDecides bytes b second)

  -- the input of a command decides one answer
  pub decides-one : (command : Command) (bytes : List ℕ) (a b : Option Fault) → Decides command bytes a → Decides command bytes b → a ≡ b
  decides-one command bytes a b first second =
      elim (within-or-long command bytes a first) [
        | inl x ↦ elim (within-or-long command bytes b second) [
          | inl y ↦ x.0 ∙ sym y.0
          | inr y ↦ absurd (omega (arith, x.1, y.0))
        ]
        | inr x ↦ elim (within-or-long command bytes b second) [
          | inl y ↦ absurd (omega (arith, x.0, y.1))
          | inr y ↦ text-one command bytes a b x.1 y.1
        ]
      ]
