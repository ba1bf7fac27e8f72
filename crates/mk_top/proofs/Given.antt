-- What was made of a text, said of the bytes that the input gave.
use Rattle.std.proofs.Common.{◌≡◌, ℕ, ◌≤◌, ◌<◌, List, [], ◌++◌, drop, Option, Some, None, Result, Ok, Err, IfOk, IfErr, IfSome, length, refl, subst, sym, ap, ◌∙◌, arith, ◌⊎◌, inl, inr}
use Rattle.std.specs.Prelude.{option_map}
use Rattle.std.proofs.lemmas.List.{append-nil, length-append}
use Rattle.std.proofs.Math.Seq.{drop-append_seam}
use Rattle.mk_base.specs.Outside.{Rose}
use Rattle.mk_base.specs.Streams.{ReadsAll, CameWithin}
use Rattle.mk_top.specs.declared.fault.Fault.{Fault}
use Rattle.mk_top.specs.declared.fault.Fault.TheVariants as fault_
use Rattle.mk_words.specs.Words.{Command, Compile, Check, Eval, Run, Count, Report, Gen, Trial, Table, Gadget, Regs, GivenTape}
use Rattle.mk_code.specs.Listing.{Listing}
use Rattle.mk_rules.specs.Claimed.{Claimed}
use Rattle.mk_bundle.specs.declared.TheConstants.{MOST_BYTES}
use Rattle.mk_regs.specs.declared.refusal.RegRefusal.TheVariants as unnamed
use Rattle.mk_regs.specs.Form.{RegListing}
use Rattle.mk_bundle.specs.Pairs.{IsBundleOf, IsBundleText, IsRefusedText}
use Rattle.mk_bundle.specs.Text.{register_text}
use Rattle.mk_bundle.specs.Taking.{Comes}
use Rattle.mk_bundle.specs.Reads.{Collected, Denies}
use Rattle.mk_bundle.specs.declared.refusal.StreamRefusal.{StreamRefusal}
use Rattle.mk_bundle.specs.declared.refusal.StreamRefusal.TheVariants as refusals
use Rattle.mk_lines.specs.Lines.{NamesFirst}
use Rattle.mk_rules.specs.declared.cert.Bundle.{Bundle}
use Rattle.mk_unroll.specs.Causes.{Cause}
use Rattle.mk_top.specs.Decided.{limit_of, TextDecides}
use Rattle.mk_top.specs.Headline.{IsCompiled, CompilesSo, Checks, Allocates, Evaluates, Makes}
use Rattle.mk_top.specs.Because.{ReadWhole, Reads, IsAnswerOf, input_of}
use Rattle.mk_top.specs.Sources.{IsSourceOf}
use Rattle.mk_eval.specs.declared.refusal.EvalRefusal.{EvalRefusal}
use Rattle.mk_eval.specs.declared.refusal.EvalRefusal.TheVariants as eval
use Rattle.mk_eval.specs.Refusals.{refusal}
use Rattle.mk_ast.specs.declared.tree.Program.{Program as Tree}
use Rattle.mk_ast.specs.declared.refusal.SourceRefusal.{SourceRefusal}
use Rattle.mk_ast.specs.declared.refusal.SourceRefusal.TheVariants as refused
use Rattle.mk_run.specs.declared.refusal.RunRefusal.{RunRefusal}
use Rattle.mk_run.specs.declared.refusal.RunRefusal.TheVariants as run
use Rattle.mk_run.specs.declared.refusal.CountRefusal.{CountRefusal}
use Rattle.mk_run.specs.declared.refusal.CountRefusal.TheVariants as count
use Rattle.mk_run.specs.Refusals.{count_refusal, whole_refusal}
use Rattle.mk_code.specs.Private.{masked_trace}
use Rattle.mk_top.specs.Runs.{Runs, tape_of, run_text}
use Rattle.mk_top.specs.Faults.{fault_of_bundle, fault_of_source, status_of, fault_of_eval, fault_of_run, fault_of_count}
use Rattle.mk_top.specs.Seen.{Seen}
use Rattle.mk_top.specs.Running.{NotMade, Made, NoText, NoBundle, TakesBundle}
use Rattle.mk_top.specs.declared.answer.RegisterBundle.{RegisterBundle}
use Rattle.mk_top.proofs.Bundles.{of-given, text-given}
use Rattle.mk_top.proofs.Counted.{counts-given}
use Rattle.mk_top.proofs.Reported.{reports-given}
use Rattle.mk_top.proofs.Tabled.{tabulates-given}
use Rattle.mk_top.proofs.Judged.{judges-given}
use Rattle.mk_top.proofs.Causes.{IsLimitOrIndex, cause-kind}

-- the source that was read is the one that was given
compiled-given : (given after : Option (List ℕ)) (bytes : List ℕ) (order : ℕ) → IfSome given (λ rest. ReadsAll rest bytes after)
    → IsCompiled order (Some bytes) → IsCompiled order given
compiled-given given after bytes order read c = record {
  tree = c.tree;
  code = c.code;
  cert = c.cert;
  source = of-given (λ (bs : List ℕ). IsSourceOf bs c.tree) given after bytes read c.source;
  typed = c.typed;
  within = c.within;
  correct = c.correct;
  private = c.private;
  accepted = c.accepted;
}

-- the same where a text was written
compiles-given : (given after : Option (List ℕ)) (bytes written : List ℕ) (order : ℕ)
    → IfSome given (λ rest. ReadsAll rest bytes after) → CompilesSo order (Some bytes) written → CompilesSo order given written
unfolding compiled-given
compiles-given given after bytes written order read (c, made) = (
  record {
    compiled = compiled-given given after bytes order read c.compiled;
    allocated = c.allocated;
    allocation = c.allocation;
    text = c.text;
    correct = c.correct;
    private = c.private;
    checks = c.checks;
  },
  made,
)

-- the same of a source that was evaluated
evaluates-given : (given after : Option (List ℕ)) (bytes written ps ss : List ℕ)
    → IfSome given (λ rest. ReadsAll rest bytes after) → Evaluates ps ss (Some bytes) written → Evaluates ps ss given written
evaluates-given given after bytes written ps ss read c = record {
  tree = c.tree;
  outputs = c.outputs;
  source = of-given (λ (bs : List ℕ). IsSourceOf bs c.tree) given after bytes read c.source;
  result = c.result;
  taken = c.taken;
  bytes = c.bytes;
}

-- the bundle that was read is the one that was given
pub checks-given : (given after : Option (List ℕ)) (bytes : List ℕ) → IfSome given (λ rest. ReadsAll rest bytes after) → Checks (Some bytes) → Checks given
checks-given given after bytes read c = record {
  code = c.code;
  cert = c.cert;
  bundle = (c.bundle.0, c.bundle.1, of-given (λ (told : List ℕ). told ≡ c.bundle.0) given after bytes read c.bundle.2);
  accepted = c.accepted;
  private = c.private;
  registers = c.registers;
}

-- the same of a bundle whose code was allocated
allocates-given : (given after : Option (List ℕ)) (bytes written : List ℕ) → IfSome given (λ rest. ReadsAll rest bytes after) → Allocates (Some bytes) written
    → Allocates given written
unfolding checks-given
allocates-given given after bytes written read c = record {
  checked = checks-given given after bytes read c.checked;
  allocated = c.allocated;
  allocation = c.allocation;
  text = c.text;
  private = c.private;
  checks = c.checks;
}

-- the same of a bundle that was run
runs-given : (given after : Option (List ℕ)) (bytes written ps ss : List ℕ) (tape : GivenTape)
    → IfSome given (λ rest. ReadsAll rest bytes after) → Runs ps ss tape (Some bytes) written → Runs ps ss tape given written
runs-given given after bytes written ps ss tape read c = record {
  code = c.code;
  cert = c.cert;
  bundle = text-given given after bytes c.code c.cert read c.bundle;
  taken = c.taken;
  bytes = c.bytes;
}

-- what was read within the limit was read to the end
pub read-given : (given after : Option (List ℕ)) (bytes : List ℕ) (limit : ℕ) → length bytes ≤ limit
    → IfSome given (λ rest. ReadsAll rest bytes after) → ReadWhole limit given after
read-given None after bytes limit within read = tt
read-given (Some rest) after bytes limit within read = (subst (λ (xs : List ℕ). length xs ≤ limit) read.whole within, read.end)

-- what a command makes of the text that was read it makes of the input
makes-given : (command : Command) (given after : Option (List ℕ)) (bytes written : List ℕ)
    → IfSome given (λ rest. ReadsAll rest bytes after) → Makes command (Some bytes) written → Makes command given written
makes-given (Compile order) given after bytes written read makes = compiles-given given after bytes written order read makes
makes-given Check given after bytes written read makes = (checks-given given after bytes read makes.0, makes.1)
makes-given (Eval ps ss) given after bytes written read makes = evaluates-given given after bytes written ps ss read makes
makes-given (Run ps ss tape) given after bytes written read makes = runs-given given after bytes written ps ss tape read makes
makes-given (Count ps one two qs) given after bytes written read makes = counts-given given after bytes written ps one two qs read makes
makes-given Report given after bytes written read makes = reports-given given after bytes written read makes
makes-given (Gen turns) given after bytes written read makes = makes
makes-given (Trial turns order) given after bytes written read makes = makes
makes-given Table given after bytes written read makes = tabulates-given given after bytes written read makes
makes-given Gadget given after bytes written read makes = judges-given given after bytes written read makes
makes-given Regs given after bytes written read makes = allocates-given given after bytes written read makes

-- so the text that is made of what was read is the command's
pub made-given : (command : Command) (input : Seen) (bytes : List ℕ) (r : Result (List ℕ) Fault)
    → length bytes ≤ limit_of command → IfSome (input_of command input.before) (λ rest. ReadsAll rest bytes (input_of command input.after))
    → IfOk r (Makes command (Some bytes)) → IfOk r (Made command input)
made-given command input bytes (Ok written) within read makes = record {
  read = read-given (input_of command input.before) (input_of command input.after) bytes (limit_of command) within read;
  makes = makes-given command (input_of command input.before) (input_of command input.after) bytes written read makes;
}
made-given command input bytes (Err fault) within read makes = tt

-- and so is a bundle's text
pub bundle-given : (command : Command) (input : Seen) (bytes : List ℕ) (r : Result RegisterBundle Fault)
    → length bytes ≤ limit_of command → IfSome (input_of command input.before) (λ rest. ReadsAll rest bytes (input_of command input.after))
    → IfOk r (λ b. Makes command (Some bytes) (register_text b.code b.cert)) → IfOk r (λ b. Made command input (register_text b.code b.cert))
bundle-given command input bytes (Ok b) within read makes = made-given command input bytes (Ok (register_text b.code b.cert)) within read makes
bundle-given command input bytes (Err fault) within read makes = tt

-- the fault of a refused evaluation has one of the answers of `eval`
answer-of-eval : (ps ss : List ℕ) (r : Option EvalRefusal) (f : Fault) → Some f ≡ option_map fault_of_eval r → IsAnswerOf (Eval ps ss) (status_of f)
answer-of-eval ps ss None f e = absurd cc
answer-of-eval ps ss (Some r) f e = let same : fault_of_eval r ≡ f = cc in subst (λ (g : Fault). IsAnswerOf (Eval ps ss) (status_of g)) same (by r)
  where
    by : (r : EvalRefusal) → IsAnswerOf (Eval ps ss) (status_of (fault_of_eval r))
    by (eval.Index at) = tt
    by (eval.Large limit) = tt
    by (eval.Length given wanted) = tt
    by (eval.Element which index) = tt
    by eval.Memory = tt

-- the fault of a refused run has one of the answers of `run`
answer-of-run : (ps ss : List ℕ) (tape : GivenTape) (r : Option RunRefusal) (f : Fault) → Some f ≡ option_map fault_of_run r → IsAnswerOf (Run ps ss tape) (status_of f)
answer-of-run ps ss tape None f e = absurd cc
answer-of-run ps ss tape (Some r) f e = let same : fault_of_run r ≡ f = cc in subst (λ (g : Fault). IsAnswerOf (Run ps ss tape) (status_of g)) same (by r)
  where
    by : (r : RunRefusal) → IsAnswerOf (Run ps ss tape) (status_of (fault_of_run r))
    by (run.Length given wanted) = tt
    by (run.Element which index) = tt
    by (run.TapeShort given wanted) = tt
    by run.Memory = tt

-- the fault of a refused count has one of the answers of `count`
answer-of-count : (ps one two qs : List ℕ) (r : Option CountRefusal) (f : Fault) → Some f ≡ option_map fault_of_count r → IsAnswerOf (Count ps one two qs) (status_of f)
answer-of-count ps one two qs None f e = absurd cc
answer-of-count ps one two qs (Some r) f e = let same : fault_of_count r ≡ f = cc in subst (λ (g : Fault). IsAnswerOf (Count ps one two qs) (status_of g)) same (by r)
  where
    by : (r : CountRefusal) → IsAnswerOf (Count ps one two qs) (status_of (fault_of_count r))
    by (count.Length given wanted) = tt
    by (count.Element which index) = tt
    by (count.Probe index) = tt
    by (count.Tapes elements) = tt
    by count.Memory = tt

-- a fault that the bytes decide under a command has one of its answers
answer-of : (command : Command) (bytes : List ℕ) (fault : Fault) → TextDecides command bytes (Some fault) → IsAnswerOf command (status_of fault)
answer-of (Compile order) bytes (fault_.Source why) decides = tt
answer-of (Compile order) bytes (fault_.Inputs why) decides = absurd decides.3
answer-of (Compile order) bytes f decides = absurd decides.3
answer-of Check bytes (fault_.Check why) decides = tt
answer-of Check bytes (fault_.Bundle line) decides = tt
answer-of Check bytes (fault_.Unset instr) decides = tt
answer-of Check bytes (fault_.Register instr) decides = tt
answer-of Check bytes f decides = absurd decides.3
answer-of (Eval ps ss) bytes (fault_.Source why) decides = tt
answer-of (Eval ps ss) bytes f decides = answer-of-eval ps ss (refusal decides.0 ps ss) f decides.3
answer-of (Run ps ss tape) bytes (fault_.Bundle line) decides = tt
answer-of (Run ps ss tape) bytes (fault_.Unset instr) decides = tt
answer-of (Run ps ss tape) bytes (fault_.Register instr) decides = tt
answer-of (Run ps ss tape) bytes f decides = answer-of-run ps ss tape (whole_refusal decides.0 ps ss (tape_of decides.0 tape)) f decides.3
answer-of (Count ps one two qs) bytes (fault_.Bundle line) decides = tt
answer-of (Count ps one two qs) bytes (fault_.Unset instr) decides = tt
answer-of (Count ps one two qs) bytes (fault_.Register instr) decides = tt
answer-of (Count ps one two qs) bytes f decides = answer-of-count ps one two qs (count_refusal decides.0 ps one two qs) f decides.3
answer-of Report bytes (fault_.Check why) decides = tt
answer-of Report bytes (fault_.Bundle line) decides = tt
answer-of Report bytes (fault_.Unset instr) decides = tt
answer-of Report bytes (fault_.Register instr) decides = tt
answer-of Report bytes f decides = absurd decides.3
answer-of (Gen turns) bytes f decides = absurd cc
answer-of (Trial turns order) bytes (fault_.Source why) decides = tt
answer-of (Trial turns order) bytes f decides = absurd decides
answer-of Table bytes (fault_.Inputs why) decides = tt
answer-of Table bytes f decides = absurd decides
answer-of Gadget bytes (fault_.Gadget line) decides = tt
answer-of Gadget bytes (fault_.Sets sets) decides = tt
answer-of Gadget bytes (fault_.Terms terms) decides = tt
answer-of Gadget bytes f decides = absurd decides.2
answer-of Regs bytes (fault_.Check why) decides = tt
answer-of Regs bytes (fault_.Bundle line) decides = tt
answer-of Regs bytes (fault_.Unset instr) decides = tt
answer-of Regs bytes (fault_.Register instr) decides = tt
answer-of Regs bytes f decides = absurd decides.3

-- a fault that the bytes of the text decide, said of the input
text-decides : (command : Command) (input : Seen) (bytes : List ℕ) (fault : Fault)
    → length bytes ≤ limit_of command → IfSome (input_of command input.before) (λ rest. ReadsAll rest bytes (input_of command input.after))
    → TextDecides command bytes (Some fault)
    → IfSome (input_of command input.before) (λ bs. TextDecides command bs (Some fault))
    × ReadWhole (limit_of command) (input_of command input.before) (input_of command input.after)
    × IsAnswerOf command (status_of fault)
text-decides command input bytes fault within read why = (
  of-given (λ (bs : List ℕ). TextDecides command bs (Some fault)) (input_of command input.before) (input_of command input.after) bytes read why,
  read-given (input_of command input.before) (input_of command input.after) bytes (limit_of command) within read,
  answer-of command bytes fault why,
)

-- why nothing was made of the text, said of the input
not_made-given : (command : Command) (input : Seen) (bytes : List ℕ) (fault : Fault)
    → length bytes ≤ limit_of command → IfSome (input_of command input.before) (λ rest. ReadsAll rest bytes (input_of command input.after))
    → NotMade command bytes fault → NoText command input fault
not_made-given command input bytes fault_.Words within read why = why
not_made-given command input bytes (fault_.Source w) within read why = text-decides command input bytes (fault_.Source w) within read why
not_made-given command input bytes (fault_.Inputs w) within read why = text-decides command input bytes (fault_.Inputs w) within read why
not_made-given command input bytes (fault_.Check w) within read why = text-decides command input bytes (fault_.Check w) within read why
not_made-given command input bytes (fault_.Bundle line) within read why = text-decides command input bytes (fault_.Bundle line) within read why
not_made-given command input bytes (fault_.Unset instr) within read why = text-decides command input bytes (fault_.Unset instr) within read why
not_made-given command input bytes (fault_.Register instr) within read why = text-decides command input bytes (fault_.Register instr) within read why
not_made-given command input bytes fault_.ReadFault within read why = absurd why
not_made-given command input bytes fault_.WriteFault within read why = why
not_made-given command input bytes fault_.Memory within read why = tt
not_made-given command input bytes (fault_.Tapes elements) within read why = text-decides command input bytes (fault_.Tapes elements) within read why
not_made-given command input bytes (fault_.Gadget line) within read why = text-decides command input bytes (fault_.Gadget line) within read why
not_made-given command input bytes (fault_.Sets sets) within read why = text-decides command input bytes (fault_.Sets sets) within read why
not_made-given command input bytes (fault_.Terms terms) within read why = text-decides command input bytes (fault_.Terms terms) within read why
not_made-given command input bytes (fault_.TooLong at) within read why = absurd why

-- the same of an answer
pub no_text-given : {X : Type 0} (command : Command) (input : Seen) (bytes : List ℕ) (r : Result X Fault)
    → length bytes ≤ limit_of command → IfSome (input_of command input.before) (λ rest. ReadsAll rest bytes (input_of command input.after))
    → IfErr r (NotMade command bytes) → IfErr r (NoText command input)
no_text-given command input bytes (Ok x) within read why = tt
no_text-given command input bytes (Err fault) within read why = not_made-given command input bytes fault within read why

-- why the tree of a text is not compiled is why nothing is made of the text
pub compile_not_made : (order : ℕ) (bytes : List ℕ) (tree : Tree) (e : SourceRefusal) → IsSourceOf bytes tree → (e ≡ refused.Memory) ⊎ Cause tree order e
    → NotMade (Compile order) bytes (fault_of_source e)
compile_not_made order bytes tree e is (inl wanted) = subst (λ (x : SourceRefusal). NotMade (Compile order) bytes (fault_of_source x)) (sym wanted) tt
compile_not_made order bytes tree e is (inr cause) = by e cause (cause-kind tree order e cause)
  where
    by : (x : SourceRefusal) → Cause tree order x → IsLimitOrIndex x → NotMade (Compile order) bytes (fault_of_source x)
    by (refused.Index at) c kind = (tree, is.spelled.spelled, is.typed, c)
    by (refused.Large limit) c kind = (tree, is.spelled.spelled, is.typed, c)
    by x c kind = absurd kind

-- why the evaluation of the tree of a text is refused is why nothing is made of the text
pub eval_not_made : (ps ss bytes : List ℕ) (tree : Tree) (e : EvalRefusal) → IsSourceOf bytes tree → (e ≡ eval.Memory) ⊎ (refusal tree ps ss ≡ Some e)
    → NotMade (Eval ps ss) bytes (fault_of_eval e)
eval_not_made ps ss bytes tree e is (inl wanted) = subst (λ (x : EvalRefusal). NotMade (Eval ps ss) bytes (fault_of_eval x)) (sym wanted) tt
eval_not_made ps ss bytes tree e is (inr why) = by e why
  where
    by : (x : EvalRefusal) → refusal tree ps ss ≡ Some x → NotMade (Eval ps ss) bytes (fault_of_eval x)
    by (eval.Index at) h = (tree, is.spelled.spelled, is.typed, sym (ap (option_map fault_of_eval) h))
    by (eval.Large limit) h = (tree, is.spelled.spelled, is.typed, sym (ap (option_map fault_of_eval) h))
    by (eval.Length given wanted) h = (tree, is.spelled.spelled, is.typed, sym (ap (option_map fault_of_eval) h))
    by (eval.Element which index) h = (tree, is.spelled.spelled, is.typed, sym (ap (option_map fault_of_eval) h))
    by eval.Memory h = tt

-- why the run of the code of a bundle is refused is why nothing is made of the bundle
pub run_not_made : (ps ss : List ℕ) (tape : GivenTape) (bytes : List ℕ) (code : Listing) (cert : Claimed) (e : RunRefusal) → IsBundleOf bytes code cert
    → (e ≡ run.Memory) ⊎ (whole_refusal code ps ss (tape_of code tape) ≡ Some e) → NotMade (Run ps ss tape) bytes (fault_of_run e)
run_not_made ps ss tape bytes code cert e is (inl wanted) = subst (λ (x : RunRefusal). NotMade (Run ps ss tape) bytes (fault_of_run x)) (sym wanted) tt
run_not_made ps ss tape bytes code cert e is (inr why) = by e why
  where
    by : (x : RunRefusal) → whole_refusal code ps ss (tape_of code tape) ≡ Some x → NotMade (Run ps ss tape) bytes (fault_of_run x)
    by (run.Length given wanted) h = (code, cert, is, sym (ap (option_map fault_of_run) h))
    by (run.Element which index) h = (code, cert, is, sym (ap (option_map fault_of_run) h))
    by (run.TapeShort given wanted) h = (code, cert, is, sym (ap (option_map fault_of_run) h))
    by run.Memory h = tt

-- the lines of a run of a bundle are those that it promises
pub runs-made : (ps ss : List ℕ) (tape : GivenTape) (bytes written : List ℕ) (code : Listing) (cert : Claimed) → IsBundleOf bytes code cert
    → whole_refusal code ps ss (tape_of code tape) ≡ None → written ≡ run_text code (masked_trace code ps ss (tape_of code tape)) → Runs ps ss tape (Some bytes) written
runs-made ps ss tape bytes written code cert is taken lines = record {
  code = code;
  cert = cert;
  bundle = (bytes, is, refl);
  taken = taken;
  bytes = lines;
}

-- what came up to the end is all that the input gave
pub came-whole : (before after : Option (List ℕ)) (came : List ℕ) → Comes came before after → IfSome before (λ rest. after ≡ Some [])
    → IfSome before (λ rest. ReadsAll rest came after)
came-whole None after came comes end = tt
came-whole (Some rest) after came comes end = record { whole = sym (comes.1 ∙ ap (λ (bs : List ℕ). came ++ bs) (none (sym comes.2 ∙ end)) ∙ append-nil came); end = end }
  where
    none : Some comes.0 ≡ Some [] → comes.0 ≡ []
    none e = cc

-- no more came than may come
came-within : (before after : Option (List ℕ)) (came : List ℕ) (limit : ℕ) → length came ≤ limit → Comes came before after
    → IfSome before (λ rest. CameWithin limit rest after)
came-within None after came limit few comes = tt
came-within (Some rest) after came limit few comes = record {
  count = length came;
  within = omega (arith, ap length comes.1 ∙ length-append came comes.0);
  few = few;
  taken = comes.2 ∙ ap (λ (bs : List ℕ). Some bs) (sym (ap (drop (length came)) comes.1 ∙ drop-append_seam came comes.0));
}

-- more came than may come
came-long : (before after : Option (List ℕ)) (came : List ℕ) (limit : ℕ) → limit < length came → Comes came before after
    → IfSome before (λ rest. limit < length rest)
came-long None after came limit many comes = tt
came-long (Some rest) after came limit many comes = omega (arith, ap length comes.1 ∙ length-append came comes.0, many)

-- what came up to the end is all that a command that reads its input was given
came-read : (command : Command) (input : Seen) (came : List ℕ) → Comes came input.before input.after → IfSome input.before (λ rest. input.after ≡ Some [])
    → input_of command input.before ≡ input.before → input_of command input.after ≡ input.after
    → IfSome (input_of command input.before) (λ rest. ReadsAll rest came (input_of command input.after))
came-read command input came comes end before after =
    subst (λ (o : Option (List ℕ)). IfSome o (λ rest. ReadsAll rest came (input_of command input.after))) (sym before)
    (subst (λ (o : Option (List ℕ)). IfSome input.before (λ rest. ReadsAll rest came o)) (sym after)
    (came-whole input.before input.after came comes end))

-- why no bundle was read, by the refusal
denied : (command : Command) (input : Seen) (why : StreamRefusal) → (why ≡ refusals.Fault → Rose input.faults input.faults_after)
    → Denies why MOST_BYTES [] input.before input.after → Reads command → limit_of command ≡ MOST_BYTES
    → input_of command input.before ≡ input.before → input_of command input.after ≡ input.after
    → ((line : ℕ) (bytes : List ℕ) → (IsBundleText bytes → ⊥) → NamesFirst IsBundleText line bytes → TextDecides command bytes (Some (fault_.Bundle line)))
    → ((instr : ℕ) (bytes : List ℕ) → IsRefusedText (unnamed.Unset instr) bytes → TextDecides command bytes (Some (fault_.Unset instr)))
    → ((instr : ℕ) (bytes : List ℕ) → IsRefusedText (unnamed.Register instr) bytes → TextDecides command bytes (Some (fault_.Register instr)))
    → NoText command input (fault_of_bundle why)
denied command input refusals.Fault rose denies reads limit before after decides unset register = (
  reads,
  rose refl,
  subst (λ (o : Option (List ℕ)). IfSome o (λ bytes. CameWithin (limit_of command) bytes (input_of command input.after))) (sym before)
      (subst (λ (o : Option (List ℕ)). IfSome input.before (λ bytes. CameWithin (limit_of command) bytes o)) (sym after)
      (subst (λ (n : ℕ). IfSome input.before (λ bytes. CameWithin n bytes input.after)) (sym limit)
      (came-within input.before input.after denies.came MOST_BYTES denies.few denies.comes))),
)
denied command input refusals.TooLong rose denies reads limit before after decides unset register = (
  reads,
  sym limit,
  subst (λ (o : Option (List ℕ)). IfSome o (λ bytes. limit_of command < length bytes)) (sym before)
      (subst (λ (n : ℕ). IfSome input.before (λ bytes. n < length bytes)) (sym limit)
      (came-long input.before input.after denies.came MOST_BYTES denies.many denies.comes)),
)
denied command input (refusals.Form line) rose denies reads limit before after decides unset register =
    text-decides command input denies.came (fault_.Bundle line) (subst (λ (n : ℕ). length denies.came ≤ n) (sym limit) denies.within)
    (came-read command input denies.came denies.comes denies.end before after) (decides line denies.came denies.only denies.first)
denied command input (refusals.Unset instr) rose denies reads limit before after decides unset register =
    text-decides command input denies.came (fault_.Unset instr) (subst (λ (n : ℕ). length denies.came ≤ n) (sym limit) denies.within)
    (came-read command input denies.came denies.comes denies.end before after) (unset instr denies.came denies.text)
denied command input (refusals.Register instr) rose denies reads limit before after decides unset register =
    text-decides command input denies.came (fault_.Register instr) (subst (λ (n : ℕ). length denies.came ≤ n) (sym limit) denies.within)
    (came-read command input denies.came denies.comes denies.end before after) (register instr denies.came denies.text)
denied command input refusals.Memory rose denies reads limit before after decides unset register = tt

-- the same for each command that reads a bundle
pub no_bundle : (input : Seen) (why : StreamRefusal) → (why ≡ refusals.Fault → Rose input.faults input.faults_after)
    → Denies why MOST_BYTES [] input.before input.after → NoBundle input (fault_of_bundle why)
no_bundle input why rose denies Check takes = denied Check input why rose denies tt refl refl refl (λ line bytes only first. (first, only)) (λ instr bytes is. is) (λ instr bytes is. is)
no_bundle input why rose denies (Run ps ss tape) takes = denied (Run ps ss tape) input why rose denies tt refl refl refl (λ line bytes only first. (first, only)) (λ instr bytes is. is) (λ instr bytes is. is)
no_bundle input why rose denies (Count ps one two qs) takes = denied (Count ps one two qs) input why rose denies tt refl refl refl (λ line bytes only first. (first, only)) (λ instr bytes is. is) (λ instr bytes is. is)
no_bundle input why rose denies Report takes = denied Report input why rose denies tt refl refl refl (λ line bytes only first. (first, only)) (λ instr bytes is. is) (λ instr bytes is. is)
no_bundle input why rose denies Regs takes = denied Regs input why rose denies tt refl refl refl (λ line bytes only first. (first, only)) (λ instr bytes is. is) (λ instr bytes is. is)
no_bundle input why rose denies (Compile order) takes = absurd takes
no_bundle input why rose denies (Eval ps ss) takes = absurd takes
no_bundle input why rose denies (Gen turns) takes = absurd takes
no_bundle input why rose denies (Trial turns order) takes = absurd takes
no_bundle input why rose denies Table takes = absurd takes
no_bundle input why rose denies Gadget takes = absurd takes

-- what a command makes of the text of a bundle that was read to its end
pub made-collected : (command : Command) (input : Seen) (bundle : Bundle) (r : Result (List ℕ) Fault) → TakesBundle command
    → Collected bundle MOST_BYTES input.before input.after
    → ((bytes : List ℕ) → IsBundleOf bytes bundle.code bundle.cert → IfOk r (Makes command (Some bytes))) → IfOk r (Made command input)
made-collected Check input bundle r takes read makes =
    made-given Check input read.came r read.within (came-whole input.before input.after read.came read.comes read.end) (makes read.came read.text)
made-collected (Run ps ss tape) input bundle r takes read makes =
    made-given (Run ps ss tape) input read.came r read.within (came-whole input.before input.after read.came read.comes read.end) (makes read.came read.text)
made-collected (Count ps one two qs) input bundle r takes read makes =
    made-given (Count ps one two qs) input read.came r read.within (came-whole input.before input.after read.came read.comes read.end) (makes read.came read.text)
made-collected Report input bundle r takes read makes =
    made-given Report input read.came r read.within (came-whole input.before input.after read.came read.comes read.end) (makes read.came read.text)
made-collected Regs input bundle r takes read makes =
    made-given Regs input read.came r read.within (came-whole input.before input.after read.came read.comes read.end) (makes read.came read.text)
made-collected (Compile order) input bundle r takes read makes = absurd takes
made-collected (Eval ps ss) input bundle r takes read makes = absurd takes
made-collected (Gen turns) input bundle r takes read makes = absurd takes
made-collected (Trial turns order) input bundle r takes read makes = absurd takes
made-collected Table input bundle r takes read makes = absurd takes
made-collected Gadget input bundle r takes read makes = absurd takes

-- the same of register code and its certificate
pub registers-collected : (input : Seen) (bundle : Bundle) (r : Result RegisterBundle Fault) → Collected bundle MOST_BYTES input.before input.after
    → ((bytes : List ℕ) → IsBundleOf bytes bundle.code bundle.cert → IfOk r (λ made. Allocates (Some bytes) (register_text made.code made.cert)))
    → IfOk r (λ made. Made Regs input (register_text made.code made.cert))
registers-collected input bundle (Ok made) read makes =
    made-collected Regs input bundle (Ok (register_text made.code made.cert)) tt read makes
registers-collected input bundle (Err fault) read makes = tt

-- and why it makes nothing of it
pub no_text-collected : {X : Type 0} (command : Command) (input : Seen) (bundle : Bundle) (r : Result X Fault) → TakesBundle command
    → Collected bundle MOST_BYTES input.before input.after
    → ((bytes : List ℕ) → IsBundleOf bytes bundle.code bundle.cert → IfErr r (NotMade command bytes)) → IfErr r (NoText command input)
no_text-collected Check input bundle r takes read why =
    no_text-given Check input read.came r read.within (came-whole input.before input.after read.came read.comes read.end) (why read.came read.text)
no_text-collected (Run ps ss tape) input bundle r takes read why =
    no_text-given (Run ps ss tape) input read.came r read.within (came-whole input.before input.after read.came read.comes read.end) (why read.came read.text)
no_text-collected (Count ps one two qs) input bundle r takes read why =
    no_text-given (Count ps one two qs) input read.came r read.within (came-whole input.before input.after read.came read.comes read.end) (why read.came read.text)
no_text-collected Report input bundle r takes read why =
    no_text-given Report input read.came r read.within (came-whole input.before input.after read.came read.comes read.end) (why read.came read.text)
no_text-collected Regs input bundle r takes read why =
    no_text-given Regs input read.came r read.within (came-whole input.before input.after read.came read.comes read.end) (why read.came read.text)
no_text-collected (Compile order) input bundle r takes read why = absurd takes
no_text-collected (Eval ps ss) input bundle r takes read why = absurd takes
no_text-collected (Gen turns) input bundle r takes read why = absurd takes
no_text-collected (Trial turns order) input bundle r takes read why = absurd takes
no_text-collected Table input bundle r takes read why = absurd takes
no_text-collected Gadget input bundle r takes read why = absurd takes
