-- Statements and turns one after the other.
use Rattle.std.proofs.Common.{◌≡◌, ℕ, zero, suc, ◌+◌, ◌-◌, ◌≤◌, ◌<◌, List, [], ◌∷◌, ◌++◌, map, flat_map, true, refl, sym, ap, subst, ◌∙◌, arith}
use Rattle.std.specs.Prelude.{fold}
use Rattle.std.specs.List.{range_with_len}
use Rattle.std.proofs.lemmas.List.{append-nil}
use Rattle.std.proofs.lemmas.Grind.{flat_map-append}
use Rattle.std.proofs.lemmas.List.Sums.{fold-append}
use Rattle.mk_base.specs.declared.Place.{Place}
use Rattle.mk_ast.specs.declared.refusal.SourceRefusal.{SourceRefusal}
use Rattle.mk_ast.specs.declared.tree.Decl.{Decl}
use Rattle.mk_ast.specs.declared.tree.Ref.{Ref}
use Rattle.mk_ast.specs.declared.tree.Expr.{Expr}
use Rattle.mk_ast.specs.declared.tree.Stmt.{Stmt}
use Rattle.mk_ast.specs.declared.tree.Stmt.TheVariants as stmt
use Rattle.mk_ast.proofs.Induction.{stmt_induction}
use Rattle.mk_ssa.specs.declared.Operand.{Operand}
use Rattle.mk_ssa.specs.Values.{Draft, IsSharedThere}
use Rattle.mk_types.specs.Scope.{declared, is_variable, is_shared_class}
use Rattle.mk_types.specs.Turns.{Turn, in_turn, turn_numbers}
use Rattle.mk_types.specs.Elements.{number_of}
use Rattle.mk_types.specs.Environment.{Environment, stored}
use Rattle.mk_types.specs.Units.{WorkUnit, Step, element_number, stmt_units}
use Rattle.mk_types.proofs.ExecutionLayers.{units-Set}
use Rattle.mk_unroll.specs.Counted.{Count, counted, Halts}
use Rattle.mk_unroll.specs.Kept.{Gives, Holds, Becomes}
use Rattle.mk_unroll.specs.Running.{body_unrolled, turns_unrolled}
use Rattle.mk_unroll.specs.Unrolled.{Unrolling, assigned, assignment_unrolled, stmt_unrolled}
use Rattle.mk_unroll.proofs.Counting.{units_loop, halts_within, counted_append}
use Rattle.mk_unroll.proofs.Holding.{holds_kept, holds_stored}
use Rattle.mk_unroll.proofs.UnrolledLayers.{unrolled-Loop}

-- the first unit of a statement is a step
pub step_first : (decls : List Decl) (turns : List Turn) (s : Stmt) → (rest : List WorkUnit) × (stmt_units decls s turns ≡ Step ∷ rest)
step_first decls turns =
    stmt_induction (λ s. (rest : List WorkUnit) × (stmt_units decls s turns ≡ Step ∷ rest))
    (λ target value. (_, units-Set decls target value turns))
    (λ name at from to body all. (_, units_loop decls name at from to body turns))

-- an assignment
pub assignment_becomes : (decls : List Decl) (turns : List Turn) (target : Ref) (value : Expr) (d after : Draft) (env new : Environment Operand) (n i : ℕ) (v : Operand) →
    Holds d decls env → Gives d (assigned decls turns target value (record { values = d.values; env = env })) after v →
    (is_variable is_shared_class (declared decls target.name) ≡ true → IsSharedThere after v) →
    n ≡ number_of decls target.name → i ≡ element_number turns target → new ≡ stored env n i v →
    Becomes decls d (assignment_unrolled decls target value turns (record { values = d.values; env = env })) after new
assignment_becomes decls turns target value d after env new n i v holds gives shared number index is =
    let at : new ≡ stored env (number_of decls target.name) (element_number turns target) v =
    is ∙ ap (λ m. stored env m i v) number ∙ ap (λ j. stored env (number_of decls target.name) j v) index in
    record {
      env = at ∙ ap (stored env (number_of decls target.name) (element_number turns target)) gives.operand;
      values = gives.values;
      holds =
          subst (Holds after decls) (sym at)
          (holds_stored after decls env target.name (element_number turns target) v gives.there shared (holds_kept d after decls env gives.keeps holds));
    }

-- a loop, turn by turn
pub unrolled_loop : (decls : List Decl) (turns : List Turn) (now : Unrolling) (name : List ℕ) (at : Place) (from to : ℕ) (body : List Stmt) →
    stmt_unrolled decls (stmt.Loop name at from to body) turns now ≡ turns_unrolled decls turns name body now (turn_numbers from to)
unrolled_loop decls turns now name at from to body =
    unrolled-Loop decls turns now name at from to body
    ∙ ap (λ (f : Unrolling → ℕ → Unrolling). fold f now (turn_numbers from to)) (λ i so_far number. each (in_turn turns name number) body so_far i)
  where
    each : (ts : List Turn) (ss : List Stmt) (a : Unrolling) → fold (λ here part. part ts here) a (map (stmt_unrolled decls) ss) ≡ body_unrolled decls ts a ss
    each ts [] a = refl
    each ts (s ∷ ss) a = each ts ss (stmt_unrolled decls s ts a)

-- numbers one after the other, in two parts
range_append : (a m n : ℕ) → range_with_len a (m + n) ≡ range_with_len a m ++ range_with_len (a + m) n
range_append a zero n =
    let none : zero + n ≡ n = omega arith in
    let at : a ≡ a + zero = omega arith in
    ap (range_with_len a) none ∙ ap (λ b. range_with_len b n) at
range_append a (suc m) n =
    let next : suc m + n ≡ suc (m + n) = omega arith in
    ap (range_with_len a) next ∙ ap (λ xs. a ∷ xs) (range_append (a + 1) m n ∙ ap (λ b. range_with_len (a + 1) m ++ range_with_len b n) (omega arith))

-- the turns up to one of them, and those from it on
turns_split : (from number to : ℕ) → from ≤ number → number ≤ to → turn_numbers from to ≡ turn_numbers from number ++ turn_numbers number to
turns_split from number to first last =
    let parts : to - from ≡ (number - from) + (to - number) = omega (arith, first, last) in
    let at : from + (number - from) ≡ number = omega (arith, first) in
    ap (range_with_len from) parts ∙ range_append from (number - from) (to - number) ∙ ap (λ b. turn_numbers from number ++ range_with_len b (to - number)) at

-- the first of the turns from one on
turns_first : (number to : ℕ) → number < to → turn_numbers number to ≡ number ∷ turn_numbers (number + 1) to
turns_first number to within =
    let more : to - number ≡ suc (to - (number + 1)) = omega (arith, within) in
    ap (range_with_len number) more

-- one more turn
pub turns_more : (from number : ℕ) → from ≤ number → turn_numbers from (number + 1) ≡ turn_numbers from number ++ number ∷ []
turns_more from number first =
    let none : number + 1 - (number + 1) ≡ 0 = omega arith in
    turns_split from number (number + 1) first (omega arith)
    ∙ ap (λ ns. turn_numbers from number ++ ns) (turns_first number (number + 1) (omega arith) ∙ ap (λ n. number ∷ range_with_len (number + 1) n) none)

-- what stops within one of the turns
pub turn_halts : (e : SourceRefusal) (m now : Count) (g : ℕ → List WorkUnit) (from number to : ℕ) (us : List WorkUnit) → from ≤ number → number < to →
    now ≡ counted m (flat_map g (turn_numbers from number)) → g number ≡ us → Halts e (counted now us) → Halts e (counted m (flat_map g (turn_numbers from to)))
turn_halts e m now g from number to us first within count is halts =
    halts_within e m (flat_map g (turn_numbers from number)) us (flat_map g (turn_numbers (number + 1) to)) _
    (ap (flat_map g) (turns_split from number to first (omega (arith, within)) ∙ ap (λ ns. turn_numbers from number ++ ns) (turns_first number to within))
    ∙ flat_map-append g (turn_numbers from number) (number ∷ turn_numbers (number + 1) to)
    ∙ ap (λ ws. flat_map g (turn_numbers from number) ++ (ws ++ flat_map g (turn_numbers (number + 1) to))) is)
    (subst (λ (c : Count). Halts e (counted c us)) count halts)

-- all turns
pub turns_all : (from number to : ℕ) → from ≤ number → to ≤ number → number ≤ from + (to - from) → turn_numbers from number ≡ turn_numbers from to
turns_all from number to first last near =
    let same : number - from ≡ to - from = omega (arith, first, last, near) in
    ap (range_with_len from) same

-- what is counted of one more turn
pub turn_counted : (m now after : Count) (g : ℕ → List WorkUnit) (from number : ℕ) (us : List WorkUnit) → from ≤ number →
    now ≡ counted m (flat_map g (turn_numbers from number)) → g number ≡ us → after ≡ counted now us → after ≡ counted m (flat_map g (turn_numbers from (number + 1)))
turn_counted m now after g from number us first count is last =
    last ∙ ap (λ c. counted c us) count ∙ sym (counted_append m (flat_map g (turn_numbers from number)) us)
    ∙ ap (counted m)
    (sym (ap (flat_map g) (turns_more from number first) ∙ flat_map-append g (turn_numbers from number) (number ∷ [])
    ∙ ap (λ ws. flat_map g (turn_numbers from number) ++ ws) (append-nil (g number) ∙ is)))

-- what was done, and then more
pub becomes_then : (decls : List Decl) (a b c : Draft) (u : Unrolling) (f : Unrolling → Unrolling) (env new : Environment Operand) → Becomes decls a u b env →
    Becomes decls b (f (record { values = b.values; env = env })) c new → Becomes decls a (f u) c new
becomes_then decls a b c u f env new first last =
    let again : record { values = b.values; env = env } ≡ u =
    ap (λ (d : Draft). record { values = d.values; env = env }) first.values ∙ ap (λ (e : Environment Operand). record { values = u.values; env = e }) first.env in
    record {
      env = last.env ∙ ap (λ (w : Unrolling). (f w).env) again;
      values =
          last.values
          ∙ ap (λ (d : Draft). record d { values = (f (record { values = b.values; env = env })).values }) first.values
          ∙ ap (λ (w : Unrolling). record a { values = (f w).values }) again;
      holds = last.holds;
    }

-- one more turn
pub turn_becomes : (decls : List Decl) (turns : List Turn) (name : List ℕ) (body : List Stmt) (a b c : Draft) (now : Unrolling) (env new : Environment Operand) (from number : ℕ) →
    from ≤ number → Becomes decls a (turns_unrolled decls turns name body now (turn_numbers from number)) b env →
    Becomes decls b (body_unrolled decls (in_turn turns name number) (record { values = b.values; env = env }) body) c new →
    Becomes decls a (turns_unrolled decls turns name body now (turn_numbers from (number + 1))) c new
turn_becomes decls turns name body a b c now env new from number within first last =
    subst (λ (u : Unrolling). Becomes decls a u c new)
    (sym (ap (turns_unrolled decls turns name body now) (turns_more from number within)
    ∙ fold-append (λ u n. body_unrolled decls (in_turn turns name n) u body) now (turn_numbers from number) (number ∷ [])))
    (becomes_then decls a b c _ (λ u. body_unrolled decls (in_turn turns name number) u body) env new first last)
