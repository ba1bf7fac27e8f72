-- What the variables hold, and what may be read of them.
use Rattle.std.proofs.Common.{◌≡◌, ℕ, zero, suc, ◌+◌, Bool, true, false, cond, not, List, [], ◌∷◌, Some, find, option_map, inr, get_or, set, bytes_eq, refl, ap, subst, ◌∙◌, arith}
use Rattle.std.specs.List.{AllByRecursion}
use Rattle.mk_ast.specs.declared.tree.Decl.{Decl}
use Rattle.mk_ast.specs.declared.tree.What.{What}
use Rattle.mk_ast.specs.declared.tree.Ref.{Ref}
use Rattle.mk_ssa.specs.declared.Operand.{Operand}
use Rattle.mk_ssa.specs.declared.Operand.TheVariants.{Block}
use Rattle.mk_ssa.specs.Values.{Draft, IsSharedThere}
use Rattle.mk_types.specs.Scope.{declared, is_variable, is_shared_class}
use Rattle.mk_types.specs.Turns.{Turn}
use Rattle.mk_types.specs.Elements.{number_of}
use Rattle.mk_types.specs.Units.{element_number}
use Rattle.mk_types.specs.Environment.{Environment, element, stored}
use Rattle.mk_unroll.specs.Kept.{IsThere, Keeps, Gives, IsHeld, AreHeld, Holds}
use Rattle.mk_unroll.proofs.Keeping.{there_kept, gives_same}

-- what is held stays held
held_all_kept : (a b : Draft) (what : What) (xs : List Operand) → Keeps a b → AllByRecursion (IsHeld a what) xs → AllByRecursion (IsHeld b what) xs
held_all_kept a b what [] keeps held = tt
held_all_kept a b what (x ∷ xs) keeps held =
    (record { there = there_kept a b x keeps held.0.there; shared = λ e. keeps.shared x (held.0.shared e) }, held_all_kept a b what xs keeps held.1)

-- what variables hold is held where more values were appended
held_kept : (a b : Draft) (decls : List Decl) (env : Environment Operand) → Keeps a b → AreHeld a decls env → AreHeld b decls env
held_kept a b [] [] keeps held = tt
held_kept a b [] (v ∷ vs) keeps held = absurd held
held_kept a b (c ∷ cs) [] keeps held = absurd held
held_kept a b (c ∷ cs) (v ∷ vs) keeps held = (held_all_kept a b c.what v keeps held.0, held_kept a b cs vs keeps held.1)

-- and all that a draft holds is
pub holds_kept : (a b : Draft) (decls : List Decl) (env : Environment Operand) → Keeps a b → Holds a decls env → Holds b decls env
holds_kept a b decls env keeps holds = record { zero = keeps.public (Block 0) holds.zero; held = held_kept a b decls env keeps holds.held }

-- an element of a list that is held is there
there_at : (d : Draft) (what : What) (xs : List Operand) (i : ℕ) (z : Operand) → IsThere d z → AllByRecursion (IsHeld d what) xs → IsThere d (get_or xs i z)
there_at d what [] i z there held = there
there_at d what (x ∷ xs) zero z there held = held.0.there
there_at d what (x ∷ xs) (suc i) z there held = there_at d what xs i z there held.1

-- an element of a variable is there
there_in : (d : Draft) (decls : List Decl) (env : Environment Operand) (n i : ℕ) (z : Operand) → IsThere d z → AreHeld d decls env → IsThere d (element env n i z)
there_in d [] [] n i z there held = there
there_in d [] (v ∷ vs) n i z there held = absurd held
there_in d (c ∷ cs) [] n i z there held = absurd held
there_in d (c ∷ cs) (v ∷ vs) zero i z there held = there_at d c.what v i z there held.0
there_in d (c ∷ cs) (v ∷ vs) (suc n) i z there held = there_in d cs vs n i z there held.1

-- what a reference gives
pub read_gives : (d : Draft) (decls : List Decl) (turns : List Turn) (env : Environment Operand) (from : Ref) (n i : ℕ) (v : Operand) → Holds d decls env →
    n ≡ number_of decls from.name → i ≡ element_number turns from → v ≡ element env n i (Block 0) →
    Gives d (record { operand = element env (number_of decls from.name) (element_number turns from) (Block 0); values = d.values }) d v
read_gives d decls turns env from n i v holds number index is =
    gives_same d d (element env (number_of decls from.name) (element_number turns from) (Block 0)) v refl
    (is ∙ ap (λ m. element env m i (Block 0)) number ∙ ap (λ j. element env (number_of decls from.name) j (Block 0)) index)
    (there_in d decls env (number_of decls from.name) (element_number turns from) (Block 0) (inr holds.zero) holds.held)

-- an element of a list is changed to one that may be held
held_set : (d : Draft) (what : What) (xs : List Operand) (i : ℕ) (x : Operand) → IsHeld d what x → AllByRecursion (IsHeld d what) xs → AllByRecursion (IsHeld d what) (set xs i x)
held_set d what [] i x is held = tt
held_set d what (y ∷ ys) zero x is held = (is, held.1)
held_set d what (y ∷ ys) (suc i) x is held = (held.0, held_set d what ys i x is held.1)

-- an element of the variable of a name is changed to one that it may hold
held_stored : (d : Draft) (decls : List Decl) (env : Environment Operand) (name : List ℕ) (i : ℕ) (x : Operand) → IsThere d x →
    (is_variable is_shared_class (declared decls name) ≡ true → IsSharedThere d x) → AreHeld d decls env → AreHeld d decls (stored env (number_of decls name) i x)
held_stored d [] [] name i x there shared held = tt
held_stored d [] (v ∷ vs) name i x there shared held = absurd held
held_stored d (c ∷ cs) [] name i x there shared held = absurd held
held_stored d (c ∷ cs) (v ∷ vs) name i x there shared held = by (bytes_eq name c.name) shared (λ rest. held_stored d cs vs name i x there rest held.1)
  where
    by : (b : Bool) → (is_variable is_shared_class (option_map (λ e. e.what) (cond b (Some c) (find (λ e. bytes_eq name e.name) cs))) ≡ true → IsSharedThere d x) →
        ((is_variable is_shared_class (declared cs name) ≡ true → IsSharedThere d x) → AreHeld d cs (stored vs (number_of cs name) i x)) →
        AreHeld d (c ∷ cs) (stored (v ∷ vs) (cond (not b) (1 + number_of cs name) 0) i x)
    by true here rest = (held_set d c.what v i x (record { there = there; shared = here }) held.0, held.1)
    by false here rest =
        let next : suc (number_of cs name) ≡ 1 + number_of cs name = omega arith in
        subst (λ (m : ℕ). AreHeld d (c ∷ cs) (stored (v ∷ vs) m i x)) next (held.0, rest here)

-- what is held stays so where one element is changed to an operand that may stand there
pub holds_stored : (d : Draft) (decls : List Decl) (env : Environment Operand) (name : List ℕ) (i : ℕ) (x : Operand) → IsThere d x →
    (is_variable is_shared_class (declared decls name) ≡ true → IsSharedThere d x) → Holds d decls env → Holds d decls (stored env (number_of decls name) i x)
holds_stored d decls env name i x there shared holds = record { zero = holds.zero; held = held_stored d decls env name i x there shared holds.held }
