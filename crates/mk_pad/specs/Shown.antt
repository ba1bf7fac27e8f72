-- Which sets of a gadget's positions are shown to need few shares. Where a random element is added to what a
-- position computes and occurs nowhere else in what is observed, the position looks like that random element and
-- nothing else, so that it can be left out: the rule of Barthe, Belaïd, Dupressoir, Fouque, Grégoire and Strub,
-- "Verified Proofs of Higher-Order Masking" (EUROCRYPT 2015).
use Rattle.std.specs.Prelude.{◌≡◌, ℕ, ◌+◌, ◌*◌, ◌≤◌, ◌<◌, Bool, false, List, [], ◌∷◌, length, not, nat_eq, slice_index, true}
use Rattle.std.specs.List.{filter, list_any, count_by, range_with_len}
use Rattle.mk_gadget.specs.Gadget.{Gadget}
use Rattle.mk_pad.specs.declared.term.Term.{Term}
use Rattle.mk_pad.specs.Form.{GadgetForm, operands, share_count, position_count}
use Rattle.mk_pad.specs.Positions.{variable, variable_count, polynomial_at, polynomials}

-- the term has the variable: its exponent isn't 0
abbrev pub has_variable : ℕ → Term → Bool
has_variable v t = not (nat_eq (slice_index t.exponents v) 0)

-- the variable occurs in the polynomial
abbrev pub occurs : ℕ → List Term → Bool
occurs v ps = list_any (has_variable v) ps

-- the variable, of n, is a summand of the polynomial by itself, and occurs in no other of its terms
abbrev pub IsAdded : ℕ → ℕ → List Term → Type 0
IsAdded n v ps = filter (has_variable v) ps ≡ variable n v

-- the polynomial of a gadget's position
abbrev pub polynomial_of : GadgetForm → ℕ → List Term
polynomial_of g p = polynomial_at (polynomials g) p

-- the position is one of these
abbrev pub is_in : List ℕ → ℕ → Bool
is_in ps p = list_any (nat_eq p) ps

-- the others of these positions
abbrev pub without : ℕ → List ℕ → List ℕ
without p left = filter (λ q. not (nat_eq q p)) left

-- of the positions that are left this one may be taken out: a random element is added in it, and occurs in no other
-- that is left
pub record MayTake (g : GadgetForm) (left : List ℕ) (p : ℕ) : Type 0 where
  pub random : ℕ
  pub is_random : (share_count g ≤ random) × (random < variable_count g)
  pub added : IsAdded (variable_count g) random (polynomial_of g p)
  pub alone : list_any (λ q. occurs random (polynomial_of g q)) (without p left) ≡ false

-- of these positions, taken out one after the other, these are left
unfoldable pub Leaves : GadgetForm → List ℕ → List ℕ → List ℕ → Type 0
Leaves g [] set rest = set ≡ rest
Leaves g (p ∷ ps) set rest = (is_in set p ≡ true) × MayTake g set p × Leaves g ps (without p set) rest

-- the rest of a set: what is left when positions were taken out until no more may be
pub record IsRest (g : GadgetForm) (set rest : List ℕ) : Type 0 where
  pub taken : List ℕ
  pub leaves : Leaves g taken set rest
  pub ended : (p : ℕ) → is_in rest p ≡ true → ¬ (MayTake g rest p)

-- share i of operand k occurs in one of these positions
abbrev pub occurs_in : GadgetForm → List ℕ → ℕ → ℕ → Bool
occurs_in g rest k i = list_any (λ p. occurs ((g.order + 1) * k + i) (polynomial_of g p)) rest

-- how many shares of operand k occur in these positions
abbrev pub shares_in : GadgetForm → List ℕ → ℕ → ℕ
shares_in g rest k = count_by (occurs_in g rest k) (range_with_len 0 (g.order + 1))

-- how many of these positions are no outs
abbrev pub inner : GadgetForm → List ℕ → ℕ
inner g set = count_by (λ p. not (is_in g.outs p)) set

-- a set is shown where its rest has no more shares of each operand than the set has positions that are no outs
abbrev pub IsShown : GadgetForm → List ℕ → Type 0
IsShown g set = (rest : List ℕ) × IsRest g set rest × ((k : ℕ) → k < operands g.kind → shares_in g rest k ≤ inner g set)

-- numbers from `from` on and below `end`, in ascending order
unfoldable pub Ascend : ℕ → ℕ → List ℕ → Type 0
Ascend from end [] = Unit {0}
Ascend from end (p ∷ ps) = (from ≤ p) × (p < end) × Ascend (p + 1) end ps

-- a set of at least one and at most `order` positions of instructions, in ascending order
pub record IsSet (g : GadgetForm) (set : List ℕ) : Type 0 where
  pub some : 1 ≤ length set
  pub few : length set ≤ g.order
  pub ascend : Ascend (share_count g) (position_count g) set

-- each such set is shown
abbrev pub AreAllShown : GadgetForm → Type 0
AreAllShown g = (set : List ℕ) → IsSet g set → IsShown g set

-- the gadget as it stands alone, without what it is for
abbrev pub standing : GadgetForm → Gadget
standing g = record { instrs = g.instrs; outs = g.outs }
