-- Values that come behind others, and what is there among them.
use Rattle.std.proofs.Common.{rules, ◌≡◌, ◌↔◌, Bool, true, false, not, length, slice_get, IsTrue, inl, inr, refl, sym, ap, subst, ◌∙◌, true≢false}
use Rattle.mk_ssa.specs.declared.Operand.{Operand}
use Rattle.mk_ssa.specs.declared.Operand.TheVariants.{Secret, Public, Block}
use Rattle.mk_ssa.specs.declared.Op.{Op}
use Rattle.mk_ssa.specs.declared.Op.TheVariants.{Const}
use Rattle.mk_ssa.specs.Kinds.{is_public}
use Rattle.mk_ssa.specs.Values.{Draft, IsSharedThere, IsPublicThere, Fits, pushed}
use Rattle.mk_ssa.proofs.Lists.{IsSomeAnd-value, slice_get-at}
use Rattle.mk_ssa.proofs.There.{IsSharedThere-pushed, IsPublicThere-pushed, IsSharedThere-last, IsPublicThere-last}
use Rattle.mk_unroll.specs.declared.operators.Joint.{Joint}
use Rattle.mk_unroll.specs.declared.operators.Joint.TheVariants as joint_
use Rattle.mk_unroll.specs.Joints.{joint_op}
use Rattle.mk_unroll.specs.Kept.{IsThere, Keeps, Gives}
use Rattle.mk_unroll.specs.Unrolled.{Given, is_shared_operand, appended}

-- nothing came behind
pub keeps_all : (d : Draft) → Keeps d d
keeps_all d = record { shared = λ x there. there; public = λ x there. there }

-- these came behind, and then those
pub keeps_then : (a b c : Draft) → Keeps a b → Keeps b c → Keeps a c
keeps_then a b c first last = record {
  shared = λ x there. last.shared x (first.shared x there);
  public = λ x there. last.public x (first.public x there);
}

-- one came behind
pub keeps_pushed : (d : Draft) (op : Op) → Keeps d (pushed d op)
keeps_pushed d op = record { shared = IsSharedThere-pushed d op; public = IsPublicThere-pushed d op }

-- an operand that is there stays there
pub there_kept : (a b : Draft) (x : Operand) → Keeps a b → IsThere a x → IsThere b x
there_kept a b x keeps (inl shared) = inl (keeps.shared x shared)
there_kept a b x keeps (inr public) = inr (keeps.public x public)

-- what was pushed is there
there_last : (d : Draft) (op : Op) → IsThere (pushed d op) (Block (length d.values))
there_last d op = by (is_public op) refl
  where
    by : (b : Bool) → is_public op ≡ b → IsThere (pushed d op) (Block (length d.values))
    by true is = inr (IsPublicThere-last d op is)
    by false is = inl (IsSharedThere-last d op is)

-- one value was given
pub gives_pushed : (d after : Draft) (op : Op) (v : Operand) → after ≡ pushed d op → v ≡ Block (length d.values) → Gives d (appended d.values op) after v
gives_pushed d after op v is_after is_v = record {
  operand = is_v;
  values = is_after;
  there = subst (λ (e : Draft). IsThere e v) (sym is_after) (subst (IsThere (pushed d op)) (sym is_v) (there_last d op));
  keeps = subst (Keeps d) (sym is_after) (keeps_pushed d op);
}

-- what was given without a value
pub gives_same : (d after : Draft) (x v : Operand) → after ≡ d → v ≡ x → IsThere d x → Gives d (record { operand = x; values = d.values }) after v
gives_same d after x v is_after is_v there = record {
  operand = is_v;
  values = is_after;
  there = subst (λ (e : Draft). IsThere e v) (sym is_after) (subst (IsThere d) (sym is_v) there);
  keeps = subst (Keeps d) (sym is_after) (keeps_all d);
}

-- an operand and the values, as they were given
given_again : (a b : Draft) (g : Given) (x : Operand) → Gives a g b x → record { operand = x; values = b.values } ≡ g
given_again a b g x gives =
    ap (λ (y : Operand). record { operand = y; values = b.values }) gives.operand
    ∙ ap (λ (d : Draft). record { operand = g.operand; values = d.values }) gives.values

-- what was given, and then more
pub gives_then : (a b c : Draft) (g : Given) (h : Given → Given) (x v : Operand) → Gives a g b x →
    Gives b (h (record { operand = x; values = b.values })) c v → Gives a (h g) c v
gives_then a b c g h x v first last =
    let again = given_again a b g x first in
    record {
      operand = last.operand ∙ ap (λ (k : Given). (h k).operand) again;
      values =
          last.values
          ∙ ap (λ (d : Draft). record d { values = (h (record { operand = x; values = b.values })).values }) first.values
          ∙ ap (λ (k : Given). record a { values = (h k).values }) again;
      there = last.there;
      keeps = keeps_then a b c first.keeps last.keeps;
    }

-- a shared operand that is there
shared_there : (d : Draft) (x : Operand) → IsSharedThere d x → is_shared_operand d.values x ≡ true
shared_there d (Secret k) there = refl
shared_there d (Public k) there = absurd there
shared_there d (Block k) there =
    let at = IsSomeAnd-value (slice_get d.values k) (λ op. is_public op ≡ false) there in
    ap (λ op. not (is_public op)) (slice_get-at d.values k at.0 (Const 0) at.1).1 ∙ ap not at.2

-- a public operand that is there
public_there : (d : Draft) (x : Operand) → IsPublicThere d x → is_shared_operand d.values x ≡ false
public_there d (Secret k) there = absurd there
public_there d (Public k) there = refl
public_there d (Block k) there =
    let at = IsSomeAnd-value (slice_get d.values k) (λ op. is_public op ≡ true) there in
    ap (λ op. not (is_public op)) (slice_get-at d.values k at.0 (Const 0) at.1).1 ∙ ap not at.2

-- What a test of whether an operand is shared tells.
module _ (d : Draft) (x : Operand) (there : IsThere d x) where
  -- it is the one of the definitions
  pub shared_is : (b : Bool) → IsTrue b ↔ IsSharedThere d x → b ≡ is_shared_operand d.values x
  shared_is true tells = sym (shared_there d x (tells.0 (search rules)))
  shared_is false tells = elim there [
    | inl shared ↦ absurd (true≢false (search (rules, tells.1 shared)))
    | inr public ↦ sym (public_there d x public)
  ]

  -- an operand that is not shared is public
  pub shared_or_public : (b : Bool) → IsTrue b ↔ IsSharedThere d x → (b ≡ true → IsSharedThere d x) × (b ≡ false → IsPublicThere d x)
  shared_or_public true tells = (λ e. tells.0 (search rules), λ e. absurd (true≢false e))
  shared_or_public false tells = (
    λ e. absurd (true≢false (sym e)),
    λ e. elim there [
      | inl shared ↦ absurd (true≢false (search (rules, tells.1 shared)))
      | inr public ↦ public
    ],
  )

-- operators whose operands are of the kinds that were tested
module _ (d : Draft) (x : Operand) (p : Bool) (xs : (p ≡ true → IsSharedThere d x) × (p ≡ false → IsPublicThere d x)) where
  -- a sum and a product fit
  pub fits_joint : (j : Joint) (y : Operand) (q : Bool) → (q ≡ true → IsSharedThere d y) × (q ≡ false → IsPublicThere d y) → Fits d (joint_op j p q x y)
  fits_joint j y q ys = by j p q xs ys
    where
      by : (k : Joint) (b c : Bool) → (b ≡ true → IsSharedThere d x) × (b ≡ false → IsPublicThere d x) →
          (c ≡ true → IsSharedThere d y) × (c ≡ false → IsPublicThere d y) → Fits d (joint_op k b c x y)
      by joint_.Sum true true is js = (is.0 refl, js.0 refl)
      by joint_.Sum true false is js = (is.0 refl, js.1 refl)
      by joint_.Sum false true is js = (js.0 refl, is.1 refl)
      by joint_.Sum false false is js = (is.1 refl, js.1 refl)
      by joint_.Product true true is js = (is.0 refl, js.0 refl)
      by joint_.Product true false is js = (is.0 refl, js.1 refl)
      by joint_.Product false true is js = (js.0 refl, is.1 refl)
      by joint_.Product false false is js = (is.1 refl, js.1 refl)
