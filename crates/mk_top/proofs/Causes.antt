-- A program has at most one cause of refusal, and none within the limits.
use Rattle.std.proofs.Common.{◌≡◌, ℕ, Option, Some, None, sym, ◌∙◌, ap, subst, arith}
use Rattle.mk_ast.specs.declared.tree.Program.{Program}
use Rattle.mk_ast.specs.declared.refusal.SourceRefusal.{SourceRefusal}
use Rattle.mk_ast.specs.declared.refusal.SourceRefusal.TheVariants as refusal_
use Rattle.mk_types.specs.Units.{units}
use Rattle.mk_types.specs.Stops.{Event, Work, Operations, Index, stop, event_refusal}
use Rattle.mk_unroll.specs.Causes.{Cause, Elements, Stops, Size}
use Rattle.mk_compile.specs.Compiled.{IsWithin}

-- execution that stops doesn't come to its end
stops-not : {X : Type 0} (x : X) (o : Option X) → o ≡ Some x → o ≡ None → ⊥
stops-not x o some none = let e = sym some ∙ none in absurd cc

module _ (p : Program) (order : ℕ) where
  -- what stays within the limits has no cause
  pub cause-outside : (e : SourceRefusal) → Cause p order e → IsWithin p order → ⊥
  cause-outside e (Elements over is) within = omega (arith, over, within.elements)
  cause-outside e (Stops event few stops is) within = stops-not event (stop (units p)) stops within.ends
  cause-outside e (Size few ends over is) within = omega (arith, over, within.small)

  -- two causes have one refusal
  pub cause-once : (e f : SourceRefusal) → Cause p order e → Cause p order f → e ≡ f
  cause-once e f (Elements over is) (Elements more are) = is ∙ sym are
  cause-once e f (Elements over is) (Stops event few stops are) = absurd (omega (arith, over, few))
  cause-once e f (Elements over is) (Size few ends more are) = absurd (omega (arith, over, few))
  cause-once e f (Stops event few stops is) (Elements over are) = absurd (omega (arith, over, few))
  cause-once e f (Stops event few stops is) (Stops other less stop_too are) =
      let same : Some event ≡ Some other = sym stops ∙ stop_too in
      let one : event ≡ other = cc in
      is ∙ ap event_refusal one ∙ sym are
  cause-once e f (Stops event few stops is) (Size less ends over are) = absurd (stops-not event (stop (units p)) stops ends)
  cause-once e f (Size few ends over is) (Elements more are) = absurd (omega (arith, few, more))
  cause-once e f (Size few ends over is) (Stops event less stops are) = absurd (stops-not event (stop (units p)) stops ends)
  cause-once e f (Size few ends over is) (Size less stop_too more are) = is ∙ sym are

-- a limit that is exceeded, or an index that goes wrong
abbrev pub IsLimitOrIndex : SourceRefusal → Type 0
IsLimitOrIndex (refusal_.Index at) = Unit {0}
IsLimitOrIndex (refusal_.Large limit) = Unit {0}
IsLimitOrIndex _ = ⊥

-- no other refusal has a cause
pub cause-kind : (p : Program) (order : ℕ) (e : SourceRefusal) → Cause p order e → IsLimitOrIndex e
cause-kind p order e (Elements over is) = subst IsLimitOrIndex (sym is) tt
cause-kind p order e (Stops event few stops is) = subst IsLimitOrIndex (sym is) (by event)
  where
    by : (x : Event) → IsLimitOrIndex (event_refusal x)
    by Work = tt
    by Operations = tt
    by (Index at) = tt
cause-kind p order e (Size few ends over is) = subst IsLimitOrIndex (sym is) tt
