-- What is counted of units as execution goes on, up to the event that stops it.
use Rattle.std.specs.Prelude.{◌≡◌, ◌⊎◌, ℕ, ◌+◌, if◌then◌else◌, nat_le, List, Option, Some, None, fold}
use Rattle.mk_types.specs.declared.TheConstants.{MOST_WORK, MOST_OPERATIONS}
use Rattle.mk_ast.specs.declared.refusal.SourceRefusal.{SourceRefusal}
use Rattle.mk_ast.specs.declared.refusal.SourceRefusal.TheVariants as refusal_
use Rattle.mk_types.specs.Units.{WorkUnit, Step, Operation, Fault}
use Rattle.mk_types.specs.Stops.{Event, Work, Operations, Index, event_refusal}

-- the work and the operations so far, and the event that has stopped execution
pub record Count : Type 0 where
  pub work : ℕ
  pub operations : ℕ
  pub stop : Option Event

-- nothing so far
abbrev pub nothing : Count
nothing = record { work = 0; operations = 0; stop = None }

-- stopped by this event
abbrev pub stopped : Count → Event → Count
stopped c e = record { work = c.work; operations = c.operations; stop = Some e }

-- one more step
abbrev pub one_step : Count → Count
one_step c = if nat_le MOST_WORK c.work then stopped c Work else record { work = c.work + 1; operations = c.operations; stop = None }

-- one more operation
abbrev pub one_operation : Count → Count
one_operation c =
    if nat_le MOST_WORK c.work then stopped c Work
    else if nat_le MOST_OPERATIONS c.operations then stopped c Operations
    else record { work = c.work + 1; operations = c.operations + 1; stop = None }

-- one more unit, where nothing has stopped execution
abbrev pub one_unit : Count → WorkUnit → Count
one_unit c Step = one_step c
one_unit c Operation = one_operation c
one_unit c (Fault at) = stopped c (Index at)

-- one more unit
abbrev pub one_more : Count → WorkUnit → Count
one_more c u = by_stop c.stop
  where
    by_stop : Option Event → Count
    by_stop None = one_unit c u
    by_stop (Some e) = c

-- these units behind those so far
abbrev pub counted : Count → List WorkUnit → Count
counted = fold one_more

-- this refusal tells of the event, or memory was wanted and not found
abbrev pub Halts : SourceRefusal → Count → Type 0
Halts e c = (e ≡ refusal_.Memory) ⊎ ((event : Event) × (c.stop ≡ Some event) × (e ≡ event_refusal event))
