-- Where execution stops: at the first unit that exceeds a limit or is a fault.
use Rattle.std.specs.Prelude.{ℕ, Bool, true, false, if◌then◌else◌, nat_le, List, [], ◌∷◌, ◌++◌, Option, Some, None, count_by}
use Rattle.mk_types.specs.declared.TheConstants.{MOST_WORK, MOST_OPERATIONS}
use Rattle.mk_base.specs.declared.Place.{Place}
use Rattle.mk_ast.specs.declared.refusal.SourceRefusal.{SourceRefusal}
use Rattle.mk_ast.specs.declared.refusal.SourceRefusal.TheVariants as refusal_
use Rattle.mk_ast.specs.declared.refusal.Limit.TheVariants as limit_
use Rattle.mk_types.specs.Units.{WorkUnit, Step, Operation, Fault}

-- what stops execution: more than 65,536 units of work, more than 16,384 operations, or an index that goes
-- wrong
pub data Event : Type 0 where
  Work : Event
  Operations : Event
  Index : Place → Event

-- the steps and operations count as work
abbrev pub is_work : WorkUnit → Bool
is_work Step = true
is_work Operation = true
is_work (Fault at) = false

-- the operations on elements
abbrev pub is_operation : WorkUnit → Bool
is_operation Step = false
is_operation Operation = true
is_operation (Fault at) = false

-- how much work these units are
abbrev pub work : List WorkUnit → ℕ
work us = count_by is_work us

-- how many operations these units have
abbrev pub operations : List WorkUnit → ℕ
operations us = count_by is_operation us

-- the event that a unit behind these is, if it is one; what exceeds both limits exceeds the work
abbrev pub event : List WorkUnit → WorkUnit → Option Event
event before Step = if nat_le MOST_WORK (work before) then Some Work else None
event before Operation =
    if nat_le MOST_WORK (work before) then Some Work
    else if nat_le MOST_OPERATIONS (operations before) then Some Operations else None
event before (Fault at) = Some (Index at)

-- the first of two events
abbrev pub earlier : Option Event → Option Event → Option Event
earlier None later = later
earlier (Some e) later = Some e

-- the first event among these units, which stand behind others
abbrev pub stop_behind : List WorkUnit → List WorkUnit → Option Event
stop_behind before [] = None
stop_behind before (u ∷ us) = earlier (event before u) (stop_behind (before ++ u ∷ []) us)

-- where execution of these units stops
abbrev pub stop : List WorkUnit → Option Event
stop us = stop_behind [] us

-- the refusal that tells an event
abbrev pub event_refusal : Event → SourceRefusal
event_refusal Work = refusal_.Large limit_.Work
event_refusal Operations = refusal_.Large limit_.Operations
event_refusal (Index at) = refusal_.Index at
