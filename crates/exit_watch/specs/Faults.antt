-- The protocol's refusals of the calls of a watch.
use Rattle.std.specs.Prelude.{◌≡◌, Option, Some, None, Result, Ok, Err}
use Rattle.protocol_model.specs.Node.{Node}
use Rattle.protocol_model.specs.Event.{Event, Refusal, SerialsSpent, NoSuchProcess, AlreadyExited, causes, first_cause}
use Rattle.exit_watch.specs.declared.faults.WatchFault.{WatchFault}
use Rattle.exit_watch.specs.declared.faults.WatchFault.TheVariants as fault
use Rattle.exit_watch.specs.WatchState.{WatchState}

-- the protocol's refusal; want of memory is none of its
abbrev pub fault_of : WatchFault → Option Refusal
fault_of fault.SerialsSpent = Some SerialsSpent
fault_of fault.NoSuchProcess = Some NoSuchProcess
fault_of fault.AlreadyExited = Some AlreadyExited
fault_of fault.Memory = None

-- the protocol's refusal of a call that ended so
abbrev pub refusal_of : {A : Type 0} → Result A WatchFault → Option Refusal
refusal_of (Ok x) = None
refusal_of (Err fault) = fault_of fault

-- the refusal that a fault stands for, if there is a fault
abbrev pub cause_of : Option WatchFault → Option Refusal
cause_of None = None
cause_of (Some fault) = fault_of fault

-- a node with this watch refuses the event so, or accepts it where that is none
abbrev pub Refuses : Event → WatchState → Option Refusal → Type 0
Refuses e h refusal = (v : Node) → v.watch ≡ h.watch → first_cause (causes h.node v e) ≡ refusal
