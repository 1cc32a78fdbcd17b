-- Of the faults of a node, want of memory alone is no refusal of the protocol's.
use Rattle.std.proofs.Common.{false, ◌≡◌, Some, None, refl, ap, inl, inr}
use Rattle.std.specs.Prelude.{◌⊎◌}
use Rattle.protocol_model.specs.Event.{Refusal}
use Rattle.node_events.specs.declared.events.StepFault.{StepFault}
use Rattle.node_events.specs.declared.events.StepFault.TheVariants.{NotLive, Busy, Reserved, UnknownNode, AlreadyJoined, NoSuchProcess, AlreadyExited, SerialsSpent, NothingToRetry, HoldsLock, CallsSpent, Memory}
use Rattle.node_events.specs.Seen.{fault_of, is_memory}

-- a fault is want of memory, or it stands for a refusal
by_memory : (fault : StepFault)
    → (fault ≡ Memory) ⊎ ((is_memory fault ≡ false) × (any : Refusal) × (fault_of fault ≡ Some any))
by_memory (NotLive p) = inr (refl, _, refl)
by_memory (Busy p) = inr (refl, _, refl)
by_memory Reserved = inr (refl, _, refl)
by_memory UnknownNode = inr (refl, _, refl)
by_memory AlreadyJoined = inr (refl, _, refl)
by_memory NoSuchProcess = inr (refl, _, refl)
by_memory AlreadyExited = inr (refl, _, refl)
by_memory SerialsSpent = inr (refl, _, refl)
by_memory NothingToRetry = inr (refl, _, refl)
by_memory HoldsLock = inr (refl, _, refl)
by_memory CallsSpent = inr (refl, _, refl)
by_memory Memory = inl refl

pub only_memory : (fault : StepFault) → fault_of fault ≡ None → fault ≡ Memory
only_memory fault e = elim (by_memory fault) [
  | inl memory ↦ memory
  | inr cause ↦ cc (e, cause.2)
]

pub not_memory : (fault : StepFault) (any : Refusal) → fault_of fault ≡ Some any → is_memory fault ≡ false
not_memory fault any e = elim (by_memory fault) [
  | inl memory ↦ cc (e, ap fault_of memory)
  | inr cause ↦ cause.0
]

pub has_cause : (fault : StepFault) → is_memory fault ≡ false → (any : Refusal) × (fault_of fault ≡ Some any)
has_cause fault e = elim (by_memory fault) [
  | inl memory ↦ cc (e, ap is_memory memory)
  | inr cause ↦ (cause.1, cause.2)
]
