-- What a node refuses that has a round to retry.
use Rattle.std.proofs.Common.{◌≡◌, Bool, true, false, ◌&&◌, not, [], ◌∷◌, sym, ap, ◌∙◌}
use Rattle.node_log.specs.declared.StepFault.{StepFault}
use Rattle.node_log.specs.NodeEventsSeen.{fault_of, is_memory}
use Rattle.protocol_model.specs.Event.{first_cause, cause, can_retry}
use Rattle.protocol_model.specs.Event.{Refusal as AnyRefusal}
use Rattle.node_log.specs.NodeEvents.TheVariants.{Retry}
use Rattle.node_core.specs.Seen.{node_of}
use Rattle.node_core.specs.Steps.{refusal_of}
use Rattle.node_log.proofs.Faults.{only_memory}
use Rattle.node_loop.specs.Held.{Looping, has_retry}

both_right : (x y : Bool) → (x && y) ≡ true → y ≡ true
both_right true y e = e
both_right false y e = cc

memory_apart : (b : Bool) → b ≡ true → b ≡ false → ⊥
memory_apart b e f = cc

-- a refused round that waits may be tried again
pub retry_stands : (a : Looping) (fault : StepFault) → has_retry a ≡ true → refusal_of Retry a.core ≡ fault_of fault
    → is_memory fault ≡ false → ⊥
retry_stands a fault e r m =
    memory_apart (is_memory fault) (ap is_memory (only_memory fault (sym r ∙ ap (λ (b : Bool). first_cause (cause (not b) AnyRefusal.NothingToRetry ∷ [])) (both_right (not a.left) (can_retry (node_of a.core)) e)))) m
