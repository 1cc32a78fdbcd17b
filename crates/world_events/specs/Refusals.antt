-- Why an event is refused: by the world or by its node.
use Rattle.std.specs.Prelude.{Bool, false, Option, Some, option_map}
use Rattle.protocol_model.specs.Event.{Refusal as AnyRefusal}
use Rattle.protocol_model.specs.NamedEvents.{NamedRefusal, Plain}
use Rattle.node_events.specs.declared.events.StepFault.TheVariants as by_node
use Rattle.node_events.specs.Seen.{fault_of, is_memory as node_memory}
use Rattle.world_events.specs.declared.refusal.Refusal.{Refusal}
use Rattle.world_events.specs.declared.refusal.Refusal.TheVariants.{NoSuchNode, NodeLeft, EmptyLink, StillRunning, NotToldYet, CreationsSpent, Step}

-- the protocol's refusal; want of memory is none of its
abbrev pub refusal_of : Refusal → Option NamedRefusal
refusal_of NoSuchNode = Some (Plain AnyRefusal.NoSuchNode)
refusal_of NodeLeft = Some (Plain AnyRefusal.NodeLeft)
refusal_of EmptyLink = Some (Plain AnyRefusal.EmptyLink)
refusal_of StillRunning = Some NamedRefusal.StillRunning
refusal_of (NotToldYet c) = Some (NamedRefusal.NotToldYet c)
refusal_of CreationsSpent = Some NamedRefusal.CreationsSpent
refusal_of (Step fault) = option_map Plain (fault_of fault)

-- memory was refused
abbrev pub out_of_memory : Refusal
out_of_memory = Step by_node.Memory

abbrev pub is_memory : Refusal → Bool
is_memory (Step fault) = node_memory fault
is_memory _ = false
