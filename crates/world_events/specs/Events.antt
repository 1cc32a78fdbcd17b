-- What may happen, as the node and the protocol have it.
use Rattle.std.specs.Prelude.{ℕ, Bool, true, false, List}
use Rattle.protocol_model.specs.Event.{Event as AnyEvent}
use Rattle.protocol_model.specs.Registrar.{registrar}
use Rattle.protocol_model.specs.World.{WorldEvent as AnyWorldEvent}
use Rattle.protocol_model.specs.NamedEvents.{NamedEvent}
use Rattle.term.specs.Nodes.{text_in}
use Rattle.term.specs.NodeSets.{with_older}
use Rattle.node_events.specs.declared.events.Call.TheVariants.{Join as JoinBy}
use Rattle.node_events.specs.declared.events.Event.{Event as NodeEvent}
use Rattle.node_events.specs.declared.events.Event.TheVariants as at_node
use Rattle.node_events.specs.Seen.{call_of}
use Rattle.world_events.specs.declared.events.LocalEvent.{LocalEvent}
use Rattle.world_events.specs.declared.events.LocalEvent.TheVariants.{Call, Retry, Exit, Leave}
use Rattle.world_events.specs.declared.events.WorldEvent.{WorldEvent}
use Rattle.world_events.specs.declared.events.WorldEvent.TheVariants.{At, Deliver, Restart}

-- as the node has it
abbrev pub node_event : LocalEvent → NodeEvent
node_event (Call c) = at_node.Call c
node_event Retry = at_node.Retry
node_event (Exit p) = at_node.Exit p
node_event Leave = at_node.Leave

-- as the protocol's node has it
abbrev pub own_event_of : LocalEvent → AnyEvent
own_event_of (Call c) = AnyEvent.Calling (call_of c)
own_event_of Retry = AnyEvent.Retry
own_event_of (Exit p) = AnyEvent.Exiting p
own_event_of Leave = AnyEvent.Leave

-- the contact of the event is one of these nodes or older than one of its name, if it has one
abbrev pub knows_contact : List ℕ → LocalEvent → Bool
knows_contact nodes (Call (JoinBy m)) = with_older nodes m
knows_contact nodes _ = true

-- the node leaves
abbrev pub is_leave : LocalEvent → Bool
is_leave Leave = true
is_leave _ = false

-- as a world has it in which no name comes back. There a restart is no event: it stands for one that every node refuses, the exit
-- of its registrar
abbrev pub event_of : WorldEvent → AnyWorldEvent
event_of (At a e) = AnyWorldEvent.At a (own_event_of e)
event_of (Deliver f t) = AnyWorldEvent.Deliver f t
event_of (Restart x) = AnyWorldEvent.At x (AnyEvent.Exiting (registrar x))

-- as a world of named nodes has it
abbrev pub named_event : WorldEvent → NamedEvent
named_event (At a e) = NamedEvent.AtNode a (own_event_of e)
named_event (Deliver x y) = NamedEvent.Deliver (text_in x) (text_in y)
named_event (Restart x) = NamedEvent.Restart (text_in x)
