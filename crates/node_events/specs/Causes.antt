-- What a node takes a step for, as the event that it is.
use Rattle.node_events.specs.declared.events.Event.{Event}
use Rattle.node_events.specs.declared.events.Event.TheVariants as of_event
use Rattle.node_events.specs.declared.cause.Cause.{Cause}
use Rattle.node_events.specs.declared.cause.Cause.TheVariants.{Call, FromPeer, Retry, Exit, Leave}

abbrev pub event_by : Cause → Event
event_by (Call c) = of_event.Call c.now
event_by (FromPeer f l) = of_event.FromPeer f.now l.now
event_by Retry = of_event.Retry
event_by (Exit p) = of_event.Exit p.now
event_by Leave = of_event.Leave
