-- The steps in a log, as the protocol has them.
use Rattle.std.specs.Prelude.{map}
use Rattle.closings.specs.Alone.{LogEntry as Alone}
use Rattle.world_events.specs.NodeEventsSeen.{answer_of}
use Rattle.world_events.specs.Events.{event_of}
use Rattle.node_log.specs.Entries.{SeatedEntry}

-- a step of a log, as the protocol has it
abbrev pub seen_entry : SeatedEntry → Alone
seen_entry e = record { stamp = e.stamp; event = event_of e.event; answers = map answer_of e.answers }
