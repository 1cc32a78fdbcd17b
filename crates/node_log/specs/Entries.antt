-- The steps in a log.
use Rattle.std.specs.Prelude.{ℕ, Bool, ◌<◌, ◌≡◌, Option, None, List, length, slice_index_or}
use Rattle.world_events.specs.declared.Answer.{Answer}
use Rattle.world_events.specs.declared.events.WorldEvent.{WorldEvent}
use Rattle.world_events.specs.declared.events.WorldEvent.TheVariants.{Deliver}
use Rattle.node_log.specs.declared.entry.KeptEntry.{KeptEntry}
use Rattle.node_log.specs.declared.entry.KeptEvent.{KeptEvent}
use Rattle.node_log.specs.declared.entry.KeptEvent.TheVariants.{Delivery, Other}
use Rattle.node_log.specs.declared.entry.OwnEvent.{OwnEvent}
use Rattle.node_log.specs.declared.entry.OwnEvent.TheVariants as own

-- one step: its stamp, the seat that called, if one did, the event, and what was answered
pub record SeatedEntry : Type 0 where
  pub stamp : ℕ
  pub seat : Option ℕ
  pub event : WorldEvent
  pub answers : List Answer

-- the log of a node
pub record Logged : Type 0 where
  pub node : ℕ
  pub entries : List SeatedEntry  -- the oldest first
  pub has_room : Bool  -- for a step more

-- the seat of an event that is kept
abbrev pub seat_in : KeptEvent → Option ℕ
seat_in (Delivery k) = None
seat_in (Other asked) = asked.value.seat

-- the event, in the record of this node
abbrev pub event_at : ℕ → OwnEvent → WorldEvent
event_at node (own.Delivery sender) = Deliver sender node
event_at node (own.Other event) = event

-- the event that is kept, in the log of a node that knows these
abbrev pub event_in : ℕ → List ℕ → KeptEvent → WorldEvent
event_in node nodes (Delivery k) = Deliver (slice_index_or nodes k 0) node
event_in node nodes (Other asked) = event_at node asked.value.event

-- the step that is kept
abbrev pub entry_in : ℕ → List ℕ → KeptEntry → SeatedEntry
entry_in node nodes e = record {
  stamp = e.stamp;
  seat = seat_in e.event;
  event = event_in node nodes e.event;
  answers = e.answers.items;
}

-- a delivery that is kept is from one of these nodes
abbrev pub IsPlaced : List ℕ → KeptEvent → Type 0
IsPlaced nodes (Delivery k) = k < length nodes
IsPlaced nodes (Other asked) = Unit {0}

-- at this place stands this node
abbrev pub IsPlaceOf : List ℕ → ℕ → ℕ → Type 0
IsPlaceOf nodes k a = (k < length nodes) × (slice_index_or nodes k 0 ≡ a)
