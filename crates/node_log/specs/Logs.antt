-- What a log is read as, and how its last step is answered.
use Rattle.std.specs.Prelude.{ℕ, List, [], ◌∷◌}
use Rattle.world_events.specs.declared.Answer.{Answer}
use Rattle.world_events.specs.declared.events.WorldEvent.{WorldEvent}
use Rattle.world_events.specs.declared.events.WorldEvent.TheVariants.{Deliver}
use Rattle.node_log.specs.declared.entry.LoggedEntry.{LoggedEntry}
use Rattle.node_log.specs.declared.entry.LoggedEvent.{LoggedEvent}
use Rattle.node_log.specs.declared.entry.LoggedEvent.TheVariants.{Delivery, Other}
use Rattle.node_log.specs.Entries.{SeatedEntry}

-- the event, in the log of this node
abbrev pub event_of : ℕ → LoggedEvent → WorldEvent
event_of node (Delivery sender) = Deliver sender.now node
event_of node (Other event) = event.now

-- the step, in the log of this node
abbrev pub entry_of : ℕ → LoggedEntry → SeatedEntry
entry_of node e = record { stamp = e.stamp; seat = e.seat; event = event_of node e.event; answers = e.answers.now }

-- the last of these steps has these answers
abbrev pub answered : List Answer → List SeatedEntry → List SeatedEntry
answered given [] = []
answered given (e ∷ []) = record e { answers = given } ∷ []
answered given (e ∷ f ∷ es) = e ∷ answered given (f ∷ es)
