-- The steps of a run, and the logs that they stand in.
use Rattle.std.specs.Prelude.{ℕ, Bool, true, false, ◌==◌, ◌&&◌, ◌||◌, nat_lt, Option, List, [], ◌∷◌, filter, map, length, if◌then◌else◌}
use Rattle.std.specs.List.{slice_get}
use Rattle.protocol_model.specs.NamedEvents.{NamedEvent}
use Rattle.node_log.specs.declared.WorldEvent.{WorldEvent}
use Rattle.node_log.specs.declared.WorldEvent.TheVariants.{Restart}
use Rattle.node_log.specs.Events.{named_event}
use Rattle.node_log.specs.Entries.{SeatedEntry, Logged}

-- a step: whose it is, and its entry in that node's log
pub record Step : Type 0 where
  pub node : ℕ
  pub entry : SeatedEntry

-- the entries of node a among these steps, in order
abbrev pub steps_of : ℕ → List Step → List SeatedEntry
steps_of a ss = map (λ s. s.entry) (filter (λ s. s.node == a) ss)

-- the entries of node a's log
abbrev pub log_of : ℕ → List Logged → List SeatedEntry
log_of a [] = []
log_of a (l ∷ ls) = if l.node == a then l.entries else log_of a ls

-- what node a's log has next, behind these steps
abbrev pub next_of : ℕ → List Logged → List Step → Option SeatedEntry
next_of a logs ss = slice_get (log_of a logs) (length (steps_of a ss))

-- steps are ordered by their stamps, and those of one stamp by their nodes
abbrev pub is_before : Step → Step → Bool
is_before s t = nat_lt s.entry.stamp t.entry.stamp || ((s.entry.stamp == t.entry.stamp) && nat_lt s.node t.node)

-- the event of a step, as the protocol has it
abbrev pub happening : Step → NamedEvent
happening s = named_event s.entry.event

-- the events of steps
abbrev pub events_in : List Step → List NamedEvent
events_in ss = map happening ss

-- a name comes back by it
abbrev pub is_restart : WorldEvent → Bool
is_restart (Restart x) = true
is_restart _ = false
