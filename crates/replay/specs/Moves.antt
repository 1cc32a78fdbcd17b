-- What the next step of a log does to a world.
use Rattle.std.specs.Prelude.{◌≡◌, Some, List, [], ◌∷◌, ◌++◌}
use Rattle.cluster_world.specs.WorldState.{WorldState}
use Rattle.cluster_world.specs.NamedWorld.{as_events}
use Rattle.cluster_world.specs.Seen.{names_of, opening_of, seen, named}
use Rattle.protocol_model.specs.NamedEvents.{NamedEvent}
use Rattle.node_log.specs.declared.WorldEvent.{WorldEvent}
use Rattle.node_log.specs.Events.{named_event}
use Rattle.cluster_world.specs.Playing.{Keeps}
use Rattle.cluster_world.specs.Agreeing.{Agrees, IsRunOf}
use Rattle.cluster_world.specs.Locks.{LocksAfter}
use Rattle.node_log.specs.Entries.{SeatedEntry}
use Rattle.replay.specs.declared.faults.CloseFault.{CloseFault}
use Rattle.replay.specs.declared.faults.CloseFault.TheVariants.{Torn, LeftInHold, Stranger, Memory}
use Rattle.replay.specs.declared.merge.Reader.{Reader}
use Rattle.replay.specs.Steps.{Step}
use Rattle.replay.specs.Merging.{Rises}
use Rattle.replay.specs.Playing.{Takes}
use Rattle.replay.specs.Reading.{head_of, step_of}

-- Whatever made the old world what it was, that and then this event made the new one, and locks are behind it as they have to be
abbrev pub LocksBehind : WorldEvent → WorldState → WorldState → Type 0
LocksBehind e old new = (before : List NamedEvent) → IsRunOf before old
    → LocksAfter (opening_of new) (as_events (names_of new) (before ++ named_event e ∷ [])) (seen new)

-- the world took the step
pub record Moves (s : Step) (old new : WorldState) : Type 0 where
  pub takes : Takes (names_of old) (named old) s
  pub kept : Keeps old new
  pub agrees : Agrees (s.entry.event ∷ []) s.entry.answers old new
  pub locks : LocksBehind s.entry.event old new

-- the world doesn't take the step
abbrev pub Refuses : Step → WorldState → Type 0
Refuses s h = Takes (names_of h) (named h) s → ⊥

-- it took the step that is read next, whose stamp rises
abbrev pub MovesReader : Reader → WorldState → WorldState → Type 0
MovesReader r old new =
    (e : SeatedEntry) → head_of r ≡ Some e → Rises r.log.now.entries r.at × Moves (step_of r e) old new

-- it didn't, or the stamp doesn't rise; want of memory says nothing of it
abbrev pub StopsReader : CloseFault → Reader → WorldState → Type 0
StopsReader (Torn a k) r h = (a ≡ r.log.now.node) × (k ≡ r.at)
    × (e : SeatedEntry) × (head_of r ≡ Some e) × (Rises r.log.now.entries r.at → Refuses (step_of r e) h)
StopsReader (LeftInHold a) r h = ⊥
StopsReader (Stranger seat) r h = ⊥
StopsReader Memory r h = Unit {0}
