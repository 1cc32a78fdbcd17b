-- Nothing is left over in a world.
use Rattle.std.specs.Prelude.{ℕ, List, ◌++◌}
use Rattle.protocol_model.specs.World.{WorldEvent as AnyWorldEvent}
use Rattle.getting_through.specs.NamedWorld.{NamedEvent}
use Rattle.world_events.specs.declared.events.WorldEvent.{WorldEvent}
use Rattle.cluster_world.specs.WorldState.{WorldState}
use Rattle.world_events.specs.Openings.{opening_with}
use Rattle.cluster_world.specs.Seen.{names_of, named}
use Rattle.cluster_world.specs.Playing.{events_of}
use Rattle.cluster_world.specs.Agreeing.{IsRunOf}
use Rattle.getting_through.specs.Worlds.{of_nodes}
use Rattle.getting_through.specs.Clauses.{world}
use Rattle.getting_through.specs.Leftovers.{NothingIsLeft}
use Rattle.getting_through.specs.WorldsOfNames.{of_names}

-- Whatever made the old world what it was, that and then these events made the new one, nothing is left over behind
-- them all
abbrev pub LeavesNothing : List WorldEvent → WorldState → WorldState → Type 0
LeavesNothing es old new = (before : List NamedEvent) → IsRunOf before old
    → NothingIsLeft (of_names (names_of new)) (before ++ events_of es) (named new)

-- So it is in every world, whatever nodes it has and whichever of them are joined at first, after every list of events
abbrev pub EveryWorldLeavesNothing : Type 0
EveryWorldLeavesNothing = (nodes cluster : List ℕ) (es : List AnyWorldEvent)
    → NothingIsLeft (of_nodes (opening_with nodes cluster)) es (world (opening_with nodes cluster) es)
