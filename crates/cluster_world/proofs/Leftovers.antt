-- Nothing is left over, where events are played in pieces.
use Rattle.std.proofs.Common.{List, ◌++◌, sym, subst}
use Rattle.node_core.specs.declared.Answer.{Answer}
use Rattle.getting_through.specs.NamedWorld.{NamedWorld, NamedEvent}
use Rattle.getting_through.proofs.LeftOfNames.{nothing_is_left}
use Rattle.world_events.specs.declared.events.WorldEvent.{WorldEvent}
use Rattle.cluster_world.specs.WorldState.{WorldState}
use Rattle.cluster_world.specs.Seen.{names_of, named}
use Rattle.cluster_world.specs.Playing.{events_of}
use Rattle.cluster_world.specs.Agreeing.{AgreesAfter, Agrees}
use Rattle.cluster_world.specs.Leftovers.{LeavesNothing}
use Rattle.getting_through.specs.Leftovers.{NothingIsLeft}
use Rattle.getting_through.specs.WorldsOfNames.{of_names}

-- where the headline stands behind events, nothing is left over behind them
pub nothing_left : (es : List NamedEvent) (h : WorldState) → AgreesAfter es h → NothingIsLeft (of_names (names_of h)) es (named h)
nothing_left es h A =
    subst (λ (w : NamedWorld). NothingIsLeft (of_names (names_of h)) es w) (sym A.is_run) (nothing_is_left (names_of h) es)

-- and behind what was run
pub leaves_nothing : (es : List WorldEvent) (given : List Answer) (old new : WorldState) → Agrees es given old new
    → LeavesNothing es old new
leaves_nothing es given old new A before is = nothing_left (before ++ events_of es) new (A before is).0
