-- The headline of a world.
use Rattle.std.specs.Prelude.{ℕ, ◌≡◌, List, ◌++◌, map}
use Rattle.protocol_model.specs.World.{Opening, World, WorldEvent as AnyWorldEvent, opening_world, run}
use Rattle.protocol_model.specs.Course.{course, answers_of, seen as shown}
use Rattle.protocol_model.specs.Headline.{Headline}
use Rattle.getting_through.specs.NodeNames.{NamedOpening}
use Rattle.getting_through.specs.NamedWorld.{NamedEvent, after_events, as_events}
use Rattle.getting_through.specs.Lifted.{events_played}
use Rattle.node_core.specs.declared.Answer.{Answer}
use Rattle.node_core.specs.NodeEventsSeen.{answer_of}
use Rattle.world_events.specs.declared.events.WorldEvent.{WorldEvent}
use Rattle.world_events.specs.Openings.{opening_with}
use Rattle.cluster_world.specs.WorldState.{WorldState}
use Rattle.cluster_world.specs.Seen.{names_of, opening_of, seen, named}
use Rattle.cluster_world.specs.Playing.{events_of}

-- the headline holds behind these events, of which the world now is
abbrev pub HeadlineAfter : Opening → List AnyWorldEvent → World → Type 0
HeadlineAfter o es w = Headline o (course o (opening_world o) es) (shown o w)

-- these events, from its opening on, made the world what it is
abbrev pub IsRunOf : List NamedEvent → WorldState → Type 0
IsRunOf es h = named h ≡ after_events (names_of h) es

-- these events made the world what it is, and the headline holds behind them: behind what they are in the world of all creations
pub record AgreesAfter (es : List NamedEvent) (h : WorldState) : Type 0 where
  pub is_run : IsRunOf es h
  pub headline : HeadlineAfter (opening_of h) (as_events (names_of h) es) (seen h)

-- behind the events before, these events of a world that opened so add these answers
abbrev pub Adds : NamedOpening → List NamedEvent → List NamedEvent → List Answer → Type 0
Adds o before es given =
    answers_of (events_played o (before ++ es)) ≡ answers_of (events_played o before) ++ map answer_of given

-- Whatever made the old world what it was, that and then these events made the new one, the headline holds behind them
-- all, and these are the answers that they add
abbrev pub Agrees : List WorldEvent → List Answer → WorldState → WorldState → Type 0
Agrees es given old new = (before : List NamedEvent) → IsRunOf before old
    → AgreesAfter (before ++ events_of es) new × Adds (names_of old) before (events_of es) given

-- The headline of every world, whatever nodes it has and whichever of them are joined at first, after every list of events
abbrev pub EveryWorldAgrees : Type 0
EveryWorldAgrees = (nodes cluster : List ℕ) (es : List AnyWorldEvent) → HeadlineAfter (opening_with nodes cluster) es
    (run (opening_with nodes cluster) (opening_world (opening_with nodes cluster)) es)
